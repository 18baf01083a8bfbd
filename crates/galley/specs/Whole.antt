-- A galley read record by record: document 01, "The galley file" and "Numbers that turn work away".
use Rattle.std.specs.Prelude.{ℕ, zero, suc, ◌+◌, ◌-◌, ◌*◌, ◌≤◌, ◌||◌, List, length, ltb, eqb, Result, Ok, Err}
use Rattle.model.specs.Gather.{pick}
use Rattle.galley.specs.Word.{mark_at}
use Rattle.galley.specs.Place.{nothing, kind_of, unfit}
use Rattle.galley.specs.Record.{HasSpec, is_second, spec_of, Read, record_at}
use Rattle.galley.specs.declared.Spec.{Spec}
use Rattle.galley.specs.declared.Galley.{Galley}
use Rattle.galley.specs.declared.Kind.{Kind}
use Rattle.galley.specs.declared.Sofar.{Sofar}
use Rattle.galley.specs.declared.Record.TheVariants as found
use Rattle.std.specs.declared.ops.ControlFlow.{ControlFlow}
use Rattle.std.specs.declared.ops.ControlFlow.TheVariants.{Break, Continue}
use Rattle.model.specs.declared.answer.Refusal.{Refusal}

-- What reading a whole galley gives: the galley, or a refusal (document 01, "Numbers that turn work away").
abbrev pub Reading : Type 0
Reading = Result Galley Refusal

-- What one record more gives: reading goes on, or it is done.
abbrev pub Step : Type 0
Step = ControlFlow Reading Sofar

-- Nothing was read yet; without a record that says so the first folio is 1.
abbrev pub beginning : Sofar
beginning = record { stage = nothing; count = 0; last = 0; at = 0; folio = 1; first = 0; lines = 0; figures = 0; tables = 0 }

-- One record more of a kind: its stage is reached, and the next record is due after it. Records are counted, and the line cited
-- last is known, from the first of a stage on.
abbrev pub moved : Sofar → Kind → Sofar
moved so kind =
    let same = eqb kind.stage so.stage in
    record so { stage = kind.stage; count = pick same (so.count + 1) 1; last = pick same so.last 0; at = so.at + kind.size }

-- So far with these counts, and this line cited last.
abbrev pub counting : Sofar → ℕ → ℕ → ℕ → ℕ → Sofar
counting so lines figures tables last = record so { last = last; lines = lines; figures = figures; tables = tables }

-- A specification or a first folio (document 02, S-1) more: the text is still to come, after it.
abbrev pub with_folio : Sofar → ℕ → Sofar
with_folio so f = record so { folio = f; first = so.at }

-- A line more, or a figure or a table, whose citation is the last.
abbrev pub with_line : Sofar → Sofar
with_line so = counting so so.count so.figures so.tables so.last

abbrev pub with_figure : Sofar → ℕ → Sofar
with_figure so cite = counting so so.lines so.count so.tables cite

abbrev pub with_table : Sofar → ℕ → Sofar
with_table so cite = counting so so.lines so.figures so.count cite

-- Reading is done with a refusal.
abbrev pub refused : ℕ → ℕ → Step
refused number at = Break (Rattle.model.specs.Answers.refused number at)

-- A float that cites line 0 or a line above m is 6; one that cites a line before the one cited last in its stream is 7.
unfoldable pub cited : Sofar → ℕ → Sofar → ℕ → Step
cited so cite next at =
    pick (eqb cite 0 || ltb so.lines cite) (refused 6 at)
    (pick (ltb cite so.last) (refused 7 at)
    (Continue next))

-- The galley of a specification and all that was read after it: figures follow the lines, tables the figures.
abbrev pub galley_so_far : Spec → Sofar → Galley
galley_so_far g so =
    record {
      spec = g;
      folio = so.folio;
      text = record { first = so.first; count = so.lines };
      figures = record { first = so.first + so.lines * 18; count = so.figures };
      tables = record { first = so.first + so.lines * 18 + so.figures * 18; count = so.tables };
    }

-- Bytes after the end are 8, at the first of them. The specification stands at the start of the bytes.
unfoldable pub closed : List ℕ → Sofar → Step
closed bytes so =
    pick (ltb so.at (length bytes)) (refused 8 so.at)
    (Break (Ok (galley_so_far (spec_of (is_second bytes 0) bytes 0) so)))

-- How reading goes on after the record at an offset.
unfoldable pub after : List ℕ → Sofar → ℕ → Read → Step
after bytes so at (Ok (found.Spec g)) = Continue (with_folio so 1)
after bytes so at (Ok (found.Folio f)) = Continue (with_folio so f)
after bytes so at (Ok (found.Line l)) = Continue (with_line so)
after bytes so at (Ok (found.Figure f)) = cited so f.cite (with_figure so f.cite) at
after bytes so at (Ok (found.Table f)) = cited so f.cite (with_table so f.cite) at
after bytes so at (Ok found.End) = closed bytes so
after bytes so at (Err r) = refused r.number at

-- The next record: its mark is there (1) and fits (2, 5, 4), it is whole and in range (1, 3), and it is rightly cited (6, 7) or
-- the last (8).
unfoldable pub step_from : List ℕ → Sofar → Step
step_from bytes so =
    let kind = kind_of (mark_at bytes so.at) in
    let number = unfit kind so in
    pick (ltb (length bytes - so.at) 2) (refused 1 so.at)
    (pick (ltb 0 number) (refused number so.at)
    (after bytes (moved so kind) so.at (record_at bytes so.at)))

-- Reading goes on, or it is done.
unfoldable pub settled : (Sofar → Reading) → Step → Reading
settled on (Continue so) = on so
settled on (Break reading) = reading

-- The records from where reading has come to; there are never more than bytes.
unfoldable pub read_from : List ℕ → ℕ → Sofar → Reading
read_from bytes zero so = Rattle.model.specs.Answers.refused 1 so.at
read_from bytes (suc most) so = settled (read_from bytes most) (step_from bytes so)

-- The galley that bytes hold, or the first refusal with its place.
unfoldable pub galley_of : List ℕ → Reading
galley_of bytes = read_from bytes (suc (length bytes)) beginning

-- Counts and offsets are as small as those of a galley are.
pub record Small (so : Sofar) : Type 0 where
  pub counts : so.count ≤ 4000
  pub ats : so.at ≤ 80000
  pub firsts : so.first ≤ 80000
  pub lines : so.lines ≤ 4000
  pub figures : so.figures ≤ 4000

-- So small that what is made of them fits.
pub record Fitting (so : Sofar) : Type 0 where
  pub ats : so.at ≤ 100000
  pub firsts : so.first ≤ 100000
  pub lines : so.lines ≤ 4000
  pub figures : so.figures ≤ 4000

-- A specification was read at the start of the bytes.
abbrev pub Opened : List ℕ → Type 0
Opened bytes = HasSpec bytes 0 (is_second bytes 0)
