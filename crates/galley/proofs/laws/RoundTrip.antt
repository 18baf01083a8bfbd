-- Reading what was written gives the values back.
use Rattle.std.specs.Prelude.{◌<◌, ℕ, zero, suc, ◌+◌, ◌*◌, ◌≤◌, List, [], ◌∷◌, ◌++◌, ◌≡◌, refl, length, Ok}
use Rattle.std.proofs.Common.{arith, eq-or-lt_of_le, ⊎_elim, append_assoc, sym, ap, ◌∙◌, length-append}
use Rattle.galley.specs.Range.{SpecRanged, Edition, FolioRanged, FigureRanged, TableRanged}
use Rattle.galley.specs.Place.{spec, folio, line, figure, table, FO, row_of, kind_of}
use Rattle.galley.specs.Record.{record_at}
use Rattle.galley.specs.Whole.{beginning, moved, with_folio, step_from, read_from, galley_of, Reading}
use Rattle.galley.specs.Write.{spec_bytes, line_bytes, figure_bytes, table_bytes, each, Stated, unstated, stated, folio_of, folio_bytes, head_bytes, StatedRanged, bytes_of, BlocksInRange, InRange}
use Rattle.galley.proofs.laws.Place.{spec_kind, Fits}
use Rattle.galley.proofs.laws.Stand.{folio_step, begun, spec_first}
use Rattle.galley.proofs.laws.Underway.{read_on}
use Rattle.galley.proofs.laws.Reached.{spec_in}
use Rattle.galley.proofs.laws.Record.{Found, found_at}
use Rattle.galley.proofs.laws.Each.{each_length, each_split, each_far, each_run}
use Rattle.galley.proofs.laws.Blocks.{galley_with, Holds, come_first, LinesLeft, lines_go, floats_due, FiguresLeft, TablesLeft, figures_go, tables_go, end_read}
use Rattle.galley.proofs.laws.Write.{spec_after, spec_long, spec_joins, folio_after}
use Rattle.galley.specs.declared.Spec.{Spec}
use Rattle.galley.specs.declared.Line.{Line}
use Rattle.galley.specs.declared.Float.{Float}
use Rattle.galley.specs.declared.Galley.{Galley}
use Rattle.galley.specs.declared.Record.TheVariants as found
use Rattle.galley.specs.declared.Sofar.{Sofar}
use Rattle.std.specs.declared.ops.ControlFlow.TheVariants.{Continue}

-- The galley that values make.
abbrev pub galley_from : Spec → Stated → List Line → List Float → List Float → Galley
galley_from g o ls fs ts = galley_with g (folio_of o) (length (head_bytes g o [])) (length ls) (length fs) (length ts)

pub head_joins : (g : Spec) (o : Stated) (rest : List ℕ) → head_bytes g o [] ++ rest ≡ head_bytes g o rest
head_joins g unstated rest = spec_joins g rest
head_joins g (stated f) rest =
    ap (◌++ rest) (sym (spec_joins g (folio_bytes (stated f) []))) ∙ append_assoc (spec_bytes g []) (folio_bytes (stated f) []) rest
    ∙ spec_joins g (folio_bytes (stated f) rest)

-- After a folio.
abbrev foliated : Spec → ℕ → Sofar
foliated g f = with_folio (moved (begun g) (kind_of FO)) f

begun_at : (g : Spec) → length (spec_bytes g []) ≡ (begun g).at
begun_at g = spec_long g ∙ rw (spec_kind g.edition) (omega arith)

begun_stage : (g : Spec) → (begun g).stage ≡ spec
begun_stage g = rw (spec_kind g.edition)

folio_row : kind_of FO ≡ row_of folio spec spec 1 6
unfolding kind_of
folio_row = refl

foliated_at : (g : Spec) (f : ℕ) → length (head_bytes g (stated f) []) ≡ (foliated g f).at
foliated_at g f =
    let fo = folio_bytes (stated f) [] in
    let long : length (head_bytes g (stated f) []) ≡ length (spec_bytes g []) + 6
    = ap length (sym (spec_joins g fo)) ∙ length-append (spec_bytes g []) fo in
    rw folio_row (omega (arith, begun_at g))

-- A folio fits straight after the specification.
folio_fits : (so : Sofar) → so.stage ≡ spec → Fits (kind_of FO) so
unfolding kind_of
folio_fits so s =
    record { soon = omega arith; late = omega arith; timely = λ l. absurd (omega arith); few = λ e. absurd (omega arith) }

-- A specification is read where nothing was read, and a folio straight after it.
begins : (bytes rest : List ℕ) (g : Spec) → SpecRanged g → Edition g → bytes ≡ spec_bytes g rest → step_from bytes beginning ≡ Continue (begun g)
begins bytes rest g s of e = spec_first bytes g (rw e (spec_after [] rest g s of))

goes_on : (bytes rest : List ℕ) (g : Spec) (f : ℕ) → FolioRanged f → bytes ≡ spec_bytes g (folio_bytes (stated f) rest)
    → step_from bytes (begun g) ≡ Continue (foliated g f)
goes_on bytes rest g f fine e =
    let split : bytes ≡ spec_bytes g [] ++ folio_bytes (stated f) rest = e ∙ sym (spec_joins g (folio_bytes (stated f) rest)) in
    folio_step bytes (begun g) f (rw (split, ← begun_at g) (folio_after (spec_bytes g []) rest f fine)) (folio_fits (begun g) (begun_stage g))

-- What stands before line 1 is read.
head_read : (bytes rest : List ℕ) (g : Spec) (o : Stated) (turns : ℕ) (reading : Reading) → bytes ≡ head_bytes g o rest → 2 ≤ turns
    → SpecRanged g → Edition g → StatedRanged o
    → ((turns' : ℕ) (so : Sofar) → turns ≤ turns' + 2 → Holds (folio_of o) (length (head_bytes g o [])) 0 0 0 so → spec ≤ so.stage → so.stage < line
    → so.at ≡ length (head_bytes g o []) → read_from bytes turns' so ≡ reading)
    → read_from bytes turns beginning ≡ reading
head_read bytes rest g o zero reading e enough s of f on = absurd (omega arith)
head_read bytes rest g o (suc zero) reading e enough s of f on = absurd (omega arith)
head_read bytes rest g unstated (suc (suc turns)) reading e enough s of f on =
    read_on bytes (suc turns) beginning (begun g) (begins bytes rest g s of e)
    ∙ on (suc turns) (begun g) (omega arith) (record { folios = refl; firsts = sym (begun_at g); line = refl; figure = refl; table = refl })
    (omega (arith, begun_stage g)) (omega (arith, begun_stage g)) (sym (begun_at g))
head_read bytes rest g (stated f) (suc (suc turns)) reading e enough s of fine on =
    read_on bytes (suc turns) beginning (begun g) (begins bytes (folio_bytes (stated f) rest) g s of e)
    ∙ read_on bytes turns (begun g) (foliated g f) (goes_on bytes rest g f fine e)
    ∙ on turns (foliated g f) (omega arith) (record { folios = refl; firsts = sym (foliated_at g f); line = refl; figure = refl; table = refl })
    (rw folio_row (omega arith)) (rw folio_row (omega arith)) (sym (foliated_at g f))

-- From line 1 on, all that was written is read.
blocks_read : (bytes before : List ℕ) (folio : ℕ) (ls : List Line) (fs ts : List Float) (turns : ℕ) (so : Sofar) → BlocksInRange ls fs ts
    → bytes ≡ before ++ each line_bytes ls (each figure_bytes fs (each table_bytes ts (69 ∷ 68 ∷ []))) → length before ≡ so.at
    → length ls + (length fs + (length ts + 1)) ≤ turns → LinesLeft folio (length before) (length ls) ls so
    → read_from bytes turns so ≡ Ok (galley_with (spec_in bytes) folio (length before) (length ls) (length fs) (length ts))
blocks_read bytes before folio ls fs ts turns so r e at enough left =
    let first = length before in
    let lines = length ls in
    let ends : List ℕ = 69 ∷ 68 ∷ [] in
    let tables : List ℕ = each table_bytes ts ends in
    let figures : List ℕ = each figure_bytes fs tables in
    let text : List ℕ = before ++ each line_bytes ls [] in
    let floats : List ℕ = text ++ each figure_bytes fs [] in
    let split = each_split line_bytes bytes before ls (λ a rest more. refl) figures e in
    let again = each_split figure_bytes bytes text fs (λ a rest more. refl) tables split in
    let far = each_far line_bytes bytes before ls (λ l rest. omega arith) in
    let farther = each_far figure_bytes bytes text fs (λ f rest. omega arith) in
    let farthest = each_far table_bytes bytes floats ts (λ f rest. omega arith) in
    each_run line_bytes bytes (LinesLeft folio first lines) (λ l. refl) (λ l rest. refl)
    (λ before rest l more so e at left. lines_go bytes before rest folio first lines l more so r.few_lines e at left)
    before figures ls (length fs + (length ts + 1)) turns so _ e at enough left (λ turns so enough left.
    each_run figure_bytes bytes (FiguresLeft bytes folio first lines r.some r.few_lines (length fs)) (λ f. refl) (λ f rest. refl)
    (λ before rest f more so e at left. figures_go bytes folio first lines r.some r.few_lines before rest (length fs) f more so r.few_figures e at left)
    text tables fs (length ts + 1) turns so _ split (omega (arith, left.come.at, left.come.sum)) enough (figures_due so left) (λ turns so enough left.
    each_run table_bytes bytes (TablesLeft bytes folio first lines r.some r.few_lines (length fs) (length ts)) (λ f. refl) (λ f rest. refl)
    (λ before rest f more so e at left.
    tables_go bytes folio first lines r.some r.few_lines before rest (length fs) (length ts) f more so r.few_tables e at left)
    floats ends ts 1 turns so _ again (omega (arith, left.come.at, left.come.sum)) enough (tables_due so left) (λ turns so enough left.
    end_read bytes folio first lines r.some r.few_lines (floats ++ each table_bytes ts []) (length fs) (length ts) turns so enough
    (each_split table_bytes bytes floats ts (λ a rest more. refl) ends again) (omega arith) left)))
  where
    figures_due : (so : Sofar) → LinesLeft folio (length before) (length ls) [] so
        → FiguresLeft bytes folio (length before) (length ls) r.some r.few_lines (length fs) fs so
    figures_due so left =
        let c = left.come in
        let some = r.some in
        let all : left.read ≡ length ls = omega (arith, c.sum) in
        let last : line ≤ so.stage
        = ⊎_elim (λ e. omega arith) (λ less. absurd (omega (arith, c.counted.before less))) (eq-or-lt_of_le c.high) in
        floats_due _ FigureRanged (length ls) figure _ fs so (rw all at left.holds) (left.holds.line ∙ all) last (omega (arith, c.high))
        (omega (arith, c.at)) r.figures

    tables_due : (so : Sofar) → FiguresLeft bytes folio (length before) (length ls) r.some r.few_lines (length fs) [] so
        → TablesLeft bytes folio (length before) (length ls) r.some r.few_lines (length fs) (length ts) ts so
    tables_due so left =
        let c = left.come in
        let all : left.read ≡ length fs = omega (arith, c.sum) in
        floats_due _ TableRanged (length ls) table _ ts so (rw all at left.held) left.text c.low (omega (arith, c.high))
        (omega (arith, c.at)) r.tables

-- The specification at the start is the one that was read there.
spec_is : (bytes : List ℕ) (g : Spec) → record_at bytes 0 ≡ Ok (found.Spec g) → spec_in bytes ≡ g
unfolding Found
spec_is bytes g e = sym (rw e at (found_at bytes 0)).same

-- What was written for values in range reads without refusal, as many lines, figures and tables as there are.
pub round_trip : (g : Spec) (o : Stated) (ls : List Line) (fs ts : List Float) → InRange g o ls fs ts
    → galley_of (bytes_of g o ls fs ts) ≡ Ok (galley_from g o ls fs ts)
unfolding galley_of bytes_of
round_trip g o ls fs ts r =
    let bytes = bytes_of g o ls fs ts in
    let tables : List ℕ = each table_bytes ts (69 ∷ 68 ∷ []) in
    let figures : List ℕ = each figure_bytes fs tables in
    let blocks : List ℕ = each line_bytes ls figures in
    let before = head_bytes g o [] in
    let long : length bytes ≡ length before + length blocks = ap length (sym (head_joins g o blocks)) ∙ length-append before blocks in
    let lines = each_length line_bytes (λ l rest. omega arith) ls figures in
    let floats = each_length figure_bytes (λ f rest. omega arith) fs tables in
    let last = each_length table_bytes (λ f rest. omega arith) ts (69 ∷ 68 ∷ []) in
    let is : spec_in bytes ≡ g = spec_is bytes g (spec_after [] (folio_bytes o blocks) g r.spec r.edition) in
    head_read bytes blocks g o (suc (length bytes)) _ refl (omega arith) r.spec r.edition r.folio (λ turns so enough holds low high at.
    blocks_read bytes before (folio_of o) ls fs ts turns so r.blocks (sym (head_joins g o blocks)) (sym at) (omega arith)
    (record {
      read = 0;
      holds = holds;
      come = come_first spec line (length before + 0 * 18) (length ls) so low high (omega arith);
      ranged = r.blocks.lines;
    }))
    ∙ ap (λ (g : Spec). Ok (galley_with g (folio_of o) (length before) (length ls) (length fs) (length ts))) is
