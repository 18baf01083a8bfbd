-- What is known of a galley as far as it was read: each block stands where its number says, and citations grow up to the last.
use Rattle.std.specs.Prelude.{ℕ, ◌+◌, ◌-◌, ◌*◌, ◌≤◌, ◌<◌, Bool, true, false, List, ◌≡◌, refl, length, eqb, Ok}
use Rattle.std.proofs.Common.{arith, eq-or-lt_of_le, ⊎_elim, sym, ap, subst, ◌∙◌, eqb-true}
use Rattle.std.proofs.lemmas.Bool.{eqb-false}
use Rattle.model.specs.Gather.{pick}
use Rattle.galley.specs.Word.{word_at}
use Rattle.galley.specs.Place.{spec_size, spec, line, figure, table}
use Rattle.galley.specs.Record.{is_second, spec_of, cite_at, line_of, float_of, is_kept, record_at}
use Rattle.galley.specs.Whole.{beginning, galley_so_far}
use Rattle.galley.specs.Range.{FolioRanged}
use Rattle.galley.specs.Block.{field_of}
use Rattle.galley.specs.Sound.{Opening, Reads, SoundCitations}
use Rattle.galley.specs.declared.Stream.{Stream}
use Rattle.galley.specs.declared.Spec.{Spec}
use Rattle.galley.specs.declared.Galley.{Galley}
use Rattle.galley.specs.declared.Record.{Record}
use Rattle.galley.specs.declared.Record.TheVariants as found
use Rattle.galley.specs.declared.Sofar.{Sofar}

-- How many records of a stage there were: as many as were counted where it is the stage reached, none before it.
pub record Counted (stage n : ℕ) (so : Sofar) : Type 0 where
  pub here : so.stage ≡ stage → so.count ≡ n
  pub before : so.stage < stage → n ≡ 0

-- With one more, there is one more.
pub counted_more : (stage n : ℕ) (so : Sofar) → Counted stage n so → so.stage ≤ stage
    → pick (eqb stage so.stage) (so.count + 1) 1 ≡ n + 1
counted_more stage n so c up = go (eqb stage so.stage) refl
  where
    go : (b : Bool) → eqb stage so.stage ≡ b → pick b (so.count + 1) 1 ≡ n + 1
    go true e = let s = c.here (sym (eqb-true stage so.stage e)) in omega arith
    go false e = let z = c.before (omega (arith, eqb-false stage so.stage e)) in omega arith

-- The specification at the start of the bytes, and the galley with it as far as it was read.
abbrev pub spec_in : List ℕ → Spec
spec_in bytes = spec_of (is_second bytes 0) bytes 0

abbrev pub galley_in : List ℕ → Sofar → Galley
galley_in bytes so = galley_so_far (spec_in bytes) so

-- The galley's bytes up to where reading has come.
pub record Shape (bytes : List ℕ) (so : Sofar) : Type 0 where
  pub few_lines : so.lines ≤ 4000
  pub few_figures : so.figures ≤ 200
  pub few_tables : so.tables ≤ 50
  pub first : so.first ≤ 40
  pub due : so.at ≡ so.first + so.lines * 18 + so.figures * 18 + so.tables * 18
  pub within : so.at ≤ length bytes

-- What is known of what stands before line 1: the specification, and an `FO` or none.
pub record Head (bytes : List ℕ) (so : Sofar) : Type 0 where
  pub starts : so.stage < spec → so.at ≡ 0
  pub ends : so.stage ≡ spec → so.at ≡ spec_size (spec_in bytes).edition
  pub spec_read : spec ≤ so.stage → record_at bytes 0 ≡ Ok (found.Spec (spec_in bytes))
  pub folio : FolioRanged so.folio
  pub opens : spec ≤ so.stage → Opening bytes (galley_in bytes so)

-- What is known of the floats of one stream, which a stage counts: those read so far, and that none of them cites a line after
-- the one cited last.
pub record Floats (bytes : List ℕ) (so : Sofar) (stage : ℕ) (floats : Stream) (due : ℕ → Record) : Type 0 where
  pub counted : Counted stage floats.count so
  pub read : Reads bytes floats due
  pub citations : SoundCitations bytes floats so.lines
  pub lasts : so.stage ≡ stage → (k : ℕ) → 1 ≤ k → k ≤ floats.count → field_of bytes floats cite_at k ≤ so.last

-- What holds of all that was read.
pub record Reached (bytes : List ℕ) (so : Sofar) : Type 0 where
  pub shape : Shape bytes so
  pub count : so.count ≤ 4000
  pub lines : Counted line so.lines so
  pub head : Head bytes so
  pub text : Reads bytes (galley_in bytes so).text (λ at. found.Line (line_of bytes at))
  pub figures : Floats bytes so figure (galley_in bytes so).figures (λ at. found.Figure (float_of (is_kept bytes at) bytes at))
  pub tables : Floats bytes so table (galley_in bytes so).tables (λ at. found.Table (float_of false bytes at))

-- What holds of each number from 1 to n, and of n + 1, holds of each from 1 to n + 1.
upto_more : (P : ℕ → Type 0) (n : ℕ) → ((k : ℕ) → 1 ≤ k → k ≤ n → P k) → P (n + 1) → (k : ℕ) → 1 ≤ k → k ≤ n + 1 → P k
upto_more P n f top k one h =
    ⊎_elim (λ e. subst P (sym e) top) (λ less. f k one (omega arith)) (eq-or-lt_of_le h)

-- One block more is read where the stream went to so far.
pub reads_more : (bytes : List ℕ) (due : ℕ → Record) (first n at : ℕ) → Reads bytes (record { first = first; count = n }) due
    → at ≡ first + n * 18 → record_at bytes at ≡ Ok (due at) → Reads bytes (record { first = first; count = n + 1 }) due
reads_more bytes due first n at so here top =
    let there : at ≡ first + (n + 1 - 1) * 18 = omega arith in
    upto_more (λ k. record_at bytes (first + (k - 1) * 18) ≡ Ok (due (first + (k - 1) * 18))) n so (rw there at top)

-- One float more, that cites one of the lines and none before the last line cited.
citations_more : (bytes : List ℕ) (first n lines last cite : ℕ)
    → SoundCitations bytes (record { first = first; count = n }) lines
    → ((k : ℕ) → 1 ≤ k → k ≤ n → field_of bytes (record { first = first; count = n }) cite_at k ≤ last)
    → word_at bytes (first + n * 18 + cite_at) ≡ cite → 1 ≤ cite → cite ≤ lines → last ≤ cite
    → SoundCitations bytes (record { first = first; count = n + 1 }) lines
    × ((k : ℕ) → 1 ≤ k → k ≤ n + 1 → field_of bytes (record { first = first; count = n + 1 }) cite_at k ≤ cite)
citations_more bytes first n lines last cite so upto there one in_lines grows = (
  record {
    some = upto_more (λ k. 1 ≤ citation k) n so.some (omega (arith, here));
    line = upto_more (λ k. citation k ≤ lines) n so.line (omega (arith, here));
    grow = λ j k one less h. ⊎_elim
        (λ e. let top : citation k ≡ cite = ap citation e ∙ here in omega (arith, top, lasts j one (omega arith)))
        (λ below. so.grow j k one less (omega arith))
        (eq-or-lt_of_le h);
  },
  lasts,
)
  where
    citation : ℕ → ℕ
    citation k = word_at bytes (first + (k - 1) * 18 + cite_at)

    here : citation (n + 1) ≡ cite
    here = let e : n + 1 - 1 ≡ n = omega arith in rw e there

    lasts : (k : ℕ) → 1 ≤ k → k ≤ n + 1 → citation k ≤ cite
    lasts = upto_more (λ k. citation k ≤ cite) n (λ k one h. omega (arith, upto k one h)) (omega (arith, here))

-- No float of a stage that is still to come.
pub floats_none : (bytes : List ℕ) (so : Sofar) (stage : ℕ) (floats : Stream) (due : ℕ → Record) → so.stage < stage → floats.count ≡ 0
    → Floats bytes so stage floats due
floats_none bytes so stage floats due early none =
    record {
      counted = record { here = λ e. absurd (omega arith); before = λ _. none };
      read = λ k one h. absurd (omega arith);
      citations =
          record {
            some = λ k one h. absurd (omega arith);
            line = λ k one h. absurd (omega arith);
            grow = λ j k one less h. absurd (omega arith);
          };
      lasts = λ e. absurd (omega arith);
    }

module _ {bytes : List ℕ} {so : Sofar} {stage : ℕ} {floats : Stream} {due : ℕ → Record} (r : Floats bytes so stage floats due) (next : Sofar)
    (same : next.lines ≡ so.lines) where
  -- The floats of a stage that is past stay as they are.
  pub floats_kept : stage < next.stage → Floats bytes next stage floats due
  floats_kept past =
      record {
        counted = record { here = λ e. absurd (omega arith); before = λ l. absurd (omega arith) };
        read = r.read;
        citations = rw same r.citations;
        lasts = λ e. absurd (omega arith);
      }

  -- None of a stage that begins cites a line, and those of the stage reached cite none after the last.
  floats_last : so.stage ≤ stage → (k : ℕ) → 1 ≤ k → k ≤ floats.count
      → field_of bytes floats cite_at k ≤ pick (eqb stage so.stage) so.last 0
  floats_last up k one h = go (eqb stage so.stage) refl
    where
      go : (b : Bool) → eqb stage so.stage ≡ b → field_of bytes floats cite_at k ≤ pick b so.last 0
      go true e = r.lasts (sym (eqb-true stage so.stage e)) k one h
      go false e = let z = r.counted.before (omega (arith, eqb-false stage so.stage e)) in absurd (omega arith)

  -- One float more of the stage, read where the stream went to so far and rightly cited.
  pub floats_more : so.stage ≤ stage → record_at bytes (floats.first + floats.count * 18) ≡ Ok (due (floats.first + floats.count * 18))
      → word_at bytes (floats.first + floats.count * 18 + cite_at) ≡ next.last → 1 ≤ next.last → next.last ≤ so.lines
      → pick (eqb stage so.stage) so.last 0 ≤ next.last → next.stage ≡ stage → next.count ≡ floats.count + 1
      → Floats bytes next stage (record { first = floats.first; count = floats.count + 1 }) due
  floats_more up read there one within grows at more =
      let c = citations_more bytes floats.first floats.count so.lines _ next.last r.citations (floats_last up) there one within grows in
      record {
        counted = record { here = λ _. more; before = λ l. absurd (omega arith) };
        read = reads_more bytes due floats.first floats.count _ r.read refl read;
        citations = rw same c.0;
        lasts = λ _. c.1;
      }

-- A galley that has no block yet.
pub reached_empty : (bytes : List ℕ) (so : Sofar) → Shape bytes so → so.count ≤ 4000 → so.stage < line
    → so.lines ≡ 0 → so.figures ≡ 0 → so.tables ≡ 0 → Head bytes so → Reached bytes so
reached_empty bytes so shape count early no_lines no_figures no_tables head =
    record {
      shape = shape;
      count = count;
      lines = record { here = λ e. absurd (omega arith); before = λ l. no_lines };
      head = head;
      text = λ k one h. absurd (omega arith);
      figures = floats_none bytes so figure _ _ (omega arith) no_figures;
      tables = floats_none bytes so table _ _ (omega arith) no_tables;
    }

-- Nothing was read at first.
pub reached_none : (bytes : List ℕ) → Reached bytes beginning
reached_none bytes =
    reached_empty bytes beginning
    (record { few_lines = omega arith; few_figures = omega arith; few_tables = omega arith; first = omega arith; due = refl; within = omega arith })
    (omega arith) (omega arith) refl refl refl
    (record {
      starts = λ l. refl;
      ends = λ e. absurd (omega arith);
      spec_read = λ l. absurd (omega arith);
      folio = record { some = omega arith; few = omega arith };
      opens = λ l. absurd (omega arith);
    })
