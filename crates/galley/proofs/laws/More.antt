-- With one record more of each kind what was read is known again.
use Rattle.std.specs.Prelude.{ℕ, ◌+◌, ◌*◌, ◌≤◌, ◌<◌, false, List, ◌≡◌, length, eqb, Ok}
use native.Mathlib.Omega.{arith}
use Rattle.std.proofs.Common.{inl, sym, ◌∙◌, eqb-true}
use Rattle.std.proofs.Math.Logic.{inr}
use Rattle.std.proofs.Math.Path.{refl, ap}
use Rattle.galley.specs.Place.{spec, line, figure, table, spec_mark, spec_size, FO, TL, FG, TB, kind_of}
use Rattle.galley.specs.Record.{is_second, spec_of, line_of, float_of, is_kept, record_at}
use Rattle.galley.specs.Whole.{moved, with_folio, with_line, with_figure, with_table}
use Rattle.galley.specs.Range.{FolioRanged}
use Rattle.galley.proofs.laws.Pick.{pick_has}
use Rattle.galley.proofs.laws.Place.{spec_kind, spec_small, Fits}
use Rattle.galley.proofs.laws.Reached.{spec_in, galley_in, counted_more, Shape, Head, Floats, Reached, reached_empty, reads_more, floats_none, floats_kept, floats_more}
use Rattle.galley.specs.declared.Kind.{Kind}
use Rattle.galley.specs.declared.Spec.{Spec}
use Rattle.galley.specs.declared.Line.{Line}
use Rattle.galley.specs.declared.Float.{Float}
use Rattle.galley.specs.declared.Record.TheVariants as found
use Rattle.galley.specs.declared.Sofar.{Sofar}

module _ (bytes : List ℕ) (so : Sofar) (r : Reached bytes so) where
  -- There are no more of a stage than there may be.
  more_few : (kind : Kind) → Fits kind so → 1 ≤ kind.most → (moved so kind).count ≤ kind.most
  more_few kind fits some =
      pick_has (◌≤ kind.most) (eqb kind.stage so.stage) (so.count + 1) 1
      (λ e. let less = fits.few (sym (eqb-true kind.stage so.stage e)) in omega arith) (λ _. some)

  -- The head of a galley does not change after it.
  head_kept : (next : Sofar) → spec ≤ so.stage → spec < next.stage → next.folio ≡ so.folio → next.first ≡ so.first → Head bytes next
  head_kept next begun past folio first =
      record {
        starts = λ l. absurd (omega arith);
        ends = λ e. absurd (omega arith);
        spec_read = λ l. r.head.spec_read begun;
        folio = rw folio r.head.folio;
        opens = λ l. rw (folio, first) (r.head.opens begun);
      }

  -- A galley whose streams are still to come.
  open_reached : (f mark : ℕ) → Fits (kind_of mark) so → 1 ≤ (kind_of mark).most → (kind_of mark).most ≤ 4000 → (kind_of mark).latest < line
      → (kind_of mark).stage < line → so.at + (kind_of mark).size ≤ 40 → so.at + (kind_of mark).size ≤ length bytes
      → Head bytes (with_folio (moved so (kind_of mark)) f) → Reached bytes (with_folio (moved so (kind_of mark)) f)
  open_reached f mark fits some many early next first there head =
      let late = fits.late in
      let lines = r.lines.before (omega arith) in
      let figures = r.figures.counted.before (omega arith) in
      let tables = r.tables.counted.before (omega arith) in
      reached_empty bytes _
      (record { few_lines = omega arith; few_figures = omega arith; few_tables = omega arith; first = first; due = omega arith; within = there })
      (omega (arith, more_few (kind_of mark) fits some)) next lines figures tables head

  -- A specification comes first.
  pub spec_reached : (g : Spec) → let kind = kind_of (spec_mark g.edition) in
      Fits kind so → record_at bytes so.at ≡ Ok (found.Spec g) → g ≡ spec_of (is_second bytes so.at) bytes so.at
      → so.at + kind.size ≤ length bytes → Reached bytes (with_folio (moved so kind) 1)
  spec_reached g fits e same there =
      let row = spec_kind g.edition in
      let small = spec_small g.edition in
      let late = rw row at fits.late in
      let zero = r.head.starts (omega (arith, late)) in
      let is : g ≡ spec_in bytes = rw zero at same in
      let long : spec_size g.edition ≡ spec_size (spec_in bytes).edition = ap (λ (g : Spec). spec_size g.edition) is in
      open_reached 1 (spec_mark g.edition) fits (rw row (omega arith)) (rw row (omega arith)) (rw row (omega arith)) (rw row (omega arith))
      (rw row (omega arith)) there
      (rw row
      (record {
        starts = λ l. absurd (omega arith);
        ends = λ e. omega (arith, long);
        spec_read = λ l. rw zero at e ∙ ap (λ r. Ok (found.Spec r)) is;
        folio = record { some = omega arith; few = omega arith };
        opens = λ l. inl (refl, omega (arith, long));
      }))

  -- A folio comes straight after it.
  pub folio_reached : (f : ℕ) → Fits (kind_of FO) so → record_at bytes so.at ≡ Ok (found.Folio f) → FolioRanged f
      → so.at + (kind_of FO).size ≤ length bytes → Reached bytes (with_folio (moved so (kind_of FO)) f)
  unfolding kind_of
  folio_reached f fits e fine there =
      let here = r.head.ends (omega (arith, fits.soon, fits.late)) in
      let small = spec_small (spec_in bytes).edition in
      open_reached f FO fits (omega arith) (omega arith) (omega arith) (omega arith) (omega arith) there
      (record {
        starts = λ l. absurd (omega arith);
        ends = λ e. absurd (omega arith);
        spec_read = λ l. r.head.spec_read fits.soon;
        folio = fine;
        opens = λ l. inr (rw here at e, omega arith);
      })

  -- A line comes after the specification, before any float.
  pub line_reached : (l : Line) → Fits (kind_of TL) so → record_at bytes so.at ≡ Ok (found.Line l) → l ≡ line_of bytes so.at
      → so.at + (kind_of TL).size ≤ length bytes → Reached bytes (with_line (moved so (kind_of TL)))
  unfolding kind_of
  line_reached l fits e same there =
      let late = fits.late in
      let figures = r.figures.counted.before (omega arith) in
      let tables = r.tables.counted.before (omega arith) in
      let shape = r.shape in
      let more = counted_more line so.lines so r.lines late in
      let few = rw more at (more_few (kind_of TL) fits (omega arith)) in
      rw more
      (record {
        shape =
            record {
              few_lines = few;
              few_figures = omega arith;
              few_tables = omega arith;
              first = shape.first;
              due = omega arith;
              within = there;
            };
        count = few;
        lines = record { here = λ e. refl; before = λ l. absurd (omega arith) };
        head = head_kept _ fits.soon (omega arith) refl refl;
        text =
            reads_more bytes (λ at. found.Line (line_of bytes at)) so.first so.lines so.at r.text (omega arith)
            (e ∙ ap (λ r. Ok (found.Line r)) same);
        figures = floats_none bytes _ figure _ _ (omega arith) figures;
        tables = floats_none bytes _ table _ _ (omega arith) tables;
      })

  -- One float more, of whichever stream, leaves the lines, the head and the text as they were.
  float_reached : (next : Sofar) → spec ≤ so.stage → line < next.stage → next.folio ≡ so.folio → next.first ≡ so.first
      → next.lines ≡ so.lines → Shape bytes next → next.count ≤ 4000
      → Floats bytes next figure (galley_in bytes next).figures (λ at. found.Figure (float_of (is_kept bytes at) bytes at))
      → Floats bytes next table (galley_in bytes next).tables (λ at. found.Table (float_of false bytes at)) → Reached bytes next
  float_reached next begun past folio first lines shape few figures tables =
      record {
        shape = shape;
        count = few;
        lines = record { here = λ e. absurd (omega arith); before = λ l. absurd (omega arith) };
        head = head_kept next begun (omega arith) folio first;
        text = rw (first, lines) r.text;
        figures = figures;
        tables = tables;
      }

  -- A figure comes after a line, before any table.
  pub figure_reached : (f : Float) → Fits (kind_of FG) so → record_at bytes so.at ≡ Ok (found.Figure f)
      → f ≡ float_of (is_kept bytes so.at) bytes so.at → so.at + (kind_of FG).size ≤ length bytes → 1 ≤ f.cite → f.cite ≤ so.lines
      → (moved so (kind_of FG)).last ≤ f.cite → Reached bytes (with_figure (moved so (kind_of FG)) f.cite)
  unfolding kind_of
  figure_reached f fits e same there one within grows =
      let late = fits.late in
      let tables = r.tables.counted.before (omega arith) in
      let shape = r.shape in
      let here : so.first + so.lines * 18 + so.figures * 18 ≡ so.at = omega arith in
      let more = counted_more figure so.figures so r.figures.counted late in
      let few = rw more at (more_few (kind_of FG) fits (omega arith)) in
      rw more
      (float_reached _ fits.soon (omega arith) refl refl refl
      (record { few_lines = shape.few_lines; few_figures = few; few_tables = omega arith; first = shape.first; due = omega arith; within = there })
      (omega (arith, few))
      (floats_more r.figures _ refl late (rw here (e ∙ ap (λ r. Ok (found.Figure r)) same)) (rw here (sym (ap (λ (f : Float). f.cite) same))) one within grows refl refl)
      (floats_none bytes _ table _ _ (omega arith) tables))

  -- A table comes after a line.
  pub table_reached : (f : Float) → Fits (kind_of TB) so → record_at bytes so.at ≡ Ok (found.Table f) → f ≡ float_of false bytes so.at
      → so.at + (kind_of TB).size ≤ length bytes → 1 ≤ f.cite → f.cite ≤ so.lines → (moved so (kind_of TB)).last ≤ f.cite
      → Reached bytes (with_table (moved so (kind_of TB)) f.cite)
  unfolding kind_of
  table_reached f fits e same there one within grows =
      let late = fits.late in
      let shape = r.shape in
      let here : so.first + so.lines * 18 + so.figures * 18 + so.tables * 18 ≡ so.at = omega arith in
      let more = counted_more table so.tables so r.tables.counted late in
      let few = rw more at (more_few (kind_of TB) fits (omega arith)) in
      rw more
      (float_reached _ fits.soon (omega arith) refl refl refl
      (record { few_lines = shape.few_lines; few_figures = shape.few_figures; few_tables = few; first = shape.first; due = omega arith; within = there })
      (omega (arith, few)) (floats_kept r.figures _ refl (omega arith))
      (floats_more r.tables _ refl late (rw here (e ∙ ap (λ r. Ok (found.Table r)) same)) (rw here (sym (ap (λ (f : Float). f.cite) same))) one within grows refl refl))
