-- Records that fit are read one after the other.
use Rattle.std.specs.Prelude.{ℕ, ◌+◌, ◌-◌, ◌≤◌, List, ◌≡◌, length, Ok}
use Rattle.std.proofs.Common.{arith, ◌∙◌}
use borrow.Author.Tests.{le-ltb, ne_eqb}
use Rattle.galley.specs.Word.{mark_at}
use Rattle.galley.specs.Place.{spec_mark, FO, TL, FG, TB, ED, figure_mark, kind_of}
use Rattle.galley.specs.Record.{record_at}
use Rattle.galley.specs.Whole.{beginning, moved, with_folio, with_line, with_figure, with_table, cited, closed, after, step_from}
use Rattle.galley.proofs.laws.Place.{kind_sized, spec_kind, figure_kind, Fits, fits_unfit}
use Rattle.galley.proofs.laws.Record.{Found, found_at}
use Rattle.galley.proofs.laws.Reached.{galley_in}
use Rattle.galley.specs.declared.Kind.{Kind}
use Rattle.galley.specs.declared.Spec.{Spec}
use Rattle.galley.specs.declared.Line.{Line}
use Rattle.galley.specs.declared.Float.{Float}
use Rattle.galley.specs.declared.Record.{Record}
use Rattle.galley.specs.declared.Record.TheVariants as found
use Rattle.galley.specs.declared.Sofar.{Sofar}
use Rattle.std.specs.declared.ops.ControlFlow.TheVariants.{Break, Continue}

module _ (bytes : List ℕ) (so : Sofar) where
  -- A record that fits decides how reading goes on.
  fit_step : (mark : ℕ) → mark_at bytes so.at ≡ mark → so.at + (kind_of mark).size ≤ length bytes → Fits (kind_of mark) so
      → step_from bytes so ≡ after bytes (moved so (kind_of mark)) so.at (record_at bytes so.at)
  unfolding step_from
  fit_step mark marked there fits =
      simp (
        le-ltb (length bytes - so.at) 2 (omega (arith, (kind_sized mark).0)),
        marked,
        fits_unfit (kind_of mark) so fits,
      )

  pub spec_step : (g : Spec) → record_at bytes so.at ≡ Ok (found.Spec g) → Fits (kind_of (spec_mark g.edition)) so
      → step_from bytes so ≡ Continue (with_folio (moved so (kind_of (spec_mark g.edition))) 1)
  unfolding Found after
  spec_step g e fits = let h = rw e at (found_at bytes so.at) in fit_step (spec_mark g.edition) h.marked h.there fits ∙ rw e

  pub folio_step : (f : ℕ) → record_at bytes so.at ≡ Ok (found.Folio f) → Fits (kind_of FO) so
      → step_from bytes so ≡ Continue (with_folio (moved so (kind_of FO)) f)
  unfolding Found after
  folio_step f e fits = let h = rw e at (found_at bytes so.at) in fit_step FO h.marked h.there fits ∙ rw e

  pub line_step : (l : Line) → record_at bytes so.at ≡ Ok (found.Line l) → Fits (kind_of TL) so
      → step_from bytes so ≡ Continue (with_line (moved so (kind_of TL)))
  unfolding Found after
  line_step l e fits = let h = rw e at (found_at bytes so.at) in fit_step TL h.marked h.there fits ∙ rw e

  -- A float goes on where it is rightly cited.
  cited_on : (kind : Kind) (cite : ℕ) (next : Sofar) → 1 ≤ cite → cite ≤ so.lines → (moved so kind).last ≤ cite
      → cited (moved so kind) cite next so.at ≡ Continue next
  unfolding cited
  cited_on kind cite next one within grows =
      simp (
        ne_eqb cite 0 (λ z. omega arith),
        le-ltb so.lines cite within,
        le-ltb cite (moved so kind).last grows,
      )

  -- A float of a stream goes on where it fits and is rightly cited.
  abbrev FloatStep : ℕ → (Sofar → ℕ → Sofar) → (Float → Record) → Type 0
  FloatStep mark with_one_lem due =
      (f : Float) → record_at bytes so.at ≡ Ok (due f) → Fits (kind_of mark) so → 1 ≤ f.cite → f.cite ≤ so.lines
      → (moved so (kind_of mark)).last ≤ f.cite → step_from bytes so ≡ Continue (with_one_lem (moved so (kind_of mark)) f.cite)

  pub figure_step : FloatStep FG with_figure found.Figure
  unfolding Found after
  figure_step f e fits one within grows =
      let h = rw e at (found_at bytes so.at) in
      rw (figure_kind f.kept) at (fit_step (figure_mark f.kept) h.marked h.there (rw (figure_kind f.kept) fits))
      ∙ rw e (cited_on (kind_of FG) f.cite _ one within grows)

  pub table_step : FloatStep TB with_table found.Table
  unfolding Found after
  table_step f e fits one within grows =
      let h = rw e at (found_at bytes so.at) in
      fit_step TB h.marked h.there fits ∙ rw e (cited_on (kind_of TB) f.cite _ one within grows)

  pub end_step : record_at bytes so.at ≡ Ok found.End → Fits (kind_of ED) so → so.at + 2 ≡ length bytes
      → step_from bytes so ≡ Break (Ok (galley_in bytes so))
  unfolding Found after closed kind_of
  end_step e fits whole =
      let h = rw e at (found_at bytes so.at) in
      fit_step ED h.marked h.there fits ∙ simp (e, le-ltb (so.at + 2) (length bytes) (omega arith))

-- After the specification.
abbrev pub begun : Spec → Sofar
begun g = with_folio (moved beginning (kind_of (spec_mark g.edition))) 1

-- A specification is read where nothing was read.
pub spec_first : (bytes : List ℕ) (g : Spec) → record_at bytes 0 ≡ Ok (found.Spec g) → step_from bytes beginning ≡ Continue (begun g)
spec_first bytes g e =
    spec_step bytes beginning g e
    (rw (spec_kind g.edition)
    (record { soon = omega arith; late = omega arith; timely = λ l. absurd (omega arith); few = λ e. absurd (omega arith) }))
