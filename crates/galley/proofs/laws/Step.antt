-- What one record more tells of a galley: reading goes on and is known so far, or its answer is right.
use Rattle.std.specs.Prelude.{ℕ, ◌+◌, ◌-◌, ◌*◌, ◌≤◌, ◌<◌, Bool, true, false, ◌||◌, List, ◌≡◌, length, eqb, Err, Ok}
use Rattle.std.proofs.Common.{arith}
use Rattle.std.proofs.Math.Path.{refl}
use Rattle.std.proofs.Math.Dec.{ltb}
use borrow.Author.Tests.{ltb-true, ltb-false, eqb-false}
use Rattle.model.specs.Gather.{pick}
use Rattle.galley.specs.Word.{mark_at}
use Rattle.galley.specs.Place.{spec, GS, G2, spec_mark, FO, TL, FG, TB, ED, kind_of, misplaced, too_early, too_many, unfit}
use Rattle.galley.specs.Record.{is_second, block_of, line_of, record_at, Read}
use Rattle.galley.specs.Whole.{Opened, moved, refused, cited, closed, after, step_from, Reading, Step}
use Rattle.galley.specs.Block.{offset}
use Rattle.galley.specs.Range.{BlockRanged, LineRanged}
use Rattle.galley.specs.Sound.{SoundFloats, Sound, Opening}
use Rattle.galley.proofs.laws.Pick.{pick_has, or_false}
use Rattle.galley.proofs.laws.Place.{kind_sized, figure_kind, Fits, unfit_fits}
use Rattle.galley.proofs.laws.Record.{SpecFine, Found, spec_room, found_at}
use Rattle.galley.proofs.laws.Reached.{galley_in, Floats, Reached}
use Rattle.galley.proofs.laws.More.{spec_reached, folio_reached, line_reached, figure_reached, table_reached}
use Rattle.galley.specs.declared.Kind.{Kind}
use Rattle.galley.specs.declared.Spec.{Spec}
use Rattle.galley.specs.declared.Line.{Line}
use Rattle.galley.specs.declared.Float.{Float}
use Rattle.galley.specs.declared.Stream.{Stream}
use Rattle.galley.specs.declared.Record.{Record}
use Rattle.galley.specs.declared.Record.TheVariants as found
use Rattle.galley.specs.declared.Sofar.{Sofar}
use Rattle.std.specs.declared.ops.ControlFlow.TheVariants.{Break, Continue}

-- A galley is sound, and a refusal has a number from 1 to 8.
unfoldable pub Right : List ℕ → Reading → Type 0
Right bytes (Ok g) = Sound bytes g × Opening bytes g
Right bytes (Err r) = (1 ≤ r.number) × (r.number ≤ 8)

-- Where reading goes on, it has come farther, and what was read is known; where it is done, the answer is right.
unfoldable pub Fine : List ℕ → Sofar → Step → Type 0
Fine bytes so (Continue next) = (so.at < next.at) × Reached bytes next
Fine bytes so (Break reading) = Right bytes reading

-- A record that was read is in range.
module _ (bytes : List ℕ) (at : ℕ) where
  spec_read_fine : {g : Spec} → record_at bytes at ≡ Ok (found.Spec g) → SpecFine g
  unfolding Found
  spec_read_fine e = let h = rw e at (found_at bytes at) in rw h.same h.fine

  line_read_ranged : {l : Line} → record_at bytes at ≡ Ok (found.Line l) → LineRanged l
  unfolding Found
  line_read_ranged e = let h = rw e at (found_at bytes at) in rw h.same h.fine

  figure_read_ranged : {f : Float} → record_at bytes at ≡ Ok (found.Figure f) → BlockRanged f.block
  unfolding Found
  figure_read_ranged e = let h = rw e at (found_at bytes at) in rw h.same h.fine

  table_read_ranged : {f : Float} → record_at bytes at ≡ Ok (found.Table f) → BlockRanged f.block
  unfolding Found
  table_read_ranged e = let h = rw e at (found_at bytes at) in rw h.same h.fine.block

-- An end that fits comes after a specification.
pub end_begun : (bytes : List ℕ) (so : Sofar) → unfit (kind_of (mark_at bytes so.at)) so ≡ 0 → record_at bytes so.at ≡ Ok found.End
    → spec ≤ so.stage
unfolding Found kind_of
end_begun bytes so fits e =
    let h = rw e at (found_at bytes so.at) in (rw h.marked at (unfit_fits (kind_of (mark_at bytes so.at)) so fits)).soon

-- Once a specification was read, there is room for it.
pub reached_opened : {bytes : List ℕ} {so : Sofar} → Reached bytes so → spec ≤ so.stage → Opened bytes
unfolding Found
reached_opened {bytes} r begun =
    let h = rw (r.head.spec_read begun) at (found_at bytes 0) in
    spec_room bytes 0 (mark_at bytes 0) (either (is_second bytes 0) h.marked) (rw (← h.marked) at h.there)
  where
    either : (second : Bool) → mark_at bytes 0 ≡ spec_mark (pick second 2 1) → (eqb (mark_at bytes 0) GS || eqb (mark_at bytes 0) G2) ≡ true
    either true e = rw e
    either false e = rw e

-- The floats of one stream are sound, once there are no more of them than there may be.
floats_fine : {bytes : List ℕ} {so : Sofar} {stage most : ℕ} {floats : Stream} {due : ℕ → Record} → Floats bytes so stage floats due
    → floats.count ≤ most → floats.first + floats.count * 18 ≤ length bytes
    → ((at : ℕ) → record_at bytes at ≡ Ok (due at) → BlockRanged (block_of bytes at)) → SoundFloats bytes floats so.lines most due
floats_fine {floats = floats} r few within ranged =
    record {
      few = few;
      sound = record { within = within; ranged = λ k one h. ranged (offset floats k) (r.read k one h) };
      read = r.read;
      citations = r.citations;
    }

module _ (bytes : List ℕ) (so : Sofar) (r : Reached bytes so) where
  refused_fine : (number at : ℕ) → 1 ≤ number → number ≤ 8 → Fine bytes so (refused number at)
  unfolding Fine Right
  refused_fine number at low high = (low, high)

  -- A float that is rightly cited is read, and any other is refused.
  cited_fine : (kind : Kind) (cite : ℕ) (next : Sofar) → so.at < next.at
      → (1 ≤ cite → cite ≤ so.lines → (moved so kind).last ≤ cite → Reached bytes next)
      → Fine bytes so (cited (moved so kind) cite next so.at)
  unfolding cited Fine
  cited_fine kind cite next far reached =
      let last = (moved so kind).last in
      pick_has (Fine bytes so) (eqb cite 0 || ltb so.lines cite) _ _ (λ _. refused_fine 6 so.at (omega arith) (omega arith)) (λ within.
      pick_has (Fine bytes so) (ltb cite last) _ _ (λ _. refused_fine 7 so.at (omega arith) (omega arith)) (λ grows.
      let w = or_false (eqb cite 0) (ltb so.lines cite) within in
      (far, reached (omega (arith, eqb-false cite 0 w.0)) (ltb-false so.lines cite w.1) (ltb-false cite last grows))))

  -- At the end all is known.
  closed_fine : Fits (kind_of ED) so → so.at + (kind_of ED).size ≤ length bytes → Fine bytes so (closed bytes (moved so (kind_of ED)))
  unfolding closed Fine Right kind_of
  closed_fine fits there =
      let g = galley_in bytes so in
      let shape = r.shape in
      pick_has (Fine bytes so) (ltb (so.at + 2) (length bytes)) _ _ (λ _. refused_fine 8 (so.at + 2) (omega arith) (omega arith)) (λ none.
      let whole = ltb-false (so.at + 2) (length bytes) none in
      let line : (k : ℕ) → 1 ≤ k → k ≤ g.text.count → LineRanged (line_of bytes (offset g.text k))
      = λ k one h. line_read_ranged bytes (offset g.text k) (r.text k one h) in
      let known : Sound bytes g = record {
        some_lines = fits.timely (omega arith);
        few_lines = shape.few_lines;
        spec_ranged = (spec_read_fine bytes 0 (r.head.spec_read fits.soon)).ranged;
        edition = (spec_read_fine bytes 0 (r.head.spec_read fits.soon)).edition;
        spec_read = r.head.spec_read fits.soon;
        some_folio = r.head.folio.some;
        few_folios = r.head.folio.few;
        text = record { within = omega arith; ranged = λ k one h. (line k one h).block };
        text_read = r.text;
        legals = λ k one h. (line k one h).legals;
        figures = floats_fine r.figures shape.few_figures (omega arith) (λ at. figure_read_ranged bytes at);
        tables = floats_fine r.tables shape.few_tables (omega arith) (λ at. table_read_ranged bytes at);
        follow = refl;
        follow_tables = refl;
        ends = omega arith;
      } in
      (known, r.head.opens fits.soon))

  -- What the record at an offset says decides how reading goes on.
  after_fine : (found : Read) → record_at bytes so.at ≡ found → Found bytes so.at found → Fits (kind_of (mark_at bytes so.at)) so
      → Fine bytes so (after bytes (moved so (kind_of (mark_at bytes so.at))) so.at found)
  unfolding after Found Fine
  after_fine (Ok (found.Spec g)) e h fits =
      rw h.marked (omega (arith, kind_sized (spec_mark g.edition)), spec_reached bytes so r g (rw h.marked at fits) e h.same h.there)
  after_fine (Ok (found.Folio f)) e h fits =
      rw h.marked (omega (arith, kind_sized FO), folio_reached bytes so r f (rw h.marked at fits) e (rw h.same h.fine) h.there)
  after_fine (Ok (found.Line l)) e h fits =
      rw h.marked (omega (arith, kind_sized TL), line_reached bytes so r l (rw h.marked at fits) e h.same h.there)
  after_fine (Ok (found.Figure f)) e h fits =
      let same = figure_kind f.kept in
      rw (h.marked, same)
      (cited_fine (kind_of FG) f.cite _ (omega (arith, kind_sized FG))
      (figure_reached bytes so r f (rw (h.marked, same) at fits) e h.same (rw same at h.there)))
  after_fine (Ok (found.Table f)) e h fits =
      rw h.marked
      (cited_fine (kind_of TB) f.cite _ (omega (arith, kind_sized TB))
      (table_reached bytes so r f (rw h.marked at fits) e h.same h.there))
  after_fine (Ok found.End) e h fits =
      rw h.marked (closed_fine (rw h.marked at fits) h.there)
  after_fine (Err r) e h fits = refused_fine r.number so.at h.low (omega (arith, h.high))

  unfit_low : (kind : Kind) → unfit kind so ≤ 5
  unfit_low kind =
      pick_has (◌≤ 5) (misplaced kind so) _ _ (λ _. omega arith) (λ _.
      pick_has (◌≤ 5) (too_early kind so) _ _ (λ _. omega arith) (λ _.
      pick_has (◌≤ 5) (too_many kind so) _ _ (λ _. omega arith) (λ _. omega arith)))

  -- One record more.
  pub step_fine : Fine bytes so (step_from bytes so)
  unfolding step_from
  step_fine =
      let kind = kind_of (mark_at bytes so.at) in
      let number = unfit kind so in
      pick_has (Fine bytes so) (ltb (length bytes - so.at) 2) _ _ (λ _. refused_fine 1 so.at (omega arith) (omega arith)) (λ two.
      pick_has (Fine bytes so) (ltb 0 number) _ _
      (λ some. refused_fine number so.at (ltb-true 0 number some) (omega (arith, unfit_low kind))) (λ none.
      after_fine (record_at bytes so.at) refl (found_at bytes so.at)
      (unfit_fits kind so (omega (arith, ltb-false 0 number none)))))
