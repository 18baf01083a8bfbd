-- One page of a run: what is known of it once 13 and 14 are tested, and how each way of leaving it goes on. `words` is what a page takes, as the code has it.
use Rattle.std.specs.Prelude.{ℕ, ◌+◌, ◌*◌, ◌/◌, ◌≤◌, ◌<◌, ◌≡◌, true, false, List, length, Option, None, Some, unwrap_or, eqb, leb}
use Rattle.std.proofs.Common.{mul-le-mul, arith, sym, ap, ◌∙◌}
use Rattle.std.proofs.Math.Option.{none, some}
use Rattle.model.specs.Rules.{floor, cited, forward, closes, broken}
use Rattle.galley.specs.declared.Galley.{Galley}
use Rattle.galley.specs.Model.{model_of}
use Rattle.blocks.specs.declared.Counts.{Counts}
use Rattle.blocks.specs.Counts.{page_words, place_of, counts_in, Proper}
use Rattle.blocks.specs.laws.Counts.{words_most, within_proper, in_proper}
use Rattle.rules.specs.declared.waiting.Waiting.{Waiting}
use Rattle.rules.specs.declared.counts.Sums.{Sums}
use Rattle.rules.specs.Parts.{Ahead, fault_from, start_fault}
use Rattle.rules.specs.laws.Page.{ahead}
use Rattle.rules.specs.Waiting.{waiting_of, WalkingOn}
use Rattle.rules.specs.Sums.{Addable, with_page}
use Rattle.rules.specs.laws.Walked.{waiting_few}
use Rattle.laying.specs.declared.Laid.{Laid}
use Rattle.marking.specs.Parts.{pages_in, WholePages}
use Rattle.marking.specs.Judged.{first_fault, KeptPages}
use Rattle.laying.specs.Heights.{bare_page, is_laid, with_next, Open}
use Rattle.marking.specs.laws.Faults.{fault_some, broken_start, goes_forward, broken_over, broken_end}
use Rattle.laying.specs.laws.Next.{left}
use Rattle.laying.specs.laws.Heights.{SoFar, so_far_bare, so_far_open, so_far_next, so_far_less, page_over, page_fits, page_loose, page_fills}
use Rattle.marking.specs.laws.Rest.{rest_long}
use Rattle.marking.specs.laws.Run.{Run, page_at, broken_at, run_refused, run_next, run_kept}
use Rattle.model.specs.Answers.{refused}

-- Page `done` + 1 goes from `at` to v, and is looked at.
pub record Begun (bytes : List ℕ) (g : Galley) (ws : List ℕ) (last done : ℕ) (at : Counts) (w : Waiting) (sums : Sums) (v : Counts) : Type 0 where
  pub listed : WholePages bytes g ws
  pub run : Run bytes g ws last done at w sums
  pub more : done < pages_in g ws
  pub here : v ≡ page_at g ws done

-- Each page places a block, so that no more are judged than there are blocks.
pub run_few : {bytes : List ℕ} {g : Galley} {ws : List ℕ} {last done : ℕ} {at : Counts} {w : Waiting} {sums : Sums}
    → WholePages bytes g ws → Run bytes g ws last done at w sums → done ≤ 4250
run_few listed run =
    let so = listed.sound in
    let in_text = run.placed in
    omega (arith, run.few, in_text.lines, in_text.figures, in_text.tables, so.few_lines, so.figures.few, so.tables.few)

module _ (bytes : List ℕ) (g : Galley) (ws : List ℕ) (listed : WholePages bytes g ws) {words : ℕ} (is : words ≡ page_words g)
    {last done : ℕ} {at : Counts} {w : Waiting} {sums : Sums} (run : Run bytes g ws last done at w sums) where
  -- A page is left where not all are done.
  pub page_left : (done ≡ length ws / words → ⊥) → done < length ws / words
  page_left left = let up : done ≤ length ws / words = rw is run.within in omega arith

  module _ (more : done < length ws / words) where
    -- The words of the page are there, and there are few pages.
    pub page_there : words * done + page_words g ≤ length ws
    page_there = rw is (rest_long g ws (pages_in g ws) done listed.whole (rw is at more))

    pub page_few : words * done ≤ 12750
    page_few =
        let few : words ≤ 3 = omega (arith, words_most g) in
        mul-le-mul few (run_few listed run)

    pub begins : {v : Counts} → v ≡ counts_in g ws (words * done) → Begun bytes g ws last done at w sums v
    begins {v} read = record { listed = listed; run = run; more = rw is at more; here = rw is at read }

  -- After the last page no rule is broken.
  pub run_over : done ≡ length ws / words → (none ≡ first_fault bytes g ws last) × KeptPages bytes g ws last at sums
  run_over all = run_kept bytes g listed.sound ws last listed.whole run (rw is at all)

-- The counts at both ends of a page are proper.
pub begun_proper : {bytes : List ℕ} {g : Galley} {ws : List ℕ} {last done : ℕ} {at : Counts} {w : Waiting} {sums : Sums} → Run bytes g ws last done at w sums
    → {v : Counts} (from : ℕ) → v ≡ counts_in g ws from → (Proper g at) × (Proper g v)
begun_proper {g = g} {ws = ws} run from e = (within_proper g run.placed, rw e (in_proper g ws from))

module _ {bytes : List ℕ} {g : Galley} {ws : List ℕ} {last done : ℕ} {at : Counts} {w : Waiting} {sums : Sums} {v : Counts}
    (p : Begun bytes g ws last done at w sums v) where
  from_proper : Proper g at
  from_proper = within_proper g p.run.placed

  to_proper : Proper g v
  to_proper = rw p.here (in_proper g ws (page_words g * done))

  -- A rule that is broken on the page ends the run.
  turned : (n : ℕ) → n ≡ broken (model_of bytes g) (done + 1) (eqb (done + 1) last) (place_of g at) (place_of g v) → 0 < n
      → some (refused n (done + 1)) ≡ first_fault bytes g ws last
  turned n e h = run_refused bytes g p.listed.sound ws last p.listed.whole p.run p.more n (rw p.here at e) h

  -- 13 or 14.
  pub begun_refused : (n : ℕ) → Some n ≡ start_fault (model_of bytes g) (place_of g at) (place_of g v)
      → some (refused n (done + 1)) ≡ first_fault bytes g ws last
  begun_refused n e =
      turned n (broken_start (model_of bytes g) (done + 1) (eqb (done + 1) last) (place_of g at) (place_of g v) n e)
      (omega (arith, fault_some 13 n (forward (model_of bytes g) (place_of g at) (place_of g v)) (closes (model_of bytes g) (place_of g v)) e))

  -- Otherwise the page goes forward.
  pub begun_ahead : None ≡ start_fault (model_of bytes g) (place_of g at) (place_of g v) → Ahead g at v
  begun_ahead fine =
      ahead bytes g at v from_proper to_proper
      (goes_forward (model_of bytes g) (done + 1) (eqb (done + 1) last) (place_of g at) (place_of g v) fine)

-- The same page, which breaks neither 13 nor 14, with the blocks that it has so far.
pub record Underway (bytes : List ℕ) (g : Galley) (ws : List ℕ) (last done : ℕ) (at : Counts) (w : Waiting) (sums : Sums) (v : Counts) (laid : Laid) : Type 0 where
  pub begun : Begun bytes g ws last done at w sums v
  pub fine : None ≡ start_fault (model_of bytes g) (place_of g at) (place_of g v)
  pub ahead : Ahead g at v
  pub so_far : SoFar bytes g at v laid

-- At first it has none.
pub underway_bare : {bytes : List ℕ} {g : Galley} {ws : List ℕ} {last done : ℕ} {at : Counts} {w : Waiting} {sums : Sums} {v : Counts}
    → Begun bytes g ws last done at w sums v → None ≡ start_fault (model_of bytes g) (place_of g at) (place_of g v)
    → Underway bytes g ws last done at w sums v (bare_page g at v)
underway_bare {bytes} {g} {at = at} {v = v} p fine =
    let on = begun_ahead p fine in
    record { begun = p; fine = fine; ahead = on; so_far = so_far_bare bytes g at v p.listed.sound on }

module _ {bytes : List ℕ} {g : Galley} {ws : List ℕ} {last done : ℕ} {at : Counts} {w : Waiting} {sums : Sums} {v : Counts} {laid : Laid}
    (u : Underway bytes g ws last done at w sums v laid) where
  module _ (more : is_laid laid.on v ≡ false) where
    -- There is room for the next block,
    pub underway_open : Open bytes g v laid
    underway_open = so_far_open bytes g at v u.so_far u.begun.listed.sound u.ahead.within more

    -- and with it fewer are left.
    pub underway_more : Underway bytes g ws last done at w sums v (with_next bytes g at v laid)
    underway_more =
        record {
          begun = u.begun;
          fine = u.fine;
          ahead = u.ahead;
          so_far = so_far_next bytes g at v u.so_far u.begun.listed.sound u.ahead.within more;
        }

    pub underway_less : left (with_next bytes g at v laid).on v < left laid.on v
    underway_less = so_far_less bytes g at v u.so_far u.begun.listed.sound u.ahead.within more

  -- 15 ends the run as soon as the page is too high.
  pub underway_over : g.spec.htmax < laid.heights.tight → some (refused 15 (done + 1)) ≡ first_fault bytes g ws last
  underway_over over =
      turned u.begun 15
      (broken_over (model_of bytes g) (done + 1) (eqb (done + 1) last) (place_of g at) (place_of g v) u.fine
      (page_over bytes g at v u.so_far (from_proper u.begun) (to_proper u.begun) over)) (omega arith)

  module _ (low : laid.heights.tight ≤ g.spec.htmax) (whole : is_laid laid.on v ≡ true) (end : Option ℕ)
      (e : end
      ≡ fault_from 16 (leb (floor (model_of bytes g) (eqb (done + 1) last)) laid.heights.loose)
      (cited (model_of bytes g) (done + 1) (eqb (done + 1) last) (place_of g v))) where
    at_end_lem : unwrap_or end 0 ≡ broken (model_of bytes g) (done + 1) (eqb (done + 1) last) (place_of g at) (place_of g v)
    at_end_lem =
        broken_end (model_of bytes g) (done + 1) (eqb (done + 1) last) (place_of g at) (place_of g v) u.fine
        (page_fits bytes g at v u.so_far (from_proper u.begun) (to_proper u.begun) whole low)
        (leb (floor (model_of bytes g) (eqb (done + 1) last)) laid.heights.loose)
        (page_fills bytes g at v u.so_far (from_proper u.begun) (to_proper u.begun) whole (eqb (done + 1) last)) end e

    -- 16 or 17 ends the run.
    pub underway_ended : (n : ℕ) → end ≡ Some n → some (refused n (done + 1)) ≡ first_fault bytes g ws last
    underway_ended n is =
        turned u.begun n (ap (λ f. unwrap_or f 0) (sym is) ∙ at_end_lem)
        (omega (arith, fault_some 16 n (leb (floor (model_of bytes g) (eqb (done + 1) last)) laid.heights.loose) (cited (model_of bytes g) (done + 1) (eqb (done + 1) last) (place_of g v)) (sym is ∙ e)))

    -- A page that breaks none goes on to the next.
    pub underway_next : end ≡ None → (w' : Waiting) → w' ≡ waiting_of bytes g v
        → Run bytes g ws last (done + 1) v w' (with_page g (done + 1) (eqb (done + 1) last) laid.heights.loose w' sums)
    underway_next fine w' found =
        let p = u.begun in
        let zero : unwrap_or end 0 ≡ 0 = ap (λ f. unwrap_or f 0) fine in
        let kept : broken_at bytes g ws last done at ≡ 0 = rw p.here at (sym at_end_lem ∙ zero) in
        let loose = page_loose bytes g at v u.so_far (from_proper p) (to_proper p) whole in
        rw p.here
        (run_next bytes g p.listed.sound ws last p.listed.whole p.run p.more kept w' (rw p.here at found)
        laid.heights.loose (rw p.here at loose))

  -- What waited and is not placed on this page still waits at its end.
  pub underway_walking : WalkingOn bytes g at v w
  underway_walking = record { walking = u.begun.run.walking; ahead = u.ahead }

  -- What the page adds to the sums fits.
  pub underway_addable : (w' : Waiting) → w' ≡ waiting_of bytes g v → Addable g w' sums
  underway_addable w' found =
      let so = u.begun.listed.sound in
      let few = run_few u.begun.listed u.begun.run in
      let x = u.begun.run.most in
      let white = u.begun.run.whitest in
      record {
        folio = so.some_folio;
        waits = rw found (waiting_few so v);
        highest = so.spec_ranged.htmaxs;
        x = omega arith;
        white = omega arith;
      }
