-- The run over the pages: what holds after `done` of them, and how each way of leaving a page goes on.
use Prim.Native.Nat.{ℕ, zero, suc, ◌+◌, ◌*◌, ◌≤◌, ◌<◌}
use Rattle.std.proofs.Math.Decide.{dec_lt}
use native.Mathlib.Omega.{arith}
use Rattle.std.specs.Prelude.{◌≡◌, refl, List, [], length, eqb, ltb}
use Rattle.std.proofs.Common.{sym, ◌∙◌, eq-eqb, le-ltb}
use Rattle.std.proofs.Math.Path.{ap}
use Rattle.std.proofs.Math.Option.{Option, none, some}
use Rattle.model.specs.Gather.{one}
use Rattle.model.specs.Galley.{Sane, zeros}
use Rattle.model.specs.Height.{loosest}
use Rattle.model.specs.Rules.{broken}
use Rattle.model.specs.White.{white_on}
use Rattle.model.specs.Answers.{pages_of, Answer, refused}
use Rattle.model.specs.Best.{allowed}
use Rattle.model.specs.Opening.{end_of}
use Rattle.model.proofs.laws.Rules.{kept}
use Rattle.model.specs.laws.White.{page_white}
use Rattle.theorems.specs.turns.Waiting.{page_sum, at_end}
use Rattle.galley.specs.declared.Galley.{Galley}
use Rattle.galley.specs.Sound.{Sound}
use Rattle.galley.specs.Model.{model_of}
use Rattle.blocks.specs.declared.Counts.{Counts}
use Rattle.blocks.specs.Counts.{page_words, place_of, counts_in, no_counts, Within}
use Rattle.blocks.specs.laws.Counts.{zeros_of, within_proper, in_proper}
use Rattle.rules.specs.declared.waiting.Waiting.{Waiting}
use Rattle.rules.specs.declared.counts.Sums.{Sums}
use Rattle.rules.specs.Parts.{Ahead}
use Rattle.rules.specs.Waiting.{waiting_of, Walking, waiting_at}
use Rattle.rules.specs.Sums.{white_at, with_page}
use Rattle.rules.specs.laws.Page.{ahead}
use Rattle.rules.specs.laws.Counts.{white_at_few}
use Rattle.rules.specs.laws.Sane.{sound_sane}
use Rattle.rules.specs.laws.Walked.{waiting_of_lem, walking_none, walking_here, waiting_few, waiting_at_few}
use Rattle.marking.specs.Parts.{pages_in, rest}
use Rattle.marking.specs.Judged.{refusal, fault_in, first_fault, waited, lacked, all_lacked, KeptPages}
use Rattle.marking.specs.laws.Rest.{rest_all, rest_none, rest_next}

-- After `done` pages, the last of which ends at `at`: w wait there, and the sums are what waited at the ends of leaves and the white so
-- far; page `last` counts as the last.
pub record Run (bytes : List ℕ) (g : Galley) (ws : List ℕ) (last done : ℕ) (at : Counts) (w : Waiting) (sums : Sums) : Type 0 where
  pub within : done ≤ pages_in g ws
  pub placed : Within g at
  pub few : done ≤ at.lines + at.figures + at.tables
  pub most : sums.x ≤ 250 * done
  pub whitest : sums.white ≤ 100000 * done
  pub walking : Walking bytes g at w
  pub judging : fault_in (model_of bytes g) last (done + 1) (place_of g at) (rest ws (page_words g) (pages_in g ws) done)
      ≡ first_fault bytes g ws last
  pub ending : end_of (place_of g at) (rest ws (page_words g) (pages_in g ws) done)
      ≡ end_of (zeros (model_of bytes g)) (pages_of (model_of bytes g) ws)
  pub waiting : sums.x + waited bytes g (done + 1) (rest ws (page_words g) (pages_in g ws) done)
      ≡ waited bytes g 1 (pages_of (model_of bytes g) ws)
  pub whitening : sums.white + lacked (model_of bytes g) last (done + 1) (place_of g at) (rest ws (page_words g) (pages_in g ws) done)
      ≡ all_lacked bytes g ws last

-- The counts where page `done` + 1 ends.
abbrev pub page_at : Galley → List ℕ → ℕ → Counts
page_at g ws done = counts_in g ws (page_words g * done)

-- The first rule that this page breaks, or 0.
abbrev pub broken_at : List ℕ → Galley → List ℕ → ℕ → ℕ → Counts → ℕ
broken_at bytes g ws last done at =
    broken (model_of bytes g) (done + 1) (eqb (done + 1) last) (place_of g at) (place_of g (page_at g ws done))

refusal_some : (n q : ℕ) (after : Option Answer) → 0 < n → refusal n q after ≡ some (refused n q)
unfolding refusal
refusal_some zero q after h = absurd (omega arith)
refusal_some (suc n) q after h = refl

-- A page that goes forward places a block.
ahead_more : {g : Galley} {u v : Counts} → Ahead g u v
    → u.lines + u.figures + u.tables + 1 ≤ v.lines + v.figures + v.tables
ahead_more {g} {u} {v} a = go (dec_lt u.lines v.lines) (dec_lt u.figures v.figures) (dec_lt u.tables v.tables)
  where
    none : (a b : ℕ) → ¬ (a < b) → one (ltb a b) ≡ 0
    none a b n = ap one (le-ltb a b (omega arith))

    go : Dec (u.lines < v.lines) → Dec (u.figures < v.figures) → Dec (u.tables < v.tables)
        → u.lines + u.figures + u.tables + 1 ≤ v.lines + v.figures + v.tables
    go (yes l) f t = omega (arith, a.figures, a.tables)
    go (no l) (yes f) t = omega (arith, a.lines, a.tables)
    go (no l) (no f) (yes t) = omega (arith, a.lines, a.figures)
    go (no l) (no f) (no t) =
        absurd (omega (arith, a.some, none u.lines v.lines l, none u.figures v.figures f, none u.tables v.tables t))

module _ (bytes : List ℕ) (g : Galley) (so : Sound bytes g) (ws : List ℕ) (last : ℕ) where
  sane : Sane (model_of bytes g)
  sane = sound_sane bytes g so

  -- Before the first page.
  pub run_start : Run bytes g ws last 0 no_counts (record { figures = 0; tables = 0 }) (record { x = 0; white = 0 })
  run_start =
      let all = rest_all bytes g ws in
      let start = zeros_of g bytes in
      let none : Within g no_counts = record { lines = omega arith; figures = omega arith; tables = omega arith } in
      record {
        within = omega arith;
        placed = none;
        few = omega arith;
        most = omega arith;
        whitest = omega arith;
        walking = walking_none so no_counts none;
        judging = rw (all, start);
        ending = rw (all, start);
        waiting = rw all (omega arith);
        whitening = rw (all, start) (omega arith);
      }

  module _ (whole : length ws ≡ page_words g * pages_in g ws) {done : ℕ} {at : Counts} {w : Waiting} {sums : Sums}
      (run : Run bytes g ws last done at w sums) where
    module _ (more : done < pages_in g ws) where
      after : Option Answer
      after = fault_in (model_of bytes g) last (suc (done + 1)) (place_of g (page_at g ws done)) (rest ws (page_words g) (pages_in g ws) (done + 1))

      step : refusal (broken_at bytes g ws last done at) (done + 1) after
          ≡ first_fault bytes g ws last
      unfolding fault_in after
      step = rw (rest_next g ws (pages_in g ws) done whole more) at run.judging

      step_waiting : (w' : Waiting) → w' ≡ waiting_of bytes g (page_at g ws done)
          → waited bytes g (done + 1) (rest ws (page_words g) (pages_in g ws) done)
          ≡ waiting_at g (done + 1) (w'.figures + w'.tables)
          + waited bytes g (done + 1 + 1) (rest ws (page_words g) (pages_in g ws) (done + 1))
      unfolding waited page_sum at_end waiting_at
      step_waiting w' found =
          let here = rest_next g ws (pages_in g ws) done whole more in
          let s : suc (done + 1) ≡ done + 1 + 1 = omega arith in
          let wait = waiting_of_lem bytes g sane (page_at g ws done) (in_proper g ws (page_words g * done)) in
          rw (here, wait, s, found)

      step_white : (loose : ℕ) → loosest (model_of bytes g) (place_of g at) (place_of g (page_at g ws done)) ≡ loose
          → lacked (model_of bytes g) last (done + 1) (place_of g at) (rest ws (page_words g) (pages_in g ws) done)
          ≡ white_at g (eqb (done + 1) last) loose
          + lacked (model_of bytes g) last (done + 1 + 1) (place_of g (page_at g ws done)) (rest ws (page_words g) (pages_in g ws) (done + 1))
      unfolding lacked page_white white_on white_at
      step_white loose is =
          let here = rest_next g ws (pages_in g ws) done whole more in
          let s : suc (done + 1) ≡ done + 1 + 1 = omega arith in
          rw (here, is, s)

      -- A page that breaks a rule ends the run.
      pub run_refused : (n : ℕ) → n ≡ broken_at bytes g ws last done at → 0 < n
          → some (refused n (done + 1)) ≡ first_fault bytes g ws last
      run_refused n e h = sym (refusal_some n (done + 1) after h) ∙ ap (λ n. refusal n (done + 1) after) e ∙ step

      module _ (fine : broken_at bytes g ws last done at ≡ 0) where
        -- A page that breaks none goes forward,
        run_ahead : Ahead g at (page_at g ws done)
        unfolding allowed
        run_ahead =
            ahead bytes g at (page_at g ws done) (within_proper g run.placed) (in_proper g ws (page_words g * done))
            (kept (eq-eqb (broken_at bytes g ws last done at) 0 fine)).rule13

        -- and the next page follows.
        pub run_next : (w' : Waiting) → w' ≡ waiting_of bytes g (page_at g ws done)
            → (loose : ℕ) → loosest (model_of bytes g) (place_of g at) (place_of g (page_at g ws done)) ≡ loose
            → Run bytes g ws last (done + 1) (page_at g ws done) w' (with_page g (done + 1) (eqb (done + 1) last) loose w' sums)
        unfolding refusal after end_of
        run_next w' found loose is =
            let most = run.most in
            let whitest = run.whitest in
            let lacks = white_at_few g (eqb (done + 1) last) loose in
            let ranged = so.spec_ranged.htmaxs in
            let few = waiting_few so (page_at g ws done) in
            let figures = ap (λ (w : Waiting). w.figures) found in
            let tables = ap (λ (w : Waiting). w.tables) found in
            let add = waiting_at_few g (done + 1) (w'.figures + w'.tables) in
            let s : suc (done + 1) ≡ done + 1 + 1 = omega arith in
            record {
              within = omega arith;
              placed = run_ahead.within;
              few = omega (arith, run.few, ahead_more run_ahead);
              most = omega arith;
              whitest = omega arith;
              walking = walking_here so (page_at g ws done) w' run_ahead.within found;
              judging =
                  ap (λ q. fault_in (model_of bytes g) last q (place_of g (page_at g ws done)) (rest ws (page_words g) (pages_in g ws) (done + 1))) (sym s)
                  ∙ (rw fine at step);
              ending = rw (rest_next g ws (pages_in g ws) done whole more) at run.ending;
              waiting = let more_x = step_waiting w' found in let x_so_far = run.waiting in omega arith;
              whitening = let more_white = step_white loose is in let white_so_far = run.whitening in omega arith;
            }

    -- After the last page no rule is broken, and where it ends and what waited is known.
    module _ (e : done ≡ pages_in g ws) where
      none_left : rest ws (page_words g) (pages_in g ws) done ≡ []
      none_left = ap (rest ws (page_words g) (pages_in g ws)) e ∙ rest_none ws (page_words g) (pages_in g ws)

      pub run_kept : (none ≡ first_fault bytes g ws last) × KeptPages bytes g ws last at sums
      unfolding fault_in end_of waited page_sum lacked
      run_kept = (
        rw none_left at run.judging,
        record {
          placed = run.placed;
          ends = rw none_left at run.ending;
          waits =
              let so_far : sums.x + 0 ≡ waited bytes g 1 (pages_of (model_of bytes g) ws) = rw none_left at run.waiting in omega arith;
          few = omega (arith, run.few);
          most = omega (arith, run.most);
          whitens = let so_far : sums.white + 0 ≡ all_lacked bytes g ws last = rw none_left at run.whitening in omega arith;
        },
      )
