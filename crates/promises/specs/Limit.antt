-- No answer has more turns than documents 01 ("Spreads and turns") and 02 (S-4) allow for, nor more white than htMax for each page but
-- one (document 02, S-10), so that T and W fit the 32 bits of an answer.
use Rattle.std.specs.Prelude.{ℕ, pred, ◌≤◌, ◌≡◌, Bool, List, length, Err, Ok}
use Rattle.std.proofs.Common.{mul-le-mul, arith, sym, subst}
use Rattle.std.proofs.Math.Path.{refl}
use Rattle.std.proofs.Math.Bool.{true, false}
use Rattle.model.specs.Galley as model
use Rattle.model.specs.Turns.{turns}
use Rattle.model.specs.Answers.{numbers_of, accepted, counts_of, marked, Answer}
use Rattle.model.specs.Best.{allowed, made, made_words}
use Rattle.model.specs.laws.Judge.{accepts}
use Rattle.model.proofs.laws.Valid.{valid_accepted, accepted_valid}
use Rattle.theorems.specs.turns.Bounds.{all_floats, dearest, costs_most, Limits, turns_limit, white_limit}
use Rattle.theorems.specs.turns.Costs.{turns_are_costs}
use Rattle.theorems.specs.turns.LeastTurns.{Making, no_list, best_list, making, valid_counts}
use Rattle.galley.specs.declared.Galley.{Galley}
use Rattle.galley.specs.Whole.{galley_of}
use Rattle.galley.specs.Model.{model_of}
use Rattle.galley.proofs.laws.Sound.{sound}
use Rattle.blocks.specs.laws.Counts.{sum_floats, blocks_of}
use Rattle.rules.specs.laws.Sane.{reads_sane}
use Rattle.marking.specs.Mark.{mark_of}
use Rattle.making.specs.Make.{Made}
use Rattle.solving.specs.laws.Solved.{reads_limits}
use Rattle.promises.specs.Answers.{of_marking, of_making}

-- An answer has at most so many turns, and its white is at most 100,000 for each of 4,249 pages.
abbrev pub Within : ℕ → Answer → Type 0
Within most a = ((numbers_of a).turns ≤ most) × ((numbers_of a).white ≤ 424900000)

-- The most turns of all: those of document 02, S-4, and without tables those of document 01.
abbrev pub most_turns : ℕ
most_turns = 1066499000

abbrev pub most_untabled : ℕ
most_untabled = 843999000

-- If the bytes say a galley, then one without tables.
abbrev pub Untabled : List ℕ → Type 0
Untabled bytes = (g : Galley) → galley_of bytes ≡ Ok g → g.tables.count ≡ 0

-- No accepted list of a galley has more turns than so many,
abbrev pub Dearest : ℕ → model.Galley → Type 0
Dearest most g = (ps : List model.Place) → accepts (allowed g) (model.sizes g) 1 (model.zeros g) ps ≡ true → turns g ps ≤ most

-- nor of the galley that the bytes say.
abbrev pub Costs : ℕ → List ℕ → Type 0
Costs most bytes = (g : Galley) → galley_of bytes ≡ Ok g → Dearest most (model_of bytes g)

pub reads_costs : (bytes : List ℕ) → Costs most_turns bytes
reads_costs bytes g e = turns_limit (model_of bytes g) (reads_sane bytes g e) (reads_limits bytes g e)

-- Without tables a page costs at most 201,000, and there are at most 4,200 blocks.
pub untabled_costs : (bytes : List ℕ) → Untabled bytes → Costs most_untabled bytes
unfolding dearest all_floats
untabled_costs bytes untabled g e ps h =
    let M : model.Galley = model_of bytes g in
    let whole = sound bytes g e in
    let limits = reads_limits bytes g e in
    let none = untabled g e in
    let figures = whole.figures.few in
    let lines = whole.few_lines in
    let floats = sum_floats g (λ s. (M.stream s).size) (λ none. none) in
    let few : all_floats M ≤ 200 = omega arith in
    let all = blocks_of g bytes in
    let fewer : pred (model.blocks M) ≤ 4199 = omega arith in
    let weights = mul-le-mul limits.alpha few in
    let rate : dearest M ≤ 201000 = omega (arith, limits.beta) in
    let most = mul-le-mul fewer rate in
    let same = turns_are_costs M (reads_sane bytes g e) ps h in
    omega (arith, costs_most M ps h)

-- What is not accepted has no turns and no white.
refused_within : (most : ℕ) (a : Answer) → accepted a ≡ false → Within most a
refused_within most (Ok c) e = absurd cc
refused_within most (Err r) e = (omega arith, omega arith)

module _ (most : ℕ) (g : model.Galley) (limits : Limits g) (dear : Dearest most g) where
  pub marked_within : (words : List ℕ) → Within most (marked g words)
  unfolding counts_of
  marked_within words = go (accepted (marked g words)) refl
    where
      go : (b : Bool) → accepted (marked g words) ≡ b → Within most (marked g words)
      go true e =
          let (ps, m, is) = (accepted_valid g words).0 e in
          let counts = valid_counts g ps m in
          let taken = ((valid_accepted g ps).0 m).taken in
          rw (← is, counts) (dear ps taken, white_limit g limits ps taken)
      go false e = refused_within most (marked g words) e

  made_within : Within most (made g)
  made_within = go (made g) (made_words g) (making g)
    where
      go : (a : Answer) (words : List ℕ) → Making g a words → Within most a
      go (Err r) words (no_list none) = (omega arith, omega arith)
      go (Ok c) words (best_list m long best whiter) = subst (λ a. Within most a) m (marked_within words)

module _ (most : ℕ) (bytes : List ℕ) (costs : Costs most bytes) where
  pub marking_within : (words : List ℕ) → Within most (mark_of bytes words)
  marking_within words =
      of_marking (Within most) bytes words (λ n at l h. (omega arith, omega arith))
      (λ g e. marked_within most (model_of bytes g) (reads_limits bytes g e) (costs g e) words)

  pub making_within : {work list : List ℕ} {answer : Answer} {count : ℕ} {work' list' : List ℕ}
      → Made bytes work list answer count work' list' → Within most answer
  making_within {work} {list} m =
      subst (λ a. Within most a) (sym m.answers)
      (of_making (Within most) bytes (length work) (length list) (λ n at h. (omega arith, omega arith))
      (λ g e. made_within most (model_of bytes g) (reads_limits bytes g e) (costs g e)))
