-- The second demand: marking accepts a list exactly where it is a pagination, under the published model, of the galley that
-- the bytes say, and reports that pagination's page count, goal functions and white. `mark_of` is the contract of `mark`.
use Rattle.std.specs.Prelude.{ℕ, ◌+◌, ◌-◌, ◌*◌, ◌/◌, ◌≡◌, refl, List}
use Rattle.std.proofs.Common.{zero-add, ◌∙◌}
use native.Mathlib.Omega.{arith}
use Rattle.model.specs.Gather.{sum}
use Rattle.model.specs.Leaf.{folio_of, leaf, sides_of}
use Rattle.model.specs.Pagination.{Map, x_on, turns_on, white_over}
use Rattle.theorems.specs.published.Theorem.{turn_leaves}
use Rattle.galley.specs.declared.Stream.{Stream}
use Rattle.galley.specs.declared.Galley.{Galley}
use Rattle.galley.specs.Sound.{citation}
use Rattle.galley.specs.Model.{sides_in, model_of}
use Rattle.marking.specs.Mark.{mark_of}
use Rattle.blocks.specs.laws.Counts.{sum_floats}
use Rattle.promises.specs.SecondDemand.{Paginates, reports}
use Rattle.model.specs.Answers.{counted_as}

module _ {bytes words : List ℕ} {g : Galley} {p : ℕ} {P : Map} (m : Paginates bytes words g p P) where
  -- The leaves turned from the line that cites float f of stream s to the float itself, with S for the numbers of the leaves:
  -- S(P(f)) − S(P(R(f))).
  abbrev pub Apart : (ℕ → ℕ) → ℕ → Stream → ℕ → ℕ
  Apart S s floats f = S (P s f) - S (P 0 (citation bytes floats f))

  -- The sum of a number for each float, over the figures and over the tables.
  abbrev pub Over : (ℕ → Stream → ℕ → ℕ) → ℕ
  Over number = sum g.figures.count (number 1 g.figures) + sum g.tables.count (number 2 g.tables)

  -- Its white.
  abbrev pub White : ℕ
  White = white_over (model_of bytes g) p P

  -- X is Σ (S(P(f)) − S(P(R(f)))) over the figures and the tables, Y is S(p) − S(1), and the turns are X and Y by their weights.
  by_leaves : (S : ℕ → ℕ) → ((q : ℕ) → leaf (sides_in g) q ≡ S q)
      → mark_of bytes words
      ≡ counted_as p (Over (Apart S)) (S p - S 1) (Over (λ s st f. g.spec.alpha * Apart S s st f) + g.spec.beta * (S p - S 1)) White
  unfolding x_on sum
  by_leaves S is =
      let M = model_of bytes g in
      let X = Over (Apart S) in
      let T = Over (λ s st f. g.spec.alpha * Apart S s st f) + g.spec.beta * (S p - S 1) in
      let apart = sum_floats g (λ s. sum (M.stream s).size (λ f. S (P s f) - S (P 0 ((M.stream s).cite f)))) (λ none. rw none refl) in
      let dear = sum_floats g (λ s. sum (M.stream s).size (λ f. g.spec.alpha * (S (P s f) - S (P 0 ((M.stream s).cite f))))) (λ none. rw none refl) in
      let ex : x_on M P ≡ X = simp is apart in
      let ey : leaf (sides_in g) p - leaf (sides_in g) 1 ≡ S p - S 1 = simp is in
      let paper = turn_leaves M p P S is in
      let et : turns_on M p P ≡ T = omega arith in
      reports m ∙ cc

  -- Single-sided: X is Σ (P(f) − P(R(f))), Y is p − 1, and the turns are the paper's Turn.S, whatever the folio.
  pub reports_single : g.spec.sides ≡ 1
      → mark_of bytes words
      ≡ counted_as p (Over (Apart (λ q. q))) (p - 1) (Over (λ s st f. g.spec.alpha * Apart (λ q. q) s st f) + g.spec.beta * (p - 1)) White
  unfolding leaf sides_of
  reports_single e = by_leaves (λ q. q) (λ q. rw e)

  -- Double-sided, with the spread of page q by its folio, S(q) = (F − 1 + q) DIV 2 + 1: X is Σ (S(P(f)) − S(P(R(f)))), Y is S(p) − S(1),
  -- and the turns are Turn.D over these spreads (document 02, S-1).
  pub reports_double : g.spec.sides ≡ 2
      → (let S : ℕ → ℕ = λ q. folio_of g.folio q / 2 + 1 in
      mark_of bytes words
      ≡ counted_as p (Over (Apart S)) (S p - S 1) (Over (λ s st f. g.spec.alpha * Apart S s st f) + g.spec.beta * (S p - S 1)) White)
  unfolding leaf sides_of
  reports_double e = by_leaves (λ q. folio_of g.folio q / 2 + 1) (λ q. rw e)

  -- Where the first folio is 1, this is the paper's own Turn.D, with S(q) = q DIV 2 + 1 and S(1) = 1.
  pub reports_first : g.spec.sides ≡ 2 → g.folio ≡ 1
      → (let S : ℕ → ℕ = λ q. q / 2 + 1 in
      mark_of bytes words
      ≡ counted_as p (Over (Apart S)) (S p - 1) (Over (λ s st f. g.spec.alpha * Apart S s st f) + g.spec.beta * (S p - 1)) White)
  unfolding leaf sides_of
  reports_first e f = by_leaves (λ q. q / 2 + 1) (λ q. rw (e, f, zero-add))
