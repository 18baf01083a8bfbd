-- What is proved of every report, whatever the marks (document 02, S-12).
use Rattle.std.specs.Prelude.{ℕ, zero, suc, ◌+◌, ◌-◌, ◌*◌, ◌^◌, ◌≤◌, ◌<◌, min, max, ◌≡◌, refl, Bool, true, false, List, [], ◌∷◌, ltb, length, Option, Ok}
use Rattle.std.proofs.Common.{le_refl, arith, sym, ◌∙◌, ltb-true, ltb-false}
use Rattle.model.specs.Gather.{pick, sum}
use Rattle.model.proofs.laws.Gather.{sum_add, sum_ext}
use Rattle.report.specs.declared.Mark.{Mark}
use Rattle.report.specs.declared.Totals.{Totals}
use Rattle.model.specs.Answers.{refused}
use Rattle.report.specs.Report.{Report, paper, extreme, first, first_below, totals_of, answer_of, report_of, words_of}
use Rattle.report.specs.laws.Extreme.{either, Reached, extreme_reached, extreme_bounds}
use Rattle.report.specs.laws.First.{Fails, First, nowhere, somewhere, first_is}

-- The turns of paper k, and the engine's for the same galley.
abbrev pub turns_of : List Mark → ℕ → ℕ
turns_of marks k = (paper marks k).turns

abbrev pub engine_of : List Mark → ℕ → ℕ
engine_of marks k = (paper marks k).engine

-- No paper up to and with n has fewer turns than the engine.
abbrev pub NoneBelow : List Mark → ℕ → Type 0
NoneBelow marks n = (k : ℕ) → 1 ≤ k → k ≤ n → engine_of marks k ≤ turns_of marks k

-- Totals are exact: the excess is the total of T less the engines' total, which is not above it; the least T and the greatest
-- bound every paper, and where there are papers, a paper reaches each.
pub record Exact (marks : List Mark) (n : ℕ) (f : Totals) : Type 0 where
  pub engines_within : sum n (engine_of marks) ≤ f.turns
  pub excess_difference : f.excess ≡ f.turns - sum n (engine_of marks)
  pub least_bounds : (k : ℕ) → 1 ≤ k → k ≤ n → f.least ≤ turns_of marks k
  pub greatest_bounds : (k : ℕ) → 1 ≤ k → k ≤ n → turns_of marks k ≤ f.greatest
  pub least_reached : 1 ≤ n → Reached n (turns_of marks) f.least
  pub greatest_reached : 1 ≤ n → Reached n (turns_of marks) f.greatest

-- What a report says of the marks, case by case: they are more than 10,000; or a paper is below its engine, and none before it;
-- or none is, and the totals are those of all papers and exact.
pub data Reports (marks : List Mark) : Report → Type 0 where
  too_many : 10000 < length marks → Reports marks (refused 31 0)
  below : {j : ℕ} → length marks ≤ 10000 → j < length marks → turns_of marks (suc j) < engine_of marks (suc j)
      → NoneBelow marks j → Reports marks (refused 32 (suc j))
  summed : length marks ≤ 10000 → NoneBelow marks (length marks) → Exact marks (length marks) (totals_of marks (length marks))
      → Reports marks (Ok (totals_of marks (length marks)))

-- The excesses and the engines' turns come to the papers' turns.
excess_sum : (marks : List Mark) (n : ℕ) → NoneBelow marks n
    → sum n (λ k. turns_of marks k - engine_of marks k) + sum n (engine_of marks) ≡ sum n (turns_of marks)
excess_sum marks n above =
    sym (sum_add n (λ k. turns_of marks k - engine_of marks k) (engine_of marks))
    ∙ sum_ext n (λ k. turns_of marks k - engine_of marks k + engine_of marks k) (turns_of marks) (λ k p q. let l = above k p q in omega arith)

-- Where no paper is below its engine, the totals are exact.
exact : (marks : List Mark) (n : ℕ) → NoneBelow marks n → Exact marks n (totals_of marks n)
unfolding totals_of
exact marks n above =
    let e = excess_sum marks n above in
    record {
      engines_within = omega arith;
      excess_difference = omega arith;
      least_bounds = extreme_bounds min ◌≤◌ le_refl (λ a b c p q. omega arith) (λ a b. omega arith) (λ a b. omega arith) n (turns_of marks);
      greatest_bounds = extreme_bounds max (λ a b. b ≤ a) le_refl (λ a b c p q. omega arith) (λ a b. omega arith) (λ a b. omega arith) n (turns_of marks);
      least_reached = extreme_reached min (λ a b. either a b (λ l. omega arith) (λ l. omega arith)) n (turns_of marks);
      greatest_reached = extreme_reached max (λ a b. either b a (λ l. omega arith) (λ l. omega arith)) n (turns_of marks);
    }

-- No test for a paper below its engine holds where none is below.
none_below : (marks : List Mark) (n : ℕ) → Fails n (λ k. ltb (turns_of marks k) (engine_of marks k)) → NoneBelow marks n
none_below marks n fails k p q = ltb-false (turns_of marks k) (engine_of marks k) (fails k p q)

-- Every report is one of the three.
pub report_exact : (marks : List Mark) → Reports marks (report_of marks)
unfolding report_of first_below
report_exact marks = go (ltb 10000 n) refl (first_is n (λ k. ltb (turns_of marks k) (engine_of marks k)))
  where
    n : ℕ
    n = length marks

    go : (b : Bool) → ltb 10000 n ≡ b → {o : Option ℕ} → First n (λ k. ltb (turns_of marks k) (engine_of marks k)) o
        → Reports marks (pick b (refused 31 0) (answer_of o (totals_of marks n)))
    go true e h = too_many (ltb-true 10000 n e)
    go false e (nowhere none) = summed (ltb-false 10000 n e) (none_below marks n none) (exact marks n (none_below marks n none))
    go false e (somewhere {j} low holds none) =
        below (ltb-false 10000 n e) low (ltb-true (turns_of marks (suc j)) (engine_of marks (suc j)) holds) (none_below marks j none)

-- Zeros, so many of them.
abbrev pub zeros : ℕ → List ℕ
zeros zero = []
zeros (suc n) = 0 ∷ zeros n

-- No papers give eleven zeros.
pub no_papers_lem : words_of (report_of []) ≡ zeros 11
unfolding report_of first_below first totals_of sum extreme
no_papers_lem = refl

-- After its number and its place a refusal has zeros throughout.
pub refusal_zeros : (number place : ℕ) → words_of (refused number place) ≡ number ∷ place ∷ zeros 9
refusal_zeros number place = refl

-- A sum over at most 10,000 papers of numbers of 32 bits is a number of 64 bits.
pub sum_fits : (n : ℕ) (f : ℕ → ℕ) → n ≤ 10000 → ((k : ℕ) → f k < 2 ^ 32) → sum n f < 2 ^ 64
unfolding sum
sum_fits n f few small = let h = room n in omega arith
  where
    room : (m : ℕ) → sum m f ≤ m * 4294967295
    room zero = omega arith
    room (suc m) = let h = room m in let l = small (suc m) in omega arith
