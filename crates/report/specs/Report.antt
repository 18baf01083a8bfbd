-- The report on a list of marks, by papers 1 to n (document 02, S-12). The types `Mark` and `Totals` are those of src/lib.rt.
use Rattle.std.specs.Prelude.{ℕ, zero, suc, pred, ◌-◌, min, max, Bool, List, [], ◌∷◌, ltb, length, get_or, Option, Some, None, Result, Ok, Err}
use Rattle.std.specs.Option.{option_or}
use Rattle.model.specs.Gather.{pick, sum}
use Rattle.report.specs.declared.Mark.{Mark}
use Rattle.report.specs.declared.Totals.{Totals}
use Rattle.model.specs.declared.answer.Refusal.{Refusal}
use Rattle.model.specs.Answers.{refused}

-- f 1 to f n joined by an operation such as min or max, and 0 where n is 0 (document 02, S-12: the least and the greatest T, and
-- what no papers give).
unfoldable pub extreme : (ℕ → ℕ → ℕ) → ℕ → (ℕ → ℕ) → ℕ
extreme op zero f = 0
extreme op (suc zero) f = f 1
extreme op (suc (suc n)) f = op (extreme op (suc n) f) (f (suc (suc n)))

-- The first of 1 to n at which a test holds (document 02, S-12: the place of 32).
unfoldable pub first : ℕ → (ℕ → Bool) → Option ℕ
first zero f = None
first (suc n) f = option_or (first n f) (pick (f (suc n)) (Some (suc n)) None)

-- A report: the totals, or a refusal.
abbrev pub Report : Type 0
Report = Result Totals Refusal

-- What stands for a paper beyond the last (notation; no answer depends on it).
abbrev pub unmarked : Mark
unmarked = record { pages = 0; x = 0; y = 0; turns = 0; engine = 0 }

-- The mark of paper k, counted from 1 (document 02, S-12).
abbrev pub paper : List Mark → ℕ → Mark
paper marks k = get_or marks (pred k) unmarked

-- The first of n papers whose T is below the engine's (document 02, S-12, number 32).
unfoldable pub first_below : List Mark → ℕ → Option ℕ
first_below marks n = first n (λ k. ltb (paper marks k).turns (paper marks k).engine)

-- What n papers come to: their number, the four sums, least and greatest T, and the excess over the engine as a sum and a count
-- (document 02, S-12).
unfoldable pub totals_of : List Mark → ℕ → Totals
totals_of marks n = record {
  papers = n;
  pages = sum n (λ k. (paper marks k).pages);
  x = sum n (λ k. (paper marks k).x);
  y = sum n (λ k. (paper marks k).y);
  turns = sum n (λ k. (paper marks k).turns);
  least = extreme min n (λ k. (paper marks k).turns);
  greatest = extreme max n (λ k. (paper marks k).turns);
  excess = sum n (λ k. (paper marks k).turns - (paper marks k).engine);
  count = n;
}

-- The report: 31 for more than 10,000 marks, then 32 for the first paper below its engine, else the totals of all papers
-- (document 02, S-12).
abbrev pub answer_of : Option ℕ → Totals → Report
answer_of (Some at) f = refused 32 at
answer_of None f = Ok f

unfoldable pub report_of : List Mark → Report
report_of marks =
    pick (ltb 10000 (length marks)) (refused 31 0) (answer_of (first_below marks (length marks)) (totals_of marks (length marks)))

-- The number of a report: 0 where it is no refusal (document 02, S-12).
abbrev pub number_of : Report → ℕ
number_of (Ok f) = 0
number_of (Err r) = r.number

-- Number and place, papers, the sums of p, X, Y and T, least and greatest T, excess and count: zeros throughout in a refusal
-- (document 02, S-12).
abbrev pub words_of : Report → List ℕ
words_of (Ok f) =
    0 ∷ 0 ∷ f.papers ∷ f.pages ∷ f.x ∷ f.y ∷ f.turns ∷ f.least ∷ f.greatest ∷ f.excess ∷ f.count ∷ []
words_of (Err r) = r.number ∷ r.place ∷ 0 ∷ 0 ∷ 0 ∷ 0 ∷ 0 ∷ 0 ∷ 0 ∷ 0 ∷ 0 ∷ []
