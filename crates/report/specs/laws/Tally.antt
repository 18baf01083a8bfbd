-- The tally grows as the code makes it grow, and gives the report in the end.
use Rattle.std.specs.Prelude.{ℕ, zero, suc, ◌≤◌, ◌≡◌, refl, Bool, true, false, List, leb, ltb, length}
use Rattle.std.proofs.Math.Nat.{zero-max}
use Rattle.std.proofs.Common.{add-one, arith, leb-true, leb-false, lt-ltb}
use Rattle.std.proofs.Math.Dec.{eqb-suc-zero}
use Rattle.model.specs.Gather.{pick, sum}
use Rattle.model.specs.Answers.{refused}
use Rattle.report.specs.declared.Mark.{Mark}
use Rattle.report.specs.Report.{paper, extreme, first, first_below, totals_of, answer_of, report_of}
use Rattle.report.specs.Tally.{tally_of, no_papers, least_with, below_with, totals_with, with_paper, Within, limit_of}

-- The tally of no papers is all zeros.
pub tally_none : (marks : List Mark) → tally_of marks 0 ≡ no_papers
unfolding tally_of totals_of first_below first sum extreme
tally_none marks = refl

pub none_within : Within no_papers.totals
none_within = omega arith

-- The tally of one paper more is the tally with that paper.
pub tally_next : (marks : List Mark) (n : ℕ) → tally_of marks (suc n) ≡ with_paper (paper marks (suc n)) (tally_of marks n)
unfolding tally_of totals_of first_below first sum extreme totals_with least_with below_with
tally_next marks zero = simp zero-max
tally_next marks (suc n) = simp (add-one, eqb-suc-zero)

-- As many marks are gone through as there are, and not more than 10,000.
pub limit_few : (n : ℕ) → limit_of n ≤ 10000
unfolding limit_of
limit_few n = go (leb n 10000) refl
  where
    go : (b : Bool) → leb n 10000 ≡ b → pick b n 0 ≤ 10000
    go true e = leb-true n 10000 e
    go false e = omega arith

pub limit_within : (n : ℕ) → limit_of n ≤ n
unfolding limit_of
limit_within n = go (leb n 10000)
  where
    go : (b : Bool) → pick b n 0 ≤ n
    go true = omega arith
    go false = omega arith

-- What is answered in the end, by the tally of those gone through, is the report.
pub answer_report : (marks : List Mark)
    → (let s = tally_of marks (limit_of (length marks)) in
    pick (ltb 10000 (length marks)) (refused 31 0) (answer_of s.below s.totals) ≡ report_of marks)
unfolding limit_of report_of tally_of totals_of
answer_report marks = go (leb (length marks) 10000) refl
  where
    go : (b : Bool) → leb (length marks) 10000 ≡ b
        → (let s = tally_of marks (pick b (length marks) 0) in
        pick (ltb 10000 (length marks)) (refused 31 0) (answer_of s.below s.totals) ≡ report_of marks)
    go true e = refl
    go false e = simp (lt-ltb 10000 (length marks) (leb-false (length marks) 10000 e))
