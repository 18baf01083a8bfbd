-- The first demand, the count and the limits of turns and white for making after an opening (document 02, S-6). `make_after` is proved to do what
-- `MadeAfter` says, of any bytes, any words of an opening and any lent memory: it has no `requires`.
use Rattle.std.specs.Prelude.{ℕ, List, length}
use Rattle.std.proofs.Common.{sym, inl}
use native.Mathlib.Omega.{arith}
use Rattle.std.proofs.Math.Path.{subst}
use Rattle.model.specs.Answers.{numbers_of, Answer}
use Rattle.theorems.specs.pages.LeastAfter.{making_after}
use Rattle.galley.specs.Model.{model_of}
use Rattle.making.specs.After.{MadeAfter}
use Rattle.promises.specs.FirstDemand.{Answered, refused}
use Rattle.promises.specs.Limit.{Within, most_turns, most_untabled, Untabled, reads_costs, untabled_costs}
use Rattle.promises.specs.Opening.{ByMakingAfter, of_making_after, after_ends, after_within}

-- What is promised of making after an opening.
module _ {bytes opening work list : List ℕ} {answer : Answer} {count : ℕ} {work' list' : List ℕ}
    (m : MadeAfter bytes opening work list answer count work' list') where
  -- Any galley, any opening and any lent memory gets a finished pagination or one numbered refusal.
  pub after_answers : Answered ByMakingAfter (numbers_of answer)
  after_answers =
      subst (λ a. Answered ByMakingAfter (numbers_of a)) (sym m.answers)
      (of_making_after (λ a. Answered ByMakingAfter (numbers_of a)) bytes opening (length work) (length list)
      (λ n at h. refused (inl (h.0, omega (arith, h.1))))
      (λ g e. after_ends (model_of bytes g) opening (making_after (model_of bytes g) opening)))

  -- It reports at most 1,066,499,000 turns and 424,900,000 of white, and without tables at most 843,999,000 turns.
  pub after_limit : Within most_turns answer
  after_limit = after_within m (reads_costs bytes)

  pub after_untabled : Untabled bytes → Within most_untabled answer
  after_untabled untabled = after_within m (untabled_costs bytes untabled)
