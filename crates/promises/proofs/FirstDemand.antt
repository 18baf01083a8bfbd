-- The first demand, from the contracts: every answer is the counts of a pagination or one numbered refusal with its place, and a
-- refusal leaves the page list untouched. `mark` is proved to answer `mark_of`, and `make` to do what `Made` says. (That every call
-- ends, with nothing undefined, is what the proofs of both say of any bytes, words and lent memory: neither has a `requires`.)
use Rattle.std.specs.Prelude.{ℕ, List, length}
use Rattle.std.proofs.Common.{sym, subst}
use Rattle.model.specs.Answers.{numbers_of, Answer}
use Rattle.galley.specs.Model.{model_of}
use Rattle.making.specs.Make.{Made}
use Rattle.promises.specs.Answers.{ByMaking, of_making}
use Rattle.promises.specs.FirstDemand.{Answered, refused, Ends, made_ends}

-- What the contract of `make` promises of its answer and of the lent memory, whatever that held.
module _ {bytes work list : List ℕ} {answer : Answer} {count : ℕ} {work' list' : List ℕ} (m : Made bytes work list answer count work' list') where
  -- Any galley and any lent memory gets a finished pagination or one numbered refusal.
  pub making_answers : Answered ByMaking (numbers_of answer)
  making_answers =
      subst (λ a. Ends ByMaking a) (sym m.answers)
      (of_making (Ends ByMaking) bytes (length work) (length list) (λ n at h. refused h) (λ g e. made_ends (model_of bytes g)))
