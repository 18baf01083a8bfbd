-- How an opening is judged (document 02, S-6).
use Rattle.std.specs.Prelude.{ℕ, ◌≡◌, List, Result, Ok, Err}
use Rattle.std.proofs.Math.Option.{Option, none, some}
use Rattle.model.specs.declared.answer.Refusal.{Refusal}
use Rattle.model.specs.Gather.{pick}
use Rattle.model.specs.Opening.{opening_turned}
use Rattle.galley.specs.declared.Galley.{Galley}
use Rattle.galley.specs.Model.{model_of}
use Rattle.blocks.specs.declared.Counts.{Counts}
use Rattle.rules.specs.declared.counts.Sums.{Sums}
use Rattle.rules.specs.Parts.{all_placed}
use Rattle.marking.specs.Parts.{pages_in}
use Rattle.marking.specs.Judged.{KeptPages}
use Rattle.openings.specs.declared.Ends.{Ends}
use Rattle.model.specs.Answers.{Answer, refused}

-- What turns an opening away.
abbrev pub turned : Result Ends Refusal → Option Answer
turned (Err r) = some (Err r)
turned (Ok ends) = none

-- 21 where everything is placed, else the end of an opening of so many pages.
abbrev pub Ended : Galley → ℕ → Counts → Sums → Result Ends Refusal → Type 0
Ended g pages at sums r = r ≡ pick (all_placed g at) (refused 21 pages) (Ok (record { pages = pages; at = at; sums = sums }))

-- The words of an opening are judged.
pub record OpeningJudged (bytes : List ℕ) (g : Galley) (ws : List ℕ) (r : Result Ends Refusal) : Type 0 where
  pub told : turned r ≡ opening_turned (model_of bytes g) ws
  pub kept : (ends : Ends) → r ≡ Ok ends → (ends.pages ≡ pages_in g ws) × KeptPages bytes g ws 0 ends.at ends.sums
