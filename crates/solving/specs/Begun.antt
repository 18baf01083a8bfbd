-- Where making begins after an opening: the place where it ends, its pages and what they cost (document 02, S-6).
use Rattle.std.specs.Prelude.{ℕ, ◌+◌, ◌*◌, ◌≤◌, ◌≡◌, List, Result, Ok, Err}
use Rattle.std.proofs.Math.Option.{Option, none, some}
use Rattle.model.specs.declared.answer.Refusal.{Refusal}
use Rattle.model.specs.Answers.{pages_of, Answer}
use Rattle.model.specs.Opening.{opening_turned}
use Rattle.theorems.specs.pages.Opening.{after}
use Rattle.theorems.specs.pages.LeastAfter.{Whole}
use Rattle.galley.specs.declared.Galley.{Galley}
use Rattle.galley.specs.Model.{model_of}
use Rattle.blocks.specs.declared.Counts.{Counts}
use Rattle.blocks.specs.Counts.{Within}
use Rattle.rules.specs.declared.counts.Sums.{Sums}
use Rattle.rules.specs.Parts.{CountLimits, printed_cost}
use Rattle.places.specs.declared.Origin.{Origin}
use Rattle.places.specs.Entry.{boundless}
use Rattle.candidates.specs.Read.{FewFloats}
use Rattle.solving.specs.Shown.{origin_of, Proper}

-- The origin after so many pages, which end with these counts, where so many floats waited at the ends of leaves and so much white was
-- left.
abbrev pub origin_after : Galley → ℕ → Counts → Sums → Origin
origin_after g pages at sums =
    record {
      place = record { line = at.lines; column = at.figures * (g.tables.count + 1) + at.tables };
      pages = pages;
      cost = printed_cost g pages sums;
      limit = boundless;
    }

-- Pages that end within a galley that keeps to the limits, after which one more has room.
pub record Ending (g : Galley) (pages : ℕ) (at : Counts) (sums : Sums) : Type 0 where
  pub lines : g.text.count ≤ 4000
  pub floats : FewFloats g
  pub placed : Within g at
  pub limits : CountLimits g (pages + 1) sums.x

-- The words name an opening that nothing turns away, and making begins at the origin that it leads to.
pub record Opened (bytes : List ℕ) (g : Galley) (ws : List ℕ) (from : Origin) : Type 0 where
  pub stands : opening_turned (model_of bytes g) ws ≡ none
  pub whole : Whole (model_of bytes g) ws
  pub is : origin_of (model_of bytes g) from ≡ after (model_of bytes g) (pages_of (model_of bytes g) ws)
  pub proper : Proper (model_of bytes g) from.place
  pub cheap : from.cost ≤ boundless
  pub limited : from.limit ≤ boundless

-- What turns the opening away.
abbrev pub told : Result Origin Refusal → Option Answer
told (Err r) = some (Err r)
told (Ok from) = none

-- Where making begins after the opening that words name, or what turns it away.
pub record BegunAfter (bytes : List ℕ) (g : Galley) (ws : List ℕ) (r : Result Origin Refusal) : Type 0 where
  pub turned : told r ≡ opening_turned (model_of bytes g) ws
  pub opened : (from : Origin) → r ≡ Ok from → Opened bytes g ws from
