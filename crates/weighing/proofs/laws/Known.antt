-- What is known of tallies: nothing at first, and those that are written.
use Rattle.std.specs.Prelude.{ℕ, Option, Some, None, IfSome, List, set, replicate}
use Rattle.std.proofs.Common.{◌∙◌}
use Rattle.std.proofs.lemmas.List.{length-replicate, length-set}
use Rattle.std.proofs.lemmas.List.Elements.{All-replicate, All-contains, All-set}
use Rattle.weighing.specs.declared.lines.Tally.{Tally}
use Rattle.weighing.specs.declared.known.Known.{Known}
use Rattle.weighing.specs.Lines.{Pairs, Same}
use Rattle.weighing.specs.Known.{Covers, Knows}

-- Rows without a tally say nothing, whichever is the next.
pub knows_none : (sums : List ℕ) (next vain m first limit : ℕ) → Knows sums (record { rows = replicate 127 None; next = next; vain = vain }) m first limit
knows_none sums next vain m first limit =
    record {
      sized = length-replicate {A = Option Tally} 127 None;
      right = All-replicate (λ row. IfSome row (Same sums m first limit)) 127 None tt;
    }

-- A row that covers what stands beside the lines has the count of their pairs.
pub known_counts : {sums : List ℕ} {known : Known} {m first limit beside : ℕ} {row : Tally} → Knows sums known m first limit → Covers known beside row
    → Pairs sums m first beside limit row.pairs
known_counts {sums = sums} {known = known} {m = m} {first = first} {limit = limit} {beside = beside} {row = row} knows covers =
    let told : Same sums m first limit row = All-contains (λ r. IfSome r (Same sums m first limit)) known.rows (Some row) knows.right covers.told in
    record { few = told.few; counted = told.counted beside covers.from covers.end }

module _ {sums : List ℕ} {known : Known} {m first limit : ℕ} (knows : Knows sums known m first limit) where
  -- Which row is the next, and how many were written in vain, may be anything.
  pub knows_headed : (next vain : ℕ) → Knows sums (record known { next = next; vain = vain }) m first limit
  knows_headed next vain = record { sized = knows.sized; right = knows.right }

  -- Any row may say what a tally does.
  pub knows_pushed : (tally : Tally) → Same sums m first limit tally → (at : ℕ)
      → Knows sums (record known { rows = set known.rows at (Some tally) }) m first limit
  knows_pushed tally told at =
      record {
        sized = length-set known.rows at (Some tally) ∙ knows.sized;
        right = All-set (λ row. IfSome row (Same sums m first limit)) known.rows at (Some tally) told knows.right;
      }
