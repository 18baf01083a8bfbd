-- The counts of pairs that are known: tallies of what leaves them as they are.
use Rattle.std.specs.Prelude.{ℕ, ◌≤◌, ◌<◌, ◌≡◌, Some, IfSome, List, length}
use Rattle.std.specs.List.{All, Contains}
use Rattle.weighing.specs.declared.lines.Tally.{Tally}
use Rattle.weighing.specs.declared.known.Known.{Known}
use Rattle.weighing.specs.Lines.{Same}

-- A row tells the pairs for so much beside the lines.
pub record Covers (known : Known) (beside : ℕ) (row : Tally) : Type 0 where
  pub told : Contains known.rows (Some row)
  pub from : row.from ≤ beside
  pub end : beside < row.end

-- What every row says is so.
pub record Knows (sums : List ℕ) (known : Known) (m first limit : ℕ) : Type 0 where
  pub sized : length known.rows ≡ 127
  pub right : All (λ row. IfSome row (Same sums m first limit)) known.rows
