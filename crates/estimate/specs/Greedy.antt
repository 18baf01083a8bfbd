-- The numbers of pages that are set greedily keep within their words.
use Rattle.std.specs.Prelude.{ℕ, ◌+◌, ◌≤◌, List}
use Rattle.galley.specs.declared.Galley.{Galley}
use Rattle.galley.specs.Sound.{Sound}
use Rattle.blocks.specs.Counts.{Within}
use Rattle.estimate.specs.declared.Greedy.{Greedy}

-- Pages of a galley that was read, whose sums have room for one leaf more.
pub record Setting (bytes : List ℕ) (g : Galley) (pages : Greedy) : Type 0 where
  pub sound : Sound bytes g
  pub inside : Within g pages.at
  pub costs : pages.cost ≤ 4000000000
  pub turns : pages.turned ≤ 4000000000

-- A step places what there is, and adds one leaf at the most.
pub record Goes (g : Galley) (from to : Greedy) : Type 0 where
  pub inside : Within g to.at
  pub costs : to.cost ≤ from.cost + 251000
  pub turns : to.turned ≤ from.turned + 1

-- Nothing is turned yet.
pub record Begins (bytes : List ℕ) (g : Galley) (pages : Greedy) : Type 0 where
  pub sound : Sound bytes g
  pub inside : Within g pages.at
  pub costs : pages.cost ≤ 0
  pub turns : pages.turned ≤ 0

-- Sums after at most 8,500 steps.
pub record Counted (pages : Greedy) : Type 0 where
  pub costs : pages.cost ≤ 2133500000
  pub turns : pages.turned ≤ 8500
