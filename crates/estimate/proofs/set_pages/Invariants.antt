-- `set_pages` meets its contract. The invariant: each step so far added a leaf at the most.
use Rattle.std.proofs.Common.{◌*◌, ◌≤◌}
use Rattle.blocks.specs.Counts.{Within}
use Rattle.estimate.proofs.set_pages.Given as goal

abbrev pub invariant-loop : goal.invariant-loop
invariant-loop l = Within l.g l.pages.at × (l.pages.cost ≤ 251000 * l.counter) × (l.pages.turned ≤ l.counter)
