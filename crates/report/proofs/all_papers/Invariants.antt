-- Before each turn the tally is that of the papers passed, and its sums have room.
use Rattle.std.proofs.Common.{◌≡◌, ◌≤◌, length}
use Rattle.report.specs.Tally.{tally_of, Within}
use Rattle.report.proofs.all_papers.Given as goal

abbrev pub invariant-loop-i : goal.invariant-loop-i
invariant-loop-i l =
    record { few : length l.marks ≤ 10000; passed : l.tally ≡ tally_of l.marks l.i; within : Within l.tally.totals }
