-- `copy_numbers` meets its contract. The invariant: the first `i` words are numbers of the table, the others are as they were.
use lib.ListN.{length}
use Rattle.sections.specs.Copying.{Copied}
use Rattle.sections.proofs.copy_numbers.Given as goal

abbrev pub invariant-loop-i : goal.invariant-loop-i
invariant-loop-i l = Copied l.table 0 (length l.table) l.initial.numbers l.numbers l.i
