-- `copy_words` meets its contract. The invariant: the first `i` words are the opening's, the others are as they were.
use Rattle.solving.specs.Copied.{Copied}
use Rattle.solving.proofs.opening.copy_words.Given as goal

abbrev pub invariant-loop-i : goal.invariant-loop-i
invariant-loop-i l = Copied l.opening l.initial.pages l.pages l.i
