-- `copy_words` meets its contract. The invariant: the first `i` words are copied, the others are as they were.
use Rattle.layouts.specs.Words.{Copied}
use Rattle.layouts.proofs.words.copy_words.Given as goal

abbrev pub invariant-loop-i : goal.invariant-loop-i
invariant-loop-i l = Copied l.from l.count l.initial.into l.into l.i
