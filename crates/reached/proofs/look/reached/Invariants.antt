-- `reached` meets its contract. The loop's invariant: the place is reached on none of the sides before c.
use Rattle.reached.specs.Look.{Missed}
use Rattle.reached.proofs.look.reached.Given as goal

abbrev pub invariant-loop-c : goal.invariant-loop-c
invariant-loop-c l = Missed l.work l.tall l.place l.c
