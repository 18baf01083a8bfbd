-- `may_end` meets its contract: its test is the premise of `may_end`, and there is a block k where it holds.
use Rattle.model.specs.Rules.{may_end}
use Rattle.rules.proofs.rules.may_end.Goals as goal

pub returns-then-k-stream : goal.returns-then-k-stream
unfolding may_end
returns-then-k-stream c = λ cite. rw (c.if-k-stream.true, c.is_legal.ensures)

pub returns : goal.returns
unfolding may_end
returns c = λ cite. rw c.if-k-stream.false
