-- `is_forward` meets its contract: its tests are those of `forward` for lines, figures and tables.
use Rattle.std.proofs.Common.{sym}
use Rattle.rules.specs.laws.Page.{forward_of}
use Rattle.judging.proofs.is_forward.Goals as goal

pub returns : goal.returns
returns c = λ bytes from to. sym (forward_of bytes _ _ _ from to)
