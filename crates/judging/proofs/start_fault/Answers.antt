-- `start_fault` meets its contract: its two tests are those of rules 13 and 14.
use mathlib.Core.Path.{◌∙◌}
use Rattle.judging.proofs.start_fault.Goals as goal

pub returns : goal.returns
returns c =
    c.first_fault.ensures
    ∙ rw (c.is_forward-forward.ensures c.args.s.now c.requires.1 c.requires.2, c.may_close-closes.ensures)
