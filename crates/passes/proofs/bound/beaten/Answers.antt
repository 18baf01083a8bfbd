-- `beaten` meets its contract: it says so only where the place is reached, and compares its cost with the two words of the bound.
use native.Mathlib.Omega.{arith}
use mathlib.Core.Path.{sym, ◌∙◌}
use borrow.Author.Tests.{ltb-true}
use Rattle.passes.proofs.bound.beaten.Goals as goal

pub returns : goal.returns
returns c = λ e.
    record {
      cost = _;
      start = _;
      held = sym c.entry_of.ensures ∙ c.in-Some.is;
      after = omega (arith, c.if-low-since.false);
      before = omega (arith, c.if-last-low.false);
      less = ltb-true _ _ (rw c.joined.ensures at e);
    }
