-- `with_page` meets its contract: each sum has room for one page more.
use Prim.Native.Nat.{◌+◌}
use native.Mathlib.Omega.{arith}
use Rattle.rules.specs.laws.Walked.{waiting_at_few}
use Rattle.counting.proofs.with_page.Goals as goal

pub overflow_add-result : goal.overflow_add-result
overflow_add-result c =
    let added = waiting_at_few c.args.g c.args.page.0 (c.args.waiting.figures + c.args.waiting.tables) in
    omega (arith, added, c.waiting_at.ensures, c.requires.waits, c.requires.x)
