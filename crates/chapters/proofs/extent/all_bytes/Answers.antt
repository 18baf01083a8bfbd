-- `all_bytes` meets its contract: the sum so far is where chapter i begins, and each length adds less than 2³².
use native.Mathlib.Omega.{arith}
use mathlib.Core.Path.{◌≡◌, ◌∙◌, ap}
use lib.ListN.{length}
use Rattle.chapters.specs.Book.{all_bytes, chapter_start}
use Rattle.chapters.specs.laws.Lengths.{start_next, start_all}
use Rattle.chapters.proofs.extent.all_bytes.Goals as goal

pub loop-i-init : goal.loop-i-init
unfolding all_bytes
loop-i-init c = omega arith

pub overflow_add-sum : goal.overflow_add-sum
overflow_add-sum c = omega (arith, c.type_inv.lengths c.loop-i.i)

pub loop-i-preserved : goal.loop-i-preserved
loop-i-preserved c =
    let e = start_next c.args.lengths.now c.loop-i.i c.loop-i-test.true in
    (omega arith, omega (arith, e), omega (arith, c.type_inv.lengths c.loop-i.i))

pub returns : goal.returns
returns c =
    let lengths = c.args.lengths.now in
    let e : c.loop-i.i ≡ length lengths = omega arith in
    c.loop-i.invariant.1 ∙ ap (chapter_start lengths) e ∙ start_all lengths
