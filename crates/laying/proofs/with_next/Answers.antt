-- `with_next` meets its contract: its tests find the stream of the next block, and there is room for one more of any.
use native.Mathlib.Omega.{arith}
use borrow.Author.Tests.{lt-ltb, le-ltb}
use mathlib.Core.Path.{refl, ◌∙◌}
use Rattle.laying.specs.Heights.{next_stream, with_next}
use Rattle.laying.specs.laws.Next.{last_left, open_room}
use Rattle.laying.proofs.with_next.Goals as goal

pub returns-then-on-v : goal.returns-then-on-v
unfolding with_next next_stream
returns-then-on-v c = c.laid_on.ensures ∙ rw (lt-ltb _ _ c.if-on-v.true, c.with_block-more.ensures) refl

pub returns-then-on-v-2 : goal.returns-then-on-v-2
unfolding with_next next_stream
returns-then-on-v-2 c = c.laid_on-then-on-v-2.ensures ∙ rw (le-ltb _ _ c.if-on-v.false, lt-ltb _ _ c.if-on-v-2.true, c.with_block-more-then-on-v-2.ensures) refl

pub with_block-more-requires-2 : goal.with_block-more-requires-2
with_block-more-requires-2 c =
    open_room c.requires.sound 2 (last_left c.args.laid.on c.args.v c.requires.more c.if-on-v.false c.if-on-v-2.false) c.requires

pub returns : goal.returns
unfolding with_next next_stream
returns c = c.laid_on-2.ensures ∙ rw (le-ltb _ _ c.if-on-v.false, le-ltb _ _ c.if-on-v-2.false, c.with_block-more-2.ensures) refl

pub overflow_add-on-2 : goal.overflow_add-on-2
overflow_add-on-2 c = omega (
  arith,
  last_left c.args.laid.on c.args.v c.requires.more c.if-on-v.false c.if-on-v-2.false,
  c.requires.within.tables,
  c.requires.sound.tables.few,
)
