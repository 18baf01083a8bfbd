-- `forecast::together::most_together` meets its contract. The invariant: no run of blocks so far is longer than the one looked at and not
-- too high, and one of its length is not.
use Rattle.std.proofs.Common.{◌≡◌, ◌∙◌, ◌+◌, ◌-◌, ℕ, List, ltb, subst, arith}
use Rattle.model.specs.Height.{stacked}
use Rattle.galley.specs.declared.Stream.{Stream}
use Rattle.model.specs.Weighed.{most_together}
use Rattle.galley.specs.Record.{least_at}
use Rattle.galley.specs.Model.{stream_of}
use Rattle.blocks.specs.Heights.{added}
use Rattle.forecast.specs.Together.{Longest}
use Rattle.forecast.specs.laws.Together.{longest_start, longest_grows, longest_moves, longest_most, heights_of, run_low, run_next, run_rest, most_same}
use Rattle.forecast.proofs.together.most_together.Goals as goal
use Rattle.forecast.proofs.together.most_together.Goals.{then-limit-height, else-limit-height}

pub overflow_add-height : goal.overflow_add-height
overflow_add-height c =
    let pre = c.requires in
    let st = c.loop-b in
    omega (arith, run_low _ _ pre.0 st.invariant, st.invariant.within, c.tight_of-height.ensures.1, pre.1)

module _ (bytes : List ℕ) (stream : Stream) {limit a b height : ℕ} (run : Longest (heights_of bytes stream) limit a b height)
    (next : ℕ) (is : next ≡ added bytes stream least_at (b + 1) b (ltb a b)) where
  -- The height with one block more.
  grown : height + next ≡ stacked (heights_of bytes stream) (heights_of bytes stream).least a (b + 1)
  grown = omega (arith, is, run_next _ _ run)

  -- And without the first.
  moved : (first : ℕ) → first ≡ added bytes stream least_at (a + 1) (a + 1) (ltb (a + 1) (b + 1))
      → height + next ≡ stacked (heights_of bytes stream) (heights_of bytes stream).least (a + 1) (b + 1) + first
  moved first e =
      let start = run.start in
      omega (arith, is, run_next _ _ run, e, run_rest bytes stream a (b + 1) (omega arith))

pub loop-b-preserved : goal.loop-b-preserved
loop-b-preserved c =
    let run = c.loop-b.invariant in
    let next = c.tight_of-height in
    elim c.if-limit-height.branch [
      | then-limit-height w ↦
          let first = w.tight_of-height-then-limit-height in
          rw w.a-is
          (longest_moves _ _ run c.loop-b-test.true _
          (omega (arith, w.height-is, moved c.args.s.now c.args.stream run next.result next.ensures.0 first.result first.ensures.0))
          (omega (arith, w.if-limit-height.true, grown c.args.s.now c.args.stream run next.result next.ensures.0)))
      | else-limit-height w ↦
          rw w.a-is
          (longest_grows _ _ run c.loop-b-test.true _
          (omega (arith, w.height-is, grown c.args.s.now c.args.stream run next.result next.ensures.0))
          (omega (arith, w.height-is, w.if-limit-height.false)))
    ]

pub returns : goal.returns
returns c =
    let a = c.args in
    let st = c.loop-b in
    let all : st.b ≡ a.stream.count = omega (arith, st.auto.b-end, c.loop-b-test.false) in (
      λ g legal cite is. subst (λ n. n - st.a ≡ most_together g (stream_of a.s.now a.stream legal cite)) all
          (longest_most (heights_of a.s.now a.stream) a.limit g is st.invariant all ∙ most_same a.s.now a.stream g legal cite),
      omega arith,
    )

pub loop-b-init : goal.loop-b-init
loop-b-init c = longest_start _ _

pub overflow_sub-height : goal.overflow_sub-height
overflow_sub-height c =
    let next = c.tight_of-height in
    let first = c.tight_of-height-then-limit-height in
    omega (arith, moved c.args.s.now c.args.stream c.loop-b.invariant next.result next.ensures.0 first.result first.ensures.0)
