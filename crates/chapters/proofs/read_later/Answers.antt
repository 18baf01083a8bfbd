-- `read_later` meets its contract. The invariant is `Underway`: reading from here gives what the whole reading gives.
use Prim.Native.Nat.{◌+◌, ◌<◌}
use native.Mathlib.Omega.{arith}
use mathlib.Core.Path.{sym, ◌∙◌, ap, ◌≡◌}
use lib.ListN.{length, get_or}
use lib.Seq.{slice}
use Rattle.galley.specs.Whole.{galley_of}
use Rattle.std.proofs.lemmas.Result.{err_from_is_err_and}
use Rattle.needs.specs.laws.Needs.{read_few}
use Rattle.chapters.specs.laws.Lengths.{adding, part_slice}
use Rattle.chapters.specs.Steps.{read_as}
use Rattle.chapters.proofs.laws.ReadAs.{read_ok, read_err}
use Rattle.chapters.proofs.laws.Underway.{underway_first, underway_roomy, underway_within, underway_done, underway_refused, underway_unfit, underway_next}
use Rattle.chapters.proofs.read_later.Goals as goal
use Rattle.chapters.proofs.read_later.Goals.{In-loop-k, After-chapter_read}

pub with_chapter-book-requires : goal.with_chapter-book-requires
with_chapter-book-requires c = (record { chapters = omega arith; list = omega arith }, read_few _ _ c.requires.reads)

pub bounds-chapters-0 : goal.bounds-chapters-0
bounds-chapters-0 c = omega (arith, (adding c.args.chapters.galleys.now c.args.chapters.lengths.now c.requires.adds).some)

pub loop-k-init : goal.loop-k-init
loop-k-init c = record { counted = rw c.with_chapter-book.ensures (omega arith); underway = rw c.with_chapter-book.ensures (underway_first c.requires) }

-- The chapter that is read next has the loop's number.
next : (c : In-loop-k)
    → (get_or c.args.chapters.lengths.now c.loop-k.k 0 ≡ get_or c.args.chapters.lengths.now c.loop-k.book.chapters 0)
    × (c.loop-k.book.chapters < length c.args.chapters.lengths.now)
next c =
    (ap (λ m. get_or c.args.chapters.lengths.now m 0) (sym c.loop-k.invariant.counted), omega (arith, c.loop-k.invariant.counted, c.loop-k-test.true))

pub overflow_cast-place : goal.overflow_cast-place
overflow_cast-place c = omega (arith, c.loop-k.invariant.underway.within, c.loop-k.invariant.underway.few)

pub overflow_add-place : goal.overflow_add-place
overflow_add-place c = omega (arith, c.loop-k.invariant.underway.within, c.loop-k.invariant.underway.few)

pub slice_bounds-chapter_read-end : goal.slice_bounds-chapter_read-end
slice_bounds-chapter_read-end c =
    let t = next (goal.at.slice_bounds-chapter_read-end c).In-loop-k in
    omega (arith, t.0, underway_within c.loop-k.invariant.underway t.1)

-- The bytes of the chapter, as reading them has it.
lent : (c : After-chapter_read)
    → c.chapter_read.result
    ≡ read_as (c.loop-k.book.chapters + 1)
    (galley_of (slice c.loop-k.at (c.loop-k.at + get_or c.args.chapters.lengths.now c.loop-k.k 0) c.args.chapters.galleys.now))
lent c = c.chapter_read.ensures ∙ ap (λ l. read_as (c.loop-k.book.chapters + 1) (galley_of l)) (part_slice c.loop-k.at _ c.args.chapters.galleys.now)

pub returns-in_err-g : goal.returns-in_err-g
returns-in_err-g c =
    let t = next (goal.at.returns-in_err-g c).In-loop-k in
    let (n, e, same) = read_err _ _ _ (sym (lent (goal.at.returns-in_err-g c).After-chapter_read) ∙ c.in_err-g.was) in
    let p = err_from_is_err_and c.from_residual.result c.from_residual.ensures.1 in
    rw (p.1, p.2, ← same) (underway_refused c.loop-k.invariant.underway _ t.0 t.1 n e)

pub returns-in-Some : goal.returns-in-Some
returns-in-Some c =
    let t = next (goal.at.returns-in-Some c).In-loop-k in
    let e = read_ok _ _ _ (sym (lent (goal.at.returns-in-Some c).After-chapter_read) ∙ c.in_ok-g.was) in
    underway_unfit c.loop-k.invariant.underway _ t.0 t.1 _ e _ (sym c.unfit_after.ensures ∙ c.in-Some.is)

pub with_chapter-book-requires-in-loop-k : goal.with_chapter-book-requires-in-loop-k
with_chapter-book-requires-in-loop-k c =
    let t = next (goal.at.with_chapter-book-requires-in-loop-k c).In-loop-k in
    let e = read_ok _ _ _ (sym (lent (goal.at.with_chapter-book-requires-in-loop-k c).After-chapter_read) ∙ c.in_ok-g.was) in
    (underway_roomy c.loop-k.invariant.underway t.1, read_few _ _ e)

pub loop-k-preserved : goal.loop-k-preserved
loop-k-preserved c =
    let t = next (goal.at.loop-k-preserved c).In-loop-k in
    let e = read_ok _ _ _ (sym (lent (goal.at.loop-k-preserved c).After-chapter_read) ∙ c.in_ok-g.was) in
    rw c.with_chapter-book-in-loop-k.ensures
    (record {
      counted = omega (arith, c.loop-k.invariant.counted);
      underway = underway_next c.loop-k.invariant.underway _ t.0 t.1 _ e (sym c.unfit_after.ensures ∙ c.in_default.is);
    })

pub returns : goal.returns
returns c =
    underway_done c.loop-k.invariant.underway
    (omega (arith, c.loop-k.invariant.counted, c.loop-k-test.false))
