-- `best_pages` meets its contract: the walk back over the filled work area writes what follows the opening in the best list, and marking
-- the whole gives its counts; or the full place is not reached, and there is none.
use Prim.Native.Nat.{◌+◌, ◌*◌, ◌≤◌}
use borrow.Author.Rules.{rules}
use native.Mathlib.Omega.{arith}
use lib.ListN.{length}
use mathlib.Core.Path.{refl}
use Rattle.galley.proofs.laws.Sound.{sound}
use Rattle.solving.specs.laws.Solved.{solved_lent, walk_visits, walk_able, walk_none, walk_room, walk_small, walk_writable, walk_written}
use Rattle.solving.proofs.best_pages.Goals as goal
use Rattle.solving.proofs.best_pages.Goals.{After-count_pages-p, After-page_words}

pub last_stop-last-requires : goal.last_stop-last-requires
last_stop-last-requires c =
    let p = c.requires in
    (solved_lent p, (sound _ _ p.reads).some_folio)

pub reached-requires : goal.reached-requires
reached-requires c =
    let p = c.requires in
    (solved_lent p, walk_visits p _ c.last_stop-last.ensures)

pub returns-then-not-reached : goal.returns-then-not-reached
returns-then-not-reached c =
    walk_none c.requires _ c.last_stop-last.ensures _ c.reached.ensures c.if-not-reached.true

pub count_pages-p-requires : goal.count_pages-p-requires
count_pages-p-requires c = walk_able c.requires _ c.last_stop-last.ensures

-- The whole list fits the page list.
room : (c : After-count_pages-p) → length c.args.opening.now ≤ length c.args.pages.now
room c =
    omega (
      arith,
      walk_room c.requires _ c.last_stop-last.ensures _ c.reached.ensures _ c.count_pages-p.ensures c.if-not-reached.false,
    )

pub write_pages-requires : goal.write_pages-requires
write_pages-requires c =
    walk_writable c.requires _ c.last_stop-last.ensures _ c.reached.ensures _ c.count_pages-p.ensures c.if-not-reached.false _
    (search (rules, room (goal.at.write_pages-requires c).After-count_pages-p))

-- All words of the list are few.
small : (c : After-page_words)
    → (let args = c.args in length args.opening.now + c.page_words.result * c.count_pages-p.result ≤ 12750)
small c =
    rw c.page_words.ensures.1
    (walk_small c.requires _ c.last_stop-last.ensures _ c.reached.ensures _ c.count_pages-p.ensures c.if-not-reached.false)

-- They fit the page list.
fits : (c : After-page_words)
    → (let args = c.args in
    length args.opening.now + c.page_words.result * c.count_pages-p.result ≤ length args.pages.now)
fits c =
    rw c.page_words.ensures.1
    (walk_room c.requires _ c.last_stop-last.ensures _ c.reached.ensures _ c.count_pages-p.ensures c.if-not-reached.false)

pub returns : goal.returns
returns c =
    walk_written c.requires _ c.last_stop-last.ensures _ c.reached.ensures _ c.count_pages-p.ensures c.if-not-reached.false _ _ _ _
    c.copy_words.ensures refl
    (c.write_pages.ensures c.args.s.now) refl _ (rw c.page_words.ensures.1 at c.mark.ensures)

pub copy_words-requires : goal.copy_words-requires
copy_words-requires c = room (goal.at.copy_words-requires c).After-count_pages-p

pub offset_bounds-pages-begun : goal.offset_bounds-pages-begun
offset_bounds-pages-begun c = search (rules, room (goal.at.offset_bounds-pages-begun c).After-count_pages-p)

pub slice_bounds-write_pages-count : goal.slice_bounds-write_pages-count
slice_bounds-write_pages-count c = search (rules, room (goal.at.slice_bounds-write_pages-count c).After-count_pages-p)

pub slice_bounds-write_pages-start : goal.slice_bounds-write_pages-start
slice_bounds-write_pages-start c = search (rules, room (goal.at.slice_bounds-write_pages-start c).After-count_pages-p)

pub slice_bounds-write_pages-end : goal.slice_bounds-write_pages-end
slice_bounds-write_pages-end c = search (rules, room (goal.at.slice_bounds-write_pages-end c).After-count_pages-p)

pub overflow_mul-words : goal.overflow_mul-words
overflow_mul-words c = omega (arith, small (goal.at.overflow_mul-words c).After-page_words)

pub overflow_add-words : goal.overflow_add-words
overflow_add-words c = omega (arith, small (goal.at.overflow_add-words c).After-page_words)

pub slice_bounds-mark-end : goal.slice_bounds-mark-end
slice_bounds-mark-end c = search (rules, fits (goal.at.slice_bounds-mark-end c).After-page_words)
