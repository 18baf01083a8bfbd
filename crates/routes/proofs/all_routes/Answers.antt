-- `all_routes` goes on chapter by chapter. The invariant says that the routes before chapter k are those of the theorem.
use borrow.Author.Rules.{rules}
use Rattle.routes.specs.laws.Book.{book_lies, book_first, routing_first, routing_room, routing_next, routing_done}
use Rattle.routes.proofs.all_routes.Goals as goal

pub opening_routes-routes-requires : goal.opening_routes-routes-requires
opening_routes-routes-requires c = book_first c.requires.0

pub loop-k-init : goal.loop-k-init
loop-k-init c = routing_first c.requires.0 c.requires.1 c.opening_routes-routes.ensures

pub bytes_of-chapter-requires : goal.bytes_of-chapter-requires
bytes_of-chapter-requires c = let l = book_lies c.requires.0 _ c.loop-k-test.true in record { numbered = l.numbered; within = l.within }

pub next_routes-routes-requires : goal.next_routes-routes-requires
next_routes-routes-requires c = rw c.bytes_of-chapter.ensures (routing_room c.requires.0 c.loop-k.invariant c.loop-k-test.true)

pub loop-k-preserved : goal.loop-k-preserved
loop-k-preserved c =
    routing_next c.requires.0 c.loop-k.invariant c.loop-k-test.true (rw c.bytes_of-chapter.ensures at c.next_routes-routes.ensures) (search rules)

pub returns : goal.returns
returns c = routing_done c.requires.0 c.loop-k.invariant c.loop-k-test.false
