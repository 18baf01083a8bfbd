-- The best list that begins with an opening is the opening and then the least list from the origin that it leads to: a right table tells
-- it.
use Rattle.std.specs.Prelude.{ℕ, ◌≤◌, ◌≡◌, List, [], ◌++◌}
use Rattle.std.proofs.Common.{arith, sym, ◌∙◌}
use Rattle.std.proofs.Math.Option.{none, some}
use Rattle.model.specs.Galley.{Galley, Place, Sane, zeros}
use Rattle.model.specs.Turns.{turns}
use Rattle.model.specs.White.{white}
use Rattle.model.specs.Order.{starts_of}
use Rattle.model.specs.Opening.{best_after}
use Rattle.model.proofs.laws.Valid.{valid_accepted}
use Rattle.model.proofs.laws.Opening.{after_valid, valid_after_lem, after_is, after_none}
use Rattle.theorems.specs.optimality.Graph.{unreached, least}
use Rattle.theorems.specs.optimality.Cell.{Table, Right, Trace}
use Rattle.theorems.specs.turns.Rank.{rank}
use Rattle.theorems.specs.turns.Bounds.{Limits, Narrow, dearest_list, list_limit}
use Rattle.theorems.specs.pages.Graph.{State, end, Within, page_graph, pages_on}
use Rattle.theorems.specs.pages.Theorem.{LeastFrom, table_empty, table_least}
use Rattle.theorems.specs.pages.Opening.{after, Opening, end_inside}
use Rattle.theorems.specs.pages.Following.{follows_accepted, accepted_follows, turns_follow, before_follow}

module _ (g : Galley) (sane : Sane g) (narrow : Narrow g) (os : List Place) (opening : Opening g os) where
  -- The opening and the least list from its end on are the best list that begins with it.
  pub least_best : (ps : List Place) → LeastFrom g (after g os) (starts_of (zeros g) os []) ps → best_after g os ≡ some (os ++ ps)
  least_best ps l =
      after_is g os (os ++ ps) (record {
        lawful = valid_after_lem g os ps ((valid_accepted g (os ++ ps)).1 (follows_accepted g os opening ps l.follows));
        ahead = λ qs m.
            let (v, (rs, is)) = after_valid g os qs m in
            let f = accepted_follows g os opening rs ((valid_accepted g (os ++ rs)).0 (rw is at v)) in
            rw is (sym (before_follow g os opening sane narrow ps rs l.follows f) ∙ l.ahead rs f);
      })

  module _ (most : ℕ) (D : Table (page_graph g (after g os))) (right : Right (page_graph g (after g os)) most D (Within g (after g os))) where
    -- Where the end of a right table is unreached within what any list can cost, no valid list begins with the opening.
    pub table_none : Limits g → dearest_list ≤ most → D end ≡ unreached → best_after g os ≡ none
    table_none limits enough e =
        after_none g os
        (λ qs m.
        let (v, (rs, is)) = after_valid g os qs m in
        let accepted = (valid_accepted g (os ++ rs)).0 (rw is at v) in
        let f = accepted_follows g os opening rs accepted in
        let more = table_empty g (after g os) (end_inside g os opening) most D right e rs f in
        let costs = turns_follow g os opening sane rs f in
        let low = list_limit g sane limits (os ++ rs) accepted.taken in
        omega arith)

    -- Where it is reached the walk back from it meets what follows in the best list, and its entry holds the turns and the white.
    pub table_best : (c : ℕ) (u : State) → D end ≡ least c u
        → (us : List State) × Trace (page_graph g (after g os)) D us end × (best_after g os ≡ some (os ++ pages_on us))
        × (rank (turns g (os ++ pages_on us)) (white g (os ++ pages_on us)) ≡ c)
    table_best c u e =
        let (us, trace, l, cost) = table_least g (after g os) (end_inside g os opening) most D right (starts_of (zeros g) os []) c u e in
        (us, trace, least_best (pages_on us) l, turns_follow g os opening sane (pages_on us) l.follows ∙ cost)
