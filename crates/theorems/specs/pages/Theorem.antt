-- From any origin the optimal way through the graph of pages has the least of the lists that go on from there; where the end is
-- unreached, every list that goes on costs more than the table's limit.
use Rattle.std.specs.Prelude.{ℕ, suc, ◌+◌, ◌≤◌, ◌<◌, ◌≡◌, ◌↔◌, true, List}
use Rattle.std.proofs.Math.Decide.{dec_lt}
use Rattle.std.proofs.Common.{arith, sym, ◌∙◌, ap}
use Rattle.model.specs.Galley.{Galley, Place, sizes}
use Rattle.model.specs.laws.Lists.{Inside}
use Rattle.theorems.specs.optimality.Graph.{unreached, least, Way, total, First, Optimal}
use Rattle.theorems.specs.optimality.Cell.{Table, Right, Trace, Answer}
use Rattle.theorems.specs.optimality.Theorem.{optimality}
use Rattle.theorems.specs.turns.Rank.{ranked}
use Rattle.theorems.specs.pages.Graph.{State, end, Origin, Within, page_graph, pages_on, way_of}
use Rattle.theorems.specs.pages.Laws.{page_laws, page_domain}
use Rattle.theorems.specs.pages.Lists.{Follows, way_follows, way_costs, list_way, list_pages}
use Rattle.theorems.specs.pages.Ties.{before_from, before_ways}

-- ps goes on from the origin, and no list that does comes before it, where `earlier` are the starts of the pages before.
pub record LeastFrom (g : Galley) (from : Origin) (earlier ps : List Place) : Type 0 where
  pub follows : Follows g from ps
  pub ahead : (qs : List Place) → Follows g from qs → before_from g from earlier ps qs ≡ true

module _ (g : Galley) (from : Origin) (inside : Inside (sizes g) from.place) where
  -- A way to the end is optimal exactly where its list is the least, whatever the earlier starts.
  pub optimal_least : (earlier : List Place) (us : List State) → Way (page_graph g from) us end
      → Optimal (page_graph g from) us end ↔ LeastFrom g from earlier (pages_on us)
  optimal_least earlier us w = (
    λ o. record {
      follows = way_follows g from us w;
      ahead = λ qs f.
          let x = list_way g from inside qs f in
          rw (← list_pages g from qs)
          ((before_ways g from earlier us (way_of g from qs) w x).1 (o.cheapest _ x, o.first _ x));
    },
    λ l. record { way = w; cheapest = λ ws x. (ahead l ws x).0; first = λ ws x. (ahead l ws x).1 },
  )
    where
      ahead : LeastFrom g from earlier (pages_on us) → (ws : List State) → Way (page_graph g from) ws end
          → (total (page_graph g from) us end ≤ total (page_graph g from) ws end)
          × (total (page_graph g from) ws end ≡ total (page_graph g from) us end → First (page_graph g from) us ws)
      ahead l ws x = (before_ways g from earlier us ws w x).0 (l.ahead (pages_on ws) (way_follows g from ws x))

  module _ (most : ℕ) (D : Table (page_graph g from)) (right : Right (page_graph g from) most D (Within g from)) where
    -- The principle of optimality: what the entry of the end of a right table tells.
    tells : Answer (page_graph g from) most D end (D end)
    unfolding Within
    tells = optimality (page_graph g from) (page_laws g from) (page_domain g from) most D right end tt

    -- Where the end is unreached, every list that goes on from the origin costs more than the limit.
    pub table_empty : D end ≡ unreached → (ps : List Place) → Follows g from ps
        → most < from.cost + ranked g (suc from.pages) from.place ps
    table_empty e ps f =
        let w = list_way g from inside ps f in
        let costs = way_costs g from (way_of g from ps) w ∙ ap (λ qs. from.cost + ranked g (suc from.pages) from.place qs) (list_pages g from ps) in
        go (dec_lt most (total (page_graph g from) (way_of g from ps) end)) costs (tells.none e (way_of g from ps) w)
      where
        go : {c d : ℕ} → Dec (most < c) → c ≡ d → ¬ (c ≤ most) → most < d
        go (yes l) q n = omega arith
        go (no l) q n = absurd (n (omega arith))

    -- Where the end is reached the walk back from it meets the least list, and its entry holds what all pages cost
    -- with their white.
    pub table_least : (earlier : List Place) (c : ℕ) (u : State) → D end ≡ least c u
        → (us : List State) × Trace (page_graph g from) D us end × LeastFrom g from earlier (pages_on us)
        × (from.cost + ranked g (suc from.pages) from.place (pages_on us) ≡ c)
    table_least earlier c u e =
        let (us, w) = tells.found c u e in
        let way = w.optimal.way in
        (us, w.trace, (optimal_least earlier us way).0 w.optimal, sym (way_costs g from us way) ∙ w.cost)
