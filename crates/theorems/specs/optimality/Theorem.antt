-- The principle of optimality: where every cell is right, the table tells the best way to each state of the domain, or that none
-- leads there within the table's limit.
-- The main theorem is the last, `optimality`; the laws before it are its parts, each of use alone.
use mathlib.Core.List.{List, [], ◌∷◌}
use Rattle.std.specs.Prelude.{◌≡◌, ◌⊎◌, length}
use Rattle.std.proofs.Math.Path.{refl}
use Rattle.std.proofs.Common.{sym, inl, inr}
use Prim.Native.Nat.{ℕ, suc, zero, ◌≤◌, ◌<◌}
use native.Mathlib.Omega.{arith}
use Rattle.theorems.specs.optimality.Graph.{Graph, Laws, Entry, unreached, least, Way, total, First, Optimal}
use Rattle.theorems.specs.optimality.Cell.{Table, Domain, Ahead, Offer, Seen, base, inner, Right, Trace, Answer}

module _ (G : Graph) (L : Laws G) where
  open G use {S}

  -- Two lists of starts that each come first are the same.
  pub first_antisym : (us vs : List S) → First G us vs → First G vs us → us ≡ vs
  unfolding First
  first_antisym [] [] f g = refl
  first_antisym [] (v ∷ vs) f g = absurd g
  first_antisym (u ∷ us) [] f g = absurd f
  first_antisym (u ∷ us) (v ∷ vs) f g =
      let e = L.tie_antisym f.0 g.0 in
      let r = first_antisym us vs (f.1 e) (g.1 (sym e)) in
      cc

  -- There is at most one optimal way to a state.
  pub optimal_unique : {us vs : List S} {v : S} → Optimal G us v → Optimal G vs v → us ≡ vs
  optimal_unique {us} {vs} p q =
      let e = L.le_antisym (p.cheapest vs q.way) (q.cheapest us p.way) in
      first_antisym us vs (p.first vs q.way (sym e)) (q.first us p.way e)

module _ (G : Graph) (L : Laws G) (R : Domain G) (most : G.C) (D : Table G) (right : Right G most D R.In) where
  open G use {S, o, C, step, nil, add, le}

  -- The origin is reached, at the cost nil.
  pub at_origin_lem : {v : S} → R.In v → v ≡ o → (u : S) × (D v ≡ least nil u)
  at_origin_lem {v} i e = elim (right v i) [ base e' u p ↦ (u, p) | inner n s ↦ absurd (n e) ]

  -- Any other state has the best that all starts offer.
  pub past_origin : {v : S} → R.In v → ¬ (v ≡ o) → Seen G most D v (D v)
  past_origin {v} i n = elim (right v i) [ base e u p ↦ absurd (n e) | inner n' s ↦ s ]

  -- One step back: the start in an entry is reached, has a step at the entry's cost, and lies in the domain, lower.
  pub step_back :
      {v : S} {c : C} {u : S}
      → R.In v
      → ¬ (v ≡ o)
      → D v ≡ least c u
      → Offer G D v c u × R.In u × (R.rank u < R.rank v)
  step_back {v} {c} {u} i n p =
      let (x, _) = (past_origin i n).offered c u p in
      (x, R.closed i x.may, R.falls i x.may)

  -- A reached start is on offer at its cost with the step added.
  pub on_offer : {u v : S} {a : C} {s : S} → step u v → D u ≡ least a s → Offer G D v (add u v a) u
  on_offer m p = record { may = m; cost = _; start = _; reached = p; price = refl }

  -- A state with a way within the limit is reached, at no higher cost than the way's.
  pub reached :
      (us : List S) {v : S}
      → R.In v
      → Way G us v
      → le (total G us v) most
      → (c : C) × (u : S) × (D v ≡ least c u) × le c (total G us v)
  unfolding Way total Ahead
  reached [] i w h = let (u, p) = at_origin_lem i w in (nil, u, p, L.le_refl nil)
  reached (u ∷ us) {v} i (m, w) h =
      let (a, t, p, l) = reached us (R.closed i m) w (L.le_trans (L.add_grows u v (total G us u)) h) in
      let k = L.add_mono u v l in
      go (D v) refl ((past_origin i (L.origin m)).best _ u (on_offer m p) (L.le_trans k h)) k
    where
      go :
          {d b : C}
          → (e : Entry C S)
          → D v ≡ e
          → Ahead G e (least d u)
          → le d b
          → (c : C) × (s : S) × (D v ≡ least c s) × le c b
      go unreached q h k = absurd h
      go (least c s) q h k = (c, s, q, L.le_trans h.0 k)

  -- Past the origin an entry's cost is within the limit.
  pub entry_within : {v : S} {c : C} {u : S} → R.In v → ¬ (v ≡ o) → D v ≡ least c u → le c most
  entry_within {v} {c} {u} i n p = ((past_origin i n).offered c u p).1

  -- The walk back is a way, and the entry that it begins at holds the way's cost.
  pub trace_way :
      (us : List S) {v : S}
      → R.In v
      → Trace G D us v
      → Way G us v × ((u : S) × (D v ≡ least (total G us v) u))
  unfolding Way total Trace
  trace_way [] i t = (t, at_origin_lem i t)
  trace_way (u ∷ us) i (n, (c, p), t) =
      let (x, j, l) = step_back i n p in
      let (w, (s, q)) = trace_way us j t in
      ((x.may, w), (u, cc))

  -- The walk back has at most as many steps as the rank of the state that it begins at.
  pub trace_length : (us : List S) {v : S} → R.In v → Trace G D us v → length us ≤ R.rank v
  unfolding Trace
  trace_length [] i t = omega arith
  trace_length (u ∷ us) i (n, (c, p), t) =
      let (x, j, l) = step_back i n p in
      omega (arith, trace_length us j t)

  -- From a state that is reached the walk back ends, at the origin.
  pub traced : {v : S} {c : C} {u : S} → R.In v → D v ≡ least c u → (us : List S) × Trace G D us v
  unfolding Trace
  traced {v} i p = go (suc (R.rank v)) (omega arith) i p
    where
      go :
          (n : ℕ) {v : S} {c : C} {u : S} → R.rank v < n → R.In v → D v ≡ least c u → (us : List S) × Trace G D us v
      go zero h i p = absurd (omega arith)
      go (suc n) {v} {c} {u} h i p =
          elim (right v i) [
            | base e s q ↦ ([], e)
            | inner m s ↦
                let (x, j, l) = step_back i m p in
                let (us, t) = go n {v = u} (omega arith) j x.reached in
                (u ∷ us, (m, (c, p), t))
          ]

  -- Of all ways that cost as much, the walk back comes first.
  pub trace_first :
      (us vs : List S) {v : S} → R.In v → Trace G D us v → Way G vs v → total G vs v ≡ total G us v → First G us vs
  unfolding Way total First Trace Ahead
  trace_first [] vs i t w e = tt
  trace_first (u ∷ us) [] i t w e = absurd (t.0 w)
  trace_first (u ∷ us) (w ∷ ws) {v} i (n, (c, p), t) (m, x) e =
      let (_, (_, r)) = trace_way (u ∷ us) i (n, (c, p), t) in
      let f : add w v (total G ws w) ≡ c = cc in
      let near : le (add w v (total G ws w)) most = rw f (entry_within i n p) in (
        go f near (reached ws (R.closed i m) x (L.le_trans (L.add_grows w v (total G ws w)) near)),
        λ g. trace_first us ws (step_back i n p).1 t (rw g x) (L.add_cancel u v (rw (← g) at e)),
      )
    where
      go :
          {b : C}
          → add w v b ≡ c
          → le (add w v b) most
          → (a : C) × (s : S) × (D w ≡ least a s) × le a b
          → G.tie u w
      go f near (a, s, q, l) =
          let more = L.add_mono w v l in
          let (h, k) = rw p at ((past_origin i n).best _ w (on_offer m q) (L.le_trans more near)) in
          k (L.le_antisym h (rw f at more))

  -- Of all ways it costs the least: what is not within the limit costs more than what is.
  pub trace_cheapest : (us vs : List S) {v : S} → R.In v → Trace G D us v → Way G vs v → le (total G us v) (total G vs v)
  unfolding Way total Trace
  trace_cheapest [] [] i t w = L.le_refl nil
  trace_cheapest [] (w ∷ ws) i t (m, x) = absurd (L.origin m t)
  trace_cheapest (u ∷ us) vs {v} i (n, (c, p), t) w =
      let (_, (s, r)) = trace_way (u ∷ us) i (n, (c, p), t) in
      go (L.le_total (total G vs v) most) (entry_within i n r)
    where
      go : le (total G vs v) most ⊎ le most (total G vs v) → le (total G (u ∷ us) v) most → le (total G (u ∷ us) v) (total G vs v)
      go (inl h) k =
          let (d, s, q, l) = reached vs i w h in
          let (_, (_, r)) = trace_way (u ∷ us) i (n, (c, p), t) in
          let e : d ≡ total G (u ∷ us) v = cc in
          rw e at l
      go (inr h) k = L.le_trans k h

  -- The walk back is an optimal way.
  pub trace_optimal : {us : List S} {v : S} → R.In v → Trace G D us v → Optimal G us v
  trace_optimal {us} {v} i t =
      record { way = (trace_way us i t).0; cheapest = λ vs. trace_cheapest us vs i t; first = λ vs. trace_first us vs i t }

  -- The principle of optimality: the entry of a state of the domain tells the one optimal way to it, or that none is within the limit.
  pub optimality : (v : S) → R.In v → Answer G most D v (D v)
  optimality v i =
      record {
        none = λ e us w h. let r = reached us i w h in absurd cc;
        found =
            λ c u e.
            let (us, t) = traced i e in
            let best = trace_optimal i t in
            let r = trace_way us i t in
            (us, record { trace = t; cost = cc; optimal = best; only = λ vs p. optimal_unique G L p best });
      }
