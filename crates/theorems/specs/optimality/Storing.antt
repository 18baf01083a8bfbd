-- A table filled entry by entry: a cell that no start reaches is unreached, and right cells stay right when another is stored.
use Rattle.std.specs.Prelude.{◌⊎◌, ◌≡◌}
use Rattle.std.proofs.Common.{⊎_elim, sym, arith}
use Rattle.theorems.specs.optimality.Graph.{Graph, Entry, unreached}
use Rattle.theorems.specs.optimality.Cell.{Table, Offer, Seen, Cell, base, inner, Right}

-- Where every start with a step to v is unreached, so is v.
pub none_reached : (G : Graph) (most : G.C) (D : Table G) {v : G.S} → ((u : G.S) → G.step u v → D u ≡ unreached)
    → Seen G most D v unreached
none_reached G most D f = grind arith

-- What is offered under D is offered under E, where E has the start's entry.
moved : (G : Graph) (D E : Table G) {v : G.S} {c : G.C} {u : G.S} → (G.step u v → E u ≡ D u) → Offer G D v c u → Offer G E v c u
moved G D E f x = grind arith

module _ (G : Graph) (most : G.C) (D E : Table G) where
  open G use {S, C, step}

  -- A cell stays right while the entries of its starts do not change.
  pub frame : {v : S} {e : Entry C S} → ((u : S) → step u v → E u ≡ D u) → Cell G most D v e → Cell G most E v e
  frame same (base p u q) = base p u q
  frame same (inner n s) =
      inner n (record {
        offered = λ c u q. let (x, m) = s.offered c u q in (moved G D E (same u) x, m);
        best = λ c u x. s.best c u (moved G E D (λ m. sym (same u m)) x);
      })

  -- With the cell of v stored, v is right beside the cells of K, where K holds all their starts.
  pub stored :
      {K M : S → Type 0} {v : S}
      → ((u w : S) → K w → step u w → K u)
      → ((u : S) → step u v → K u)
      → ((w : S) → M w → K w ⊎ (w ≡ v))
      → ((u : S) → K u → E u ≡ D u)
      → Right G most D K
      → Cell G most D v (E v)
      → Right G most E M
  stored closed starts only same right cell w m =
      ⊎_elim (λ k. frame (λ u s. same u (closed u w k s)) (rw (same w k) (right w k)))
      (λ e. rw e (frame (λ u s. same u (starts u s)) cell))
      (only w m)
