-- Each way to the end has a list that goes on from the origin, at the same cost, and each such list is that of a way.
use Prim.Native.Nat.{ℕ, zero, suc, ◌+◌, ◌≤◌}
use Rattle.std.proofs.Math.Nat.{le_refl, le_trans}
use Rattle.std.proofs.Math.Decide.{dec_le}
use native.Mathlib.Omega.{arith}
use Rattle.std.proofs.Math.Path.{◌≡◌, refl, sym, ap}
use Rattle.std.proofs.Common.{◌∙◌}
use Rattle.std.specs.Prelude.{true}
use mathlib.Core.List.{List, [], ◌∷◌}
use Rattle.std.proofs.Math.ListN.{get_or, get_or-eq_default}
use Rattle.model.specs.Gather.{row}
use Rattle.model.specs.Galley.{Galley, Place, count, streams, zeros, sizes}
use Rattle.model.specs.Rules.{forward}
use Rattle.model.specs.Answers.{ended}
use Rattle.model.specs.Best.{allowed}
use Rattle.model.proofs.laws.Gather.{and_left, and_right, length_row}
use Rattle.model.proofs.laws.Rules.{kept, forward_at}
use Rattle.model.specs.laws.Judge.{accepts}
use Rattle.model.specs.laws.Words.{Shaped}
use Rattle.model.specs.laws.Lists.{Inside, AllInside}
use Rattle.model.proofs.laws.Valid.{same_true, same_refl, length_sizes, inside_shaped, all_inside}
use Rattle.theorems.specs.optimality.Graph.{Way, total}
use Rattle.model.specs.White.{whites}
use Rattle.theorems.specs.turns.Waiting.{page_sum, costs}
use Rattle.theorems.specs.turns.Rank.{ranked}
use Rattle.theorems.specs.pages.Graph.{State, stop, end, side, Origin, Within, Step, price, page_graph, pages_to, pages_on, stops_of, way_of}
use Rattle.theorems.specs.pages.Sides.{side_side, side_next}
use Rattle.theorems.specs.pages.Ways.{same_rules, Reads, reads}

-- A list of pages that goes on from the origin: each page keeps the rules, and the last ends at the full place.
pub record Follows (g : Galley) (from : Origin) (ps : List Place) : Type 0 where
  pub shaped : Shaped (streams g) ps
  pub taken : accepts (allowed g) (sizes g) (suc from.pages) from.place ps ≡ true

module _ (g : Galley) where
  -- Every place is past that where nothing is placed.
  pub past_beginning : (v : Place) → Inside (sizes g) v → Inside v (zeros g)
  unfolding zeros row
  past_beginning v i =
      record {
        long = length_row 0 (streams g) (λ s. 0) ∙ sym (i.long ∙ length_sizes g);
        under = λ s. let z = nothing 0 (streams g) s in omega arith;
      }
    where
      nothing : (a n s : ℕ) → get_or (row a n (λ s. 0)) s 0 ≡ 0
      nothing a zero s = refl
      nothing a (suc n) zero = refl
      nothing a (suc n) (suc s) = nothing (suc a) n s

  -- The full place is past it, and so the beginning lies in the table.
  pub zeros_inside : Inside (sizes g) (zeros g)
  zeros_inside = past_beginning (sizes g) (record { long = refl; under = λ s. le_refl _ })

  -- A page from past a place stops past it.
  past_on : (a u v : Place) → Inside (sizes g) u → Inside (sizes g) v → Inside u a → forward g u v ≡ true → Inside v a
  unfolding count streams
  past_on a u v i j past h = record { long = past.long ∙ i.long ∙ sym j.long; under = λ s. go s (dec_le s g.floats) }
    where
      go : (s : ℕ) → Dec (s ≤ g.floats) → get_or a s 0 ≤ get_or v s 0
      go s (yes l) = le_trans (past.under s) ((forward_at g u v h).up s l)
      go s (no n) =
          let long = past.long ∙ i.long ∙ length_sizes g in
          rw (get_or-eq_default a 0 {n = s} (omega arith)) (omega arith)

module _ (g : Galley) (from : Origin) where
  -- A way to the end is a way to the full place, and there the reading of its pages begins.
  pub record Ends (us : List State) : Type 0 where
    pub stops : List State
    pub side : ℕ
    pub last : us ≡ stop (sizes g) side ∷ stops
    pub way : Way (page_graph g from) stops (stop (sizes g) side)
    pub read : Reads g from stops (sizes g) side [] (pages_on us)

  pub way_ends : (us : List State) → Way (page_graph g from) us end → Ends us
  unfolding Way Step pages_to accepts Within
  way_ends [] e = absurd cc
  way_ends (stop v c ∷ us) (p, w) =
      let f = p.whole in
      let w' : Way (page_graph g from) us (stop (sizes g) c) = rw f at w in
      record {
        stops = us;
        side = c;
        last = cc;
        way = w';
        read = rw f (reads g from us (sizes g) c [] w' (rw f at p.within.0) tt (same_refl (sizes g)));
      }
  way_ends (end ∷ us) (p, w) = absurd p

  -- The list of a way to the end goes on from the origin.
  pub way_follows : (us : List State) → Way (page_graph g from) us end → Follows g from (pages_on us)
  way_follows us w =
      let e = way_ends us w in
      record { shaped = inside_shaped g (pages_on us) e.read.inside; taken = e.read.taken }

  -- A way to the end costs what is paid at the origin and what the pages of its list cost with their white.
  pub way_costs : (us : List State) → Way (page_graph g from) us end
      → total (page_graph g from) us end ≡ from.cost + ranked g (suc from.pages) from.place (pages_on us)
  unfolding total price ranked costs page_sum whites
  way_costs us w =
      let e = way_ends us w in
      let c = e.read.cost in
      let l : total (page_graph g from) us end ≡ total (page_graph g from) e.stops (stop (sizes g) e.side) + 0 =
      ap (λ x. total (page_graph g from) x end) e.last in
      omega arith

  -- An accepted list after a way is a way to the end.
  stops_way : (q : ℕ) (u : Place) (ps : List Place) (after : List State)
      → Way (page_graph g from) after (stop u (side g.spec.sides q)) → Inside (sizes g) u → Inside u from.place
      → AllInside (sizes g) ps → accepts (allowed g) (sizes g) (suc q) u ps ≡ true
      → Way (page_graph g from) (stops_of g.spec.sides q u ps after) end
  unfolding Way Step stops_of accepts Within
  stops_way q u [] after w i past is h =
      (record { within = (i, side_side g.spec.sides q, past); whole = same_true u (sizes g) h }, w)
  stops_way q u (v ∷ vs) after w i past is h =
      let rest = and_right (allowed g (suc q) (ended vs) u v) (accepts (allowed g) (sizes g) (suc (suc q)) v vs) h in
      let here = and_left (allowed g (suc q) (ended vs) u v) (accepts (allowed g) (sizes g) (suc (suc q)) v vs) h in
      stops_way (suc q) v vs (stop u (side g.spec.sides q) ∷ after) (
        record {
          within = (i, side_side g.spec.sides q, past);
          next = sym (side_next g.spec.sides q);
          may = same_rules g (suc q) v vs rest u ∙ here;
        },
        w,
      )
      is.0 (past_on g from.place u v i is.0 past (kept here).rule13) is.1 rest

  -- The pages of a list's stops are the list.
  pages_stops : (q : ℕ) (u : Place) (ps : List Place) (after : List State)
      → pages_on (stops_of g.spec.sides q u ps after) ≡ pages_to after (stop u (side g.spec.sides q)) ps
  unfolding stops_of pages_to
  pages_stops q u [] after = refl
  pages_stops q u (v ∷ vs) after = pages_stops (suc q) v vs (stop u (side g.spec.sides q) ∷ after)

  -- A list that goes on from an origin inside the full place is a way to the end,
  pub list_way : Inside (sizes g) from.place → (ps : List Place) → Follows g from ps
      → Way (page_graph g from) (way_of g from ps) end
  unfolding Way
  list_way i ps f =
      stops_way from.pages from.place ps [] refl i (record { long = refl; under = λ s. le_refl _ })
      (all_inside g (suc from.pages) from.place ps f.shaped f.taken) f.taken

  -- whose list it is.
  pub list_pages : (ps : List Place) → pages_on (way_of g from ps) ≡ ps
  unfolding pages_to
  list_pages ps = pages_stops from.pages from.place ps []
