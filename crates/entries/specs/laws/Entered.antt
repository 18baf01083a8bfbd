-- Starts lie before their ends and costs stay small: what every entry keeps, whatever the work area held before.
use Rattle.std.specs.Prelude.{ℕ, zero, suc, ◌+◌, ◌*◌, ◌≤◌, ◌<◌, ◌≡◌, Bool, false, ◌&&◌, None}
use Rattle.std.proofs.Common.{le_refl, le_trans, arith, ◌∙◌}
use Rattle.std.proofs.Math.Nat.{mul-le-mul_right, suc-mul}
use Rattle.std.proofs.Math.Path.{refl}
use Rattle.std.proofs.Math.Bool.{true}
use Rattle.std.proofs.Math.Dec.{eqb}
use borrow.Author.Tests.{eqb-true}
use Rattle.model.specs.Gather.{pick}
use Rattle.model.specs.Galley.{Sides, single, double, Galley}
use Rattle.model.specs.Galley as model
use Rattle.model.specs.Leaf.{sides_of}
use Rattle.model.proofs.laws.Gather.{and_left, and_right}
use Rattle.model.proofs.laws.Rules.{placed_grows}
use Rattle.model.specs.laws.Lists.{Inside}
use Rattle.theorems.specs.turns.Waiting.{page_cost}
use Rattle.model.proofs.laws.White.{page_white_le}
use Rattle.theorems.specs.turns.Rank.{rank}
use Rattle.theorems.specs.turns.Bounds.{cost_le}
use Rattle.theorems.specs.pages.Graph.{side, full}
use Rattle.places.specs.declared.Place.{Place}
use Rattle.places.specs.declared.Origin.{Origin}
use Rattle.places.specs.Entry.{Entry, least}
use Rattle.places.specs.Columns.{columns, float_sizes, place_at}
use Rattle.places.proofs.laws.Best.{least_same, no_reach}
use Rattle.places.proofs.laws.Places.{place_inside, forward_inside}
use Rattle.candidates.specs.Search.{Table, before, Search, white_from, best_start, most_from, priced, may_stop, begins, new_entry}
use Rattle.candidates.proofs.laws.Priced.{priced_least}
use Rattle.candidates.specs.Beside.{Sought}
use Rattle.candidates.proofs.laws.Found.{best_start_lem}
use Rattle.candidates.proofs.laws.Pages.{candidate_forward, candidate_earlier}
use Rattle.entries.specs.Fill.{side_count}
use Rattle.entries.specs.Filled.{Side, placed_at, Light, Entered, Filled}

-- Sides that occur are 0 and 1, and those below their number; the side before one that occurs occurs.
pub side_low : (sides : Sides) (c : ℕ) → Side sides c → c ≤ 1
unfolding side
side_low single c h = omega arith
side_low (double f) c h = omega arith

pub side_below : (sides : Sides) (c : ℕ) → Side sides c → c < side_count sides
unfolding side side_count
side_below single c h = omega arith
side_below (double f) c h = omega arith

pub below_side : (sides : Sides) (c : ℕ) → c < side_count sides → Side sides c
unfolding side side_count
below_side single c h = omega arith
below_side (double f) c h = omega arith

-- They are as many as the field says.
pub sides_count : (n f : ℕ) → 1 ≤ n → n ≤ 2 → side_count (sides_of n f) ≡ n
unfolding sides_of side_count
sides_count zero f some two = absurd (omega arith)
sides_count (suc zero) f some two = refl
sides_count (suc (suc zero)) f some two = refl
sides_count (suc (suc (suc n))) f some two = absurd (omega arith)

pub count_low : (sides : Sides) → side_count sides ≤ 2
unfolding side_count
count_low single = omega arith
count_low (double f) = omega arith

-- The page before is on side 0 or 1.
pub before_low : (sides : Sides) (c : ℕ) → before sides c ≤ 1
unfolding before
before_low single c = omega arith
before_low (double f) c = omega arith

pub side_before : (sides : Sides) (c : ℕ) → Side sides c → Side sides (before sides c)
unfolding side before
side_before single c h = refl
side_before (double f) c h = omega arith

-- No count below another's is below that of a third.
inside_trans : {u v w : model.Place} → Inside v w → Inside u v → Inside u w
inside_trans h k = record { long = h.long ∙ k.long; under = λ s. le_trans (h.under s) (k.under s) }

-- A start found for (i, q): it lies before, its cost with the page's white is small, and it is past the origin.
pub record Found (g : Galley) (from : Origin) (i q x : ℕ) (r : Place) : Type 0 where
  pub line : r.line ≤ i
  pub column : r.column ≤ q
  pub less : placed_at g r.line r.column < placed_at g i q
  pub dear : x ≤ from.cost + placed_at g r.line r.column * 1078036791396000 + g.spec.htmax
  pub past : Inside (place_at g i q) (place_at g from.place.line from.place.column)

-- No page has more white than htMax.
white_low : (s : Search) (a b : ℕ) → white_from s a b ≤ s.galley.spec.htmax
unfolding white_from
white_low s a b = page_white_le s.galley _ _ _

-- So is the best start, if there is one.
pub best_entered : (s : Search) (from : Origin) → Sought s → Filled s.galley from s.table s.line s.column
    → Side s.galley.spec.sides s.side → (x : ℕ) (r : Place) → best_start s ≡ least x r
    → Found s.galley from s.line s.column x r
best_entered s from sought fill side x r e =
    let c = ((best_start_lem s).may x r e).1 in
    let h = sought.high in
    let wide = sought.wide in
    let low = c.line in
    let left = c.column in
    let f = candidate_forward s sought r.line r.column x c in
    let before =
    fill.entered r.line r.column s.side c.reached.own c.reached.start (candidate_earlier s sought r.line r.column x c) (omega arith)
    side c.reached.entry in
    let u = place_at s.galley r.line r.column in
    let v = place_at s.galley s.line s.column in
    record {
      line = low;
      column = left;
      less = placed_grows s.galley u v f;
      dear = omega (arith, before.dear, c.reached.whole, white_low s r.line r.column);
      past =
          inside_trans before.past
          (forward_inside s.galley u v (place_inside s.galley r.line r.column (omega arith) (omega arith))
          (place_inside s.galley s.line s.column h wide) f);
    }

module _ (g : Galley) (light : Light g) (from : Origin) (t : Table) (i q c : ℕ) (high : i ≤ (g.stream 0).size)
    (wide : q < columns (float_sizes g)) (fill : Filled g from t i q) (occurs : Side g.spec.sides c) where
  search : Search
  search = record { galley = g; table = t; line = i; column = q; side = before g.spec.sides c }

  priced_entered : (e : Entry) → best_start search ≡ e → (x : ℕ) (r : Place)
      → priced (most_from from) (rank (page_cost g c (full g (place_at g i q)) (place_at g i q)) 0) e ≡ least x r → Entered g from i q x r
  unfolding search
  priced_entered e b x r p =
      let paid = priced_least _ _ e x r p in
      let found =
      best_entered search from (record { high = high; wide = wide }) fill (side_before g.spec.sides c occurs) paid.own r (b ∙ paid.entry) in
      let cost = cost_le g c (full g (place_at g i q)) (place_at g i q) in
      let most = mul-le-mul_right 1078036791396000 found.less in
      let s = suc-mul (placed_at g r.line r.column) 1078036791396000 in
      record {
        line = found.line;
        column = found.column;
        less = λ _. found.less;
        dear = omega (arith, found.dear, light.dear, light.low, paid.whole);
        past = found.past;
      }

  -- The entry that a place gets keeps what entries keep, if those before it do.
  pub entry_entered : (x : ℕ) (r : Place) → new_entry g from t i q c ≡ least x r → Entered g from i q x r
  unfolding new_entry search begins
  entry_entered x r e = go (begins g.spec.sides from i q c) refl (may_stop g i q c) e
    where
      here : begins g.spec.sides from i q c ≡ true → (i ≡ from.place.line) × (q ≡ from.place.column)
      here t =
          let rest = eqb q from.place.column && eqb c (side g.spec.sides from.pages) in (
            eqb-true i from.place.line (and_left (eqb i from.place.line) rest t),
            eqb-true q from.place.column (and_left (eqb q from.place.column) _ (and_right (eqb i from.place.line) rest t)),
          )

      first : (i ≡ from.place.line) × (q ≡ from.place.column) → (x : ℕ) (r : Place) → least from.cost from.place ≡ least x r
          → Entered g from i q x r
      first (l, k) x r e =
          let (paid, at) = least_same e in
          rw (← at, ← paid)
          (record {
            line = omega arith;
            column = omega arith;
            less = λ n. absurd (n (l, k));
            dear = omega arith;
            past = rw (l, k) (record { long = refl; under = λ s. le_refl _ });
          })

      go : (a : Bool) → begins g.spec.sides from i q c ≡ a → (b : Bool)
          → pick a (least from.cost from.place)
          (pick b (priced (most_from from) (rank (page_cost g c (full g (place_at g i q)) (place_at g i q)) 0) (best_start search)) None)
          ≡ least x r → Entered g from i q x r
      go true a b e = first (here a) x r e
      go false a true e = priced_entered (best_start search) refl x r e
      go false a false e = absurd (no_reach e)
