-- Places of a galley by line and column: what is inside the full place, the first place and the last, and the orders.
use Rattle.std.specs.Prelude.{ℕ, suc, ◌+◌, ◌-◌, ◌≤◌, ◌<◌, ◌≡◌, ◌↔◌, Bool, true, false, ◌&&◌, length, eqb}
use Rattle.std.proofs.Math.Decide.{dec_le, dec_lt, ℕ_discrete}
use Rattle.std.proofs.Common.{arith, ◌∙◌, inl, inr, eq-eqb, ne_eqb}
use Rattle.std.proofs.Math.Path.{refl, sym, ap}
use mathlib.Core.List.{[], ◌∷◌}
use Rattle.std.proofs.Math.ListN.{get_or, get_or-eq_default}
use Rattle.model.specs.Gather.{row}
use Rattle.model.specs.Galley.{Galley, Place, count, streams, sizes}
use Rattle.model.specs.Answers.{same}
use Rattle.model.specs.Order.{lex, geb}
use Rattle.model.specs.Rules.{forward}
use Rattle.model.proofs.laws.Gather.{length_row}
use Rattle.model.specs.laws.Rules.{placed}
use Rattle.model.proofs.laws.Rules.{Forward, forward_at, placed_grows}
use Rattle.model.specs.laws.Lists.{Inside}
use Rattle.model.proofs.laws.Valid.{same_true, same_refl}
use Rattle.places.specs.Columns.{columns, floats_at, float_sizes, float_place, place_at, column_in}
use Rattle.places.proofs.laws.Columns.{inside_head, inside_tail, inside_cons, column_below, floats_of_column, floats_inside, column_of_floats, column_grows, column_empty, floats_all}
use Rattle.places.specs.Order.{Earlier, NoLater}
use Rattle.places.proofs.laws.Ties.{place_first}

module _ (g : Galley) where
  -- The sizes of a galley's streams are that of the text and those of the floats.
  pub sizes_cons : sizes g ≡ (g.stream 0).size ∷ float_sizes g
  unfolding sizes streams float_sizes row
  sizes_cons = refl

  -- The full place is that of all lines and the last column.
  pub place_all : (c : ℕ) → suc c ≡ columns (float_sizes g) → place_at g (g.stream 0).size c ≡ sizes g
  unfolding place_at
  place_all c h = ap (λ x. (g.stream 0).size ∷ x) (floats_all (float_sizes g) c h) ∙ sym sizes_cons

  -- A line and a column of the galley give a place of it,
  pub place_inside : (i c : ℕ) → i ≤ (g.stream 0).size → c < columns (float_sizes g) → Inside (sizes g) (place_at g i c)
  unfolding place_at
  place_inside i c h k =
      rw sizes_cons
      (inside_cons (g.stream 0).size i (float_sizes g) (floats_at (float_sizes g) c) h (floats_inside (float_sizes g) c k))

  -- whose line is that line and whose column is that column.
  pub line_at : (i c : ℕ) → count (place_at g i c) 0 ≡ i
  unfolding count place_at
  line_at i c = refl

  pub column_at : (i c : ℕ) → c < columns (float_sizes g) → column_in g (place_at g i c) ≡ c
  unfolding column_in place_at float_place
  column_at i c k = column_of_floats (float_sizes g) c k

  -- A place of the galley has a line and a column, and is theirs.
  pub record Located (v : Place) : Type 0 where
    pub line : count v 0 ≤ (g.stream 0).size
    pub column : column_in g v < columns (float_sizes g)
    pub floats : Inside (float_sizes g) (float_place v)
    pub shape : v ≡ count v 0 ∷ float_place v
    pub is : v ≡ place_at g (count v 0) (column_in g v)

  pub place_of : (v : Place) → Inside (sizes g) v → Located v
  unfolding column_in float_place place_at count
  place_of [] h = absurd (omega (arith, rw sizes_cons at h.long))
  place_of (i ∷ js) h =
      let k : Inside ((g.stream 0).size ∷ float_sizes g) (i ∷ js) = rw sizes_cons at h in
      let f = inside_tail (g.stream 0).size i (float_sizes g) js k in
      record {
        line = inside_head (g.stream 0).size i (float_sizes g) js k;
        column = column_below (float_sizes g) js f;
        floats = f;
        shape = refl;
        is = ap (λ x. i ∷ x) (sym (floats_of_column (float_sizes g) js f));
      }

  -- Line and column tell places apart.
  pub place_same : (i c a b : ℕ) → c < columns (float_sizes g) → b < columns (float_sizes g) → place_at g i c ≡ place_at g a b
      → (i ≡ a) × (c ≡ b)
  unfolding place_at
  place_same i c a b h k e =
      let d : column_in g (place_at g i c) ≡ column_in g (place_at g a b) = ap (column_in g) e in
      (ap (λ v. get_or v 0 0) e, sym (column_at i c h) ∙ d ∙ column_at a b k)

  -- Only the place of all lines and the last column is full.
  pub full_at : (i c : ℕ) → c < columns (float_sizes g)
      → same (place_at g i c) (sizes g) ≡ (eqb i (g.stream 0).size && eqb (c + 1) (columns (float_sizes g)))
  full_at i c k = go (same (place_at g i c) (sizes g)) refl (ℕ_discrete i (g.stream 0).size) (ℕ_discrete (c + 1) (columns (float_sizes g)))
    where
      last : ℕ
      last = columns (float_sizes g) - 1

      next : suc last ≡ columns (float_sizes g)
      next = omega (arith, k)

      never : {A : Type 0} → ◌≡◌ {A = Bool} true false → A
      never e = let z : ◌≡◌ {A = ℕ} 0 1 = cc in absurd (omega arith)

      only : same (place_at g i c) (sizes g) ≡ true → (i ≡ (g.stream 0).size) × (c ≡ last)
      only e =
          place_same i c (g.stream 0).size last k (omega (arith, next)) (same_true (place_at g i c) (sizes g) e ∙ sym (place_all last next))

      all : i ≡ (g.stream 0).size → c + 1 ≡ columns (float_sizes g) → same (place_at g i c) (sizes g) ≡ true
      all e f = rw (e, place_all c (omega arith)) (same_refl (sizes g))

      go : (t : Bool) → same (place_at g i c) (sizes g) ≡ t → Dec (i ≡ (g.stream 0).size) → Dec (c + 1 ≡ columns (float_sizes g))
          → t ≡ (eqb i (g.stream 0).size && eqb (c + 1) (columns (float_sizes g)))
      go true e (yes p) (yes q) = rw (eq-eqb i (g.stream 0).size p, eq-eqb (c + 1) (columns (float_sizes g)) q)
      go false e (yes p) (yes q) = never (sym (all p q) ∙ e)
      go true e (no p) d = absurd (p (only e).0)
      go true e (yes p) (no q) = absurd (q (omega (arith, (only e).1, next)))
      go false e (no p) d = rw (ne_eqb i (g.stream 0).size p)
      go false e (yes p) (no q) = rw (eq-eqb i (g.stream 0).size p, ne_eqb (c + 1) (columns (float_sizes g)) q)

  -- The tie order is that of line and column, later first.
  pub place_tie : (i c a b : ℕ) → c < columns (float_sizes g) → b < columns (float_sizes g)
      → (lex geb (place_at g i c) (place_at g a b) ≡ true) ↔ NoLater a b i c
  unfolding place_at
  place_tie i c a b h k =
      let t = place_first (float_sizes g) i a (floats_at (float_sizes g) c) (floats_at (float_sizes g) b)
      (floats_inside (float_sizes g) c h) (floats_inside (float_sizes g) b k) in
      rw (column_of_floats (float_sizes g) c h, column_of_floats (float_sizes g) b k) at t

  -- What a page goes forward from has no count above what it goes to.
  pub forward_inside : (u v : Place) → Inside (sizes g) u → Inside (sizes g) v → forward g u v ≡ true → Inside v u
  forward_inside u v h k f = record { long = h.long ∙ sym k.long; under = λ s. go s (dec_le s g.floats) }
    where
      long : length (sizes g) ≡ suc g.floats
      long = unfold sizes streams in length_row 0 (suc g.floats) (λ s. (g.stream s).size)

      go : (s : ℕ) → Dec (s ≤ g.floats) → get_or u s 0 ≤ get_or v s 0
      go s (yes l) = unfold count in (forward_at g u v f).up s l
      go s (no l) = rw (get_or-eq_default u 0 {n = s} (omega (arith, h.long, long))) (omega arith)

  pub inside_columns : (u v : Place) → Inside v u → column_in g u ≤ column_in g v
  unfolding column_in float_place
  inside_columns [] v h = omega (arith, column_empty (float_sizes g))
  inside_columns (i ∷ js) [] h = absurd (omega (arith, h.long))
  inside_columns (i ∷ js) (a ∷ ks) h = column_grows (float_sizes g) js ks (inside_tail a i ks js h)

  -- A page goes forward to a later column, or to a later line of the column: columns are filled in their order.
  pub forward_earlier : (u v : Place) → Inside (sizes g) u → Inside (sizes g) v → forward g u v ≡ true
      → (count u 0 ≤ count v 0) × (column_in g u ≤ column_in g v) × Earlier (count u 0) (column_in g u) (count v 0) (column_in g v)
  forward_earlier u v h k f = (lines, across, go (dec_lt (column_in g u) (column_in g v)) (dec_lt (count u 0) (count v 0)))
    where
      up : Forward g u v
      up = forward_at g u v f

      lines : count u 0 ≤ count v 0
      lines = up.up 0 (omega arith)

      across : column_in g u ≤ column_in g v
      across = inside_columns u v (forward_inside u v h k f)

      go : Dec (column_in g u < column_in g v) → Dec (count u 0 < count v 0)
          → Earlier (count u 0) (column_in g u) (count v 0) (column_in g v)
      go (yes l) d = inl l
      go (no l) (yes m) = inr (omega (arith, across), m)
      go (no l) (no m) =
          let e : count u 0 ≡ count v 0 = omega (arith, lines) in
          let c : column_in g u ≡ column_in g v = omega (arith, across) in
          let same : u ≡ v = (place_of u h).is ∙ (cc) ∙ sym (place_of v k).is in
          let more = placed_grows g u v f in
          let level = ap (placed g) same in
          absurd (omega arith)
