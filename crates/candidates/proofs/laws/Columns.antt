-- Figures and tables by column: a column is a row of as many figures, and in it a number of tables. What the page model says over
-- all float streams is said of both; without tables each row is one column.
use Rattle.std.specs.Prelude.{ℕ, suc, ◌+◌, ◌/◌, ◌%◌, ◌≤◌, ◌<◌, ◌≡◌, refl, Bool, true, false, List, [], ◌∷◌, eqb}
use Rattle.std.proofs.Math.Nat.{suc-mul, mul-le-mul_right, mul-add-div_right, mul-add-mod_self_right, mod-eq_of_lt, div-eq_of_lt, div-add-mod'}
use Rattle.std.proofs.Common.{mul-le-mul, mod-lt, div-lt_iff_lt-mul, div-one, ◌∙◌, eqb-true}
use Rattle.std.proofs.Math.Numerals.{add-one}
use Rattle.std.proofs.Math.Decide.{dec_le}
use native.Mathlib.Omega.{arith}
use Rattle.std.proofs.Math.Path.{sym, ap}
use Rattle.model.specs.Gather.{pick, total}
use Rattle.model.specs.Galley.{count}
use Rattle.model.specs.laws.Rules.{placed}
use Rattle.model.specs.laws.Lists.{Inside}
use Rattle.theorems.specs.pages.Graph.{full}
use Rattle.galley.specs.declared.Galley.{Galley}
use Rattle.galley.specs.Model.{model_of}
use Rattle.galley.specs.Sound.{Sound}
use Rattle.blocks.specs.Counts.{place_of, Proper, Within}
use Rattle.blocks.specs.laws.Counts.{sum_floats, sizes_of, count_lines, count_figures, count_tables, length_of, under_of}
use Rattle.places.specs.Columns.{columns, floats_at, float_sizes, float_place, place_at}
use Rattle.places.proofs.laws.Columns.{inside_cons, inside_tail}
use Rattle.places.proofs.laws.Places.{sizes_cons, full_at}
use Rattle.candidates.specs.Beside.{Under, Sought}
use Rattle.candidates.specs.Read.{search_of, columns_in, counts_at, row_of, FewFloats, last_place, Placed}

-- A galley that was read keeps to the limits,
pub few_floats : {bytes : List ℕ} {g : Galley} → Sound bytes g → FewFloats g
few_floats sound = record { figures = sound.figures.few; tables = sound.tables.few }

-- and has at most 201 · 51 columns.
pub columns_few : (g : Galley) → FewFloats g → columns_in g ≤ 10251
unfolding columns_in
columns_few g few =
    mul-le-mul {n₁ = g.figures.count + 1} {m₁ = g.tables.count + 1} {n₂ = 201} {m₂ = 51} (omega (arith, few.figures)) (omega (arith, few.tables))

-- Rows follow one another, and have as many columns.
module _ (g : Galley) where
  wide : 0 < g.tables.count + 1
  wide = omega arith

  pub row_next : (b : ℕ) → row_of g (suc b) ≡ row_of g b + (g.tables.count + 1)
  unfolding row_of
  row_next b = suc-mul b (g.tables.count + 1)

  pub row_grows : (a b : ℕ) → a ≤ b → row_of g a ≤ row_of g b
  unfolding row_of
  row_grows a b l = mul-le-mul_right (g.tables.count + 1) l

  -- A column stands in the row of its figures, at its tables,
  pub row_of_lem : (i c : ℕ) → row_of g (counts_at g i c).figures + (counts_at g i c).tables ≡ c
  unfolding row_of
  row_of_lem i c = div-add-mod' c (g.tables.count + 1)

  pub tables_low : (i c : ℕ) → (counts_at g i c).tables ≤ g.tables.count
  tables_low i c = omega (arith, mod-lt c wide)

  -- and what stands there is placed at it.
  pub row_figures : (i b t : ℕ) → t ≤ g.tables.count → (counts_at g i (row_of g b + t)).figures ≡ b
  unfolding row_of
  row_figures i b t l =
      let l' : t < g.tables.count + 1 = omega arith in
      mul-add-div_right wide b t ∙ ap (λ x. b + x) (div-eq_of_lt l') ∙ omega arith

  pub row_tables : (i b t : ℕ) → t ≤ g.tables.count → (counts_at g i (row_of g b + t)).tables ≡ t
  unfolding row_of
  row_tables i b t l =
      let l' : t < g.tables.count + 1 = omega arith in
      mul-add-mod_self_right b (g.tables.count + 1) t ∙ mod-eq_of_lt l'

  -- A column before a row has fewer figures, and one from it on has as many.
  pub row_under : (i b c : ℕ) → c < row_of g b → (counts_at g i c).figures < b
  unfolding row_of
  row_under i b c l = (div-lt_iff_lt-mul wide).1 l

  pub row_before : (i b c : ℕ) → c < row_of g (suc b) → (counts_at g i c).figures ≤ b
  row_before i b c l = omega (arith, row_under i (suc b) c l)

  pub row_since : (i b c : ℕ) → row_of g b ≤ c → b ≤ (counts_at g i c).figures
  row_since i b c l = go (dec_le b (counts_at g i c).figures)
    where
      go : Dec (b ≤ (counts_at g i c).figures) → b ≤ (counts_at g i c).figures
      go (yes h) = h
      go (no h) =
          absurd (omega (
            arith,
            row_grows (suc (counts_at g i c).figures) b (omega arith),
            row_next (counts_at g i c).figures,
            row_of_lem i c,
            tables_low i c,
          ))

  -- A column of a row has its figures, and stands at its tables.
  pub row_in : (b c : ℕ) → row_of g b ≤ c → c < row_of g (suc b)
      → ((counts_at g 0 c).figures ≡ b) × (row_of g b + (counts_at g 0 c).tables ≡ c)
  row_in b c low high =
      let e : (counts_at g 0 c).figures ≡ b = omega (arith, row_since 0 b c low, row_before 0 b c high) in
      (e, ap (λ b. row_of g b + (counts_at g 0 c).tables) (sym e) ∙ row_of_lem 0 c)

  -- A column of the galley has no more of any stream than there is.
  pub within_at : (i c : ℕ) → i ≤ g.text.count → c < columns_in g → Within g (counts_at g i c)
  unfolding columns_in
  within_at i c h k =
      let low : c / (g.tables.count + 1) < g.figures.count + 1 = (div-lt_iff_lt-mul wide).1 k in
      record { lines = h; figures = omega arith; tables = tables_low i c }

  -- Without tables none is placed.
  pub proper_at : (i c : ℕ) → Proper g (counts_at g i c)
  proper_at i c none = omega (arith, tables_low i c)

-- The tables' part of columns, where there are any.
tables_columns : (k : ℕ) → columns (pick (eqb k 0) [] (k ∷ [])) ≡ k + 1
unfolding columns
tables_columns k = go (eqb k 0) refl
  where
    go : (b : Bool) → eqb k 0 ≡ b → columns (pick b [] (k ∷ [])) ≡ k + 1
    go true e = omega (arith, eqb-true k 0 e)
    go false e = omega (arith, suc-mul k 1)

tables_at : (k c : ℕ) → floats_at (pick (eqb k 0) [] (k ∷ [])) c ≡ pick (eqb k 0) [] (c ∷ [])
unfolding floats_at columns
tables_at k c = go (eqb k 0)
  where
    go : (b : Bool) → floats_at (pick b [] (k ∷ [])) c ≡ pick b [] (c ∷ [])
    go true = refl
    go false = ap (λ n. n ∷ []) (div-one c)

module _ (bytes : List ℕ) (g : Galley) where
  sizes_at : float_sizes (model_of bytes g) ≡ g.figures.count ∷ pick (eqb g.tables.count 0) [] (g.tables.count ∷ [])
  unfolding place_of float_place
  sizes_at = ap float_place (sym (sizes_cons (model_of bytes g)) ∙ sizes_of g bytes)

  -- There are as many columns as the page model has.
  pub columns_in_lem : columns (float_sizes (model_of bytes g)) ≡ columns_in g
  unfolding columns columns_in
  columns_in_lem = rw (sizes_at, tables_columns g.tables.count, add-one g.figures.count)

  -- A line and a column are the place of what is placed there.
  pub place_at_lem : (i c : ℕ) → place_at (model_of bytes g) i c ≡ place_of g (counts_at g i c)
  unfolding place_at floats_at place_of
  place_at_lem i c =
      rw (sizes_at, tables_columns g.tables.count, tables_at g.tables.count (c % (g.tables.count + 1)))

  -- So many blocks are placed there.
  pub placed_at : (i c : ℕ)
      → placed (model_of bytes g) (place_at (model_of bytes g) i c) ≡ i + (counts_at g i c).figures + (counts_at g i c).tables
  unfolding placed total
  placed_at i c =
      let at = counts_at g i c in
      let proper = proper_at g i c in
      let floats = sum_floats g (count (place_of g at)) (λ none. count_tables g at proper ∙ proper none) in
      rw (place_at_lem i c) (omega (arith, floats, count_lines g at, count_figures g at, count_tables g at proper))

  -- The full place, by line and column.
  pub full_in : (i c : ℕ) → c < columns_in g → full (model_of bytes g) (place_at (model_of bytes g) i c) ≡ last_place g i c
  unfolding full
  full_in i c k = full_at (model_of bytes g) i c (omega (arith, columns_in_lem)) ∙ rw columns_in_lem

  -- A place of the galley can be searched for.
  pub sought_in : (w : List ℕ) (i j side : ℕ) → Placed bytes g i j → Sought (search_of bytes g w i j side)
  sought_in w i j side placed = record { high = placed.line; wide = omega (arith, placed.column, columns_in_lem) }

  -- A column is under another where it has no more of either stream, and only there.
  module _ (b q : ℕ) where
    pub under_at : (counts_at g 0 b).figures ≤ (counts_at g 0 q).figures → (counts_at g 0 b).tables ≤ (counts_at g 0 q).tables
        → Under (model_of bytes g) b q
    unfolding count place_at
    under_at figures tables =
        let counts : Inside (place_of g (counts_at g 0 q)) (place_of g (counts_at g 0 b)) = record {
          long = length_of g (counts_at g 0 b) ∙ sym (length_of g (counts_at g 0 q));
          under = under_of g (counts_at g 0 b) (counts_at g 0 q) (omega arith) figures tables;
        } in
        inside_tail 0 0 _ _ (rw (← place_at_lem 0 q, ← place_at_lem 0 b) at counts)

    pub at_under : Under (model_of bytes g) b q
        → ((counts_at g 0 b).figures ≤ (counts_at g 0 q).figures) × ((counts_at g 0 b).tables ≤ (counts_at g 0 q).tables)
    at_under under = (figures, tables)
      where
        places : Inside (place_of g (counts_at g 0 q)) (place_of g (counts_at g 0 b))
        places = rw (← place_at_lem 0 q, ← place_at_lem 0 b) (unfold place_at in inside_cons 0 0 _ _ (omega arith) under)

        figures : (counts_at g 0 b).figures ≤ (counts_at g 0 q).figures
        figures = unfold place_of in places.under 1

        tables : (counts_at g 0 b).tables ≤ (counts_at g 0 q).tables
        tables =
            let x = count_tables g (counts_at g 0 b) (proper_at g 0 b) in
            let y = count_tables g (counts_at g 0 q) (proper_at g 0 q) in
            let l : count (place_of g (counts_at g 0 b)) 2 ≤ count (place_of g (counts_at g 0 q)) 2 = unfold count in places.under 2 in
            omega arith
