-- Walks back through two tables of a chapter as the loop goes, page by page: where their starts part, which is the later is told.
use Prim.Native.Nat.{ℕ, zero, suc, ◌-◌, ◌≤◌, ◌<◌}
use native.Mathlib.Omega.{arith}
use Rattle.std.specs.Prelude.{◌≡◌, refl, true, false, ◌&&◌, List, eqb, ltb}
use Rattle.std.proofs.Math.Decide.{ℕ_discrete}
use Rattle.std.proofs.Common.{eq-eqb, ne_eqb, eqb-true, sym}
use Rattle.model.proofs.laws.Gather.{and_left, and_right}
use Rattle.model.specs.Gather.{pick}
use Rattle.galley.specs.declared.Galley.{Galley}
use Rattle.galley.specs.Model.{sides_in}
use Rattle.candidates.specs.Read.{table_in}
use Rattle.walk.specs.declared.Stop.{Stop}
use Rattle.walk.specs.Trace.{back}
use Rattle.walk.specs.Traceable.{blocks_in, Traceable}
use Rattle.walk.specs.laws.Walk.{back_visits}
use Rattle.closings.specs.Chapter.{later_back, later_starts, BothWalk, Parting}

-- The walks begin where they are asked to.
pub parting_first : {g : Galley} {w v : List ℕ} {a b : Stop} → BothWalk g w v a b → Parting g w v a b a b (blocks_in g)
parting_first both = record { one = both.first.visits; other = both.second.visits; same = refl }

module _ {g : Galley} {w v : List ℕ} {first second a b : Stop} {left : ℕ} (run : Parting g w v first second a b left) where
  -- Where no page is left neither is later.
  pub parted_none : left ≤ 0 → false ≡ later_starts g w v first second
  unfolding later_back
  parted_none l = let e : left ≡ 0 = omega arith in rw e at run.same

  module _ (x y : Stop) (ex : x ≡ back (sides_in g) (table_in g w) a) (ey : y ≡ back (sides_in g) (table_in g v) b) (more : 0 < left) where
    step : pick (eqb x.place.line y.place.line)
        (pick (eqb x.place.column y.place.column) (later_back (sides_in g) (table_in g w) (table_in g v) (left - 1) x y)
        (ltb y.place.column x.place.column))
        (ltb y.place.line x.place.line)
        ≡ later_starts g w v first second
    unfolding later_back
    step = rw (ex, ey) (go left more run.same)
      where
        go : (n : ℕ) → 0 < n → later_back (sides_in g) (table_in g w) (table_in g v) n a b ≡ later_starts g w v first second
            → (let p = back (sides_in g) (table_in g w) a in let q = back (sides_in g) (table_in g v) b in
            pick (eqb p.place.line q.place.line)
            (pick (eqb p.place.column q.place.column) (later_back (sides_in g) (table_in g w) (table_in g v) (n - 1) p q)
            (ltb q.place.column p.place.column))
            (ltb q.place.line p.place.line))
            ≡ later_starts g w v first second
        go zero l e = absurd (omega arith)
        go (suc n) l e = let z : suc n - 1 ≡ n = omega arith in rw z e

    -- They part at a line,
    pub parted_line : ¬ (x.place.line ≡ y.place.line) → ltb y.place.line x.place.line ≡ later_starts g w v first second
    parted_line n = rw (ne_eqb _ _ n) at step

    -- or at a column,
    pub parted_column : x.place.line ≡ y.place.line → ¬ (x.place.column ≡ y.place.column)
        → ltb y.place.column x.place.column ≡ later_starts g w v first second
    parted_column e n = rw (eq-eqb _ _ e, ne_eqb _ _ n) at step

    -- or go on.
    pub parting_next : Traceable g w → Traceable g v → x.place.line ≡ y.place.line → x.place.column ≡ y.place.column
        → Parting g w v first second x y (left - 1)
    parting_next t u e f =
        record {
          one = rw ex (back_visits t a run.one);
          other = rw ey (back_visits u b run.other);
          same = rw (eq-eqb _ _ e, eq-eqb _ _ f) at step;
        }

    -- They part at a place, whose order says which start is the later;
    pub parted : eqb x.place.line y.place.line && eqb x.place.column y.place.column ≡ false
        → pick (eqb y.place.line x.place.line) (ltb y.place.column x.place.column) (ltb y.place.line x.place.line) ≡ later_starts g w v first second
    parted h = go (ℕ_discrete x.place.line y.place.line)
      where
        go : Dec (x.place.line ≡ y.place.line)
            → pick (eqb y.place.line x.place.line) (ltb y.place.column x.place.column) (ltb y.place.line x.place.line) ≡ later_starts g w v first second
        go (no n) = rw (ne_eqb y.place.line x.place.line (λ e. n (sym e))) (parted_line n)
        go (yes e) =
            rw (eq-eqb y.place.line x.place.line (sym e))
            (parted_column e (λ f. let z : true ≡ false = (rw (eq-eqb _ _ e, eq-eqb _ _ f) at h) in cc))

    -- where they do not, line and column are the same.
    pub parted_same : eqb x.place.line y.place.line && eqb x.place.column y.place.column ≡ true
        → (x.place.line ≡ y.place.line) × (x.place.column ≡ y.place.column)
    parted_same h = (
      eqb-true _ _ (and_left (eqb x.place.line y.place.line) (eqb x.place.column y.place.column) h),
      eqb-true _ _ (and_right (eqb x.place.line y.place.line) (eqb x.place.column y.place.column) h),
    )
