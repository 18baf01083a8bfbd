-- The side of the page before occurs, and a place of the galley stands in the work area.
use Rattle.std.specs.Prelude.{ℕ, zero, suc, ◌+◌, ◌≤◌, ◌<◌, List, length}
use Rattle.std.proofs.Common.{arith}
use Rattle.model.specs.Galley.{Sides, single, double}
use Rattle.galley.specs.declared.Galley.{Galley}
use Rattle.model.specs.Leaf.{sides_of}
use Rattle.galley.specs.Model.{sides_in}
use Rattle.galley.specs.Sound.{Sound}
use Rattle.places.specs.Address.{words_needed, Stands}
use Rattle.places.proofs.laws.Address.{address_in, area_needed}
use Rattle.candidates.specs.Search.{before}
use Rattle.candidates.specs.Read.{side_of, columns_in, FewFloats}
use Rattle.candidates.proofs.laws.Columns.{columns_few}

-- The page before is on side 0 or 1.
pub side_either : (g : Galley) (c : ℕ) → side_of g c ≤ 1
unfolding before
side_either g c = go (sides_in g)
  where
    go : (sides : Sides) → before sides c ≤ 1
    go single = omega arith
    go (double f) = omega arith

-- It is one that occurs where this one does.
pub side_occurs : {bytes : List ℕ} {g : Galley} → Sound bytes g → (c : ℕ) → c < g.spec.sides → side_of g c < g.spec.sides
unfolding before sides_of
side_occurs {bytes} {g} sound c = go g.spec.sides sound.spec_ranged.sides_some sound.spec_ranged.sides_two
  where
    go : (n : ℕ) → 1 ≤ n → n ≤ 2 → c < n → before (sides_of n g.folio) c < n
    go zero l m h = absurd (omega arith)
    go (suc zero) l m h = omega arith
    go (suc (suc zero)) l m h = omega arith
    go (suc (suc (suc n))) l m h = absurd (omega arith)

-- A place of a galley within the limits stands in a work area that is long enough.
pub stands_in : (g : Galley) (w : List ℕ) (i b side : ℕ) → g.text.count ≤ 4000 → FewFloats g → i ≤ g.text.count → b < columns_in g
    → side ≤ 1 → words_needed g.text.count (columns_in g) ≤ length w
    → Stands w (g.text.count + 1) (record { line = i; column = b }) side
stands_in g w i b side few floats h k l room =
    record {
      inside = record { high = omega arith; row = omega arith; wide = omega (arith, columns_few g floats); either = l };
      room =
          omega (
            arith,
            address_in (g.text.count + 1) i b side (columns_in g) (omega arith) k l,
            area_needed g.text.count (columns_in g),
          );
    }
