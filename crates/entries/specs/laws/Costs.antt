-- The costs of the entries filled so far are small, so that white can be added to them.
use Rattle.std.specs.Prelude.{ℕ, ◌+◌, ◌≤◌, ◌<◌, refl, List, length}
use Rattle.std.proofs.Common.{arith, inl, inr}
use Rattle.galley.specs.declared.Galley.{Galley}
use Rattle.galley.specs.Model.{model_of, sides_in}
use Rattle.galley.specs.Sound.{Sound}
use Rattle.places.specs.declared.Origin.{Origin}
use Rattle.places.specs.Address.{words_needed}
use Rattle.places.specs.Best.{Affordable}
use Rattle.places.specs.Order.{Earlier}
use Rattle.places.specs.Entry.{boundless}
use Rattle.queues.specs.Queue.{lines_of, Payable}
use Rattle.candidates.specs.Read.{table_in, side_of, columns_in}
use Rattle.passes.specs.Sweep.{Lent}
use Rattle.candidates.proofs.laws.Columns.{placed_at, within_at}
use Rattle.entries.specs.Filled.{Filled}
use Rattle.entries.specs.laws.Entered.{below_side, side_before, sides_count}

module _ {bytes : List ℕ} {g : Galley} {from : Origin} {i j : ℕ} (w : List ℕ) (sound : Sound bytes g)
    (cheap : from.cost ≤ boundless) (filled : Filled (model_of bytes g) from (table_in g w) i j) where
  cost_small : (a b c : ℕ) → Earlier a b i j → a ≤ g.text.count → b < columns_in g → c < g.spec.sides
      → Affordable (table_in g w a b (side_of g c))
  cost_small a b c l h k occurs x r e =
      let spec = sound.spec_ranged in
      let sides = sides_count g.spec.sides g.folio spec.sides_some spec.sides_two in
      let side = side_before (sides_in g) c (below_side (sides_in g) c (rw sides occurs)) in
      omega (
        arith,
        (filled.entered a b (side_of g c) x r l h side e).dear,
        placed_at bytes g a b,
        within_at g a b h k,
        sound.few_lines,
        sound.figures.few,
        sound.tables.few,
      )

  -- Those of the lines above in the column itself,
  pub own_costs : (c : ℕ) → i ≤ g.text.count → j < columns_in g → c < g.spec.sides
      → Payable (lines_of w (g.text.count + 1) j (side_of g c)) i
  own_costs c h k occurs a l = cost_small a j c (inr (refl, l)) (omega arith) k occurs

  -- and those of the columns before, so that the column is lent.
  pub lent_filled : j < columns_in g → words_needed g.text.count (columns_in g) ≤ length w → Lent bytes g w j
  lent_filled k room =
      record {
        sound = sound;
        column = k;
        room = room;
        costs = λ b c l occurs a m. cost_small a b c (inl l) (omega arith) (omega arith) occurs;
      }
