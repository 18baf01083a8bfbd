-- A filled work area: its entries are right, and a walk back may go over it.
use Rattle.std.specs.Prelude.{ℕ, ◌-◌, ◌≡◌, List}
use Rattle.std.proofs.Common.{arith, sym, inl}
use Rattle.std.proofs.Math.Path.{ap, subst}
use Rattle.std.proofs.Math.ListN.{length}
use Rattle.theorems.specs.turns.Bounds.{Narrow, narrow_limit}
use Rattle.galley.specs.declared.Galley.{Galley}
use Rattle.galley.specs.Model.{model_of}
use Rattle.places.specs.declared.Origin.{Origin}
use Rattle.places.specs.Columns.{columns, float_sizes}
use Rattle.candidates.specs.Read.{table_in, columns_in}
use Rattle.candidates.proofs.laws.Columns.{few_floats, columns_in_lem}
use Rattle.entries.specs.Fill.{tall}
use Rattle.entries.specs.Filled.{Roomy, Light, Filled}
use Rattle.filling.specs.laws.Fill.{length_filled, filled_all}
use Rattle.entries.specs.laws.Side.{needed_roomy}
use Rattle.entries.specs.laws.Price.{sound_limits, dearest_light}
use Rattle.walk.specs.Traceable.{WorkArea, full_place, Traceable}
use Rattle.solving.specs.Shown.{last_place, AllRight, Proper}
use Rattle.solving.specs.Solved.{TabledFrom}
use Rattle.solving.specs.laws.Right.{table_right}

-- The last line and the last column are the full place.
pub last_place_lem : (bytes : List ℕ) (g : Galley) → last_place (model_of bytes g) ≡ full_place g
last_place_lem bytes g = ap (λ (k : ℕ). record { line = g.text.count; column = k - 1 }) (columns_in_lem bytes g)

module _ {bytes : List ℕ} {g : Galley} {from : Origin} {work : List ℕ} (tabled : TabledFrom bytes g from work) where
  light : Light (model_of bytes g)
  light = dearest_light bytes g tabled.sound

  room : Roomy (model_of bytes g) tabled.before
  room = needed_roomy bytes g tabled.enough

  pub tabled_narrow : Narrow (model_of bytes g)
  tabled_narrow = narrow_limit (model_of bytes g) (sound_limits bytes g tabled.sound)

  -- Every entry keeps what entries keep,
  pub tabled_filled : Filled (model_of bytes g) from (table_in g work) 0 (columns (float_sizes (model_of bytes g)))
  unfolding tall
  tabled_filled =
      subst (λ w. Filled (model_of bytes g) from (table_in g w) 0 (columns (float_sizes (model_of bytes g)))) (sym tabled.is)
      (filled_all (model_of bytes g) light from tabled.before room)

  -- and is right.
  pub tabled_right : Proper (model_of bytes g) from.place → AllRight (model_of bytes g) from (table_in g work)
  unfolding tall
  tabled_right proper =
      subst (λ w. AllRight (model_of bytes g) from (table_in g w)) (sym tabled.is)
      (table_right (model_of bytes g) from proper light tabled.before room)

  -- The work area is long enough for a walk over it,
  pub tabled_lent : WorkArea g work
  unfolding columns_in
  tabled_lent =
      let so = tabled.sound in
      let e = length_filled (model_of bytes g) from tabled.before room in
      let q = ap length tabled.is in
      record { lines = so.few_lines; floats = few_floats so; words = omega (arith, tabled.enough) }

  -- and its entries' starts lie before them.
  pub tabled_traceable : Traceable g work
  tabled_traceable =
      record {
        lent = tabled_lent;
        starts = λ a b c x s h k side e.
            let n = columns_in_lem bytes g in
            let entered = tabled_filled.entered a b c x s (inl (omega arith)) h side e in
            (entered.line, entered.column);
      }
