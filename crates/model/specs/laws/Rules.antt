-- Definitions that proofs/laws/Rules.antt is about, and that definitions of other crates cite.
use Rattle.std.specs.Prelude.{ℕ, ◌≡◌, Bool, true}
use Rattle.model.specs.Gather.{total}
use Rattle.model.specs.Galley.{Galley, Place, count}
use Rattle.model.specs.Rules.{forward, closes, fits, fills, cited}

-- The page keeps rules 13 to 17.
pub record Kept (g : Galley) (q : ℕ) (last : Bool) (u v : Place) : Type 0 where
  pub rule13 : forward g u v ≡ true
  pub rule14 : closes g v ≡ true
  pub rule15 : fits g u v ≡ true
  pub rule16 : fills g last u v ≡ true
  pub rule17 : cited g q last v ≡ true

-- The blocks placed at a place.
unfoldable pub placed : Galley → Place → ℕ
placed g u = total g.floats (count u)
