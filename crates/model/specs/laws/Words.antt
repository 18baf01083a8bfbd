-- Definitions that proofs/laws/Words.antt is about, and that definitions of other crates cite.
use Prim.Native.Nat.{ℕ}
use Rattle.std.specs.Prelude.{◌≡◌, List, [], ◌∷◌}
use Rattle.std.proofs.Math.ListN.{length}
use Rattle.model.specs.Galley.{Place}

-- Every place of the list has k counts.
abbrev pub Shaped : ℕ → List Place → Type 0
Shaped k [] = Unit
Shaped k (v ∷ vs) = (length v ≡ k) × Shaped k vs
