-- Galleys that differ in their least page height alone (document 02, S-14).
use Rattle.std.specs.Prelude.{ℕ}
use Rattle.model.specs.Galley.{Galley, respecified}

-- The galley with h for its htMin, and all else as it is.
abbrev pub with_htmin : ℕ → Galley → Galley
with_htmin h g = respecified h g.spec.sides g.spec.lastmin g
