-- Definitions that proofs/laws/Boxes.antt is about, and that definitions of other crates cite.
use Rattle.std.specs.Prelude.{ℕ, zero, suc, ◌+◌}

-- f 0 + f 1 + … + f (n − 1): over n things numbered from 0.
unfoldable pub below : ℕ → (ℕ → ℕ) → ℕ
below zero f = 0
below (suc n) f = below n f + f n
