-- The product in a guess is small.
use Rattle.std.specs.Prelude.{ℕ, ◌*◌, ◌/◌, ◌≤◌}
use Rattle.std.proofs.Common.{mul-le-mul, arith}

-- What a sixteenth of so many leaves adds.
pub spare_small : (beta turned : ℕ) → beta ≤ 1000 → turned ≤ 8500 → beta * (turned / 16) ≤ 532000
spare_small beta turned h l = mul-le-mul {n₁ = beta} {m₁ = turned / 16} {n₂ = 1000} {m₂ = 532} h (omega arith)
