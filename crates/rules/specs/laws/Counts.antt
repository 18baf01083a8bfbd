-- The counts of a list fit: within document 01's limits no sum or product of them passes 32 bits.
use Rattle.std.specs.Prelude.{ℕ, ◌-◌, ◌*◌, ◌≤◌, Bool, true, false}
use Rattle.std.proofs.Common.{mul-le-mul, arith}
use Rattle.model.specs.Galley.{Sides, single, double}
use Rattle.model.specs.Leaf.{leaf}
use Rattle.galley.specs.declared.Galley.{Galley}
use Rattle.galley.specs.Model.{sides_in}
use Rattle.rules.specs.Parts.{leaves_turned, CountLimits}
use Rattle.rules.specs.Sums.{white_at}

-- The parts of T.
pub record Bounded (g : Galley) (p x : ℕ) : Type 0 where
  pub waits : g.spec.alpha * x ≤ 1062500000
  pub leaves : g.spec.beta * leaves_turned g p ≤ 4250000

pub few_bounded : (g : Galley) (p x : ℕ) → CountLimits g p x → Bounded g p x
unfolding leaves_turned leaf
few_bounded g p x few =
    let number = few.numbered.few in
    let sum = few.most in
    let x_few : x ≤ 1062500 = omega arith in
    record {
      waits = mul-le-mul few.ranged.alphas x_few;
      leaves = mul-le-mul few.ranged.betas (leaves_few (sides_in g));
    }
  where
    -- Y is at most the number of pages.
    leaves_few : (sides : Sides) → leaf sides p - leaf sides 1 ≤ 4250
    leaves_few single = omega arith
    leaves_few (double f) = omega arith

-- No page adds more than htMax to W.
pub white_at_few : (g : Galley) (last : Bool) (loose : ℕ) → white_at g last loose ≤ g.spec.htmax
unfolding white_at
white_at_few g true loose = omega arith
white_at_few g false loose = omega arith
