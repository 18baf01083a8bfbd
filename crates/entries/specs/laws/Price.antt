-- What a page costs stays within the limits, for every galley that was read.
use Rattle.std.specs.Prelude.{ℕ, List}
use Rattle.std.proofs.Common.{arith}
use Rattle.theorems.specs.turns.Bounds.{all_floats, Limits, rate_limit}
use Rattle.galley.specs.declared.Galley.{Galley}
use Rattle.galley.specs.Model.{model_of}
use Rattle.galley.specs.Sound.{Sound}
use Rattle.blocks.specs.laws.Counts.{sum_floats}
use Rattle.entries.specs.Filled.{Light}

-- A galley that was read keeps the ranges of documents 01 and 02.
pub sound_limits : (bytes : List ℕ) (g : Galley) → Sound bytes g → Limits (model_of bytes g)
unfolding all_floats
sound_limits bytes g sound =
    let all = sum_floats g (λ s. ((model_of bytes g).stream s).size) (λ none. none) in
    let n = sound.figures.few in
    let k = sound.tables.few in
    record {
      lines = sound.few_lines;
      floats = omega arith;
      alpha = sound.spec_ranged.alphas;
      beta = sound.spec_ranged.betas;
      highest = sound.spec_ranged.htmaxs;
    }

-- No price passes the limit of α·(n + k) + β, and no white the greatest height.
pub dearest_light : (bytes : List ℕ) (g : Galley) → Sound bytes g → Light (model_of bytes g)
dearest_light bytes g sound =
    record { dear = (rate_limit (model_of bytes g) (sound_limits bytes g sound)).0; low = sound.spec_ranged.htmaxs }
