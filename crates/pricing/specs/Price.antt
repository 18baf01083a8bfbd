-- What a page costs that ends at a place, by the floats that wait there.
use Rattle.std.specs.Prelude.{ℕ, ◌+◌, ◌*◌, ◌≤◌, Bool, List}
use Rattle.model.specs.Gather.{pick}
use Rattle.galley.specs.declared.Galley.{Galley}
use Rattle.blocks.specs.declared.Counts.{Counts}
use Rattle.rules.specs.Waiting.{waiting_of}

-- How many floats wait at a place, of all streams together.
abbrev pub waits_at : List ℕ → Galley → Counts → ℕ
waits_at bytes g at = (waiting_of bytes g at).figures + (waiting_of bytes g at).tables

-- Weights and floats that keep a price within a word.
pub record Priceable (g : Galley) (waiting : ℕ) : Type 0 where
  pub alphas : g.spec.alpha ≤ 1000
  pub betas : g.spec.beta ≤ 1000
  pub few : waiting ≤ 250

-- What a page costs that ends where `last` and `ends` say, with so many floats waiting.
abbrev pub price_of : Galley → Bool → Bool → ℕ → ℕ
price_of g last ends waiting = pick last 0 (pick ends (g.spec.alpha * waiting + g.spec.beta) 0)
