-- The longest run of blocks that are not too high by themselves, on the way over a stream.
use Rattle.std.specs.Prelude.{ℕ, ◌+◌, ◌-◌, ◌≤◌, ◌<◌, ◌≡◌, ◌⊎◌, Bool, true, List}
use Rattle.model.specs.Galley as model
use Rattle.model.specs.Height.{stacked}
use Rattle.galley.specs.declared.Stream.{Stream}
use Rattle.galley.specs.Sound.{SoundStream}

-- There is a block k, and a block `gap` whose space counts.
pub record Adds (bytes : List ℕ) (stream : Stream) (k gap : ℕ) (spaced : Bool) : Type 0 where
  pub sound : SoundStream bytes stream
  pub some : 1 ≤ k
  pub within : k ≤ stream.count
  pub space : spaced ≡ true → (1 ≤ gap) × (gap ≤ stream.count)

-- Some k consecutive blocks are at most `limit` high at their tightest.
pub record Stands (st : model.Stream) (limit k : ℕ) : Type 0 where
  pub from : ℕ
  pub within : from + k ≤ st.size
  pub low : stacked st st.least from (from + k) ≤ limit

-- Over the first b blocks no run longer than that of blocks a + 1 to b stands together, and one of that length does.
pub record Longest (st : model.Stream) (limit a b height : ℕ) : Type 0 where
  pub within : b ≤ st.size
  pub start : a ≤ b
  pub high : height ≡ stacked st st.least a b
  pub found : (a ≡ b) ⊎ Stands st limit (b - a)
  pub none : (c e : ℕ) → c ≤ e → e ≤ b → b - a < e - c → limit < stacked st st.least c e
