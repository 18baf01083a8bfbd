-- Turns and white as one number, so that the principle of optimality has one cost to compare (document 02, S-10).
use Rattle.std.specs.Prelude.{ℕ, ◌+◌, ◌*◌, ◌<◌, ◌≡◌, Bool, ◌&&◌, List, leb}
use Rattle.std.proofs.Common.{arith}
use Rattle.model.specs.Gather.{implies}
use Rattle.model.specs.Galley.{Galley, Place}
use Rattle.model.specs.White.{whites}
use Rattle.theorems.specs.turns.Waiting.{costs}

-- Turns in the upper half of a number and white in the lower: 4,294,967,296 is 2 to the 32nd power.
abbrev pub rank : ℕ → ℕ → ℕ
rank turns white = turns * 4294967296 + white

-- What the pages of a list cost with their white, where page q is the first and starts at u.
unfoldable pub ranked : Galley → ℕ → Place → List Place → ℕ
ranked g q u ps = rank (costs g q ps) (whites g u ps)

-- Where white stays below 2 to the 32nd power, the order of the numbers is that by turns and then by white.
pub rank_order : (t w t' w' : ℕ) (tie : Bool) → w < 4294967296 → w' < 4294967296
    → leb (rank t w) (rank t' w') && implies (leb (rank t' w') (rank t w)) tie
    ≡ leb t t' && implies (leb t' t) (leb w w' && implies (leb w' w) tie)
rank_order t w t' w' tie small small' = grind arith
