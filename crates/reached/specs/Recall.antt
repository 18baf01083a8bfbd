-- What a column put in the ring does to it.
use Rattle.std.specs.Prelude.{ℕ, ◌+◌, ◌≤◌, ◌<◌, ◌≡◌, List, length, get_or, set}
use Rattle.galley.specs.declared.Galley.{Galley}
use Rattle.reached.specs.declared.recall.Recall.{Recall}
use Rattle.reached.specs.Ring.{hint_name, Present, Named}
use Rattle.reached.specs.Look.{Told}

-- Word x is put where the ring has come to, and the column that was named there is before those that the ring covers from now on.
pub record Remembered (old new : List ℕ) (recall : Recall) (x : ℕ) (r : Recall) : Type 0 where
  pub put : new ≡ set old recall.head x
  pub since : recall.since ≤ r.since
  pub dropped : hint_name (get_or old recall.head 0) ≤ r.since
  pub head : r.head < length new

-- The new ring has the same words for column b as the old one.
pub record Agrees (old new : List ℕ) (b : ℕ) : Type 0 where
  pub there : (x : ℕ) → Present old b x → Present new b x
  pub back : (x : ℕ) → Present new b x → Present old b x

-- What the new ring says of column j holds, for its lines from `from` on, and of the columns before it that it covers it says what the
-- old one did.
pub record Noted (g : Galley) (w old new : List ℕ) (recall : Recall) (j from : ℕ) (r : Recall) : Type 0 where
  pub head : r.head < length new
  pub since : recall.since ≤ r.since
  pub own : Told g w new j from
  pub others : (b : ℕ) → r.since ≤ b → b < j → Agrees old new b
  pub named : Named new (j + 1)
