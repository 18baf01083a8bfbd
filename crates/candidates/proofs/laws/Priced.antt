-- What is known of an entry with its price: what its start costs, and that the whole is within what the search looks for.
use Rattle.std.specs.Prelude.{ℕ, ◌+◌, ◌≤◌, ◌<◌, ◌≡◌, None, Some}
use Rattle.std.proofs.Math.Decide.{dec_lt}
use Rattle.std.proofs.Common.{arith, sym, ap, ◌∙◌, lt-ltb, le-ltb}
use Rattle.places.specs.declared.Place.{Place}
use Rattle.places.specs.Entry.{Entry, least}
use Rattle.places.proofs.laws.Best.{least_same, no_reach}
use Rattle.candidates.specs.Search.{priced}

-- The start of an entry that costs x with the price p.
pub record PaidFor (most p : ℕ) (e : Entry) (x : ℕ) (r : Place) : Type 0 where
  pub own : ℕ
  pub entry : e ≡ least own r
  pub whole : own + p ≡ x
  pub within : x ≤ most

-- Within the limit an entry has its price added.
pub priced_within : (most p x : ℕ) (r : Place) → x + p ≤ most → priced most p (least x r) ≡ least (x + p) r
unfolding priced
priced_within most p x r h = rw (le-ltb most (x + p) h)

-- Beyond it there is none.
pub priced_beyond : (most p x : ℕ) (r : Place) → most < x + p → priced most p (least x r) ≡ None
unfolding priced
priced_beyond most p x r h = rw (lt-ltb most (x + p) h)

-- So an entry that is reached with its price was reached, and is within the limit.
pub priced_least : (most p : ℕ) (e : Entry) (x : ℕ) (r : Place) → priced most p e ≡ least x r → PaidFor most p e x r
unfolding priced
priced_least most p None x r e = absurd (no_reach e)
priced_least most p (Some k) x r e = go (dec_lt most (k.cost + p))
  where
    go : Dec (most < k.cost + p) → PaidFor most p (Some k) x r
    go (yes l) = absurd (no_reach (sym (priced_beyond most p k.cost k.start l) ∙ e))
    go (no n) =
        let (sum, same) = least_same (sym (priced_within most p k.cost k.start (omega arith)) ∙ e) in
        record { own = k.cost; entry = ap (λ s. least k.cost s) same; whole = sum; within = omega arith }
