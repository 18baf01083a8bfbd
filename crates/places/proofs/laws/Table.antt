-- The table after a store, which changes one place on one side.
use Rattle.std.specs.Prelude.{◌≡◌, List, ℕ, ◌+◌, ◌<◌, ◌≤◌, length}
use Rattle.places.specs.Entry.{Entry, stored}
use Rattle.places.specs.Address.{address}
use Rattle.places.specs.Table.{table_of}
use Rattle.places.proofs.laws.Address.{address_apart}
use Rattle.places.proofs.laws.Stored.{stored_same, stored_other}

-- The place and side that were stored have what was stored.
pub table_same :
    (tall i j side : ℕ) (w : List ℕ) (e : Entry) → address tall i j side + 5 ≤ length w
    → table_of tall (stored w (address tall i j side) e) i j side ≡ e
unfolding table_of
table_same tall i j side w e h = stored_same w (address tall i j side) e h

-- Every other place or side has what it had.
pub table_other :
    (tall i j side i' j' side' : ℕ) (w : List ℕ) (e : Entry) → i < tall → i' < tall → side ≤ 1 → side' ≤ 1
    → ((i ≡ i') × (j ≡ j') × (side ≡ side') → ⊥)
    → table_of tall (stored w (address tall i j side) e) i' j' side' ≡ table_of tall w i' j' side'
unfolding table_of
table_other tall i j side i' j' side' w e h h' s s' differ =
    stored_other w (address tall i j side) (address tall i' j' side') e (address_apart tall i j side i' j' side' h h' s s' differ)
