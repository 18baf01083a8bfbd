-- Places by line and column: the order in which they are filled, and the order in which starts are preferred.
use Rattle.std.specs.Prelude.{◌≡◌, ◌⊎◌, ℕ, ◌<◌, ◌≤◌}

-- Place (i, j) is filled before (i', j'): in an earlier column, or in the same column and higher (document 01, "Making").
abbrev pub Earlier : ℕ → ℕ → ℕ → ℕ → Type 0
Earlier i j i' j' = (j < j') ⊎ ((j ≡ j') × (i < i'))

-- The start (a, b) is no later than (a', b'): by line, then by column (document 01, "Making", on ties).
abbrev pub NoLater : ℕ → ℕ → ℕ → ℕ → Type 0
NoLater a b a' b' = (a < a') ⊎ ((a ≡ a') × (b ≤ b'))
