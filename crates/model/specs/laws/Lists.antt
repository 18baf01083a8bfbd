-- Definitions that proofs/laws/Lists.antt is about, and that definitions of other crates cite.
use Prim.Native.Nat.{ℕ, ◌≤◌}
use Rattle.std.proofs.Math.Path.{◌≡◌}
use Rattle.std.specs.Prelude.{length, get_or}
use mathlib.Core.List.{List, [], ◌∷◌, Memᴰ}
use Rattle.model.specs.Galley.{Place}

abbrev pub ◌∈◌ : {A : Type 0} → A → List A → Type 0
◌∈◌ a l = Memᴰ a l

infix 40 ◌∈◌
-- No count of v is above that of l, and they have as many.
pub record Inside (l v : Place) : Type 0 where
  pub long : length v ≡ length l
  pub under : (i : ℕ) → get_or v i 0 ≤ get_or l i 0

-- Each place of a list is inside l.
abbrev pub AllInside : Place → List Place → Type 0
AllInside l [] = Unit
AllInside l (v ∷ vs) = Inside l v × AllInside l vs
