-- Galleys whose bytes are alike in all but the field htMin (document 02, S-14).
use Rattle.std.specs.Prelude.{ℕ, ◌≤◌, ◌<◌, ◌≡◌, ◌⊎◌, List, length}
use Rattle.galley.specs.Word.{byte_at}
use Rattle.galley.specs.declared.Spec.{Spec}
use Rattle.galley.specs.declared.Galley.{Galley}

-- There are as many bytes, and they are the same but for bytes 2 to 5, the field htMin: it follows the mark of a specification of
-- either edition, and the specification comes first.
pub record Alike (bytes bytes' : List ℕ) : Type 0 where
  pub long : length bytes' ≡ length bytes
  pub same : (at : ℕ) → (at < 2) ⊎ (6 ≤ at) → byte_at bytes' at ≡ byte_at bytes at

-- A specification with h for its htMin and all else as it is,
abbrev pub spec_with : ℕ → Spec → Spec
spec_with h s = record s { htmin = h }

-- and a galley that was read with it.
abbrev pub with_htmin : ℕ → Galley → Galley
with_htmin h g = record g { spec = spec_with h g.spec }
