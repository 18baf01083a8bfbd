-- The editions of the page specification (document 02, S-11): a galley under `GS` is held to what it was held to before there was a
-- second edition, so that every answer of its marking and its making is what it was.
use Rattle.std.specs.Prelude.{ℕ, ◌≤◌, ◌<◌, ◌≡◌, ◌↔◌, Bool, ◌||◌, List, eqb, leb, Ok}
use Rattle.model.specs.Galley as model
use Rattle.model.specs.Height.{loosest}
use Rattle.model.specs.Rules.{floor, fills}
use Rattle.model.proofs.laws.Rules.{fills_first, under_first}
use Rattle.galley.specs.declared.Galley.{Galley}
use Rattle.galley.specs.Whole.{galley_of}
use Rattle.galley.specs.Model.{model_of}
use Rattle.galley.proofs.laws.Sound.{sound}

-- What the first edition asks of the height of a page.
pub record FirstEdition (bytes : List ℕ) (g : Galley) : Type 0 where
  -- rule 16 holds every page but the last to htMin, and the last to nothing (document 01, rule 16)
  pub rule16 : (last : Bool) (u v : model.Place)
      → fills (model_of bytes g) last u v ≡ (last || leb g.spec.htmin (loosest (model_of bytes g) u v))
  -- a pagination on p pages of these heights keeps the second constraint exactly where it keeps the paper's own
  pub under : (p : ℕ) (height : ℕ → ℕ)
      → ((q : ℕ) → 1 ≤ q → q ≤ p → floor (model_of bytes g) (eqb q p) ≤ height q)
      ↔ ((q : ℕ) → 1 ≤ q → q < p → g.spec.htmin ≤ height q)

-- It holds of every galley that names the first edition.
pub first_edition : (bytes : List ℕ) (g : Galley) → galley_of bytes ≡ Ok g → g.spec.edition ≡ 1 → FirstEdition bytes g
first_edition bytes g read first =
    let none = (sound bytes g read).edition.plain first in
    record {
      rule16 = λ last u v. fills_first (model_of bytes g) last u v none;
      under = λ p height. under_first (model_of bytes g) p height none;
    }
