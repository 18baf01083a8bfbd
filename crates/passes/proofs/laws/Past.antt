-- What the sweeps pass over holds no start: a column that has more of some stream than the one where pages end, and all that is under a
-- column whose floats alone are too tall.
use Rattle.std.specs.Prelude.{ℕ, ◌≤◌, ◌<◌, List}
use Rattle.std.proofs.Math.Decide.{dec_le}
use Rattle.std.proofs.Common.{arith}
use Rattle.galley.specs.declared.Galley.{Galley}
use Rattle.galley.specs.Model.{model_of}
use Rattle.places.proofs.laws.Best.{best_as}
use Rattle.candidates.specs.Choice.{Candidate, Starts, Between}
use Rattle.candidates.specs.Beside.{Under, alone}
use Rattle.candidates.specs.Read.{side_of, search_of, counts_at}
use Rattle.passes.specs.Sweep.{Lent, Knows, Known}
use Rattle.candidates.proofs.laws.Pages.{candidate_under, column_over}
use Rattle.candidates.proofs.laws.Columns.{sought_in, at_under}
use Rattle.passes.proofs.laws.Lending.{lent_placed}

-- Where no page to a place starts in the columns between, the starts from an earlier column on are known there too,
pub knows_past : (bytes : List ℕ) (g : Galley) (w : List ℕ) (i j c b b' : ℕ) → b ≤ b'
    → ((a x y : ℕ) → b ≤ x → x < b' → x < j → Candidate (search_of bytes g w i j (side_of g c)) a x y → ⊥)
    → Knows bytes g w i j c (Between b' j) → Knows bytes g w i j c (Between b j)
knows_past bytes g w i j c b b' low none =
    best_as (λ a x y p. ((omega (arith, p.0.0), p.0.1), p.1)) (λ a x y p. ((later a x y p (dec_le b' x), p.0.1), p.1))
  where
    later : (a x y : ℕ) → Starts (search_of bytes g w i j (side_of g c)) (Between b j) a x y → Dec (b' ≤ x) → b' ≤ x
    later a x y p (yes l) = l
    later a x y p (no l) = absurd (none a x y p.0.0 (omega arith) p.0.1 p.1)

-- and so for all places of the column.
pub known_past : (bytes : List ℕ) (g : Galley) (w : List ℕ) (j b b' : ℕ) → b ≤ b'
    → ((i a x y c : ℕ) → i ≤ g.text.count → c < g.spec.sides → b ≤ x → x < b' → x < j
    → Candidate (search_of bytes g w i j (side_of g c)) a x y → ⊥)
    → Known bytes g w j b' → Known bytes g w j b
known_past bytes g w j b b' low none known i c h m =
    knows_past bytes g w i j c b b' low (λ a x y. none i a x y c h m) (known i c h m)

-- No page starts in a column that is not under the one where it ends, or is under one whose floats alone are too tall.
module _ {bytes : List ℕ} {g : Galley} {w : List ℕ} {j : ℕ} (lent : Lent bytes g w j) where
  pub start_under : (i a x y side : ℕ) → i ≤ g.text.count → Candidate (search_of bytes g w i j side) a x y
      → ((counts_at g 0 x).figures ≤ (counts_at g 0 j).figures) × ((counts_at g 0 x).tables ≤ (counts_at g 0 j).tables)
  start_under i a x y side h c =
      at_under bytes g x j
      (candidate_under (search_of bytes g w i j side) (sought_in bytes g w i j side (lent_placed lent i h)) a x y c)

  pub start_short : (b : ℕ) → b ≤ j → Under (model_of bytes g) b j
      → g.spec.htmax < alone (model_of bytes g) (λ st. st.least) g.spec.smin b j
      → (i a x y side : ℕ) → i ≤ g.text.count → Under (model_of bytes g) x b → Candidate (search_of bytes g w i j side) a x y → ⊥
  start_short b k under tall i a x y side h below c =
      column_over (search_of bytes g w i j side) (sought_in bytes g w i j side (lent_placed lent i h)) b a x y k under below tall c
