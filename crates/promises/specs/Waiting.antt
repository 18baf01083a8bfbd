-- The figures that wait at a place of a galley that reads without refusal: document 02, S-2.
use Rattle.std.specs.Prelude.{ℕ, zero, suc, ◌≤◌, ◌≡◌, refl, Bool, List, [], ◌∷◌, length, leb, Ok}
use Rattle.std.proofs.Common.{arith}
use Rattle.model.specs.Gather.{pick, row}
use Rattle.model.specs.Galley as model
use Rattle.galley.specs.declared.Galley.{Galley}
use Rattle.galley.specs.Whole.{galley_of}
use Rattle.galley.specs.Model.{floats_of, model_of}
use Rattle.blocks.specs.laws.Counts.{floats_some}
use Rattle.rules.specs.Waiting.{waiting_from, waiting_floats, EachOnce}
use Rattle.rules.specs.laws.Sane.{reads_sane}
use Rattle.rules.specs.laws.Waiting.{each_once}
use Rattle.rules.specs.laws.Walked.{sane_ordered}

-- The floats from number k + 1 on, so many.
abbrev pub next : ℕ → ℕ → List ℕ
next k many = row (suc k) many (λ f. f)

-- Those that are met on the way are the next ones.
pub met_next : (st : model.Stream) (i left k : ℕ) → waiting_from st i left k ≡ next k (length (waiting_from st i left k))
unfolding waiting_from row
met_next st i zero k = refl
met_next st i (suc left) k = go (leb (st.cite (suc k)) i) (met_next st i left (suc k))
  where
    rest : List ℕ
    rest = waiting_from st i left (suc k)

    go : (b : Bool) → rest ≡ next (suc k) (length rest) → pick b (suc k ∷ rest) [] ≡ next k (length (pick b (suc k ∷ rest) []))
    go b e = grind arith

module _ (bytes : List ℕ) (g : Galley) (read : galley_of bytes ≡ Ok g) where
  -- In any float stream, with any i lines and j floats placed, the floats from j + 1 on up to the first that a line after i
  -- cites are each float past j that line i or an earlier one cites, once, and no other.
  pub waiting_stream : (s : ℕ) → 1 ≤ s → s ≤ (model_of bytes g).floats → (i j : ℕ) → j ≤ ((model_of bytes g).stream s).size
      → EachOnce ((model_of bytes g).stream s) i j (waiting_floats ((model_of bytes g).stream s) i j)
  waiting_stream s h l i j within =
      each_once ((model_of bytes g).stream s) i (sane_ordered (model_of bytes g) (reads_sane bytes g read) s h l) j within

  -- The figures are one such stream: for every i from 0 to m, and beyond, and every j from 0 to n.
  pub waiting_figures : (i j : ℕ) → j ≤ g.figures.count
      → EachOnce (floats_of bytes g.figures) i j (waiting_floats (floats_of bytes g.figures) i j)
  waiting_figures i j within = waiting_stream 1 (omega arith) (floats_some g) i j within
