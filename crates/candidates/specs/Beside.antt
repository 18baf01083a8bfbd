-- What a page from one column to another has beside its lines, for any number of float streams.
use Rattle.std.specs.Prelude.{ℕ, pred, ◌+◌, ◌*◌, ◌≤◌, ◌<◌, ◌≡◌}
use Rattle.model.specs.Gather.{one, sum}
use Rattle.model.specs.Galley.{Stream, Galley, count}
use Rattle.model.specs.Height.{has, stacked}
use Rattle.model.specs.Rules.{floor}
use Rattle.model.specs.laws.Lists.{Inside}
use Rattle.theorems.specs.pages.Graph.{full}
use Rattle.places.specs.Columns.{columns, float_sizes, floats_at, place_at}
use Rattle.window.specs.declared.slide.Load.{Load}
use Rattle.candidates.specs.Search.{Search}

-- Column b is no later than column q in any stream.
abbrev pub Under : Galley → ℕ → ℕ → Type 0
Under g b q = Inside (floats_at (float_sizes g) q) (floats_at (float_sizes g) b)

-- The height of the floats between two columns, with a given height for each space, and no separation.
unfoldable pub floats_high : Galley → (Stream → ℕ → ℕ) → ℕ → ℕ → ℕ
floats_high g gap b q =
    sum g.floats (λ s. stacked (g.stream s) (gap (g.stream s)) (count (place_at g 0 b) s) (count (place_at g 0 q) s))

-- The number of kinds of floats between them.
unfoldable pub float_kinds : Galley → ℕ → ℕ → ℕ
float_kinds g b q = sum g.floats (λ s. one (has (place_at g 0 b) (place_at g 0 q) s))

-- What a page with lines has beside its lines: a separation for each kind of float.
unfoldable pub beside : Galley → (Stream → ℕ → ℕ) → ℕ → ℕ → ℕ → ℕ
beside g gap separation b q = floats_high g gap b q + float_kinds g b q * separation

-- The height of a page without lines: a separation for each kind but the first.
unfoldable pub alone : Galley → (Stream → ℕ → ℕ) → ℕ → ℕ → ℕ → ℕ
alone g gap separation b q = floats_high g gap b q + pred (float_kinds g b q) * separation

-- The load of pages with lines that start in column b and end where the search looks.
pub record Bears (s : Search) (b : ℕ) (load : Load) : Type 0 where
  pub tight : load.tight ≡ beside s.galley (λ st. st.least) s.galley.spec.smin b s.column
  pub loose : load.loose ≡ beside s.galley (λ st. st.most) s.galley.spec.smax b s.column
  pub htmin : load.htmin ≡ (let v = place_at s.galley s.line s.column in floor s.galley (full s.galley v))
  pub htmax : load.htmax ≡ s.galley.spec.htmax

-- The search's place is one of the galley.
pub record Sought (s : Search) : Type 0 where
  pub high : s.line ≤ (s.galley.stream 0).size
  pub wide : s.column < columns (float_sizes s.galley)
