-- The white of a page by line and column: of one with lines it is what a window's lines tell, and of floats alone what their height does.
use Rattle.std.specs.Prelude.{ℕ, ◌-◌, ◌<◌, ◌≡◌, Bool}
use Rattle.std.proofs.Math.Path.{sym}
use Rattle.std.proofs.Common.{◌∙◌}
use Rattle.model.specs.Gather.{pick}
use Rattle.model.specs.Height.{loosest}
use Rattle.model.specs.White.{white_on}
use Rattle.model.specs.laws.White.{page_white}
use Rattle.theorems.specs.pages.Graph.{full}
use Rattle.places.specs.Columns.{place_at}
use Rattle.window.specs.declared.slide.Load.{Load}
use Rattle.window.specs.Slide.{white_of}
use Rattle.candidates.specs.Search.{Search, white_from}
use Rattle.candidates.specs.Beside.{alone, Bears}
use Rattle.candidates.proofs.laws.Heights.{height_lines, height_alone}

module _ (s : Search) (b : ℕ) (last : Bool) (ends : full s.galley (place_at s.galley s.line s.column) ≡ last) where
  -- The white of a page is that of its loosest height, unless it is the last.
  by_height : (a loose : ℕ) → loosest s.galley (place_at s.galley a b) (place_at s.galley s.line s.column) ≡ loose
      → pick last 0 (s.galley.spec.htmax - loose) ≡ white_from s a b
  unfolding white_from page_white white_on
  by_height a loose e = rw (ends, e)

  pub white_lines : (load : Load) → Bears s b load → (a : ℕ) → a < s.line
      → pick last 0 (white_of (s.galley.stream 0) load s.line a) ≡ white_from s a b
  unfolding loosest
  white_lines load bears a l =
      rw (bears.htmax, bears.loose)
      (by_height a _ (height_lines s.galley (λ st. st.most) s.galley.spec.smax a b s.line s.column l))

  pub white_alone : (loose : ℕ) → loose ≡ alone s.galley (λ st. st.most) s.galley.spec.smax b s.column
      → pick last 0 (s.galley.spec.htmax - loose) ≡ white_from s s.line b
  unfolding loosest
  white_alone loose e =
      by_height s.line loose (height_alone s.galley (λ st. st.most) s.galley.spec.smax b s.line s.column ∙ sym e)
