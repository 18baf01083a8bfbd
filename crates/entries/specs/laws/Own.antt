-- One column: a page that ends in the column that it starts in has no floats, and the place where it ends is known by its counts.
use Rattle.std.specs.Prelude.{ℕ, ◌+◌, ◌≤◌, ◌<◌, ◌≡◌, refl, Bool, List}
use Rattle.std.proofs.Common.{le_refl, arith, sym, ◌∙◌}
use Rattle.std.proofs.Math.Path.{ap}
use Rattle.model.specs.Galley as model
use Rattle.model.specs.Rules.{floor}
use Rattle.theorems.specs.turns.Waiting.{page_cost}
use Rattle.theorems.specs.pages.Graph.{full}
use Rattle.galley.specs.declared.Galley.{Galley}
use Rattle.galley.specs.Model.{text_of, model_of}
use Rattle.blocks.specs.Counts.{place_of, Within, Proper}
use Rattle.blocks.specs.Heights.{no_heights}
use Rattle.rules.specs.declared.waiting.Waiting.{Waiting}
use Rattle.rules.specs.Waiting.{Walking}
use Rattle.rules.specs.laws.Walked.{walked_on}
use Rattle.places.specs.Columns.{floats_at, float_sizes, place_at}
use Rattle.places.proofs.laws.Columns.{inside_all}
use Rattle.window.specs.declared.slide.Window.{Window}
use Rattle.window.specs.Slide.{Slidable, Tall}
use Rattle.candidates.specs.Search.{may_stop}
use Rattle.candidates.specs.Choice.{Candidate}
use Rattle.candidates.specs.Beside.{Under, Bears}
use Rattle.rules.specs.Parts.{all_placed}
use Rattle.candidates.specs.Read.{search_of, columns_in, counts_at, load_of}
use Rattle.passes.specs.Sweep.{Lent, Summed}
use Rattle.candidates.proofs.laws.Columns.{place_at_lem, within_at, sought_in}
use Rattle.candidates.proofs.laws.Pages.{goes_lines}
use Rattle.rules.specs.laws.Page.{full_of}
use Rattle.starts.proofs.laws.Floats.{bears_own}
use Rattle.passes.proofs.laws.Lending.{lent_placed, can_slide}
use Rattle.entries.specs.declared.side.End.{End}
use Rattle.pricing.specs.Stop.{stops_at}

-- No column is later than itself.
pub under_own : (g : model.Galley) (q : ℕ) → Under g q q
under_own g q = inside_all (floats_at (float_sizes g) q)

-- The window of lines alone can be moved on to line i.
pub lines_slide : {bytes : List ℕ} {g : Galley} {w : List ℕ} {j : ℕ} {sums : List ℕ} → Lent bytes g w j → Summed bytes g sums
    → (least first : ℕ) → least ≤ g.spec.htmax → (window : Window) (i : ℕ) → i ≤ g.text.count → window.low ≤ i → window.split ≤ i
    → window.high ≤ i
    → Slidable sums (load_of g 0 no_heights least first) window i
lines_slide lent summed least first under window i h low split high =
    can_slide lent summed 0 no_heights (omega arith) (record { tight = omega arith; loose = omega arith }) least first under window i h low split high

-- No page of lines alone goes from a line to one for which it is too tall.
pub own_short : {bytes : List ℕ} {g : Galley} {w : List ℕ} {j : ℕ} → Lent bytes g w j → (i a side x least first : ℕ) → i ≤ g.text.count → a < i
    → Candidate (search_of bytes g w i j side) a j x → Tall (text_of bytes g.text) (load_of g 0 no_heights least first) a i → ⊥
own_short {bytes} {g} {w} {j} lent i a side x least first line l start tall =
    let s = search_of bytes g w i j side in
    let bears = bears_own bytes g w i j side (floor (model_of bytes g) (all_placed g (counts_at g i j))) first refl in
    let keeps = (goes_lines s (sought_in bytes g w i j side (lent_placed lent i line)) a j l (le_refl j) (under_own (model_of bytes g) j)).0 start.page in
    omega (arith, keeps.short, bears.tight, tall)

-- What waits at a line of a column waits one line further down.
pub walking_down : {bytes : List ℕ} (g : Galley) (i j : ℕ) (known : Waiting) → Within g (counts_at g i j)
    → Walking bytes g (counts_at g i j) known → Walking bytes g (counts_at g (i + 1) j) known
walking_down g i j known inside here =
    record {
      figures = walked_on here.figures _ _ _ (omega arith) (le_refl _) inside.figures (omega arith);
      tables = walked_on here.tables _ _ _ (omega arith) (le_refl _) inside.tables (omega arith);
    }

-- The place where a page ends.
module _ (bytes : List ℕ) (g : Galley) (end : End) (counts : end.at ≡ counts_at g end.at.lines end.column) where
  -- It is that of the line and the column.
  pub end_place : place_at (model_of bytes g) end.at.lines end.column ≡ place_of g end.at
  end_place = place_at_lem bytes g end.at.lines end.column ∙ ap (place_of g) (sym counts)

  -- So a page may end at one where it may at the other,
  pub end_stops : (c : ℕ) → may_stop (model_of bytes g) end.at.lines end.column c ≡ stops_at (model_of bytes g) (place_of g end.at) c
  unfolding may_stop
  end_stops c = ap (λ v. stops_at (model_of bytes g) v c) end_place

  -- at the same price.
  pub end_cost : (c : ℕ)
      → page_cost (model_of bytes g) c (full (model_of bytes g) (place_of g end.at)) (place_of g end.at)
      ≡ (let v = place_at (model_of bytes g) end.at.lines end.column in page_cost (model_of bytes g) c (full (model_of bytes g) v) v)
  end_cost c = ap (λ v. page_cost (model_of bytes g) c (full (model_of bytes g) v) v) (sym end_place)

  -- No more is placed there than there is.
  pub end_within : end.at.lines ≤ g.text.count → end.column < columns_in g → Within g end.at
  end_within line column = rw counts (within_at g end.at.lines end.column line column)

  -- Whether it is the last page's is told by the counts.
  pub end_full : (last : Bool) → Proper g end.at → all_placed g end.at ≡ last
      → full (model_of bytes g) (place_at (model_of bytes g) end.at.lines end.column) ≡ last
  end_full last proper e = ap (full (model_of bytes g)) end_place ∙ full_of bytes g end.at proper ∙ e

  -- Pages within its column have nothing beside their lines, and are no lower than the last page must be where all is placed.
  pub end_bears : (w : List ℕ) (side : ℕ) (last : Bool) (first : ℕ) → all_placed g end.at ≡ last
      → Bears (search_of bytes g w end.at.lines end.column side) end.column (load_of g 0 no_heights (floor (model_of bytes g) last) first)
  end_bears w side last first e =
      bears_own bytes g w end.at.lines end.column side (floor (model_of bytes g) last) first
      (ap (floor (model_of bytes g)) (sym e ∙ ap (all_placed g) counts))
