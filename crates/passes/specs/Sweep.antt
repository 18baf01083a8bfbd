-- The best starts of a column's places, gathered from the columns before it: what is lent, what is computed, and what is known.
use Rattle.std.specs.Prelude.{ℕ, suc, ◌+◌, ◌*◌, ◌≤◌, ◌<◌, ◌≡◌, List, length, ltb, None}
use Rattle.model.specs.Gather.{pick}
use Rattle.model.specs.Galley.{Stream}
use Rattle.galley.specs.declared.Galley.{Galley}
use Rattle.galley.specs.Model.{text_of, model_of}
use Rattle.galley.specs.Sound.{Sound}
use Rattle.blocks.specs.Heights.{Separable}
use Rattle.blocks.specs.laws.Heights.{Low}
use Rattle.places.specs.Entry.{Entry}
use Rattle.places.specs.Address.{words_needed, address, Stands}
use Rattle.places.specs.Best.{Affordable, Best}
use Rattle.window.specs.declared.slide.Load.{Load}
use Rattle.window.specs.Sums.{Sums}
use Rattle.window.specs.Slide.{Reachable, Tall}
use Rattle.queues.specs.Queue.{lines_of, Payable}
use Rattle.passes.specs.declared.pass.Pass.{Pass}
use Rattle.candidates.specs.Better.{chosen, start_at, taken}
use Rattle.candidates.specs.Choice.{Starts, Between}
use Rattle.candidates.specs.Beside.{Under, alone}
use Rattle.candidates.specs.Read.{table_in, side_of, search_of, columns_in, last_column, load_of}
use Rattle.candidates.specs.Cells.{number, Wide}

-- What the lines of column b cost, on the side before side c, is small.
abbrev pub Costs : Galley → List ℕ → ℕ → ℕ → Type 0
Costs g w b c = Payable (lines_of w (g.text.count + 1) b (side_of g c)) (g.text.count + 1)

-- A column of a galley that was read, in a work area that is long enough and has small costs in the columns before it.
pub record Lent (bytes : List ℕ) (g : Galley) (w : List ℕ) (j : ℕ) : Type 0 where
  pub sound : Sound bytes g
  pub column : j < columns_in g
  pub room : words_needed g.text.count (columns_in g) ≤ length w
  pub costs : (b c : ℕ) → b < j → c < g.spec.sides → Costs g w b c

-- Room for four queues, or for two and the windows.
abbrev pub Scratch : List ℕ → Type 0
Scratch words = 48000 ≤ length words

-- The sums of all lines.
pub record Summed (bytes : List ℕ) (g : Galley) (sums : List ℕ) : Type 0 where
  pub rows : Sums (text_of bytes g.text) g.text.count sums
  pub room : 3 * g.text.count + 6 ≤ length sums

-- What a page of the pass has beside its lines.
abbrev pub pass_load : Galley → Pass → Load
pass_load g pass = load_of g 1 pass.heights pass.least pass.reach.first

-- A pass leads to a later column from one that has no more of any stream, and the floats between, with these heights alone, are not
-- too tall.
pub record Passing (bytes : List ℕ) (g : Galley) (pass : Pass) : Type 0 where
  pub before : pass.from < pass.to
  pub under : Under (model_of bytes g) pass.from pass.to
  pub tight : pass.heights.tight ≡ alone (model_of bytes g) (λ st. st.least) g.spec.smin pass.from pass.to
  pub loose : pass.heights.loose ≡ alone (model_of bytes g) (λ st. st.most) g.spec.smax pass.from pass.to
  pub low : Low 60000000 pass.heights
  pub short : pass.heights.tight ≤ g.spec.htmax

-- The page of floats alone that starts after line i.
abbrev pub alone_of : Galley → List ℕ → ℕ → ℕ → Pass → Entry
alone_of g w i side pass =
    pick (ltb pass.heights.loose pass.least) None (start_at (table_in g w i pass.from side) pass.white i pass.from)

-- The work area with the starts of a pass weighed at line i on side c: the best of the lines before it, and floats alone.
abbrev pub weighed : Galley → List ℕ → Entry → ℕ → ℕ → Pass → List ℕ
weighed g w lines i c pass =
    taken w (address (g.text.count + 1) i pass.to c) (chosen lines (alone_of g w i (side_of g c) pass))

-- The start and the end of a page of the pass stand in the work area, and the start's cost is small.
pub record Ended (g : Galley) (w : List ℕ) (i c : ℕ) (pass : Pass) : Type 0 where
  pub start : Stands w (g.text.count + 1) (record { line = i; column = pass.from }) (side_of g c)
  pub cost : Affordable (table_in g w i pass.from (side_of g c))
  pub end : Stands w (g.text.count + 1) (record { line = i; column = pass.to }) c
  pub side : c ≤ 1

-- The words of place (k, j) on side c hold the best of the starts of P for a page that ends there.
abbrev pub Knows : List ℕ → Galley → List ℕ → ℕ → ℕ → ℕ → (ℕ → ℕ → Type 0) → Type 0
Knows bytes g w k j c P = Best (Starts (search_of bytes g w k j (side_of g c)) P) (table_in g w k j c)

-- So do those of every place of column j, for the starts in columns from b on and before j.
abbrev pub Known : List ℕ → Galley → List ℕ → ℕ → ℕ → Type 0
Known bytes g w j b = (k c : ℕ) → k ≤ g.text.count → c < g.spec.sides → Knows bytes g w k j c (Between b j)

-- The places before number n know the starts in columns from b on, the others those in later columns.
pub record Swept (bytes : List ℕ) (g : Galley) (w : List ℕ) (j b n : ℕ) : Type 0 where
  pub done : (k c : ℕ) → k ≤ g.text.count → c < g.spec.sides → number c k < n → Knows bytes g w k j c (Between b j)
  pub left : (k c : ℕ) → k ≤ g.text.count → c < g.spec.sides → n ≤ number c k → Knows bytes g w k j c (Between (suc b) j)

-- The lines that a sweep may take: all, but for the last line of the last column, where a page may be short.
abbrev pub sweep_end : Galley → Pass → ℕ
sweep_end g pass = pick (last_column g pass.to) g.text.count (g.text.count + 1)

-- The last line of a pass is one of the galley's, and pages from it can be measured.
pub record Stoppable (g : Galley) (sums : List ℕ) (pass : Pass) : Type 0 where
  pub wide : Wide g pass.to
  pub separable : Separable g.spec 1 pass.heights
  pub order : pass.reach.first ≤ pass.reach.last
  pub line : pass.reach.last ≤ g.text.count
  pub reaches : Reachable sums 0 (pass_load g pass).tight (g.spec.htmax + 1) pass.reach.last g.text.count

-- Of the lines that a sweep may take, those from `stop` on are after the last of the pass, and pages from there to them are too tall.
pub record Stopped (g : Galley) (sums : List ℕ) (pass : Pass) (stop : ℕ) : Type 0 where
  pub from : pass.reach.first ≤ stop
  pub within : stop ≤ sweep_end g pass
  pub after : stop < sweep_end g pass → pass.reach.last < stop
  pub tall : (st : Stream) → Sums st g.text.count sums → (e : ℕ) → stop ≤ e → e < sweep_end g pass
      → Tall st (pass_load g pass) pass.reach.last e
