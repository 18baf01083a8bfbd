-- What the sweeps over a column ask for, what holds on the way, and what they leave.
use Rattle.std.specs.Prelude.{ℕ, suc, ◌+◌, ◌≤◌, ◌≡◌, Bool, false, List, length}
use Rattle.model.specs.Rules.{floor}
use Rattle.galley.specs.declared.Galley.{Galley}
use Rattle.galley.specs.Model.{floats_of, model_of}
use Rattle.blocks.specs.declared.heights.Heights.{Heights}
use Rattle.blocks.specs.Heights.{Stacked}
use Rattle.starts.specs.declared.sweep.Begin.{Begin}
use Rattle.starts.specs.declared.sweep.Row.{Row}
use Rattle.candidates.specs.Read.{counts_at, row_of}
use Rattle.reached.specs.Look.{PastOrigin, Recalled}
use Rattle.passes.specs.Sweep.{Lent, Scratch, Summed, Known}
use Rattle.starts.specs.Sweep.{row_top}
use Rattle.candidates.specs.Cells.{Scratched, Blank, Clean}

-- A column that is empty: the starts in the columns before it are to be known.
pub record ColumnSweep (bytes : List ℕ) (g : Galley) (w sums words seen : List ℕ) (j : ℕ) (begin : Begin) : Type 0 where
  pub lent : Lent bytes g w j
  pub blank : Blank g w j
  pub past : PastOrigin g w j begin.origin
  pub recalled : Recalled g w seen begin.origin.lines begin.since j
  pub summed : Summed bytes g sums
  pub scratch : Scratch words

-- The starts in rows from that of b figures on are known.
pub record ColumnSweepRun (bytes : List ℕ) (g : Galley) (w₀ w words₀ words seen : List ℕ) (j : ℕ) (begin : Begin) (heights : Heights) (b : ℕ)
    (any : Bool) : Type 0 where
  pub still : any ≡ false → w ≡ w₀
  pub lent : Lent bytes g w j
  pub past : PastOrigin g w j begin.origin
  pub recalled : Recalled g w seen begin.origin.lines begin.since j
  pub scratch : Scratch words
  pub within : b ≤ suc (counts_at g 0 j).figures
  pub sized : length w ≡ length w₀
  pub words_sized : length words ≡ length words₀
  pub floats : Stacked (floats_of bytes g.figures) b (counts_at g 0 j).figures heights
  pub known : Known bytes g w j (row_of g b)
  pub kept : Scratched g j w₀ w

-- The starts in all columns before are known, a place without one is empty, and nothing else has changed; where no column that was swept
-- is reached nothing has.
pub record ColumnSwept (bytes : List ℕ) (g : Galley) (w v : List ℕ) (j : ℕ) (r : Bool) : Type 0 where
  pub still : r ≡ false → v ≡ w
  pub known : Known bytes g v j 0
  pub clean : Clean g v j
  pub kept : Scratched g j w v

-- A row whose starts are to be known, those in later rows being known.
pub record RowSweep (bytes : List ℕ) (g : Galley) (w sums words seen : List ℕ) (row : Row) : Type 0 where
  pub lent : Lent bytes g w row.to
  pub past : PastOrigin g w row.to row.begin.origin
  pub recalled : Recalled g w seen row.begin.origin.lines row.begin.since row.to
  pub summed : Summed bytes g sums
  pub scratch : Scratch words
  pub end : row.end ≡ counts_at g 0 row.to
  pub within : row.figures ≤ row.end.figures
  pub floats : Stacked (floats_of bytes g.figures) row.figures row.end.figures row.heights
  pub least : row.least ≡ floor (model_of bytes g) false
  pub known : Known bytes g w row.to (row_of g (suc row.figures))

-- The starts in the columns of the row with t tables and more are known.
pub record RowRun (bytes : List ℕ) (g : Galley) (w₀ w words₀ words : List ℕ) (row : Row) (tables : Heights) (t : ℕ) (any : Bool) : Type 0 where
  pub still : any ≡ false → w ≡ w₀
  pub lent : Lent bytes g w row.to
  pub scratch : Scratch words
  pub within : t ≤ row_top row
  pub sized : length w ≡ length w₀
  pub words_sized : length words ≡ length words₀
  pub floats : Stacked (floats_of bytes g.tables) t row.end.tables tables
  pub known : Known bytes g w row.to (row_of g row.figures + t)
  pub kept : Scratched g row.to w₀ w

-- The starts of the row are known; where none of its columns is reached nothing is stored.
pub record RowSwept (bytes : List ℕ) (g : Galley) (w v : List ℕ) (row : Row) (r : Bool) : Type 0 where
  pub still : r ≡ false → v ≡ w
  pub known : Known bytes g v row.to (row_of g row.figures)
  pub kept : Scratched g row.to w v
