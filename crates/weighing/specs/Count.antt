-- The count of the pages that are weighed, on its way: what it asks for, and what is counted so far.
use Rattle.std.specs.Prelude.{ℕ, suc, ◌+◌, ◌-◌, ◌*◌, ◌≤◌, ◌<◌, ◌≡◌, Bool, ◌&&◌, ◌||◌, List, ltb, leb}
use Rattle.model.specs.Gather.{pick}
use Rattle.model.specs.Galley as model
use Rattle.model.specs.laws.Boxes.{below}
use Rattle.galley.specs.declared.Galley.{Galley}
use Rattle.galley.specs.declared.Stream.{Stream}
use Rattle.galley.specs.Model.{text_of, floats_of, model_of}
use Rattle.galley.specs.Sound.{Sound}
use Rattle.blocks.specs.declared.Counts.{Counts}
use Rattle.blocks.specs.declared.heights.Heights.{Heights}
use Rattle.blocks.specs.Counts.{place_of, Within}
use Rattle.blocks.specs.Heights.{no_heights, block_before, Room, Stacked}
use Rattle.candidates.specs.Read.{columns_in, counts_at, row_of}
use Rattle.starts.specs.Sweep.{floats_alone}
use Rattle.passes.specs.Sweep.{Summed}
use Rattle.weighing.specs.declared.known.Known.{Known}
use Rattle.weighing.specs.Columns.{pairs_from}
use Rattle.weighing.specs.Lines.{line_pairs, Pairable}
use Rattle.weighing.specs.Known.{Knows}

-- The pages between two columns whose floats between, if there are some, are so high alone: pages of lines beside the floats and a
-- separation, and the floats alone after any number of lines, from `first` on. Where they are too tall there are none.
unfoldable pub pairs_between : model.Stream → Galley → ℕ → ℕ → Bool → ℕ
pairs_between st g first floats some =
    let m = g.text.count in
    pick (ltb g.spec.htmax floats) 0
    (pick some (line_pairs st first (floats + g.spec.smin) g.spec.htmax m + (m - first + 1)) (line_pairs st first 0 g.spec.htmax m))

-- The pages that start in column b, past what is placed first, and end in column q of a galley that was read.
abbrev pub pairs_into : List ℕ → Galley → Counts → ℕ → ℕ → ℕ
pairs_into bytes g first q b = pairs_from (model_of bytes g) (place_of g first) b q

-- A galley that was read, the sums of its lines, and what is placed first.
pub record Weighable (bytes : List ℕ) (g : Galley) (sums : List ℕ) (first : Counts) : Type 0 where
  pub sound : Sound bytes g
  pub summed : Summed bytes g sums
  pub placed : Within g first

-- The lines can be paired with nothing beside them and with these floats.
pub record Between (g : Galley) (sums : List ℕ) (first floats : ℕ) : Type 0 where
  pub separation : g.spec.smin ≤ 100000
  pub low : floats ≤ 60000000
  pub pairable : (beside : ℕ) → beside ≤ 1000000000 → Pairable sums g.text.count first beside g.spec.htmax

-- What is known of the pairs of lines from `first` on.
abbrev pub KnownOf : Galley → List ℕ → ℕ → Known → Type 0
KnownOf g sums first known = Knows sums known g.text.count first g.spec.htmax

-- What pages that end in a column have of a stream of floats: so many stand before where the pages start, and those from there to the end
-- have these heights.
pub record Part : Type 0 where
  pub from : ℕ
  pub heights : Heights

-- Nothing of a stream of floats, where as many are placed at a page's start as at its end; and one float more, the one before.
abbrev pub nothing : ℕ → Part
nothing end = record { from = end; heights = no_heights }

abbrev pub with_one_more : List ℕ → Stream → Part → ℕ → Part
with_one_more bytes stream part end =
    record { from = part.from - 1; heights = block_before bytes stream part.heights (part.from - 1) end }

-- A part that has a float before it, with room for that.
pub record Extendable (bytes : List ℕ) (stream : Stream) (part : Part) (end : ℕ) : Type 0 where
  pub some : 1 ≤ part.from
  pub room : Room bytes stream part.heights end

-- The part of a stream between what is placed first and a page's end.
pub record PartOf (bytes : List ℕ) (stream : Stream) (first end : ℕ) (part : Part) : Type 0 where
  pub since : first ≤ part.from
  pub within : part.from ≤ end
  pub high : Stacked (floats_of bytes stream) part.from end part.heights

-- A column where pages end.
pub record CountableColumn (bytes : List ℕ) (g : Galley) (sums : List ℕ) (first : Counts) (q : ℕ) : Type 0 where
  pub ready : Weighable bytes g sums first
  pub column : q < columns_in g

-- The column where pages start with these parts.
abbrev pub column_of : Galley → Part → Part → ℕ
column_of g figures tables = row_of g figures.from + tables.from

-- The pages from all columns past that of these parts are counted.
pub record ColumnCount (bytes : List ℕ) (g : Galley) (first : Counts) (q : ℕ) (figures tables : Part) (pairs : ℕ) : Type 0 where
  pub figured : PartOf bytes g.figures first.figures (counts_at g 0 q).figures figures
  pub tabled : PartOf bytes g.tables first.tables (counts_at g 0 q).tables tables
  pub few : pairs + suc (column_of g figures tables) * 16008001 ≤ columns_in g * 16008001
  pub counted : pairs + below (suc (column_of g figures tables)) (pairs_into bytes g first q) ≡ below (columns_in g) (pairs_into bytes g first q)

-- The pages from all rows from that of b figures on are counted.
pub record RowsCount (bytes : List ℕ) (g : Galley) (first : Counts) (q b : ℕ) (figures : Heights) (pairs : ℕ) : Type 0 where
  pub within : b ≤ suc (counts_at g 0 q).figures
  pub high : Stacked (floats_of bytes g.figures) b (counts_at g 0 q).figures figures
  pub few : pairs + row_of g b * 16008001 ≤ columns_in g * 16008001
  pub counted : pairs + below (row_of g b) (pairs_into bytes g first q) ≡ below (columns_in g) (pairs_into bytes g first q)

-- Of the row of b figures those from its columns of t tables and more are, and from all rows after it.
pub record RowCount (bytes : List ℕ) (g : Galley) (first : Counts) (q b t : ℕ) (figures tables : Heights) (pairs : ℕ) : Type 0 where
  pub figured : PartOf bytes g.figures first.figures (counts_at g 0 q).figures (record { from = b; heights = figures })
  pub within : t ≤ suc (counts_at g 0 q).tables
  pub high : Stacked (floats_of bytes g.tables) t (counts_at g 0 q).tables tables
  pub few : pairs + (row_of g b + t) * 16008001 ≤ columns_in g * 16008001
  pub counted : pairs + below (row_of g b + t) (pairs_into bytes g first q) ≡ below (columns_in g) (pairs_into bytes g first q)

-- What the column of these parts adds: the floats alone are so high, and so many pages start there.
pub record ColumnStep (bytes : List ℕ) (g : Galley) (first : Counts) (q : ℕ) (figures tables : Part) (floats : Heights) (more : ℕ) : Type 0 where
  pub laid : floats ≡ floats_alone g.spec figures.heights tables.heights (ltb figures.from (counts_at g 0 q).figures && ltb tables.from (counts_at g 0 q).tables)
  pub few : more ≤ 16008001
  pub counted : more ≡ pairs_between (text_of bytes g.text) g first.lines floats.tight (ltb figures.from (counts_at g 0 q).figures || ltb tables.from (counts_at g 0 q).tables)

-- The row of these parts has no earlier column to count, where the floats are too tall alone or no more tables are left than are placed
-- first;
abbrev pub row_over : Galley → Counts → Heights → Part → Bool
row_over g first floats tables = ltb g.spec.htmax floats.tight || leb tables.from first.tables

-- nor has a row before it, where these are figures alone or no more figures are left.
abbrev pub rows_over : Galley → Counts → ℕ → Heights → Part → Part → Bool
rows_over g first q floats figures tables =
    (ltb g.spec.htmax floats.tight && leb (counts_at g 0 q).tables tables.from) || leb figures.from first.figures

-- All pages that end in the column are counted.
pub record ColumnCounted (bytes : List ℕ) (g : Galley) (first : Counts) (q pairs : ℕ) : Type 0 where
  pub few : pairs ≤ 164098018251
  pub counted : pairs ≡ below (columns_in g) (pairs_into bytes g first q)

-- The pages that end in columns before q are counted.
pub record AllCount (bytes : List ℕ) (g : Galley) (first : Counts) (q pairs : ℕ) : Type 0 where
  pub within : q ≤ columns_in g
  pub few : pairs ≤ q * 164098018251
  pub counted : pairs ≡ below q (λ q. below (columns_in g) (pairs_into bytes g first q))
