-- The ranges that number 3 guards: document 01, "The galley file".
use Rattle.std.specs.Prelude.{ℕ, ◌≤◌, ◌≡◌, Bool, false, ◌&&◌, leb}
use Rattle.galley.specs.declared.Spec.{Spec}
use Rattle.galley.specs.declared.Block.{Block}
use Rattle.galley.specs.declared.Line.{Line}
use Rattle.galley.specs.declared.Float.{Float}

-- Least heights do not pass greatest ones, sides is 1 or 2, and every field keeps to its limit.
unfoldable pub spec_in_range : Spec → Bool
spec_in_range g =
    leb g.htmin g.htmax
    && leb 1 g.htmax
    && leb g.htmax 100000
    && leb g.smin g.smax
    && leb g.smax 100000
    && leb 1 g.sides
    && leb g.sides 2
    && leb g.alpha 1000
    && leb g.beta 1000
    && leb g.lastmin g.htmax

-- A first folio is 1 to 9,999 (document 02, S-1).
abbrev pub folio_in_range : ℕ → Bool
folio_in_range f = leb 1 f && leb f 9999

-- A block's heights keep to their limit, and its least space does not pass its greatest.
unfoldable pub block_in_range : Block → Bool
block_in_range b = leb b.height 100000 && leb b.least b.most && leb b.most 100000

-- So do a line's, and its last field is 0 or 1.
abbrev pub line_in_range : Line → Bool
line_in_range l = block_in_range l.block && leb l.legal 1

-- The same as inequalities: a specification in range.
pub record SpecRanged (g : Spec) : Type 0 where
  pub htmins : g.htmin ≤ g.htmax
  pub htmax_some : 1 ≤ g.htmax
  pub htmaxs : g.htmax ≤ 100000
  pub smins : g.smin ≤ g.smax
  pub smaxs : g.smax ≤ 100000
  pub sides_some : 1 ≤ g.sides
  pub sides_two : g.sides ≤ 2
  pub alphas : g.alpha ≤ 1000
  pub betas : g.beta ≤ 1000
  pub lastmins : g.lastmin ≤ g.htmax

-- The first or the second edition; the first asks nothing of the last page (document 02, S-11).
pub record Edition (g : Spec) : Type 0 where
  pub some : 1 ≤ g.edition
  pub two : g.edition ≤ 2
  pub plain : g.edition ≡ 1 → g.lastmin ≡ 0

-- A first folio in range.
pub record FolioRanged (f : ℕ) : Type 0 where
  pub some : 1 ≤ f
  pub few : f ≤ 9999

-- A block in range.
pub record BlockRanged (b : Block) : Type 0 where
  pub heights : b.height ≤ 100000
  pub leasts : b.least ≤ b.most
  pub mosts : b.most ≤ 100000

-- A line in range.
pub record LineRanged (l : Line) : Type 0 where
  pub block : BlockRanged l.block
  pub legals : l.legal ≤ 1

-- A figure whose heights are in range.
abbrev pub FigureRanged : Float → Type 0
FigureRanged f = BlockRanged f.block

-- A table whose heights are in range; no table is kept with the next (document 02, S-4).
pub record TableRanged (f : Float) : Type 0 where
  pub block : BlockRanged f.block
  pub free : f.kept ≡ false
