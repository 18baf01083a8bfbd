-- The heights of a page under way, block by block.
use Rattle.std.specs.Prelude.{ℕ, zero, suc, ◌+◌, ◌-◌, ◌≤◌, Bool, false, ◌&&◌, List, ◌≡◌, leb, ltb}
use Rattle.model.specs.Gather.{pick}
use Rattle.galley.specs.declared.Galley.{Galley}
use Rattle.galley.specs.declared.Stream.{Stream}
use Rattle.galley.specs.Sound.{Sound}
use Rattle.blocks.specs.declared.Counts.{Counts}
use Rattle.blocks.specs.Counts.{Within}
use Rattle.blocks.specs.Heights.{no_heights, separated, with_block}
use Rattle.rules.specs.Parts.{kinds_on}
use Rattle.laying.specs.declared.Laid.{Laid}

-- The blocks of a stream, by its number: the text is 0, the figures are 1, the tables are 2.
abbrev pub records_of : Galley → ℕ → Stream
records_of g zero = g.text
records_of g (suc zero) = g.figures
records_of g (suc (suc s)) = g.tables

-- How many blocks of it are placed,
abbrev pub count_of : Counts → ℕ → ℕ
count_of c zero = c.lines
count_of c (suc zero) = c.figures
count_of c (suc (suc s)) = c.tables

-- and the counts with one more.
abbrev pub one_more : Counts → ℕ → Counts
one_more c zero = record { lines = c.lines + 1; figures = c.figures; tables = c.tables }
one_more c (suc zero) = record { lines = c.lines; figures = c.figures + 1; tables = c.tables }
one_more c (suc (suc s)) = record { lines = c.lines; figures = c.figures; tables = c.tables + 1 }

-- A page from u to v before its first block: its separations alone.
unfoldable pub bare_page : Galley → Counts → Counts → Laid
bare_page g u v = record { on = u; heights = separated g.spec (kinds_on u v - 1) no_heights }

-- All blocks up to v are on the page.
unfoldable pub is_laid : Counts → Counts → Bool
is_laid on v = leb v.lines on.lines && (leb v.figures on.figures && leb v.tables on.tables)

-- The stream of the next block: the lines come first, then the figures, then the tables.
unfoldable pub next_stream : Counts → Counts → ℕ
next_stream on v = pick (ltb on.lines v.lines) 0 (pick (ltb on.figures v.figures) 1 2)

-- A page that starts at u with one block more, of stream s.
abbrev pub with_one : List ℕ → Galley → Counts → Laid → ℕ → Laid
with_one bytes g u laid s =
    record {
      on = one_more laid.on s;
      heights = with_block bytes (records_of g s) laid.heights (count_of u s) (count_of laid.on s);
    }

-- A page from u to v with its next block.
unfoldable pub with_next : List ℕ → Galley → Counts → Counts → Laid → Laid
with_next bytes g u v laid = with_one bytes g u laid (next_stream laid.on v)

-- A page that has not all its blocks, and room for the next.
pub record Open (bytes : List ℕ) (g : Galley) (v : Counts) (laid : Laid) : Type 0 where
  pub sound : Sound bytes g
  pub within : Within g v
  pub more : is_laid laid.on v ≡ false
  pub tight : laid.heights.tight ≤ 4000000000
  pub loose : laid.heights.loose ≤ 4000000000
