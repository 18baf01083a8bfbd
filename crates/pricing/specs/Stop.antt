-- What a place says of a page that ends there: of its column's floats once, of its line once, and of each side.
use Rattle.std.specs.Prelude.{ℕ, ◌%◌, Bool, ◌&&◌, List, eqb, leb}
use Rattle.model.specs.Gather.{pick}
use Rattle.model.specs.Galley as model
use Rattle.model.specs.Leaf.{ends}
use Rattle.model.specs.Rules.{may_end, closes, cited}
use Rattle.theorems.specs.pages.Graph.{full}
use Rattle.galley.specs.declared.Galley.{Galley}
use Rattle.galley.specs.Model.{text_of, floats_of, sides_in}
use Rattle.galley.specs.Sound.{Sound}
use Rattle.blocks.specs.declared.Counts.{Counts}
use Rattle.blocks.specs.Counts.{Within}
use Rattle.rules.specs.Parts.{cited_from}
use Rattle.pricing.specs.declared.Floats.{Floats}
use Rattle.pricing.specs.declared.Stop.{Stop}

-- A page may end at a place on side c: rules 14 and 17.
abbrev pub stops_at : model.Galley → model.Place → ℕ → Bool
stops_at g v c = closes g v && cited g c (full g v) v

-- A page ends at a place of a galley that was read.
pub record Stopping (bytes : List ℕ) (g : Galley) (at : Counts) : Type 0 where
  pub sound : Sound bytes g
  pub within : Within g at

-- What the floats placed say, whatever the line: the same for all places of a column.
abbrev pub floats_say : List ℕ → Galley → Counts → Floats
floats_say bytes g at =
    record {
      closes = may_end (floats_of bytes g.figures) at.figures && may_end (floats_of bytes g.tables) at.tables;
      cited = cited_from bytes g at;
      all = eqb at.figures g.figures.count && eqb at.tables g.tables.count;
    }

-- What a line says with floats that say so much.
abbrev pub stop_from : List ℕ → Galley → ℕ → Floats → Stop
stop_from bytes g line floats =
    record {
      closes = may_end (text_of bytes g.text) line && floats.closes;
      cited = leb floats.cited line;
      full = eqb line g.text.count && floats.all;
    }

-- What a place says.
abbrev pub stop_at : List ℕ → Galley → Counts → Stop
stop_at bytes g at = stop_from bytes g at.lines (floats_say bytes g at)

-- A page on side c ends its leaf.
abbrev pub turns_on : Galley → ℕ → Bool
turns_on g c = ends (sides_in g) c

-- The side whose pages end their leaf: in double-sided work that of the pages whose number is odd where the first folio is, and
-- even where it is even; in single-sided work the only one.
unfoldable pub ending_side : Galley → ℕ
ending_side g = pick (eqb g.spec.sides 2) (g.folio % 2) 0
