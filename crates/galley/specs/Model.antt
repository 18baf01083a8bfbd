-- A galley that was read, as the page model has it: the text is stream 0, the figures are stream 1, and the tables, where there are
-- any, are stream 2.
use Rattle.std.specs.Prelude.{ℕ, zero, suc, Bool, not, List, eqb}
use Rattle.model.specs.Gather.{pick}
use Rattle.model.specs.Leaf.{sides_of}
use Rattle.model.specs.Galley as model
use Rattle.galley.specs.Record.{height_at, least_at, most_at, legal_at, cite_at, is_kept}
use Rattle.galley.specs.Place.{TL}
use Rattle.galley.specs.Word.{mark_at}
use Rattle.galley.specs.Block.{offset, field_of}
use Rattle.galley.specs.declared.Stream.{Stream}
use Rattle.galley.specs.declared.Galley.{Galley}

-- A stream as the page model has it, by where a page may end and what cites each block.
abbrev pub stream_of : List ℕ → Stream → (ℕ → Bool) → (ℕ → ℕ) → model.Stream
stream_of bytes stream legal cite =
    record {
      size = stream.count;
      ht = field_of bytes stream height_at;
      least = field_of bytes stream least_at;
      most = field_of bytes stream most_at;
      legal = legal;
      cite = cite;
    }

-- A page may end in the space after block k: after a line (`TL`) whose last field is 1, and after a float that is not kept (`FK`)
-- with the next (document 02, S-3).
unfoldable pub legal_of : List ℕ → Stream → ℕ → Bool
legal_of bytes stream k =
    pick (eqb (mark_at bytes (offset stream k)) TL) (eqb (field_of bytes stream legal_at k) 1) (not (is_kept bytes (offset stream k)))

-- Lines: nothing cites a line.
abbrev pub text_of : List ℕ → Stream → model.Stream
text_of bytes text = stream_of bytes text (legal_of bytes text) (λ k. 0)

-- Floats, figures or tables: the last field is the citation.
abbrev pub floats_of : List ℕ → Stream → model.Stream
floats_of bytes floats = stream_of bytes floats (legal_of bytes floats) (field_of bytes floats cite_at)

-- The stream of a number: the text is 0, the figures are 1, the tables are 2.
abbrev pub streams_of : List ℕ → Galley → ℕ → model.Stream
streams_of bytes g zero = text_of bytes g.text
streams_of bytes g (suc zero) = floats_of bytes g.figures
streams_of bytes g (suc (suc s)) = floats_of bytes g.tables

-- How many streams of floats there are (document 02, S-4): 1, the figures, or 2 where there are tables.
unfoldable pub float_streams : Galley → ℕ
float_streams g = pick (eqb g.tables.count 0) 1 2

-- The sidedness of a galley, by its field `sides` and its first folio.
abbrev pub sides_in : Galley → model.Sides
sides_in g = sides_of g.spec.sides g.folio

-- The galley as the page model has it.
abbrev pub model_of : List ℕ → Galley → model.Galley
model_of bytes g =
    record {
      spec =
          record {
            htmin = g.spec.htmin;
            htmax = g.spec.htmax;
            smin = g.spec.smin;
            smax = g.spec.smax;
            sides = sides_in g;
            alpha = g.spec.alpha;
            beta = g.spec.beta;
            lastmin = g.spec.lastmin;
          };
      floats = float_streams g;
      stream = streams_of bytes g;
    }
