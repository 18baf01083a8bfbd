-- What each refusal of a galley says of its bytes, 1 to 8 (document 01, "Numbers that turn work away"), and what a galley is. A refusal is told
-- by the records that stand whole and right before a place, and by what is there. Nothing here goes step by step.
use Rattle.std.specs.Prelude.{ℕ, zero, suc, ◌+◌, ◌*◌, ◌≤◌, ◌<◌, ◌≡◌, ◌⊎◌, Bool, true, false, not, ◌&&◌, ◌||◌, List, length, eqb, Ok}
use Rattle.model.specs.Gather.{pick}
use Rattle.galley.specs.Word.{mark_at}
use Rattle.galley.specs.Place.{GS, G2, FO, TL, FG, FK, TB, ED, spec_size, kind_of}
use Rattle.galley.specs.Range.{spec_in_range, folio_in_range, block_in_range, line_in_range}
use Rattle.galley.specs.Record.{spec_of, opening_folio, block_of, cite_at, line_of, float_of, is_kept, record_at}
use Rattle.galley.specs.Block.{field_of}
use Rattle.galley.specs.Sound.{Reads, SoundCitations}
use Rattle.galley.specs.Write.{Stated, unstated, stated, folio_of}
use Rattle.galley.specs.declared.Spec.{Spec}
use Rattle.galley.specs.declared.Float.{Float}
use Rattle.galley.specs.declared.Stream.{Stream}
use Rattle.galley.specs.declared.Galley.{Galley}
use Rattle.galley.specs.declared.Record.{Record}
use Rattle.galley.specs.declared.Record.TheVariants as found

-- The records at the beginning of a galley: none, or a specification, a folio if it is stated, and so many lines, figures and tables.
pub data Start : Type 0 where
  nothing : Start
  begun : Spec → Stated → ℕ → ℕ → ℕ → Start

-- Where line 1 is due.
unfoldable pub head_of : Spec → Stated → ℕ
head_of s unstated = spec_size s.edition
head_of s (stated f) = spec_size s.edition + 6

-- The lines, the figures after them and the tables after those, 18 bytes each.
abbrev pub galley_in : Spec → Stated → ℕ → ℕ → ℕ → Galley
galley_in s o m n k =
    record {
      spec = s;
      folio = folio_of o;
      text = record { first = head_of s o; count = m };
      figures = record { first = head_of s o + m * 18; count = n };
      tables = record { first = head_of s o + m * 18 + n * 18; count = k };
    }

-- Where the next record is due.
unfoldable pub due_at : Start → ℕ
due_at nothing = 0
due_at (begun s o m n k) = head_of s o + m * 18 + n * 18 + k * 18

-- Floats of one stream: no more than there may be, each whole and in range where its number says, rightly cited by one of m lines.
pub record Floats (bytes : List ℕ) (floats : Stream) (m most : ℕ) (due : ℕ → Record) : Type 0 where
  pub few : floats.count ≤ most
  pub read : Reads bytes floats due
  pub citations : SoundCitations bytes floats m

-- A folio that is stated stands there.
abbrev pub FolioAt : List ℕ → ℕ → Stated → Type 0
FolioAt bytes at unstated = Unit {0}
FolioAt bytes at (stated f) = record_at bytes at ≡ Ok (found.Folio f)

-- The bytes begin with these records, each whole, in range and rightly cited.
pub record Begun (bytes : List ℕ) (s : Spec) (o : Stated) (m n k : ℕ) : Type 0 where
  pub spec : record_at bytes 0 ≡ Ok (found.Spec s)
  pub folio : FolioAt bytes (spec_size s.edition) o
  pub few : m ≤ 4000
  pub lines : Reads bytes (galley_in s o m n k).text (λ at. found.Line (line_of bytes at))
  pub figures : Floats bytes (galley_in s o m n k).figures m 200 (λ at. found.Figure (float_of (is_kept bytes at) bytes at))
  pub tables : Floats bytes (galley_in s o m n k).tables m 50 (λ at. found.Table (float_of false bytes at))

-- The same of any beginning; of none nothing is asked.
unfoldable pub Begins : List ℕ → Start → Type 0
Begins bytes nothing = Unit {0}
Begins bytes (begun s o m n k) = Begun bytes s o m n k

-- The marks of floats and of the end, which come after the lines.
abbrev pub closing : ℕ → Bool
closing mark = eqb mark FG || eqb mark FK || eqb mark TB || eqb mark ED

-- The marks that may follow these records: a specification comes first, a folio straight after it, no line after a figure or a table, no
-- figure after a table (document 01, "The galley file"; document 02, S-1, S-3, S-4 and S-11).
unfoldable pub may_follow : Start → ℕ → Bool
may_follow nothing mark = eqb mark GS || eqb mark G2
may_follow (begun s unstated zero zero zero) mark = eqb mark FO || eqb mark TL || closing mark
may_follow (begun s (stated f) zero zero zero) mark = eqb mark TL || closing mark
may_follow (begun s o (suc m) zero zero) mark = eqb mark TL || closing mark
may_follow (begun s o m (suc n) zero) mark = closing mark
may_follow (begun s o m n (suc k)) mark = eqb mark TB || eqb mark ED

-- A mark that comes after the lines, where there is no line.
unfoldable pub early : Start → ℕ → Bool
early nothing mark = false
early (begun s o zero n k) mark = closing mark
early (begun s o (suc m) n k) mark = false

-- A line after 4,000, a figure after 200 or a table after 50.
unfoldable pub crowded : Start → ℕ → Bool
crowded nothing mark = false
crowded (begun s o m n k) mark =
    pick (eqb mark TL) (eqb m 4000)
    (pick (eqb mark FG || eqb mark FK) (eqb n 200)
    (eqb mark TB && eqb k 50))

-- The mark fits there: it may follow, not before the first line, and there may be one more of its kind.
abbrev pub fits : Start → ℕ → Bool
fits b mark = may_follow b mark && not (early b mark) && not (crowded b mark)

-- The lines, the figures and the tables that stand there.
abbrev pub lines_in : Start → ℕ
lines_in nothing = 0
lines_in (begun s o m n k) = m

abbrev pub figures_in : Start → Stream
figures_in nothing = record { first = 0; count = 0 }
figures_in (begun s o m n k) = (galley_in s o m n k).figures

abbrev pub tables_in : Start → Stream
tables_in nothing = record { first = 0; count = 0 }
tables_in (begun s o m n k) = (galley_in s o m n k).tables

-- The line cited last in a stream, 0 where there is no float.
abbrev pub last_cited : List ℕ → Stream → ℕ
last_cited bytes floats = pick (eqb floats.count 0) 0 (field_of bytes floats cite_at floats.count)

-- A figure or a table at an offset, after those that stand there, and the line cited last in its stream.
abbrev pub FloatAt : List ℕ → Start → ℕ → Float → ℕ → Type 0
FloatAt bytes b at f last =
    ((record_at bytes at ≡ Ok (found.Figure f)) × (last ≡ last_cited bytes (figures_in b)))
    ⊎ ((record_at bytes at ≡ Ok (found.Table f)) × (last ≡ last_cited bytes (tables_in b)))

-- These records stand before the place, and the next one is due there.
pub record Upto (bytes : List ℕ) (at : ℕ) (b : Start) : Type 0 where
  pub begins : Begins bytes b
  pub due : due_at b ≡ at

-- These records stand before the place, and the two bytes of a mark are there.
pub record Marked (bytes : List ℕ) (at : ℕ) (b : Start) : Type 0 where
  pub upto : Upto bytes at b
  pub mark : at + 2 ≤ length bytes

-- These records stand before the place, and the mark there fits.
pub record Fitting (bytes : List ℕ) (at : ℕ) (b : Start) : Type 0 where
  pub marked : Marked bytes at b
  pub fit : fits b (mark_at bytes at) ≡ true

-- 1: the bytes end before the mark of a record, or inside a record whose mark fits; `size` is the bytes of a record with that mark.
abbrev pub StopsShort : List ℕ → ℕ → Type 0
StopsShort bytes at =
    ((b : Start) × Upto bytes at b × (length bytes < at + 2))
    ⊎ ((b : Start) × Fitting bytes at b × (length bytes < at + (kind_of (mark_at bytes at)).size))

-- 2: the mark is unknown, or may not follow.
abbrev pub UnknownMark : List ℕ → ℕ → Type 0
UnknownMark bytes at = (b : Start) × Marked bytes at b × (may_follow b (mark_at bytes at) ≡ false)

-- The fields after a mark are in their ranges; the end has none (document 01, "The galley file"; document 02, S-1 and S-11).
unfoldable pub in_range : ℕ → List ℕ → ℕ → Bool
in_range mark bytes at =
    pick (eqb mark GS || eqb mark G2) (spec_in_range (spec_of (eqb mark G2) bytes at))
    (pick (eqb mark FO) (folio_in_range (opening_folio bytes at))
    (pick (eqb mark TL) (line_in_range (line_of bytes at))
    (pick (eqb mark ED) true
    (block_in_range (block_of bytes at)))))

-- 3: the mark fits and the record is whole, and a field is out of its range.
abbrev pub BadField : List ℕ → ℕ → Type 0
BadField bytes at =
    (b : Start) × Fitting bytes at b × (at + (kind_of (mark_at bytes at)).size ≤ length bytes) × (in_range (mark_at bytes at) bytes at ≡ false)

-- 4: the mark may follow, and there are as many of its kind as there may be.
abbrev pub TooMany : List ℕ → ℕ → Type 0
TooMany bytes at =
    (b : Start) × Marked bytes at b × (may_follow b (mark_at bytes at) ≡ true) × (early b (mark_at bytes at) ≡ false)
    × (crowded b (mark_at bytes at) ≡ true)

-- 5: the mark may follow, but there is no line yet.
abbrev pub BeforeFirstLine : List ℕ → ℕ → Type 0
BeforeFirstLine bytes at = (b : Start) × Marked bytes at b × (may_follow b (mark_at bytes at) ≡ true) × (early b (mark_at bytes at) ≡ true)

-- 6: a figure or a table that fits, whole and in range, cites line 0 or one that is not there.
abbrev pub NoSuchLine : List ℕ → ℕ → Type 0
NoSuchLine bytes at =
    (b : Start) × (f : Float) × (last : ℕ) × Fitting bytes at b × FloatAt bytes b at f last × ((f.cite ≡ 0) ⊎ (lines_in b < f.cite))

-- 7: one that cites a line that is there cites one before the line cited last in its stream.
abbrev pub OutOfOrder : List ℕ → ℕ → Type 0
OutOfOrder bytes at =
    (b : Start) × (f : Float) × (last : ℕ) × Fitting bytes at b × FloatAt bytes b at f last × (1 ≤ f.cite) × (f.cite ≤ lines_in b) × (f.cite < last)

-- The end stands there, and fits.
pub record Ended (bytes : List ℕ) (at : ℕ) (b : Start) : Type 0 where
  pub fitting : Fitting bytes at b
  pub here : record_at bytes at ≡ Ok found.End

-- 8: the end stands 2 bytes before the place, and something follows.
abbrev pub AfterEnd : List ℕ → ℕ → Type 0
AfterEnd bytes at = (b : Start) × (end : ℕ) × Ended bytes end b × (end + 2 ≡ at) × (at < length bytes)

-- A galley: its records, the end, and nothing after it.
abbrev pub IsGalley : List ℕ → Galley → Type 0
IsGalley bytes g =
    (s : Spec) × (o : Stated) × (m : ℕ) × (n : ℕ) × (k : ℕ) × (end : ℕ) × Ended bytes end (begun s o m n k) × (end + 2 ≡ length bytes)
    × (g ≡ galley_in s o m n k)
