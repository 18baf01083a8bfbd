-- The record at an offset: document 01, "The galley file".
use Rattle.std.specs.Prelude.{ℕ, ◌+◌, ◌-◌, ◌≤◌, List, length, Bool, true, false, ◌||◌, ◌≡◌, ltb, eqb, Result, Ok, Err}
use Rattle.model.specs.Gather.{pick}
use Rattle.galley.specs.Word.{word_at, mark_at}
use Rattle.galley.specs.Range.{spec_in_range, folio_in_range, block_in_range, line_in_range}
use Rattle.galley.specs.Place.{GS, G2, FO, TL, FG, FK, TB, ED, kind_of}
use Rattle.galley.specs.declared.Spec.{Spec}
use Rattle.galley.specs.declared.Block.{Block}
use Rattle.galley.specs.declared.Line.{Line}
use Rattle.galley.specs.declared.Float.{Float}
use Rattle.galley.specs.declared.Record.{Record}
use Rattle.galley.specs.declared.Record.TheVariants as found
use Rattle.galley.specs.declared.Unread.{Unread}

-- Whether the record at an offset is a `G2`: a specification of the second edition (document 02, S-11).
abbrev pub is_second : List ℕ → ℕ → Bool
is_second bytes at = eqb (mark_at bytes at) G2

-- The least height of the last page, which the first edition leaves at 0.
abbrev pub last_least : Bool → List ℕ → ℕ → ℕ
last_least second bytes at = pick second (word_at bytes (at + 30)) 0

-- The fields after a `GS`, or after a `G2`.
abbrev pub spec_of : Bool → List ℕ → ℕ → Spec
spec_of second bytes at =
    record {
      htmin = word_at bytes (at + 2);
      htmax = word_at bytes (at + 6);
      smin = word_at bytes (at + 10);
      smax = word_at bytes (at + 14);
      sides = word_at bytes (at + 18);
      alpha = word_at bytes (at + 22);
      beta = word_at bytes (at + 26);
      edition = pick second 2 1;
      lastmin = last_least second bytes at;
    }

-- There is room for a specification at an offset, of the second edition or the first.
pub record HasSpec (bytes : List ℕ) (at : ℕ) (second : Bool) : Type 0 where
  pub plain : at + 30 ≤ length bytes
  pub longer : second ≡ true → at + 34 ≤ length bytes

-- The field after an `FO`.
abbrev pub opening_folio : List ℕ → ℕ → ℕ
opening_folio bytes at = word_at bytes (at + 2)

-- Where the fields of a block stand, counted from its mark: the height, the least and the greatest space after it.
abbrev pub height_at : ℕ
height_at = 2

abbrev pub least_at : ℕ
least_at = 6

abbrev pub most_at : ℕ
most_at = 10

-- The last of them: of a line whether a page may end in that space, of a float the line that cites it.
abbrev pub legal_at : ℕ
legal_at = 14

abbrev pub cite_at : ℕ
cite_at = 14

-- The heights of a block, after its mark.
abbrev pub block_of : List ℕ → ℕ → Block
block_of bytes at =
    record {
      height = word_at bytes (at + height_at);
      least = word_at bytes (at + least_at);
      most = word_at bytes (at + most_at);
    }

-- The fields after a `TL`.
abbrev pub line_of : List ℕ → ℕ → Line
line_of bytes at = record { block = block_of bytes at; legal = word_at bytes (at + legal_at) }

-- The fields after an `FG` or a `TB`, or after an `FK`, which is kept with the next figure.
abbrev pub float_of : Bool → List ℕ → ℕ → Float
float_of kept bytes at = record { block = block_of bytes at; cite = word_at bytes (at + cite_at); kept = kept }

-- Whether the record at an offset is an `FK`: the space after it forbids a page end (document 02, S-3).
abbrev pub is_kept : List ℕ → ℕ → Bool
is_kept bytes at = eqb (mark_at bytes at) FK

-- What reading a record gives: the record, or the number that turns it away and the offset where it starts.
abbrev pub Read : Type 0
Read = Result Record Unread

abbrev pub unread : ℕ → ℕ → Read
unread number at = Err (record { number = number; place = at })

-- A record whose fields are in range, or 3.
abbrev pub ranged : Bool → Record → ℕ → Read
ranged fine r at = pick fine (Ok r) (unread 3 at)

-- A specification in range.
abbrev pub spec_at : Bool → List ℕ → ℕ → Read
spec_at second bytes at = ranged (spec_in_range (spec_of second bytes at)) (found.Spec (spec_of second bytes at)) at

-- A first folio in range.
abbrev pub folio_at : List ℕ → ℕ → Read
folio_at bytes at = ranged (folio_in_range (opening_folio bytes at)) (found.Folio (opening_folio bytes at)) at

-- A line in range.
abbrev pub line_at : List ℕ → ℕ → Read
line_at bytes at = ranged (line_in_range (line_of bytes at)) (found.Line (line_of bytes at)) at

-- A figure or a table in range; its citation is tested where its place is known.
abbrev pub float_at : (Float → Record) → Bool → List ℕ → ℕ → Read
float_at kind kept bytes at = ranged (block_in_range (block_of bytes at)) (kind (float_of kept bytes at)) at

-- What the fields after a mark say; an unknown mark is 2.
unfoldable pub fields_of : ℕ → List ℕ → ℕ → Read
fields_of mark bytes at =
    pick (eqb mark GS || eqb mark G2) (spec_at (eqb mark G2) bytes at)
    (pick (eqb mark FO) (folio_at bytes at)
    (pick (eqb mark TL) (line_at bytes at)
    (pick (eqb mark FG) (float_at found.Figure false bytes at)
    (pick (eqb mark FK) (float_at found.Figure true bytes at)
    (pick (eqb mark TB) (float_at found.Table false bytes at)
    (pick (eqb mark ED) (Ok found.End)
    (unread 2 at)))))))

-- The record at an offset: its mark is there (1), its fields are there (1), the mark is known (2) and the fields are in range (3).
unfoldable pub record_at : List ℕ → ℕ → Read
record_at bytes at =
    let mark = mark_at bytes at in
    pick (ltb (length bytes - at) 2) (unread 1 at)
    (pick (ltb (length bytes - at) (kind_of mark).size) (unread 1 at)
    (fields_of mark bytes at))
