-- What a galley that reads without refusal keeps to: document 01, "The galley file".
use Rattle.std.specs.Prelude.{ℕ, ◌+◌, ◌*◌, ◌≤◌, List, false, ◌⊎◌, ◌≡◌, length, Ok}
use Rattle.galley.specs.Record.{legal_at, cite_at, block_of, line_of, float_of, is_kept, record_at}
use Rattle.galley.specs.Place.{spec_size}
use Rattle.galley.specs.Block.{offset, field_of}
use Rattle.galley.specs.Range.{SpecRanged, Edition, BlockRanged}
use Rattle.galley.specs.declared.Stream.{Stream}
use Rattle.galley.specs.declared.Galley.{Galley}
use Rattle.galley.specs.declared.Record.{Record}
use Rattle.galley.specs.declared.Record.TheVariants as found

-- The stream lies within the bytes, and every height and space in it is in range.
pub record SoundStream (bytes : List ℕ) (stream : Stream) : Type 0 where
  pub within : stream.first + stream.count * 18 ≤ length bytes
  pub ranged : (k : ℕ) → 1 ≤ k → k ≤ stream.count → BlockRanged (block_of bytes (offset stream k))

-- Each block of the stream is read where its number says, as the record that is due at that offset.
abbrev pub Reads : List ℕ → Stream → (ℕ → Record) → Type 0
Reads bytes stream due = (k : ℕ) → 1 ≤ k → k ≤ stream.count → record_at bytes (offset stream k) ≡ Ok (due (offset stream k))

-- The first folio stands in an `FO` straight after the specification, or there is none and it is 1; line 1 follows.
abbrev pub Opening : List ℕ → Galley → Type 0
Opening bytes g =
    let end = spec_size g.spec.edition in
    ((g.folio ≡ 1) × (g.text.first ≡ end)) ⊎ ((record_at bytes end ≡ Ok (found.Folio g.folio)) × (g.text.first ≡ end + 6))

-- Citations never decrease along the stream.
abbrev pub Growing : List ℕ → Stream → Type 0
Growing bytes floats =
    (j k : ℕ) → 1 ≤ j → j ≤ k → k ≤ floats.count → field_of bytes floats cite_at j ≤ field_of bytes floats cite_at k

-- Each float of the stream is cited by one of so many lines, none by a line before the one that cites the float before it.
pub record SoundCitations (bytes : List ℕ) (floats : Stream) (lines : ℕ) : Type 0 where
  pub some : (k : ℕ) → 1 ≤ k → k ≤ floats.count → 1 ≤ field_of bytes floats cite_at k
  pub line : (k : ℕ) → 1 ≤ k → k ≤ floats.count → field_of bytes floats cite_at k ≤ lines
  pub grow : Growing bytes floats

-- Floats of one stream, no more than there may be, each read where its number says.
pub record SoundFloats (bytes : List ℕ) (floats : Stream) (lines most : ℕ) (due : ℕ → Record) : Type 0 where
  pub few : floats.count ≤ most
  pub sound : SoundStream bytes floats
  pub read : Reads bytes floats due
  pub citations : SoundCitations bytes floats lines

-- The number of the line that block k of a stream of floats cites.
abbrev pub citation : List ℕ → Stream → ℕ → ℕ
citation bytes floats k = field_of bytes floats cite_at k

-- From 1 to 4,000 lines, up to 200 figures and up to 50 tables, each read where its number says, every field in range, citations that name
-- lines and never decrease, and nothing between or after the records. The first folio is in range, whether the bytes name it or not: a
-- chapter of a book opens on another (document 02, S-9).
pub record Sound (bytes : List ℕ) (g : Galley) : Type 0 where
  pub some_lines : 1 ≤ g.text.count
  pub few_lines : g.text.count ≤ 4000
  pub spec_ranged : SpecRanged g.spec
  pub edition : Edition g.spec
  pub spec_read : record_at bytes 0 ≡ Ok (found.Spec g.spec)
  pub some_folio : 1 ≤ g.folio
  pub few_folios : g.folio ≤ 9999
  pub text : SoundStream bytes g.text
  pub text_read : Reads bytes g.text (λ at. found.Line (line_of bytes at))
  pub legals : (k : ℕ) → 1 ≤ k → k ≤ g.text.count → field_of bytes g.text legal_at k ≤ 1
  pub figures : SoundFloats bytes g.figures g.text.count 200 (λ at. found.Figure (float_of (is_kept bytes at) bytes at))
  pub tables : SoundFloats bytes g.tables g.text.count 50 (λ at. found.Table (float_of false bytes at))
  pub follow : g.figures.first ≡ g.text.first + g.text.count * 18
  pub follow_tables : g.tables.first ≡ g.figures.first + g.figures.count * 18
  pub ends : g.tables.first + g.tables.count * 18 + 2 ≡ length bytes
