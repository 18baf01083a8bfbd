-- A galley's bytes with a first folio put in (document 02, S-1), so that a chapter can be marked as it stands in a book (document 02, S-9).
use Rattle.std.specs.Prelude.{ℕ, ◌+◌, List, ◌++◌, take, drop}
use Rattle.galley.specs.Place.{size_in}
use Rattle.galley.specs.Record.{is_second}
use Rattle.galley.specs.Write.{stated, folio_bytes}
use Rattle.galley.specs.declared.Stream.{Stream}
use Rattle.galley.specs.declared.Galley.{Galley}

-- The bytes with an `FO` that states folio f put in straight after the specification, of either edition.
unfoldable pub stating : ℕ → List ℕ → List ℕ
stating f bytes =
    let n = size_in (is_second bytes 0) in
    take n bytes ++ folio_bytes (stated f) (drop n bytes)

-- A stream that stands 6 bytes farther on, after an `FO` more.
abbrev pub farther : Stream → Stream
farther stream = record { first = stream.first + 6; count = stream.count }

-- The galley that opens on folio f, with its streams after an `FO` more.
abbrev pub opened : ℕ → Galley → Galley
opened f g =
    record {
      spec = g.spec;
      folio = f;
      text = farther g.text;
      figures = farther g.figures;
      tables = farther g.tables;
    }
