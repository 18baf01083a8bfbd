-- The cases where two requests of document 02 meet: folio (S-1), kept figures (S-3), tables (S-4), opening (S-6), white (S-10), edition
-- (S-11), book (S-9) and sidedness, pair by pair, each with a row that a reading fails which has both right by themselves. Pairs that are
-- not here meet in a row of another list, and tests/model/traps has a wrong reading of each; an opening and a book never meet.
use Rattle.std.specs.Prelude.{true, List, [], ◌∷◌}
use Rattle.model.specs.Galley.{single, double}
use Rattle.model.specs.Leaf.{sides_of}
use Rattle.cases.specs.Case.{Case, making, marking, making_after, weighing_after, binding, makes, refuses, counts, asks}
use Rattle.cases.specs.Galleys.{line, figure, galley_d, galley_i, galley_j, galley_k, galley_p, galley_t, sided, keeping, closing}

-- Folio and kept figures: page 1 opens a spread, and a kept figure ends it.
unfoldable pub folio_kept : List Case
folio_kept =
    asks (keeping 1 (sided (double 2) galley_j)) (marking (0 ∷ 1 ∷ 2 ∷ 2 ∷ 2 ∷ 3 ∷ [])) (refuses 14 1)
    ∷ []

-- Folio and opening: the printed page opens a spread, and its figure is cited on the page that it faces.
unfoldable pub folio_opening : List Case
folio_opening =
    asks (galley_i 2) (making_after (0 ∷ 1 ∷ [])) (makes 2 0 0 0 5 (0 ∷ 1 ∷ 1 ∷ 2 ∷ []))
    ∷ []

-- Folio and edition: the last page, a right-hand one, is held to lastMin.
unfoldable pub folio_edition : List Case
folio_edition =
    asks (closing 11 (galley_d (double 2) 1)) making (makes 2 0 0 0 10 (1 ∷ 0 ∷ 3 ∷ 0 ∷ []))
    ∷ []

-- Folio and sidedness: single-sided work has no use for an even folio.
unfoldable pub folio_sided : List Case
folio_sided =
    asks (galley_d (sides_of 1 38) 1) making (makes 2 0 1 1 0 (2 ∷ 0 ∷ 3 ∷ 0 ∷ []))
    ∷ []

-- Kept figures and opening: the printed page parts two that are kept together.
unfoldable pub kept_opening : List Case
kept_opening =
    asks (keeping 1 galley_j) (making_after (2 ∷ 1 ∷ [])) (refuses 20 1)
    ∷ []

-- Kept figures and edition: they are kept in the second one too.
unfoldable pub kept_edition : List Case
kept_edition =
    asks (closing 5 (keeping 1 galley_j)) (marking (2 ∷ 1 ∷ 2 ∷ 2 ∷ 2 ∷ 3 ∷ [])) (refuses 14 1)
    ∷ []

-- Kept figures and book: the second chapter keeps its own, and the first has none to keep.
unfoldable pub kept_book : List Case
kept_book =
    asks galley_j (binding (keeping 1 galley_j ∷ [])) (makes 6 7 5 12 20 (2 ∷ 1 ∷ 2 ∷ 2 ∷ 2 ∷ 3 ∷ 2 ∷ 0 ∷ 2 ∷ 2 ∷ 2 ∷ 3 ∷ []))
    ∷ []

-- Kept figures and sidedness: they are kept double-sided too.
unfoldable pub kept_sided : List Case
kept_sided =
    asks (keeping 1 (sided (double 1) galley_j)) (marking (2 ∷ 1 ∷ 2 ∷ 2 ∷ 2 ∷ 3 ∷ [])) (refuses 14 1)
    ∷ []

-- Tables and opening: three words a page; nothing is left to print once all tables are placed too; and what is weighed
-- starts past its tables.
unfoldable pub tables_opening : List Case
tables_opening =
    asks galley_k (making_after (2 ∷ 1 ∷ 0 ∷ 3 ∷ [])) (refuses 20 0)
    ∷ asks galley_k (making_after (2 ∷ 1 ∷ 0 ∷ 3 ∷ 1 ∷ 0 ∷ [])) (makes 3 2 2 4 30 (2 ∷ 1 ∷ 0 ∷ 3 ∷ 1 ∷ 0 ∷ 3 ∷ 1 ∷ 1 ∷ []))
    ∷ asks galley_k (weighing_after (2 ∷ 0 ∷ 1 ∷ [])) (counts 5 256)
    ∷ []

-- Opening and edition: what follows the printed pages closes on one line, and lastMin asks for two.
unfoldable pub opening_edition : List Case
opening_edition =
    asks (closing 11 (galley_d single 1)) (making_after (2 ∷ 0 ∷ [])) (refuses 11 0)
    ∷ []

-- White and edition: the last page is held to a height, and its white is still none of W.
unfoldable pub white_edition : List Case
white_edition =
    asks (closing 10 (galley_d single 1)) making (makes 2 0 1 1 0 (2 ∷ 0 ∷ 3 ∷ 0 ∷ []))
    ∷ []

-- Edition and book: each chapter closes on two lines.
unfoldable pub edition_book : List Case
edition_book =
    asks (closing 11 (galley_d single 1)) (binding (closing 11 (galley_d single 1) ∷ [])) (makes 4 0 3 3 20 (1 ∷ 0 ∷ 3 ∷ 0 ∷ 1 ∷ 0 ∷ 3 ∷ 0 ∷ []))
    ∷ []

-- Edition and sidedness: double-sided the last page is held to lastMin too.
unfoldable pub edition_sided : List Case
edition_sided =
    asks (closing 11 (galley_d (double 1) 1)) making (makes 2 0 1 1 10 (1 ∷ 0 ∷ 3 ∷ 0 ∷ []))
    ∷ []

-- Book and sidedness: the third chapter opens on the folio after both others, on the wrong side; and one chapter alone has an even
-- last folio rather than later starts.
unfoldable pub book_sided : List Case
book_sided =
    asks (galley_t (line 20 true ∷ []) []) (binding (galley_t (line 20 true ∷ []) [] ∷ galley_t (line 10 true ∷ []) (figure 20 1 ∷ []) ∷ []))
    (refuses 11 0)
    ∷ asks (galley_p (double 1) 0) (binding []) (makes 2 0 1 0 0 (4 ∷ 0 ∷ 5 ∷ 0 ∷ []))
    ∷ []
