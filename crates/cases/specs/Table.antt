-- The table of cases: those of document 01, then those for what they leave open, then those of document 02, and last those where
-- two of its requests meet.
use Rattle.std.specs.Prelude.{List, ◌++◌}
use Rattle.cases.specs.Case.{Case}
use Rattle.cases.specs.Starred.{starred}
use Rattle.cases.specs.Further.{makings, heights, refusals}
use Rattle.cases.specs.Requests.{folios, keepings, closings}
use Rattle.cases.specs.Tables.{tables_made, tables_high, tables_refused}
use Rattle.cases.specs.Weighings.{weighings}
use Rattle.cases.specs.Openings.{openings_made, openings_turned, openings_weighed}
use Rattle.cases.specs.Whites.{whites_left, whites_after}
use Rattle.cases.specs.Books.{books}
use Rattle.cases.specs.Meetings.{folio_kept, folio_opening, folio_edition, folio_sided, kept_opening, kept_edition, kept_book, kept_sided, tables_opening, opening_edition, white_edition, edition_book, edition_sided, book_sided}

unfoldable pub table : List Case
table =
    starred ++ makings ++ heights ++ refusals ++ folios ++ keepings ++ closings ++ tables_made ++ tables_high ++ tables_refused ++ weighings
    ++ openings_made ++ openings_turned ++ openings_weighed ++ whites_left ++ whites_after ++ books
    ++ folio_kept ++ folio_opening ++ folio_edition ++ folio_sided ++ kept_opening ++ kept_edition ++ kept_book
    ++ kept_sided ++ tables_opening ++ opening_edition ++ white_edition ++ edition_book ++ edition_sided ++ book_sided
