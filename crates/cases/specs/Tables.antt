-- The cases of S-4 of document 02: tables in a stream of their own, and three words a page.
use Rattle.std.specs.Prelude.{List, [], ◌∷◌}
use Rattle.model.specs.Galley.{single, double}
use Rattle.cases.specs.Case.{Case, making, marking, makes, marks, refuses, asks}
use Rattle.cases.specs.Galleys.{figure, galley_c, galley_j, galley_k, galley_l, galley_m, galley_n, galley_q, tabling, as_tables, keeping, closing}

-- Which list is best, and what a list is worth.
unfoldable pub tables_made : List Case
tables_made =
    -- figure first or table first, at equal turns; of the two the later starting figure goes before the later starting table
    asks galley_k making (makes 2 1 1 2 0 (2 ∷ 1 ∷ 0 ∷ 3 ∷ 1 ∷ 1 ∷ []))
    ∷ asks galley_k (marking (2 ∷ 0 ∷ 1 ∷ 3 ∷ 1 ∷ 1 ∷ [])) (marks 2 1 1 2 0)
    -- a figure that is kept with the next one waits, and the table does not
    ∷ asks (keeping 1 (tabling (figure 10 1 ∷ []) galley_j)) making (makes 3 4 2 6 0 (2 ∷ 0 ∷ 1 ∷ 2 ∷ 2 ∷ 1 ∷ 2 ∷ 3 ∷ 1 ∷ []))
    -- the later starting table; there is no figure, and the weight of X is 0
    ∷ asks (as_tables galley_q) making (makes 2 1 1 1 0 (2 ∷ 0 ∷ 1 ∷ 2 ∷ 0 ∷ 2 ∷ []))
    -- C1, C2 and C3 with a table in place of the figure
    ∷ asks (as_tables (galley_c (double 1))) making (makes 5 0 2 2 20 (1 ∷ 0 ∷ 0 ∷ 2 ∷ 0 ∷ 0 ∷ 3 ∷ 0 ∷ 0 ∷ 4 ∷ 0 ∷ 0 ∷ 4 ∷ 0 ∷ 1 ∷ []))
    ∷ asks (as_tables (galley_c (double 1))) (marking (2 ∷ 0 ∷ 0 ∷ 3 ∷ 0 ∷ 0 ∷ 4 ∷ 0 ∷ 0 ∷ 4 ∷ 0 ∷ 1 ∷ [])) (marks 4 1 2 3 0)
    ∷ asks (as_tables (galley_c (double 1))) (marking (1 ∷ 0 ∷ 0 ∷ 2 ∷ 0 ∷ 0 ∷ 3 ∷ 0 ∷ 0 ∷ 3 ∷ 0 ∷ 1 ∷ 4 ∷ 0 ∷ 1 ∷ [])) (marks 5 0 2 2 20)
    -- C with such a table beside its figure: X counts the spreads to both
    ∷ asks (tabling (figure 20 4 ∷ []) (galley_c (double 1))) making
    (makes 5 2 2 4 0 (2 ∷ 0 ∷ 0 ∷ 3 ∷ 0 ∷ 0 ∷ 4 ∷ 0 ∷ 0 ∷ 4 ∷ 1 ∷ 0 ∷ 4 ∷ 1 ∷ 1 ∷ []))
    ∷ asks (tabling (figure 20 4 ∷ []) (galley_c (double 1))) (marking (2 ∷ 0 ∷ 0 ∷ 3 ∷ 0 ∷ 0 ∷ 4 ∷ 0 ∷ 0 ∷ 4 ∷ 0 ∷ 1 ∷ 4 ∷ 1 ∷ 1 ∷ [])) (marks 5 2 2 4 0)
    -- a table on page 1, before any line, which the page that it faces cites
    ∷ asks (galley_n 2) (marking (0 ∷ 0 ∷ 1 ∷ 1 ∷ 1 ∷ 1 ∷ [])) (marks 2 0 0 0 5)
    ∷ asks (galley_n 3) (marking (0 ∷ 0 ∷ 1 ∷ 1 ∷ 1 ∷ 1 ∷ [])) (refuses 17 1)
    -- a page for each block, and a page that has a table alone
    ∷ asks galley_k (marking (1 ∷ 0 ∷ 0 ∷ 2 ∷ 0 ∷ 0 ∷ 3 ∷ 0 ∷ 0 ∷ 3 ∷ 1 ∷ 0 ∷ 3 ∷ 1 ∷ 1 ∷ [])) (marks 5 7 4 11 110)
    ∷ asks galley_k (marking (2 ∷ 1 ∷ 0 ∷ 3 ∷ 1 ∷ 0 ∷ 3 ∷ 1 ∷ 1 ∷ [])) (marks 3 2 2 4 30)
    ∷ []

-- The height of a page of several kinds, to the unit.
unfoldable pub tables_high : List Case
tables_high =
    -- a line, the figure and the table have two separations: 38 at the tightest, 40 at the loosest
    asks (galley_l 38 38) making (makes 2 0 1 1 0 (1 ∷ 1 ∷ 1 ∷ 2 ∷ 1 ∷ 1 ∷ []))
    ∷ asks (galley_l 37 37) (marking (1 ∷ 1 ∷ 1 ∷ 2 ∷ 1 ∷ 1 ∷ [])) (refuses 15 1)
    ∷ asks (galley_l 40 40) (marking (1 ∷ 1 ∷ 1 ∷ 2 ∷ 1 ∷ 1 ∷ [])) (marks 2 0 1 1 0)
    ∷ asks (galley_l 41 41) (marking (1 ∷ 1 ∷ 1 ∷ 2 ∷ 1 ∷ 1 ∷ [])) (refuses 16 1)
    -- the figure and the table alone have one: 24 at the tightest, 25 at the loosest
    ∷ asks (galley_l 0 24) (marking (2 ∷ 0 ∷ 0 ∷ 2 ∷ 1 ∷ 1 ∷ [])) (marks 2 2 1 3 4)
    ∷ asks (galley_l 0 23) (marking (2 ∷ 0 ∷ 0 ∷ 2 ∷ 1 ∷ 1 ∷ [])) (refuses 15 2)
    ∷ asks (closing 25 (galley_l 0 30)) (marking (2 ∷ 0 ∷ 0 ∷ 2 ∷ 1 ∷ 1 ∷ [])) (marks 2 2 1 3 10)
    ∷ asks (closing 26 (galley_l 0 30)) (marking (2 ∷ 0 ∷ 0 ∷ 2 ∷ 1 ∷ 1 ∷ [])) (refuses 16 2)
    ∷ []

-- Lists that are refused, by number and place.
unfoldable pub tables_refused : List Case
tables_refused =
    -- 12: an even number of words that is no multiple of three; a page more than there are blocks
    asks galley_k (marking (2 ∷ 1 ∷ 0 ∷ 3 ∷ [])) (refuses 12 0)
    ∷ asks galley_k (marking (1 ∷ 0 ∷ 0 ∷ 2 ∷ 0 ∷ 0 ∷ 3 ∷ 0 ∷ 0 ∷ 3 ∷ 1 ∷ 0 ∷ 3 ∷ 1 ∷ 1 ∷ 3 ∷ 1 ∷ 1 ∷ [])) (refuses 12 0)
    -- 13: the tables fall; a table more than there are; an empty page
    ∷ asks galley_k (marking (2 ∷ 0 ∷ 1 ∷ 3 ∷ 1 ∷ 0 ∷ [])) (refuses 13 2)
    ∷ asks galley_k (marking (2 ∷ 1 ∷ 0 ∷ 3 ∷ 1 ∷ 2 ∷ [])) (refuses 13 2)
    ∷ asks galley_k (marking (2 ∷ 1 ∷ 0 ∷ 2 ∷ 1 ∷ 0 ∷ 3 ∷ 1 ∷ 1 ∷ [])) (refuses 13 2)
    -- 14: a kept figure, where the table could end the page
    ∷ asks (keeping 1 (tabling (figure 10 1 ∷ []) galley_j)) (marking (2 ∷ 1 ∷ 0 ∷ 2 ∷ 2 ∷ 1 ∷ 2 ∷ 3 ∷ 1 ∷ [])) (refuses 14 1)
    -- 17: the table is too soon, and the figure is not; the figure is too soon, and the table is not; neither is
    ∷ asks (galley_m 1 2) (marking (1 ∷ 1 ∷ 1 ∷ 2 ∷ 1 ∷ 1 ∷ [])) (refuses 17 1)
    ∷ asks (galley_m 2 1) (marking (1 ∷ 1 ∷ 1 ∷ 2 ∷ 1 ∷ 1 ∷ [])) (refuses 17 1)
    ∷ asks (galley_m 1 1) (marking (1 ∷ 1 ∷ 1 ∷ 2 ∷ 1 ∷ 1 ∷ [])) (marks 2 0 1 1 10)
    -- 17: C3 single-sided, with a table
    ∷ asks (as_tables (galley_c single)) (marking (1 ∷ 0 ∷ 0 ∷ 2 ∷ 0 ∷ 0 ∷ 3 ∷ 0 ∷ 0 ∷ 3 ∷ 0 ∷ 1 ∷ 4 ∷ 0 ∷ 1 ∷ [])) (refuses 17 4)
    -- 18: the table is missing; the figure is
    ∷ asks galley_k (marking (2 ∷ 1 ∷ 0 ∷ 3 ∷ 1 ∷ 0 ∷ [])) (refuses 18 2)
    ∷ asks galley_k (marking (2 ∷ 0 ∷ 1 ∷ 3 ∷ 0 ∷ 1 ∷ [])) (refuses 18 2)
    ∷ []
