-- The cases of the requests of document 02 that change what is valid or what a list is worth.
use Rattle.std.specs.Prelude.{List, [], ◌∷◌}
use Rattle.model.specs.Galley.{single, double}
use Rattle.cases.specs.Case.{Case, making, marking, makes, marks, refuses, asks}
use Rattle.cases.specs.Galleys.{galley_a, galley_c, galley_d, galley_i, galley_j, galley_p, keeping, closing}

-- S-1: double-sided work from another folio than 1.
unfoldable pub folios : List Case
folios =
    -- from an odd folio C1 stays, past 9,999 too
    asks (galley_c (double 3)) making (makes 5 0 2 2 20 (1 ∷ 0 ∷ 2 ∷ 0 ∷ 3 ∷ 0 ∷ 4 ∷ 0 ∷ 4 ∷ 1 ∷ []))
    ∷ asks (galley_c (double 9999)) (marking (2 ∷ 0 ∷ 3 ∷ 0 ∷ 4 ∷ 0 ∷ 4 ∷ 1 ∷ [])) (marks 4 1 2 3 0)
    -- from an even folio pages 1 and 2 face each other, and pages 3 and 4: C2 turns once and not to its figure, and the list of C3
    -- breaks rule 17
    ∷ asks (galley_c (double 2)) making (makes 4 0 1 1 0 (2 ∷ 0 ∷ 3 ∷ 0 ∷ 4 ∷ 0 ∷ 4 ∷ 1 ∷ []))
    ∷ asks (galley_c (double 38)) (marking (2 ∷ 0 ∷ 3 ∷ 0 ∷ 4 ∷ 0 ∷ 4 ∷ 1 ∷ [])) (marks 4 0 1 1 0)
    ∷ asks (galley_c (double 38)) (marking (1 ∷ 0 ∷ 2 ∷ 0 ∷ 3 ∷ 0 ∷ 3 ∷ 1 ∷ 4 ∷ 1 ∷ [])) (refuses 17 4)
    -- two pages on one spread have no turn
    ∷ asks (galley_d (double 38) 1) making (makes 2 0 0 0 0 (2 ∷ 0 ∷ 3 ∷ 0 ∷ []))
    -- the weight of Y is 0, and at equal white an even last folio comes first: two pages from folio 1, three from folio 2
    ∷ asks (galley_p (double 1) 0) making (makes 2 0 1 0 0 (4 ∷ 0 ∷ 5 ∷ 0 ∷ []))
    ∷ asks (galley_p (double 2) 0) making (makes 3 0 1 0 0 (2 ∷ 0 ∷ 4 ∷ 0 ∷ 5 ∷ 0 ∷ []))
    -- a figure on page 1, before any line, which the page that it faces cites: no turn, not for page 1 either
    ∷ asks (galley_i 2) making (makes 2 0 0 0 5 (0 ∷ 1 ∷ 1 ∷ 2 ∷ []))
    ∷ asks (galley_i 3) (marking (0 ∷ 1 ∷ 1 ∷ 2 ∷ [])) (refuses 17 1)
    ∷ asks (galley_i 3) making (makes 3 2 1 3 15 (1 ∷ 0 ∷ 1 ∷ 1 ∷ 1 ∷ 2 ∷ []))
    ∷ []

-- S-3: figures that are kept with the one after them.
unfoldable pub keepings : List Case
keepings =
    -- figure 1 stands with the lines, and the others follow on a page each; kept with figure 2 it goes with it, which costs a turn
    asks galley_j making (makes 3 3 2 5 10 (2 ∷ 1 ∷ 2 ∷ 2 ∷ 2 ∷ 3 ∷ []))
    ∷ asks (keeping 1 galley_j) making (makes 3 4 2 6 10 (2 ∷ 0 ∷ 2 ∷ 2 ∷ 2 ∷ 3 ∷ []))
    ∷ asks (keeping 1 galley_j) (marking (2 ∷ 1 ∷ 2 ∷ 2 ∷ 2 ∷ 3 ∷ [])) (refuses 14 1)
    ∷ asks (keeping 2 galley_j) (marking (2 ∷ 1 ∷ 2 ∷ 2 ∷ 2 ∷ 3 ∷ [])) (refuses 14 2)
    -- all three kept together fit on no page
    ∷ asks (keeping 2 (keeping 1 galley_j)) making (refuses 11 0)
    -- after the last figure there is nothing to keep it with
    ∷ asks (keeping 3 galley_j) making (makes 3 3 2 5 10 (2 ∷ 1 ∷ 2 ∷ 2 ∷ 2 ∷ 3 ∷ []))
    ∷ asks (keeping 1 (galley_a 0 20 1 1)) making (makes 2 0 1 1 0 (1 ∷ 1 ∷ 3 ∷ 1 ∷ []))
    ∷ []

-- S-11: the second edition, whose last page is held to lastMin.
unfoldable pub closings : List Case
closings =
    -- the last page of A1 is 20 high: it stays where that is enough, though htMin is 30; else no list of A closes on more
    asks (closing 20 (galley_a 0 20 1 1)) making (makes 2 0 1 1 0 (1 ∷ 1 ∷ 3 ∷ 1 ∷ []))
    ∷ asks (closing 21 (galley_a 0 20 1 1)) making (refuses 11 0)
    ∷ asks (closing 21 (galley_a 0 20 1 1)) (marking (1 ∷ 1 ∷ 3 ∷ 1 ∷ [])) (refuses 16 2)
    -- lastMin above htMin: the list of D that closes on one line gives way to that which closes on two, and its first page is 10 high
    ∷ asks (closing 11 (galley_d single 1)) making (makes 2 0 1 1 10 (1 ∷ 0 ∷ 3 ∷ 0 ∷ []))
    ∷ asks (closing 11 (galley_d single 1)) (marking (2 ∷ 0 ∷ 3 ∷ 0 ∷ [])) (refuses 16 2)
    -- a list that stops short is held to lastMin on its last page, before 18; page 1 of A6 is high enough
    ∷ asks (closing 11 (galley_a 0 20 1 1)) (marking (1 ∷ 1 ∷ 2 ∷ 1 ∷ [])) (refuses 16 2)
    ∷ asks (closing 30 (galley_a 0 20 1 1)) (marking (1 ∷ 1 ∷ [])) (refuses 18 1)
    ∷ []
