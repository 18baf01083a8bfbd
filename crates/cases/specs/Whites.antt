-- The cases of S-10 of document 02: of lists with the same turns the one with less white, and what a list's white is.
use Rattle.std.specs.Prelude.{List, [], ◌∷◌}
use Rattle.model.specs.Galley.{single, double}
use Rattle.cases.specs.Case.{Case, making, marking, making_after, makes, marks, asks}
use Rattle.cases.specs.Galleys.{galley_d, galley_l, galley_p, galley_r}

unfoldable pub whites_left : List Case
whites_left =
    -- two lists of the same turns: the one whose first page is full, and whose last page may be as low as it comes
    asks (galley_d single 1) making (makes 2 0 1 1 0 (2 ∷ 0 ∷ 3 ∷ 0 ∷ []))
    ∷ asks (galley_d single 1) (marking (1 ∷ 0 ∷ 3 ∷ 0 ∷ [])) (marks 2 0 1 1 10)
    -- white before the later starts of three pages, and before an even last folio
    ∷ asks (galley_d single 0) making (makes 2 0 1 0 0 (2 ∷ 0 ∷ 3 ∷ 0 ∷ []))
    ∷ asks (galley_d (double 1) 1) making (makes 2 0 1 1 0 (2 ∷ 0 ∷ 3 ∷ 0 ∷ []))
    ∷ asks (galley_d (double 2) 0) making (makes 2 0 0 0 0 (2 ∷ 0 ∷ 3 ∷ 0 ∷ []))
    -- white before the later starting line: a line and the figure lack 1, three lines 3
    ∷ asks (galley_r 20 0) making (makes 2 0 1 0 1 (1 ∷ 1 ∷ 3 ∷ 1 ∷ []))
    ∷ asks (galley_r 20 0) (marking (3 ∷ 0 ∷ 3 ∷ 1 ∷ [])) (marks 2 1 1 0 3)
    -- turns before white: the page of a line and the figure lacks 8, and saves a turn
    ∷ asks (galley_r 13 1) making (makes 2 0 1 1 8 (1 ∷ 1 ∷ 3 ∷ 1 ∷ []))
    ∷ asks (galley_r 13 1) (marking (3 ∷ 0 ∷ 3 ∷ 1 ∷ [])) (marks 2 1 1 2 3)
    -- two lines stretch past htMax and lack nothing, one line lacks 15, two such pages 30; the last page lacks 15 too, uncounted
    ∷ asks (galley_p single 1) (marking (2 ∷ 0 ∷ 5 ∷ 0 ∷ [])) (marks 2 0 1 1 0)
    ∷ asks (galley_p single 1) (marking (1 ∷ 0 ∷ 5 ∷ 0 ∷ [])) (marks 2 0 1 1 15)
    ∷ asks (galley_p (double 1) 1) (marking (1 ∷ 0 ∷ 2 ∷ 0 ∷ 4 ∷ 0 ∷ 5 ∷ 0 ∷ [])) (marks 4 0 2 2 30)
    -- a line, the figure and the table reach 40 with both separations at their greatest
    ∷ asks (galley_l 0 60) (marking (1 ∷ 1 ∷ 1 ∷ 2 ∷ 1 ∷ 1 ∷ [])) (marks 2 0 1 1 20)
    -- the only page is the last
    ∷ asks (galley_l 0 60) making (makes 1 0 0 0 0 (2 ∷ 1 ∷ 1 ∷ []))
    ∷ []

-- After an opening, whose pages are not last.
unfoldable pub whites_after : List Case
whites_after =
    -- the printed page lacks 15, and what follows is the last
    asks (galley_p single 1) (making_after (1 ∷ 0 ∷ [])) (makes 2 0 1 1 15 (1 ∷ 0 ∷ 5 ∷ 0 ∷ []))
    -- the weight of Y is 0: at the same white the later start, and less white before that
    ∷ asks (galley_p single 0) (making_after (1 ∷ 0 ∷ [])) (makes 3 0 2 0 15 (1 ∷ 0 ∷ 4 ∷ 0 ∷ 5 ∷ 0 ∷ []))
    ∷ asks (galley_d single 0) (making_after (1 ∷ 0 ∷ [])) (makes 2 0 1 0 10 (1 ∷ 0 ∷ 3 ∷ 0 ∷ []))
    ∷ []
