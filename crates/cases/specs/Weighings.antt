-- The cases of S-5 of document 02: what is weighed of a galley, and the ceiling on it that is told beforehand.
use Rattle.std.specs.Prelude.{false, List, [], ◌∷◌}
use Rattle.model.specs.Galley.{single, double}
use Rattle.cases.specs.Case.{Case, weighing, counts, asks}
use Rattle.cases.specs.Galleys.{figure, galley_a, galley_b, galley_c, galley_d, galley_e, galley_f, galley_g, galley_j, galley_k, galley_l, galley_o, tabling, as_tables, keeping}

unfoldable pub weighings : List Case
weighings =
    -- six pages of lines before the figure and six after it, four of the figure alone, three with a line beside it; the eight empty
    -- ones are none
    asks (galley_a 0 20 1 1) weighing (counts 19 64)
    -- with a separation no line stands beside the figure; one that is too high by itself stands nowhere, and has a factor of 1
    ∷ asks (galley_a 1 20 1 1) weighing (counts 16 64)
    ∷ asks (galley_a 0 31 1 1) weighing (counts 12 32)
    -- no page may end after line 1, and every page is too low: neither is asked, though there is no list
    ∷ asks (galley_b 25 false) weighing (counts 2 6)
    -- double-sided each pair counts once, as it does single-sided
    ∷ asks (galley_c (double 1)) weighing (counts 15 60)
    ∷ asks (galley_c single) weighing (counts 15 60)
    -- all heights are the tightest: four lines and three figures fit a page, of the loosest two and one
    ∷ asks (galley_f 47) weighing (counts 172 600)
    -- the figures are cited by the last line, which is not asked
    ∷ asks galley_g weighing (counts 57 144)
    -- no figure, and the most lines on a page are not the first ones
    ∷ asks (galley_d single 1) weighing (counts 5 12)
    ∷ asks galley_o weighing (counts 4 12)
    -- tables: a pair of factors more, one or two separations, no figure, kept figures
    ∷ asks galley_k weighing (counts 64 256)
    ∷ asks (galley_l 38 38) weighing (counts 41 144)
    ∷ asks (galley_l 37 37) weighing (counts 39 144)
    ∷ asks (galley_l 0 24) weighing (counts 35 144)
    ∷ asks (galley_l 0 23) weighing (counts 24 144)
    ∷ asks (as_tables galley_e) weighing (counts 11 36)
    ∷ asks (keeping 1 (tabling (figure 10 1 ∷ []) galley_j)) weighing (counts 97 432)
    ∷ []
