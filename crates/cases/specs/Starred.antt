-- The cases that document 01, "Galleys to try", works out, under their names there.
use Rattle.std.specs.Prelude.{true, false, List, [], ◌∷◌}
use Rattle.model.specs.Galley.{single, double}
use Rattle.cases.specs.Case.{Case, making, marking, makes, marks, refuses, asks}
use Rattle.cases.specs.Galleys.{galley_a, galley_b, galley_c}

unfoldable pub starred : List Case
starred =
    -- A1
    asks (galley_a 0 20 1 1) making (makes 2 0 1 1 0 (1 ∷ 1 ∷ 3 ∷ 1 ∷ []))
    -- A2
    ∷ asks (galley_a 0 20 1 1) (marking (3 ∷ 0 ∷ 3 ∷ 1 ∷ [])) (marks 2 1 1 2 0)
    -- A3
    ∷ asks (galley_a 0 20 1 1) (marking (2 ∷ 1 ∷ 3 ∷ 1 ∷ [])) (refuses 15 1)
    -- A4
    ∷ asks (galley_a 0 20 1 1) (marking (1 ∷ 0 ∷ 3 ∷ 1 ∷ [])) (refuses 16 1)
    -- A5
    ∷ asks (galley_a 0 20 1 1) (marking (1 ∷ 1 ∷ 1 ∷ 1 ∷ 3 ∷ 1 ∷ [])) (refuses 13 2)
    -- A6
    ∷ asks (galley_a 0 20 1 1) (marking (1 ∷ 1 ∷ [])) (refuses 18 1)
    -- A7
    ∷ asks (galley_a 1 20 1 1) making (makes 2 1 1 2 0 (3 ∷ 0 ∷ 3 ∷ 1 ∷ []))
    -- A8
    ∷ asks (galley_a 0 31 1 1) making (refuses 11 0)
    -- B1
    ∷ asks (galley_b 20 false) making (refuses 11 0)
    -- B2, and with htMin 21
    ∷ asks (galley_b 20 true) making (makes 2 0 1 1 10 (1 ∷ 0 ∷ 2 ∷ 0 ∷ []))
    ∷ asks (galley_b 21 true) making (refuses 11 0)
    -- C1
    ∷ asks (galley_c (double 1)) making (makes 5 0 2 2 20 (1 ∷ 0 ∷ 2 ∷ 0 ∷ 3 ∷ 0 ∷ 4 ∷ 0 ∷ 4 ∷ 1 ∷ []))
    -- C2
    ∷ asks (galley_c (double 1)) (marking (2 ∷ 0 ∷ 3 ∷ 0 ∷ 4 ∷ 0 ∷ 4 ∷ 1 ∷ [])) (marks 4 1 2 3 0)
    -- C3, and single-sided
    ∷ asks (galley_c (double 1)) (marking (1 ∷ 0 ∷ 2 ∷ 0 ∷ 3 ∷ 0 ∷ 3 ∷ 1 ∷ 4 ∷ 1 ∷ [])) (marks 5 0 2 2 20)
    ∷ asks (galley_c single) (marking (1 ∷ 0 ∷ 2 ∷ 0 ∷ 3 ∷ 0 ∷ 3 ∷ 1 ∷ 4 ∷ 1 ∷ [])) (refuses 17 4)
    ∷ []
