-- The cases of S-6 of document 02: making after an opening, what turns an opening away, and what is weighed past it.
use Rattle.std.specs.Prelude.{true, List, [], ◌∷◌}
use Rattle.model.specs.Galley.{single, double}
use Rattle.cases.specs.Case.{Case, making_after, weighing_after, makes, refuses, counts, asks}
use Rattle.cases.specs.Galleys.{galley_a, galley_b, galley_c, galley_d, galley_g, galley_j}

-- The best of the lists that begin so, and where there is none.
unfoldable pub openings_made : List Case
openings_made =
    -- nothing printed gives the ordinary answer
    asks (galley_a 0 20 1 1) (making_after []) (makes 2 0 1 1 0 (1 ∷ 1 ∷ 3 ∷ 1 ∷ []))
    -- an opening of the best list leaves it, and one that puts the figure off costs a turn
    ∷ asks (galley_a 0 20 1 1) (making_after (1 ∷ 1 ∷ [])) (makes 2 0 1 1 0 (1 ∷ 1 ∷ 3 ∷ 1 ∷ []))
    ∷ asks (galley_a 0 20 1 1) (making_after (3 ∷ 0 ∷ [])) (makes 2 1 1 2 0 (3 ∷ 0 ∷ 3 ∷ 1 ∷ []))
    -- two lines on the first page put every later page on the other side
    ∷ asks (galley_c (double 1)) (making_after (2 ∷ 0 ∷ [])) (makes 4 1 2 3 0 (2 ∷ 0 ∷ 3 ∷ 0 ∷ 4 ∷ 0 ∷ 4 ∷ 1 ∷ []))
    ∷ asks (galley_c (double 2)) (making_after (1 ∷ 0 ∷ [])) (makes 5 1 2 3 20 (1 ∷ 0 ∷ 2 ∷ 0 ∷ 3 ∷ 0 ∷ 4 ∷ 0 ∷ 4 ∷ 1 ∷ []))
    -- of what follows the latest starts, as ever
    ∷ asks (galley_d (double 1) 1) (making_after (1 ∷ 0 ∷ [])) (makes 2 0 1 1 10 (1 ∷ 0 ∷ 3 ∷ 0 ∷ []))
    ∷ asks (galley_d (double 1) 1) (making_after (1 ∷ 0 ∷ 2 ∷ 0 ∷ [])) (makes 3 0 1 1 20 (1 ∷ 0 ∷ 2 ∷ 0 ∷ 3 ∷ 0 ∷ []))
    -- the figure on page 2 is too soon for page 3, which ends its spread; a page in the middle may have it
    ∷ asks (galley_c (double 1)) (making_after (1 ∷ 0 ∷ 1 ∷ 1 ∷ [])) (refuses 11 0)
    ∷ asks galley_g (making_after (2 ∷ 0 ∷ 5 ∷ 0 ∷ [])) (refuses 11 0)
    ∷ []

-- What turns an opening away, by number and place.
unfoldable pub openings_turned : List Case
openings_turned =
    -- 20: an incomplete page, before any page is looked at
    asks (galley_a 0 20 1 1) (making_after (3 ∷ 0 ∷ 3 ∷ [])) (refuses 20 0)
    ∷ asks (galley_a 0 20 1 1) (making_after (0 ∷ 0 ∷ 3 ∷ [])) (refuses 20 0)
    -- 20: an empty page; the figures fall; a page end that is forbidden; too high; too low for any page but the last; a figure too soon
    ∷ asks (galley_a 0 20 1 1) (making_after (0 ∷ 0 ∷ [])) (refuses 20 1)
    ∷ asks (galley_a 0 20 1 1) (making_after (1 ∷ 1 ∷ 3 ∷ 0 ∷ [])) (refuses 20 2)
    ∷ asks galley_g (making_after (2 ∷ 0 ∷ 3 ∷ 0 ∷ [])) (refuses 20 2)
    ∷ asks (galley_c single) (making_after (2 ∷ 0 ∷ 4 ∷ 0 ∷ [])) (refuses 20 2)
    ∷ asks (galley_a 0 20 1 1) (making_after (2 ∷ 0 ∷ [])) (refuses 20 1)
    ∷ asks (galley_c (double 1)) (making_after (0 ∷ 1 ∷ [])) (refuses 20 1)
    -- 20 before 21: the whole list, whose last page is too low for one in the middle; a page that places everything and is too high
    ∷ asks (galley_a 0 20 1 1) (making_after (1 ∷ 1 ∷ 3 ∷ 1 ∷ [])) (refuses 20 2)
    ∷ asks (galley_a 0 20 1 1) (making_after (3 ∷ 1 ∷ [])) (refuses 20 1)
    -- 21: everything is placed
    ∷ asks (galley_b 20 true) (making_after (1 ∷ 0 ∷ 2 ∷ 0 ∷ [])) (refuses 21 2)
    ∷ asks (galley_d single 1) (making_after (2 ∷ 0 ∷ 3 ∷ 0 ∷ [])) (refuses 21 2)
    ∷ []

-- What is weighed past an opening.
unfoldable pub openings_weighed : List Case
openings_weighed =
    asks (galley_a 0 20 1 1) (weighing_after []) (counts 19 64)
    -- past line 1 and the figure: of the starts past line 1 alone there are eleven
    ∷ asks (galley_a 0 20 1 1) (weighing_after (1 ∷ 1 ∷ [])) (counts 3 64)
    ∷ asks (galley_a 0 20 1 1) (weighing_after (1 ∷ 0 ∷ [])) (counts 11 64)
    ∷ asks galley_g (weighing_after (2 ∷ 0 ∷ [])) (counts 31 144)
    -- the last page of the opening decides
    ∷ asks galley_g (weighing_after (2 ∷ 0 ∷ 4 ∷ 0 ∷ [])) (counts 8 144)
    ∷ asks galley_j (weighing_after (1 ∷ 1 ∷ [])) (counts 9 108)
    ∷ []
