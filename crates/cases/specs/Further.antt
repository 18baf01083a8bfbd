-- The cases that document 01's leave open: which list is best, to the last tie; how high a page is, to the unit; and every
-- refusal of a list on a later page, and where a page breaks several rules.
use Rattle.std.specs.Prelude.{false, List, [], ◌∷◌}
use Rattle.model.specs.Galley.{single, double}
use Rattle.model.specs.Loosened.{with_htmin}
use Rattle.cases.specs.Case.{Case, making, marking, makes, marks, refuses, asks}
use Rattle.cases.specs.Galleys.{galley_a, galley_b, galley_c, galley_f, galley_g, galley_h, galley_p, galley_q}

-- Of several valid lists the best, by the weights and then, at equal white, by the ties.
unfoldable pub makings : List Case
makings =
    -- an even page count first: two pages, not three
    asks (galley_p (double 1) 1) making (makes 2 0 1 1 0 (4 ∷ 0 ∷ 5 ∷ 0 ∷ []))
    -- the later starting line
    ∷ asks (galley_p single 1) making (makes 2 0 1 1 0 (4 ∷ 0 ∷ 5 ∷ 0 ∷ []))
    -- the weight of Y is 0, so that also lists of three pages tie: from the last page backwards theirs start later, and
    -- single-sided no count of pages decides
    ∷ asks (galley_p single 0) making (makes 3 0 2 0 0 (2 ∷ 0 ∷ 4 ∷ 0 ∷ 5 ∷ 0 ∷ []))
    -- the later starting figure; the weight of X is 0
    ∷ asks galley_q making (makes 2 1 1 1 0 (2 ∷ 1 ∷ 2 ∷ 2 ∷ []))
    -- the weight of Y is 0; both weights are 0, so that only the tie order decides, by the line before the figure
    ∷ asks (galley_a 0 20 1 0) making (makes 2 0 1 0 0 (1 ∷ 1 ∷ 3 ∷ 1 ∷ []))
    ∷ asks (galley_a 0 20 0 0) making (makes 2 1 1 0 0 (3 ∷ 0 ∷ 3 ∷ 1 ∷ []))
    -- start 300 is later than start 255, though neither its last two digits nor its last byte is greater
    ∷ asks galley_h making (makes 2 0 1 1 0 (300 ∷ 0 ∷ 301 ∷ 0 ∷ []))
    -- lines 1 and 2 with figures 1 to 3 are 20 + 30 + 5 + 2 + 4 = 61 at the tightest: two pages; where they are too high, three
    ∷ asks (galley_f 61) making (makes 2 0 1 3 0 (2 ∷ 3 ∷ 5 ∷ 4 ∷ []))
    ∷ asks (galley_f 60) making (makes 3 0 2 6 0 (1 ∷ 2 ∷ 3 ∷ 4 ∷ 5 ∷ 4 ∷ []))
    -- the space after the last line forbids no page end
    ∷ asks galley_g making (makes 4 1 3 4 30 (2 ∷ 0 ∷ 4 ∷ 0 ∷ 5 ∷ 1 ∷ 5 ∷ 2 ∷ []))
    -- C with htMin 20 has the list of C2 alone; with 10, as C1 has it, that list stays and another turns once less (document 02, S-14)
    ∷ asks (with_htmin 20 (galley_c (double 1))) making (makes 4 1 2 3 0 (2 ∷ 0 ∷ 3 ∷ 0 ∷ 4 ∷ 0 ∷ 4 ∷ 1 ∷ []))
    ∷ []

-- The height of a page, to the unit.
unfoldable pub heights : List Case
heights =
    -- page 2 is 47 at the tightest: least spaces and separation, and no space at its edges; and three figures are a turn late
    asks (galley_f 47) (marking (2 ∷ 1 ∷ 4 ∷ 3 ∷ 5 ∷ 4 ∷ [])) (marks 3 3 2 12 0)
    ∷ asks (galley_f 46) (marking (2 ∷ 1 ∷ 4 ∷ 3 ∷ 5 ∷ 4 ∷ [])) (refuses 15 2)
    -- page 2 is 110 at the loosest: greatest spaces and separation, and no space at its edges
    ∷ asks (galley_f 110) (marking (2 ∷ 1 ∷ 4 ∷ 3 ∷ 5 ∷ 4 ∷ [])) (marks 3 3 2 12 0)
    ∷ asks (galley_f 111) (marking (2 ∷ 1 ∷ 4 ∷ 3 ∷ 5 ∷ 4 ∷ [])) (refuses 16 2)
    -- page 2 has two lines and no separation: 30 at the loosest, so that it fills 30 and not 31
    ∷ asks (galley_f 30) (marking (2 ∷ 0 ∷ 4 ∷ 0 ∷ 5 ∷ 4 ∷ [])) (refuses 15 3)
    ∷ asks (galley_f 31) (marking (2 ∷ 0 ∷ 4 ∷ 0 ∷ 5 ∷ 4 ∷ [])) (refuses 16 2)
    -- a figure alone on its page has no separation either
    ∷ asks (galley_a 1 30 1 1) making (makes 2 1 1 2 0 (3 ∷ 0 ∷ 3 ∷ 1 ∷ []))
    ∷ []

-- Lists that are refused, by number and place.
unfoldable pub refusals : List Case
refusals =
    -- 12: no word, an odd number of words, a page more than there are blocks
    asks (galley_a 0 20 1 1) (marking []) (refuses 12 0)
    ∷ asks (galley_a 0 20 1 1) (marking (1 ∷ 1 ∷ 3 ∷ [])) (refuses 12 0)
    ∷ asks (galley_a 0 20 1 1) (marking (1 ∷ 0 ∷ 2 ∷ 0 ∷ 3 ∷ 0 ∷ 3 ∷ 1 ∷ 3 ∷ 1 ∷ [])) (refuses 12 0)
    -- 13: the figures fall; a line and a figure more than there are
    ∷ asks (galley_a 0 20 1 1) (marking (1 ∷ 1 ∷ 3 ∷ 0 ∷ [])) (refuses 13 2)
    ∷ asks (galley_a 0 20 1 1) (marking (3 ∷ 0 ∷ 4 ∷ 1 ∷ [])) (refuses 13 2)
    ∷ asks (galley_a 0 20 1 1) (marking (3 ∷ 0 ∷ 3 ∷ 2 ∷ [])) (refuses 13 2)
    -- 14: a page end that the line's space forbids
    ∷ asks (galley_b 20 false) (marking (1 ∷ 0 ∷ 2 ∷ 0 ∷ [])) (refuses 14 1)
    -- page 2 falls, ends at a forbidden place, is too high and has figures too soon: 13
    ∷ asks galley_g (marking (2 ∷ 0 ∷ 1 ∷ 2 ∷ 5 ∷ 2 ∷ [])) (refuses 13 2)
    -- page 2 ends at a forbidden place and is too low; is too high and has figures too soon: 14
    ∷ asks galley_g (marking (2 ∷ 0 ∷ 3 ∷ 0 ∷ 5 ∷ 2 ∷ [])) (refuses 14 2)
    ∷ asks galley_g (marking (2 ∷ 0 ∷ 3 ∷ 2 ∷ 5 ∷ 2 ∷ [])) (refuses 14 2)
    -- page 2 is too high and has figures too soon: 15
    ∷ asks galley_g (marking (2 ∷ 0 ∷ 4 ∷ 2 ∷ 5 ∷ 2 ∷ [])) (refuses 15 2)
    -- page 2 is too low and has a figure too soon: 16; as the last of its list it may be low: 17
    ∷ asks galley_g (marking (2 ∷ 0 ∷ 2 ∷ 1 ∷ 5 ∷ 2 ∷ [])) (refuses 16 2)
    ∷ asks galley_g (marking (2 ∷ 0 ∷ 2 ∷ 1 ∷ [])) (refuses 17 2)
    -- page 1 has no line: the space after line 1 forbids nothing, and the page is too low
    ∷ asks galley_g (marking (0 ∷ 1 ∷ 5 ∷ 2 ∷ [])) (refuses 16 1)
    -- 17: the last figure of page 2 is too soon, though the first is not
    ∷ asks (galley_f 47) (marking (2 ∷ 1 ∷ 2 ∷ 4 ∷ 5 ∷ 4 ∷ [])) (refuses 17 2)
    -- 17: page 2 opens a spread, but is the last of its list
    ∷ asks (galley_c (double 1)) (marking (2 ∷ 0 ∷ 2 ∷ 1 ∷ [])) (refuses 17 2)
    -- 17: page 3 ends its spread, and the figure of page 2 is still to be cited
    ∷ asks (galley_c (double 1)) (marking (2 ∷ 0 ∷ 2 ∷ 1 ∷ 3 ∷ 1 ∷ 4 ∷ 1 ∷ [])) (refuses 17 3)
    -- 18: a figure is missing; page 3 is too low for any page but the last of a list
    ∷ asks galley_g (marking (2 ∷ 0 ∷ 4 ∷ 0 ∷ 5 ∷ 1 ∷ [])) (refuses 18 3)
    ∷ asks galley_g (marking (2 ∷ 0 ∷ 4 ∷ 0 ∷ 5 ∷ 0 ∷ [])) (refuses 18 3)
    -- 18: the lines are missing
    ∷ asks (galley_a 0 20 1 1) (marking (1 ∷ 1 ∷ 2 ∷ 1 ∷ [])) (refuses 18 2)
    ∷ []
