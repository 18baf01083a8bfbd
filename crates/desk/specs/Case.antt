-- Two sittings computed: every row is a call, its answer, and the list in force after it. The rows of the first are worked out by hand from
-- document 02 (S-7 and S-8), as those are that tests/desk puts to the compiled desk; those of the second are what the reference in Python
-- answers.
use Rattle.std.specs.Prelude.{ℕ, zero, suc, true, List, [], ◌∷◌, ◌++◌, map, ◌≡◌, refl, replicate}
use Rattle.model.specs.Gather.{sum, between, total, each, every, row}
use Rattle.model.specs.Galley.{single, Spec, Stream, Galley, count, streams, zeros, sizes, blocks}
use Rattle.model.specs.Height.{has, kinds, stacked, height, tightest, loosest}
use Rattle.model.specs.Leaf.{leaf, ends}
use Rattle.model.specs.Rules.{forward, may_end, closes, fits, fills, cited, first_broken, broken}
use Rattle.model.specs.Turns.{page_of, apart, x_of, y_of, turns}
use Rattle.model.specs.White.{white_on, whites, white}
use Rattle.model.specs.Answers.{chunks, pages_of, words_of, counted, same, refuse, judge, counts_of, marked, counted_as, refused}
use Rattle.layouts.specs.Names.{is_name}
use Rattle.desk.specs.Calls.{Call, Ask, Commit, Save, Back, Drop, Reply, Marking, Number, Sitting}
use Rattle.desk.specs.Sitting.{under, without, has_room, other_end, tried, step, begin}

pub record Row : Type 0 where
  pub call : Call
  pub reply : Reply
  pub force : List ℕ

-- The rows of a list of calls, by the definition.
unfoldable pub rows_of : Galley → Sitting → List Call → List Row
rows_of g s [] = []
rows_of g s (call ∷ calls) =
    record { call = call; reply = (step g s call).reply; force = (step g s call).after.force } ∷ rows_of g (step g s call).after calls

-- ---- how a row is written
abbrev asked : ℕ → ℕ → ℕ → ℕ → Reply → List ℕ → Row
asked page lines figures tables reply force =
    record { call = Ask page (record { lines = lines; figures = figures; tables = tables }); reply = reply; force = force }

abbrev does : Call → ℕ → List ℕ → Row
does call number force = record { call = call; reply = Number number; force = force }

abbrev accepts : ℕ → ℕ → ℕ → ℕ → ℕ → Reply
accepts p x y t w = Marking (counted_as p x y t w)

abbrev refuses : ℕ → ℕ → Reply
refuses number place = Marking (refused number place)

-- So many blocks, all of one height and without a space, each cited by line 1.
abbrev alike : ℕ → ℕ → Stream
alike size height =
    record { size = size; ht = λ k. height; least = λ k. 0; most = λ k. 0; legal = λ k. true; cite = λ k. 1 }

-- A single-sided specification without separations, of the first edition, by htMin and htMax.
abbrev plain : ℕ → ℕ → Spec
plain low high =
    record { htmin = low; htmax = high; smin = 0; smax = 0; sides = single; alpha = 1; beta = 1; lastmin = 0 }

-- ---- galley A of document 01: three lines of 10 and a figure of 20, on pages of 30
abbrev galley_a : Galley
galley_a =
    record { spec = plain 30 30; floats = 1; stream = λ s. elim s [ zero ↦ alike 3 10 | suc t ↦ alike 1 20 ] }

-- The figure on page 1 with its line, and after all lines.
abbrev best : List ℕ
best = 1 ∷ 1 ∷ 3 ∷ 1 ∷ []

abbrev longer : List ℕ
longer = 3 ∷ 0 ∷ 3 ∷ 1 ∷ []

-- The names a, b and 9, and two of the letter a alone: sixteen and seventeen bytes.
abbrev a : List ℕ
a = 97 ∷ []

abbrev b : List ℕ
b = 98 ∷ []

abbrev ninth : List ℕ
ninth = 57 ∷ []

abbrev longest : List ℕ
longest = replicate 16 97

abbrev too_long : List ℕ
too_long = replicate 17 97

abbrev asking : List Row
asking =
    -- nothing is pending; an ask does not change the list, and its third word is not looked at; the last page is 23, and leaves none pending
    does Commit 24 best
    ∷ asked 1 3 0 9 (accepts 2 1 1 2 0) best
    ∷ asked 2 3 0 0 (refuses 23 2) best
    ∷ does Commit 24 best
    ∷ asked 0 3 0 0 (refuses 23 0) best
    -- a refused ask leaves none pending; an accepted one takes the place of another, and is committed once
    ∷ asked 1 3 0 0 (accepts 2 1 1 2 0) best
    ∷ asked 1 2 1 0 (refuses 15 1) best
    ∷ does Commit 24 best
    ∷ asked 1 1 1 0 (accepts 2 0 1 1 0) best
    ∷ asked 1 3 0 0 (accepts 2 1 1 2 0) best
    ∷ does Commit 0 longer
    ∷ does Commit 24 longer
    ∷ []

abbrev keeping : List Row
keeping =
    -- lengths first, then names that are not held
    does (Save []) 25 longer
    ∷ does (Save too_long) 25 longer
    ∷ does (Back []) 25 longer
    ∷ does (Drop too_long) 25 longer
    ∷ does (Back a) 26 longer
    ∷ does (Drop a) 26 longer
    -- to save, to drop and to be refused leave what is pending; to come back does not
    ∷ asked 1 1 1 0 (accepts 2 0 1 1 0) longer
    ∷ does (Save a) 0 longer
    ∷ does (Save longest) 0 longer
    ∷ does (Drop longest) 0 longer
    ∷ does (Back longest) 26 longer
    ∷ does (Back (97 ∷ 98 ∷ [])) 26 longer
    ∷ does Commit 0 best
    ∷ does (Save b) 0 best
    ∷ asked 1 3 0 0 (accepts 2 1 1 2 0) best
    ∷ does (Back b) 0 best
    ∷ does Commit 24 best
    -- a name gives what was in force when it was last saved
    ∷ does (Back a) 0 longer
    ∷ does (Save b) 0 longer
    ∷ asked 1 1 1 0 (accepts 2 0 1 1 0) longer
    ∷ does Commit 0 best
    ∷ does (Back b) 0 longer
    -- eight names and no ninth; those that are held can be saved under, and a dropped one makes room
    ∷ does (Save (1 ∷ [])) 0 longer
    ∷ does (Save (2 ∷ [])) 0 longer
    ∷ does (Save (3 ∷ [])) 0 longer
    ∷ does (Save (4 ∷ [])) 0 longer
    ∷ does (Save (5 ∷ [])) 0 longer
    ∷ does (Save longest) 0 longer
    ∷ does (Save ninth) 27 longer
    ∷ does (Save too_long) 25 longer
    ∷ does (Back ninth) 26 longer
    ∷ does (Save a) 0 longer
    ∷ does (Drop (1 ∷ [])) 0 longer
    ∷ does (Save ninth) 0 longer
    ∷ does (Back (1 ∷ [])) 26 longer
    ∷ does (Save (1 ∷ [])) 27 longer
    ∷ []

-- ---- a line, a figure and a table of 10 each, on pages of at most 20: a page has three words
abbrev tabled : Galley
tabled =
    record { spec = plain 0 20; floats = 2; stream = λ s. elim s [ zero ↦ alike 1 10 | suc t ↦ alike 1 10 ] }

abbrev figure_first : List ℕ
figure_first = 1 ∷ 1 ∷ 0 ∷ 1 ∷ 1 ∷ 1 ∷ []

abbrev both_after : List ℕ
both_after = 1 ∷ 0 ∷ 0 ∷ 1 ∷ 1 ∷ 1 ∷ []

abbrev table_first : List ℕ
table_first = 1 ∷ 0 ∷ 1 ∷ 1 ∷ 1 ∷ 1 ∷ []

abbrev asking_tabled : List Row
asking_tabled =
    -- the third word counts; what breaks a rule is refused as the marking does, and what is pending last is committed
    asked 1 1 0 1 (accepts 2 1 1 2 0) figure_first
    ∷ asked 1 1 1 1 (refuses 15 1) figure_first
    ∷ asked 1 1 0 0 (accepts 2 2 1 3 10) figure_first
    ∷ does Commit 0 both_after
    ∷ asked 2 1 1 1 (refuses 23 2) both_after
    ∷ does Commit 24 both_after
    ∷ asked 1 0 1 1 (refuses 17 1) both_after
    ∷ asked 1 2 0 0 (refuses 13 1) both_after
    ∷ does (Save a) 0 both_after
    ∷ asked 1 1 0 1 (accepts 2 1 1 2 0) both_after
    ∷ does Commit 0 table_first
    ∷ does (Back a) 0 both_after
    ∷ []

-- The calls of the rows are answered, and leave in force, as the rows say.
abbrev Agrees : Galley → List ℕ → List Row → Type 0
Agrees g list rows = rows_of g (begin list) (map (λ row. row.call) rows) ≡ rows

pub sittings_agree : Agrees galley_a best (asking ++ keeping) × Agrees tabled figure_first asking_tabled
unfolding sum between total each every row count streams zeros sizes blocks has kinds stacked height tightest loosest leaf ends forward may_end closes fits fills cited first_broken broken page_of apart x_of y_of turns white_on whites white chunks pages_of words_of counted same refuse judge counts_of marked is_name under without has_room other_end tried rows_of
sittings_agree = (refl, refl)
