-- A desk opened on a galley and a list (document 02, S-7). The type `Desk` is that of src/lib.rt.
use Rattle.std.specs.Prelude.{ℕ, ◌≤◌, ◌&&◌, List, [], ◌∷◌, ◌++◌, leb, length, drop, replicate, Err, Ok}
use Rattle.model.specs.Answers.{numbers_of, accepted, Answer, refused}
use Rattle.model.specs.Gather.{pick}
use Rattle.galley.specs.Whole.{galley_of, Reading}
use Rattle.marking.specs.Mark.{mark_of}
use Rattle.desk.specs.declared.Desk.{Desk}
use Rattle.desk.specs.Desk.{Told}
use Rattle.desk.specs.Pages.{width_of}
use Rattle.layouts.specs.Names.{free_layout}

-- A list that 192 words have room for.
abbrev pub Short : List ℕ → Type 0
Short list = length list ≤ 192

-- The desk of an opening that is refused: it has no pages, and nothing else of it changes (document 02, S-7).
abbrev pub closed : Desk → Desk
closed d =
    record { pages = 0; width = d.width; page = d.page; end = d.end; list = d.list; layouts = d.layouts }

-- A desk with so many pages of so many words each, which stand in a list of 192 words, nothing pending, and eight free layouts.
abbrev pub fresh : ℕ → ℕ → List ℕ → Desk
fresh pages width list =
    record { pages = pages; width = width; page = 0; end = 0 ∷ 0 ∷ 0 ∷ []; list = list; layouts = replicate 8 free_layout }

-- The desk with a list of so many pages (document 02, S-7).
unfoldable pub opened : List ℕ → ℕ → Desk
opened list pages = fresh pages (width_of (length list) pages) (list ++ drop (length list) (replicate 192 0))

-- On a galley that reads: 22 where the marking does not accept the list or it has more than 64 pages, else the marking's answer
-- (document 02, S-7).
unfoldable pub open_on : List ℕ → Desk → Answer → Told
open_on list d answer =
    pick (accepted answer && leb (numbers_of answer).pages 64)
    (record { desk = opened list (numbers_of answer).pages; answer = answer })
    (record { desk = closed d; answer = refused 22 0 })

-- A refused galley is refused as ever (document 02, S-7).
unfoldable pub open_read : List ℕ → List ℕ → Desk → Reading → Told
open_read bytes list d (Ok g) = open_on list d (mark_of bytes list)
open_read bytes list d (Err r) = record { desk = closed d; answer = Err r }

-- What opening leaves and answers, for any bytes, any list and any words of a desk (document 02, S-7).
unfoldable pub open_desk : List ℕ → List ℕ → Desk → Told
open_desk bytes list d = open_read bytes list d (galley_of bytes)
