-- The meaning of making: its answer, and what the lent memory holds afterwards (document 01, "Making" and "Numbers that turn
-- work away").
use Rattle.std.specs.Prelude.{ℕ, ◌≡◌, Bool, ◌||◌, List, ◌++◌, length, drop, ltb, Err, Ok}
use Rattle.model.specs.Gather.{pick}
use Rattle.model.specs.Best.{made, made_words}
use Rattle.model.specs.Weighed.{weighed}
use Rattle.galley.specs.declared.Galley.{Galley}
use Rattle.galley.specs.Whole.{galley_of, Reading}
use Rattle.galley.specs.Model.{model_of}
use Rattle.places.specs.Entry.{cleared}
use Rattle.needs.specs.Needs.{work_needed, list_needed}
use Rattle.model.specs.Answers.{Answer, refused}

-- A work area or a page list of the given lengths is too short.
abbrev pub too_short : Galley → ℕ → ℕ → Bool
too_short g work list = ltb work (work_needed g) || ltb list (list_needed g)

-- The answer for a galley that reads: 9, then 10, each with the words needed, then the counts of the best list, or 11. A galley
-- that is refused is refused alike.
unfoldable pub make_read : List ℕ → ℕ → ℕ → Reading → Answer
make_read bytes work list (Ok g) =
    pick (ltb work (work_needed g)) (refused 9 (work_needed g))
    (pick (ltb list (list_needed g)) (refused 10 (list_needed g)) (made (model_of bytes g)))
make_read bytes work list (Err r) = Err r

-- The answer of making for any bytes and a work area and page list of the given lengths.
unfoldable pub make_of : List ℕ → ℕ → ℕ → Answer
make_of bytes work list = make_read bytes work list (galley_of bytes)

-- The work area afterwards: where a list was sought, the words that the galley needs are zeros; nothing else changes.
unfoldable pub work_read : List ℕ → ℕ → Reading → List ℕ
work_read work list (Ok g) = pick (too_short g (length work) list) work (cleared (work_needed g) work)
work_read work list (Err r) = work

unfoldable pub work_after : List ℕ → List ℕ → ℕ → List ℕ
work_after bytes work list = work_read work list (galley_of bytes)

-- The page list afterwards: the words of the best list, if there is one, before what was there; else as it was.
unfoldable pub list_read : List ℕ → ℕ → List ℕ → Reading → List ℕ
list_read bytes work list (Ok g) =
    pick (too_short g work (length list)) list
    (made_words (model_of bytes g) ++ drop (length (made_words (model_of bytes g))) list)
list_read bytes work list (Err r) = list

unfoldable pub list_after : List ℕ → ℕ → List ℕ → List ℕ
list_after bytes work list = list_read bytes work list (galley_of bytes)

-- The count of what is weighed: where a list was sought, that of the galley; else 0 (document 02, S-5).
unfoldable pub weighed_read : List ℕ → ℕ → ℕ → Reading → ℕ
weighed_read bytes work list (Ok g) = pick (too_short g work list) 0 (weighed (model_of bytes g))
weighed_read bytes work list (Err r) = 0

unfoldable pub weighed_of : List ℕ → ℕ → ℕ → ℕ
weighed_of bytes work list = weighed_read bytes work list (galley_of bytes)

-- What making does: its answer with the count of what is weighed, and every word of the work area and of the page list afterwards.
pub record Made (bytes work list : List ℕ) (answer : Answer) (count : ℕ) (work' list' : List ℕ) : Type 0 where
  pub answers : answer ≡ make_of bytes (length work) (length list)
  pub counts : count ≡ weighed_of bytes (length work) (length list)
  pub clean : work' ≡ work_after bytes work (length list)
  pub listed : list' ≡ list_after bytes (length work) list
