-- The meaning of making after an opening: its answer, and what the lent memory holds afterwards. Refusals come in the order of the
-- galley's, 9, 10, then 20 and 21, which change nothing, then 11 (document 02, S-6).
use Rattle.std.specs.Prelude.{ℕ, ◌≡◌, Bool, true, false, not, ◌&&◌, List, ◌++◌, length, drop, ltb, Err, Ok}
use Rattle.std.proofs.Math.Option.{none, some}
use Rattle.model.specs.Gather.{pick}
use Rattle.model.specs.Galley.{zeros}
use Rattle.model.specs.Answers.{pages_of, Answer, refused}
use Rattle.model.specs.Weighed.{weighed_from}
use Rattle.model.specs.Opening.{end_of, opening_turned, made_after, made_words_after}
use Rattle.galley.specs.declared.Galley.{Galley}
use Rattle.galley.specs.Whole.{galley_of, Reading}
use Rattle.galley.specs.Model.{model_of}
use Rattle.places.specs.Entry.{cleared}
use Rattle.needs.specs.Needs.{work_needed, list_needed}
use Rattle.making.specs.Make.{too_short}

-- The opening's words name pages that nothing turns away.
unfoldable pub stands : List ℕ → Galley → List ℕ → Bool
stands bytes g opening = elim (opening_turned (model_of bytes g) opening) [ none ↦ true | some refusal ↦ false ]

-- A list is sought: the work area and the page list are long enough, and the opening is not turned away.
abbrev pub sought : List ℕ → Galley → List ℕ → ℕ → ℕ → Bool
sought bytes g opening work list = not (too_short g work list) && stands bytes g opening

-- The answer for a galley that reads: 9, then 10, each with the words needed, then what turns the opening away, else the counts of the
-- best list that begins with it, or 11. A galley that is refused is refused alike.
unfoldable pub make_after_read : List ℕ → List ℕ → ℕ → ℕ → Reading → Answer
make_after_read bytes opening work list (Ok g) =
    pick (ltb work (work_needed g)) (refused 9 (work_needed g))
    (pick (ltb list (list_needed g)) (refused 10 (list_needed g)) (made_after (model_of bytes g) opening))
make_after_read bytes opening work list (Err r) = Err r

-- The answer of making after an opening for any bytes, any words of an opening, and a work area and page list of the given lengths.
unfoldable pub make_after_of : List ℕ → List ℕ → ℕ → ℕ → Answer
make_after_of bytes opening work list = make_after_read bytes opening work list (galley_of bytes)

-- The work area afterwards: where a list was sought, the words that the galley needs are zeros; nothing else changes.
unfoldable pub work_made_read : List ℕ → List ℕ → List ℕ → ℕ → Reading → List ℕ
work_made_read bytes opening work list (Ok g) =
    pick (sought bytes g opening (length work) list) (cleared (work_needed g) work) work
work_made_read bytes opening work list (Err r) = work

unfoldable pub work_made_after : List ℕ → List ℕ → List ℕ → ℕ → List ℕ
work_made_after bytes opening work list = work_made_read bytes opening work list (galley_of bytes)

-- The page list afterwards: the words of the best list, the opening's included, before what was there; else as it was.
unfoldable pub list_made_read : List ℕ → List ℕ → ℕ → List ℕ → Reading → List ℕ
list_made_read bytes opening work list (Ok g) =
    pick (too_short g work (length list)) list
    (made_words_after (model_of bytes g) opening ++ drop (length (made_words_after (model_of bytes g) opening)) list)
list_made_read bytes opening work list (Err r) = list

unfoldable pub list_made_after : List ℕ → List ℕ → ℕ → List ℕ → List ℕ
list_made_after bytes opening work list = list_made_read bytes opening work list (galley_of bytes)

-- The count of what is weighed: where a list was sought, that of the galley from the opening's end on; else 0.
unfoldable pub weighed_after_read : List ℕ → List ℕ → ℕ → ℕ → Reading → ℕ
weighed_after_read bytes opening work list (Ok g) =
    pick (sought bytes g opening work list)
    (weighed_from (model_of bytes g) (end_of (zeros (model_of bytes g)) (pages_of (model_of bytes g) opening))) 0
weighed_after_read bytes opening work list (Err r) = 0

unfoldable pub weighed_after_of : List ℕ → List ℕ → ℕ → ℕ → ℕ
weighed_after_of bytes opening work list = weighed_after_read bytes opening work list (galley_of bytes)

-- What making after an opening does: its answer with the count of what is weighed, and every word of the work area and of the page list
-- afterwards.
pub record MadeAfter (bytes opening work list : List ℕ) (answer : Answer) (count : ℕ) (work' list' : List ℕ) : Type 0 where
  pub answers : answer ≡ make_after_of bytes opening (length work) (length list)
  pub counts : count ≡ weighed_after_of bytes opening (length work) (length list)
  pub clean : work' ≡ work_made_after bytes opening work (length list)
  pub listed : list' ≡ list_made_after bytes opening (length work) list
