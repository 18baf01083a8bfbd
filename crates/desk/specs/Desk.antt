-- What an ask and a commit leave and answer, for any words of a desk (document 02, S-7). The type `Desk` is that of src/lib.rt.
use Rattle.std.specs.Prelude.{ℕ, zero, suc, Bool, true, false, List, ◌≡◌, take, Option, None, Some, Result, Ok, Err}
use Rattle.model.specs.declared.answer.Refusal.{Refusal}
use Rattle.model.specs.Answers.{accepted, Answer, refused}
use Rattle.model.specs.Gather.{pick}
use Rattle.marking.specs.Mark.{mark_of}
use Rattle.desk.specs.declared.Desk.{Desk}
use Rattle.layouts.specs.declared.Layout.{Layout}
use Rattle.desk.specs.Pages.{words_on, is_inner, with_end}

-- What a call leaves, with an answer like the marking's,
pub record Told : Type 0 where
  pub desk : Desk
  pub answer : Answer

abbrev pub Says : Told → Answer → Desk → Type 0
Says told answer desk = (answer ≡ told.answer) × (desk ≡ told.desk)

-- or with a number alone, which is 0 where nothing is refused, and an error in src/ where something is.
pub record Done : Type 0 where
  pub desk : Desk
  pub number : ℕ

abbrev pub plain : ℕ → Result (Unit {0}) Refusal
plain zero = Ok tt
plain (suc n) = refused (suc n) 0

abbrev pub number_in : Result (Unit {0}) Refusal → ℕ
number_in (Ok it) = 0
number_in (Err r) = r.number

abbrev pub Does : Done → Result (Unit {0}) Refusal → Desk → Type 0
Does done answer desk = (answer ≡ plain done.number) × (desk ≡ done.desk)

-- A page and its new end are pending, in place of what was.
abbrev pub pended : Desk → ℕ → List ℕ → Desk
pended d page end =
    record { pages = d.pages; width = d.width; page = page; end = end; list = d.list; layouts = d.layouts }

-- None is pending, since there is no page 0.
abbrev pub cleared : Desk → Desk
cleared d = pended d 0 d.end

-- The list that an ask is about: the one in force with another end of a page (document 02, S-7).
unfoldable pub altered : Desk → ℕ → List ℕ → List ℕ
altered d page end = take (words_on d) (with_end d.width d.list page end)

-- An accepted ask is pending; a refused one leaves none pending (document 02, S-7).
unfoldable pub after_ask : Desk → ℕ → List ℕ → Answer → Desk
after_ask d page end answer = pick (accepted answer) (pended d page end) (cleared d)

-- An ask about an inner page is answered with a marking,
abbrev pub ask_marked : Desk → ℕ → List ℕ → Answer → Told
ask_marked d page end answer = record { desk = after_ask d page end answer; answer = answer }

-- and one about any other with 23 and the page.
abbrev pub ask_off : Desk → ℕ → Told
ask_off d page = record { desk = cleared d; answer = refused 23 page }

-- What an ask leaves and answers: 23 whatever the bytes, then the marking of the altered list (document 02, S-7).
unfoldable pub ask_desk : List ℕ → ℕ → List ℕ → Desk → Told
ask_desk bytes page end d =
    pick (is_inner d page)
    (ask_marked d page end (mark_of bytes (altered d page end)))
    (ask_off d page)

-- What is pending, as the words say: the list in force with the end that was asked about.
unfoldable pub pending_on : Desk → Option (List ℕ)
pending_on d = pick (is_inner d d.page) (Some (altered d d.page d.end)) None

-- Another list of as many pages is in force, and none is pending.
abbrev pub put_in : Desk → List ℕ → Desk
put_in d list =
    record { pages = d.pages; width = d.width; page = 0; end = d.end; list = list; layouts = d.layouts }

-- There are other layouts.
abbrev pub lay_in : Desk → List Layout → Desk
lay_in d layouts =
    record { pages = d.pages; width = d.width; page = d.page; end = d.end; list = d.list; layouts = layouts }

-- The list in force with what is pending (document 02, S-7).
abbrev pub committed : Desk → Desk
committed d = put_in d (with_end d.width d.list d.page d.end)

-- What a commit leaves and answers: 24 with none pending, and nothing changes (document 02, S-7).
abbrev pub commit_by : Bool → Desk → Done
commit_by true d = record { desk = committed d; number = 0 }
commit_by false d = record { desk = d; number = 24 }

unfoldable pub commit_desk : Desk → Done
commit_desk d = commit_by (is_inner d d.page) d
