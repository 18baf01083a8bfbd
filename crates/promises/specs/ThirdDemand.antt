-- The third demand: no list can beat the engine. For every galley that reads without refusal, either sidedness, any weights, and
-- a work area and page list of at least the lengths laid down, whatever they hold. `Made` is the contract of `make`, and `mark` is
-- proved to answer `mark_of`.
use Rattle.std.specs.Prelude.{ℕ, ◌*◌, ◌≤◌, ◌≡◌, ◌⊎◌, ◌↔◌, true, false, List, [], ◌++◌, length, take, Ok}
use Rattle.std.proofs.Common.{sym, ◌∙◌, ap}
use Rattle.std.proofs.Math.ListN.{drop}
use borrow.Author.Tests.{le-ltb}
use Rattle.model.specs.Galley.{streams}
use Rattle.model.specs.Answers.{numbers_of, accepted, Answer, refused}
use Rattle.model.specs.Opening.{made_after, made_words_after}
use Rattle.model.proofs.laws.Opening.{nothing_turned, made_after_nothing, words_after_nothing}
use Rattle.galley.specs.declared.Galley.{Galley}
use Rattle.galley.specs.Whole.{galley_of}
use Rattle.galley.specs.Model.{model_of}
use Rattle.rules.specs.laws.Sane.{reads_sane}
use Rattle.marking.specs.Mark.{mark_of}
use Rattle.needs.specs.Needs.{work_needed, list_needed}
use Rattle.making.specs.Make.{make_read, make_of, list_read, list_after, Made}
use Rattle.promises.specs.ThirdDemandAfter.{made_demand}

-- What is promised of the answer of making the bytes of the galley g and of the page list afterwards.
pub record ThirdDemand (bytes : List ℕ) (g : Galley) (answer : Answer) (list' : List ℕ) : Type 0 where
  -- making returns a list, or 11
  pub outcome : (answer ≡ refused 11 0) ⊎ (accepted answer ≡ true)
  -- the list that it returns, the first p pages of the page list, is accepted by marking the same bytes with the same p, X, Y, T, W; a
  -- page has a word for each stream
  pub same : accepted answer ≡ true → mark_of bytes (take (streams (model_of bytes g) * (numbers_of answer).pages) list') ≡ answer
  -- every list that marking accepts has at least as many turns
  pub least : accepted answer ≡ true → (words : List ℕ) → accepted (mark_of bytes words) ≡ true
      → (numbers_of answer).turns ≤ (numbers_of (mark_of bytes words)).turns
  -- and of those that have no more turns at least as much white (document 02, S-10)
  pub whitest : accepted answer ≡ true → (words : List ℕ) → accepted (mark_of bytes words) ≡ true
      → (numbers_of (mark_of bytes words)).turns ≤ (numbers_of answer).turns
      → (numbers_of answer).white ≤ (numbers_of (mark_of bytes words)).white
  -- 11 comes back exactly where marking accepts no list at all
  pub none : (answer ≡ refused 11 0) ↔ ((words : List ℕ) → accepted (mark_of bytes words) ≡ false)

-- It is the demand after nothing printed, with which every list begins.
module _ {bytes work list : List ℕ} {answer : Answer} {count : ℕ} {work' list' : List ℕ} (m : Made bytes work list answer count work' list')
    (g : Galley) (read : galley_of bytes ≡ Ok g) (enough : work_needed g ≤ length work) (room : list_needed g ≤ length list) where
  makes : answer ≡ made_after (model_of bytes g) []
  unfolding make_of make_read
  makes =
      m.answers
      ∙ rw read (simp (le-ltb (length work) (work_needed g) enough, le-ltb (length list) (list_needed g) room)
      (sym (made_after_nothing (model_of bytes g) (reads_sane bytes g read))))

  lists : list' ≡ made_words_after (model_of bytes g) [] ++ drop (length (made_words_after (model_of bytes g) [])) list
  unfolding list_after list_read
  lists =
      m.listed
      ∙ rw read (simp (le-ltb (length work) (work_needed g) enough, le-ltb (length list) (list_needed g) room)
      (ap (λ l. l ++ drop (length l) list) (sym (words_after_nothing (model_of bytes g) (reads_sane bytes g read)))))

  -- The third demand holds of whatever the contract of `make` allows.
  pub third_demand : ThirdDemand bytes g answer list'
  third_demand =
      let sane = reads_sane bytes g read in
      let d = made_demand bytes g read [] list (nothing_turned (model_of bytes g) sane) answer list' makes lists in
      record { outcome = d.outcome; same = d.same; least = d.least; whitest = d.whitest; none = d.none }
