-- Loosening the least fill (document 02, S-14): with a lower htMin, and all else alike, no galley loses a list, and making turns no more
-- leaves. `make` is proved to answer `make_of`, `make_after` to answer `make_after_of`, and `mark` to answer `mark_of`.
use Rattle.std.specs.Prelude.{ℕ, ◌≤◌, ◌≡◌, List, [], ◌++◌, Ok}
use Rattle.std.proofs.Common.{arith, ◌∙◌}
use Rattle.std.proofs.Math.Path.{ap}
use Rattle.std.proofs.Math.Bool.{true, false}
use Rattle.std.proofs.Math.Option.{Option, none, some}
use borrow.Author.Tests.{le-ltb}
use Rattle.model.specs.Galley as model
use Rattle.model.specs.Answers.{numbers_of, accepted, marked, Answer, counted_as, refused}
use Rattle.model.specs.Opening.{opening_turned, made_after}
use Rattle.model.proofs.laws.Opening.{made_after_nothing}
use Rattle.model.proofs.laws.Loosened.{marked_loosened, standing_loosened}
use Rattle.theorems.specs.pages.LeastAfter.{ByOpening, MakingAfter}
use Rattle.galley.specs.declared.Galley.{Galley}
use Rattle.galley.specs.Whole.{galley_of}
use Rattle.galley.specs.Model.{model_of}
use Rattle.galley.specs.Alike.{Alike}
use Rattle.galley.proofs.laws.Alike.{galleys_alike, models_alike}
use Rattle.rules.specs.laws.Sane.{reads_sane}
use Rattle.marking.specs.Mark.{mark_read, mark_of}
use Rattle.needs.specs.Needs.{work_needed, list_needed}
use Rattle.making.specs.Make.{make_read, make_of}
use Rattle.making.specs.After.{stands, make_after_read, make_after_of}

-- What is promised of the answers of making with the higher htMin and with the lower.
pub record Loosens (higher lower : Answer) : Type 0 where
  -- where the first is a pagination so is the second,
  pub finishes : accepted higher ≡ true → accepted lower ≡ true
  -- with at most as many turns
  pub turns : accepted higher ≡ true → (numbers_of lower).turns ≤ (numbers_of higher).turns

module _ (bytes : List ℕ) (g : Galley) (read : galley_of bytes ≡ Ok g) (work list : ℕ) where
  -- What making answers with enough memory,
  pub after_is : (opening : List ℕ) → work_needed g ≤ work → list_needed g ≤ list
      → make_after_of bytes opening work list ≡ made_after (model_of bytes g) opening
  unfolding make_after_of make_after_read
  after_is opening enough room = rw read (simp (le-ltb work (work_needed g) enough, le-ltb list (list_needed g) room))

  -- and wherever it answers with a pagination.
  pub after_made : (opening : List ℕ) → accepted (make_after_of bytes opening work list) ≡ true
      → make_after_of bytes opening work list ≡ made_after (model_of bytes g) opening
  unfolding make_after_of make_after_read
  after_made opening a = grind arith

  -- After no page it is what making answers without an opening.
  pub after_nothing : make_after_of bytes [] work list ≡ make_of bytes work list
  unfolding make_after_of make_after_read make_of make_read
  after_nothing = rw (read, made_after_nothing (model_of bytes g) (reads_sane bytes g read))

-- What is not turned away.
none_turned : (t : Option Answer) → elim t [ none ↦ true | some refusal ↦ false ] ≡ true → t ≡ none
none_turned o e = grind arith

-- Of a refusal nothing is promised.
pub refusal_loosens : {higher lower : Answer} → (accepted higher ≡ true → ⊥) → Loosens higher lower
refusal_loosens refused = record { finishes = λ a. absurd (refused a); turns = λ a. absurd (refused a) }

pub turned_refused : (a : Answer) → ByOpening a → accepted a ≡ true → ⊥
turned_refused a by h = grind arith

-- In the page model: what is made after an opening is no worse than any list that is accepted and begins with it.
pub made_best : (m : model.Galley) (opening words : List ℕ) {p x y t w : ℕ} → opening_turned m opening ≡ none
    → marked m (opening ++ words) ≡ counted_as p x y t w → {a : Answer} {list : List ℕ} → MakingAfter m opening a list
    → Loosens (counted_as p x y t w) a
made_best m opening words through is making = grind arith

-- Two galleys that are read from bytes alike in all but htMin, which is no higher in the second.
module _ {bytes bytes' : List ℕ} (like : Alike bytes bytes') (g g' : Galley) (read : galley_of bytes ≡ Ok g)
    (read' : galley_of bytes' ≡ Ok g') (low : g'.spec.htmin ≤ g.spec.htmin) where
  -- They ask for the same memory.
  pub same_needs : (work_needed g' ≡ work_needed g) × (list_needed g' ≡ list_needed g)
  same_needs =
      let e = galleys_alike like g g' read read' in
      (ap (λ (x : Galley). work_needed x) e, ap (λ (x : Galley). list_needed x) e)

  -- Marking accepts for the lower htMin every list that it accepts for the higher, with the same p, X, Y, T, W.
  pub marking_loosened : (words : List ℕ) → accepted (mark_of bytes words) ≡ true → mark_of bytes' words ≡ mark_of bytes words
  unfolding mark_of mark_read
  marking_loosened words a =
      let e = marked_loosened (model_of bytes g) g'.spec.htmin (omega arith) words (rw read at a) in
      rw (read, read', models_alike like g g' read read') e

  -- An opening that 20 and 21 let through for the higher htMin is let through for the lower.
  pub opening_loosened : (opening : List ℕ) → stands bytes g opening ≡ true → stands bytes' g' opening ≡ true
  unfolding stands
  opening_loosened opening s =
      let higher = model_of bytes g in
      let e = standing_loosened higher g'.spec.htmin (omega arith) opening (none_turned (opening_turned higher opening) s) in
      ap (λ (t : Option Answer). elim t [ none ↦ true | some refusal ↦ false ])
      (ap (λ m. opening_turned m opening) (models_alike like g g' read read') ∙ e)
