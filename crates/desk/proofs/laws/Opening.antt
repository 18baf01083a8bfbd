-- What the marking's acceptance tells of a list that a desk is opened on.
use Rattle.std.specs.Prelude.{ℕ, ◌*◌, ◌/◌, ◌≤◌, Bool, ◌&&◌, List, ◌≡◌, leb, Err, Ok}
use native.Mathlib.Omega.{arith}
use Rattle.std.proofs.Math.Bool.{true, false}
use Rattle.std.proofs.Math.Path.{refl}
use Rattle.std.proofs.Common.{ap, ◌∙◌}
use Rattle.std.proofs.Math.Dec.{eqb}
use Rattle.std.proofs.Math.ListN.{length}
use borrow.Author.Tests.{eqb-true, eqb-false, leb-true}
use Rattle.model.specs.Galley as model
use Rattle.model.specs.Gather.{pick}
use Rattle.model.specs.Answers.{numbers_of, accepted, counts_of, marked}
use Rattle.model.proofs.laws.Gather.{and_left, and_right}
use Rattle.model.proofs.laws.Words.{counted_at, length_pages}
use Rattle.model.proofs.laws.Valid.{marked_accepted, marked_counts}
use Rattle.galley.specs.declared.Galley.{Galley}
use Rattle.galley.specs.Whole.{galley_of, Reading}
use Rattle.galley.specs.Model.{model_of}
use Rattle.blocks.specs.laws.Counts.{streams_of_lem}
use Rattle.marking.specs.Mark.{mark_read, mark_of}
use Rattle.desk.specs.Opening.{Short}
use Rattle.desk.specs.Pages.{width_of}

-- A list of so many pages, of two words each or of three.
pub data Whole (list : List ℕ) (pages : ℕ) : Type 0 where
  twos : length list ≡ pages * 2 → Whole list pages
  threes : length list ≡ pages * 3 → Whole list pages

-- The pages of a list that the marking accepts are as many as its words make.
pub marked_pages_lem : (M : model.Galley) (list : List ℕ) → accepted (marked M list) ≡ true
    → (numbers_of (marked M list)).pages ≡ length list / model.streams M
unfolding counts_of
marked_pages_lem M list h = rw (marked_counts M list h) (length_pages M list)

marked_long : (M : model.Galley) (list : List ℕ) → accepted (marked M list) ≡ true
    → length list ≡ (numbers_of (marked M list)).pages * model.streams M
marked_long M list h = rw (marked_pages_lem M list h) (counted_at M list ((marked_accepted M list).0 h).whole).whole

-- A list that the marking accepts has whole pages, as many as it answers.
pub accepted_whole : (bytes list : List ℕ) → accepted (mark_of bytes list) ≡ true → Whole list (numbers_of (mark_of bytes list)).pages
unfolding mark_of mark_read
accepted_whole bytes list = go (galley_of bytes)
  where
    by_words : (g : Galley) (p : ℕ) (b : Bool) → length list ≡ p * pick b 2 3 → Whole list p
    by_words g p true e = twos e
    by_words g p false e = threes e

    go : (r : Reading) → accepted (mark_read bytes list r) ≡ true → Whole list (numbers_of (mark_read bytes list r)).pages
    go (Ok g) h =
        by_words g _ (eqb g.tables.count 0)
        (marked_long (model_of bytes g) list h ∙ ap (λ (k : ℕ). (numbers_of (marked (model_of bytes g) list)).pages * k) (streams_of_lem g bytes))
    go (Err r) h = let z : ◌≡◌ {A = ℕ} 0 1 = cc in absurd (omega arith)

module _ (list : List ℕ) (pages : ℕ) where
  -- At most 64 pages have at most 192 words.
  pub whole_short : Whole list pages → pages ≤ 64 → Short list
  whole_short (twos e) few = omega arith
  whole_short (threes e) few = omega arith

  -- The words of a page, as a desk keeps them, are two or three,
  pub width_least : 2 ≤ width_of (length list) pages
  unfolding width_of
  width_least = go (eqb (length list) (2 * pages))
    where
      go : (b : Bool) → 2 ≤ pick b 2 3
      go true = omega arith
      go false = omega arith

  pub width_most : width_of (length list) pages ≤ 3
  unfolding width_of
  width_most = go (eqb (length list) (2 * pages))
    where
      go : (b : Bool) → pick b 2 3 ≤ 3
      go true = omega arith
      go false = omega arith

  -- and so many for each page are the whole list.
  pub whole_long : Whole list pages → length list ≡ pages * width_of (length list) pages
  unfolding width_of
  whole_long whole = go (eqb (length list) (2 * pages)) refl whole
    where
      go : (b : Bool) → eqb (length list) (2 * pages) ≡ b → Whole list pages → length list ≡ pages * pick b 2 3
      go true e w = let is = eqb-true (length list) (2 * pages) e in omega arith
      go false e (twos t) = let differ = eqb-false (length list) (2 * pages) e in absurd (differ (omega arith))
      go false e (threes t) = t

-- Where there is a page, they are the words that a list of so many words has for each.
pub width_is : (words pages : ℕ) (b : Bool) → 1 ≤ pages → words ≡ pages * pick b 2 3 → width_of words pages ≡ pick b 2 3
unfolding width_of
width_is words pages b some e = go (eqb words (2 * pages)) b refl e
  where
    go : (a b : Bool) → eqb words (2 * pages) ≡ a → words ≡ pages * pick b 2 3 → ◌≡◌ {A = ℕ} (pick a 2 3) (pick b 2 3)
    go true true t e = refl
    go true false t e = let is = eqb-true words (2 * pages) t in absurd (omega arith)
    go false true t e = let differ = eqb-false words (2 * pages) t in absurd (differ (omega arith))
    go false false t e = refl

-- The test of an opening passes lists that 192 words have room for.
pub open_short : (bytes list : List ℕ)
    → accepted (mark_of bytes list) && leb (numbers_of (mark_of bytes list)).pages 64 ≡ true → Short list
open_short bytes list h =
    whole_short list _
    (accepted_whole bytes list (and_left (accepted (mark_of bytes list)) (leb (numbers_of (mark_of bytes list)).pages 64) h))
    (leb-true _ 64 (and_right (accepted (mark_of bytes list)) (leb (numbers_of (mark_of bytes list)).pages 64) h))
