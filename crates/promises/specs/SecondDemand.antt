-- The second demand: marking accepts a list exactly where it is a pagination, under the published model, of the galley that
-- the bytes say, and reports that pagination's page count, goal functions and white. `mark_of` is the contract of `mark`.
use Rattle.std.specs.Prelude.{ℕ, ◌-◌, ◌≤◌, ◌≡◌, refl, ◌↔◌, true, List, Ok}
use Rattle.std.proofs.Common.{sym, ◌∙◌, ap}
use native.Mathlib.Omega.{arith}
use Rattle.model.specs.Galley.{Block}
use Rattle.model.specs.Leaf.{leaf}
use Rattle.model.proofs.laws.Leaf.{leaf_mono}
use Rattle.model.specs.Answers.{accepted, marked, words_of, counted_as}
use Rattle.model.specs.Pagination.{Map, Pagination, list_on, x_on, turns_on, white_over}
use Rattle.theorems.specs.published.Theorem.{words_published, words_unique, words_counts}
use Rattle.galley.specs.declared.Galley.{Galley}
use Rattle.galley.specs.Whole.{galley_of, Reading}
use Rattle.galley.specs.Model.{sides_in, model_of}
use Rattle.marking.specs.Mark.{mark_read, mark_of}
use Rattle.rules.specs.laws.Sane.{reads_sane}

-- The bytes say the galley g, P is a pagination of g on p pages in the sense of the paper, and the words are its page list.
pub record Paginates (bytes words : List ℕ) (g : Galley) (p : ℕ) (P : Map) : Type 0 where
  pub says : galley_of bytes ≡ Ok g
  pub pages : Pagination (model_of bytes g) p P
  pub list : words_of (list_on (model_of bytes g) P p 1) ≡ words

-- What marking a galley that was read means.
pub mark_is : (bytes words : List ℕ) (g : Galley) → galley_of bytes ≡ Ok g → mark_of bytes words ≡ marked (model_of bytes g) words
unfolding mark_of mark_read
mark_is bytes words g e = rw e

-- What is accepted was read.
accepted_reads : (bytes words : List ℕ) (r : Reading) → galley_of bytes ≡ r → accepted (mark_read bytes words r) ≡ true
    → (g : Galley) × (galley_of bytes ≡ Ok g)
unfolding mark_read
accepted_reads bytes words r e h = grind arith

-- Marking accepts the words exactly where they are the list of a pagination of the galley that the bytes say.
pub accepts_paginations : (bytes words : List ℕ)
    → (accepted (mark_of bytes words) ≡ true) ↔ ((g : Galley) × (p : ℕ) × (P : Map) × Paginates bytes words g p P)
unfolding mark_of
accepts_paginations bytes words = (
  λ h.
      let r = accepted_reads bytes words (galley_of bytes) refl h in
      let t =
      (words_published (model_of bytes r.0) (reads_sane bytes r.0 r.1) words).0
      (sym (ap accepted (mark_is bytes words r.0 r.1)) ∙ h) in
      (r.0, t.0, t.1, record { says = r.1; pages = t.2; list = t.3 }),
  λ t.
      let m = t.3 in
      ap accepted (mark_is bytes words t.0 m.says)
      ∙ (words_published (model_of bytes t.0) (reads_sane bytes t.0 m.says) words).1 (t.1, t.2, m.pages, m.list),
)

module _ {bytes words : List ℕ} {g : Galley} {p : ℕ} {P : Map} (m : Paginates bytes words g p P) where
  -- The answer is its page count, X and Y over its leaves, its turns, and its white: what its pages but the last lack of htMax at their
  -- loosest (document 02, S-10).
  pub reports : mark_of bytes words
      ≡ counted_as p (x_on (model_of bytes g) P) (leaf (sides_in g) p - leaf (sides_in g) 1)
      (turns_on (model_of bytes g) p P) (white_over (model_of bytes g) p P)
  reports =
      mark_is bytes words g m.says
      ∙ ap (marked (model_of bytes g)) (sym m.list)
      ∙ words_counts (model_of bytes g) (reads_sane bytes g m.says) m.pages

  -- No subtraction in X is cut off at 0: no float is on a leaf before that of the line that cites it. Nor is that in Y, since
  -- there is a page.
  pub nothing_cut : ((s f : ℕ) → 1 ≤ s → Block (model_of bytes g) s f
      → leaf (sides_in g) (P 0 (((model_of bytes g).stream s).cite f)) ≤ leaf (sides_in g) (P s f))
      × (leaf (sides_in g) 1 ≤ leaf (sides_in g) p)
  nothing_cut =
      let lined = (reads_sane bytes g m.says).lined in
      let first = m.pages.into 0 1 (record { stream = omega arith; first = omega arith; last = lined }) in (
        m.pages.fourth,
        leaf_mono (sides_in g) 1 p (omega (arith, first.0, first.1)),
      )

  -- No other pagination of the galley has the same list.
  pub one_pagination : {p' : ℕ} {P' : Map} → Paginates bytes words g p' P'
      → (p ≡ p') × ((s k : ℕ) → Block (model_of bytes g) s k → P s k ≡ P' s k)
  one_pagination m' =
      words_unique (model_of bytes g) (reads_sane bytes g m.says) m.pages m'.pages (m.list ∙ sym m'.list)
