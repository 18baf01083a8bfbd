-- The three facts about the table. Each is proved once, by a test that is computed over the whole table; the laws after it say
-- what that means for a section of n pages.
use Rattle.std.specs.Prelude.{ℕ, ◌+◌, ◌-◌, ◌*◌, ◌/◌, ◌≤◌, ◌<◌, ◌≡◌, refl, Bool, true, List, ◌++◌, eqb, length, take, drop}
use Rattle.std.proofs.Common.{arith, sym, ap, ◌∙◌, take_at}
use borrow.Author.Tests.{eqb-true}
use Rattle.model.specs.Gather.{each, every, times}
use Rattle.model.specs.Answers.{same}
use Rattle.model.proofs.laws.Gather.{and_left, and_right, each_at, every_at}
use Rattle.model.proofs.laws.Valid.{same_true}
use Rattle.sections.specs.Folding.{sheets_from, section, sections_from, all_sections, start_of, part_of}
use Rattle.sections.specs.Standing.{left_of, right_of, folds, has_pages, adds_up, every_size}
use Rattle.sections.specs.Answer.{is_size, Size, numbers_after}
use Rattle.sections.specs.Copying.{overwritten}
use Rattle.sections.specs.laws.Size.{size_facts, size_test}

-- What holds at every size holds at n.
size_at : (test : ℕ → Bool) → every_size test ≡ true → (n : ℕ) → Size n → test n ≡ true
size_at test h n size =
    let quarter = each_at 16 (λ q. test (4 * q)) h (n / 4) (omega (arith, size.least)) (omega (arith, size.most)) in
    let whole : 4 * (n / 4) ≡ n = omega (arith, size.fours) in
    rw whole at quarter

-- The table has 544 numbers.
pub table_length : length all_sections ≡ 544
unfolding sheets_from section sections_from all_sections
table_length = refl

-- First, every section stands in the table as the formulas give it.
pub table_folds : every_size (folds all_sections) ≡ true
unfolding each same sheets_from section sections_from all_sections part_of folds
table_folds = refl

pub section_folds : (n : ℕ) → Size n → part_of all_sections n ≡ section n
unfolding folds
section_folds n size = same_true (part_of all_sections n) (section n) (size_at (folds all_sections) table_folds n size)

-- So what is copied from where it starts is what is due.
pub section_copied : (n : ℕ) (words : List ℕ) → is_size n ≡ true → overwritten all_sections (start_of n) n words ≡ numbers_after n words
unfolding part_of numbers_after
section_copied n words h = rw h (ap (λ (pages : List ℕ). pages ++ drop n words) (section_folds n (size_facts n h)))

-- Second, every section has each of its pages exactly once.
pub table_has_pages : every_size (has_pages all_sections) ≡ true
unfolding each times sheets_from section sections_from all_sections part_of has_pages
table_has_pages = refl

module _ (n : ℕ) (size : Size n) where
  abbrev once : ℕ → Bool
  once p = eqb (times p (part_of all_sections n)) 1

  pub section_length : length (part_of all_sections n) ≡ n
  unfolding has_pages
  section_length =
      eqb-true (length (part_of all_sections n)) n
      (and_left (eqb (length (part_of all_sections n)) n) (each n once) (size_at (has_pages all_sections) table_has_pages n size))

  pub page_once : (p : ℕ) → 1 ≤ p → p ≤ n → times p (part_of all_sections n) ≡ 1
  unfolding has_pages
  page_once p first last =
      eqb-true (times p (part_of all_sections n)) 1
      (each_at n once
      (and_right (eqb (length (part_of all_sections n)) n) (each n once) (size_at (has_pages all_sections) table_has_pages n size))
      p first last)

-- Third, left and right of every side of every section add up to one more than its pages.
pub table_adds_up : every_size (adds_up all_sections) ≡ true
unfolding each every sheets_from section sections_from all_sections part_of adds_up
table_adds_up = refl

pub side_adds_up : (n : ℕ) → Size n → (side : ℕ) → 2 * side < n
    → left_of (part_of all_sections n) side + right_of (part_of all_sections n) side ≡ n + 1
unfolding adds_up
side_adds_up n size side there =
    eqb-true (left_of (part_of all_sections n) side + right_of (part_of all_sections n) side) (n + 1)
    (every_at (n / 2 - 1) (λ s. eqb (left_of (part_of all_sections n) s + right_of (part_of all_sections n) s) (n + 1))
    (size_at (adds_up all_sections) table_adds_up n size) side (omega (arith, there, size.fours)))

-- The first n words after a request are the section of n pages as it stands in the table, so that all of this holds of them.
pub first_words : (n : ℕ) (words : List ℕ) → Size n → take n (numbers_after n words) ≡ part_of all_sections n
unfolding numbers_after
first_words n words size =
    let folds = section_folds n size in
    let long : length (section n) ≡ n = sym (ap length folds) ∙ section_length n size in
    rw (size_test n size) (take_at (section n) (drop n words) n long ∙ sym folds)
