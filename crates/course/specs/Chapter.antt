-- One chapter of a book made: the best list that closes on a side, its words and its counts.
use Rattle.std.specs.Prelude.{ℕ, ◌≤◌, ◌≡◌, List, [], ◌++◌, length, drop}
use Rattle.std.proofs.Math.Option.{Option, none, some}
use Rattle.model.specs.Galley.{Place}
use Rattle.model.specs.Answers.{words_of, counts_of, Answer}
use Rattle.theorems.specs.books.Closing.{best_closing}
use Rattle.galley.specs.declared.Galley.{Galley}
use Rattle.galley.specs.Model.{sides_in, model_of}
use Rattle.galley.specs.Sound.{Sound}
use Rattle.needs.specs.Needs.{work_needed, list_needed}
use Rattle.entries.specs.Filled.{Side}

-- The pages of a list, if there is one.
abbrev pub or_none : Option (List Place) → List Place
or_none none = []
or_none (some ps) = ps

-- The best list of a galley that closes on a side.
abbrev pub closing_list : List ℕ → Galley → ℕ → List Place
closing_list bytes g c = or_none (best_closing (model_of bytes g) c)

-- A galley that was read, on whatever folio it opens, with a list that closes on the side, and lent memory that is long enough.
pub record Makeable (bytes : List ℕ) (g : Galley) (c : ℕ) (work list : List ℕ) : Type 0 where
  pub sound : Sound bytes g
  pub occurs : Side (sides_in g) c
  pub enough : work_needed g ≤ length work
  pub room : list_needed g ≤ length list
  pub best : best_closing (model_of bytes g) c ≡ some (closing_list bytes g c)

-- The words of that list stand before the rest of the page list; of the work area only the length stays.
pub record Written (bytes : List ℕ) (g : Galley) (c : ℕ) (work list : List ℕ) (n : ℕ) (work' list' : List ℕ) : Type 0 where
  pub words : n ≡ length (words_of (closing_list bytes g c))
  pub fit : n ≤ length list
  pub listed : list' ≡ words_of (closing_list bytes g c) ++ drop n list
  pub lent : length work' ≡ length work

-- The answer counts its pages, turns and white.
pub record Made (bytes : List ℕ) (g : Galley) (c : ℕ) (work list : List ℕ) (answer : Answer) (work' list' : List ℕ) : Type 0 where
  pub counts : answer ≡ counts_of (model_of bytes g) (closing_list bytes g c)
  pub listed : list' ≡ words_of (closing_list bytes g c) ++ drop (length (words_of (closing_list bytes g c))) list
  pub lent : length work' ≡ length work
