-- What is known between the steps of making: a galley that was read, a work area that was filled, a page list that was written.
use Rattle.std.specs.Prelude.{ℕ, ◌≤◌, ◌≡◌, List, ◌++◌, length, drop, None, Ok}
use Rattle.model.specs.Opening.{made_after, made_words_after}
use Rattle.galley.specs.declared.Galley.{Galley}
use Rattle.galley.specs.Whole.{galley_of}
use Rattle.galley.specs.Model.{model_of}
use Rattle.galley.specs.Sound.{Sound}
use Rattle.places.specs.declared.Origin.{Origin}
use Rattle.places.specs.Entry.{boundless}
use Rattle.places.specs.Address.{words_needed}
use Rattle.candidates.specs.Read.{table_in, columns_in}
use Rattle.filling.specs.Fill.{filled}
use Rattle.walk.specs.Trace.{entry_of}
use Rattle.walk.specs.Traceable.{last_stop}
use Rattle.needs.specs.Needs.{work_needed, list_needed}
use Rattle.solving.specs.Begun.{Opened}
use Rattle.model.specs.Answers.{Answer}

-- The bytes hold the galley.
pub record Readable (bytes : List ℕ) (g : Galley) : Type 0 where
  pub reads : galley_of bytes ≡ Ok g

-- Making begins where the opening ends, and so many words of the work area and the page list are long enough.
pub record Soluble (bytes : List ℕ) (g : Galley) (opening : List ℕ) (from : Origin) (needed : ℕ) (work list : List ℕ) : Type 0 where
  pub reads : galley_of bytes ≡ Ok g
  pub opened : Opened bytes g opening from
  pub is : needed ≡ work_needed g
  pub enough : work_needed g ≤ length work
  pub room : list_needed g ≤ length list

-- A work area that was filled from where making begins, whatever it held before.
pub record TabledFrom (bytes : List ℕ) (g : Galley) (from : Origin) (work : List ℕ) : Type 0 where
  pub sound : Sound bytes g
  pub before : List ℕ
  pub enough : words_needed g.text.count (columns_in g) ≤ length before
  pub is : work ≡ filled (model_of bytes g) from before

-- The work area was so filled, without a limit if the full place is not reached, and the page list is long enough.
pub record Solved (bytes : List ℕ) (g : Galley) (opening : List ℕ) (from : Origin) (work list : List ℕ) : Type 0 where
  pub reads : galley_of bytes ≡ Ok g
  pub opened : Opened bytes g opening from
  pub before : List ℕ
  pub enough : work_needed g ≤ length before
  pub is : work ≡ filled (model_of bytes g) from before
  pub sought : entry_of (table_in g work) (last_stop g work) ≡ None → from.limit ≡ boundless
  pub room : list_needed g ≤ length list

-- The answer is that of the best list that begins with the opening, or 11, and its words stand before the rest of the page list.
pub record Written (bytes : List ℕ) (g : Galley) (opening list : List ℕ) (answer : Answer) (list' : List ℕ) : Type 0 where
  pub answers : answer ≡ made_after (model_of bytes g) opening
  pub listed : list'
      ≡ made_words_after (model_of bytes g) opening ++ drop (length (made_words_after (model_of bytes g) opening)) list
