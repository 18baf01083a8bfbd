-- The pages of a list.
use Rattle.std.specs.Prelude.{ℕ, ◌*◌, ◌-◌, ◌/◌, ◌≤◌, List, true, length, drop, ◌≡◌}
use Rattle.model.specs.Galley as model
use Rattle.model.specs.Answers.{chunks, counted}
use Rattle.galley.specs.declared.Galley.{Galley}
use Rattle.galley.specs.Sound.{Sound}
use Rattle.galley.specs.Model.{model_of}
use Rattle.blocks.specs.Counts.{page_words}

-- The pages that a list of words has.
abbrev pub pages_in : Galley → List ℕ → ℕ
pages_in g ws = length ws / page_words g

-- The pages of a list of words, k words a page, after the first `done` of them.
unfoldable pub rest : List ℕ → ℕ → ℕ → ℕ → List model.Place
rest ws k pages done = chunks (pages - done) k (drop (k * done) ws)

-- A galley that was read and a list of whole pages.
pub record WholePages (bytes : List ℕ) (g : Galley) (ws : List ℕ) : Type 0 where
  pub sound : Sound bytes g
  pub whole : length ws ≡ page_words g * pages_in g ws

-- The same of a list that rule 12 lets pass, which has so many pages, from 1 to 4,250.
pub record CountedPages (bytes : List ℕ) (g : Galley) (ws : List ℕ) (pages : ℕ) : Type 0 where
  pub list : WholePages bytes g ws
  pub counted : counted (model_of bytes g) ws ≡ true
  pub is : pages ≡ pages_in g ws
  pub some : 1 ≤ pages
  pub few : pages ≤ 4250
