-- How pages are judged, those of a list that is marked and those of an opening alike: by the first that breaks a rule.
use Rattle.std.specs.Prelude.{ℕ, zero, suc, ◌+◌, ◌*◌, ◌≤◌, ◌≡◌, List, [], ◌∷◌, Result, Ok, Err, eqb}
use Rattle.std.proofs.Math.Option.{Option, none, some}
use Rattle.model.specs.declared.answer.Refusal.{Refusal}
use Rattle.model.specs.Galley as model
use Rattle.model.specs.Rules.{broken}
use Rattle.model.specs.Answers.{pages_of, Answer, refused}
use Rattle.model.specs.Opening.{end_of}
use Rattle.model.specs.laws.White.{page_white}
use Rattle.theorems.specs.turns.Waiting.{waiting, page_sum, at_end}
use Rattle.galley.specs.declared.Galley.{Galley}
use Rattle.galley.specs.Model.{model_of}
use Rattle.blocks.specs.declared.Counts.{Counts}
use Rattle.blocks.specs.Counts.{place_of, Within}
use Rattle.rules.specs.declared.counts.Sums.{Sums}
use Rattle.marking.specs.declared.pages.Kept.{Kept}
use Rattle.marking.specs.Parts.{pages_in}

-- A broken rule refuses its page; otherwise it is as after the page.
unfoldable pub refusal : ℕ → ℕ → Option Answer → Option Answer
refusal zero q after = after
refusal (suc n) q after = some (refused (suc n) q)

-- The refusal of the first page that breaks one of 13 to 17, of pages numbered from q that start at place u; page `last` alone counts as
-- the last of its list.
unfoldable pub fault_in : model.Galley → ℕ → ℕ → model.Place → List model.Place → Option Answer
fault_in g last q u [] = none
fault_in g last q u (v ∷ vs) = refusal (broken g q (eqb q last) u v) q (fault_in g last (suc q) v vs)

-- That of all pages of a list of words.
abbrev pub first_fault : List ℕ → Galley → List ℕ → ℕ → Option Answer
first_fault bytes g ws last = fault_in (model_of bytes g) last 1 (model.zeros (model_of bytes g)) (pages_of (model_of bytes g) ws)

-- The floats that wait where pages numbered from q end their leaf, summed.
unfoldable pub waited : List ℕ → Galley → ℕ → List model.Place → ℕ
waited bytes g = page_sum (at_end (model_of bytes g).spec.sides (waiting (model_of bytes g)))

-- The white of pages numbered from q that start at place u, summed; page `last` alone adds none (document 02, S-10).
unfoldable pub lacked : model.Galley → ℕ → ℕ → model.Place → List model.Place → ℕ
lacked g last q u [] = 0
lacked g last q u (v ∷ vs) = page_white g (eqb q last) u v + lacked g last (suc q) v vs

-- That of all pages of a list of words.
abbrev pub all_lacked : List ℕ → Galley → List ℕ → ℕ → ℕ
all_lacked bytes g ws last = lacked (model_of bytes g) last 1 (model.zeros (model_of bytes g)) (pages_of (model_of bytes g) ws)

-- Every page places a block at least: the last ends at these counts, so many floats waited, and so much white was left.
pub record KeptPages (bytes : List ℕ) (g : Galley) (ws : List ℕ) (last : ℕ) (at : Counts) (sums : Sums) : Type 0 where
  pub placed : Within g at
  pub ends : place_of g at ≡ end_of (model.zeros (model_of bytes g)) (pages_of (model_of bytes g) ws)
  pub waits : sums.x ≡ waited bytes g 1 (pages_of (model_of bytes g) ws)
  pub few : pages_in g ws ≤ at.lines + at.figures + at.tables
  pub most : sums.x ≤ 250 * pages_in g ws
  pub whitens : sums.white ≡ all_lacked bytes g ws last

-- The refusal that was found.
abbrev pub fault_told : Result Kept Refusal → Option Answer
fault_told (Err r) = some (Err r)
fault_told (Ok kept) = none

-- The pages of a list are judged, of which page `last` counts as the last.
pub record JudgedPages (bytes : List ℕ) (g : Galley) (ws : List ℕ) (last : ℕ) (r : Result Kept Refusal) : Type 0 where
  pub fault : fault_told r ≡ first_fault bytes g ws last
  pub kept : (k : Kept) → r ≡ Ok k → KeptPages bytes g ws last k.at k.sums
