-- What a galley needs at most: the words of the work area and of the page list fit 32 bits.
use Rattle.std.specs.Prelude.{ℕ, ◌+◌, ◌*◌, ◌≤◌, List, ◌≡◌, eqb, Ok}
use Rattle.std.proofs.Common.{mul-le-mul, arith}
use Rattle.galley.specs.declared.Galley.{Galley}
use Rattle.galley.specs.Whole.{galley_of}
use Rattle.galley.proofs.laws.Pick.{pick_has}
use Rattle.galley.proofs.laws.Sound.{sound}
use Rattle.blocks.specs.Counts.{page_words}
use Rattle.places.specs.Address.{words_needed, Limited}
use Rattle.places.proofs.laws.Address.{words_small}
use Rattle.needs.specs.Needs.{work_needed, list_needed, Few}

-- A galley that reads has few blocks.
pub read_few : (bytes : List ℕ) (g : Galley) → galley_of bytes ≡ Ok g → Few g
read_few bytes g h =
    let s = sound bytes g h in
    record { lines = s.few_lines; figures = s.figures.few; tables = s.tables.few }

-- Few floats have at most 201 · 51 columns.
pub few_columns : (g : Galley) → Few g → (g.figures.count + 1) * (g.tables.count + 1) ≤ 10251
few_columns g few = mul-le-mul {n₁ = g.figures.count + 1} {m₁ = g.tables.count + 1} {n₂ = 201} {m₂ = 51} (omega (arith, few.figures)) (omega (arith, few.tables))

pub few_limited : (g : Galley) → Few g → Limited g.text.count ((g.figures.count + 1) * (g.tables.count + 1))
few_limited g few = record { lines = few.lines; columns = few_columns g few }

-- The largest work area.
pub work_small : (g : Galley) → Few g → work_needed g ≤ 410142510
unfolding words_needed
work_small g few = let h = words_small _ _ (few_limited g few) in omega arith

-- A page has two words or three.
pub page_few : (g : Galley) → page_words g ≤ 3
page_few g = pick_has (λ n. n ≤ 3) (eqb g.tables.count 0) 2 3 (λ e. omega arith) (λ e. omega arith)

-- The longest page list.
pub list_small : (g : Galley) → Few g → list_needed g ≤ 12750
list_small g few =
    mul-le-mul {n₁ = page_words g} {m₁ = g.text.count + g.figures.count + g.tables.count} {n₂ = 3} {m₂ = 4250} (page_few g)
    (omega (arith, few.lines, few.figures, few.tables))
