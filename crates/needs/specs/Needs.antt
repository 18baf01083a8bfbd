-- The words that a galley needs of lent memory (document 01, "Making").
use Rattle.std.specs.Prelude.{ℕ, ◌+◌, ◌*◌, ◌≤◌}
use Rattle.galley.specs.declared.Galley.{Galley}
use Rattle.blocks.specs.Counts.{page_words}
use Rattle.places.specs.Address.{words_needed}

-- The words that a galley needs of the work area: a column for each number of figures and of tables placed (document 02, S-4).
abbrev pub work_needed : Galley → ℕ
work_needed g = words_needed g.text.count ((g.figures.count + 1) * (g.tables.count + 1))

-- The words that it needs of the page list: no more pages than blocks, of two words each, or three where there are tables.
abbrev pub list_needed : Galley → ℕ
list_needed g = page_words g * (g.text.count + g.figures.count + g.tables.count)

-- At most 4,000 lines, 200 figures and 50 tables (document 01, "Numbers that turn work away", 4; document 02, S-4).
pub record Few (g : Galley) : Type 0 where
  pub lines : g.text.count ≤ 4000
  pub figures : g.figures.count ≤ 200
  pub tables : g.tables.count ≤ 50
