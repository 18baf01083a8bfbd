-- `numbers` meets its contract: the constant is what the formulas give, by one computation over all its numbers.
use mathlib.Core.Path.{refl}
use Rattle.sections.specs.Folding.{sheets_from, section, sections_from, all_sections}
use Rattle.sections.proofs.table.numbers.Goals as goal

pub returns : goal.returns
unfolding sheets_from section sections_from all_sections
returns c = refl
