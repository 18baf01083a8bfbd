-- `entry_of` meets its contract: the table's entry is the one at the place's address.
use mathlib.Core.Path.{ap, ◌∙◌}
use Rattle.places.specs.Entry.{entry_at}
use Rattle.places.specs.Table.{table_of}
use Rattle.places.proofs.entry_of.Goals as goal

pub returns : goal.returns
unfolding table_of
returns c = c.entry_at.ensures ∙ ap (entry_at _) c.address_of.ensures
