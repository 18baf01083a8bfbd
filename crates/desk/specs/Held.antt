-- What a desk holds under a name (document 02, S-8).
use Rattle.std.specs.Prelude.{ℕ, List, [], ◌∷◌, take, Option, None, Some, option_map}
use Rattle.model.specs.Gather.{pick}
use Rattle.desk.specs.declared.Desk.{Desk}
use Rattle.layouts.specs.declared.Layout.{Layout}
use Rattle.desk.specs.Pages.{words_on}
use Rattle.layouts.specs.Names.{is_named}

-- The words of the first layout under a name,
unfoldable pub held_in : List Layout → List ℕ → Option (List ℕ)
held_in [] name = None
held_in (layout ∷ layouts) name = pick (is_named layout name) (Some layout.list) (held_in layouts name)

-- of which the first are the list: it has as many words as the one in force (document 02, S-8).
unfoldable pub held_on : Desk → List ℕ → Option (List ℕ)
held_on d name = option_map (take (words_on d)) (held_in d.layouts name)
