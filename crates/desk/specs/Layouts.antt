-- What saving, coming back and dropping leave and answer, for any words of a desk (document 02, S-8). The type `Desk` is that of
-- src/lib.rt.
use Rattle.std.specs.Prelude.{ℕ, List, map, get_or, set, Option, Some, None}
use Rattle.model.specs.Gather.{pick}
use Rattle.desk.specs.declared.Desk.{Desk}
use Rattle.layouts.specs.Names.{is_name, find_named, room_for, layout_of, no_layout, freed}
use Rattle.desk.specs.Desk.{Done, put_in, lay_in}

-- A refusal changes nothing (document 02, S-8).
abbrev pub refused : Desk → ℕ → Done
refused d number = record { desk = d; number = number }

-- The desk with its list kept as a layout, with a layout's list in force and none pending, and with a name freed.
abbrev pub saved : List ℕ → Desk → ℕ → Desk
saved name d at = lay_in d (set d.layouts at (layout_of name d.list))

abbrev pub came_back : Desk → ℕ → Desk
came_back d at = put_in d (get_or d.layouts at no_layout).list

abbrev pub dropped : List ℕ → Desk → Desk
dropped name d = lay_in d (map (freed name) d.layouts)

-- What a call leaves and answers where a layout is found for it; a number refuses where none is.
abbrev pub found_or : ℕ → Desk → (ℕ → Desk) → Option ℕ → Done
found_or number d after None = refused d number
found_or number d after (Some at) = record { desk = after at; number = 0 }

-- 25 refuses a name that has not 1 to 16 bytes (document 02, S-8).
abbrev pub named : List ℕ → Desk → Done → Done
named name d done = pick (is_name name) done (refused d 25)

-- Saving: 25 a bad name, then 27 where it is not held and no layout is free (document 02, S-8).
unfoldable pub save_desk : List ℕ → Desk → Done
save_desk name d = named name d (found_or 27 d (saved name d) (room_for d.layouts name))

-- Coming back and dropping: 25 a bad name, then 26 a name that is not held (document 02, S-8).
unfoldable pub back_desk : List ℕ → Desk → Done
back_desk name d = named name d (found_or 26 d (came_back d) (find_named d.layouts name))

unfoldable pub drop_desk : List ℕ → Desk → Done
drop_desk name d = named name d (found_or 26 d (λ at. dropped name d) (find_named d.layouts name))
