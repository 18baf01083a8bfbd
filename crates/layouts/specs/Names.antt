-- The layouts of a desk, by their names (document 02, S-8). The type `Layout` is that of src/lib.rt.
use Rattle.std.specs.Prelude.{ℕ, Bool, ◌&&◌, Option, List, [], ◌++◌, eqb, leb, length, take, drop, replicate, position}
use Rattle.std.specs.Option.{option_or}
use Rattle.model.specs.Answers.{same}
use Rattle.model.specs.Gather.{pick}
use Rattle.layouts.specs.declared.Layout.{Layout}

-- A name has 1 to 16 bytes (document 02, S-8).
unfoldable pub is_name : List ℕ → Bool
is_name name = leb 1 (length name) && leb (length name) 16

-- A layout is under a name of as many bytes that are the same; under no bytes it is free (document 02, S-8).
unfoldable pub is_named : Layout → List ℕ → Bool
is_named layout name = eqb layout.len (length name) && same (take (length name) layout.name) name

-- The number of the first layout under a name, counted from 0.
abbrev pub find_named : List Layout → List ℕ → Option ℕ
find_named layouts name = position (λ layout. is_named layout name) layouts

-- Where a list is kept under a name: where the name is held, so that it supersedes what was there, else where a layout is free
-- (document 02, S-8).
abbrev pub room_for : List Layout → List ℕ → Option ℕ
room_for layouts name = option_or (find_named layouts name) (find_named layouts [])

-- The bytes of a name, and zeros after them.
unfoldable pub padded : List ℕ → List ℕ
padded name = name ++ drop (length name) (replicate 16 0)

-- A list of 192 words under a name,
abbrev pub layout_of : List ℕ → List ℕ → Layout
layout_of name list = record { len = length name; name = padded name; list = list }

-- a layout without a name,
abbrev pub free_layout : Layout
free_layout = record { len = 0; name = replicate 16 0; list = replicate 192 0 }

-- what stands for a layout beyond the last (notation; no answer depends on it),
abbrev pub no_layout : Layout
no_layout = record { len = 0; name = []; list = [] }

-- and a layout whose name is freed where it is this one (document 02, S-8).
unfoldable pub freed : List ℕ → Layout → Layout
freed name layout = pick (is_named layout name) (record { len = 0; name = layout.name; list = layout.list }) layout
