-- The white that a list leaves: what its pages lack of htMax even at their loosest (document 02, S-10).
use Rattle.std.specs.Prelude.{ℕ, ◌+◌, ◌-◌, List, [], ◌∷◌}
use Rattle.model.specs.Galley.{Galley, Place, zeros}
use Rattle.model.specs.Height.{loosest}

-- What the page from u to v lacks of htMax at its loosest; nothing where it reaches htMax (document 02, S-10).
unfoldable pub white_on : Galley → Place → Place → ℕ
white_on g u v = g.spec.htmax - loosest g u v

-- That of each page but the last, summed, for a list whose first page starts at u (document 02, S-10).
unfoldable pub whites : Galley → Place → List Place → ℕ
whites g u [] = 0
whites g u (v ∷ []) = 0
whites g u (v ∷ (w ∷ ws)) = white_on g u v + whites g v (w ∷ ws)

-- W: the white of a list of pages (document 02, S-10).
unfoldable pub white : Galley → List Place → ℕ
white g ps = whites g (zeros g) ps
