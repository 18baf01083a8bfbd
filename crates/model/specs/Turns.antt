-- The goal functions of section 3 of the paper, for both sidednesses, over a list of pages, each the place where it ends.
use Rattle.std.specs.Prelude.{ℕ, suc, ◌+◌, ◌*◌, ◌-◌, List, [], ◌∷◌, length, leb}
use Rattle.model.specs.Gather.{pick, sum}
use Rattle.model.specs.Galley.{Galley, Place, count}
use Rattle.model.specs.Leaf.{leaf}

-- The page that places block k of stream s, where the pages of the list are numbered from q: the first whose count reaches
-- k. Where none does it is the page after the last, as section 4 of the paper has it for floats still waiting.
unfoldable pub page_of : ℕ → ℕ → ℕ → List Place → ℕ
page_of s k q [] = q
page_of s k q (v ∷ vs) = pick (leb k (count v s)) q (page_of s k (suc q) vs)

-- The leaves turned from the line that cites float k of stream s to the float itself (paper, section 3, the difference under
-- its sum, which rule 17 keeps from falling below 0).
unfoldable pub apart : Galley → List Place → ℕ → ℕ → ℕ
apart g ps s k =
    leaf g.spec.sides (page_of s k 1 ps) - leaf g.spec.sides (page_of 0 ((g.stream s).cite k) 1 ps)

-- X: the leaves so turned, summed over all floats of all streams (document 01, "Spreads and turns").
unfoldable pub x_of : Galley → List Place → ℕ
x_of g ps = sum g.floats (λ s. sum (g.stream s).size (apart g ps s))

-- Y: the leaves turned from the first page to the last, one less than there are (document 01, "Spreads and turns").
unfoldable pub y_of : Galley → List Place → ℕ
y_of g ps = leaf g.spec.sides (length ps) - leaf g.spec.sides 1

-- T: the turns, X and Y by their weights (paper, section 3).
unfoldable pub turns : Galley → List Place → ℕ
turns g ps = g.spec.alpha * x_of g ps + g.spec.beta * y_of g ps
