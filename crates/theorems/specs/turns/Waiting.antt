-- What a page costs where a leaf ends: the floats that are cited but not yet placed there, and the turn itself.
use Rattle.std.specs.Prelude.{ℕ, suc, ◌+◌, ◌*◌, Bool, ◌&&◌, List, [], ◌∷◌, leb, ltb}
use Rattle.model.specs.Gather.{pick, one, sum}
use Rattle.model.specs.Galley.{Sides, Galley, Place, count}
use Rattle.model.specs.Leaf.{ends}
use Rattle.model.specs.Answers.{ended}

-- Float k of stream s dangles at place v: it is not yet placed there, and the line that cites it is (paper, section 4).
unfoldable pub dangles : Galley → ℕ → ℕ → Place → Bool
dangles g s k v = ltb (count v s) k && leb ((g.stream s).cite k) (count v 0)

-- The floats of stream s that dangle at place v: the stream's dangling references (paper, section 4).
unfoldable pub waiting_in : Galley → ℕ → Place → ℕ
waiting_in g s v = sum (g.stream s).size (λ k. one (dangles g s k v))

-- The floats of all streams that dangle at place v: the dangling references (paper, section 4).
unfoldable pub waiting : Galley → Place → ℕ
waiting g v = sum g.floats (λ s. waiting_in g s v)

-- f of pages q, q + 1, … of a list, summed: of each page its number, whether it is the last, and the place where it ends.
unfoldable pub page_sum : (ℕ → Bool → Place → ℕ) → ℕ → List Place → ℕ
page_sum f q [] = 0
page_sum f q (v ∷ vs) = f q (ended vs) v + page_sum f (suc q) vs

-- f at the pages that end their leaf, and 0 at the others.
unfoldable pub at_end : Sides → (Place → ℕ) → ℕ → Bool → Place → ℕ
at_end sides f q last v = pick (ends sides q) (f v) 0

-- 1 at a page that ends its leaf and is not the last, else 0.
unfoldable pub turned : Sides → ℕ → Bool → Place → ℕ
turned sides q last v = pick last 0 (one (ends sides q))

-- What page q costs, which ends at place v: nothing where it is the last or its leaf goes on; else every float that dangles
-- there, by α, and the turn of the leaf, by β (paper, section 4, which counts the turn at the page turned to).
unfoldable pub page_cost : Galley → ℕ → Bool → Place → ℕ
page_cost g q last v =
    pick last 0 (pick (ends g.spec.sides q) (g.spec.alpha * waiting g v + g.spec.beta) 0)

-- What the pages of a list cost, numbered from q.
unfoldable pub costs : Galley → ℕ → List Place → ℕ
costs g = page_sum (page_cost g)
