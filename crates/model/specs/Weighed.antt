-- What making weighs, in the plain sense, and a ceiling on it that is known beforehand (document 02, S-5).
use Rattle.std.specs.Prelude.{ℕ, zero, suc, ◌+◌, ◌-◌, ◌*◌, Bool, not, ◌&&◌, List, [], ◌∷◌, leb}
use Rattle.model.specs.Gather.{pick, one, every}
use Rattle.model.specs.Galley.{Stream, Galley, Place, count, streams, sizes}
use Rattle.model.specs.Height.{stacked}
use Rattle.model.specs.Rules.{forward, fits}
use Rattle.model.specs.Best.{box}

-- The sum of a number for each entry of a list (notation).
unfoldable pub sum_of : {A : Type 0} → (A → ℕ) → List A → ℕ
sum_of f [] = 0
sum_of f (x ∷ xs) = f x + sum_of f xs

-- f a · f (a + 1) · …, of n numbers (notation).
unfoldable pub product : ℕ → ℕ → (ℕ → ℕ) → ℕ
product a zero f = 1
product a (suc n) f = f a * product (suc a) n f

-- There is something between the start u and the end v, and its tightest height is at most htMax: nothing else is asked of a page
-- that is weighed (document 02, S-5).
unfoldable pub weighs : Galley → Place → Place → Bool
weighs g u v = forward g u v && fits g u v

-- The pairs of start and end that are weighed, each once, by enumeration of all pairs (document 02, S-5).
unfoldable pub weighed : Galley → ℕ
weighed g = sum_of (λ v. sum_of (λ u. one (weighs g u v)) (box (sizes g))) (box (sizes g))

-- No count of u is below that of w: a start at or past w in every stream (document 02, S-6).
unfoldable pub past : Galley → Place → Place → Bool
past g w u = every g.floats (λ s. leb (count w s) (count u s))

-- Of the pairs weighed those whose start is at or past w in every stream: w is where an opening ends (document 02, S-6).
unfoldable pub weighed_from : Galley → Place → ℕ
weighed_from g w = sum_of (λ v. sum_of (λ u. one (past g w u && weighs g u v)) (box (sizes g))) (box (sizes g))

-- The greatest number up to n that passes a test, or 0 (notation).
unfoldable pub greatest : ℕ → (ℕ → Bool) → ℕ
greatest zero test = 0
greatest (suc n) test = pick (test (suc n)) (suc n) (greatest n test)

-- Some k consecutive blocks of a stream are at most htMax high by themselves, at their tightest (document 02, S-5).
unfoldable pub together : Galley → Stream → ℕ → Bool
together g st k = not (every (st.size - k) (λ a. not (leb (stacked st st.least a (a + k)) g.spec.htmax)))

-- The most consecutive blocks of which that is so: L of the lines, G of the figures, K of the tables (document 02, S-5).
unfoldable pub most_together : Galley → Stream → ℕ
most_together g st = greatest st.size (together g st)

-- The ceiling on the pairs weighed: (m + 1)·(n + 1)·(L + 1)·(G + 1) for one float stream, and a pair of factors more for each
-- further one (document 02, S-5).
unfoldable pub ceiling : Galley → ℕ
ceiling g = product 0 (streams g) (λ s. suc (g.stream s).size * suc (most_together g (g.stream s)))
