-- Choosing by a test, and numbers and tests gathered over 1 to n or 0 to n: what the other definitions write for the sums and
-- quantifiers over blocks of the paper's section 2. `-` stops at 0 throughout.
use Rattle.std.specs.Prelude.{ℕ, zero, suc, ◌+◌, ◌-◌, Bool, true, false, not, ◌&&◌, ◌||◌, List, [], ◌∷◌, eqb}

-- The first of two values where the test holds, else the second (notation; the paper's cases in section 2).
abbrev pub pick : {A : Type 0} → Bool → A → A → A
pick true a b = a
pick false a b = b

-- The second test holds wherever the first does (notation; the paper's conditions in section 2).
abbrev pub implies : Bool → Bool → Bool
implies a b = not a || b

-- 1 for a test that holds, else 0 (notation; for the paper's sums over what a page has, section 2).
abbrev pub one : Bool → ℕ
one true = 1
one false = 0

-- f 1 + … + f n, the paper's Σ (sections 2 and 3).
unfoldable pub sum : ℕ → (ℕ → ℕ) → ℕ
sum zero f = 0
sum (suc n) f = sum n f + f (suc n)

-- f (a + 1) + … + f b, and 0 where b is not beyond a: the blocks or spaces of one page (paper, section 2).
unfoldable pub between : ℕ → ℕ → (ℕ → ℕ) → ℕ
between a b f = sum (b - a) (λ k. f (a + k))

-- f 0 + f 1 + … + f n: over the streams, the text first (paper, section 2, which has two).
unfoldable pub total : ℕ → (ℕ → ℕ) → ℕ
total n f = f 0 + sum n f

-- f k holds for each k from 1 to n: over blocks, or over float streams (paper, section 2).
unfoldable pub each : ℕ → (ℕ → Bool) → Bool
each zero f = true
each (suc n) f = each n f && f (suc n)

-- f k holds for each k from 0 to n: over the streams, the text first (paper, section 2).
unfoldable pub every : ℕ → (ℕ → Bool) → Bool
every n f = f 0 && each n f

-- The n values f a, f (a + 1), … (notation; the words of a page in document 01, "One page").
unfoldable pub row : ℕ → ℕ → (ℕ → ℕ) → List ℕ
row a zero f = []
row a (suc n) f = f a ∷ row (suc a) n f

-- How often a number stands in a list (notation; for what document 02 asks to be there exactly once).
unfoldable pub times : ℕ → List ℕ → ℕ
times k [] = 0
times k (x ∷ xs) = pick (eqb x k) (suc (times k xs)) (times k xs)
