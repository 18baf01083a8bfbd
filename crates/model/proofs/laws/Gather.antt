-- Laws of tests and sums over 1 to n and 0 to n.
use Rattle.std.specs.Prelude.{ℕ, zero, suc, ◌+◌, ◌-◌, ◌≤◌, ◌<◌, ◌≡◌, refl, ◌⊎◌, Bool, true, false, ◌&&◌, ◌||◌, length, get_or}
use Rattle.std.proofs.Math.Nat.{le-suc_iff}
use Rattle.std.proofs.Common.{not-suc-le-zero, le_refl, add-zero, add-suc, arith, sym, ◌∙◌, ap, subst, inl, inr}
use Rattle.model.specs.Gather.{implies, sum, between, total, each, every, row}

-- A conjunction holds exactly where both parts do.
pub and_left : (a b : Bool) → a && b ≡ true → a ≡ true
and_left true b h = refl
and_left false b h = h

pub and_right : (a b : Bool) → a && b ≡ true → b ≡ true
and_right true b h = h
and_right false b h = let z : ◌≡◌ {A = ℕ} 0 1 = cc in absurd (omega arith)

pub and_both : {a b : Bool} → a ≡ true → b ≡ true → a && b ≡ true
and_both p q = simp (p, q)

-- An implication between tests is an implication.
pub implies_at : (a b : Bool) → implies a b ≡ true → a ≡ true → b ≡ true
implies_at true b h p = h
implies_at false b h p = let z : ◌≡◌ {A = ℕ} 0 1 = cc in absurd (omega arith)

pub implies_of : (a b : Bool) → (a ≡ true → b ≡ true) → implies a b ≡ true
implies_of true b h = h refl
implies_of false b h = refl

-- A disjunction holds exactly where a part does.
pub or_cases : (a b : Bool) → a || b ≡ true → (a ≡ true) ⊎ (b ≡ true)
or_cases true b h = inl refl
or_cases false b h = inr h

pub or_left : {a : Bool} (b : Bool) → a ≡ true → a || b ≡ true
or_left b p = simp p

pub or_right : (a : Bool) {b : Bool} → b ≡ true → a || b ≡ true
or_right true p = refl
or_right false p = p

-- A test over 1 to n holds exactly where it holds at each number.
pub each_at : (n : ℕ) (f : ℕ → Bool) → each n f ≡ true → (k : ℕ) → 1 ≤ k → k ≤ n → f k ≡ true
unfolding each
each_at zero f h k p q = absurd (omega arith)
each_at (suc n) f h k p q = go (le-suc_iff.0 q) (each_at n f (and_left (each n f) (f (suc n)) h))
  where
    go : (k ≤ n) ⊎ (k ≡ suc n) → ((j : ℕ) → 1 ≤ j → j ≤ n → f j ≡ true) → f k ≡ true
    go (inl l) below = below k p l
    go (inr e) below = rw e (and_right (each n f) (f (suc n)) h)

pub each_of : (n : ℕ) (f : ℕ → Bool) → ((k : ℕ) → 1 ≤ k → k ≤ n → f k ≡ true) → each n f ≡ true
unfolding each
each_of zero f h = refl
each_of (suc n) f h = and_both (each_of n f (λ k p q. h k p (omega arith))) (h (suc n) (omega arith) (le_refl (suc n)))

-- The same over 0 to n.
pub every_at : (n : ℕ) (f : ℕ → Bool) → every n f ≡ true → (k : ℕ) → k ≤ n → f k ≡ true
unfolding every
every_at n f h zero q = and_left (f 0) (each n f) h
every_at n f h (suc k) q = each_at n f (and_right (f 0) (each n f) h) (suc k) (omega arith) q

pub every_of : (n : ℕ) (f : ℕ → Bool) → ((k : ℕ) → k ≤ n → f k ≡ true) → every n f ≡ true
unfolding every
every_of n f h = and_both (h 0 (omega arith)) (each_of n f (λ k p q. h k q))

-- A sum goes by its terms.
pub sum_ext : (n : ℕ) (f g : ℕ → ℕ) → ((k : ℕ) → 1 ≤ k → k ≤ n → f k ≡ g k) → sum n f ≡ sum n g
unfolding sum
sum_ext zero f g h = refl
sum_ext (suc n) f g h =
    let below = sum_ext n f g (λ k p q. h k p (omega arith)) in
    let at = h (suc n) (omega arith) (le_refl (suc n)) in
    omega arith

pub sum_le : (n : ℕ) (f g : ℕ → ℕ) → ((k : ℕ) → 1 ≤ k → k ≤ n → f k ≤ g k) → sum n f ≤ sum n g
unfolding sum
sum_le zero f g h = omega arith
sum_le (suc n) f g h =
    let below = sum_le n f g (λ k p q. h k p (omega arith)) in
    let at = h (suc n) (omega arith) (le_refl (suc n)) in
    omega arith

pub sum_add : (n : ℕ) (f g : ℕ → ℕ) → sum n (λ k. f k + g k) ≡ sum n f + sum n g
unfolding sum
sum_add zero f g = refl
sum_add (suc n) f g = let below = sum_add n f g in omega arith

pub sum_zero : (n : ℕ) → sum n (λ k. 0) ≡ 0
unfolding sum
sum_zero zero = refl
sum_zero (suc n) = let below = sum_zero n in omega arith

-- The sum to n + d is the sum to n and the d terms after it.
pub sum_split : (n d : ℕ) (f : ℕ → ℕ) → sum (n + d) f ≡ sum n f + sum d (λ k. f (n + k))
unfolding sum
sum_split n zero f = rw add-zero (omega arith)
sum_split n (suc d) f =
    let below = sum_split n d f in
    rw add-suc (let at : f (suc (n + d)) ≡ f (n + suc d) = ap f (sym (add-suc n d)) in omega arith)

-- What stands between a and b is what the sum to b has beyond the sum to a.
pub between_sum : (a b : ℕ) (f : ℕ → ℕ) → a ≤ b → sum a f + between a b f ≡ sum b f
unfolding between
between_sum a b f h =
    let e : a + (b - a) ≡ b = omega arith in
    sym (sum_split a (b - a) f) ∙ ap (λ n. sum n f) e

-- A total goes by its terms.
pub total_ext : (n : ℕ) (f g : ℕ → ℕ) → ((k : ℕ) → k ≤ n → f k ≡ g k) → total n f ≡ total n g
unfolding total
total_ext n f g h =
    let first = h 0 (omega arith) in
    let after = sum_ext n f g (λ k p q. h k q) in
    omega arith

pub total_le : (n : ℕ) (f g : ℕ → ℕ) → ((k : ℕ) → k ≤ n → f k ≤ g k) → total n f ≤ total n g
unfolding total
total_le n f g h =
    let first = h 0 (omega arith) in
    let after = sum_le n f g (λ k p q. h k q) in
    omega arith

-- A total is strictly more where no term is less and one is more.
pub sum_lt : (n : ℕ) (f g : ℕ → ℕ) → ((k : ℕ) → 1 ≤ k → k ≤ n → f k ≤ g k) → (j : ℕ) → 1 ≤ j → j ≤ n → f j < g j → sum n f < sum n g
unfolding sum
sum_lt zero f g h j p q l = absurd (omega arith)
sum_lt (suc n) f g h j p q l = go (le-suc_iff.0 q) (λ r. sum_lt n f g (λ k p q. h k p (omega arith)) j p r l)
  where
    go : (j ≤ n) ⊎ (j ≡ suc n) → (j ≤ n → sum n f < sum n g) → sum n f + f (suc n) < sum n g + g (suc n)
    go (inl r) below =
        let less = below r in
        let at = h (suc n) (omega arith) (le_refl (suc n)) in
        omega arith
    go (inr e) below =
        let under = sum_le n f g (λ k p q. h k p (omega arith)) in
        let at : f (suc n) < g (suc n) = subst (λ i. f i < g i) e l in
        omega arith

pub total_lt : (n : ℕ) (f g : ℕ → ℕ) → ((k : ℕ) → k ≤ n → f k ≤ g k) → (j : ℕ) → j ≤ n → f j < g j → total n f < total n g
unfolding total
total_lt n f g h zero q l = let after = sum_le n f g (λ k p q. h k q) in omega arith
total_lt n f g h (suc j) q l =
    let first = h 0 (omega arith) in
    let after = sum_lt n f g (λ k p q. h k q) (suc j) (omega arith) q l in
    omega arith

-- One term is at most the total, so a total is 0 only where each term is.
pub sum_has : (n : ℕ) (f : ℕ → ℕ) (j : ℕ) → 1 ≤ j → j ≤ n → f j ≤ sum n f
unfolding sum
sum_has zero f j p q = absurd (omega arith)
sum_has (suc n) f j p q = go (le-suc_iff.0 q) (λ r. sum_has n f j p r)
  where
    go : (j ≤ n) ⊎ (j ≡ suc n) → (j ≤ n → f j ≤ sum n f) → f j ≤ sum n f + f (suc n)
    go (inl r) below = let less = below r in omega arith
    go (inr e) below = rw e (omega arith)

pub total_has : (n : ℕ) (f : ℕ → ℕ) (j : ℕ) → j ≤ n → f j ≤ total n f
unfolding total
total_has n f zero q = omega arith
total_has n f (suc j) q = let after = sum_has n f (suc j) (omega arith) q in omega arith

-- A total above 0 has a term above 0.
pub sum_some : (n : ℕ) (f : ℕ → ℕ) → 0 < sum n f → (k : ℕ) × (1 ≤ k) × (k ≤ n) × (0 < f k)
unfolding sum
sum_some zero f h = absurd (omega arith)
sum_some (suc n) f h = go (f (suc n)) refl (sum_some n f)
  where
    go : (x : ℕ) → f (suc n) ≡ x → (0 < sum n f → (k : ℕ) × (1 ≤ k) × (k ≤ n) × (0 < f k))
        → (k : ℕ) × (1 ≤ k) × (k ≤ suc n) × (0 < f k)
    go zero e below = let r = below (omega arith) in let q = r.2 in (r.0, r.1, (omega arith), r.3)
    go (suc x) e below = (suc n, (omega arith), le_refl (suc n), (omega arith))

pub total_some : (n : ℕ) (f : ℕ → ℕ) → 0 < total n f → (k : ℕ) × (k ≤ n) × (0 < f k)
unfolding total
total_some n f h = go (f 0) refl
  where
    go : (x : ℕ) → f 0 ≡ x → (k : ℕ) × (k ≤ n) × (0 < f k)
    go zero e = let r = sum_some n f (omega arith) in (r.0, r.2, r.3)
    go (suc x) e = (0, (omega arith), (omega arith))

-- A row has n values, and the one at i is f (a + i).
pub length_row : (a n : ℕ) (f : ℕ → ℕ) → length (row a n f) ≡ n
unfolding row
length_row a zero f = refl
length_row a (suc n) f = ap suc (length_row (suc a) n f)

pub row_at : (a n : ℕ) (f : ℕ → ℕ) (i : ℕ) → i < n → get_or (row a n f) i 0 ≡ f (a + i)
unfolding row
row_at a zero f i h = absurd (not-suc-le-zero h)
row_at a (suc n) f zero h = ap f (sym (add-zero a))
row_at a (suc n) f (suc i) h =
    let e : suc a + i ≡ a + suc i = omega arith in
    row_at (suc a) n f i (omega arith) ∙ ap f e
