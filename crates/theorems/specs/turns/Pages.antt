-- Laws of sums over the pages of a list, and of what holds of each of its pages.
use Rattle.std.specs.Prelude.{ℕ, suc, ◌+◌, ◌*◌, ◌≡◌, refl, Bool, true, false, List, [], ◌∷◌}
use Rattle.std.proofs.Common.{mul-zero, mul-add, arith}
use Rattle.model.specs.Galley.{Place}
use Rattle.model.specs.Answers.{same, ended}
use Rattle.model.specs.Best.{Allowed}
use Rattle.model.proofs.laws.Gather.{and_left, and_right}
use Rattle.model.specs.laws.Judge.{accepts}
use Rattle.model.proofs.laws.Valid.{same_true}
use Rattle.theorems.specs.turns.Waiting.{page_sum}

-- What may hold of page q that goes from u to v, and is the last of its list or not.
abbrev pub About : Type 1
About = ℕ → Bool → Place → Place → Type 0

-- It holds of each page of a list, numbered from q and starting at u.
abbrev pub Along : About → ℕ → Place → List Place → Type 0
Along P q u [] = Unit {0}
Along P q u (v ∷ vs) = P q (ended vs) u v × Along P (suc q) v vs

-- What follows page by page follows along the list.
pub along : (P Q : About) → ((q : ℕ) (last : Bool) (u v : Place) → P q last u v → Q q last u v)
    → (q : ℕ) (u : Place) (ps : List Place) → Along P q u ps → Along Q q u ps
along P Q h q u [] a = tt
along P Q h q u (v ∷ vs) a = (h q (ended vs) u v a.0, along P Q h (suc q) v vs a.1)

-- In an accepted list each page is allowed, and the last ends at the full place.
pub accepts_along : (ok : Allowed) (l : Place) (q : ℕ) (u : Place) (ps : List Place) → accepts ok l q u ps ≡ true
    → Along (λ q last u v. (ok q last u v ≡ true) × (last ≡ true → v ≡ l)) q u ps
unfolding accepts
accepts_along ok l q u [] h = tt
accepts_along ok l q u (v ∷ []) h =
    ((and_left (ok q true u v) (same v l) h, λ e. same_true v l (and_right (ok q true u v) (same v l) h)), tt)
accepts_along ok l q u (v ∷ (w ∷ ws)) h =
    let rest : Bool = accepts ok l (suc q) v (w ∷ ws) in (
      (and_left (ok q false u v) rest h, λ e. absurd cc),
      accepts_along ok l (suc q) v (w ∷ ws) (and_right (ok q false u v) rest h),
    )

-- A sum over pages goes by its terms.
pub page_sum_ext : (P : About) (f h : ℕ → Bool → Place → ℕ)
    → ((q : ℕ) (last : Bool) (u v : Place) → P q last u v → f q last v ≡ h q last v)
    → (q : ℕ) (u : Place) (ps : List Place) → Along P q u ps → page_sum f q ps ≡ page_sum h q ps
unfolding page_sum
page_sum_ext P f h e q u [] a = refl
page_sum_ext P f h e q u (v ∷ vs) a =
    let at = e q (ended vs) u v a.0 in
    let after = page_sum_ext P f h e (suc q) v vs a.1 in
    omega arith

-- Multiples of two sums over pages add up page by page.
pub page_sum_mix : (a b : ℕ) (f h : ℕ → Bool → Place → ℕ) (q : ℕ) (ps : List Place)
    → a * page_sum f q ps + b * page_sum h q ps ≡ page_sum (λ q last v. a * f q last v + b * h q last v) q ps
unfolding page_sum
page_sum_mix a b f h q [] = simp mul-zero
page_sum_mix a b f h q (v ∷ vs) =
    let after = page_sum_mix a b f h (suc q) vs in
    simp mul-add (omega arith)
