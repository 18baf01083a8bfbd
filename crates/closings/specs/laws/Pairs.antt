-- The derived order of a pair of numbers: by the first, and where that is the same by the second.
use Rattle.std.specs.Prelude.{ℕ, ◌≡◌, Bool, true, false, cond, Some, eqb, ltb}
use Rattle.std.proofs.Common.{arith, refl, Less, Equal, Greater}
use Rattle.std.proofs.lemmas.Bool.{ltb-true, eqb-true}
use Rattle.std.specs.Ordering.{is_lt, is_some_and, partial_ordering_then, nat_cmp}
use Rattle.model.specs.Gather.{pick}

by_tests : (l e l' e' : Bool) → (l ≡ true → e ≡ true → ⊥)
    → is_some_and is_lt (partial_ordering_then (Some (cond l Less (cond e Equal Greater))) (Some (cond l' Less (cond e' Equal Greater)))) ≡ pick e l' l
by_tests true true l' e' n = absurd (n refl refl)
by_tests true false l' e' n = refl
by_tests false true true e' n = refl
by_tests false true false true n = refl
by_tests false true false false n = refl
by_tests false false l' e' n = refl

pub pair_less : (a b x y : ℕ)
    → is_some_and is_lt (partial_ordering_then (Some (nat_cmp a x)) (Some (nat_cmp b y))) ≡ pick (eqb a x) (ltb b y) (ltb a x)
pair_less a b x y =
    by_tests (ltb a x) (eqb a x) (ltb b y) (eqb b y)
    (λ l e. let l! = ltb-true a x l in let e! = eqb-true a x e in absurd (omega arith))
