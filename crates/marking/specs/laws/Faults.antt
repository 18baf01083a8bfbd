-- The first rule that a page breaks, in the three steps in which it is found.
use Rattle.std.specs.Prelude.{ℕ, ◌+◌, ◌≤◌, ◌≡◌, refl, Bool, true, false, Option, None, Some, unwrap_or}
use Rattle.std.proofs.Common.{arith, sym}
use Rattle.model.specs.Galley as model
use Rattle.model.specs.Rules.{forward, closes, fits, fills, cited, first_broken, broken}
use Rattle.rules.specs.Parts.{fault_from, start_fault}

-- A rule that is found has the number of one of the two.
pub fault_some : (k n : ℕ) (a b : Bool) → Some n ≡ fault_from k a b → k ≤ n
unfolding fault_from
fault_some k n false b h = let e : n ≡ k = cc in omega arith
fault_some k n true false h = let e : n ≡ k + 1 = cc in omega arith
fault_some k n true true h = cc

start_first : (a b c d e : Bool) (n : ℕ) → Some n ≡ fault_from 13 a b → n ≡ first_broken a b c d e
unfolding fault_from first_broken
start_first false b c d e n h = cc
start_first true false c d e n h = cc
start_first true true c d e n h = cc

none_first : (a b : Bool) → None ≡ fault_from 13 a b → (a ≡ true) × (b ≡ true)
unfolding fault_from
none_first false b h = cc
none_first true false h = cc
none_first true true h = (refl, refl)

end_first : (d e : Bool) → first_broken true true true d e ≡ unwrap_or (fault_from 16 d e) 0
unfolding fault_from first_broken
end_first false e = refl
end_first true false = refl
end_first true true = refl

module _ (M : model.Galley) (q : ℕ) (last : Bool) (u v : model.Place) where
  -- 13 or 14.
  pub broken_start : (n : ℕ) → Some n ≡ start_fault M u v → n ≡ broken M q last u v
  unfolding broken
  broken_start n e = start_first (forward M u v) (closes M v) (fits M u v) (fills M last u v) (cited M q last v) n e

  module _ (fine : None ≡ start_fault M u v) where
    pub goes_forward : forward M u v ≡ true
    goes_forward = (none_first (forward M u v) (closes M v) fine).0

    -- 15.
    pub broken_over : fits M u v ≡ false → 15 ≡ broken M q last u v
    unfolding broken first_broken
    broken_over over = let both = none_first (forward M u v) (closes M v) fine in rw (both.0, both.1, over)

    -- 16 or 17, or none.
    pub broken_end : fits M u v ≡ true → (d : Bool) → fills M last u v ≡ d
        → (end : Option ℕ) → end ≡ fault_from 16 d (cited M q last v) → unwrap_or end 0 ≡ broken M q last u v
    unfolding broken
    broken_end fit d full end is =
        let both = none_first (forward M u v) (closes M v) fine in
        rw (both.0, both.1, fit, full, is) (sym (end_first d (cited M q last v)))
