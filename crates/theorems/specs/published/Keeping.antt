-- What rules 14 and 17 say of the place where a page ends, in inequalities.
use Rattle.std.specs.Prelude.{ℕ, ◌≤◌, ◌<◌, ◌≡◌, Bool, true, ◌&&◌, ◌||◌, ltb}
use Rattle.std.proofs.Common.{ltb-true, lt-ltb, leb-true, le-leb}
use Rattle.model.specs.Galley.{Galley, Place, count}
use Rattle.model.specs.Leaf.{ends}
use Rattle.model.specs.Rules.{may_end, closes, cited}
use Rattle.model.proofs.laws.Gather.{and_left, and_right, and_both, implies_at, implies_of}
use Rattle.model.proofs.laws.Gather.{each_at, each_of, every_at, every_of}

-- 14: where a stream's blocks are neither all before the page's end nor all after it, the space there is legal.
pub closes_at : (g : Galley) (v : Place) → closes g v ≡ true
    → (s : ℕ) → s ≤ g.floats → 0 < count v s → count v s < (g.stream s).size → (g.stream s).legal (count v s) ≡ true
unfolding closes may_end
closes_at g v h s p a b =
    implies_at (ltb 0 (count v s) && ltb (count v s) (g.stream s).size) _ (every_at g.floats _ h s p)
    (and_both (lt-ltb _ _ a) (lt-ltb _ _ b))

pub closes_of : (g : Galley) (v : Place)
    → ((s : ℕ) → s ≤ g.floats → 0 < count v s → count v s < (g.stream s).size → (g.stream s).legal (count v s) ≡ true)
    → closes g v ≡ true
unfolding closes may_end
closes_of g v h =
    every_of g.floats _
    (λ s p.
    let a : Bool = ltb 0 (count v s) in
    let b : Bool = ltb (count v s) (g.stream s).size in
    implies_of (a && b) _ (λ t. h s p (ltb-true _ _ (and_left a b t)) (ltb-true _ _ (and_right a b t))))

-- 17: where the page ends its leaf or the list, the last float placed is cited by a line already placed.
pub cited_at : (g : Galley) (q : ℕ) (last : Bool) (v : Place) → cited g q last v ≡ true
    → ends g.spec.sides q || last ≡ true
    → (s : ℕ) → 1 ≤ s → s ≤ g.floats → 0 < count v s → (g.stream s).cite (count v s) ≤ count v 0
unfolding cited
cited_at g q last v h e s a b c =
    let all = implies_at (ends g.spec.sides q || last) _ h e in
    leb-true _ _ (implies_at (ltb 0 (count v s)) _ (each_at g.floats _ all s a b) (lt-ltb _ _ c))

pub cited_of : (g : Galley) (q : ℕ) (last : Bool) (v : Place)
    → (ends g.spec.sides q || last ≡ true
    → (s : ℕ) → 1 ≤ s → s ≤ g.floats → 0 < count v s → (g.stream s).cite (count v s) ≤ count v 0)
    → cited g q last v ≡ true
unfolding cited
cited_of g q last v h =
    implies_of (ends g.spec.sides q || last) _
    (λ e. each_of g.floats _ (λ s a b. implies_of (ltb 0 (count v s)) _ (λ c. le-leb _ _ (h e s a b (ltb-true _ _ c)))))
