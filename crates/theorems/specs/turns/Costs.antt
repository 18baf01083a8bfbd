-- The turns of an accepted list are a sum over its pages.
use Rattle.std.specs.Prelude.{ℕ, zero, suc, ◌+◌, ◌*◌, ◌≤◌, ◌<◌, ◌≡◌, ◌⊎◌, Bool, true, ◌||◌, List, leb, ltb}
use Rattle.std.proofs.Math.Nat.{le-suc_iff}
use Rattle.std.proofs.Common.{arith, ◌∙◌, ap, inl, inr, leb-true, lt-ltb}
use Rattle.model.specs.Gather.{pick, implies, one, each}
use Rattle.model.specs.Galley.{Galley, Place, Block, Sane, count, zeros, sizes}
use Rattle.model.specs.Leaf.{ends}
use Rattle.model.specs.Rules.{forward, cited}
use Rattle.model.specs.Turns.{turns}
use Rattle.model.specs.Best.{allowed}
use Rattle.model.proofs.laws.Gather.{implies_at, or_left, each_at}
use Rattle.model.specs.laws.Rules.{Kept}
use Rattle.model.proofs.laws.Rules.{kept, forward_at}
use Rattle.model.specs.laws.Judge.{accepts}
use Rattle.theorems.specs.turns.Waiting.{waiting, at_end, turned, page_cost, costs}
use Rattle.theorems.specs.turns.Pages.{About, along, accepts_along, page_sum_ext, page_sum_mix}
use Rattle.theorems.specs.turns.Full.{waiting_full}
use Rattle.theorems.specs.turns.LeafEnds.{Orderly, x_by_ends, y_by_ends}

-- A later float of a stream is cited no earlier.
pub cite_mono : (g : Galley) → Sane g → (s j k : ℕ) → 1 ≤ s → 1 ≤ j → j ≤ k → Block g s k
    → (g.stream s).cite j ≤ (g.stream s).cite k
cite_mono g sane s j zero h p l b = absurd (omega arith)
cite_mono g sane s j (suc k) h p l b = go (le-suc_iff.0 l) (cite_mono g sane s j k h p)
  where
    go : (j ≤ k) ⊎ (j ≡ suc k) → (j ≤ k → Block g s k → (g.stream s).cite j ≤ (g.stream s).cite k)
        → (g.stream s).cite j ≤ (g.stream s).cite (suc k)
    go (inl l) below =
        let under : Block g s k = omega arith in
        let before = below l under in
        let next = sane.grows s k h under b in
        omega arith
    go (inr e) below = rw e (omega arith)

-- Rule 17 tests the last float placed of a stream, and so speaks for every float placed, since citations grow.
pub orderly : (g : Galley) → Sane g → (q : ℕ) (last : Bool) (u v : Place)
    → forward g u v ≡ true → cited g q last v ≡ true → Orderly g q last u v
unfolding cited
orderly g sane q last u v rule13 rule17 =
    let goes = forward_at g u v rule13 in
    record { rises = goes.up; heeds = λ e s j h b l. go e s j h b l (goes.top s b.stream) }
  where
    go : ends g.spec.sides q ≡ true → (s j : ℕ) → 1 ≤ s → Block g s j → j ≤ count v s → count v s ≤ (g.stream s).size
        → (g.stream s).cite j ≤ count v 0
    go e s j h b l t =
        let test : ℕ → Bool = λ s. implies (ltb 0 (count v s)) (leb ((g.stream s).cite (count v s)) (count v 0)) in
        let tests = implies_at (ends g.spec.sides q || last) (each g.floats test) rule17 (or_left last e) in
        let here = each_at g.floats test tests s h b.stream in
        let some : 0 < count v s = omega arith in
        let line : (g.stream s).cite (count v s) ≤ count v 0 = leb-true _ _ (implies_at _ _ here (lt-ltb 0 (count v s) some)) in
        let order = cite_mono g sane s j (count v s) h b.first l (record { stream = b.stream; first = some; last = t }) in
        omega arith

-- A page's cost is its share of X and of Y by their weights, where nothing waits at the last page.
pub cost_parts : (g : Galley) (q : ℕ) (last : Bool) (v : Place) → (last ≡ true → waiting g v ≡ 0)
    → g.spec.alpha * at_end g.spec.sides (waiting g) q last v + g.spec.beta * turned g.spec.sides q last v
    ≡ page_cost g q last v
unfolding at_end turned page_cost
cost_parts g q last v h = go last (ends g.spec.sides q) h
  where
    go : (last b : Bool) → (last ≡ true → waiting g v ≡ 0)
        → g.spec.alpha * pick b (waiting g v) 0 + g.spec.beta * pick last 0 (one b)
        ≡ pick last 0 (pick b (g.spec.alpha * waiting g v + g.spec.beta) 0)
    go last b h = grind arith

-- What `accepts_along` tells of a page of an accepted list.
abbrev Judged : Galley → About
Judged g q last u v = (allowed g q last u v ≡ true) × (last ≡ true → v ≡ sizes g)

-- The turns of an accepted list are what its pages cost.
pub turns_are_costs : (g : Galley) → Sane g → (ps : List Place) → accepts (allowed g) (sizes g) 1 (zeros g) ps ≡ true
    → turns g ps ≡ costs g 1 ps
unfolding turns costs
turns_are_costs g sane ps h =
    let judged = accepts_along (allowed g) (sizes g) 1 (zeros g) ps h in
    let fine = along (Judged g) (Orderly g) (λ q last u v a. keeps q last u v (kept a.0)) 1 (zeros g) ps judged in
    simp (x_by_ends g (zeros g) ps fine, y_by_ends g ps)
    (page_sum_mix g.spec.alpha g.spec.beta (at_end g.spec.sides (waiting g)) (turned g.spec.sides) 1 ps
    ∙ page_sum_ext (Judged g) _ (page_cost g) (λ q last u v a. cost_parts g q last v (λ e. free v (a.1 e))) 1 (zeros g) ps judged)
  where
    keeps : (q : ℕ) (last : Bool) (u v : Place) → Kept g q last u v → Orderly g q last u v
    keeps q last u v k = orderly g sane q last u v k.rule13 k.rule17

    free : (v : Place) → v ≡ sizes g → waiting g v ≡ 0
    free v e = ap (waiting g) e ∙ waiting_full g
