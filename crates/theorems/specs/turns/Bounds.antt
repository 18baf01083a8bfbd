-- How dear and how white a list can be: at most α·n + β and htMax for each page before the last, and no more pages than blocks.
use Rattle.std.specs.Prelude.{ℕ, zero, suc, pred, ◌+◌, ◌*◌, ◌≤◌, ◌<◌, ◌≡◌, Bool, true, false, List, [], ◌∷◌, length}
use Rattle.std.proofs.Common.{suc-mul, mul-le-mul, mul-le-mul_left, mul-le-mul_right, arith}
use Rattle.model.specs.Gather.{pick, one, sum, total}
use Rattle.model.specs.Galley.{Galley, Place, Sane, zeros, sizes, blocks}
use Rattle.model.specs.Leaf.{ends}
use Rattle.model.specs.Turns.{turns}
use Rattle.model.specs.White.{white}
use Rattle.model.specs.Best.{allowed}
use Rattle.model.proofs.laws.Gather.{sum_le}
use Rattle.model.specs.laws.Judge.{accepts}
use Rattle.model.specs.laws.White.{page_white}
use Rattle.model.proofs.laws.White.{page_white_le, white_le}
use Rattle.theorems.specs.turns.Waiting.{dangles, waiting_in, waiting, page_sum, page_cost, costs}
use Rattle.model.proofs.laws.Valid.{pages_fit}
use Rattle.theorems.specs.turns.Costs.{turns_are_costs}
use Rattle.theorems.specs.turns.Rank.{rank}

-- The number of floats, of all streams together: n for n figures.
unfoldable pub all_floats : Galley → ℕ
all_floats g = sum g.floats (λ s. (g.stream s).size)

-- The most that a page can cost: every float waits where its leaf ends.
unfoldable pub dearest : Galley → ℕ
dearest g = g.spec.alpha * all_floats g + g.spec.beta

-- No more floats wait than there are.
pub waiting_le : (g : Galley) (v : Place) → waiting g v ≤ all_floats g
unfolding waiting waiting_in all_floats sum
waiting_le g v = sum_le g.floats _ (λ s. (g.stream s).size) (λ s p q. tests (g.stream s).size (λ k. dangles g s k v))
  where
    one_le : (b : Bool) → one b ≤ 1
    one_le true = omega arith
    one_le false = omega arith

    tests : (n : ℕ) (f : ℕ → Bool) → sum n (λ k. one (f k)) ≤ n
    tests zero f = omega arith
    tests (suc n) f =
        let below = tests n f in
        let at = one_le (f (suc n)) in
        omega arith

-- No page costs more than the dearest.
pub cost_le : (g : Galley) (q : ℕ) (last : Bool) (v : Place) → page_cost g q last v ≤ dearest g
unfolding page_cost dearest
cost_le g q last v = go last (ends g.spec.sides q)
  where
    go : (last b : Bool) → pick last 0 (pick b (g.spec.alpha * waiting g v + g.spec.beta) 0) ≤ dearest g
    go true b = omega arith
    go false true = let most = mul-le-mul_left g.spec.alpha (waiting_le g v) in omega arith
    go false false = omega arith

-- The most that a page can cost with its white: it lacks htMax.
unfoldable pub heaviest : Galley → ℕ
heaviest g = rank (dearest g) g.spec.htmax

-- No page costs more with its white.
pub weight_le : (g : Galley) (q : ℕ) (last : Bool) (u v : Place) → rank (page_cost g q last v) (page_white g last u v) ≤ heaviest g
unfolding heaviest
weight_le g q last u v =
    let cost = cost_le g q last v in
    let white = page_white_le g last u v in
    omega arith

-- The last page costs nothing, and each other at most the dearest.
pub costs_le : (g : Galley) (q : ℕ) (v : Place) (vs : List Place) → costs g q (v ∷ vs) ≤ length vs * dearest g
unfolding costs page_sum page_cost
costs_le g q v [] = omega arith
costs_le g q v (w ∷ ws) =
    let here = cost_le g q false v in
    let after = costs_le g (suc q) w ws in
    simp suc-mul (omega arith)

-- An accepted list costs at most α·n + β for each block but one.
pub costs_most : (g : Galley) (ps : List Place) → accepts (allowed g) (sizes g) 1 (zeros g) ps ≡ true
    → costs g 1 ps ≤ pred (blocks g) * dearest g
unfolding costs page_sum
costs_most g [] h = omega arith
costs_most g (v ∷ vs) h =
    let number = pages_fit g 1 (zeros g) (v ∷ vs) h in
    let most = costs_le g 1 v vs in
    let rest : length vs ≤ pred (blocks g) = omega arith in
    let scaled = mul-le-mul_right (dearest g) rest in
    omega arith

-- At most 4,000 lines, 250 floats in all, weights of 1,000 and htMax 100,000: the ranges of documents 01 and 02 (S-4), with 200
-- figures and 50 tables.
pub record Limits (g : Galley) : Type 0 where
  pub lines : (g.stream 0).size ≤ 4000
  pub floats : all_floats g ≤ 250
  pub alpha : g.spec.alpha ≤ 1000
  pub beta : g.spec.beta ≤ 1000
  pub highest : g.spec.htmax ≤ 100000

-- Within the limits a page costs at most 251,000, and there are at most 4,250 blocks.
pub rate_limit : (g : Galley) → Limits g → (dearest g ≤ 251000) × (blocks g ≤ 4250)
unfolding blocks total all_floats dearest
rate_limit g l = let weights = mul-le-mul l.alpha l.floats in omega arith

-- With its white it costs at most 251,000 in the upper half and 100,000 in the lower.
pub weight_limit : (g : Galley) → Limits g → heaviest g ≤ rank 251000 100000
unfolding heaviest
weight_limit g l =
    let rate = (rate_limit g l).0 in
    let high = l.highest in
    omega arith

-- Within the limits, α·n + β for each block but one is at most 1,066,499,000.
pub dearest_limit : (g : Galley) → Limits g → pred (blocks g) * dearest g ≤ 1066499000
dearest_limit g l =
    let (rate, number) = rate_limit g l in
    let fewer : pred (blocks g) ≤ 4249 = omega arith in
    mul-le-mul fewer rate

-- Within the limits no accepted list has more turns than that.
pub turns_limit : (g : Galley) → Sane g → Limits g → (ps : List Place)
    → accepts (allowed g) (sizes g) 1 (zeros g) ps ≡ true → turns g ps ≤ 1066499000
turns_limit g sane l ps h =
    let same = turns_are_costs g sane ps h in
    let most = costs_most g ps h in
    let limit = dearest_limit g l in
    omega arith

-- htMax for each block but one is less than 2 to the 32nd power: W fits beside the turns.
abbrev pub Narrow : Galley → Type 0
Narrow g = pred (blocks g) * g.spec.htmax < 4294967296

-- Within the limits htMax for each block but one is at most 424,900,000.
whitest : (g : Galley) → Limits g → pred (blocks g) * g.spec.htmax ≤ 424900000
whitest g l =
    let number = (rate_limit g l).1 in
    let fewer : pred (blocks g) ≤ 4249 = omega arith in
    mul-le-mul fewer l.highest

-- Within the limits no accepted list has more white than 424,900,000,
pub white_limit : (g : Galley) → Limits g → (ps : List Place)
    → accepts (allowed g) (sizes g) 1 (zeros g) ps ≡ true → white g ps ≤ 424900000
white_limit g l ps h =
    let most = white_le g ps h in
    let limit = whitest g l in
    omega arith

-- which fits beside the turns.
pub narrow_limit : (g : Galley) → Limits g → Narrow g
narrow_limit g l = let limit = whitest g l in omega arith

-- The most that a list can cost with its white.
abbrev pub dearest_list : ℕ
dearest_list = rank 1066499000 424900000

-- Within the limits no accepted list costs more.
pub list_limit : (g : Galley) → Sane g → Limits g → (ps : List Place)
    → accepts (allowed g) (sizes g) 1 (zeros g) ps ≡ true → rank (turns g ps) (white g ps) ≤ dearest_list
list_limit g sane l ps h =
    let dear = turns_limit g sane l ps h in
    let light = white_limit g l ps h in
    omega arith
