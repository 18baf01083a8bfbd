-- The front of a queue is the best start of its part.
use Rattle.std.specs.Prelude.{ℕ, zero, suc, ◌+◌, ◌-◌, ◌≤◌, ◌<◌, ◌≡◌, Bool, List, None}
use Rattle.std.proofs.Common.{add-zero, add-suc, ltb-true, ltb-false}
use native.Mathlib.Omega.{arith}
use Rattle.std.proofs.Math.Decide.{dec_lt}
use Rattle.std.proofs.Math.Path.{refl, ap}
use Rattle.std.proofs.Math.Logic.{inl, inr}
use Rattle.std.proofs.Math.Bool.{true, false}
use Rattle.std.proofs.Math.Dec.{ltb}
use Rattle.model.specs.Gather.{pick}
use Rattle.places.specs.Entry.{Entry, least}
use Rattle.places.specs.Order.{NoLater}
use Rattle.places.specs.Best.{Leads, Best}
use Rattle.places.proofs.laws.Best.{best_none, best_least}
use Rattle.queues.specs.declared.queue.Queue.{Queue}
use Rattle.queues.specs.Queue.{line_at, cost_at, front_of, Held, Lines}

-- What rises from entry to entry rises by as much as entries are passed.
rises : (f : ℕ → ℕ) (head tail : ℕ) → ((k : ℕ) → head ≤ k → suc k < tail → f k < f (suc k)) → (d : ℕ) → head + d < tail
    → f head + d ≤ f (head + d)
rises f head tail up zero l =
    let e : head + 0 ≡ head = add-zero head in
    let same = ap f e in
    omega arith
rises f head tail up (suc d) l =
    let below = rises f head tail up d (omega arith) in
    let e : head + suc d ≡ suc (head + d) = add-suc head d in
    let same = ap f e in
    let step = up (head + d) (omega arith) (omega arith) in
    omega arith

rises_to : (f : ℕ → ℕ) (head tail : ℕ) → ((k : ℕ) → head ≤ k → suc k < tail → f k < f (suc k)) → (k : ℕ) → head ≤ k → k < tail
    → f head + (k - head) ≤ f k
rises_to f head tail up k l m =
    let e : head + (k - head) ≡ k = omega arith in
    let far = rises f head tail up (k - head) (omega arith) in
    let same = ap f e in
    omega arith

-- The first entry of a queue, where it is within the part, is the best start.
module _ (col : ℕ → Entry) (add : ℕ → ℕ) (words : List ℕ) (queue : Queue) (low high b : ℕ) (h : Held col add words queue low high)
    (fresh : queue.head < queue.tail → low ≤ line_at words queue.head) where
  front_some : queue.head < queue.tail
      → Best (Lines col add low high b)
      (least (cost_at words queue.head) (record { line = line_at words queue.head; column = b }))
  unfolding Leads
  front_some some =
      best_least (cost_at words queue.head) (record { line = line_at words queue.head; column = b })
      (fresh some, h.before queue.head (omega arith) some, refl, h.reached queue.head (omega arith) some) leads
    where
      leads : (a b' y : ℕ) → Lines col add low high b a b' y → (cost_at words queue.head ≤ y)
          × (cost_at words queue.head ≡ y → NoLater a b' (line_at words queue.head) b)
      leads a b' y (l, m, e, p) =
          let k = h.covered a y l m p in
          let up = rises_to (cost_at words) queue.head queue.tail h.costs k.at k.from k.to in
          (omega (arith, k.cheaper), λ same. later (omega (arith, k.cheaper, k.from)) k.later (dec_lt a (line_at words queue.head)))
        where
          later : {n : ℕ} → n ≡ queue.head → a ≤ line_at words n → Dec (a < line_at words queue.head)
              → NoLater a b' (line_at words queue.head) b
          later first n (yes p) = inl p
          later first n (no p) = let o = ap (line_at words) first in inr (omega arith, omega arith)

  front_none : queue.tail ≤ queue.head → Best (Lines col add low high b) None
  front_none none =
      best_none (λ a b' x c. let k = h.covered a x c.0 c.1 c.3 in omega (arith, k.from, k.to))

  pub front_best : Best (Lines col add low high b) (front_of words queue b)
  unfolding front_of
  front_best = go (ltb queue.head queue.tail) refl
    where
      go : (t : Bool) → ltb queue.head queue.tail ≡ t
          → Best (Lines col add low high b)
          (pick t (least (cost_at words queue.head) (record { line = line_at words queue.head; column = b })) None)
      go true e = front_some (ltb-true _ _ e)
      go false e = front_none (ltb-false _ _ e)
