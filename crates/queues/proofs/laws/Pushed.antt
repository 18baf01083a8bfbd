-- A line pushed: the queue holds it too.
use Rattle.std.specs.Prelude.{ℕ, suc, ◌+◌, ◌*◌, ◌≤◌, ◌<◌, ◌≡◌, List, length, get_or}
use Rattle.std.proofs.Math.Decide.{dec_le}
use Rattle.std.proofs.Common.{arith, sym, ap, ◌∙◌}
use Rattle.places.specs.Entry.{Entry, low_of, high_of}
use Rattle.places.specs.Best.{Paid}
use Rattle.places.proofs.laws.Stored.{cost_joined}
use Rattle.places.proofs.laws.Best.{least_same}
use Rattle.queues.specs.declared.queue.Queue.{Queue}
use Rattle.window.specs.laws.Rows.{pushed_other, pushed_own}
use Rattle.queues.specs.Queue.{line_at, cost_at, queued, tailed, Cover, Held, Dropped}

-- A line and its cost pushed as entry t.
module _ (words : List ℕ) (t line cost : ℕ) where
  pub other_line : (k : ℕ) → ¬ (k ≡ t) → line_at (queued words t line cost) k ≡ line_at words k
  other_line k h = pushed_other words t line (low_of cost) (high_of cost) k (3 * k) h (omega arith) (omega arith)

  pub other_cost : (k : ℕ) → ¬ (k ≡ t) → cost_at (queued words t line cost) k ≡ cost_at words k
  other_cost k h =
      let low = pushed_other words t line (low_of cost) (high_of cost) k (3 * k + 1) h (omega arith) (omega arith) in
      let high = pushed_other words t line (low_of cost) (high_of cost) k (3 * k + 2) h (omega arith) (omega arith) in
      omega arith

  pub pushed_own_line : 3 * t + 3 ≤ length words → line_at (queued words t line cost) t ≡ line
  pushed_own_line room =
      let e : 3 * t ≡ 3 * t + 0 = omega arith in
      ap (λ n. get_or (queued words t line cost) n 0) e ∙ pushed_own words t line (low_of cost) (high_of cost) 0 (omega arith) room

  pub pushed_own_cost : 3 * t + 3 ≤ length words → cost_at (queued words t line cost) t ≡ cost
  pushed_own_cost room =
      let low = pushed_own words t line (low_of cost) (high_of cost) 1 (omega arith) room in
      let high = pushed_own words t line (low_of cost) (high_of cost) 2 (omega arith) room in
      rw (low, high) (cost_joined cost)

-- What rises up to the entry before t, and from that one to what is pushed as entry t, rises with it.
rises_with : (f g : ℕ → ℕ) (head t : ℕ) → ((k : ℕ) → ¬ (k ≡ t) → g k ≡ f k)
    → ((k : ℕ) → head ≤ k → suc k < t → f k < f (suc k)) → ((k : ℕ) → head ≤ k → suc k ≡ t → f k < g t)
    → (k : ℕ) → head ≤ k → suc k < t + 1 → g k < g (suc k)
rises_with f g head t same up last k l m = go (dec_le (suc (suc k)) t)
  where
    one : g k ≡ f k
    one = same k (λ e. omega arith)

    go : Dec (suc (suc k) ≤ t) → g k < g (suc k)
    go (yes p) =
        let two = same (suc k) (λ e. omega arith) in
        omega (arith, one, up k l p)
    go (no p) =
        let end : suc k ≡ t = omega arith in
        let two = ap g end in
        omega (arith, one, last k l end)

-- A reached line pushed after what is no cheaper was dropped: it covers itself and what the dropped ones covered.
module _ (col : ℕ → Entry) (add : ℕ → ℕ) (words : List ℕ) (queue : Queue) (low a x t : ℕ) (here : Paid (col a) (add a) x)
    (dropped : Dropped words queue.head queue.tail x t) (room : 3 * t + 3 ≤ length words)
    (h : Held col add words queue low a) where
  push_lines : (k : ℕ) → queue.head ≤ k → suc k < t + 1
      → line_at (queued words t a x) k < line_at (queued words t a x) (suc k)
  push_lines =
      rises_with (line_at words) (line_at (queued words t a x)) queue.head t (other_line words t a x)
      (λ k l m. h.lines k l (omega (arith, dropped.to)))
      (λ k l m. omega (arith, h.before k l (omega (arith, dropped.to)), pushed_own_line words t a x room))

  push_costs : (k : ℕ) → queue.head ≤ k → suc k < t + 1
      → cost_at (queued words t a x) k < cost_at (queued words t a x) (suc k)
  push_costs =
      rises_with (cost_at words) (cost_at (queued words t a x)) queue.head t (other_cost words t a x)
      (λ k l m. h.costs k l (omega (arith, dropped.to)))
      (λ k l m. omega (arith, dropped.cheaper k l m, pushed_own_cost words t a x room))

  push_before : (k : ℕ) → queue.head ≤ k → k < t + 1 → line_at (queued words t a x) k < a + 1
  push_before k l m = go (dec_le (suc k) t)
    where
      go : Dec (suc k ≤ t) → line_at (queued words t a x) k < a + 1
      go (yes p) =
          let to = dropped.to in
          let old = h.before k l (omega arith) in
          let one = other_line words t a x k (λ e. omega arith) in
          omega arith
      go (no p) =
          let last : k ≡ t = omega arith in
          let two = ap (line_at (queued words t a x)) last ∙ pushed_own_line words t a x room in
          omega arith

  push_reached : (k : ℕ) → queue.head ≤ k → k < t + 1
      → Paid (col (line_at (queued words t a x) k)) (add (line_at (queued words t a x) k)) (cost_at (queued words t a x) k)
  push_reached k l m = go (dec_le (suc k) t)
    where
      go : Dec (suc k ≤ t)
          → Paid (col (line_at (queued words t a x) k)) (add (line_at (queued words t a x) k)) (cost_at (queued words t a x) k)
      go (yes p) =
          let to = dropped.to in
          rw (other_line words t a x k (λ e. omega arith), other_cost words t a x k (λ e. omega arith))
          (h.reached k l (omega arith))
      go (no p) =
          let last : k ≡ t = omega arith in
          rw (last, pushed_own_line words t a x room, pushed_own_cost words t a x room) here

  -- The new entry covers every line up to its own that costs no less.
  push_covers : (k y : ℕ) → k ≤ a → x ≤ y → Cover (queued words t a x) (tailed queue (t + 1)) k y
  push_covers k y m l =
      let line = pushed_own_line words t a x room in
      let cost = pushed_own_cost words t a x room in
      record { at = t; from = dropped.from; to = omega arith; later = omega arith; cheaper = omega arith }

  -- An entry that is kept covers what it covered.
  push_keeps : (k y : ℕ) → k < a → Cover words queue k y → Cover (queued words t a x) (tailed queue (t + 1)) k y
  push_keeps k y m old = go (dec_le (suc old.at) t)
    where
      go : Dec (suc old.at ≤ t) → Cover (queued words t a x) (tailed queue (t + 1)) k y
      go (yes p) =
          let line = other_line words t a x old.at (λ e. omega arith) in
          let cost = other_cost words t a x old.at (λ e. omega arith) in
          let later = old.later in
          let cheaper = old.cheaper in
          record { at = old.at; from = old.from; to = omega arith; later = omega arith; cheaper = omega arith }
      go (no p) =
          let dear = dropped.dearer old.at (omega arith) old.to in
          let cheaper = old.cheaper in
          push_covers k y (omega arith) (omega arith)

  push_covered : (k y : ℕ) → low ≤ k → k < a + 1 → Paid (col k) (add k) y
      → Cover (queued words t a x) (tailed queue (t + 1)) k y
  push_covered k y l m e = go (dec_le (suc k) a)
    where
      go : Dec (suc k ≤ a) → Cover (queued words t a x) (tailed queue (t + 1)) k y
      go (yes p) = push_keeps k y p (h.covered k y l p e)
      go (no p) =
          let last : k ≡ a = omega arith in
          let same : col k ≡ col a = ap col last in
          let more : add k ≡ add a = ap add last in
          let (own, start) = least_same (sym here.entry ∙ sym same ∙ e.entry) in
          push_covers k y (omega arith) (omega (arith, here.whole, e.whole))

  pub held_pushed : Held col add (queued words t a x) (tailed queue (t + 1)) low (a + 1)
  held_pushed =
      record {
        based = h.based;
        order = let from = dropped.from in omega arith;
        short = let to = dropped.to in let short = h.short in omega arith;
        lines = push_lines;
        costs = push_costs;
        before = push_before;
        reached = push_reached;
        covered = push_covered;
      }
