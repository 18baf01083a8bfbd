-- A queue holds what it held: of no line, of the same column, with a line passed over, and with its front dropped.
use Rattle.std.specs.Prelude.{ℕ, suc, ◌+◌, ◌*◌, ◌≤◌, ◌<◌, ◌≡◌, ◌⊎◌, Bool, List, None}
use Rattle.std.proofs.Math.Decide.{dec_le}
use Rattle.std.proofs.Common.{arith, sym, ap, ◌∙◌, inl, inr}
use Rattle.places.specs.declared.Place.{Place}
use Rattle.places.specs.Entry.{Entry, least}
use Rattle.queues.specs.declared.queue.Queue.{Queue}
use Rattle.places.specs.Best.{Paid}
use Rattle.places.proofs.laws.Best.{no_reach}
use Rattle.window.specs.Rows.{Beside}
use Rattle.queues.specs.Queue.{line_at, cost_at, headed, Cover, Held, Passed}

-- Of lines that are not reached an empty queue holds all.
pub held_none : (col : ℕ → Entry) (add : ℕ → ℕ) (words : List ℕ) (base : ℕ) (lacks : Bool) (low high : ℕ)
    → ((a : ℕ) → low ≤ a → a < high → col a ≡ None)
    → Held col add words (record { base = base; head = base; tail = base; lacks = lacks }) low high
held_none col add words base lacks low high none =
    record {
      based = omega arith;
      order = omega arith;
      short = omega arith;
      lines = λ k l m. absurd (omega arith);
      costs = λ k l m. absurd (omega arith);
      before = λ k l m. absurd (omega arith);
      reached = λ k l m. absurd (omega arith);
      covered = λ a x l m p. absurd (no_reach (sym (none a l m) ∙ p.entry));
    }

-- What is paid for a reached entry.
pub paid_of : {e : Entry} {r : Place} (x p y : ℕ) → e ≡ least x r → y ≡ x + p → Paid e p y
paid_of {r = r} x p y q sum = record { own = x; start = r; entry = q; whole = sum }

-- What is paid for an entry is paid for the same entry.
paid_as : {e f : Entry} {p x : ℕ} → e ≡ f → Paid e p x → Paid f p x
paid_as q h = record { own = h.own; start = h.start; entry = sym q ∙ h.entry; whole = h.whole }

-- A queue holds the same of a column that is the same before `high`.
pub held_same : (col col' : ℕ → Entry) (add : ℕ → ℕ) (words : List ℕ) (queue : Queue) (low high : ℕ)
    → ((a : ℕ) → a < high → col' a ≡ col a) → Held col add words queue low high → Held col' add words queue low high
held_same col col' add words queue low high same h =
    record {
      based = h.based;
      order = h.order;
      short = h.short;
      lines = h.lines;
      costs = h.costs;
      before = h.before;
      reached = λ k l m. paid_as (sym (same (line_at words k) (h.before k l m))) (h.reached k l m);
      covered = λ a x l m p. h.covered a x l m (paid_as (same a m) p);
    }

-- A line that is unreached asks for no cover.
pub held_passed : (col : ℕ → Entry) (add : ℕ → ℕ) (words : List ℕ) (queue : Queue) (low a : ℕ) → col a ≡ None
    → Held col add words queue low a → Held col add words queue low (a + 1)
held_passed col add words queue low a none h =
    record {
      based = h.based;
      order = h.order;
      short = let s = h.short in omega arith;
      lines = h.lines;
      costs = h.costs;
      before = λ k l m. let b = h.before k l m in omega arith;
      reached = h.reached;
      covered = λ k x l m e. go k x l e (dec_le (suc k) a) m;
    }
  where
    go : (k x : ℕ) → low ≤ k → Paid (col k) (add k) x → Dec (suc k ≤ a) → k < a + 1 → Cover words queue k x
    go k x l e (yes p) m = h.covered k x l p e
    go k x l e (no p) m =
        let here : k ≡ a = omega arith in
        let same = ap col here in
        let some = e.entry in
        let z : ◌≡◌ {A = ℕ} 0 1 = cc in
        absurd (omega arith)

-- The entries before a later `low` dropped from the front: no line from there on was covered by one of them.
pub held_dropped : (col : ℕ → Entry) (add : ℕ → ℕ) (words : List ℕ) (queue : Queue) (first low from high : ℕ) → low ≤ from
    → Passed words queue.head queue.tail from first → Held col add words queue low high
    → Held col add words (headed queue first) from high
held_dropped col add words queue first low from high less passed h =
    record {
      based = omega (arith, passed.from, h.based);
      order = passed.to;
      short = h.short;
      lines = λ k l m. h.lines k (let p = passed.from in omega arith) m;
      costs = λ k l m. h.costs k (let p = passed.from in omega arith) m;
      before = λ k l m. h.before k (let p = passed.from in omega arith) m;
      reached = λ k l m. h.reached k (let p = passed.from in omega arith) m;
      covered = λ a x l m p. kept a x l (h.covered a x (omega arith) m p);
    }
  where
    kept : (a x : ℕ) → from ≤ a → Cover words queue a x → Cover words (headed queue first) a x
    kept a x l old = go (dec_le (suc old.at) first)
      where
        go : Dec (suc old.at ≤ first) → Cover words (headed queue first) a x
        go (yes p) =
            let early = passed.passed old.at old.from p in
            let later = old.later in
            absurd (omega arith)
        go (no p) = record { at = old.at; from = omega arith; to = old.to; later = old.later; cheaper = old.cheaper }

-- An entry whose words are as they were is as it was.
pub beside_line : {old new : List ℕ} {from to : ℕ} → Beside old new from to → (k : ℕ) → (k < from) ⊎ (to ≤ k)
    → line_at new k ≡ line_at old k
beside_line beside k (inl p) = beside.words (3 * k) (inl (omega arith))
beside_line beside k (inr p) = beside.words (3 * k) (inr (omega arith))

pub beside_cost : {old new : List ℕ} {from to : ℕ} → Beside old new from to → (k : ℕ) → (k < from) ⊎ (to ≤ k)
    → cost_at new k ≡ cost_at old k
beside_cost beside k (inl p) =
    let low = beside.words (3 * k + 1) (inl (omega arith)) in
    let high = beside.words (3 * k + 2) (inl (omega arith)) in
    omega arith
beside_cost beside k (inr p) =
    let low = beside.words (3 * k + 1) (inr (omega arith)) in
    let high = beside.words (3 * k + 2) (inr (omega arith)) in
    omega arith

-- A queue whose words are as they were holds what it held.
pub held_beside : (col : ℕ → Entry) (add : ℕ → ℕ) (old new : List ℕ) (queue : Queue) (low high from to : ℕ) → Beside old new from to
    → (queue.base + high ≤ from) ⊎ (to ≤ queue.base) → Held col add old queue low high → Held col add new queue low high
held_beside col add old new queue low high from to beside apart h =
    record {
      based = h.based;
      order = h.order;
      short = h.short;
      lines = λ k l m.
          let one = line k l (omega arith) in
          let two = line (suc k) (omega arith) m in
          let rise = h.lines k l m in
          omega arith;
      costs = λ k l m.
          let one = cost k l (omega arith) in
          let two = cost (suc k) (omega arith) m in
          let rise = h.costs k l m in
          omega arith;
      before = λ k l m. let one = line k l m in let b = h.before k l m in omega arith;
      reached = λ k l m. rw (line k l m, cost k l m) (h.reached k l m);
      covered = λ a x l m p.
          let k = h.covered a x l m p in
          let one = line k.at k.from k.to in
          let two = cost k.at k.from k.to in
          record {
            at = k.at;
            from = k.from;
            to = k.to;
            later = omega (arith, k.later);
            cheaper = omega (arith, k.cheaper);
          };
    }
  where
    out : (k : ℕ) → queue.head ≤ k → k < queue.tail → (queue.base + high ≤ from) ⊎ (to ≤ queue.base)
        → (k < from) ⊎ (to ≤ k)
    out k l m (inl p) = inl (omega (arith, h.short))
    out k l m (inr p) = inr (omega (arith, h.based))

    line : (k : ℕ) → queue.head ≤ k → k < queue.tail → line_at new k ≡ line_at old k
    line k l m = beside_line beside k (out k l m apart)

    cost : (k : ℕ) → queue.head ≤ k → k < queue.tail → cost_at new k ≡ cost_at old k
    cost k l m = beside_cost beside k (out k l m apart)
