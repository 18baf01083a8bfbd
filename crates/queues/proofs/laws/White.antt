-- The white of a window's pages: nothing before the split, and after it what the page lacks, which differs from line to line by the height
-- up to the line. So the front of each queue, the second with its page's white in place of that height, is the best start of its part.
use Rattle.std.specs.Prelude.{ℕ, ◌+◌, ◌-◌, ◌≤◌, ◌<◌, ◌≡◌, refl, true, false, List, None, Some}
use Rattle.std.proofs.Common.{le_refl, sym}
use Rattle.std.proofs.Math.Decide.{dec_le}
use native.Mathlib.Omega.{arith}
use Rattle.model.specs.Galley.{Stream}
use Rattle.model.specs.Height.{stacked}
use Rattle.places.specs.declared.Place.{Place}
use Rattle.places.specs.Entry.{Entry, least}
use Rattle.places.specs.Best.{Leads, Best}
use Rattle.places.proofs.laws.Best.{least_same, no_reach, best_none, best_least}
use Rattle.window.specs.declared.slide.Load.{Load}
use Rattle.window.specs.declared.slide.Window.{Window}
use Rattle.queues.specs.declared.parts.Parts.{Parts}
use Rattle.window.specs.Sums.{Sums}
use Rattle.window.specs.Slide.{reached_of, white_of, Open}
use Rattle.queues.specs.Queue.{added_of, front_of, Lines, Payable}
use Rattle.queues.specs.Parts.{rest_from, whitened_of, Whitenable, Both, Fresh}
use Rattle.window.specs.laws.Sums.{reach_stacked}
use Rattle.queues.proofs.laws.Front.{front_best}

-- What is best with one thing added to each line is best with another, where the two differ alike from line to line.
best_shifted : {col : ℕ → Entry} {add add' : ℕ → ℕ} {low high b : ℕ} (more less : ℕ) (e f : Entry)
    → ((x : ℕ) (r : Place) → e ≡ least x r → (y : ℕ) × (f ≡ least y r) × (x + more ≡ y + less))
    → (e ≡ None → f ≡ None) → ((a : ℕ) → low ≤ a → a < high → add a + more ≡ add' a + less)
    → Best (Lines col add low high b) e → Best (Lines col add' low high b) f
unfolding Leads
best_shifted {col} {add} {add'} {low} {high} {b} more less None f some none same best =
    let n = none refl in
    rw n (best_none (λ a b' x (l, m, p, c). best.leads a b' _
    (l, m, p, record { own = c.own; start = c.start; entry = c.entry; whole = refl })))
best_shifted {col} {add} {add'} {low} {high} {b} more less (Some n) f some none same best = go (some n.cost n.start refl)
  where
    go : (y : ℕ) × (f ≡ least y n.start) × (n.cost + more ≡ y + less) → Best (Lines col add' low high b) f
    go (y, e, sum) = rw e (best_least y n.start here leads)
      where
        here : Lines col add' low high b n.start.line n.start.column y
        here =
            let (l, m, p, c) = best.may n.cost n.start refl in
            (l, m, p, record { own = c.own; start = c.start; entry = c.entry; whole = omega (arith, c.whole, same n.start.line l m, sum) })

        leads : (a b' z : ℕ) → Lines col add' low high b a b' z → Leads (least y n.start) a b' z
        leads a b' z (l, m, p, c) =
            let (h, k) = best.leads a b' (c.own + add a)
            (l, m, p, record { own = c.own; start = c.start; entry = c.entry; whole = refl }) in
            let alike = same a l m in
            let whole = c.whole in
            (omega (arith, h, alike, whole, sum), λ q. k (omega (arith, alike, whole, sum)))

-- The cost of a start, with the page's white in place of the height up to its line.
whitened_least : (e : Entry) (top reached : ℕ) → ((x : ℕ) (r : Place) → e ≡ least x r → reached ≤ x + top) → (x : ℕ) (r : Place)
    → e ≡ least x r → (y : ℕ) × (whitened_of e top reached ≡ least y r) × (x + top ≡ y + reached)
unfolding whitened_of
whitened_least None top reached enough x r q = absurd (no_reach q)
whitened_least (Some l) top reached enough x r q =
    let more = enough l.cost l.start refl in
    let (cost, start) = least_same q in
    ((x + top) - reached, rw (cost, start) refl, omega arith)

whitened_none : (e : Entry) (top reached : ℕ) → e ≡ None → whitened_of e top reached ≡ None
unfolding whitened_of
whitened_none None top reached q = refl
whitened_none (Some l) top reached q = absurd (no_reach (sym q))

-- A window of line i, and the queues of its parts.
module _ (st : Stream) (load : Load) (window : Window) (i : ℕ) (opened : Open st load window i) (order : load.htmin ≤ load.htmax)
    (m : ℕ) (sums : List ℕ) (rows : Sums st m sums) (within : i ≤ m) where
  -- The split is within the window: a full page is full enough.
  pub split_within : window.split ≤ window.high
  split_within = go (dec_le window.split window.high)
    where
      go : Dec (window.split ≤ window.high) → window.split ≤ window.high
      go (yes p) = p
      go (no p) =
          let inside = opened.ends.split in
          let most = opened.ends.whole window.high i opened.ends.since.high (omega arith) (le_refl i) in
          absurd (opened.short window.high (le_refl window.high) (omega arith) (omega arith))

  full_none : (a : ℕ) → window.low ≤ a → a < window.split → added_of sums false a + 0 ≡ white_of st load i a + 0
  unfolding added_of
  full_none a k l =
      let most = opened.ends.whole a i (omega (arith, opened.ends.since.low)) l (le_refl i) in
      omega arith

  -- How far the page reaches, and the height up to its start.
  rest_lacks : (a : ℕ) → window.split ≤ a → a < window.high
      → (added_of sums true a + load.htmax ≡ white_of st load i a + reached_of sums 1 load.loose i)
      × (reached_of sums 1 load.loose i ≤ added_of sums true a + load.htmax)
  unfolding added_of
  rest_lacks a l n = go (dec_le load.htmax (stacked st st.most a i + load.loose))
    where
      before : a < i
      before = omega (arith, opened.ends.high)

      go : Dec (load.htmax ≤ stacked st st.most a i + load.loose)
          → (added_of sums true a + load.htmax ≡ white_of st load i a + reached_of sums 1 load.loose i)
          × (reached_of sums 1 load.loose i ≤ added_of sums true a + load.htmax)
      go (yes p) = absurd (opened.white a l before p)
      go (no p) =
          let start = (rows a (omega (arith, before))).loose.spaced in
          let whole = (rows i within).loose.bare in
          let page = reach_stacked st st.most a i before in
          (omega arith, omega arith)

  module _ (col : ℕ → Entry) (words : List ℕ) (base b : ℕ) (parts : Parts) (held : Both col sums words base parts window)
      (fresh : Fresh words parts window) where
    pub full_best : Best (Lines col (white_of st load i) window.low window.split b) (front_of words parts.full b)
    full_best =
        best_shifted 0 0 (front_of words parts.full b) (front_of words parts.full b) (λ x r e. (x, e, refl)) (λ e. e)
        full_none
        (front_best col (added_of sums false) words parts.full window.low window.split b held.full fresh.full)

    rest_front : Best (Lines col (added_of sums true) (rest_from window) window.high b) (front_of words parts.rest b)
    rest_front =
        front_best col (added_of sums true) words parts.rest (rest_from window) window.high b held.rest fresh.rest

    rest_on : (a : ℕ) → rest_from window ≤ a → window.split ≤ a
    rest_on a l = omega arith

    enough : (x : ℕ) (r : Place) → front_of words parts.rest b ≡ least x r → reached_of sums 1 load.loose i ≤ x + load.htmax
    enough x r e =
        let (l, n, p, c) = rest_front.may x r e in
        omega (arith, c.whole, (rest_lacks r.line (rest_on r.line l) n).1)

    -- The white of the second front can be had,
    pub rest_whitenable : Payable col window.high → ((a : ℕ) → a < window.high → added_of sums true a ≤ 1000000000)
        → Whitenable (front_of words parts.rest b) load.htmax (reached_of sums 1 load.loose i)
    rest_whitenable costs small =
        record {
          small = λ x r e.
              let (l, n, p, c) = rest_front.may x r e in
              omega (arith, c.whole, costs r.line n c.own c.start c.entry, small r.line n);
          enough = enough;
        }

    -- and with it the front is the best of its part.
    pub rest_best :
        Best (Lines col (white_of st load i) (rest_from window) window.high b)
        (whitened_of (front_of words parts.rest b) load.htmax (reached_of sums 1 load.loose i))
    rest_best =
        best_shifted load.htmax (reached_of sums 1 load.loose i) (front_of words parts.rest b)
        (whitened_of (front_of words parts.rest b) load.htmax (reached_of sums 1 load.loose i))
        (whitened_least (front_of words parts.rest b) load.htmax (reached_of sums 1 load.loose i) enough)
        (whitened_none (front_of words parts.rest b) load.htmax (reached_of sums 1 load.loose i))
        (λ a l n. (rest_lacks a (rest_on a l) n).0)
        rest_front
