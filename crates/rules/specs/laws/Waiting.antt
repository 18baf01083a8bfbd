-- The walk over the floats that wait: how each of its steps goes on, and that where citations never decrease it finds what
-- waits, each float once, and nothing else.
use Prim.Native.Nat.{ℕ, zero, suc, ◌+◌, ◌-◌, ◌≤◌, ◌<◌}
use Rattle.std.proofs.Math.Decide.{ℕ_discrete}
use native.Mathlib.Omega.{arith}
use Rattle.std.specs.Prelude.{◌≡◌, Bool, ◌&&◌, [], ◌∷◌, ltb}
use Rattle.std.proofs.Math.Path.{refl, ap}
use Rattle.std.proofs.Common.{sym, ◌∙◌}
use Rattle.std.proofs.Math.Bool.{true, false}
use Rattle.std.proofs.Math.ListN.{length}
use Rattle.std.proofs.Math.Dec.{leb, eqb}
use borrow.Author.Tests.{leb-true, leb-false, le-leb, lt-leb, lt-ltb, le-ltb, eq-eqb, ne_eqb, eqb-true}
use Rattle.model.specs.Gather.{pick, one, sum, times}
use Rattle.model.specs.Galley.{Stream}
use Rattle.model.proofs.laws.Gather.{sum_ext, sum_zero, sum_split}
use Rattle.rules.specs.Waiting.{waiting_from, waiting_floats, waits, EachOnce}

-- No line cites a float before the line that cites an earlier one.
abbrev pub Ordered : Stream → Type 0
Ordered st = (j k : ℕ) → 1 ≤ j → j ≤ k → k ≤ st.size → st.cite j ≤ st.cite k

module _ (st : Stream) (i : ℕ) where
  -- A float that line i or an earlier one cites is found, and the walk goes on after it.
  pub waits_more : (p : ℕ) → p < st.size → st.cite (p + 1) ≤ i → waits st i p ≡ suc (waits st i (p + 1))
  unfolding waiting_floats waiting_from
  waits_more p l h =
      let n : st.size - p ≡ suc (st.size - (p + 1)) = omega arith in
      let e : p + 1 ≡ suc p = omega arith in
      let t : leb (st.cite (suc p)) i ≡ true = le-leb (st.cite (suc p)) i (rw e at h) in
      rw (n, t, e)

  -- The first that a later line cites ends the walk,
  pub waits_stop : (p : ℕ) → p < st.size → i < st.cite (p + 1) → waits st i p ≡ 0
  unfolding waiting_floats waiting_from
  waits_stop p l h =
      let n : st.size - p ≡ suc (st.size - (p + 1)) = omega arith in
      let e : p + 1 ≡ suc p = omega arith in
      let t : leb (st.cite (suc p)) i ≡ false = lt-leb (st.cite (suc p)) i (rw e at h) in
      rw (n, t)

  -- and so does the end of the stream.
  pub waits_end : (p : ℕ) → st.size ≤ p → waits st i p ≡ 0
  unfolding waiting_floats waiting_from
  waits_end p l = let n : st.size - p ≡ 0 = omega arith in rw n

  -- Floats known to be cited need not be walked over again.
  pub waits_known : (j known : ℕ) → j + known ≤ st.size → ((k : ℕ) → j < k → k ≤ j + known → st.cite k ≤ i)
      → known + waits st i (j + known) ≡ waits st i j
  waits_known j zero l h = let e : j + 0 ≡ j = omega arith in rw e (omega arith)
  waits_known j (suc known) l h =
      let below = waits_known j known (omega arith) (λ k p q. h k p (omega arith)) in
      let e : j + suc known ≡ j + known + 1 = omega arith in
      let more = waits_more (j + known) (omega arith) (h (j + known + 1) (omega arith) (omega arith)) in
      rw e (omega arith)

  few_from : (left p : ℕ) → length (waiting_from st i left p) ≤ left
  unfolding waiting_from
  few_from zero p = omega arith
  few_from (suc left) p = go (leb (st.cite (suc p)) i) (few_from left (suc p))
    where
      go : (b : Bool) → length (waiting_from st i left (suc p)) ≤ left
          → length (pick b (suc p ∷ waiting_from st i left (suc p)) []) ≤ suc left
      go true below = omega arith
      go false below = omega arith

  -- No more wait than are left,
  pub waits_few : (j : ℕ) → waits st i j ≤ st.size - j
  unfolding waiting_floats
  waits_few j = few_from (st.size - j) j

  cited_from_lem : (left p k : ℕ) → p < k → k ≤ p + length (waiting_from st i left p) → st.cite k ≤ i
  unfolding waiting_from
  cited_from_lem zero p k l h = absurd (omega arith)
  cited_from_lem (suc left) p k l h = go (leb (st.cite (suc p)) i) refl h (cited_from_lem left (suc p) k)
    where
      go : (b : Bool) → leb (st.cite (suc p)) i ≡ b → k ≤ p + length (pick b (suc p ∷ waiting_from st i left (suc p)) [])
          → (suc p < k → k ≤ suc p + length (waiting_from st i left (suc p)) → st.cite k ≤ i) → st.cite k ≤ i
      go true t h below = first (ℕ_discrete (suc p) k)
        where
          first : Dec (suc p ≡ k) → st.cite k ≤ i
          first (yes e) = rw (sym e) (leb-true (st.cite (suc p)) i t)
          first (no n) = below (omega arith) (omega arith)
      go false t h below = absurd (omega arith)

  -- and each of them is cited.
  pub waits_cited : (j k : ℕ) → j < k → k ≤ j + waits st i j → st.cite k ≤ i
  unfolding waiting_floats
  waits_cited j k = cited_from_lem (st.size - j) j k

  passed_from : (left p k : ℕ) → k ≤ p → times k (waiting_from st i left p) ≡ 0
  unfolding waiting_from times
  passed_from zero p k l = refl
  passed_from (suc left) p k l = go (leb (st.cite (suc p)) i) (passed_from left (suc p) k (omega arith))
    where
      go : (b : Bool) → times k (waiting_from st i left (suc p)) ≡ 0
          → times k (pick b (suc p ∷ waiting_from st i left (suc p)) []) ≡ 0
      go true below = let n = ne_eqb (suc p) k (λ e. omega arith) in rw n below
      go false below = refl

  other_from : (left p k : ℕ) → p + left ≤ st.size → 1 ≤ times k (waiting_from st i left p)
      → (p < k) × (k ≤ st.size) × (st.cite k ≤ i)
  unfolding waiting_from times
  other_from zero p k l h = absurd (omega arith)
  other_from (suc left) p k l h = go (leb (st.cite (suc p)) i) refl h (other_from left (suc p) k (omega arith))
    where
      go : (b : Bool) → leb (st.cite (suc p)) i ≡ b → 1 ≤ times k (pick b (suc p ∷ waiting_from st i left (suc p)) [])
          → (1 ≤ times k (waiting_from st i left (suc p)) → (suc p < k) × (k ≤ st.size) × (st.cite k ≤ i))
          → (p < k) × (k ≤ st.size) × (st.cite k ≤ i)
      go true t h below = first (eqb (suc p) k) refl h
        where
          first : (b : Bool) → eqb (suc p) k ≡ b
              → 1 ≤ pick b (suc (times k (waiting_from st i left (suc p)))) (times k (waiting_from st i left (suc p)))
              → (p < k) × (k ≤ st.size) × (st.cite k ≤ i)
          first true e h =
              let same = eqb-true (suc p) k e in
              (omega arith, omega arith, rw (sym same) (leb-true (st.cite (suc p)) i t))
          first false e h = let r = below h in let after = r.0 in (omega arith, r.1, r.2)
      go false t h below = absurd (omega arith)

  module _ (order : Ordered st) where
    each_from : (left p k : ℕ) → p + left ≡ st.size → p < k → k ≤ st.size → st.cite k ≤ i
        → times k (waiting_from st i left p) ≡ 1
    unfolding waiting_from times
    each_from zero p k l h top c = absurd (omega arith)
    each_from (suc left) p k l h top c =
        let up = order (suc p) k (omega arith) (omega arith) top in
        let t = le-leb (st.cite (suc p)) i (omega arith) in
        rw t (go (ℕ_discrete (suc p) k) (λ n. each_from left (suc p) k (omega arith) n top c))
      where
        go : Dec (suc p ≡ k) → (suc p < k → times k (waiting_from st i left (suc p)) ≡ 1)
            → times k (suc p ∷ waiting_from st i left (suc p)) ≡ 1
        go (yes e) below =
            let same = eq-eqb (suc p) k e in
            let once = passed_from left (suc p) k (omega arith) in
            rw (same, once)
        go (no n) below = let differ = ne_eqb (suc p) k n in rw differ (below (omega arith))

    -- The walk finds what waits, each float once, and nothing else.
    pub each_once : (j : ℕ) → j ≤ st.size → EachOnce st i j (waiting_floats st i j)
    unfolding waiting_floats
    each_once j l =
        record {
          each = λ k. each_from (st.size - j) j k (omega arith);
          other = λ k. other_from (st.size - j) j k (omega arith);
        }

    module _ (j : ℕ) where
      -- Float k waits: it is past j, and line i or an earlier one cites it.
      past : ℕ → ℕ
      past k = one (ltb j k && leb (st.cite k) i)

      none : (n : ℕ) → n ≤ j → sum n past ≡ 0
      unfolding past
      none n l = sum_ext n past (λ k. 0) (λ k p q. let f = le-ltb j k (omega arith) in rw f) ∙ sum_zero n

      later : (p d : ℕ) → i < st.cite (suc p) → p + d ≤ st.size → sum (p + d) past ≡ sum p past
      unfolding past
      later p d c l =
          let rest = sum_ext d (λ k. past (p + k)) (λ k. 0) uncited ∙ sum_zero d in
          let split = sum_split p d past in
          omega arith
        where
          uncited : (k : ℕ) → 1 ≤ k → k ≤ d → past (p + k) ≡ 0
          uncited k h q =
              let up = order (suc p) (p + k) (omega arith) (omega arith) (omega arith) in
              go (ltb j (p + k)) (lt-leb (st.cite (p + k)) i (omega arith))
            where
              go : (b : Bool) → leb (st.cite (p + k)) i ≡ false → one (b && leb (st.cite (p + k)) i) ≡ 0
              go true e = rw e
              go false e = refl

      sum_from : (left p : ℕ) → j ≤ p → p + left ≡ st.size → sum (p + left) past ≡ sum p past + length (waiting_from st i left p)
      unfolding waiting_from sum past
      sum_from zero p h l = let e : p + 0 ≡ p = omega arith in rw e (omega arith)
      sum_from (suc left) p h l = go (leb (st.cite (suc p)) i) refl (sum_from left (suc p) (omega arith) (omega arith))
        where
          e : p + suc left ≡ suc p + left
          e = omega arith

          go : (b : Bool) → leb (st.cite (suc p)) i ≡ b
              → sum (suc p + left) past ≡ sum (suc p) past + length (waiting_from st i left (suc p))
              → sum (p + suc left) past ≡ sum p past + length (pick b (suc p ∷ waiting_from st i left (suc p)) [])
          go true t below =
              let above = lt-ltb j (suc p) (omega arith) in
              let here : past (suc p) ≡ 1 = rw (above, t) in
              let whole = ap (λ n. sum n past) e in
              omega arith
          go false t below =
              let same = later p (suc left) (leb-false (st.cite (suc p)) i t) (omega arith) in
              omega arith

      -- So many floats wait as the walk finds.
      pub sum_past : sum st.size (λ k. one (ltb j k && leb (st.cite k) i)) ≡ waits st i j
      unfolding waiting_floats past
      sum_past = go (ℕ_discrete (st.size - j) 0)
        where
          go : Dec (st.size - j ≡ 0) → sum st.size past ≡ length (waiting_from st i (st.size - j) j)
          go (yes e) =
              let nothing = none st.size (omega arith) in
              let empty = few_from (st.size - j) j in
              omega arith
          go (no n) =
              let e : j + (st.size - j) ≡ st.size = omega arith in
              let whole = ap (λ n. sum n past) e in
              let nothing = none j (omega arith) in
              let found = sum_from (st.size - j) j (omega arith) e in
              omega arith
