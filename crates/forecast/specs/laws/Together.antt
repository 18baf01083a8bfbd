-- The run looked at grows or moves on, and in the end is as long as the longest.
use Rattle.std.specs.Prelude.{ℕ, ◌+◌, ◌-◌, ◌*◌, ◌≤◌, ◌<◌, ◌≡◌, ◌⊎◌, Bool, true, List, ltb}
use Rattle.std.proofs.Math.Decide.{dec_le}
use Rattle.std.proofs.Common.{le_refl, arith, sym, subst, inl, inr}
use Rattle.std.proofs.Math.Path.{refl}
use Rattle.model.specs.Galley as model
use Rattle.model.specs.Height.{stacked}
use Rattle.model.specs.Weighed.{together, most_together}
use Rattle.model.proofs.laws.Height.{stacked_grows}
use Rattle.model.proofs.laws.Together.{most_is}
use Rattle.galley.specs.declared.Stream.{Stream}
use Rattle.galley.specs.Record.{least_at}
use Rattle.galley.specs.Model.{stream_of}
use Rattle.galley.specs.Sound.{SoundStream}
use Rattle.blocks.specs.Heights.{added}
use Rattle.blocks.specs.laws.Stacked.{stacked_none, stacked_next, stacked_front, stacked_low}
use Rattle.forecast.specs.Together.{Stands, Longest}

module _ (st : model.Stream) (limit : ℕ) where
  -- Before the first block.
  pub longest_start : Longest st limit 0 0 0
  longest_start =
      record {
        within = omega arith;
        start = omega arith;
        high = sym (stacked_none st st.least 0 0 (le_refl 0));
        found = inl refl;
        none = λ c e up top more. absurd (omega arith);
      }

  module _ {a b height : ℕ} (run : Longest st limit a b height) (more : b < st.size) where
    -- What is longer than the run is too high with a block more, too.
    longer : (c : ℕ) → c < a → limit < stacked st st.least c (b + 1)
    longer c l =
        let start = run.start in
        let before = run.none c b (omega arith) (le_refl b) (omega arith) in
        let grows = stacked_grows st st.least c b c (b + 1) (le_refl c) (omega arith) (omega arith) in
        omega arith

    -- The run with a block more is not too high.
    pub longest_grows : (height' : ℕ) → height' ≡ stacked st st.least a (b + 1) → height' ≤ limit → Longest st limit a (b + 1) height'
    longest_grows height' is low =
        let start = run.start in
        record {
          within = omega arith;
          start = omega arith;
          high = is;
          found =
              let back : a + (b + 1 - a) ≡ b + 1 = omega arith in
              inr
              (record {
                from = a;
                within = omega arith;
                low = subst (λ e. stacked st st.least a e ≤ limit) (sym back) (subst (λ h. h ≤ limit) is low);
              });
          none = λ c e up top long. go c e up top long (dec_le e b);
        }
      where
        go : (c e : ℕ) → c ≤ e → e ≤ b + 1 → b + 1 - a < e - c → Dec (e ≤ b) → limit < stacked st st.least c e
        go c e up top long (yes l) = let start = run.start in run.none c e up l (omega arith)
        go c e up top long (no l) =
            let start = run.start in
            let last : e ≡ b + 1 = omega arith in
            rw last (longer c (omega arith))

    -- It is too high, and moves on.
    pub longest_moves : (height' : ℕ) → height' ≡ stacked st st.least (a + 1) (b + 1) → limit < stacked st st.least a (b + 1)
        → Longest st limit (a + 1) (b + 1) height'
    longest_moves height' is high =
        record {
          within = omega arith;
          start = let start = run.start in omega arith;
          high = is;
          found = found run.found;
          none = λ c e up top long. go c e up top long (dec_le e b) (dec_le a c);
        }
      where
        found : (a ≡ b) ⊎ Stands st limit (b - a) → (a + 1 ≡ b + 1) ⊎ Stands st limit (b + 1 - (a + 1))
        found (inl e) = inl (omega arith)
        found (inr s) = let same : b - a ≡ b + 1 - (a + 1) = omega arith in inr (subst (λ k. Stands st limit k) same s)

        go : (c e : ℕ) → c ≤ e → e ≤ b + 1 → b + 1 - (a + 1) < e - c → Dec (e ≤ b) → Dec (a ≤ c) → limit < stacked st st.least c e
        go c e up top long (yes l) d = run.none c e up l (omega arith)
        go c e up top long (no l) (yes m) =
            let start = run.start in
            let last : e ≡ b + 1 = omega arith in
            let first : c ≡ a = omega arith in
            rw (last, first) high
        go c e up top long (no l) (no m) = let last : e ≡ b + 1 = omega arith in rw last (longer c (omega arith))

  -- In the end it is as long as the longest.
  pub longest_most : (g : model.Galley) → g.spec.htmax ≡ limit → {a b height : ℕ} → Longest st limit a b height → b ≡ st.size
      → b - a ≡ most_together g st
  longest_most g is {a} {b} run end =
      most_is g st (b - a) (omega arith) (has run.found)
      (λ c k l h.
      let high = run.none c (c + k) (omega arith) (omega arith) (omega arith) in
      omega arith)
    where
      has : (a ≡ b) ⊎ Stands st limit (b - a)
          → (b - a ≡ 0) ⊎ ((c : ℕ) × (c + (b - a) ≤ st.size) × (stacked st st.least c (c + (b - a)) ≤ g.spec.htmax))
      has (inl e) = inl (omega arith)
      has (inr s) = inr (s.from, s.within, omega (arith, s.low))

-- A stream's heights, by its bytes.
module _ (bytes : List ℕ) (stream : Stream) where
  abbrev pub heights_of : model.Stream
  heights_of = stream_of bytes stream (λ k. true) (λ k. 0)

  -- The run is no higher than its blocks can be.
  pub run_low : SoundStream bytes stream → {limit a b height : ℕ} → Longest heights_of limit a b height → height ≤ (b - a) * 200000
  run_low sound {a = a} {b} run =
      let most =
      stacked_low heights_of heights_of.least stream.count (λ k p q. (sound.ranged k p q).heights)
      (λ k p q. omega (arith, (sound.ranged k p q).leasts, (sound.ranged k p q).mosts)) a b run.within in
      omega (arith, run.high)

  -- What a block adds at the run's end, and what is left without the run's first block.
  pub run_next : {limit a b height : ℕ} → Longest heights_of limit a b height
      → height + added bytes stream least_at (b + 1) b (ltb a b) ≡ stacked heights_of heights_of.least a (b + 1)
  unfolding added
  run_next {a = a} {b} run = omega (arith, run.high, stacked_next heights_of heights_of.least a b run.start)

  pub run_rest : (a b : ℕ) → a < b
      → stacked heights_of heights_of.least a b ≡ stacked heights_of heights_of.least (a + 1) b + added bytes stream least_at (a + 1) (a + 1) (ltb (a + 1) b)
  unfolding added
  run_rest a b l = stacked_front heights_of heights_of.least a b l

  -- The most blocks together do not hang on what else is known of the stream.
  pub most_same : (g : model.Galley) (legal : ℕ → Bool) (cite : ℕ → ℕ)
      → most_together g heights_of ≡ most_together g (stream_of bytes stream legal cite)
  unfolding most_together together stacked
  most_same g legal cite = refl
