-- What putting a block on does to heights: they are those of the page model with one block more.
use Rattle.std.specs.Prelude.{ℕ, ◌+◌, ◌-◌, ◌*◌, ◌≤◌, ◌<◌, ◌≡◌, Bool, List, ltb}
use Rattle.std.proofs.Common.{mul-le-mul, ◌∙◌}
use native.Mathlib.Omega.{arith}
use Rattle.std.proofs.Math.Path.{refl, sym}
use Rattle.std.proofs.Math.Bool.{true, false}
use Rattle.std.proofs.Math.Dec.{leb}
use borrow.Author.Tests.{leb-true, leb-false, ltb-true}
use Rattle.model.specs.Gather.{pick}
use Rattle.model.specs.Galley as model
use Rattle.model.specs.Height.{stacked}
use Rattle.galley.specs.declared.Spec.{Spec}
use Rattle.galley.specs.declared.Stream.{Stream}
use Rattle.galley.specs.Model.{stream_of}
use Rattle.galley.specs.Record.{least_at, most_at}
use Rattle.galley.specs.Block.{field_of}
use Rattle.galley.specs.Sound.{SoundStream}
use Rattle.blocks.specs.declared.heights.Heights.{Heights}
use Rattle.blocks.specs.Heights.{no_heights, Separable, added, put_on, with_block, block_before, Room, Stacked}
use Rattle.blocks.specs.laws.Stacked.{stacked_none, stacked_next, stacked_front, stacked_low}

-- Few separations within document 01's limit are small.
pub record Apart (spec : Spec) (n : ℕ) : Type 0 where
  pub tight : n * spec.smin ≤ 300000
  pub loose : n * spec.smax ≤ 300000

pub separated_low : {spec : Spec} {n : ℕ} {h : Heights} → Separable spec n h → Apart spec n
separated_low s = record { tight = mul-le-mul s.few s.smin; loose = mul-le-mul s.few s.smax }

-- No block, no height.
pub stacked_nothing : (st : model.Stream) (a b : ℕ) → b ≤ a → Stacked st a b no_heights
stacked_nothing st a b h =
    record { tight = sym (stacked_none st st.least a b h); loose = sym (stacked_none st st.most a b h) }

module _ (bytes : List ℕ) (stream : Stream) (sound : SoundStream bytes stream) where
  -- What a block adds is at most twice document 01's limit.
  added_low : (at : ℕ) → ((k : ℕ) → 1 ≤ k → k ≤ stream.count → field_of bytes stream at k ≤ 100000) → (k gap : ℕ) (spaced : Bool)
      → 1 ≤ k → k ≤ stream.count → (spaced ≡ true → (1 ≤ gap) × (gap ≤ stream.count)) → added bytes stream at k gap spaced ≤ 200000
  unfolding added
  added_low at low k gap true some within space =
      let here = (sound.ranged k some within).heights in
      let s = space refl in
      let there = low gap s.0 s.1 in
      omega arith
  added_low at low k gap false some within space = let here = (sound.ranged k some within).heights in omega arith

  -- The heights with a block more are at most that much higher.
  put_low : (h : Heights) (k gap : ℕ) (spaced : Bool) → 1 ≤ k → k ≤ stream.count
      → (spaced ≡ true → (1 ≤ gap) × (gap ≤ stream.count))
      → ((put_on bytes stream h k gap spaced).tight ≤ h.tight + 200000) × ((put_on bytes stream h k gap spaced).loose ≤ h.loose + 200000)
  unfolding put_on
  put_low h k gap spaced some within space =
      let tight =
      added_low least_at (λ k p q. let r = sound.ranged k p q in omega (arith, r.leasts, r.mosts)) k gap spaced some within space in
      let loose = added_low most_at (λ k p q. (sound.ranged k p q).mosts) k gap spaced some within space in
      (omega arith, omega arith)

-- From heights with blocks a + 1 to k of a stream to heights with block k + 1 too, and how much higher these can be.
pub record Grown (st : model.Stream) (a k : ℕ) (h more : Heights) : Type 0 where
  pub tight : more.tight + stacked st st.least a k ≡ h.tight + stacked st st.least a (k + 1)
  pub loose : more.loose + stacked st st.most a k ≡ h.loose + stacked st st.most a (k + 1)
  pub tight_most : more.tight ≤ h.tight + 200000
  pub loose_most : more.loose ≤ h.loose + 200000

-- Going forward by one block.
pub with_grown : (bytes : List ℕ) (stream : Stream) {legal : ℕ → Bool} {cite : ℕ → ℕ} → SoundStream bytes stream
    → (a k : ℕ) (h : Heights) → a ≤ k → k < stream.count
    → Grown (stream_of bytes stream legal cite) a k h (with_block bytes stream h a k)
unfolding put_on added
with_grown bytes stream {legal} {cite} sound a k h up within =
    let st = stream_of bytes stream legal cite in
    let tight = stacked_next st st.least a k up in
    let loose = stacked_next st st.most a k up in
    let low =
    put_low bytes stream sound h (k + 1) k (ltb a k) (omega arith) (omega arith)
    (λ t. let l = ltb-true a k t in (omega arith, omega arith)) in
    record { tight = omega arith; loose = omega arith; tight_most = low.0; loose_most = low.1 }

-- Heights at least and at greatest spaces are no more than a number.
pub record Low (most : ℕ) (h : Heights) : Type 0 where
  pub tight : h.tight ≤ most
  pub loose : h.loose ≤ most

module _ (bytes : List ℕ) (stream : Stream) {legal : ℕ → Bool} {cite : ℕ → ℕ} (a b : ℕ) (h : Heights) where
  -- Going back from heights of blocks a + 2 to b, those of blocks a + 1 to b are reached.
  before_stacked : Stacked (stream_of bytes stream legal cite) (a + 1) b h
      → Stacked (stream_of bytes stream legal cite) a b (block_before bytes stream h a b)
  unfolding put_on added
  before_stacked s = go (leb b a) refl
    where
      go : (t : Bool) → leb b a ≡ t
          → Stacked (stream_of bytes stream legal cite) a b (pick t h (put_on bytes stream h (a + 1) (a + 1) (ltb (a + 1) b)))
      go true e =
          let l = leb-true b a e in
          let st = stream_of bytes stream legal cite in
          record {
            tight = s.tight ∙ stacked_none st st.least (a + 1) b (omega arith) ∙ sym (stacked_none st st.least a b l);
            loose = s.loose ∙ stacked_none st st.most (a + 1) b (omega arith) ∙ sym (stacked_none st st.most a b l);
          }
      go false e =
          let l = leb-false b a e in
          let st = stream_of bytes stream legal cite in
          let t = s.tight in
          let o = s.loose in
          let tight = stacked_front st st.least a b l in
          let loose = stacked_front st st.most a b l in
          record { tight = omega arith; loose = omega arith }

  -- The heights of a stream's blocks are small where it keeps to the limit.
  pub stacked_small : SoundStream bytes stream → b ≤ stream.count → Stacked (stream_of bytes stream legal cite) a b h
      → Low (stream.count * 200000) h
  stacked_small sound m s =
      let st = stream_of bytes stream legal cite in
      let t = s.tight in
      let l = s.loose in
      let tight =
      stacked_low st st.least stream.count (λ k p q. (sound.ranged k p q).heights)
      (λ k p q. let r = sound.ranged k p q in omega (arith, r.leasts, r.mosts)) a b m in
      let loose =
      stacked_low st st.most stream.count (λ k p q. (sound.ranged k p q).heights) (λ k p q. (sound.ranged k p q).mosts) a b m in
      record { tight = omega arith; loose = omega arith }

  -- So there is room for one block more.
  pub stacked_room : SoundStream bytes stream → stream.count ≤ 4000 → b ≤ stream.count
      → Stacked (stream_of bytes stream legal cite) a b h → Room bytes stream h b
  stacked_room sound few m s =
      let low = stacked_small sound m s in
      record { sound = sound; within = m; tight = omega arith; loose = omega arith }

-- One step back in a search: from the heights of the blocks after `top` to those of one block more.
pub back_stacked : (bytes : List ℕ) (stream : Stream) {legal : ℕ → Bool} {cite : ℕ → ℕ} (top b : ℕ) (h back : Heights) → 0 < top
    → back ≡ block_before bytes stream h (top - 1) b → Stacked (stream_of bytes stream legal cite) top b h
    → Stacked (stream_of bytes stream legal cite) (top - 1) b back
back_stacked bytes stream top b h back some put s =
    let next : top ≡ top - 1 + 1 = omega arith in
    rw put (before_stacked bytes stream (top - 1) b h (rw next at s))
