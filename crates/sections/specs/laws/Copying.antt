-- The copying, number by number.
use Rattle.std.specs.Prelude.{ℕ, suc, ◌+◌, ◌<◌, ◌≡◌, refl, List, length, get_or, set, drop}
use Rattle.std.proofs.Common.{zero-add, add-one, arith, ◌∙◌, length-set, length-drop, get_or-drop}
use Rattle.std.proofs.Math.Seq.{paste-suc}
use Rattle.sections.specs.Copying.{overwritten, Inside, Copied}

module _ (table : List ℕ) (at count : ℕ) (words : List ℕ) where
  -- Before the first turn the words are as they were.
  pub copy_starts : Inside table at count words → Copied table at count words words 0
  copy_starts inside = record { inside = inside; some = omega arith; done = refl; long = refl }

  -- A turn copies one number more.
  pub copy_goes_on : {words' : List ℕ} {i : ℕ} → Copied table at count words words' i → i < count
      → Copied table at count words (set words' i (get_or table (at + i) 0)) (i + 1)
  copy_goes_on {words'} {i} so_far more =
      let there = so_far.inside.there in
      let room = so_far.inside.room in
      let left : i < length (drop at table) = simp length-drop (omega arith) in
      let turn : set (overwritten table at i words) i (get_or (drop at table) i 0) ≡ overwritten table at (suc i) words = simp zero-add at (paste-suc words 0 (drop at table) i 0 (omega arith) left) in
      record {
        inside = so_far.inside;
        some = omega arith;
        done = rw (so_far.done, add-one i, ← get_or-drop at table i 0) turn;
        long = length-set words' i (get_or table (at + i) 0) ∙ so_far.long;
      }
