-- The copying, word by word.
use Rattle.std.specs.Prelude.{ℕ, suc, ◌+◌, ◌<◌, ◌≡◌, refl, List, ◌++◌, get_or, set, take, drop}
use Rattle.std.proofs.Common.{zero-add, add-one, arith, ◌∙◌, length-set}
use Rattle.std.proofs.Math.Seq.{paste-suc}
use Rattle.layouts.specs.Words.{Room, Copied}

module _ (from : List ℕ) (count : ℕ) (into : List ℕ) where
  -- Before the first turn the words are as they were.
  pub copy_starts : Room from count into → Copied from count into into 0
  copy_starts fits = record { fits = fits; some = omega arith; done = refl; long = refl }

  -- A turn copies one word more.
  pub copy_goes_on : {into' : List ℕ} {i : ℕ} → Copied from count into into' i → i < count
      → Copied from count into (set into' i (get_or from i 0)) (i + 1)
  copy_goes_on {into'} {i} so_far more =
      let there = so_far.fits.there in
      let room = so_far.fits.room in
      let turn : set (take i from ++ drop i into) i (get_or from i 0) ≡ take (suc i) from ++ drop (suc i) into =
      simp zero-add at (paste-suc into 0 from i 0 (omega arith) (omega arith)) in
      record {
        fits = so_far.fits;
        some = omega arith;
        done = rw (so_far.done, add-one i) turn;
        long = length-set into' i (get_or from i 0) ∙ so_far.long;
      }
