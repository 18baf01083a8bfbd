-- The copying, word by word.
use Rattle.std.specs.Prelude.{ℕ, suc, ◌+◌, ◌≤◌, ◌<◌, ◌≡◌, refl, List, ◌++◌, length, get_or, set, take, drop}
use Rattle.std.proofs.Common.{zero-add, add-one, arith, ◌∙◌, ap, length-set}
use Rattle.std.proofs.Math.Seq.{paste-suc, take-length}
use Rattle.solving.specs.Copied.{Copied}

module _ (opening list : List ℕ) where
  pub copy_starts : length opening ≤ length list → Copied opening list list 0
  copy_starts room = record { room = room; some = omega arith; done = refl; long = refl }

  pub copy_goes_on : {list' : List ℕ} {i : ℕ} → Copied opening list list' i → i < length opening
      → Copied opening list (set list' i (get_or opening i 0)) (i + 1)
  copy_goes_on {list'} {i} so_far more =
      let room = so_far.room in
      let turn : set (take i opening ++ drop i list) i (get_or opening i 0) ≡ take (suc i) opening ++ drop (suc i) list =
      simp zero-add at (paste-suc list 0 opening i 0 (omega arith) more) in
      record {
        room = room;
        some = omega arith;
        done = rw (so_far.done, add-one i) turn;
        long = length-set list' i (get_or opening i 0) ∙ so_far.long;
      }

  -- In the end the whole opening is.
  pub copy_ends : {list' : List ℕ} {i : ℕ} → Copied opening list list' i → length opening ≤ i → list' ≡ opening ++ drop (length opening) list
  copy_ends {list'} {i} so_far over =
      let e : i ≡ length opening = omega (arith, so_far.some) in
      so_far.done ∙ ap (λ k. take k opening ++ drop k list) e ∙ ap (λ l. l ++ drop (length opening) list) (take-length opening)
