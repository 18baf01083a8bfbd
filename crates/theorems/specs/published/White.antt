-- The white of a pagination's page list is that of the pagination.
use Prim.Native.Nat.{ℕ, zero, suc, pred, ◌+◌, ◌-◌, ◌≤◌}
use native.Mathlib.Omega.{arith}
use Rattle.std.specs.Prelude.{◌≡◌}
use Rattle.std.proofs.Math.Path.{refl, ap}
use Rattle.std.proofs.Common.{sym}
use Rattle.model.specs.Gather.{sum}
use Rattle.model.specs.Galley.{Galley, Block, Sane, zeros}
use Rattle.model.specs.Height.{loosest}
use Rattle.model.specs.White.{white_on, whites, white}
use Rattle.model.specs.Pagination.{Map, Pagination, height_on, place_on, list_on, white_over}
use Rattle.theorems.specs.published.Heights.{height_on_lem}
use Rattle.theorems.specs.published.OfMap.{place_after}
use Rattle.theorems.specs.published.Accepted.{place_start}

-- What page q of the map lacks of htMax at its loosest.
abbrev lacks : Galley → Map → ℕ → ℕ
lacks g P q = g.spec.htmax - height_on g (λ st. st.most) g.spec.smax P q

module _ {g : Galley} {P : Map} (order : (s k : ℕ) → Block g s k → Block g s (suc k) → P s k ≤ P s (suc k)) where
  -- The page of the list lacks as much.
  page_lacks : (q : ℕ) → white_on g (place_on g P q) (place_on g P (suc q)) ≡ lacks g P (suc q)
  unfolding white_on loosest
  page_lacks q =
      ap (λ x. g.spec.htmax - x)
      (sym (height_on_lem g (λ st. st.most) g.spec.smax P q (place_on g P q) (place_on g P (suc q)) (place_after order q)
      (place_after order (suc q))))

  -- The white of the list's pages after page q, and what the pages up to q lack, is what all but the last lack.
  list_white : (d q : ℕ)
      → whites g (place_on g P q) (list_on g P (suc d) (suc q)) + sum q (lacks g P) ≡ sum (q + d) (lacks g P)
  unfolding whites list_on sum
  list_white zero q = let e : q + 0 ≡ q = omega arith in rw e (omega arith)
  list_white (suc d) q =
      let here = page_lacks q in
      let after = list_white d (suc q) in
      let e : q + suc d ≡ suc q + d = omega arith in
      rw e (omega arith)

module _ {g : Galley} (sane : Sane g) {p : ℕ} {P : Map} (m : Pagination g p P) where
  pub white_on_lem : white g (list_on g P p 1) ≡ white_over g p P
  unfolding white white_over sum
  white_on_lem = go p refl (m.into 0 1 (let lined = sane.lined in omega arith))
    where
      go : (n : ℕ) → p ≡ n → (1 ≤ P 0 1) × (P 0 1 ≤ p)
          → whites g (zeros g) (list_on g P n 1) ≡ sum (pred n) (lacks g P)
      go zero e some = absurd (omega arith)
      go (suc d) e some =
          let all = list_white {P = P} m.order d 0 in
          let before : 0 + d ≡ pred (suc d) = omega arith in
          let same = ap (λ n. sum n (lacks g P)) before in
          rw (← place_start g sane m) (omega arith)
