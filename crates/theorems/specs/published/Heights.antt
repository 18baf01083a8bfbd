-- The height of a page is the same whether its blocks are found by their page or by the counts before and after it.
use Prim.Native.Nat.{ℕ, suc, pred, ◌+◌, ◌-◌, ◌*◌, ◌≤◌, ◌<◌}
use native.Mathlib.Omega.{arith}
use Rattle.std.specs.Prelude.{◌≡◌, ◌↔◌, Bool, ◌&&◌, eqb}
use Rattle.std.proofs.Math.Path.{refl, ap, ap₂}
use Rattle.std.proofs.Common.{◌∙◌}
use Rattle.std.proofs.Math.Bool.{true, false}
use Rattle.std.proofs.Math.Dec.{ltb}
use borrow.Author.Tests.{ltb-true, ltb-false, lt-ltb, le-ltb}
use Rattle.model.specs.Gather.{one}
use Rattle.model.specs.Galley.{Stream, Galley, Place, count}
use Rattle.model.specs.Height.{has, kinds, stacked, height}
use Rattle.model.specs.Pagination.{Map, stacked_on, has_on, height_on}
use Rattle.model.proofs.laws.Gather.{total_ext, and_left, and_right, and_both}
use Rattle.theorems.specs.published.Fits.{Fits, sum_window, count_window, fits_page}

-- u is the place after page q of the map: of each stream it counts the blocks on page q or earlier.
abbrev pub After : Galley → Map → ℕ → Place → Type 0
After g P q u = (s : ℕ) → s ≤ g.floats → Fits (g.stream s).size q (count u s) (P s)

module _ (st : Stream) {q a b : ℕ} {P : ℕ → ℕ} (F : Fits st.size q a P) (G : Fits st.size (suc q) b P) where
  on : ℕ → Bool
  on k = eqb (P k) (suc q)

  stacked_on_lem : (gap : ℕ → ℕ) → stacked_on st gap P (suc q) ≡ stacked st gap a b
  unfolding stacked_on stacked on
  stacked_on_lem gap =
      let top = G.top in
      ap₂ ◌+◌ (sum_window st.size a b on st.ht top (fits_page F G))
      (sum_window (pred st.size) a (pred b) (λ k. on k && on (suc k)) gap (omega arith) neighbours)
    where
      neighbours : (k : ℕ) → 1 ≤ k → k ≤ pred st.size → (on k && on (suc k) ≡ true) ↔ ((a < k) × (k ≤ pred b))
      neighbours k i j =
          let here = fits_page F G k i (omega arith) in
          let next = fits_page F G (suc k) (omega arith) (omega arith) in (
            λ t.
                let x = here.0 (and_left (on k) (on (suc k)) t) in
                let y = next.0 (and_right (on k) (on (suc k)) t) in
                omega arith,
            λ r. and_both (here.1 (omega arith)) (next.1 (omega arith)),
          )

  has_on_lem : has_on st P (suc q) ≡ ltb a b
  unfolding has_on on
  has_on_lem = ap (ltb 0) (count_window st.size a b on G.top (fits_page F G)) ∙ go (ltb a b) refl
    where
      go : (t : Bool) → ltb a b ≡ t → ltb 0 (b - a) ≡ t
      go true e = let l = ltb-true a b e in lt-ltb 0 (b - a) (omega arith)
      go false e = let l = ltb-false a b e in le-ltb 0 (b - a) (omega arith)

-- Page q + 1 of the map is as high as the page from u to v.
pub height_on_lem : (g : Galley) (gap : Stream → ℕ → ℕ) (separation : ℕ) (P : Map) (q : ℕ) (u v : Place)
    → After g P q u → After g P (suc q) v → height_on g gap separation P (suc q) ≡ height g gap separation u v
unfolding height_on height kinds has
height_on_lem g gap separation P q u v F G =
    ap₂ (λ x n. x + pred n * separation)
    (total_ext g.floats _ _ (λ s p. stacked_on_lem (g.stream s) (F s p) (G s p) (gap (g.stream s))))
    (total_ext g.floats _ _ (λ s p. ap one (has_on_lem (g.stream s) (F s p) (G s p))))
