-- The windows of the lines: kept by what is stored elsewhere, and never falling.
use Rattle.std.specs.Prelude.{ℕ, ◌+◌, ◌*◌, ◌≤◌, ◌<◌, ◌≡◌, ◌⊎◌, List, length, get_or}
use Rattle.std.proofs.Common.{le_refl, arith, sym, ap, subst, ◌∙◌, inl, inr}
use Rattle.std.proofs.Math.Decide.{dec_le}
use Rattle.model.specs.Galley.{Stream}
use Rattle.window.specs.declared.slide.Load.{Load}
use Rattle.window.specs.declared.slide.Window.{Window}
use Rattle.window.specs.Slide.{Tall, Full, Enough, Ends, Open}
use Rattle.window.specs.Slide.{Rises}
use Rattle.window.specs.Rows.{pushed, Beside}
use Rattle.window.specs.Windows.{window_at, Kept}
use Rattle.window.specs.laws.Rows.{pushed_own}

-- A window that is stored as its line's entry is kept.
pub window_stored : (words : List ℕ) (i : ℕ) (window : Window) → 3 * (i + 8000) + 3 ≤ length words
    → window_at (pushed words (i + 8000) window.low window.split window.high) i ≡ window
window_stored words i window room =
    let at : 3 * (i + 8000) ≡ 3 * (i + 8000) + 0 = omega arith in
    let stored = pushed words (i + 8000) window.low window.split window.high in
    let low = ap (λ n. get_or stored n 0) at ∙ pushed_own words (i + 8000) window.low window.split window.high 0 (omega arith) room in
    let split = pushed_own words (i + 8000) window.low window.split window.high 1 (omega arith) room in
    let high = pushed_own words (i + 8000) window.low window.split window.high 2 (omega arith) room in
    rw (low, split, high)

-- A window whose entry is not among those stored is as it was.
pub window_beside : {old new : List ℕ} {from to : ℕ} → Beside old new from to → (i : ℕ) → (i + 8000 < from) ⊎ (to ≤ i + 8000)
    → window_at new i ≡ window_at old i
window_beside {old} {new} {from} {to} beside i apart =
    let low = beside.words (3 * (i + 8000)) (out 0 apart (omega arith) (omega arith)) in
    let split = beside.words (3 * (i + 8000) + 1) (out 1 apart (omega arith) (omega arith)) in
    let high = beside.words (3 * (i + 8000) + 2) (out 2 apart (omega arith) (omega arith)) in
    cc
  where
    out : (d : ℕ) {n : ℕ} → (i + 8000 < from) ⊎ (to ≤ i + 8000) → n ≡ 3 * (i + 8000) + d → d < 3 → (n < 3 * from) ⊎ (3 * to ≤ n)
    out d (inl p) e l = inl (omega arith)
    out d (inr p) e l = inr (omega arith)

-- So are the windows of the lines of P.
pub kept_beside : {st : Stream} {load : Load} {P : ℕ → Type 0} {old new : List ℕ} {from to : ℕ} → Beside old new from to
    → ((i : ℕ) → P i → (i + 8000 < from) ⊎ (to ≤ i + 8000)) → Kept st load old P → Kept st load new P
kept_beside {st} {load} beside apart kept i p =
    subst (λ (window : Window). Open st load window i) (sym (window_beside beside i (apart i p))) (kept i p)

-- An end before which all from a first line on reach the limit is not past one from which on none does.
end_rises : (P : ℕ → ℕ → Type 0) (first old new i : ℕ) → old ≤ i → first ≤ new → ((a e : ℕ) → first ≤ a → a < old → i ≤ e → P a e)
    → ((a : ℕ) → new ≤ a → a < i → P a i → ⊥) → old ≤ new
end_rises P first old new i within since passed opened = go (dec_le old new)
  where
    go : Dec (old ≤ new) → old ≤ new
    go (yes l) = l
    go (no l) = absurd (opened new (le_refl new) (omega arith) (passed new i since (omega arith) (le_refl i)))

-- The ends of a line's window are not before those that the line started from.
pub ends_rise : (st : Stream) (load : Load) (old new : Window) (i : ℕ) → Ends st load old i → Open st load new i → Rises old new
ends_rise st load old new i ends opened =
    let since = opened.ends.since in
    record {
      low = end_rises (Tall st load) load.first old.low new.low i ends.low since.low ends.passed opened.fits;
      split = end_rises (Full st load) load.first old.split new.split i ends.split since.split ends.whole opened.white;
      high = end_rises (Enough st load) load.first old.high new.high i ends.high since.high ends.filled opened.short;
    }
