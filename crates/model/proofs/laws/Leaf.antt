-- Laws of leaves: the next page lies on the same leaf, or on the next where the page ends its own.
use Rattle.std.specs.Prelude.{ℕ, suc, ◌+◌, ◌-◌, ◌/◌, ◌%◌, ◌≤◌, ◌<◌, ◌≡◌, refl, Bool, true, false, eqb}
use Rattle.std.proofs.Math.Decide.{ℕ_discrete}
use Rattle.std.proofs.Common.{arith, sym, ◌∙◌, ap, eqb-true, eq-eqb, ne_eqb}
use Rattle.std.proofs.lemmas.Bool.{eqb-false}
use Rattle.model.specs.Gather.{one}
use Rattle.model.specs.Galley.{Sides, single, double}
use Rattle.model.specs.Leaf.{folio_of, leaf, ends}

-- Everything about leaves rests on this one law.
pub leaf_next : (sides : Sides) (q : ℕ) → leaf sides (suc q) ≡ leaf sides q + one (ends sides q)
unfolding leaf ends
leaf_next single q = omega arith
leaf_next (double f) q = go (eqb (folio_of f q % 2) 1) refl
  where
    go : (b : Bool) → eqb (folio_of f q % 2) 1 ≡ b → folio_of f (suc q) / 2 + 1 ≡ folio_of f q / 2 + 1 + one b
    go true e = let o = eqb-true (folio_of f q % 2) 1 e in omega arith
    go false e = let o = eqb-false (folio_of f q % 2) 1 e in omega arith

-- Whether a page ends its leaf follows from the parity of its number, which is its side of the sheet.
pub ends_parity : (sides : Sides) (q : ℕ) → ends sides (q % 2) ≡ ends sides q
unfolding ends
ends_parity single q = refl
ends_parity (double f) q =
    let e : folio_of f (q % 2) % 2 ≡ folio_of f q % 2 = omega arith in
    ap (λ r. eqb r 1) e

-- Right-hand pages have numbers as odd as the first folio.
pub ends_folio : (f q : ℕ) → 1 ≤ f → ends (double f) q ≡ eqb (q % 2) (f % 2)
unfolding ends
ends_folio f q some = go (ℕ_discrete (q % 2) (f % 2))
  where
    go : Dec (q % 2 ≡ f % 2) → eqb (folio_of f q % 2) 1 ≡ eqb (q % 2) (f % 2)
    go (yes e) = eq-eqb (folio_of f q % 2) 1 (omega arith) ∙ sym (eq-eqb _ _ e)
    go (no n) = ne_eqb (folio_of f q % 2) 1 (λ e. n (omega arith)) ∙ sym (ne_eqb _ _ n)

-- A later page lies on no earlier leaf.
pub leaf_mono : (sides : Sides) (q r : ℕ) → q ≤ r → leaf sides q ≤ leaf sides r
unfolding leaf
leaf_mono single q r h = h
leaf_mono (double f) q r h = omega arith

-- The pages after one that ends its leaf lie on later leaves.
pub leaf_after : (sides : Sides) (q r : ℕ) → ends sides q ≡ true → q < r → leaf sides q < leaf sides r
unfolding leaf ends
leaf_after single q r e h = h
leaf_after (double f) q r e h = let o = eqb-true (folio_of f q % 2) 1 e in omega arith

-- Y of document 01, p − 1 in single-sided work, and of document 02, S-1, in double-sided work: p DIV 2 from an odd first folio,
-- (p − 1) DIV 2 from an even one.
pub leaves_single : (p : ℕ) → leaf single p - leaf single 1 ≡ p - 1
unfolding leaf
leaves_single p = refl

pub leaves_double : (f p : ℕ) → 1 ≤ f → leaf (double f) p - leaf (double f) 1 ≡ (p - 1 + f % 2) / 2
unfolding leaf
leaves_double f p some = omega arith
