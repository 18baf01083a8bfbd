-- What stands before a mark that fits.
use Prim.Native.Nat.{ℕ, zero, suc}
use Rattle.std.proofs.Common.{arith, sym, ◌∙◌, ap}
use Rattle.std.specs.Prelude.{◌≡◌, Bool, true, false, not, ◌&&◌, eqb}
use Rattle.std.proofs.Math.Path.{refl}
use Rattle.model.specs.Gather.{pick}
use Rattle.galley.specs.Place.{GS, G2, spec_mark, FO, TL, TB, ED, figure_mark}
use Rattle.galley.specs.Write.{Stated, unstated, stated}
use Rattle.galley.specs.declared.Spec.{Spec}
use Rattle.refusals.specs.Declared.{Start, nothing, begun, may_follow, early, crowded, fits}
use Rattle.refusals.proofs.laws.State.{turned, Unknown}

-- A mark that fits is not turned away, and the other way round.
pub fits_turned : (b : Start) (mark : ℕ) → fits b mark ≡ true → turned b mark ≡ 0
fits_turned b mark = go (may_follow b mark) (early b mark) (crowded b mark)
  where
    go : (a c d : Bool) → (a && not c && not d) ≡ true → ◌≡◌ {A = ℕ} (pick a (pick c 5 (pick d 4 0)) 2) 0
    go a c d h = grind arith

pub turned_fits : (b : Start) (mark : ℕ) → turned b mark ≡ 0 → fits b mark ≡ true
turned_fits b mark = go (may_follow b mark) (early b mark) (crowded b mark)
  where
    go : (a c d : Bool) → ◌≡◌ {A = ℕ} (pick a (pick c 5 (pick d 4 0)) 2) 0 → (a && not c && not d) ≡ true
    go a c d h = grind arith

-- Where it is false that a mark may follow, it does not fit.
unfollowed : {A : Type 0} (b : Start) (mark : ℕ) → may_follow b mark ≡ false → fits b mark ≡ true → A
unfollowed b mark none h =
    let f : false ≡ true = sym (ap (λ may. may && not (early b mark) && not (crowded b mark)) none) ∙ h in
    absurd cc

no_spec : (s : Spec) (o : Stated) (m n k : ℕ) (second : Bool) → may_follow (begun s o m n k) (pick second G2 GS) ≡ false
unfolding may_follow
no_spec s unstated zero zero zero true = refl
no_spec s unstated zero zero zero false = refl
no_spec s (stated f) zero zero zero true = refl
no_spec s (stated f) zero zero zero false = refl
no_spec s o (suc m) zero zero true = refl
no_spec s o (suc m) zero zero false = refl
no_spec s o m (suc n) zero true = refl
no_spec s o m (suc n) zero false = refl
no_spec s o m n (suc k) true = refl
no_spec s o m n (suc k) false = refl

-- A specification comes first,
pub spec_fits : (b : Start) (edition : ℕ) → fits b (spec_mark edition) ≡ true → b ≡ nothing
spec_fits b edition = go b (eqb edition 2)
  where
    go : (b : Start) (second : Bool) → fits b (pick second G2 GS) ≡ true → b ≡ nothing
    go nothing second h = refl
    go (begun s o m n k) second h = unfollowed (begun s o m n k) (pick second G2 GS) (no_spec s o m n k second) h

-- a folio straight after it,
pub folio_fits : (b : Start) → fits b FO ≡ true → (s : Spec) × (b ≡ begun s unstated 0 0 0)
unfolding may_follow
folio_fits nothing h = absurd cc
folio_fits (begun s unstated zero zero zero) h = (s, refl)
folio_fits (begun s (stated f) zero zero zero) h = absurd cc
folio_fits (begun s o (suc m) zero zero) h = absurd cc
folio_fits (begun s o m (suc n) zero) h = absurd cc
folio_fits (begun s o m n (suc k)) h = absurd cc

-- a line before all floats,
not_so : (b : Bool) → (true && true && not b) ≡ true → b ≡ false
not_so true h = absurd cc
not_so false h = refl

pub line_fits : (b : Start) → fits b TL ≡ true → (s : Spec) × (o : Stated) × (m : ℕ) × (b ≡ begun s o m 0 0) × (eqb m 4000 ≡ false)
unfolding may_follow early crowded
line_fits nothing h = absurd cc
line_fits (begun s o zero zero zero) h = (s, o, 0, refl, refl)
line_fits (begun s o (suc m) zero zero) h = (s, o, suc m, refl, not_so (eqb (suc m) 4000) h)
line_fits (begun s o m (suc n) zero) h = absurd cc
line_fits (begun s o m n (suc k)) h = absurd cc

-- a figure after a line and before all tables,
pub figure_fits : (b : Start) (kept : Bool) → fits b (figure_mark kept) ≡ true
    → (s : Spec) × (o : Stated) × (m : ℕ) × (n : ℕ) × (b ≡ begun s o (suc m) n 0) × (eqb n 200 ≡ false)
unfolding may_follow early crowded
figure_fits nothing true h = absurd cc
figure_fits nothing false h = absurd cc
figure_fits (begun s unstated zero zero zero) true h = absurd cc
figure_fits (begun s unstated zero zero zero) false h = absurd cc
figure_fits (begun s (stated f) zero zero zero) true h = absurd cc
figure_fits (begun s (stated f) zero zero zero) false h = absurd cc
figure_fits (begun s o (suc m) zero zero) kept h = (s, o, m, 0, refl, refl)
figure_fits (begun s o zero (suc n) zero) true h = absurd cc
figure_fits (begun s o zero (suc n) zero) false h = absurd cc
figure_fits (begun s o (suc m) (suc n) zero) true h = (s, o, m, suc n, refl, not_so (eqb (suc n) 200) h)
figure_fits (begun s o (suc m) (suc n) zero) false h = (s, o, m, suc n, refl, not_so (eqb (suc n) 200) h)
figure_fits (begun s o m n (suc k)) true h = absurd cc
figure_fits (begun s o m n (suc k)) false h = absurd cc

-- a table after a line,
pub table_fits : (b : Start) → fits b TB ≡ true
    → (s : Spec) × (o : Stated) × (m : ℕ) × (n : ℕ) × (k : ℕ) × (b ≡ begun s o (suc m) n k) × (eqb k 50 ≡ false)
unfolding may_follow early crowded
table_fits nothing h = absurd cc
table_fits (begun s unstated zero zero zero) h = absurd cc
table_fits (begun s (stated f) zero zero zero) h = absurd cc
table_fits (begun s o (suc m) zero zero) h = (s, o, m, 0, 0, refl, refl)
table_fits (begun s o zero (suc n) zero) h = absurd cc
table_fits (begun s o (suc m) (suc n) zero) h = (s, o, m, suc n, 0, refl, refl)
table_fits (begun s o zero n (suc k)) h = absurd cc
table_fits (begun s o (suc m) n (suc k)) h = (s, o, m, n, suc k, refl, not_so (eqb (suc k) 50) h)

-- and so does the end.
pub end_fits : (b : Start) → fits b ED ≡ true → (s : Spec) × (o : Stated) × (m : ℕ) × (n : ℕ) × (k : ℕ) × (b ≡ begun s o (suc m) n k)
unfolding may_follow early crowded
end_fits nothing h = absurd cc
end_fits (begun s unstated zero zero zero) h = absurd cc
end_fits (begun s (stated f) zero zero zero) h = absurd cc
end_fits (begun s o (suc m) n k) h = (s, o, m, n, k, refl)
end_fits (begun s o zero (suc n) zero) h = absurd cc
end_fits (begun s o zero n (suc k)) h = absurd cc

-- An unknown mark fits nowhere.
pub unknown_unfit : {A : Type 0} (b : Start) (mark : ℕ) → Unknown mark → fits b mark ≡ true → A
unknown_unfit b mark u h = unfollowed b mark (go b) h
  where
    go : (b : Start) → may_follow b mark ≡ false
    go nothing = unfold may_follow in rw (u.gs, u.g2) refl
    go (begun s unstated zero zero zero) = unfold may_follow in rw (u.fo, u.tl, u.fg, u.fk, u.tb, u.ed) refl
    go (begun s (stated f) zero zero zero) = unfold may_follow in rw (u.tl, u.fg, u.fk, u.tb, u.ed) refl
    go (begun s o (suc m) zero zero) = unfold may_follow in rw (u.tl, u.fg, u.fk, u.tb, u.ed) refl
    go (begun s o m (suc n) zero) = unfold may_follow in rw (u.fg, u.fk, u.tb, u.ed) refl
    go (begun s o m n (suc k)) = unfold may_follow in rw (u.tb, u.ed) refl
