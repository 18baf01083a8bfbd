-- What is known of a record that fits its place.
use Rattle.std.specs.Prelude.{ℕ, zero, suc, None, ◌≤◌, ◌<◌, Bool, true, false, ◌&&◌, ◌≡◌, refl, eqb, ltb, leb}
use Rattle.std.proofs.Common.{arith, sym, ltb-true, ltb-false, leb-false, eqb-true, le-ltb, lt-ltb, eq-eqb, ne_eqb}
use Rattle.std.proofs.lemmas.Bool.{eqb-false, lt-leb}
use Rattle.std.proofs.lemmas.Option.{none-some}
use Rattle.model.specs.Gather.{pick}
use Rattle.galley.specs.Place.{GS, G2, FO, TL, FG, FK, TB, ED, spec_mark, spec_size, nothing, spec, line, figure_mark, row_of, kind_of, misplaced, too_early, too_many, unfit, turning}
use Rattle.galley.proofs.laws.Pick.{pick_has, or_false, and_false}
use Rattle.galley.specs.declared.Kind.{Kind}
use Rattle.galley.specs.declared.Sofar.{Sofar}

-- A record has a mark, and none is long.
pub kind_sized : (mark : ℕ) → (2 ≤ (kind_of mark).size) × ((kind_of mark).size ≤ 34)
unfolding kind_of
kind_sized mark =
    pick_has Sized (eqb mark GS) _ _ (λ _. omega arith) (λ _.
    pick_has Sized (eqb mark G2) _ _ (λ _. omega arith) (λ _.
    pick_has Sized (eqb mark FO) _ _ (λ _. omega arith) (λ _.
    pick_has Sized (eqb mark TL) _ _ (λ _. omega arith) (λ _.
    pick_has Sized (eqb mark FG) _ _ (λ _. omega arith) (λ _.
    pick_has Sized (eqb mark FK) _ _ (λ _. omega arith) (λ _.
    pick_has Sized (eqb mark TB) _ _ (λ _. omega arith) (λ _.
    pick_has Sized (eqb mark ED) _ _ (λ _. omega arith) (λ _. omega arith))))))))
  where
    Sized : Kind → Type 0
    Sized kind = (2 ≤ kind.size) × (kind.size ≤ 34)

-- A specification of either edition comes first, and they differ in their bytes alone.
pub spec_kind : (edition : ℕ) → kind_of (spec_mark edition) ≡ row_of spec nothing nothing 1 (spec_size edition)
unfolding kind_of
spec_kind edition = go (eqb edition 2)
  where
    go : (second : Bool) → kind_of (pick second G2 GS) ≡ row_of spec nothing nothing 1 (pick second 34 30)
    go true = refl
    go false = refl

pub spec_small : (edition : ℕ) → spec_size edition ≤ 34
spec_small edition = pick_has (◌≤ 34) (eqb edition 2) 34 30 (λ _. omega arith) (λ _. omega arith)

pub spec_large : (edition : ℕ) → 30 ≤ spec_size edition
spec_large edition = pick_has (30 ≤◌) (eqb edition 2) 34 30 (λ _. omega arith) (λ _. omega arith)

-- A kept figure is a figure.
pub figure_kind : (kept : Bool) → kind_of (figure_mark kept) ≡ kind_of FG
unfolding kind_of
figure_kind true = refl
figure_kind false = refl

-- A record of a kind fits: it comes neither too soon nor too late, after a line where it belongs after the lines, and there are
-- fewer of its stage than there may be.
pub record Fits (kind : Kind) (so : Sofar) : Type 0 where
  pub soon : kind.earliest ≤ so.stage
  pub late : so.stage ≤ kind.latest
  pub timely : line < kind.stage → 1 ≤ so.lines
  pub few : so.stage ≡ kind.stage → so.count < kind.most

none_picked : (m e t : Bool) → ◌≡◌ {A = ℕ} (pick m 2 (pick e 5 (pick t 4 0))) 0 → (m ≡ false) × (e ≡ false) × (t ≡ false)
none_picked true e t h = absurd (omega arith)
none_picked false true t h = absurd (omega arith)
none_picked false false true h = absurd (omega arith)
none_picked false false false h = (refl, refl, refl)

-- Where no number is answered it is 0.
pub turning_none : (n : ℕ) → turning n ≡ None → n ≡ 0
turning_none zero h = refl
turning_none (suc n) h = absurd (none-some (suc n) (sym h))

-- A record with the number 0 fits.
pub unfit_fits : (kind : Kind) (so : Sofar) → unfit kind so ≡ 0 → Fits kind so
unfit_fits kind so h =
    let t = none_picked (misplaced kind so) (too_early kind so) (too_many kind so) h in
    let m = or_false (ltb so.stage kind.earliest) (ltb kind.latest so.stage) t.0 in
    record {
      soon = ltb-false so.stage kind.earliest m.0;
      late = ltb-false kind.latest so.stage m.1;
      timely = λ l.
          let none = and_false (ltb line kind.stage) (eqb so.lines 0) t.1 (lt-ltb line kind.stage l) in
          omega (arith, eqb-false so.lines 0 none);
      few = λ e.
          leb-false kind.most so.count
          (and_false (eqb kind.stage so.stage) (leb kind.most so.count) t.2 (eq-eqb kind.stage so.stage (sym e)));
    }

and_not : (a b : Bool) → (a ≡ true → b ≡ false) → (a && b) ≡ false
and_not true b h = h refl
and_not false b h = refl

-- One that fits has the number 0.
pub fits_unfit : (kind : Kind) (so : Sofar) → Fits kind so → unfit kind so ≡ 0
fits_unfit kind so f =
    simp (
      le-ltb so.stage kind.earliest f.soon,
      le-ltb kind.latest so.stage f.late,
      and_not (ltb line kind.stage) (eqb so.lines 0)
          (λ l. ne_eqb so.lines 0 (λ z. let some = f.timely (ltb-true line kind.stage l) in omega arith)),
      and_not (eqb kind.stage so.stage) (leb kind.most so.count)
          (λ e. lt-leb kind.most so.count (f.few (sym (eqb-true kind.stage so.stage e)))),
    )
