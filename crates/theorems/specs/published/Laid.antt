-- The places after the pages of a pagination keep the rules, and places that keep the rules are those of a pagination.
use Prim.Native.Nat.{ℕ, zero, suc, pred, ◌≤◌, ◌<◌}
use Rattle.std.proofs.Common.{le_refl, le_trans, le_of_eq, arith, sym, subst}
use Rattle.std.specs.Prelude.{◌≡◌, true, eqb}
use borrow.Author.Tests.{leb-true, le-leb, eq-eqb}
use Rattle.model.specs.Galley.{Stream, Galley, Place, count, Block, Sane}
use Rattle.model.specs.Height.{height, tightest, loosest}
use Rattle.model.specs.Leaf.{leaf}
use Rattle.model.specs.Rules.{floor, fits, fills}
use Rattle.model.specs.Pagination.{Map, Pagination, height_on}
use Rattle.model.specs.laws.Rules.{Kept}
use Rattle.model.proofs.laws.Rules.{Forward, forward_at, forward_of}
use Rattle.theorems.specs.published.Fits.{fits_page, fits_none, fits_all, fits_up, fits_last}
use Rattle.theorems.specs.published.Heights.{After, height_on_lem}
use Rattle.theorems.specs.published.Keeping.{closes_at, closes_of}
use Rattle.theorems.specs.published.Fourth.{fourth_of, cited_on}

-- Places w 0 to w p: nothing is placed at first and everything at last, and each page from one to the next keeps the rules.
pub record Laid (g : Galley) (p : ℕ) (w : ℕ → Place) : Type 0 where
  pub none : (s : ℕ) → s ≤ g.floats → count (w 0) s ≡ 0
  pub all : (s : ℕ) → s ≤ g.floats → count (w p) s ≡ (g.stream s).size
  pub page : (q : ℕ) → q < p → Kept g (suc q) (eqb (suc q) p) (w q) (w (suc q))

module _ (g : Galley) (sane : Sane g) (p : ℕ) (w : ℕ → Place) (P : Map) (after : (q : ℕ) → q ≤ p → After g P q (w q)) where
  heights : (gap : Stream → ℕ → ℕ) (separation q : ℕ) → q < p
      → height_on g gap separation P (suc q) ≡ height g gap separation (w q) (w (suc q))
  heights gap separation q c = height_on_lem g gap separation P q (w q) (w (suc q)) (after q (omega arith)) (after (suc q) c)

  -- Places that keep the rules are those of a pagination.
  pub laid_pagination : Laid g p w → Pagination g p P
  unfolding fits fills tightest loosest
  laid_pagination l =
      record { into = into; onto = onto; order = order; over = over; under = under; legal = legal; fourth = fourth }
    where
      kept : (e : ℕ) → 1 ≤ e → e ≤ p → Kept g e (eqb e p) (w (pred e)) (w e)
      kept zero a c = absurd (omega arith)
      kept (suc q) a c = l.page q c

      into : (s k : ℕ) → Block g s k → (1 ≤ P s k) × (P s k ≤ p)
      into s k b =
          let none = l.none s b.stream in
          let all = l.all s b.stream in
          let first = b.first in
          let last = b.last in
          let F = after 0 (omega arith) s b.stream in
          let early : ¬ (P s k ≤ 0) = λ m. (let r = F.late k first last m in omega arith) in
          ((omega arith), (after p (le_refl p) s b.stream).early k first (omega arith))

      onto : (q : ℕ) → 1 ≤ q → q ≤ p → (s : ℕ) × (k : ℕ) × Block g s k × (P s k ≡ q)
      onto zero a c = absurd (omega arith)
      onto (suc q) a c =
          let f = forward_at g (w q) (w (suc q)) (l.page q c).rule13 in
          let s = f.more.0 in
          let d = f.more.1 in
          let more = f.more.2 in
          let top = f.top s d in
          let page = fits_last (after q (omega arith) s d) (after (suc q) c s d) more in
          (s, count (w (suc q)) s, (omega arith), page)

      order : (s k : ℕ) → Block g s k → Block g s (suc k) → P s k ≤ P s (suc k)
      order s k b c =
          let F = after (P s (suc k)) (into s (suc k) c).1 s b.stream in
          let next = F.late (suc k) c.first c.last (le_refl (P s (suc k))) in
          F.early k b.first (omega arith)

      over : (q : ℕ) → 1 ≤ q → q ≤ p → height_on g (λ st. st.least) g.spec.smin P q ≤ g.spec.htmax
      over zero a c = absurd (omega arith)
      over (suc q) a c = le_trans (le_of_eq (heights _ _ q c)) (leb-true _ _ (l.page q c).rule15)

      under : (q : ℕ) → 1 ≤ q → q ≤ p → floor g (eqb q p) ≤ height_on g (λ st. st.most) g.spec.smax P q
      under zero a c = absurd (omega arith)
      under (suc q) a c = le_trans (leb-true _ _ (l.page q c).rule16) (le_of_eq (sym (heights _ _ q c)))

      legal : (s k : ℕ) → Block g s k → Block g s (suc k) → P s k < P s (suc k) → (g.stream s).legal k ≡ true
      legal s k b c m =
          let q = P s k in
          let upto = (into s k b).1 in
          let F = after q upto s b.stream in
          let placed = F.late k b.first b.last (le_refl q) in
          let not_next : ¬ (suc k ≤ count (w q) s) = λ n. (let r = F.early (suc k) c.first n in omega arith) in
          let is : count (w q) s ≡ k = omega arith in
          let first = b.first in
          let last = c.last in
          let closes = (kept q (into s k b).0 upto).rule14 in
          subst (λ j. (g.stream s).legal j ≡ true) is (closes_at g (w q) closes s b.stream (omega arith) (omega arith))

      fourth : (s k : ℕ) → 1 ≤ s → Block g s k
          → leaf g.spec.sides (P 0 ((g.stream s).cite k)) ≤ leaf g.spec.sides (P s k)
      fourth s k a b =
          let pages = into s k b in
          fourth_of g sane p w P after (λ e c d. (kept e c d).rule17) s k a b pages.0 pages.1

  -- The places after the pages of a pagination keep the rules.
  pub pagination_laid : Pagination g p P → Laid g p w
  unfolding fits fills tightest loosest
  pagination_laid m =
      record {
        none = λ s d. fits_none (after 0 (omega arith) s d) (λ k a b. (m.into s k (omega arith)).0);
        all = λ s d. fits_all (after p (le_refl p) s d) (λ k a b. (m.into s k (omega arith)).1);
        page = page;
      }
    where
      page : (q : ℕ) → q < p → Kept g (suc q) (eqb (suc q) p) (w q) (w (suc q))
      page q c =
          record {
            rule13 = forward_of g (w q) (w (suc q)) forth;
            rule14 = closes_of g (w (suc q)) legal;
            rule15 = le-leb _ _ (le_trans (le_of_eq (sym (heights _ _ q c))) (m.over (suc q) (omega arith) c));
            rule16 = le-leb _ _ (le_trans (m.under (suc q) (omega arith) c) (le_of_eq (heights _ _ q c)));
            rule17 = cited_on g sane p w P after m.fourth (λ k b. (m.into 0 k b).1) (suc q) (omega arith) c;
          }
        where
          F : After g P q (w q)
          F = after q (omega arith)

          G : After g P (suc q) (w (suc q))
          G = after (suc q) c

          forth : Forward g (w q) (w (suc q))
          forth =
              let o = m.onto (suc q) (omega arith) c in
              let b = o.2 in
              let r = (fits_page (F _ b.stream) (G _ b.stream) o.1 b.first b.last).0 (eq-eqb _ _ o.3) in
              record {
                up = λ s d. fits_up (F s d) (G s d) (omega arith);
                top = λ s d. (G s d).top;
                more = (o.0, b.stream, (omega arith));
              }

          legal : (s : ℕ) → s ≤ g.floats → 0 < count (w (suc q)) s → count (w (suc q)) s < (g.stream s).size
              → (g.stream s).legal (count (w (suc q)) s) ≡ true
          legal s d i j =
              let k = count (w (suc q)) s in
              let here = (G s d).early k i (le_refl k) in
              let not_next : ¬ (P s (suc k) ≤ suc q) = λ n. (let r = (G s d).late (suc k) (omega arith) j n in omega arith) in
              m.legal s k (omega arith) (omega arith) (omega arith)
