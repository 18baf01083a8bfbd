-- The folio after the best of all choices, by costs alone, is that of the best route.
use Rattle.std.specs.Prelude as std
use Rattle.std.specs.Prelude.{ℕ, ◌<◌, ◌≡◌, refl, Bool, true, false, ◌&&◌, None, Some, leb, ltb, eqb}
use Rattle.std.proofs.Math.Decide.{ℕ_discrete, dec_lt}
use Rattle.std.proofs.Common.{arith, ap, eq-eqb, ne_eqb, lt-ltb, le-ltb, le-leb}
use Rattle.std.proofs.Math.Option.{Option, none, some}
use Rattle.std.proofs.lemmas.Bool.{lt-leb}
use Rattle.model.specs.Gather.{implies, pick}
use Rattle.model.specs.Order.{then_by, by}
use Rattle.theorems.specs.books.Routes.{Route, cheaper, finish, ending}
use Rattle.routes.specs.Routes.{kept_of, less, best_end}
use Rattle.routes.specs.Routes.{Route as Kept}

-- The second cost is the less exactly where the first route is not preferred.
ends_by : (t t' w w' : ℕ)
    → ◌≡◌ {A = ℕ} (pick (pick (eqb t' t) (ltb w' w) (ltb t' t)) 2 1) (pick (leb t t' && implies (leb t' t) (leb w w')) 1 2)
ends_by t t' w w' = go (ℕ_discrete t' t) (dec_lt t' t) (dec_lt w' w)
  where
    go : Dec (t' ≡ t) → Dec (t' < t) → Dec (w' < w)
        → ◌≡◌ {A = ℕ} (pick (pick (eqb t' t) (ltb w' w) (ltb t' t)) 2 1) (pick (leb t t' && implies (leb t' t) (leb w w')) 1 2)
    go (yes e) d (yes l) =
        rw (eq-eqb t' t e, lt-ltb w' w l, le-leb t t' (omega arith), le-leb t' t (omega arith), lt-leb w w' l) refl
    go (yes e) d (no l) =
        rw (eq-eqb t' t e, le-ltb w' w (omega arith), le-leb t t' (omega arith), le-leb t' t (omega arith), le-leb w w' (omega arith)) refl
    go (no n) (yes l) d = rw (ne_eqb t' t n, lt-ltb t' t l, lt-leb t t' l) refl
    go (no n) (no l) d =
        rw (ne_eqb t' t n, le-ltb t' t (omega arith), le-leb t t' (omega arith), lt-leb t' t (omega (arith, n))) refl

-- The folio after a choice, 0 where there is none.
abbrev pub folio_after : std.Option ℕ → ℕ
folio_after None = 0
folio_after (Some n) = n

pub best_ending : (a b : Option Route) → folio_after (best_end (kept_of a) (kept_of b)) ≡ ending a b
unfolding best_end ending cheaper then_by by
best_ending none none = refl
best_ending none (some b) = refl
best_ending (some a) none = refl
best_ending (some a) (some b) = ends_by a.turns b.turns a.white b.white

-- Where there is no route, there is no folio.
pub ending_none : (a b : Option Route) → finish a b ≡ none → ending a b ≡ 0
unfolding finish ending
ending_none none none e = refl
ending_none none (some b) e = let z : ◌≡◌ {A = ℕ} 0 1 = cc in absurd (omega arith)
ending_none (some a) none e = let z : ◌≡◌ {A = ℕ} 0 1 = cc in absurd (omega arith)
ending_none (some a) (some b) e = let z : ◌≡◌ {A = ℕ} 0 1 = cc in absurd (omega arith)

-- A folio that is told is none that there is not.
pub end_some : (a b : Kept) (n : ℕ) → best_end a b ≡ Some n → n ≡ 0 → ⊥
unfolding best_end
end_some None None n e z = let t : ◌≡◌ {A = ℕ} 0 1 = cc in absurd (omega arith)
end_some None (Some y) n e z = let t : 2 ≡ n = ap folio_after e in omega (arith, t)
end_some (Some x) None n e z = let t : 1 ≡ n = ap folio_after e in omega (arith, t)
end_some (Some x) (Some y) n e z = let t : pick (less y x) 2 1 ≡ n = ap folio_after e in go (less y x) t
  where
    go : (b : Bool) → pick b 2 1 ≡ n → ⊥
    go true t = omega (arith, t)
    go false t = omega (arith, t)
