-- What the code decides by the costs that it keeps is what the theorem prefers.
use Rattle.std.specs.Prelude.{ℕ, ◌<◌, ◌≡◌, refl, Bool, true, false, ◌&&◌, leb, eqb, ltb}
use Rattle.std.proofs.Math.Decide.{dec_lt}
use Rattle.std.proofs.Common.{arith, le-leb, eq-eqb, ne_eqb, lt-ltb, le-ltb}
use Rattle.std.proofs.Math.Option.{Option, none, some}
use Rattle.std.proofs.lemmas.Bool.{lt-leb}
use Rattle.model.specs.Gather.{implies, pick}
use Rattle.model.specs.Order.{then_by, by, lex, geb}
use Rattle.theorems.specs.books.Routes.{Route, preferred, choose}
use Rattle.theorems.specs.books.Engine.{taken}
use Rattle.routes.specs.declared.Cost.{Cost}
use Rattle.std.specs.Prelude.{Some}
use Rattle.routes.specs.declared.Step.{Step}
use Rattle.routes.specs.Routes.{kept_of, less}
use Rattle.routes.specs.Offer.{decided}

-- The cost that is kept of a route.
abbrev cost_of : Route → Cost
cost_of r = record { turns = r.turns; white = r.white }

-- By numbers one after the other, and then by a test.
in_order : (t t' w w' : ℕ) (later : Bool)
    → leb t t' && implies (leb t' t) (leb w w' && implies (leb w' w) later)
    ≡ pick (pick (eqb t t') (ltb w w') (ltb t t')) true (pick (pick (eqb t' t) (ltb w' w) (ltb t' t)) false later)
in_order t t' w w' later = go (dec_lt t t') (dec_lt t' t) (dec_lt w w') (dec_lt w' w)
  where
    go : Dec (t < t') → Dec (t' < t) → Dec (w < w') → Dec (w' < w)
        → leb t t' && implies (leb t' t) (leb w w' && implies (leb w' w) later)
        ≡ pick (pick (eqb t t') (ltb w w') (ltb t t')) true (pick (pick (eqb t' t) (ltb w' w) (ltb t' t)) false later)
    go (yes a) b c d = simp (le-leb t t' (omega arith), lt-leb t' t a, ne_eqb t t' (λ e. omega arith), lt-ltb t t' a)
    go (no a) (yes b) c d =
        simp (lt-leb t t' b, ne_eqb t t' (λ e. omega arith), le-ltb t t' (omega arith), ne_eqb t' t (λ e. omega arith), lt-ltb t' t b)
    go (no a) (no b) (yes c) d =
        simp (le-leb t t' (omega arith), le-leb t' t (omega arith), eq-eqb t t' (omega arith), le-leb w w' (omega arith), lt-leb w' w c, lt-ltb w w' c)
    go (no a) (no b) (no c) (yes d) =
        simp (le-leb t t' (omega arith), le-leb t' t (omega arith), eq-eqb t t' (omega arith), eq-eqb t' t (omega arith), lt-leb w w' d, le-ltb w w' (omega arith), lt-ltb w' w d)
    go (no a) (no b) (no c) (no d) =
        simp (le-leb t t' (omega arith), le-leb t' t (omega arith), eq-eqb t t' (omega arith), eq-eqb t' t (omega arith), le-leb w w' (omega arith), le-leb w' w (omega arith), le-ltb w w' (omega arith), le-ltb w' w (omega arith))

preferred_kept : (a b : Route) (later : Bool) → later ≡ lex (lex geb) a.starts b.starts
    → preferred a b ≡ pick (less (cost_of a) (cost_of b)) true (pick (less (cost_of b) (cost_of a)) false later)
unfolding preferred then_by by
preferred_kept a b later e = rw (← e) (in_order a.turns b.turns a.white b.white later)

-- Of two offers the code takes the one that the theorem takes.
pub decided_kept : (a b : Option Route) (later : Bool)
    → ((r q : Route) → a ≡ some r → b ≡ some q → later ≡ lex (lex geb) r.starts q.starts)
    → decided later (kept_of a) (kept_of b) ≡ record { route = kept_of (choose a b); from = taken a b }
unfolding choose taken
decided_kept none b later tie = refl
decided_kept (some a) none later tie = refl
decided_kept (some a) (some b) later tie =
    rw (preferred_kept a b later (tie a b refl refl)) (go (less (cost_of a) (cost_of b)) (less (cost_of b) (cost_of a)) later)
  where
    go : (s t u : Bool)
        → ◌≡◌ {A = Step}
        (pick s (record { route = Some (cost_of a); from = 1 }) (pick t (record { route = Some (cost_of b); from = 2 })
        (pick u (record { route = Some (cost_of a); from = 1 }) (record { route = Some (cost_of b); from = 2 }))))
        (record {
          route = kept_of (some (pick (pick s true (pick t false u)) a b));
          from = pick (pick s true (pick t false u)) 1 2;
        })
    go true t u = refl
    go false true u = refl
    go false false true = refl
    go false false false = refl
