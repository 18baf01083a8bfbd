-- The last side: it occurs, and it leads every side that is reached.
use Rattle.std.specs.Prelude.{ℕ, ◌-◌, ◌%◌, ◌≤◌, ◌<◌, ◌≡◌, refl, Bool, true, false, None, Some}
use Rattle.std.proofs.Common.{arith, sym, ◌∙◌, ap, ltb-true, ltb-false}
use Rattle.std.proofs.Math.Decide.{ℕ_discrete}
use Rattle.model.specs.Gather.{pick}
use Rattle.model.specs.Galley.{Sides, single, double}
use Rattle.model.specs.Order.{oddly}
use Rattle.theorems.specs.pages.Graph.{side}
use Rattle.places.specs.declared.Place.{Place as Start}
use Rattle.places.specs.Entry.{Entry, least}
use Rattle.places.proofs.laws.Best.{no_reach, least_same}
use Rattle.candidates.specs.Search.{Table}
use Rattle.entries.specs.Filled.{Side}
use Rattle.walk.specs.Trace.{cheaper, even_side, last_side}

-- The last side is one that occurs.
pub last_side_lem : (sides : Sides) (t : Table) (m : Start) → Side sides (last_side sides t m)
unfolding last_side side
last_side_lem single t m = refl
last_side_lem (double f) t m = go (cheaper (t m.line m.column (1 - even_side f)) (t m.line m.column (even_side f)))
  where
    go : (b : Bool) → pick b (1 - even_side f) (even_side f) % 2 ≡ pick b (1 - even_side f) (even_side f)
    go true = omega arith
    go false = omega arith

-- Side c of a place leads a side b that is reached at cost x: it is reached at no higher cost, and at the same cost c is b or the
-- side of even folios.
pub record Leads (sides : Sides) (t : Table) (m : Start) (c b x : ℕ) : Type 0 where
  pub cost : ℕ
  pub start : Start
  pub reached : t m.line m.column c ≡ least cost start
  pub low : cost ≤ x
  pub tie : cost ≡ x → (oddly sides c ≤ oddly sides b) × (oddly sides c ≡ oddly sides b → c ≤ b)

-- What is less dear is reached, and costs less than what is reached.
cheaper_least : (e f : Entry) → cheaper e f ≡ true
    → (y : ℕ) × (r : Start) × (e ≡ least y r) × ((x : ℕ) (s : Start) → f ≡ least x s → y < x)
unfolding cheaper
cheaper_least None f h = let z : ◌≡◌ {A = ℕ} 0 1 = cc in absurd (omega arith)
cheaper_least (Some l) None h = (l.cost, l.start, refl, λ x s p. absurd (no_reach p))
cheaper_least (Some m) (Some n) h =
    (m.cost, m.start, refl, λ x s p. let l = ltb-true m.cost n.cost h in let q = (least_same p).0 in omega arith)

-- Where what is reached is not less dear, the other is reached and costs no more.
dearer_least : (e f : Entry) (x : ℕ) (s : Start) → e ≡ least x s → cheaper e f ≡ false
    → (y : ℕ) × (r : Start) × (f ≡ least y r) × (y ≤ x)
unfolding cheaper
dearer_least None f x s p h = absurd (no_reach p)
dearer_least (Some l) None x s p h = let z : ◌≡◌ {A = ℕ} 0 1 = cc in absurd (omega arith)
dearer_least (Some m) (Some n) x s p h = (n.cost, n.start, refl, let l = ltb-false m.cost n.cost h in let q = (least_same p).0 in omega arith)

-- The last side leads every side that is reached.
pub last_leads : (sides : Sides) (t : Table) (m : Start) (b x : ℕ) (s : Start) → Side sides b → t m.line m.column b ≡ least x s
    → Leads sides t m (last_side sides t m) b x
unfolding last_side side oddly
last_leads single t m b x s occurs h =
    record { cost = x; start = s; reached = ap (t m.line m.column) occurs ∙ h; low = omega arith; tie = λ e. (omega arith, λ d. omega arith) }
last_leads (double f) t m b x s occurs h = go (cheaper (t m.line m.column odd) (t m.line m.column even)) refl (ℕ_discrete b even)
  where
    even : ℕ
    even = even_side f

    odd : ℕ
    odd = 1 - even_side f

    go : (v : Bool) → cheaper (t m.line m.column odd) (t m.line m.column even) ≡ v → Dec (b ≡ even) → Leads (double f) t m (pick v odd even) b x
    go true p (yes e) =
        let (y, r, q, less) = cheaper_least (t m.line m.column odd) (t m.line m.column even) p in
        let l = less x s (ap (t m.line m.column) (sym e) ∙ h) in
        record { cost = y; start = r; reached = q; low = omega arith; tie = λ d. absurd (omega arith) }
    go true p (no e) =
        let o : b ≡ odd = omega arith in
        record { cost = x; start = s; reached = ap (t m.line m.column) (sym o) ∙ h; low = omega arith; tie = λ d. (omega arith, λ k. omega arith) }
    go false p (yes e) =
        record { cost = x; start = s; reached = ap (t m.line m.column) (sym e) ∙ h; low = omega arith; tie = λ d. (omega arith, λ k. omega arith) }
    go false p (no e) =
        let o : b ≡ odd = omega arith in
        let (y, r, q, less) = dearer_least (t m.line m.column odd) (t m.line m.column even) x s (ap (t m.line m.column) (sym o) ∙ h) p in
        record { cost = y; start = r; reached = q; low = omega arith; tie = λ d. (omega arith, λ k. absurd (omega arith)) }
