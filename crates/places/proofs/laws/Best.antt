-- The best of what is on offer: where nothing is, where a start is known to lead, and that there is only one.
use Rattle.std.specs.Prelude.{ℕ, ◌≡◌, refl, None, Some}
use Rattle.std.proofs.Common.{arith, sym, ap, inl, inr}
use Rattle.places.specs.declared.Place.{Place}
use Rattle.places.specs.Entry.{Entry, least}
use Rattle.places.specs.Order.{NoLater}
use Rattle.places.specs.Best.{Leads, Best}

-- An unreached place has no cost.
pub no_reach : {x : ℕ} {r : Place} → None ≡ least x r → ⊥
no_reach e = let z : ◌≡◌ {A = ℕ} 0 1 = cc in omega arith

-- Least costs and starts that are the same are the same entry, and the other way round.
pub least_at : {x y : ℕ} {r q : Place} → x ≡ y → r ≡ q → least x r ≡ least y q
least_at e f = cc

pub least_same : {x y : ℕ} {r q : Place} → least x r ≡ least y q → (x ≡ y) × (r ≡ q)
least_same {x} {y} {r} {q} e = (ap (λ (l : Entry). cost_or x l) e, ap (λ (l : Entry). start_or r l) e)
  where
    cost_or : ℕ → Entry → ℕ
    cost_or x None = x
    cost_or x (Some l) = l.cost

    start_or : Place → Entry → Place
    start_or r None = r
    start_or r (Some l) = l.start

-- Being no later is transitive and antisymmetric.
no_later_trans : (a b c d e f : ℕ) → NoLater a b c d → NoLater c d e f → NoLater a b e f
no_later_trans a b c d e f (inl l) (inl m) = inl (omega arith)
no_later_trans a b c d e f (inl l) (inr (p, m)) = inl (omega arith)
no_later_trans a b c d e f (inr (p, l)) (inl m) = inl (omega arith)
no_later_trans a b c d e f (inr (p, l)) (inr (q, m)) = inr (omega arith, omega arith)

no_later_same : (a b c d : ℕ) → NoLater a b c d → NoLater c d a b → (a ≡ c) × (b ≡ d)
no_later_same a b c d (inl l) (inl m) = absurd (omega arith)
no_later_same a b c d (inl l) (inr (p, m)) = absurd (omega arith)
no_later_same a b c d (inr (p, l)) (inl m) = absurd (omega arith)
no_later_same a b c d (inr (p, l)) (inr (q, m)) = (p, omega arith)

-- What leads an entry's start, at no more than its cost, leads all that the entry leads.
pub leads_trans : (e : Entry) (x : ℕ) (r : Place) (a b y : ℕ) → Leads e r.line r.column x → Leads (least x r) a b y
    → Leads e a b y
unfolding Leads
leads_trans None x r a b y h k = absurd h
leads_trans (Some l) x r a b y (h, f) (k, g) =
    (omega arith, λ e. no_later_trans a b r.line r.column l.start.line l.start.column (g (omega arith)) (f (omega arith)))

-- Where nothing is on offer, unreached is the best.
pub best_none : {C : ℕ → ℕ → ℕ → Type 0} → ((a b x : ℕ) → C a b x → ⊥) → Best C None
best_none none = record { may = λ x r e. absurd (no_reach e); leads = λ a b y c. absurd (none a b y c) }

-- A start on offer that leads all of them is the best.
pub best_least : {C : ℕ → ℕ → ℕ → Type 0} (x : ℕ) (r : Place) → C r.line r.column x
    → ((a b y : ℕ) → C a b y → Leads (least x r) a b y) → Best C (least x r)
best_least {C} x r c leads = record { may = may; leads = leads }
  where
    may : (y : ℕ) (q : Place) → least x r ≡ least y q → C q.line q.column y
    may y q e =
        let (f, g) = least_same e in
        rw (← g, ← f) c

-- The best of one offer is the best of another that has the same.
pub best_as : {C D : ℕ → ℕ → ℕ → Type 0} {e : Entry} → ((a b x : ℕ) → C a b x → D a b x) → ((a b x : ℕ) → D a b x → C a b x)
    → Best C e → Best D e
best_as f g h =
    record { may = λ x r q. f r.line r.column x (h.may x r q); leads = λ a b y d. h.leads a b y (g a b y d) }

-- The best is one alone.
pub best_unique : {C : ℕ → ℕ → ℕ → Type 0} (e f : Entry) → Best C e → Best C f → e ≡ f
unfolding Leads
best_unique None None h k = refl
best_unique None (Some n) h k = absurd (h.leads n.start.line n.start.column n.cost (k.may n.cost n.start refl))
best_unique (Some l) None h k = absurd (k.leads l.start.line l.start.column l.cost (h.may l.cost l.start refl))
best_unique (Some l) (Some n) h k =
    let q = l.start in
    let r = n.start in
    let (a, f) = h.leads r.line r.column n.cost (k.may n.cost r refl) in
    let (b, g) = k.leads q.line q.column l.cost (h.may l.cost q refl) in
    let e : l.cost ≡ n.cost = omega arith in
    let (i, j) = no_later_same q.line q.column r.line r.column (g (sym e)) (f e) in
    let same : ◌≡◌ {A = Place} (record { line = q.line; column = q.column }) (record { line = r.line; column = r.column }) = cc in
    least_at e same
