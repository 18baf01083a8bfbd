-- Walks back through two tables of a chapter, side by side: where the starts of two lists differ, the last page at which they do decides.
use Rattle.std.specs.Prelude.{ℕ, zero, suc, ◌≤◌, ◌<◌, ◌≡◌, refl, ◌⊎◌, Bool, true, false, ◌&&◌, List, [], ◌∷◌, map, length, eqb, ltb}
use Rattle.std.proofs.Math.Decide.{ℕ_discrete, dec_lt}
use Rattle.std.proofs.Common.{arith, sym, ◌∙◌, inl, inr, eq-eqb, ne_eqb, lt-ltb, le-ltb}
use Rattle.std.proofs.Math.Path.{ap, subst}
use Rattle.model.specs.Gather.{implies, pick}
use Rattle.model.specs.Galley.{Sides, Galley, Place, count, zeros}
use Rattle.model.specs.Order.{lex, geb}
use Rattle.model.proofs.laws.Rules.{kept, forward_at}
use Rattle.model.proofs.laws.Valid.{count_zeros}
use Rattle.theorems.specs.optimality.Cell.{Trace}
use Rattle.theorems.specs.optimality.Theorem.{step_back}
use Rattle.theorems.specs.pages.Graph.{State, stop, end, place_of, Step}
use Rattle.theorems.specs.pages.Laws.{page_laws, page_domain}
use Rattle.places.specs.declared.Place.{Place as Start}
use Rattle.places.specs.Columns.{columns, float_sizes}
use Rattle.places.proofs.laws.Places.{place_tie}
use Rattle.candidates.specs.Search.{Table, most_from}
use Rattle.entries.specs.Filled.{Filled}
use Rattle.walk.specs.declared.Stop.{Stop}
use Rattle.walk.specs.Trace.{back}
use Rattle.solving.specs.Shown.{at, origin_of, graph_of, table_at, AllRight, Proper}
use Rattle.solving.specs.Back.{state_of}
use Rattle.solving.specs.laws.Back.{Walks, back_one}
use Rattle.closings.specs.Chapter.{nothing_yet, later_back}
use Rattle.closings.specs.laws.Opened.{place_zeros}

not_so : (b : Bool) → (b ≡ true → ⊥) → b ≡ false
not_so false h = refl
not_so true h = absurd (h refl)

-- The order of starts looks at the last page's first.
lex_both : (v w : Place) (vs ws : List Place)
    → lex geb v w && implies (lex geb w v) (lex (lex geb) vs ws) ≡ lex (lex geb) (v ∷ vs) (w ∷ ws)
unfolding lex
lex_both v w vs ws = refl

-- A start is its line and its column.
same_start : (x y : Start) → x.line ≡ y.line → x.column ≡ y.column → x ≡ y
same_start x y e f =
    ap (λ (l : ℕ). record { line = l; column = x.column }) e ∙ ap (λ (k : ℕ). record { line = y.line; column = k }) f

-- How the order of starts goes by line and column.
module _ (g : Galley) (x y : Start) (px : x.column < columns (float_sizes g)) (py : y.column < columns (float_sizes g)) (rest : Bool) where
  -- The later start decides for its list,
  first_later : (y.line < x.line) ⊎ ((y.line ≡ x.line) × (y.column < x.column))
      → lex geb (at g x) (at g y) && implies (lex geb (at g y) (at g x)) rest ≡ true
  first_later h =
      let here : lex geb (at g x) (at g y) ≡ true = (place_tie g x.line x.column y.line y.column px py).1 (no_later_lem h) in
      let other : lex geb (at g y) (at g x) ≡ false =
      not_so _ (λ t. never h ((place_tie g y.line y.column x.line x.column py px).0 t)) in
      rw (here, other) refl
    where
      no_later_lem : (y.line < x.line) ⊎ ((y.line ≡ x.line) × (y.column < x.column))
          → (y.line < x.line) ⊎ ((y.line ≡ x.line) × (y.column ≤ x.column))
      no_later_lem (inl l) = inl l
      no_later_lem (inr (e, l)) = inr (e, omega arith)

      never : (y.line < x.line) ⊎ ((y.line ≡ x.line) × (y.column < x.column))
          → (x.line < y.line) ⊎ ((x.line ≡ y.line) × (x.column ≤ y.column)) → ⊥
      never (inl l) (inl k) = omega arith
      never (inl l) (inr (e, k)) = omega arith
      never (inr (e, l)) (inl k) = omega arith
      never (inr (e, l)) (inr (f, k)) = omega arith

  -- and against the other.
  second_later : (x.line < y.line) ⊎ ((x.line ≡ y.line) × (x.column < y.column))
      → lex geb (at g x) (at g y) && implies (lex geb (at g y) (at g x)) rest ≡ false
  second_later h =
      let here : lex geb (at g x) (at g y) ≡ false =
      not_so _ (λ t. never h ((place_tie g x.line x.column y.line y.column px py).0 t)) in
      rw here refl
    where
      never : (x.line < y.line) ⊎ ((x.line ≡ y.line) × (x.column < y.column))
          → (y.line < x.line) ⊎ ((y.line ≡ x.line) × (y.column ≤ x.column)) → ⊥
      never (inl l) (inl k) = omega arith
      never (inl l) (inr (e, k)) = omega arith
      never (inr (e, l)) (inl k) = omega arith
      never (inr (e, l)) (inr (f, k)) = omega arith

  -- At the same start the pages before it decide.
  both_same : x ≡ y → lex geb (at g x) (at g y) && implies (lex geb (at g y) (at g x)) rest ≡ rest
  both_same e =
      let here : lex geb (at g x) (at g x) ≡ true =
      (place_tie g x.line x.column x.line x.column px px).1 (inr (refl, omega arith)) in
      rw (← e, here) refl

-- A page stops past the beginning, so that a walk which is there has ended;
module _ (g : Galley) (t : Table) (og : Proper g nothing_yet.place) (rg : AllRight g nothing_yet t)
    (fg : Filled g nothing_yet t 0 (columns (float_sizes g))) where
  started : (v : State) (us : List State) (s : Stop) → Walks g nothing_yet og t rg fg (v ∷ us) s → at g s.place ≡ zeros g → ⊥
  unfolding Trace Step
  started v us s walks e = go v walks.trace
    where
      past : (w : Place) (b : ℕ) → Step g (origin_of g nothing_yet) (stop w b) (state_of g s) → ⊥
      past w b step =
          let may = step.may in
          let f = forward_at g w (at g s.place) (kept may).rule13 in
          let counts = ap (λ v. count v f.more.0) e in
          omega (arith, f.more.2, counts, count_zeros g f.more.0 f.more.1)

      go : (v : State) → Trace (graph_of g nothing_yet) (table_at g t) (v ∷ us) (state_of g s) → ⊥
      go v (n, (x, f), r) =
          let o =
          (step_back (graph_of g nothing_yet) (page_laws g (origin_of g nothing_yet)) (page_domain g (origin_of g nothing_yet)) (most_from nothing_yet) (table_at g t) rg
          walks.within n f).0 in
          on v o.may
        where
          on : (v : State) → Step g (origin_of g nothing_yet) v (state_of g s) → ⊥
          on (stop w b) m = past w b m
          on end m = m

  -- and one that has ended is there.
  begun : (s : Stop) → Walks g nothing_yet og t rg fg [] s → at g s.place ≡ zeros g
  unfolding Trace place_of
  begun s walks = ap place_of walks.trace ∙ place_zeros g

-- Two chapters that have the same places, their tables, and walks back through both.
module _ (g h : Galley) (alike : (s : Start) → at h s ≡ at g s) (wide : columns (float_sizes h) ≡ columns (float_sizes g))
    (none : zeros h ≡ zeros g) (tall : (h.stream 0).size ≡ (g.stream 0).size) (sides : Sides) (t u : Table)
    (same_g : (s : Stop) → back g.spec.sides t s ≡ back sides t s) (same_h : (s : Stop) → back h.spec.sides u s ≡ back sides u s)
    (og : Proper g nothing_yet.place) (oh : Proper h nothing_yet.place)
    (rg : AllRight g nothing_yet t) (rh : AllRight h nothing_yet u)
    (fg : Filled g nothing_yet t 0 (columns (float_sizes g))) (fh : Filled h nothing_yet u 0 (columns (float_sizes h))) where
  -- One page back in both: the starts are compared, and where they are the same the walks go on.
  one_back : (left : ℕ) (x y : Stop) (rest : Bool) → Proper g x.place → Proper g y.place
      → (x.place ≡ y.place → later_back sides t u left x y ≡ rest)
      → pick (eqb x.place.line y.place.line)
      (pick (eqb x.place.column y.place.column) (later_back sides t u left x y) (ltb y.place.column x.place.column))
      (ltb y.place.line x.place.line)
      ≡ lex geb (at g x.place) (at g y.place) && implies (lex geb (at g y.place) (at g x.place)) rest
  one_back left x y rest px py on = go (ℕ_discrete x.place.line y.place.line) (ℕ_discrete x.place.column y.place.column)
    where
      P : Start
      P = x.place

      Q : Start
      Q = y.place

      first : (Q.line < P.line) ⊎ ((Q.line ≡ P.line) × (Q.column < P.column))
          → lex geb (at g P) (at g Q) && implies (lex geb (at g Q) (at g P)) rest ≡ true
      first = first_later g P Q px.column py.column rest

      second : (P.line < Q.line) ⊎ ((P.line ≡ Q.line) × (P.column < Q.column))
          → lex geb (at g P) (at g Q) && implies (lex geb (at g Q) (at g P)) rest ≡ false
      second = second_later g P Q px.column py.column rest

      go : Dec (P.line ≡ Q.line) → Dec (P.column ≡ Q.column)
          → pick (eqb P.line Q.line) (pick (eqb P.column Q.column) (later_back sides t u left x y) (ltb Q.column P.column))
          (ltb Q.line P.line)
          ≡ lex geb (at g P) (at g Q) && implies (lex geb (at g Q) (at g P)) rest
      go (no n) d = rw (ne_eqb P.line Q.line n) (line (dec_lt Q.line P.line))
        where
          line : Dec (Q.line < P.line) → ltb Q.line P.line ≡ lex geb (at g P) (at g Q) && implies (lex geb (at g Q) (at g P)) rest
          line (yes l) = lt-ltb Q.line P.line l ∙ sym (first (inl l))
          line (no l) = le-ltb Q.line P.line (omega arith) ∙ sym (second (inl (omega arith)))
      go (yes e) (no n) = rw (eq-eqb P.line Q.line e, ne_eqb P.column Q.column n) (column (dec_lt Q.column P.column))
        where
          column : Dec (Q.column < P.column) → ltb Q.column P.column ≡ lex geb (at g P) (at g Q) && implies (lex geb (at g Q) (at g P)) rest
          column (yes l) = lt-ltb Q.column P.column l ∙ sym (first (inr (sym e, l)))
          column (no l) = le-ltb Q.column P.column (omega arith) ∙ sym (second (inr (e, omega arith)))
      go (yes e) (yes f) =
          let same : P ≡ Q = same_start P Q e f in
          rw (eq-eqb P.line Q.line e, eq-eqb P.column Q.column f)
          (on same ∙ sym (both_same g P Q px.column py.column rest same))

  -- So do the walks, a page further back.
  side_step : (left : ℕ) (a b : Stop) (rest : Bool)
      → (let x = back sides t a in let y = back sides u b in Proper g x.place → Proper g y.place
      → (x.place ≡ y.place → later_back sides t u left x y ≡ rest)
      → later_back sides t u (suc left) a b
      ≡ lex geb (at g x.place) (at g y.place) && implies (lex geb (at g y.place) (at g x.place)) rest)
  unfolding later_back
  side_step left a b rest px py on = one_back left (back sides t a) (back sides u b) rest px py on

  -- Where the starts differ, the walks side by side say which are preferred.
  pub later_walks : (us ws : List State) (left : ℕ) (a b : Stop)
      → Walks g nothing_yet og t rg fg us a → Walks h nothing_yet oh u rh fh ws b → a.place ≡ b.place → length us ≤ left
      → ¬ (map place_of us ≡ map place_of ws)
      → later_back sides t u left a b ≡ lex (lex geb) (map place_of us) (map place_of ws)
  later_walks [] [] left a b x y e k n = absurd (n refl)
  later_walks [] (w ∷ ws) left a b x y e k n =
      absurd (started h u oh rh fh w ws b y (ap (at h) (sym e) ∙ alike a.place ∙ begun g t og rg fg a x ∙ sym none))
  later_walks (v ∷ us) [] left a b x y e k n =
      absurd (started g t og rg fg v us a x (ap (at g) e ∙ sym (alike b.place) ∙ begun h u oh rh fh b y ∙ none))
  later_walks (v ∷ us) (w ∷ ws) zero a b x y e k n = absurd (omega arith)
  later_walks (v ∷ us) (w ∷ ws) (suc left) a b x y e k n =
      let p = back_one g nothing_yet og t rg fg v us a x in
      let q = back_one h nothing_yet oh u rh fh w ws b y in
      let X = back sides t a in
      let Y = back sides u b in
      let pw : Walks g nothing_yet og t rg fg us X = subst (λ s. Walks g nothing_yet og t rg fg us s) (same_g a) p.walks in
      let qw : Walks h nothing_yet oh u rh fh ws Y = subst (λ s. Walks h nothing_yet oh u rh fh ws s) (same_h b) q.walks in
      let ev : place_of v ≡ at g X.place =
      unfold place_of in ap place_of p.begun ∙ ap (λ (s : Stop). at g s.place) (same_g a) in
      let ew : place_of w ≡ at g Y.place =
      unfold place_of in ap place_of q.begun ∙ ap (λ (s : Stop). at h s.place) (same_h b) ∙ alike Y.place in
      let py : Proper g Y.place = proper_on Y.place qw.proper in
      let on : X.place ≡ Y.place → later_back sides t u left X Y ≡ lex (lex geb) (map place_of us) (map place_of ws) =
      λ same.
      later_walks us ws left X Y pw qw same (omega arith)
      (λ m. n (cc (ev, ew, ap (at g) same, m))) in
      let step : later_back sides t u (suc left) a b
      ≡ lex geb (at g X.place) (at g Y.place)
      && implies (lex geb (at g Y.place) (at g X.place)) (lex (lex geb) (map place_of us) (map place_of ws)) =
      side_step left a b (lex (lex geb) (map place_of us) (map place_of ws)) pw.proper py on in
      step ∙ rw (ev, ew) (lex_both (at g X.place) (at g Y.place) (map place_of us) (map place_of ws))
    where
      proper_on : (s : Start) → Proper h s → Proper g s
      proper_on s r = record { line = subst (λ n. s.line ≤ n) tall r.line; column = subst (λ n. s.column < n) wide r.column }
