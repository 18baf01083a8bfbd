-- A route that goes on through a chapter by the best list that closes so is the best of all choices that go on from its folio.
use Rattle.std.specs.Prelude.{ℕ, ◌+◌, ◌≤◌, ◌≡◌, ◌↔◌, Bool, ◌&&◌, leb}
use native.Mathlib.Omega.{arith}
use Rattle.std.proofs.Math.Path.{refl, sym, ap}
use Rattle.std.proofs.Common.{◌∙◌, subst, leb-true, le-leb}
use Rattle.std.proofs.Math.Bool.{true}
use mathlib.Core.List.{List, [], ◌∷◌}
use Rattle.std.proofs.Math.Option.{Option, none, some}
use Rattle.std.proofs.Math.ListN.{length}
use Rattle.model.specs.Gather.{implies}
use Rattle.model.specs.Galley.{Galley, Place, zeros}
use Rattle.model.specs.Turns.{turns}
use Rattle.model.specs.White.{white}
use Rattle.model.specs.Order.{then_by, by, lex, geb, oddly, starts_of, before}
use Rattle.model.specs.Book.{sides_on, open_on, Choice, tie_of, tie_order}
use Rattle.model.proofs.laws.Gather.{and_left, and_right, and_both, implies_at, implies_of}
use Rattle.model.specs.laws.Lists.{◌∈◌}
use Rattle.model.proofs.laws.Order.{Preference, leb_preference, by_preference, then_by_preference, lex_preference}
use Rattle.model.proofs.laws.Best.{LeastOf, MakesOf, impossible, makes}
use Rattle.model.proofs.laws.Book.{tie_preference}
use Rattle.theorems.specs.pages.Graph.{side}
use Rattle.theorems.specs.books.Folios.{like, like_on, side_on, Shifted, shifted, folio_closing, closing_folio, valid_on, valid_back, turns_on_lem, tie_on, white_on_lem}
use Rattle.theorems.specs.books.Closing.{closing, best_closing, closing_valid, valid_closing, closing_makes}
use Rattle.theorems.specs.books.Backward.{pages_in, Chosen, sum_back, ties_back}
use Rattle.theorems.specs.books.Turns.{Alike, turns_back, no_chapter, crossing, turns_next}
use Rattle.theorems.specs.books.Routes.{Route, with_list, through, Along}

-- Two numbers compared one after the other, and then a test.
pub in_turn : (t t' w w' : ℕ) (b : Bool)
    → (leb t t' && implies (leb t' t) (leb w w' && implies (leb w' w) b) ≡ true)
    ↔ ((t ≤ t') × (t' ≤ t → w ≤ w') × (t' ≤ t → w' ≤ w → b ≡ true))
in_turn t t' w w' b = (
  λ h.
      let next : t' ≤ t → leb w w' && implies (leb w' w) b ≡ true =
      λ k. implies_at (leb t' t) (leb w w' && implies (leb w' w) b) (and_right (leb t t') _ h) (le-leb t' t k) in (
        leb-true t t' (and_left (leb t t') _ h),
        λ k. leb-true w w' (and_left (leb w w') _ (next k)),
        λ k l. implies_at (leb w' w) b (and_right (leb w w') _ (next k)) (le-leb w' w l),
      ),
  λ h.
      and_both (le-leb t t' h.0)
      (implies_of (leb t' t) (leb w w' && implies (leb w' w) b)
      (λ k.
      let s = leb-true t' t k in
      and_both (le-leb w w' (h.1 s)) (implies_of (leb w' w) b (λ q. h.2 s (leb-true w' w q))))),
)

-- The order of choices, backwards.
unfoldable pub back_before : Galley → ℕ → List Galley → Choice → Choice → Bool
back_before h f rs =
    then_by (by (turns_back h f rs) leb) (then_by (by (sum_back white f rs) leb) (by (ties_back f rs) (lex tie_order)))

pub back_preference : (h : Galley) (f : ℕ) (rs : List Galley) → Preference (back_before h f rs)
unfolding back_before
back_preference h f rs = search (leb_preference, tie_preference, by_preference, lex_preference, then_by_preference) depth 9

-- cs is a choice for the chapters after which folio o follows, or another as odd.
pub record To (h : Galley) (f : ℕ) (rs : List Galley) (o : ℕ) (cs : Choice) : Type 0 where
  pub chosen : Chosen f rs cs
  pub folio : like h.spec.sides (f + pages_in cs) ≡ o

-- ps ∷ cs leads through folio o to the next: cs to o, and ps from there.
pub record Via (h : Galley) (f : ℕ) (g : Galley) (rs : List Galley) (o next : ℕ) (ps : List Place) (cs : Choice) : Type 0 where
  pub to : To h f rs o cs
  pub closes : ps ∈ closing (open_on o g) (side h.spec.sides (o + next))

-- Chapters that are alike go by the same sides and folios.
pub like_alike : (h g : Galley) → Alike h g → (n : ℕ) → like g.spec.sides n ≡ like h.spec.sides n
like_alike h g a n = sym (like_on g.spec.sides 1 n) ∙ ap (λ s. like s n) (a.sides 1) ∙ like_on h.spec.sides 1 n

pub side_alike : (h g : Galley) → Alike h g → (o q : ℕ) → side (open_on o g).spec.sides q ≡ side h.spec.sides q
unfolding open_on
side_alike h g a o q = ap (λ s. side s q) (a.sides o) ∙ side_on h.spec.sides o q

module _ (h : Galley) (f : ℕ) (some_folio_lem : 1 ≤ f) (g : Galley) (a : Alike h g) (rs : List Galley) where
  -- The folio on which the chapter opens and the one that stands for it.
  on_like : (o : ℕ) (cs : Choice) → To h f rs o cs → Shifted (sides_on (f + pages_in cs) g.spec.sides) (sides_on o g.spec.sides)
  on_like o cs t =
      subst (λ o. Shifted (sides_on (f + pages_in cs) g.spec.sides) (sides_on o g.spec.sides))
      (like_alike h g a (f + pages_in cs) ∙ t.folio) (shifted g.spec.sides (f + pages_in cs) (omega arith))

  module _ (o next : ℕ) (ps : List Place) (cs : Choice) where
    -- What goes through a folio is a choice that leads to the next.
    pub via_to : like h.spec.sides next ≡ next → Via h f g rs o next ps cs → To h f (g ∷ rs) next (ps ∷ cs)
    unfolding Chosen pages_in
    via_to l v =
        let (m, s) = closing_valid (open_on o g) _ ps v.closes in
        let n = f + pages_in cs in
        let closes : side h.spec.sides (length ps) ≡ side h.spec.sides (like h.spec.sides n + next) =
        sym (side_alike h g a o (length ps)) ∙ s ∙ ap (λ o. side h.spec.sides (o + next)) (sym v.to.folio) in
        let sum : f + (pages_in cs + length ps) ≡ (f + pages_in cs) + length ps = omega arith in
        record {
          chosen = (valid_back g n o (on_like o cs v.to) ps m, v.to.chosen);
          folio = ap (like h.spec.sides) sum ∙ closing_folio h.spec.sides n (length ps) next l closes;
        }

    -- What it costs,
    pub via_turns : Via h f g rs o next ps cs → like h.spec.sides next ≡ next
        → turns_back h f (g ∷ rs) (ps ∷ cs) ≡ turns_back h f rs cs + crossing h (no_chapter rs) o + turns (open_on o g) ps
    unfolding crossing
    via_turns v l =
        let sh = on_like o cs v.to in
        let n = f + pages_in cs in
        let shh : Shifted (sides_on n h.spec.sides) (sides_on o h.spec.sides) = rw (← a.sides n, ← a.sides o) sh in
        rw (← turns_on_lem g n o sh ps, ← shh.same 0) (turns_next h f some_folio_lem g rs ps cs a (via_to l v).chosen)

    -- its white
    pub via_white : Via h f g rs o next ps cs → sum_back white f (g ∷ rs) (ps ∷ cs) ≡ sum_back white f rs cs + white (open_on o g) ps
    unfolding sum_back
    via_white v = rw (white_on_lem g (f + pages_in cs) o ps)

    -- and its ties.
    pub via_ties : Via h f g rs o next ps cs → ties_back f (g ∷ rs) (ps ∷ cs) ≡ tie_of (open_on o g) ps ∷ ties_back f rs cs
    unfolding ties_back
    via_ties v = rw (tie_on g (f + pages_in cs) o (on_like o cs v.to) ps)

  -- A choice that leads to the next folio goes through the one that its earlier chapters lead to.
  pub to_via : (next : ℕ) (ps : List Place) (cs : Choice) → To h f (g ∷ rs) next (ps ∷ cs)
      → Via h f g rs (like h.spec.sides (f + pages_in cs)) next ps cs
  unfolding Chosen pages_in
  to_via next ps cs t =
      let n = f + pages_in cs in
      let o = like h.spec.sides n in
      let to : To h f rs o cs = record { chosen = t.chosen.1; folio = refl } in
      let sum : (f + pages_in cs) + length ps ≡ f + (pages_in cs + length ps) = omega arith in
      let closes = folio_closing h.spec.sides n (length ps) next (ap (like h.spec.sides) sum ∙ t.folio) in
      record {
        to = to;
        closes =
            valid_closing (open_on o g) _ ps (valid_on g n o (on_like o cs to) ps t.chosen.0) (side_alike h g a o (length ps) ∙ closes);
      }

  -- The best choice to a folio and the best list from there are the best through it.
  pub through_first : (o next : ℕ) (ps : List Place) (cs : Choice) → like h.spec.sides next ≡ next → To h f rs o cs
      → ((ds : Choice) → To h f rs o ds → back_before h f rs cs ds ≡ true)
      → LeastOf (open_on o g) (closing (open_on o g) (side h.spec.sides (o + next))) ps
      → (qs : List Place) (ds : Choice) → Via h f g rs o next qs ds → back_before h f (g ∷ rs) (ps ∷ cs) (qs ∷ ds) ≡ true
  unfolding back_before before then_by by lex
  through_first o next ps cs l t ahead best qs ds v =
      let here : Via h f g rs o next ps cs = record { to = t; closes = best.lawful } in
      let (tc, wc, kc) = (in_turn (turns_back h f rs cs) (turns_back h f rs ds) (sum_back white f rs cs) (sum_back white f rs ds) _).0 (ahead ds v.to) in
      let G = open_on o g in
      let (tp, wp, kp) = (in_turn (turns G ps) (turns G qs) (white G ps) (white G qs) _).0 (best.ahead qs v.closes) in
      let tt = via_turns o next ps cs here l in
      let tt' = via_turns o next qs ds v l in
      let ww = via_white o next ps cs here in
      let ww' = via_white o next qs ds v in
      (in_turn (turns_back h f (g ∷ rs) (ps ∷ cs)) (turns_back h f (g ∷ rs) (qs ∷ ds)) (sum_back white f (g ∷ rs) (ps ∷ cs))
      (sum_back white f (g ∷ rs) (qs ∷ ds)) (lex tie_order (ties_back f (g ∷ rs) (ps ∷ cs)) (ties_back f (g ∷ rs) (qs ∷ ds)))).1 (
        omega arith,
        λ k. let x = wc (omega arith) in let y = wp (omega arith) in omega arith,
        λ k m.
            let x = wc (omega arith) in
            let y = wp (omega arith) in
            let own = kp (omega arith) (omega arith) in
            let earlier = kc (omega arith) (omega arith) in
            rw (via_ties o next ps cs here, via_ties o next qs ds v)
            (and_both (tie o ps qs own) (implies_of (tie_order (tie_of G qs) (tie_of G ps)) _ (λ q. earlier))),
      )
    where
      tie : (o : ℕ) (ps qs : List Place) → then_by (by (λ ps. oddly (open_on o g).spec.sides (length ps)) leb) (by (λ ps. starts_of (zeros (open_on o g)) ps []) (lex (lex geb))) ps qs ≡ true
          → tie_order (tie_of (open_on o g) ps) (tie_of (open_on o g) qs) ≡ true
      tie o ps qs e = unfold tie_order in unfold tie_of in unfold then_by in unfold by in e

  -- The best of the choices through a folio, as a route has it.
  pub record Passed (o next : ℕ) (r : Route) : Type 0 where
    pub pages : List Place
    pub choice : Choice
    pub via : Via h f g rs o next pages choice
    pub ahead : (qs : List Place) (ds : Choice) → Via h f g rs o next qs ds → back_before h f (g ∷ rs) (pages ∷ choice) (qs ∷ ds) ≡ true
    pub turns : r.turns ≡ turns_back h f (g ∷ rs) (pages ∷ choice)
    pub white : r.white ≡ sum_back white f (g ∷ rs) (pages ∷ choice)
    pub starts : r.starts ≡ starts_of (zeros g) pages []
    pub along : Along h f (g ∷ rs) (pages ∷ choice) next r.folios

  -- No choice leads through the folio, or the route is that of the best.
  pub data Passes (o next : ℕ) : Option Route → Type 0 where
    no_pass : ((ps : List Place) (cs : Choice) → ¬ Via h f g rs o next ps cs) → Passes o next none
    pass : {r : Route} → Passed o next r → Passes o next (some r)

-- The best choice to a folio, as a route has it.
pub record Routed (h : Galley) (f : ℕ) (rs : List Galley) (o : ℕ) (r : Route) : Type 0 where
  pub choice : Choice
  pub to : To h f rs o choice
  pub ahead : (ds : Choice) → To h f rs o ds → back_before h f rs choice ds ≡ true
  pub turns : r.turns ≡ turns_back h f rs choice
  pub white : r.white ≡ sum_back white f rs choice
  pub along : Along h f rs choice o r.folios

-- No choice leads to the folio, or the route is that of the best.
pub data Routes (h : Galley) (f : ℕ) (rs : List Galley) (o : ℕ) : Option Route → Type 0 where
  no_route : ((cs : Choice) → ¬ To h f rs o cs) → Routes h f rs o none
  routed : {r : Route} → Routed h f rs o r → Routes h f rs o (some r)

-- What a right route to a folio makes of the chapter is right.
pub through_right : (h : Galley) (f : ℕ) (some_folio_lem : 1 ≤ f) (g : Galley) (a : Alike h g) (rs : List Galley) (o next : ℕ)
    → like h.spec.sides next ≡ next → (r : Option Route) → Routes h f rs o r
    → Passes h f some_folio_lem g a rs o next (through h g (no_chapter rs) o next r)
unfolding through
through_right h f some_folio_lem g a rs o next l none (no_route empty) = no_pass (λ ps cs v. empty cs v.to)
through_right h f some_folio_lem g a rs o next l (some r) (routed b) =
    go (best_closing (open_on o g) (side h.spec.sides (o + next))) refl
    (closing_makes (open_on o g) (side h.spec.sides (o + next)))
  where
    go : (e : Option (List Place)) → best_closing (open_on o g) (side h.spec.sides (o + next)) ≡ e
        → MakesOf (open_on o g) (closing (open_on o g) (side h.spec.sides (o + next))) e
        → Passes h f some_folio_lem g a rs o next (elim e [
          | none ↦ none
          | some ps ↦ some (with_list h g (no_chapter rs) o r ps)
        ])
    go none is (impossible empty) = no_pass (λ ps cs v. empty ps v.closes)
    go (some ps) is (makes least) =
        let v : Via h f g rs o next ps b.choice = record { to = b.to; closes = least.lawful } in
        let t : r.turns + crossing h (no_chapter rs) o + turns (open_on o g) ps ≡ turns_back h f (g ∷ rs) (ps ∷ b.choice) =
        let t = b.turns in let u = via_turns h f some_folio_lem g a rs o next ps b.choice v l in omega arith in
        let w : r.white + white (open_on o g) ps ≡ sum_back white f (g ∷ rs) (ps ∷ b.choice) =
        let t = b.white in let u = via_white h f some_folio_lem g a rs o next ps b.choice v in omega arith in
        let on : Along h f (g ∷ rs) (ps ∷ b.choice) next (o ∷ r.folios) = unfold Along in (b.to.folio, is, b.along) in
        pass (record {
          pages = ps;
          choice = b.choice;
          via = v;
          ahead = through_first h f some_folio_lem g a rs o next ps b.choice l b.to b.ahead least;
          turns = t;
          white = w;
          starts = refl;
          along = on;
        })
