-- The first of two ways to the end is the preferred of their lists by document 01's ties: at the end the side of the last page
-- decides, and from there back the sides agree, so that the places decide.
use Prim.Native.Nat.{ℕ, suc, ◌+◌, ◌≤◌}
use Rattle.std.proofs.Math.Nat.{le_of_eq}
use Rattle.std.proofs.Common.{arith, sym, ◌∙◌, ap}
use Rattle.std.specs.Prelude.{◌≡◌, refl, ◌↔◌, true, ◌&&◌, length, leb}
use Rattle.std.proofs.Math.Bool.{Bool}
use mathlib.Core.List.{List, [], ◌∷◌, ◌++◌, map}
use borrow.Author.Tests.{leb-true, le-leb}
use Rattle.model.specs.Gather.{implies}
use Rattle.model.specs.Galley.{Galley, Place, sizes}
use Rattle.model.specs.Order.{then_by, by, lex, geb, oddly, starts_of}
use Rattle.model.proofs.laws.Gather.{and_left, and_right, and_both, implies_at, implies_of}
use Rattle.model.proofs.laws.Order.{preference_refl, lex_preference, geb_preference}
use Rattle.theorems.specs.optimality.Graph.{Way, total, First}
use Rattle.theorems.specs.turns.Rank.{ranked}
use Rattle.theorems.specs.pages.Graph.{State, stop, end, side, place_of, Origin, Within, PageStep, Step, Prefers, page_graph, page_at, pages_on}
use Rattle.theorems.specs.pages.Sides.{side_side, side_back, oddly_side, oddly_back}
use Rattle.theorems.specs.pages.Laws.{later_refl, later_antisymm, prefers_side, no_origin}
use Rattle.theorems.specs.pages.Ways.{way_side}
use Rattle.theorems.specs.pages.Lists.{Ends, way_ends, way_costs}

-- Document 01's ties for lists that go on from an origin: in double-sided work an even last folio, then the later starts, of
-- which `earlier` are those of the pages before the origin.
unfoldable pub ties : Galley → Origin → List Place → List Place → List Place → Bool
ties g from earlier =
    then_by (by (λ ps. oddly g.spec.sides (from.pages + length ps)) leb)
    (by (λ ps. starts_of from.place ps earlier) (lex (lex geb)))

-- The order of preference for lists that go on from an origin: by what all pages cost with their white, and then by the ties.
unfoldable pub before_from : Galley → Origin → List Place → List Place → List Place → Bool
before_from g from earlier = then_by (by (λ ps. from.cost + ranked g (suc from.pages) from.place ps) leb) (ties g from earlier)

-- One order and then another, read from its test.
then_iff : (a c b : Bool) → (a && implies c b ≡ true) ↔ ((a ≡ true) × (c ≡ true → b ≡ true))
then_iff a c b = (
  λ h. (and_left a (implies c b) h, implies_at c b (and_right a (implies c b) h)),
  λ h. and_both h.0 (implies_of c b h.1),
)

module _ (g : Galley) (from : Origin) where
  -- Two pages from one place to one stop are the same step.
  same_side : (u v : Place) (b d c : ℕ) → PageStep g from u b v c → PageStep g from u d v c → b ≡ d
  unfolding Within
  same_side u v b d c p q =
      side_back g.spec.sides b d p.within.1 q.within.1 (sym p.next ∙ q.next)

  module _ (earlier : List Place) where
    -- Of two ways to a stop the first is the one with the preferred starts, whatever starts came before.
    first_starts : (us ws : List State) (v : Place) (c : ℕ) → Way (page_graph g from) us (stop v c)
        → Way (page_graph g from) ws (stop v c)
        → First (page_graph g from) us ws ↔ (lex (lex geb) (map place_of us ++ earlier) (map place_of ws ++ earlier) ≡ true)
    unfolding Way Step First Prefers lex place_of
    first_starts [] [] v c x y = (λ f. preference_refl (lex_preference (lex geb) (lex_preference geb geb_preference)) earlier, λ h. tt)
    first_starts [] (s ∷ ws) v c x y = absurd (no_origin g from s (stop v c) y.0 x)
    first_starts (s ∷ us) [] v c x y = absurd (no_origin g from s (stop v c) x.0 y)
    first_starts (end ∷ us) (s ∷ ws) v c x y = absurd x.0
    first_starts (stop u b ∷ us) (end ∷ ws) v c x y = absurd y.0
    first_starts (stop u b ∷ us) (stop w d ∷ ws) v c x y =
        let rest : Bool = lex (lex geb) (map place_of us ++ earlier) (map place_of ws ++ earlier) in
        let same : u ≡ w → b ≡ d = λ e. same_side u v b d c x.0 (rw (← e) at y.0) in
        let next : u ≡ w → First (page_graph g from) us ws ↔ (rest ≡ true) =
        λ e. first_starts us ws u b x.1 (rw (← e, ← same e) at y.1) in (
          λ f. (then_iff (lex geb u w) (lex geb w u) rest).1
              (f.0.0, λ k. let e = later_antisymm u w f.0.0 k in let s = same e in (next e).0 (f.1 (cc))),
          λ h. let (l, k) = (then_iff (lex geb u w) (lex geb w u) rest).0 h in (
            (l, λ e. (le_of_eq (ap (oddly g.spec.sides) (same e)), λ q. le_of_eq (same e))),
            λ e. let p : u ≡ w = cc in (next p).1 (k (rw p (later_refl w))),
          ),
        )

    -- The side on which a way ends tells whether the last folio is odd,
    end_side : (us : List State) (e : Ends g from us)
        → oddly g.spec.sides (from.pages + length (pages_on us)) ≡ oddly g.spec.sides e.side
    end_side us e =
        let long : from.pages + length (pages_on us) ≡ page_at from e.stops = let l = e.read.long in omega arith in
        rw (long, way_side g from e.stops (sizes g) e.side e.way) (oddly_side g.spec.sides (page_at from e.stops))

    -- and is one that occurs.
    end_occurs : (us : List State) (e : Ends g from us) → side g.spec.sides e.side ≡ e.side
    end_occurs us e =
        rw (way_side g from e.stops (sizes g) e.side e.way) (side_side g.spec.sides (page_at from e.stops))

    -- The starts of a way's list are the places of its stops.
    end_starts : (us : List State) (e : Ends g from us)
        → starts_of from.place (pages_on us) earlier ≡ map place_of e.stops ++ earlier
    unfolding starts_of
    end_starts us e = e.read.starts earlier

    -- Of two ways to the end the first is the one whose list is ahead by the ties.
    first_ties : (us ws : List State) → Way (page_graph g from) us end → Way (page_graph g from) ws end
        → First (page_graph g from) us ws ↔ (ties g from earlier (pages_on us) (pages_on ws) ≡ true)
    unfolding ties then_by by First Prefers
    first_ties us ws w x = go (way_ends g from us w) (way_ends g from ws x)
      where
        go : Ends g from us → Ends g from ws
            → First (page_graph g from) us ws ↔ (ties g from earlier (pages_on us) (pages_on ws) ≡ true)
        go e f =
            let rest : Bool = lex (lex geb) (map place_of e.stops ++ earlier) (map place_of f.stops ++ earlier) in
            let next : e.side ≡ f.side → First (page_graph g from) e.stops f.stops ↔ (rest ≡ true) =
            λ s. first_starts e.stops f.stops (sizes g) e.side e.way (rw (← s) at f.way) in
            let odd : ℕ → ℕ = oddly g.spec.sides in
            let same : odd e.side ≡ odd f.side → e.side ≡ f.side =
            oddly_back g.spec.sides e.side f.side (end_occurs us e) (end_occurs ws f) in
            let both = then_iff (leb (odd e.side) (odd f.side)) (leb (odd f.side) (odd e.side)) rest in
            simp (end_side us e, end_side ws f, end_starts us e, end_starts ws f) (
              λ h. let (p, n) = rw (e.last, f.last) at h in
                  let l = (p.1 refl).0 in
                  both.1 (
                    le-leb _ _ l,
                    λ k.
                        let m = leb-true (odd f.side) (odd e.side) k in
                        let s : e.side ≡ f.side = same (omega arith) in
                        (next s).0 (n (cc)),
                  ),
              λ h. let (l, k) = both.0 h in
                  rw (e.last, f.last) (
                    prefers_side g.spec.sides (sizes g) e.side f.side (leb-true _ _ l) (λ q. le_of_eq (same q)),
                    λ q.
                        let s : e.side ≡ f.side = cc in
                        (next s).1 (k (le-leb _ _ (le_of_eq (ap odd (sym s))))),
                  ),
            )

    -- Of two ways to the end the one with the preferred list costs no more, and where it costs as much it is the first.
    pub before_ways : (us ws : List State) → Way (page_graph g from) us end → Way (page_graph g from) ws end
        → (before_from g from earlier (pages_on us) (pages_on ws) ≡ true)
        ↔ ((total (page_graph g from) us end ≤ total (page_graph g from) ws end)
        × (total (page_graph g from) ws end ≡ total (page_graph g from) us end → First (page_graph g from) us ws))
    unfolding before_from then_by by
    before_ways us ws w x =
        let cost : List Place → ℕ = λ ps. from.cost + ranked g (suc from.pages) from.place ps in
        let both =
        then_iff (leb (cost (pages_on us)) (cost (pages_on ws))) (leb (cost (pages_on ws)) (cost (pages_on us)))
        (ties g from earlier (pages_on us) (pages_on ws)) in
        rw (way_costs g from us w, way_costs g from ws x) (
          λ h. let (l, f) = both.0 h in
              (leb-true _ _ l, λ e. (first_ties us ws w x).1 (f (le-leb _ _ (le_of_eq e)))),
          λ h. both.1 (
            le-leb _ _ h.0,
            λ k.
                let l = leb-true (cost (pages_on ws)) (cost (pages_on us)) k in
                let m = h.0 in
                (first_ties us ws w x).0 (h.1 (omega arith)),
          ),
        )
