-- What a folio offers the next is what the theorem has: its route, through the chapter by the best list that closes so.
use Rattle.std.specs.Prelude.{ℕ, ◌+◌, ◌*◌, Bool, true, false, List, [], ◌∷◌}
use native.Mathlib.Omega.{arith}
use Rattle.std.proofs.Math.Path.{◌≡◌, refl, subst}
use Rattle.std.proofs.Common.{sym, ◌∙◌, ap}
use Rattle.std.proofs.Math.Option.{Option, none, some}
use Rattle.model.specs.Gather.{pick, one}
use Rattle.model.specs.Galley as model
use Rattle.model.specs.Galley.{zeros}
use Rattle.model.specs.Leaf.{ends, sides_of}
use Rattle.model.specs.Turns.{turns}
use Rattle.model.specs.White.{white}
use Rattle.model.specs.Order.{starts_of}
use Rattle.model.specs.Book.{open_on}
use Rattle.theorems.specs.pages.Graph.{side}
use Rattle.theorems.specs.books.Closing.{best_closing}
use Rattle.theorems.specs.books.Turns.{Alike, crossing}
use Rattle.theorems.specs.books.Routes.{through}
use Rattle.theorems.specs.books.Routes as theorems
use Rattle.galley.specs.declared.Galley.{Galley}
use Rattle.galley.specs.Model.{sides_in, model_of}
use Rattle.places.specs.declared.Place.{Place as Start}
use Rattle.places.specs.Entry.{Entry, least}
use Rattle.std.specs.Prelude.{None, Some}
use Rattle.candidates.specs.Read.{table_in, columns_in}
use Rattle.walk.specs.Trace.{entry_of}
use Rattle.chapters.specs.laws.Alike.{sides_on_lem}
use Rattle.closings.specs.Chapter.{on_folio, Tabled}
use Rattle.closings.specs.laws.Opened.{model_on_lem}
use Rattle.closings.specs.laws.Chapter.{closed_none, Closes, closed_best, closed_costs}
use Rattle.theorems.specs.pages.Sides.{side_side}
use Rattle.routes.specs.Routes.{kept_of, is_reached}
use Rattle.routes.specs.Offer.{turn_to, passed, closing_from}
use Rattle.routes.specs.laws.Folio.{side_of_lem, alike_side}

-- What is turned to a chapter, by the weights that all share.
pub turn_crossing : (h : model.Galley) (bytes : List ℕ) (g : Galley) → Alike h (model_of bytes g) → (first : Bool) (o : ℕ)
    → crossing h first o ≡ turn_to g first o
unfolding crossing
turn_crossing h bytes g a first o =
    rw (← a.beta, ← a.sides o, sides_on_lem o g.spec.sides g.folio) (go first (ends (sides_of g.spec.sides o) 0))
  where
    go : (first b : Bool) → pick first 0 (g.spec.beta * one b) ≡ pick first 0 (pick b g.spec.beta 0)
    go true b = refl
    go false true = omega arith
    go false false = omega arith

-- A route through a chapter, where no list closes so and where one does.
module _ (h g : model.Galley) (first : Bool) (o next : ℕ) (r : theorems.Route) where
  through_none : best_closing (open_on o g) (side h.spec.sides (o + next)) ≡ none → through h g first o next (some r) ≡ none
  unfolding through
  through_none e = rw (e, through) refl

  pub through_some : (ps : List model.Place) → best_closing (open_on o g) (side h.spec.sides (o + next)) ≡ some ps
      → through h g first o next (some r)
      ≡ some (record {
        turns = r.turns + crossing h first o + turns (open_on o g) ps;
        white = r.white + white (open_on o g) ps;
        folios = o ∷ r.folios;
        starts = starts_of (zeros g) ps [];
      })
  unfolding through
  through_some ps e = rw (e, through) refl

-- A chapter alike another, opened on folio o, and its table from there.
module _ (h : model.Galley) (bytes : List ℕ) (g : Galley) (a : Alike h (model_of bytes g)) (o next : ℕ) {w : List ℕ}
    (tabled : Tabled bytes (on_folio o g) w) where
  -- The side on which a list closes that leads to the next folio.
  abbrev pub closes : ℕ
  closes = side (sides_in g) (o + next)

  pub occurs : side (sides_in (on_folio o g)) closes ≡ closes
  occurs = side_of_lem g.spec.sides o g.folio closes ∙ side_side (sides_in g) (o + next)

  -- The best list that does, as the theorem has it.
  best_on : (r : Option (List model.Place)) → best_closing (model_of bytes (on_folio o g)) closes ≡ r
      → best_closing (open_on o (model_of bytes g)) (side h.spec.sides (o + next)) ≡ r
  best_on r e =
      ap (best_closing (open_on o (model_of bytes g))) (sym (alike_side h (model_of bytes g) a (o + next)))
      ∙ ap (λ m. best_closing m closes) (sym (model_on_lem bytes o g))
      ∙ e

  module _ (first : Bool) (r : theorems.Route) where
    -- Where no list closes so, the folio offers nothing;
    pub offered_none : entry_of (table_in g w) (closing_from g o next) ≡ None → through h (model_of bytes g) first o next (some r) ≡ none
    unfolding columns_in
    offered_none e = through_none h (model_of bytes g) first o next r (best_on none (closed_none tabled closes occurs e))

    -- else it offers the best list that does.
    pub record Offered (x : ℕ) : Type 0 where
      pub list : Closes tabled closes occurs x
      pub is : through h (model_of bytes g) first o next (some r)
          ≡ some (record {
            turns = r.turns + turn_to g first o + turns (model_of bytes (on_folio o g)) list.pages;
            white = r.white + white (model_of bytes (on_folio o g)) list.pages;
            folios = o ∷ r.folios;
            starts = starts_of (zeros (model_of bytes g)) list.pages [];
          })

    pub offered_some : (x : ℕ) (s : Start) → entry_of (table_in g w) (closing_from g o next) ≡ least x s → Offered x
    unfolding columns_in
    offered_some x s e =
        let k = closed_best tabled closes occurs x s e in
        record {
          list = k;
          is =
              subst
              (λ m. through h (model_of bytes g) first o next (some r)
              ≡ some (record {
                turns = r.turns + turn_to g first o + turns m k.pages;
                white = r.white + white m k.pages;
                folios = o ∷ r.folios;
                starts = starts_of (zeros (model_of bytes g)) k.pages [];
              })) (sym (model_on_lem bytes o g))
              (rw (← turn_crossing h bytes g a first o) (through_some h (model_of bytes g) first o next r k.pages (best_on (some k.pages) k.best)));
        }

-- What the code offers is what is kept of it.
pub offer_kept : (h : model.Galley) (bytes : List ℕ) (g : Galley) → Alike h (model_of bytes g) → (first : Bool) (o next : ℕ) {w : List ℕ} (q : Option theorems.Route)
    → (is_reached (kept_of q) ≡ true → Tabled bytes (on_folio o g) w)
    → passed (kept_of q) (turn_to g first o) (entry_of (table_in g w) (closing_from g o next)) ≡ kept_of (through h (model_of bytes g) first o next q)
offer_kept h bytes g a first o next none tabled = unfold through in refl
offer_kept h bytes g a first o next {w} (some r) tabled = go (entry_of (table_in g w) (closing_from g o next)) refl
  where
    table : Tabled bytes (on_folio o g) w
    table = tabled refl

    go : (e : Entry) → entry_of (table_in g w) (closing_from g o next) ≡ e
        → passed (kept_of (some r)) (turn_to g first o) e ≡ kept_of (through h (model_of bytes g) first o next (some r))
    go None e = sym (ap kept_of (offered_none h bytes g a o next table first r e))
    go (Some l) e =
        let k = offered_some h bytes g a o next table first r l.cost l.start e in
        let (high, low) = closed_costs table (closes h bytes g a o next table) (occurs h bytes g a o next table) l.cost k.list in
        rw (k.is, ← high, ← low) refl

-- A route that is offered goes by the best list from a table, and has its starts.
pub record View (h : model.Galley) (bytes : List ℕ) (g : Galley) (a : Alike h (model_of bytes g)) (o next : ℕ) (w : List ℕ) (r : theorems.Route) : Type 0 where
  pub table : Tabled bytes (on_folio o g) w
  pub cost : ℕ
  pub list : Closes table (closes h bytes g a o next table) (occurs h bytes g a o next table) cost
  pub starts : r.starts ≡ starts_of (zeros (model_of bytes g)) list.pages []

pub offer_view : (h : model.Galley) (bytes : List ℕ) (g : Galley) (a : Alike h (model_of bytes g)) (first : Bool) (o next : ℕ) {w : List ℕ} (q : Option theorems.Route)
    → (is_reached (kept_of q) ≡ true → Tabled bytes (on_folio o g) w) → (r : theorems.Route) → through h (model_of bytes g) first o next q ≡ some r
    → View h bytes g a o next w r
offer_view h bytes g a first o next none tabled r is = absurd (no_route (unfold through in is))
  where
    no_route : ◌≡◌ {A = Option theorems.Route} none (some r) → ⊥
    no_route e = let z : ◌≡◌ {A = ℕ} 0 1 = cc in omega arith
offer_view h bytes g a first o next {w} (some q) tabled r is = go (entry_of (table_in g w) (closing_from g o next)) refl
  where
    table : Tabled bytes (on_folio o g) w
    table = tabled refl

    starts_in : Option theorems.Route → List model.Place
    starts_in none = []
    starts_in (some q) = q.starts

    go : (e : Entry) → entry_of (table_in g w) (closing_from g o next) ≡ e → View h bytes g a o next w r
    go None e =
        let p = sym (offered_none h bytes g a o next table first q e) ∙ is in
        let z : ◌≡◌ {A = ℕ} 0 1 = cc in
        absurd (omega arith)
    go (Some l) e =
        let k = offered_some h bytes g a o next table first q l.cost l.start e in
        let p = sym k.is ∙ is in
        record {
          table = table;
          cost = l.cost;
          list = k.list;
          starts = ap starts_in (sym p);
        }
