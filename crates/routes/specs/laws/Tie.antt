-- The tie between two offers: their lists have different numbers of pages, so that their starts differ, and the walks side by side tell
-- which are preferred.
use Rattle.std.specs.Prelude.{ℕ, ◌+◌, ◌≡◌, List, [], map, length}
use Rattle.std.proofs.Common.{arith, ◌∙◌, ap}
use Rattle.std.proofs.Math.Path.{refl, sym}
use Rattle.std.proofs.lemmas.List.{length-map}
use Rattle.model.specs.Galley as model
use Rattle.model.specs.Galley.{Sides, single, double}
use Rattle.model.specs.Order.{lex, geb, starts_of}
use Rattle.theorems.specs.pages.Graph.{side, place_of}
use Rattle.theorems.specs.books.Folios.{like}
use Rattle.theorems.specs.books.Turns.{Alike}
use Rattle.theorems.specs.books.Through.{like_alike}
use Rattle.theorems.specs.books.Routes as theorems
use Rattle.galley.specs.declared.Galley.{Galley}
use Rattle.galley.specs.Model.{sides_in, model_of}
use Rattle.places.specs.declared.Place.{Place as Start}
use Rattle.places.specs.Columns.{columns, float_sizes}
use Rattle.candidates.specs.Read.{table_in, columns_in}
use Rattle.candidates.specs.Search.{Table}
use Rattle.candidates.proofs.laws.Columns.{columns_in_lem}
use Rattle.walk.specs.declared.Stop.{Stop}
use Rattle.walk.specs.Trace.{start_of, entry_of, back}
use Rattle.walk.specs.Traceable.{blocks_in}
use Rattle.solving.specs.Shown.{at}
use Rattle.closings.specs.Chapter.{on_folio}
use Rattle.closings.specs.laws.Chapter.{proper, right, fill, closed_long, closed_side}
use Rattle.closings.specs.laws.Later.{later_walks}
use Rattle.routes.specs.Offer.{closing_from, later_from}
use Rattle.routes.specs.laws.Folio.{side_of_lem, before_of, place_on_lem, zeros_on}
use Rattle.routes.specs.laws.Through.{closes, occurs, View}

-- From folios 1 and 2 lists close on different sides.
sides_differ : (s : Sides) (next : ℕ) → like s 2 ≡ 2 → side s (1 + next) ≡ side s (2 + next) → ⊥
unfolding like side
sides_differ single next l e = omega arith
sides_differ (double f) next l e = omega arith

-- A step back does not depend on the folio.
back_on : (g : Galley) (o : ℕ) (t : Table) (s : Stop) → back (sides_in (on_folio o g)) t s ≡ back (sides_in g) t s
back_on g o t s =
    ap (λ (c : ℕ). record { place = start_of (entry_of t s) s.place; side = c }) (before_of g.spec.sides o g.folio s.side)

module _ (h : model.Galley) {bytes : List ℕ} {g : Galley} (a : Alike h (model_of bytes g)) (next : ℕ) {w v : List ℕ} (r q : theorems.Route)
    (x : View h bytes g a 1 next w r) (y : View h bytes g a 2 next v q) (double_sided : like h.spec.sides 2 ≡ 2) where
  starts_differ : ¬ (map place_of x.list.stops ≡ map place_of y.list.stops)
  starts_differ e =
      let one = x.table in
      let two = y.table in
      let long = ap length e in
      let first = length-map x.list.stops place_of in
      let second = length-map y.list.stops place_of in
      let pages = closed_long one (closes h bytes g a 1 next one) (occurs h bytes g a 1 next one) x.cost x.list in
      let others = closed_long two (closes h bytes g a 2 next two) (occurs h bytes g a 2 next two) y.cost y.list in
      let same : length x.list.pages ≡ length y.list.pages = omega arith in
      sides_differ (sides_in g) next (like_alike h (model_of bytes g) a 2 ∙ double_sided)
      (sym (closed_side one (closes h bytes g a 1 next one) (occurs h bytes g a 1 next one) x.cost x.list)
      ∙ side_of_lem g.spec.sides 1 2 (length x.list.pages)
      ∙ ap (side (sides_in (on_folio 2 g))) same
      ∙ closed_side two (closes h bytes g a 2 next two) (occurs h bytes g a 2 next two) y.cost y.list)

  -- The starts of a list are those that the walk back meets.
  first_starts : r.starts ≡ map place_of x.list.stops
  first_starts = x.starts ∙ ap (λ z. starts_of z x.list.pages []) (sym (zeros_on bytes g 1)) ∙ x.list.starts

  second_starts : q.starts ≡ map place_of y.list.stops
  second_starts = y.starts ∙ ap (λ z. starts_of z y.list.pages []) (sym (zeros_on bytes g 2)) ∙ y.list.starts

  pub later-right : later_from g w v next ≡ lex (lex geb) r.starts q.starts
  unfolding columns_in
  later-right =
      rw (first_starts, second_starts)
      (later_walks (model_of bytes (on_folio 1 g)) (model_of bytes (on_folio 2 g)) alike wide (zeros_on bytes g 2 ∙ sym (zeros_on bytes g 1)) refl
      (sides_in g) (table_in g w) (table_in g v) (back_on g 1 (table_in g w)) (back_on g 2 (table_in g v)) (proper x.table) (proper y.table)
      (right x.table) (right y.table) (fill x.table) (fill y.table) x.list.stops y.list.stops (blocks_in g)
      (closing_from g 1 next) (closing_from g 2 next) x.list.walks y.list.walks refl x.list.few starts_differ)
    where
      alike : (s : Start) → at (model_of bytes (on_folio 2 g)) s ≡ at (model_of bytes (on_folio 1 g)) s
      alike s = place_on_lem bytes g 2 s.line s.column ∙ sym (place_on_lem bytes g 1 s.line s.column)

      wide : columns (float_sizes (model_of bytes (on_folio 2 g))) ≡ columns (float_sizes (model_of bytes (on_folio 1 g)))
      wide = columns_in_lem bytes (on_folio 2 g) ∙ sym (columns_in_lem bytes (on_folio 1 g))
