-- How a book is made: chapter after chapter the best route to each folio on which the next may open, from the best lists that close on
-- each side. Folios are 1 and 2, since only the parity matters.
use Rattle.std.specs.Prelude.{ℕ, ◌+◌, ◌≡◌, Bool, List, [], ◌∷◌, leb, eqb}
use Rattle.std.proofs.Math.Option.{Option, none, some}
use Rattle.model.specs.Gather.{pick}
use Rattle.model.specs.Galley.{Galley, Place, zeros}
use Rattle.model.specs.Turns.{turns}
use Rattle.model.specs.White.{white}
use Rattle.model.specs.Order.{then_by, by, lex, geb, starts_of}
use Rattle.model.specs.Book.{open_on, Choice}
use Rattle.theorems.specs.pages.Graph.{side}
use Rattle.theorems.specs.books.Folios.{like}
use Rattle.theorems.specs.books.Closing.{best_closing}
use Rattle.theorems.specs.books.Backward.{pages_in}
use Rattle.theorems.specs.books.Turns.{no_chapter, crossing}

-- What is kept of a choice that leads to a folio: its turns and its white, the folios on which its chapters open and the starts of its
-- last chapter's pages, the last first.
pub record Route : Type 0 where
  pub turns : ℕ
  pub white : ℕ
  pub folios : List ℕ
  pub starts : List Place

-- The first of two routes to one folio that come from different ones: by turns, by white, by the starts in the last chapter. There they
-- differ, since their numbers of pages do.
unfoldable pub preferred : Route → Route → Bool
preferred = then_by (by (λ r. r.turns) leb) (then_by (by (λ r. r.white) leb) (by (λ r. r.starts) (lex (lex geb))))

-- The preferred of what two folios offer.
unfoldable pub choose : Option Route → Option Route → Option Route
choose none b = b
choose (some a) none = some a
choose (some a) (some b) = some (pick (preferred a b) a b)

-- A route to folio o with a list of chapter g after it. `first` says that g is the first chapter.
abbrev pub with_list : Galley → Galley → Bool → ℕ → Route → List Place → Route
with_list h g first o r ps =
    record {
      turns = r.turns + crossing h first o + turns (open_on o g) ps;
      white = r.white + white (open_on o g) ps;
      folios = o ∷ r.folios;
      starts = starts_of (zeros g) ps [];
    }

-- A route to folio o goes on to the next through chapter g, by the best list that is valid there and closes so.
unfoldable pub through : Galley → Galley → Bool → ℕ → ℕ → Option Route → Option Route
through h g first o next none = none
through h g first o next (some r) =
    elim (best_closing (open_on o g) (side h.spec.sides (o + next))) [
      | none ↦ none
      | some ps ↦ some (with_list h g first o r ps)
    ]

-- The best route to a folio after the chapters, of which the last comes first; the first opens on folio f.
unfoldable pub route : Galley → ℕ → List Galley → ℕ → Option Route
route h f [] next =
    pick (eqb next (like h.spec.sides f)) (some (record { turns = 0; white = 0; folios = []; starts = [] })) none
route h f (g ∷ rs) next =
    pick (eqb (like h.spec.sides next) next)
    (choose (through h g (no_chapter rs) 1 next (route h f rs 1)) (through h g (no_chapter rs) 2 next (route h f rs 2))) none

-- The chapters, the last first, as a route makes them: each by the best list from its folio, which is as odd as the one on which it opens,
-- to the next.
unfoldable pub Along : Galley → ℕ → List Galley → Choice → ℕ → List ℕ → Type 0
Along h f [] [] next [] = Unit {0}
Along h f [] [] next (o ∷ os) = ⊥
Along h f [] (ps ∷ cs) next os = ⊥
Along h f (g ∷ rs) [] next os = ⊥
Along h f (g ∷ rs) (ps ∷ cs) next [] = ⊥
Along h f (g ∷ rs) (ps ∷ cs) next (o ∷ os) =
    (like h.spec.sides (f + pages_in cs) ≡ o)
    × (best_closing (open_on o g) (side h.spec.sides (o + next)) ≡ some ps)
    × Along h f rs cs o os

-- At the end the side with the least cost is taken, and at equal cost that of an even last folio, after which folio 1 would follow.
unfoldable pub cheaper : Route → Route → Bool
cheaper = then_by (by (λ r. r.turns) leb) (by (λ r. r.white) leb)

unfoldable pub finish : Option Route → Option Route → Option Route
finish none b = b
finish (some a) none = some a
finish (some a) (some b) = some (pick (cheaper a b) a b)

-- The folio that follows it: 0 where there is neither route.
unfoldable pub ending : Option Route → Option Route → ℕ
ending none none = 0
ending none (some b) = 2
ending (some a) none = 1
ending (some a) (some b) = pick (cheaper a b) 1 2
