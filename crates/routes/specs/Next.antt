-- One chapter more: the routes after it, and the words that say where they come from.
use Rattle.std.specs.Prelude.{ℕ, suc, ◌+◌, ◌*◌, ◌≤◌, ◌<◌, ◌≡◌, List, ◌∷◌, length, get_or, set, eqb, Ok}
use Rattle.std.proofs.Math.Option.{some}
use Rattle.model.specs.Galley as model
use Rattle.model.specs.Book.{first_folio}
use Rattle.theorems.specs.books.Turns.{Alike, no_chapter}
use Rattle.theorems.specs.books.Routes as theorems
use Rattle.theorems.specs.books.Routes.{route}
use Rattle.theorems.specs.books.Engine.{comes_from}
use Rattle.galley.specs.declared.Galley.{Galley}
use Rattle.galley.specs.Whole.{galley_of}
use Rattle.galley.specs.Model.{model_of}
use Rattle.places.specs.Address.{words_needed}
use Rattle.chapters.specs.declared.Book.{Book}
use Rattle.chapters.specs.Book.{Chapter, read, book_of, models_of, chapter_start, chapter_bytes}
use Rattle.chapters.specs.Steps.{Reads, Numbered}
use Rattle.candidates.specs.Read.{columns_in}
use Rattle.routes.specs.declared.Routes.{Routes}
use Rattle.routes.specs.declared.Step.{Step}
use Rattle.routes.specs.Routes.{kept_of, first_routes, Routed}
use Rattle.routes.specs.Offer.{Cheap}

-- The bytes of chapter k, from 0, of a book, the routes before it, and memory that is long enough.
pub record NextRoom (bytes : List ℕ) (k : ℕ) (routes : Routes) (half : ℕ) (w from : List ℕ) : Type 0 where
  pub holds : Reads bytes
  pub room : (g : Galley) → galley_of bytes ≡ Ok g → words_needed g.text.count (columns_in g) ≤ half
  pub long : 2 * half ≤ length w
  pub few : k < 200
  pub one : Cheap k routes.one
  pub two : Cheap k routes.two
  pub words : length from ≡ 400

-- A step is the best route to the next folio after chapter g, and says where it comes from.
pub record Arrives (h : model.Galley) (f : ℕ) (g : model.Galley) (rs : List model.Galley) (next : ℕ) (r : Step) : Type 0 where
  pub best : r.route ≡ kept_of (route h f (g ∷ rs) next)
  pub from : (q : theorems.Route) → route h f (g ∷ rs) next ≡ some q → r.from ≡ comes_from h f g rs next

-- The routes after chapter k are right where those before it are.
pub record Onward (bytes : List ℕ) (k : ℕ) (routes : Routes) (from : List ℕ) (r : Routes) (from' : List ℕ) : Type 0 where
  pub first : Step
  pub second : Step
  pub one : r.one ≡ first.route
  pub two : r.two ≡ second.route
  pub kept : from' ≡ set (set from (2 * k) first.from) (2 * k + 1) second.from
  pub cheap_one : Cheap (suc k) r.one
  pub cheap_two : Cheap (suc k) r.two
  pub right : (h : model.Galley) (f : ℕ) (rs : List model.Galley) (g : Galley) → galley_of bytes ≡ Ok g → Alike h (model_of bytes g)
      → no_chapter rs ≡ eqb k 0 → routes.one ≡ kept_of (route h f rs 1) → routes.two ≡ kept_of (route h f rs 2)
      → Arrives h f (model_of bytes g) rs 1 first × Arrives h f (model_of bytes g) rs 2 second

-- The bytes of chapter k, from 0, stand within those of the book, and hold a galley.
pub record Lies (bytes lengths : List ℕ) (k : ℕ) : Type 0 where
  pub numbered : Numbered lengths (k + 1)
  pub within : chapter_start lengths k + get_or lengths k 0 ≤ length bytes
  pub holds : Reads (chapter_bytes bytes lengths k)

-- The routes are those before the first chapter.
abbrev pub Opens : List ℕ → List ℕ → Routes → Type 0
Opens bytes lengths r =
    (g : Galley) → galley_of (chapter_bytes bytes lengths 0) ≡ Ok g → r ≡ first_routes g.spec.sides g.folio

-- Before chapter k of a book that was read.
pub record Routing (bytes lengths : List ℕ) (book : Book) (w₀ w : List ℕ) (k : ℕ) (routes : Routes) (from : List ℕ) : Type 0 where
  pub few : k ≤ book.chapters
  pub long : length w ≡ length w₀
  pub words : length from ≡ 400
  pub one : Cheap k routes.one
  pub two : Cheap k routes.two
  pub right : (c : Chapter) (cs : List Chapter) → book_of bytes lengths ≡ read (c ∷ cs)
      → (let gs = models_of (c ∷ cs) in Routed (model_of c.bytes c.galley) (first_folio gs) gs k routes from)

-- After all chapters of a book that was read the routes are those of the theorem; the work area is as long as before.
pub record AllRouted (bytes lengths w w' : List ℕ) (routes : Routes) (from : List ℕ) : Type 0 where
  pub long : length w' ≡ length w
  pub right : (c : Chapter) (cs : List Chapter) → book_of bytes lengths ≡ read (c ∷ cs)
      → (let gs = models_of (c ∷ cs) in Routed (model_of c.bytes c.galley) (first_folio gs) gs (length gs) routes from)
