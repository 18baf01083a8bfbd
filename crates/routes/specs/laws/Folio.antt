-- A chapter opened on a folio: whatever that is, sides, rows and columns are the same.
use Rattle.std.specs.Prelude.{ℕ, ◌≡◌, Bool, true, false, List, eqb}
use Rattle.std.proofs.Math.Path.{refl}
use Rattle.std.proofs.Common.{sym, ◌∙◌, ap}
use Rattle.model.specs.Gather.{pick}
use Rattle.model.specs.Galley as model
use Rattle.model.specs.Galley.{single, double, streams, zeros}
use Rattle.model.specs.Leaf.{sides_of}
use Rattle.model.specs.Book.{open_on}
use Rattle.theorems.specs.pages.Graph.{side}
use Rattle.theorems.specs.books.Folios.{side_on}
use Rattle.theorems.specs.books.Turns.{Alike}
use Rattle.theorems.specs.books.Through.{side_alike}
use Rattle.galley.specs.declared.Galley.{Galley}
use Rattle.galley.specs.Model.{model_of}
use Rattle.places.specs.Columns.{float_sizes, place_at}
use Rattle.candidates.specs.Search.{before}
use Rattle.candidates.specs.Read.{columns_in}
use Rattle.chapters.specs.laws.Alike.{sides_on_lem}
use Rattle.walk.specs.Traceable.{Traceable}
use Rattle.closings.specs.Chapter.{on_folio, Tabled}
use Rattle.solving.specs.laws.Tabled.{tabled_traceable}
use Rattle.closings.specs.laws.Opened.{model_on_lem}

-- Sides do not depend on the folio,
pub side_of_lem : (n f e q : ℕ) → side (sides_of n f) q ≡ side (sides_of n e) q
side_of_lem n f e q = sym (side_on (sides_of n f) e q) ∙ ap (λ s. side s q) (sides_on_lem e n f)

-- nor does the side before one.
pub before_of : (n f e c : ℕ) → before (sides_of n f) c ≡ before (sides_of n e) c
unfolding sides_of before
before_of n f e c = go (eqb n 2)
  where
    go : (b : Bool) → before (pick b (double f) single) c ≡ before (pick b (double e) single) c
    go true = refl
    go false = refl

-- Chapters that are alike have the same sides.
pub alike_side : (h g : model.Galley) → Alike h g → (q : ℕ) → side g.spec.sides q ≡ side h.spec.sides q
unfolding open_on
alike_side h g a q = sym (side_on g.spec.sides 1 q) ∙ side_alike h g a 1 q

-- The places of a chapter are the same on all folios,
pub place_on_lem : (bytes : List ℕ) (g : Galley) (o i k : ℕ) → place_at (model_of bytes (on_folio o g)) i k ≡ place_at (model_of bytes g) i k
place_on_lem bytes g o i k = ap (λ m. place_at m i k) (model_on_lem bytes o g) ∙ plain (model_of bytes g)
  where
    plain : (m : model.Galley) → place_at (open_on o m) i k ≡ place_at m i k
    plain m = unfold open_on place_at float_sizes in refl

-- and so is that where nothing is placed.
pub zeros_on : (bytes : List ℕ) (g : Galley) (o : ℕ) → zeros (model_of bytes (on_folio o g)) ≡ zeros (model_of bytes g)
zeros_on bytes g o = ap zeros (model_on_lem bytes o g) ∙ plain (model_of bytes g)
  where
    plain : (m : model.Galley) → zeros (open_on o m) ≡ zeros m
    plain m = unfold open_on zeros streams in refl

-- A table from any folio can be walked.
pub table_walks : {bytes : List ℕ} {g : Galley} {w : List ℕ} (o : ℕ) → Tabled bytes (on_folio o g) w → Traceable g w
unfolding columns_in
table_walks {bytes} {g} {w} o tabled =
    let t = tabled_traceable tabled in
    record {
      lent = record {
        lines = t.lent.lines;
        floats = record { figures = t.lent.floats.figures; tables = t.lent.floats.tables };
        words = t.lent.words;
      };
      starts = λ a b c x s h k occurs e. t.starts a b c x s h k (side_of_lem g.spec.sides o g.folio c ∙ occurs) e;
    }
