-- A chapter opened on a folio is the page model's opened there, and begins where nothing is placed.
use Rattle.std.specs.Prelude.{ℕ, zero, suc, ◌≡◌, Bool, true, List, ◌∷◌, eqb}
use Rattle.std.proofs.Math.Nat.{zero-div, zero-mod}
use Rattle.std.proofs.Math.Path.{refl, fun_ext}
use Rattle.std.proofs.Common.{◌∙◌, ap}
use Rattle.std.proofs.Math.Bool.{false}
use Rattle.model.specs.Gather.{pick, row}
use Rattle.model.specs.Galley as model
use Rattle.model.specs.Galley.{single, double, respecified, streams, zeros}
use Rattle.model.specs.Leaf.{sides_of}
use Rattle.model.specs.Book.{sides_on, open_on}
use Rattle.galley.specs.declared.Galley.{Galley}
use Rattle.galley.specs.Model.{streams_of, float_streams, model_of}
use Rattle.places.specs.Columns.{columns, float_sizes, floats_at, place_at}
use Rattle.closings.specs.Chapter.{on_folio}

-- The galley opened on a folio is the model's chapter opened there.
pub model_on_lem : (bytes : List ℕ) (f : ℕ) (g : Galley) → model_of bytes (on_folio f g) ≡ open_on f (model_of bytes g)
unfolding open_on sides_of float_streams
model_on_lem bytes f g =
    ap (λ (t : ℕ → model.Stream). record { spec = (model_of bytes (on_folio f g)).spec; floats = float_streams g; stream = t }) (fun_ext stream)
    ∙ ap (λ (s : model.Sides). respecified g.spec.htmin s g.spec.lastmin (model_of bytes g)) (sides (eqb g.spec.sides 2))
  where
    stream : (s : ℕ) → streams_of bytes (on_folio f g) s ≡ streams_of bytes g s
    stream zero = refl
    stream (suc zero) = refl
    stream (suc (suc s)) = refl

    sides : (b : Bool) → pick b (double f) single ≡ sides_on f (pick b (double g.folio) single)
    sides true = unfold sides_on in refl
    sides false = unfold sides_on in refl

-- Where nothing is placed, line and column are 0.
none_placed : (a n : ℕ) (f : ℕ → ℕ) → floats_at (row a n f) 0 ≡ row a n (λ s. 0)
unfolding floats_at row
none_placed a zero f = refl
none_placed a (suc n) f =
    let d = zero-div (columns (row (suc a) n f)) in
    let m = zero-mod (columns (row (suc a) n f)) in
    let rest = none_placed (suc a) n f in
    rw (d, m, rest) refl

pub place_zeros : (g : model.Galley) → place_at g 0 0 ≡ zeros g
unfolding place_at float_sizes zeros streams row
place_zeros g = ap (λ l. 0 ∷ l) (none_placed 1 g.floats (λ s. (g.stream s).size))
