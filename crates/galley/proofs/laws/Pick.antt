-- Laws of what a test decides.
use Rattle.std.specs.Prelude.{Bool, true, false, ◌||◌, ◌&&◌, ◌≡◌, refl}
use Rattle.model.specs.Gather.{pick}

-- What holds of each answer under its test holds of the answer picked.
pub pick_has : {A : Type 0} (P : A → Type 0) (x : Bool) (a b : A) → (x ≡ true → P a) → (x ≡ false → P b) → P (pick x a b)
pick_has P true a b f g = f refl
pick_has P false a b f g = g refl

-- None of two tests.
pub or_false : (a b : Bool) → (a || b) ≡ false → (a ≡ false) × (b ≡ false)
or_false true b h = let z : true ≡ false = h in (cc, cc)
or_false false b h = (refl, h)

-- Not both.
pub and_false : (a b : Bool) → (a && b) ≡ false → a ≡ true → b ≡ false
and_false true b h e = h
and_false false b h e = let z : false ≡ true = e in cc
