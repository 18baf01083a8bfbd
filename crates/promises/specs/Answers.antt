-- What has to be shown of an answer, of making or of marking: of each refusal that comes before a list is looked at, and of what
-- the page model answers for the galley that was read.
use Rattle.std.specs.Prelude.{ℕ, ◌≤◌, ◌≡◌, ◌⊎◌, Bool, true, false, ◌||◌, List, ltb, Err, Ok}
use native.Mathlib.Omega.{arith}
use Rattle.std.proofs.Math.Path.{refl}
use Rattle.model.specs.Gather.{pick}
use Rattle.model.specs.Answers.{marked, Answer, refused}
use Rattle.model.specs.Best.{made}
use Rattle.galley.specs.declared.Galley.{Galley}
use Rattle.galley.specs.Whole.{galley_of, Reading}
use Rattle.galley.specs.Model.{model_of}
use Rattle.galley.proofs.laws.Sound.{refusal_number}
use Rattle.marking.specs.Mark.{mark_read, mark_of}
use Rattle.needs.specs.Needs.{work_needed, list_needed}
use Rattle.making.specs.Make.{make_read, make_of}

-- The numbers with which marking may refuse: those of a galley and those of a list (document 01, "Numbers that turn work away").
abbrev pub ByMarking : ℕ → Type 0
ByMarking n = ((1 ≤ n) × (n ≤ 8)) ⊎ ((12 ≤ n) × (n ≤ 18))

-- The numbers with which making may refuse: those of a galley, of lent memory, and 11 (the same).
abbrev pub ByMaking : ℕ → Type 0
ByMaking n = (1 ≤ n) × (n ≤ 11)

-- What holds of two answers holds of the one picked.
pub picked : (P : Answer → Type 0) (b : Bool) (x y : Answer) → P x → P y → P (pick b x y)
picked P true x y p q = p
picked P false x y p q = q

-- And so where too little memory is looked for before: by 9 in the work area, by 10 in the page list.
pub with_memory : (P : Answer → Type 0) (few short : Bool) {i j : ℕ} {a : Answer} → P (refused 9 i) → P (refused 10 j) → P a
    → P (pick few (refused 9 i) (pick short (refused 10 j) a))
with_memory P few short {i} {j} {a} nine ten read =
    picked P few (refused 9 i) (pick short (refused 10 j) a) nine (picked P short (refused 10 j) a ten read)

-- Of what is made, where 9 and 10 come before an answer: what holds with too little memory, and else where the answer is what is made, holds.
pub past_memory : {A : Type 0} (Out : Bool → Type 0) (nine ten answer : A) {made : A} → Out true → (answer ≡ made → Out false) → (few short : Bool)
    → pick few nine (pick short ten answer) ≡ made → Out (few || short)
past_memory Out nine ten answer lent read true short e = lent
past_memory Out nine ten answer lent read false true e = lent
past_memory Out nine ten answer lent read false false e = read e

module _ (P : Answer → Type 0) (bytes : List ℕ) where
  -- Of marking,
  pub of_marking : (words : List ℕ) → ((n at : ℕ) → 1 ≤ n → n ≤ 8 → P (refused n at))
      → ((g : Galley) → galley_of bytes ≡ Ok g → P (marked (model_of bytes g) words)) → P (mark_of bytes words)
  unfolding mark_of mark_read
  of_marking words away read = go (galley_of bytes) refl
    where
      go : (r : Reading) → galley_of bytes ≡ r → P (mark_read bytes words r)
      go (Ok g) e = read g e
      go (Err r) e = let h = refusal_number bytes r.number r.place e in away r.number r.place h.0 h.1

  -- and of making.
  pub of_making : (work list : ℕ) → ((n at : ℕ) → ByMaking n → P (refused n at))
      → ((g : Galley) → galley_of bytes ≡ Ok g → P (made (model_of bytes g))) → P (make_of bytes work list)
  unfolding make_of make_read
  of_making work list away read = go (galley_of bytes) refl
    where
      go : (r : Reading) → galley_of bytes ≡ r → P (make_read bytes work list r)
      go (Ok g) e =
          with_memory P (ltb work (work_needed g)) (ltb list (list_needed g)) (away 9 (work_needed g) (omega arith, omega arith))
          (away 10 (list_needed g) (omega arith, omega arith)) (read g e)
      go (Err r) e = let h = refusal_number bytes r.number r.place e in away r.number r.place (h.0, omega (arith, h.1))
