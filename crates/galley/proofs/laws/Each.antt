-- Records of 18 bytes that were written one after the other.
use Prim.Native.Nat.{ℕ, zero, suc, ◌+◌, ◌*◌, ◌≤◌, ◌<◌}
use native.Mathlib.Omega.{arith}
use mathlib.Core.List.{List, [], ◌∷◌, ◌++◌, append_assoc}
use Rattle.std.specs.Prelude.{◌≡◌, refl, get_or}
use Rattle.std.proofs.Math.Path.{sym, ap}
use Rattle.std.proofs.Common.{◌∙◌}
use Rattle.std.proofs.Math.ListN.{length, length-append}
use Rattle.galley.specs.Whole.{step_from, read_from, Reading}
use Rattle.galley.specs.Write.{each}
use Rattle.galley.proofs.laws.Underway.{read_on}
use Rattle.galley.specs.declared.Sofar.{Sofar}
use Rattle.std.specs.declared.ops.ControlFlow.TheVariants.{Continue}

-- What follows them may be written with them or after them.
each_append : {A : Type 0} (write : A → List ℕ → List ℕ)
    → ((a : A) (rest more : List ℕ) → write a rest ++ more ≡ write a (rest ++ more))
    → (rs : List A) (rest : List ℕ) → each write rs [] ++ rest ≡ each write rs rest
unfolding each
each_append write joins [] rest = refl
each_append write joins (r ∷ rs) rest = joins r (each write rs []) rest ∙ ap (write r) (each_append write joins rs rest)

-- They are 18 bytes long each.
pub each_length : {A : Type 0} (write : A → List ℕ → List ℕ) → ((a : A) (rest : List ℕ) → length (write a rest) ≡ 18 + length rest)
    → (rs : List A) (rest : List ℕ) → length (each write rs rest) ≡ length rs * 18 + length rest
unfolding each
each_length write long [] rest = omega arith
each_length write long (r ∷ rs) rest =
    let more = each_length write long rs rest in
    let this = long r (each write rs rest) in
    omega arith

-- What was written before them and they themselves come before the rest, so many bytes long.
module _ {A : Type 0} (write : A → List ℕ → List ℕ) (bytes before : List ℕ) (rs : List A) where
  pub each_split : ((a : A) (rest more : List ℕ) → write a rest ++ more ≡ write a (rest ++ more))
      → (rest : List ℕ) → bytes ≡ before ++ each write rs rest → bytes ≡ (before ++ each write rs []) ++ rest
  each_split joins rest e = e ∙ ap (before ++◌) (sym (each_append write joins rs rest)) ∙ sym (append_assoc before (each write rs []) rest)

  pub each_far : ((a : A) (rest : List ℕ) → length (write a rest) ≡ 18 + length rest)
      → length (before ++ each write rs []) ≡ length before + length rs * 18
  each_far long = simp length-append (omega (arith, each_length write long rs []))

-- A record goes on to what holds of those after it.
pub record Goes {A : Type 0} (bytes : List ℕ) (Left : List A → Sofar → Type 0) (so : Sofar) (rest : List A) : Type 0 where
  pub next : Sofar
  pub on : step_from bytes so ≡ Continue next
  pub left : Left rest next
  pub due : next.at ≡ so.at + 18

-- Records that were written are read one after the other.
module _ {A : Type 0} (write : A → List ℕ → List ℕ) (bytes : List ℕ) (Left : List A → Sofar → Type 0)
    (long : (a : A) → length (write a []) ≡ 18) (joins : (a : A) (rest : List ℕ) → write a [] ++ rest ≡ write a rest)
    (goes : (before rest : List ℕ) (a : A) (rs : List A) (so : Sofar) → bytes ≡ before ++ write a rest → length before ≡ so.at
    → Left (a ∷ rs) so → Goes bytes Left so rs) where
  pub each_run : (before rest : List ℕ) (rs : List A) (more turns : ℕ) (so : Sofar) (reading : Reading)
      → bytes ≡ before ++ each write rs rest → length before ≡ so.at → length rs + more ≤ turns → Left rs so
      → ((turns : ℕ) (so : Sofar) → more ≤ turns → Left [] so → read_from bytes turns so ≡ reading)
      → read_from bytes turns so ≡ reading
  unfolding each
  each_run before rest [] more turns so reading e at enough left done = done turns so (omega arith) left
  each_run before rest (r ∷ rs) more zero so reading e at enough left done = absurd (omega arith)
  each_run before rest (r ∷ rs) more (suc turns) so reading e at enough left done =
      let there = goes before (each write rs rest) r rs so e at left in
      let size = long r in
      let due = there.due in
      let far : length (before ++ write r []) ≡ there.next.at = simp length-append (omega arith) in
      read_on bytes turns so there.next there.on
      ∙ each_run (before ++ write r []) rest rs more turns there.next reading
      (e ∙ ap (before ++◌) (sym (joins r (each write rs rest))) ∙ sym (append_assoc before (write r []) (each write rs rest))) far
      (omega arith) there.left done

-- Record k + 1 of those that were written is read where its number says.
module _ {A : Type 0} (write : A → List ℕ → List ℕ) (read : List ℕ → ℕ → A) (Fine : A → Type 0)
    (long : (a : A) → length (write a []) ≡ 18) (joins : (a : A) (rest : List ℕ) → write a [] ++ rest ≡ write a rest)
    (back : (before rest : List ℕ) (a : A) → Fine a → read (before ++ write a rest) (length before) ≡ a) where
  pub each_at : (bytes before rest : List ℕ) (rs : List A) → bytes ≡ before ++ each write rs rest
      → (k : ℕ) → k < length rs → (d : A) → Fine (get_or rs k d) → read bytes (length before + k * 18) ≡ get_or rs k d
  unfolding each
  each_at bytes before rest [] e k h d fine = absurd (omega arith)
  each_at bytes before rest (r ∷ rs) e zero h d fine =
      let here : length before + 0 * 18 ≡ length before = omega arith in
      rw (here, e) (back before (each write rs rest) r fine)
  each_at bytes before rest (r ∷ rs) e (suc k) h d fine =
      let size = long r in
      let here : length before + suc k * 18 ≡ length (before ++ write r []) + k * 18 = simp length-append (omega arith) in
      rw here
      (each_at bytes (before ++ write r []) rest rs
      (e ∙ ap (before ++◌) (sym (joins r (each write rs rest))) ∙ sym (append_assoc before (write r []) (each write rs rest))) k (omega arith) d fine)
