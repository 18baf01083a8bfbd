-- Names by their bytes.
use Rattle.std.specs.Prelude.{ℕ, suc, ◌+◌, ◌≤◌, ◌<◌, Bool, true, false, ◌&&◌, ◌≡◌, refl, eqb, leb, take}
use Rattle.std.proofs.Common.{add-one, ◌∙◌, get_or-take, take_all, leb-true, eq-eqb, ne_eqb, arith}
use Rattle.std.proofs.lemmas.Bool.Decides.{nat_tests}
use mathlib.Core.List.{List, [], ◌∷◌}
use Rattle.std.proofs.Math.Path.{sym, ap}
use Rattle.std.proofs.Math.ListN.{length, get_or, drop}
use Rattle.std.proofs.Math.Seq.{length-take-le, drop-cons, drop-length}
use lib.Pointwise.{pointwise}
use Rattle.model.specs.Answers.{same}
use Rattle.model.proofs.laws.Gather.{and_left, and_right}
use Rattle.model.proofs.laws.Valid.{same_true}
use Rattle.layouts.specs.Names.{is_name}

-- A name has a byte, and at most 16.
pub name_some : (name : List ℕ) → is_name name ≡ true → 1 ≤ length name
unfolding is_name
name_some name h = leb-true 1 (length name) (and_left (leb 1 (length name)) (leb (length name) 16) h)

pub name_few : (name : List ℕ) → is_name name ≡ true → length name ≤ 16
unfolding is_name
name_few name h = leb-true (length name) 16 (and_right (leb 1 (length name)) (leb (length name) 16) h)

-- The bytes from number i on are the same exactly where all are, since those before it are.
pub record Matching (held name : List ℕ) (i : ℕ) : Type 0 where
  pub some : i ≤ length name
  pub few : length name ≤ length held
  pub rest : same (drop i (take (length name) held)) (drop i name) ≡ same (take (length name) held) name

module _ (held name : List ℕ) where
  -- Before the first byte,
  pub match_starts : length name ≤ length held → Matching held name 0
  match_starts few = record { some = omega arith; few = few; rest = refl }

  module _ {i : ℕ} (so_far : Matching held name i) where
    module _ (more : i < length name) where
      long : length (take (length name) held) ≡ length name
      long = length-take-le (length name) held so_far.few

      -- at each byte,
      turn : same (drop i (take (length name) held)) (drop i name)
          ≡ eqb (get_or held i 0) (get_or name i 0) && same (drop (suc i) (take (length name) held)) (drop (suc i) name)
      unfolding same
      turn =
          let l = long in
          let a : drop i (take (length name) held) ≡ get_or held i 0 ∷ drop (suc i) (take (length name) held) =
          drop-cons (take (length name) held) i 0 (omega arith) ∙ ap (λ (x : ℕ). x ∷ drop (suc i) (take (length name) held)) (get_or-take (length name) held i 0 more) in
          rw (a, drop-cons name i 0 more)

      pub match_differs : (get_or held i 0 ≡ get_or name i 0 → ⊥) → same (take (length name) held) name ≡ false
      match_differs differ = sym so_far.rest ∙ (rw (ne_eqb (get_or held i 0) (get_or name i 0) differ) at turn)

      pub match_goes_on : get_or held i 0 ≡ get_or name i 0 → Matching held name (i + 1)
      match_goes_on alike =
          record {
            some = omega arith;
            few = so_far.few;
            rest = rw (add-one i) (sym (rw (eq-eqb (get_or held i 0) (get_or name i 0) alike) at turn) ∙ so_far.rest);
          }

    -- and after the last.
    pub match_ends : length name ≤ i → same (take (length name) held) name ≡ true
    unfolding same
    match_ends none =
        let some = so_far.some in
        let all : i ≡ length name = omega arith in
        let l = length-take-le (length name) held so_far.few in
        let a : drop i (take (length name) held) ≡ [] = rw (all ∙ sym l) (drop-length (take (length name) held)) in
        let b : drop i name ≡ [] = rw all (drop-length name) in
        sym so_far.rest ∙ rw (a, b)

-- Bytes compared one by one are the same.
pub pointwise_same : (name held : List ℕ) → pointwise eqb name held ≡ same held name
unfolding same
pointwise_same [] [] = refl
pointwise_same [] (y ∷ held) = refl
pointwise_same (x ∷ name) [] = refl
pointwise_same (x ∷ name) (y ∷ held) =
    let e : eqb x y ≡ eqb y x = grind (arith, nat_tests) in
    rw (e, pointwise_same name held)

-- A name of more bytes than are held is not the name held.
pub longer_differs : (held name : List ℕ) → length held < length name → same (take (length name) held) name ≡ false
longer_differs held name more = go (same (take (length name) held) name) refl
  where
    go : (b : Bool) → same (take (length name) held) name ≡ b → same (take (length name) held) name ≡ false
    go false e = e
    go true e =
        let l : length held ≡ length name = ap length (sym (take_all (length name) held (omega arith)) ∙ same_true _ name e) in
        absurd (omega arith)
