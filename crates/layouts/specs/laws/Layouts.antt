-- Layouts sought by a name, and freed, one after the other.
use Rattle.std.specs.Prelude.{ℕ, suc, ◌+◌, ◌≤◌, ◌<◌, Bool, true, false, not, ◌≡◌, refl, Option, None, Some, cond, ltb, get_or, set, take}
use Rattle.std.specs.Option.{option_map}
use Rattle.std.specs.List.{position_or_len}
use Rattle.std.proofs.Common.{zero-add, add-one, sym, ap, ◌∙◌, length-take-le, take_all, take-suc, drop-cons, lt-ltb, le-ltb, ltb-true, ltb-false}
use native.Mathlib.Omega.{arith}
use mathlib.Core.List.{List, [], ◌∷◌, ◌++◌, map, append-nil}
use Rattle.std.proofs.Math.ListN.{length, drop, get_or-map}
use Rattle.std.proofs.lemmas.List.{length-map, set_at, get_or_at}
use Rattle.std.proofs.Math.Seq.{drop-length, append_snoc}
use Rattle.model.specs.Gather.{pick}
use Rattle.layouts.specs.declared.Layout.{Layout}
use Rattle.layouts.specs.Names.{is_named, find_named, freed}

-- The number of one that is found among those from number `at` on, counted from the first.
abbrev pub counted_from : ℕ → Option ℕ → Option ℕ
counted_from at found = option_map (λ k. at + k) found

counted_none : (found : Option ℕ) → counted_from 0 found ≡ found
counted_none None = refl
counted_none (Some k) = ap Some (zero-add k)

counted_more : (at : ℕ) (found : Option ℕ) → counted_from (at + 1) found ≡ counted_from at (option_map suc found)
counted_more at None = refl
counted_more at (Some k) = let e : at + 1 + k ≡ at + suc k = omega arith in ap Some e

-- The first under a name is the first of all, or among the others.
found_next : (layout : Layout) (layouts : List Layout) (name : List ℕ)
    → find_named (layout ∷ layouts) name ≡ pick (is_named layout name) (Some 0) (option_map suc (find_named layouts name))
found_next layout layouts name = go (is_named layout name) (position_or_len (λ d. is_named d name) layouts) (length layouts)
  where
    go : (b : Bool) (k n : ℕ) → cond (ltb (cond (not b) (1 + k) 0) (suc n)) (Some (cond (not b) (1 + k) 0)) None
        ≡ pick b (Some 0) (option_map suc (cond (ltb k n) (Some k) None))
    go true k n = rw (lt-ltb 0 (suc n) (omega arith)) refl
    go false k n = low (ltb k n) refl
      where
        one : 1 + k ≡ suc k
        one = omega arith

        low : (b : Bool) → ltb k n ≡ b
            → cond (ltb (1 + k) (suc n)) (Some (1 + k)) None ≡ option_map suc (cond (ltb k n) (Some k) None)
        low true e = rw (e, lt-ltb (1 + k) (suc n) (omega (arith, ltb-true k n e))) (ap Some one)
        low false e = rw (e, le-ltb (1 + k) (suc n) (omega (arith, ltb-false k n e))) refl

-- The first layout under a name is not among those before number `at`.
pub record Seeking (layouts : List Layout) (name : List ℕ) (at : ℕ) : Type 0 where
  pub eight : length layouts ≡ 8
  pub some : at ≤ 8
  pub rest : counted_from at (find_named (drop at layouts) name) ≡ find_named layouts name

module _ (layouts : List Layout) (name : List ℕ) where
  pub seek_starts : length layouts ≡ 8 → Seeking layouts name 0
  seek_starts eight = record { eight = eight; some = omega arith; rest = counted_none (find_named layouts name) }

  module _ {at : ℕ} (so_far : Seeking layouts name at) where
    module _ (more : at < 8) (d : Layout) where
      turn : counted_from at (pick (is_named (get_or layouts at d) name) (Some 0) (option_map suc (find_named (drop (suc at) layouts) name)))
          ≡ find_named layouts name
      turn =
          let eight = so_far.eight in
          sym (ap (counted_from at) (found_next (get_or layouts at d) (drop (suc at) layouts) name))
          ∙ (rw (drop-cons layouts at d (omega arith)) at so_far.rest)

      pub seek_here : is_named (get_or layouts at d) name ≡ true → Some at ≡ find_named layouts name
      seek_here here =
          let t : Some (at + 0) ≡ find_named layouts name = rw here at turn in
          let e : at ≡ at + 0 = omega arith in
          ap Some e ∙ t

      pub seek_goes_on : is_named (get_or layouts at d) name ≡ false → Seeking layouts name (at + 1)
      seek_goes_on other =
          let t : counted_from at (option_map suc (find_named (drop (suc at) layouts) name)) ≡ find_named layouts name = rw other at turn in
          let next : drop (at + 1) layouts ≡ drop (suc at) layouts = ap (λ n. drop n layouts) (add-one at) in
          record {
            eight = so_far.eight;
            some = omega arith;
            rest = counted_more at (find_named (drop (at + 1) layouts) name) ∙ (rw (← next) at t);
          }

    pub seek_ends : 8 ≤ at → None ≡ find_named layouts name
    seek_ends none =
        let some = so_far.some in
        let eight = so_far.eight in
        let all : at ≡ length layouts = omega arith in
        let e : drop at layouts ≡ [] = rw all (drop-length layouts) in
        rw e at so_far.rest

-- The layouts before number `at` are freed of a name, the others are as they were.
pub record Freeing (name : List ℕ) (layouts all : List Layout) (at : ℕ) : Type 0 where
  pub eight : length layouts ≡ 8
  pub some : at ≤ 8
  pub done : all ≡ take at (map (freed name) layouts) ++ drop at layouts

module _ (name : List ℕ) (layouts : List Layout) where
  pub free_starts : length layouts ≡ 8 → Freeing name layouts layouts 0
  free_starts eight = record { eight = eight; some = omega arith; done = refl }

  module _ {all : List Layout} {at : ℕ} (so_far : Freeing name layouts all at) where
    long : length (map (freed name) layouts) ≡ 8
    long = length-map layouts (freed name) ∙ so_far.eight

    module _ (more : at < 8) (d : Layout) where
      abbrev before : List Layout
      before = take at (map (freed name) layouts)

      head : length before ≡ at
      head = let l = long in length-take-le at (map (freed name) layouts) (omega arith)

      now : all ≡ before ++ get_or layouts at d ∷ drop (suc at) layouts
      now = let eight = so_far.eight in so_far.done ∙ ap (λ (r : List Layout). before ++ r) (drop-cons layouts at d (omega arith))

      seen : get_or all at d ≡ get_or layouts at d
      seen = rw now (get_or_at before (get_or layouts at d) (drop (suc at) layouts) d at head)

      pub free_goes_on : Freeing name layouts (set all at (freed name (get_or all at d))) (at + 1)
      free_goes_on =
          let l = long in
          let stored : set all at (freed name (get_or layouts at d)) ≡ before ++ freed name (get_or layouts at d) ∷ drop (suc at) layouts =
          rw now (set_at before (get_or layouts at d) (drop (suc at) layouts) (freed name (get_or layouts at d)) at head) in
          let next : take (suc at) (map (freed name) layouts) ≡ before ++ (freed name (get_or layouts at d) ∷ []) =
          take-suc (map (freed name) layouts) at (freed name d) (omega arith) ∙ ap (λ (v : Layout). before ++ (v ∷ [])) (get_or-map (freed name) layouts at d) in
          record {
            eight = so_far.eight;
            some = omega arith;
            done =
                ap (λ (v : Layout). set all at (freed name v)) seen
                ∙ stored
                ∙ sym (append_snoc before (freed name (get_or layouts at d)) (drop (suc at) layouts))
                ∙ rw (add-one at, next);
          }

    pub free_ends : 8 ≤ at → all ≡ map (freed name) layouts
    free_ends none =
        let some = so_far.some in
        let eight = so_far.eight in
        let l = long in
        let last : at ≡ length layouts = omega arith in
        let none_left : drop at layouts ≡ [] = rw last (drop-length layouts) in
        let whole : take at (map (freed name) layouts) ≡ map (freed name) layouts = take_all at (map (freed name) layouts) (omega arith) in
        so_far.done ∙ rw (none_left, whole) (append-nil (map (freed name) layouts))
