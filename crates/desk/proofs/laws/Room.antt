-- How many layouts are under a name, and how many are free: what saving and dropping do to these, for any layouts.
use Rattle.std.specs.Prelude.{ℕ, zero, suc, ◌+◌, ◌<◌, Bool, ◌||◌, ◌≡◌, get_or, set, Option, None, Some, is_some}
use Rattle.std.specs.Option.{option_or}
use Rattle.std.proofs.lemmas.List.Quantifiers.{position-Some}
use Rattle.std.proofs.Common.{arith, sym, subst, lt-ltb, le-ltb, ◌∙◌}
use Rattle.std.proofs.Math.Bool.{true, false, not}
use mathlib.Core.List.{List, [], ◌∷◌, map}
use Rattle.std.proofs.Math.Path.{refl}
use Rattle.std.proofs.Math.Dec.{ltb}
use Rattle.std.proofs.Math.ListN.{length}
use Rattle.model.specs.Answers.{same}
use Rattle.model.specs.Gather.{pick, one}
use Rattle.model.proofs.laws.Valid.{same_true, same_refl}
use Rattle.layouts.specs.declared.Layout.{Layout}
use Rattle.layouts.specs.Names.{is_name, is_named, find_named, room_for, layout_of, no_layout, freed}
use Rattle.desk.specs.Held.{held_in}
use Rattle.desk.proofs.laws.Held.{other_name, kept_named, none_named, found_held, none_same, same_none, room_is, freed_hit, freed_miss, freed_named, save_held, drop_held}

-- How many layouts are under a name; under no bytes they are free.
unfoldable pub copies : List Layout → List ℕ → ℕ
copies [] n = 0
copies (v ∷ vs) n = one (is_named v n) + copies vs n

-- A layout is found exactly where one is held, and then there are some.
pub found_some : (vs : List Layout) (n : List ℕ) → is_some (find_named vs n) ≡ is_some (held_in vs n)
unfolding held_in
found_some vs n = go (find_named vs n) refl
  where
    none : (vs : List Layout) → ((j : ℕ) → j < length vs → is_named (get_or vs j no_layout) n ≡ false) → held_in vs n ≡ None
    none [] h = refl
    none (v ∷ vs) h = rw (h 0 (omega arith)) (none vs (λ j l. h (suc j) (omega arith)))

    go : (o : Option ℕ) → find_named vs n ≡ o → is_some o ≡ is_some (held_in vs n)
    go None e = rw (none vs (none_named vs n e))
    go (Some at) e = rw (found_held n vs at e)

pub some_copies : (vs : List Layout) (n : List ℕ) → is_some (held_in vs n) ≡ ltb 0 (copies vs n)
unfolding held_in copies
some_copies [] n = sym (le-ltb 0 0 (omega arith))
some_copies (v ∷ vs) n = go (is_named v n) (some_copies vs n)
  where
    go : (b : Bool) → is_some (held_in vs n) ≡ ltb 0 (copies vs n)
        → is_some (pick b (Some v.list) (held_in vs n)) ≡ ltb 0 (one b + copies vs n)
    go true rest = sym (lt-ltb 0 (1 + copies vs n) (omega arith))
    go false rest = let e : 0 + copies vs n ≡ copies vs n = omega arith in rw e rest

-- There is room for a name where it is held, or a layout is free.
pub room_some : (vs : List Layout) (name : List ℕ) → is_some (room_for vs name) ≡ is_some (held_in vs name) || ltb 0 (copies vs [])
room_some vs name = rw (← found_some vs name, ← some_copies vs [], ← found_some vs []) (go (find_named vs name))
  where
    go : (o : Option ℕ) → is_some (option_or o (find_named vs [])) ≡ is_some o || is_some (find_named vs [])
    go None = refl
    go (Some at) = refl

-- One layout in place of another.
copies_set : (vs : List Layout) (k : ℕ) (w : Layout) (n : List ℕ) → k < length vs
    → copies (set vs k w) n + one (is_named (get_or vs k no_layout) n) ≡ copies vs n + one (is_named w n)
unfolding copies
copies_set [] k w n low = absurd (omega arith)
copies_set (v ∷ vs) zero w n low = omega arith
copies_set (v ∷ vs) (suc k) w n low = let rest = copies_set vs k w n (omega arith) in omega arith

-- Each name is held once.
abbrev pub Sole : List Layout → Type 0
Sole vs = (n : List ℕ) → is_name n ≡ true → copies vs n ≡ one (is_some (held_in vs n))

-- What is replaced was under the name where that is held, and else was free.
module _ (vs : List Layout) (name : List ℕ) (k : ℕ) (proper : is_name name ≡ true) (room : room_for vs name ≡ Some k) where
  abbrev was : Layout
  was = get_or vs k no_layout

  was_named : (is_named was name ≡ is_some (held_in vs name)) × (is_named was [] ≡ not (is_some (held_in vs name)))
  was_named = rw (← found_some vs name) (go (find_named vs name) refl room)
    where
      go : (o : Option ℕ) → find_named vs name ≡ o → option_or o (find_named vs []) ≡ Some k
          → (is_named was name ≡ is_some o) × (is_named was [] ≡ not (is_some o))
      go (Some i) e h =
          let it = position-Some (λ (v : Layout). is_named v name) vs k no_layout (e ∙ h) in
          (it.1, other_name was name [] it.1 (same_none name proper))
      go None e h =
          let it = position-Some (λ (v : Layout). is_named v []) vs k no_layout h in
          (other_name was [] name it.1 (none_same name proper), it.1)

  -- Saving takes a free layout where the name is not held,
  pub save_room : (list : List ℕ) → copies (set vs k (layout_of name list)) [] + one (not (is_some (held_in vs name))) ≡ copies vs []
  save_room list =
      let c = copies_set vs k (layout_of name list) [] (room_is vs name k room).low in
      let e : copies (set vs k (layout_of name list)) [] + one (not (is_some (held_in vs name))) ≡ copies vs [] + 0 =
      rw (was_named.1, kept_named name list [], same_none name proper) at c in
      omega arith

  -- and leaves each name held once.
  pub save_sole : Sole vs → (list : List ℕ) → Sole (set vs k (layout_of name list))
  save_sole sole list n fine = rw (save_held vs name list n k fine room) (go (same name n) refl)
    where
      now : List Layout
      now = set vs k (layout_of name list)

      go : (b : Bool) → same name n ≡ b → copies now n ≡ one (is_some (pick b (Some list) (held_in vs n)))
      go true e =
          let c = copies_set vs k (layout_of name list) name (room_is vs name k room).low in
          let k : copies now name + one (is_some (held_in vs name)) ≡ copies vs name + 1 =
          rw (was_named.0, kept_named name list name, same_refl name) at c in
          let was_sole = sole name proper in
          let l : copies now name ≡ 1 = omega arith in
          subst (λ (m : List ℕ). copies now m ≡ 1) (same_true name n e) l
      go false e =
          let c = copies_set vs k (layout_of name list) n (room_is vs name k room).low in
          let k : copies now n + 0 ≡ copies vs n + 0 =
          rw ((room_is vs name k room).was n fine e, kept_named name list n, e) at c in
          let was_sole = sole n fine in
          omega arith

-- A layout whose name has no bytes is free.
pub no_bytes : (name list : List ℕ) → is_named (record { len = 0; name = name; list = list }) [] ≡ true
unfolding is_named same
no_bytes name list = refl

-- A layout freed of a name is free where it was under that name, and else where it was.
freed_free : (name : List ℕ) (v : Layout) → is_name name ≡ true
    → one (is_named (freed name v) []) ≡ one (is_named v []) + one (is_named v name)
freed_free name v proper = go (is_named v name) refl
  where
    go : (b : Bool) → is_named v name ≡ b → one (is_named (freed name v) []) ≡ one (is_named v []) + one b
    go true e = rw (freed_hit name v e, no_bytes v.name v.list, other_name v name [] e (same_none name proper))
    go false e = rw (freed_miss name v e) (omega arith)

drop_copies : (vs : List Layout) (name n : List ℕ) → is_name n ≡ true
    → copies (map (freed name) vs) n ≡ pick (same name n) 0 (copies vs n)
unfolding copies
drop_copies [] name n fine = go (same name n)
  where
    go : (b : Bool) → ◌≡◌ {A = ℕ} 0 (pick b 0 0)
    go true = refl
    go false = refl
drop_copies (v ∷ vs) name n fine = rw (freed_named name v n fine, drop_copies vs name n fine) (go (same name n))
  where
    go : (b : Bool) → one (pick b false (is_named v n)) + pick b 0 (copies vs n) ≡ pick b 0 (one (is_named v n) + copies vs n)
    go true = refl
    go false = refl

-- Dropping frees what is under the name,
pub drop_room : (vs : List Layout) (name : List ℕ) → is_name name ≡ true → copies (map (freed name) vs) [] ≡ copies vs [] + copies vs name
unfolding copies
drop_room [] name proper = refl
drop_room (v ∷ vs) name proper =
    let rest = drop_room vs name proper in
    let here = freed_free name v proper in
    omega arith

-- and leaves each other name held once.
pub drop_sole : (vs : List Layout) (name : List ℕ) → Sole vs → Sole (map (freed name) vs)
drop_sole vs name sole n fine = rw (drop_held vs name n fine, drop_copies vs name n fine) (go (same name n))
  where
    go : (b : Bool) → pick b 0 (copies vs n) ≡ one (is_some (pick b None (held_in vs n)))
    go true = refl
    go false = sole n fine
