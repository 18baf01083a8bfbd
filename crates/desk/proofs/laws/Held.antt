-- What saving, dropping and seeking do to what is held under a name, for any layouts.
use Prim.Native.Nat.{ℕ, zero, suc, ◌≤◌, ◌<◌}
use Rattle.std.proofs.Common.{arith, sym, subst, ◌∙◌, take_at, eqb-true, ne_eqb}
use Rattle.std.specs.Prelude.{Bool, ◌&&◌, ◌≡◌, eqb, get_or, set, take, drop, replicate, Option, None, Some}
use Rattle.std.specs.Option.{option_or}
use Rattle.std.specs.List.{position_or_len}
use Rattle.std.proofs.lemmas.List.Quantifiers.{position-Some}
use Rattle.std.proofs.lemmas.List.Sums.{fails_before_first}
use Rattle.std.proofs.lemmas.Grind.{common_steps}
use Rattle.std.proofs.Math.Bool.{true, false}
use mathlib.Core.List.{List, [], ◌∷◌, map}
use Rattle.std.proofs.Math.Path.{refl, ap}
use Rattle.std.proofs.Math.ListN.{length}
use Rattle.std.proofs.lemmas.Bool.{eqb-false}
use Rattle.model.specs.Answers.{same}
use Rattle.model.specs.Gather.{pick}
use Rattle.model.proofs.laws.Gather.{and_left, and_right}
use Rattle.model.proofs.laws.Valid.{same_true, same_refl}
use Rattle.layouts.specs.declared.Layout.{Layout}
use Rattle.layouts.specs.Names.{is_name, is_named, find_named, room_for, padded, layout_of, no_layout, freed}
use Rattle.desk.specs.Held.{held_in}
use Rattle.layouts.specs.laws.Names.{name_some}

-- One of two is not the other.
apart : {A : Type 0} (b : Bool) → b ≡ true → b ≡ false → A
apart b e f = let z : ◌≡◌ {A = ℕ} 0 1 = cc in absurd (omega arith)

false_of : (b : Bool) → (b ≡ true → ⊥) → b ≡ false
false_of true h = absurd (h refl)
false_of false h = refl

-- A layout is under one name alone.
named_one : (v : Layout) (a b : List ℕ) → is_named v a ≡ true → is_named v b ≡ true → a ≡ b
unfolding is_named
named_one v a b h k =
    let la = eqb-true v.len (length a) (and_left (eqb v.len (length a)) (same (take (length a) v.name) a) h) in
    let lb = eqb-true v.len (length b) (and_left (eqb v.len (length b)) (same (take (length b) v.name) b) k) in
    let ea = same_true (take (length a) v.name) a (and_right (eqb v.len (length a)) (same (take (length a) v.name) a) h) in
    let eb = same_true (take (length b) v.name) b (and_right (eqb v.len (length b)) (same (take (length b) v.name) b) k) in
    sym ea ∙ ap (λ (n : ℕ). take n v.name) (sym la ∙ lb) ∙ eb

pub other_name : (v : Layout) (a b : List ℕ) → is_named v a ≡ true → same a b ≡ false → is_named v b ≡ false
other_name v a b h differ =
    false_of (is_named v b) (λ k. apart (same a b) (subst (λ (n : List ℕ). same a n ≡ true) (named_one v a b h k) (same_refl a)) differ)

-- A layout whose name has no bytes is under no name.
pub free_unnamed : (v : Layout) (n : List ℕ) → is_name n ≡ true → v.len ≡ 0 → is_named v n ≡ false
unfolding is_named
free_unnamed v n proper none =
    let some = name_some n proper in
    rw (ne_eqb v.len (length n) (λ e. omega arith))

-- A list kept under a name is under that name alone.
pub kept_named : (name list n : List ℕ) → is_named (layout_of name list) n ≡ same name n
unfolding is_named padded
kept_named name list n = go (eqb (length name) (length n)) refl
  where
    go : (b : Bool) → eqb (length name) (length n) ≡ b → (b && same (take (length n) (padded name)) n) ≡ same name n
    go true e = ap (λ (bytes : List ℕ). same bytes n) (take_at name (drop (length name) (replicate 16 0)) (length n) (eqb-true (length name) (length n) e))
    go false e =
        sym (false_of (same name n) (λ h. eqb-false (length name) (length n) e (ap length (same_true name n h))))

-- ---- by numbers
-- No layout is under a name that is not found.
pub none_named : (vs : List Layout) (name : List ℕ) → find_named vs name ≡ None → (j : ℕ) → j < length vs
    → is_named (get_or vs j no_layout) name ≡ false
none_named vs name e j low =
    let p : Layout → Bool = λ v. is_named v name in
    let far : length vs ≤ position_or_len p vs = grind (arith, common_steps) in
    fails_before_first p vs j no_layout (omega arith)

module _ (name : List ℕ) where
  -- The first layout that is under a name is held under it,
  pub held_first : (vs : List Layout) (k : ℕ) → k < length vs → is_named (get_or vs k no_layout) name ≡ true
      → ((j : ℕ) → j < k → is_named (get_or vs j no_layout) name ≡ false) → held_in vs name ≡ Some (get_or vs k no_layout).list
  unfolding held_in
  held_first [] k low h before = absurd (omega arith)
  held_first (v ∷ vs) zero low h before = rw h
  held_first (v ∷ vs) (suc k) low h before =
      rw (before 0 (omega arith)) (held_first vs k (omega arith) h (λ j l. before (suc j) (omega arith)))

  -- What is found under a name is under it.
  pub found_named : (vs : List Layout) (at : ℕ) → find_named vs name ≡ Some at → is_named (get_or vs at no_layout) name ≡ true
  found_named vs at e = (position-Some (λ (v : Layout). is_named v name) vs at no_layout e).1

  pub found_held : (vs : List Layout) (at : ℕ) → find_named vs name ≡ Some at → held_in vs name ≡ Some (get_or vs at no_layout).list
  found_held vs at e =
      let it = position-Some (λ (v : Layout). is_named v name) vs at no_layout e in
      held_first vs at it.0 it.1 it.2

  -- and so is one that is stored where none before it is.
  held_here : (vs : List Layout) (k : ℕ) (w : Layout) → is_named w name ≡ true → k < length vs
      → ((j : ℕ) → j < k → is_named (get_or vs j no_layout) name ≡ false) → held_in (set vs k w) name ≡ Some w.list
  unfolding held_in
  held_here [] k w h low first = absurd (omega arith)
  held_here (v ∷ vs) zero w h low first = rw h
  held_here (v ∷ vs) (suc k) w h low first =
      rw (first 0 (omega arith)) (held_here vs k w h (omega arith) (λ j l. first (suc j) (omega arith)))

  -- One that is not under a name, in place of one that was not, changes nothing there.
  held_other : (vs : List Layout) (k : ℕ) (w : Layout) → is_named w name ≡ false → is_named (get_or vs k no_layout) name ≡ false
      → held_in (set vs k w) name ≡ held_in vs name
  unfolding held_in
  held_other [] k w h was = refl
  held_other (v ∷ vs) zero w h was = rw (h, was)
  held_other (v ∷ vs) (suc k) w h was = ap (pick (is_named v name) (Some v.list)) (held_other vs k w h was)

-- No name has no bytes.
pub none_same : (n : List ℕ) → is_name n ≡ true → same [] n ≡ false
unfolding same
none_same [] proper = let some = name_some [] proper in absurd (omega arith)
none_same (x ∷ n) proper = refl

pub same_none : (n : List ℕ) → is_name n ≡ true → same n [] ≡ false
unfolding same
same_none [] proper = let some = name_some [] proper in absurd (omega arith)
same_none (x ∷ n) proper = refl

-- A layout is freed where it is under the name, and stays as it is elsewhere.
pub freed_hit : (name : List ℕ) (v : Layout) → is_named v name ≡ true → freed name v ≡ record { len = 0; name = v.name; list = v.list }
unfolding freed
freed_hit name v h = rw h

pub freed_miss : (name : List ℕ) (v : Layout) → is_named v name ≡ false → freed name v ≡ v
unfolding freed
freed_miss name v h = rw h

-- ---- by calls
-- Where a list is kept the layout was under its name or free, and none before it was under its name.
pub record Room (vs : List Layout) (name : List ℕ) (k : ℕ) : Type 0 where
  pub low : k < length vs
  pub first : (j : ℕ) → j < k → is_named (get_or vs j no_layout) name ≡ false
  pub was : (n : List ℕ) → is_name n ≡ true → same name n ≡ false → is_named (get_or vs k no_layout) n ≡ false

pub room_is : (vs : List Layout) (name : List ℕ) (k : ℕ) → room_for vs name ≡ Some k → Room vs name k
room_is vs name k = go (find_named vs name) refl
  where
    go : (o : Option ℕ) → find_named vs name ≡ o → option_or o (find_named vs []) ≡ Some k → Room vs name k
    go (Some i) e h =
        let it = position-Some (λ (v : Layout). is_named v name) vs k no_layout (e ∙ h) in
        record { low = it.0; first = it.2; was = λ n proper differ. other_name (get_or vs k no_layout) name n it.1 differ }
    go None e h =
        let it = position-Some (λ (v : Layout). is_named v []) vs k no_layout h in
        let low = it.0 in
        record {
          low = low;
          first = λ j l. none_named vs name e j (omega arith);
          was = λ n proper differ. other_name (get_or vs k no_layout) [] n it.1 (none_same n proper);
        }

-- Saving keeps the list under the name, and what is held under any other.
pub save_held : (vs : List Layout) (name list n : List ℕ) (k : ℕ) → is_name n ≡ true → room_for vs name ≡ Some k
    → held_in (set vs k (layout_of name list)) n ≡ pick (same name n) (Some list) (held_in vs n)
save_held vs name list n k proper room = go (same name n) refl
  where
    go : (b : Bool) → same name n ≡ b → held_in (set vs k (layout_of name list)) n ≡ pick b (Some list) (held_in vs n)
    go true e =
        let it = room_is vs name k room in
        subst (λ (m : List ℕ). held_in (set vs k (layout_of name list)) m ≡ Some list) (same_true name n e)
        (held_here name vs k (layout_of name list) (kept_named name list name ∙ same_refl name) it.low it.first)
    go false e = held_other n vs k (layout_of name list) (kept_named name list n ∙ e) ((room_is vs name k room).was n proper e)

-- A layout that is freed of a name is under the other names that it was under, and keeps its list.
pub freed_named : (name : List ℕ) (v : Layout) (n : List ℕ) → is_name n ≡ true → is_named (freed name v) n ≡ pick (same name n) false (is_named v n)
freed_named name v n proper = go (is_named v name) (same name n) refl refl
  where
    free : Layout
    free = record { len = 0; name = v.name; list = v.list }

    go : (a b : Bool) → is_named v name ≡ a → same name n ≡ b → is_named (freed name v) n ≡ pick b false (is_named v n)
    go true true e f = rw (freed_hit name v e) (free_unnamed free n proper refl)
    go true false e f = rw (freed_hit name v e) (free_unnamed free n proper refl ∙ sym (other_name v name n e f))
    go false true e f = rw (freed_miss name v e) (subst (λ (m : List ℕ). is_named v m ≡ false) (same_true name n f) e)
    go false false e f = rw (freed_miss name v e)

freed_list : (name : List ℕ) (v : Layout) → (freed name v).list ≡ v.list
unfolding freed
freed_list name v = go (is_named v name)
  where
    go : (b : Bool) → (pick b (record { len = 0; name = v.name; list = v.list }) v).list ≡ v.list
    go true = refl
    go false = refl

-- Dropping leaves nothing under the name, and what is held under any other.
pub drop_held : (vs : List Layout) (name n : List ℕ) → is_name n ≡ true
    → held_in (map (freed name) vs) n ≡ pick (same name n) None (held_in vs n)
unfolding held_in
drop_held [] name n proper = go (same name n)
  where
    go : (b : Bool) → ◌≡◌ {A = Option (List ℕ)} None (pick b None None)
    go true = refl
    go false = refl
drop_held (v ∷ vs) name n proper =
    rw (freed_named name v n proper, freed_list name v, drop_held vs name n proper) (go (same name n))
  where
    go : (b : Bool) → pick (pick b false (is_named v n)) (Some v.list) (pick b None (held_in vs n))
        ≡ pick b None (pick (is_named v n) (Some v.list) (held_in vs n))
    go true = refl
    go false = refl
