-- Saving, coming back and dropping on a desk do what they do in a sitting.
use Rattle.std.specs.Prelude.{ℕ, ◌+◌, not, ◌||◌, List, [], ◌∷◌, ◌≡◌, length, take, Option, None, Some, is_some, option_map}
use Rattle.std.proofs.Common.{arith, sym, ◌∙◌, length-set}
use Rattle.std.proofs.Math.Bool.{Bool, true, false}
use Rattle.std.proofs.Math.Path.{refl, ap, subst, subst⁻¹}
use Rattle.std.proofs.Math.Dec.{ltb}
use Rattle.std.proofs.lemmas.List.{length-map}
use borrow.Author.Tests.{ltb-true, ltb-false, lt-ltb, le-ltb}
use Rattle.model.specs.Galley.{Galley}
use Rattle.model.specs.Answers.{same}
use Rattle.model.specs.Gather.{pick, one}
use Rattle.layouts.specs.Names.{is_name, find_named, room_for, layout_of, freed}
use Rattle.desk.specs.declared.Desk.{Desk}
use Rattle.desk.specs.Desk.{Done}
use Rattle.desk.specs.Calls.{Save, Back, Drop, Number, Named, Sitting, Step}
use Rattle.desk.specs.Sitting as sits
use Rattle.desk.specs.Sitting.{under, without, has_room, says, hold, put_or, step}
use Rattle.desk.specs.Pages.{pages_on, words_on, in_force}
use Rattle.desk.specs.Layouts.{refused, saved, came_back, dropped, found_or, named, save_desk, back_desk, drop_desk}
use Rattle.desk.specs.Held.{held_in, held_on}
use Rattle.desk.proofs.laws.Held.{found_held, save_held, drop_held}
use Rattle.desk.proofs.laws.Room.{copies, found_some, room_some, save_room, save_sole, drop_room, drop_sole}
use Rattle.desk.proofs.laws.Sitting.{under_without, times, length_without, without_once, more_once}
use Rattle.desk.proofs.laws.Stands.{Stands, Follows, stays, put_stands, lay_stands}

unheld : (p : Option (List ℕ)) → is_some p ≡ false → p ≡ None
unheld None h = refl
unheld (Some list) h = let z : ◌≡◌ {A = ℕ} 0 1 = cc in absurd (omega arith)

-- What is held after saving, and after dropping,
module _ (name : List ℕ) (d : Desk) where
  saved_held : (at : ℕ) → room_for d.layouts name ≡ Some at → (m : List ℕ) → is_name m ≡ true
      → held_on (saved name d at) m ≡ pick (same name m) (Some (in_force d)) (held_on d m)
  unfolding held_on in_force words_on pages_on
  saved_held at room m proper = ap (option_map (take (words_on d))) (save_held d.layouts name d.list m at proper room) ∙ go (same name m)
    where
      go : (b : Bool) → option_map (take (words_on d)) (pick b (Some d.list) (held_in d.layouts m)) ≡ pick b (Some (in_force d)) (held_on d m)
      go true = refl
      go false = refl

  dropped_held : (m : List ℕ) → is_name m ≡ true → held_on (dropped name d) m ≡ pick (same name m) None (held_on d m)
  unfolding held_on words_on pages_on
  dropped_held m proper = ap (option_map (take (words_on d))) (drop_held d.layouts name m proper) ∙ go (same name m)
    where
      go : (b : Bool) → option_map (take (words_on d)) (pick b None (held_in d.layouts m)) ≡ pick b None (held_on d m)
      go true = refl
      go false = refl

-- and what is in force after coming back: what was held.
back_held : (name : List ℕ) (d : Desk) (at : ℕ) → find_named d.layouts name ≡ Some at → held_on d name ≡ Some (in_force (came_back d at))
unfolding held_on in_force words_on pages_on
back_held name d at e = ap (option_map (take (words_on d))) (found_held name d.layouts at e)

module _ (g : Galley) (n : ℕ) (d : Desk) (s : Sitting) (so : Stands g n d s) where
  module _ (name : List ℕ) where
    -- A bad name is refused alike.
    named_follows : (after : Done) (next : Step) → (is_name name ≡ true → Follows g n after.desk (Number after.number) next)
        → Follows g n (named name d after).desk (Number (named name d after).number) (sits.named name s next)
    named_follows after next h = go (is_name name) refl
      where
        go : (b : Bool) → is_name name ≡ b
            → Follows g n (pick b after (refused d 25)).desk (Number (pick b after (refused d 25)).number) (pick b next (says 25 s))
        go true proper = h proper
        go false proper = stays g n d s so 25

    -- A layout is found exactly where it is there in a sitting: what is done with it is alike, and so is the refusal.
    found_follows : (number : ℕ) (after : ℕ → Desk) (next : Sitting) (o : Option ℕ) (b : Bool) → is_some o ≡ b
        → ((at : ℕ) → o ≡ Some at → Stands g n (after at) next)
        → Follows g n (found_or number d after o).desk (Number (found_or number d after o).number) (pick b (says 0 next) (says number s))
    found_follows number after next None true e h = let z : ◌≡◌ {A = ℕ} 0 1 = cc in absurd (omega arith)
    found_follows number after next None false e h = stays g n d s so number
    found_follows number after next (Some at) true e h = record { reply = refl; stands = h at refl }
    found_follows number after next (Some at) false e h = let z : ◌≡◌ {A = ℕ} 0 1 = cc in absurd (omega arith)

    -- A name is found exactly where it is held.
    held_some : is_name name ≡ true → is_some (held_in d.layouts name) ≡ is_some (under s.held name)
    unfolding held_on
    held_some proper = go (held_in d.layouts name) ∙ ap is_some (so.held name proper)
      where
        go : (p : Option (List ℕ)) → is_some p ≡ is_some (option_map (take (words_on d)) p)
        go None = refl
        go (Some list) = refl

    found_same : is_name name ≡ true → is_some (find_named d.layouts name) ≡ is_some (under s.held name)
    found_same proper = found_some d.layouts name ∙ held_some proper

    pub back_follows : Follows g n (back_desk name d).desk (Number (back_desk name d).number) (step g s (Back name))
    unfolding back_desk
    back_follows = named_follows _ _ (go (find_named d.layouts name) refl)
      where
        go : (o : Option ℕ) → find_named d.layouts name ≡ o → is_name name ≡ true
            → Follows g n (found_or 26 d (came_back d) o).desk (Number (found_or 26 d (came_back d) o).number) (put_or 26 s (under s.held name))
        go (Some at) e proper =
            subst (λ (p : Option (List ℕ)). Follows g n (came_back d at) (Number 0) (put_or 26 s p))
            (sym (back_held name d at e) ∙ so.held name proper)
            (record { reply = refl; stands = put_stands g n d s so _ })
        go None e proper =
            subst⁻¹ (λ (p : Option (List ℕ)). Follows g n d (Number 26) (put_or 26 s p))
            (unheld (under s.held name) (sym (found_same proper) ∙ ap is_some e))
            (stays g n d s so 26)

    -- Where there is room for it in a sitting, a layout is free for it or its own.
    room_same : is_name name ≡ true → is_some (room_for d.layouts name) ≡ has_room s.held name
    unfolding has_room
    room_same proper =
        room_some d.layouts name
        ∙ ap (λ (b : Bool). b || ltb 0 (copies d.layouts [])) (held_some proper)
        ∙ ap (λ (b : Bool). is_some (under s.held name) || b) (go (ltb (length s.held) 8) refl)
      where
        go : (b : Bool) → ltb (length s.held) 8 ≡ b → ltb 0 (copies d.layouts []) ≡ b
        go true e = let l = ltb-true (length s.held) 8 e in let r = so.lays.room in lt-ltb 0 (copies d.layouts []) (omega arith)
        go false e = let l = ltb-false (length s.held) 8 e in let r = so.lays.room in le-ltb 0 (copies d.layouts []) (omega arith)

    abbrev more : List Named
    more = record { name = name; list = s.force } ∷ without name s.held

    saved_under : (at : ℕ) → room_for d.layouts name ≡ Some at → (m : List ℕ) → is_name m ≡ true
        → held_on (saved name d at) m ≡ under more m
    unfolding under
    saved_under at room m fine = saved_held name d at room m fine ∙ rw (so.force, so.held m fine, under_without s.held name m) (go (same name m))
      where
        go : (b : Bool) → pick b (Some s.force) (under s.held m) ≡ pick b (Some s.force) (pick b None (under s.held m))
        go true = refl
        go false = refl

    saved_stands : is_name name ≡ true → (at : ℕ) → room_for d.layouts name ≡ Some at → Stands g n (saved name d at) (hold s more)
    saved_stands proper at room =
        lay_stands g n d s so _ more (saved_under at room)
        (record {
          eight = length-set d.layouts at (layout_of name d.list) ∙ so.lays.eight;
          sole = save_sole d.layouts name at proper room so.lays.sole d.list;
          once = more_once s.held name s.force so.lays.once;
          room =
              free (is_some (under s.held name)) (so.lays.once name)
              (rw (held_some proper) at (save_room d.layouts name at proper room d.list));
        })
      where
        free : (b : Bool) → times s.held name ≡ one b → copies (saved name d at).layouts [] + one (not b) ≡ copies d.layouts []
            → copies (saved name d at).layouts [] + length more ≡ 8
        free true e f = let r = so.lays.room in let l = length_without s.held name in omega arith
        free false e f = let r = so.lays.room in let l = length_without s.held name in omega arith

    pub save_follows : Follows g n (save_desk name d).desk (Number (save_desk name d).number) (step g s (Save name))
    unfolding save_desk
    save_follows =
        named_follows _ _ (λ proper.
        found_follows 27 (saved name d) (hold s more) (room_for d.layouts name) _ (room_same proper) (saved_stands proper))

    dropped_under : (m : List ℕ) → is_name m ≡ true → held_on (dropped name d) m ≡ under (without name s.held) m
    dropped_under m fine = dropped_held name d m fine ∙ rw (so.held m fine, under_without s.held name m)

    dropped_stands : is_name name ≡ true → Stands g n (dropped name d) (hold s (without name s.held))
    dropped_stands proper =
        let r = so.lays.room in
        let l = length_without s.held name in
        let c = drop_room d.layouts name proper in
        let k : copies d.layouts name ≡ times s.held name =
        so.lays.sole name proper ∙ ap one (held_some proper) ∙ sym (so.lays.once name) in
        lay_stands g n d s so _ (without name s.held) dropped_under
        (record {
          eight = length-map d.layouts (freed name) ∙ so.lays.eight;
          sole = drop_sole d.layouts name so.lays.sole;
          once = without_once s.held name so.lays.once;
          room = omega arith;
        })

    pub drop_follows : Follows g n (drop_desk name d).desk (Number (drop_desk name d).number) (step g s (Drop name))
    unfolding drop_desk
    drop_follows =
        named_follows _ _ (λ proper.
        found_follows 26 (λ at. dropped name d) (hold s (without name s.held)) (find_named d.layouts name) _ (found_same proper)
        (λ at e. dropped_stands proper))
