-- A desk that is opened unrefused: its list in force is the opening one, and nothing is pending.
use Rattle.std.specs.Prelude.{ℕ, zero, suc, ◌*◌, ◌/◌, ◌≤◌, Bool, true, false, ◌&&◌, List, [], ◌++◌, ◌≡◌, eqb, leb, length, replicate, Option, None, is_some, option_map, Err, Ok}
use Rattle.std.proofs.Common.{arith, ◌∙◌, leb-true, le-leb}
use Rattle.std.proofs.Math.Path.{refl, sym, ap}
use Rattle.std.proofs.Math.ListN.{take, drop, length-replicate}
use Rattle.std.proofs.Math.Seq.{take_at}
use Rattle.model.specs.Galley as model
use Rattle.model.specs.Answers.{numbers_of, accepted, marked, refused}
use Rattle.model.specs.Gather.{pick, one}
use Rattle.model.proofs.laws.Gather.{and_right, and_both}
use Rattle.model.proofs.laws.Words.{counted_at}
use Rattle.model.proofs.laws.Valid.{marked_accepted}
use Rattle.galley.specs.declared.Galley.{Galley}
use Rattle.galley.specs.Whole.{galley_of, Reading}
use Rattle.galley.specs.Model.{model_of}
use Rattle.blocks.specs.laws.Counts.{streams_of_lem}
use Rattle.marking.specs.Mark.{mark_read, mark_of}
use Rattle.desk.specs.declared.Desk.{Desk}
use Rattle.desk.specs.Desk.{Told}
use Rattle.desk.specs.Pages.{pages_on, words_on, in_force, is_inner, width_of}
use Rattle.desk.specs.Opening.{closed, opened, open_on, open_read, open_desk}
use Rattle.layouts.specs.Names.{is_name, free_layout}
use Rattle.desk.specs.Sitting.{under, begin}
use Rattle.desk.specs.Desk.{pending_on}
use Rattle.desk.specs.Held.{held_in, held_on}
use Rattle.desk.proofs.laws.Held.{free_unnamed}
use Rattle.desk.proofs.laws.Opening.{Whole, marked_pages_lem, width_least, width_most, width_is, whole_long}
use Rattle.desk.proofs.laws.Room.{copies, no_bytes}
use Rattle.desk.proofs.laws.Sitting.{none_once}
use Rattle.desk.proofs.laws.Stands.{Fits, Stands}

-- The desk is the one with the list and as many pages as the marking counts, which are at most 64.
pub record Opened (bytes list : List ℕ) (d : Desk) : Type 0 where
  pub taken : accepted (mark_of bytes list) ≡ true
  pub few : (numbers_of (mark_of bytes list)).pages ≤ 64
  pub desk : d ≡ opened list (numbers_of (mark_of bytes list)).pages

-- An opening that is not refused opens such a desk.
pub unrefused : (bytes list : List ℕ) (lent : Desk) → accepted (open_desk bytes list lent).answer ≡ true
    → Opened bytes list (open_desk bytes list lent).desk
unfolding open_desk open_read open_on
unrefused bytes list lent = go (galley_of bytes)
  where
    p : ℕ
    p = (numbers_of (mark_of bytes list)).pages

    told : Bool → Told
    told b = pick b (record { desk = opened list p; answer = mark_of bytes list }) (record { desk = closed lent; answer = refused 22 0 })

    on : (b : Bool) → (accepted (mark_of bytes list) && leb p 64) ≡ b → accepted (told b).answer ≡ true → Opened bytes list (told b).desk
    on true e h = record { taken = h; few = leb-true p 64 (and_right (accepted (mark_of bytes list)) (leb p 64) e); desk = refl }
    on false e h = let z : ◌≡◌ {A = ℕ} 0 1 = cc in absurd (omega arith)

    go : (r : Reading) → accepted (open_read bytes list lent r).answer ≡ true → Opened bytes list (open_read bytes list lent r).desk
    go (Ok g) h = on (accepted (mark_of bytes list) && leb p 64) refl h
    go (Err r) h = let z : ◌≡◌ {A = ℕ} 0 1 = cc in absurd (omega arith)

-- On a galley that reads, the marking is that of its model,
pub marks_model : (bytes : List ℕ) (G : Galley) → galley_of bytes ≡ Ok G → (list : List ℕ)
    → mark_of bytes list ≡ marked (model_of bytes G) list
unfolding mark_of mark_read
marks_model bytes G reading list = rw reading

-- and a list that it accepts has whole pages.
module _ (bytes : List ℕ) (G : Galley) (list : List ℕ) (taken : accepted (marked (model_of bytes G) list) ≡ true) where
  abbrev M : model.Galley
  M = model_of bytes G

  two_three : (2 ≤ model.streams M) × (model.streams M ≤ 3)
  two_three = rw (streams_of_lem G bytes) (go (eqb G.tables.count 0))
    where
      go : (b : Bool) → (2 ≤ pick b 2 3) × (pick b 2 3 ≤ 3)
      go true = (omega arith, omega arith)
      go false = (omega arith, omega arith)

  pub taken_fits : Fits M (length list)
  taken_fits =
      record {
        least = two_three.0;
        most = two_three.1;
        whole = (counted_at M list ((marked_accepted M list).0 taken).whole).whole;
      }

  -- Their words and count are those that a desk keeps.
  pub taken_width : width_of (length list) (numbers_of (marked M list)).pages ≡ model.streams M
  taken_width =
      let e = marked_pages_lem M list taken in
      let some = (counted_at M list ((marked_accepted M list).0 taken).whole).some in
      let whole : length list ≡ (numbers_of (marked M list)).pages * model.streams M = rw e taken_fits.whole in
      width_is (length list) _ (eqb G.tables.count 0) (omega arith) (rw (streams_of_lem G bytes) at whole) ∙ sym (streams_of_lem G bytes)

-- Free layouts hold nothing.
none_held : (name : List ℕ) → is_name name ≡ true → (n : ℕ) → held_in (replicate n free_layout) name ≡ None
unfolding held_in
none_held name proper zero = refl
none_held name proper (suc n) = rw (free_unnamed free_layout name proper refl) (none_held name proper n)

none_copies : (name : List ℕ) → is_name name ≡ true → (n : ℕ) → copies (replicate n free_layout) name ≡ 0
unfolding copies
none_copies name proper zero = refl
none_copies name proper (suc n) = let rest = none_copies name proper n in rw (free_unnamed free_layout name proper refl) (omega arith)

all_free : (n : ℕ) → copies (replicate n free_layout) [] ≡ n
unfolding copies
all_free zero = refl
all_free (suc n) = let rest = all_free n in rw (no_bytes (replicate 16 0) (replicate 192 0)) (omega arith)

module _ (list : List ℕ) (pages : ℕ) (whole : Whole list pages) (few : pages ≤ 64) where
  opened_pages : pages_on (opened list pages) ≡ pages
  unfolding pages_on opened
  opened_pages =
      rw (and_both (and_both (le-leb pages 64 few) (le-leb 2 _ (width_least list pages))) (le-leb _ 3 (width_most list pages)))

  opened_force : in_force (opened list pages) ≡ list
  unfolding in_force words_on opened
  opened_force =
      ap (λ (n : ℕ). take (n * width_of (length list) pages) (list ++ drop (length list) (replicate 192 0))) opened_pages
      ∙ take_at list (drop (length list) (replicate 192 0)) (pages * width_of (length list) pages) (whole_long list pages whole)

  opened_none : pending_on (opened list pages) ≡ None
  unfolding pending_on is_inner opened
  opened_none = refl

  -- Nothing is held: every layout is free.
  opened_held : (name : List ℕ) → is_name name ≡ true → held_on (opened list pages) name ≡ None
  unfolding held_on opened
  opened_held name proper = ap (option_map (take (words_on (opened list pages)))) (none_held name proper 8)

  pub opened_stands : (g : model.Galley) → width_of (length list) pages ≡ model.streams g → pages ≡ length list / model.streams g
      → Stands g (length list) (opened list pages) (begin list)
  unfolding opened under
  opened_stands g width count =
      record {
        width = width;
        pages = opened_pages ∙ count;
        force = opened_force;
        pending = opened_none;
        held = opened_held;
        lays =
            record {
              eight = length-replicate 8 free_layout;
              sole = λ n proper. none_copies n proper 8 ∙ sym (ap (λ (k : Option (List ℕ)). one (is_some k)) (none_held n proper 8));
              once = none_once;
              room = let e = all_free 8 in omega arith;
            };
      }
