-- What is promised of every desk (document 02, S-7 and S-8).
use Rattle.std.specs.Prelude.{ℕ, ◌≤◌, Bool, ◌&&◌, List, [], ◌∷◌, ◌++◌, ◌≡◌, leb, length, Some, None, Err, Ok}
use Rattle.std.proofs.Math.Bool.{true, false}
use Rattle.std.proofs.Math.Path.{refl, sym, ap, subst⁻¹}
use Rattle.std.proofs.Common.{subst, ◌∙◌, arith}
use Rattle.std.proofs.Math.Dec.{ltb}
use borrow.Author.Tests.{le-ltb}
use Rattle.model.specs.Galley as model
use Rattle.model.specs.Answers.{numbers_of, accepted, marked, refused}
use Rattle.model.specs.Gather.{pick}
use Rattle.galley.specs.declared.Galley.{Galley}
use Rattle.galley.specs.Whole.{galley_of, Reading}
use Rattle.galley.specs.Model.{model_of}
use Rattle.marking.specs.Mark.{mark_of}
use Rattle.desk.specs.declared.Desk.{Desk}
use Rattle.desk.specs.Calls.{Call, Save, Back, Drop, Number, Quiet, Onward, Sitting, Step}
use Rattle.desk.specs.Sitting.{under, put_or, other_end, step, begin, sat, replies}
use Rattle.desk.specs.Pages.{pages_on, in_force, is_inner, with_end}
use Rattle.desk.specs.Opening.{closed, opened, open_on, open_read, open_desk}
use Rattle.desk.specs.Desk.{Told, ask_off, ask_desk, pending_on, commit_desk}
use Rattle.layouts.specs.Names.{is_name}
use Rattle.desk.specs.Held.{held_on}
use Rattle.desk.specs.After.{leaves, answers, after_calls, answered}
use Rattle.desk.proofs.laws.Opening.{accepted_whole, marked_pages_lem}
use Rattle.desk.proofs.laws.Sitting.{Once, Each, All, begin_all, sat_all, taken_lasts, Pends, nothing, sat_pends, sat_append, quiet_under, save_under, drop_under, Alike, onward_alike}
use Rattle.desk.proofs.laws.Stands.{Sized, Stands, Follows}
use Rattle.desk.proofs.laws.Calls.{follows, sized_lasts, calls-follow}
use Rattle.desk.proofs.laws.Opened.{unrefused, marks_model, taken_fits, taken_width, opened_stands}
use Rattle.desk.specs.Promised.{Sits, Taken}

-- Every list of a desk is of a kind: the one in force, the one that is pending, and each that is held.
pub record Kind (P : List ℕ → Type 0) (d : Desk) : Type 0 where
  pub force : P (in_force d)
  pub pending : Each P (pending_on d)
  pub held : (name : List ℕ) → is_name name ≡ true → Each P (held_on d name)

-- A desk that is opened unrefused has a galley that reads.
pub opened_reads : (bytes list : List ℕ) (lent : Desk) → accepted (open_desk bytes list lent).answer ≡ true
    → (G : Galley) × (galley_of bytes ≡ Ok G)
unfolding open_desk open_read
opened_reads bytes list lent = go (galley_of bytes)
  where
    go : (r : Reading) → accepted (open_read bytes list lent r).answer ≡ true → (G : Galley) × (r ≡ Ok G)
    go (Ok G) h = (G, refl)
    go (Err r) h = let z : ◌≡◌ {A = ℕ} 0 1 = cc in absurd (omega arith)

-- A desk that is opened unrefused on a galley and a list.
module _ (bytes list : List ℕ) (lent : Desk) (so : accepted (open_desk bytes list lent).answer ≡ true) where
  abbrev d : Desk
  d = (open_desk bytes list lent).desk

  module _ (G : Galley) (reading : galley_of bytes ≡ Ok G) where
    abbrev g : model.Galley
    g = model_of bytes G

    marks : (words : List ℕ) → mark_of bytes words ≡ marked g words
    marks = marks_model bytes G reading

    taken : accepted (marked g list) ≡ true
    taken = subst (λ a. accepted a ≡ true) (marks list) (unrefused bytes list lent so).taken

    begins : Stands g (length list) d (begin list)
    begins =
        let opening = unrefused bytes list lent so in
        let p : ℕ = (numbers_of (mark_of bytes list)).pages in
        let e : p ≡ (numbers_of (marked g list)).pages = ap (λ a. (numbers_of a).pages) (marks list) in
        subst⁻¹ (λ (it : Desk). Stands g (length list) it (begin list)) opening.desk
        (opened_stands list p (accepted_whole bytes list opening.taken) opening.few g (rw e (taken_width bytes G list taken))
        (e ∙ marked_pages_lem g list taken))

    sized : (calls : List Call) → All (Sized (length list)) (sat g (begin list) calls)
    sized =
        sat_all g (Sized (length list)) (sized_lasts g (length list) (taken_fits bytes G list taken)) (begin list)
        (begin_all (Sized (length list)) list refl)

    followed : (calls : List Call)
        → (answered bytes d calls ≡ replies g (begin list) calls) × (Stands g (length list) (after_calls bytes d calls) (sat g (begin list) calls))
    followed =
        calls-follow g (length list) (taken_fits bytes G list taken) bytes marks d (begin list) begins
        (begin_all (Sized (length list)) list refl)

    next : (before : List Call) (call : Call)
        → Follows g (length list) (leaves bytes (after_calls bytes d before) call) (answers bytes (after_calls bytes d before) call)
        (step g (sat g (begin list) before) call)
    next before =
        follows g (length list) (taken_fits bytes G list taken) bytes marks (after_calls bytes d before) (sat g (begin list) before)
        (followed before).1 (sized before).force

    -- Every list of calls on it, given the same galley each time, is a sitting.
    pub desk_sits : (calls : List Call) → Sits bytes g d (begin list) calls
    desk_sits calls =
        let both = followed calls in
        record { answers = both.0; force = both.1.force; pending = both.1.pending; held = both.1.held }

    kinds : (P : List ℕ → Type 0) (calls : List Call) → All P (sat g (begin list) calls) → Kind P (after_calls bytes d calls)
    kinds P calls all =
        let it = (followed calls).1 in
        record {
          force = subst⁻¹ P it.force all.force;
          pending = subst⁻¹ (Each P) it.pending all.pending;
          held = λ name proper. subst⁻¹ (Each P) (it.held name proper) (all.held name);
        }

    -- What is pending is the list in force with another end of a page, and so is what a commit puts in force.
    pub desk_pends : (calls : List Call) → Pends g (in_force (after_calls bytes d calls)) (pending_on (after_calls bytes d calls))
    desk_pends calls =
        let it = (followed calls).1 in
        rw (it.force, it.pending) (sat_pends g (begin list) (nothing refl) calls)

    -- At most eight names are held, each once.
    pub few_held : (calls : List Call) → (length (sat g (begin list) calls).held ≤ 8) × Once (sat g (begin list) calls).held
    few_held calls =
        let it = (followed calls).1 in
        let room = it.lays.room in
        (omega arith, it.lays.once)

    accepts : (calls : List Call) → All (Taken bytes) (sat g (begin list) calls)
    accepts =
        sat_all g (Taken bytes)
        (λ words page end was h. rw (marks (other_end g words page end)) (taken_lasts g words page end (rw (marks words) at was) h))
        (begin list) (begin_all (Taken bytes) list (rw (marks list) taken))

    -- Coming back puts what a name gives in force, and until one comes back again that is as in a sitting begun with it.
    pub last_back : (before since : List Call) (name kept : List ℕ) → is_name name ≡ true → held_on (after_calls bytes d before) name ≡ Some kept
        → Onward since
        → (answers bytes (after_calls bytes d before) (Back name) ≡ Number 0)
        × (in_force (after_calls bytes d (before ++ Back name ∷ since)) ≡ (sat g (begin kept) since).force)
    unfolding sat
    last_back before since name kept proper h onward =
        let s : Sitting = sat g (begin list) before in
        let is : under s.held name ≡ Some kept = sym ((followed before).1.held name proper) ∙ h in
        let e : step g s (Back name) ≡ put_or 26 s (Some kept) = rw (proper, is) in
        let back : Sitting = (step g s (Back name)).after in
        let alike : Alike back (begin kept) =
        record { force = ap (λ (it : Step). it.after.force) e; pending = ap (λ (it : Step). it.after.pending) e } in (
          (next before (Back name)).reply ∙ ap (λ (it : Step). it.reply) e,
          (followed (before ++ Back name ∷ since)).1.force
              ∙ ap (λ (it : Sitting). it.force) (sat_append g (begin list) before (Back name ∷ since))
              ∙ (onward_alike g back (begin kept) alike since onward).force,
        )

  abbrev G : Galley
  G = (opened_reads bytes list lent so).0

  reading : galley_of bytes ≡ Ok G
  reading = (opened_reads bytes list lent so).1

  -- The marking accepts every list of the desk,
  pub desk_taken : (calls : List Call) → Kind (Taken bytes) (after_calls bytes d calls)
  desk_taken calls = kinds G reading _ calls (accepts G reading calls)

  -- and each is as long as the opening list, in as many pages of as many words.
  pub desk_long : (calls : List Call) → Kind (Sized (length list)) (after_calls bytes d calls)
  desk_long calls = kinds G reading _ calls (sized G reading calls)

  pub desk_pages : (calls : List Call) → (pages_on (after_calls bytes d calls) ≡ pages_on d) × ((after_calls bytes d calls).width ≡ d.width)
  desk_pages calls =
      let was = begins G reading in
      let now = (followed G reading calls).1 in
      (now.pages ∙ sym was.pages, now.width ∙ sym was.width)

  -- A name that is saved, and neither saved nor dropped since, gives the list that was in force when it was saved;
  pub last_saved : (before since : List Call) (name : List ℕ) → answers bytes (after_calls bytes d before) (Save name) ≡ Number 0
      → Quiet name since → held_on (after_calls bytes d (before ++ Save name ∷ since)) name ≡ Some (in_force (after_calls bytes d before))
  unfolding sat
  last_saved before since name h quiet =
      let M : model.Galley = model_of bytes G in
      let s : Sitting = sat M (begin list) before in
      let was = (followed G reading before).1 in
      let kept = save_under M name s (sym (next G reading before (Save name)).reply ∙ h) in
      (followed G reading (before ++ Save name ∷ since)).1.held name kept.0
      ∙ ap (λ (it : Sitting). under it.held name) (sat_append M (begin list) before (Save name ∷ since))
      ∙ quiet_under M name (step M s (Save name)).after since quiet
      ∙ kept.1
      ∙ ap Some (sym was.force)

  -- one that is dropped, and not saved since, gives nothing,
  pub last_dropped : (before since : List Call) (name : List ℕ) → is_name name ≡ true → Quiet name since
      → held_on (after_calls bytes d (before ++ Drop name ∷ since)) name ≡ None
  unfolding sat
  last_dropped before since name proper quiet =
      let M : model.Galley = model_of bytes G in
      let s : Sitting = sat M (begin list) before in
      (followed G reading (before ++ Drop name ∷ since)).1.held name proper
      ∙ ap (λ (it : Sitting). under it.held name) (sat_append M (begin list) before (Drop name ∷ since))
      ∙ quiet_under M name (step M s (Drop name)).after since quiet
      ∙ drop_under M name s proper

  -- and so does one that was never saved.
  pub never_saved : (calls : List Call) (name : List ℕ) → is_name name ≡ true → Quiet name calls
      → held_on (after_calls bytes d calls) name ≡ None
  unfolding under
  never_saved calls name proper quiet =
      (followed G reading calls).1.held name proper ∙ quiet_under (model_of bytes G) name (begin list) calls quiet

-- A desk that is refused at opening has no pages, and nothing else of it changes.
pub refused_opening : (bytes list : List ℕ) (lent : Desk) → accepted (open_desk bytes list lent).answer ≡ false
    → (open_desk bytes list lent).desk ≡ closed lent
unfolding open_desk open_read open_on
refused_opening bytes list lent = go (galley_of bytes)
  where
    told : Bool → Told
    told b =
        pick b (record { desk = opened list (numbers_of (mark_of bytes list)).pages; answer = mark_of bytes list })
        (record { desk = closed lent; answer = refused 22 0 })

    on : (a b : Bool) → accepted (mark_of bytes list) ≡ a → accepted (told (a && b)).answer ≡ false → (told (a && b)).desk ≡ closed lent
    on true true e h = let z : ◌≡◌ {A = ℕ} 0 1 = cc in absurd (omega arith)
    on true false e h = refl
    on false b e h = refl

    go : (r : Reading) → accepted (open_read bytes list lent r).answer ≡ false → (open_read bytes list lent r).desk ≡ closed lent
    go (Ok g) h = on (accepted (mark_of bytes list)) (leb (numbers_of (mark_of bytes list)).pages 64) refl h
    go (Err r) h = refl

module _ (d : Desk) (none : pages_on d ≡ 0) where
  no_inner : (page : ℕ) → is_inner d page ≡ false
  unfolding is_inner
  no_inner page = rw none (go (leb 1 page))
    where
      go : (b : Bool) → (b && ltb page 0) ≡ false
      go true = le-ltb page 0 (omega arith)
      go false = refl

  -- On a desk without pages every ask is 23, and every commit is 24.
  pub no_pages_ask : (bytes : List ℕ) (page : ℕ) (end : List ℕ) → ask_desk bytes page end d ≡ ask_off d page
  unfolding ask_desk
  no_pages_ask bytes page end = rw (no_inner page)

  pub no_pages_commit : commit_desk d ≡ record { desk = d; number = 24 }
  unfolding commit_desk
  no_pages_commit = rw (no_inner d.page)

pub closed_pages : (d : Desk) → pages_on (closed d) ≡ 0
unfolding pages_on
closed_pages d = go (leb 2 d.width) (leb d.width 3)
  where
    go : (a b : Bool) → ◌≡◌ {A = ℕ} (pick (a && b) 0 0) 0
    go true true = refl
    go true false = refl
    go false b = refl

-- In pages of two words the third word of an end is not looked at.
pub third_unread : (list : List ℕ) (page a b c c' : ℕ) → with_end 2 list page (a ∷ b ∷ c ∷ []) ≡ with_end 2 list page (a ∷ b ∷ c' ∷ [])
unfolding with_end
third_unread list page a b c c' = refl
