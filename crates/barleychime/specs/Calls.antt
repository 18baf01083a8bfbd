-- Calls through C on one lent desk, one after the other, given one galley each time: what they return and leave is that of a sitting
-- (document 02, S-7 and S-8).
use Rattle.std.specs.Prelude.{ℕ, Bool, true, false, ◌&&◌, List, [], ◌∷◌, map, ◌≡◌, refl, leb, Err, Ok}
use Rattle.std.proofs.Common.{arith, sym, ap, ap₂, subst, ◌∙◌}
use Rattle.model.specs.Galley as model
use Rattle.model.specs.Answers.{numbers_of, accepted, refused}
use Rattle.model.specs.Gather.{pick}
use Rattle.galley.specs.declared.Galley.{Galley}
use Rattle.galley.specs.Whole.{galley_of, Reading}
use Rattle.galley.specs.Model.{model_of}
use Rattle.galley.proofs.laws.Sound.{refusal_number}
use Rattle.marking.specs.Mark.{mark_of}
use Rattle.layouts.specs.Names.{is_name}
use Rattle.desk.specs.declared.Desk.{Desk}
use Rattle.desk.specs.Calls.{Call, Ask, Commit, Save, Back, Drop, Reply, Marking, Number, words_at, Sitting}
use Rattle.desk.specs.Sitting.{under, begin, sat, replies}
use Rattle.desk.specs.Pages.{in_force}
use Rattle.desk.specs.Opening.{closed, opened, open_on, open_read, open_desk}
use Rattle.desk.specs.Desk.{Told, Done, ask_desk, commit_desk, pending_on}
use Rattle.desk.specs.Layouts.{save_desk, back_desk, drop_desk}
use Rattle.desk.specs.Held.{held_on}
use Rattle.desk.specs.After.{leaves, answers, after_calls, answered}
use Rattle.desk.proofs.Promised.{desk_sits}
use Rattle.barleychime.specs.Words.{number_of, answer_words}
use Rattle.barleychime.specs.Desk.{number_alone, Left, LeftTold, LeftDone}

-- What a call returned, and the words of its answer.
pub record Returned : Type 0 where
  pub number : ℕ
  pub answer : List ℕ

-- What a call returns and leaves on a lent desk: the contract of its function (src/trying.rt).
abbrev pub Called : List ℕ → Desk → Call → Returned → Desk → Type 0
Called bytes d (Ask page end) r after = LeftTold (ask_desk bytes page (words_at end) d) r.number after r.answer
Called bytes d Commit r after = LeftDone (commit_desk d) r.number after r.answer
Called bytes d (Save name) r after = LeftDone (save_desk name d) r.number after r.answer
Called bytes d (Back name) r after = LeftDone (back_desk name d) r.number after r.answer
Called bytes d (Drop name) r after = LeftDone (drop_desk name d) r.number after r.answer

-- So it is of each of a list of calls, on what the one before left.
unfoldable pub AllCalled : List ℕ → Desk → List Call → List Returned → Desk → Type 0
AllCalled bytes d [] [] after = after ≡ d
AllCalled bytes d [] (r ∷ rs) after = ⊥
AllCalled bytes d (call ∷ calls) [] after = ⊥
AllCalled bytes d (call ∷ calls) (r ∷ rs) after = (next : Desk) × Called bytes d call r next × AllCalled bytes next calls rs after

-- An answer as C tells it: as that of a marking, or a number alone.
abbrev pub in_c : Reply → Returned
in_c (Marking answer) = record { number = number_of answer; answer = answer_words answer 0 }
in_c (Number number) = record { number = number; answer = number_alone number }

-- All is as in a sitting: what the calls return, and on the lent desk the list in force, what is pending and what is held.
pub record SitsInC (g : model.Galley) (s : Sitting) (calls : List Call) (rs : List Returned) (after : Desk) : Type 0 where
  pub returned : rs ≡ map in_c (replies g s calls)
  pub force : in_force after ≡ (sat g s calls).force
  pub pending : pending_on after ≡ (sat g s calls).pending
  pub held : (name : List ℕ) → is_name name ≡ true → held_on after name ≡ under (sat g s calls).held name

-- A call through C answers and leaves what it does on a desk by value,
left_alike : {done : Done} {words : List ℕ} (r : Returned) (after : Desk) → Left done words r.number after r.answer
    → (r ≡ record { number = done.number; answer = words }) × (after ≡ done.desk)
left_alike r after left = (ap₂ (λ n ws. record { number = n; answer = ws }) left.returned left.told, left.lent)

call_alike : (bytes : List ℕ) (d : Desk) (call : Call) (r : Returned) (after : Desk) → Called bytes d call r after
    → (r ≡ in_c (answers bytes d call)) × (after ≡ leaves bytes d call)
call_alike bytes d (Ask page end) r after left = left_alike r after left
call_alike bytes d Commit r after left = left_alike r after left
call_alike bytes d (Save name) r after left = left_alike r after left
call_alike bytes d (Back name) r after left = left_alike r after left
call_alike bytes d (Drop name) r after left = left_alike r after left

-- and so does a list of them.
calls_alike : (bytes : List ℕ) (d : Desk) (calls : List Call) (rs : List Returned) (after : Desk) → AllCalled bytes d calls rs after
    → (rs ≡ map in_c (answered bytes d calls)) × (after ≡ after_calls bytes d calls)
unfolding AllCalled answered after_calls
calls_alike bytes d [] [] after e = (refl, e)
calls_alike bytes d [] (r ∷ rs) after e = absurd e
calls_alike bytes d (call ∷ calls) [] after e = absurd e
calls_alike bytes d (call ∷ calls) (r ∷ rs) after (next, one, rest) =
    let this = call_alike bytes d call r next one in
    let others = calls_alike bytes (leaves bytes d call) calls rs after (subst (λ (n : Desk). AllCalled bytes n calls rs after) this.1 rest) in
    (ap₂ (λ (x : Returned) (xs : List Returned). x ∷ xs) this.0 others.0, others.1)

-- An opening that returns 0 is unrefused.
zero_accepted : (bytes list : List ℕ) (lent : Desk) → number_of (open_desk bytes list lent).answer ≡ 0
    → accepted (open_desk bytes list lent).answer ≡ true
unfolding open_desk open_read open_on
zero_accepted bytes list lent = go (galley_of bytes) refl
  where
    told : Bool → Told
    told b =
        pick b (record { desk = opened list (numbers_of (mark_of bytes list)).pages; answer = mark_of bytes list })
        (record { desk = closed lent; answer = refused 22 0 })

    on : (a b : Bool) → accepted (mark_of bytes list) ≡ a → number_of (told (a && b)).answer ≡ 0 → accepted (told (a && b)).answer ≡ true
    on true true e h = e
    on true false e h = absurd (omega arith)
    on false b e h = absurd (omega arith)

    go : (r : Reading) → galley_of bytes ≡ r → number_of (open_read bytes list lent r).answer ≡ 0
        → accepted (open_read bytes list lent r).answer ≡ true
    go (Ok g) e h = on (accepted (mark_of bytes list)) (leb (numbers_of (mark_of bytes list)).pages 64) refl h
    go (Err r) e h = absurd (omega (arith, (refusal_number bytes r.number r.place e).0))

-- For every list of calls through C on a lent desk, from one opened with 0 returned, all is as in a sitting that begins with the opening list.
pub calls_sit : (bytes list : List ℕ) (lent d : Desk) (number : ℕ) (answer : List ℕ)
    → LeftTold (open_desk bytes list lent) number d answer → number ≡ 0 → (G : Galley) → galley_of bytes ≡ Ok G
    → (calls : List Call) (rs : List Returned) (after : Desk) → AllCalled bytes d calls rs after
    → SitsInC (model_of bytes G) (begin list) calls rs after
calls_sit bytes list lent d number answer left none G reading calls rs after called =
    let first : Desk = (open_desk bytes list lent).desk in
    let alike = calls_alike bytes first calls rs after (subst (λ (n : Desk). AllCalled bytes n calls rs after) left.lent called) in
    let so = zero_accepted bytes list lent (sym left.returned ∙ none) in
    let sits = desk_sits bytes list lent so G reading calls in
    record {
      returned = alike.0 ∙ ap (map in_c) sits.answers;
      force = ap in_force alike.1 ∙ sits.force;
      pending = ap pending_on alike.1 ∙ sits.pending;
      held = λ name proper. ap (λ (n : Desk). held_on n name) alike.1 ∙ sits.held name proper;
    }
