-- Every call on a desk does what it does in a sitting.
use Rattle.std.specs.Prelude.{ℕ, ◌-◌, ◌/◌, ◌≡◌, refl, length, take}
use mathlib.Core.List.{List, [], ◌∷◌}
use Rattle.std.proofs.Math.Path.{ap}
use Rattle.std.proofs.Common.{◌∙◌, length-take-le}
use Rattle.model.specs.Galley.{Galley, streams}
use Rattle.model.specs.Answers.{pages_of, marked}
use Rattle.marking.specs.Mark.{mark_of}
use Rattle.desk.specs.declared.Desk.{Desk}
use Rattle.desk.specs.Calls.{Call, Ask, Commit, Save, Back, Drop, Reply, words_at, Sitting}
use Rattle.desk.specs.Sitting.{other_end, step, sat, replies}
use Rattle.desk.specs.After.{leaves, answers, after_calls, answered}
use Rattle.desk.proofs.laws.Ends.{pages_long}
use Rattle.desk.proofs.laws.Sitting.{All, Lasts, step_all}
use Rattle.desk.proofs.laws.Stands.{Fits, Sized, Stands, Follows}
use Rattle.desk.proofs.laws.Trying.{ask_follows, commit_follows}
use Rattle.desk.proofs.laws.Layouts.{save_follows, back_follows, drop_follows}

-- Lists keep their length.
pub sized_lasts : (g : Galley) (n : ℕ) → Fits g n → Lasts g (Sized n)
unfolding other_end pages_of
sized_lasts g n fits list page end long h =
    pages_long (length list / streams g) (streams g) list (page - 1) (take (streams g) (words_at end))
    (length-take-le (streams g) (words_at end) fits.most) (rw long fits.whole)
    ∙ long

module _ (g : Galley) (n : ℕ) (fits : Fits g n) (bytes : List ℕ) (marks : (list : List ℕ) → mark_of bytes list ≡ marked g list) where
  -- So every call does what it does in a sitting.
  pub follows : (d : Desk) (s : Sitting) → Stands g n d s → Sized n s.force → (call : Call)
      → Follows g n (leaves bytes d call) (answers bytes d call) (step g s call)
  follows d s so long (Ask page end) = ask_follows g n d s so fits long bytes marks page end
  follows d s so long Commit = commit_follows g n d s so
  follows d s so long (Save name) = save_follows g n d s so name
  follows d s so long (Back name) = back_follows g n d s so name
  follows d s so long (Drop name) = drop_follows g n d s so name

  -- After any calls the desk stands as the sitting does, and they are answered alike.
  pub calls-follow : (d : Desk) (s : Sitting) → Stands g n d s → All (Sized n) s → (calls : List Call)
      → (answered bytes d calls ≡ replies g s calls) × (Stands g n (after_calls bytes d calls) (sat g s calls))
  unfolding after_calls answered replies sat
  calls-follow d s so all [] = (refl, so)
  calls-follow d s so all (call ∷ calls) =
      let one = follows d s so all.force call in
      let after = calls-follow (leaves bytes d call) (step g s call).after one.stands (step_all g (Sized n) (sized_lasts g n fits) s all call) calls in (
        ap (λ (r : Reply). r ∷ answered bytes (leaves bytes d call) calls) one.reply
            ∙ ap (λ (rest : List Reply). (step g s call).reply ∷ rest) after.0,
        after.1,
      )
