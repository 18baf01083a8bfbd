-- What is promised of every desk (document 02, S-7 and S-8).
use Rattle.std.specs.Prelude.{ℕ, List, ◌≡◌}
use Rattle.std.proofs.Math.Bool.{true}
use Rattle.model.specs.Galley as model
use Rattle.model.specs.Answers.{accepted}
use Rattle.marking.specs.Mark.{mark_of}
use Rattle.desk.specs.declared.Desk.{Desk}
use Rattle.desk.specs.Calls.{Call, Sitting}
use Rattle.desk.specs.Sitting.{under, sat, replies}
use Rattle.desk.specs.Pages.{in_force}
use Rattle.desk.specs.Desk.{pending_on}
use Rattle.layouts.specs.Names.{is_name}
use Rattle.desk.specs.Held.{held_on}
use Rattle.desk.specs.After.{after_calls, answered}

-- After any calls on a desk, given one galley each time, all is as in a sitting: the answers, the list in force, what is pending, and
-- what is held under each name.
pub record Sits (bytes : List ℕ) (g : model.Galley) (d : Desk) (s : Sitting) (calls : List Call) : Type 0 where
  pub answers : answered bytes d calls ≡ replies g s calls
  pub force : in_force (after_calls bytes d calls) ≡ (sat g s calls).force
  pub pending : pending_on (after_calls bytes d calls) ≡ (sat g s calls).pending
  pub held : (name : List ℕ) → is_name name ≡ true → held_on (after_calls bytes d calls) name ≡ under (sat g s calls).held name

-- The marking of a galley accepts a list.
abbrev pub Taken : List ℕ → List ℕ → Type 0
Taken bytes list = accepted (mark_of bytes list) ≡ true
