-- Calls on a desk, one after the other, given one galley each time: what they leave, and what they answer.
use Rattle.std.specs.Prelude.{ℕ, List, [], ◌∷◌}
use Rattle.desk.specs.declared.Desk.{Desk}
use Rattle.desk.specs.Calls.{Call, Ask, Commit, Save, Back, Drop, Reply, Marking, Number, words_at}
use Rattle.desk.specs.Desk.{ask_desk, commit_desk}
use Rattle.desk.specs.Layouts.{save_desk, back_desk, drop_desk}

-- What a call leaves,
abbrev pub leaves : List ℕ → Desk → Call → Desk
leaves bytes d (Ask page end) = (ask_desk bytes page (words_at end) d).desk
leaves bytes d Commit = (commit_desk d).desk
leaves bytes d (Save name) = (save_desk name d).desk
leaves bytes d (Back name) = (back_desk name d).desk
leaves bytes d (Drop name) = (drop_desk name d).desk

-- and what it answers.
abbrev pub answers : List ℕ → Desk → Call → Reply
answers bytes d (Ask page end) = Marking (ask_desk bytes page (words_at end) d).answer
answers bytes d Commit = Number (commit_desk d).number
answers bytes d (Save name) = Number (save_desk name d).number
answers bytes d (Back name) = Number (back_desk name d).number
answers bytes d (Drop name) = Number (drop_desk name d).number

-- The desk after a list of calls,
unfoldable pub after_calls : List ℕ → Desk → List Call → Desk
after_calls bytes d [] = d
after_calls bytes d (call ∷ calls) = after_calls bytes (leaves bytes d call) calls

-- and their answers.
unfoldable pub answered : List ℕ → Desk → List Call → List Reply
answered bytes d [] = []
answered bytes d (call ∷ calls) = answers bytes d call ∷ answered bytes (leaves bytes d call) calls
