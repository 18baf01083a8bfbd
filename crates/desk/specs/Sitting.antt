-- A sitting at a desk, told by the calls alone: what each call answers, and the list in force, what is pending and the layouts held
-- after it (document 02, S-7 and S-8). The galley is one that reads, since a desk does not open on any other.
use Rattle.std.specs.Prelude.{ℕ, ◌-◌, Bool, ◌&&◌, ◌||◌, List, [], ◌∷◌, leb, ltb, length, set, take, Option, None, Some, is_some}
use Rattle.model.specs.Galley.{Galley, streams}
use Rattle.model.specs.Answers.{accepted, pages_of, words_of, same, marked, Answer, refused}
use Rattle.model.specs.Gather.{pick}
use Rattle.layouts.specs.Names.{is_name}
use Rattle.desk.specs.Calls.{End, Call, Ask, Commit, Save, Back, Drop, Reply, Marking, Number, words_at, Named, Sitting, Step}

-- The list held under a name, and the layouts under other names (document 02, S-8).
unfoldable pub under : List Named → List ℕ → Option (List ℕ)
under [] name = None
under (it ∷ held) name = pick (same it.name name) (Some it.list) (under held name)

unfoldable pub without : List ℕ → List Named → List Named
without name [] = []
without name (it ∷ held) = pick (same it.name name) (without name held) (it ∷ without name held)

-- There is room for a name that is held, or for one more of eight (document 02, S-8).
unfoldable pub has_room : List Named → List ℕ → Bool
has_room held name = is_some (under held name) || ltb (length held) 8

-- A call answers a number, 0 or a refusal, and leaves a sitting (document 02, S-7 and S-8).
abbrev pub says : ℕ → Sitting → Step
says number s = record { reply = Number number; after = s }

-- Another list is pending, or none; and other layouts are held (notation).
abbrev pub pend : Sitting → Option (List ℕ) → Sitting
pend s pending = record { force = s.force; pending = pending; held = s.held }

abbrev pub hold : Sitting → List Named → Sitting
hold s held = record { force = s.force; pending = s.pending; held = held }

-- A list comes into force, and none is pending; a number refuses where there is none (document 02, S-7, commit; S-8, coming back).
abbrev pub put_or : ℕ → Sitting → Option (List ℕ) → Step
put_or number s None = says number s
put_or number s (Some list) = says 0 (record { force = list; pending = None; held = s.held })

-- 25 refuses a name that has not 1 to 16 bytes (document 02, S-8).
abbrev pub named : List ℕ → Sitting → Step → Step
named name s step = pick (is_name name) step (says 25 s)

-- A list with another end of a page, in as many words as the galley has streams (document 02, S-7).
unfoldable pub other_end : Galley → List ℕ → ℕ → End → List ℕ
other_end g list page end = words_of (set (pages_of g list) (page - 1) (take (streams g) (words_at end)))

-- An ask answers 23 for a page that is not 1 to p − 1, then the marking of the altered list (document 02, S-7).
unfoldable pub tried : Galley → List ℕ → ℕ → End → Answer
tried g list page end =
    pick (leb 1 page && ltb page (length (pages_of g list))) (marked g (other_end g list page end)) (refused 23 page)

-- What a call answers and leaves. An accepted ask is pending, and after a refused one none is; 24 is a commit with none pending, 26 a
-- name not held, 27 a ninth name; saving supersedes (document 02, S-7 and S-8).
abbrev pub step : Galley → Sitting → Call → Step
step g s (Ask page end) =
    record {
      reply = Marking (tried g s.force page end);
      after = pend s (pick (accepted (tried g s.force page end)) (Some (other_end g s.force page end)) None);
    }
step g s Commit = put_or 24 s s.pending
step g s (Save name) =
    named name s (pick (has_room s.held name) (says 0 (hold s (record { name = name; list = s.force } ∷ without name s.held))) (says 27 s))
step g s (Back name) = named name s (put_or 26 s (under s.held name))
step g s (Drop name) =
    named name s (pick (is_some (under s.held name)) (says 0 (hold s (without name s.held))) (says 26 s))

-- A sitting begins with the opening list in force, nothing pending, and nothing held (document 02, S-7 and S-8).
abbrev pub begin : List ℕ → Sitting
begin list = record { force = list; pending = None; held = [] }

-- What a list of calls leaves, and what they answer.
unfoldable pub sat : Galley → Sitting → List Call → Sitting
sat g s [] = s
sat g s (call ∷ calls) = sat g (step g s call).after calls

unfoldable pub replies : Galley → Sitting → List Call → List Reply
replies g s [] = []
replies g s (call ∷ calls) = (step g s call).reply ∷ replies g (step g s call).after calls
