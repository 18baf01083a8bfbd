-- The calls on an open desk, their answers, and what a sitting of them holds (document 02, S-7 and S-8).
use Rattle.std.specs.Prelude.{ℕ, false, Option, List, [], ◌∷◌, ◌≡◌}
use Rattle.model.specs.Answers.{same, Answer}

-- A page's new end: the lines, figures and tables placed by then.
pub record End : Type 0 where
  pub lines : ℕ
  pub figures : ℕ
  pub tables : ℕ

-- It is given in three words; where a galley has no tables the third is not looked at.
abbrev pub words_at : End → List ℕ
words_at end = end.lines ∷ end.figures ∷ end.tables ∷ []

-- A call on an open desk: a page and its new end, or a name.
pub data Call : Type 0 where
  Ask : ℕ → End → Call
  Commit : Call
  Save : List ℕ → Call
  Back : List ℕ → Call
  Drop : List ℕ → Call

-- What it answers: an ask as the marking does, any other a number, which is 0 where it is not refused.
pub data Reply : Type 0 where
  Marking : Answer → Reply
  Number : ℕ → Reply

-- A list under a name (document 02, S-8).
pub record Named : Type 0 where
  pub name : List ℕ
  pub list : List ℕ

-- The list in force, what is pending, and the layouts held (document 02, S-7 and S-8).
pub record Sitting : Type 0 where
  pub force : List ℕ
  pub pending : Option (List ℕ)
  pub held : List Named

-- A call's answer, and what it leaves.
pub record Step : Type 0 where
  pub reply : Reply
  pub after : Sitting

-- A call neither saves nor drops under a name,
abbrev pub Spares : List ℕ → Call → Type 0
Spares name (Ask page end) = Unit {0}
Spares name Commit = Unit {0}
Spares name (Save other) = same other name ≡ false
Spares name (Back other) = Unit {0}
Spares name (Drop other) = same other name ≡ false

-- nor does any of a list.
abbrev pub Quiet : List ℕ → List Call → Type 0
Quiet name [] = Unit {0}
Quiet name (call ∷ calls) = Spares name call × Quiet name calls

-- No call of a list comes back.
abbrev pub Onward : List Call → Type 0
Onward [] = Unit {0}
Onward (Ask page end ∷ calls) = Onward calls
Onward (Commit ∷ calls) = Onward calls
Onward (Save name ∷ calls) = Onward calls
Onward (Back name ∷ calls) = ⊥
Onward (Drop name ∷ calls) = Onward calls
