-- The meaning of marking: document 01, "Marking" and "Numbers that turn work away".
use Rattle.std.specs.Prelude.{ℕ, List, Err, Ok}
use Rattle.model.specs.Answers.{marked, Answer, refused}
use Rattle.galley.specs.Whole.{galley_of, Reading}
use Rattle.galley.specs.Model.{model_of}

-- A galley that reads is marked for the list of words; a refused galley is refused alike, whatever the words.
unfoldable pub mark_read : List ℕ → List ℕ → Reading → Answer
mark_read bytes words (Ok g) = marked (model_of bytes g) words
mark_read bytes words (Err r) = refused r.number r.place

-- The answer of marking for any bytes and any words.
unfoldable pub mark_of : List ℕ → List ℕ → Answer
mark_of bytes words = mark_read bytes words (galley_of bytes)
