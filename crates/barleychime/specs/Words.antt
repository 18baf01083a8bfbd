-- What a call of making returns, and what it leaves in the lent memory.
use Rattle.std.specs.Prelude.{ℕ, ◌≡◌, List, length}
use Rattle.making.specs.Make.{make_of, weighed_of, work_after, list_after}
use Rattle.making.specs.After.{make_after_of, weighed_after_of, work_made_after, list_made_after}
pub use Rattle.telling.specs.Words.{number_of, answer_words}

-- What a call of making returns and leaves: the answer's number and its words, and the lent memory as making leaves it.
pub record Exported (bytes work list : List ℕ) (number : ℕ) (work' list' words : List ℕ) : Type 0 where
  pub returned : number ≡ number_of (make_of bytes (length work) (length list))
  pub told : words ≡ answer_words (make_of bytes (length work) (length list)) (weighed_of bytes (length work) (length list))
  pub clean : work' ≡ work_after bytes work (length list)
  pub listed : list' ≡ list_after bytes (length work) list

-- The same of a call of making after an opening (document 02, S-6).
pub record ExportedAfter (bytes opening work list : List ℕ) (number : ℕ) (work' list' words : List ℕ) : Type 0 where
  pub returned : number ≡ number_of (make_after_of bytes opening (length work) (length list))
  pub told : words
      ≡ answer_words (make_after_of bytes opening (length work) (length list)) (weighed_after_of bytes opening (length work) (length list))
  pub clean : work' ≡ work_made_after bytes opening work (length list)
  pub listed : list' ≡ list_made_after bytes opening (length work) list
