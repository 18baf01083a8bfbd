-- No answer has more turns than documents 01 ("Spreads and turns") and 02 (S-4) allow for, nor more white than htMax for each page but
-- one (document 02, S-10), so that T and W fit the 32 bits of an answer.
use Rattle.std.specs.Prelude.{ℕ, List}
use Rattle.marking.specs.Mark.{mark_of}
use Rattle.making.specs.Make.{Made}
use Rattle.promises.specs.Limit.{Within, most_turns, most_untabled, Untabled, reads_costs, untabled_costs, marking_within, making_within}
use Rattle.model.specs.Answers.{Answer}

-- Marking reports at most 1,066,499,000 turns and 424,900,000 of white,
pub marking_limit : (bytes words : List ℕ) → Within most_turns (mark_of bytes words)
marking_limit bytes = marking_within most_turns bytes (reads_costs bytes)

-- and without tables at most 843,999,000 turns.
pub marking_untabled : (bytes words : List ℕ) → Untabled bytes → Within most_untabled (mark_of bytes words)
marking_untabled bytes words untabled = marking_within most_untabled bytes (untabled_costs bytes untabled) words

-- So does making: `Made` is the contract of `make`.
module _ {bytes work list : List ℕ} {answer : Answer} {count : ℕ} {work' list' : List ℕ} (m : Made bytes work list answer count work' list') where
  pub making_limit : Within most_turns answer
  making_limit = making_within most_turns bytes (reads_costs bytes) m

  pub making_untabled : Untabled bytes → Within most_untabled answer
  making_untabled untabled = making_within most_untabled bytes (untabled_costs bytes untabled) m
