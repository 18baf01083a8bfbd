-- Making after an opening, pages already printed that cannot move: the best of the valid lists that begin with it, and what turns an
-- opening away (document 02, S-6).
use Rattle.std.specs.Prelude.{ℕ, suc, pred, ◌%◌, Bool, true, false, ◌&&◌, List, [], ◌∷◌, length, eqb}
use Rattle.std.proofs.Math.Option.{Option, none, some}
use Rattle.model.specs.Gather.{pick}
use Rattle.model.specs.Galley.{Galley, Place, streams, zeros, sizes}
use Rattle.model.specs.Answers.{Answer, refused, same, counts_of, pages_of, words_of}
use Rattle.model.specs.Order.{before}
use Rattle.model.specs.Best.{allowed, keep, valid, first_of}

-- The list has the pages of the opening as its first (document 02, S-6).
unfoldable pub begins : List Place → List Place → Bool
begins [] ps = true
begins (v ∷ vs) [] = false
begins (v ∷ vs) (w ∷ ws) = same v w && begins vs ws

-- The valid lists that begin with the opening (document 02, S-6).
unfoldable pub valid_after : Galley → List Place → List (List Place)
valid_after g os = keep (begins os) (valid g)

-- The best of them: the first by turns, then by white and then by the tie order, as ever (document 02, S-6 and S-10).
unfoldable pub best_after : Galley → List Place → Option (List Place)
best_after g os = first_of (before g) (valid_after g os)

-- The place where an opening ends whose pages start at u (document 02, S-6).
unfoldable pub end_of : Place → List Place → Place
end_of u [] = u
end_of u (v ∷ vs) = end_of v vs

-- What turns away the pages of an opening, numbered from q, that start at place u: 20, a page breaks one of 13 to 17, asked as of a page
-- in the middle of a list; then 21, they place everything (document 02, S-6).
unfoldable pub pages_turned : Galley → ℕ → Place → List Place → Option Answer
pages_turned g q u [] = pick (same u (sizes g)) (some (refused 21 (pred q))) none
pages_turned g q u (v ∷ vs) = pick (allowed g q false u v) (pages_turned g (suc q) v vs) (some (refused 20 q))

-- What turns away the words of an opening: 20 for an incomplete page, before any page; then what turns its pages away (document 02, S-6).
unfoldable pub opening_turned : Galley → List ℕ → Option Answer
opening_turned g ws = pick (eqb (length ws % streams g) 0) (pages_turned g 1 (zeros g) (pages_of g ws)) (some (refused 20 0))

-- The answer of making after an opening for a galley that reads without refusal, with enough memory: what turns the opening away, else the
-- counts of the best list that begins with it, or 11 (document 02, S-6).
unfoldable pub made_after : Galley → List ℕ → Answer
made_after g ws =
    elim (opening_turned g ws) [
      | none ↦ elim (best_after g (pages_of g ws)) [ none ↦ refused 11 0 | some ps ↦ counts_of g ps ]
      | some refusal ↦ refusal
    ]

-- The words that it then writes to the page list, the opening's included: none where the opening is turned away (document 02, S-6).
unfoldable pub made_words_after : Galley → List ℕ → List ℕ
made_words_after g ws =
    elim (opening_turned g ws) [
      | none ↦ elim (best_after g (pages_of g ws)) [ none ↦ [] | some ps ↦ words_of ps ]
      | some refusal ↦ []
    ]
