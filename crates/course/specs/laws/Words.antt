-- The words of lists that are written one after another follow one another in the page list.
use Rattle.std.specs.Prelude.{ℕ, ◌+◌, ◌≤◌, ◌≡◌, List, [], ◌∷◌, ◌++◌, length, take, drop}
use Rattle.std.proofs.Common.{arith, sym, ◌∙◌, ap, append_assoc, append-nil, length-append, length-drop, take-append-drop, length-take-le, take_at, drop_at, drop-drop}
use Rattle.model.specs.Answers.{words_of}
use Rattle.model.specs.Book.{Choice, gathered}
use Rattle.course.specs.Course.{over, written_of}

module _ (at : ℕ) (ws list : List ℕ) (fit : at + length ws ≤ length list) where
  front_long : length (take at list ++ ws) ≡ at + length ws
  front_long = let e = length-append (take at list) ws in let l = length-take-le at list (omega arith) in omega arith

  -- What is written over a list leaves its length.
  pub over_long : length (over at ws list) ≡ length list
  over_long =
      let e = length-append (take at list ++ ws) (drop (at + length ws) list) in
      let f = front_long in
      let d = length-drop (at + length ws) list in
      omega arith

  over_take : take (at + length ws) (over at ws list) ≡ take at list ++ ws
  over_take = take_at (take at list ++ ws) (drop (at + length ws) list) (at + length ws) front_long

  over_drop : (m : ℕ) → drop (at + length ws + m) (over at ws list) ≡ drop (at + length ws + m) list
  over_drop m =
      sym (drop-drop m (at + length ws) (over at ws list))
      ∙ ap (drop m) (drop_at (take at list ++ ws) (drop (at + length ws) list) (at + length ws) front_long)
      ∙ drop-drop m (at + length ws) list

-- All words stand between what was before them and what is behind.
pub written_all : (cs : Choice) (at : ℕ) (list : List ℕ) → at + length (gathered words_of cs) ≤ length list
    → written_of cs at list ≡ over at (gathered words_of cs) list
unfolding written_of gathered
written_all [] at list h =
    let z : at + 0 ≡ at = omega arith in
    sym (ap (λ n. (take at list ++ []) ++ drop n list) z ∙ ap (λ l. l ++ drop at list) (append-nil (take at list)) ∙ take-append-drop at list)
written_all (ps ∷ cs) at list h =
    let ws = words_of ps in
    let rest = gathered words_of cs in
    let sum = length-append ws rest in
    let fit : at + length ws ≤ length list = omega arith in
    let long = over_long at ws list fit in
    let again = written_all cs (at + length ws) (over at ws list) (omega arith) in
    let e : at + length ws + length rest ≡ at + length (ws ++ rest) = omega arith in
    again
    ∙ ap (λ l. (l ++ rest) ++ drop (at + length ws + length rest) (over at ws list)) (over_take at ws list fit)
    ∙ ap (λ l. ((take at list ++ ws) ++ rest) ++ l) (over_drop at ws list fit (length rest) ∙ ap (λ n. drop n list) e)
    ∙ ap (λ l. l ++ drop (at + length (ws ++ rest)) list) (append_assoc (take at list) ws rest)
