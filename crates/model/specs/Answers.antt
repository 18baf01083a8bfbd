-- The marking of a list of words, and the seven numbers that an answer stands for (document 01, "Marking"; document 02, S-10). The
-- types `Counted`, `Refusal` and `Numbers` are those of src/answer.rt.
use Rattle.std.specs.Prelude.{ℕ, zero, suc, pred, ◌*◌, ◌/◌, ◌%◌, Bool, true, false, ◌&&◌, List, [], ◌∷◌, ◌++◌, length, take, drop, leb, ltb, eqb, Result, Ok, Err}
use Rattle.model.specs.declared.answer.Refusal.{Refusal}
use Rattle.model.specs.declared.answer.Counted.{Counted}
use Rattle.model.specs.declared.answer.Numbers.{Numbers}
use Rattle.model.specs.Gather.{pick}
use Rattle.model.specs.Galley.{Galley, Place, streams, zeros, sizes, blocks}
use Rattle.model.specs.Rules.{broken}
use Rattle.model.specs.Turns.{x_of, y_of, turns}
use Rattle.model.specs.White.{white}

-- What marking and making answer: counts, or a refusal.
abbrev pub Answer : Type 0
Answer = Result Counted Refusal

-- The refusal with a number and a place (document 01, "Numbers that turn work away"), in whatever is refused.
abbrev pub refused : {A : Type 0} → ℕ → ℕ → Result A Refusal
refused n at = Err (record { number = n; place = at })

-- The answer with these for p, X, Y, T and W.
abbrev pub counted_as : ℕ → ℕ → ℕ → ℕ → ℕ → Answer
counted_as p x y t w = Ok (record { pages = p; x = x; y = y; turns = t; white = w })

-- Number, place, p, X, Y, T, W of each case of an answer (document 01, "Numbers that turn work away"; document 02, S-10).
abbrev pub numbers_of : Answer → Numbers
numbers_of (Ok c) = record { number = 0; place = 0; pages = c.pages; x = c.x; y = c.y; turns = c.turns; white = c.white }
numbers_of (Err r) = record { number = r.number; place = r.place; pages = 0; x = 0; y = 0; turns = 0; white = 0 }

-- The answer is that of a list that is accepted, and no refusal (document 01, "Marking").
abbrev pub accepted : Answer → Bool
accepted (Ok c) = true
accepted (Err r) = false

-- A page list's words, k of them a page, as p places (document 01, "One page").
unfoldable pub chunks : ℕ → ℕ → List ℕ → List Place
chunks zero k ws = []
chunks (suc p) k ws = take k ws ∷ chunks p k (drop k ws)

-- The pages that a list of words names (document 01, "One page").
unfoldable pub pages_of : Galley → List ℕ → List Place
pages_of g ws = chunks (length ws / streams g) (streams g) ws

-- The words that name a list of pages (document 01, "One page").
unfoldable pub words_of : List Place → List ℕ
words_of [] = []
words_of (v ∷ vs) = v ++ words_of vs

-- 12: there are words, whole pages of them, and no more pages than blocks (document 01, rule 12).
unfoldable pub counted : Galley → List ℕ → Bool
counted g ws = ltb 0 (length ws) && eqb (length ws % streams g) 0 && leb (length ws) (streams g * blocks g)

-- Two places are the same, count by count (document 01, rule 18: the last place is the full one).
unfoldable pub same : Place → Place → Bool
same [] [] = true
same [] (y ∷ ys) = false
same (x ∷ xs) [] = false
same (x ∷ xs) (y ∷ ys) = eqb x y && same xs ys

-- No page follows: the page is the last of its list (document 01, rules 16 and 17).
abbrev pub ended : List Place → Bool
ended [] = true
ended (v ∷ vs) = false

-- A broken rule refuses the page; otherwise the answer is that for the pages after it (document 01, "Marking").
unfoldable pub refuse : ℕ → ℕ → Answer → Answer
refuse zero q after = after
refuse (suc n) q after = refused (suc n) q

-- The first page that breaks a rule, of pages numbered from q that start at place u; then 18, the last place is not the full
-- one; else the answer `good` (document 01, "Marking").
unfoldable pub judge : Galley → Answer → ℕ → Place → List Place → Answer
judge g good q u [] = pick (same u (sizes g)) good (refused 18 (pred q))
judge g good q u (v ∷ vs) = refuse (broken g q (ended vs) u v) q (judge g good (suc q) v vs)

-- Page count, turns and white of a list of pages: p, X, Y, T (document 01, "Marking") and W (document 02, S-10).
unfoldable pub counts_of : Galley → List Place → Answer
counts_of g ps = counted_as (length ps) (x_of g ps) (y_of g ps) (turns g ps) (white g ps)

-- The answer of marking a list of words for a galley that reads without refusal: 12 before any page, then the pages, then 18
-- (document 01, "Marking").
unfoldable pub marked : Galley → List ℕ → Answer
marked g ws = pick (counted g ws) (judge g (counts_of g (pages_of g ws)) 1 (zeros g) (pages_of g ws)) (refused 12 0)
