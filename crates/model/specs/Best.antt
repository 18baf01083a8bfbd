-- Every valid list of a galley, and the best one: the meaning of making (document 01, "Making"). It is what is computed that
-- counts here, and not how long it takes.
use Rattle.std.specs.Prelude.{ℕ, zero, suc, Bool, true, false, not, ◌||◌, List, [], ◌∷◌, ◌++◌, map, eqb}
use Rattle.std.proofs.Math.Option.{Option, none, some}
use Rattle.model.specs.Gather.{pick}
use Rattle.model.specs.Galley.{Galley, Place, zeros, sizes, blocks}
use Rattle.model.specs.Rules.{broken}
use Rattle.model.specs.Answers.{Answer, refused, same, ended, counts_of, words_of}
use Rattle.model.specs.Order.{before}

-- The numbers k, …, 1, 0, each put before each of the given places (for the search of all lists: document 01, "Making").
unfoldable pub prefixed : ℕ → List Place → List Place
prefixed zero vs = map (λ v. 0 ∷ v) vs
prefixed (suc k) vs = map (λ v. suc k ∷ v) vs ++ prefixed k vs

-- All places with no count above that of the given place (for the search of all lists: document 01, "Making").
unfoldable pub box : Place → List Place
box [] = [] ∷ []
box (n ∷ ns) = prefixed n (box ns)

-- A page from u to v is allowed as page q of a list, and as its last or not (document 01, rules 13 to 17).
abbrev pub Allowed : Type 0
Allowed = ℕ → Bool → Place → Place → Bool

-- Those that pass a test (notation).
unfoldable pub keep : {A : Type 0} → (A → Bool) → List A → List A
keep test [] = []
keep test (x ∷ xs) = pick (test x) (x ∷ keep test xs) (keep test xs)

-- For each of the places v: the page to v and then each list that `from` has beyond v, where the page is allowed before that
-- list (document 01, "Making": all lists). Where it is allowed before none, `from` is not asked, so that the cases can be run.
unfoldable pub onward : Allowed → (Place → List (List Place)) → ℕ → Place → List Place → List (List Place)
onward ok from q u [] = []
onward ok from q u (v ∷ vs) =
    let lists_by_v = map (λ ws. v ∷ ws) (keep (λ ws. ok q (ended ws) u v) (from v)) in
    pick (ok q true u v || ok q false u v) lists_by_v [] ++ onward ok from q u vs

-- The lists of at most `fuel` pages, numbered from q, that go from u to the full place l over allowed pages (document 01,
-- "Making").
unfoldable pub lists : Allowed → Place → ℕ → ℕ → Place → List (List Place)
lists ok l zero q u = pick (same u l) ([] ∷ []) []
lists ok l (suc fuel) q u = pick (same u l) ([] ∷ []) [] ++ onward ok (lists ok l fuel (suc q)) q u (box l)

-- A page that breaks none of rules 13 to 17 (document 01, "Marking").
unfoldable pub allowed : Galley → Allowed
allowed g q last u v = eqb (broken g q last u v) 0

-- Every valid list of the galley: those with a page, of at most as many pages as there are blocks (document 01, "Making").
unfoldable pub valid : Galley → List (List Place)
valid g = keep (λ ps. not (ended ps)) (lists (allowed g) (sizes g) (blocks g) 1 (zeros g))

-- The first of a list by an order; none of none (document 01, "Making": the best of all lists).
unfoldable pub first_of : {A : Type 0} → (A → A → Bool) → List A → Option A
first_of le [] = none
first_of le (x ∷ xs) = elim (first_of le xs) [ none ↦ some x | some y ↦ some (pick (le x y) x y) ]

-- The best list: of all valid lists the first by turns, then by white, then by the tie order (document 01, "Making"; document 02,
-- S-10).
unfoldable pub best : Galley → Option (List Place)
best g = first_of (before g) (valid g)

-- The answer of making for a galley that reads without refusal, with enough memory: the counts of the best list, or 11
-- (document 01, "Making").
unfoldable pub made : Galley → Answer
made g = elim (best g) [ none ↦ refused 11 0 | some ps ↦ counts_of g ps ]

-- The words that making writes to the page list (document 01, "Making").
unfoldable pub made_words : Galley → List ℕ
made_words g = elim (best g) [ none ↦ [] | some ps ↦ words_of ps ]
