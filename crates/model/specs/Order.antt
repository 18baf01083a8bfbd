-- The order in which valid lists are preferred: least turns, then least white (document 02, S-10), then document 01's ties
-- ("Making"). Orders are tests that hold where the first comes no later than the second.
use Rattle.std.specs.Prelude.{ℕ, ◌%◌, Bool, true, false, ◌&&◌, List, [], ◌∷◌, length, leb}
use Rattle.model.specs.Gather.{implies}
use Rattle.model.specs.Galley.{Sides, single, double, Galley, Place, zeros}
use Rattle.model.specs.Leaf.{folio_of}
use Rattle.model.specs.Turns.{turns}
use Rattle.model.specs.White.{white}

-- By the first order, and where that takes two as equal by the second (document 01, "Making": one tie after another).
unfoldable pub then_by : {A : Type 0} → (A → A → Bool) → (A → A → Bool) → A → A → Bool
then_by a b x y = a x y && implies (a y x) (b x y)

-- By a value that is computed from each (document 01, "Making": by turns, by page count, by starts).
unfoldable pub by : {A B : Type 0} → (A → B) → (B → B → Bool) → A → A → Bool
by f le x y = le (f x) (f y)

-- By the first entries that differ; a list that ends there comes first (document 01, "Making": page by page).
unfoldable pub lex : {A : Type 0} → (A → A → Bool) → List A → List A → Bool
lex le [] ys = true
lex le (x ∷ xs) [] = false
lex le (x ∷ xs) (y ∷ ys) = le x y && implies (le y x) (lex le xs ys)

-- The greater number first (document 01, "Making": what starts later is preferred).
unfoldable pub geb : ℕ → ℕ → Bool
geb a b = leb b a

-- 1 where the last of p pages has an odd folio in double-sided work, else 0: an even one is preferred (document 01, "Making";
-- document 02, S-1).
unfoldable pub oddly : Sides → ℕ → ℕ
oddly single p = 0
oddly (double f) p = folio_of f p % 2

-- The places where the pages of a list start, put before `after`: the last page's start first (document 01, "Making").
unfoldable pub starts_of : Place → List Place → List Place → List Place
starts_of u [] after = after
starts_of u (v ∷ vs) after = starts_of v vs (u ∷ after)

-- The first list is preferred to the second, or is as good: by turns; by white (document 02, S-10); in double-sided work by
-- evenness of the last folio; then by the starts of the pages, the last page's first, each by its line and then its float of
-- each stream (document 01, "Making").
unfoldable pub before : Galley → List Place → List Place → Bool
before g =
    then_by (by (turns g) leb)
    (then_by (by (white g) leb)
    (then_by (by (λ ps. oddly g.spec.sides (length ps)) leb) (by (λ ps. starts_of (zeros g) ps []) (lex (lex geb)))))
