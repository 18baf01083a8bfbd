-- The chapters in the order of the book, as the best route makes them: each from its folio to that of the next, and their counts summed.
use Rattle.std.specs.Prelude.{ℕ, ◌+◌, ◌≤◌, ◌≡◌, refl, length}
use native.Mathlib.Omega.{arith}
use Rattle.std.proofs.Common.{◌∙◌}
use Rattle.std.proofs.Math.Path.{subst}
use mathlib.Core.List.{List, [], ◌∷◌, reverse_aux}
use Rattle.std.proofs.Math.Option.{some}
use Rattle.model.specs.Galley.{Galley, Place}
use Rattle.model.specs.Book.{sides_on, open_on, Choice, summed}
use Rattle.theorems.specs.pages.Graph.{side}
use Rattle.theorems.specs.books.Folios.{like, Shifted, shifted}
use Rattle.theorems.specs.books.Closing.{best_closing}
use Rattle.theorems.specs.books.Backward.{pages_in}
use Rattle.theorems.specs.books.Routes.{Along}
use Rattle.theorems.specs.books.Through.{like_alike}
use Rattle.theorems.specs.books.Choosing.{AllAlike}

-- The folio on which the first of some chapters opens, or where there is none the one after the book.
unfoldable pub opens_next : ℕ → List ℕ → ℕ
opens_next next [] = next
opens_next next (o ∷ os) = o

-- The chapters from folio f on, made each by the best list from its folio to the next.
unfoldable pub Course : Galley → ℕ → List Galley → Choice → List ℕ → ℕ → Type 0
Course h f [] [] [] next = Unit {0}
Course h f [] [] (o ∷ os) next = ⊥
Course h f [] (ps ∷ cs) os next = ⊥
Course h f (g ∷ gs) [] os next = ⊥
Course h f (g ∷ gs) (ps ∷ cs) [] next = ⊥
Course h f (g ∷ gs) (ps ∷ cs) (o ∷ os) next =
    (like h.spec.sides f ≡ o)
    × (best_closing (open_on o g) (side h.spec.sides (o + opens_next next os)) ≡ some ps)
    × Course h (f + length ps) gs cs os next

-- The later chapters of a route in their order, and the route before them.
pub record Coursed (h : Galley) (f : ℕ) (gs rs : List Galley) (cs ds : Choice) (next : ℕ) (all : List ℕ) : Type 0 where
  pub later : List ℕ
  pub sooner : List ℕ
  pub is : all ≡ reverse_aux later sooner
  pub course : Course h (f + pages_in ds) gs cs later next
  pub along : Along h f rs ds (opens_next next later) sooner

pub along_course : (h : Galley) (f : ℕ) (gs rs : List Galley) (cs ds : Choice) (next : ℕ) (all : List ℕ) → length cs ≡ length gs
    → Along h f (reverse_aux gs rs) (reverse_aux cs ds) next all → Coursed h f gs rs cs ds next all
unfolding Course opens_next
along_course h f [] rs [] ds next all e a = record { later = []; sooner = all; is = refl; course = tt; along = a }
along_course h f [] rs (ps ∷ cs) ds next all e a = absurd (omega arith)
along_course h f (g ∷ gs) rs [] ds next all e a = absurd (omega arith)
along_course h f (g ∷ gs) rs (ps ∷ cs) ds next all e a = go (along_course h f gs (g ∷ rs) cs (ps ∷ ds) next all (omega arith) a)
  where
    sum : f + pages_in (ps ∷ ds) ≡ f + pages_in ds + length ps
    sum = unfold pages_in in omega arith

    step : (later sooner : List ℕ) → all ≡ reverse_aux later sooner → Course h (f + pages_in (ps ∷ ds)) gs cs later next
        → Along h f (g ∷ rs) (ps ∷ ds) (opens_next next later) sooner → Coursed h f (g ∷ gs) rs (ps ∷ cs) ds next all
    step later [] is c a = absurd (unfold Along in a)
    step later (o ∷ sooner) is c a =
        let (l, b, r) : (like h.spec.sides (f + pages_in ds) ≡ o) × (best_closing (open_on o g) (side h.spec.sides (o + opens_next next later)) ≡ some ps) × Along h f rs ds o sooner = unfold Along in a in
        record {
          later = o ∷ later;
          sooner = sooner;
          is = is;
          course = unfold Course in (l, b, subst (λ n. Course h n gs cs later next) sum c);
          along = unfold opens_next in r;
        }

    go : Coursed h f gs (g ∷ rs) cs (ps ∷ ds) next all → Coursed h f (g ∷ gs) rs (ps ∷ cs) ds next all
    go r = step r.later r.sooner r.is r.course r.along

-- A number of each chapter's list, on the folio that stands for its own, summed.
unfoldable pub coursed : (Galley → List Place → ℕ) → List Galley → Choice → List ℕ → ℕ
coursed k [] cs os = 0
coursed k (g ∷ gs) [] os = 0
coursed k (g ∷ gs) (ps ∷ cs) [] = 0
coursed k (g ∷ gs) (ps ∷ cs) (o ∷ os) = k (open_on o g) ps + coursed k gs cs os

-- It is the sum of the book where the number goes by the parity of the folio alone.
pub course_sum : (k : Galley → List Place → ℕ)
    → ((g : Galley) (f e : ℕ) → Shifted (sides_on f g.spec.sides) (sides_on e g.spec.sides) → (ps : List Place)
    → k (open_on f g) ps ≡ k (open_on e g) ps)
    → (h : Galley) (f : ℕ) → 1 ≤ f → (gs : List Galley) → AllAlike h gs → (cs : Choice) (os : List ℕ) (next : ℕ) → Course h f gs cs os next
    → summed k f gs cs ≡ coursed k gs cs os
unfolding Course summed coursed AllAlike
course_sum k even h f low [] all cs os next c = refl
course_sum k even h f low (g ∷ gs) all [] os next c = absurd c
course_sum k even h f low (g ∷ gs) all (ps ∷ cs) [] next c = absurd c
course_sum k even h f low (g ∷ gs) all (ps ∷ cs) (o ∷ os) next c =
    let sh : Shifted (sides_on f g.spec.sides) (sides_on o g.spec.sides) =
    subst (λ o. Shifted (sides_on f g.spec.sides) (sides_on o g.spec.sides)) (like_alike h g all.0 f ∙ c.0)
    (shifted g.spec.sides f low) in
    rw (even g f o sh ps, course_sum k even h (f + length ps) (omega arith) gs all.1 cs os next c.2) refl
