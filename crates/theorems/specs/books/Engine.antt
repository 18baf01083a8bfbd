-- What is kept of routes while a book is made: their costs, and for each chapter and each next folio the one that the route comes from.
-- Followed back, these are the folios of the best route; its chapters in their order are the best choice.
use Rattle.std.specs.Prelude.{ℕ, ◌+◌, ◌≤◌, refl, Bool, true, false, ◌⊎◌, eqb}
use native.Mathlib.Omega.{arith}
use Rattle.std.proofs.Math.Path.{◌≡◌}
use Rattle.std.proofs.Common.{sym, ◌∙◌, ap, subst, inl, inr}
use mathlib.Core.List.{List, [], ◌∷◌, reverse_aux}
use Rattle.std.proofs.Math.Option.{Option, none, some}
use Rattle.std.proofs.Math.ListN.{length}
use Rattle.model.specs.Gather.{pick}
use Rattle.model.specs.Galley.{Galley, Place}
use Rattle.model.specs.Turns.{x_of}
use Rattle.model.specs.White.{white}
use Rattle.model.specs.Book.{first_folio, Choice, choices, book_pages, book_x, book_white}
use Rattle.model.specs.laws.Lists.{◌∈◌}
use Rattle.theorems.specs.books.Folios.{like, x_on_lem, white_on_lem}
use Rattle.theorems.specs.books.Backward.{pages_in, only_empty, opened}
use Rattle.theorems.specs.books.Turns.{no_chapter}
use Rattle.theorems.specs.books.Routes.{Route, preferred, choose, with_list, through, route, cheaper, finish, ending, Along}
use Rattle.theorems.specs.books.Choosing.{AllAlike}
use Rattle.theorems.specs.books.Best.{Bound, alike_self}
use Rattle.theorems.specs.books.Course.{opens_next, Course, Coursed, along_course, coursed, course_sum}

-- Which of two offers is taken: 1 for the first, 2 for the second.
unfoldable pub taken : Option Route → Option Route → ℕ
taken none b = 2
taken (some a) none = 1
taken (some a) (some b) = pick (preferred a b) 1 2

-- The preferred of two offers is the one that is taken.
pub taken_is : (a b : Option Route) → choose a b ≡ pick (eqb (taken a b) 1) a b
unfolding taken choose
taken_is none b = refl
taken_is (some a) none = refl
taken_is (some a) (some b) = go (preferred a b)
  where
    go : (t : Bool) → ◌≡◌ {A = Option Route} (some (pick t a b)) (pick (eqb (pick t 1 2) 1) (some a) (some b))
    go t = grind arith

-- The folio that the route to the next comes from, after chapter g.
unfoldable pub comes_from : Galley → ℕ → Galley → List Galley → ℕ → ℕ
comes_from h f g rs next =
    taken (through h g (no_chapter rs) 1 next (route h f rs 1)) (through h g (no_chapter rs) 2 next (route h f rs 2))

-- A route through a chapter has the folio before those of the route that it goes on from.
pub record Onward (h : Galley) (f : ℕ) (rs : List Galley) (o : ℕ) (r : Route) : Type 0 where
  pub before : Route
  pub was : route h f rs o ≡ some before
  pub folios : r.folios ≡ o ∷ before.folios

through_onward : (h : Galley) (f : ℕ) (g : Galley) (rs : List Galley) (o next : ℕ) (r : Route)
    → through h g (no_chapter rs) o next (route h f rs o) ≡ some r → Onward h f rs o r
unfolding through
through_onward h f g rs o next r e = from (route h f rs o) refl e
  where
    with_list_lem : (q : Route) → route h f rs o ≡ some q → (b : Option (List Place))
        → ◌≡◌ {A = Option Route} (elim b [
          | none ↦ none
          | some ps ↦ some (with_list h g (no_chapter rs) o q ps)
        ]) (some r) → Onward h f rs o r
    with_list_lem q is b e = grind arith

    from : (q : Option Route) → route h f rs o ≡ q → through h g (no_chapter rs) o next q ≡ some r → Onward h f rs o r
    from q is e = grind arith

-- One of the two is taken.
taken_range : (a b : Option Route) (r : Route) → pick (eqb (taken a b) 1) a b ≡ some r
    → ((taken a b ≡ 1) × (a ≡ some r)) ⊎ ((taken a b ≡ 2) × (b ≡ some r))
unfolding taken
taken_range none b r e = inr (refl, e)
taken_range (some a) none r e = inl (refl, e)
taken_range (some a) (some b) r e = go (preferred a b) e
  where
    go : (t : Bool) → ◌≡◌ {A = Option Route} (pick (eqb (pick t 1 2) 1) (some a) (some b)) (some r)
        → ((◌≡◌ {A = ℕ} (pick t 1 2) 1) × (some a ≡ some r)) ⊎ ((◌≡◌ {A = ℕ} (pick t 1 2) 2) × (some b ≡ some r))
    go t e = grind arith

-- A route after a chapter comes from that folio.
pub route_onward : (h : Galley) (f : ℕ) (g : Galley) (rs : List Galley) (next : ℕ) (r : Route) → route h f (g ∷ rs) next ≡ some r
    → Onward h f rs (comes_from h f g rs next) r
unfolding route comes_from
route_onward h f g rs next r e = occurs (eqb (like h.spec.sides next) next) e
  where
    one : Option Route
    one = through h g (no_chapter rs) 1 next (route h f rs 1)

    two : Option Route
    two = through h g (no_chapter rs) 2 next (route h f rs 2)

    out : ((taken one two ≡ 1) × (one ≡ some r)) ⊎ ((taken one two ≡ 2) × (two ≡ some r)) → Onward h f rs (taken one two) r
    out (inl (t, e)) = subst (λ o. Onward h f rs o r) (sym t) (through_onward h f g rs 1 next r e)
    out (inr (t, e)) = subst (λ o. Onward h f rs o r) (sym t) (through_onward h f g rs 2 next r e)

    occurs : (b : Bool) → ◌≡◌ {A = Option Route} (pick b (choose one two) none) (some r) → Onward h f rs (taken one two) r
    occurs true e = out (taken_range one two r (sym (taken_is one two) ∙ e))
    occurs false e = absurd cc

-- The route at the end leads to that folio.
pub ending_is : (a b : Option Route) (r : Route) → finish a b ≡ some r
    → ((ending a b ≡ 1) × (a ≡ some r)) ⊎ ((ending a b ≡ 2) × (b ≡ some r))
unfolding finish ending
ending_is none none r e = absurd cc
ending_is none (some b) r e = inr (refl, e)
ending_is (some a) none r e = inl (refl, e)
ending_is (some a) (some b) r e = go (cheaper a b) e
  where
    go : (t : Bool) → ◌≡◌ {A = Option Route} (some (pick t a b)) (some r)
        → ((◌≡◌ {A = ℕ} (pick t 1 2) 1) × (some a ≡ some r)) ⊎ ((◌≡◌ {A = ℕ} (pick t 1 2) 2) × (some b ≡ some r))
    go t e = grind arith

-- A choice has a list for each chapter.
pub choices_long : (f : ℕ) (gs : List Galley) (cs : Choice) → cs ∈ choices f gs → length cs ≡ length gs
choices_long f [] cs m = ap length (only_empty f cs m)
choices_long f (g ∷ gs) cs m =
    let o = opened f g gs cs m in
    let long = choices_long (f + length o.list) gs o.rest o.later in
    rw o.is (omega arith)

module _ (h : Galley) (gs : List Galley) (all : AllAlike h gs) (some_folio_lem : 1 ≤ first_folio (h ∷ gs)) where
  -- The best choice in the order of the book: each chapter by the best list from its folio to the next, and the sums of their counts.
  pub record Ordered (next : ℕ) (r : Route) (b : Bound h gs all some_folio_lem next r) : Type 0 where
    pub folios : List ℕ
    pub is : r.folios ≡ reverse_aux folios []
    pub course : Course h (first_folio (h ∷ gs)) (h ∷ gs) b.choice folios next
    pub pages : book_pages (first_folio (h ∷ gs)) (h ∷ gs) b.choice ≡ coursed (λ g ps. length ps) (h ∷ gs) b.choice folios
    pub x : book_x (first_folio (h ∷ gs)) (h ∷ gs) b.choice ≡ coursed x_of (h ∷ gs) b.choice folios
    pub white : book_white (first_folio (h ∷ gs)) (h ∷ gs) b.choice ≡ coursed white (h ∷ gs) b.choice folios

  pub book_ordered : (next : ℕ) (r : Route) (b : Bound h gs all some_folio_lem next r) → Ordered next r b
  book_ordered next r b = go (along_course h f (h ∷ gs) [] b.choice [] next r.folios (choices_long f (h ∷ gs) b.choice b.lawful) b.along)
    where
      f : ℕ
      f = first_folio (h ∷ gs)

      alike : AllAlike h (h ∷ gs)
      alike = unfold AllAlike in (alike_self h, all)

      plain : f + pages_in [] ≡ f
      plain = unfold pages_in in omega arith

      out : (os : List ℕ) → r.folios ≡ reverse_aux os [] → Course h f (h ∷ gs) b.choice os next → Ordered next r b
      out os is c =
          record {
            folios = os;
            is = is;
            course = c;
            pages = unfold book_pages in course_sum (λ g ps. length ps) (λ g f e sh ps. refl) h f some_folio_lem (h ∷ gs) alike b.choice os next c;
            x = unfold book_x in course_sum x_of (λ g f e sh ps. x_on_lem g f e sh ps) h f some_folio_lem (h ∷ gs) alike b.choice os next c;
            white = unfold book_white in course_sum white (λ g f e sh ps. white_on_lem g f e ps) h f some_folio_lem (h ∷ gs) alike b.choice os next c;
          }

      sooner : (os fs : List ℕ) → r.folios ≡ reverse_aux os fs → Course h (f + pages_in []) (h ∷ gs) b.choice os next
          → Along h f [] [] (opens_next next os) fs → Ordered next r b
      sooner os [] is c a = out os is (subst (λ n. Course h n (h ∷ gs) b.choice os next) plain c)
      sooner os (o ∷ fs) is c a = absurd (unfold Along in a)

      go : Coursed h f (h ∷ gs) [] b.choice [] next r.folios → Ordered next r b
      go k = sooner k.later k.sooner k.is k.course k.along
