-- A book read from its last chapter: a choice, its sums and its ties grow by one chapter at a time, as the chapters are made.
use Rattle.std.specs.Prelude.{ℕ, ◌+◌, ◌≡◌}
use native.Mathlib.Omega.{arith}
use Rattle.std.proofs.Math.Nat.{add-zero, add_assoc}
use Rattle.std.proofs.Math.Path.{refl, ap, subst}
use Rattle.std.proofs.Common.{sym, ◌∙◌, inl, inr}
use mathlib.Core.List.Memᴰ
use mathlib.Core.List.{List, [], ◌∷◌, map, reverse_aux, head-eq_of_cons-eq, tail-eq_of_cons-eq}
use Rattle.std.proofs.Math.ListN.{length}
use Rattle.model.specs.Galley.{Galley, Place, zeros}
use Rattle.model.specs.Order.{starts_of}
use Rattle.model.specs.Best.{valid}
use Rattle.model.specs.Book.{open_on, Choice, choices, summed, Tie, tie_of, ties_of}
use Rattle.model.specs.laws.Lists.{◌∈◌}
use Rattle.model.proofs.laws.Lists.{∈-map, ∈-unmap}
use Rattle.model.proofs.laws.Valid.{valid_accepted}
use Rattle.model.proofs.laws.Order.{starts_same}
use Rattle.model.proofs.laws.Book.{∈-gathered, ∈-ungathered}

-- The pages of a choice.
unfoldable pub pages_in : Choice → ℕ
pages_in [] = 0
pages_in (ps ∷ cs) = pages_in cs + length ps

-- cs is a choice for the chapters rs, of which the first opens on folio f; of both the last comes first.
unfoldable pub Chosen : ℕ → List Galley → Choice → Type 0
Chosen f [] [] = Unit {0}
Chosen f [] (ps ∷ cs) = ⊥
Chosen f (g ∷ rs) [] = ⊥
Chosen f (g ∷ rs) (ps ∷ cs) = (ps ∈ valid (open_on (f + pages_in cs) g)) × Chosen f rs cs

-- A number of each chapter's list, summed.
unfoldable pub sum_back : (Galley → List Place → ℕ) → ℕ → List Galley → Choice → ℕ
sum_back h f [] cs = 0
sum_back h f (g ∷ rs) [] = 0
sum_back h f (g ∷ rs) (ps ∷ cs) = sum_back h f rs cs + h (open_on (f + pages_in cs) g) ps

-- What the tie order looks at of each chapter's list.
unfoldable pub ties_back : ℕ → List Galley → Choice → List Tie
ties_back f [] cs = []
ties_back f (g ∷ rs) [] = []
ties_back f (g ∷ rs) (ps ∷ cs) = tie_of (open_on (f + pages_in cs) g) ps ∷ ties_back f rs cs

-- There is but one choice for no chapter,
pub only_empty : (f : ℕ) (cs : Choice) → cs ∈ choices f [] → cs ≡ []
unfolding choices
only_empty f cs m = elim (Memᴰ.cases_cons m) [ inl e ↦ e | inr k ↦ absurd (Memᴰ.not-nil k) ]

-- and any other is a list for its first chapter and a choice for those after it.
pub record Opened (f : ℕ) (g : Galley) (gs : List Galley) (cs : Choice) : Type 0 where
  pub list : List Place
  pub rest : Choice
  pub is : cs ≡ list ∷ rest
  pub lawful : list ∈ valid (open_on f g)
  pub later : rest ∈ choices (f + length list) gs

pub opened : (f : ℕ) (g : Galley) (gs : List Galley) (cs : Choice) → cs ∈ choices f (g ∷ gs) → Opened f g gs cs
unfolding choices
opened f g gs cs m =
    let (ps, v, n) = ∈-ungathered (λ ps. map (λ cs. ps ∷ cs) (choices (f + length ps) gs)) cs (valid (open_on f g)) m in
    let (es, e, k) = ∈-unmap (λ cs. ps ∷ cs) cs (choices (f + length ps) gs) n in
    record { list = ps; rest = es; is = e; lawful = v; later = k }

module _ (f : ℕ) where
  -- What goes on from a choice goes on from it with one list more.
  on_after : (ds : Choice) {g : Galley} {gs : List Galley} {cs : Choice} (o : Opened (f + pages_in ds) g gs cs)
      → o.rest ∈ choices (f + pages_in (o.list ∷ ds)) gs
  unfolding pages_in
  on_after ds {g} {gs} o = subst (λ n. o.rest ∈ choices n gs) (add_assoc f (pages_in ds) (length o.list)) o.later

  -- A choice that goes on from a choice is one for all the chapters,
  pub chosen_on : (gs rs : List Galley) (cs ds : Choice) → cs ∈ choices (f + pages_in ds) gs → Chosen f rs ds
      → Chosen f (reverse_aux gs rs) (reverse_aux cs ds)
  unfolding choices pages_in Chosen
  chosen_on [] rs cs ds m c = rw (only_empty (f + pages_in ds) cs m) c
  chosen_on (g ∷ gs) rs cs ds m c =
      let o = opened (f + pages_in ds) g gs cs m in
      rw o.is (chosen_on gs (g ∷ rs) o.rest (o.list ∷ ds) (on_after ds o) (o.lawful, c))

  -- and a choice for all is one that goes on from a choice.
  pub record Parted (gs rs : List Galley) (es : Choice) : Type 0 where
    pub later : Choice
    pub sooner : Choice
    pub is : es ≡ reverse_aux later sooner
    pub on : later ∈ choices (f + pages_in sooner) gs
    pub from : Chosen f rs sooner

  pub chosen_part : (gs rs : List Galley) (es : Choice) → Chosen f (reverse_aux gs rs) es → Parted gs rs es
  unfolding choices pages_in Chosen
  chosen_part [] rs es c = record { later = []; sooner = es; is = refl; on = Memᴰ.head refl; from = c }
  chosen_part (g ∷ gs) rs es c = go (chosen_part gs (g ∷ rs) es c)
    where
      next : (ds : Choice) → (later : Choice) → later ∈ choices (f + pages_in ds) gs → es ≡ reverse_aux later ds → Chosen f (g ∷ rs) ds
          → Parted (g ∷ gs) rs es
      next [] later m is c = absurd c
      next (ps ∷ ds) later m is c =
          let k = subst (λ n. later ∈ choices n gs) (sym (add_assoc f (pages_in ds) (length ps))) m in
          record {
            later = ps ∷ later;
            sooner = ds;
            is = is;
            on =
                ∈-gathered (λ ps. map (λ cs. ps ∷ cs) (choices ((f + pages_in ds) + length ps) gs)) ps (ps ∷ later)
                (valid (open_on (f + pages_in ds) g)) c.0 (∈-map (λ cs. ps ∷ cs) later _ k);
            from = c.1;
          }

      go : Parted gs (g ∷ rs) es → Parted (g ∷ gs) rs es
      go r = next r.sooner r.later r.on r.is r.from

  -- Sums of a choice that goes on are those before and those after,
  pub sum_on : (h : Galley → List Place → ℕ) (gs rs : List Galley) (cs ds : Choice) → cs ∈ choices (f + pages_in ds) gs
      → sum_back h f rs ds + summed h (f + pages_in ds) gs cs ≡ sum_back h f (reverse_aux gs rs) (reverse_aux cs ds)
  unfolding choices pages_in summed sum_back
  sum_on h [] rs cs ds m = rw (only_empty (f + pages_in ds) cs m) (omega arith)
  sum_on h (g ∷ gs) rs cs ds m =
      let o = opened (f + pages_in ds) g gs cs m in
      let rest = sum_on h gs (g ∷ rs) o.rest (o.list ∷ ds) (on_after ds o) in
      let same = ap (λ n. summed h n gs o.rest) (add_assoc f (pages_in ds) (length o.list)) in
      rw o.is (omega arith)

  -- and so are its ties.
  pub ties_on : (gs rs : List Galley) (cs ds : Choice) → cs ∈ choices (f + pages_in ds) gs
      → ties_of (f + pages_in ds) gs cs (ties_back f rs ds) ≡ ties_back f (reverse_aux gs rs) (reverse_aux cs ds)
  unfolding choices pages_in ties_of ties_back
  ties_on [] rs cs ds m = rw (only_empty (f + pages_in ds) cs m) refl
  ties_on (g ∷ gs) rs cs ds m =
      let o = opened (f + pages_in ds) g gs cs m in
      rw o.is
      (ap (λ n. ties_of n gs o.rest (ties_back f (g ∷ rs) (o.list ∷ ds))) (add_assoc f (pages_in ds) (length o.list))
      ∙ ties_on gs (g ∷ rs) o.rest (o.list ∷ ds) (on_after ds o))

  -- Pages are such a sum.
  pub pages_sum : (rs : List Galley) (cs : Choice) → Chosen f rs cs → sum_back (λ g ps. length ps) f rs cs ≡ pages_in cs
  unfolding Chosen sum_back pages_in
  pages_sum [] [] c = refl
  pages_sum [] (ps ∷ cs) c = absurd c
  pages_sum (g ∷ rs) [] c = absurd c
  pages_sum (g ∷ rs) (ps ∷ cs) c = rw (pages_sum rs cs c.1)

  -- Two choices with the same ties are the same.
  pub ties_same : (rs : List Galley) (cs ds : Choice) → Chosen f rs cs → Chosen f rs ds → ties_back f rs cs ≡ ties_back f rs ds → cs ≡ ds
  unfolding Chosen ties_back tie_of
  ties_same [] [] [] c d e = refl
  ties_same [] [] (qs ∷ ds) c d e = absurd d
  ties_same [] (ps ∷ cs) ds c d e = absurd c
  ties_same (g ∷ rs) [] ds c d e = absurd c
  ties_same (g ∷ rs) (ps ∷ cs) [] c d e = absurd d
  ties_same (g ∷ rs) (ps ∷ cs) (qs ∷ ds) c d e =
      let t = ties_same rs cs ds c.1 d.1 (tail-eq_of_cons-eq e) in
      let v : qs ∈ valid (open_on (f + pages_in cs) g) = rw t d.0 in
      let starts : starts_of (zeros (open_on (f + pages_in cs) g)) ps [] ≡ starts_of (zeros (open_on (f + pages_in cs) g)) qs [] =
      ap (λ p. p.1) (head-eq_of_cons-eq e) ∙ ap (λ x. starts_of (zeros (open_on (f + pages_in x) g)) qs []) (sym t) in
      let one =
      starts_same (open_on (f + pages_in cs) g) ps qs ((valid_accepted _ ps).0 c.0) ((valid_accepted _ qs).0 v) starts in
      cc

-- A whole book: nothing comes before it.
module _ (f : ℕ) (gs : List Galley) where
  -- A choice for a book is one backwards,
  pub chosen_front : (cs : Choice) → cs ∈ choices f gs → Chosen f (reverse_aux gs []) (reverse_aux cs [])
  unfolding pages_in Chosen
  chosen_front cs m = chosen_on f gs [] cs [] (subst (λ n. cs ∈ choices n gs) (sym (add-zero f)) m) tt

  -- and one backwards is a choice for the book,
  pub chosen_back : (es : Choice) → Chosen f (reverse_aux gs []) es → (cs : Choice) × (es ≡ reverse_aux cs []) × (cs ∈ choices f gs)
  unfolding pages_in Chosen
  chosen_back es c = go (chosen_part f gs [] es c).sooner (chosen_part f gs [] es c).later (chosen_part f gs [] es c).is (chosen_part f gs [] es c).on (chosen_part f gs [] es c).from
    where
      go : (ds cs : Choice) → es ≡ reverse_aux cs ds → cs ∈ choices (f + pages_in ds) gs → Chosen f [] ds
          → (cs : Choice) × (es ≡ reverse_aux cs []) × (cs ∈ choices f gs)
      go [] cs is m d = (cs, is, subst (λ n. cs ∈ choices n gs) (add-zero f) m)
      go (ps ∷ ds) cs is m d = absurd d

  -- with the same sums
  pub sum_front : (h : Galley → List Place → ℕ) (cs : Choice) → cs ∈ choices f gs
      → summed h f gs cs ≡ sum_back h f (reverse_aux gs []) (reverse_aux cs [])
  unfolding pages_in sum_back
  sum_front h cs m =
      let same = ap (λ n. summed h n gs cs) (add-zero f) in
      let all = sum_on f h gs [] cs [] (subst (λ n. cs ∈ choices n gs) (sym (add-zero f)) m) in
      omega arith

  -- and the same ties.
  pub ties_front : (cs : Choice) → cs ∈ choices f gs → ties_of f gs cs [] ≡ ties_back f (reverse_aux gs []) (reverse_aux cs [])
  unfolding pages_in ties_back
  ties_front cs m =
      ap (λ n. ties_of n gs cs []) (sym (add-zero f))
      ∙ ties_on f gs [] cs [] (subst (λ n. cs ∈ choices n gs) (sym (add-zero f)) m)
