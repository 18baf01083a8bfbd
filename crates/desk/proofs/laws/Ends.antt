-- A list with another end of a page, by its words and by its pages.
use Rattle.std.specs.Prelude.{ℕ, zero, suc, ◌+◌, ◌-◌, ◌*◌, ◌≤◌, ◌<◌, Bool, true, false, List, [], ◌∷◌, ◌++◌, ◌≡◌, refl, eqb, length, get_or, set, take, drop}
use Rattle.std.proofs.Common.{suc-mul, arith, sym, ap, ◌∙◌, length-set, length-drop, take-append-drop, length-take-le}
use Rattle.model.specs.Answers.{chunks, words_of}
use Rattle.model.specs.Gather.{pick}
use Rattle.model.specs.laws.Words.{Shaped}
use Rattle.model.proofs.laws.Words.{length_chunks, chunks_shaped, words_chunks, length_words}
use Rattle.desk.specs.Pages.{page_at, two_set, with_end}

-- The first words of a list with one word set are those words with it set.
take_set : (n : ℕ) (l : List ℕ) (i a : ℕ) → take n (set l i a) ≡ set (take n l) i a
take_set zero l i a = refl
take_set (suc n) [] i a = refl
take_set (suc n) (x ∷ l) zero a = refl
take_set (suc n) (x ∷ l) (suc i) a = ap (λ (r : List ℕ). x ∷ r) (take_set n l i a)

-- So the first words with another end of a page are those of the list with that end.
pub take_end : (n width : ℕ) (list : List ℕ) (page : ℕ) (end : List ℕ)
    → take n (with_end width list page end) ≡ with_end width (take n list) page end
unfolding with_end
take_end n width list page end = go (eqb width 3)
  where
    at : ℕ
    at = page_at width page

    two : take n (two_set list at end) ≡ two_set (take n list) at end
    two = simp take_set

    go : (b : Bool) → take n (pick b (set (two_set list at end) (at + 2) (get_or end 2 0)) (two_set list at end))
        ≡ pick b (set (two_set (take n list) at end) (at + 2) (get_or end 2 0)) (two_set (take n list) at end)
    go true = take_set n (two_set list at end) (at + 2) (get_or end 2 0) ∙ ap (λ (l : List ℕ). set l (at + 2) (get_or end 2 0)) two
    go false = two

-- A word set after others.
set_after : (before list : List ℕ) (k j a : ℕ) → length before ≡ k → set (before ++ list) (k + j) a ≡ before ++ set list j a
set_after [] list zero j a h = let e : 0 + j ≡ j = omega arith in rw e
set_after [] list (suc k) j a h = absurd (omega arith)
set_after (x ∷ before) list zero j a h = absurd (omega arith)
set_after (x ∷ before) list (suc k) j a h =
    let e : suc k + j ≡ suc (k + j) = omega arith in
    rw e (ap (λ (l : List ℕ). x ∷ l) (set_after before list k j a (omega arith)))

-- Another end of a page after the first is one of the pages after it,
end_after : (k : ℕ) (first list : List ℕ) (page : ℕ) (end : List ℕ) → length first ≡ k
    → with_end k (first ++ list) (suc (suc page)) end ≡ first ++ with_end k list (suc page) end
unfolding with_end
end_after k first list page end h = rw place (go (eqb k 3))
  where
    at : ℕ
    at = page_at k (suc page)

    place : page_at k (suc (suc page)) ≡ k + at
    place = let e = suc-mul page k in
        let a : suc (suc page) - 1 ≡ suc page = omega arith in
        let b : suc page - 1 ≡ page = omega arith in
        rw (a, b) (omega arith)

    two : two_set (first ++ list) (k + at) end ≡ first ++ two_set list at end
    two =
        let e : k + at + 1 ≡ k + (at + 1) = omega arith in
        rw (e, set_after first list k at (get_or end 0 0) h) (set_after first (set list at (get_or end 0 0)) k (at + 1) (get_or end 1 0) h)

    go : (b : Bool) → pick b (set (two_set (first ++ list) (k + at) end) (k + at + 2) (get_or end 2 0)) (two_set (first ++ list) (k + at) end)
        ≡ first ++ pick b (set (two_set list at end) (at + 2) (get_or end 2 0)) (two_set list at end)
    go true =
        let e : k + at + 2 ≡ k + (at + 2) = omega arith in
        rw (e, two) (set_after first (two_set list at end) k (at + 2) (get_or end 2 0) h)
    go false = two

-- and one of the first page is in place of its words, two or three.
end_first : (k : ℕ) (first list : List ℕ) (a b c : ℕ) → 2 ≤ k → k ≤ 3 → length first ≡ k
    → with_end k (first ++ list) 1 (a ∷ b ∷ c ∷ []) ≡ take k (a ∷ b ∷ c ∷ []) ++ list
unfolding with_end
end_first zero first list a b c least most h = absurd (omega arith)
end_first (suc zero) first list a b c least most h = absurd (omega arith)
end_first (suc (suc zero)) [] list a b c least most h = absurd (omega arith)
end_first (suc (suc zero)) (x ∷ []) list a b c least most h = absurd (omega arith)
end_first (suc (suc zero)) (x ∷ y ∷ []) list a b c least most h = refl
end_first (suc (suc zero)) (x ∷ y ∷ z ∷ first) list a b c least most h = absurd (omega arith)
end_first (suc (suc (suc zero))) [] list a b c least most h = absurd (omega arith)
end_first (suc (suc (suc zero))) (x ∷ []) list a b c least most h = absurd (omega arith)
end_first (suc (suc (suc zero))) (x ∷ y ∷ []) list a b c least most h = absurd (omega arith)
end_first (suc (suc (suc zero))) (x ∷ y ∷ z ∷ []) list a b c least most h = refl
end_first (suc (suc (suc zero))) (x ∷ y ∷ z ∷ w ∷ first) list a b c least most h = absurd (omega arith)
end_first (suc (suc (suc (suc k)))) first list a b c least most h = absurd (omega arith)

rest : (p k : ℕ) (list : List ℕ) → length list ≡ suc p * k → length (drop k list) ≡ p * k
rest p k list h = let e = suc-mul p k in simp length-drop (omega arith)

-- So a list of whole pages with another end of a page is that of the pages with another.
pub end_pages : (p k : ℕ) (list : List ℕ) (i a b c : ℕ) → 2 ≤ k → k ≤ 3 → length list ≡ p * k → i < p
    → words_of (set (chunks p k list) i (take k (a ∷ b ∷ c ∷ []))) ≡ with_end k list (suc i) (a ∷ b ∷ c ∷ [])
unfolding chunks words_of
end_pages zero k list i a b c least most h low = absurd (omega arith)
end_pages (suc p) k list zero a b c least most h low =
    let e = suc-mul p k in
    ap (λ (l : List ℕ). take k (a ∷ b ∷ c ∷ []) ++ l) (words_chunks p k (drop k list) (rest p k list h))
    ∙ sym (end_first k (take k list) (drop k list) a b c least most (length-take-le k list (omega arith)))
    ∙ ap (λ (l : List ℕ). with_end k l 1 (a ∷ b ∷ c ∷ [])) (take-append-drop k list)
end_pages (suc p) k list (suc i) a b c least most h low =
    let e = suc-mul p k in
    ap (λ (l : List ℕ). take k list ++ l) (end_pages p k (drop k list) i a b c least most (rest p k list h) (omega arith))
    ∙ sym (end_after k (take k list) (drop k list) i (a ∷ b ∷ c ∷ []) (length-take-le k list (omega arith)))
    ∙ ap (λ (l : List ℕ). with_end k l (suc (suc i)) (a ∷ b ∷ c ∷ [])) (take-append-drop k list)

-- A list keeps its length with another page of as many words.
set_shaped : (k : ℕ) (vs : List (List ℕ)) (i : ℕ) (v : List ℕ) → length v ≡ k → Shaped k vs → Shaped k (set vs i v)
set_shaped k [] i v h shaped = shaped
set_shaped k (u ∷ vs) zero v h shaped = (h, shaped.1)
set_shaped k (u ∷ vs) (suc i) v h shaped = (shaped.0, set_shaped k vs i v h shaped.1)

pub pages_long : (p k : ℕ) (list : List ℕ) (i : ℕ) (v : List ℕ) → length v ≡ k → length list ≡ p * k
    → length (words_of (set (chunks p k list) i v)) ≡ length list
pages_long p k list i v h whole =
    length_words k (set (chunks p k list) i v) (set_shaped k (chunks p k list) i v h (chunks_shaped p k list whole))
    ∙ ap (λ (q : ℕ). q * k) (length-set (chunks p k list) i v ∙ length_chunks p k list)
    ∙ sym whole
