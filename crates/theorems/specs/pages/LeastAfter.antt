-- What making after an opening answers, in the definitions of the model alone: a list that begins with the opening, that marking accepts
-- with the same counts and that no accepted list which begins so beats, or 11, exactly where marking accepts none; or one of the
-- opening's own refusals. Nothing printed is an opening too, with which every list begins.
use Prim.Native.Nat.{ℕ, suc, ◌*◌, ◌/◌, ◌%◌, ◌≤◌, ◌<◌}
use Rattle.std.proofs.Common.{div-add-mod', arith, sym, ◌∙◌, subst, inl, inr, length-append, take_at, drop_at, eqb-true}
use Rattle.std.specs.Prelude.{◌≡◌, ◌⊎◌, Bool, ◌&&◌, take, drop, eqb}
use Rattle.std.proofs.Math.Path.{refl, ap}
use Rattle.std.proofs.Math.Bool.{true, false}
use mathlib.Core.List.{List, [], ◌∷◌, ◌++◌, append_assoc}
use Rattle.std.proofs.Math.Option.{Option, none, some}
use Rattle.std.proofs.Math.ListN.{length}
use Rattle.model.specs.Gather.{pick}
use Rattle.model.specs.Galley.{Galley, Place, streams, zeros, sizes}
use Rattle.model.specs.Turns.{turns}
use Rattle.model.specs.White.{white}
use Rattle.model.specs.Answers.{numbers_of, accepted, same, pages_of, words_of, counts_of, marked, Answer, counted_as, refused}
use Rattle.model.specs.Best.{allowed, valid}
use Rattle.model.specs.Opening.{valid_after, best_after, pages_turned, opening_turned, made_after, made_words_after}
use Rattle.model.proofs.laws.Gather.{and_both}
use Rattle.model.specs.laws.Lists.{◌∈◌}
use Rattle.model.specs.laws.Words.{Shaped}
use Rattle.model.proofs.laws.Words.{chunks_shaped, words_chunks, length_words}
use Rattle.model.proofs.laws.Valid.{valid_accepted, accepted_valid}
use Rattle.model.proofs.laws.Best.{MakesOf, impossible, makes, least_turns, least_white}
use Rattle.model.proofs.laws.Opening.{after_valid, valid_after_lem, after_makes}
use Rattle.theorems.specs.turns.LeastTurns.{valid_counts}
use Rattle.theorems.specs.pages.Graph.{Origin, beginning, full}
use Rattle.theorems.specs.pages.Opening.{printed, onto, passes, Opening}

-- The words of two lists of places, one after the other,
pub words_append : (os ps : List Place) → words_of (os ++ ps) ≡ words_of os ++ words_of ps
unfolding words_of
words_append [] ps = refl
words_append (v ∷ os) ps = ap (λ l. v ++ l) (words_append os ps) ∙ sym (append_assoc v (words_of os) (words_of ps))

-- and the places of words that begin with those of a list.
words_split : (k : ℕ) (os qs : List Place) (vs : List ℕ) → 0 < k → Shaped k os → Shaped k qs → words_of qs ≡ words_of os ++ vs
    → (ps : List Place) × (qs ≡ os ++ ps) × (words_of ps ≡ vs)
unfolding words_of
words_split k [] qs vs pos sh th h = (qs, refl, h)
words_split k (v ∷ os) [] vs pos sh th h =
    let lengths = ap length h in
    let one = length-append (v ++ words_of os) vs in
    let two = length-append v (words_of os) in
    let long = sh.0 in
    absurd (omega arith)
words_split k (v ∷ os) (w ∷ qs) vs pos sh th h =
    let line : w ++ words_of qs ≡ v ++ (words_of os ++ vs) = h ∙ append_assoc v (words_of os) vs in
    let page : w ≡ v =
    sym (take_at w (words_of qs) k th.0) ∙ ap (take k) line ∙ take_at v (words_of os ++ vs) k sh.0 in
    let after : words_of qs ≡ words_of os ++ vs =
    sym (drop_at w (words_of qs) k th.0) ∙ ap (drop k) line ∙ drop_at v (words_of os ++ vs) k sh.0 in
    let r = words_split k os qs vs pos sh.1 th.1 after in
    let e = r.1 in
    (r.0, cc, r.2)

-- The refusals that turn an opening away.
abbrev pub ByOpening : Answer → Type 0
ByOpening a = (at : ℕ) × ((a ≡ refused 20 at) ⊎ (a ≡ refused 21 at))

-- What the refusals of an opening's pages tell: one of the two, or that the pages pass and a block is left.
pub turned_or : (g : Galley) (o : Origin) (os : List Place)
    → ((a : Answer) × (pages_turned g (suc o.pages) o.place os ≡ some a) × ByOpening a)
    ⊎ ((pages_turned g (suc o.pages) o.place os ≡ none) × (passes g o os ≡ true) × (full g (onto g o os).place ≡ false))
unfolding pages_turned passes onto full
turned_or g o [] = go (same o.place (sizes g)) refl
  where
    Out : Option Answer → Type 0
    Out r = ((a : Answer) × (r ≡ some a) × ByOpening a) ⊎ ((r ≡ none) × (true ≡ true) × (same o.place (sizes g) ≡ false))

    go : (b : Bool) → same o.place (sizes g) ≡ b → Out (pick b (some (refused 21 o.pages)) none)
    go true e = inl (refused 21 o.pages, refl, (o.pages, inr refl))
    go false e = inr (refl, refl, e)
turned_or g o (v ∷ vs) = go (allowed g (suc o.pages) false o.place v) refl (turned_or g (printed g o v) vs)
  where
    after : Option Answer
    after = pages_turned g (suc (suc o.pages)) v vs

    Out : Option Answer → Bool → Type 0
    Out r b = ((a : Answer) × (r ≡ some a) × ByOpening a)
        ⊎ ((r ≡ none) × (b ≡ true) × (full g (onto g (printed g o v) vs).place ≡ false))

    go : (b : Bool) → allowed g (suc o.pages) false o.place v ≡ b → Out after (passes g (printed g o v) vs)
        → Out (pick b after (some (refused 20 (suc o.pages)))) (allowed g (suc o.pages) false o.place v && passes g (printed g o v) vs)
    go true e (inl h) = inl h
    go true e (inr (a, b, c)) = inr (a, and_both e b, c)
    go false e h = inl (refused 20 (suc o.pages), refl, (suc o.pages, inl refl))

module _ (g : Galley) (ows : List ℕ) where
  -- The pages of the opening.
  abbrev opening : List Place
  opening = pages_of g ows

  -- What nothing turns away is whole pages, which are an opening and whose words are those given.
  pub record Whole : Type 0 where
    pub whole : length ows ≡ length ows / streams g * streams g
    pub words : words_of opening ≡ ows
    pub printed : Opening g opening

  -- Either something turns the opening away, by 20 or 21, or it is such a one.
  pub opening_or : ((a : Answer) × (opening_turned g ows ≡ some a) × ByOpening a) ⊎ ((opening_turned g ows ≡ none) × Whole)
  unfolding opening_turned streams pages_of
  opening_or = go (eqb (length ows % suc g.floats) 0) refl
    where
      Out : Option Answer → Type 0
      Out r = ((a : Answer) × (r ≡ some a) × ByOpening a) ⊎ ((r ≡ none) × Whole)

      go : (b : Bool) → eqb (length ows % suc g.floats) 0 ≡ b
          → Out (pick b (pages_turned g 1 (zeros g) (pages_of g ows)) (some (refused 20 0)))
      go false e = inl (refused 20 0, refl, (0, inl refl))
      go true e =
          let zero_rest = eqb-true (length ows % suc g.floats) 0 e in
          let parts = div-add-mod' (length ows) (suc g.floats) in
          let whole : length ows ≡ length ows / suc g.floats * suc g.floats = omega arith in
          told whole (turned_or g (beginning g) (pages_of g ows))
        where
          told : length ows ≡ length ows / suc g.floats * suc g.floats
              → ((a : Answer) × (pages_turned g 1 (zeros g) (pages_of g ows) ≡ some a) × ByOpening a)
              ⊎ ((pages_turned g 1 (zeros g) (pages_of g ows) ≡ none) × (passes g (beginning g) (pages_of g ows) ≡ true)
              × (full g (onto g (beginning g) (pages_of g ows)).place ≡ false))
              → Out (pages_turned g 1 (zeros g) (pages_of g ows))
          told whole (inl h) = inl h
          told whole (inr (a, b, c)) =
              inr (
                a,
                record {
                  whole = whole;
                  words = words_chunks (length ows / suc g.floats) (suc g.floats) ows whole;
                  printed = record { shaped = chunks_shaped (length ows / suc g.floats) (suc g.floats) ows whole; passed = b; left = c };
                },
              )

  -- What the possible answers of making after an opening say of the lists that marking accepts and that begin with it.
  pub data MakingAfter : Answer → List ℕ → Type 0 where
    turned_away : {a : Answer} → opening_turned g ows ≡ some a → ByOpening a → MakingAfter a []
    no_list : opening_turned g ows ≡ none → ((ws : List ℕ) → accepted (marked g (ows ++ ws)) ≡ false) → MakingAfter (refused 11 0) []
    best_list : {p x y t w : ℕ} (ws : List ℕ) → opening_turned g ows ≡ none → marked g (ows ++ ws) ≡ counted_as p x y t w
        → length (ows ++ ws) ≡ p * streams g
        → ((vs : List ℕ) → accepted (marked g (ows ++ vs)) ≡ true → t ≤ (numbers_of (marked g (ows ++ vs))).turns)
        → ((vs : List ℕ) → accepted (marked g (ows ++ vs)) ≡ true → (numbers_of (marked g (ows ++ vs))).turns ≤ t
        → w ≤ (numbers_of (marked g (ows ++ vs))).white)
        → MakingAfter (counted_as p x y t w) (ows ++ ws)

  module _ (stands : opening_turned g ows ≡ none) (w : Whole) where
    -- An accepted list of words that begins with the opening's is the words of a valid list that begins with it.
    begun : (vs : List ℕ) → accepted (marked g (ows ++ vs)) ≡ true
        → (ps : List Place) × ((opening ++ ps) ∈ valid g) × (words_of (opening ++ ps) ≡ ows ++ vs)
    unfolding streams
    begun vs a =
        let (qs, m, e) = (accepted_valid g (ows ++ vs)).0 a in
        let f : words_of qs ≡ words_of opening ++ vs = e ∙ ap (λ l. l ++ vs) (sym w.words) in
        let (ps, is, k) =
        words_split (suc g.floats) opening qs vs (omega arith) w.printed.shaped ((valid_accepted g qs).0 m).shaped f in
        (ps, rw is at m, ap words_of (sym is) ∙ e)

    answer : (r : Option (List Place)) → MakesOf g (valid_after g opening) r
        → MakingAfter (elim r [ none ↦ refused 11 0 | some ps ↦ counts_of g ps ]) (elim r [ none ↦ [] | some ps ↦ words_of ps ])
    unfolding counts_of
    answer none (impossible empty) = no_list stands (λ ws. no_one ws (accepted (marked g (ows ++ ws))) refl)
      where
        no_one : (ws : List ℕ) (b : Bool) → accepted (marked g (ows ++ ws)) ≡ b → accepted (marked g (ows ++ ws)) ≡ false
        no_one ws true e = let (ps, m, f) = begun ws e in absurd (empty (opening ++ ps) (valid_after_lem g opening ps m))
        no_one ws false e = e
    answer (some qs) (makes l) =
        let (m, (ps, is)) = after_valid g opening qs l.lawful in
        let ws : words_of qs ≡ ows ++ words_of ps = ap words_of is ∙ words_append opening ps ∙ ap (λ l. l ++ words_of ps) w.words in
        let counts : marked g (ows ++ words_of ps) ≡ counts_of g qs = ap (marked g) (sym ws) ∙ valid_counts g qs m in
        let long = length_words (streams g) qs ((valid_accepted g qs).0 m).shaped in
        rw ws (best_list (words_of ps) stands counts (ap length (sym ws) ∙ long) beats whiter)
      where
        beats : (vs : List ℕ) → accepted (marked g (ows ++ vs)) ≡ true → turns g qs ≤ (numbers_of (marked g (ows ++ vs))).turns
        beats vs a =
            let (ps, m, e) = begun vs a in
            let counts = valid_counts g (opening ++ ps) m in
            rw (← e, counts) (least_turns g qs (opening ++ ps) l (valid_after_lem g opening ps m))

        whiter : (vs : List ℕ) → accepted (marked g (ows ++ vs)) ≡ true → (numbers_of (marked g (ows ++ vs))).turns ≤ turns g qs
            → white g qs ≤ (numbers_of (marked g (ows ++ vs))).white
        whiter vs a k =
            let (ps, m, e) = begun vs a in
            let counts = valid_counts g (opening ++ ps) m in
            let fewer : turns g (opening ++ ps) ≤ turns g qs = rw (← e, counts) at k in
            rw (← e, counts) (least_white g qs (opening ++ ps) l (valid_after_lem g opening ps m) fewer)

  -- Making after an opening answers one of them.
  pub making_after : MakingAfter (made_after g ows) (made_words_after g ows)
  unfolding made_after made_words_after
  making_after = go opening_or
    where
      good : Answer
      good = elim (best_after g opening) [ none ↦ refused 11 0 | some ps ↦ counts_of g ps ]

      list : List ℕ
      list = elim (best_after g opening) [ none ↦ [] | some ps ↦ words_of ps ]

      Out : Option Answer → Type 0
      Out r = MakingAfter (elim r [ none ↦ good | some refusal ↦ refusal ]) (elim r [ none ↦ list | some refusal ↦ [] ])

      go : ((a : Answer) × (opening_turned g ows ≡ some a) × ByOpening a) ⊎ ((opening_turned g ows ≡ none) × Whole)
          → Out (opening_turned g ows)
      go (inl (a, e, h)) = subst (λ r. Out r) (sym e) (turned_away e h)
      go (inr (e, w)) = subst (λ r. Out r) (sym e) (answer e w (best_after g opening) (after_makes g opening))
