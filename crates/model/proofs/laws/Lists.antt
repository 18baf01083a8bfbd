-- "Every valid list" has a list exactly where the rules accept it.
use Prim.Native.Nat.{ℕ, zero, suc, ◌≤◌}
use Rattle.std.proofs.Math.Nat.{le-suc_iff}
use Rattle.std.proofs.Common.{le_refl, le_of_suc-le-suc, arith, sym, ◌∙◌, ap, inl, inr}
use Rattle.std.proofs.Math.Path.{◌≡◌, refl, subst}
use Rattle.std.specs.Prelude.{◌⊎◌, Bool, ◌||◌, length, get_or}
use Rattle.std.proofs.Math.Bool.{true, false}
use mathlib.Core.List.Memᴰ
use mathlib.Core.List.{List, [], ◌∷◌, ◌++◌, map, Memᴰ}
use Rattle.model.specs.Gather.{pick}
use Rattle.model.specs.Galley.{Place}
use Rattle.model.specs.Answers.{same, ended}
use Rattle.model.specs.Best.{prefixed, box, keep, onward, lists, Allowed}
use Rattle.model.proofs.laws.Gather.{and_left, and_right, and_both, or_left, or_right}
use Rattle.model.specs.laws.Judge.{accepts}
use Rattle.model.specs.laws.Lists.{◌∈◌, Inside, AllInside}

module _ {A B : Type 0} where
  pub ∈-map : (f : A → B) (a : A) (l : List A) → a ∈ l → f a ∈ map f l
  ∈-map f a [] m = elim m [ ]
  ∈-map f a (x ∷ l) (Memᴰ.head e) = Memᴰ.head (ap f e)
  ∈-map f a (x ∷ l) (Memᴰ.tail m) = Memᴰ.tail (∈-map f a l m)

  pub ∈-unmap : (f : A → B) (b : B) (l : List A) → b ∈ map f l → (a : A) × (b ≡ f a) × (a ∈ l)
  ∈-unmap f b [] m = absurd (Memᴰ.not-nil m)
  ∈-unmap f b (x ∷ l) m = go (Memᴰ.cases_cons m) (∈-unmap f b l)
    where
      go : (b ≡ f x) ⊎ (b ∈ map f l) → (b ∈ map f l → (a : A) × (b ≡ f a) × (a ∈ l)) → (a : A) × (b ≡ f a) × (a ∈ x ∷ l)
      go (inl e) below = (x, e, Memᴰ.head refl)
      go (inr n) below = let r = below n in (r.0, r.1, Memᴰ.tail r.2)

module _ {A : Type 0} where
  -- What is kept is what is there and passes the test.
  pub ∈-keep : (test : A → Bool) (a : A) (l : List A) → a ∈ l → test a ≡ true → a ∈ keep test l
  unfolding keep
  ∈-keep test a [] m t = absurd (Memᴰ.not-nil m)
  ∈-keep test a (x ∷ l) m t = go (test x) refl (Memᴰ.cases_cons m) (λ n. ∈-keep test a l n t)
    where
      go : (b : Bool) → test x ≡ b → (a ≡ x) ⊎ (a ∈ l) → (a ∈ l → a ∈ keep test l) → a ∈ pick b (x ∷ keep test l) (keep test l)
      go true p (inl e) below = Memᴰ.head e
      go true p (inr n) below = Memᴰ.tail (below n)
      go false p (inl e) below = let z : ◌≡◌ {A = ℕ} 0 1 = cc (ap test e) in absurd (omega arith)
      go false p (inr n) below = below n

  pub ∈-kept : (test : A → Bool) (a : A) (l : List A) → a ∈ keep test l → (a ∈ l) × (test a ≡ true)
  unfolding keep
  ∈-kept test a [] m = absurd (Memᴰ.not-nil m)
  ∈-kept test a (x ∷ l) m = go (test x) refl m (∈-kept test a l)
    where
      more : (a ∈ l) × (test a ≡ true) → (a ∈ x ∷ l) × (test a ≡ true)
      more r = (Memᴰ.tail r.0, r.1)

      first : test x ≡ true → (a ≡ x) ⊎ (a ∈ keep test l) → (a ∈ keep test l → (a ∈ l) × (test a ≡ true)) → (a ∈ x ∷ l) × (test a ≡ true)
      first p (inl e) below = (Memᴰ.head e, ap test e ∙ p)
      first p (inr n) below = more (below n)

      go : (b : Bool) → test x ≡ b → a ∈ pick b (x ∷ keep test l) (keep test l) → (a ∈ keep test l → (a ∈ l) × (test a ≡ true))
          → (a ∈ x ∷ l) × (test a ≡ true)
      go true p m below = first p (Memᴰ.cases_cons m) below
      go false p m below = more (below m)

∈-prefixed : (n k : ℕ) (v : Place) (vs : List Place) → k ≤ n → v ∈ vs → (k ∷ v) ∈ prefixed n vs
unfolding prefixed
∈-prefixed zero k v vs h m = let e : k ≡ 0 = omega arith in Memᴰ.cast (ap (λ i. i ∷ v) e) (∈-map (λ w. 0 ∷ w) v vs m)
∈-prefixed (suc n) k v vs h m = go (le-suc_iff.0 h) (λ l. ∈-prefixed n k v vs l m)
  where
    go : (k ≤ n) ⊎ (k ≡ suc n) → (k ≤ n → (k ∷ v) ∈ prefixed n vs) → (k ∷ v) ∈ (map (λ w. suc n ∷ w) vs ++ prefixed n vs)
    go (inl l) below = Memᴰ.append_right (map (λ w. suc n ∷ w) vs) (below l)
    go (inr e) below = Memᴰ.append_left (prefixed n vs) (Memᴰ.cast (ap (λ i. i ∷ v) e) (∈-map (λ w. suc n ∷ w) v vs m))

∈-unprefixed : (n : ℕ) (v : Place) (vs : List Place) → v ∈ prefixed n vs → (k : ℕ) × (w : Place) × (v ≡ k ∷ w) × (k ≤ n) × (w ∈ vs)
unfolding prefixed
∈-unprefixed zero v vs m = let r = ∈-unmap (λ w. 0 ∷ w) v vs m in (0, r.0, r.1, le_refl 0, r.2)
∈-unprefixed (suc n) v vs m = go (Memᴰ.append_cases (map (λ w. suc n ∷ w) vs) m) (∈-unprefixed n v vs)
  where
    Out : ℕ → Type 0
    Out n = (k : ℕ) × (w : Place) × (v ≡ k ∷ w) × (k ≤ n) × (w ∈ vs)

    go : (v ∈ map (λ w. suc n ∷ w) vs) ⊎ (v ∈ prefixed n vs) → (v ∈ prefixed n vs → Out n) → Out (suc n)
    go (inl a) below = let r = ∈-unmap (λ w. suc n ∷ w) v vs a in (suc n, r.0, r.1, le_refl (suc n), r.2)
    go (inr b) below = let r = below b in let h = r.3 in (r.0, r.1, r.2, (omega arith), r.4)

-- The box has just the places inside.
pub ∈-box : (l v : Place) → Inside l v → v ∈ box l
unfolding box
∈-box [] [] h = Memᴰ.head refl
∈-box [] (k ∷ v) h = let e = h.long in absurd (omega arith)
∈-box (n ∷ l) [] h = let e = h.long in absurd (omega arith)
∈-box (n ∷ l) (k ∷ v) h =
    let e = h.long in
    ∈-prefixed n k v (box l) (h.under 0) (∈-box l v (record { long = omega arith; under = λ i. h.under (suc i) }))

pub ∈-unbox : (l v : Place) → v ∈ box l → Inside l v
unfolding box
∈-unbox [] [] m = record { long = refl; under = λ i. le_refl 0 }
∈-unbox [] (k ∷ v) m = absurd (go (Memᴰ.cases_cons m))
  where
    go : ((k ∷ v) ≡ []) ⊎ ((k ∷ v) ∈ []) → ⊥
    go (inl e) = let z : ◌≡◌ {A = ℕ} 0 1 = cc in omega arith
    go (inr n) = Memᴰ.not-nil n
∈-unbox (n ∷ l) v m = go (∈-unprefixed n v (box l) m) (∈-unbox l)
  where
    inside : (k : ℕ) (w : Place) → k ≤ n → Inside l w → Inside (n ∷ l) (k ∷ w)
    inside k w h i = record { long = ap suc i.long; under = under }
      where
        under : (j : ℕ) → get_or (k ∷ w) j 0 ≤ get_or (n ∷ l) j 0
        under zero = h
        under (suc j) = i.under j

    go : ((k : ℕ) × (w : Place) × (v ≡ k ∷ w) × (k ≤ n) × (w ∈ box l)) → ((w : Place) → w ∈ box l → Inside l w) → Inside (n ∷ l) v
    go r below = subst (λ x. Inside (n ∷ l) x) (sym r.2) (inside r.0 r.1 r.3 (below r.1 r.4))

module _ (ok : Allowed) (l : Place) where
  ended_either : (q : ℕ) (u v : Place) (ws : List Place) → ok q (ended ws) u v ≡ true → ok q true u v || ok q false u v ≡ true
  ended_either q u v [] h = or_left (ok q false u v) h
  ended_either q u v (w ∷ ws) h = or_right (ok q true u v) h

  ∈-onward : (from : Place → List (List Place)) (q : ℕ) (u v : Place) (ws vs : List (Place)) → v ∈ vs → ws ∈ from v
      → ok q (ended ws) u v ≡ true → (v ∷ ws) ∈ onward ok from q u vs
  unfolding onward
  ∈-onward from q u v ws [] m n h = absurd (Memᴰ.not-nil m)
  ∈-onward from q u v ws (x ∷ vs) m n h = go (Memᴰ.cases_cons m) (λ m'. ∈-onward from q u v ws vs m' n h)
    where
      by_x : List (List Place)
      by_x = map (λ ws. x ∷ ws) (keep (λ ws. ok q (ended ws) u x) (from x))

      head : v ≡ x → (v ∷ ws) ∈ pick (ok q true u x || ok q false u x) by_x []
      head e =
          let hx : ok q (ended ws) u x ≡ true = subst (λ y. ok q (ended ws) u y ≡ true) e h in
          let nx : ws ∈ from x = subst (λ y. ws ∈ from y) e n in
          rw (ended_either q u x ws hx)
          (Memᴰ.cast (ap (λ y. y ∷ ws) e) (∈-map (λ ws. x ∷ ws) ws _ (∈-keep (λ ws. ok q (ended ws) u x) ws (from x) nx hx)))

      go : (v ≡ x) ⊎ (v ∈ vs) → (v ∈ vs → (v ∷ ws) ∈ onward ok from q u vs)
          → (v ∷ ws) ∈ (pick (ok q true u x || ok q false u x) by_x [] ++ onward ok from q u vs)
      go (inl e) below = Memᴰ.append_left (onward ok from q u vs) (head e)
      go (inr m') below = Memᴰ.append_right (pick (ok q true u x || ok q false u x) by_x []) (below m')

  pub record Onward (from : Place → List (List Place)) (q : ℕ) (u : Place) (vs : List Place) (ps : List Place) : Type 0 where
    pub page : Place
    pub after : List Place
    pub whole : ps ≡ page ∷ after
    pub here : page ∈ vs
    pub listed : after ∈ from page
    pub may : ok q (ended after) u page ≡ true

  ∈-unonward : (from : Place → List (List Place)) (q : ℕ) (u : Place) (vs ps : List Place) → ps ∈ onward ok from q u vs
      → Onward from q u vs ps
  unfolding onward
  ∈-unonward from q u [] ps m = absurd (Memᴰ.not-nil m)
  ∈-unonward from q u (x ∷ vs) ps m =
      go (Memᴰ.append_cases (pick (ok q true u x || ok q false u x) by_x []) m) (∈-unonward from q u vs ps)
    where
      by_x : List (List Place)
      by_x = map (λ ws. x ∷ ws) (keep (λ ws. ok q (ended ws) u x) (from x))

      picked : (b : Bool) → ps ∈ pick b by_x [] → ps ∈ by_x
      picked true n = n
      picked false n = absurd (Memᴰ.not-nil n)

      first : ps ∈ by_x → Onward from q u (x ∷ vs) ps
      first n =
          let r = ∈-unmap (λ ws. x ∷ ws) ps (keep (λ ws. ok q (ended ws) u x) (from x)) n in
          let k = ∈-kept (λ ws. ok q (ended ws) u x) r.0 (from x) r.2 in
          record { page = x; after = r.0; whole = r.1; here = Memᴰ.head refl; listed = k.0; may = k.1 }

      go : (ps ∈ pick (ok q true u x || ok q false u x) by_x []) ⊎ (ps ∈ onward ok from q u vs)
          → (ps ∈ onward ok from q u vs → Onward from q u vs ps) → Onward from q u (x ∷ vs) ps
      go (inl n) below = first (picked (ok q true u x || ok q false u x) n)
      go (inr n) below =
          let r = below n in
          record {
            page = r.page;
            after = r.after;
            whole = r.whole;
            here = Memᴰ.tail r.here;
            listed = r.listed;
            may = r.may;
          }

  full : (u : Place) (ls : List (List Place)) → same u l ≡ true → [] ∈ (pick (same u l) ([] ∷ []) [] ++ ls)
  full u ls h = rw h (Memᴰ.head refl)

  -- What is accepted is listed.
  pub listed : (fuel q : ℕ) (u : Place) (ps : List Place) → AllInside l ps → length ps ≤ fuel
      → accepts ok l q u ps ≡ true → ps ∈ lists ok l fuel q u
  unfolding lists accepts
  listed zero q u [] i f h = rw h (Memᴰ.head refl)
  listed zero q u (v ∷ vs) i f h = absurd (omega arith)
  listed (suc fuel) q u [] i f h = full u _ h
  listed (suc fuel) q u (v ∷ vs) i f h =
      Memᴰ.append_right (pick (same u l) ([] ∷ []) [])
      (∈-onward (lists ok l fuel (suc q)) q u v vs (box l) (∈-box l v i.0)
      (listed fuel (suc q) v vs i.1 (le_of_suc-le-suc f) (and_right (ok q (ended vs) u v) (accepts ok l (suc q) v vs) h))
      (and_left (ok q (ended vs) u v) (accepts ok l (suc q) v vs) h))

  -- What is listed is accepted, has no more pages than the fuel, and stays inside.
  pub record Listed (fuel q : ℕ) (u : Place) (ps : List Place) : Type 0 where
    pub taken : accepts ok l q u ps ≡ true
    pub short : length ps ≤ fuel
    pub inside : AllInside l ps

  only_full : (fuel q : ℕ) (u : Place) (ps : List Place) → ps ∈ pick (same u l) ([] ∷ []) [] → Listed fuel q u ps
  unfolding accepts
  only_full fuel q u ps m = go (same u l) refl m
    where
      nil : same u l ≡ true → Listed fuel q u []
      nil h = record { taken = h; short = omega arith; inside = tt }

      one_list : same u l ≡ true → (ps ≡ []) ⊎ (ps ∈ []) → Listed fuel q u ps
      one_list h (inl e) = subst (λ x. Listed fuel q u x) (sym e) (nil h)
      one_list h (inr n) = absurd (Memᴰ.not-nil n)

      go : (b : Bool) → same u l ≡ b → ps ∈ pick b ([] ∷ []) [] → Listed fuel q u ps
      go true h n = one_list h (Memᴰ.cases_cons n)
      go false h n = absurd (Memᴰ.not-nil n)

  pub unlisted : (fuel q : ℕ) (u : Place) (ps : List Place) → ps ∈ lists ok l fuel q u → Listed fuel q u ps
  unfolding lists accepts
  unlisted zero q u ps m = only_full 0 q u ps m
  unlisted (suc fuel) q u ps m = go (Memᴰ.append_cases (pick (same u l) ([] ∷ []) []) m) (unlisted fuel (suc q))
    where
      page : (r : Onward (lists ok l fuel (suc q)) q u (box l) ps) → Listed fuel (suc q) r.page r.after
          → Listed (suc fuel) q u ps
      page r t =
          subst (λ x. Listed (suc fuel) q u x) (sym r.whole)
          (record {
            taken = and_both r.may t.taken;
            short = let s = t.short in omega arith;
            inside = (∈-unbox l r.page r.here, t.inside);
          })

      go : (ps ∈ pick (same u l) ([] ∷ []) []) ⊎ (ps ∈ onward ok (lists ok l fuel (suc q)) q u (box l))
          → ((v : Place) (vs : List Place) → vs ∈ lists ok l fuel (suc q) v → Listed fuel (suc q) v vs) → Listed (suc fuel) q u ps
      go (inl n) below = only_full (suc fuel) q u ps n
      go (inr n) below = let r = ∈-unonward (lists ok l fuel (suc q)) q u (box l) ps n in page r (below r.page r.after r.listed)
