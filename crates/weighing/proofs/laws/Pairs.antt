-- The pages from one column to another: none from a column that is not under the end's or has too tall floats between; else those of the
-- pairs of lines, and the floats alone after any number of lines.
use Rattle.std.specs.Prelude.{ℕ, zero, suc, ◌+◌, ◌-◌, ◌≤◌, ◌<◌, ◌≡◌, Bool, true, false, ◌&&◌, leb}
use Rattle.std.proofs.Common.{le_refl, sym, ◌∙◌, inl, inr}
use Rattle.std.proofs.Math.Decide.{dec_le, dec_lt}
use native.Mathlib.Omega.{arith}
use Rattle.std.proofs.Math.Path.{refl, ap}
use Rattle.std.proofs.Math.Dec.{eqb}
use borrow.Author.Tests.{lt-ltb, le-ltb, lt-leb, le-leb, leb-true, eq-eqb, ne_eqb, eqb-true}
use Rattle.model.specs.Gather.{one, total}
use Rattle.model.specs.Galley.{Galley, Place}
use Rattle.model.specs.Height.{stacked, tightest}
use Rattle.model.specs.Rules.{forward, fits}
use Rattle.model.specs.Weighed.{weighs, past}
use Rattle.model.proofs.laws.Gather.{and_left, and_right, and_both, sum_add, sum_zero, total_ext}
use Rattle.model.specs.laws.Boxes.{below}
use Rattle.model.proofs.laws.Boxes.{width}
use Rattle.model.specs.laws.Lists.{Inside}
use Rattle.places.specs.Columns.{columns, float_sizes, place_at}
use Rattle.places.specs.Order.{Earlier}
use Rattle.places.proofs.laws.Columns.{inside_all, inside_cons, inside_tail}
use Rattle.places.proofs.laws.Places.{place_inside, forward_inside, forward_earlier, line_at, column_at}
use Rattle.candidates.specs.Beside.{Under, beside, alone}
use Rattle.candidates.proofs.laws.Heights.{height_lines, height_alone, forward_under, beside_none, fits_later}
use Rattle.weighing.specs.Columns.{pairs_from}
use Rattle.weighing.specs.Lines.{lines_fit, pairs_to, line_pairs}

-- Columns that add nothing may be passed over.
pub below_past : (n d : ℕ) (f : ℕ → ℕ) → ((x : ℕ) → n ≤ x → x < n + d → f x ≡ 0) → below (n + d) f ≡ below n f
unfolding below
below_past n zero f none = let e : n + 0 ≡ n = omega arith in rw e refl
below_past n (suc d) f none =
    let e : n + suc d ≡ suc (n + d) = omega arith in
    let rest = below_past n d f (λ x l h. none x l (omega arith)) in
    let last = none (n + d) (omega arith) (omega arith) in
    rw e (omega arith)

not-true : (t : Bool) → (t ≡ true → ⊥) → t ≡ false
not-true true n = absurd (n refl)
not-true false n = refl

total_zero : (n : ℕ) → total n (λ k. 0) ≡ 0
unfolding total
total_zero n = omega (arith, sum_zero n)

total_add : (n : ℕ) (f h : ℕ → ℕ) → total n (λ k. f k + h k) ≡ total n f + total n h
unfolding total
total_add n f h = omega (arith, sum_add n f h)

module _ (g : Galley) (first : Place) where
  abbrev lines : ℕ
  lines = (g.stream 0).size

  abbrev wide : ℕ
  wide = columns (float_sizes g)

  -- What a page has beside its lines at its tightest.
  abbrev more : ℕ → ℕ → ℕ
  more b q = beside g (λ st. st.least) g.spec.smin b q

  -- What a page that is weighed has: its start is no later than its end in any stream, and earlier.
  record Weighs (a b i q : ℕ) : Type 0 where
    line : a ≤ i
    under : Under g b q
    earlier : Earlier a b i q
    fit : fits g (place_at g a b) (place_at g i q) ≡ true

  module _ (b q : ℕ) (from : b < wide) (to : q < wide) where
    weighs_at : (a i : ℕ) → a ≤ lines → i ≤ lines → weighs g (place_at g a b) (place_at g i q) ≡ true → Weighs a b i q
    unfolding weighs
    weighs_at a i h k w =
        let u = place_at g a b in
        let v = place_at g i q in
        let f = and_left (forward g u v) (fits g u v) w in
        let start = place_inside g a b h from in
        let end = place_inside g i q k to in
        let inside = forward_inside g u v start end f in
        let early = (forward_earlier g u v start end f).2 in
        record {
          line = unfold place_at in inside.under 0;
          under = unfold place_at in inside_tail i a _ _ inside;
          earlier = rw (column_at g a b from, column_at g i q to, line_at g a b, line_at g i q) at early;
          fit = and_right (forward g u v) (fits g u v) w;
        }

    -- No page, no pair.
    pairs_none : ((a i : ℕ) → Weighs a b i q → ⊥) → pairs_from g first b q ≡ 0
    unfolding pairs_from
    pairs_none none =
        total_ext lines _ _
        (λ i k.
        total_ext lines _ _
        (λ a h.
        ap one
        (not-true (past g first (place_at g a b) && weighs g (place_at g a b) (place_at g i q))
        (λ w. none a i (weighs_at a i h k (and_right (past g first (place_at g a b)) _ w)))))
        ∙ total_zero lines)
        ∙ total_zero lines

    -- A column that is not past the first place has none,
    pub pairs_not_past : ((a : ℕ) → past g first (place_at g a b) ≡ false) → pairs_from g first b q ≡ 0
    unfolding pairs_from
    pairs_not_past short =
        total_ext lines _ _
        (λ i k.
        total_ext lines _ _ (λ a h. ap (λ t. one (t && weighs g (place_at g a b) (place_at g i q))) (short a))
        ∙ total_zero lines)
        ∙ total_zero lines

    -- nor has one that is not under the end,
    pub pairs_not_under : (Under g b q → ⊥) → pairs_from g first b q ≡ 0
    pairs_not_under over = pairs_none (λ a i w. over w.under)

    -- or that is under a column whose floats alone are too tall.
    pub pairs_too_tall : (c : ℕ) → Under g c q → g.spec.htmax < alone g (λ st. st.least) g.spec.smin c q
        → (Under g b q → Under g b c) → pairs_from g first b q ≡ 0
    unfolding fits tightest
    pairs_too_tall c under tall below =
        pairs_none
        (λ a i w.
        let back : Inside (place_at g i c) (place_at g a b) = unfold place_at in inside_cons i a _ _ w.line (below w.under) in
        let page : Inside (place_at g i q) (place_at g i c) = unfold place_at in inside_cons i i _ _ (le_refl i) under in
        let fit = fits_later g (place_at g i c) (place_at g a b) (place_at g i q) back page w.fit in
        let low = leb-true (tightest g (place_at g i c) (place_at g i q)) g.spec.htmax fit in
        let e = height_alone g (λ st. st.least) g.spec.smin c i q in
        omega arith)

    -- A page of lines goes by their heights.
    weighs_lines : (a i : ℕ) → i ≤ lines → a < i → Under g b q → Earlier a b i q
        → weighs g (place_at g a b) (place_at g i q)
        ≡ lines_fit (g.stream 0) (beside g (λ st. st.least) g.spec.smin b q) g.spec.htmax i a
    unfolding weighs fits tightest
    weighs_lines a i k l under early =
        let f = forward_under g i q k to a b (omega arith) from under early in
        let t = height_lines g (λ st. st.least) g.spec.smin a b i q l in
        rw (f, t, lt-ltb a i l) refl

    -- After the same line or a later one there is no page of lines.
    lines_none : (a i beside : ℕ) → i ≤ a → lines_fit (g.stream 0) beside g.spec.htmax i a ≡ false
    lines_none a i beside l = ap (λ t. t && leb (stacked (g.stream 0) (g.stream 0).least a i + beside) g.spec.htmax) (le-ltb a i l)

    -- A page of floats alone goes by theirs.
    weighs_alone : (i : ℕ) → i ≤ lines → b < q → Under g b q → alone g (λ st. st.least) g.spec.smin b q ≤ g.spec.htmax
        → weighs g (place_at g i b) (place_at g i q) ≡ true
    unfolding weighs fits tightest
    weighs_alone i k before under short =
        and_both (forward_under g i q k to i b (le_refl i) from under (inl before))
        (le-leb (tightest g (place_at g i b) (place_at g i q)) g.spec.htmax (omega (arith, height_alone g (λ st. st.least) g.spec.smin b i q)))

  -- From a column past the first place the starts are the lines from its line on.
  module _ (line : ℕ) where
    -- Within a column there are the pairs of lines alone.
    pub pairs_own : (q : ℕ) → q < wide → ((a : ℕ) → past g first (place_at g a q) ≡ leb line a)
        → pairs_from g first q q ≡ line_pairs (g.stream 0) line 0 g.spec.htmax lines
    unfolding pairs_from line_pairs
    pairs_own q to past_at =
        total_ext lines _ _
        (λ i k.
        total_ext lines _ _
        (λ a h.
        ap (λ t. one (t && weighs g (place_at g a q) (place_at g i q))) (past_at a)
        ∙ ap (λ t. one (leb line a && t)) (each a i h k (dec_lt a i))))
      where
        none : (a i : ℕ) → i ≤ a → Weighs a q i q → ⊥
        none a i l w = go w.earlier
          where
            go : Earlier a q i q → ⊥
            go (inl m) = omega arith
            go (inr (e, m)) = omega arith

        each : (a i : ℕ) → a ≤ lines → i ≤ lines → Dec (a < i)
            → weighs g (place_at g a q) (place_at g i q) ≡ lines_fit (g.stream 0) 0 g.spec.htmax i a
        each a i h k (yes l) =
            weighs_lines q q to to a i k l (inside_all _) (inr (refl, l))
            ∙ ap (λ n. lines_fit (g.stream 0) n g.spec.htmax i a) (beside_none g (λ st. st.least) g.spec.smin q)
        each a i h k (no l) =
            not-true (weighs g (place_at g a q) (place_at g i q)) (λ w. none a i (omega arith) (weighs_at q q to to a i h k w))
            ∙ sym (lines_none q q to to a i 0 (omega arith))

    -- From an earlier column under the end whose floats are not too tall there is besides the page of floats alone after each line.
    pub pairs_some : (b q : ℕ) → q < wide → b < q → Under g b q → alone g (λ st. st.least) g.spec.smin b q ≤ g.spec.htmax
        → line ≤ lines → ((a : ℕ) → past g first (place_at g a b) ≡ leb line a)
        → pairs_from g first b q
        ≡ line_pairs (g.stream 0) line (beside g (λ st. st.least) g.spec.smin b q) g.spec.htmax lines + (lines - line + 1)
    unfolding pairs_from line_pairs
    pairs_some b q to before under short within past_at =
        total_ext lines _ (λ i. pairs_to (g.stream 0) line (more b q) g.spec.htmax lines i + one (leb line i)) (λ i k.
        total_ext lines _ (λ a. one (leb line a && lines_fit (g.stream 0) (more b q) g.spec.htmax i a) + one (leb line a && eqb a i)) (λ a h.
        ap (λ t. one (t && weighs g (place_at g a b) (place_at g i q))) (past_at a)
        ∙ split (leb line a) (weighs g (place_at g a b) (place_at g i q)) (lines_fit (g.stream 0) (more b q) g.spec.htmax i a) (eqb a i)
        (each a i h k (dec_lt a i) (dec_lt i a)))
        ∙ total_add lines (λ a. one (leb line a && lines_fit (g.stream 0) (more b q) g.spec.htmax i a)) (λ a. one (leb line a && eqb a i))
        ∙ ap (λ n. pairs_to (g.stream 0) line (more b q) g.spec.htmax lines i + n) (once i k (dec_le line i)))
        ∙ total_add lines (pairs_to (g.stream 0) line (more b q) g.spec.htmax lines) (λ i. one (leb line i))
        ∙ ap (λ n. total lines (pairs_to (g.stream 0) line (more b q) g.spec.htmax lines) + n) starts
      where
        from : b < wide
        from = omega arith

        split : (p x y z : Bool) → one x ≡ one y + one z → one (p && x) ≡ one (p && y) + one (p && z)
        split true x y z e = e
        split false x y z e = omega arith

        -- So many lines may come before the floats.
        starts : total lines (λ i. one (leb line i)) ≡ lines - line + 1
        starts =
            width lines line (suc lines) (λ i. leb line i) (omega arith) (le_refl _) (λ i l. lt-leb line i l) (λ i l h. le-leb line i l)
            (λ i l h. absurd (omega arith))
            ∙ omega arith

        once : (i : ℕ) → i ≤ lines → Dec (line ≤ i) → total lines (λ a. one (leb line a && eqb a i)) ≡ one (leb line i)
        once i k (yes l) =
            width lines i (suc i) (λ a. leb line a && eqb a i) (omega arith) (omega arith)
            (λ a m. not-true (leb line a && eqb a i) (λ t. omega (arith, eqb-true a i (and_right (leb line a) (eqb a i) t))))
            (λ a m h. and_both (le-leb line a (omega arith)) (eq-eqb a i (omega arith)))
            (λ a m h. not-true (leb line a && eqb a i) (λ t. omega (arith, eqb-true a i (and_right (leb line a) (eqb a i) t))))
            ∙ rw (le-leb line i l) (omega arith)
        once i k (no l) =
            width lines 0 0 (λ a. leb line a && eqb a i) (le_refl 0) (omega arith) (λ a m. absurd (omega arith)) (λ a m h. absurd (omega arith))
            (λ a m h.
            not-true (leb line a && eqb a i)
            (λ t. omega (arith, leb-true line a (and_left (leb line a) (eqb a i) t), eqb-true a i (and_right (leb line a) (eqb a i) t))))
            ∙ rw (lt-leb line i (omega arith)) (omega arith)

        each : (a i : ℕ) → a ≤ lines → i ≤ lines → Dec (a < i) → Dec (i < a)
            → one (weighs g (place_at g a b) (place_at g i q)) ≡ one (lines_fit (g.stream 0) (more b q) g.spec.htmax i a) + one (eqb a i)
        each a i h k (yes l) d =
            let page = ap one (weighs_lines b q from to a i k l under (inl before)) in
            let apart = ap one (ne_eqb a i (λ e. omega arith)) in
            omega arith
        each a i h k (no l) (yes n) =
            let none = ap one (not-true (weighs g (place_at g a b) (place_at g i q)) (λ w. let p = weighs_at b q from to a i h k w in omega (arith, p.line))) in
            let short = ap one (lines_none b q from to a i (more b q) (omega arith)) in
            let apart = ap one (ne_eqb a i (λ e. omega arith)) in
            omega arith
        each a i h k (no l) (no n) =
            let e : a ≡ i = omega arith in
            let page : one (weighs g (place_at g a b) (place_at g i q)) ≡ 1 = rw e (ap one (weighs_alone b q from to i k before under short)) in
            let short = ap one (lines_none b q from to a i (more b q) (omega arith)) in
            let same = ap one (eq-eqb a i e) in
            omega arith
