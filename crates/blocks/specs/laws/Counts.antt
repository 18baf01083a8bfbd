-- The words of a page: what the page model says over all streams, said of lines, figures and tables. Here alone it is asked whether
-- there are tables; without them the tables' part of a test holds, and of a sum is nothing, since there is no table.
use Prim.Native.Nat.{ℕ, zero, suc, ◌+◌, ◌≤◌, ◌<◌}
use native.Mathlib.Omega.{arith}
use Rattle.std.specs.Prelude.{◌≡◌, Bool, ◌&&◌, take, drop}
use Rattle.std.proofs.Math.Path.{refl, sym}
use Rattle.std.proofs.Common.{◌∙◌, ap, drop-cons}
use Rattle.std.proofs.Math.Bool.{true, false}
use mathlib.Core.List.{List, [], ◌∷◌}
use Rattle.std.proofs.Math.ListN.{length, get_or}
use Rattle.std.proofs.Math.Dec.{eqb}
use borrow.Author.Tests.{eqb-true, eq-eqb}
use Rattle.model.specs.Gather.{pick, sum, total, each, row}
use Rattle.model.specs.Galley.{count, streams, zeros, sizes, blocks}
use Rattle.model.specs.Answers.{same}
use Rattle.galley.specs.declared.Galley.{Galley}
use Rattle.galley.specs.Model.{float_streams, model_of}
use Rattle.blocks.specs.declared.Counts.{Counts}
use Rattle.blocks.specs.Counts.{page_words, place_of, counts_in, no_counts, all_counts, Proper, Within}

and_true : (a : Bool) → (a && true) ≡ a
and_true true = refl
and_true false = refl

-- Of two numbers that follow each other, whichever it is lies between them.
between : (b : Bool) (n : ℕ) → (n ≤ pick b n (suc n)) × (pick b n (suc n) ≤ suc n)
between true n = (omega arith, omega arith)
between false n = (omega arith, omega arith)

module _ (g : Galley) where
  -- A test of each float stream is one of the figures and one of the tables, where it holds without tables,
  pub each_floats : (f : ℕ → Bool) → (g.tables.count ≡ 0 → f 2 ≡ true) → each (float_streams g) f ≡ (f 1 && f 2)
  unfolding float_streams each
  each_floats f none = go (eqb g.tables.count 0) refl
    where
      go : (b : Bool) → eqb g.tables.count 0 ≡ b → each (pick b 1 2) f ≡ (f 1 && f 2)
      go true e = rw (none (eqb-true _ _ e)) (sym (and_true (f 1)))
      go false e = refl

  -- and a sum over them has two parts, where without tables theirs is nothing.
  pub sum_floats : (f : ℕ → ℕ) → (g.tables.count ≡ 0 → f 2 ≡ 0) → sum (float_streams g) f ≡ f 1 + f 2
  unfolding float_streams sum
  sum_floats f none = go (eqb g.tables.count 0) refl
    where
      go : (b : Bool) → eqb g.tables.count 0 ≡ b → sum (pick b 1 2) f ≡ f 1 + f 2
      go true e = let z = none (eqb-true _ _ e) in omega arith
      go false e = omega arith

  -- A table that there is belongs to a stream that there is.
  pub table_known : (k : ℕ) → 1 ≤ k → k ≤ g.tables.count → 2 ≤ float_streams g
  unfolding float_streams
  table_known k some last = go (eqb g.tables.count 0) refl
    where
      go : (b : Bool) → eqb g.tables.count 0 ≡ b → 2 ≤ pick b 1 2
      go true e = let z = eqb-true g.tables.count 0 e in absurd (omega arith)
      go false e = omega arith

  -- The figures' stream is always there.
  pub floats_some : 1 ≤ float_streams g
  unfolding float_streams
  floats_some = (between (eqb g.tables.count 0) 1).0

  pub floats_few : float_streams g ≤ 2
  unfolding float_streams
  floats_few = (between (eqb g.tables.count 0) 1).1

  -- A page has two words or three.
  pub words_least : 2 ≤ page_words g
  words_least = (between (eqb g.tables.count 0) 2).0

  pub words_most : page_words g ≤ 3
  words_most = (between (eqb g.tables.count 0) 2).1

  module _ (bytes : List ℕ) where
    -- A page has a word for each stream.
    pub streams_of_lem : streams (model_of bytes g) ≡ page_words g
    unfolding streams float_streams
    streams_of_lem = go (eqb g.tables.count 0)
      where
        go : (b : Bool) → suc (pick b 1 2) ≡ pick b 2 3
        go true = refl
        go false = refl

    -- The place before the first page.
    pub zeros_of : zeros (model_of bytes g) ≡ place_of g no_counts
    unfolding zeros streams float_streams row place_of
    zeros_of = go (eqb g.tables.count 0)
      where
        go : (b : Bool) → row 0 (suc (pick b 1 2)) (λ s. 0) ≡ 0 ∷ 0 ∷ pick b [] (0 ∷ [])
        go true = refl
        go false = refl

    -- The full place.
    pub sizes_of : sizes (model_of bytes g) ≡ place_of g (all_counts g)
    unfolding sizes streams float_streams row place_of
    sizes_of = go (eqb g.tables.count 0)
      where
        go : (b : Bool)
            → row 0 (suc (pick b 1 2)) (λ s. ((model_of bytes g).stream s).size)
            ≡ g.text.count ∷ g.figures.count ∷ pick b [] (g.tables.count ∷ [])
        go true = refl
        go false = refl

    -- All blocks are lines, figures and tables.
    pub blocks_of : blocks (model_of bytes g) ≡ g.text.count + g.figures.count + g.tables.count
    unfolding blocks total
    blocks_of = let floats = sum_floats (λ s. ((model_of bytes g).stream s).size) (λ none. none) in omega arith

  -- The counts of a place.
  pub count_lines : (c : Counts) → count (place_of g c) 0 ≡ c.lines
  unfolding count place_of
  count_lines c = refl

  pub count_figures : (c : Counts) → count (place_of g c) 1 ≡ c.figures
  unfolding count place_of
  count_figures c = refl

  pub count_tables : (c : Counts) → Proper g c → count (place_of g c) 2 ≡ c.tables
  unfolding count place_of
  count_tables c proper = go (eqb g.tables.count 0) refl
    where
      go : (b : Bool) → eqb g.tables.count 0 ≡ b → get_or (c.lines ∷ c.figures ∷ pick b [] (c.tables ∷ [])) 2 0 ≡ c.tables
      go true e = sym (proper (eqb-true _ _ e))
      go false e = refl

  -- It has as many as a page has words,
  pub length_of : (c : Counts) → length (place_of g c) ≡ page_words g
  unfolding place_of
  length_of c = go (eqb g.tables.count 0)
    where
      go : (b : Bool) → length (c.lines ∷ c.figures ∷ pick b [] (c.tables ∷ [])) ≡ pick b 2 3
      go true = refl
      go false = refl

  -- and one place is under another where its counts are.
  pub under_of : (u v : Counts) → u.lines ≤ v.lines → u.figures ≤ v.figures → u.tables ≤ v.tables
      → (s : ℕ) → count (place_of g u) s ≤ count (place_of g v) s
  unfolding count place_of
  under_of u v lines figures tables zero = lines
  under_of u v lines figures tables (suc zero) = figures
  under_of u v lines figures tables (suc (suc s)) = go (eqb g.tables.count 0) s
    where
      go : (b : Bool) (s : ℕ) → get_or (pick b [] (u.tables ∷ [])) s 0 ≤ get_or (pick b [] (v.tables ∷ [])) s 0
      go true s = omega arith
      go false zero = tables
      go false (suc s) = omega arith

  -- What is within the galley is a proper count.
  pub within_proper : {c : Counts} → Within g c → Proper g c
  within_proper w none = omega (arith, w.tables)

  -- Two places are the same where their counts are.
  pub same_of : (bytes : List ℕ) (c : Counts) → Proper g c
      → same (place_of g c) (sizes (model_of bytes g))
      ≡ (eqb c.lines g.text.count && (eqb c.figures g.figures.count && eqb c.tables g.tables.count))
  unfolding same place_of
  same_of bytes c proper = rw (sizes_of bytes) (go (eqb g.tables.count 0) refl)
    where
      go : (b : Bool) → eqb g.tables.count 0 ≡ b
          → same (c.lines ∷ c.figures ∷ pick b [] (c.tables ∷ []))
          (g.text.count ∷ g.figures.count ∷ pick b [] (g.tables.count ∷ []))
          ≡ (eqb c.lines g.text.count && (eqb c.figures g.figures.count && eqb c.tables g.tables.count))
      go true e =
          let none = eqb-true _ _ e in
          rw (eq-eqb c.tables g.tables.count (proper none ∙ sym none))
      go false e = rw (and_true (eqb c.tables g.tables.count))

  -- The words of a page at the front of a list are the place that they say.
  pub take_of : (ws : List ℕ) (at : ℕ) → at + page_words g ≤ length ws → take (page_words g) (drop at ws) ≡ place_of g (counts_in g ws at)
  unfolding place_of counts_in
  take_of ws at long = go (eqb g.tables.count 0) long
    where
      one : suc at ≡ at + 1
      one = omega arith

      two : suc (at + 1) ≡ at + 2
      two = omega arith

      first : at < length ws → drop at ws ≡ get_or ws at 0 ∷ drop (at + 1) ws
      first l = drop-cons ws at 0 l ∙ ap (λ n. get_or ws at 0 ∷ drop n ws) one

      second : at + 1 < length ws → drop (at + 1) ws ≡ get_or ws (at + 1) 0 ∷ drop (at + 2) ws
      second l = drop-cons ws (at + 1) 0 l ∙ ap (λ n. get_or ws (at + 1) 0 ∷ drop n ws) two

      go : (b : Bool) → at + pick b 2 3 ≤ length ws
          → take (pick b 2 3) (drop at ws)
          ≡ get_or ws at 0 ∷ get_or ws (at + 1) 0 ∷ pick b [] (pick b 0 (get_or ws (at + 2) 0) ∷ [])
      go true l = rw (first (omega arith), second (omega arith))
      go false l = rw (first (omega arith), second (omega arith), drop-cons ws (at + 2) 0 (omega arith))

  -- Without tables they say none.
  pub in_proper : (ws : List ℕ) (at : ℕ) → Proper g (counts_in g ws at)
  unfolding counts_in
  in_proper ws at none = rw (eq-eqb _ _ none)
