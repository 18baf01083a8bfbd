-- A list of words is accepted exactly where it is the words of a member of "every valid list"; such a list has no more pages
-- than there are blocks.
use Rattle.std.specs.Prelude.{ℕ, suc, ◌+◌, ◌≤◌, ◌<◌, ◌≡◌, refl, ◌↔◌, Bool, true, false, length, eqb}
use native.Mathlib.Omega.{arith}
use Rattle.std.proofs.Math.Decide.{dec_le}
use Rattle.std.proofs.Math.Path.{sym, ap}
use Rattle.std.proofs.Common.{◌∙◌, subst, eqb-true, eq-eqb}
use Rattle.std.proofs.Math.Bool.{not}
use mathlib.Core.List.{List, [], ◌∷◌}
use Rattle.std.proofs.Math.ListN.{get_or, get_or-eq_default}
use Rattle.model.specs.Gather.{pick}
use Rattle.model.specs.Galley.{Galley, Place, count, streams, zeros, sizes, blocks}
use Rattle.model.specs.Answers.{Answer, refused, accepted, same, ended, judge, counted, counts_of, pages_of, words_of, marked}
use Rattle.model.specs.Best.{allowed, valid}
use Rattle.model.proofs.laws.Gather.{and_left, and_right, and_both, total_ext, length_row, row_at}
use Rattle.model.specs.laws.Rules.{placed}
use Rattle.model.proofs.laws.Rules.{kept, Forward, forward_at, placed_grows}
use Rattle.model.specs.laws.Judge.{accepts}
use Rattle.model.proofs.laws.Judge.{judge_accepts, judge_good}
use Rattle.model.specs.laws.Words.{Shaped}
use Rattle.model.proofs.laws.Words.{counted_at, length_pages, pages_shaped, words_pages, pages_words, counted_of}
use Rattle.model.specs.laws.Lists.{◌∈◌, Inside, AllInside}
use Rattle.model.proofs.laws.Lists.{∈-keep, ∈-kept, listed, unlisted}

-- The test for the same place is equality.
pub same_true : (u v : Place) → same u v ≡ true → u ≡ v
unfolding same
same_true [] [] h = refl
same_true [] (y ∷ v) h = let z : ◌≡◌ {A = ℕ} 0 1 = cc in absurd (omega arith)
same_true (x ∷ u) [] h = let z : ◌≡◌ {A = ℕ} 0 1 = cc in absurd (omega arith)
same_true (x ∷ u) (y ∷ v) h =
    let e = eqb-true x y (and_left (eqb x y) (same u v) h) in
    let t = same_true u v (and_right (eqb x y) (same u v) h) in
    cc

pub same_refl : (u : Place) → same u u ≡ true
unfolding same
same_refl [] = refl
same_refl (x ∷ u) = and_both (eq-eqb x x refl) (same_refl u)

module _ (g : Galley) where
  pub count_sizes : (s : ℕ) → s ≤ g.floats → count (sizes g) s ≡ (g.stream s).size
  unfolding count sizes streams
  count_sizes s h = row_at 0 (suc g.floats) (λ s. (g.stream s).size) s (omega arith) ∙ ap (λ i. (g.stream i).size) (zero_plus s)
    where
      zero_plus : (s : ℕ) → 0 + s ≡ s
      zero_plus s = omega arith

  pub count_zeros : (s : ℕ) → s ≤ g.floats → count (zeros g) s ≡ 0
  unfolding count zeros streams
  count_zeros s h = row_at 0 (suc g.floats) (λ s. 0) s (omega arith)

  -- Everything is placed at the full place.
  pub placed_sizes : placed g (sizes g) ≡ blocks g
  unfolding placed blocks
  placed_sizes = total_ext g.floats (count (sizes g)) (λ s. (g.stream s).size) count_sizes

  -- Each page places a block at least, so an accepted list has no more pages than blocks are left.
  pub pages_fit : (q : ℕ) (u : Place) (ps : List Place) → accepts (allowed g) (sizes g) q u ps ≡ true → placed g u + length ps ≤ blocks g
  unfolding accepts
  pages_fit q u [] h =
      let e = same_true u (sizes g) h in
      let p : placed g u ≡ blocks g = ap (placed g) e ∙ placed_sizes in
      omega arith
  pages_fit q u (v ∷ vs) h =
      let here = kept (and_left (allowed g q (ended vs) u v) (accepts (allowed g) (sizes g) (suc q) v vs) h) in
      let more = placed_grows g u v here.rule13 in
      let after = pages_fit (suc q) v vs (and_right (allowed g q (ended vs) u v) (accepts (allowed g) (sizes g) (suc q) v vs) h) in
      omega arith

  pub length_sizes : length (sizes g) ≡ streams g
  unfolding sizes
  length_sizes = length_row 0 (streams g) (λ s. (g.stream s).size)

  -- A place of the right length that a page goes forward to lies inside the full place.
  pub page_inside : (u v : Place) → length v ≡ streams g → Forward g u v → Inside (sizes g) v
  unfolding count streams
  page_inside u v long f = record { long = long ∙ sym length_sizes; under = λ i. go i (dec_le i g.floats) }
    where
      go : (i : ℕ) → Dec (i ≤ g.floats) → get_or v i 0 ≤ get_or (sizes g) i 0
      go i (yes h) = let t = f.top i h in let e = count_sizes i h in omega arith
      go i (no h) = rw (get_or-eq_default v 0 {n = i} (omega arith)) (omega arith)

  pub all_inside : (q : ℕ) (u : Place) (ps : List Place) → Shaped (streams g) ps → accepts (allowed g) (sizes g) q u ps ≡ true
      → AllInside (sizes g) ps
  unfolding accepts
  all_inside q u [] sh h = tt
  all_inside q u (v ∷ vs) sh h =
      let here = kept (and_left (allowed g q (ended vs) u v) (accepts (allowed g) (sizes g) (suc q) v vs) h) in (
        page_inside u v sh.0 (forward_at g u v here.rule13),
        all_inside (suc q) v vs sh.1 (and_right (allowed g q (ended vs) u v) (accepts (allowed g) (sizes g) (suc q) v vs) h),
      )

  pub inside_shaped : (ps : List Place) → AllInside (sizes g) ps → Shaped (streams g) ps
  inside_shaped [] i = tt
  inside_shaped (v ∷ vs) i = (i.0.long ∙ length_sizes, inside_shaped vs i.1)

  -- The rules accept the list: there is a page, each page keeps them, and the last ends at the full place.
  pub record Accepted (ps : List Place) : Type 0 where
    pub some : 0 < length ps
    pub shaped : Shaped (streams g) ps
    pub taken : accepts (allowed g) (sizes g) 1 (zeros g) ps ≡ true

  -- A valid list has at most as many pages as there are blocks: m + n.
  pub few_pages : (ps : List Place) → Accepted ps → length ps ≤ blocks g
  few_pages ps a = let h = pages_fit 1 (zeros g) ps a.taken in omega arith

  some_ended : (ps : List Place) → not (ended ps) ≡ true → 0 < length ps
  some_ended [] h = let z : ◌≡◌ {A = ℕ} 0 1 = cc in absurd (omega arith)
  some_ended (v ∷ vs) h = omega arith

  ended_some : (ps : List Place) → 0 < length ps → not (ended ps) ≡ true
  ended_some [] h = absurd (omega arith)
  ended_some (v ∷ vs) h = refl

  -- A list of places is among every valid list exactly where the rules accept it.
  pub valid_accepted : (ps : List Place) → (ps ∈ valid g) ↔ Accepted ps
  unfolding valid
  valid_accepted ps = (
    (λ m.
        let k = ∈-kept (λ ps. not (ended ps)) ps _ m in
        let r = unlisted (allowed g) (sizes g) _ 1 (zeros g) ps k.0 in
        record { some = some_ended ps k.1; shaped = inside_shaped ps r.inside; taken = r.taken }),
    (λ a.
        let few = few_pages ps a in
        ∈-keep (λ ps. not (ended ps)) ps _
        (listed (allowed g) (sizes g) _ 1 (zeros g) ps (all_inside 1 (zeros g) ps a.shaped a.taken) (omega arith) a.taken)
        (ended_some ps a.some)),
  )

  -- A list of words is accepted exactly where rule 12 holds and the rules accept its pages.
  pub record MarkAccepted (ws : List ℕ) : Type 0 where
    pub whole : counted g ws ≡ true
    pub pages : Accepted (pages_of g ws)

  picked : (b : Bool) (a : Answer) → accepted (pick b a (refused 12 0)) ≡ true → (b ≡ true) × (accepted a ≡ true)
  picked true a h = (refl, h)
  picked false a h = let z : ◌≡◌ {A = ℕ} 0 1 = cc in absurd (omega arith)

  pub marked_accepted : (ws : List ℕ) → (accepted (marked g ws) ≡ true) ↔ MarkAccepted ws
  unfolding marked counts_of
  marked_accepted ws = (out, into)
    where
      judged : Answer
      judged = judge g (counts_of g (pages_of g ws)) 1 (zeros g) (pages_of g ws)

      same_test : accepted judged ≡ accepts (allowed g) (sizes g) 1 (zeros g) (pages_of g ws)
      same_test = judge_accepts g (counts_of g (pages_of g ws)) 1 (zeros g) (pages_of g ws) refl

      out : accepted (pick (counted g ws) judged (refused 12 0)) ≡ true → MarkAccepted ws
      out h =
          let b = picked (counted g ws) judged h in
          let w = counted_at g ws b.0 in
          let l = length_pages g ws in
          let s = w.some in
          record {
            whole = b.0;
            pages = record { some = omega arith; shaped = pages_shaped g ws b.0; taken = sym same_test ∙ b.1 };
          }

      into : MarkAccepted ws → accepted (pick (counted g ws) judged (refused 12 0)) ≡ true
      into m = rw m.whole (same_test ∙ m.pages.taken)

  -- An accepted list is answered with the counts of its pages.
  pub marked_counts : (ws : List ℕ) → accepted (marked g ws) ≡ true → marked g ws ≡ counts_of g (pages_of g ws)
  unfolding marked
  marked_counts ws h =
      let b = picked (counted g ws) (judge g (counts_of g (pages_of g ws)) 1 (zeros g) (pages_of g ws)) h in
      rw b.0 (judge_good g (counts_of g (pages_of g ws)) 1 (zeros g) (pages_of g ws) b.1)

  -- The marking accepts the words of each valid list, and no other words.
  pub accepted_valid : (ws : List ℕ) → (accepted (marked g ws) ≡ true) ↔ ((ps : List Place) × (ps ∈ valid g) × (words_of ps ≡ ws))
  accepted_valid ws = (out, into)
    where
      out : accepted (marked g ws) ≡ true → (ps : List Place) × (ps ∈ valid g) × (words_of ps ≡ ws)
      out h =
          let m = (marked_accepted ws).0 h in
          (pages_of g ws, (valid_accepted (pages_of g ws)).1 m.pages, words_pages g ws m.whole)

      words : (ps : List Place) → ps ∈ valid g → accepted (marked g (words_of ps)) ≡ true
      words ps m =
          let a = (valid_accepted ps).0 m in
          (marked_accepted (words_of ps)).1
          (record {
            whole = counted_of g ps a.shaped a.some (few_pages ps a);
            pages = subst (λ x. Accepted x) (sym (pages_words g ps a.shaped)) a;
          })

      into : ((ps : List Place) × (ps ∈ valid g) × (words_of ps ≡ ws)) → accepted (marked g ws) ≡ true
      into r = subst (λ x. accepted (marked g x) ≡ true) r.2 (words r.0 r.1)
