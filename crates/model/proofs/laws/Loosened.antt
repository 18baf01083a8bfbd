-- With a lower htMin valid lists only grow: whatever was accepted is accepted, with the same numbers (document 02, S-14).
use Rattle.std.specs.Prelude.{ℕ, suc, ◌+◌, ◌%◌, ◌≤◌, Bool, length, eqb}
use Rattle.std.proofs.Common.{arith, ◌∙◌}
use Rattle.std.proofs.Math.Path.{◌≡◌, refl, sym, ap}
use Rattle.std.proofs.Math.Bool.{true, false}
use mathlib.Core.List.{List, [], ◌∷◌}
use Rattle.std.proofs.Math.Option.{none, some}
use borrow.Author.Tests.{leb-true, le-leb}
use Rattle.model.specs.Gather.{pick}
use Rattle.model.specs.Galley.{Galley, Place, streams, zeros, sizes, blocks}
use Rattle.model.specs.Height.{kinds, height, tightest, loosest}
use Rattle.model.specs.Rules.{forward, closes, fits, fills, cited}
use Rattle.model.specs.Turns.{apart, x_of, y_of, turns}
use Rattle.model.specs.White.{white_on, whites, white}
use Rattle.model.specs.Answers.{counted_as, refused, accepted, ended, counted, counts_of, pages_of, marked}
use Rattle.model.specs.Best.{allowed, valid}
use Rattle.model.specs.Opening.{pages_turned, opening_turned}
use Rattle.model.specs.Loosened.{with_htmin}
use Rattle.model.proofs.laws.Gather.{and_left, and_right, and_both}
use Rattle.model.specs.laws.Rules.{Kept}
use Rattle.model.proofs.laws.Rules.{kept, kept_allowed}
use Rattle.model.specs.laws.Judge.{accepts}
use Rattle.model.specs.laws.Lists.{◌∈◌}
use Rattle.model.proofs.laws.Valid.{Accepted, valid_accepted, MarkAccepted, marked_accepted, marked_counts}

module _ (g : Galley) (h : ℕ) (low : h ≤ g.spec.htmin) where
  -- A page that is not too low by the higher htMin is not so by the lower, and the last page is held to what it was held to.
  fills_loosened : (last : Bool) (u v : Place) → fills g last u v ≡ true → fills (with_htmin h g) last u v ≡ true
  unfolding fills loosest height kinds
  fills_loosened true u v f = f
  fills_loosened false u v f = let b = leb-true g.spec.htmin (loosest g u v) f in le-leb h (loosest g u v) (omega arith)

  -- Every other rule is the same, so that a page that is allowed stays allowed.
  kept_loosened : (q : ℕ) (last : Bool) (u v : Place) → Kept g q last u v → Kept (with_htmin h g) q last u v
  unfolding forward closes fits tightest height kinds cited
  kept_loosened q last u v k =
      record {
        rule13 = k.rule13;
        rule14 = k.rule14;
        rule15 = k.rule15;
        rule16 = fills_loosened last u v k.rule16;
        rule17 = k.rule17;
      }

  allowed_loosened : (q : ℕ) (last : Bool) (u v : Place) → allowed g q last u v ≡ true → allowed (with_htmin h g) q last u v ≡ true
  allowed_loosened q last u v a = kept_allowed (kept_loosened q last u v (kept a))

  accepts_loosened : (q : ℕ) (u : Place) (ps : List Place) → accepts (allowed g) (sizes g) q u ps ≡ true
      → accepts (allowed (with_htmin h g)) (sizes g) q u ps ≡ true
  unfolding accepts
  accepts_loosened q u [] a = a
  accepts_loosened q u (v ∷ vs) a =
      let ok = allowed g q (ended vs) u v in
      let after = accepts (allowed g) (sizes g) (suc q) v vs in
      and_both (allowed_loosened q (ended vs) u v (and_left ok after a)) (accepts_loosened (suc q) v vs (and_right ok after a))

  accepted_loosened : (ps : List Place) → Accepted g ps → Accepted (with_htmin h g) ps
  unfolding sizes zeros streams
  accepted_loosened ps a = record { some = a.some; shaped = a.shaped; taken = accepts_loosened 1 (zeros g) ps a.taken }

  -- Valid lists only grow.
  pub valid_loosened : (ps : List Place) → ps ∈ valid g → ps ∈ valid (with_htmin h g)
  valid_loosened ps m = (valid_accepted (with_htmin h g) ps).1 (accepted_loosened ps ((valid_accepted g ps).0 m))

  -- A list leaves the same white by either,
  whites_loosened : (u : Place) (ps : List Place) → whites (with_htmin h g) u ps ≡ whites g u ps
  unfolding whites white_on loosest height kinds
  whites_loosened u [] = refl
  whites_loosened u (v ∷ []) = refl
  whites_loosened u (v ∷ (w ∷ ws)) = ap (λ x. white_on g u v + x) (whites_loosened v (w ∷ ws))

  -- and has the same counts.
  counts_loosened : (ps : List Place) → counts_of (with_htmin h g) ps ≡ counts_of g ps
  unfolding counts_of x_of y_of turns apart white zeros streams
  counts_loosened ps = ap (λ x. counted_as (length ps) (x_of g ps) (y_of g ps) (turns g ps) x) (whites_loosened (zeros g) ps)

  -- Marking accepts for the lower htMin every list that it accepts for the higher, with the same numbers.
  pub marked_loosened : (ws : List ℕ) → accepted (marked g ws) ≡ true → marked (with_htmin h g) ws ≡ marked g ws
  unfolding pages_of streams counted blocks
  marked_loosened ws a =
      let m = (marked_accepted g ws).0 a in
      let m' : MarkAccepted (with_htmin h g) ws = record { whole = m.whole; pages = accepted_loosened (pages_of g ws) m.pages } in
      marked_counts (with_htmin h g) ws ((marked_accepted (with_htmin h g) ws).1 m')
      ∙ counts_loosened (pages_of g ws)
      ∙ sym (marked_counts g ws a)

  turned_loosened : (q : ℕ) (u : Place) (ps : List Place) → pages_turned g q u ps ≡ none → pages_turned (with_htmin h g) q u ps ≡ none
  unfolding pages_turned sizes streams
  turned_loosened q u [] e = e
  turned_loosened q u (v ∷ vs) e = go (allowed g q false u v) refl e (turned_loosened (suc q) v vs)
    where
      go : (b : Bool) → allowed g q false u v ≡ b → pick b (pages_turned g (suc q) v vs) (some (refused 20 q)) ≡ none
          → (pages_turned g (suc q) v vs ≡ none → pages_turned (with_htmin h g) (suc q) v vs ≡ none)
          → pick (allowed (with_htmin h g) q false u v) (pages_turned (with_htmin h g) (suc q) v vs) (some (refused 20 q)) ≡ none
      go true ok e after = rw (allowed_loosened q false u v ok) (after e)
      go false ok e after = let z : ◌≡◌ {A = ℕ} 0 1 = cc in absurd (omega arith)

  -- An opening that nothing turns away by the higher htMin is not turned away by the lower.
  pub standing_loosened : (ws : List ℕ) → opening_turned g ws ≡ none → opening_turned (with_htmin h g) ws ≡ none
  unfolding opening_turned zeros streams pages_of
  standing_loosened ws = go (eqb (length ws % streams g) 0)
    where
      go : (whole : Bool) → pick whole (pages_turned g 1 (zeros g) (pages_of g ws)) (some (refused 20 0)) ≡ none
          → pick whole (pages_turned (with_htmin h g) 1 (zeros g) (pages_of g ws)) (some (refused 20 0)) ≡ none
      go true e = turned_loosened 1 (zeros g) (pages_of g ws) e
      go false e = e
