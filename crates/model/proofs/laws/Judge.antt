-- The marking accepts a list exactly where each page is allowed and the last ends at the full place.
use Rattle.std.specs.Prelude.{ℕ, zero, suc, pred, ◌≡◌, refl, Bool, true, false, ◌&&◌, List, [], ◌∷◌, eqb}
use Rattle.std.proofs.Common.{arith, ◌∙◌, ap}
use Rattle.std.proofs.Math.Dec.{eqb-suc-zero}
use Rattle.model.specs.Gather.{pick}
use Rattle.model.specs.Galley.{Galley, Place, sizes}
use Rattle.model.specs.Rules.{broken}
use Rattle.model.specs.Answers.{Answer, refused, accepted, same, ended, refuse, judge}
use Rattle.model.specs.Best.{allowed}
use Rattle.model.specs.laws.Judge.{accepts}

accepted_pick : (b : Bool) (good : Answer) (n at : ℕ) → accepted good ≡ true → accepted (pick b good (refused n at)) ≡ b
accepted_pick true good n at h = h
accepted_pick false good n at h = refl

accepted_refuse : (n q : ℕ) (after : Answer) → accepted (refuse n q after) ≡ eqb n 0 && accepted after
unfolding refuse
accepted_refuse zero q after = refl
accepted_refuse (suc n) q after = simp (eqb-suc-zero n)

-- Judging page by page accepts exactly what the rules allow.
pub judge_accepts : (g : Galley) (good : Answer) (q : ℕ) (u : Place) (ps : List Place) → accepted good ≡ true
    → accepted (judge g good q u ps) ≡ accepts (allowed g) (sizes g) q u ps
unfolding judge accepts allowed
judge_accepts g good q u [] h = accepted_pick (same u (sizes g)) good 18 (pred q) h
judge_accepts g good q u (v ∷ vs) h =
    accepted_refuse (broken g q (ended vs) u v) q (judge g good (suc q) v vs)
    ∙ ap (λ b. eqb (broken g q (ended vs) u v) 0 && b) (judge_accepts g good (suc q) v vs h)

-- What is accepted keeps the answer that it was judged for.
pub judge_good : (g : Galley) (good : Answer) (q : ℕ) (u : Place) (ps : List Place)
    → accepted (judge g good q u ps) ≡ true → judge g good q u ps ≡ good
unfolding judge refuse
judge_good g good q u [] h = go (same u (sizes g)) h
  where
    go : (b : Bool) → accepted (pick b good (refused 18 (pred q))) ≡ true → pick b good (refused 18 (pred q)) ≡ good
    go true h = refl
    go false h = let z : ◌≡◌ {A = ℕ} 0 1 = cc in absurd (omega arith)
judge_good g good q u (v ∷ vs) h = go (broken g q (ended vs) u v) h (judge_good g good (suc q) v vs)
  where
    go : (n : ℕ) → accepted (refuse n q (judge g good (suc q) v vs)) ≡ true
        → (accepted (judge g good (suc q) v vs) ≡ true → judge g good (suc q) v vs ≡ good)
        → refuse n q (judge g good (suc q) v vs) ≡ good
    go zero h below = below h
    go (suc n) h below = let z : ◌≡◌ {A = ℕ} 0 1 = cc in absurd (omega arith)
