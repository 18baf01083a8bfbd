-- The first page that breaks a rule decides, of a list that is marked and of an opening.
use Prim.Native.Nat.{ℕ, zero, suc, ◌+◌}
use native.Mathlib.Omega.{arith}
use Rattle.std.specs.Prelude.{◌≡◌, length, eqb}
use Rattle.std.proofs.Math.Path.{refl, ap}
use Rattle.std.proofs.Common.{sym, ◌∙◌, eq-eqb, ne_eqb}
use Rattle.std.proofs.Math.Bool.{false}
use mathlib.Core.List.{List, [], ◌∷◌}
use Rattle.std.proofs.Math.Option.{Option, none, some}
use Rattle.std.proofs.Math.Dec.{eqb-suc-zero}
use Rattle.model.specs.Gather.{pick}
use Rattle.model.specs.Galley.{Galley, Place, sizes}
use Rattle.model.specs.Rules.{broken}
use Rattle.model.specs.Answers.{numbers_of, same, ended, refuse, judge, Answer, refused}
use Rattle.model.specs.Best.{allowed}
use Rattle.model.specs.Opening.{end_of, pages_turned}
use Rattle.model.specs.White.{whites}
use Rattle.model.specs.laws.White.{page_white}
use Rattle.model.proofs.laws.White.{whites_next}
use Rattle.theorems.specs.pages.Opening.{open_white}
use Rattle.marking.specs.Judged.{refusal, fault_in, lacked}

-- The refusal if there is one, else the answer.
abbrev pub or_else : Option Answer → Answer → Answer
or_else none good = good
or_else (some a) good = a

-- The refusal of an opening for the refusal of one of its pages, else what is left to say.
abbrev pub as_opening : Option Answer → Option Answer → Option Answer
as_opening none good = good
as_opening (some a) good = some (refused 20 (numbers_of a).place)

module _ (g : Galley) where
  -- The page after which none follows is the last by its number.
  last_ended : (r last : ℕ) (vs : List Place) → last ≡ r + suc (length vs) → eqb (suc r) last ≡ ended vs
  last_ended r last [] h = eq-eqb (suc r) last (omega arith)
  last_ended r last (v ∷ vs) h = ne_eqb (suc r) last (λ e. omega arith)

  -- Marking: the first fault, then rule 18.
  pub judge_fault : (good : Answer) (r last : ℕ) (u : Place) (ps : List Place) → last ≡ r + length ps
      → judge g good (suc r) u ps
      ≡ or_else (fault_in g last (suc r) u ps) (pick (same (end_of u ps) (sizes g)) good (refused 18 last))
  unfolding judge fault_in end_of refuse refusal
  judge_fault good r last u [] h = let e : r ≡ last = omega arith in rw e refl
  judge_fault good r last u (v ∷ vs) h =
      rw (last_ended r last vs h) (go (broken g (suc r) (ended vs) u v) (judge_fault good (suc r) last v vs (omega arith)))
    where
      go : (n : ℕ) → judge g good (suc (suc r)) v vs
          ≡ or_else (fault_in g last (suc (suc r)) v vs) (pick (same (end_of v vs) (sizes g)) good (refused 18 last))
          → refuse n (suc r) (judge g good (suc (suc r)) v vs)
          ≡ or_else (refusal n (suc r) (fault_in g last (suc (suc r)) v vs)) (pick (same (end_of v vs) (sizes g)) good (refused 18 last))
      go zero below = below
      go (suc n) below = refl

  -- An opening: the first fault, then 21.
  pub turned_fault : (r last : ℕ) (u : Place) (ps : List Place) → last ≡ r + length ps
      → pages_turned g (suc r) u ps
      ≡ as_opening (fault_in g 0 (suc r) u ps) (pick (same (end_of u ps) (sizes g)) (some (refused 21 last)) none)
  unfolding pages_turned fault_in end_of allowed refusal
  turned_fault r last u [] h = let e : r ≡ last = omega arith in rw e refl
  turned_fault r last u (v ∷ vs) h =
      go (broken g (suc r) false u v) (turned_fault (suc r) last v vs (omega arith))
      ∙ ap (λ b. as_opening (refusal (broken g (suc r) b u v) (suc r) (fault_in g 0 (suc (suc r)) v vs)) end) (sym (eqb-suc-zero r))
    where
      end : Option Answer
      end = pick (same (end_of v vs) (sizes g)) (some (refused 21 last)) none

      further : Option Answer
      further = pages_turned g (suc (suc r)) v vs

      go : (n : ℕ) → further ≡ as_opening (fault_in g 0 (suc (suc r)) v vs) end
          → pick (eqb n 0) further (some (refused 20 (suc r)))
          ≡ as_opening (refusal n (suc r) (fault_in g 0 (suc (suc r)) v vs)) end
      go zero below = ap (λ b. pick b further (some (refused 20 (suc r)))) (eq-eqb 0 0 refl) ∙ below
      go (suc n) below = ap (λ b. pick b further (some (refused 20 (suc r)))) (eqb-suc-zero n)

  -- The white of a list's pages is W, where the last is the last,
  pub lacked_list : (r last : ℕ) (u : Place) (ps : List Place) → last ≡ r + length ps → lacked g last (suc r) u ps ≡ whites g u ps
  unfolding lacked whites
  lacked_list r last u [] h = refl
  lacked_list r last u (v ∷ vs) h =
      let here = ap (λ b. page_white g b u v) (last_ended r last vs h) in
      let after = lacked_list (suc r) last v vs (omega arith) in
      let next = whites_next g u v vs in
      omega arith

  -- and that of an opening's, of which none is, has every page.
  pub lacked_open : (r : ℕ) (u : Place) (ps : List Place) → lacked g 0 (suc r) u ps ≡ open_white g u ps
  unfolding lacked open_white
  lacked_open r u [] = refl
  lacked_open r u (v ∷ vs) =
      let here = ap (λ b. page_white g b u v) (eqb-suc-zero r) in
      let after = lacked_open (suc r) v vs in
      omega arith
