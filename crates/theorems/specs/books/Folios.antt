-- Of the folio on which a chapter opens only its parity matters: opened on another that is as odd, the same lists are valid, at the
-- same counts and in the same order.
use Rattle.std.specs.Prelude.{ℕ, suc, pred, ◌+◌, ◌-◌, ◌/◌, ◌%◌, ◌≤◌, ◌≡◌, Bool, length, eqb}
use native.Mathlib.Omega.{arith}
use Rattle.std.proofs.Math.Path.{refl, sym}
use Rattle.std.proofs.Common.{◌∙◌, ap}
use mathlib.Core.List.{List, [], ◌∷◌}
use Rattle.model.specs.Galley.{Sides, single, double, Galley, Place, streams, zeros, sizes}
use Rattle.model.specs.Height.{kinds, height, tightest, loosest}
use Rattle.model.specs.Leaf.{leaf, ends}
use Rattle.model.specs.Rules.{forward, closes, fits, fills, cited, broken}
use Rattle.model.specs.Turns.{apart, x_of, y_of, turns}
use Rattle.model.specs.White.{white_on, whites, white}
use Rattle.model.specs.Answers.{ended}
use Rattle.model.specs.Order.{oddly}
use Rattle.model.specs.Best.{allowed, valid}
use Rattle.model.specs.Book.{sides_on, open_on, tie_of}
use Rattle.model.proofs.laws.Gather.{sum_ext}
use Rattle.model.specs.laws.Lists.{◌∈◌}
use Rattle.model.specs.laws.Judge.{accepts}
use Rattle.model.proofs.laws.Valid.{valid_accepted}
use Rattle.theorems.specs.pages.Graph.{side}

-- The folio 1 or 2 that is as odd as f; single-sided work needs but 1.
unfoldable pub like : Sides → ℕ → ℕ
like single f = 1
like (double e) f = 2 - f % 2

-- Whether work is single-sided or double-sided is all that it looks at, and all that a page's side does.
pub like_on : (s : Sides) (n f : ℕ) → like (sides_on n s) f ≡ like s f
unfolding like sides_on
like_on single n f = refl
like_on (double e) n f = refl

pub side_on : (s : Sides) (n q : ℕ) → side (sides_on n s) q ≡ side s q
unfolding side sides_on
side_on single n q = refl
side_on (double e) n q = refl

-- It is such a folio itself, 1 or 2.
pub like_like : (s : Sides) (f : ℕ) → like s (like s f) ≡ like s f
unfolding like
like_like single f = refl
like_like (double e) f = omega arith

pub like_range : (s : Sides) (f : ℕ) → (1 ≤ like s f) × (like s f ≤ 2)
unfolding like
like_range single f = omega arith
like_range (double e) f = omega arith

-- A list of p pages that opens on folio n leads to the folio that its closing side says, and to no other.
pub folio_closing : (s : Sides) (n p next : ℕ) → like s (n + p) ≡ next → side s p ≡ side s (like s n + next)
unfolding like side
folio_closing single n p next e = refl
folio_closing (double f) n p next e = omega arith

pub closing_folio : (s : Sides) (n p next : ℕ) → like s next ≡ next → side s p ≡ side s (like s n + next) → like s (n + p) ≡ next
unfolding like side
closing_folio single n p next l e = l
closing_folio (double f) n p next l e = omega arith

-- Leaves of one sidedness are those of another, moved on by a number.
pub record Shifted (s t : Sides) : Type 0 where
  pub by : ℕ
  pub leaves : (q : ℕ) → leaf s q ≡ leaf t q + by
  pub same : (q : ℕ) → ends s q ≡ ends t q
  pub odd : (p : ℕ) → oddly s p ≡ oddly t p

-- Folios that are as odd move the leaves.
pub shifted : (s : Sides) (f : ℕ) → 1 ≤ f → Shifted (sides_on f s) (sides_on (like s f) s)
unfolding sides_on like leaf ends oddly
shifted single f some = record { by = 0; leaves = λ q. omega arith; same = λ q. refl; odd = λ p. refl }
shifted (double e) f some =
    record {
      by = (f - (2 - f % 2)) / 2;
      leaves = λ q. omega arith;
      same = λ q. let e : (pred f + q) % 2 ≡ (pred (2 - f % 2) + q) % 2 = omega arith in ap (λ r. eqb r 1) e;
      odd = λ p. omega arith;
    }

module _ (g : Galley) (f e : ℕ) (sh : Shifted (sides_on f g.spec.sides) (sides_on e g.spec.sides)) where
  allowed_on : (q : ℕ) (last : Bool) (u v : Place) → allowed (open_on f g) q last u v ≡ allowed (open_on e g) q last u v
  unfolding allowed broken forward closes fits fills cited kinds tightest loosest height open_on
  allowed_on q last u v = rw (sh.same q)

  accepts_on : (l : Place) (q : ℕ) (u : Place) (ps : List Place)
      → accepts (allowed (open_on f g)) l q u ps ≡ accepts (allowed (open_on e g)) l q u ps
  unfolding accepts
  accepts_on l q u [] = refl
  accepts_on l q u (v ∷ vs) = rw (allowed_on q (ended vs) u v, accepts_on l (suc q) v vs)

  -- The same lists are valid,
  pub valid_on : (ps : List Place) → ps ∈ valid (open_on f g) → ps ∈ valid (open_on e g)
  unfolding streams zeros sizes open_on
  valid_on ps m =
      let a = (valid_accepted (open_on f g) ps).0 m in
      (valid_accepted (open_on e g) ps).1 (record { some = a.some; shaped = a.shaped; taken = sym (accepts_on _ 1 _ ps) ∙ a.taken })

  pub valid_back : (ps : List Place) → ps ∈ valid (open_on e g) → ps ∈ valid (open_on f g)
  unfolding streams zeros sizes open_on
  valid_back ps m =
      let a = (valid_accepted (open_on e g) ps).0 m in
      (valid_accepted (open_on f g) ps).1 (record { some = a.some; shaped = a.shaped; taken = accepts_on _ 1 _ ps ∙ a.taken })

  apart_on : (ps : List Place) (s k : ℕ) → apart (open_on f g) ps s k ≡ apart (open_on e g) ps s k
  unfolding apart open_on
  apart_on ps s k = grind arith

  -- with the same turns to floats,
  pub x_on_lem : (ps : List Place) → x_of (open_on f g) ps ≡ x_of (open_on e g) ps
  unfolding x_of open_on
  x_on_lem ps = sum_ext _ _ _ (λ s p q. sum_ext _ _ _ (λ k p q. apart_on ps s k))

  -- the same leaves,
  pub y_on : (ps : List Place) → y_of (open_on f g) ps ≡ y_of (open_on e g) ps
  unfolding y_of open_on
  y_on ps = let a = sh.leaves (length ps) in let b = sh.leaves 1 in omega arith

  -- the same turns,
  pub turns_on_lem : (ps : List Place) → turns (open_on f g) ps ≡ turns (open_on e g) ps
  unfolding turns open_on
  turns_on_lem ps = rw (x_on_lem ps, y_on ps)

  -- the same ties
  pub tie_on : (ps : List Place) → tie_of (open_on f g) ps ≡ tie_of (open_on e g) ps
  unfolding tie_of open_on zeros streams
  tie_on ps = rw (sh.odd (length ps))

-- White has nothing to do with folios.
whites_on : (g : Galley) (f e : ℕ) (u : Place) (ps : List Place) → whites (open_on f g) u ps ≡ whites (open_on e g) u ps
unfolding whites white_on loosest height kinds open_on
whites_on g f e u ps = grind arith

pub white_on_lem : (g : Galley) (f e : ℕ) (ps : List Place) → white (open_on f g) ps ≡ white (open_on e g) ps
unfolding white zeros streams open_on
white_on_lem g f e ps = whites_on g f e _ ps
