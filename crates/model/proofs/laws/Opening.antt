-- A valid list that begins with an opening is the opening and then other pages, and the best of them is the least one.
use Prim.Native.Nat.{ℕ}
use Rattle.std.proofs.Math.Nat.{zero-div, zero-mod}
use Rattle.std.proofs.Common.{arith, ◌∙◌}
use Rattle.std.specs.Prelude.{◌≡◌, Bool}
use Rattle.std.proofs.Math.Path.{refl, ap}
use Rattle.std.proofs.Math.Bool.{true, false}
use mathlib.Core.List.{List, [], ◌∷◌, ◌++◌}
use Rattle.std.proofs.Math.Option.{Option, none, some}
use Rattle.model.specs.declared.answer.Counted.{Counted}
use Rattle.model.specs.Gather.{pick}
use Rattle.model.specs.Galley.{Galley, Place, Sane, count, streams, zeros, sizes}
use Rattle.model.specs.Answers.{Answer, refused, same, chunks, pages_of, words_of, counts_of}
use Rattle.model.specs.Best.{keep, valid, best, made, made_words}
use Rattle.model.specs.Opening.{begins, valid_after, best_after, pages_turned, opening_turned, made_after, made_words_after}
use Rattle.model.proofs.laws.Gather.{and_left, and_right, and_both}
use Rattle.model.specs.laws.Lists.{◌∈◌}
use Rattle.model.proofs.laws.Lists.{∈-keep, ∈-kept}
use Rattle.model.proofs.laws.Valid.{same_true, same_refl, count_sizes, count_zeros, Accepted, valid_accepted}
use Rattle.model.proofs.laws.Best.{LeastOf, MakesOf, first_makes, first_is, first_none}

-- A list begins with the opening where it is the opening and then other pages.
pub begins_append : (os ps : List Place) → begins os (os ++ ps) ≡ true
unfolding begins
begins_append [] ps = refl
begins_append (v ∷ vs) ps = and_both (same_refl v) (begins_append vs ps)

pub begins_rest : (os qs : List Place) → begins os qs ≡ true → (ps : List Place) × (qs ≡ os ++ ps)
unfolding begins
begins_rest [] qs h = (qs, refl)
begins_rest (v ∷ vs) [] h = let z : ◌≡◌ {A = ℕ} 0 1 = cc in absurd (omega arith)
begins_rest (v ∷ vs) (w ∷ ws) h =
    let e = same_true v w (and_left (same v w) (begins vs ws) h) in
    let r = begins_rest vs ws (and_right (same v w) (begins vs ws) h) in
    let f = r.1 in
    (r.0, cc)

keep_all : (xs : List (List Place)) → keep (begins []) xs ≡ xs
unfolding keep begins
keep_all [] = refl
keep_all (x ∷ xs) = ap (λ l. x ∷ l) (keep_all xs)

module _ (g : Galley) where
  -- Every list begins with the empty opening: making after it is making.
  valid_after_nothing : valid_after g [] ≡ valid g
  unfolding valid_after
  valid_after_nothing = keep_all (valid g)

  best_after_nothing : best_after g [] ≡ best g
  unfolding best_after best
  best_after_nothing = rw valid_after_nothing

  -- No word names no page.
  pub no_pages : pages_of g [] ≡ []
  unfolding pages_of chunks
  no_pages = rw (zero-div (streams g))

  -- Nothing printed places nothing, and a galley has a line: nothing turns it away.
  pub nothing_turned : Sane g → opening_turned g [] ≡ none
  unfolding opening_turned pages_turned
  nothing_turned sane = rw (zero-mod (streams g), no_pages) (go (same (zeros g) (sizes g)) refl)
    where
      go : (b : Bool) → same (zeros g) (sizes g) ≡ b → pick b (some (refused {A = Counted} 21 0)) none ≡ none
      go false e = refl
      go true e =
          let counts = ap (λ v. count v 0) (same_true (zeros g) (sizes g) e) in
          absurd (omega (arith, count_sizes g 0 (omega arith), count_zeros g 0 (omega arith), sane.lined))

  -- So making after no opening answers what making answers, and writes what it writes.
  pub made_after_nothing : Sane g → made_after g [] ≡ made g
  unfolding made_after made
  made_after_nothing sane =
      let counts : Option (List Place) → Answer = λ r. elim r [ none ↦ refused 11 0 | some ps ↦ counts_of g ps ] in
      ap (λ (t : Option Answer). elim t [ none ↦ counts (best_after g (pages_of g [])) | some refusal ↦ refusal ]) (nothing_turned sane)
      ∙ ap (λ os. counts (best_after g os)) no_pages
      ∙ ap counts best_after_nothing

  pub words_after_nothing : Sane g → made_words_after g [] ≡ made_words g
  unfolding made_words_after made_words
  words_after_nothing sane =
      let words : Option (List Place) → List ℕ = λ r. elim r [ none ↦ [] | some ps ↦ words_of ps ] in
      ap (λ (t : Option Answer). elim t [ none ↦ words (best_after g (pages_of g [])) | some refusal ↦ [] ]) (nothing_turned sane)
      ∙ ap (λ os. words (best_after g os)) no_pages
      ∙ ap words best_after_nothing

  module _ (os : List Place) where
    -- The lists that begin with the opening are the valid lists of the opening and other pages.
    pub after_valid : (qs : List Place) → qs ∈ valid_after g os → (qs ∈ valid g) × ((ps : List Place) × (qs ≡ os ++ ps))
    unfolding valid_after
    after_valid qs m = let k = ∈-kept (begins os) qs (valid g) m in (k.0, begins_rest os qs k.1)

    pub valid_after_lem : (ps : List Place) → (os ++ ps) ∈ valid g → (os ++ ps) ∈ valid_after g os
    unfolding valid_after
    valid_after_lem ps m = ∈-keep (begins os) (os ++ ps) (valid g) m (begins_append os ps)

    after_accepted : (qs : List Place) → qs ∈ valid_after g os → Accepted g qs
    after_accepted qs m = (valid_accepted g qs).0 (after_valid qs m).0

    -- What making after an opening means: no valid list begins with it, or the best that does is the least one.
    pub after_makes : MakesOf g (valid_after g os) (best_after g os)
    unfolding best_after
    after_makes = first_makes g (valid_after g os) after_accepted

    pub after_is : (qs : List Place) → LeastOf g (valid_after g os) qs → best_after g os ≡ some qs
    unfolding best_after
    after_is = first_is g (valid_after g os) after_accepted

    pub after_none : ((qs : List Place) → qs ∈ valid_after g os → ⊥) → best_after g os ≡ none
    unfolding best_after
    after_none = first_none g (valid_after g os) after_accepted
