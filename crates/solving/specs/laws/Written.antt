-- What is made where no valid list begins with the opening, and where one does.
use Rattle.std.specs.Prelude.{ℕ, ◌≡◌}
use Rattle.std.proofs.Common.{arith, ◌∙◌}
use Rattle.std.proofs.Math.Path.{sym, ap}
use mathlib.Core.List.{List, []}
use Rattle.std.proofs.Math.Option.{Option, none, some}
use Rattle.model.specs.Galley as model
use Rattle.model.specs.Galley.{Place}
use Rattle.model.specs.Answers.{pages_of, words_of, counts_of, Answer, refused}
use Rattle.model.specs.Best.{valid}
use Rattle.model.specs.Opening.{valid_after, best_after, opening_turned, made_after, made_words_after}
use Rattle.model.specs.laws.Lists.{◌∈◌}
use Rattle.model.proofs.laws.Best.{MakesOf, makes, impossible}
use Rattle.model.proofs.laws.Opening.{after_valid, after_makes}

-- The best list is valid.
pub best_valid : (g : model.Galley) (os qs : List Place) → best_after g os ≡ some qs → qs ∈ valid g
best_valid g os qs e = go (best_after g os) (after_makes g os) e
  where
    go : (b : Option (List Place)) → MakesOf g (valid_after g os) b → b ≡ some qs → qs ∈ valid g
    go none (impossible h) e = let z : ◌≡◌ {A = ℕ} 0 1 = cc in absurd (omega arith)
    go (some rs) (makes l) e = let q : rs ≡ qs = cc in (after_valid g os qs (rw q at l.lawful)).0

module _ (g : model.Galley) (ws : List ℕ) where
  answer : Option (List Place) → Answer
  answer b = elim b [ none ↦ refused 11 0 | some ps ↦ counts_of g ps ]

  words : Option (List Place) → List ℕ
  words b = elim b [ none ↦ [] | some ps ↦ words_of ps ]

  -- What turns the opening away is answered, and nothing is written.
  pub made_turned : (a : Answer) → opening_turned g ws ≡ some a → (a ≡ made_after g ws) × (made_words_after g ws ≡ [])
  unfolding made_after made_words_after answer words
  made_turned a e = (
    sym (ap (λ (t : Option Answer). elim t [ none ↦ answer (best_after g (pages_of g ws)) | some refusal ↦ refusal ]) e),
    ap (λ (t : Option Answer). elim t [ none ↦ words (best_after g (pages_of g ws)) | some refusal ↦ [] ]) e,
  )

  module _ (stands : opening_turned g ws ≡ none) where
    -- Where it stands, it goes by the best list that begins with it.
    made_by : (b : Option (List Place)) → best_after g (pages_of g ws) ≡ b → (made_after g ws ≡ answer b) × (made_words_after g ws ≡ words b)
    unfolding made_after made_words_after answer words
    made_by b e = (
      ap (λ (t : Option Answer). elim t [ none ↦ answer (best_after g (pages_of g ws)) | some refusal ↦ refusal ]) stands ∙ ap answer e,
      ap (λ (t : Option Answer). elim t [ none ↦ words (best_after g (pages_of g ws)) | some refusal ↦ [] ]) stands ∙ ap words e,
    )

    pub made_none : best_after g (pages_of g ws) ≡ none → (refused 11 0 ≡ made_after g ws) × (made_words_after g ws ≡ [])
    unfolding answer words
    made_none e = let (a, w) = made_by none e in (sym a, w)

    pub made_some : (qs : List Place) → best_after g (pages_of g ws) ≡ some qs → (counts_of g qs ≡ made_after g ws) × (made_words_after g ws ≡ words_of qs)
    unfolding answer words
    made_some qs e = let (a, w) = made_by (some qs) e in (sym a, w)
