-- What making answers, in the definitions of the model alone: a list that marking accepts with the same counts and that no accepted
-- list beats, or 11, exactly where marking accepts no list.
use Rattle.std.specs.Prelude.{ℕ, ◌*◌, ◌≤◌, ◌≡◌, Bool, length}
use Rattle.std.proofs.Math.Path.{refl}
use Rattle.std.proofs.Common.{◌∙◌, ap}
use Rattle.std.proofs.Math.Bool.{true, false}
use mathlib.Core.List.{List, []}
use Rattle.std.proofs.Math.Option.{Option, none, some}
use Rattle.model.specs.Galley.{Galley, Place, streams}
use Rattle.model.specs.Turns.{turns}
use Rattle.model.specs.White.{white}
use Rattle.model.specs.Answers.{numbers_of, accepted, words_of, counts_of, marked, Answer, counted_as, refused}
use Rattle.model.specs.Best.{valid, best, made, made_words}
use Rattle.model.specs.laws.Lists.{◌∈◌}
use Rattle.model.proofs.laws.Words.{pages_words, length_words}
use Rattle.model.proofs.laws.Valid.{valid_accepted, accepted_valid, marked_counts}
use Rattle.model.proofs.laws.Best.{Least, Makes, impossible, makes, best_makes, least_turns, least_white}

module _ (g : Galley) where
  -- The words of a valid list are accepted with its counts.
  pub valid_counts : (ps : List Place) → ps ∈ valid g → marked g (words_of ps) ≡ counts_of g ps
  valid_counts ps m =
      marked_counts g (words_of ps) ((accepted_valid g (words_of ps)).1 (ps, m, refl))
      ∙ ap (counts_of g) (pages_words g ps ((valid_accepted g ps).0 m).shaped)

  -- What the two possible answers of making say of the lists that marking accepts.
  pub data Making : Answer → List ℕ → Type 0 where
    no_list : ((ws : List ℕ) → accepted (marked g ws) ≡ false) → Making (refused 11 0) []
    best_list : {p x y t w : ℕ} {ws : List ℕ} → marked g ws ≡ counted_as p x y t w → length ws ≡ p * streams g
        → ((vs : List ℕ) → accepted (marked g vs) ≡ true → t ≤ (numbers_of (marked g vs)).turns)
        → ((vs : List ℕ) → accepted (marked g vs) ≡ true → (numbers_of (marked g vs)).turns ≤ t → w ≤ (numbers_of (marked g vs)).white)
        → Making (counted_as p x y t w) ws

  -- Making answers one or the other.
  pub making : Making (made g) (made_words g)
  unfolding made made_words counts_of
  making = go (best g) (best_makes g)
    where
      none_accepted : ((ps : List Place) → ps ∈ valid g → ⊥) → (ws : List ℕ) → accepted (marked g ws) ≡ false
      none_accepted empty ws = no (accepted (marked g ws)) refl
        where
          no : (b : Bool) → accepted (marked g ws) ≡ b → accepted (marked g ws) ≡ false
          no true e = let r = (accepted_valid g ws).0 e in absurd (empty r.0 r.1)
          no false e = e

      beats_none : (ps : List Place) → Least g ps → (vs : List ℕ) → accepted (marked g vs) ≡ true
          → turns g ps ≤ (numbers_of (marked g vs)).turns
      beats_none ps l vs a =
          let r = (accepted_valid g vs).0 a in
          let e = valid_counts r.0 r.1 in
          let t = least_turns g ps r.0 l r.1 in
          rw (← r.2, e) t

      whiter_none : (ps : List Place) → Least g ps → (vs : List ℕ) → accepted (marked g vs) ≡ true
          → (numbers_of (marked g vs)).turns ≤ turns g ps → white g ps ≤ (numbers_of (marked g vs)).white
      whiter_none ps l vs a k =
          let r = (accepted_valid g vs).0 a in
          let e = valid_counts r.0 r.1 in
          let fewer : turns g r.0 ≤ turns g ps = rw (← r.2, e) at k in
          let w = least_white g ps r.0 l r.1 fewer in
          rw (← r.2, e) w

      go : (b : Option (List Place)) → Makes g b
          → Making (elim b [ none ↦ refused 11 0 | some ps ↦ counts_of g ps ]) (elim b [ none ↦ [] | some ps ↦ words_of ps ])
      go none (impossible empty) = no_list (none_accepted empty)
      go (some ps) (makes l) =
          best_list (valid_counts ps l.lawful) (length_words (streams g) ps ((valid_accepted g ps).0 l.lawful).shaped) (beats_none ps l) (whiter_none ps l)
