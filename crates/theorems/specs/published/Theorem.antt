-- The published model (sections 2 and 3 of the paper) and document 01's rules and numbers say the same, for any number of
-- float streams. Asked of the galley is only what reading it makes sure of: there is a line, and citations grow and exist.
use Rattle.std.specs.Prelude.{ℕ, ◌+◌, ◌-◌, ◌*◌, ◌≡◌, refl, ◌↔◌, true, List, length}
use Rattle.std.proofs.Common.{arith, sym, ◌∙◌, ap, subst}
use Rattle.model.specs.Gather.{sum}
use Rattle.model.specs.Galley.{Galley, Place, Block, Sane}
use Rattle.model.specs.Leaf.{leaf}
use Rattle.model.specs.Turns.{page_of}
use Rattle.model.specs.Answers.{accepted, marked, pages_of, words_of, counts_of, counted_as}
use Rattle.model.specs.Best.{valid}
use Rattle.model.specs.Pagination.{Map, Pagination, list_on, x_on, turns_on, white_over}
use Rattle.model.proofs.laws.Words.{pages_words}
use Rattle.model.specs.laws.Lists.{◌∈◌}
use Rattle.model.proofs.laws.Valid.{Accepted, valid_accepted, accepted_valid, marked_counts}
use Rattle.theorems.specs.published.OfMap.{length_list, list_shaped}
use Rattle.theorems.specs.published.Accepted.{accepted_pagination, pagination_accepts}
use Rattle.theorems.specs.published.Numbers.{page_on, x_on_lem, y_on, turns_on_lem, weighted}
use Rattle.theorems.specs.published.White.{white_on_lem}

module _ (g : Galley) (sane : Sane g) where
  list_accepted : {p : ℕ} {P : Map} → Pagination g p P → Accepted g (list_on g P p 1)
  list_accepted {p} {P} m =
      let line = m.into 0 1 (let lined = sane.lined in omega arith) in
      let long = length_list g P p 1 in
      record { some = omega arith; shaped = list_shaped g P p 1; taken = pagination_accepts g sane m }

  -- The lists among which making seeks the best are exactly the lists of paginations.
  pub valid_published : (ps : List Place)
      → (ps ∈ valid g) ↔ ((P : Map) × Pagination g (length ps) P × (list_on g P (length ps) 1 ≡ ps))
  valid_published ps = (
    λ v. let a = (valid_accepted g ps).0 v in accepted_pagination g sane ps a.shaped a.taken,
    λ r. (valid_accepted g ps).1 (subst (λ ps. Accepted g ps) r.2 (list_accepted r.1)),
  )

  -- Marking accepts a list of words, by rules 12 to 18, exactly where it is the words of the list of a pagination.
  pub words_published : (ws : List ℕ)
      → (accepted (marked g ws) ≡ true) ↔ ((p : ℕ) × (P : Map) × Pagination g p P × (words_of (list_on g P p 1) ≡ ws))
  words_published ws = (
    λ h.
        let v = (accepted_valid g ws).0 h in
        let r = (valid_published v.0).0 v.1 in
        (length v.0, r.0, r.1, ap words_of r.2 ∙ v.2),
    λ r.
        let ps = list_on g r.1 r.0 1 in
        (accepted_valid g ws).1 (ps, (valid_accepted g ps).1 (list_accepted r.2), r.3),
  )

  module _ {p : ℕ} {P : Map} (m : Pagination g p P) where
    -- No two paginations have the same list, nor the same words.
    pub places_unique : {p' : ℕ} {P' : Map} → Pagination g p' P' → list_on g P p 1 ≡ list_on g P' p' 1
        → (p ≡ p') × ((s k : ℕ) → Block g s k → P s k ≡ P' s k)
    places_unique {p'} {P'} m' e = (
      sym (length_list g P p 1) ∙ ap length e ∙ length_list g P' p' 1,
      λ s k b. sym (page_on sane m s k b) ∙ ap (page_of s k 1) e ∙ page_on sane m' s k b,
    )

    pub words_unique : {p' : ℕ} {P' : Map} → Pagination g p' P' → words_of (list_on g P p 1) ≡ words_of (list_on g P' p' 1)
        → (p ≡ p') × ((s k : ℕ) → Block g s k → P s k ≡ P' s k)
    words_unique {p'} {P'} m' e =
        places_unique m'
        (sym (pages_words g (list_on g P p 1) (list_shaped g P p 1))
        ∙ ap (pages_of g) e
        ∙ pages_words g (list_on g P' p' 1) (list_shaped g P' p' 1))

    -- The counts of its list are its page count, X and Y over its leaves, its turns, and its white.
    pub places_counts : counts_of g (list_on g P p 1)
        ≡ counted_as p (x_on g P) (leaf g.spec.sides p - leaf g.spec.sides 1) (turns_on g p P) (white_over g p P)
    unfolding counts_of
    places_counts = rw (length_list g P p 1, x_on_lem sane m, y_on sane m, turns_on_lem sane m, white_on_lem sane m)

    -- And so marking answers the words of its list.
    pub words_counts : marked g (words_of (list_on g P p 1))
        ≡ counted_as p (x_on g P) (leaf g.spec.sides p - leaf g.spec.sides 1) (turns_on g p P) (white_over g p P)
    words_counts =
        marked_counts g (words_of (list_on g P p 1)) ((words_published (words_of (list_on g P p 1))).1 (p, P, m, refl))
        ∙ ap (counts_of g) (pages_words g (list_on g P p 1) (list_shaped g P p 1))
        ∙ places_counts

-- The turns are the paper's goal function over the leaves, whose numbers are S: Σ α·(S(P(f)) − S(P(R(f)))) + β·(S(p) − S(1)). Where
-- S(q) = q it is Turn.S, and where S(q) = q DIV 2 + 1 it is Turn.D.
pub turn_leaves : (g : Galley) (p : ℕ) (P : Map) (S : ℕ → ℕ) → ((q : ℕ) → leaf g.spec.sides q ≡ S q)
    → turns_on g p P
    ≡ sum g.floats (λ s. sum (g.stream s).size (λ f. g.spec.alpha * (S (P s f) - S (P 0 ((g.stream s).cite f)))))
    + g.spec.beta * (S p - S 1)
unfolding turns_on x_on
turn_leaves g p P S is =
    simp is
    (ap (λ x. x + g.spec.beta * (S p - S 1))
    (weighted g.spec.alpha g.floats (λ s. (g.stream s).size) (λ s f. S (P s f) - S (P 0 ((g.stream s).cite f)))))
