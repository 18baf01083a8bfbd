-- Places whose words are those of an unreached place, and what stores in a column leave of them.
use Rattle.std.specs.Prelude.{ℕ, ◌+◌, ◌≤◌, ◌<◌, ◌≡◌, refl, List, length, None, Some}
use Rattle.std.proofs.Math.Decide.{ℕ_discrete}
use Rattle.std.proofs.Common.{arith, sym, ap, ◌∙◌}
use Rattle.galley.specs.declared.Galley.{Galley}
use Rattle.places.specs.Address.{address, words_needed}
use Rattle.places.specs.Entry.{Entry, stored}
use Rattle.places.proofs.laws.Address.{address_in, address_apart, area_needed}
use Rattle.places.proofs.laws.Best.{no_reach}
use Rattle.places.proofs.laws.Stored.{stored_twice, stored_swap}
use Rattle.places.proofs.laws.Table.{table_same, table_other}
use Rattle.candidates.specs.Read.{table_in, columns_in}
use Rattle.candidates.specs.Cells.{Scratched, fresh, more, Empty, Blank, Clean}
use Rattle.candidates.proofs.laws.Cells.{scratched_length}

module _ (g : Galley) (j : ℕ) (column : j < columns_in g) (two : g.spec.sides ≤ 2) where
  -- The words of a place are there.
  abbrev Roomy : List ℕ → Type 0
  Roomy w = words_needed g.text.count (columns_in g) ≤ length w

  stand : (w : List ℕ) (k b c : ℕ) → Roomy w → k ≤ g.text.count → b < columns_in g → c < g.spec.sides
      → address (g.text.count + 1) k b c + 5 ≤ length w
  stand w k b c room l n m =
      omega (
        arith,
        address_in (g.text.count + 1) k b c (columns_in g) (omega arith) n (omega arith),
        area_needed g.text.count (columns_in g),
      )

  -- An empty place is unreached.
  pub empty_unreached : (w : List ℕ) (k c : ℕ) → Roomy w → k ≤ g.text.count → c < g.spec.sides → Empty g w k j c
      → table_in g w k j c ≡ None
  empty_unreached w k c room l m e =
      ap (λ v. table_in g v k j c) (sym e) ∙ table_same (g.text.count + 1) k j c w None (stand w k j c room l column m)

  module _ (w : List ℕ) (i c : ℕ) (e : Entry) (room : Roomy w) (line : i ≤ g.text.count) (occurs : c < g.spec.sides) where
    abbrev put : List ℕ
    put = stored w (address (g.text.count + 1) i j c) e

    -- A store leaves other places empty,
    empty_other : (k b d : ℕ) → k ≤ g.text.count → b < columns_in g → d < g.spec.sides → ((i ≡ k) × (j ≡ b) × (c ≡ d) → ⊥) → Empty g w k b d
        → Empty g put k b d
    empty_other k b d l n m differ empty =
        stored_swap w (address (g.text.count + 1) i j c) (address (g.text.count + 1) k b d) e None
        (address_apart (g.text.count + 1) i j c k b d (omega arith) (omega arith) (omega arith) (omega arith) differ)
        (stand w i j c room line column occurs) (stand w k b d room l n m)
        ∙ ap (λ v. stored v (address (g.text.count + 1) i j c) e) empty

    -- and its own if it is unreached.
    empty_own : e ≡ None → Empty g put i j c
    empty_own none = rw none (stored_twice w (address (g.text.count + 1) i j c) None None (stand w i j c room line column occurs))

    put_clean : Clean g w j → Clean g put j
    put_clean clean k d l m unreached = go (ℕ_discrete i k) (ℕ_discrete c d)
      where
        other : ((i ≡ k) × (c ≡ d) → ⊥) → Empty g put k j d
        other differ =
            empty_other k j d l column m (λ r. differ (r.0, r.2))
            (clean k d l m
            (sym (table_other (g.text.count + 1) i j c k j d w e (omega arith) (omega arith) (omega arith) (omega arith) (λ r. differ (r.0, r.2)))
            ∙ unreached))

        own : (f : Entry) → e ≡ f → table_in g put i j c ≡ None → Empty g put i j c
        own None p q = empty_own p
        own (Some l) p q =
            absurd (no_reach (sym q ∙ table_same (g.text.count + 1) i j c w e (stand w i j c room line column occurs) ∙ p))

        go : Dec (i ≡ k) → Dec (c ≡ d) → Empty g put k j d
        go (yes p) (yes q) = rw (← p, ← q) (own e refl (rw (← p, ← q) at unreached))
        go (yes p) (no q) = other (λ r. q r.1)
        go (no p) d = other (λ r. p r.0)

  -- Stores in the column leave every unreached place empty.
  pub clean_kept : (w v : List ℕ) → Roomy w → Scratched g j w v → Clean g w j → Clean g v j
  clean_kept w v room fresh clean = clean
  clean_kept w v room (more x y i c e s l m p) clean =
      rw p (put_clean x i c e (omega (arith, room, scratched_length g j w x s)) l m (clean_kept w x room s clean))

  -- They leave an empty column empty.
  pub blank_kept : (w v : List ℕ) (b : ℕ) → Roomy w → b < columns_in g → ¬ (j ≡ b) → Scratched g j w v → Blank g w b → Blank g v b
  blank_kept w v b room wide differ fresh blank = blank
  blank_kept w v b room wide differ (more x y i c e s l m p) blank =
      λ k d h o.
      rw p
      (empty_other x i c e (omega (arith, room, scratched_length g j w x s)) l m k b d h wide o (λ r. differ r.1)
      (blank_kept w x b room wide differ s blank k d h o))
