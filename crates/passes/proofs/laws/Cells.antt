-- What is lent for a column, and what its places know, after each store in it.
use Rattle.std.specs.Prelude.{ℕ, suc, ◌+◌, ◌≤◌, ◌<◌, ◌≡◌, List}
use Rattle.std.proofs.Math.Decide.{ℕ_discrete}
use Rattle.std.proofs.Common.{arith, sym, ◌∙◌}
use Rattle.galley.specs.declared.Galley.{Galley}
use Rattle.places.specs.Entry.{Entry}
use Rattle.places.specs.Best.{Best}
use Rattle.places.proofs.laws.Best.{best_none}
use Rattle.candidates.specs.Choice.{Starts, Between}
use Rattle.candidates.specs.Read.{table_in, side_of, search_of}
use Rattle.passes.specs.Sweep.{Lent, Knows, Swept, Known}
use Rattle.candidates.specs.Cells.{number, Scratched, Changed, ColumnRoom, Blank}
use Rattle.passes.proofs.laws.Sweep.{best_same}
use Rattle.candidates.proofs.laws.Read.{side_either}
use Rattle.candidates.proofs.laws.Cells.{scratched_length, scratched_others}
use Rattle.candidates.proofs.laws.Clean.{empty_unreached}

-- What is lent for a column is so after stores in it.
pub lent_kept : {bytes : List ℕ} {g : Galley} {w v : List ℕ} {j : ℕ} → Scratched g j w v → Lent bytes g w j → Lent bytes g v j
lent_kept {g = g} {w} {v} {j} kept lent =
    record {
      sound = lent.sound;
      column = lent.column;
      room = omega (arith, lent.room, scratched_length g j w v kept);
      costs = λ b c l m a n x r e.
          lent.costs b c l m a n x r
          (sym (scratched_others g j w v lent.sound.spec_ranged.sides_two kept a b (side_of g c) (omega arith) (side_either g c) (λ q. omega arith)) ∙ e);
    }

-- What the places of a column know when one of them has changed.
module _ {g : Galley} {w v : List ℕ} {i j c : ℕ} {e : Entry} (changed : Changed g w v i j c e) (few : g.text.count ≤ 4000)
    (line : i ≤ g.text.count) (side : c ≤ 1) (two : g.spec.sides ≤ 2) where
  -- Every other place of the column knows of earlier columns what it knew.
  pub knows_other : (bytes : List ℕ) (k d b : ℕ) → k ≤ g.text.count → d ≤ 1 → ((i ≡ k) × (c ≡ d) → ⊥)
      → Knows bytes g w k j d (Between b j) → Knows bytes g v k j d (Between b j)
  knows_other bytes k d b l m n known =
      rw (changed.others k j d l m (λ q. n (q.0, q.2)))
      (best_same (search_of bytes g w k j (side_of g d)) (table_in g v) (Between b j) (table_in g w k j d)
      (λ a b' r h h'. changed.others a b' (side_of g d) (omega arith) (side_either g d) (λ q. omega (arith, q.1, r.1))) known)

  -- The place itself knows what it holds.
  knows_own : (bytes : List ℕ) (b : ℕ) → Best (Starts (search_of bytes g w i j (side_of g c)) (Between b j)) e
      → Knows bytes g v i j c (Between b j)
  knows_own bytes b best =
      rw changed.own
      (best_same (search_of bytes g w i j (side_of g c)) (table_in g v) (Between b j) e
      (λ a b' r h h'. changed.others a b' (side_of g c) (omega arith) (side_either g c) (λ q. omega (arith, q.1, r.1))) best)

  -- One place more is swept.
  pub swept_next : (bytes : List ℕ) (b : ℕ) → Swept bytes g w j b (number c i)
      → Best (Starts (search_of bytes g w i j (side_of g c)) (Between b j)) e → Swept bytes g v j b (number c (i + 1))
  swept_next bytes b s best =
      record {
        done = λ k d l m n. go k d l m n (ℕ_discrete (number d k) (number c i));
        left = λ k d l m n.
            knows_other bytes k d (suc b) l (omega arith) (λ q. omega (arith, q.0, q.1)) (s.left k d l m (omega arith));
      }
    where
      go : (k d : ℕ) → k ≤ g.text.count → d < g.spec.sides → number d k < number c (i + 1) → Dec (number d k ≡ number c i)
          → Knows bytes g v k j d (Between b j)
      go k d l m n (yes q) =
          let x : k ≡ i = omega arith in
          let y : d ≡ c = omega arith in
          rw (x, y) (knows_own bytes b best)
      go k d l m n (no q) =
          knows_other bytes k d b l (omega arith) (λ r. q (omega (arith, r.0, r.1))) (s.done k d l m (omega arith))

-- The lines of a side are over: the next side begins.
pub swept_side : {bytes : List ℕ} {g : Galley} {w : List ℕ} {j b : ℕ} (c i : ℕ) → g.text.count ≤ 4000 → g.text.count < i
    → i ≤ suc g.text.count → Swept bytes g w j b (number c i) → Swept bytes g w j b (number (c + 1) 0)
swept_side c i few l m s =
    record {
      done = λ k d h h' n. s.done k d h h' (omega arith);
      left = λ k d h h' n. s.left k d h h' (omega arith);
    }

-- In an empty column no start is known, and there is none from a column b on and before it that is no earlier.
pub blank_known : (bytes : List ℕ) (g : Galley) (w : List ℕ) (j b : ℕ) → j ≤ b → ColumnRoom g w j → Blank g w j
    → Known bytes g w j b
blank_known bytes g w j b past asked blank k c l m =
    rw (empty_unreached g j asked.wide.within asked.two w k c asked.room l m (blank k c l m))
    (best_none (λ a b x p. omega (arith, p.0.0, p.0.1)))
