-- Stores in one column: what they leave.
use Rattle.std.specs.Prelude.{ℕ, ◌+◌, ◌≤◌, ◌<◌, ◌≡◌, refl, Bool, List, length, None, Some}
use Rattle.std.proofs.Common.{arith, ap, ◌∙◌}
use Rattle.std.proofs.Math.Bool.{true, false}
use Rattle.model.specs.Gather.{pick}
use Rattle.galley.specs.declared.Galley.{Galley}
use Rattle.places.specs.Entry.{Entry, entry_at, stored}
use Rattle.places.specs.Address.{address, words_needed}
use Rattle.places.specs.Table.{table_of}
use Rattle.places.proofs.laws.Address.{address_in, area_needed}
use Rattle.places.proofs.laws.Stored.{stored_length}
use Rattle.places.proofs.laws.Table.{table_same, table_other}
use Rattle.candidates.specs.Better.{wins, chosen, taken}
use Rattle.candidates.specs.Read.{table_in, columns_in}
use Rattle.candidates.specs.Cells.{Scratched, fresh, more, Changed}

-- Stores after stores.
pub scratched_then : (g : Galley) (j : ℕ) (w v u : List ℕ) → Scratched g j w v → Scratched g j v u → Scratched g j w u
scratched_then g j w v u a fresh = a
scratched_then g j w v u a (more x y i c e b l m p) = more x y i c e (scratched_then g j w v x a b) l m p

-- They keep the length.
pub scratched_length : (g : Galley) (j : ℕ) (w v : List ℕ) → Scratched g j w v → length v ≡ length w
scratched_length g j w v fresh = refl
scratched_length g j w v (more x y i c e b l m p) =
    ap length p ∙ stored_length x (address (g.text.count + 1) i j c) e ∙ scratched_length g j w x b

-- They leave the other columns,
pub scratched_others : (g : Galley) (j : ℕ) (w v : List ℕ) → g.spec.sides ≤ 2 → Scratched g j w v → (a b d : ℕ) → a ≤ g.text.count
    → d ≤ 1 → ¬ (j ≡ b) → table_in g v a b d ≡ table_in g w a b d
scratched_others g j w v two fresh a b d l m n = refl
scratched_others g j w v two (more x y i c e s h o p) a b d l m n =
    ap (λ u. table_in g u a b d) p
    ∙ table_other (g.text.count + 1) i j c a b d x e (omega arith) (omega arith) (omega arith) m (λ q. n q.1)
    ∙ scratched_others g j w x two s a b d l m n

-- One store, of an entry or of the better of two, at a place of the work area.
module _ (g : Galley) (w : List ℕ) (i j c : ℕ) (line : i ≤ g.text.count) (column : j < columns_in g) (occurs : c < g.spec.sides)
    (two : g.spec.sides ≤ 2) (room : words_needed g.text.count (columns_in g) ≤ length w) where
  pub stored_changes : (e : Entry) (v : List ℕ) → v ≡ stored w (address (g.text.count + 1) i j c) e → Changed g w v i j c e
  stored_changes e v p =
      let side : c ≤ 1 = omega arith in
      let a = address_in (g.text.count + 1) i j c (columns_in g) (omega arith) column side in
      let n = area_needed g.text.count (columns_in g) in
      record {
        sized = ap length p ∙ stored_length w (address (g.text.count + 1) i j c) e;
        own =
            ap (λ u. table_in g u i j c) p ∙ table_same (g.text.count + 1) i j c w e (omega arith);
        others = λ a b d l m n.
            ap (λ u. table_in g u a b d) p
            ∙ table_other (g.text.count + 1) i j c a b d w e (omega arith) (omega arith) side m n;
        kept = more w v i c e fresh line occurs p;
      }

  unchanged : (v : List ℕ) → v ≡ w → Changed g w v i j c (table_in g w i j c)
  unchanged v p = rw p (record { sized = refl; own = refl; others = λ a b d l m n. refl; kept = fresh })

  pub taken_changes : (e : Entry) (v : List ℕ) → v ≡ taken w (address (g.text.count + 1) i j c) e
      → Changed g w v i j c (chosen (table_in g w i j c) e)
  unfolding taken chosen table_of
  taken_changes None v p = unchanged v p
  taken_changes (Some l) v p = go (wins l.cost l.start (entry_at w (address (g.text.count + 1) i j c))) p
    where
      go : (t : Bool) → v ≡ pick t (stored w (address (g.text.count + 1) i j c) (Some l)) w
          → Changed g w v i j c (pick t (Some l) (table_in g w i j c))
      go true q = stored_changes (Some l) v q
      go false q = unchanged v q
