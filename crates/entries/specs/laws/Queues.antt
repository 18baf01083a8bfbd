-- The queues of the sides: empty at first, moved on one by one, and left as they are by what does not concern them.
use Rattle.std.specs.Prelude.{ℕ, zero, suc, ◌+◌, ◌*◌, ◌≤◌, ◌<◌, ◌≡◌, refl, ◌⊎◌, List, [], ◌∷◌, length, get_or, None}
use Rattle.std.proofs.Math.Decide.{dec_lt, ℕ_discrete}
use Rattle.std.proofs.Common.{arith, sym, ◌∙◌, inl, inr}
use Rattle.galley.specs.declared.Galley.{Galley}
use Rattle.window.specs.declared.slide.Window.{Window}
use Rattle.queues.specs.declared.parts.Parts.{Parts}
use Rattle.queues.specs.Queue.{lines_of}
use Rattle.queues.specs.Parts.{parts_of, row_put, Moved}
use Rattle.queues.proofs.laws.Parts.{row_length, row_other, row_word, both_none, both_same, both_beside}
use Rattle.candidates.specs.Read.{side_of}
use Rattle.entries.specs.Next.{Holds, Queues}

-- The ends of empty queues.
abbrev pub no_ends : List ℕ
no_ends = 0 ∷ 0 ∷ 4000 ∷ 4000 ∷ 8000 ∷ 8000 ∷ 12000 ∷ 12000 ∷ []

-- Before the first line that is reached all queues are empty.
pub queues_none : (g : Galley) (w sums words : List ℕ) (b : ℕ) (window : Window) → g.spec.sides ≤ 2
    → ((a c : ℕ) → c < g.spec.sides → (a < window.split) ⊎ (a < window.high) → lines_of w (g.text.count + 1) b (side_of g c) a ≡ None)
    → Queues g w sums words no_ends b window window 0
queues_none g w sums words b window two none =
    record { rows = refl; moved = λ c l m. absurd (omega arith); still = λ c l m. still c m }
  where
    still : (c : ℕ) → c < g.spec.sides → Holds g w sums words no_ends b window c
    still zero m = both_none (lines_of w (g.text.count + 1) b (side_of g 0)) sums words 0 window (λ a l. none a 0 m)
    still (suc zero) m = both_none (lines_of w (g.text.count + 1) b (side_of g 1)) sums words 8000 window (λ a l. none a 1 m)
    still (suc (suc c)) m = absurd (omega arith)

-- The rooms of two sides are apart.
rooms_apart : (c d : ℕ) → ¬ (d ≡ c) → (8000 * d + 8000 ≤ 8000 * c) ⊎ (8000 * c + 8000 ≤ 8000 * d)
rooms_apart c d n = go (dec_lt d c)
  where
    go : Dec (d < c) → (8000 * d + 8000 ≤ 8000 * c) ⊎ (8000 * c + 8000 ≤ 8000 * d)
    go (yes l) = inl (omega arith)
    go (no l) = inr (omega arith)

-- The ends of a side's queues as they are stored.
abbrev pub ends_put : List ℕ → ℕ → Parts → List ℕ
ends_put ends c parts = row_put ends c parts.full.head parts.full.tail parts.rest.head parts.rest.tail

module _ {g : Galley} {w sums words ends : List ℕ} {b : ℕ} {old new : Window} {n : ℕ} (q : Queues g w sums words ends b old new n) where
  -- When all have moved, the turn is over.
  pub queues_round : g.spec.sides ≤ n → Queues g w sums words ends b new new 0
  queues_round l =
      record { rows = q.rows; moved = λ c m. absurd (omega arith); still = λ c m h. q.moved c (omega arith) h }

  -- They hold the same of columns that are the same above the line where both windows end.
  pub queues_same : (v : List ℕ) (i : ℕ) → old.split ≤ i → old.high ≤ i → new.split ≤ i → new.high ≤ i
      → ((a c : ℕ) → a < i → lines_of v (g.text.count + 1) b (side_of g c) a ≡ lines_of w (g.text.count + 1) b (side_of g c) a)
      → Queues g v sums words ends b old new n
  queues_same v i k k' m m' same =
      record {
        rows = q.rows;
        moved = λ c l h. both_same i m m' (λ a. same a c) (q.moved c l h);
        still = λ c l h. both_same i k k' (λ a. same a c) (q.still c l h);
      }

  -- The queues of the next side moved on.
  pub queues_next : g.spec.sides ≤ 2 → n < g.spec.sides → old.split ≤ 4000 → old.high ≤ 4000 → new.split ≤ 4000 → new.high ≤ 4000
      → (words' : List ℕ) (r : Parts)
      → Moved w sums words (record { tall = g.text.count + 1; column = b; side = side_of g n }) (parts_of ends n) new r words'
      → Queues g w sums words' (ends_put ends n r) b old new (n + 1)
  queues_next two more s h s' h' words' r done =
      record {
        rows = row_length ends n _ _ _ _ ∙ q.rows;
        moved = λ d l m. moved d l m (ℕ_discrete d n);
        still = λ d l m. rw (other d m (omega arith)) (kept d old (omega arith) s h (q.still d (omega arith) m));
      }
    where
      room : 4 * n + 4 ≤ length ends
      room = omega (arith, q.rows)

      own : parts_of (ends_put ends n r) n ≡ r
      own =
          let zero_th : 4 * n ≡ 4 * n + 0 = omega arith in
          let a = row_word ends n r.full.head r.full.tail r.rest.head r.rest.tail 0 (4 * n) (omega arith) zero_th room in
          let b = row_word ends n r.full.head r.full.tail r.rest.head r.rest.tail 1 (4 * n + 1) (omega arith) refl room in
          let c = row_word ends n r.full.head r.full.tail r.rest.head r.rest.tail 2 (4 * n + 2) (omega arith) refl room in
          let d = row_word ends n r.full.head r.full.tail r.rest.head r.rest.tail 3 (4 * n + 3) (omega arith) refl room in
          let first = sym done.held.first in
          let second = sym done.held.second in
          let bare = sym done.held.bare in
          let keyed = sym done.held.keyed in
          rw (a, b, c, d, second, first, bare, keyed)

      other : (d : ℕ) → d < g.spec.sides → ¬ (d ≡ n) → parts_of (ends_put ends n r) d ≡ parts_of ends d
      other d m e =
          let z : 4 * d ≡ 4 * d + 0 = omega arith in
          let a = at 0 (4 * d) z (omega arith) in
          let b = at 1 (4 * d + 1) refl (omega arith) in
          let c = at 2 (4 * d + 2) refl (omega arith) in
          let f = at 3 (4 * d + 3) refl (omega arith) in
          rw (a, b, c, f)
        where
          at : (k x : ℕ) → x ≡ 4 * d + k → k < 4 → get_or (ends_put ends n r) x 0 ≡ get_or ends x 0
          at k x y l = row_other ends n _ _ _ _ x (go (dec_lt d n))
            where
              go : Dec (d < n) → (x < 4 * n) ⊎ (4 * n + 4 ≤ x)
              go (yes p) = inl (omega arith)
              go (no p) = inr (omega arith)

      kept : (d : ℕ) (window : Window) → ¬ (d ≡ n) → window.split ≤ 4000 → window.high ≤ 4000 → Holds g w sums words ends b window d
          → Holds g w sums words' ends b window d
      kept d window e k k' = both_beside k k' done.beside (rooms_apart n d e)

      moved : (d : ℕ) → d < n + 1 → d < g.spec.sides → Dec (d ≡ n) → Holds g w sums words' (ends_put ends n r) b new d
      moved d l m (yes e) = let o = own in rw (e, o) done.held
      moved d l m (no e) = rw (other d m e) (kept d new e s' h' (q.moved d (omega arith) m))
