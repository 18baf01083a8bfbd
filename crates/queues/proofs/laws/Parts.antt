-- The two parts of a window: where the second starts, and what their queues hold when something else is stored.
use Rattle.std.specs.Prelude.{ℕ, ◌+◌, ◌*◌, ◌≤◌, ◌<◌, ◌≡◌, refl, ◌⊎◌, Bool, true, false, List, [], ◌∷◌, length, get_or, None}
use Rattle.std.proofs.Common.{arith, subst, ◌∙◌, inl, inr}
use Rattle.std.proofs.Math.Seq.{length-sets}
use Rattle.places.specs.Entry.{Entry}
use Rattle.places.proofs.laws.Stored.{sets_out, sets_in}
use Rattle.window.specs.declared.slide.Window.{Window}
use Rattle.queues.specs.declared.parts.Parts.{Parts}
use Rattle.queues.specs.declared.queue.Source.{Source}
use Rattle.queues.specs.declared.queue.Queue.{Queue}
use Rattle.window.specs.Rows.{Beside}
use Rattle.queues.specs.Queue.{added_of, lines_in, Held, Advanced}
use Rattle.queues.specs.Parts.{row_put, rest_from, Both, Movable, Moved}
use Rattle.window.specs.laws.Rows.{beside_both}
use Rattle.queues.proofs.laws.Held.{held_none, held_same, beside_line, held_beside}

-- A queue that is moved on holds its part, whatever its lines add.
part_held : {work sums old new : List ℕ} {source : Source} {queue r : Queue} {from low high : ℕ} {lacks : Bool}
    → Advanced work sums old source queue from low high r new → queue.lacks ≡ lacks → (before : ℕ) → before ≤ low
    → Held (lines_in work source) (added_of sums lacks) old queue before from
    → Held (lines_in work source) (added_of sums lacks) new r low high
part_held {work} {sums} {old} {new} {source} {queue} {r} {from} {low} {high} moved e before l =
    subst (λ b. Held (lines_in work source) (added_of sums b) old queue before from
    → Held (lines_in work source) (added_of sums b) new r low high) e (moved.held before l)

-- Both queues moved on, one after the other: what is stored for one leaves the other.
module _ (work sums w₀ w₁ w₂ : List ℕ) (source : Source) (parts : Parts) (from to : Window) (full rest : Queue)
    (asked : Movable work sums w₀ source parts from to)
    (one : Advanced work sums w₀ source parts.full from.split to.low to.split full w₁)
    (two : Advanced work sums w₁ source parts.rest from.high (rest_from to) to.high rest w₂) where
  full_held : Held (lines_in work source) (added_of sums false) w₁ full to.low to.split
  full_held = part_held one asked.held.bare from.low asked.rises.low asked.held.full

  rest_held : Held (lines_in work source) (added_of sums true) w₂ rest (rest_from to) to.high
  rest_held =
      part_held two asked.held.keyed (rest_from from)
      (omega (arith, asked.rises.low, asked.rises.split))
      (held_beside (lines_in work source) (added_of sums true) w₀ w₁ parts.rest (rest_from from) from.high parts.full.base
      (parts.full.base + to.split) one.beside
      (inr (omega (arith, asked.held.second, asked.split, asked.few))) asked.held.rest)

  pub parts_moved : Moved work sums w₀ source parts to (record { full = full; rest = rest }) w₂
  parts_moved =
      let apart = asked.held.second in
      let few = asked.few in
      let split = asked.split in
      let high = asked.high in
      let base = one.base in
      record {
        held = record {
          first = one.base;
          second = two.base ∙ asked.held.second;
          bare = one.lacks ∙ asked.held.bare;
          keyed = two.lacks ∙ asked.held.keyed;
          full = held_beside (lines_in work source) (added_of sums false) w₁ w₂ full to.low to.split parts.rest.base
              (parts.rest.base + to.high) two.beside (inl (omega arith)) full_held;
          rest = rest_held;
        };
        fresh = record {
          full = λ l.
              let same = beside_line two.beside full.head (inl (omega (arith, full_held.short))) in
              omega (arith, one.fresh l);
          rest = two.fresh;
        };
        beside = beside_both one.beside two.beside (omega arith, omega arith) (omega arith, omega arith);
      }

-- Where no line of the window is reached queues of no line hold all.
pub both_none : (col : ℕ → Entry) (sums words : List ℕ) (base : ℕ) (window : Window)
    → ((a : ℕ) → window.low ≤ a → (a < window.split) ⊎ (a < window.high) → col a ≡ None)
    → Both col sums words base
    (record {
      full = record { base = base; head = base; tail = base; lacks = false };
      rest = record { base = base + 4000; head = base + 4000; tail = base + 4000; lacks = true };
    })
    window
both_none col sums words base window none =
    record {
      first = refl;
      second = refl;
      bare = refl;
      keyed = refl;
      full = held_none col (added_of sums false) words base false window.low window.split (λ a l m. none a l (inl m));
      rest =
          held_none col (added_of sums true) words (base + 4000) true (rest_from window) window.high
          (λ a l m. none a (omega arith) (inr m));
    }

-- They hold the same of a column that is the same before the ends of both parts,
pub both_same : {col col' : ℕ → Entry} {sums words : List ℕ} {base : ℕ} {parts : Parts} {window : Window} (top : ℕ)
    → window.split ≤ top → window.high ≤ top → ((a : ℕ) → a < top → col' a ≡ col a) → Both col sums words base parts window
    → Both col' sums words base parts window
both_same {col} {col'} {sums} {words} {base} {parts} {window} top l m same h =
    record {
      first = h.first;
      second = h.second;
      bare = h.bare;
      keyed = h.keyed;
      full =
          held_same col col' (added_of sums false) words parts.full window.low window.split
          (λ a n. same a (omega arith)) h.full;
      rest =
          held_same col col' (added_of sums true) words parts.rest (rest_from window) window.high
          (λ a n. same a (omega arith)) h.rest;
    }

-- and of words that are the same where they lie.
pub both_beside : {col : ℕ → Entry} {sums old new : List ℕ} {base from to : ℕ} {parts : Parts} {window : Window} → window.split ≤ 4000
    → window.high ≤ 4000 → Beside old new from to → (base + 8000 ≤ from) ⊎ (to ≤ base) → Both col sums old base parts window
    → Both col sums new base parts window
both_beside {col} {sums} {old} {new} {base} {from} {to} {parts} {window} l m beside apart h =
    record {
      first = h.first;
      second = h.second;
      bare = h.bare;
      keyed = h.keyed;
      full =
          held_beside col (added_of sums false) old new parts.full window.low window.split from to beside (out apart) h.full;
      rest =
          held_beside col (added_of sums true) old new parts.rest (rest_from window) window.high from to beside (out' apart) h.rest;
    }
  where
    out : (base + 8000 ≤ from) ⊎ (to ≤ base) → (parts.full.base + window.split ≤ from) ⊎ (to ≤ parts.full.base)
    out (inl p) = inl (omega (arith, h.first))
    out (inr p) = inr (omega (arith, h.first))

    out' : (base + 8000 ≤ from) ⊎ (to ≤ base) → (parts.rest.base + window.high ≤ from) ⊎ (to ≤ parts.rest.base)
    out' (inl p) = inl (omega (arith, h.second))
    out' (inr p) = inr (omega (arith, h.second))

-- A row that is written has what was written, and every other is as it was.
module _ (rows : List ℕ) (k first second third fourth : ℕ) where
  pub row_length : length (row_put rows k first second third fourth) ≡ length rows
  unfolding row_put
  row_length = length-sets rows (4 * k) (first ∷ second ∷ third ∷ fourth ∷ [])

  pub row_other : (n : ℕ) → (n < 4 * k) ⊎ (4 * k + 4 ≤ n) → get_or (row_put rows k first second third fourth) n 0 ≡ get_or rows n 0
  unfolding row_put
  row_other n h = sets_out (first ∷ second ∷ third ∷ fourth ∷ []) rows (4 * k) n h

  pub row_word : (d n : ℕ) → d < 4 → n ≡ 4 * k + d → 4 * k + 4 ≤ length rows
      → get_or (row_put rows k first second third fourth) n 0 ≡ get_or (first ∷ second ∷ third ∷ fourth ∷ []) d 0
  unfolding row_put
  row_word d n l e room = rw e (sets_in (first ∷ second ∷ third ∷ fourth ∷ []) rows (4 * k) d l room)
