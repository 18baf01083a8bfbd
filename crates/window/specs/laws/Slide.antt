-- The ends of a window: where they start, that they serve the next line, and that the first lines found are the
-- window's.
use Rattle.std.specs.Prelude.{ℕ, suc, ◌+◌, ◌≤◌, ◌<◌, ◌≡◌, true, List}
use Rattle.std.proofs.Common.{le_refl, arith, ltb-true}
use Rattle.std.proofs.Math.Decide.{dec_le}
use Rattle.model.specs.Galley.{Stream}
use Rattle.model.proofs.laws.Height.{stacked_grows}
use Rattle.window.specs.declared.slide.Load.{Load}
use Rattle.window.specs.declared.slide.Window.{Window}
use Rattle.window.specs.Sums.{spaced_at, Pair, Sums}
use Rattle.window.specs.Slide.{shut_at, reached_of, too_tall, Readable, Reachable, FirstBelow, Reaches, Tall, Ends, Open}
use Rattle.window.specs.laws.Sums.{reach_stacked, reach_grows}

-- Where nothing is passed all ends are at the first line, whatever the line.
pub ends_first : (st : Stream) (load : Load) (i : ℕ) → load.first ≤ i → Ends st load (shut_at load) i
ends_first st load i h =
    record {
      low = h;
      split = h;
      high = h;
      since = record { low = le_refl _; split = le_refl _; high = le_refl _ };
      passed = λ a e k l m. absurd (omega arith);
      whole = λ a e k l m. absurd (omega arith);
      filled = λ a e k l m. absurd (omega arith);
    }

-- The window of a line has the ends that the next line starts from.
pub ends_next : (st : Stream) (load : Load) (window : Window) (i : ℕ) → Open st load window i → Ends st load window (suc i)
ends_next st load window i o =
    let ends = o.ends in
    record {
      low = omega (arith, ends.low);
      split = omega (arith, ends.split);
      high = omega (arith, ends.high);
      since = ends.since;
      passed = λ a e k l m. ends.passed a e k l (omega arith);
      whole = λ a e k l m. ends.whole a e k l (omega arith);
      filled = λ a e k l m. ends.filled a e k l (omega arith);
    }

-- How far a page reaches can be read.
pub reaches_readable : {sums : List ℕ} {space beside limit from i : ℕ} → Reachable sums space beside limit from i
    → Readable sums space beside i
reaches_readable {i = i} r =
    record { either = r.either; room = omega (arith, r.room); small = (r.small i (le_refl i)).1; added = r.added }

-- A page that reaches the limit by line i, as the sums tell, reaches it from there on, since a page that grows at its end only gets higher.
reaches_on : (sums : List ℕ) (st : Stream) (gap : ℕ → ℕ) (space beside limit a i : ℕ) → Pair st gap sums space a
    → Pair st gap sums space i → a < i → limit + spaced_at sums space a ≤ reached_of sums space beside i → (e : ℕ) → i ≤ e
    → Reaches st gap beside limit a e
reaches_on sums st gap space beside limit a i start whole inside high e n =
    let page = reach_stacked st gap a i inside in
    let grows = stacked_grows st gap a i a e (le_refl a) (omega arith) n in
    omega (arith, start.spaced, whole.bare)

-- So a page that is too tall by line i stays too tall.
pub tall_on : {sums : List ℕ} {st : Stream} {m : ℕ} → Sums st m sums → (load : Load) (a i : ℕ) → a < i → i ≤ m
    → too_tall sums load a i ≡ true → (e : ℕ) → i ≤ e → Tall st load a e
tall_on {sums} {st} rows load a i inside within tall e n =
    let high = ltb-true (load.htmax + spaced_at sums 0 a) (reached_of sums 0 load.tight i) tall in
    reaches_on sums st st.least 0 load.tight (load.htmax + 1) a i (rows a (omega arith)).tight (rows i within).tight inside (omega arith) e n

-- One end of the window: from what was known of the old one, and the first line from there on whose page stays below the limit.
module _ (sums : List ℕ) (st : Stream) (gap : ℕ → ℕ) (space beside limit old i new : ℕ)
    (pairs : (k : ℕ) → k ≤ i → Pair st gap sums space k) (first : FirstBelow sums space beside limit old i new) where
  -- Whatever starts before it reaches the limit by line i and from there on. Starts before a first line may be left out of it.
  pub end_passes_from : (low : ℕ) → ((a e : ℕ) → low ≤ a → a < old → i ≤ e → Reaches st gap beside limit a e) → (a e : ℕ) → low ≤ a → a < new
      → i ≤ e → Reaches st gap beside limit a e
  end_passes_from low before a e from l n = go (dec_le (suc a) old)
    where
      go : Dec (suc a ≤ old) → Reaches st gap beside limit a e
      go (yes p) = before a e from p n
      go (no p) =
          let inside : a < i = omega (arith, first.to) in
          let high = first.passed a (omega arith) l in
          reaches_on sums st gap space beside limit a i (pairs a (omega arith)) (pairs i (le_refl i)) inside (omega arith) e n

  -- Whatever starts from there on does not: a page that starts later is lower.
  pub end_opens : (a : ℕ) → new ≤ a → a < i → Reaches st gap beside limit a i → ⊥
  end_opens a l m reaches =
      let low = first.kept (omega arith) in
      let start = (pairs new (omega arith)).spaced in
      let whole = (pairs i (omega arith)).bare in
      let page = reach_stacked st gap a i m in
      let grows = reach_grows st gap new a l in
      omega arith

-- The first lines found are the ends of the window.
pub slide_opens : (sums : List ℕ) (st : Stream) (m : ℕ) (load : Load) (old new : Window) (i : ℕ)
    → FirstBelow sums 0 load.tight (load.htmax + 1) old.low i new.low
    → FirstBelow sums 1 load.loose load.htmax old.split i new.split
    → FirstBelow sums 1 load.loose load.htmin old.high i new.high
    → Sums st m sums → i ≤ m → Ends st load old i → Open st load new i
slide_opens sums st m load old new i low split high rows within ends =
    record {
      ends = record {
        low = low.to;
        split = split.to;
        high = high.to;
        since =
            record {
              low = omega (arith, low.from, ends.since.low);
              split = omega (arith, split.from, ends.since.split);
              high = omega (arith, high.from, ends.since.high);
            };
        passed =
            end_passes_from sums st st.least 0 load.tight (load.htmax + 1) old.low i new.low tight low load.first ends.passed;
        whole =
            end_passes_from sums st st.most 1 load.loose load.htmax old.split i new.split loose split load.first ends.whole;
        filled =
            end_passes_from sums st st.most 1 load.loose load.htmin old.high i new.high loose high load.first ends.filled;
      };
      fits = end_opens sums st st.least 0 load.tight (load.htmax + 1) old.low i new.low tight low;
      white = end_opens sums st st.most 1 load.loose load.htmax old.split i new.split loose split;
      short = end_opens sums st st.most 1 load.loose load.htmin old.high i new.high loose high;
    }
  where
    tight : (k : ℕ) → k ≤ i → Pair st st.least sums 0 k
    tight k l = (rows k (omega arith)).tight

    loose : (k : ℕ) → k ≤ i → Pair st st.most sums 1 k
    loose k l = (rows k (omega arith)).loose
