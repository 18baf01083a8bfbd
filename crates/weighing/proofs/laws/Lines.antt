-- The pairs of lines are counted line by line: for a last line they are as many as its window is wide.
use Prim.Native.Nat.{ℕ, suc, ◌+◌, ◌-◌, ◌≤◌, ◌<◌}
use Rattle.std.proofs.Math.Nat.{le_refl}
use Rattle.std.proofs.Math.Decide.{dec_le}
use native.Mathlib.Omega.{arith}
use Rattle.std.specs.Prelude.{◌≡◌, refl, Bool, true, ◌&&◌, List, ltb}
use Rattle.std.proofs.Math.Path.{sym, ap}
use Rattle.std.proofs.Common.{subst, ◌∙◌, lt-ltb, le-ltb, le-leb}
use Rattle.std.proofs.Math.Bool.{false}
use Rattle.std.proofs.Math.Dec.{leb}
use Rattle.std.proofs.lemmas.Bool.{lt-leb}
use Rattle.model.specs.Galley.{Stream}
use Rattle.model.specs.Height.{stacked}
use Rattle.model.proofs.laws.Gather.{and_both}
use Rattle.model.specs.laws.Boxes.{below}
use Rattle.model.proofs.laws.Boxes.{total_below, width}
use Rattle.window.specs.Sums.{spaced_at, bare_at, Pair, Sums}
use Rattle.window.specs.Slide.{FirstBelow, Reaches}
use Rattle.window.specs.laws.Sums.{reach_grows}
use Rattle.window.specs.laws.Slide.{end_passes_from, end_opens}
use Rattle.weighing.specs.declared.lines.Tally.{Tally}
use Rattle.weighing.specs.Lines.{lines_fit, pairs_to, line_pairs, Pairs, Same, Comparable, Compared, WithLine, Counted, Counting, Tallied}
use Rattle.weighing.proofs.laws.Pairs.{below_past}

module _ (sums : List ℕ) (first beside limit m : ℕ) where
  and_false : (a b : Bool) → b ≡ false → (a && b) ≡ false
  and_false true b e = e
  and_false false b e = refl

  -- Before the first line nothing is counted: no line from it on ends before it.
  pub counting_start : first ≤ m → Counting sums first beside limit m first first 0
  unfolding below
  counting_start l =
      record {
        within = omega arith;
        from = le_refl first;
        start = le_refl first;
        few = omega arith;
        each = λ st rows. record {
          counted =
              sym
              (let e : 0 + first ≡ first = omega arith in
              rw e at (below_past 0 first (pairs_to st first beside limit m) (λ i h k. none st i (omega arith))));
          passed = λ a e f l h. absurd (omega arith);
        };
      }
    where
      none : (st : Stream) (i : ℕ) → i < first → pairs_to st first beside limit m i ≡ 0
      none st i l =
          width m 0 0 (λ a. leb first a && lines_fit st beside limit i a) (le_refl 0) (omega arith) (λ a h. absurd (omega arith))
          (λ a h k. absurd (omega arith)) (λ a h k. go a (dec_le first a))
          ∙ omega arith
        where
          go : (a : ℕ) → Dec (first ≤ a) → (leb first a && lines_fit st beside limit i a) ≡ false
          go a (yes h) =
              and_false (leb first a) (lines_fit st beside limit i a)
              (ap (λ t. t && leb (stacked st st.least a i + beside) limit) (le-ltb a i (omega arith)))
          go a (no h) = ap (λ t. t && lines_fit st beside limit i a) (lt-leb first a (omega arith))

  -- The window of one line.
  line_width : (st : Stream) (low i : ℕ) → first ≤ low → low ≤ i → i ≤ m
      → ((a : ℕ) → first ≤ a → a < low → Reaches st st.least beside (limit + 1) a i)
      → ((a : ℕ) → low ≤ a → a < i → Reaches st st.least beside (limit + 1) a i → ⊥) → pairs_to st first beside limit m i ≡ i - low
  line_width st low i from start within passed opened =
      width m low i (λ a. leb first a && lines_fit st beside limit i a) start (omega arith) (λ a l. before a l (dec_le first a))
      (λ a l h.
      and_both (le-leb first a (omega arith))
      (and_both (lt-ltb a i h)
      (le-leb (stacked st st.least a i + beside) limit
      (low_enough (dec_le (stacked st st.least a i + beside) limit) (opened a l h)))))
      (λ a l h.
      and_false (leb first a) (lines_fit st beside limit i a)
      (ap (λ t. t && leb (stacked st st.least a i + beside) limit) (le-ltb a i l)))
    where
      before : (a : ℕ) → a < low → Dec (first ≤ a) → (leb first a && lines_fit st beside limit i a) ≡ false
      before a l (yes h) =
          and_false (leb first a) (lines_fit st beside limit i a)
          (and_false (ltb a i) (leb (stacked st st.least a i + beside) limit) (lt-leb _ limit (omega (arith, passed a h l))))
      before a l (no h) = ap (λ t. t && lines_fit st beside limit i a) (lt-leb first a (omega arith))

      low_enough : {x : ℕ} → Dec (x ≤ limit) → (limit + 1 ≤ x → ⊥) → x ≤ limit
      low_enough (yes l) none = l
      low_enough (no l) none = absurd (none (omega arith))

  -- One line more, for a stream of these sums,
  counted_next : (st : Stream) → Sums st m sums → {low i pairs : ℕ} → Counted st first beside limit m low i pairs → first ≤ low → i ≤ m
      → (new : ℕ) → FirstBelow sums 0 beside (limit + 1) low i new → Counted st first beside limit m new (i + 1) (pairs + (i - new))
  unfolding below
  counted_next st rows {low} {i} {pairs} c from more new found =
      let tight : (k : ℕ) → k ≤ i → Pair st st.least sums 0 k = λ k l. (rows k (omega arith)).tight in
      let passed = end_passes_from sums st st.least 0 beside (limit + 1) low i new tight found first c.passed in
      let opened = end_opens sums st st.least 0 beside (limit + 1) low i new tight found in
      let wide = line_width st new i (omega (arith, found.from)) found.to more (λ a h l. passed a i h l (le_refl i)) opened in
      let e : i + 1 ≡ suc i = omega arith in
      record {
        counted = rw e (omega (arith, c.counted));
        passed = λ a e f l h. passed a e f l (omega arith);
      }

  -- and for each.
  pub counting_next : {low i pairs : ℕ} → Counting sums first beside limit m low i pairs → i ≤ m → m ≤ 4000
      → (new : ℕ) → FirstBelow sums 0 beside (limit + 1) low i new → Counting sums first beside limit m new (i + 1) (pairs + (i - new))
  counting_next {low} {i} {pairs} c more few new found =
      record {
        within = omega arith;
        from = omega (arith, c.from, found.from);
        start = omega (arith, found.to);
        few = omega (arith, c.few);
        each = λ st rows. counted_next st rows (c.each st rows) c.from more new found;
      }

  counted_end : {low i pairs : ℕ} (st : Stream) → Counted st first beside limit m low i pairs → i ≡ suc m
      → pairs ≡ line_pairs st first beside limit m
  unfolding line_pairs
  counted_end {low} {i} {pairs} st c e =
      c.counted ∙ ap (λ n. below n (pairs_to st first beside limit m)) e ∙ sym (total_below m (pairs_to st first beside limit m))

-- How much is too much beside a page from any line up to i can be told.
pub compared_from : {sums : List ℕ} {limit low i : ℕ} → Compared sums limit low i → (a : ℕ) → a ≤ i → Comparable sums limit a i
compared_from {i = i} c a l =
    record {
      start = omega (arith, c.room);
      end = c.room;
      first = (c.small a l).0;
      last = (c.small i (le_refl i)).1;
      limited = c.limited;
    }

-- What else may stand beside the lines.
module _ (sums : List ℕ) (first beside limit m : ℕ) where
  -- Before the first line, anything.
  pub tallied_start : (end : ℕ) → first ≤ m → Tallied sums first beside limit m first first (record { pairs = 0; from = 0; end = end })
  tallied_start end l =
      record {
        counting = counting_start sums first beside limit m l;
        same = λ b h k st rows. (counting_start sums first b limit m l).each st rows;
      }

  -- Where a line's window stays as it is, its low end is found for that too.
  below_beside : (b : ℕ) (st : Stream) → Sums st m sums → {low i new : ℕ} → i ≤ m → first ≤ low
      → FirstBelow sums 0 beside (limit + 1) low i new → (new < i → bare_at sums 0 i + b < limit + 1 + spaced_at sums 0 new)
      → (first < new → limit + 1 + spaced_at sums 0 (new - 1) ≤ bare_at sums 0 i + b) → FirstBelow sums 0 b (limit + 1) low i new
  below_beside b st rows {low} {i} {new} more from found goes tall =
      record {
        from = found.from;
        to = found.to;
        passed = λ a l k.
            let high = tall (omega arith) in
            let grows = reach_grows st st.least a (new - 1) (omega arith) in
            let own = (rows a (omega (arith, found.to))).tight.spaced in
            let last = (rows (new - 1) (omega (arith, found.to))).tight.spaced in
            omega arith;
        kept = λ l. let low = goes l in omega arith;
      }

  -- One line more, with what leaves its window as it is.
  pub tallied_next : {low i : ℕ} {tally r : Tally} → Tallied sums first beside limit m low i tally → i ≤ m → m ≤ 4000 → (new : ℕ)
      → FirstBelow sums 0 beside (limit + 1) low i new → WithLine sums tally first limit new i r
      → Tallied sums first beside limit m new (i + 1) r
  tallied_next {low} {i} {tally} {r} t more few new found with =
      let pairs = sym with.pairs in
      record {
        counting =
            subst (Counting sums first beside limit m new (i + 1)) pairs (counting_next sums first beside limit m t.counting more few new found);
        same = λ b h k st rows.
            subst (Counted st first b limit m new (i + 1)) pairs
            (counted_next sums first b limit m st rows (t.same b (omega (arith, with.from)) (omega (arith, with.end)) st rows)
            t.counting.from more new
            (below_beside b st rows more t.counting.from found (λ l. omega (arith, with.goes b h k l)) (λ l. omega (arith, with.tall b h k l))));
      }

  -- After the last line all pairs are counted.
  pub tallied_end : {low i : ℕ} {tally : Tally} → Tallied sums first beside limit m low i tally → m < i → m ≤ 4000
      → Pairs sums m first beside limit tally.pairs × Same sums m first limit tally
  tallied_end {low} {i} {tally} t over few =
      let e : i ≡ suc m = omega (arith, t.counting.within) in
      let low_enough : tally.pairs ≤ 16004000 = omega (arith, t.counting.few) in (
        record { few = low_enough; counted = λ st rows. counted_end sums first beside limit m st (t.counting.each st rows) e },
        record { few = low_enough; counted = λ b h k st rows. counted_end sums first b limit m st (t.same b h k st rows) e },
      )
