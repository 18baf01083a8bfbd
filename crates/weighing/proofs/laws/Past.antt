-- What the count passes over adds nothing, and what is computed for two columns is the count of their pages.
use Rattle.std.specs.Prelude.{ℕ, zero, suc, ◌+◌, ◌-◌, ◌≤◌, ◌<◌, ◌≡◌, Bool, ◌&&◌, List, get_or, ltb, eqb}
use native.Mathlib.Omega.{arith}
use Rattle.std.proofs.Math.Decide.{dec_le, ℕ_discrete}
use Rattle.std.proofs.Math.Path.{refl, ap}
use Rattle.std.proofs.Common.{sym, ◌∙◌}
use Rattle.std.proofs.Math.Bool.{true, false}
use Rattle.std.proofs.Math.Dec.{leb}
use borrow.Author.Tests.{lt-ltb, le-ltb, ltb-true, ltb-false, le-leb, leb-true, ne_eqb}
use Rattle.model.specs.Gather.{pick, every}
use Rattle.model.specs.Galley.{Place, count}
use Rattle.model.specs.Weighed as model
use Rattle.model.specs.laws.Boxes.{below}
use Rattle.model.proofs.laws.Gather.{each_of, every_at}
use Rattle.galley.specs.declared.Galley.{Galley}
use Rattle.galley.specs.Model.{text_of, float_streams, model_of}
use Rattle.blocks.specs.declared.Counts.{Counts}
use Rattle.blocks.specs.Counts.{place_of, Within}
use Rattle.blocks.specs.laws.Counts.{count_figures, count_tables, under_of, within_proper}
use Rattle.places.specs.Columns.{columns, float_sizes, place_at}
use Rattle.window.specs.laws.Sums.{sums_small}
use Rattle.candidates.specs.Beside.{Under, alone}
use Rattle.candidates.specs.Read.{columns_in, counts_at}
use Rattle.candidates.proofs.laws.Columns.{columns_in_lem, place_at_lem, proper_at, under_at, at_under}
use Rattle.candidates.proofs.laws.Heights.{kinds_some, beside_alone}
use Rattle.weighing.specs.Columns.{pairs_from}
use Rattle.weighing.specs.Count.{pairs_between, pairs_into, Weighable, Between}
use Rattle.weighing.proofs.laws.Pairs.{below_past, pairs_not_past, pairs_not_under, pairs_too_tall, pairs_own, pairs_some}

-- Columns from n on and before m that add nothing may be passed over.
pub past : (n m : ℕ) (f : ℕ → ℕ) → n ≤ m → ((x : ℕ) → n ≤ x → x < m → f x ≡ 0) → below m f ≡ below n f
past n m f l none =
    let e : m ≡ n + (m - n) = omega arith in
    ap (λ k. below k f) e ∙ below_past n (m - n) f (λ x h k. none x h (omega arith))

-- There are figures, and with tables a second stream of floats.
floats_some : (g : Galley) → 1 ≤ float_streams g
unfolding float_streams
floats_some g = go (eqb g.tables.count 0)
  where
    go : (b : Bool) → 1 ≤ pick b 1 2
    go true = omega arith
    go false = omega arith

floats_two : (g : Galley) → ¬ (g.tables.count ≡ 0) → float_streams g ≡ 2
unfolding float_streams
floats_two g n = rw (ne_eqb g.tables.count 0 n)

-- What is placed first.
module _ (bytes : List ℕ) (g : Galley) (first : Counts) (inside : Within g first) where
  abbrev start : Place
  start = place_of g first

  -- A column that has no fewer floats of any stream is past it from its line on,
  past_at : (b : ℕ) → first.figures ≤ (counts_at g 0 b).figures → first.tables ≤ (counts_at g 0 b).tables
      → (a : ℕ) → model.past (model_of bytes g) (place_of g first) (place_at (model_of bytes g) a b) ≡ leb first.lines a
  unfolding model.past every count place_of
  past_at b figures tables a =
      let floats = under_of g (record { lines = 0; figures = first.figures; tables = first.tables }) (counts_at g a b) (omega arith) figures tables in
      let all =
      each_of (model_of bytes g).floats (λ s. leb (count (place_of g first) s) (count (place_of g (counts_at g a b)) s))
      (λ s some l. le-leb (count (place_of g first) s) (count (place_of g (counts_at g a b)) s) (later s some (floats s))) in
      rw (place_at_lem bytes g a b, all) (and_true (leb first.lines a))
    where
      and_true : (t : Bool) → (t && true) ≡ t
      and_true true = refl
      and_true false = refl

      later : (s : ℕ) → 1 ≤ s
          → get_or (place_of g (record { lines = 0; figures = first.figures; tables = first.tables })) s 0 ≤ get_or (place_of g (counts_at g a b)) s 0
          → count (place_of g first) s ≤ count (place_of g (counts_at g a b)) s
      later zero l h = absurd (omega arith)
      later (suc s) l h = h

  -- and one that has fewer of a stream is nowhere past it, and adds nothing.
  pub short_none : (x q : ℕ) → x < columns_in g → q < columns_in g
      → (first.figures ≤ (counts_at g 0 x).figures → first.tables ≤ (counts_at g 0 x).tables → ⊥) → pairs_into bytes g first q x ≡ 0
  unfolding model.past count
  short_none x q from to short =
      pairs_not_past (model_of bytes g) start x q (omega (arith, columns_in_lem bytes g)) (omega (arith, columns_in_lem bytes g))
      (λ a. go a (model.past (model_of bytes g) start (place_at (model_of bytes g) a x)) refl)
    where
      at : (a s : ℕ) → s ≤ (model_of bytes g).floats → model.past (model_of bytes g) start (place_at (model_of bytes g) a x) ≡ true
          → count (place_of g first) s ≤ count (place_of g (counts_at g a x)) s
      at a s l e =
          let low =
          leb-true (count start s) (count (place_at (model_of bytes g) a x) s)
          (every_at (model_of bytes g).floats (λ s. leb (count start s) (count (place_at (model_of bytes g) a x) s)) e s l) in
          rw (place_at_lem bytes g a x) at low

      tables : (a : ℕ) → model.past (model_of bytes g) start (place_at (model_of bytes g) a x) ≡ true → Dec (g.tables.count ≡ 0)
          → first.tables ≤ (counts_at g a x).tables
      tables a e (yes z) = omega (arith, inside.tables)
      tables a e (no n) =
          let two : (model_of bytes g).floats ≡ 2 = floats_two g n in
          omega (arith, at a 2 (omega arith) e, count_tables g first (within_proper g inside), count_tables g (counts_at g a x) (proper_at g a x))

      go : (a : ℕ) (t : Bool) → model.past (model_of bytes g) start (place_at (model_of bytes g) a x) ≡ t
          → model.past (model_of bytes g) start (place_at (model_of bytes g) a x) ≡ false
      go a false e = e
      go a true e =
          absurd (short (omega (arith, at a 1 (floats_some g) e, count_figures g first, count_figures g (counts_at g a x))) (tables a e (ℕ_discrete _ _)))

  -- A column with more of a stream than the end adds nothing,
  pub over_none : (x q : ℕ) → x < columns_in g → q < columns_in g
      → (((counts_at g 0 x).figures ≤ (counts_at g 0 q).figures) → ((counts_at g 0 x).tables ≤ (counts_at g 0 q).tables) → ⊥) → pairs_into bytes g first q x ≡ 0
  over_none x q from to over =
      pairs_not_under (model_of bytes g) start x q (omega (arith, columns_in_lem bytes g)) (omega (arith, columns_in_lem bytes g))
      (λ under. let (figures, tables) = at_under bytes g x q under in over figures tables)

  -- nor does one with no more figures than a column whose floats are too tall, and no more tables unless it has more than the end.
  pub tall_none : (x c q : ℕ) → x < columns_in g → q < columns_in g → Under (model_of bytes g) c q
      → g.spec.htmax < alone (model_of bytes g) (λ st. st.least) g.spec.smin c q → (counts_at g 0 x).figures ≤ (counts_at g 0 c).figures
      → ((counts_at g 0 x).tables ≤ (counts_at g 0 q).tables → (counts_at g 0 x).tables ≤ (counts_at g 0 c).tables) → pairs_into bytes g first q x ≡ 0
  tall_none x c q from to under tall figures tables =
      pairs_too_tall (model_of bytes g) start x q (omega (arith, columns_in_lem bytes g)) (omega (arith, columns_in_lem bytes g)) c under tall
      (λ u. under_at bytes g x c figures (tables (at_under bytes g x q u).1))

  -- What is computed for two columns is the count of their pages, where the floats between are not too tall alone
  between_short : (b q floats : ℕ) (some : Bool) → q < columns_in g → b ≤ q → Under (model_of bytes g) b q
      → first.figures ≤ (counts_at g 0 b).figures → first.tables ≤ (counts_at g 0 b).tables → floats ≡ alone (model_of bytes g) (λ st. st.least) g.spec.smin b q → floats ≤ g.spec.htmax → some ≡ ltb b q
      → pairs_into bytes g first q b ≡ pairs_between (text_of bytes g.text) g first.lines floats some
  unfolding pairs_between
  between_short b q floats true to before under figures tables high short e =
      let l = ltb-true b q (sym e) in
      let wide : q < columns (float_sizes (model_of bytes g)) = omega (arith, columns_in_lem bytes g) in
      let more = beside_alone (model_of bytes g) (λ st. st.least) g.spec.smin b q (kinds_some (model_of bytes g) b q wide under l) in
      let apart = more ∙ ap (λ n. n + g.spec.smin) (sym high) in
      pairs_some (model_of bytes g) start first.lines b q wide l under (omega arith) inside.lines (past_at b figures tables)
      ∙ rw (apart, le-ltb g.spec.htmax floats short) refl
  between_short b q floats false to before under figures tables high short e =
      let l = ltb-false b q (sym e) in
      let same : b ≡ q = omega arith in
      ap (λ x. pairs_from (model_of bytes g) start x q) same
      ∙ pairs_own (model_of bytes g) start first.lines q (omega (arith, columns_in_lem bytes g))
      (past_at q (rw (← same) figures) (rw (← same) tables))
      ∙ rw (le-ltb g.spec.htmax floats short) refl

  -- and where they are.
  pub between_at : (b q floats : ℕ) (some : Bool) → q < columns_in g → b ≤ q → Under (model_of bytes g) b q
      → first.figures ≤ (counts_at g 0 b).figures → first.tables ≤ (counts_at g 0 b).tables → floats ≡ alone (model_of bytes g) (λ st. st.least) g.spec.smin b q → some ≡ ltb b q
      → pairs_into bytes g first q b ≡ pairs_between (text_of bytes g.text) g first.lines floats some
  unfolding pairs_between
  between_at b q floats some to before under figures tables high e = go (dec_le floats g.spec.htmax)
    where
      go : Dec (floats ≤ g.spec.htmax) → pairs_into bytes g first q b ≡ pairs_between (text_of bytes g.text) g first.lines floats some
      go (yes short) = between_short b q floats some to before under figures tables high short e
      go (no tall) =
          tall_none b b q (omega arith) to under (omega arith) (omega arith) (λ k. omega arith)
          ∙ rw (lt-ltb g.spec.htmax floats (omega arith)) refl

-- Whatever is beside them, the lines can be paired.
pub weighable_between : {bytes : List ℕ} {g : Galley} {sums : List ℕ} {first : Counts} → Weighable bytes g sums first → (floats : ℕ)
    → floats ≤ 60000000 → Between g sums first.lines floats
weighable_between {bytes} {g} {sums} ready floats low =
    let spec = ready.sound.spec_ranged in
    record {
      separation = omega (arith, spec.smins, spec.smaxs);
      low = low;
      pairable = λ beside l.
          record {
            few = ready.sound.few_lines;
            from = ready.placed.lines;
            room = ready.summed.room;
            small = sums_small bytes g.text ready.sound.text ready.sound.few_lines sums ready.summed.rows 0 (omega arith);
            added = l;
            limited = omega (arith, spec.htmaxs);
          };
    }
