-- The columns where pages start that end in one column, counted back in one run: a table more on the page each time, then a figure more and
-- again no table.
use Rattle.std.specs.Prelude.{ℕ, suc, ◌+◌, ◌-◌, ◌≤◌, ◌<◌, ◌≡◌, ◌⊎◌, true, false, ◌&&◌, ◌||◌, List, ltb, leb}
use Rattle.std.proofs.Math.Decide.{dec_le}
use Rattle.std.proofs.Common.{arith, inl, inr, ltb-true, ltb-false, leb-false}
use Rattle.model.specs.laws.Boxes.{below}
use Rattle.model.proofs.laws.Gather.{or_cases}
use Rattle.galley.specs.declared.Galley.{Galley}
use Rattle.galley.proofs.laws.Pick.{or_false}
use Rattle.blocks.specs.declared.Counts.{Counts}
use Rattle.blocks.specs.declared.heights.Heights.{Heights}
use Rattle.candidates.specs.Read.{columns_in, counts_at, row_of}
use Rattle.candidates.proofs.laws.Columns.{few_floats, columns_few, row_next, row_grows, row_of_lem, row_in}
use Rattle.weighing.specs.Count.{pairs_into, Part, nothing, with_one_more, Extendable, column_of, CountableColumn, ColumnCount, ColumnStep, row_over, rows_over, ColumnCounted}
use Rattle.weighing.proofs.laws.From.{end_within, over, short, from_before, from_pairs, row_passed, rows_passed}
use Rattle.weighing.proofs.laws.Part.{part_nothing, part_more, part_room}
use Rattle.weighing.proofs.laws.Past.{past}

-- The columns where pages start that end in column q.
module _ {bytes : List ℕ} {g : Galley} {sums : List ℕ} {first : Counts} {q : ℕ} (asked : CountableColumn bytes g sums first q) where
  abbrev end : Counts
  end = counts_at g 0 q

  -- Where the end has fewer of a stream than are placed first, no page ends in the column.
  pub column_short : ltb (counts_at g 0 q).figures first.figures || ltb (counts_at g 0 q).tables first.tables ≡ true
      → ColumnCounted bytes g first q 0
  unfolding below
  column_short e =
      let none = past 0 (columns_in g) (pairs_into bytes g first q) (omega arith)
      (λ x l h.
      go x h (dec_le (counts_at g 0 x).figures end.figures) (dec_le (counts_at g 0 x).tables end.tables)
      (or_cases (ltb end.figures first.figures) (ltb end.tables first.tables) e)) in
      record { few = omega arith; counted = omega arith }
    where
      go : (x : ℕ) → x < columns_in g → Dec ((counts_at g 0 x).figures ≤ end.figures) → Dec ((counts_at g 0 x).tables ≤ end.tables)
          → (ltb end.figures first.figures ≡ true) ⊎ (ltb end.tables first.tables ≡ true) → pairs_into bytes g first q x ≡ 0
      go x h (yes f) (yes t) (inl l) = short asked x h (λ a b. omega (arith, ltb-true end.figures first.figures l))
      go x h (yes f) (yes t) (inr l) = short asked x h (λ a b. omega (arith, ltb-true end.tables first.tables l))
      go x h (yes f) (no t) l = over asked x h (λ a b. t b)
      go x h (no f) t l = over asked x h (λ a b. f a)

  -- Else the count begins with the pages within the column: those past it have more of a stream than the end.
  pub column_first : ltb (counts_at g 0 q).figures first.figures || ltb (counts_at g 0 q).tables first.tables ≡ false
      → ColumnCount bytes g first q (nothing (counts_at g 0 q).figures) (nothing (counts_at g 0 q).tables) 0
  column_first e =
      let (f, t) = or_false (ltb end.figures first.figures) (ltb end.tables first.tables) e in
      let here : column_of g (nothing end.figures) (nothing end.tables) ≡ q = row_of_lem g 0 q in
      let none = past (suc q) (columns_in g) (pairs_into bytes g first q) asked.column
      (λ x l h. over asked x h (λ a b. omega (arith, row_of_lem g 0 q, row_of_lem g 0 x, row_grows g _ _ a))) in
      record {
        figured = part_nothing bytes g.figures first.figures end.figures (ltb-false _ _ f);
        tabled = part_nothing bytes g.tables first.tables end.tables (ltb-false _ _ t);
        few = rw here (omega (arith, asked.column));
        counted = rw here (omega arith);
      }

  module _ {figures tables : Part} {pairs : ℕ} (run : ColumnCount bytes g first q figures tables pairs) {floats : Heights} {more : ℕ}
      (step : ColumnStep bytes g first q figures tables floats more) where
    abbrev from : ℕ
    from = column_of g figures tables

    -- A turn adds the column's pages.
    added : pairs + more + below from (pairs_into bytes g first q) ≡ below (columns_in g) (pairs_into bytes g first q)
    unfolding below
    added = let here = from_pairs asked run.figured run.tabled floats step.laid in omega (arith, run.counted, step.counted)

    pub column_few : pairs + more ≤ 164098018251
    column_few = omega (arith, run.few, step.few, columns_few g (few_floats asked.ready.sound))

    -- Then comes the column with a table more on the page,
    module _ (left : row_over g first floats tables ≡ false) where
      some_tables : first.tables < tables.from
      some_tables =
          leb-false tables.from first.tables
          (or_false (ltb g.spec.htmax floats.tight) (leb tables.from first.tables) left).1

      pub table_room : Extendable bytes g.tables tables (counts_at g 0 q).tables
      table_room =
          part_room bytes g.tables first.tables end.tables run.tabled some_tables asked.ready.sound.tables.sound
          (omega (arith, asked.ready.sound.tables.few)) (end_within asked).tables

      pub table_next : ColumnCount bytes g first q figures (with_one_more bytes g.tables tables (counts_at g 0 q).tables) (pairs + more)
      table_next =
          let next : from ≡ suc (row_of g figures.from + (tables.from - 1)) = omega (arith, some_tables) in
          record {
            figured = run.figured;
            tabled = part_more bytes g.tables first.tables end.tables run.tabled some_tables;
            few = omega (arith, run.few, step.few);
            counted = rw next at added;
          }

    module _ (done : row_over g first floats tables ≡ true) where
      -- or that with a figure more and no table,
      module _ (left : rows_over g first q floats figures tables ≡ false) where
        some_figures : first.figures < figures.from
        some_figures =
            leb-false figures.from first.figures
            (or_false (ltb g.spec.htmax floats.tight && leb end.tables tables.from) (leb figures.from first.figures) left).1

        pub figure_room : Extendable bytes g.figures figures (counts_at g 0 q).figures
        figure_room =
            part_room bytes g.figures first.figures end.figures run.figured some_figures asked.ready.sound.figures.sound
            (omega (arith, asked.ready.sound.figures.few)) (end_within asked).figures

        row_step : figures.from ≡ suc (figures.from - 1)
        row_step = omega (arith, some_figures)

        figure_less : row_of g (figures.from - 1) + end.tables < from
        figure_less =
            let row = row_next g (figures.from - 1) in
            omega (arith, rw (← row_step) at row, (end_within asked).tables)

        -- where the columns between have more tables than the end, or are passed in the row,
        row_between : (x : ℕ) → suc (row_of g (figures.from - 1) + end.tables) ≤ x → x < from → pairs_into bytes g first q x ≡ 0
        row_between x l h = go (dec_le (row_of g figures.from) x)
          where
            go : Dec (row_of g figures.from ≤ x) → pairs_into bytes g first q x ≡ 0
            go (yes k) = row_passed asked run.figured run.tabled floats step.laid done x k h
            go (no k) =
                let (f, t) = row_in g (figures.from - 1) x (omega arith) (rw (← row_step) (omega arith)) in
                over asked x (omega (arith, from_before asked run.figured run.tabled, asked.column)) (λ a b. omega arith)

        pub figure_next : ColumnCount bytes g first q (with_one_more bytes g.figures figures (counts_at g 0 q).figures) (nothing (counts_at g 0 q).tables) (pairs + more)
        figure_next =
            let none = past (suc (row_of g (figures.from - 1) + end.tables)) from (pairs_into bytes g first q) figure_less row_between in
            record {
              figured = part_more bytes g.figures first.figures end.figures run.figured some_figures;
              tabled = part_nothing bytes g.tables first.tables end.tables (omega (arith, run.tabled.since, run.tabled.within));
              few = omega (arith, run.few, step.few, figure_less);
              counted = omega (arith, added);
            }

      -- or none is left.
      pub column_last : rows_over g first q floats figures tables ≡ true → ColumnCounted bytes g first q (pairs + more)
      unfolding below
      column_last all =
          let none = past 0 from (pairs_into bytes g first q) (omega arith)
          (rows_passed asked run.figured run.tabled floats step.laid done all) in
          record { few = column_few; counted = omega (arith, added) }
