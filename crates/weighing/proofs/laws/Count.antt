-- The columns where pages start are counted back from that where they end; and so for every such column.
use Rattle.std.specs.Prelude.{ℕ, suc, ◌+◌, ◌-◌, ◌*◌, ◌≤◌, ◌<◌, ◌≡◌, refl, List}
use Rattle.std.proofs.Common.{arith, ap, sym, ◌∙◌}
use Rattle.model.specs.Weighed.{weighed_from}
use Rattle.model.specs.laws.Boxes.{below}
use Rattle.galley.specs.declared.Galley.{Galley}
use Rattle.galley.specs.Model.{floats_of, model_of}
use Rattle.blocks.specs.declared.Counts.{Counts}
use Rattle.blocks.specs.declared.heights.Heights.{Heights}
use Rattle.blocks.specs.Counts.{place_of}
use Rattle.blocks.specs.Heights.{no_heights, Room, block_before}
use Rattle.blocks.specs.laws.Heights.{stacked_nothing, stacked_room, back_stacked}
use Rattle.candidates.specs.Read.{columns_in, counts_at, row_of}
use Rattle.candidates.proofs.laws.Columns.{few_floats, columns_few, row_next, row_grows, row_since, row_under, row_in, columns_in_lem}
use Rattle.weighing.specs.Count.{pairs_into, Weighable, Part, PartOf, CountableColumn, RowsCount, RowCount, ColumnStep, ColumnCounted, AllCount}
use Rattle.weighing.proofs.laws.Columns.{weighed_columns}
use Rattle.weighing.proofs.laws.From.{end_within, over, short, from_pairs, tall_over, tall_all, row_passed, rows_passed}
use Rattle.weighing.proofs.laws.Past.{past}

-- The last row is that of all figures.
rows_all : (g : Galley) → row_of g (suc g.figures.count) ≡ columns_in g
unfolding row_of columns_in
rows_all g = let e : suc g.figures.count ≡ g.figures.count + 1 = omega arith in ap (λ n. n * (g.tables.count + 1)) e

-- The columns where pages start that end in column q.
module _ {bytes : List ℕ} {g : Galley} {sums : List ℕ} {first : Counts} {q : ℕ} (asked : CountableColumn bytes g sums first q) where
  abbrev end : Counts
  end = counts_at g 0 q

  -- The count begins past the end's row: columns there have more figures than the end.
  pub rows_first : RowsCount bytes g first q ((counts_at g 0 q).figures + 1) no_heights 0
  rows_first =
      let next : end.figures + 1 ≡ suc end.figures = omega arith in
      let all : row_of g (end.figures + 1) ≤ columns_in g =
      rw next (omega (arith, row_grows g (suc end.figures) (suc g.figures.count) (omega (arith, (end_within asked).figures)), rows_all g)) in
      let none = past (row_of g (end.figures + 1)) (columns_in g) (pairs_into bytes g first q) all
      (λ x l h. over asked x h (λ a b. omega (arith, row_since g 0 (end.figures + 1) x l))) in
      record {
        within = omega arith;
        high = stacked_nothing (floats_of bytes g.figures) (end.figures + 1) end.figures (omega arith);
        few = omega (arith, all);
        counted = omega (arith, none);
      }

  module _ {b : ℕ} {figures : Heights} {pairs : ℕ} (run : RowsCount bytes g first q b figures pairs) where
    -- There is room for the figure before.
    pub figure_room : Room bytes g.figures figures (counts_at g 0 q).figures
    figure_room =
        stacked_room bytes g.figures b end.figures figures asked.ready.sound.figures.sound
        (omega (arith, asked.ready.sound.figures.few)) (end_within asked).figures run.high

    -- Back at the figures placed first all columns are counted: those before have fewer.
    pub rows_last : b ≤ first.figures → ColumnCounted bytes g first q pairs
    unfolding below
    rows_last l =
        let none = past 0 (row_of g b) (pairs_into bytes g first q) (omega arith)
        (λ x k h. short asked x (omega (arith, h, run.few)) (λ a c. omega (arith, row_under g 0 b x h))) in
        record { few = omega (arith, run.few, columns_few g (few_floats asked.ready.sound)); counted = omega (arith, run.counted) }

    -- A row begins past the end's tables: columns there have more.
    pub row_first : first.figures < b → (figures' : Heights) → figures' ≡ block_before bytes g.figures figures (b - 1) (counts_at g 0 q).figures
        → RowCount bytes g first q (b - 1) ((counts_at g 0 q).tables + 1) figures' no_heights pairs
    row_first some figures' put =
        let step : b ≡ suc (b - 1) = omega arith in
        let next = row_next g (b - 1) in
        let after = rw (← step) at next in
        let wide : row_of g (b - 1) + (end.tables + 1) ≤ row_of g b = omega (arith, after, (end_within asked).tables) in
        let none = past (row_of g (b - 1) + (end.tables + 1)) (row_of g b) (pairs_into bytes g first q) wide
        (λ x l h.
        let (f, t) = row_in g (b - 1) x (omega arith) (rw (← step) h) in over asked x (omega (arith, h, run.few)) (λ a c. omega arith)) in
        record {
          figured = record { since = omega arith; within = omega (arith, run.within); high = back_stacked bytes g.figures b end.figures figures figures' (omega arith) put run.high };
          within = omega arith;
          high = stacked_nothing (floats_of bytes g.tables) (end.tables + 1) end.tables (omega arith);
          few = omega (arith, run.few, wide);
          counted = omega (arith, run.counted, none);
        }

  module _ {b t : ℕ} {figures tables : Heights} {pairs : ℕ} (run : RowCount bytes g first q b t figures tables pairs) where
    -- There is room for the table before.
    pub table_room : Room bytes g.tables tables (counts_at g 0 q).tables
    table_room =
        stacked_room bytes g.tables t end.tables tables asked.ready.sound.tables.sound
        (omega (arith, asked.ready.sound.tables.few)) (end_within asked).tables run.high

    -- Back at the tables placed first the row is counted: the columns before have fewer.
    pub row_last : t ≤ first.tables → RowsCount bytes g first q b figures pairs
    row_last l =
        let none = past (row_of g b) (row_of g b + t) (pairs_into bytes g first q) (omega arith)
        (λ x k h.
        let (f, at) = row_in g b x k (omega (arith, row_next g b, run.within, (end_within asked).tables)) in
        short asked x (omega (arith, h, run.few)) (λ a c. omega arith)) in
        record { within = omega (arith, run.figured.within); high = run.figured.high; few = omega (arith, run.few); counted = omega (arith, run.counted, none) }

    module _ (some : first.tables < t) (tables' : Heights) (put : tables' ≡ block_before bytes g.tables tables (t - 1) (counts_at g 0 q).tables) where
      -- What the column of the next table has of both streams.
      abbrev figures_part : Part
      figures_part = record { from = b; heights = figures }

      abbrev tables_part : Part
      tables_part = record { from = t - 1; heights = tables' }

      pub row_tabled : PartOf bytes g.tables first.tables (counts_at g 0 q).tables (record { from = t - 1; heights = tables' })
      row_tabled =
          record {
            since = omega arith;
            within = omega (arith, run.within);
            high = back_stacked bytes g.tables t end.tables tables tables' (omega arith) put run.high;
          }

      module _ {floats : Heights} {more : ℕ} (step : ColumnStep bytes g first q figures_part tables_part floats more) where
        -- A turn adds the column's pages,
        added : pairs + more + below (row_of g b + (t - 1)) (pairs_into bytes g first q) ≡ below (columns_in g) (pairs_into bytes g first q)
        unfolding below
        added =
            let here = from_pairs asked run.figured row_tabled floats step.laid in
            let next : row_of g b + t ≡ suc (row_of g b + (t - 1)) = omega arith in
            let counted = rw next at run.counted in
            omega (arith, counted, here, step.counted)

        pub row_few : pairs + more ≤ 164098018251
        row_few = omega (arith, run.few, step.few, columns_few g (few_floats asked.ready.sound))

        pub row_counted : RowCount bytes g first q b (t - 1) figures tables' (pairs + more)
        row_counted =
            record {
              figured = run.figured;
              within = omega (arith, run.within);
              high = row_tabled.high;
              few = omega (arith, run.few, step.few);
              counted = added;
            }

        -- and where the floats are too tall the row is counted,
        pub row_tall : g.spec.htmax < floats.tight → RowsCount bytes g first q b figures (pairs + more)
        row_tall tall =
            let none = past (row_of g b) (row_of g b + (t - 1)) (pairs_into bytes g first q) (omega arith)
            (row_passed asked run.figured row_tabled floats step.laid (tall_over asked run.figured row_tabled floats step.laid tall)) in
            record { within = omega (arith, run.figured.within); high = run.figured.high; few = omega (arith, run.few, step.few); counted = omega (arith, added, none) }

        -- or all columns are, where the figures alone are.
        pub row_all : g.spec.htmax < floats.tight → (counts_at g 0 q).tables ≤ t - 1 → ColumnCounted bytes g first q (pairs + more)
        unfolding below
        row_all tall all =
            let none = past 0 (row_of g b + (t - 1)) (pairs_into bytes g first q) (omega arith)
            (λ x l h.
            rows_passed asked run.figured row_tabled floats step.laid (tall_over asked run.figured row_tabled floats step.laid tall)
            (tall_all asked run.figured row_tabled floats step.laid tall all) x l h) in
            record { few = row_few; counted = omega (arith, added, none) }

-- The columns where pages end, one after another.
module _ {bytes : List ℕ} {g : Galley} {sums : List ℕ} {first : Counts} (ready : Weighable bytes g sums first) where
  pub all_first : AllCount bytes g first 0 0
  unfolding below
  all_first = record { within = omega arith; few = omega arith; counted = refl }

  module _ {q pairs : ℕ} (run : AllCount bytes g first q pairs) where
    -- So many cannot pass a word of 64 bits.
    pub all_few : (more : ℕ) → more ≤ 164098018251 → pairs + more ≤ 10252 * 164098018251
    all_few more few = omega (arith, run.few, run.within, columns_few g (few_floats ready.sound))

    pub all_next : q < columns_in g → (more : ℕ) → ColumnCounted bytes g first q more → AllCount bytes g first (q + 1) (pairs + more)
    unfolding below
    all_next l more done =
        let e : q + 1 ≡ suc q = omega arith in
        record { within = omega arith; few = omega (arith, run.few, done.few); counted = rw e (omega (arith, run.counted, done.counted)) }

    -- After the last all pages are counted.
    pub all_last : columns_in g ≤ q → pairs ≡ weighed_from (model_of bytes g) (place_of g first)
    all_last l =
        let e : q ≡ columns_in g = omega (arith, run.within) in
        run.counted ∙ rw (e, ← columns_in_lem bytes g) (sym (weighed_columns (model_of bytes g) (place_of g first)))
