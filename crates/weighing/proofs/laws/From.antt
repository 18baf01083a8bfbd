-- The column where pages start that have these parts of figures and tables: what it has to column q, and which columns before it add
-- nothing.
use Rattle.std.specs.Prelude.{ℕ, suc, ◌+◌, ◌≤◌, ◌<◌, ◌≡◌, refl, ◌⊎◌, Bool, true, false, ◌&&◌, ◌||◌, List, ltb, leb}
use Rattle.std.proofs.Math.Decide.{dec_le}
use Rattle.std.proofs.Common.{arith, sym, ap, inl, inr, lt-ltb, le-ltb, le-leb, ltb-true, ltb-false, leb-true}
use Rattle.model.proofs.laws.Gather.{and_left, and_right, or_cases}
use Rattle.galley.specs.declared.Galley.{Galley}
use Rattle.galley.specs.Model.{text_of, model_of}
use Rattle.blocks.specs.declared.Counts.{Counts}
use Rattle.blocks.specs.declared.heights.Heights.{Heights}
use Rattle.blocks.specs.Counts.{Within}
use Rattle.candidates.specs.Beside.{Under, alone}
use Rattle.candidates.specs.Read.{columns_in, counts_at, row_of}
use Rattle.starts.specs.Sweep.{Layable, floats_alone}
use Rattle.candidates.proofs.laws.Columns.{row_next, row_grows, row_of_lem, row_figures, row_tables, row_under, row_in, within_at, under_at}
use Rattle.starts.proofs.laws.Floats.{alone_at, floats_lay, alone_low}
use Rattle.weighing.specs.Count.{pairs_between, pairs_into, Between, Part, PartOf, column_of, CountableColumn, row_over, rows_over}
use Rattle.weighing.proofs.laws.Past.{short_none, over_none, tall_none, between_at, weighable_between}

module _ {bytes : List ℕ} {g : Galley} {sums : List ℕ} {first : Counts} {q : ℕ} (asked : CountableColumn bytes g sums first q) where
  abbrev end : Counts
  end = counts_at g 0 q

  -- A column adds nothing.
  abbrev None : ℕ → Type 0
  None x = pairs_into bytes g first q x ≡ 0

  pub end_within : Within g (counts_at g 0 q)
  end_within = within_at g 0 q (omega arith) asked.column

  -- None does with more of a stream than the end, nor with fewer than are placed first.
  pub over : (x : ℕ) → x < columns_in g → ((counts_at g 0 x).figures ≤ (counts_at g 0 q).figures → (counts_at g 0 x).tables ≤ (counts_at g 0 q).tables → ⊥)
      → pairs_into bytes g first q x ≡ 0
  over x h = over_none bytes g first asked.ready.placed x q h asked.column

  pub short : (x : ℕ) → x < columns_in g → (first.figures ≤ (counts_at g 0 x).figures → first.tables ≤ (counts_at g 0 x).tables → ⊥)
      → pairs_into bytes g first q x ≡ 0
  short x h = short_none bytes g first asked.ready.placed x q h asked.column

  module _ {figures tables : Part} (figured : PartOf bytes g.figures first.figures (counts_at g 0 q).figures figures)
      (tabled : PartOf bytes g.tables first.tables (counts_at g 0 q).tables tables) where
    abbrev from : ℕ
    from = column_of g figures tables

    low : tables.from ≤ g.tables.count
    low = omega (arith, tabled.within, end_within.tables)

    from_figures : (counts_at g 0 from).figures ≡ figures.from
    from_figures = row_figures g 0 figures.from tables.from low

    from_tables : (counts_at g 0 from).tables ≡ tables.from
    from_tables = row_tables g 0 figures.from tables.from low

    from_under : Under (model_of bytes g) from q
    from_under = under_at bytes g from q (omega (arith, from_figures, figured.within)) (omega (arith, from_tables, tabled.within))

    pub from_before : column_of g figures tables ≤ q
    from_before = omega (arith, row_grows g figures.from end.figures figured.within, row_of_lem g 0 q, tabled.within)

    -- There are floats between where the column has fewer figures or fewer tables.
    from_some : (ltb figures.from end.figures || ltb tables.from end.tables) ≡ ltb from q
    from_some = go (ltb figures.from end.figures) refl (ltb tables.from end.tables) refl
      where
        go : (x : Bool) → ltb figures.from end.figures ≡ x → (y : Bool) → ltb tables.from end.tables ≡ y → (x || y) ≡ ltb from q
        go true e y h =
            let l = ltb-true figures.from end.figures e in
            sym (lt-ltb from q (omega (arith, row_grows g (suc figures.from) end.figures l, row_next g figures.from, row_of_lem g 0 q, low)))
        go false e true h =
            let l = ltb-true tables.from end.tables h in
            sym (lt-ltb from q (omega (arith, row_grows g figures.from end.figures figured.within, row_of_lem g 0 q)))
        go false e false h =
            let l = ltb-false figures.from end.figures e in
            let k = ltb-false tables.from end.tables h in
            let same : end.figures ≡ figures.from = omega (arith, figured.within) in
            sym (le-ltb from q (omega (arith, ap (row_of g) same, row_of_lem g 0 q)))

    -- The heights of both streams can be added,
    pub from_lays : Layable g.spec figures.heights tables.heights
    from_lays =
        floats_lay bytes g asked.ready.sound figures.from tables.from q figures.heights tables.heights asked.column
        figured.high tabled.high

    module _ (floats : Heights)
        (laid : floats ≡ floats_alone g.spec figures.heights tables.heights (ltb figures.from (counts_at g 0 q).figures && ltb tables.from (counts_at g 0 q).tables)) where
      alone_from : floats.tight ≡ alone (model_of bytes g) (λ st. st.least) g.spec.smin from q
      alone_from =
          rw laid
          (alone_at bytes g from q figures.heights tables.heights (ltb figures.from end.figures && ltb tables.from end.tables)
          (rw from_figures figured.high) (rw from_tables tabled.high) (rw (from_figures, from_tables) refl)).0

      -- and lines put beside them.
      pub from_between : Between g sums first.lines floats.tight
      from_between =
          weighable_between asked.ready floats.tight (rw laid (alone_low g.spec figures.heights tables.heights _ from_lays).tight)

      -- What is computed for the column is the count of its pages.
      pub from_pairs : pairs_into bytes g first q (column_of g figures tables)
          ≡ pairs_between (text_of bytes g.text) g first.lines floats.tight (ltb figures.from (counts_at g 0 q).figures || ltb tables.from (counts_at g 0 q).tables)
      from_pairs =
          between_at bytes g first asked.ready.placed from q floats.tight _ asked.column from_before from_under
          (omega (arith, from_figures, figured.since)) (omega (arith, from_tables, tabled.since)) alone_from from_some

      -- Where the floats are too tall alone, so is what a column with no more of either stream has.
      tall_before : g.spec.htmax < floats.tight → (x : ℕ) → x < columns_in g → (counts_at g 0 x).figures ≤ figures.from
          → ((counts_at g 0 x).tables ≤ end.tables → (counts_at g 0 x).tables ≤ tables.from) → None x
      tall_before tall x h f t =
          tall_none bytes g first asked.ready.placed x from q h asked.column from_under (omega (arith, alone_from))
          (omega (arith, from_figures)) (λ k. omega (arith, t k, from_tables))

      -- The row is over where the floats are too tall alone,
      pub tall_over : g.spec.htmax < floats.tight → row_over g first floats tables ≡ true
      tall_over tall = rw (lt-ltb g.spec.htmax floats.tight tall) refl

      -- and all rows are where those are figures alone.
      pub tall_all : g.spec.htmax < floats.tight → (counts_at g 0 q).tables ≤ tables.from → rows_over g first q floats figures tables ≡ true
      tall_all tall all = rw (lt-ltb g.spec.htmax floats.tight tall, le-leb end.tables tables.from all) refl

      -- So no earlier column of the row adds anything where the row is over,
      pub row_passed : row_over g first floats tables ≡ true → (x : ℕ) → row_of g figures.from ≤ x → x < column_of g figures tables
          → pairs_into bytes g first q x ≡ 0
      row_passed e x l h =
          let (f, t) = row_in g figures.from x l (omega (arith, row_next g figures.from, low)) in
          go (or_cases (ltb g.spec.htmax floats.tight) (leb tables.from first.tables) e) f t (omega (arith, from_before, asked.column))
        where
          go : (ltb g.spec.htmax floats.tight ≡ true) ⊎ (leb tables.from first.tables ≡ true) → (counts_at g 0 x).figures ≡ figures.from
              → row_of g figures.from + (counts_at g 0 x).tables ≡ x → x < columns_in g → None x
          go (inl tall) f t wide = tall_before (ltb-true _ _ tall) x wide (omega arith) (λ k. omega arith)
          go (inr few) f t wide = let l = leb-true tables.from first.tables few in short x wide (λ a b. omega arith)

      -- and none of an earlier row where all rows are.
      pub rows_passed : row_over g first floats tables ≡ true → rows_over g first q floats figures tables ≡ true → (x : ℕ) → 0 ≤ x
          → x < column_of g figures tables → pairs_into bytes g first q x ≡ 0
      rows_passed e d x _ h =
          go (dec_le (row_of g figures.from) x)
          (or_cases (ltb g.spec.htmax floats.tight && leb end.tables tables.from) (leb figures.from first.figures) d)
          (omega (arith, from_before, asked.column))
        where
          go : Dec (row_of g figures.from ≤ x)
              → (ltb g.spec.htmax floats.tight && leb end.tables tables.from ≡ true) ⊎ (leb figures.from first.figures ≡ true)
              → x < columns_in g → None x
          go (yes l) d wide = row_passed e x l h
          go (no l) (inl tall) wide =
              let high = and_left (ltb g.spec.htmax floats.tight) (leb end.tables tables.from) tall in
              let all = and_right (ltb g.spec.htmax floats.tight) (leb end.tables tables.from) tall in
              let t = leb-true end.tables tables.from all in
              let f = row_under g 0 figures.from x (omega arith) in
              tall_before (ltb-true _ _ high) x wide (omega arith) (λ k. omega arith)
          go (no l) (inr few) wide =
              let f = row_under g 0 figures.from x (omega arith) in
              let all = leb-true figures.from first.figures few in
              short x wide (λ a b. omega arith)
