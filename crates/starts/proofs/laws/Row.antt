-- The columns of a row, one sweep after another: back from the tables of the column where pages end, until the floats are too tall.
use Rattle.std.specs.Prelude.{ℕ, suc, ◌+◌, ◌-◌, ◌≤◌, ◌<◌, ◌≡◌, refl, ◌⊎◌, Bool, true, false, ◌&&◌, ◌||◌, List, length, ltb, leb}
use Rattle.std.proofs.Common.{le_refl, arith, ap, ◌∙◌, inl, inr, ltb-true, ltb-false, leb-false}
use Rattle.model.specs.Gather.{pick}
use Rattle.rules.specs.Sums.{white_at}
use Rattle.galley.specs.declared.Galley.{Galley}
use Rattle.galley.specs.Model.{floats_of, model_of}
use Rattle.galley.proofs.laws.Pick.{or_false}
use Rattle.blocks.specs.declared.Counts.{Counts}
use Rattle.blocks.specs.declared.heights.Heights.{Heights}
use Rattle.blocks.specs.Counts.{Within}
use Rattle.blocks.specs.Heights.{no_heights, Room, Stacked, block_before}
use Rattle.blocks.specs.laws.Heights.{stacked_nothing, stacked_room, back_stacked}
use Rattle.passes.specs.declared.pass.Pass.{Pass}
use Rattle.starts.specs.declared.sweep.Row.{Row}
use Rattle.candidates.specs.Choice.{Candidate}
use Rattle.candidates.specs.Beside.{Under, alone}
use Rattle.candidates.specs.Read.{side_of, search_of, counts_at, row_of}
use Rattle.reached.specs.Look.{Quiet, PastOrigin, Told, Reached}
use Rattle.reached.specs.declared.look.Reach.{Reach}
use Rattle.candidates.specs.Cells.{fresh, ColumnRoom}
use Rattle.starts.specs.Sweep.{Layable, floats_alone, row_top}
use Rattle.starts.specs.Swept.{RowSweep, RowRun, RowSwept}
use Rattle.passes.specs.Swept.{Sweep, SweepDone}
use Rattle.candidates.proofs.laws.Columns.{few_floats, columns_few, row_next, row_grows, row_of_lem, row_figures, row_tables, row_in, within_at, under_at}
use Rattle.starts.proofs.laws.Floats.{alone_at, floats_lay, alone_low}
use Rattle.passes.proofs.laws.Lending.{lent_room}
use Rattle.candidates.proofs.laws.Cells.{scratched_then}
use Rattle.passes.proofs.laws.Cells.{lent_kept}
use Rattle.passes.proofs.laws.Past.{known_past, start_under, start_short}
use Rattle.passes.proofs.laws.Look.{quiet_then, known_quiet, past_kept, recalled_kept, start_past, past_quiet}

-- A row offers columns with no more tables than the end, and the end's own row one less.
abbrev Offered : Row → ℕ → Type 0
Offered row top =
    ((row.figures < row.end.figures) × (top ≡ row.end.tables + 1)) ⊎ ((row.end.figures ≤ row.figures) × (top ≡ row.end.tables))

offered : (row : Row) → Offered row (row_top row)
unfolding row_top
offered row = go (ltb row.figures row.end.figures) refl
  where
    go : (t : Bool) → ltb row.figures row.end.figures ≡ t → Offered row (pick t (row.end.tables + 1) row.end.tables)
    go true e = inl (ltb-true row.figures row.end.figures e, refl)
    go false e = inr (omega (arith, ltb-false row.figures row.end.figures e), refl)

-- A row: its sweeps one after another.
module _ {bytes : List ℕ} {g : Galley} {w₀ sums words₀ seen : List ℕ} {row : Row} (asked : RowSweep bytes g w₀ sums words₀ seen row) where
  end_figures : row.end.figures ≡ (counts_at g 0 row.to).figures
  end_figures = ap (λ (c : Counts). c.figures) asked.end

  end_tables : row.end.tables ≡ (counts_at g 0 row.to).tables
  end_tables = ap (λ (c : Counts). c.tables) asked.end

  end_within : Within g (counts_at g 0 row.to)
  end_within = within_at g 0 row.to (omega arith) asked.lent.column

  -- The end stands in its own row.
  end_stands : row_of g row.end.figures + row.end.tables ≡ row.to
  end_stands = rw (end_figures, end_tables) (row_of_lem g 0 row.to)

  tables_few : row.end.tables ≤ g.tables.count
  tables_few = omega (arith, end_tables, end_within.tables)

  -- Counts and columns are small.
  pub end_few : row.end.tables ≤ 50
  end_few = omega (arith, tables_few, asked.lent.sound.tables.few)

  pub row_small : row_of g row.figures ≤ 10250
  row_small =
      omega (
        arith,
        row_grows g row.figures row.end.figures asked.within,
        end_stands,
        asked.lent.column,
        columns_few g (few_floats asked.lent.sound),
      )

  -- Before the first sweep no more is known than in the row after it: the columns past the top are not under the end.
  pub row_first : RowRun bytes g w₀ w₀ words₀ words₀ row no_heights (row_top row) false
  row_first =
      record {
        still = λ _. refl;
        lent = asked.lent;
        scratch = asked.scratch;
        within = le_refl _;
        sized = refl;
        words_sized = refl;
        floats = stacked_nothing (floats_of bytes g.tables) (row_top row) row.end.tables (high (offered row));
        known =
            known_past bytes g w₀ row.to (row_of g row.figures + row_top row) (row_of g (suc row.figures))
            (omega (arith, row_next g row.figures, low (offered row))) (λ i a x y c h occurs k l m start. none i a x y (side_of g c) h k l m start (offered row))
            asked.known;
        kept = fresh;
      }
    where
      high : Offered row (row_top row) → row.end.tables ≤ row_top row
      high (inl (l, e)) = omega arith
      high (inr (l, e)) = omega arith

      low : Offered row (row_top row) → row_top row ≤ g.tables.count + 1
      low (inl (l, e)) = omega (arith, tables_few)
      low (inr (l, e)) = omega (arith, tables_few)

      none : (i a x y side : ℕ) → i ≤ g.text.count → row_of g row.figures + row_top row ≤ x → x < row_of g (suc row.figures)
          → x < row.to → Candidate (search_of bytes g w₀ i row.to side) a x y → Offered row (row_top row) → ⊥
      none i a x y side h k l m c (inl (n, e)) =
          omega (arith, (row_in g row.figures x (omega arith) l).1, (start_under asked.lent i a x y side h c).1, end_tables)
      none i a x y side h k l m c (inr (n, e)) =
          let same : row.figures ≡ row.end.figures = omega (arith, asked.within) in
          omega (arith, ap (row_of g) same, end_stands)

  module _ {w words : List ℕ} {tables : Heights} {top : ℕ} {any : Bool} (run : RowRun bytes g w₀ w words₀ words row tables top any) where
    past_now : PastOrigin g w row.to row.begin.origin
    past_now = past_kept run.kept asked.lent.sound.spec_ranged.sides_two asked.past

    top_low : top ≤ g.tables.count + 1
    top_low = go (offered row)
      where
        go : Offered row (row_top row) → top ≤ g.tables.count + 1
        go (inl (l, e)) = omega (arith, tables_few, run.within)
        go (inr (l, e)) = omega (arith, tables_few, run.within)

    -- Back at the tables of the origin the row is swept: columns with fewer are before it.
    pub row_last : top ≤ row.begin.origin.tables → RowSwept bytes g w₀ w row any
    row_last e =
        record {
          still = run.still;
          known = known_past bytes g w row.to (row_of g row.figures) (row_of g row.figures + top) (omega arith) none run.known;
          kept = run.kept;
        }
      where
        none : (i a x y c : ℕ) → i ≤ g.text.count → c < g.spec.sides → row_of g row.figures ≤ x → x < row_of g row.figures + top
            → x < row.to → Candidate (search_of bytes g w i row.to (side_of g c)) a x y → ⊥
        none i a x y c h occurs k l m start =
            let (same, at) = row_in g row.figures x k (omega (arith, row_next g row.figures, top_low)) in
            omega (arith, at, (start_past run.lent past_now i a x y c h occurs m start).2)

    -- There is room for the table before.
    pub row_room : Room bytes g.tables tables row.end.tables
    row_room =
        stacked_room bytes g.tables top row.end.tables tables asked.lent.sound.tables.sound
        (omega (arith, asked.lent.sound.tables.few)) tables_few run.floats

    module _ (some : 0 < top) where
      abbrev from : ℕ
      from = row_of g row.figures + (top - 1)

      from_figures : (counts_at g 0 from).figures ≡ row.figures
      from_figures = row_figures g 0 row.figures (top - 1) (omega (arith, top_low))

      from_tables : (counts_at g 0 from).tables ≡ top - 1
      from_tables = row_tables g 0 row.figures (top - 1) (omega (arith, top_low))

      -- The column lies before the end, and under it.
      from_before : (from < row.to) × (top - 1 ≤ row.end.tables)
      from_before = go (offered row)
        where
          go : Offered row (row_top row) → (from < row.to) × (top - 1 ≤ row.end.tables)
          go (inl (l, e)) = (
            omega (arith, row_grows g (suc row.figures) row.end.figures l, row_next g row.figures, end_stands, top_low),
            omega (arith, run.within),
          )
          go (inr (l, e)) =
              let same : row.figures ≡ row.end.figures = omega (arith, asked.within) in
              (omega (arith, ap (row_of g) same, end_stands, run.within), omega (arith, run.within))

      pub from_small : row_of g row.figures + (top - 1) ≤ 10250
      from_small = omega (arith, from_before.0, asked.lent.column, columns_few g (few_floats asked.lent.sound))

      -- It is known whether it was seen, and where.
      pub row_told : row.begin.since ≤ row_of g row.figures + (top - 1)
          → Told g w seen (row_of g row.figures + (top - 1)) row.begin.origin.lines
      row_told after =
          (recalled_kept run.kept asked.lent.sound.spec_ranged.sides_two asked.recalled).told from after from_before.0

      pub row_stands : ColumnRoom g w (row_of g row.figures + (top - 1))
      row_stands =
          let room = lent_room run.lent in
          record {
            wide = record { few = room.wide.few; floats = room.wide.floats; within = omega (arith, from_before.0, room.wide.within) };
            two = room.two;
            room = room.room;
          }

      from_under : Under (model_of bytes g) from row.to
      from_under =
          under_at bytes g from row.to (omega (arith, from_figures, end_figures, asked.within))
          (omega (arith, from_tables, end_tables, from_before.1))

      module _ (tables' : Heights) (put : tables' ≡ block_before bytes g.tables tables (top - 1) row.end.tables) where
        floats' : Stacked (floats_of bytes g.tables) (top - 1) row.end.tables tables'
        floats' = back_stacked bytes g.tables top row.end.tables tables tables' some put run.floats

        -- With the row's figures its heights can be added,
        pub row_lays : Layable g.spec row.heights tables'
        row_lays =
            floats_lay bytes g asked.lent.sound row.figures (top - 1) row.to row.heights tables' asked.lent.column
            (rw (← end_figures) asked.floats) (rw (← end_tables) floats')

        -- Where the column is not reached it has no starts.
        pub row_unreached : Quiet g w (row_of g row.figures + (top - 1)) g.spec.sides row.begin.origin.lines (g.text.count + 1)
            → RowRun bytes g w₀ w words₀ words row tables' (top - 1) any
        row_unreached quiet =
            let after : suc from ≡ row_of g row.figures + top = omega arith in
            record {
              still = run.still;
              lent = run.lent;
              scratch = run.scratch;
              within = omega (arith, run.within);
              sized = run.sized;
              words_sized = run.words_sized;
              floats = floats';
              known = known_quiet run.lent (quiet_then (past_quiet run.lent past_now from from_before.0) quiet) (rw after run.known);
              kept = run.kept;
            }

        module _ (both : Bool) (mixed : both ≡ (ltb row.figures row.end.figures && ltb (top - 1) row.end.tables)) (floats : Heights)
            (laid : floats ≡ floats_alone g.spec row.heights tables' both) where
          abbrev next : ℕ → Reach → Pass
          next white reach = record { from = from; to = row.to; heights = floats; least = row.least; white = white; reach = reach }

          alone_from : (floats.tight ≡ alone (model_of bytes g) (λ st. st.least) g.spec.smin from row.to)
              × (floats.loose ≡ alone (model_of bytes g) (λ st. st.most) g.spec.smax from row.to)
          alone_from =
              rw laid
              (alone_at bytes g from row.to row.heights tables' both (rw (from_figures, ← end_figures) asked.floats)
              (rw (from_tables, ← end_tables) floats') (rw (from_figures, ← end_figures, from_tables, ← end_tables) mixed))

          -- the next sweep may start,
          pub row_sweeps : floats.tight ≤ g.spec.htmax → (white : ℕ) → white ≡ white_at g false floats.loose → (reach : Reach)
              → Reached g w (row_of g row.figures + (top - 1)) row.begin.origin.lines reach
              → Sweep bytes g w sums words (next white reach)
          row_sweeps short white e reach found =
              let after : suc from ≡ row_of g row.figures + top = omega arith in
              record {
                lent = run.lent;
                early = quiet_then (past_quiet run.lent past_now from from_before.0) found.first.quiet;
                late = found.last;
                summed = asked.summed;
                scratch = run.scratch;
                passing =
                    record {
                      before = from_before.0;
                      under = from_under;
                      tight = alone_from.0;
                      loose = alone_from.1;
                      low = rw laid (alone_low g.spec row.heights tables' both row_lays);
                      short = short;
                    };
                least = asked.least;
                white = e;
                known = rw after run.known;
              }

          -- and brings in the starts of its column.
          pub row_swept : (white : ℕ) (reach : Reach) (v words' : List ℕ) → length v ≡ length w → length words' ≡ length words
              → SweepDone bytes g w v (next white reach)
              → RowRun bytes g w₀ v words₀ words' row tables' (top - 1) (any || leb reach.first g.text.count)
          row_swept white reach v words' p q done =
              record {
                still = λ e.
                    let (before, here) = or_false any (leb reach.first g.text.count) e in
                    done.still (leb-false reach.first g.text.count here) ∙ run.still before;
                lent = lent_kept done.kept run.lent;
                scratch = omega (arith, run.scratch);
                within = omega (arith, run.within);
                sized = p ∙ run.sized;
                words_sized = q ∙ run.words_sized;
                floats = floats';
                known = done.known;
                kept = scratched_then g row.to w₀ w v run.kept done.kept;
              }

          -- Where the floats alone are too tall, no page starts in that column or before it in the row.
          pub row_tall : g.spec.htmax < floats.tight → RowSwept bytes g w₀ w row any
          row_tall tall =
              record {
                still = run.still;
                known =
                    known_past bytes g w row.to (row_of g row.figures) (row_of g row.figures + top) (omega arith) none run.known;
                kept = run.kept;
              }
            where
              none : (i a x y c : ℕ) → i ≤ g.text.count → c < g.spec.sides → row_of g row.figures ≤ x
                  → x < row_of g row.figures + top → x < row.to → Candidate (search_of bytes g w i row.to (side_of g c)) a x y → ⊥
              none i a x y c h occurs k l m start =
                  let (e, at) = row_in g row.figures x k (omega (arith, row_next g row.figures, top_low)) in
                  start_short run.lent from (omega (arith, from_before.0)) from_under (omega (arith, alone_from.0)) i a x y (side_of g c) h
                  (under_at bytes g x from (omega (arith, from_figures)) (omega (arith, from_tables))) start
