-- The entry that a place gets, by what the code has tested: where the search begins, where no page may end, and from its best start.
use Rattle.std.specs.Prelude.{ℕ, ◌+◌, ◌≤◌, ◌≡◌, true, false, List, eqb, None}
use Rattle.std.proofs.Common.{le_refl, arith, sym, ◌∙◌, eqb-true}
use Rattle.model.specs.Galley as model
use Rattle.model.proofs.laws.Gather.{and_left}
use Rattle.theorems.specs.turns.Waiting.{page_cost}
use Rattle.theorems.specs.turns.Rank.{rank}
use Rattle.theorems.specs.turns.Bounds.{cost_le}
use Rattle.theorems.specs.pages.Graph.{full}
use Rattle.model.specs.Rules.{floor}
use Rattle.galley.specs.declared.Galley.{Galley}
use Rattle.galley.specs.Model.{text_of, model_of, sides_in}
use Rattle.blocks.specs.Counts.{Proper}
use Rattle.blocks.specs.laws.Counts.{within_proper}
use Rattle.places.specs.declared.Place.{Place}
use Rattle.places.specs.declared.Origin.{Origin}
use Rattle.places.specs.Entry.{Entry, least}
use Rattle.places.specs.Columns.{place_at}
use Rattle.places.specs.Best.{Best}
use Rattle.queues.specs.declared.parts.Parts.{Parts}
use Rattle.window.specs.Slide.{shut_at}
use Rattle.candidates.specs.Better.{chosen}
use Rattle.candidates.specs.Search.{Table, before, best_start, most_from, priced, may_stop, begins, new_entry}
use Rattle.candidates.specs.Choice.{Above}
use Rattle.candidates.specs.Beside.{Sought}
use Rattle.rules.specs.Parts.{all_placed}
use Rattle.candidates.specs.Read.{table_in, side_of, search_of}
use Rattle.candidates.specs.Last.{LinesStand, LastBest}
use Rattle.candidates.proofs.laws.Columns.{placed_at, within_at, sought_in}
use Rattle.candidates.proofs.laws.White.{white_lines}
use Rattle.passes.proofs.laws.Sweep.{window_best, start_chosen}
use Rattle.passes.proofs.laws.Pass.{least_low}
use Rattle.candidates.proofs.laws.Read.{side_either}
use Rattle.passes.proofs.laws.Lending.{lent_placed, can_stand}
use Rattle.entries.specs.declared.side.Task.{Task}
use Rattle.entries.specs.declared.side.End.{End}
use Rattle.entries.specs.Next.{StartsFor, bare, LinesAbove, EntryNext}
use Rattle.entries.specs.laws.Entered.{side_before, best_entered}
use Rattle.entries.specs.laws.Price.{dearest_light}
use Rattle.entries.specs.laws.Own.{under_own, lines_slide, end_within, end_full, end_bears}

module _ (g : model.Galley) (from : Origin) (t : Table) (i q c : ℕ) where
  -- Where the search begins, the entry is what was paid there.
  pub entry_origin : begins g.spec.sides from i q c ≡ true → new_entry g from t i q c ≡ least from.cost from.place
  unfolding new_entry
  entry_origin b = rw b

  module _ (later : begins g.spec.sides from i q c ≡ false) where
    -- Where no page may end, the place is unreached.
    pub entry_forbidden : may_stop g i q c ≡ false → new_entry g from t i q c ≡ None
    unfolding new_entry
    entry_forbidden m = rw (later, m)

    -- Else it costs what its best start does and the price of the page, if that is no more than the search looks for.
    pub entry_priced : may_stop g i q c ≡ true → (e : Entry)
        → best_start (record { galley = g; table = t; line = i; column = q; side = before g.spec.sides c }) ≡ e
        → new_entry g from t i q c ≡ priced (most_from from) (rank (page_cost g c (full g (place_at g i q)) (place_at g i q)) 0) e
    unfolding new_entry
    entry_priced m e b = rw (later, m, b)

-- The lines above in the column, for the last page.
module _ {bytes : List ℕ} {task : Task} {w sums words : List ℕ} {parts : Parts} {end : End}
    (above : LinesAbove bytes task w sums words parts end) (full : all_placed task.galley end.at ≡ true) where
  last : end.at.lines ≡ task.galley.text.count
  last = eqb-true end.at.lines task.galley.text.count (and_left (eqb end.at.lines task.galley.text.count) _ full)

  pub above_stand : LinesStand task.galley w sums (bare task (floor (model_of bytes task.galley) true)) end.column
      (side_of task.galley end.side)
  above_stand =
      let g = task.galley in
      record {
        stands = λ a l. can_stand above.lent a end.column (side_of g end.side) l above.lent.column (side_either g end.side);
        costs = λ a l. above.costs a (omega (arith, last));
        first = above.begin;
        slides =
            lines_slide above.lent above.summed (floor (model_of bytes g) true) task.origin.place.line
            (least_low bytes g above.lent.sound true) (shut_at (bare task (floor (model_of bytes g) true))) g.text.count (le_refl _)
            above.begin above.begin above.begin;
      }

  pub above_last : (lines : Entry)
      → LastBest task.galley w sums (bare task (floor (model_of bytes task.galley) true)) end.column
      (side_of task.galley end.side) lines
      → Best (StartsFor bytes task.galley w end (Above end.column end.at.lines)) lines
  above_last lines found =
      let g = task.galley in
      let load = bare task (floor (model_of bytes g) true) in
      let bears = end_bears bytes g end above.counts w (side_of g end.side) true task.origin.place.line full in
      let proper = within_proper g (end_within bytes g end above.counts above.line above.lent.column) in
      window_best (search_of bytes g w end.at.lines end.column (side_of g end.side))
      (sought_in bytes g w end.at.lines end.column (side_of g end.side) (lent_placed above.lent end.at.lines above.line))
      end.column (le_refl _) (under_own (model_of bytes g) end.column) load bears above.before found.window
      (rw last (found.opens (text_of bytes g.text) above.summed.rows)) (λ a. 0)
      (white_lines (search_of bytes g w end.at.lines end.column (side_of g end.side)) end.column true
      (end_full bytes g end above.counts true proper full) load bears)
      lines found.best

-- No table is placed where it ends if there are none.
pub entry_proper : {bytes : List ℕ} {task : Task} {w sums words : List ℕ} {parts : Parts} {end : End}
    → EntryNext bytes task w sums words parts end → Proper task.galley end.at
entry_proper {bytes} {task} {end = end} next =
    within_proper task.galley
    (end_within bytes task.galley end next.ending.counts next.ending.line next.next.lent.column)

-- The entry from what is known of its starts: of those in earlier columns, and of the lines above.
module _ {bytes : List ℕ} {task : Task} {w sums words : List ℕ} {parts : Parts} {end : End}
    (next : EntryNext bytes task w sums words parts end) (lines : Entry)
    (best : Best (StartsFor bytes task.galley w end (Above end.column end.at.lines)) lines) (e : Entry)
    (told : e ≡ chosen (table_in task.galley w end.at.lines end.column end.side) lines) where
  abbrev g : Galley
  g = task.galley

  abbrev v : model.Place
  v = place_at (model_of bytes task.galley) end.at.lines end.column

  sought : Sought (search_of bytes task.galley w end.at.lines end.column (side_of task.galley end.side))
  sought =
      sought_in bytes g w end.at.lines end.column (side_of g end.side) (lent_placed next.next.lent end.at.lines next.ending.line)

  -- The better of the two is the best start,
  start_told : best_start (search_of bytes task.galley w end.at.lines end.column (side_of task.galley end.side)) ≡ e
  start_told =
      sym
      (told
      ∙ start_chosen (search_of bytes g w end.at.lines end.column (side_of g end.side)) sought
      (table_in g w end.at.lines end.column end.side) lines next.known best)

  -- so that the entry is that with the price of the page,
  pub entry_told : begins (sides_in task.galley) task.origin end.at.lines end.column end.side ≡ false
      → may_stop (model_of bytes task.galley) end.at.lines end.column end.side ≡ true
      → new_entry (model_of bytes task.galley) task.origin (table_in task.galley w) end.at.lines end.column end.side
      ≡ priced (most_from task.origin) (rank (page_cost (model_of bytes task.galley) end.side (full (model_of bytes task.galley) v) v) 0) e
  entry_told later may =
      entry_priced (model_of bytes g) task.origin (table_in g w) end.at.lines end.column end.side later may e start_told

  -- and their sum is a number of 64 bits.
  pub cost_low : (x : ℕ) (r : Place) → e ≡ least x r
      → x + rank (page_cost (model_of bytes task.galley) end.side (full (model_of bytes task.galley) v) v) 0 ≤ 10000000000000000000
  cost_low x r is =
      let m = model_of bytes g in
      let sound = next.next.lent.sound in
      let start =
      best_entered (search_of bytes g w end.at.lines end.column (side_of g end.side)) task.origin sought next.next.filled
      (side_before m.spec.sides end.side next.side) x r (start_told ∙ is) in
      omega (
        arith,
        start.less,
        start.dear,
        cost_le m end.side (full m v) v,
        (dearest_light bytes g sound).dear,
        (dearest_light bytes g sound).low,
        placed_at bytes g end.at.lines end.column,
        within_at g end.at.lines end.column next.ending.line next.next.lent.column,
        next.next.cheap,
        sound.few_lines,
        sound.figures.few,
        sound.tables.few,
      )
