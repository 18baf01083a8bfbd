-- A filled table of a chapter tells the best list that closes on each side: its turns and its white, its starts, and by the walk back
-- its pages.
use Rattle.std.specs.Prelude.{ℕ, ◌-◌, ◌*◌, ◌≤◌, ◌<◌, ◌≡◌, refl, drop, None}
use Rattle.std.proofs.Math.Nat.{le_refl}
use Rattle.std.proofs.Common.{arith, sym, ◌∙◌}
use Rattle.std.proofs.Math.Path.{ap, subst}
use mathlib.Core.List.{List, [], ◌∷◌, ◌++◌, map}
use Rattle.std.proofs.Math.Option.{Option, none, some}
use Rattle.std.proofs.Math.ListN.{length}
use Rattle.model.specs.Galley as model
use Rattle.model.specs.Galley.{Place, streams, zeros, sizes}
use Rattle.model.specs.Turns.{turns}
use Rattle.model.specs.White.{white}
use Rattle.model.specs.Order.{starts_of}
use Rattle.model.specs.Answers.{words_of}
use Rattle.model.specs.laws.Rules.{placed}
use Rattle.model.specs.laws.Lists.{◌∈◌}
use Rattle.model.proofs.laws.Valid.{placed_sizes, valid_accepted}
use Rattle.model.proofs.laws.Best.{MakesOf, makes}
use Rattle.theorems.specs.optimality.Cell.{Right, Trace}
use Rattle.theorems.specs.optimality.Theorem.{trace_length}
use Rattle.theorems.specs.turns.Rank.{rank}
use Rattle.theorems.specs.turns.Bounds.{Narrow, white_limit}
use Rattle.theorems.specs.pages.Graph.{State, stop, side, place_of, Origin as Begin, Within, beginning, page_graph, pages_to, pages_on}
use Rattle.theorems.specs.pages.Laws.{page_laws, page_domain, blocks_at}
use Rattle.theorems.specs.books.Closing.{closing, best_closing, closing_valid, closing_makes, closing_empty, closing_best}
use Rattle.galley.specs.declared.Galley.{Galley}
use Rattle.galley.specs.Model.{sides_in, model_of}
use Rattle.blocks.specs.laws.Counts.{blocks_of}
use Rattle.rules.specs.laws.Sane.{sound_sane}
use Rattle.places.specs.declared.Place.{Place as Start}
use Rattle.places.specs.Entry.{least, low_of, high_of}
use Rattle.places.specs.Columns.{columns, float_sizes}
use Rattle.places.proofs.laws.Columns.{columns_some}
use Rattle.candidates.specs.Search.{most_from}
use Rattle.candidates.specs.Read.{table_in, columns_in}
use Rattle.entries.specs.Filled.{Side, Filled}
use Rattle.entries.specs.laws.Price.{sound_limits}
use Rattle.walk.specs.Trace.{entry_of, write_back}
use Rattle.walk.specs.Traceable.{blocks_in, full_place, Visits, Walkable, pages_back}
use Rattle.walk.specs.laws.Walk.{columns_in_some}
use Rattle.solving.specs.Shown.{at, origin_of, graph_of, shown, table_at, AllRight, Proper}
use Rattle.solving.specs.Back.{state_of}
use Rattle.solving.specs.laws.Shown.{shown_at, last_wide, full_place_lem, full_within}
use Rattle.solving.specs.laws.Back.{Walks, trace_count, trace_pages, trace_words}
use Rattle.solving.specs.laws.Tabled.{last_place_lem, tabled_narrow, tabled_filled, tabled_right, tabled_traceable}
use Rattle.closings.specs.Chapter.{nothing_yet, Tabled, closing_stop}
use Rattle.closings.specs.laws.Opened.{place_zeros}

module _ {bytes : List ℕ} {g : Galley} {work : List ℕ} (tabled : Tabled bytes g work) where
  -- The chapter as the page model has it.
  abbrev pub chapter : model.Galley
  chapter = model_of bytes g

  narrow : Narrow chapter
  narrow = tabled_narrow tabled

  pub proper : Proper chapter nothing_yet.place
  proper = record { line = omega arith; column = columns_some (float_sizes chapter) }

  pub fill : Filled chapter nothing_yet (table_in g work) 0 (columns (float_sizes chapter))
  fill = tabled_filled tabled

  pub right : AllRight chapter nothing_yet (table_in g work)
  right = tabled_right tabled proper

  -- The search begins where nothing is placed.
  begins : origin_of chapter nothing_yet ≡ beginning chapter
  begins = ap (λ (v : Place). record { place = v; pages = 0; cost = 0 }) (place_zeros chapter)

  right_from : Right (page_graph chapter (beginning chapter)) (most_from nothing_yet) (table_at chapter (table_in g work)) (Within chapter (beginning chapter))
  right_from =
      subst (λ (o : Begin). Right (page_graph chapter o) (most_from nothing_yet) (table_at chapter (table_in g work)) (Within chapter o)) begins right

  full_is : at chapter (full_place g) ≡ sizes chapter
  full_is = ap (at chapter) (sym (last_place_lem bytes g)) ∙ full_place_lem chapter

  module _ (c : ℕ) (occurs : Side (sides_in g) c) where
    pub closing_visits : Visits g (closing_stop g c)
    closing_visits = record { line = le_refl _; column = omega (arith, columns_in_some g); side = occurs }

    pub closing_walkable : Walkable g work (closing_stop g c)
    closing_walkable = record { table = tabled_traceable tabled; visits = closing_visits }

    -- The entry of the full place on that side, as the graph has it.
    entry_shown : table_at chapter (table_in g work) (stop (sizes chapter) c) ≡ shown chapter c (entry_of (table_in g work) (closing_stop g c))
    entry_shown =
        let wide : (full_place g).column < columns (float_sizes chapter) =
        subst (λ (p : Start). p.column < columns (float_sizes chapter)) (last_place_lem bytes g) (last_wide chapter) in
        ap (λ v. table_at chapter (table_in g work) (stop v c)) (sym full_is)
        ∙ shown_at chapter (table_in g work) g.text.count (columns_in g - 1) c wide

    -- Where the full place is unreached on that side, no list closes on it.
    pub closed_none : entry_of (table_in g work) (closing_stop g c) ≡ None → best_closing chapter c ≡ none
    unfolding shown
    closed_none e =
        closing_empty chapter (sound_sane bytes g tabled.sound) narrow c occurs (most_from nothing_yet) (table_at chapter (table_in g work)) right_from
        (sound_limits bytes g tabled.sound) (omega arith) (entry_shown ∙ ap (shown chapter c) e)

    -- The best list that closes on that side, at the cost x: its starts, and the walk back that meets them.
    pub record Closes (x : ℕ) : Type 0 where
      pub stops : List State
      pub pages : List Place
      pub best : best_closing chapter c ≡ some pages
      pub cost : rank (turns chapter pages) (white chapter pages) ≡ x
      pub starts : starts_of (zeros chapter) pages [] ≡ map place_of stops
      pub walks : Walks chapter nothing_yet proper (table_in g work) right fill stops (closing_stop g c)
      pub few : length stops ≤ blocks_in g
      pub is : pages ≡ pages_to stops (state_of chapter (closing_stop g c)) []

    pub closed_best : (x : ℕ) (s : Start) → entry_of (table_in g work) (closing_stop g c) ≡ least x s → Closes x
    unfolding shown pages_to blocks_at
    closed_best x s e =
        let (us, trace, best, cost, starts) =
        closing_best chapter (sound_sane bytes g tabled.sound) narrow c occurs (most_from nothing_yet) (table_at chapter (table_in g work)) right_from x _
        (entry_shown ∙ ap (shown chapter c) e) in
        let trace' : Trace (graph_of chapter nothing_yet) (table_at chapter (table_in g work)) us (state_of chapter (closing_stop g c)) =
        subst (λ (v : Place). Trace (graph_of chapter nothing_yet) (table_at chapter (table_in g work)) us (stop v c)) (sym full_is)
        (subst (λ (o : Begin). Trace (page_graph chapter o) (table_at chapter (table_in g work)) us (stop (sizes chapter) c)) (sym begins) trace) in
        let within : Within chapter (origin_of chapter nothing_yet) (state_of chapter (closing_stop g c)) =
        subst (λ (p : Start). Within chapter (origin_of chapter nothing_yet) (stop (at chapter p) c)) (last_place_lem bytes g) (full_within chapter nothing_yet proper c occurs) in
        let short =
        trace_length (graph_of chapter nothing_yet) (page_laws chapter (origin_of chapter nothing_yet)) (page_domain chapter (origin_of chapter nothing_yet))
        (most_from nothing_yet) (table_at chapter (table_in g work)) right us within trace' in
        let all = blocks_of g bytes in
        let every = placed_sizes chapter in
        let here = ap (placed chapter) full_is in
        record {
          stops = us;
          pages = pages_on (stop (sizes chapter) c ∷ us);
          best = best;
          cost = cost;
          starts = starts;
          walks = record {
            proper = record { line = le_refl _; column = subst (λ (p : Start). p.column < columns (float_sizes chapter)) (last_place_lem bytes g) (last_wide chapter) };
            within = within;
            trace = trace';
          };
          few = omega arith;
          is = ap (λ (v : Place). pages_to us (stop v c) []) (sym full_is);
        }

    -- It has a page for each start,
    pub closed_long : (x : ℕ) (k : Closes x) → length k.pages ≡ length k.stops
    closed_long x k =
        let long = trace_pages chapter nothing_yet proper (table_in g work) right fill k.stops (closing_stop g c) [] k.walks in
        let same = ap length k.is in
        omega arith

    -- closes on that side,
    closed_among : (x : ℕ) (k : Closes x) → k.pages ∈ closing chapter c
    closed_among x k = go (best_closing chapter c) (closing_makes chapter c) k.best
      where
        go : (r : Option (List Place)) → MakesOf chapter (closing chapter c) r → r ≡ some k.pages → k.pages ∈ closing chapter c
        go none m e = let z : ◌≡◌ {A = ℕ} 0 1 = cc in absurd (omega arith)
        go (some ps) (makes l) e = let same : ps ≡ k.pages = cc in subst (λ qs. qs ∈ closing chapter c) same l.lawful

    pub closed_side : (x : ℕ) (k : Closes x) → side (sides_in g) (length k.pages) ≡ c
    closed_side x k = (closing_valid chapter c k.pages (closed_among x k)).1

    -- and its turns and its white are the halves of the cost.
    pub closed_costs : (x : ℕ) (k : Closes x) → (high_of x ≡ turns chapter k.pages) × (low_of x ≡ white chapter k.pages)
    closed_costs x k =
        let valid = (closing_valid chapter c k.pages (closed_among x k)).0 in
        let low = white_limit chapter (sound_limits bytes g tabled.sound) k.pages ((valid_accepted chapter k.pages).0 valid).taken in
        omega (arith, k.cost)

    -- The walk back counts its pages,
    pub closed_pages : (x : ℕ) (k : Closes x) → pages_back g work nothing_yet (closing_stop g c) ≡ length k.pages
    closed_pages x k =
        let count = trace_count chapter nothing_yet proper (table_in g work) right fill k.stops (closing_stop g c) (blocks_in g) 0 k.walks k.few in
        let long = closed_long x k in
        count ∙ omega arith

    -- and writes their words before what was there.
    pub closed_words : (x : ℕ) (k : Closes x) (ws : List ℕ) → streams chapter * length k.pages ≤ length ws
        → write_back chapter (table_in g work) (length k.pages) (closing_stop g c) ws
        ≡ words_of k.pages ++ drop (streams chapter * length k.pages) ws
    unfolding words_of
    closed_words x k ws h =
        let p = closed_long x k in
        rw (p, k.is)
        (trace_words chapter nothing_yet proper (table_in g work) right fill k.stops (closing_stop g c) [] ws
        (drop (streams chapter * length k.stops) ws) k.walks (rw p at h) refl)
