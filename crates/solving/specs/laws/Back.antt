-- The walk back through the table counts and writes the pages of the best list.
use Prim.Native.Nat.{ℕ, zero, suc, ◌+◌, ◌*◌, ◌≤◌}
use native.Mathlib.Omega.{arith}
use Rattle.std.proofs.Common.{mul-zero, ◌∙◌, subst, inl, drop_at, length-take-le}
use Rattle.std.proofs.Math.Nat.{mul-suc}
use Rattle.std.proofs.Math.Path.{◌≡◌, refl, sym, ap}
use Rattle.std.specs.Prelude.{Bool, take, None}
use Rattle.std.proofs.Math.Bool.{true, false}
use mathlib.Core.List.{List, [], ◌∷◌, ◌++◌, append_assoc}
use Rattle.std.proofs.Math.Option.{none, some}
use Rattle.std.proofs.Math.ListN.{length, drop}
use Rattle.std.proofs.Math.Seq.{sets, length-sets}
use Rattle.std.proofs.lemmas.List.Edits.{sets-eq}
use Rattle.model.specs.Galley.{Galley, Place, Sane, streams, sizes, blocks}
use Rattle.model.specs.Answers.{words_of}
use Rattle.model.specs.Opening.{best_after}
use Rattle.model.proofs.laws.Gather.{length_row}
use Rattle.model.specs.laws.Rules.{placed}
use Rattle.model.proofs.laws.Valid.{placed_sizes}
use Rattle.theorems.specs.optimality.Cell.{Right, Trace}
use Rattle.theorems.specs.optimality.Theorem.{step_back, trace_length}
use Rattle.theorems.specs.turns.Bounds.{Limits, Narrow, dearest_list}
use Rattle.theorems.specs.pages.Graph.{State, stop, end, Origin as Begin, Within, page_graph, pages_to, pages_on}
use Rattle.theorems.specs.pages.Laws.{page_laws, page_domain, blocks_at}
use Rattle.theorems.specs.pages.Opening.{after, Opening}
use Rattle.theorems.specs.pages.Best.{table_none, table_best}
use Rattle.places.specs.declared.Place.{Place as Start}
use Rattle.places.specs.declared.Origin.{Origin}
use Rattle.places.specs.Entry.{least}
use Rattle.places.specs.Columns.{columns, float_sizes}
use Rattle.places.proofs.laws.Places.{place_inside}
use Rattle.candidates.specs.Search.{Table, before, most_from}
use Rattle.entries.specs.Filled.{Side, Filled}
use Rattle.walk.specs.declared.Stop.{Stop}
use Rattle.walk.specs.Trace.{start_of, entry_of, back, at_origin, count_back, write_back}
use Rattle.solving.specs.Shown.{at, origin_of, graph_of, finished, last_place, table_at, AllRight, Proper}
use Rattle.solving.specs.Back.{state_of, last_of, counted, Found}
use Rattle.solving.specs.laws.Last.{last_side_lem}
use Rattle.solving.specs.laws.Shown.{shown_at, shown_least, finished_least, last_wide, full_place_lem, full_within, origin_here, not_origin}

-- Words stored from offset k on stand before the rest.
drop_sets : (k : ℕ) (vs ws : List ℕ) → k + length vs ≤ length ws → drop k (sets ws k vs) ≡ vs ++ drop (k + length vs) ws
drop_sets k vs ws h =
    ap (drop k) (sets-eq vs ws k h ∙ append_assoc (take k ws) vs (drop (k + length vs) ws))
    ∙ drop_at (take k ws) (vs ++ drop (k + length vs) ws) k (length-take-le k ws (omega arith))

-- The walk through a right table, from an origin of the galley on.
module _ (g : Galley) (from : Origin) (origin : Proper g from.place) (t : Table) (right : AllRight g from t)
    (fill : Filled g from t 0 (columns (float_sizes g))) where
  abbrev pub one : Stop → Stop
  one s = back g.spec.sides t s

  -- The walk is at a place of the table, and meets these starts on the way back.
  pub record Walks (us : List State) (s : Stop) : Type 0 where
    pub proper : Proper g s.place
    pub within : Within g (origin_of g from) (state_of g s)
    pub trace : Trace (graph_of g from) (table_at g t) us (state_of g s)

  -- One page back: the walk is not at the origin, and goes on from the start that the entry holds.
  pub record Back (u : State) (us : List State) (s : Stop) : Type 0 where
    pub away : at_origin g.spec.sides from s ≡ false
    pub begun : u ≡ state_of g (one s)
    pub walks : Walks us (one s)

  pub back_one : (u : State) (us : List State) (s : Stop) → Walks (u ∷ us) s → Back u us s
  unfolding Trace start_of Within
  back_one u us s walks = go walks.trace
    where
      occurs : Side g.spec.sides s.side
      occurs = walks.within.1

      go : Trace (graph_of g from) (table_at g t) (u ∷ us) (state_of g s) → Back u us s
      go (n, (x, e), r) =
          let entry = sym (shown_at g t s.place.line s.place.column s.side walks.proper.column) ∙ e in
          let h = shown_least g s.side (entry_of t s) x u entry in
          let is : (one s).place ≡ h.start = ap (λ x. start_of x s.place) h.entry in
          let begun : u ≡ state_of g (one s) = h.shows ∙ sym (ap (λ (p : Start). stop (at g p) (before g.spec.sides s.side)) is) in
          let (o, v, l) = step_back (graph_of g from) (page_laws g (origin_of g from)) (page_domain g (origin_of g from)) (most_from from) (table_at g t) right walks.within n e in
          let low = fill.entered s.place.line s.place.column s.side x h.start (inl walks.proper.column) walks.proper.line
          occurs h.entry in
          record {
            away = away n (at_origin g.spec.sides from s) refl;
            begun = begun;
            walks =
                record {
                  proper =
                      rw is
                      (record { line = omega (arith, low.line, walks.proper.line); column = omega (arith, low.column, walks.proper.column) });
                  within = rw begun at v;
                  trace = rw begun at r;
                };
          }
        where
          away : ¬ (state_of g s ≡ (graph_of g from).o) → (b : Bool) → at_origin g.spec.sides from s ≡ b → at_origin g.spec.sides from s ≡ false
          away n true b = absurd (n (origin_here g from s.place.line s.place.column s.side b))
          away n false b = b

  -- The walk ends at the origin.
  at_origin_lem : (s : Stop) → Walks [] s → at_origin g.spec.sides from s ≡ true
  unfolding Trace
  at_origin_lem s walks = go (at_origin g.spec.sides from s) refl
    where
      go : (b : Bool) → at_origin g.spec.sides from s ≡ b → at_origin g.spec.sides from s ≡ true
      go true b = b
      go false b =
          absurd (not_origin g from origin.column s.place.line s.place.column s.side walks.proper.column b walks.trace)

  -- A place has a count for each stream.
  place_long : (p : Start) → Proper g p → length (at g p) ≡ streams g
  unfolding sizes
  place_long p h =
      (place_inside g p.line p.column h.line h.column).long ∙ length_row 0 (streams g) (λ s. (g.stream s).size)

  -- It counts the pages that it meets.
  pub trace_count : (us : List State) (s : Stop) (most p : ℕ) → Walks us s → length us ≤ most
      → count_back g.spec.sides t from most s p ≡ p + length us
  unfolding count_back
  trace_count [] s zero p walks h = omega arith
  trace_count [] s (suc most) p walks h = rw (at_origin_lem s walks) (omega arith)
  trace_count (u ∷ us) s zero p walks h = absurd (omega arith)
  trace_count (u ∷ us) s (suc most) p walks h =
      let b = back_one u us s walks in
      rw b.away (trace_count us (one s) most (p + 1) b.walks (omega arith) ∙ omega arith)

  -- It meets a start for each page,
  pub trace_pages : (us : List State) (s : Stop) (after : List Place) → Walks us s
      → length (pages_to us (state_of g s) after) ≡ length us + length after
  unfolding pages_to
  trace_pages [] s after walks = omega arith
  trace_pages (u ∷ us) s after walks =
      let b = back_one u us s walks in
      let further = trace_pages us (one s) (at g s.place ∷ after) b.walks in
      rw b.begun (omega arith)

  -- and writes each page where its number says, before the pages that are there.
  pub trace_words : (us : List State) (s : Stop) (after : List Place) (ws rest : List ℕ) → Walks us s → streams g * length us ≤ length ws
      → drop (streams g * length us) ws ≡ words_of after ++ rest
      → write_back g t (length us) s ws ≡ words_of (pages_to us (state_of g s) after) ++ rest
  unfolding pages_to write_back words_of
  trace_words [] s after ws rest walks h e = rw (mul-zero (streams g)) at e
  trace_words (u ∷ us) s after ws rest walks h e =
      let b = back_one u us s walks in
      let v = at g s.place in
      let k = streams g * length us in
      let long = place_long s.place walks.proper in
      let next : k + length v ≡ streams g * suc (length us) = omega (arith, mul-suc (streams g) (length us)) in
      let ws' = sets ws k v in
      let sized = length-sets ws k v in
      let words : drop k ws' ≡ words_of (v ∷ after) ++ rest =
      drop_sets k v ws (omega arith) ∙ ap (λ l. v ++ l) (ap (λ n. drop n ws) next ∙ e) ∙ sym (append_assoc v (words_of after) rest) in
      trace_words us (one s) (v ∷ after) ws' rest b.walks (omega arith) words
      ∙ ap (λ w. words_of (pages_to us w (v ∷ after)) ++ rest) (sym b.begun)

  -- So the best list that the walk meets is found.
  walk_found : (os : List Place) (us : List State) (last : Stop) (most : ℕ) → Walks us last → length us ≤ most
      → best_after g os ≡ some (os ++ pages_to us (state_of g last) []) → Found g os from t most last (pages_to us (state_of g last) [])
  unfolding words_of
  walk_found os us last most walks short is =
      let pages = trace_pages us last [] walks in
      let p : counted g from t most last ≡ length us = trace_count us last most 0 walks short ∙ omega arith in
      record {
        best = is;
        pages = omega arith;
        few = omega arith;
        words = λ ws h. rw p (trace_words us last [] ws (drop (streams g * length us) ws) walks (rw p at h) refl);
      }

-- The graph from where an opening ends, and what it tells of the best list that begins with the opening.
module _ (g : Galley) (sane : Sane g) (narrow : Narrow g) (os : List Place) (opening : Opening g os) (from : Origin)
    (begins : origin_of g from ≡ after g os) (origin : Proper g from.place) (t : Table) (right : AllRight g from t) (fill : Filled g from t 0 (columns (float_sizes g))) where
  right_after : Right (page_graph g (after g os)) (most_from from) (table_at g t) (Within g (after g os))
  right_after = subst (λ (o : Begin). Right (page_graph g o) (most_from from) (table_at g t) (Within g o)) begins right

  -- Where the table is right and the full place unreached within what any list can cost, no valid list begins with the opening.
  pub back_none : Limits g → dearest_list ≤ most_from from → entry_of t (last_of g t) ≡ None → best_after g os ≡ none
  unfolding table_at finished
  back_none limits enough e =
      table_none g sane narrow os opening (most_from from) (table_at g t) right_after limits enough (ap (finished (state_of g (last_of g t))) e)

  -- Where it is reached, the walk back from the better side counts and writes what follows in the best list.
  pub back_best : (most : ℕ) → blocks g ≤ most → (x : ℕ) (s : Start) → entry_of t (last_of g t) ≡ least x s
      → (ps : List Place) × Found g os from t most (last_of g t) ps
  unfolding table_at finished Trace pages_to blocks_at
  back_best most enough x s e =
      let (us, r, is, cost) = table_best g sane narrow os opening (most_from from) (table_at g t) right_after x (state_of g (last_of g t))
      (ap (finished (state_of g (last_of g t))) e) in
      go us (subst (λ (o : Begin). Trace (page_graph g o) (table_at g t) us end) (sym begins) r) is
    where
      go : (us : List State) → Trace (graph_of g from) (table_at g t) us end → best_after g os ≡ some (os ++ pages_on us)
          → (ps : List Place) × Found g os from t most (last_of g t) ps
      go [] r is = let z : ◌≡◌ {A = ℕ} 0 1 = cc in absurd (omega arith)
      go (u ∷ us) (n, (y, f), r) is =
          let (s', h, begun) = finished_least (state_of g (last_of g t)) (entry_of t (last_of g t)) y u f in
          let within = full_within g from origin (last_of g t).side (last_side_lem g.spec.sides t (last_place g)) in
          let trace : Trace (graph_of g from) (table_at g t) us (state_of g (last_of g t)) = rw begun at r in
          let short = trace_length (graph_of g from) (page_laws g (origin_of g from)) (page_domain g (origin_of g from)) (most_from from) (table_at g t) right us within trace in
          let all = placed_sizes g in
          let place = ap (placed g) (full_place_lem g) in (
            pages_to us (state_of g (last_of g t)) [],
            walk_found g from origin t right fill os us (last_of g t) most
                (record { proper = record { line = omega arith; column = last_wide g }; within = within; trace = trace }) (omega arith)
                (rw begun at is),
          )
