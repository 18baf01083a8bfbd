-- A filled work area holds the best list: what each step of making may rest on.
use Rattle.std.specs.Prelude.{ℕ, ◌+◌, ◌-◌, ◌*◌, ◌≤◌, ◌≡◌, refl, Bool, true, false, List, [], ◌++◌, take, None, Some, Ok}
use Rattle.std.proofs.Common.{le_refl, mul_comm, mul-le-mul, mul-le-mul_right, arith, ◌∙◌, subst, append_assoc, append-nil, length-append, length-drop, take_all, take_at, drop_at, drop-drop}
use Rattle.std.proofs.Math.Nat.{sub-zero}
use Rattle.std.proofs.Math.Path.{sym, ap}
use Rattle.std.proofs.Math.ListN.{length, drop}
use Rattle.std.proofs.Math.Seq.{drop-length}
use Rattle.model.specs.Galley.{Place, streams}
use Rattle.model.specs.Answers.{pages_of, words_of, marked, Answer, refused}
use Rattle.model.specs.Best.{valid}
use Rattle.model.specs.Opening.{made_words_after}
use Rattle.model.specs.laws.Lists.{◌∈◌}
use Rattle.model.specs.laws.Words.{Shaped}
use Rattle.model.proofs.laws.Words.{length_words}
use Rattle.model.proofs.laws.Valid.{few_pages, valid_accepted}
use Rattle.theorems.specs.turns.LeastTurns.{valid_counts}
use Rattle.theorems.specs.turns.Bounds.{Limits, Narrow}
use Rattle.theorems.specs.pages.Following.{accepted_follows}
use Rattle.theorems.specs.pages.LeastAfter.{words_append}
use Rattle.galley.specs.declared.Galley.{Galley}
use Rattle.galley.specs.Whole.{galley_of}
use Rattle.galley.specs.Model.{model_of, sides_in}
use Rattle.galley.proofs.laws.Sound.{sound}
use Rattle.blocks.specs.Counts.{page_words}
use Rattle.blocks.specs.laws.Counts.{streams_of_lem, blocks_of}
use Rattle.rules.specs.laws.Sane.{reads_sane}
use Rattle.marking.specs.Mark.{mark_read, mark_of}
use Rattle.places.specs.declared.Place.{Place as Start}
use Rattle.places.specs.declared.Origin.{Origin}
use Rattle.places.specs.Entry.{Entry}
use Rattle.places.specs.Columns.{columns, float_sizes}
use Rattle.candidates.specs.Read.{table_in, columns_in}
use Rattle.entries.specs.Filled.{Filled}
use Rattle.entries.specs.laws.Price.{sound_limits}
use Rattle.walk.specs.laws.Walk.{columns_in_some}
use Rattle.walk.specs.declared.Stop.{Stop}
use Rattle.walk.specs.Trace.{last_side, entry_of, write_back}
use Rattle.walk.specs.Traceable.{is_reached, blocks_in, WorkArea, full_place, last_stop, Visits, Walkable, Writable, pages_back}
use Rattle.needs.specs.laws.Needs.{page_few}
use Rattle.solving.specs.Shown.{AllRight, Proper}
use Rattle.solving.specs.Back.{last_of, Found}
use Rattle.solving.specs.Solved.{TabledFrom, Solved, Written}
use Rattle.solving.specs.laws.Last.{last_side_lem}
use Rattle.solving.specs.laws.Back.{back_none, back_best}
use Rattle.solving.specs.laws.Written.{best_valid, made_none, made_some}
use Rattle.solving.specs.laws.Tabled.{last_place_lem, tabled_narrow, tabled_filled, tabled_right, tabled_lent, tabled_traceable}

-- A galley that was read keeps the ranges of documents 01 and 02.
pub reads_limits : (bytes : List ℕ) (g : Galley) → galley_of bytes ≡ Ok g → Limits (model_of bytes g)
reads_limits bytes g e = sound_limits bytes g (sound bytes g e)

module _ {bytes : List ℕ} {g : Galley} {opening : List ℕ} {from : Origin} {work list : List ℕ}
    (solved : Solved bytes g opening from work list) where
  tabled : TabledFrom bytes g from work
  unfolding columns_in
  tabled = record { sound = sound bytes g solved.reads; before = solved.before; enough = solved.enough; is = solved.is }

  narrow : Narrow (model_of bytes g)
  narrow = tabled_narrow tabled

  proper : Proper (model_of bytes g) from.place
  proper = solved.opened.proper

  -- The pages of the opening.
  abbrev printed : List Place
  printed = pages_of (model_of bytes g) opening

  fill : Filled (model_of bytes g) from (table_in g work) 0 (columns (float_sizes (model_of bytes g)))
  fill = tabled_filled tabled

  right : AllRight (model_of bytes g) from (table_in g work)
  right = tabled_right tabled proper

  pub solved_lent : WorkArea g work
  solved_lent = tabled_lent tabled

  -- Step by step, of what the functions return: the last stop, whether it is reached, the number of pages.
  module _ (last : Stop) (is : last ≡ last_stop g work) where
    at_last : last ≡ last_of (model_of bytes g) (table_in g work)
    at_last =
        is ∙ sym (ap (λ (m : Start). record { place = m; side = last_side (sides_in g) (table_in g work) m }) (last_place_lem bytes g))

    pub walk_visits : Visits g last
    walk_visits =
        rw is
        (record {
          line = le_refl _;
          column = omega (arith, columns_in_some g);
          side = last_side_lem (sides_in g) (table_in g work) (full_place g);
        })

    pub walk_able : Walkable g work last
    walk_able = record { table = tabled_traceable tabled; visits = walk_visits }

    module _ (r : Bool) (told : r ≡ is_reached (entry_of (table_in g work) last)) where
      -- Where the full place is not reached, making answers 11 and writes nothing.
      pub walk_none : r ≡ false → Written bytes g opening list (refused 11 0) list
      walk_none e = go (entry_of (table_in g work) last) refl (sym told ∙ e)
        where
          go : (y : Entry) → entry_of (table_in g work) last ≡ y → is_reached y ≡ false → Written bytes g opening list (refused 11 0) list
          go None q h =
              let b =
              back_none (model_of bytes g) (reads_sane bytes g solved.reads) narrow printed solved.opened.whole.printed from solved.opened.is proper
              (table_in g work) right fill (reads_limits bytes g solved.reads) (omega (arith, solved.sought (ap (entry_of (table_in g work)) (sym is) ∙ q)))
              (ap (entry_of (table_in g work)) (sym at_last) ∙ q) in
              let (a, w) = made_none (model_of bytes g) opening solved.opened.stands b in
              record { answers = a; listed = sym (ap (λ l. l ++ drop (length l) list) w) }
          go (Some l) q h = let z : ◌≡◌ {A = ℕ} 0 1 = cc in absurd (omega arith)

      -- Where it is reached, the walk back finds what follows in the best list.
      found : r ≡ true → (ps : List Place) × Found (model_of bytes g) printed from (table_in g work) (blocks_in g) last ps
      found e = go (entry_of (table_in g work) last) refl (sym told ∙ e)
        where
          go : (y : Entry) → entry_of (table_in g work) last ≡ y → is_reached y ≡ true
              → (ps : List Place) × Found (model_of bytes g) printed from (table_in g work) (blocks_in g) last ps
          go None q h = let z : ◌≡◌ {A = ℕ} 0 1 = cc in absurd (omega arith)
          go (Some l) q h =
              let all = blocks_of g bytes in
              subst
              (λ (at : Stop). (ps : List Place) × Found (model_of bytes g) printed from (table_in g work) (blocks_in g) at ps)
              (sym at_last)
              (back_best (model_of bytes g) (reads_sane bytes g solved.reads) narrow printed solved.opened.whole.printed from solved.opened.is proper
              (table_in g work) right fill (blocks_in g) (omega arith) l.cost l.start (ap (entry_of (table_in g work)) (sym at_last) ∙ q))

      module _ (p : ℕ) (pages : p ≡ pages_back g work from last) (e : r ≡ true) where
        -- The list is valid, and its words are the opening's and those of what follows.
        valid_list : (printed ++ (found e).0) ∈ valid (model_of bytes g)
        valid_list = best_valid (model_of bytes g) printed (printed ++ (found e).0) (found e).1.best

        list_words : words_of (printed ++ (found e).0) ≡ opening ++ words_of (found e).0
        list_words = words_append printed (found e).0 ∙ ap (λ l. l ++ words_of (found e).0) solved.opened.whole.words

        shaped : Shaped (streams (model_of bytes g)) (printed ++ (found e).0)
        shaped = ((valid_accepted (model_of bytes g) (printed ++ (found e).0)).0 valid_list).shaped

        -- Those of what follows are as many as are counted,
        rest_long : length (words_of (found e).0) ≡ page_words g * p
        rest_long =
            let wide = streams_of_lem g bytes in
            length_words (streams (model_of bytes g)) (found e).0 (accepted_follows (model_of bytes g) printed solved.opened.whole.printed (found e).0
            ((valid_accepted (model_of bytes g) (printed ++ (found e).0)).0 valid_list)).shaped
            ∙ rw (wide, (found e).1.pages, ← pages) (mul_comm p (page_words g))

        -- and all of them fit the page list.
        pub walk_room : length opening + page_words g * p ≤ length list
        walk_room =
            let wide = streams_of_lem g bytes in
            let all = blocks_of g bytes in
            let few = few_pages (model_of bytes g) (printed ++ (found e).0) ((valid_accepted (model_of bytes g) (printed ++ (found e).0)).0 valid_list) in
            let long : length (words_of (printed ++ (found e).0)) ≡ length (printed ++ (found e).0) * page_words g =
            rw wide at (length_words (streams (model_of bytes g)) (printed ++ (found e).0) shaped) in
            let parts = ap length list_words ∙ length-append opening (words_of (found e).0) in
            let most = mul-le-mul_right (page_words g) few in
            omega (
              arith,
              solved.room,
              rest_long,
              mul_comm (page_words g) (g.text.count + g.figures.count + g.tables.count),
              ap (λ n. n * page_words g) all,
            )

        pub walk_small : length opening + page_words g * p ≤ 12750
        walk_small =
            let so = sound bytes g solved.reads in
            let wide = streams_of_lem g bytes in
            let few = few_pages (model_of bytes g) (printed ++ (found e).0) ((valid_accepted (model_of bytes g) (printed ++ (found e).0)).0 valid_list) in
            let long : length (words_of (printed ++ (found e).0)) ≡ length (printed ++ (found e).0) * page_words g =
            rw wide at (length_words (streams (model_of bytes g)) (printed ++ (found e).0) shaped) in
            let parts = ap length list_words ∙ length-append opening (words_of (found e).0) in
            let all : length (printed ++ (found e).0) ≤ 4250 =
            omega (arith, few, blocks_of g bytes, so.few_lines, so.figures.few, so.tables.few) in
            let most = mul-le-mul {n₁ = length (printed ++ (found e).0)} {m₁ = page_words g} {n₂ = 4250} {m₂ = 3} all (page_few g) in
            omega (arith, rest_long)

        pub walk_writable : (rest : List ℕ) → length rest + length opening ≡ length list → Writable g work last p rest
        walk_writable rest long = record { walk = walk_able; room = omega (arith, walk_room) }

        -- The opening is copied, and what follows is written behind it.
        module _ (list₁ list' part : List ℕ) (k : ℕ) (copied : list₁ ≡ opening ++ drop (length opening) list)
            (all : k ≡ length list₁ - length opening)
            (put : part ≡ write_back (model_of bytes g) (table_in g work) p last (take k (drop (length opening) list₁)))
            (joined : list' ≡ take (length opening) list₁ ++ (part ++ drop k (drop (length opening) list₁))) where
          -- The part that is lent is all that stands behind the opening.
          wrote : list'
              ≡ take (length opening) list₁ ++ write_back (model_of bytes g) (table_in g work) p last (drop (length opening) list₁)
          wrote =
              let n = length opening in
              let long = length-drop n list₁ in
              let whole : take k (drop n list₁) ≡ drop n list₁ = take_all k (drop n list₁) (omega arith) in
              let exact : k ≡ length (drop n list₁) = omega arith in
              let none_left : drop k (drop n list₁) ≡ [] = ap (λ m. drop m (drop n list₁)) exact ∙ drop-length (drop n list₁) in
              joined
              ∙ ap (λ l. take n list₁ ++ (part ++ l)) none_left
              ∙ ap (λ l. take n list₁ ++ l) (append-nil part ∙ put ∙ ap (write_back (model_of bytes g) (table_in g work) p last) whole)

          -- The whole list stands before the rest.
          words : list' ≡ (opening ++ words_of (found e).0) ++ drop (length opening + page_words g * p) list
          words =
              let wide = streams_of_lem g bytes in
              let n = length opening in
              let behind : drop n list₁ ≡ drop n list = ap (drop n) copied ∙ drop_at opening (drop n list) n refl in
              let before : take n list₁ ≡ opening = ap (take n) copied ∙ take_at opening (drop n list) n refl in
              let left : length (drop n list) ≡ length list - n = length-drop n list in
              let fits : page_words g * p ≤ length (drop n list) = omega (arith, walk_room) in
              let rest : write_back (model_of bytes g) (table_in g work) p last (drop n list) ≡ words_of (found e).0 ++ drop (page_words g * p) (drop n list) =
              rw (pages, ← wide) ((found e).1.words (drop n list) (rw (wide, ← pages) fits)) in
              wrote
              ∙ ap (λ l. l ++ write_back (model_of bytes g) (table_in g work) p last (drop n list₁)) before
              ∙ ap (λ l. opening ++ write_back (model_of bytes g) (table_in g work) p last l) behind
              ∙ ap (λ l. opening ++ l) rest
              ∙ ap (λ l. opening ++ (words_of (found e).0 ++ l)) (drop-drop (page_words g * p) n list)
              ∙ sym (append_assoc opening (words_of (found e).0) (drop (n + page_words g * p) list))

          all_long : length (opening ++ words_of (found e).0) ≡ length opening + page_words g * p
          all_long = length-append opening (words_of (found e).0) ∙ omega (arith, rest_long)

          -- Marking what is written, from its first word on, answers as making does.
          pub walk_written : (answer : Answer) → answer ≡ mark_of bytes (take (length opening + page_words g * p - 0) list')
              → Written bytes g opening list answer list'
          unfolding mark_of mark_read
          walk_written answer told =
              let n = length opening + page_words g * p in
              let told_answer = told ∙ ap (λ k. mark_of bytes (take k list')) (sub-zero n) in
              let qs = printed ++ (found e).0 in
              let made = made_some (model_of bytes g) opening solved.opened.stands qs (found e).1.best in
              let is : made_words_after (model_of bytes g) opening ≡ opening ++ words_of (found e).0 = made.1 ∙ list_words in
              record {
                answers =
                    told_answer
                    ∙ ap (mark_read bytes (take n list')) solved.reads
                    ∙ ap (λ l. marked (model_of bytes g) (take n l)) words
                    ∙ ap (marked (model_of bytes g)) (take_at (opening ++ words_of (found e).0) (drop n list) n all_long ∙ sym list_words)
                    ∙ valid_counts (model_of bytes g) qs valid_list
                    ∙ made.0;
                listed =
                    words
                    ∙ ap (λ k. (opening ++ words_of (found e).0) ++ drop k list) (sym all_long)
                    ∙ sym (ap (λ l. l ++ drop (length l) list) is);
              }
