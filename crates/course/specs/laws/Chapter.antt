-- A filled table of a chapter tells the words of the best list that closes on a side, and marking them its counts.
use Rattle.std.specs.Prelude.{ℕ, ◌+◌, ◌*◌, ◌≤◌, ◌≡◌, refl, List, ◌++◌, take, drop, None, Some}
use Rattle.std.proofs.Common.{mul_comm, mul-le-mul, mul-le-mul_right, arith, sym, ◌∙◌, take_at}
use Rattle.std.proofs.Math.Path.{ap}
use Rattle.std.proofs.Math.Option.{Option, none, some}
use Rattle.std.proofs.Math.ListN.{length}
use Rattle.model.specs.Galley as model
use Rattle.model.specs.Galley.{Place, streams}
use Rattle.model.specs.Answers.{words_of, marked, Answer}
use Rattle.model.specs.Best.{valid}
use Rattle.model.specs.laws.Lists.{◌∈◌}
use Rattle.model.proofs.laws.Best.{MakesOf, makes, impossible}
use Rattle.model.proofs.laws.Words.{length_words}
use Rattle.model.proofs.laws.Valid.{few_pages, valid_accepted}
use Rattle.theorems.specs.turns.LeastTurns.{valid_counts}
use Rattle.theorems.specs.books.Closing.{closing, best_closing, closing_valid, closing_makes}
use Rattle.galley.specs.declared.Galley.{Galley}
use Rattle.galley.specs.Model.{model_of}
use Rattle.galley.specs.Sound.{Sound}
use Rattle.blocks.specs.Counts.{page_words}
use Rattle.blocks.specs.laws.Counts.{streams_of_lem, blocks_of}
use Rattle.needs.specs.Needs.{list_needed}
use Rattle.places.specs.Entry.{Entry}
use Rattle.candidates.specs.Read.{table_in, columns_in}
use Rattle.filling.specs.Fill.{filled}
use Rattle.filling.specs.laws.Fill.{length_filled}
use Rattle.entries.specs.laws.Side.{needed_roomy}
use Rattle.walk.specs.Trace.{entry_of, write_back}
use Rattle.walk.specs.Traceable.{Walkable, Writable, pages_back}
use Rattle.needs.specs.laws.Needs.{page_few}
use Rattle.closings.specs.Chapter.{nothing_yet, closing_stop, ChapterRoom, Tabled}
use Rattle.closings.specs.laws.Chapter.{closing_walkable, closed_none, Closes, closed_best, closed_pages, closed_words}
use Rattle.course.specs.Chapter.{closing_list, Makeable, Written, Made}

-- The best list that closes on a side is valid.
pub closing_is_valid : (g : model.Galley) (c : ℕ) (ps : List Place) → best_closing g c ≡ some ps → ps ∈ valid g
closing_is_valid g c ps e = go (best_closing g c) (closing_makes g c) e
  where
    go : (b : Option (List Place)) → MakesOf g (closing g c) b → b ≡ some ps → ps ∈ valid g
    go none (impossible h) e = let z : ◌≡◌ {A = ℕ} 0 1 = cc in absurd (omega arith)
    go (some rs) (makes l) e = let q : rs ≡ ps = cc in (closing_valid g c ps (rw q at l.lawful)).0

-- A valid list has no more pages than the galley has blocks, and its words fit what it needs.
module _ {bytes : List ℕ} {g : Galley} (sound : Sound bytes g) (ps : List Place) (lawful : ps ∈ valid (model_of bytes g)) where
  pub list_long : length (words_of ps) ≡ page_words g * length ps
  list_long =
      let wide = streams_of_lem g bytes in
      length_words (streams (model_of bytes g)) ps ((valid_accepted (model_of bytes g) ps).0 lawful).shaped
      ∙ rw wide (mul_comm (length ps) (page_words g))

  pub list_pages : length ps ≤ 4250
  list_pages =
      omega (
        arith,
        few_pages (model_of bytes g) ps ((valid_accepted (model_of bytes g) ps).0 lawful),
        blocks_of g bytes,
        sound.few_lines,
        sound.figures.few,
        sound.tables.few,
      )

  pub list_small : length (words_of ps) ≤ 12750
  list_small =
      let most = mul-le-mul {n₁ = page_words g} {m₁ = length ps} {n₂ = 3} {m₂ = 4250} (page_few g) list_pages in
      omega (arith, list_long)

  pub list_fits : length (words_of ps) ≤ list_needed g
  list_fits =
      let all = blocks_of g bytes in
      let few = few_pages (model_of bytes g) ps ((valid_accepted (model_of bytes g) ps).0 lawful) in
      let fewer : length ps ≤ g.text.count + g.figures.count + g.tables.count = omega arith in
      let most = mul-le-mul_right (page_words g) fewer in
      omega (
        arith,
        list_long,
        mul_comm (page_words g) (length ps),
        mul_comm (page_words g) (g.text.count + g.figures.count + g.tables.count),
      )

module _ {bytes : List ℕ} {g : Galley} {c : ℕ} {work list : List ℕ} (p : Makeable bytes g c work list) where
  -- The pages of the list.
  abbrev pub made : List Place
  made = closing_list bytes g c

  made_valid : made ∈ valid (model_of bytes g)
  made_valid = closing_is_valid (model_of bytes g) c made p.best

  pub make_room : ChapterRoom bytes g work
  unfolding columns_in
  make_room = record { sound = p.sound; room = p.enough }

  module _ (work₁ : List ℕ) (is : work₁ ≡ filled (model_of bytes g) nothing_yet work) where
    tabled : Tabled bytes g work₁
    unfolding columns_in
    tabled = record { sound = p.sound; before = work; enough = p.enough; is = is }

    pub make_lent : length work₁ ≡ length work
    unfolding columns_in
    make_lent = ap length is ∙ length_filled (model_of bytes g) nothing_yet work (needed_roomy bytes g p.enough)

    pub make_walkable : Walkable g work₁ (closing_stop g c)
    make_walkable = closing_walkable tabled c p.occurs

    found : (x : ℕ) × (k : Closes tabled c p.occurs x) × (k.pages ≡ made)
    found = go (entry_of (table_in g work₁) (closing_stop g c)) refl
      where
        go : (e : Entry) → entry_of (table_in g work₁) (closing_stop g c) ≡ e → (x : ℕ) × (k : Closes tabled c p.occurs x) × (k.pages ≡ made)
        go None e =
            let no = closed_none tabled c p.occurs e in
            let z : ◌≡◌ {A = Option (List Place)} none (some made) = sym no ∙ p.best in
            let z' : ◌≡◌ {A = ℕ} 0 1 = cc in absurd (omega arith)
        go (Some l) e =
            let k = closed_best tabled c p.occurs l.cost l.start e in
            let z : some k.pages ≡ some made = sym k.best ∙ p.best in
            let same : k.pages ≡ made = cc in (l.cost, k, same)

    module _ (n : ℕ) (counted : n ≡ pages_back g work₁ nothing_yet (closing_stop g c)) where
      -- The walk back counts its pages,
      pages : n ≡ length made
      pages = counted ∙ closed_pages tabled c p.occurs found.0 found.1 ∙ ap length found.2

      words : page_words g * n ≡ length (words_of made)
      words = ap (λ n. page_words g * n) pages ∙ sym (list_long p.sound made made_valid)

      -- as many as the page list has room for,
      pub make_fits : page_words g * n ≤ length list
      make_fits = omega (arith, words, list_fits p.sound made made_valid, p.room)

      pub make_small : page_words g * n ≤ 12750
      make_small = omega (arith, words, list_small p.sound made made_valid)

      pub make_writable : Writable g work₁ (closing_stop g c) n list
      make_writable = record { walk = make_walkable; room = make_fits }

      -- and writes their words before the rest of it.
      pub make_written : (list' : List ℕ) → list' ≡ write_back (model_of bytes g) (table_in g work₁) n (closing_stop g c) list
          → Written bytes g c work list (page_words g * n) work₁ list'
      make_written list' put =
          let wide = streams_of_lem g bytes in
          let long : length found.1.pages ≡ n = ap length found.2 ∙ sym pages in
          let fits : streams (model_of bytes g) * length found.1.pages ≤ length list = rw (wide, long) make_fits in
          let told = closed_words tabled c p.occurs found.0 found.1 list fits in
          let told' : write_back (model_of bytes g) (table_in g work₁) n (closing_stop g c) list
          ≡ words_of found.1.pages ++ drop (page_words g * n) list = rw (wide, long) at told in
          record {
            words = words;
            fit = make_fits;
            listed = put ∙ told' ∙ ap (λ ps. words_of ps ++ drop (page_words g * n) list) found.2;
            lent = make_lent;
          }

  -- Marking what was written gives the counts of the list.
  pub make_marked : {n : ℕ} {work' list' : List ℕ} → Written bytes g c work list n work' list'
      → (answer : Answer) → answer ≡ marked (model_of bytes g) (take n list') → Made bytes g c work list answer work' list'
  make_marked {n} {work'} {list'} w answer told =
      record {
        counts =
            told
            ∙ ap (λ l. marked (model_of bytes g) (take n l)) w.listed
            ∙ ap (marked (model_of bytes g)) (take_at (words_of made) (drop n list) n (sym w.words))
            ∙ valid_counts (model_of bytes g) made made_valid;
        listed = w.listed ∙ ap (λ k. words_of made ++ drop k list) w.words;
        lent = w.lent;
      }
