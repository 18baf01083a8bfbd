-- A window's best line is the best start of its column, and what the sweeps gather is the best of all starts.
use Rattle.std.specs.Prelude.{ℕ, suc, ◌+◌, ◌≤◌, ◌<◌, ◌≡◌, ◌⊎◌, ◌↔◌, Bool, true, false, ltb, None}
use Rattle.std.proofs.Common.{le_refl, arith, sym, subst, ◌∙◌, inl, inr, ltb-true, ltb-false}
use Rattle.std.proofs.Math.Decide.{dec_le, dec_lt}
use Rattle.std.proofs.Math.Path.{refl}
use Rattle.model.specs.Gather.{pick}
use Rattle.model.specs.Height.{stacked}
use Rattle.model.proofs.laws.Height.{stacked_grows}
use Rattle.model.specs.Rules.{floor}
use Rattle.theorems.specs.pages.Graph.{full}
use Rattle.places.specs.Entry.{Entry}
use Rattle.places.specs.Order.{Earlier}
use Rattle.places.specs.Columns.{place_at}
use Rattle.places.specs.Best.{Paid, Best}
use Rattle.places.proofs.laws.Best.{no_reach, best_as, best_unique}
use Rattle.window.specs.declared.slide.Load.{Load}
use Rattle.window.specs.declared.slide.Window.{Window}
use Rattle.window.specs.Slide.{Tall, Open}
use Rattle.queues.specs.Queue.{Lines}
use Rattle.candidates.specs.Better.{chosen, start_at}
use Rattle.candidates.specs.Search.{Table, Search, goes, white_from, start_from, best_start}
use Rattle.candidates.specs.Choice.{Candidate, Starts, Any, Above, Level, Between}
use Rattle.candidates.specs.Beside.{Under, alone, Bears, Sought}
use Rattle.candidates.proofs.laws.Choice.{best_chosen}
use Rattle.candidates.proofs.laws.Found.{start_best, best_start_lem}
use Rattle.candidates.proofs.laws.Pages.{Keeps, goes_lines, goes_alone, candidate_earlier}

module _ (s : Search) (sought : Sought s) (b : ℕ) (left : b ≤ s.column) (under : Under s.galley b s.column) where
  -- Which of them a page goes from, by what it has beside its lines.
  page_lines : (load : Load) → Bears s b load → (a : ℕ) → a < s.line
      → (goes s a b ≡ true)
      ↔ Keeps s.galley (place_at s.galley s.line s.column)
      (stacked (s.galley.stream 0) (s.galley.stream 0).least a s.line + load.tight)
      (stacked (s.galley.stream 0) (s.galley.stream 0).most a s.line + load.loose)
  page_lines load bears a l = rw (bears.tight, bears.loose) (goes_lines s sought a b l left under)

  -- No page starts at or before a line from which it is too tall.
  pub start_tall : (load : Load) → Bears s b load → (last : ℕ) → last < s.line → Tall (s.galley.stream 0) load last s.line
      → (a x : ℕ) → Candidate s a b x → last < a
  start_tall load bears last l tall a x start = go (dec_lt last a)
    where
      go : Dec (last < a) → last < a
      go (yes h) = h
      go (no h) =
          let grows = stacked_grows (s.galley.stream 0) (s.galley.stream 0).least last s.line a s.line (omega arith) (omega arith) (le_refl s.line) in
          absurd (omega (arith, ((page_lines load bears a (omega arith)).0 start.page).short, bears.htmax))

  -- No page starts before the window.
  pub window_low : (load : Load) → Bears s b load → ((a : ℕ) → a < load.first → a < s.line → s.table a b s.side ≡ None)
      → (window : Window) → Open (s.galley.stream 0) load window s.line → (a x : ℕ) → Candidate s a b x → window.low ≤ a
  window_low load bears early window opened a x start = go (dec_lt a s.line) (dec_le load.first a) (dec_le window.low a)
    where
      go : Dec (a < s.line) → Dec (load.first ≤ a) → Dec (window.low ≤ a) → window.low ≤ a
      go l f (yes h) = h
      go (no l) f (no h) = absurd (omega (arith, opened.ends.low))
      go (yes l) (no f) (no h) = absurd (no_reach (sym (early a (omega arith) l) ∙ start.reached.entry))
      go (yes l) (yes f) (no h) =
          let tall = opened.ends.passed a s.line f (omega arith) (le_refl s.line) in
          absurd (omega (arith, start_tall load bears a l tall a x start))

  -- The best line of the window is the best of the column's lines before this one: those before the first are not reached.
  pub window_best : (load : Load) → Bears s b load → ((a : ℕ) → a < load.first → a < s.line → s.table a b s.side ≡ None)
      → (window : Window) → Open (s.galley.stream 0) load window s.line
      → (white : ℕ → ℕ) → ((a : ℕ) → a < s.line → white a ≡ white_from s a b) → (e : Entry)
      → Best (Lines (λ a. s.table a b s.side) white window.low window.high b) e → Best (Starts s (Above b s.line)) e
  window_best load bears early window opened white whites e best = best_as starts lines best
    where
      fits : (a : ℕ) → window.low ≤ a → a < s.line
          → Dec (stacked (s.galley.stream 0) (s.galley.stream 0).least a s.line + load.tight ≤ load.htmax)
          → stacked (s.galley.stream 0) (s.galley.stream 0).least a s.line + load.tight ≤ load.htmax
      fits a l m (yes h) = h
      fits a l m (no h) = absurd (opened.fits a l m (omega arith))

      starts : (a b' x : ℕ) → Lines (λ a. s.table a b s.side) white window.low window.high b a b' x → Starts s (Above b s.line) a b' x
      starts a b' x (low, high, e, reached) =
          let l : a < s.line = omega (arith, opened.ends.high) in
          let short = fits a low l (dec_le _ _) in
          let enough = opened.ends.filled a s.line (omega (arith, opened.ends.since.low)) high (le_refl s.line) in
          rw e (
            (refl, l),
            record {
              line = omega arith;
              column = left;
              page = (page_lines load bears a l).1 (record { short = omega (arith, bears.htmax); enough = omega (arith, bears.htmin) });
              reached = subst (λ p. Paid (s.table a b s.side) p x) (whites a l) reached;
            },
          )

      lines : (a b' x : ℕ) → Starts s (Above b s.line) a b' x → Lines (λ a. s.table a b s.side) white window.low window.high b a b' x
      lines a b' x ((e, l), c) =
          let d : Candidate s a b x = rw e at c in
          let keeps = (page_lines load bears a l).0 d.page in (
            window_low load bears early window opened a x d,
            high keeps (dec_lt a window.high),
            e,
            subst (λ p. Paid (s.table a b s.side) p x) (sym (whites a l)) d.reached,
          )
        where
          K : Type 0
          K = Keeps s.galley (place_at s.galley s.line s.column)
              (stacked (s.galley.stream 0) (s.galley.stream 0).least a s.line + load.tight)
              (stacked (s.galley.stream 0) (s.galley.stream 0).most a s.line + load.loose)

          high : K → Dec (a < window.high) → a < window.high
          high k (yes h) = h
          high k (no h) = absurd (opened.short a (omega arith) l (omega (arith, k.enough, bears.htmin)))

  -- The page of floats alone, where it is high enough, is the best that starts after this line.
  pub alone_best : b < s.column → (tight loose least white : ℕ)
      → tight ≡ alone s.galley (λ st. st.least) s.galley.spec.smin b s.column
      → loose ≡ alone s.galley (λ st. st.most) s.galley.spec.smax b s.column
      → least ≡ floor s.galley (full s.galley (place_at s.galley s.line s.column)) → tight ≤ s.galley.spec.htmax
      → white ≡ white_from s s.line b → Best (Starts s (Level b s.line))
      (pick (ltb loose least) None (start_at (s.table s.line b s.side) white s.line b))
  unfolding start_from
  alone_best k tight loose least white t l f short w =
      go (ltb loose least) refl (goes s s.line b) refl (rw w (start_best s s.line b (le_refl _) left))
    where
      page : (goes s s.line b ≡ true) ↔ Keeps s.galley (place_at s.galley s.line s.column) tight loose
      page = rw (t, l) (goes_alone s sought b k under)

      go : (x : Bool) → ltb loose least ≡ x → (y : Bool) → goes s s.line b ≡ y
          → Best (Starts s (Level b s.line)) (pick y (start_at (s.table s.line b s.side) white s.line b) None)
          → Best (Starts s (Level b s.line)) (pick x None (start_at (s.table s.line b s.side) white s.line b))
      go true p false q best = best
      go false p true q best = best
      go true p true q best = absurd (omega (arith, ltb-true loose least p, (page.0 q).enough, f))
      go false p false q best =
          let low = ltb-false loose least p in
          let yes_page = page.1 (record { short = short; enough = omega arith }) in
          let z : ◌≡◌ {A = ℕ} 0 1 = cc in
          absurd (omega arith)

-- With the starts of column b, those of later columns being known, the starts from column b on are known.
pub improved : (s : Search) (b q : ℕ) → b < q → (held front floats : Entry) → Best (Starts s (Between (suc b) q)) held
    → Best (Starts s (Above b s.line)) front → Best (Starts s (Level b s.line)) floats
    → Best (Starts s (Between b q)) (chosen held (chosen front floats))
improved s b q k held front floats h f l =
    best_chosen (λ a x y c. ((omega (arith, c.0.0), c.0.1), c.1)) (λ a x y c. (into a x c.0, c.1))
    (λ a x y c. part a x y c (dec_lt b x) (dec_lt a s.line)) held (chosen front floats) h
    (best_chosen (λ a x y c. (inl c.0, c.1)) (λ a x y c. (inr c.0, c.1)) (λ a x y c. either a x y c c.0) front floats f l)
  where
    Same : ℕ → ℕ → Type 0
    Same a x = Above b s.line a x ⊎ Level b s.line a x

    into : (a x : ℕ) → Same a x → Between b q a x
    into a x (inl p) = (omega (arith, p.0), omega (arith, p.0))
    into a x (inr p) = (omega (arith, p.0), omega (arith, p.0))

    either : (a x y : ℕ) → Starts s Same a x y → Same a x → Starts s (Above b s.line) a x y ⊎ Starts s (Level b s.line) a x y
    either a x y c (inl p) = inl (p, c.1)
    either a x y c (inr p) = inr (p, c.1)

    part : (a x y : ℕ) → Starts s (Between b q) a x y → Dec (b < x) → Dec (a < s.line)
        → Starts s (Between (suc b) q) a x y ⊎ Starts s Same a x y
    part a x y c (yes n) d = inl ((n, c.0.1), c.1)
    part a x y c (no n) (yes o) = inr (inl (omega (arith, c.0.0), o), c.1)
    part a x y c (no n) (no o) = inr (inr (omega (arith, c.0.0), omega (arith, c.1.line)), c.1)

-- The earlier columns and the lines before in the column itself are all that there is, so that the better is what the search finds.
pub start_chosen : (s : Search) → Sought s → (held front : Entry) → Best (Starts s (Between 0 s.column)) held
    → Best (Starts s (Above s.column s.line)) front → chosen held front ≡ best_start s
start_chosen s sought held front h f =
    best_unique (chosen held front) (best_start s)
    (best_chosen (λ a b x c. (tt, c.1)) (λ a b x c. (tt, c.1)) (λ a b x c. part a b x c (candidate_earlier s sought a b x c.1)) held front h f)
    (best_start_lem s)
  where
    part : (a b x : ℕ) → Starts s Any a b x → Earlier a b s.line s.column
        → Starts s (Between 0 s.column) a b x ⊎ Starts s (Above s.column s.line) a b x
    part a b x c (inl l) = inl ((omega arith, l), c.1)
    part a b x c (inr (e, l)) = inr ((e, l), c.1)

-- The same search in another table.
abbrev pub search_in : Search → Table → Search
search_in s t = record { galley = s.galley; table = t; line = s.line; column = s.column; side = s.side }

-- A start is one in every table that has the same entry for it.
candidate_in : (s : Search) (t u : Table) (a b x : ℕ) → u a b s.side ≡ t a b s.side → Candidate (search_in s t) a b x
    → Candidate (search_in s u) a b x
unfolding goes white_from
candidate_in s t u a b x same c =
    let r = c.reached in
    record {
      line = c.line;
      column = c.column;
      page = c.page;
      reached = record { own = r.own; start = r.start; entry = same ∙ r.entry; whole = r.whole };
    }

-- What is known of starts stays known while their entries do not change.
pub best_same : (s : Search) (t : Table) (P : ℕ → ℕ → Type 0) (e : Entry)
    → ((a b : ℕ) → P a b → a ≤ s.line → b ≤ s.column → t a b s.side ≡ s.table a b s.side)
    → Best (Starts s P) e → Best (Starts (search_in s t) P) e
best_same s t P e same =
    best_as
    (λ a b x (p, c). (p, candidate_in s s.table t a b x (same a b p c.line c.column) c))
    (λ a b x (p, c). (p, candidate_in s t s.table a b x (sym (same a b p c.line c.column)) c))
