-- Bounds found line by line from the last on, kept by what does not concern them, and what they spare.
use Rattle.std.specs.Prelude.{ℕ, suc, ◌+◌, ◌-◌, ◌*◌, ◌≤◌, ◌<◌, ◌≡◌, refl, List, length, None, Some}
use Rattle.std.proofs.Common.{le_refl, arith, sym, ◌∙◌, inr}
use Rattle.std.proofs.Math.Decide.{dec_lt, ℕ_discrete}
use Rattle.places.specs.declared.Place.{Place}
use Rattle.places.specs.Entry.{Entry, least}
use Rattle.places.specs.Best.{Leads, Best}
use Rattle.queues.specs.declared.queue.Source.{Source}
use Rattle.window.specs.Rows.{Beside}
use Rattle.queues.specs.Queue.{queued, lines_in}
use Rattle.window.specs.laws.Rows.{beside_none, pushed_length, pushed_beside}
use Rattle.queues.proofs.laws.Pushed.{other_cost, pushed_own_cost}
use Rattle.candidates.specs.Search.{Search}
use Rattle.candidates.specs.Choice.{Candidate, Starts, Between}
use Rattle.passes.specs.Bound.{lesser_of, bound_at, Bounded, BoundFound, BoundRun}

-- The lesser is no more than either.
pub lesser_low : (below : ℕ) (e : Entry) → lesser_of below e ≤ below
lesser_low below None = le_refl below
lesser_low below (Some l) = omega arith

pub lesser_entry : (below x : ℕ) (s : Place) (e : Entry) → e ≡ least x s → lesser_of below e ≤ x
lesser_entry below x s e p = rw p (omega arith)

-- The last line needs no bound,
pub bound_first : (work words : List ℕ) (source : Source) (lines below : ℕ) → 0 < lines
    → BoundRun work words words source lines (lesser_of below (lines_in work source lines)) lines
bound_first work words source lines below some =
    record {
      within = le_refl lines;
      sized = refl;
      some = some;
      lowest = λ b x r l m e.
          let same : b ≡ lines = omega arith in
          lesser_entry below x r (lines_in work source lines) (rw same at e);
      bounded = λ k b x r l h m n e. absurd (omega arith);
      beside = beside_none _ _ _;
    }

-- one line more is bounded,
module _ {work words₀ words : List ℕ} {source : Source} {lines below a : ℕ} (run : BoundRun work words₀ words source lines below a)
    (few : lines ≤ 4000) (room : 48000 ≤ length words₀) (more : 1 < a) where
  pub bound_next : (new : List ℕ) → new ≡ queued words (a - 1 + 12000) (a - 1) (lesser_of below (lines_in work source (a - 1)))
      → BoundRun work words₀ new source lines (lesser_of below (lines_in work source (a - 1))) (a - 1)
  bound_next new p =
      rw p
      (record {
        within = omega (arith, run.within);
        sized = pushed_length words (a - 1 + 12000) (a - 1) _ _ ∙ run.sized;
        some = omega arith;
        lowest = λ b x r l m q. low b x r l m q (ℕ_discrete b (a - 1));
        bounded = λ k b x r l h m n q. bound k b x r l h m n q (ℕ_discrete k (a - 1));
        beside = pushed_beside words (a - 1 + 12000) (a - 1) _ _ (omega arith) (omega (arith, run.within)) run.beside;
      })
    where
      low : (b x : ℕ) (r : Place) → a - 1 ≤ b → b ≤ lines → lines_in work source b ≡ least x r → Dec (b ≡ a - 1)
          → lesser_of below (lines_in work source (a - 1)) ≤ x
      low b x r l m q (yes e) = lesser_entry below x r (lines_in work source (a - 1)) (rw e at q)
      low b x r l m q (no n) = omega (arith, lesser_low below (lines_in work source (a - 1)), run.lowest b x r (omega arith) m q)

      bound : (k b x : ℕ) (r : Place) → a - 1 ≤ k → k < lines → k ≤ b → b ≤ lines → lines_in work source b ≡ least x r → Dec (k ≡ a - 1)
          → bound_at (queued words (a - 1 + 12000) (a - 1) (lesser_of below (lines_in work source (a - 1)))) k ≤ x
      bound k b x r l h m n q (yes e) =
          let own =
          pushed_own_cost words (a - 1 + 12000) (a - 1) (lesser_of below (lines_in work source (a - 1))) (omega (arith, run.sized, run.within)) in
          rw (e, own) (low b x r (omega arith) n q (ℕ_discrete b (a - 1)))
      bound k b x r l h m n q (no d) =
          rw (other_cost words (a - 1 + 12000) (a - 1) (lesser_of below (lines_in work source (a - 1))) (k + 12000) (λ e. d (omega arith)))
          (run.bounded k b x r (omega arith) h m n q)

-- and at last all are.
pub bound_last : {work words₀ words : List ℕ} {source : Source} {lines below a since : ℕ} → BoundRun work words₀ words source lines below a
    → a ≤ since + 1 → BoundFound work words₀ source lines since words
bound_last run l =
    record { bounded = record { low = λ k b x r m h n o e. run.bounded k b x r (omega arith) h n o e }; beside = run.beside }

-- Words stored before the bounds leave them,
pub bounded_beside : {col : ℕ → Entry} {old new : List ℕ} {lines since from to : ℕ} → Beside old new from to → to ≤ 12001
    → Bounded col old lines since → Bounded col new lines since
bounded_beside {col} {old} {new} {lines} {since} {from} {to} beside apart bounded =
    record { low = λ k a x r l h m n e. rw (same k (omega arith)) (bounded.low k a x r l h m n e) }
  where
    same : (k : ℕ) → 1 ≤ k → bound_at new k ≡ bound_at old k
    same k l =
        let first = beside.words (3 * (k + 12000) + 1) (inr (omega arith)) in
        let second = beside.words (3 * (k + 12000) + 2) (inr (omega arith)) in
        omega arith

-- and so does what does not change the column.
pub bounded_same : {col new : ℕ → Entry} {words : List ℕ} {lines since : ℕ} → ((a : ℕ) → a ≤ lines → new a ≡ col a)
    → Bounded col words lines since → Bounded new words lines since
bounded_same same bounded = record { low = λ k a x r l h m n e. bounded.low k a x r l h m n (sym (same a n) ∙ e) }

-- Where a place holds less than every start in column b costs, the starts from column b on are known with those of later columns.
pub dearer : (s : Search) (b q x : ℕ) (r : Place) (held : Entry) → held ≡ least x r → ((a y : ℕ) → Candidate s a b y → x < y)
    → Best (Starts s (Between (suc b) q)) held → Best (Starts s (Between b q)) held
unfolding Leads
dearer s b q x r held is more best =
    record {
      may = λ y t e. let m = best.may y t e in ((omega (arith, m.0.0), m.0.1), m.1);
      leads = λ a c y start. go a c y start (dec_lt b c);
    }
  where
    go : (a c y : ℕ) → Starts s (Between b q) a c y → Dec (b < c) → Leads held a c y
    go a c y start (yes l) = best.leads a c y ((l, start.0.1), start.1)
    go a c y start (no l) =
        let same : c ≡ b = omega (arith, start.0.0) in
        let beyond = more a y (rw same at start.1) in
        rw is (omega arith, λ e. absurd (omega arith))
