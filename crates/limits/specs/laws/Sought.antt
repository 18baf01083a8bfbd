-- Tables filled one after another in the same words: each is as if it were the first.
use Rattle.std.specs.Prelude.{ℕ, ◌+◌, ◌≤◌, ◌<◌, ◌≡◌, refl, Bool, true, false, List, length, None}
use Rattle.std.proofs.Math.Decide.{dec_lt}
use Rattle.std.proofs.Common.{le_refl, arith, ◌∙◌, ap, lt-ltb, le-ltb}
use Rattle.galley.specs.declared.Galley.{Galley}
use Rattle.galley.specs.Model.{sides_in, model_of}
use Rattle.places.specs.declared.Origin.{Origin}
use Rattle.places.specs.Address.{area}
use Rattle.places.specs.Entry.{Entry, boundless, cleared}
use Rattle.places.proofs.laws.Address.{area_needed}
use Rattle.places.proofs.laws.Cleared.{cleared_forgets}
use Rattle.candidates.specs.Read.{table_in, columns_in}
use Rattle.candidates.proofs.laws.Columns.{few_floats, columns_in_lem}
use Rattle.entries.specs.Fill.{tall, table_words}
use Rattle.filling.specs.Fill.{filled}
use Rattle.filling.specs.Next.{Fillable}
use Rattle.filling.specs.laws.Fill.{length_filled}
use Rattle.filling.specs.laws.Kept.{filled_beyond}
use Rattle.entries.specs.laws.Side.{needed_roomy}
use Rattle.walk.specs.Traceable.{is_reached, WorkArea, full_place, last_stop, Visits}
use Rattle.walk.specs.laws.Walk.{columns_in_some}
use Rattle.needs.specs.Needs.{work_needed}
use Rattle.solving.specs.laws.Last.{last_side_lem}
use Rattle.limits.specs.Sought.{within, limit_of, Tried, Sought}

-- A limit is one that the search takes.
pub limit_low : (turns : ℕ) → limit_of turns ≤ boundless
unfolding limit_of
limit_low turns = go (dec_lt 1000000000 turns)
  where
    go : Dec (1000000000 < turns) → limit_of turns ≤ boundless
    go (yes l) = rw (lt-ltb 1000000000 turns l) (omega arith)
    go (no n) = rw (le-ltb 1000000000 turns (omega arith)) (omega arith)

-- Clearing what a galley needs undoes a filling.
pub forgets : (bytes : List ℕ) (g : Galley) (from : Origin) (w : List ℕ)
    → cleared (work_needed g) (filled (model_of bytes g) from w) ≡ cleared (work_needed g) w
unfolding tall columns_in
forgets bytes g from w =
    let e = ap (area (g.text.count + 1)) (columns_in_lem bytes g) ∙ area_needed g.text.count (columns_in g) in
    rw e at (cleared_forgets (table_words (model_of bytes g)) (filled (model_of bytes g) from w) w (filled_beyond (model_of bytes g) from w))

module _ {bytes : List ℕ} {g : Galley} {from : Origin} {work : List ℕ} (fill : Fillable bytes g from work) where
  -- The filled words are a work area to walk over,
  pub filled_area : (w : List ℕ) → w ≡ filled (model_of bytes g) from work → WorkArea g w
  filled_area w e =
      let long = ap length e ∙ length_filled (model_of bytes g) from work (needed_roomy bytes g fill.room) in
      record { lines = fill.sound.few_lines; floats = few_floats fill.sound; words = omega (arith, fill.room) }

-- and the last stop is one of the galley's.
pub last_visits : (g : Galley) (w : List ℕ) → Visits g (last_stop g w)
last_visits g w =
    record { line = le_refl _; column = omega (arith, columns_in_some g); side = last_side_lem (sides_in g) (table_in g w) (full_place g) }

-- What is unreached is not told to be reached.
unreached_told : {r : Bool} {e : Entry} → r ≡ is_reached e → e ≡ None → r ≡ false
unreached_told p q = p ∙ ap is_reached q

module _ {bytes : List ℕ} {g : Galley} {from : Origin} {work work' : List ℕ} (fill : Fillable bytes g from work) where
  -- Where the full place is reached, the search has found enough.
  pub sought_reached : (limit : ℕ) → limit ≤ boundless → (r : Bool) → Tried bytes g (within limit from) work work' r → r ≡ true
      → Sought bytes g from work work' (within limit from)
  sought_reached limit low r tried found =
      record {
        same = refl;
        low = low;
        before = work;
        long = refl;
        is = tried.is;
        sought = λ e.
            let none : r ≡ false = unreached_told tried.told e in
            let z : ◌≡◌ {A = ℕ} 0 1 = cc in
            absurd (omega arith);
        clean = ap (cleared (work_needed g)) tried.is ∙ forgets bytes g (within limit from) work;
      }

  -- What was tried leaves words that can be filled again,
  pub tried_long : (limit : ℕ) (r : Bool) → Tried bytes g (within limit from) work work' r → length work' ≡ length work
  tried_long limit r tried = ap length tried.is ∙ length_filled (model_of bytes g) (within limit from) work (needed_roomy bytes g fill.room)

  -- and without a limit the search has found enough in any case.
  pub sought_all : (limit : ℕ) (r : Bool) → Tried bytes g (within limit from) work work' r → (work'' : List ℕ)
      → work'' ≡ filled (model_of bytes g) (within boundless from) work' → Sought bytes g from work work'' (within boundless from)
  sought_all limit r tried work'' e =
      record {
        same = refl;
        low = omega arith;
        before = work';
        long = tried_long limit r tried;
        is = e;
        sought = λ _. refl;
        clean =
            ap (cleared (work_needed g)) e ∙ forgets bytes g (within boundless from) work' ∙ ap (cleared (work_needed g)) tried.is
            ∙ forgets bytes g (within limit from) work;
      }
