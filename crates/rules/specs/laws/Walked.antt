-- How far a walk over the floats that wait got, and what the floats that wait are for a galley.
use Rattle.std.specs.Prelude.{ℕ, ◌+◌, ◌-◌, ◌≤◌, ◌≡◌, Bool, true, false, List}
use Rattle.std.proofs.Common.{arith, ap}
use Rattle.model.specs.Gather.{pick, sum}
use Rattle.model.specs.Galley as model
use Rattle.model.specs.Galley.{Sane, count}
use Rattle.model.specs.Leaf.{ends}
use Rattle.theorems.specs.turns.Waiting.{dangles, waiting_in, waiting}
use Rattle.theorems.specs.turns.Costs.{cite_mono}
use Rattle.galley.specs.declared.Stream.{Stream}
use Rattle.galley.specs.declared.Galley.{Galley}
use Rattle.galley.specs.Sound.{SoundStream, Sound}
use Rattle.galley.specs.Model.{floats_of, sides_in, model_of}
use Rattle.blocks.specs.declared.Counts.{Counts}
use Rattle.blocks.specs.Counts.{place_of, Proper, Within}
use Rattle.blocks.specs.laws.Counts.{sum_floats, table_known, floats_some, count_lines, count_figures, count_tables}
use Rattle.rules.specs.declared.waiting.Waiting.{Waiting}
use Rattle.rules.specs.Waiting.{waits, waiting_of, Walked, Walking, WalkingOn, waiting_at}
use Rattle.rules.specs.laws.Waiting.{Ordered, sum_past, waits_few, waits_cited}

-- The citations of every float stream of a galley that was read never decrease.
pub sane_ordered : (g : model.Galley) → Sane g → (s : ℕ) → 1 ≤ s → s ≤ g.floats → Ordered (g.stream s)
sane_ordered g sane s h l j k p q top =
    cite_mono g sane s j k h p q (record { stream = l; first = omega arith; last = top })

-- So many floats of a stream dangle at a place as the walk finds there.
pub waiting_in_lem : (g : model.Galley) (s : ℕ) → Ordered (g.stream s) → (v : model.Place)
    → waiting_in g s v ≡ waits (g.stream s) (count v 0) (count v s)
unfolding waiting_in dangles
waiting_in_lem g s order v = sum_past (g.stream s) (count v 0) order (count v s)

-- The floats that wait are the figures and the tables that do.
pub waiting_of_lem : (bytes : List ℕ) (g : Galley) → Sane (model_of bytes g) → (at : Counts) → Proper g at
    → waiting (model_of bytes g) (place_of g at) ≡ (waiting_of bytes g at).figures + (waiting_of bytes g at).tables
unfolding waiting waiting_in sum
waiting_of_lem bytes g sane at proper =
    let M = model_of bytes g in
    let v = place_of g at in
    let figures = waiting_in_lem M 1 (sane_ordered M sane 1 (omega arith) (floats_some g)) v in
    let tables =
    waiting_in_lem M 2 (λ j k p q top. sane_ordered M sane 2 (omega arith) (table_known g k (omega arith) top) j k p q top) v in
    rw (
      sum_floats g (λ s. waiting_in M s v) (λ none. rw none),
      figures,
      tables,
      count_lines g at,
      count_figures g at,
      count_tables g at proper,
    )

module _ {bytes : List ℕ} {floats : Stream} where
  -- Before any walk no float is known to be cited.
  pub walked_none : SoundStream bytes floats → (i j : ℕ) → j ≤ floats.count → Walked bytes floats i j 0
  walked_none sound i j l = record { sound = sound; within = omega arith; upto = λ k p q. absurd (omega arith) }

  -- After a walk the floats that it found are.
  pub walked_here : SoundStream bytes floats → (i j w : ℕ) → j ≤ floats.count → w ≡ waits (floats_of bytes floats) i j
      → Walked bytes floats i j w
  walked_here sound i j w l e =
      let few = waits_few (floats_of bytes floats) i j in
      record {
        sound = sound;
        within = omega arith;
        upto = λ k p q. waits_cited (floats_of bytes floats) i j k p (omega arith);
      }

  -- With more lines and floats placed, those that are still past the floats placed are known to be cited.
  pub walked_on : {a b w : ℕ} → Walked bytes floats a b w → (i j still : ℕ) → a ≤ i → b ≤ j → j ≤ floats.count
      → still ≡ w - (j - b) → Walked bytes floats i j still
  walked_on {a} {b} {w} h i j still line up top e =
      let within = h.within in
      record {
        sound = h.sound;
        within = omega arith;
        upto = λ k p q. let cited = h.upto k (omega arith) (omega arith) in omega arith;
      }

module _ {bytes : List ℕ} {g : Galley} (so : Sound bytes g) where
  -- The same of both streams: before any walk,
  pub walking_none : (at : Counts) → Within g at → Walking bytes g at (record { figures = 0; tables = 0 })
  walking_none at w =
      record {
        figures = walked_none so.figures.sound _ _ w.figures;
        tables = walked_none so.tables.sound _ _ w.tables;
      }

  -- after one,
  pub walking_here : (at : Counts) (known : Waiting) → Within g at → known ≡ waiting_of bytes g at → Walking bytes g at known
  walking_here at known w e =
      record {
        figures = walked_here so.figures.sound _ _ _ w.figures (ap (λ (k : Waiting). k.figures) e);
        tables = walked_here so.tables.sound _ _ _ w.tables (ap (λ (k : Waiting). k.tables) e);
      }

  -- No more floats wait than there are.
  pub waiting_few : (at : Counts) → (waiting_of bytes g at).figures + (waiting_of bytes g at).tables ≤ 250
  waiting_few at =
      let figures = waits_few (floats_of bytes g.figures) at.lines at.figures in
      let tables = waits_few (floats_of bytes g.tables) at.lines at.tables in
      omega (arith, so.figures.few, so.tables.few)

-- and with more placed: of each stream those that are still past the floats placed.
pub walking_on : {bytes : List ℕ} {g : Galley} {u v : Counts} {known : Waiting} → WalkingOn bytes g u v known → (still : Waiting)
    → still.figures ≡ known.figures - (v.figures - u.figures) → still.tables ≡ known.tables - (v.tables - u.tables)
    → Walking bytes g v still
walking_on on still f t =
    let h = on.walking in
    let a = on.ahead in
    record {
      figures = walked_on h.figures _ _ _ a.lines a.figures a.within.figures f;
      tables = walked_on h.tables _ _ _ a.lines a.tables a.within.tables t;
    }

-- No more floats are counted than wait.
pub waiting_at_few : (g : Galley) (q w : ℕ) → waiting_at g q w ≤ w
unfolding waiting_at
waiting_at_few g q w = go (ends (sides_in g) q)
  where
    go : (e : Bool) → pick e w 0 ≤ w
    go true = omega arith
    go false = omega arith
