-- One line of a pass: what its place knows once the lines before it and the floats alone are weighed.
use Rattle.std.specs.Prelude.{ℕ, ◌+◌, ◌≤◌, ◌<◌, ◌≡◌, refl, Bool, true, false, ◌&&◌, List, eqb, None}
use Rattle.std.proofs.Common.{le_refl, arith, sym, ◌∙◌, ap, ne_eqb}
use Rattle.model.specs.Gather.{pick}
use Rattle.model.specs.Rules.{floor}
use Rattle.theorems.specs.pages.Graph.{full}
use Rattle.rules.specs.Sums.{white_at}
use Rattle.galley.specs.declared.Galley.{Galley}
use Rattle.galley.specs.Model.{text_of, model_of}
use Rattle.galley.specs.Sound.{Sound}
use Rattle.places.specs.declared.Place.{Place}
use Rattle.places.specs.Entry.{Entry, least}
use Rattle.places.specs.Columns.{place_at}
use Rattle.places.specs.Best.{Best}
use Rattle.window.specs.declared.slide.Window.{Window}
use Rattle.window.specs.Slide.{white_of, Tall, Open}
use Rattle.queues.specs.Queue.{lines_of, Lines}
use Rattle.passes.specs.declared.pass.Pass.{Pass}
use Rattle.candidates.specs.Better.{chosen, taken}
use Rattle.candidates.specs.Search.{Search}
use Rattle.candidates.specs.Choice.{Candidate, Starts, Between}
use Rattle.candidates.specs.Beside.{Bears}
use Rattle.candidates.specs.Read.{table_in, side_of, search_of, last_column, last_place}
use Rattle.passes.specs.Sweep.{Lent, pass_load, Passing, alone_of, weighed, Ended, Swept, sweep_end}
use Rattle.candidates.specs.Cells.{number, Changed}
use Rattle.passes.specs.Swept.{Early, Late}
use Rattle.candidates.proofs.laws.Heights.{kinds_some, beside_alone}
use Rattle.candidates.proofs.laws.Columns.{columns_in_lem, full_in, sought_in}
use Rattle.candidates.proofs.laws.White.{white_lines, white_alone}
use Rattle.passes.proofs.laws.Sweep.{start_tall, window_low, window_best, alone_best, improved}
use Rattle.passes.proofs.laws.Bound.{dearer}
use Rattle.candidates.proofs.laws.Read.{side_either, side_occurs}
use Rattle.passes.proofs.laws.Lending.{lent_placed, can_stand}
use Rattle.passes.proofs.laws.Look.{start_quiet}
use Rattle.candidates.proofs.laws.Cells.{taken_changes}
use Rattle.passes.proofs.laws.Cells.{swept_next}

-- No least height is above the greatest.
pub least_low : (bytes : List ℕ) (g : Galley) → Sound bytes g → (last : Bool) → floor (model_of bytes g) last ≤ g.spec.htmax
least_low bytes g sound true = sound.spec_ranged.lastmins
least_low bytes g sound false = sound.spec_ranged.htmins

-- A sweep may go on after any line of the galley or up to it, and no further than one past the last.
pub end_from_lem : (g : Galley) (pass : Pass) (i : ℕ) → i ≤ g.text.count → i ≤ sweep_end g pass
end_from_lem g pass i l = go (last_column g pass.to)
  where
    go : (t : Bool) → i ≤ pick t g.text.count (g.text.count + 1)
    go true = l
    go false = omega arith

pub end_low : (g : Galley) (pass : Pass) → sweep_end g pass ≤ g.text.count + 1
end_low g pass = go (last_column g pass.to)
  where
    go : (t : Bool) → pick t g.text.count (g.text.count + 1) ≤ g.text.count + 1
    go true = omega arith
    go false = le_refl _

-- The lines that a sweep may take are the galley's, and none of them ends the last page.
pub end_inner : (g : Galley) (pass : Pass) (i : ℕ) → i < sweep_end g pass
    → (i ≤ g.text.count) × (last_place g i pass.to ≡ false)
end_inner g pass i = go (last_column g pass.to)
  where
    last : (x : Bool) → (x && false) ≡ false
    last true = refl
    last false = refl

    go : (t : Bool) → i < pick t g.text.count (g.text.count + 1)
        → (i ≤ g.text.count) × ((eqb i g.text.count && t) ≡ false)
    go true l =
        let n : (i ≡ g.text.count) → ⊥ = λ e. omega arith in
        (omega arith, rw (ne_eqb i g.text.count n))
    go false l = (omega arith, last (eqb i g.text.count))

-- The white of a page of the pass from line a to line i, which is the last page or not.
abbrev pub pass_white : List ℕ → Galley → Pass → Bool → ℕ → ℕ → ℕ
pass_white bytes g pass last i a = pick last 0 (white_of (text_of bytes g.text) (pass_load g pass) i a)

module _ {bytes : List ℕ} {g : Galley} {w : List ℕ} {pass : Pass} (lent : Lent bytes g w pass.to) (passing : Passing bytes g pass)
    (i c : ℕ) (line : i ≤ g.text.count) (occurs : c < g.spec.sides) where
  side : c ≤ 1
  side = omega (arith, lent.sound.spec_ranged.sides_two)

  -- The start and the end of a page of the pass stand in the work area, and the start's cost is small.
  pub pass_ended : Ended g w i c pass
  pass_ended =
      record {
        start =
            can_stand lent i pass.from (side_of g c) line (omega (arith, passing.before, lent.column)) (side_either g c);
        cost = lent.costs pass.from c passing.before occurs i (omega arith);
        end = can_stand lent i pass.to c line lent.column side;
        side = side;
      }

  module _ (last : Bool) (ends : last_place g i pass.to ≡ last) (lowest : pass.least ≡ floor (model_of bytes g) last) where
    full_last : full (model_of bytes g) (place_at (model_of bytes g) i pass.to) ≡ last
    full_last = full_in bytes g i pass.to lent.column ∙ ends

    bears : Bears (search_of bytes g w i pass.to (side_of g c)) pass.from (pass_load g pass)
    bears =
        let model = model_of bytes g in
        let some = kinds_some model pass.from pass.to (omega (arith, lent.column, columns_in_lem bytes g)) passing.under passing.before in
        let tight = beside_alone model (λ st. st.least) g.spec.smin pass.from pass.to some in
        let loose = beside_alone model (λ st. st.most) g.spec.smax pass.from pass.to some in
        record {
          tight = omega (arith, passing.tight);
          loose = omega (arith, passing.loose);
          htmin = lowest ∙ ap (floor model) (sym full_last);
          htmax = refl;
        }

    -- The search of the place.
    abbrev sought_here : Search
    sought_here = search_of bytes g w i pass.to (side_of g c)

    -- Where a page from the last line that is reached is too tall, the pass has no start.
    pub pass_late : Late g w pass → pass.reach.last < i → Tall (text_of bytes g.text) (pass_load g pass) pass.reach.last i
        → (a y : ℕ) → Candidate (search_of bytes g w i pass.to (side_of g c)) a pass.from y → ⊥
    pass_late late after tall a y start =
        let sought = sought_in bytes g w i pass.to (side_of g c) (lent_placed lent i line) in
        let left : pass.from ≤ pass.to = omega (arith, passing.before) in
        let beyond = start_tall sought_here sought pass.from left passing.under (pass_load g pass) bears pass.reach.last after tall a y start in
        start_quiet lent late.quiet i a y c occurs start (omega arith) (omega (arith, start.line))

    module _ (early : Early g w pass) (white : pass.white ≡ white_at g last pass.heights.loose) (window : Window)
        (opened : Open (text_of bytes g.text) (pass_load g pass) window i) where
      abbrev held : Entry
      held = table_in g w i pass.to c

      -- No line of the column before the pass's first is a start of it.
      early_here : (a : ℕ) → a < pass.reach.first → a < i → table_in g w a pass.from (side_of g c) ≡ None
      early_here a l m = early.none a (side_of g c) (omega arith) l (side_occurs lent.sound c occurs)

      -- Where the place holds less than every line from the window's low end on, one line more is swept.
      pub pass_beaten : (x : ℕ) (r : Place) → table_in g w i pass.to c ≡ least x r
          → ((a y : ℕ) (t : Place) → window.low ≤ a → a ≤ i → lines_of w (g.text.count + 1) pass.from (side_of g c) a ≡ least y t → x < y)
          → Swept bytes g w pass.to pass.from (number c i) → Swept bytes g w pass.to pass.from (number c (i + 1))
      unfolding chosen taken
      pass_beaten x r is dear swept =
          let sought = sought_in bytes g w i pass.to (side_of g c) (lent_placed lent i line) in
          let left : pass.from ≤ pass.to = omega (arith, passing.before) in
          swept_next
          (taken_changes g w i pass.to c line lent.column occurs lent.sound.spec_ranged.sides_two lent.room None w refl)
          lent.sound.few_lines line side lent.sound.spec_ranged.sides_two bytes pass.from swept
          (dearer sought_here pass.from pass.to x r held is (λ a y start.
          let low = window_low sought_here sought pass.from left passing.under (pass_load g pass) bears early_here window opened a y start in
          let paid = start.reached in
          omega (arith, dear a paid.own paid.start low start.line paid.entry, paid.whole)) (swept.left i c line occurs (omega arith)))

      module _ (lines : Entry)
          (best : Best (Lines (lines_of w (g.text.count + 1) pass.from (side_of g c)) (pass_white bytes g pass last i) window.low window.high pass.from) lines)
          (swept : Swept bytes g w pass.to pass.from (number c i)) where
        weighed_best : Best (Starts (search_of bytes g w i pass.to (side_of g c)) (Between pass.from pass.to))
            (chosen held (chosen lines (alone_of g w i (side_of g c) pass)))
        unfolding white_at
        weighed_best =
            let s = search_of bytes g w i pass.to (side_of g c) in
            let sought = sought_in bytes g w i pass.to (side_of g c) (lent_placed lent i line) in
            let left : pass.from ≤ pass.to = omega (arith, passing.before) in
            improved s pass.from pass.to passing.before held lines (alone_of g w i (side_of g c) pass)
            (swept.left i c line occurs (omega arith))
            (window_best s sought pass.from left passing.under (pass_load g pass) bears
            early_here window opened (pass_white bytes g pass last i)
            (white_lines s pass.from last full_last (pass_load g pass) bears) lines best)
            (alone_best s sought pass.from left passing.under passing.before pass.heights.tight pass.heights.loose
            pass.least pass.white passing.tight passing.loose bears.htmin passing.short
            (rw white (white_alone s pass.from last full_last pass.heights.loose passing.loose)))

        module _ (v : List ℕ) (e : v ≡ weighed g w lines i c pass) where
          -- The place holds the better of what it held and of what is weighed,
          pub pass_changed : Changed g w v i pass.to c (chosen held (chosen lines (alone_of g w i (side_of g c) pass)))
          pass_changed =
              taken_changes g w i pass.to c line lent.column occurs lent.sound.spec_ranged.sides_two lent.room
              (chosen lines (alone_of g w i (side_of g c) pass)) v e

          -- and one line more is swept.
          pub pass_swept : Swept bytes g v pass.to pass.from (number c (i + 1))
          pass_swept =
              swept_next pass_changed lent.sound.few_lines line side lent.sound.spec_ranged.sides_two bytes pass.from swept weighed_best
