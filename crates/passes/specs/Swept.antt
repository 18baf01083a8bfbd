-- What the sweeps of a pass ask for, what holds on the way, and what they leave.
use Rattle.std.specs.Prelude.{ℕ, suc, ◌+◌, ◌≤◌, ◌<◌, ◌≡◌, ◌⊎◌, false, List, length}
use Rattle.model.specs.Rules.{floor}
use Rattle.galley.specs.declared.Galley.{Galley}
use Rattle.galley.specs.Model.{text_of, model_of}
use Rattle.rules.specs.Sums.{white_at}
use Rattle.window.specs.declared.slide.Window.{Window}
use Rattle.queues.specs.declared.parts.Parts.{Parts}
use Rattle.window.specs.Slide.{Ends}
use Rattle.queues.specs.Queue.{lines_of}
use Rattle.window.specs.Slide.{Rises}
use Rattle.queues.specs.Parts.{Both}
use Rattle.window.specs.Windows.{Kept}
use Rattle.passes.specs.declared.pass.Pass.{Pass}
use Rattle.candidates.specs.Read.{side_of}
use Rattle.reached.specs.Look.{Quiet, LastFound}
use Rattle.passes.specs.Bound.{Bounded}
use Rattle.passes.specs.Sweep.{Lent, Scratch, Summed, pass_load, Passing, Known, Swept, sweep_end, Stopped}
use Rattle.candidates.specs.Cells.{number, Scratched}

-- No line of the pass before its first is reached.
abbrev pub Early : Galley → List ℕ → Pass → Type 0
Early g w pass = Quiet g w pass.from g.spec.sides 0 pass.reach.first

-- None after its last is, which is no earlier.
abbrev pub Late : Galley → List ℕ → Pass → Type 0
Late g w pass = LastFound g w pass.from pass.reach.first pass.reach.last

-- A pass whose starts are to be known, those in later columns being known.
pub record Sweep (bytes : List ℕ) (g : Galley) (w sums words : List ℕ) (pass : Pass) : Type 0 where
  pub lent : Lent bytes g w pass.to
  pub early : Early g w pass
  pub late : Late g w pass
  pub summed : Summed bytes g sums
  pub scratch : Scratch words
  pub passing : Passing bytes g pass
  pub least : pass.least ≡ floor (model_of bytes g) false
  pub white : pass.white ≡ white_at g false pass.heights.loose
  pub known : Known bytes g w pass.to (suc pass.from)

-- The windows of the pass are kept for the lines of P.
abbrev pub Windowed : List ℕ → Galley → List ℕ → Pass → (ℕ → Type 0) → Type 0
Windowed bytes g words pass P = Kept (text_of bytes g.text) (pass_load g pass) words P

-- Line k is one of those that the sweep takes.
abbrev pub Taken : Pass → ℕ → ℕ → Type 0
Taken pass stop k = (pass.reach.first ≤ k) × (k < stop)

-- The sides before c are swept, and the windows are kept if there is one.
pub record SweepRun (bytes : List ℕ) (g : Galley) (w₀ w words₀ words : List ℕ) (pass : Pass) (stop c : ℕ) : Type 0 where
  pub within : c ≤ g.spec.sides
  pub sized : length w ≡ length w₀
  pub words_sized : length words ≡ length words₀
  pub windows : 0 < c → Windowed bytes g words pass (Taken pass stop)
  pub swept : Swept bytes g w pass.to pass.from (number c 0)
  pub kept : Scratched g pass.to w₀ w

-- The starts of the pass are known; where there is none nothing is stored.
pub record SweepDone (bytes : List ℕ) (g : Galley) (w v : List ℕ) (pass : Pass) : Type 0 where
  pub known : Known bytes g v pass.to pass.from
  pub still : g.text.count < pass.reach.first → v ≡ w
  pub kept : Scratched g pass.to w v

-- Side c of a pass, the sides before it being swept.
pub record SideSweep (bytes : List ℕ) (g : Galley) (w sums words : List ℕ) (c : ℕ) (pass : Pass) (stop : ℕ) : Type 0 where
  pub lent : Lent bytes g w pass.to
  pub early : Early g w pass
  pub late : Late g w pass
  pub stopped : Stopped g sums pass stop
  pub first : pass.reach.first ≤ g.text.count
  pub summed : Summed bytes g sums
  pub scratch : Scratch words
  pub passing : Passing bytes g pass
  pub least : pass.least ≡ floor (model_of bytes g) false
  pub white : pass.white ≡ white_at g false pass.heights.loose
  pub occurs : c < g.spec.sides
  pub windows : 0 < c → Windowed bytes g words pass (Taken pass stop)
  pub swept : Swept bytes g w pass.to pass.from (number c 0)

-- Side c has come to line i: its lines after `since` are bounded, and its queues hold the window `fed`, from which the line's has risen.
pub record SideRun (bytes : List ℕ) (g : Galley) (w₀ w sums words₀ words : List ℕ) (c : ℕ) (pass : Pass) (stop since : ℕ) (parts : Parts)
    (fed window : Window) (i : ℕ) : Type 0 where
  pub from : pass.reach.first ≤ i
  pub within : i ≤ stop
  pub sized : length w ≡ length w₀
  pub words_sized : length words ≡ length words₀
  pub scratch : Scratch words
  pub ends : Ends (text_of bytes g.text) (pass_load g pass) window i
  pub windows : Windowed bytes g words pass (λ k. Taken pass stop k × ((0 < c) ⊎ (k < i)))
  pub rises : Rises fed window
  pub bounded : Bounded (lines_of w (g.text.count + 1) pass.from (side_of g c)) words pass.reach.last since
  pub held : Both (lines_of w (g.text.count + 1) pass.from (side_of g c)) sums words 0 parts fed
  pub swept : Swept bytes g w pass.to pass.from (number c i)
  pub kept : Scratched g pass.to w₀ w

-- The lines that the sweep may take are swept, since there is nothing to weigh for those that it does not take.
pub record SideDone (bytes : List ℕ) (g : Galley) (w v words : List ℕ) (c : ℕ) (pass : Pass) (stop : ℕ) : Type 0 where
  pub windows : Windowed bytes g words pass (Taken pass stop)
  pub swept : Swept bytes g v pass.to pass.from (number c (sweep_end g pass))
  pub kept : Scratched g pass.to w v

-- The last line of the last column on side c, the lines that the sweep may take being swept.
pub record LastLine (bytes : List ℕ) (g : Galley) (w sums : List ℕ) (c : ℕ) (pass : Pass) : Type 0 where
  pub lent : Lent bytes g w pass.to
  pub early : Early g w pass
  pub first : pass.reach.first ≤ g.text.count
  pub summed : Summed bytes g sums
  pub passing : Passing bytes g pass
  pub occurs : c < g.spec.sides
  pub swept : Swept bytes g w pass.to pass.from (number c (sweep_end g pass))

-- The side is swept.
pub record LineDone (bytes : List ℕ) (g : Galley) (w v : List ℕ) (c : ℕ) (pass : Pass) : Type 0 where
  pub swept : Swept bytes g v pass.to pass.from (number (c + 1) 0)
  pub kept : Scratched g pass.to w v
