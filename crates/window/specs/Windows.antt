-- The windows of the lines, kept in the words behind the room of two queues.
use Rattle.std.specs.Prelude.{ℕ, ◌+◌, ◌*◌, ◌≤◌, ◌<◌, ◌≡◌, List, length, get_or}
use Rattle.model.specs.Galley.{Stream}
use Rattle.window.specs.declared.slide.Load.{Load}
use Rattle.window.specs.declared.slide.Window.{Window}
use Rattle.window.specs.Sums.{Sums}
use Rattle.window.specs.Slide.{Slidable, Ends, Open}
use Rattle.window.specs.Rows.{Beside}

-- The window that is kept for line i.
abbrev pub window_at : List ℕ → ℕ → Window
window_at words i =
    record {
      low = get_or words (3 * (i + 8000)) 0;
      split = get_or words (3 * (i + 8000) + 1) 0;
      high = get_or words (3 * (i + 8000) + 2) 0;
    }

-- The windows kept for the lines of P are those of these lines.
abbrev pub Kept : Stream → Load → List ℕ → (ℕ → Type 0) → Type 0
Kept st load words P = (i : ℕ) → P i → Open st load (window_at words i) i

-- The ends of a window can be moved on to line i, and there is room to keep it.
pub record Windowable (sums : List ℕ) (load : Load) (words : List ℕ) (before : Window) (i : ℕ) : Type 0 where
  pub slides : Slidable sums load before i
  pub few : i ≤ 4000
  pub room : 48000 ≤ length words

-- The window of line i, found or kept, is kept, and so is all else in the words.
pub record WindowFound (sums : List ℕ) (load : Load) (old : List ℕ) (before : Window) (i c : ℕ) (r : Window) (new : List ℕ)
    : Type 0 where
  pub kept : window_at new i ≡ r
  pub beside : Beside old new (i + 8000) (i + 8001)
  pub opens : (st : Stream) (m : ℕ) → Sums st m sums → i ≤ m → Ends st load before i → (0 < c → Open st load (window_at old i) i)
      → Open st load r i
