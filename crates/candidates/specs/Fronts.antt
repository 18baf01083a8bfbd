-- The best start that the queues of a window's two parts hold.
use Rattle.std.specs.Prelude.{ℕ, List}
use Rattle.places.specs.Entry.{Entry}
use Rattle.window.specs.declared.slide.Load.{Load}
use Rattle.queues.specs.declared.parts.Parts.{Parts}
use Rattle.window.specs.Slide.{reached_of, Readable}
use Rattle.queues.specs.Queue.{front_of, QueueStands}
use Rattle.queues.specs.Parts.{whitened_of, Whitenable}
use Rattle.candidates.specs.Better.{chosen, Later}

-- The better of the two fronts for a page to line i: that of the full pages, and that of the others with their white.
abbrev pub best_front : List ℕ → List ℕ → Parts → ℕ → Load → ℕ → Entry
best_front sums words parts column load i =
    chosen (front_of words parts.full column)
    (whitened_of (front_of words parts.rest column) load.htmax (reached_of sums 1 load.loose i))

-- Both fronts can be read, how far the page reaches, and the white of the second, which starts after a later line.
pub record Fronted (sums words : List ℕ) (parts : Parts) (column : ℕ) (load : Load) (i : ℕ) : Type 0 where
  pub full : QueueStands words parts.full column
  pub rest : QueueStands words parts.rest column
  pub reached : Readable sums 1 load.loose i
  pub white : Whitenable (front_of words parts.rest column) load.htmax (reached_of sums 1 load.loose i)
  pub order : Later (front_of words parts.full column)
      (whitened_of (front_of words parts.rest column) load.htmax (reached_of sums 1 load.loose i))
