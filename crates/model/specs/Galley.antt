-- What is to be made up into pages: a page specification and streams of blocks, the text and any number of float streams
-- (paper, section 2; document 01, "The galley file").
use Rattle.std.specs.Prelude.{ℕ, suc, ◌≤◌, Bool, List, get_or}
use Rattle.model.specs.Gather.{total, row}

-- Whether one page or a spread of two facing pages is seen at a time (paper, section 2). Spreads go by folio, so double-sided
-- work has the folio of its first page (document 02, S-1).
pub data Sides : Type 0 where
  single : Sides
  double : ℕ → Sides

-- The page specification: page height, separation between kinds, sidedness (paper, section 2) and weights (section 3); and the
-- least height of the last page, which is 0 in the first edition (document 02, S-11).
pub record Spec : Type 0 where
  pub htmin : ℕ
  pub htmax : ℕ
  pub smin : ℕ
  pub smax : ℕ
  pub sides : Sides
  pub alpha : ℕ
  pub beta : ℕ
  pub lastmin : ℕ

-- A stream of blocks numbered from 1 (paper, section 2): of block k its height, the least and greatest height of the space
-- after it, whether a page may end in that space, and, for a float, the line that cites it.
pub record Stream : Type 0 where
  pub size : ℕ
  pub ht : ℕ → ℕ
  pub least : ℕ → ℕ
  pub most : ℕ → ℕ
  pub legal : ℕ → Bool
  pub cite : ℕ → ℕ

-- A galley: stream 0 is the text, whose blocks are lines; streams 1 to `floats` are float streams, the first the figures
-- (paper, section 2, which has one float stream).
pub record Galley : Type 0 where
  pub spec : Spec
  pub floats : ℕ
  pub stream : ℕ → Stream

-- The galley with these for its htMin, its sidedness and its lastMin, and all else as it is (notation).
abbrev pub respecified : ℕ → Sides → ℕ → Galley → Galley
respecified htmin sides lastmin g = record g { spec = record g.spec { htmin = htmin; sides = sides; lastmin = lastmin } }

-- A place: how many blocks of each stream are placed so far, the lines first (document 01, "One page").
abbrev pub Place : Type 0
Place = List ℕ

-- The blocks of stream s placed so far (document 01, "One page": i for the lines, j for the figures).
unfoldable pub count : Place → ℕ → ℕ
count u s = get_or u s 0

-- The number of streams, which is the number of words that a page takes in a page list (document 01, "One page").
unfoldable pub streams : Galley → ℕ
streams g = suc g.floats

-- The place before the first page (document 01, "One page").
unfoldable pub zeros : Galley → Place
zeros g = row 0 (streams g) (λ s. 0)

-- The full place, where every block is placed (document 01, rule 18).
unfoldable pub sizes : Galley → Place
sizes g = row 0 (streams g) (λ s. (g.stream s).size)

-- The number of blocks: m + n for m lines and n figures (document 01, rule 12).
unfoldable pub blocks : Galley → ℕ
blocks g = total g.floats (λ s. (g.stream s).size)

-- k numbers a block of stream s: lines are t₁ to tₘ, figures f₁ to fₙ (paper, section 2).
pub record Block (g : Galley) (s k : ℕ) : Type 0 where
  pub stream : s ≤ g.floats
  pub first : 1 ≤ k
  pub last : k ≤ (g.stream s).size

-- What is asked of a galley's values: there is a line (document 01, "The galley file"), and each float stream is cited in
-- order by lines that exist (paper, section 2, on the reference function).
pub record Sane (g : Galley) : Type 0 where
  pub lined : 1 ≤ (g.stream 0).size
  pub cites : (s k : ℕ) → 1 ≤ s → Block g s k → Block g 0 ((g.stream s).cite k)
  pub grows : (s k : ℕ) → 1 ≤ s → Block g s k → Block g s (suc k) → (g.stream s).cite k ≤ (g.stream s).cite (suc k)
