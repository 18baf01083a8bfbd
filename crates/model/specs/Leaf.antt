-- What the reader sees at a time, here called a leaf: a page in single-sided work, a spread in double-sided work (paper,
-- section 2). One family for both.
use Rattle.std.specs.Prelude.{ℕ, pred, ◌+◌, ◌/◌, ◌%◌, Bool, true, eqb}
use Rattle.model.specs.Galley.{Sides, single, double}
use Rattle.model.specs.Gather.{pick}

-- The folio of page q, where the first page has folio f: f − 1 + q (document 02, S-1).
abbrev pub folio_of : ℕ → ℕ → ℕ
folio_of f q = pred f + q

-- The leaf that page q lies on: its spread in double-sided work (paper, section 2), by folio, else the page itself.
unfoldable pub leaf : Sides → ℕ → ℕ
leaf single q = q
leaf (double f) q = folio_of f q / 2 + 1

-- Page q is the last of its leaf: a right-hand page, whose folio is odd, in double-sided work (document 01, "Spreads and
-- turns"), else any page.
unfoldable pub ends : Sides → ℕ → Bool
ends single q = true
ends (double f) q = eqb (folio_of f q % 2) 1

-- The sidedness that a galley's field `sides` names: 2 is double-sided (document 01, "The galley file"), from folio f on.
unfoldable pub sides_of : ℕ → ℕ → Sides
sides_of n f = pick (eqb n 2) (double f) single
