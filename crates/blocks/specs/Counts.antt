-- How many blocks of each stream are placed, and the words of a page that say so (document 01, "One page"; document 02, S-4).
use Rattle.std.specs.Prelude.{ℕ, ◌+◌, ◌≤◌, List, [], ◌∷◌, ◌≡◌, get_or, eqb}
use Rattle.model.specs.Gather.{pick}
use Rattle.model.specs.Galley as model
use Rattle.galley.specs.declared.Galley.{Galley}
use Rattle.blocks.specs.declared.Counts.{Counts}

-- The words of a page: two, or three where there are tables (document 02, S-4).
abbrev pub page_words : Galley → ℕ
page_words g = pick (eqb g.tables.count 0) 2 3

-- The words themselves: the lines placed so far, the figures and, where there are any, the tables (document 02, S-4).
unfoldable pub place_of : Galley → Counts → model.Place
place_of g c = c.lines ∷ c.figures ∷ pick (eqb g.tables.count 0) [] (c.tables ∷ [])

-- The counts that a list's words from number `at` on say: without tables none of them is placed.
unfoldable pub counts_in : Galley → List ℕ → ℕ → Counts
counts_in g ws at =
    record {
      lines = get_or ws at 0;
      figures = get_or ws (at + 1) 0;
      tables = pick (eqb g.tables.count 0) 0 (get_or ws (at + 2) 0);
    }

-- Nothing is placed.
abbrev pub no_counts : Counts
no_counts = record { lines = 0; figures = 0; tables = 0 }

-- Everything is.
abbrev pub all_counts : Galley → Counts
all_counts g = record { lines = g.text.count; figures = g.figures.count; tables = g.tables.count }

-- Without tables none is placed.
abbrev pub Proper : Galley → Counts → Type 0
Proper g c = g.tables.count ≡ 0 → c.tables ≡ 0

-- No more of any stream is placed than there is.
pub record Within (g : Galley) (c : Counts) : Type 0 where
  pub lines : c.lines ≤ g.text.count
  pub figures : c.figures ≤ g.figures.count
  pub tables : c.tables ≤ g.tables.count
