-- The parts of one page's test and of the counts, as the functions of this crate divide them.
use Rattle.std.specs.Prelude.{ℕ, ◌+◌, ◌*◌, ◌-◌, ◌≤◌, Bool, ◌&&◌, Option, None, Some, List, max, eqb, ltb}
use Rattle.model.specs.Gather.{pick, one}
use Rattle.model.specs.Galley as model
use Rattle.model.specs.Rules.{forward, closes}
use Rattle.model.specs.Leaf.{leaf}
use Rattle.theorems.specs.turns.Rank.{rank}
use Rattle.galley.specs.declared.Galley.{Galley}
use Rattle.galley.specs.Range.{SpecRanged}
use Rattle.galley.specs.Model.{floats_of, sides_in}
use Rattle.blocks.specs.declared.Counts.{Counts}
use Rattle.rules.specs.declared.counts.Sums.{Sums}
use Rattle.blocks.specs.Counts.{Within}
use Rattle.model.specs.Answers.{Answer, counted_as, refused}

-- The kinds on a page from u to v: how many streams it has a block of (document 02, S-4).
abbrev pub kinds_on : Counts → Counts → ℕ
kinds_on u v = one (ltb u.lines v.lines) + (one (ltb u.figures v.figures) + one (ltb u.tables v.tables))

-- A page from u to v that rule 13 lets pass: no count falls or passes its stream's, and the page is not empty.
pub record Ahead (g : Galley) (u v : Counts) : Type 0 where
  pub within : Within g v
  pub lines : u.lines ≤ v.lines
  pub figures : u.figures ≤ v.figures
  pub tables : u.tables ≤ v.tables
  pub some : 1 ≤ kinds_on u v

-- The line that cites float j of a stream, 0 where there is no float.
unfoldable pub cite_of : model.Stream → ℕ → ℕ
cite_of st j = pick (ltb 0 j) (st.cite j) 0

-- The line from which on the last float placed of each stream is cited: from there on a page with these floats keeps rule 17, where
-- that is asked.
abbrev pub cited_from : List ℕ → Galley → Counts → ℕ
cited_from bytes g v = max (cite_of (floats_of bytes g.figures) v.figures) (cite_of (floats_of bytes g.tables) v.tables)

-- Of rule n and the rule after it, given what each says of the page, the number of the first that fails.
unfoldable pub fault_from : ℕ → Bool → Bool → Option ℕ
fault_from n this next = pick this (pick next None (Some (n + 1))) (Some n)

-- Rules 13 and 14, which ask for no height: the number of the first that fails.
abbrev pub start_fault : model.Galley → model.Place → model.Place → Option ℕ
start_fault g u v = fault_from 13 (forward g u v) (closes g v)

-- Y of p pages: the leaves turned from the first to the last (document 01, "Spreads and turns").
unfoldable pub leaves_turned : Galley → ℕ → ℕ
leaves_turned g p = leaf (sides_in g) p - leaf (sides_in g) 1

-- The counts of p pages with X and W known.
unfoldable pub counts : Galley → ℕ → Sums → Answer
counts g p sums =
    let y = leaves_turned g p in counted_as p sums.x y (g.spec.alpha * sums.x + g.spec.beta * y) sums.white

-- Every block is placed.
abbrev pub all_placed : Galley → Counts → Bool
all_placed g at =
    eqb at.lines g.text.count && (eqb at.figures g.figures.count && eqb at.tables g.tables.count)

-- The answer once p pages are judged: 18 where the last does not end at the full place, else the counts.
unfoldable pub finished : Galley → ℕ → Counts → Sums → Answer
finished g p at sums = pick (all_placed g at) (counts g p sums) (refused 18 p)

-- What p printed pages cost with their white, where so many floats waited at the ends of their leaves: there is a page after them, so
-- that every leaf that one of them ends is turned (document 02, S-6 and S-10).
unfoldable pub printed_cost : Galley → ℕ → Sums → ℕ
printed_cost g p sums = rank (g.spec.alpha * sums.x + g.spec.beta * leaves_turned g (p + 1)) sums.white

-- A number of pages, and a first folio, that keep every folio within 32 bits.
pub record PageLimits (g : Galley) (pages : ℕ) : Type 0 where
  pub some : 1 ≤ pages
  pub few : pages ≤ 4250
  pub folio : 1 ≤ g.folio
  pub folios : g.folio ≤ 9999

-- Numbers of pages and of X, and weights, that keep T within 32 bits.
pub record CountLimits (g : Galley) (pages x : ℕ) : Type 0 where
  pub numbered : PageLimits g pages
  pub most : x ≤ 250 * pages
  pub ranged : SpecRanged g.spec
