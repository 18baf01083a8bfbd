-- The tally that the code keeps, paper after paper.
use Rattle.std.specs.Prelude.{ℕ, ◌+◌, ◌-◌, ◌*◌, ◌≤◌, min, max, Option, Some, None, List, leb, ltb, eqb}
use Rattle.std.specs.Option.{option_or}
use Rattle.model.specs.Gather.{pick}
use Rattle.report.specs.declared.Mark.{Mark}
use Rattle.report.specs.declared.Totals.{Totals}
use Rattle.report.specs.declared.tally.Tally.{Tally}
use Rattle.report.specs.Report.{totals_of, first_below}

-- The tally of n papers: their totals, and the first that is below its engine.
unfoldable pub tally_of : List Mark → ℕ → Tally
tally_of marks n = record { totals = totals_of marks n; below = first_below marks n }

-- The tally of no papers.
abbrev pub no_papers : Tally
no_papers = record {
  totals = record { papers = 0; pages = 0; x = 0; y = 0; turns = 0; least = 0; greatest = 0; excess = 0; count = 0 };
  below = None;
}

-- The least T with one paper more.
unfoldable pub least_with : Mark → Totals → ℕ
least_with m t = pick (eqb t.papers 0) m.turns (min t.least m.turns)

-- The first paper below its engine with one paper more.
unfoldable pub below_with : Mark → Tally → Option ℕ
below_with m s = option_or s.below (pick (ltb m.turns m.engine) (Some (s.totals.papers + 1)) None)

-- The totals with one paper more.
unfoldable pub totals_with : Mark → Totals → Totals
totals_with m t = record {
  papers = t.papers + 1;
  pages = t.pages + m.pages;
  x = t.x + m.x;
  y = t.y + m.y;
  turns = t.turns + m.turns;
  least = least_with m t;
  greatest = max t.greatest m.turns;
  excess = t.excess + (m.turns - m.engine);
  count = t.papers + 1;
}

-- The tally with one paper more.
abbrev pub with_paper : Mark → Tally → Tally
with_paper m s = record { totals = totals_with m s.totals; below = below_with m s }

-- Every sum is at most 2³² − 1 for each paper, so that no sum of 10,000 papers passes 64 bits.
pub record Within (t : Totals) : Type 0 where
  pub pages : t.pages ≤ t.papers * 4294967295
  pub x : t.x ≤ t.papers * 4294967295
  pub y : t.y ≤ t.papers * 4294967295
  pub turns : t.turns ≤ t.papers * 4294967295
  pub excess : t.excess ≤ t.papers * 4294967295

-- How many of n marks are gone through.
unfoldable pub limit_of : ℕ → ℕ
limit_of n = pick (leb n 10000) n 0
