-- `are_cited` meets its contract: its tests are those of rule 17 for figures and tables.
use mathlib.Core.Path.{sym}
use Rattle.blocks.specs.laws.Counts.{within_proper}
use Rattle.rules.specs.laws.Page.{cited_of}
use Rattle.judging.proofs.are_cited.Goals as goal

pub returns : goal.returns
returns c =
    λ q last e.
    let a = c.args in
    rw (c.is_cited.ensures, c.is_cited-2.ensures)
    (sym (cited_of a.s.now a.g q last a.asked a.v (within_proper a.g c.requires.1) e))
