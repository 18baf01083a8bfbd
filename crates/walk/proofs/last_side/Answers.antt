-- `last_side` gives the side of the last page: in double-sided work that of an even last folio, unless the other is less dear.
use native.Mathlib.Omega.{arith}
use Prim.Native.Nat.{◌-◌}
use mathlib.Core.Path.{◌≡◌, sym, ◌∙◌}
use mathlib.Core.Bool.{Bool}
use borrow.Author.Tests.{ne_eqb}
use Rattle.model.specs.Gather.{pick}
use Rattle.model.specs.Leaf.{sides_of}
use Rattle.galley.specs.Model.{sides_in}
use Rattle.candidates.specs.Read.{table_in}
use Rattle.walk.specs.Trace.{even_side, last_side}
use Rattle.walk.specs.laws.Last.{last_double}
use Rattle.walk.specs.laws.Walk.{full_stands}
use Rattle.walk.proofs.last_side.Goals as goal
use Rattle.walk.proofs.last_side.Goals.{After-cheaper}

pub entry_of-first-requires : goal.entry_of-first-requires
entry_of-first-requires c =
    full_stands c.requires.0 c.requires.2 (omega arith)

pub entry_of-second-requires : goal.entry_of-second-requires
entry_of-second-requires c =
    full_stands c.requires.0 c.requires.2 (omega arith)

-- The side that is returned is the last page's, whatever `cheaper` answers.
side : (c : After-cheaper) {less : Bool} → c.cheaper.result ≡ less
    → let a = c.args in
    pick less (1 - even_side a.g.folio) (even_side a.g.folio) ≡ last_side (sides_in a.g) (table_in a.g a.work.now) a.full
side c e =
    let a = c.args in
    last_double a.g.spec.sides a.g.folio (table_in a.g a.work.now) a.full c.entry_of-second.ensures
    c.entry_of-first.ensures c.if-g-eq2.true (sym e ∙ c.cheaper.ensures)

pub returns-then-cheaper : goal.returns-then-cheaper
returns-then-cheaper c = side (goal.at.returns-then-cheaper c).After-cheaper c.if-cheaper.true

pub returns-then-g-eq2 : goal.returns-then-g-eq2
returns-then-g-eq2 c = side (goal.at.returns-then-g-eq2 c).After-cheaper c.if-cheaper.false

pub returns : goal.returns
unfolding last_side sides_of
returns c = simp (ne_eqb _ _ c.if-g-eq2.false)
