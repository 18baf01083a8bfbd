-- `fill_within` meets its contract: the filled words are a work area, and its last stop is asked.
use Rattle.limits.specs.laws.Sought.{filled_area, last_visits}
use Rattle.limits.proofs.fill_within.Goals as goal

pub last_stop-last-requires : goal.last_stop-last-requires
last_stop-last-requires c =
    let pre = c.requires in
    (filled_area pre _ c.fill.ensures, pre.sound.some_folio)

pub reached-requires : goal.reached-requires
reached-requires c =
    let pre = c.requires in
    (filled_area pre _ c.fill.ensures, rw c.last_stop-last.ensures (last_visits _ _))

pub returns : goal.returns
returns c =
    record {
      is = c.fill.ensures;
      told = rw c.last_stop-last.ensures at c.reached.ensures;
    }
