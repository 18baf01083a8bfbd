-- `offered` reads the entry where a list closes that leads to the next folio, and goes on by it.
use native.Mathlib.Omega.{arith}
use Rattle.routes.specs.laws.Offer.{closing_from_lem, lent_counted, turn_small, passed_from}
use Rattle.routes.proofs.offer.offered.Goals as goal

pub closing_stop-at-requires : goal.closing_stop-at-requires
closing_stop-at-requires c = lent_counted c.requires.lent

pub entry_at-entry-requires : goal.entry_at-entry-requires
entry_at-entry-requires c =
    (c.requires.lent, rw (c.closing_stop-at.ensures, c.closing_side.ensures) (closing_from_lem c.args.g c.args.folio c.args.next))

pub through-requires : goal.through-requires
through-requires c =
    let a = c.args in
    record {
      affordable = c.requires.affordable;
      small = rw c.crossing.ensures (omega (arith, turn_small a.g a.first a.folio c.requires.light));
    }

pub returns : goal.returns
returns c =
    let a = c.args in
    passed_from a.g a.first a.folio a.next a.work.now _ _ c.closing_side.ensures c.closing_stop-at.ensures
    c.entry_at-entry.ensures c.crossing.ensures c.through.ensures
