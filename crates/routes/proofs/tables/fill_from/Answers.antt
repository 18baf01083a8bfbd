-- `fill_from` fills the chapter's table from a folio, where a route leads to its folio.
use Rattle.routes.specs.laws.Tables.{room_on, filled_from}
use Rattle.routes.proofs.tables.fill_from.Goals as goal

pub fill_chapter-requires : goal.fill_chapter-requires
fill_chapter-requires c = rw c.on_folio.ensures (room_on c.args.folio c.requires)

pub returns-then-is_some : goal.returns-then-is_some
returns-then-is_some c =
    filled_from c.args.route c.args.folio c.requires c.on_folio.ensures c.fill_chapter.ensures
