-- `may_close` meets its contract: its tests are those of rule 14 for lines, figures and tables.
use Rattle.galley.specs.Model.{text_of, floats_of}
use Rattle.rules.specs.laws.Page.{closes_of}
use Rattle.judging.proofs.may_close.Goals as goal

pub returns : goal.returns
returns c =
    let a = c.args in
    rw (
      closes_of a.s.now a.g a.v c.requires.1,
      c.may_end.ensures (text_of a.s.now a.g.text).cite,
      c.may_end-2.ensures (floats_of a.s.now a.g.figures).cite,
      c.may_end-3.ensures (floats_of a.s.now a.g.tables).cite,
    )
