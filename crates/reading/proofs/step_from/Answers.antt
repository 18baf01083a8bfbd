-- `reading::step_from` meets its contract: the end comes after a specification, and no record is long.
use Rattle.std.proofs.Common.{rules, arith, sym, ◌∙◌}
use Rattle.galley.proofs.laws.Place.{kind_sized, turning_none}
use Rattle.galley.proofs.laws.Step.{end_begun}
use Rattle.reading.proofs.step_from.Goals as goal

pub after-requires : goal.after-requires
after-requires c =
    let a = c.args in
    let none = turning_none _ (sym c.unfit_for.ensures ∙ c.in_default.is) in
    let fits = rw (c.kind_of-kind.ensures, c.mark_at.ensures) at none in (
      search rules,
      rw (c.moved.ensures, c.kind_of-kind.ensures) (omega (arith, (kind_sized c.mark_at.result).1)),
      λ e. c.requires.1 (end_begun a.s.now a.so fits (sym c.read_record-found.ensures ∙ e)),
    )
