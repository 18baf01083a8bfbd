-- The first paper below its engine is one of the 10,000.
use Rattle.std.proofs.Common.{◌≡◌, Some, length, sym, ap, ◌∙◌, arith}
use Rattle.report.specs.declared.tally.Tally.{Tally}
use Rattle.report.specs.Report.{first_below}
use Rattle.report.specs.Tally.{tally_of}
use Rattle.report.specs.laws.First.{first_low}
use Rattle.report.proofs.report_on.Goals as goal

pub overflow_cast-result : goal.overflow_cast-result
unfolding tally_of first_below
overflow_cast-result c =
    let marks = c.args.marks.now in
    let below : first_below marks (length marks) ≡ Some c.in-Some.paper = sym (ap (λ (t : Tally). t.below) c.all_papers-tally.ensures) ∙ c.in-Some.is in
    omega (arith, first_low (length marks) _ c.in-Some.paper below)
