-- A turn makes of the tally that of one paper more.
use Rattle.std.proofs.Common.{ℕ, suc, sym, ap, ◌∙◌, add-one}
use Rattle.report.specs.declared.tally.Tally.{Tally}
use Rattle.report.specs.Report.{paper}
use Rattle.report.specs.Tally.{tally_of, with_paper}
use Rattle.report.specs.laws.Tally.{tally_next}
use Rattle.report.proofs.all_papers.Goals as goal

pub loop-i-preserved : goal.loop-i-preserved
loop-i-preserved c =
    let marks = c.args.marks.now in
    let i = c.loop-i.i in
    record {
      few = c.loop-i.invariant.few;
      passed =
          c.add.ensures.0
          ∙ ap (λ (t : Tally). with_paper (paper marks (suc i)) t) c.loop-i.invariant.passed
          ∙ sym (tally_next marks i)
          ∙ ap (λ (n : ℕ). tally_of marks n) (sym (add-one i));
      within = c.add.ensures.1;
    }
