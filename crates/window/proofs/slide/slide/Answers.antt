-- `slide` meets its contract: the three ends are the first lines found, and the law of the window says what they open.
use Rattle.window.specs.laws.Slide.{slide_opens}
use Rattle.window.proofs.slide.slide.Goals as goal

pub returns : goal.returns
returns c =
    let a = c.args in
    let low = c.first_below.ensures in
    let split = c.first_below-2.ensures in
    let high = c.first_below-3.ensures in
    record {
      low = low.from;
      split = split.from;
      high = high.from;
      within = low.to;
      between = split.to;
      inside = high.to;
      opens = λ st m. slide_opens a.sums.now st m a.load a.window _ a.i low split high;
    }
