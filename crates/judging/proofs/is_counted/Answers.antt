-- `is_counted` meets its contract: its three tests are those of `counted` for as many words a page as there are streams.
use Rattle.blocks.specs.laws.Counts.{blocks_of}
use Rattle.model.specs.Answers.{counted}
use Rattle.judging.proofs.is_counted.Goals as goal

pub returns : goal.returns
unfolding counted
returns c =
    λ bytes ws e.
    rw (e, ← c.page_words-w.ensures.0 bytes, blocks_of c.args.g bytes)
