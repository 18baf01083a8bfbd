-- `judge_opening` meets its contract: an incomplete page turns it away, then the first fault, then 21.
use native.Mathlib.Omega.{arith}
use Rattle.blocks.specs.laws.Counts.{words_least}
use Rattle.openings.specs.laws.Judged.{opening_partial, opening_whole, opening_broken, opening_few, opening_kept}
use Rattle.openings.proofs.judge_opening.Goals as goal

pub nonzero_rem-opening : goal.nonzero_rem-opening
nonzero_rem-opening c = omega (arith, c.page_words-words.ensures.1, words_least c.args.g)

pub returns-then-opening-words-gt0 : goal.returns-then-opening-words-gt0
returns-then-opening-words-gt0 c =
    rw c.refused.ensures
    record {
      told = opening_partial c.args.s.now c.args.g c.requires c.args.opening.now c.page_words-words.ensures.1 c.if-opening-words-gt0.true;
      kept = λ ends e. cc;
    }

pub nonzero_div-pages : goal.nonzero_div-pages
nonzero_div-pages c = omega (arith, c.page_words-words.ensures.1, words_least c.args.g)

pub judge_pages-requires : goal.judge_pages-requires
judge_pages-requires c =
    opening_whole c.args.s.now c.args.g c.requires c.args.opening.now c.page_words-words.ensures.1 c.if-opening-words-gt0.false

pub overflow_cast-pages : goal.overflow_cast-pages
overflow_cast-pages c =
    omega (
      arith,
      opening_few c.args.s.now c.args.g c.requires c.args.opening.now c.page_words-words.ensures.1
          c.if-opening-words-gt0.false _ c.in-Ok.ensures,
    )

pub returns-in-Err : goal.returns-in-Err
returns-in-Err c =
    rw c.refused-in-Err.ensures
    record {
      told =
          opening_broken c.args.s.now c.args.g c.requires c.args.opening.now c.page_words-words.ensures.1
          c.if-opening-words-gt0.false _ c.in-Err.ensures;
      kept = λ ends e. cc;
    }

pub returns-in-Ok : goal.returns-in-Ok
returns-in-Ok c =
    opening_kept c.args.s.now c.args.g c.requires c.args.opening.now c.page_words-words.ensures.1
    c.if-opening-words-gt0.false _ c.in-Ok.ensures _
    c.opening_end.ensures
