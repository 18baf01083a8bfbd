-- `words_of` meets its contract: a page has two words, or three, as the galley that was read has streams.
use Rattle.std.proofs.Common.{arith, ◌≡◌, ℕ, List, sym, ◌∙◌, ap}
use Rattle.std.specs.Prelude.{Some, Err, Ok}
use Rattle.model.specs.Galley.{streams}
use Rattle.galley.specs.declared.Galley.{Galley}
use Rattle.galley.specs.Whole.{galley_of, Reading}
use Rattle.galley.specs.Model.{model_of}
use Rattle.blocks.specs.laws.Counts.{words_least, words_most}
use Rattle.paginate.proofs.words_of.Goals as goal

-- The bytes say one galley, and so the words are those of any that they say.
which : (bytes : List ℕ) (g h : Galley) (r : ℕ) → ((b : List ℕ) → r ≡ streams (model_of b g)) → galley_of bytes ≡ Ok g
    → galley_of bytes ≡ Ok h → r ≡ streams (model_of bytes h)
which bytes g h r is e f = is bytes ∙ ap (λ (k : Galley). streams (model_of bytes k)) (ap galley (sym e ∙ f))
  where
    galley : Reading → Galley
    galley (Ok k) = k
    galley (Err r) = g

pub returns-in-Ok : goal.returns-in-Ok
returns-in-Ok c =
    let g = c.in-Ok.g in (
      (omega (arith, c.page_words.ensures.1, words_least g), omega (arith, c.page_words.ensures.1, words_most g)),
      λ h e. ap (λ (n : ℕ). Some n) (which _ g h _ c.page_words.ensures.0 (sym c.read_galley.ensures ∙ c.in-Ok.is) e),
    )
