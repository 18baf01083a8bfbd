-- How a case is written: a galley from its lists, what is asked of it, and what is to be answered.
use Rattle.std.specs.Prelude.{ℕ, zero, suc, pred, Bool, true, List, [], ◌∷◌, length, get_or}
use Rattle.model.specs.declared.answer.Numbers.{Numbers}
use Rattle.model.specs.Galley.{Spec, Stream, Galley, zeros}
use Rattle.model.specs.Answers.{numbers_of, pages_of, marked}
use Rattle.model.specs.Best.{made, made_words}
use Rattle.model.specs.Weighed.{weighed, weighed_from, ceiling}
use Rattle.model.specs.Opening.{end_of, made_after, made_words_after}
use Rattle.model.specs.Book.{book_made, book_words}

-- A line or figure: its height, the least and greatest space after it, whether a page may end there, and what cites it.
pub record Block : Type 0 where
  pub height : ℕ
  pub least : ℕ
  pub most : ℕ
  pub legal : Bool
  pub cite : ℕ

unfoldable pub blank : Block
blank = record { height = 0; least = 0; most = 0; legal = true; cite = 0 }

-- Block k, counted from 1.
unfoldable pub nth : List Block → ℕ → Block
nth bs k = get_or bs (pred k) blank

unfoldable pub stream_of : List Block → Stream
stream_of bs =
    record {
      size = length bs;
      ht = λ k. (nth bs k).height;
      least = λ k. (nth bs k).least;
      most = λ k. (nth bs k).most;
      legal = λ k. (nth bs k).legal;
      cite = λ k. (nth bs k).cite;
    }

-- The galley of a specification, lines and figures.
unfoldable pub galley_of : Spec → List Block → List Block → Galley
galley_of sp lines figures =
    record { spec = sp; floats = 1; stream = λ s. elim s [ zero ↦ stream_of lines | suc t ↦ stream_of figures ] }

-- What is asked: a making, the marking of a list of words, or what is weighed and told of it beforehand; and a making, or what is weighed,
-- after an opening; and the making of a book of which the galley is the first chapter and these are the later ones.
pub data Question : Type 0 where
  making : Question
  marking : List ℕ → Question
  weighing : Question
  making_after : List ℕ → Question
  weighing_after : List ℕ → Question
  binding : List Galley → Question

-- What is answered: the numbers of an answer, the words of the list that is made, and where that is asked the pages weighed and their
-- ceiling.
pub record Reply : Type 0 where
  pub numbers : Numbers
  pub list : List ℕ
  pub counted : List ℕ

pub record Case : Type 0 where
  pub galley : Galley
  pub question : Question
  pub reply : Reply

-- A making that succeeds, with p, X, Y, T, W and the words of its list.
unfoldable pub makes : ℕ → ℕ → ℕ → ℕ → ℕ → List ℕ → Reply
makes p x y t w ws =
    record { numbers = record { number = 0; place = 0; pages = p; x = x; y = y; turns = t; white = w }; list = ws; counted = [] }

-- A marking that accepts, with p, X, Y, T, W.
unfoldable pub marks : ℕ → ℕ → ℕ → ℕ → ℕ → Reply
marks p x y t w = makes p x y t w []

-- A refusal with its number and place.
unfoldable pub refuses : ℕ → ℕ → Reply
refuses n at =
    record { numbers = record { number = n; place = at; pages = 0; x = 0; y = 0; turns = 0; white = 0 }; list = []; counted = [] }

-- Nothing but the pages weighed and their ceiling.
unfoldable pub counts : ℕ → ℕ → Reply
counts n top = record { numbers = (refuses 0 0).numbers; list = []; counted = n ∷ top ∷ [] }

-- A galley, what is asked of it, and what is to be answered.
unfoldable pub asks : Galley → Question → Reply → Case
asks g question reply = record { galley = g; question = question; reply = reply }

-- What the page model answers.
unfoldable pub answered : Galley → Question → Reply
answered g making = record { numbers = numbers_of (made g); list = made_words g; counted = [] }
answered g (marking ws) = record { numbers = numbers_of (marked g ws); list = []; counted = [] }
answered g weighing = counts (weighed g) (ceiling g)
answered g (making_after ws) = record { numbers = numbers_of (made_after g ws); list = made_words_after g ws; counted = [] }
answered g (weighing_after ws) = counts (weighed_from g (end_of (zeros g) (pages_of g ws))) (ceiling g)
answered g (binding later) = record { numbers = numbers_of (book_made (g ∷ later)); list = book_words (g ∷ later); counted = [] }
