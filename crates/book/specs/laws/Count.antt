-- The counts of a book are those of its best choice.
use Rattle.std.specs.Prelude.{ℕ, ◌+◌, ◌*◌, ◌-◌, ◌≡◌, List, [], ◌∷◌, Ok}
use Rattle.std.proofs.Common.{arith, sym, ◌∙◌, ap}
use Rattle.std.proofs.Math.Option.{Option, none, some}
use Rattle.model.specs.Galley as model
use Rattle.model.specs.Galley.{Sides}
use Rattle.model.specs.Leaf.{leaf}
use Rattle.model.specs.Answers.{words_of}
use Rattle.model.specs.Answers as answers
use Rattle.model.specs.Book.{first_folio, Choice, book_pages, book_x, book_y, book_turns, book_white, best_book, book_counts, book_made, book_words, gathered}
use Rattle.theorems.specs.books.One.{own_sides}
use Rattle.galley.specs.declared.Galley.{Galley}
use Rattle.galley.specs.Model.{model_of}
use Rattle.chapters.specs.Book.{Chapter, models_of}
use Rattle.chapters.specs.laws.Chapters.{ChapterAt, chapter_at}
use Rattle.course.specs.declared.Sums.{Sums}
use Rattle.book.specs.declared.BookMade.{BookMade}
use Rattle.book.specs.Make.{told_of}
use Rattle.book.specs.Bind.{Countable, counted_of}

-- The first chapter.
pub count_first : {bytes lengths : List ℕ} {sums : Sums} (p : Countable bytes lengths sums) → ChapterAt bytes lengths p.first p.rest 0
count_first {bytes} {lengths} p = chapter_at bytes lengths p.first p.rest p.is 0 (omega arith)

-- Where there is no choice the answer is 11, and no word is written.
pub none_made : (gs : List model.Galley) → best_book gs ≡ none → (book_made gs ≡ answers.refused 11 0) × (book_words gs ≡ [])
unfolding book_made book_words
none_made gs e = (
  ap (λ (o : Option Choice). elim o [ none ↦ answers.refused 11 0 | some cs ↦ book_counts (first_folio gs) gs cs ]) e,
  ap (λ (o : Option Choice). elim o [ none ↦ [] | some cs ↦ gathered words_of cs ]) e,
)

-- The counts of a book with the weights of a chapter and a sidedness.
abbrev counts_with : Galley → Sides → ℕ → ℕ → ℕ → ℕ → BookMade
counts_with g s count p x w =
    record {
      answer = Ok (record {
        pages = p;
        x = x;
        y = leaf s p - leaf s 1;
        turns = g.spec.alpha * x + g.spec.beta * (leaf s p - leaf s 1);
        white = w;
      });
      weighed = count;
    }

-- The counts by the sums of the best choice are its counts.
pub counts_made : (c : Chapter) (cs : List Chapter) (choice : Choice) (sums : Sums) (count : ℕ)
    → best_book (models_of (c ∷ cs)) ≡ some choice
    → sums.pages ≡ book_pages (first_folio (models_of (c ∷ cs))) (models_of (c ∷ cs)) choice
    → sums.x ≡ book_x (first_folio (models_of (c ∷ cs))) (models_of (c ∷ cs)) choice
    → sums.white ≡ book_white (first_folio (models_of (c ∷ cs))) (models_of (c ∷ cs)) choice
    → counted_of c.galley sums count ≡ told_of (book_made (models_of (c ∷ cs))) count
unfolding book_made book_counts book_turns book_y first_folio models_of
counts_made c cs choice sums count best pages x white =
    let gs = models_of (c ∷ cs) in
    let f = first_folio gs in
    let s = (model_of c.bytes c.galley).spec.sides in
    let made : book_made gs ≡ book_counts f gs choice =
    ap (λ (o : Option Choice). elim o [ none ↦ answers.refused 11 0 | some cs ↦ book_counts f gs cs ]) best in
    ap (λ p. counts_with c.galley s count p sums.x sums.white) pages
    ∙ ap (λ x. counts_with c.galley s count (book_pages f gs choice) x sums.white) x
    ∙ ap (λ w. counts_with c.galley s count (book_pages f gs choice) (book_x f gs choice) w) white
    ∙ ap (λ t. counts_with c.galley t count (book_pages f gs choice) (book_x f gs choice) (book_white f gs choice)) (sym (own_sides s))
    ∙ ap (λ a. told_of a count) (sym made)
