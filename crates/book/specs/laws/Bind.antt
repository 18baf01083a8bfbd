-- The best choice, or 11: what binding a book rests on.
use Rattle.std.specs.Prelude.{ℕ, ◌≡◌, List, [], ◌∷◌, ◌++◌, length, drop, Ok}
use Rattle.std.proofs.Common.{arith, sym, ◌∙◌, ap}
use Rattle.model.specs.Book.{book_made}
use Rattle.galley.specs.declared.Galley.{Galley}
use Rattle.galley.specs.Whole.{galley_of}
use Rattle.chapters.specs.declared.Book.{Book}
use Rattle.chapters.specs.Book.{Chapter, chapters_in, book_of, models_of, chapter_bytes}
use Rattle.chapters.specs.laws.Later.{chapters_read, read_same}
use Rattle.chapters.specs.laws.Chapters.{chapter_at}
use Rattle.routes.specs.declared.Routes.{Routes}
use Rattle.routes.specs.Routes.{best_end}
use Rattle.routes.specs.Next.{AllRouted}
use Rattle.course.specs.declared.Sums.{Sums}
use Rattle.course.specs.Weighed.{all_weighed, BookRead}
use Rattle.book.specs.declared.BookMade.{BookMade}
use Rattle.book.specs.Make.{told_of}
use Rattle.book.specs.Bind.{BookLent, RouteFound, AlongMade, Countable, counted_of, Best}
use Rattle.book.specs.laws.Ending.{folio_after}
use Rattle.book.specs.laws.Route.{no_choice, on_route}
use Rattle.book.specs.laws.Count.{none_made, counts_made}
use Rattle.model.specs.Answers as answers

module _ {bytes lengths : List ℕ} {book : Book} {work list : List ℕ} (p : BookLent bytes lengths book work list) where
  abbrev first : Chapter
  first = p.room.first

  abbrev rest : List Chapter
  rest = p.room.rest

  pub bind_read : BookRead bytes lengths book
  bind_read = record { first = first; rest = rest; is = p.room.is; many = ap (λ (b : Book). b.chapters) p.room.sized }

  -- What is weighed of its chapters.
  all_weighed_lem : (count : ℕ) → count ≡ all_weighed (chapters_in (book_of bytes lengths)) → count ≡ all_weighed (first ∷ rest)
  all_weighed_lem count is = is ∙ ap all_weighed (chapters_read p.room.is)

  module _ (count : ℕ) (weighed : count ≡ all_weighed (chapters_in (book_of bytes lengths))) {work₁ from : List ℕ} {routes : Routes}
      (routed : AllRouted bytes lengths work work₁ routes from) (last : ℕ) (told : last ≡ folio_after (best_end routes.one routes.two)) where
    -- There is no choice.
    pub bind_none : last ≡ 0 → (answer : BookMade) → answer ≡ told_of (answers.refused 11 0) count → Best bytes lengths work list answer work₁ list
    bind_none z answer is =
        let (made, words) = none_made (models_of (first ∷ rest)) (no_choice bytes lengths first rest p.room.is (routed.right first rest p.room.is) last told z) in
        let all = all_weighed_lem count weighed in
        record {
          lent = routed.long;
          answers = λ c cs e.
              rw (← read_same (sym p.room.is ∙ e))
              (is ∙ ap (λ a. told_of a count) (sym made) ∙ ap (told_of (book_made (models_of (first ∷ rest)))) all);
          listed = λ c cs e.
              rw (← read_same (sym p.room.is ∙ e)) (sym (ap (λ (ws : List ℕ). ws ++ drop (length ws) list) words));
        }

    -- There is one: its route was found.
    pub bind_found : (last ≡ 0 → ⊥) → RouteFound bytes lengths book from last work₁ list
    bind_found n =
        let r = routed.right first rest p.room.is in
        record {
          lent = record {
            room = record { first = first; rest = rest; is = p.room.is; sized = p.room.sized; room = omega (arith, p.room.room, routed.long) };
            holds = p.holds;
          };
          words = r.long;
          route = on_route bytes lengths first rest p.room.is r last told n;
        }

    module _ {sums : Sums} {work₂ list₂ : List ℕ} (made : AlongMade bytes lengths work₁ list sums work₂ list₂) where
      pub bind_countable : Countable bytes lengths sums
      bind_countable = record { first = first; rest = rest; is = p.room.is; small = made.small; pages = made.pages }

      pub bind_best : (answer : BookMade)
          → ((g : Galley) → galley_of (chapter_bytes bytes lengths 0) ≡ Ok g → answer ≡ counted_of g sums count)
          → Best bytes lengths work list answer work₂ list₂
      bind_best answer is =
          let at = chapter_at bytes lengths first rest p.room.is 0 (omega arith) in
          let own : at.galley ≡ first.galley = sym (ap galley_in at.there) in
          let (choice, best, pages, x, white) = made.counts first rest p.room.is in
          let told_is : answer ≡ counted_of first.galley sums count = is at.galley at.reads ∙ ap (λ g. counted_of g sums count) own in
          record {
            lent = made.lent ∙ routed.long;
            answers = λ c cs e.
                rw (← read_same (sym p.room.is ∙ e))
                (told_is ∙ counts_made first rest choice sums count best pages x white ∙ ap (told_of (book_made (models_of (first ∷ rest)))) (all_weighed_lem count weighed));
            listed = made.listed;
          }
        where
          galley_in : List Chapter → Galley
          galley_in [] = first.galley
          galley_in (c ∷ cs) = c.galley
