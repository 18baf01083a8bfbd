-- The chapters of a book that was read as the page model has them: all are alike.
use Rattle.std.specs.Prelude.{ℕ, zero, suc, ◌≤◌, ◌<◌, Bool, true, List, [], ◌∷◌, ◌≡◌, length, drop, eqb}
use Rattle.std.proofs.Common.{arith, sym, ◌∙◌, ap}
use Rattle.std.proofs.Math.Bool.{false}
use Rattle.std.proofs.Math.Path.{refl}
use Rattle.model.specs.Gather.{pick}
use Rattle.model.specs.Galley.{single, double}
use Rattle.model.specs.Galley as model
use Rattle.model.specs.Leaf.{sides_of}
use Rattle.model.specs.Book.{sides_on, folio_in, first_folio}
use Rattle.theorems.specs.books.Turns.{Alike}
use Rattle.theorems.specs.books.Choosing.{AllAlike}
use Rattle.galley.specs.declared.Spec.{Spec}
use Rattle.galley.specs.Model.{model_of}
use Rattle.galley.proofs.laws.Sound.{sound}
use Rattle.chapters.specs.Book.{Chapter, read, book_of, models_of, chapter_bytes}
use Rattle.chapters.specs.laws.Chapters.{chapter_at}

-- A chapter as the page model has it.
abbrev pub modelled : Chapter → model.Galley
modelled c = model_of c.bytes c.galley

-- On another folio only whether the work is double-sided matters.
pub sides_on_lem : (n s f : ℕ) → sides_on n (sides_of s f) ≡ sides_of s n
unfolding sides_of
sides_on_lem n s f = go (eqb s 2)
  where
    go : (b : Bool) → sides_on n (pick b (double f) single) ≡ pick b (double n) single
    go true = unfold sides_on in refl
    go false = unfold sides_on in refl

-- Chapters of one specification are alike.
pub spec_alike : (b c : Chapter) → c.galley.spec ≡ b.galley.spec → Alike (modelled b) (modelled c)
spec_alike b c e =
    record {
      alpha = ap (λ (s : Spec). s.alpha) e;
      beta = ap (λ (s : Spec). s.beta) e;
      sides = λ n. sides_on_lem n c.galley.spec.sides c.galley.folio ∙ ap (λ (s : Spec). sides_of s.sides n) e
          ∙ sym (sides_on_lem n b.galley.spec.sides b.galley.folio);
    }

all_spec : (b : Chapter) (cs : List Chapter)
    → ((j : ℕ) → j < length cs → (c : Chapter) (ds : List Chapter) → drop j cs ≡ c ∷ ds → c.galley.spec ≡ b.galley.spec)
    → AllAlike (modelled b) (models_of cs)
unfolding AllAlike models_of
all_spec b [] each = tt
all_spec b (c ∷ cs) each = (spec_alike b c (each 0 (omega arith) c cs refl), all_spec b cs (λ j h. each (suc j) (omega arith)))

-- The later chapters are alike the first.
pub all_alike : (bytes lengths : List ℕ) (first : Chapter) (rest : List Chapter) → book_of bytes lengths ≡ read (first ∷ rest)
    → AllAlike (modelled first) (models_of rest)
all_alike bytes lengths first rest e =
    all_spec first rest (λ j h c ds d.
    let at = chapter_at bytes lengths first rest e (suc j) (omega arith) in
    ap spec_in (sym d ∙ at.there) ∙ at.spec)
  where
    spec_in : List Chapter → Spec
    spec_in [] = first.galley.spec
    spec_in (c ∷ cs) = c.galley.spec

-- The book opens on a folio.
pub some_folio_lem : (bytes lengths : List ℕ) (first : Chapter) (rest : List Chapter) → book_of bytes lengths ≡ read (first ∷ rest)
    → 1 ≤ first_folio (models_of (first ∷ rest))
unfolding first_folio models_of folio_in sides_of
some_folio_lem bytes lengths first rest e =
    let at = chapter_at bytes lengths first rest e 0 (omega arith) in
    let s = sound (chapter_bytes bytes lengths 0) at.galley at.reads in
    let f = ap folio_at at.there in
    go (eqb first.galley.spec.sides 2) (omega (arith, s.some_folio, f))
  where
    folio_at : List Chapter → ℕ
    folio_at [] = 0
    folio_at (c ∷ cs) = c.galley.folio

    go : (b : Bool) → 1 ≤ first.galley.folio → 1 ≤ folio_in (pick b (double first.galley.folio) single)
    go true h = h
    go false h = omega arith

-- The chapters from number k on, as the page model has them.
pub models_drop : (cs : List Chapter) (k : ℕ) → drop k (models_of cs) ≡ models_of (drop k cs)
unfolding models_of
models_drop cs zero = refl
models_drop [] (suc k) = refl
models_drop (c ∷ cs) (suc k) = models_drop cs k

-- There are as many.
pub models_many : (cs : List Chapter) → length (models_of cs) ≡ length cs
unfolding models_of
models_many [] = refl
models_many (c ∷ cs) = ap suc (models_many cs)
