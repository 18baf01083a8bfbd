-- The cases of S-9 of document 02: books, of which the first chapter is asked with the later ones.
use Rattle.std.specs.Prelude.{true, List, [], ◌∷◌}
use Rattle.model.specs.Galley.{single, double}
use Rattle.cases.specs.Case.{Case, binding, makes, refuses, asks}
use Rattle.cases.specs.Galleys.{line, figure, galley_c, galley_d, galley_k, galley_p, galley_s, galley_t, galley_u, galley_v}

unfoldable pub books : List Case
books =
    -- the worse first chapter: with three pages, which leave white, the second opens on folio 4, where its line and figure face each other
    asks (galley_d (double 1) 1) (binding (galley_s (double 1) ∷ [])) (makes 5 0 2 2 20 (1 ∷ 0 ∷ 2 ∷ 0 ∷ 3 ∷ 0 ∷ 1 ∷ 0 ∷ 1 ∷ 1 ∷ []))
    -- from folio 2 the best first chapter leads there by itself, and both chapters face their own pages
    ∷ asks (galley_d (double 2) 1) (binding (galley_s (double 1) ∷ [])) (makes 4 0 1 1 0 (2 ∷ 0 ∷ 3 ∷ 0 ∷ 1 ∷ 0 ∷ 1 ∷ 1 ∷ []))
    -- 11 by parity alone: the second chapter is its figure and then its line, which must face each other; after one page they do, after two
    -- they cannot
    ∷ asks (galley_t (line 20 true ∷ []) []) (binding (galley_t (line 10 true ∷ []) (figure 20 1 ∷ []) ∷ []))
    (makes 3 0 1 1 0 (1 ∷ 0 ∷ 0 ∷ 1 ∷ 1 ∷ 1 ∷ []))
    ∷ asks (galley_t (line 20 true ∷ line 20 true ∷ []) []) (binding (galley_t (line 10 true ∷ []) (figure 20 1 ∷ []) ∷ [])) (refuses 11 0)
    -- a tie decided in the first chapter, by the later start of its second page
    ∷ asks (galley_p (double 1) 1) (binding (galley_u (double 1) 1 ∷ [])) (makes 3 0 1 1 0 (4 ∷ 0 ∷ 5 ∷ 0 ∷ 1 ∷ 0 ∷ []))
    -- Y has no weight: the last chapter's even last folio before the first chapter's, and before the later starts of its pages; where these
    -- go together, both; and white before all of them
    ∷ asks (galley_p (double 2) 0) (binding (galley_u (double 1) 0 ∷ [])) (makes 3 0 1 0 0 (4 ∷ 0 ∷ 5 ∷ 0 ∷ 1 ∷ 0 ∷ []))
    ∷ asks (galley_p (double 1) 0) (binding (galley_u (double 1) 0 ∷ [])) (makes 4 0 2 0 0 (2 ∷ 0 ∷ 4 ∷ 0 ∷ 5 ∷ 0 ∷ 1 ∷ 0 ∷ []))
    ∷ asks (galley_d (double 1) 0) (binding (galley_u (double 1) 0 ∷ [])) (makes 3 0 1 0 0 (2 ∷ 0 ∷ 3 ∷ 0 ∷ 1 ∷ 0 ∷ []))
    -- single-sided, each page is turned to but the first, between chapters too; white is that of both chapters
    ∷ asks (galley_s single) (binding (galley_d single 1 ∷ galley_u single 1 ∷ [])) (makes 5 1 4 5 0 (1 ∷ 0 ∷ 1 ∷ 1 ∷ 2 ∷ 0 ∷ 3 ∷ 0 ∷ 1 ∷ 0 ∷ []))
    -- two words a page and then three
    ∷ asks galley_v (binding (galley_k ∷ [])) (makes 4 1 3 4 0 (2 ∷ 1 ∷ 3 ∷ 1 ∷ 2 ∷ 1 ∷ 0 ∷ 3 ∷ 1 ∷ 1 ∷ []))
    -- a chapter that has no list; and a book of one chapter, which is that chapter
    ∷ asks (galley_t (line 21 true ∷ []) []) (binding (galley_t (line 20 true ∷ []) [] ∷ [])) (refuses 11 0)
    ∷ asks (galley_c (double 1)) (binding []) (makes 5 0 2 2 20 (1 ∷ 0 ∷ 2 ∷ 0 ∷ 3 ∷ 0 ∷ 4 ∷ 0 ∷ 4 ∷ 1 ∷ []))
    ∷ []
