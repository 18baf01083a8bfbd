-- The list in force on a desk, for any words of the desk (document 02, S-7). The type `Desk` is that of src/lib.rt.
use Rattle.std.specs.Prelude.{ℕ, ◌+◌, ◌-◌, ◌*◌, Bool, ◌&&◌, List, eqb, leb, ltb, get_or, set, take}
use Rattle.model.specs.Gather.{pick}
use Rattle.desk.specs.declared.Desk.{Desk}

-- The pages of a desk: at most 64, of two or three words each; a desk of any other words has none (document 02, S-7).
unfoldable pub pages_on : Desk → ℕ
pages_on d = pick (leb d.pages 64 && leb 2 d.width && leb d.width 3) d.pages 0

-- The words of these pages.
unfoldable pub words_on : Desk → ℕ
words_on d = pages_on d * d.width

-- The list in force: the first of the 192 words that are kept for it (document 02, S-7).
unfoldable pub in_force : Desk → List ℕ
in_force d = take (words_on d) d.list

-- A page with another after it: 1 to p − 1 (document 02, S-7, number 23).
unfoldable pub is_inner : Desk → ℕ → Bool
is_inner d page = leb 1 page && ltb page (pages_on d)

-- The words of a page, by the words and the pages of a list.
unfoldable pub width_of : ℕ → ℕ → ℕ
width_of words pages = pick (eqb words (2 * pages)) 2 3

-- The first word of a page in a list of so many words a page.
abbrev pub page_at : ℕ → ℕ → ℕ
page_at width page = (page - 1) * width

-- Two words of a list, from a place on, are others,
abbrev pub two_set : List ℕ → ℕ → List ℕ → List ℕ
two_set list at end = set (set list at (get_or end 0 0)) (at + 1) (get_or end 1 0)

-- and so are a page's two or three words in a list with another end of that page (document 02, S-7).
unfoldable pub with_end : ℕ → List ℕ → ℕ → List ℕ → List ℕ
with_end width list page end =
    pick (eqb width 3)
    (set (two_set list (page_at width page) end) (page_at width page + 2) (get_or end 2 0))
    (two_set list (page_at width page) end)
