-- The bytes of a chapter as they are lent: those from where it begins to where it ends.
use Rattle.std.specs.Prelude.{ℕ, ◌+◌, ◌≤◌, ◌≡◌, List, length, get_or, Ok}
use Rattle.std.proofs.Common.{arith, sym, ◌∙◌, ap, subst}
use Rattle.galley.specs.declared.Galley.{Galley}
use Rattle.galley.specs.Whole.{galley_of}
use Rattle.chapters.specs.Book.{chapter_start, chapter_bytes}
use Rattle.chapters.specs.Steps.{Reads}
use Rattle.routes.specs.declared.Routes.{Routes}
use Rattle.routes.specs.Routes.{first_routes}
use Rattle.routes.specs.Next.{NextRoom, Onward, Lies, Opens}
use Rattle.routes.specs.laws.Next.{galley_same}

module _ (bytes lengths : List ℕ) (k : ℕ) where
  -- It begins before it ends, within the bytes,
  pub extent_within : Lies bytes lengths k
      → (chapter_start lengths k ≤ chapter_start lengths k + get_or lengths k 0) × (chapter_start lengths k + get_or lengths k 0 ≤ length bytes)
  extent_within lies = omega (arith, lies.within)

  -- and what is lent is the chapter.
  module _ (lent : List ℕ) (is : lent ≡ chapter_bytes bytes lengths k) where
    pub lent_reads : Lies bytes lengths k → Reads lent
    lent_reads lies = subst Reads (sym is) lies.holds

    pub lent_room : {routes : Routes} {half : ℕ} {w from : List ℕ} → NextRoom (chapter_bytes bytes lengths k) k routes half w from
        → NextRoom lent k routes half w from
    lent_room {routes} {half} {w} {from} room = subst (λ b. NextRoom b k routes half w from) (sym is) room

    pub lent_onward : {routes r : Routes} {from from' : List ℕ} → Onward lent k routes from r from'
        → Onward (chapter_bytes bytes lengths k) k routes from r from'
    lent_onward {routes} {r} {from} {from'} on = subst (λ b. Onward b k routes from r from') is on

-- The routes before the first chapter, by the galley that it holds.
pub lent_opens : (bytes lengths lent : List ℕ) → lent ≡ chapter_bytes bytes lengths 0 → (g : Galley)
    → galley_of lent ≡ Ok g → {r : Routes} → r ≡ first_routes g.spec.sides g.folio → Opens bytes lengths r
lent_opens bytes lengths lent is g holds r_is d told =
    r_is
    ∙ ap (λ (g : Galley). first_routes g.spec.sides g.folio)
    (galley_same (chapter_bytes bytes lengths 0) d g told (ap galley_of (sym is) ∙ holds))
