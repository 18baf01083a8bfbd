-- The rules accept a page list exactly where it is the list of a pagination.
use Rattle.std.specs.Prelude.{ℕ, zero, suc, ◌+◌, ◌≤◌, ◌<◌, ◌≡◌, ◌↔◌, true, List, length}
use Rattle.std.proofs.Common.{arith, ◌∙◌, subst}
use Rattle.std.proofs.Math.Path.{sym, ap}
use Rattle.model.specs.Galley.{Galley, Place, Sane, count, streams, zeros, sizes}
use Rattle.model.specs.Turns.{page_of}
use Rattle.model.specs.Best.{allowed}
use Rattle.model.specs.Pagination.{Map, Pagination, place_on, list_on}
use Rattle.model.proofs.laws.Gather.{length_row}
use Rattle.model.proofs.laws.Rules.{kept, kept_allowed, Forward, forward_at}
use Rattle.model.specs.laws.Judge.{accepts}
use Rattle.model.specs.laws.Words.{Shaped}
use Rattle.model.proofs.laws.Valid.{count_sizes, count_zeros}
use Rattle.theorems.specs.published.Fits.{fits_count}
use Rattle.theorems.specs.published.Heights.{After}
use Rattle.theorems.specs.published.Laid.{Laid, laid_pagination, pagination_laid}
use Rattle.theorems.specs.published.Places.{place_at, shaped_at, accepts_page, accepts_end, page_reached, list_is}
use Rattle.theorems.specs.published.OfMap.{count_place, place_is, accepts_list, place_after}

module _ (g : Galley) (sane : Sane g) where
  module _
      (ps : List Place)
      (shaped : Shaped (streams g) ps)
      (taken : accepts (allowed g) (sizes g) 1 (zeros g) ps ≡ true) where
    -- The page that places each block, and the place after each page.
    abbrev pages : Map
    pages s k = page_of s k 1 ps

    abbrev place : ℕ → Place
    place q = place_at (zeros g) ps q

    laid : Laid g (length ps) place
    unfolding place_at
    laid =
        record {
          none = count_zeros g;
          all = λ s d. ap (λ v. count v s) (accepts_end (allowed g) (sizes g) 1 (zeros g) ps taken) ∙ count_sizes g s d;
          page = λ q b. kept (accepts_page (allowed g) (sizes g) 1 (zeros g) ps taken q (suc q) (omega arith) b);
        }

    after : (q : ℕ) → q ≤ length ps → After g pages q (place q)
    after q b s d =
        record {
          top = top q b;
          early = λ k a l. (let r = (reached k a).0 l in omega arith);
          late = λ k a c l. (reached k a).1 (omega arith);
        }
      where
        forth : (i : ℕ) → i < length ps → Forward g (place i) (place (suc i))
        forth i c = forward_at g (place i) (place (suc i)) (laid.page i c).rule13

        top : (q : ℕ) → q ≤ length ps → count (place q) s ≤ (g.stream s).size
        top zero b = let none = laid.none s d in omega arith
        top (suc i) b = (forth i b).top s d

        reached : (k : ℕ) → 1 ≤ k → (k ≤ count (place q) s) ↔ (pages s k ≤ 0 + q)
        reached k a =
            let none = count_zeros g s d in
            page_reached s k 0 (zeros g) ps (λ i c. (forth i c).up s d) (omega arith) q b

    -- An accepted list is the list of a pagination.
    pub accepted_pagination : (P : Map) × Pagination g (length ps) P × (list_on g P (length ps) 1 ≡ ps)
    accepted_pagination =
        (pages, laid_pagination g sane (length ps) place pages after laid, list_is g pages 1 (zeros g) ps here)
      where
        here : (i j : ℕ) → j ≡ 1 + i → i < length ps → place_on g pages j ≡ place (suc i)
        here i j e b =
            let is : j ≡ suc i = omega arith in
            rw is
            (place_is g pages (suc i) (place (suc i)) (shaped_at (streams g) (zeros g) ps shaped i b)
            (λ s d. count_place g pages (suc i) s d ∙ fits_count (after (suc i) b s d)))

  module _ {p : ℕ} {P : Map} (m : Pagination g p P) where
    placed : Laid g p (place_on g P)
    placed = pagination_laid g sane p (place_on g P) P (λ q b. place_after m.order q) m

    -- Before its first page nothing is placed,
    pub place_start : place_on g P 0 ≡ zeros g
    unfolding zeros
    place_start =
        place_is g P 0 (zeros g) (length_row 0 (streams g) _) (λ s d. placed.none s d ∙ sym (count_zeros g s d))

    -- after its last page everything is,
    place_end : place_on g P p ≡ sizes g
    unfolding sizes
    place_end = place_is g P p (sizes g) (length_row 0 (streams g) _) (λ s d. placed.all s d ∙ sym (count_sizes g s d))

    -- and its list is accepted.
    pub pagination_accepts : accepts (allowed g) (sizes g) 1 (zeros g) (list_on g P p 1) ≡ true
    pagination_accepts =
        subst (λ u. accepts (allowed g) (sizes g) 1 u (list_on g P p 1) ≡ true) place_start
        (accepts_list g P (allowed g) (sizes g) p place_end (λ q b. kept_allowed (placed.page q b)) p 0 (omega arith))
