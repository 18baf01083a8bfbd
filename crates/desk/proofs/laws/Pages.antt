-- What the words of a desk with pages keep to.
use Rattle.std.specs.Prelude.{ℕ, ◌-◌, ◌*◌, ◌≤◌, ◌<◌, Bool, ◌&&◌, ◌≡◌, leb, ltb}
use Rattle.std.proofs.Math.Nat.{mul-le-mul}
use native.Mathlib.Omega.{arith}
use Rattle.std.proofs.Math.Bool.{true, false}
use Rattle.std.proofs.Math.Path.{refl}
use borrow.Author.Tests.{leb-true, ltb-true}
use Rattle.model.specs.Gather.{pick}
use Rattle.model.proofs.laws.Gather.{and_left, and_right}
use Rattle.desk.specs.declared.Desk.{Desk}
use Rattle.desk.specs.Pages.{pages_on, words_on, is_inner, page_at}

-- The words of a desk with pages: at most 64 pages of two or three words each.
pub record Paged (d : Desk) : Type 0 where
  pub few : d.pages ≤ 64
  pub least : 2 ≤ d.width
  pub most : d.width ≤ 3

module _ (d : Desk) where
  abbrev fine : Bool
  fine = leb d.pages 64 && leb 2 d.width && leb d.width 3

  fine_paged : fine ≡ true → Paged d
  fine_paged h =
      let both = and_left (leb d.pages 64 && leb 2 d.width) (leb d.width 3) h in
      record {
        few = leb-true d.pages 64 (and_left (leb d.pages 64) (leb 2 d.width) both);
        least = leb-true 2 d.width (and_right (leb d.pages 64) (leb 2 d.width) both);
        most = leb-true d.width 3 (and_right (leb d.pages 64 && leb 2 d.width) (leb d.width 3) h);
      }

  -- A desk that has a page has such words.
  pub some_paged : 0 < pages_on d → (Paged d) × (pages_on d ≡ d.pages)
  unfolding pages_on
  some_paged = go fine refl
    where
      go : (b : Bool) → fine ≡ b → 0 < pick b d.pages 0 → (Paged d) × (pick b d.pages 0 ≡ d.pages)
      go true e h = (fine_paged e, refl)
      go false e h = absurd (omega arith)

  -- No list in force has more than 192 words.
  pub words_few : words_on d ≤ 192
  unfolding words_on pages_on
  words_few = go fine refl
    where
      go : (b : Bool) → fine ≡ b → pick b d.pages 0 * d.width ≤ 192
      go true e = mul-le-mul (fine_paged e).few (fine_paged e).most
      go false e = omega arith

  module _ (page : ℕ) (h : is_inner d page ≡ true) where
    -- An inner page comes after the first place and before the last page,
    pub inner_first : 1 ≤ page
    unfolding is_inner
    inner_first = leb-true 1 page (and_left (leb 1 page) (ltb page (pages_on d)) h)

    inner_before : page < pages_on d
    unfolding is_inner
    inner_before = ltb-true page (pages_on d) (and_right (leb 1 page) (ltb page (pages_on d)) h)

    -- and its words are among the 192.
    pub inner_room : page_at d.width page ≤ 186
    inner_room =
        let before = inner_before in
        let on = some_paged (omega arith) in
        let few = on.0.few in
        let same = on.1 in
        let low : page - 1 ≤ 62 = omega (arith, few, same) in
        mul-le-mul low on.0.most
