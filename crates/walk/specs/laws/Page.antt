-- The words of a page: two stores or, where there are tables, three.
use Prim.Native.Nat.{ℕ, suc, ◌+◌, ◌≤◌, ◌<◌}
use native.Mathlib.Omega.{arith}
use Rattle.std.specs.Prelude.{◌≡◌, List, length, set}
use Rattle.std.proofs.Math.Path.{refl}
use Rattle.std.proofs.lemmas.List.Edits.{sets}
use borrow.Author.Tests.{eq-eqb, ne_eqb}
use Rattle.galley.specs.declared.Galley.{Galley}
use Rattle.blocks.specs.declared.Counts.{Counts}
use Rattle.blocks.specs.Counts.{page_words, place_of}
use Rattle.blocks.specs.laws.Counts.{words_least}
use Rattle.places.specs.declared.Place.{Place}
use Rattle.candidates.specs.Read.{counts_at}
use Rattle.candidates.proofs.laws.Columns.{within_at}
use Rattle.walk.specs.Traceable.{PageRoom}

module _ {g : Galley} {place : Place} {k : ℕ} {ws : List ℕ} (asked : PageRoom g place k ws) (at : Counts)
    (told : at ≡ counts_at g place.line place.column) where
  -- Its counts are words, and the first two within the list.
  pub counts_small : (at.lines ≤ 4000) × (at.figures ≤ 4000) × (at.tables ≤ 4000)
  counts_small =
      let w = within_at g place.line place.column asked.line asked.column in
      rw told (
        omega (arith, w.lines, asked.lines),
        omega (arith, w.figures, asked.floats.figures),
        omega (arith, w.tables, asked.floats.tables),
      )

  pub word_two : k + 2 ≤ length ws
  word_two = omega (arith, words_least g, asked.room)

  -- Without tables it is its lines and figures,
  module _ (without : g.tables.count ≤ 0) where
    pub page_two : set (set ws k at.lines) (k + 1) at.figures ≡ sets ws k (place_of g (counts_at g place.line place.column))
    unfolding place_of
    page_two =
        let one : k + 1 ≡ suc k = omega arith in
        rw (told, eq-eqb g.tables.count 0 (omega arith), one) refl

  -- and with tables these as well.
  module _ (with_tables : 0 < g.tables.count) where
    pub word_three : k + 3 ≤ length ws
    word_three =
        let n : page_words g ≡ 3 = rw (ne_eqb g.tables.count 0 (λ e. omega arith)) refl in
        omega (arith, asked.room)

    pub page_three : set (set (set ws k at.lines) (k + 1) at.figures) (k + 2) at.tables
        ≡ sets ws k (place_of g (counts_at g place.line place.column))
    unfolding place_of
    page_three =
        let one : k + 1 ≡ suc k = omega arith in
        let two : k + 2 ≡ suc (suc k) = omega arith in
        rw (told, ne_eqb g.tables.count 0 (λ e. omega arith), one, two) refl
