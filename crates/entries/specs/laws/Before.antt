-- What is filled before a place is past the origin: the starts in earlier columns, and the lines above in its own.
use Rattle.std.specs.Prelude.{ℕ, ◌≤◌, ◌<◌, ◌≡◌, refl, List, None, Some}
use Rattle.std.proofs.Common.{arith, inl, inr}
use Rattle.galley.specs.declared.Galley.{Galley}
use Rattle.galley.specs.Model.{sides_in}
use Rattle.places.specs.declared.Place.{Place}
use Rattle.places.specs.Entry.{Entry, least}
use Rattle.places.specs.Order.{Earlier}
use Rattle.places.specs.Columns.{place_at}
use Rattle.places.proofs.laws.Columns.{inside_head, inside_tail}
use Rattle.candidates.specs.Read.{table_in, side_of, counts_at}
use Rattle.reached.specs.Look.{PastOrigin}
use Rattle.candidates.proofs.laws.Columns.{at_under}
use Rattle.candidates.proofs.laws.Read.{side_occurs}
use Rattle.entries.specs.declared.side.Task.{Task}
use Rattle.entries.specs.Fill.{side_count}
use Rattle.entries.specs.Next.{Next, Before}
use Rattle.entries.specs.laws.Entered.{below_side, sides_count}

module _ {bytes : List ℕ} {task : Task} {w : List ℕ} {i j : ℕ} (next : Next bytes task w i j) where
  abbrev g : Galley
  g = task.galley

  pub sides : side_count (sides_in g) ≡ g.spec.sides
  sides = sides_count g.spec.sides g.folio next.lent.sound.spec_ranged.sides_some next.lent.sound.spec_ranged.sides_two

  filled_past : (a b c x : ℕ) (s : Place) → Earlier a b i j → a ≤ g.text.count → c < g.spec.sides → table_in g w a b c ≡ least x s
      → (task.origin.place.line ≤ a)
      × ((counts_at g 0 task.origin.place.column).figures ≤ (counts_at g 0 b).figures)
      × ((counts_at g 0 task.origin.place.column).tables ≤ (counts_at g 0 b).tables)
  unfolding place_at
  filled_past a b c x s l h occurs e =
      let past = (next.filled.entered a b c x s l h (below_side (sides_in g) c (rw sides occurs)) e).past in
      let under = at_under bytes g task.origin.place.column b (inside_tail a task.origin.place.line _ _ past) in
      (inside_head a task.origin.place.line _ _ past, under.0, under.1)

  -- So are the starts in the columns before,
  pub columns_past : PastOrigin task.galley w j (counts_at task.galley task.origin.place.line task.origin.place.column)
  columns_past =
      record { line = next.line; past = λ a b c x s h l occurs e. filled_past a b c x s (inl l) h occurs e }

  -- and the lines above in the column.
  pub lines_before : i ≤ task.galley.text.count → (c : ℕ) → c < task.galley.spec.sides → Before task w j (side_of task.galley c) i
  lines_before high c occurs a early l = go (table_in g w a j (side_of g c)) refl
    where
      go : (e : Entry) → table_in g w a j (side_of g c) ≡ e → table_in g w a j (side_of g c) ≡ None
      go None e = e
      go (Some k) e =
          absurd (omega (arith, (filled_past a j (side_of g c) k.cost k.start (inr (refl, l)) (omega arith) (side_occurs next.lent.sound c occurs) e).0))
