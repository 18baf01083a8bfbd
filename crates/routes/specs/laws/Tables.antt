-- Both tables of a chapter, each in one half of the work area: what filling one leaves of the other, and what can be read of them.
use Rattle.std.specs.Prelude.{ℕ, ◌+◌, ◌-◌, ◌≤◌, ◌≡◌, refl, Bool, true, false, List, [], ◌++◌, length, take, drop}
use Rattle.std.proofs.Common.{arith, sym, ◌∙◌, ap, subst, append-nil, length-drop, length-append, length-take-le, take_at, drop_at, take_all}
use Rattle.std.proofs.Math.Seq.{drop-length}
use Rattle.galley.specs.declared.Galley.{Galley}
use Rattle.galley.specs.Model.{model_of}
use Rattle.galley.specs.Sound.{Sound}
use Rattle.candidates.specs.Read.{columns_in}
use Rattle.candidates.proofs.laws.Columns.{few_floats}
use Rattle.filling.specs.Fill.{filled}
use Rattle.filling.specs.laws.Fill.{length_filled}
use Rattle.entries.specs.laws.Side.{needed_roomy}
use Rattle.closings.specs.Chapter.{on_folio, nothing_yet, ChapterRoom, Tabled}
use Rattle.routes.specs.Routes.{Route}
use Rattle.routes.specs.declared.Routes.{Routes}
use Rattle.routes.specs.declared.Step.{Step}
use Rattle.routes.specs.Routes.{is_reached}
use Rattle.routes.specs.Offer.{Cheap, Arriving, Arrived}
use Rattle.routes.specs.Tables.{FilledFrom, Halves, TwoTables, Halved}
use Rattle.routes.specs.laws.Folio.{table_walks}

-- A galley that was read keeps to its limits on every folio.
sound_on : {bytes : List ℕ} {g : Galley} (o : ℕ) → 1 ≤ o → o ≤ 2 → Sound bytes g → Sound bytes (on_folio o g)
sound_on o low high so =
    record {
      some_lines = so.some_lines;
      few_lines = so.few_lines;
      spec_ranged = so.spec_ranged;
      edition = so.edition;
      spec_read = so.spec_read;
      some_folio = low;
      few_folios = omega arith;
      text = so.text;
      text_read = so.text_read;
      legals = so.legals;
      figures = so.figures;
      tables = so.tables;
      follow = so.follow;
      follow_tables = so.follow_tables;
      ends = so.ends;
    }

-- So there is as much room for it.
pub room_on : {bytes : List ℕ} {g : Galley} {w : List ℕ} (o : ℕ) → ChapterRoom bytes g w × (1 ≤ o) × (o ≤ 2) → ChapterRoom bytes (on_folio o g) w
unfolding columns_in
room_on o (room, low, high) = record { sound = sound_on o low high room.sound; room = room.room }

-- The table is filled where a route leads to its folio,
pub filled_from : {bytes : List ℕ} {g g' : Galley} {w w' : List ℕ} (route : Route) (o : ℕ) → ChapterRoom bytes g w × (1 ≤ o) × (o ≤ 2) → g' ≡ on_folio o g
    → w' ≡ filled (model_of bytes g') nothing_yet w → FilledFrom bytes g route o w w'
filled_from {bytes} {g} {g'} {w} {w'} route o asked eg e =
    let room = room_on o asked in
    let is : w' ≡ filled (model_of bytes (on_folio o g)) nothing_yet w = e ∙ ap (λ d. filled (model_of bytes d) nothing_yet w) eg in
    record {
      long = ap length is ∙ length_filled (model_of bytes (on_folio o g)) nothing_yet w (needed_roomy bytes (on_folio o g) room.room);
      tabled = λ reached. record { sound = room.sound; before = w; enough = room.room; is = is };
    }

-- and left as it is where none does.
pub left_from : {bytes : List ℕ} {g : Galley} {w : List ℕ} {route : Route} {o : ℕ} (t : Bool) → t ≡ is_reached route → t ≡ false
    → FilledFrom bytes g route o w w
left_from t e n =
    record { long = refl; tabled = λ reached. let z : ◌≡◌ {A = Bool} true false = sym reached ∙ sym e ∙ n in absurd (true_false z) }
  where
    true_false : true ≡ false → ⊥
    true_false e = let z : ◌≡◌ {A = ℕ} 0 1 = cc in omega arith

-- All words from one on to the last are the rest.
pub rest_is : (half k : ℕ) (w : List ℕ) → k ≡ length w - half → take k (drop half w) ≡ drop half w
rest_is half k w e = let long = length-drop half w in take_all k (drop half w) (omega arith)

module _ {bytes : List ℕ} {g : Galley} {half : ℕ} {w : List ℕ} (halves : Halves bytes g half w) where
  -- There is room in the first half,
  pub first_room : ChapterRoom bytes g (take half w)
  first_room =
      let long = length-take-le half w (omega (arith, halves.long)) in
      record { sound = halves.sound; room = omega (arith, halves.room) }

  -- Once that is filled,
  module _ {route : Route} {A : List ℕ} (first : FilledFrom bytes g route 1 (take half w) A) where
    first_long : length A ≡ half
    first_long = first.long ∙ length-take-le half w (omega (arith, halves.long))

    both_long : length (A ++ drop half w) ≡ length w
    both_long =
        let all = length-append A (drop half w) in
        let rest = length-drop half w in
        let mine = first_long in
        omega (arith, halves.long)

    rest_same : drop half (A ++ drop half w) ≡ drop half w
    rest_same = drop_at A (drop half w) half first_long

    -- there is room in the other,
    pub second_room : (k : ℕ) → k ≡ length (A ++ drop half w) - half → ChapterRoom bytes g (take k (drop half (A ++ drop half w)))
    second_room k e =
        let all = both_long in
        let rest = length-drop half w in
        let long = ap length (rest_is half k (A ++ drop half w) e ∙ rest_same) in
        record { sound = halves.sound; room = omega (arith, halves.room, halves.long) }

    -- and once both are, each half holds its table.
    pub both_filled : {other : Route} (k : ℕ) → k ≡ length (A ++ drop half w) - half → (B : List ℕ)
        → FilledFrom bytes g other 2 (take k (drop half (A ++ drop half w))) B → (w' : List ℕ)
        → w' ≡ take half (A ++ drop half w) ++ (B ++ drop k (drop half (A ++ drop half w)))
        → TwoTables bytes g (record { one = route; two = other }) half w w'
    both_filled k e B second w' is =
        let lent = rest_is half k (A ++ drop half w) e ∙ rest_same in
        let long : length B ≡ length (drop half w) = second.long ∙ ap length lent in
        let all = both_long in
        let behind = length-drop half w in
        let exact : k ≡ length (drop half w) = omega arith in
        let none : drop k (drop half (A ++ drop half w)) ≡ [] =
        ap (drop k) rest_same ∙ ap (λ (n : ℕ). drop n (drop half w)) exact ∙ drop-length (drop half w) in
        let whole : w' ≡ A ++ B =
        is ∙ ap (λ l. l ++ (B ++ drop k (drop half (A ++ drop half w)))) (take_at A (drop half w) half first_long)
        ∙ ap (λ l. A ++ (B ++ l)) none ∙ ap (λ l. A ++ l) (append-nil B) in
        record {
          long = ap length whole ∙ length-append A B ∙ ap (λ n. length A + n) long ∙ sym (length-append A (drop half w)) ∙ both_long;
          one = λ reached. subst (Tabled bytes (on_folio 1 g)) (sym (ap (take half) whole ∙ take_at A B half first_long)) (first.tabled reached);
          two = λ reached. subst (Tabled bytes (on_folio 2 g)) (sym (ap (drop half) whole ∙ drop_at A B half first_long)) (second.tabled reached);
        }

  -- Routes can be read from both.
  pub tables_halved : {routes : Routes} {w' : List ℕ} {k : ℕ} → TwoTables bytes g routes half w w' → k ≤ 200 → Cheap k routes.one
      → Cheap k routes.two → Halved g routes half w'
  tables_halved {routes} {w'} {k} tables few one two =
      let within : half ≤ length w' = omega (arith, halves.long, tables.long) in
      record { within = within; one = arriving 1 (omega arith); two = arriving 2 (omega arith) }
    where
      arriving : (next : ℕ) → next ≤ 2 → Arriving g routes next (take half w') (drop half w')
      arriving next low =
          let so = halves.sound in
          let mine = length-take-le half w' (omega (arith, halves.long, tables.long)) in
          let other = length-drop half w' in
          record {
            first = record { lines = so.few_lines; floats = few_floats so; words = omega (arith, halves.room) };
            second = record { lines = so.few_lines; floats = few_floats so; words = omega (arith, halves.room, halves.long, tables.long) };
            one = record { before = k; few = few; cheap = one };
            two = record { before = k; few = few; cheap = two };
            low = low;
            light = so.spec_ranged.betas;
            first_walks = λ x e. table_walks 1 (tables.one (ap is_reached e));
            second_walks = λ x e. table_walks 2 (tables.two (ap is_reached e));
          }

-- What is asked and told of the rest of a work area is so of all words from one on.
module _ {g : Galley} {routes : Routes} {next k : ℕ} (half : ℕ) (w : List ℕ) (e : k ≡ length w - half) where
  pub rest_arriving : Arriving g routes next (take half w) (drop half w) → Arriving g routes next (take half w) (take k (drop half w))
  rest_arriving a = subst (Arriving g routes next (take half w)) (sym (rest_is half k w e)) a

  pub rest_arrived : {first : Bool} {r : Step} → Arrived g routes first next (take half w) (take k (drop half w)) r
      → Arrived g routes first next (take half w) (drop half w) r
  rest_arrived {first} {r} a = subst (λ v. Arrived g routes first next (take half w) v r) (rest_is half k w e) a
