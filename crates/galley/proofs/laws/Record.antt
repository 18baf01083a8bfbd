-- What is known of the record at an offset once it was read.
use Rattle.std.specs.Prelude.{ℕ, ◌+◌, ◌-◌, ◌≤◌, Bool, ◌||◌, List, ◌≡◌, length, ltb, Err, Ok}
use Rattle.std.proofs.Common.{arith, true≢false, sym}
use Rattle.std.proofs.Math.Bool.{true, false}
use Rattle.std.proofs.Math.Path.{refl}
use Rattle.std.proofs.Math.Dec.{eqb}
use borrow.Author.Tests.{ltb-false, eqb-true}
use Rattle.model.specs.Gather.{pick}
use Rattle.galley.specs.Word.{mark_at}
use Rattle.galley.specs.Range.{spec_in_range, folio_in_range, block_in_range, line_in_range, SpecRanged, Edition, FolioRanged, LineRanged, FigureRanged, TableRanged}
use Rattle.galley.specs.Place.{GS, G2, FO, TL, FG, FK, TB, ED, spec_mark, figure_mark, kind_of}
use Rattle.galley.specs.Record.{HasSpec, is_second, spec_of, spec_at, opening_folio, block_of, line_of, float_of, is_kept, float_at, ranged, fields_of, record_at, unread, Read}
use Rattle.galley.proofs.laws.Pick.{pick_has}
use Rattle.galley.proofs.laws.Range.{spec_ranged_lem, folio_ranged, block_ranged, line_ranged}
use Rattle.galley.specs.declared.Spec.{Spec}
use Rattle.galley.specs.declared.Record.{Record}
use Rattle.galley.specs.declared.Record.TheVariants as found

-- A record with some mark stands whole at an offset, its value is what its fields say, and it is in range.
pub record Stands {A : Type 0} (Fine : A → Type 0) (bytes : List ℕ) (at mark : ℕ) (value fields : A) : Type 0 where
  pub marked : mark_at bytes at ≡ mark
  pub there : at + (kind_of mark).size ≤ length bytes
  pub same : value ≡ fields
  pub fine : Fine fields

-- A specification in range, of one of the editions.
pub record SpecFine (g : Spec) : Type 0 where
  pub ranged : SpecRanged g
  pub edition : Edition g

-- The end has no field.
abbrev pub Ending : Unit {0} → Type 0
Ending none = Unit {0}

-- A refusal stands at its record's offset, with one of three numbers.
pub record RefusedAt (at number place : ℕ) : Type 0 where
  pub low : 1 ≤ number
  pub high : number ≤ 3
  pub here : place ≡ at

-- What a record that was read at an offset tells.
unfoldable pub Found : List ℕ → ℕ → Read → Type 0
Found bytes at (Ok (found.Spec g)) = Stands SpecFine bytes at (spec_mark g.edition) g (spec_of (is_second bytes at) bytes at)
Found bytes at (Ok (found.Folio f)) = Stands FolioRanged bytes at FO f (opening_folio bytes at)
Found bytes at (Ok (found.Line l)) = Stands LineRanged bytes at TL l (line_of bytes at)
Found bytes at (Ok (found.Figure f)) = Stands FigureRanged bytes at (figure_mark f.kept) f (float_of (is_kept bytes at) bytes at)
Found bytes at (Ok (found.Table f)) = Stands TableRanged bytes at TB f (float_of false bytes at)
Found bytes at (Ok found.End) = Stands Ending bytes at ED tt tt
Found bytes at (Err r) = RefusedAt at r.number r.place

-- The mark of a figure tells whether it is kept.
pub kept_mark : (kept : Bool) → eqb (figure_mark kept) FK ≡ kept
kept_mark true = refl
kept_mark false = refl

-- Where there is a specification's size there is room for its fields.
pub spec_room : (bytes : List ℕ) (at mark : ℕ) → (eqb mark GS || eqb mark G2) ≡ true → at + (kind_of mark).size ≤ length bytes
    → HasSpec bytes at (eqb mark G2)
unfolding kind_of
spec_room bytes at mark h there = go (eqb mark GS) (eqb mark G2) refl refl h
  where
    go : (first second : Bool) → eqb mark GS ≡ first → eqb mark G2 ≡ second → (first || second) ≡ true → HasSpec bytes at second
    go first true a b h =
        let long = rw (eqb-true mark G2 b) at there in record { plain = omega (arith, long); longer = λ _. long }
    go true false a b h =
        let long = rw (eqb-true mark GS a) at there in record { plain = long; longer = λ z. absurd (true≢false (sym z)) }
    go false false a b h = absurd (true≢false (sym h))

module _ (bytes : List ℕ) (at : ℕ) where
  refused_found : (number : ℕ) → 1 ≤ number → number ≤ 3 → Found bytes at (unread number at)
  unfolding Found
  refused_found number low high = record { low = low; high = high; here = refl }

  ranged_found : (fine : Bool) (r : Record) → (fine ≡ true → Found bytes at (Ok r)) → Found bytes at (ranged fine r at)
  ranged_found fine r h =
      pick_has (Found bytes at) fine (Ok r) (unread 3 at) h (λ _. refused_found 3 (omega arith) (omega arith))

  stands : {A : Type 0} (Fine : A → Type 0) (mark : ℕ) (value : A) → eqb (mark_at bytes at) mark ≡ true
      → at + (kind_of (mark_at bytes at)).size ≤ length bytes → Fine value → Stands Fine bytes at mark value value
  stands Fine mark value e there fine =
      let is = eqb-true (mark_at bytes at) mark e in
      record { marked = is; there = rw is at there; same = refl; fine = fine }

  -- A specification is of the edition that its mark says.
  edition_of : (second : Bool) → Edition (spec_of second bytes at)
  edition_of true = record { some = omega arith; two = omega arith; plain = λ z. absurd (omega arith) }
  edition_of false = record { some = omega arith; two = omega arith; plain = λ _. refl }

  spec_found : (second : Bool) → mark_at bytes at ≡ spec_mark (pick second 2 1) → is_second bytes at ≡ second
      → at + (kind_of (mark_at bytes at)).size ≤ length bytes → Found bytes at (spec_at second bytes at)
  unfolding Found
  spec_found second marked is there =
      ranged_found (spec_in_range (spec_of second bytes at)) (found.Spec (spec_of second bytes at)) (λ r.
      record {
        marked = marked;
        there = rw marked at there;
        same = rw is;
        fine = rw is (record { ranged = spec_ranged_lem (spec_of second bytes at) r; edition = edition_of second });
      })

  -- Either mark opens one.
  spec_marked : (first second : Bool) → eqb (mark_at bytes at) GS ≡ first → is_second bytes at ≡ second → (first || second) ≡ true
      → mark_at bytes at ≡ spec_mark (pick second 2 1)
  spec_marked first true a b h = eqb-true (mark_at bytes at) G2 b
  spec_marked true false a b h = eqb-true (mark_at bytes at) GS a
  spec_marked false false a b h = absurd (true≢false (sym h))

  -- A figure is kept where its mark says so.
  figure_found : (kept : Bool) → eqb (mark_at bytes at) (figure_mark kept) ≡ true → at + (kind_of (mark_at bytes at)).size ≤ length bytes
      → Found bytes at (float_at found.Figure kept bytes at)
  unfolding Found
  figure_found kept e there =
      ranged_found (block_in_range (block_of bytes at)) (found.Figure (float_of kept bytes at)) (λ r.
      let marked = eqb-true (mark_at bytes at) (figure_mark kept) e in
      record {
        marked = marked;
        there = rw marked at there;
        same = rw (marked, kept_mark kept);
        fine = block_ranged (block_of bytes at) r;
      })

  fields_found : at + (kind_of (mark_at bytes at)).size ≤ length bytes → Found bytes at (fields_of (mark_at bytes at) bytes at)
  unfolding fields_of Found
  fields_found there =
      let mark = mark_at bytes at in
      pick_has (Found bytes at) (eqb mark GS || eqb mark G2) _ _
      (λ e. spec_found (eqb mark G2) (spec_marked (eqb mark GS) (eqb mark G2) refl refl e) refl there) (λ _.
      pick_has (Found bytes at) (eqb mark FO) _ _ (λ e.
      ranged_found (folio_in_range (opening_folio bytes at)) (found.Folio (opening_folio bytes at)) (λ r.
      stands FolioRanged FO (opening_folio bytes at) e there (folio_ranged (opening_folio bytes at) r))) (λ _.
      pick_has (Found bytes at) (eqb mark TL) _ _ (λ e.
      ranged_found (line_in_range (line_of bytes at)) (found.Line (line_of bytes at)) (λ r.
      stands LineRanged TL (line_of bytes at) e there (line_ranged (line_of bytes at) r))) (λ _.
      pick_has (Found bytes at) (eqb mark FG) _ _ (λ e. figure_found false e there) (λ _.
      pick_has (Found bytes at) (eqb mark FK) _ _ (λ e. figure_found true e there) (λ _.
      pick_has (Found bytes at) (eqb mark TB) _ _ (λ e.
      ranged_found (block_in_range (block_of bytes at)) (found.Table (float_of false bytes at)) (λ r.
      stands TableRanged TB (float_of false bytes at) e there (record { block = block_ranged (block_of bytes at) r; free = refl }))) (λ _.
      pick_has (Found bytes at) (eqb mark ED) _ _ (λ e. stands Ending ED tt e there tt)
      (λ _. refused_found 2 (omega arith) (omega arith))))))))

  -- A record that is read is either refused where it starts or stands whole and in range.
  pub found_at : Found bytes at (record_at bytes at)
  unfolding record_at
  found_at =
      let mark = mark_at bytes at in
      pick_has (Found bytes at) (ltb (length bytes - at) 2) _ _ (λ _. refused_found 1 (omega arith) (omega arith)) (λ two.
      pick_has (Found bytes at) (ltb (length bytes - at) (kind_of mark).size) _ _ (λ _. refused_found 1 (omega arith) (omega arith)) (λ fits.
      fields_found
      (omega (arith, ltb-false (length bytes - at) 2 two, ltb-false (length bytes - at) (kind_of mark).size fits))))
