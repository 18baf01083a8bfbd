-- One page back on the walk: it stays within the galley, and is one step of the counting and of the writing.
use Rattle.std.specs.Prelude.{ℕ, zero, suc, ◌+◌, ◌*◌, ◌-◌, ◌≤◌, ◌<◌, ◌≡◌, refl, true, false, List, None, Some}
use Rattle.std.proofs.Common.{le_refl, le_trans, mul-le-mul, mul-le-mul_left, mul-add, sym, ◌∙◌}
use native.Mathlib.Omega.{arith}
use Rattle.std.proofs.lemmas.List.Edits.{sets}
use Rattle.std.proofs.Math.Seq.{length-sets}
use Rattle.model.specs.Galley.{Sides}
use Rattle.galley.specs.declared.Galley.{Galley}
use Rattle.galley.specs.Model.{sides_in, model_of}
use Rattle.blocks.specs.Counts.{page_words, place_of}
use Rattle.blocks.specs.laws.Counts.{streams_of_lem}
use Rattle.places.specs.declared.Place.{Place}
use Rattle.places.specs.declared.Origin.{Origin}
use Rattle.places.specs.Entry.{Entry}
use Rattle.places.specs.Address.{Stands}
use Rattle.candidates.specs.Search.{Table}
use Rattle.candidates.specs.Read.{table_in, columns_in, counts_at}
use Rattle.candidates.proofs.laws.Columns.{place_at_lem}
use Rattle.candidates.proofs.laws.Read.{stands_in}
use Rattle.entries.specs.laws.Entered.{side_low, side_before}
use Rattle.walk.specs.declared.Stop.{Stop}
use Rattle.walk.specs.Trace.{start_of, entry_of, back, at_origin, count_back, write_back}
use Rattle.walk.specs.Traceable.{blocks_in, WorkArea, full_place, Visits, Traceable, PageRoom, Writable, pages_back, Counting, Writing}

-- There is a column, so that there is a last one.
pub columns_in_some : (g : Galley) → 0 < columns_in g
unfolding columns_in
columns_in_some g = omega (arith, mul-le-mul {n₁ = 1} {m₁ = 1} {n₂ = g.figures.count + 1} {m₂ = g.tables.count + 1} (omega arith) (omega arith))

-- Where the walk is, an entry can be read.
pub visits_stands : {g : Galley} {w : List ℕ} {at : Stop} → WorkArea g w → Visits g at → Stands w (g.text.count + 1) at.place at.side
visits_stands {g} {w} {at} lent v =
    stands_in g w at.place.line at.place.column at.side lent.lines lent.floats v.line v.column
    (side_low (sides_in g) at.side v.side) lent.words

-- So can the full place's on each side.
pub full_stands : {g : Galley} {w : List ℕ} {full : Place} {c : ℕ} → WorkArea g w → full ≡ full_place g → c ≤ 1
    → Stands w (g.text.count + 1) full c
full_stands {g} {w} {full} {c} lent e low =
    rw e
    (stands_in g w g.text.count (columns_in g - 1) c lent.lines lent.floats (le_refl _) (omega (arith, columns_in_some g)) low
    lent.words)

-- Before the origin one page more is counted;
count_step : (sides : Sides) (t : Table) (from : Origin) (most : ℕ) (at : Stop) (p : ℕ) → at_origin sides from at ≡ false → 0 < most
    → count_back sides t from most at p ≡ count_back sides t from (most - 1) (back sides t at) (p + 1)
unfolding count_back
count_step sides t from zero at p away l = absurd (omega arith)
count_step sides t from (suc most) at p away l = let e : suc most - 1 ≡ most = omega arith in rw (away, e) refl

-- there, the count is done.
count_stop : (sides : Sides) (t : Table) (from : Origin) (most : ℕ) (at : Stop) (p : ℕ) → at_origin sides from at ≡ true
    → count_back sides t from most at p ≡ p
unfolding count_back
count_stop sides t from zero at p here = refl
count_stop sides t from (suc most) at p here = rw here refl

-- A step back stays within the galley.
pub back_visits : {g : Galley} {w : List ℕ} → Traceable g w → (at : Stop) → Visits g at → Visits g (back (sides_in g) (table_in g w) at)
unfolding start_of
back_visits {g} {w} tr at v = go (entry_of (table_in g w) at) refl
  where
    go : (e : Entry) → entry_of (table_in g w) at ≡ e → Visits g (back (sides_in g) (table_in g w) at)
    go None h = rw h (record { line = v.line; column = v.column; side = side_before (sides_in g) at.side v.side })
    go (Some l) h =
        let (line, column) = tr.starts at.place.line at.place.column at.side l.cost l.start v.line v.column v.side h in
        rw h (record {
          line = le_trans line v.line;
          column = omega (arith, v.column);
          side = side_before (sides_in g) at.side v.side;
        })

module _ {g : Galley} {w : List ℕ} {from : Origin} {first : Stop} where
  -- The count begins at the first stop.
  pub counting_first : Visits g first → Counting g w from first first 0
  counting_first v =
      let e : blocks_in g - 0 ≡ blocks_in g = omega arith in
      record { visits = v; few = omega arith; same = rw e }

  module _ {at : Stop} {p : ℕ} (run : Counting g w from first at p) where
    -- The count goes on by a page,
    pub counting_next : Traceable g w → p < blocks_in g → at_origin (sides_in g) from at ≡ false
        → Counting g w from first (back (sides_in g) (table_in g w) at) (p + 1)
    counting_next tr l away =
        let e : blocks_in g - p - 1 ≡ blocks_in g - (p + 1) = omega arith in
        let one = count_step (sides_in g) (table_in g w) from (blocks_in g - p) at p away (omega arith) in
        record { visits = back_visits tr at run.visits; few = omega arith; same = rw (← e) (sym one ∙ run.same) }

    -- and ends at the origin, or with as many pages as there are blocks.
    pub counting_done : at_origin (sides_in g) from at ≡ true → p ≡ pages_back g w from first
    counting_done here =
        sym (count_stop (sides_in g) (table_in g w) from (blocks_in g - p) at p here) ∙ run.same

    pub counting_most : blocks_in g ≤ p → p ≡ pages_back g w from first
    unfolding count_back
    counting_most l =
        let e : blocks_in g - p ≡ 0 = omega arith in
        rw e at run.same

module _ {g : Galley} {w : List ℕ} {first : Stop} {p : ℕ} {ws₀ : List ℕ} where
  -- The writing begins there too.
  pub writing_first : Writable g w first p ws₀ → Writing g w first p ws₀ ws₀ first p
  writing_first asked =
      record { visits = asked.walk.visits; few = le_refl p; room = asked.room; long = refl; same = λ bytes. refl }

  module _ {ws : List ℕ} {at : Stop} {r : ℕ} (run : Writing g w first p ws₀ ws at r) where
    -- The next page's words are within the list.
    pub writing_room : WorkArea g w → 0 < r → PageRoom g at.place (page_words g * (r - 1)) ws
    writing_room lent h =
        let n : r - 1 + 1 ≤ p = omega (arith, run.few) in
        let most = mul-le-mul_left (page_words g) n in
        let next = mul-add (page_words g) (r - 1) 1 in
        record {
          lines = lent.lines;
          floats = lent.floats;
          line = run.visits.line;
          column = run.visits.column;
          room = omega (arith, run.room);
        }

    -- The writing goes on by a page, the r-th where r are left,
    pub writing_next : Traceable g w → 0 < r
        → Writing g w first p ws₀ (sets ws (page_words g * (r - 1)) (place_of g (counts_at g at.place.line at.place.column)))
        (back (sides_in g) (table_in g w) at) (r - 1)
    writing_next tr h =
        let long = length-sets ws (page_words g * (r - 1)) (place_of g (counts_at g at.place.line at.place.column)) in
        record {
          visits = back_visits tr at run.visits;
          few = omega (arith, run.few);
          room = omega (arith, run.room);
          long = long ∙ run.long;
          same = λ bytes. sym (step bytes r h) ∙ run.same bytes;
        }
      where
        step : (bytes : List ℕ) (r : ℕ) → 0 < r → write_back (model_of bytes g) (table_in g w) r at ws
            ≡ write_back (model_of bytes g) (table_in g w) (r - 1) (back (sides_in g) (table_in g w) at)
            (sets ws (page_words g * (r - 1)) (place_of g (counts_at g at.place.line at.place.column)))
        step bytes zero h = absurd (omega arith)
        step bytes (suc r) h =
            let e : suc r - 1 ≡ r = omega arith in
            rw (e, ← streams_of_lem g bytes, ← place_at_lem bytes g at.place.line at.place.column) (unfold write_back in refl)

    -- and ends where no page is left.
    pub writing_done : r ≤ 0 → (bytes : List ℕ) → ws ≡ write_back (model_of bytes g) (table_in g w) p first ws₀
    unfolding write_back
    writing_done h bytes = let e : r ≡ 0 = omega arith in rw e at (run.same bytes)
