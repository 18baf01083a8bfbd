-- What each way out of making leaves: its answer and every word of the lent memory.
use Rattle.std.specs.Prelude.{ℕ, ◌+◌, ◌≤◌, ◌<◌, ◌≡◌, refl, Bool, List, length, Err}
use native.Mathlib.Omega.{arith}
use Rattle.std.proofs.Common.{sym, ◌∙◌, subst}
use Rattle.std.proofs.Math.Path.{ap}
use Rattle.std.proofs.Math.Bool.{true, false}
use Rattle.std.proofs.Math.Option.{Option, none, some}
use Rattle.std.proofs.Math.ListN.{take, replicate}
use borrow.Author.Tests.{lt-ltb, le-ltb}
use Rattle.model.specs.Galley.{zeros}
use Rattle.model.specs.declared.answer.Refusal.{Refusal}
use Rattle.model.specs.Answers.{pages_of, Answer, refused}
use Rattle.model.specs.Weighed.{weighed_from}
use Rattle.model.specs.Opening.{end_of, opening_turned}
use Rattle.theorems.specs.pages.Graph.{Origin as Begin, beginning}
use Rattle.theorems.specs.pages.Opening.{end_onto}
use Rattle.galley.specs.declared.Galley.{Galley}
use Rattle.galley.specs.Whole.{galley_of}
use Rattle.galley.specs.Model.{model_of}
use Rattle.galley.proofs.laws.Sound.{sound}
use Rattle.blocks.specs.Counts.{place_of, Within}
use Rattle.places.specs.declared.Origin.{Origin}
use Rattle.places.specs.Address.{area, words_needed}
use Rattle.places.specs.Entry.{boundless, cleared}
use Rattle.places.proofs.laws.Address.{area_grows, area_needed}
use Rattle.candidates.specs.Read.{columns_in, counts_at, Placed}
use Rattle.candidates.proofs.laws.Columns.{columns_in_lem, within_at, place_at_lem}
use Rattle.entries.specs.Fill.{tall}
use Rattle.filling.specs.Fill.{filled}
use Rattle.filling.specs.Next.{Fillable}
use Rattle.filling.specs.laws.Kept.{filled_early}
use Rattle.entries.specs.laws.Price.{dearest_light}
use Rattle.entries.specs.laws.Side.{needed_roomy}
use Rattle.needs.specs.Needs.{work_needed, list_needed}
use Rattle.making.specs.After.{stands, make_after_read, make_after_of, work_made_read, work_made_after, list_made_read, list_made_after, weighed_after_read, weighed_after_of, MadeAfter}
use Rattle.solving.specs.Begun.{Opened}
use Rattle.solving.specs.Solved.{Readable, Soluble, Solved, Written}
use Rattle.limits.specs.Sought.{within, Sought}
use Rattle.solving.specs.laws.Written.{made_turned}

-- Nothing turns an opening away, or something does.
abbrev standing : Option Answer → Bool
standing r = elim r [ none ↦ true | some refusal ↦ false ]

-- A galley that is refused is refused alike, and nothing is written.
pub made_refused : (bytes opening work list : List ℕ) (r : Refusal) → galley_of bytes ≡ Err r
    → MadeAfter bytes opening work list (Err r) 0 work list
unfolding make_after_of make_after_read weighed_after_of weighed_after_read work_made_after work_made_read list_made_after list_made_read
made_refused bytes opening work list r e = record { answers = rw e refl; counts = rw e refl; clean = rw e refl; listed = rw e refl }

module _ {bytes : List ℕ} {g : Galley} (asked : Readable bytes g) where
  module _ (opening work list : List ℕ) (n : ℕ) (is : n ≡ work_needed g) where
    -- 9: the work area is too short; its place is the words needed.
    pub made_nine : length work < n → (at : ℕ) → at ≡ n → MadeAfter bytes opening work list (refused 9 at) 0 work list
    unfolding make_after_of make_after_read weighed_after_of weighed_after_read work_made_after work_made_read list_made_after list_made_read
    made_nine l at e =
        let t = lt-ltb (length work) (work_needed g) (omega arith) in
        record {
          answers = rw asked.reads (simp (t, e, is));
          counts = rw asked.reads (simp t);
          clean = rw asked.reads (simp t);
          listed = rw asked.reads (simp t);
        }

    module _ (enough : n ≤ length work) where
      -- 10: the page list is too short.
      pub made_ten : length list < list_needed g → MadeAfter bytes opening work list (refused 10 (list_needed g)) 0 work list
      unfolding make_after_of make_after_read weighed_after_of weighed_after_read work_made_after work_made_read list_made_after list_made_read
      made_ten l =
          let t = le-ltb (length work) (work_needed g) (omega arith) in
          let u = lt-ltb (length list) (list_needed g) l in
          record {
            answers = rw asked.reads (simp (t, u));
            counts = rw asked.reads (simp (t, u));
            clean = rw asked.reads (simp (t, u));
            listed = rw asked.reads (simp (t, u));
          }

      module _ (room : list_needed g ≤ length list) where
        -- 20 and 21: what turns the opening away is answered, and nothing changes.
        pub made_turned_away : (a : Answer) → opening_turned (model_of bytes g) opening ≡ some a → MadeAfter bytes opening work list a 0 work list
        unfolding make_after_of make_after_read weighed_after_of weighed_after_read work_made_after work_made_read list_made_after list_made_read stands
        made_turned_away a e =
            let t = le-ltb (length work) (work_needed g) (omega arith) in
            let u = le-ltb (length list) (list_needed g) room in
            let (answered, unwritten) = made_turned (model_of bytes g) opening a e in
            let no_one : stands bytes g opening ≡ false = ap standing e in
            record {
              answers = rw asked.reads (simp (t, u) answered);
              counts = rw asked.reads (simp (t, u, no_one));
              clean = rw asked.reads (simp (t, u, no_one));
              listed = rw asked.reads (simp (t, u, unwritten));
            }

        pub made_soluble : (from : Origin) → Opened bytes g opening from → Soluble bytes g opening from n work list
        made_soluble from opened = record { reads = asked.reads; opened = opened; is = is; enough = omega arith; room = room }

-- Making may begin there with another limit.
opened_within : {bytes : List ℕ} {g : Galley} {opening : List ℕ} {from : Origin} → Opened bytes g opening from → (limit : ℕ)
    → limit ≤ boundless → Opened bytes g opening (within limit from)
opened_within o limit low =
    record { stands = o.stands; whole = o.whole; is = o.is; proper = o.proper; cheap = o.cheap; limited = low }

-- The best list that begins with the opening.
module _ {bytes : List ℕ} {g : Galley} {opening : List ℕ} {from : Origin} {n : ℕ} {work list : List ℕ}
    (asked : Soluble bytes g opening from n work list) where
  pub soluble_fillable : Fillable bytes g from work
  unfolding columns_in
  soluble_fillable =
      record {
        sound = sound bytes g asked.reads;
        cheap = asked.opened.cheap;
        limited = asked.opened.limited;
        line = asked.opened.proper.line;
        origin = omega (arith, asked.opened.proper.column, columns_in_lem bytes g);
        room = omega (arith, asked.enough);
      }

  -- The origin is a place of the galley.
  pub soluble_placed : Placed bytes g from.place.line from.place.column
  soluble_placed =
      let fill = soluble_fillable in
      record { sound = fill.sound; line = fill.line; column = fill.origin }

  -- What was sought from there is solved.
  pub soluble_solved : (work' : List ℕ) (r : Origin) → Sought bytes g from work work' r → Solved bytes g opening r work' list
  soluble_solved work' r sought =
      record {
        reads = asked.reads;
        opened = subst (λ (o : Origin). Opened bytes g opening o) (sym sought.same) (opened_within asked.opened r.limit sought.low);
        before = sought.before;
        enough = omega (arith, asked.enough, sought.long);
        is = sought.is;
        sought = sought.sought;
        room = asked.room;
      }

  -- The words of the columns before the origin's are among those needed.
  pub soluble_early : words_needed g.text.count from.place.column ≤ n
  unfolding columns_in
  soluble_early =
      let fill = soluble_fillable in
      omega (
        arith,
        area_grows (g.text.count + 1) from.place.column (columns_in g) (omega (arith, fill.origin)),
        area_needed g.text.count from.place.column,
        area_needed g.text.count (columns_in g),
        asked.is,
      )

  -- They are zeros after the search.
  pub sought_early : (work' : List ℕ) (r : Origin) → Sought bytes g from work work' r
      → take (words_needed g.text.count from.place.column) work' ≡ replicate (words_needed g.text.count from.place.column) 0
  unfolding tall columns_in
  sought_early work' r sought =
      let fill = soluble_fillable in
      let m = model_of bytes g in
      let here : r.place.column ≡ from.place.column = ap (λ (o : Origin). o.place.column) sought.same in
      let words = ap (area (g.text.count + 1)) here ∙ area_needed g.text.count from.place.column in
      let room = needed_roomy bytes g {w = sought.before} (omega (arith, asked.enough, sought.long)) in
      let early = filled_early m r sought.before (dearest_light bytes g fill.sound) (omega (arith, fill.origin, columns_in_lem bytes g)) room in
      rw sought.is (ap (λ (k : ℕ). take k (filled m r sought.before)) (sym words) ∙ early ∙ ap (λ (k : ℕ). replicate k 0) words)

  -- The place of the origin lies within the galley.
  pub soluble_first : Within g (counts_at g from.place.line from.place.column)
  soluble_first =
      within_at g from.place.line from.place.column asked.opened.proper.line
      (omega (arith, asked.opened.proper.column, columns_in_lem bytes g))

  -- It is where the opening ends.
  first_is : place_of g (counts_at g from.place.line from.place.column)
      ≡ end_of (zeros (model_of bytes g)) (pages_of (model_of bytes g) opening)
  first_is =
      sym (place_at_lem bytes g from.place.line from.place.column)
      ∙ ap (λ (o : Begin). o.place) asked.opened.is
      ∙ end_onto (model_of bytes g) (beginning (model_of bytes g)) (pages_of (model_of bytes g) opening)

  -- The best list, or 11: the work area is cleared, and what is weighed from the opening's end on is counted.
  pub made_best : (work' work'' list' : List ℕ) (r : Origin) (answer : Answer) (count : ℕ) → Sought bytes g from work work' r
      → work'' ≡ cleared n work' → Written bytes g opening list answer list'
      → count ≡ weighed_from (model_of bytes g) (place_of g (counts_at g from.place.line from.place.column))
      → MadeAfter bytes opening work list answer count work'' list'
  unfolding make_after_of make_after_read weighed_after_of weighed_after_read work_made_after work_made_read list_made_after list_made_read stands
  made_best work' work'' list' r answer count sought f w c =
      let t = le-ltb (length work) (work_needed g) asked.enough in
      let u = le-ltb (length list) (list_needed g) asked.room in
      let stood : stands bytes g opening ≡ true = ap standing asked.opened.stands in
      let clean : work'' ≡ cleared (work_needed g) work = f ∙ ap (λ k. cleared k work') asked.is ∙ sought.clean in
      let counted = c ∙ ap (weighed_from (model_of bytes g)) first_is in
      record {
        answers = rw asked.reads (simp (t, u) w.answers);
        counts = rw asked.reads (simp (t, u, stood) counted);
        clean = rw asked.reads (simp (t, u, stood) clean);
        listed = rw asked.reads (simp (t, u) w.listed);
      }
