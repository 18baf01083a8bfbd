-- Making is making after no opening.
use Rattle.std.specs.Prelude.{ℕ, ◌≡◌, refl, Bool, not, ◌&&◌, List, [], length, Err, Ok}
use Rattle.std.proofs.Common.{◌∙◌}
use Rattle.std.proofs.Math.Path.{ap}
use Rattle.std.proofs.Math.Bool.{true, false}
use Rattle.std.proofs.Math.Option.{Option, none, some}
use Rattle.model.specs.Gather.{pick}
use Rattle.model.specs.Galley.{zeros}
use Rattle.model.specs.Answers.{pages_of, Answer}
use Rattle.model.specs.Weighed.{weighed, weighed_from}
use Rattle.model.specs.Opening.{end_of}
use Rattle.model.proofs.laws.Weighed.{weighed_from_nothing}
use Rattle.model.proofs.laws.Opening.{no_pages, nothing_turned, made_after_nothing, words_after_nothing}
use Rattle.galley.specs.declared.Galley.{Galley}
use Rattle.galley.specs.Whole.{galley_of, Reading}
use Rattle.galley.specs.Model.{model_of}
use Rattle.rules.specs.laws.Sane.{reads_sane}
use Rattle.places.specs.Entry.{cleared}
use Rattle.needs.specs.Needs.{work_needed}
use Rattle.making.specs.Make.{too_short, make_read, make_of, work_read, work_after, list_read, list_after, weighed_read, weighed_of, Made}
use Rattle.making.specs.After.{stands, sought, make_after_read, make_after_of, work_made_read, work_made_after, list_made_read, list_made_after, weighed_after_read, weighed_after_of, MadeAfter}

module _ (bytes : List ℕ) (g : Galley) (read : galley_of bytes ≡ Ok g) where
  stood : stands bytes g [] ≡ true
  unfolding stands
  stood = ap (λ (r : Option Answer). elim r [ none ↦ true | some refusal ↦ false ]) (nothing_turned (model_of bytes g) (reads_sane bytes g read))

  -- A list is sought where the lent memory is long enough.
  seeks : (work list : ℕ) → sought bytes g [] work list ≡ not (too_short g work list)
  seeks work list = rw stood (go (too_short g work list))
    where
      go : (b : Bool) → (not b && true) ≡ not b
      go true = refl
      go false = refl

  counted : weighed_from (model_of bytes g) (end_of (zeros (model_of bytes g)) (pages_of (model_of bytes g) [])) ≡ weighed (model_of bytes g)
  unfolding end_of
  counted = rw (no_pages (model_of bytes g)) (weighed_from_nothing (model_of bytes g))

picked : {A : Type 0} (b : Bool) (x y : A) → pick (not b) x y ≡ pick b y x
picked true x y = refl
picked false x y = refl

-- Whatever making after no opening does, making does.
pub nothing_made : {bytes work list : List ℕ} {answer : Answer} {count : ℕ} {work' list' : List ℕ}
    → MadeAfter bytes [] work list answer count work' list' → Made bytes work list answer count work' list'
unfolding make_after_of make_after_read make_of make_read weighed_after_of weighed_after_read weighed_of weighed_read work_made_after work_made_read work_after work_read list_made_after list_made_read list_after list_read
nothing_made {bytes} {work} {list} m =
    record {
      answers = m.answers ∙ answer (galley_of bytes) refl;
      counts = m.counts ∙ count (galley_of bytes) refl;
      clean = m.clean ∙ clear (galley_of bytes) refl;
      listed = m.listed ∙ written (galley_of bytes) refl;
    }
  where
    answer : (r : Reading) → galley_of bytes ≡ r
        → make_after_read bytes [] (length work) (length list) r ≡ make_read bytes (length work) (length list) r
    answer (Ok g) e = rw (made_after_nothing (model_of bytes g) (reads_sane bytes g e)) refl
    answer (Err r) e = refl

    count : (r : Reading) → galley_of bytes ≡ r
        → weighed_after_read bytes [] (length work) (length list) r ≡ weighed_read bytes (length work) (length list) r
    count (Ok g) e =
        rw (seeks bytes g e (length work) (length list), counted bytes g e)
        (picked (too_short g (length work) (length list)) (weighed (model_of bytes g)) 0)
    count (Err r) e = refl

    clear : (r : Reading) → galley_of bytes ≡ r → work_made_read bytes [] work (length list) r ≡ work_read work (length list) r
    clear (Ok g) e =
        rw (seeks bytes g e (length work) (length list))
        (picked (too_short g (length work) (length list)) (cleared (work_needed g) work) work)
    clear (Err r) e = refl

    written : (r : Reading) → galley_of bytes ≡ r → list_made_read bytes [] (length work) list r ≡ list_read bytes (length work) list r
    written (Ok g) e = rw (words_after_nothing (model_of bytes g) (reads_sane bytes g e)) refl
    written (Err r) e = refl
