-- Loosening the least fill (document 02, S-14): with a lower htMin, and all else alike, no galley loses a list, and making turns no more
-- leaves. `make` is proved to answer `make_of`, `make_after` to answer `make_after_of`, and `mark` to answer `mark_of`.
use Rattle.std.specs.Prelude.{ℕ, ◌≤◌, ◌≡◌, List, ◌++◌, Ok}
use Rattle.std.proofs.Common.{arith, sym, ◌∙◌}
use Rattle.std.proofs.Math.Path.{ap}
use Rattle.model.specs.Galley as model
use Rattle.model.specs.Answers.{accepted, Answer}
use Rattle.model.specs.Opening.{made_after}
use Rattle.model.specs.Loosened.{with_htmin}
use Rattle.model.proofs.laws.Loosened.{marked_loosened, standing_loosened}
use Rattle.theorems.specs.pages.LeastAfter.{MakingAfter, turned_away, no_list, best_list, making_after}
use Rattle.galley.specs.declared.Galley.{Galley}
use Rattle.galley.specs.Whole.{galley_of}
use Rattle.galley.specs.Model.{model_of}
use Rattle.galley.specs.Alike.{Alike}
use Rattle.galley.proofs.laws.Alike.{models_alike}
use Rattle.needs.specs.Needs.{work_needed, list_needed}
use Rattle.making.specs.After.{make_after_of}
use Rattle.promises.specs.Loosening.{Loosens, after_is, after_made, refusal_loosens, turned_refused, made_best}

-- The list that is made for the higher htMin is one for the lower.
pub made_loosened : (m : model.Galley) (h : ℕ) → h ≤ m.spec.htmin → (opening : List ℕ) {a a' : Answer} {list list' : List ℕ}
    → MakingAfter m opening a list → MakingAfter (with_htmin h m) opening a' list' → Loosens a a'
made_loosened m h low opening {a = a} (turned_away e by) made' = refusal_loosens (turned_refused a by)
made_loosened m h low opening (no_list e empty) made' = refusal_loosens (λ a. absurd cc)
made_loosened m h low opening (best_list words e is long best whiter) made' =
    made_best (with_htmin h m) opening words (standing_loosened m h low opening e)
    (marked_loosened m h low (opening ++ words) (ap accepted is) ∙ is) made'

-- Two galleys that are read from bytes alike in all but htMin, which is no higher in the second.
module _ {bytes bytes' : List ℕ} (like : Alike bytes bytes') (g g' : Galley) (read : galley_of bytes ≡ Ok g)
    (read' : galley_of bytes' ≡ Ok g') (low : g'.spec.htmin ≤ g.spec.htmin) where
  module _ (work list work' list' : ℕ) (enough : work_needed g' ≤ work') (room : list_needed g' ≤ list') where
    -- Making after one opening given to both, with any memory lent for the higher htMin and enough for the lower.
    pub making_loosened : (opening : List ℕ) → Loosens (make_after_of bytes opening work list) (make_after_of bytes' opening work' list')
    making_loosened opening =
        let m = model_of bytes g in
        let lower : make_after_of bytes' opening work' list' ≡ made_after (with_htmin g'.spec.htmin m) opening =
        after_is bytes' g' read' work' list' opening enough room ∙ ap (λ m. made_after m opening) (models_alike like g g' read read') in
        let both = made_loosened m g'.spec.htmin (omega arith) opening (making_after m opening) (making_after (with_htmin g'.spec.htmin m) opening) in
        record {
          finishes = λ a.
              let e = after_made bytes g read work list opening a in
              ap accepted lower ∙ both.finishes (sym (ap accepted e) ∙ a);
          turns = λ a.
              let e = after_made bytes g read work list opening a in
              rw (lower, e) (both.turns (sym (ap accepted e) ∙ a));
        }
