-- One chapter after another: each that is made leaves what all come to.
use Rattle.std.specs.Prelude.{ℕ, ◌+◌, ◌-◌, ◌≤◌, ◌≡◌, List, [], ◌++◌, length, take, drop, Err, Ok}
use Rattle.std.proofs.Common.{arith, sym, ◌∙◌, subst, append-nil, append_assoc, length-drop, length-take-le, take_all, drop-drop}
use Rattle.std.proofs.Math.Path.{ap}
use Rattle.std.proofs.Math.Seq.{drop-length}
use Rattle.model.specs.Answers.{words_of, counts_of, Answer}
use Rattle.model.specs.Best.{valid}
use Rattle.model.specs.laws.Lists.{◌∈◌}
use Rattle.theorems.specs.pages.Sides.{side_side}
use Rattle.galley.specs.declared.Galley.{Galley}
use Rattle.galley.specs.Whole.{galley_of, Reading}
use Rattle.galley.specs.Model.{sides_in}
use Rattle.galley.specs.Sound.{Sound}
use Rattle.galley.proofs.laws.Sound.{sound}
use Rattle.blocks.specs.Counts.{page_words}
use Rattle.needs.specs.Needs.{list_needed}
use Rattle.closings.specs.Chapter.{on_folio}
use Rattle.course.specs.declared.Sums.{Sums}
use Rattle.course.specs.Chapter.{Makeable, Made}
use Rattle.course.specs.Course.{model_on, side_to, list_to, LeadsTo, with_list, with_answer, WithAnswer, over, NextChapter, NextMade}
use Rattle.course.specs.laws.Chapter.{closing_is_valid, list_long, list_pages, list_small, list_fits}

-- What is sound on one folio is so on another.
pub sound_on : {bytes : List ℕ} {g : Galley} → Sound bytes g → (o : ℕ) → 1 ≤ o → o ≤ 9999 → Sound bytes (on_folio o g)
sound_on s o low few =
    record {
      some_lines = s.some_lines;
      few_lines = s.few_lines;
      spec_ranged = s.spec_ranged;
      edition = s.edition;
      spec_read = s.spec_read;
      some_folio = low;
      few_folios = few;
      text = s.text;
      text_read = s.text_read;
      legals = s.legals;
      figures = s.figures;
      tables = s.tables;
      follow = s.follow;
      follow_tables = s.follow_tables;
      ends = s.ends;
    }

-- Bytes hold one galley.
pub one_galley : (bytes : List ℕ) (g h : Galley) → galley_of bytes ≡ Ok g → galley_of bytes ≡ Ok h → g ≡ h
one_galley bytes g h e f = ap held (sym e ∙ f)
  where
    held : Reading → Galley
    held (Ok x) = x
    held (Err r) = g

-- The list of a chapter from folio to folio is valid, and as short as any.
module _ {bytes : List ℕ} {g : Galley} {o next : ℕ} (e : galley_of bytes ≡ Ok g) (l : LeadsTo bytes g o next) where
  lead_sound : Sound bytes (on_folio o g)
  lead_sound = sound_on (sound bytes g e) o l.low (omega (arith, l.folio))

  lead_valid : list_to bytes g o next ∈ valid (model_on bytes g o)
  lead_valid = closing_is_valid (model_on bytes g o) (side_to g o next) (list_to bytes g o next) l.best

  pub lead_fits : length (words_of (list_to bytes g o next)) ≤ list_needed g
  lead_fits = list_fits lead_sound (list_to bytes g o next) lead_valid

module _ {bytes : List ℕ} {o next : ℕ} {sums : Sums} {work list : List ℕ} (p : NextChapter bytes o next sums work list)
    (g : Galley) (e : galley_of bytes ≡ Ok g) where
  same : p.galley ≡ g
  same = one_galley bytes p.galley g p.reads e

  leads : LeadsTo bytes g o next
  leads = subst (λ h. LeadsTo bytes h o next) same p.leads

  room : sums.at + list_needed g ≤ length list
  room = subst (λ (h : Galley). sums.at + list_needed h ≤ length list) same p.room

  -- The chapter can be made in what is left of the page list.
  pub next_makeable : (k : ℕ) → k ≡ length list - sums.at
      → Makeable bytes (on_folio o g) (side_to g o next) work (take k (drop sums.at list))
  next_makeable k all =
      let left = length-drop sums.at list in
      let long = length-take-le k (drop sums.at list) (omega arith) in
      record {
        sound = lead_sound e leads;
        occurs = side_side (sides_in (on_folio o g)) (o + next);
        enough = rw (← same) p.enough;
        room = omega (arith, room);
        best = leads.best;
      }

  -- Its words stand where those before it end, and its counts are added.
  module _ (answer : Answer) (k : ℕ) (work' part list' : List ℕ) (all : k ≡ length list - sums.at)
      (made : Made bytes (on_folio o g) (side_to g o next) work (take k (drop sums.at list)) answer work' part)
      (joined : list' ≡ take sums.at list ++ (part ++ drop k (drop sums.at list))) where
    next_listed : list' ≡ over sums.at (words_of (list_to bytes g o next)) list
    next_listed =
        let n = sums.at in
        let ws = words_of (list_to bytes g o next) in
        let long = length-drop n list in
        let whole : take k (drop n list) ≡ drop n list = take_all k (drop n list) (omega arith) in
        let exact : k ≡ length (drop n list) = omega arith in
        let none_left : drop k (drop n list) ≡ [] = ap (λ m. drop m (drop n list)) exact ∙ drop-length (drop n list) in
        joined
        ∙ ap (λ l. take n list ++ (part ++ l)) none_left
        ∙ ap (λ l. take n list ++ l) (append-nil part ∙ made.listed ∙ ap (λ l. ws ++ drop (length ws) l) whole)
        ∙ ap (λ l. take n list ++ (ws ++ l)) (drop-drop (length ws) n list)
        ∙ sym (append_assoc (take n list) ws (drop (n + length ws) list))

    pub next_made : (sums' : Sums) → WithAnswer sums (page_words g) answer sums' → NextMade bytes o next sums work list sums' work' list'
    unfolding counts_of
    next_made sums' w =
        let ps = list_to bytes g o next in
        let long = list_long (lead_sound e leads) ps (lead_valid e leads) in
        let few = list_pages (lead_sound e leads) ps (lead_valid e leads) in
        let is : sums' ≡ with_list sums (model_on bytes g o) ps =
        w.is ∙ ap (with_answer sums (page_words g)) made.counts
        ∙ ap (λ n. record { at = sums.at + n; pages = (with_list sums (model_on bytes g o) ps).pages; x = (with_list sums (model_on bytes g o) ps).x; white = (with_list sums (model_on bytes g o) ps).white }) (sym long) in
        record {
          adds = λ h f. rw (← one_galley bytes g h e f) is;
          listed = λ h f. rw (← one_galley bytes g h e f) next_listed;
          lent = made.lent;
          small = λ k s.
              let at = ap (λ (r : Sums). r.at) is in
              let pages = ap (λ (r : Sums). r.pages) is in
              let words = list_small (lead_sound e leads) ps (lead_valid e leads) in
              record {
                at = omega (arith, s.at);
                pages = omega (arith, s.pages);
                x = omega (arith, s.x, w.x);
                white = omega (arith, s.white, w.white);
              };
        }
