-- All chapters, one after another: each that is made leaves what all come to.
use Prim.Native.Nat.{ℕ, suc, ◌+◌, ◌≤◌, ◌<◌}
use native.Mathlib.Omega.{arith}
use Rattle.std.specs.Prelude.{◌≡◌, refl, List, ◌∷◌}
use Rattle.std.proofs.Common.{sym, ◌∙◌, length-drop, drop_of_length-le, drop-drop, get_or-drop}
use Rattle.std.proofs.Math.Path.{ap, subst}
use Rattle.std.proofs.Math.ListN.{length, get_or, drop}
use Rattle.model.specs.Answers.{words_of}
use Rattle.chapters.specs.Book.{Chapter, chapters_in, book_of, largest, book_list, chapter_bytes}
use Rattle.chapters.specs.laws.Chapters.{ChapterAt}
use Rattle.course.specs.declared.Sums.{Sums}
use Rattle.course.specs.Course.{list_to, LeadsTo, no_sums, with_list, model_on, over, lists_of, AllLead, sums_of, written_of, Small, SmallAfter, NextChapter, NextMade, CourseMade, Making}
use Rattle.course.specs.laws.Course.{lead_fits}
use Rattle.course.specs.laws.Words.{over_long}

-- No chapter is made yet.
pub making_first : (cs : List Chapter) (folios list : List ℕ) → AllLead cs folios → book_list cs ≤ length list → Making cs folios list 0 no_sums list
making_first cs folios list leads room =
    record {
      within = omega arith;
      leads = leads;
      room = omega arith;
      long = refl;
      small = record { at = omega arith; pages = omega arith; x = omega arith; white = omega arith };
      goes = refl;
      listed = refl;
    }

-- So few come to little.
small_after : (k : ℕ) (sums : Sums) → k ≤ 200 → SmallAfter k sums → Small sums
small_after k sums few s =
    record {
      at = omega (arith, s.at);
      pages = omega (arith, s.pages);
      x = omega (arith, s.x);
      white = omega (arith, s.white);
    }

module _ {bytes lengths : List ℕ} {first : Chapter} {rest : List Chapter} {folios list₀ : List ℕ} {k : ℕ} {sums : Sums} {list : List ℕ}
    (m : Making (first ∷ rest) folios list₀ k sums list) (at : ChapterAt bytes lengths first rest k) where
  abbrev chapter : Chapter
  chapter = record { bytes = chapter_bytes bytes lengths k; galley = at.galley }

  abbrev left : List Chapter
  left = drop (suc k) (first ∷ rest)

  -- The folio on which it opens, and the next.
  here : get_or (drop k folios) 0 0 ≡ get_or folios k 0
  here = let z : k + 0 ≡ k = omega arith in get_or-drop k folios 0 0 ∙ ap (λ n. get_or folios n 0) z

  next : get_or (drop k folios) 1 0 ≡ get_or folios (k + 1) 0
  next = get_or-drop k folios 1 0

  onward : drop 1 (drop k folios) ≡ drop (k + 1) folios
  onward = drop-drop 1 k folios

  all_lead : LeadsTo chapter.bytes chapter.galley (get_or (drop k folios) 0 0) (get_or (drop k folios) 1 0) × AllLead left (drop 1 (drop k folios))
  unfolding AllLead
  all_lead = subst (λ cs. AllLead cs (drop k folios)) at.there m.leads

  leads_on : LeadsTo chapter.bytes chapter.galley (get_or folios k 0) (get_or folios (k + 1) 0)
  leads_on = rw (here, next) at all_lead.0

  rooms : sums.at + book_list (chapter ∷ left) ≤ length list
  rooms = subst (λ cs. sums.at + book_list cs ≤ length list) at.there m.room

  -- The next chapter can be made,
  pub making_chapter : (work : List ℕ) → largest (first ∷ rest) ≤ length work
      → NextChapter (chapter_bytes bytes lengths k) (get_or folios k 0) (get_or folios (k + 1) 0) sums work list
  unfolding book_list
  making_chapter work enough =
      let r = rooms in
      record {
        galley = at.galley;
        reads = at.reads;
        leads = leads_on;
        enough = omega (arith, at.work);
        room = omega arith;
        small = small_after k sums (omega (arith, at.numbered.within, at.numbered.few)) m.small;
      }

  -- What all come to goes on through the chapter,
  goes_on : sums_of left (drop 1 (drop k folios))
      (with_list sums (model_on chapter.bytes chapter.galley (get_or folios k 0))
      (list_to chapter.bytes chapter.galley (get_or folios k 0) (get_or folios (k + 1) 0)))
      ≡ sums_of (first ∷ rest) folios no_sums
  unfolding sums_of
  goes_on =
      let through = ap (λ cs. sums_of cs (drop k folios) sums) at.there in
      rw (← here, ← next) (sym through ∙ m.goes)

  -- and so do the words.
  listed_on : (let ps = list_to chapter.bytes chapter.galley (get_or folios k 0) (get_or folios (k + 1) 0) in
      written_of (lists_of left (drop 1 (drop k folios))) (sums.at + length (words_of ps)) (over sums.at (words_of ps) list)
      ≡ written_of (lists_of (first ∷ rest) folios) 0 list₀)
  unfolding lists_of written_of
  listed_on =
      let through = ap (λ cs. written_of (lists_of cs (drop k folios)) sums.at list) at.there in
      rw (← here, ← next) (sym through ∙ m.listed)

  -- There is one chapter at least from number k on.
  drops : k < length (first ∷ rest)
  drops =
      let d = length-drop k (first ∷ rest) in
      let l = ap length at.there in
      omega arith

  -- and then it is.
  pub making_next : {sums' : Sums} {work work' list' : List ℕ}
      → NextMade (chapter_bytes bytes lengths k) (get_or folios k 0) (get_or folios (k + 1) 0) sums work list sums' work' list'
      → Making (first ∷ rest) folios list₀ (k + 1) sums' list'
  unfolding book_list
  making_next {sums'} {work} {work'} {list'} made =
      let o = get_or folios k 0 in
      let n = get_or folios (k + 1) 0 in
      let ps = list_to chapter.bytes chapter.galley o n in
      let adds = made.adds at.galley at.reads in
      let listed = made.listed at.galley at.reads in
      let step : sums'.at ≡ sums.at + length (words_of ps) = ap (λ (r : Sums). r.at) adds in
      let fits = lead_fits at.reads leads_on in
      let r = rooms in
      let long : length list' ≡ length list = ap length listed ∙ over_long sums.at (words_of ps) list (omega arith) in
      let e : k + 1 ≡ suc k = omega arith in
      let rest_is : drop (k + 1) (first ∷ rest) ≡ left = ap (λ j. drop j (first ∷ rest)) e in
      record {
        within = omega (arith, m.within, drops);
        leads = rw (rest_is, ← onward) all_lead.1;
        room = rw rest_is (omega arith);
        long = long ∙ m.long;
        small = made.small k m.small;
        goes =
            ap (λ cs. sums_of cs (drop (k + 1) folios) sums') rest_is
            ∙ ap (λ fs. sums_of left fs sums') (sym onward)
            ∙ ap (sums_of left (drop 1 (drop k folios))) adds
            ∙ goes_on;
        listed =
            ap (λ cs. written_of (lists_of cs (drop (k + 1) folios)) sums'.at list') rest_is
            ∙ ap (λ fs. written_of (lists_of left fs) sums'.at list') (sym onward)
            ∙ ap (λ j. written_of (lists_of left (drop 1 (drop k folios))) j list') step
            ∙ ap (written_of (lists_of left (drop 1 (drop k folios))) (sums.at + length (words_of ps))) listed
            ∙ listed_on;
      }

-- All are made.
pub making_done : {bytes lengths : List ℕ} {folios list₀ : List ℕ} {work work' : List ℕ} (cs : List Chapter) {k : ℕ} {sums : Sums} {list : List ℕ} → chapters_in (book_of bytes lengths) ≡ cs
    → Making cs folios list₀ k sums list → length cs ≤ k → k ≤ 200 → length work' ≡ length work
    → CourseMade bytes lengths folios work list₀ sums work' list
unfolding sums_of written_of lists_of
making_done {bytes} {lengths} {folios} {list₀} {work} {work'} cs {k} {sums} {list} is m h few lent =
    let none = drop_of_length-le cs h in
    record {
      adds = rw is (sym (ap (λ ds. sums_of ds (drop k folios) sums) none) ∙ m.goes);
      fits = omega (arith, m.room, m.long);
      listed = rw is (sym (ap (λ ds. written_of (lists_of ds (drop k folios)) sums.at list) none) ∙ m.listed);
      lent = lent;
      small = small_after k sums few m.small;
    }
