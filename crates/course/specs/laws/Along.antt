-- The chapters made along the folios of the best route are the best choice, and come to its sums.
use Rattle.std.specs.Prelude.{ℕ, ◌+◌, ◌≤◌, ◌≡◌, refl, drop}
use native.Mathlib.Omega.{arith}
use Rattle.std.proofs.Common.{sym, ◌∙◌, subst, length-append}
use Rattle.std.proofs.Math.Path.{ap}
use mathlib.Core.List.{List, [], ◌∷◌, ◌++◌}
use Rattle.std.proofs.Math.Option.{some}
use Rattle.std.proofs.Math.ListN.{length, get_or}
use Rattle.model.specs.Galley as model
use Rattle.model.specs.Galley.{Place}
use Rattle.model.specs.Turns.{x_of}
use Rattle.model.specs.White.{white}
use Rattle.model.specs.Answers.{words_of}
use Rattle.model.specs.Book.{open_on, Choice, gathered}
use Rattle.theorems.specs.pages.Graph.{side}
use Rattle.theorems.specs.books.Folios.{like_range}
use Rattle.theorems.specs.books.Closing.{best_closing}
use Rattle.theorems.specs.books.Turns.{Alike}
use Rattle.theorems.specs.books.Through.{side_alike}
use Rattle.theorems.specs.books.Choosing.{AllAlike}
use Rattle.theorems.specs.books.Course.{opens_next, Course, coursed}
use Rattle.galley.specs.Model.{model_of}
use Rattle.chapters.specs.Book.{Chapter, models_of}
use Rattle.closings.specs.laws.Opened.{model_on_lem}
use Rattle.course.specs.declared.Sums.{Sums}
use Rattle.course.specs.Chapter.{or_none}
use Rattle.course.specs.Course.{model_on, side_to, list_to, LeadsTo, with_list, lists_of, AllLead, sums_of}

-- The next folio stands behind those of the chapters.
next_is : (os after : List ℕ) (last : ℕ) → get_or (os ++ (last ∷ after)) 0 0 ≡ opens_next last os
unfolding opens_next
next_is [] after last = refl
next_is (o ∷ os) after last = refl

-- It is 1 or 2.
next_few : (h : model.Galley) (f : ℕ) (gs : List model.Galley) (cs : Choice) (os : List ℕ) (last : ℕ) → last ≤ 2 → Course h f gs cs os last
    → opens_next last os ≤ 2
unfolding Course opens_next
next_few h f gs cs [] last few c = few
next_few h f [] [] (o ∷ os) last few c = absurd c
next_few h f [] (ps ∷ cs) (o ∷ os) last few c = absurd c
next_few h f (g ∷ gs) [] (o ∷ os) last few c = absurd c
next_few h f (g ∷ gs) (ps ∷ cs) (o ∷ os) last few c = omega (arith, c.0, (like_range h.spec.sides f).1)

-- One chapter's best list on the way is its best list between those folios.
lead_is : (h : model.Galley) (c : Chapter) → Alike h (model_of c.bytes c.galley) → (o n : ℕ) (ps : List Place)
    → best_closing (open_on o (model_of c.bytes c.galley)) (side h.spec.sides (o + n)) ≡ some ps
    → best_closing (model_on c.bytes c.galley o) (side_to c.galley o n) ≡ some ps
lead_is h c a o n ps e =
    subst (λ (m : model.Galley). best_closing m (side m.spec.sides (o + n)) ≡ some ps) (sym (model_on_lem c.bytes o c.galley))
    (rw (side_alike h (model_of c.bytes c.galley) a o (o + n)) e)

module _ (h : model.Galley) (last : ℕ) (few : last ≤ 2) (after : List ℕ) where
  -- Each chapter leads from its folio to the next, and their lists are the choice.
  pub course_leads : (f : ℕ) (cs : List Chapter) (choice : Choice) (os : List ℕ) → AllAlike h (models_of cs)
      → Course h f (models_of cs) choice os last → (lists_of cs (os ++ (last ∷ after)) ≡ choice) × AllLead cs (os ++ (last ∷ after))
  unfolding models_of AllAlike Course lists_of AllLead
  course_leads f [] [] [] all c = (refl, tt)
  course_leads f [] [] (o ∷ os) all c = absurd c
  course_leads f [] (ps ∷ choice) os all c = absurd c
  course_leads f (x ∷ cs) [] os all c = absurd c
  course_leads f (x ∷ cs) (ps ∷ choice) [] all c = absurd c
  course_leads f (x ∷ cs) (ps ∷ choice) (o ∷ os) all c =
      let rest = course_leads (f + length ps) cs choice os all.1 c.2 in
      let n = get_or (os ++ (last ∷ after)) 0 0 in
      let is = next_is os after last in
      let best = lead_is h x all.0 o n ps (rw is c.1) in
      let same : list_to x.bytes x.galley o n ≡ ps = ap or_none best in
      let range = like_range h.spec.sides f in
      let lead : LeadsTo x.bytes x.galley o n =
      record {
        low = omega (arith, c.0, range.0);
        folio = omega (arith, c.0, range.1);
        after = omega (arith, is, next_few h (f + length ps) (models_of cs) choice os last few c.2);
        best = best ∙ ap some (sym same);
      } in
      (ap (λ l. l ∷ lists_of cs (os ++ (last ∷ after))) same ∙ ap (λ l. ps ∷ l) rest.0, (lead, rest.1))

  -- They come to the sums of the course.
  pub course_sums : (f : ℕ) (cs : List Chapter) (choice : Choice) (os : List ℕ) → AllAlike h (models_of cs)
      → Course h f (models_of cs) choice os last → (sums : Sums)
      → ((sums_of cs (os ++ (last ∷ after)) sums).pages ≡ sums.pages + coursed (λ g ps. length ps) (models_of cs) choice os)
      × ((sums_of cs (os ++ (last ∷ after)) sums).x ≡ sums.x + coursed x_of (models_of cs) choice os)
      × ((sums_of cs (os ++ (last ∷ after)) sums).white ≡ sums.white + coursed white (models_of cs) choice os)
  unfolding models_of AllAlike Course sums_of coursed
  course_sums f [] [] [] all c sums = (omega arith, omega arith, omega arith)
  course_sums f [] [] (o ∷ os) all c sums = absurd c
  course_sums f [] (ps ∷ choice) os all c sums = absurd c
  course_sums f (x ∷ cs) [] os all c sums = absurd c
  course_sums f (x ∷ cs) (ps ∷ choice) [] all c sums = absurd c
  course_sums f (x ∷ cs) (ps ∷ choice) (o ∷ os) all c sums =
      let n = get_or (os ++ (last ∷ after)) 0 0 in
      let best = lead_is h x all.0 o n ps (rw (next_is os after last) c.1) in
      let same : list_to x.bytes x.galley o n ≡ ps = ap or_none best in
      let m = model_on_lem x.bytes o x.galley in
      let long = ap length same in
      let turned = ap (x_of (model_on x.bytes x.galley o)) same ∙ ap (λ g. x_of g ps) m in
      let lacked = ap (white (model_on x.bytes x.galley o)) same ∙ ap (λ g. white g ps) m in
      let (p, t, w) = course_sums (f + length ps) cs choice os all.1 c.2 (with_list sums (model_on x.bytes x.galley o) (list_to x.bytes x.galley o n)) in
      (omega (arith, p, long), omega (arith, t, turned), omega (arith, w, lacked))

-- The words that were written are those of all lists.
pub sums_at : (cs : List Chapter) (fs : List ℕ) (sums : Sums) → (sums_of cs fs sums).at ≡ sums.at + length (gathered words_of (lists_of cs fs))
unfolding sums_of lists_of gathered
sums_at [] fs sums = omega arith
sums_at (c ∷ cs) fs sums =
    let ps = list_to c.bytes c.galley (get_or fs 0 0) (get_or fs 1 0) in
    let rest = sums_at cs (drop 1 fs) (with_list sums (model_on c.bytes c.galley (get_or fs 0 0)) ps) in
    let both = length-append (words_of ps) (gathered words_of (lists_of cs (drop 1 fs))) in
    omega arith
