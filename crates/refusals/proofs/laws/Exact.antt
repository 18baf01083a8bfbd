-- What a refusal says of the bytes decides the answer: where it holds, reading answers so.
use Rattle.std.specs.Prelude.{ℕ, zero, suc, ◌+◌, ◌-◌, ◌≤◌, ◌<◌, ◌≡◌, ◌⊎◌, false, ◌||◌, List, length, eqb, Ok}
use Rattle.std.proofs.Common.{arith, sym, ◌∙◌, inl, inr}
use Rattle.std.proofs.Math.Path.{refl, ap, subst}
use Rattle.std.proofs.Math.Bool.{true}
use Rattle.std.proofs.Math.Dec.{ltb}
use borrow.Author.Tests.{lt-ltb, le-ltb, eq-eqb, ne_eqb}
use Rattle.galley.specs.Word.{mark_at}
use Rattle.galley.specs.Place.{FG, TB, ED, kind_of}
use Rattle.galley.specs.Record.{record_at, unread}
use Rattle.galley.specs.Whole.{moved, cited, closed, after, step_from, galley_so_far, galley_of, Reading}
use Rattle.galley.specs.Write.{Stated}
use Rattle.galley.proofs.laws.Place.{figure_kind}
use Rattle.galley.proofs.laws.Record.{Found, found_at}
use Rattle.galley.proofs.laws.Reached.{spec_in}
use Rattle.galley.proofs.laws.Stand.{end_step}
use Rattle.galley.proofs.laws.Underway.{underway_done}
use Rattle.galley.specs.declared.Spec.{Spec}
use Rattle.galley.specs.declared.Float.{Float}
use Rattle.galley.specs.declared.Galley.{Galley}
use Rattle.galley.specs.declared.Record.TheVariants as found
use Rattle.galley.specs.declared.Sofar.{Sofar}
use Rattle.refusals.specs.Declared.{Start, begun, galley_in, Begins, may_follow, early, crowded, fits, lines_in, figures_in, tables_in, last_cited, FloatAt, Upto, IsGalley, in_range}
use Rattle.refusals.proofs.laws.Told.{Says}
use Rattle.refusals.proofs.laws.State.{state_of, state_at, state_lines, state_galley, turned, unfit_told, figure_last, table_last}
use Rattle.refusals.proofs.laws.Fit.{fits_turned, figure_fits, table_fits}
use Rattle.refusals.proofs.laws.Fields.{fields_bad}
use Rattle.refusals.proofs.laws.Reach.{fits_state, reach, begins_few}
use Rattle.model.specs.Answers.{refused}
use Rattle.std.specs.declared.ops.ControlFlow.TheVariants.{Break}

module _ (bytes : List ℕ) where
  -- How the next step goes, where these records stand.
  module _ (b : Start) (begins : Begins bytes b) where
    abbrev so : Sofar
    so = state_of bytes b

    abbrev mark : ℕ
    mark = mark_at bytes so.at

    answers : {r : Reading} → step_from bytes so ≡ Break r → galley_of bytes ≡ r
    answers e = sym (underway_done (reach bytes b begins) e)

    no_mark : length bytes < so.at + 2 → galley_of bytes ≡ refused 1 so.at
    unfolding step_from
    no_mark h = answers (rw (lt-ltb (length bytes - so.at) 2 (omega arith)) refl)

    turned_away : so.at + 2 ≤ length bytes → (n : ℕ) → 0 < n → turned b mark ≡ n → galley_of bytes ≡ refused n so.at
    unfolding step_from
    turned_away there n some e =
        answers (rw (le-ltb (length bytes - so.at) 2 (omega arith), unfit_told bytes b (begins_few bytes b begins) mark, e, lt-ltb 0 n some) refl)

    fit_after : so.at + 2 ≤ length bytes → fits b mark ≡ true
        → step_from bytes so ≡ after bytes (moved so (kind_of mark)) so.at (record_at bytes so.at)
    unfolding step_from
    fit_after there fit =
        rw (
          le-ltb (length bytes - so.at) 2 (omega arith),
          unfit_told bytes b (begins_few bytes b begins) mark,
          fits_turned b mark fit,
        ) refl

    refused_record : so.at + 2 ≤ length bytes → fits b mark ≡ true → (n place : ℕ) → record_at bytes so.at ≡ unread n place
        → galley_of bytes ≡ refused n so.at
    unfolding after
    refused_record there fit n place e =
        answers (fit_after there fit ∙ ap (after bytes (moved so (kind_of mark)) so.at) e)

    short_record : so.at + 2 ≤ length bytes → fits b mark ≡ true → length bytes < so.at + (kind_of mark).size
        → galley_of bytes ≡ refused 1 so.at
    unfolding record_at
    short_record there fit short =
        refused_record there fit 1 so.at
        (rw (le-ltb (length bytes - so.at) 2 (omega arith), lt-ltb (length bytes - so.at) (kind_of mark).size (omega arith)) refl)

    -- A record out of range.
    bad_record : so.at + 2 ≤ length bytes → fits b mark ≡ true → so.at + (kind_of mark).size ≤ length bytes
        → in_range mark bytes so.at ≡ false → galley_of bytes ≡ refused 3 so.at
    unfolding record_at
    bad_record there fit whole bad =
        refused_record there fit 3 so.at
        (rw (le-ltb (length bytes - so.at) 2 (omega arith), le-ltb (length bytes - so.at) (kind_of mark).size (omega arith))
        (fields_bad b bytes so.at mark fit bad))

    followed : may_follow b mark ≡ false → turned b mark ≡ 2
    followed e = rw e refl

    soon : may_follow b mark ≡ true → early b mark ≡ true → turned b mark ≡ 5
    soon e f = rw (e, f) refl

    many : may_follow b mark ≡ true → early b mark ≡ false → crowded b mark ≡ true → turned b mark ≡ 4
    many e f g = rw (e, f, g) refl

    -- A figure's mark, and a table's, with the line that was cited last.
    pub figure_marked : (f : Float) → fits b mark ≡ true → record_at bytes so.at ≡ Ok (found.Figure f)
        → (moved so (kind_of mark)).last ≡ last_cited bytes (figures_in b)
    unfolding Found
    figure_marked f fit e =
        let h = rw e at (found_at bytes so.at) in
        let kind : kind_of mark ≡ kind_of FG = ap kind_of h.marked ∙ figure_kind f.kept in
        let (s, o, m, n, is, few) = figure_fits b f.kept (subst (λ k. fits b k ≡ true) h.marked fit) in
        ap (λ k. (moved so k).last) kind
        ∙ subst (λ b. (moved (state_of bytes b) (kind_of FG)).last ≡ last_cited bytes (figures_in b)) (sym is) (figure_last bytes s o m n)

    pub table_marked : (f : Float) → fits b mark ≡ true → record_at bytes so.at ≡ Ok (found.Table f)
        → (moved so (kind_of mark)).last ≡ last_cited bytes (tables_in b)
    unfolding Found
    table_marked f fit e =
        let h = rw e at (found_at bytes so.at) in
        let (s, o, m, n, k, is, few) = table_fits b (subst (λ k. fits b k ≡ true) h.marked fit) in
        ap (λ k. (moved so (kind_of k)).last) h.marked
        ∙ subst (λ b. (moved (state_of bytes b) (kind_of TB)).last ≡ last_cited bytes (tables_in b)) (sym is) (table_last bytes s o m n k)

    -- A float that cites no line that is there,
    cites_none : (cite : ℕ) → (cite ≡ 0) ⊎ (lines_in b < cite) → (eqb cite 0 || ltb so.lines cite) ≡ true
    cites_none cite (inl e) = rw (eq-eqb cite 0 e) refl
    cites_none cite (inr h) = rw (ne_eqb cite 0 (λ z. omega arith), lt-ltb so.lines cite (omega (arith, state_lines bytes b))) refl

    no_line : so.at + 2 ≤ length bytes → fits b mark ≡ true → (f : Float) (last : ℕ) → FloatAt bytes b so.at f last
        → (f.cite ≡ 0) ⊎ (lines_in b < f.cite) → galley_of bytes ≡ refused 6 so.at
    unfolding after cited
    no_line there fit f last (inl (e, l)) none = answers (fit_after there fit ∙ rw (e, cites_none f.cite none) refl)
    no_line there fit f last (inr (e, l)) none = answers (fit_after there fit ∙ rw (e, cites_none f.cite none) refl)

    -- and one that cites a line too soon.
    cites_one : (cite : ℕ) → 1 ≤ cite → cite ≤ lines_in b → (eqb cite 0 || ltb so.lines cite) ≡ false
    cites_one cite some low = rw (ne_eqb cite 0 (λ z. omega arith), le-ltb so.lines cite (omega (arith, state_lines bytes b))) refl

    too_soon : so.at + 2 ≤ length bytes → fits b mark ≡ true → (f : Float) (last : ℕ) → FloatAt bytes b so.at f last
        → 1 ≤ f.cite → f.cite ≤ lines_in b → f.cite < last → galley_of bytes ≡ refused 7 so.at
    unfolding after cited
    too_soon there fit f last (inl (e, l)) some low less =
        let c = cites_one f.cite some low in
        let t : ltb f.cite (moved so (kind_of mark)).last ≡ true =
        lt-ltb f.cite (moved so (kind_of mark)).last (omega (arith, figure_marked f fit e)) in
        answers (fit_after there fit ∙ rw (e, c, t) refl)
    too_soon there fit f last (inr (e, l)) some low less =
        let c = cites_one f.cite some low in
        let t : ltb f.cite (moved so (kind_of mark)).last ≡ true =
        lt-ltb f.cite (moved so (kind_of mark)).last (omega (arith, table_marked f fit e)) in
        answers (fit_after there fit ∙ rw (e, c, t) refl)

    -- The end with something after it.
    past_end : so.at + 2 ≤ length bytes → fits b mark ≡ true → record_at bytes so.at ≡ Ok found.End → so.at + 2 < length bytes
        → galley_of bytes ≡ refused 8 (so.at + 2)
    unfolding after closed kind_of Found
    past_end there fit e more =
        let h = rw e at (found_at bytes so.at) in
        answers (fit_after there fit ∙ rw (e, h.marked, lt-ltb (so.at + 2) (length bytes) more) refl)

  -- The end with nothing after it.
  at_end_lem : (s : Spec) (o : Stated) (m n k : ℕ) → Begins bytes (begun s o m n k)
      → (let b = begun s o m n k in
      fits b (mark_at bytes (state_of bytes b).at) ≡ true → record_at bytes (state_of bytes b).at ≡ Ok found.End
      → (state_of bytes b).at + 2 ≡ length bytes → galley_of bytes ≡ Ok (galley_in s o m n k))
  unfolding Begins Found
  at_end_lem s o m n k begins fit e whole =
      let b = begun s o m n k in
      let here = rw e at (found_at bytes (state_of bytes b).at) in
      let none = fits_turned b ED (subst (λ k. fits b k ≡ true) here.marked fit) in
      let is : s ≡ spec_in bytes = (rw begins.spec at (found_at bytes 0)).same in
      answers b begins (end_step bytes (state_of bytes b) e (fits_state bytes b ED (begins_few bytes b begins) none) whole)
      ∙ ap (λ s. Ok (galley_so_far s (state_of bytes b))) (sym is)
      ∙ ap Ok (state_galley bytes s o m n k)

  at_place : {at : ℕ} {b : Start} → Upto bytes at b → (state_of bytes b).at ≡ at
  at_place {b = b} u = state_at bytes b ∙ u.due

  -- What the bytes are said to be they are answered with.
  pub says_exact : (n at : ℕ) → Says n bytes at → galley_of bytes ≡ refused n at
  says_exact zero at h = absurd h
  says_exact (suc zero) at (inl (b, u, short)) =
      subst (λ p. length bytes < p + 2 → galley_of bytes ≡ refused 1 p) (at_place u) (no_mark b u.begins) short
  says_exact (suc zero) at (inr (b, f, short)) =
      let u = f.marked.upto in
      subst (λ p. p + 2 ≤ length bytes → fits b (mark_at bytes p) ≡ true → length bytes < p + (kind_of (mark_at bytes p)).size
      → galley_of bytes ≡ refused 1 p) (at_place u) (short_record b u.begins) f.marked.mark f.fit short
  says_exact (suc (suc zero)) at (b, m, none) =
      let u = m.upto in
      subst (λ p. p + 2 ≤ length bytes → may_follow b (mark_at bytes p) ≡ false → galley_of bytes ≡ refused 2 p) (at_place u)
      (λ there none. turned_away b u.begins there 2 (omega arith) (followed b u.begins none)) m.mark none
  says_exact (suc (suc (suc zero))) at (b, f, whole, bad) =
      let u = f.marked.upto in
      subst (λ p. p + 2 ≤ length bytes → fits b (mark_at bytes p) ≡ true → p + (kind_of (mark_at bytes p)).size ≤ length bytes
      → in_range (mark_at bytes p) bytes p ≡ false → galley_of bytes ≡ refused 3 p) (at_place u) (bad_record b u.begins) f.marked.mark
      f.fit whole bad
  says_exact (suc (suc (suc (suc zero)))) at (b, m, may, late, full) =
      let u = m.upto in
      subst (λ p. p + 2 ≤ length bytes → may_follow b (mark_at bytes p) ≡ true → early b (mark_at bytes p) ≡ false
      → crowded b (mark_at bytes p) ≡ true → galley_of bytes ≡ refused 4 p) (at_place u)
      (λ there may late full. turned_away b u.begins there 4 (omega arith) (many b u.begins may late full)) m.mark may late full
  says_exact (suc (suc (suc (suc (suc zero))))) at (b, m, may, first) =
      let u = m.upto in
      subst (λ p. p + 2 ≤ length bytes → may_follow b (mark_at bytes p) ≡ true → early b (mark_at bytes p) ≡ true
      → galley_of bytes ≡ refused 5 p) (at_place u)
      (λ there may first. turned_away b u.begins there 5 (omega arith) (soon b u.begins may first)) m.mark may first
  says_exact (suc (suc (suc (suc (suc (suc zero)))))) at (b, f, last, h, here, none) =
      let u = h.marked.upto in
      subst (λ p. p + 2 ≤ length bytes → fits b (mark_at bytes p) ≡ true → FloatAt bytes b p f last
      → galley_of bytes ≡ refused 6 p) (at_place u)
      (λ there fit here. no_line b u.begins there fit f last here none) h.marked.mark h.fit here
  says_exact (suc (suc (suc (suc (suc (suc (suc zero))))))) at (b, f, last, h, here, some, low, less) =
      let u = h.marked.upto in
      subst (λ p. p + 2 ≤ length bytes → fits b (mark_at bytes p) ≡ true → FloatAt bytes b p f last
      → galley_of bytes ≡ refused 7 p) (at_place u)
      (λ there fit here. too_soon b u.begins there fit f last here some low less) h.marked.mark h.fit here
  says_exact (suc (suc (suc (suc (suc (suc (suc (suc zero)))))))) at (b, end, e, is, more) =
      let f = e.fitting in
      let u = f.marked.upto in
      subst (λ p. p < length bytes → galley_of bytes ≡ refused 8 p) is
      (subst (λ p. p + 2 ≤ length bytes → fits b (mark_at bytes p) ≡ true → record_at bytes p ≡ Ok found.End → p + 2 < length bytes
      → galley_of bytes ≡ refused 8 (p + 2)) (at_place u) (past_end b u.begins) f.marked.mark f.fit e.here) more
  says_exact (suc (suc (suc (suc (suc (suc (suc (suc (suc n))))))))) at h = absurd h

  pub galley_exact : (g : Galley) → IsGalley bytes g → galley_of bytes ≡ Ok g
  galley_exact g (s, o, m, n, k, end, e, whole, is) =
      let b = begun s o m n k in
      let f = e.fitting in
      let u = f.marked.upto in
      subst (λ p. fits b (mark_at bytes p) ≡ true → record_at bytes p ≡ Ok found.End → p + 2 ≡ length bytes
      → galley_of bytes ≡ Ok (galley_in s o m n k)) (at_place u) (at_end_lem s o m n k u.begins) f.fit e.here whole
      ∙ ap Ok (sym is)
