-- Whatever reading answers, the bytes are as the answer says.
use Prim.Native.Nat.{ℕ, zero, suc, ◌+◌, ◌-◌, ◌≤◌, ◌<◌}
use native.Mathlib.Omega.{arith}
use Rattle.std.specs.Prelude.{◌≡◌, ◌⊎◌, Bool, ◌||◌, List, eqb, Err, Ok}
use Rattle.std.proofs.Math.Path.{refl, ap, subst}
use Rattle.std.proofs.Common.{sym, ◌∙◌}
use Rattle.std.proofs.Math.Logic.{inl, inr}
use Rattle.std.proofs.Math.Bool.{true, false}
use Rattle.std.proofs.Math.ListN.{length}
use Rattle.std.proofs.Math.Dec.{ltb}
use borrow.Author.Tests.{ltb-true, ltb-false, le-ltb, eqb-true, eqb-false}
use Rattle.model.specs.Gather.{pick}
use Rattle.model.proofs.laws.Gather.{or_cases}
use Rattle.galley.specs.Word.{word_at, mark_at}
use Rattle.galley.specs.Place.{spec_mark, spec_size, FO, TL, FG, TB, spec, kind_of, unfit}
use Rattle.galley.specs.Record.{is_second, cite_at, spec_of, line_of, float_of, is_kept, Read, unread, fields_of, record_at}
use Rattle.galley.specs.Whole.{moved, with_folio, with_line, with_figure, with_table, cited, closed, after, step_from, galley_so_far, galley_of, Step}
use Rattle.galley.specs.Block.{field_of, offset}
use Rattle.galley.specs.Sound.{Reads, SoundCitations, Opening}
use Rattle.galley.specs.Write.{Stated, unstated, stated}
use Rattle.galley.proofs.laws.Pick.{pick_has, or_false}
use Rattle.galley.proofs.laws.Place.{figure_kind}
use Rattle.galley.proofs.laws.Record.{Found, found_at}
use Rattle.galley.proofs.laws.Reached.{spec_in, Reached}
use Rattle.galley.proofs.laws.Underway.{Underway, underway_none, underway_on, underway_farther, underway_done}
use Rattle.galley.specs.declared.Kind.{Kind}
use Rattle.galley.specs.declared.Line.{Line}
use Rattle.galley.specs.declared.Spec.{Spec}
use Rattle.galley.specs.declared.Float.{Float}
use Rattle.galley.specs.declared.Galley.{Galley}
use Rattle.galley.specs.declared.Stream.{Stream}
use Rattle.galley.specs.declared.Record.TheVariants as found
use Rattle.galley.specs.declared.Sofar.{Sofar}
use Rattle.refusals.specs.Declared.{Start, nothing, begun, head_of, galley_in, due_at, FolioAt, Begun, Begins, may_follow, early, crowded, fits, lines_in, figures_in, tables_in, last_cited, FloatAt, Upto, Marked, Fitting, Ended, in_range}
use Rattle.refusals.proofs.laws.Told.{Says, Told}
use Rattle.refusals.proofs.laws.State.{state_of, state_at, state_lines, state_galley, turned, unfit_told, spec_more, folio_more, line_more, figure_more, table_more}
use Rattle.refusals.proofs.laws.Fit.{turned_fits, spec_fits, folio_fits, line_fits, figure_fits, table_fits, end_fits}
use Rattle.refusals.proofs.laws.Fields.{number_of, fields_three}
use Rattle.refusals.proofs.laws.Reach.{begins_few}
use Rattle.refusals.proofs.laws.Exact.{figure_marked, table_marked}
use Rattle.std.specs.declared.ops.ControlFlow.TheVariants.{Break, Continue}

module _ (bytes : List ℕ) where
  -- A record whose mark fits is refused where it is cut off, by 1, or where a field is out of range.
  abbrev Cut : ℕ → ℕ → Type 0
  Cut at n =
      ((n ≡ 1) × (length bytes < at + (kind_of (mark_at bytes at)).size))
      ⊎ ((n ≡ 3) × (at + (kind_of (mark_at bytes at)).size ≤ length bytes) × (in_range (mark_at bytes at) bytes at ≡ false))

  refused_record : (b : Start) (at n : ℕ) → at + 2 ≤ length bytes → fits b (mark_at bytes at) ≡ true → 1 ≤ n → number_of (record_at bytes at) ≡ n
      → Cut at n
  unfolding record_at
  refused_record b at n there fit some e =
      go (ltb (length bytes - at) (kind_of (mark_at bytes at)).size) refl (rw (le-ltb (length bytes - at) 2 (omega arith)) at e)
    where
      go : (short : Bool) → ltb (length bytes - at) (kind_of (mark_at bytes at)).size ≡ short
          → number_of (pick short (unread 1 at) (fields_of (mark_at bytes at) bytes at)) ≡ n → Cut at n
      go true t e = inl (sym e, let h = ltb-true (length bytes - at) (kind_of (mark_at bytes at)).size t in omega arith)
      go false t e =
          let (three, bad) = fields_three b bytes at (mark_at bytes at) fit (omega arith) in
          inr (sym e ∙ three, let h = ltb-false (length bytes - at) (kind_of (mark_at bytes at)).size t in omega arith, bad)

  -- The specification is the one at the start.
  abbrev Of : Start → Type 0
  Of nothing = Unit {0}
  Of (begun s o m n k) = s ≡ spec_in bytes

  begins_of : (b : Start) → Begins bytes b → Of b
  unfolding Begins Found
  begins_of nothing h = tt
  begins_of (begun s o m n k) h = (rw h.spec at (found_at bytes 0)).same

  -- One step more leads to one record more, or to an answer that the bytes bear out.
  abbrev Outcome : Step → Type 0
  Outcome (Continue next) = (b : Start) × (next ≡ state_of bytes b) × Of b
  Outcome (Break r) = Told bytes r

  module _ (b : Start) (begins : Begins bytes b) where
    abbrev so : Sofar
    so = state_of bytes b

    abbrev mark : ℕ
    mark = mark_at bytes so.at

    upto : Upto bytes so.at b
    upto = record { begins = begins; due = sym (state_at bytes b) }

    module _ (there : so.at + 2 ≤ length bytes) where
      marked : Marked bytes so.at b
      marked = record { upto = upto; mark = there }

      turned_says : 0 < turned b mark → Says (turned b mark) bytes so.at
      turned_says some = go (may_follow b mark) (early b mark) (crowded b mark) refl refl refl some
        where
          go : (a c d : Bool) → may_follow b mark ≡ a → early b mark ≡ c → crowded b mark ≡ d
              → 0 < pick a (pick c 5 (pick d 4 0)) 2 → Says (pick a (pick c 5 (pick d 4 0)) 2) bytes so.at
          go false c d e f g some = (b, marked, e)
          go true true d e f g some = (b, marked, e, f)
          go true false true e f g some = (b, marked, e, f, g)
          go true false false e f g some = absurd (omega arith)

      module _ (fit : fits b mark ≡ true) where
        fitting : Fitting bytes so.at b
        fitting = record { marked = marked; fit = fit }

        refused_told : (n place : ℕ) → record_at bytes so.at ≡ unread n place → Says n bytes so.at
        unfolding Found
        refused_told n place e =
            let h = rw e at (found_at bytes so.at) in
            go (refused_record b so.at n there fit h.low (ap number_of e))
          where
            go : Cut so.at n → Says n bytes so.at
            go (inl (one, short)) = subst (λ n. Says n bytes so.at) (sym one) (inr (b, fitting, short))
            go (inr (three, whole, bad)) = subst (λ n. Says n bytes so.at) (sym three) (b, fitting, whole, bad)

        -- A specification, a folio or a line more.
        abbrev kind : Kind
        kind = kind_of mark

        spec_told : (g : Spec) → record_at bytes so.at ≡ Ok (found.Spec g) → Outcome (Continue (with_folio (moved so kind) 1))
        unfolding Found state_of due_at
        spec_told g e =
            let h = rw e at (found_at bytes so.at) in
            let is = spec_fits b g.edition (subst (λ k. fits b k ≡ true) h.marked fit) in
            let start : so.at ≡ 0 = ap (λ b. (state_of bytes b).at) is in
            let same : g ≡ spec_in bytes = h.same ∙ ap (λ at. spec_of (is_second bytes at) bytes at) start in
            let more = ap (λ b. with_folio (moved (state_of bytes b) (kind_of (spec_mark g.edition))) 1) is ∙ spec_more bytes g in
            (begun g unstated 0 0 0, ap (λ k. with_folio (moved so (kind_of k)) 1) h.marked ∙ more, same)

        folio_told : (f : ℕ) → record_at bytes so.at ≡ Ok (found.Folio f) → Outcome (Continue (with_folio (moved so kind) f))
        unfolding Found
        folio_told f e =
            let h = rw e at (found_at bytes so.at) in
            let (s, is) = folio_fits b (subst (λ k. fits b k ≡ true) h.marked fit) in
            let more = ap (λ b. with_folio (moved (state_of bytes b) (kind_of FO)) f) is ∙ folio_more bytes s f in
            (begun s (stated f) 0 0 0, ap (λ k. with_folio (moved so (kind_of k)) f) h.marked ∙ more, subst Of is (begins_of b begins))

        line_told : (l : Line) → record_at bytes so.at ≡ Ok (found.Line l) → Outcome (Continue (with_line (moved so kind)))
        unfolding Found
        line_told l e =
            let h = rw e at (found_at bytes so.at) in
            let (s, o, m, is, few) = line_fits b (subst (λ k. fits b k ≡ true) h.marked fit) in
            let more = ap (λ b. with_line (moved (state_of bytes b) (kind_of TL))) is ∙ line_more bytes s o m in
            (begun s o (suc m) 0 0, ap (λ k. with_line (moved so (kind_of k))) h.marked ∙ more, subst Of is (begins_of b begins))

        -- A figure or a table more.
        figure_next : (f : Float) → record_at bytes so.at ≡ Ok (found.Figure f) → Outcome (Continue (with_figure (moved so kind) f.cite))
        unfolding Found due_at
        figure_next f e =
            let h = rw e at (found_at bytes so.at) in
            let (s, o, m, n, is, few) = figure_fits b f.kept (subst (λ k. fits b k ≡ true) h.marked fit) in
            let figures = (galley_in s o (suc m) (suc n) 0).figures in
            let at : so.at ≡ offset figures (suc n) = let e = state_at bytes b ∙ ap due_at is in omega arith in
            let cite : f.cite ≡ field_of bytes figures cite_at (suc n) =
            ap (λ (f : Float). f.cite) h.same ∙ ap (λ at. word_at bytes (at + cite_at)) at in
            let as_figure = ap (λ k. with_figure (moved so k) f.cite) (ap kind_of h.marked ∙ figure_kind f.kept) in
            let more = ap (λ b. with_figure (moved (state_of bytes b) (kind_of FG)) f.cite) is ∙ figure_more bytes s o m n f.cite cite in
            (begun s o (suc m) (suc n) 0, as_figure ∙ more, subst Of is (begins_of b begins))

        table_next : (f : Float) → record_at bytes so.at ≡ Ok (found.Table f) → Outcome (Continue (with_table (moved so kind) f.cite))
        unfolding Found due_at
        table_next f e =
            let h = rw e at (found_at bytes so.at) in
            let (s, o, m, n, k, is, few) = table_fits b (subst (λ k. fits b k ≡ true) h.marked fit) in
            let tables = (galley_in s o (suc m) n (suc k)).tables in
            let at : so.at ≡ offset tables (suc k) = let e = state_at bytes b ∙ ap due_at is in omega arith in
            let cite : f.cite ≡ field_of bytes tables cite_at (suc k) =
            ap (λ (f : Float). f.cite) h.same ∙ ap (λ at. word_at bytes (at + cite_at)) at in
            let as_table = ap (λ k. with_table (moved so (kind_of k)) f.cite) h.marked in
            let more = ap (λ b. with_table (moved (state_of bytes b) (kind_of TB)) f.cite) is ∙ table_more bytes s o m n k f.cite cite in
            (begun s o (suc m) n (suc k), as_table ∙ more, subst Of is (begins_of b begins))

        -- A float is rightly cited, or it is not.
        cited_told : (f : Float) (last : ℕ) (next : Sofar) → FloatAt bytes b so.at f last → (moved so kind).last ≡ last → Outcome (Continue next)
            → Outcome (cited (moved so kind) f.cite next so.at)
        unfolding cited Told
        cited_told f last next here is on =
            let cite = f.cite in
            let lines = state_lines bytes b in
            pick_has Outcome (eqb cite 0 || ltb so.lines cite) _ _ (λ none. (b, f, last, fitting, here, no_line cite none)) (λ one.
            let w = or_false (eqb cite 0) (ltb so.lines cite) one in
            let some = eqb-false cite 0 w.0 in
            let low = ltb-false so.lines cite w.1 in
            pick_has Outcome (ltb cite (moved so kind).last) _ _
            (λ soon. (b, f, last, fitting, here, omega arith, omega arith, let h = ltb-true cite (moved so kind).last soon in omega arith))
            (λ _. on))
          where
            no_line : (cite : ℕ) → (eqb cite 0 || ltb so.lines cite) ≡ true → (cite ≡ 0) ⊎ (lines_in b < cite)
            no_line cite none = go (or_cases (eqb cite 0) (ltb so.lines cite) none)
              where
                go : (eqb cite 0 ≡ true) ⊎ (ltb so.lines cite ≡ true) → (cite ≡ 0) ⊎ (lines_in b < cite)
                go (inl e) = inl (eqb-true cite 0 e)
                go (inr e) = inr (omega (arith, state_lines bytes b, ltb-true so.lines cite e))

        -- The end is the last, or it is not.
        end_told : record_at bytes so.at ≡ Ok found.End → Outcome (closed bytes (moved so kind))
        unfolding Found closed kind_of Told
        end_told e =
            let h = rw e at (found_at bytes so.at) in
            let (s, o, m, n, k, is) = end_fits b (subst (λ k. fits b k ≡ true) h.marked fit) in
            let ended : Ended bytes so.at b = record { fitting = fitting; here = e } in
            rw h.marked
            (pick_has Outcome (ltb (so.at + 2) (length bytes)) _ _
            (λ more. (b, so.at, ended, refl, ltb-true (so.at + 2) (length bytes) more)) (λ none.
            let last = ltb-false (so.at + 2) (length bytes) none in
            let same : s ≡ spec_in bytes = subst Of is (begins_of b begins) in (
              s,
              o,
              suc m,
              n,
              k,
              so.at,
              subst (λ b. Ended bytes so.at b) is ended,
              omega arith,
              ap (λ s. galley_so_far s so) (sym same) ∙ ap (λ b. galley_so_far s (state_of bytes b)) is ∙ state_galley bytes s o (suc m) n k,
            )))

        after_told : (r : Read) → record_at bytes so.at ≡ r → Outcome (after bytes (moved so kind) so.at r)
        unfolding after Told
        after_told (Ok (found.Spec g)) e = spec_told g e
        after_told (Ok (found.Folio f)) e = folio_told f e
        after_told (Ok (found.Line l)) e = line_told l e
        after_told (Ok (found.Figure f)) e =
            cited_told f (last_cited bytes (figures_in b)) _ (inl (e, refl)) (figure_marked bytes b begins f fit e) (figure_next f e)
        after_told (Ok (found.Table f)) e =
            cited_told f (last_cited bytes (tables_in b)) _ (inr (e, refl)) (table_marked bytes b begins f fit e) (table_next f e)
        after_told (Ok found.End) e = end_told e
        after_told (Err r) e = refused_told r.number r.place e

    -- The next step.
    step_told : Outcome (step_from bytes so)
    unfolding step_from Told
    step_told =
        let number = unfit (kind_of mark) so in
        let told = unfit_told bytes b (begins_few bytes b begins) mark in
        pick_has Outcome (ltb (length bytes - so.at) 2) _ _
        (λ short. inl (b, upto, let h = ltb-true (length bytes - so.at) 2 short in omega arith)) (λ two.
        let there : so.at + 2 ≤ length bytes = let h = ltb-false (length bytes - so.at) 2 two in omega arith in
        pick_has Outcome (ltb 0 number) _ _
        (λ some.
        let h = ltb-true 0 number some in
        subst (λ n. Says n bytes so.at) (sym told) (turned_says there (omega arith))) (λ none.
        let zero_number = ltb-false 0 number none in
        after_told there (turned_fits b mark (omega arith)) (record_at bytes so.at) refl))

  -- What is known where reading has come to says that these records stand there.
  state_stage : (s : Spec) (o : Stated) (m n k : ℕ) → spec ≤ (state_of bytes (begun s o m n k)).stage
  unfolding state_of
  state_stage s unstated zero zero zero = omega arith
  state_stage s (stated f) zero zero zero = omega arith
  state_stage s o (suc m) zero zero = omega arith
  state_stage s o m (suc n) zero = omega arith
  state_stage s o m n (suc k) = omega arith

  module _ (s : Spec) (same : s ≡ spec_in bytes) (m n k : ℕ) where
    folio_reached : (o : Stated) → Reached bytes (state_of bytes (begun s o m n k)) → FolioAt bytes (spec_size s.edition) o
    unfolding head_of
    folio_reached unstated r = tt
    folio_reached (stated f) r = go (r.head.opens (state_stage s (stated f) m n k))
      where
        so : Sofar
        so = state_of bytes (begun s (stated f) m n k)

        size : spec_size (spec_in bytes).edition ≡ spec_size s.edition
        size = ap (λ (s : Spec). spec_size s.edition) (sym same)

        is : galley_so_far s so ≡ galley_in s (stated f) m n k
        is = state_galley bytes s (stated f) m n k

        go : Opening bytes (galley_so_far (spec_in bytes) so) → record_at bytes (spec_size s.edition) ≡ Ok (found.Folio f)
        go (inl (one, first)) = let e = ap (λ (g : Galley). g.text.first) is in absurd (omega (arith, size))
        go (inr (e, first)) =
            ap (record_at bytes) (sym size) ∙ e ∙ ap (λ (g : Galley). Ok (found.Folio g.folio)) is

    stands_begun : (o : Stated) → Reached bytes (state_of bytes (begun s o m n k)) → Begun bytes s o m n k
    stands_begun o r =
        let so = state_of bytes (begun s o m n k) in
        let is : galley_so_far s so ≡ galley_in s o m n k = state_galley bytes s o m n k in
        let lines = ap (λ (g : Galley). g.text.count) is in
        let figures = ap (λ (g : Galley). g.figures) is in
        let tables = ap (λ (g : Galley). g.tables) is in
        record {
          spec = r.head.spec_read (state_stage s o m n k) ∙ ap (λ s. Ok (found.Spec s)) (sym same);
          folio = folio_reached o r;
          few = omega (arith, lines, r.shape.few_lines);
          lines = subst (λ st. Reads bytes st (λ at. found.Line (line_of bytes at))) (ap (λ (g : Galley). g.text) is) r.text;
          figures =
              record {
                few = omega (arith, ap (λ (st : Stream). st.count) figures, r.shape.few_figures);
                read = subst (λ st. Reads bytes st (λ at. found.Figure (float_of (is_kept bytes at) bytes at))) figures r.figures.read;
                citations =
                    subst (λ l. SoundCitations bytes (galley_in s o m n k).figures l) lines
                    (subst (λ st. SoundCitations bytes st so.lines) figures r.figures.citations);
              };
          tables =
              record {
                few = omega (arith, ap (λ (st : Stream). st.count) tables, r.shape.few_tables);
                read = subst (λ st. Reads bytes st (λ at. found.Table (float_of false bytes at))) tables r.tables.read;
                citations =
                    subst (λ l. SoundCitations bytes (galley_in s o m n k).tables l) lines
                    (subst (λ st. SoundCitations bytes st so.lines) tables r.tables.citations);
              };
        }

  reached_begins : (b : Start) → Of b → Reached bytes (state_of bytes b) → Begins bytes b
  unfolding Begins
  reached_begins nothing same r = tt
  reached_begins (begun s o m n k) same r = stands_begun s same m n k o r

  -- Reading from there on answers what the bytes bear out.
  told_from : (most : ℕ) (b : Start) → Begins bytes b → Underway bytes (state_of bytes b) → length bytes - (state_of bytes b).at < most
      → Told bytes (galley_of bytes)
  told_from zero b begins u few = absurd (omega arith)
  told_from (suc most) b begins u few = go (step_from bytes (state_of bytes b)) refl (step_told b begins) (told_from most)
    where
      go : (step : Step) → step_from bytes (state_of bytes b) ≡ step → Outcome step
          → ((b : Start) → Begins bytes b → Underway bytes (state_of bytes b) → length bytes - (state_of bytes b).at < most → Told bytes (galley_of bytes))
          → Told bytes (galley_of bytes)
      go (Break r) e told on = subst (λ r. Told bytes r) (underway_done u e) told
      go (Continue next) e (b', is, same) on =
          let e' : step_from bytes (state_of bytes b) ≡ Continue (state_of bytes b') = e ∙ ap Continue is in
          let u' = underway_on u e' in
          on b' (reached_begins b' same u'.reached) u' (omega (arith, underway_farther u e'))

  pub told : Told bytes (galley_of bytes)
  unfolding Begins state_of
  told = told_from (suc (length bytes)) nothing tt (underway_none bytes) (omega arith)
