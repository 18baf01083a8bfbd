-- Lines, figures and tables that were written are read one after the other, to the end.
use Prim.Native.Nat.{◌<◌, ℕ, zero, suc, ◌+◌, ◌*◌, ◌≤◌}
use Rattle.std.proofs.Common.{arith, sym, ◌∙◌, eq-eqb, ne_eqb}
use Rattle.std.specs.Prelude.{List, [], ◌∷◌, ◌++◌, ◌≡◌, eqb, Ok}
use Rattle.std.proofs.Math.Path.{refl, ap}
use Rattle.std.proofs.Math.ListN.{length, length-append}
use Rattle.model.specs.Gather.{pick}
use Rattle.galley.specs.Place.{spec, line, figure, table, TL, FG, TB, ED, row_of, kind_of}
use Rattle.galley.specs.Range.{FigureRanged, TableRanged}
use Rattle.galley.specs.Whole.{moved, with_figure, with_table, settled, step_from, read_from}
use Rattle.galley.specs.Write.{line_bytes, figure_bytes, table_bytes, LinesRanged, FloatsRanged}
use Rattle.galley.proofs.laws.Place.{Fits}
use Rattle.galley.proofs.laws.Reached.{spec_in, Counted, counted_more}
use Rattle.galley.proofs.laws.Each.{Goes}
use Rattle.galley.proofs.laws.Stand.{line_step, figure_step, table_step, end_step}
use Rattle.galley.proofs.laws.Write.{line_after, figure_after, table_after, end_after}
use Rattle.galley.specs.declared.Spec.{Spec}
use Rattle.galley.specs.declared.Line.{Line}
use Rattle.galley.specs.declared.Float.{Float}
use Rattle.galley.specs.declared.Galley.{Galley}
use Rattle.galley.specs.declared.Sofar.{Sofar}
use Rattle.std.specs.declared.ops.ControlFlow.TheVariants.{Continue}

-- The galley of a specification and a first folio, with so many lines from an offset on, and so many figures and tables after them.
abbrev pub galley_with : Spec → ℕ → ℕ → ℕ → ℕ → ℕ → Galley
galley_with g folio first lines figures tables =
    record {
      spec = g;
      folio = folio;
      text = record { first = first; count = lines };
      figures = record { first = first + lines * 18; count = figures };
      tables = record { first = first + lines * 18 + figures * 18; count = tables };
    }

-- That first folio, and so many blocks from that offset on, were read.
pub record Holds (folio first lines figures tables : ℕ) (so : Sofar) : Type 0 where
  pub folios : so.folio ≡ folio
  pub firsts : so.first ≡ first
  pub line : so.lines ≡ lines
  pub figure : so.figures ≡ figures
  pub table : so.tables ≡ tables

-- So many blocks of a stage were read, of as many as there are: the next one is due.
pub record Come (earliest stage due read left total : ℕ) (so : Sofar) : Type 0 where
  pub low : earliest ≤ so.stage
  pub high : so.stage ≤ stage
  pub counted : Counted stage read so
  pub at : so.at ≡ due
  pub sum : read + left ≡ total

-- With one more of the stage there is one more.
module _ {earliest stage due read left total : ℕ} {so : Sofar} (c : Come earliest stage due read (suc left) total so) where
  come_more : pick (eqb stage so.stage) (so.count + 1) 1 ≡ read + 1
  come_more = counted_more stage read so c.counted c.high

  come_on : (farther : ℕ) (next : Sofar) → earliest ≤ stage → next.stage ≡ stage → next.count ≡ read + 1 → next.at ≡ farther
      → Come earliest stage farther (read + 1) left total next
  come_on farther next low same count at =
      record {
        low = omega arith;
        high = omega arith;
        counted = record { here = λ _. count; before = λ z. absurd (omega arith) };
        at = at;
        sum = omega (arith, c.sum);
      }

-- Before the first of a stage all of it is still to come.
pub come_first : (earliest stage due left : ℕ) (so : Sofar) → earliest ≤ so.stage → so.stage < stage → so.at ≡ due
    → Come earliest stage due 0 left left so
come_first earliest stage due left so low early at =
    record {
      low = low;
      high = omega arith;
      counted = record { here = λ e. absurd (omega arith); before = λ z. refl };
      at = at;
      sum = omega arith;
    }

-- These lines are still to come.
pub record LinesLeft (folio first total : ℕ) (ls : List Line) (so : Sofar) : Type 0 where
  pub read : ℕ
  pub holds : Holds folio first read 0 0 so
  pub come : Come spec line (first + read * 18) read (length ls) total so
  pub ranged : LinesRanged ls

-- These floats of one stream are still to come, from a start on.
pub record FloatsLeft (Held : ℕ → Sofar → Type 0) (Fine : Float → Type 0) (lines stage start total : ℕ) (fs : List Float) (so : Sofar) : Type 0 where
  pub read : ℕ
  pub held : Held read so
  pub text : so.lines ≡ lines
  pub come : Come line stage (start + read * 18) read (length fs) total so
  pub ranged : FloatsRanged Fine lines (pick (eqb stage so.stage) so.last 0) fs

pub lines_go : (bytes before rest : List ℕ) (folio first total : ℕ) (l : Line) (ls : List Line) (so : Sofar) → total ≤ 4000
    → bytes ≡ before ++ line_bytes l rest → length before ≡ so.at → LinesLeft folio first total (l ∷ ls) so
    → Goes bytes (LinesLeft folio first total) so ls
unfolding LinesRanged kind_of
lines_go bytes before rest folio first total l ls so few e at left =
    let c = left.come in
    let h = left.holds in
    let here = rw (← e, at) at (line_after before rest l left.ranged.0) in
    let fits : Fits (kind_of TL) so
    = record { soon = c.low; late = c.high; timely = λ l. absurd (omega arith); few = λ s. let n = c.counted.here s in omega arith } in
    let far : so.at + 18 ≡ first + (left.read + 1) * 18 = omega (arith, c.at) in
    record {
      next = _;
      on = line_step bytes so l here fits;
      left =
          record {
            read = left.read + 1;
            holds = record { folios = h.folios; firsts = h.firsts; line = come_more c; figure = h.figure; table = h.table };
            come = come_on c _ _ (omega arith) refl (come_more c) far;
            ranged = left.ranged.1;
          };
      due = refl;
    }

-- A float of a stream goes on to those after it, however it is written.
module _ (bytes : List ℕ) (Held : ℕ → Sofar → Type 0) (Fine : Float → Type 0) (lines stage start total : ℕ) (f : Float) (fs : List Float)
    (so : Sofar) (left : FloatsLeft Held Fine lines stage start total (f ∷ fs) so) where
  -- It fits as long as there are no more than there may be.
  floats_fit : (mark most : ℕ) → kind_of mark ≡ row_of stage spec stage most 18 → 1 ≤ lines → total ≤ most → Fits (kind_of mark) so
  floats_fit mark most row some few =
      let c = left.come in
      let text = left.text in
      rw row
      (record {
        soon = omega (arith, c.low);
        late = c.high;
        timely = λ l. omega arith;
        few = λ s. let n = c.counted.here s in let sum = c.sum in omega arith;
      })

  floats_go : (next : Sofar) → line ≤ stage → next.stage ≡ stage → next.count ≡ pick (eqb stage so.stage) (so.count + 1) 1
      → next.last ≡ f.cite → next.at ≡ so.at + 18 → next.lines ≡ so.lines → Held (left.read + 1) next → step_from bytes so ≡ Continue next
      → Goes bytes (FloatsLeft Held Fine lines stage start total) so fs
  unfolding FloatsRanged
  floats_go next low same count last far text held on =
      let c = left.come in
      record {
        next = next;
        on = on;
        left =
            record {
              read = left.read + 1;
              held = held;
              text = text ∙ left.text;
              come = come_on c _ next low same (count ∙ come_more c) (omega (arith, c.at));
              ranged = rw (eq-eqb stage next.stage (sym same), last) left.ranged.4;
            };
        due = far;
      }

-- Before the first of a stream all of it is still to come.
pub floats_due : (Held : ℕ → Sofar → Type 0) (Fine : Float → Type 0) (lines stage start : ℕ) (fs : List Float) (so : Sofar) → Held 0 so
    → so.lines ≡ lines → line ≤ so.stage → so.stage < stage → so.at ≡ start → FloatsRanged Fine lines 0 fs
    → FloatsLeft Held Fine lines stage start (length fs) fs so
floats_due Held Fine lines stage start fs so held text low early at ranged =
    record {
      read = 0;
      held = held;
      text = text;
      come = come_first line stage (start + 0 * 18) (length fs) so low early (omega arith);
      ranged = rw (ne_eqb stage so.stage (λ e. omega arith)) ranged;
    }

module _ (bytes : List ℕ) (folio first lines : ℕ) (some : 1 ≤ lines) (few : lines ≤ 4000) where
  -- The figures that are still to come, and the tables after so many figures.
  abbrev pub FiguresLeft : ℕ → List Float → Sofar → Type 0
  FiguresLeft = FloatsLeft (λ n. Holds folio first lines n 0) FigureRanged lines figure (first + lines * 18)

  abbrev pub TablesLeft : ℕ → ℕ → List Float → Sofar → Type 0
  TablesLeft figures = FloatsLeft (Holds folio first lines figures) TableRanged lines table (first + lines * 18 + figures * 18)

  pub figures_go : (before rest : List ℕ) (total : ℕ) (f : Float) (fs : List Float) (so : Sofar) → total ≤ 200
      → bytes ≡ before ++ figure_bytes f rest → length before ≡ so.at → FiguresLeft total (f ∷ fs) so → Goes bytes (FiguresLeft total) so fs
  unfolding FloatsRanged kind_of
  figures_go before rest total f fs so all e at left =
      let h = left.held in
      let r = left.ranged in
      let text = left.text in
      let here = rw (← e, at) at (figure_after before rest f r.0 (omega (arith, r.2))) in
      floats_go bytes _ _ _ _ _ _ f fs so left (with_figure (moved so (kind_of FG)) f.cite) (omega arith) refl refl refl refl refl
      (record { folios = h.folios; firsts = h.firsts; line = h.line; figure = come_more left.come; table = h.table })
      (figure_step bytes so f here (floats_fit bytes _ _ _ _ _ _ f fs so left FG 200 refl some all) r.1 (omega (arith, r.2)) r.3)

  pub tables_go : (before rest : List ℕ) (figures total : ℕ) (f : Float) (fs : List Float) (so : Sofar) → total ≤ 50
      → bytes ≡ before ++ table_bytes f rest → length before ≡ so.at → TablesLeft figures total (f ∷ fs) so
      → Goes bytes (TablesLeft figures total) so fs
  unfolding FloatsRanged kind_of
  tables_go before rest figures total f fs so all e at left =
      let h = left.held in
      let r = left.ranged in
      let text = left.text in
      let here = rw (← e, at) at (table_after before rest f r.0 (omega (arith, r.2))) in
      floats_go bytes _ _ _ _ _ _ f fs so left (with_table (moved so (kind_of TB)) f.cite) (omega arith) refl refl refl refl refl
      (record { folios = h.folios; firsts = h.firsts; line = h.line; figure = h.figure; table = come_more left.come })
      (table_step bytes so f here (floats_fit bytes _ _ _ _ _ _ f fs so left TB 50 refl some all) r.1 (omega (arith, r.2)) r.3)

  -- The end comes after the last table.
  pub end_read : (before : List ℕ) (figures total turns : ℕ) (so : Sofar) → 1 ≤ turns → bytes ≡ before ++ 69 ∷ 68 ∷ []
      → length before ≡ first + lines * 18 + figures * 18 + total * 18 → TablesLeft figures total [] so
      → read_from bytes turns so ≡ Ok (galley_with (spec_in bytes) folio first lines figures total)
  unfolding read_from settled kind_of
  end_read before figures total zero so one e at left = absurd (omega arith)
  end_read before figures total (suc turns) so one e at left =
      let c = left.come in
      let h = left.held in
      let all : left.read ≡ total = omega (arith, c.sum) in
      let here : length before ≡ so.at = at ∙ rw (← all) (sym c.at) in
      let long : length bytes ≡ length before + 2 = ap length e ∙ simp length-append (omega arith) in
      let text = left.text in
      let fits : Fits (kind_of ED) so
      = record { soon = omega (arith, c.low); late = c.high; timely = λ l. omega arith; few = λ s. absurd (omega (arith, c.high)) } in
      rw (end_step bytes so (rw (← here, e) (end_after before [])) fits (omega arith))
      (rw (h.folios, h.firsts, h.line, h.figure, h.table, all))
