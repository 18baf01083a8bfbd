-- The floats between two columns are figures and tables: their heights, and what they are alone and beside lines.
use Prim.Native.Nat.{ℕ, pred, ◌+◌, ◌*◌, ◌<◌}
use Rattle.std.proofs.Common.{le_refl, arith, sym, ◌∙◌, le-ltb}
use Rattle.std.specs.Prelude.{◌≡◌, refl, Bool, true, false, ◌&&◌, List}
use Rattle.std.proofs.Math.Path.{ap}
use Rattle.std.proofs.Math.Dec.{ltb}
use Rattle.model.specs.Gather.{one}
use Rattle.model.specs.Galley.{Stream, count}
use Rattle.model.specs.Height.{has, stacked}
use Rattle.model.specs.Rules.{floor}
use Rattle.theorems.specs.pages.Graph.{full}
use Rattle.galley.specs.declared.Spec.{Spec}
use Rattle.galley.specs.declared.Galley.{Galley}
use Rattle.galley.specs.Model.{floats_of, model_of}
use Rattle.galley.specs.Sound.{Sound}
use Rattle.blocks.specs.declared.heights.Heights.{Heights}
use Rattle.blocks.specs.Heights.{no_heights, Stacked}
use Rattle.blocks.specs.laws.Stacked.{stacked_none}
use Rattle.blocks.specs.laws.Heights.{Low, stacked_nothing, stacked_small}
use Rattle.blocks.specs.laws.Counts.{sum_floats, count_figures, count_tables}
use Rattle.places.specs.Columns.{place_at}
use Rattle.candidates.specs.Beside.{floats_high, float_kinds, alone, Bears}
use Rattle.rules.specs.Parts.{all_placed}
use Rattle.candidates.specs.Read.{search_of, columns_in, counts_at, row_of, load_of}
use Rattle.starts.specs.Sweep.{Layable, floats_alone}
use Rattle.candidates.proofs.laws.Heights.{beside_none}
use Rattle.candidates.proofs.laws.Columns.{row_figures, row_tables, tables_low, within_at, place_at_lem, proper_at}
use Rattle.rules.specs.laws.Page.{full_of}

-- Of two kinds both are apart by one separation.
kinds_apart : (x y : Bool) (separation : ℕ) → pred (one x + one y) * separation ≡ one (x && y) * separation
kinds_apart true true separation = refl
kinds_apart true false separation = refl
kinds_apart false true separation = refl
kinds_apart false false separation = refl

and_false : (x : Bool) → (x && false) ≡ false
and_false true = refl
and_false false = refl

laid_out : (spec : Spec) (figures tables : Heights) (both : Bool)
    → ((floats_alone spec figures tables both).tight ≡ figures.tight + tables.tight + one both * spec.smin)
    × ((floats_alone spec figures tables both).loose ≡ figures.loose + tables.loose + one both * spec.smax)
unfolding floats_alone
laid_out spec figures tables true = (refl, refl)
laid_out spec figures tables false = (omega arith, omega arith)

module _ (bytes : List ℕ) (g : Galley) where
  -- What a column has placed.
  counted_figures : (c : ℕ) → count (place_at (model_of bytes g) 0 c) 1 ≡ (counts_at g 0 c).figures
  counted_figures c = ap (λ v. count v 1) (place_at_lem bytes g 0 c) ∙ count_figures g (counts_at g 0 c)

  counted_tables : (c : ℕ) → count (place_at (model_of bytes g) 0 c) 2 ≡ (counts_at g 0 c).tables
  counted_tables c = ap (λ v. count v 2) (place_at_lem bytes g 0 c) ∙ count_tables g (counts_at g 0 c) (proper_at g 0 c)

  module _ (b q : ℕ) where
    -- The heights of figures and of tables, with no separation.
    high_at : (gap : Stream → ℕ → ℕ)
        → floats_high (model_of bytes g) gap b q
        ≡ stacked (floats_of bytes g.figures) (gap (floats_of bytes g.figures)) (counts_at g 0 b).figures (counts_at g 0 q).figures
        + stacked (floats_of bytes g.tables) (gap (floats_of bytes g.tables)) (counts_at g 0 b).tables (counts_at g 0 q).tables
    unfolding floats_high
    high_at gap =
        sum_floats g
        (λ s.
        stacked ((model_of bytes g).stream s) (gap ((model_of bytes g).stream s)) (count (place_at (model_of bytes g) 0 b) s)
        (count (place_at (model_of bytes g) 0 q) s))
        (λ none.
        stacked_none (floats_of bytes g.tables) (gap (floats_of bytes g.tables)) (count (place_at (model_of bytes g) 0 b) 2)
        (count (place_at (model_of bytes g) 0 q) 2) (omega (arith, counted_tables q, proper_at g 0 q none)))
        ∙ rw (counted_figures b, counted_figures q, counted_tables b, counted_tables q)

    -- The kinds that there are.
    kinds_at : float_kinds (model_of bytes g) b q
        ≡ one (ltb (counts_at g 0 b).figures (counts_at g 0 q).figures) + one (ltb (counts_at g 0 b).tables (counts_at g 0 q).tables)
    unfolding float_kinds has
    kinds_at =
        sum_floats g (λ s. one (ltb (count (place_at (model_of bytes g) 0 b) s) (count (place_at (model_of bytes g) 0 q) s)))
        (λ none.
        ap one (le-ltb (count (place_at (model_of bytes g) 0 b) 2) (count (place_at (model_of bytes g) 0 q) 2)
        (omega (arith, counted_tables q, proper_at g 0 q none))))
        ∙ rw (counted_figures b, counted_figures q, counted_tables b, counted_tables q)

    -- Alone they have the heights that are computed.
    pub alone_at : (figures tables : Heights) (both : Bool)
        → Stacked (floats_of bytes g.figures) (counts_at g 0 b).figures (counts_at g 0 q).figures figures
        → Stacked (floats_of bytes g.tables) (counts_at g 0 b).tables (counts_at g 0 q).tables tables
        → both ≡ (ltb (counts_at g 0 b).figures (counts_at g 0 q).figures && ltb (counts_at g 0 b).tables (counts_at g 0 q).tables)
        → ((floats_alone g.spec figures tables both).tight ≡ alone (model_of bytes g) (λ st. st.least) g.spec.smin b q)
        × ((floats_alone g.spec figures tables both).loose ≡ alone (model_of bytes g) (λ st. st.most) g.spec.smax b q)
    unfolding alone
    alone_at figures tables both f t e =
        let (tight, loose) = laid_out g.spec figures tables both in
        let x = ltb (counts_at g 0 b).figures (counts_at g 0 q).figures in
        let y = ltb (counts_at g 0 b).tables (counts_at g 0 q).tables in
        let least = ap (λ n. pred n * g.spec.smin) kinds_at ∙ kinds_apart x y g.spec.smin ∙ ap (λ z. one z * g.spec.smin) (sym e) in
        let most = ap (λ n. pred n * g.spec.smax) kinds_at ∙ kinds_apart x y g.spec.smax ∙ ap (λ z. one z * g.spec.smax) (sym e) in (
          omega (arith, tight, least, high_at (λ st. st.least), f.tight, t.tight),
          omega (arith, loose, most, high_at (λ st. st.most), f.loose, t.loose),
        )

  -- So have figures alone, from the column of their row with as many tables as the end.
  pub figures_alone : (b q : ℕ) (figures : Heights) → Stacked (floats_of bytes g.figures) b (counts_at g 0 q).figures figures
      → figures.tight ≡ alone (model_of bytes g) (λ st. st.least) g.spec.smin (row_of g b + (counts_at g 0 q).tables) q
  figures_alone b q figures f =
      let t = (counts_at g 0 q).tables in
      let from = row_of g b + t in
      let x : (counts_at g 0 from).figures ≡ b = row_figures g 0 b t (tables_low g 0 q) in
      let y : (counts_at g 0 from).tables ≡ t = row_tables g 0 b t (tables_low g 0 q) in
      let mixed : false ≡ (ltb (counts_at g 0 from).figures (counts_at g 0 q).figures && ltb (counts_at g 0 from).tables t) =
      rw (le-ltb (counts_at g 0 from).tables t (omega arith), and_false) refl in
      let same = alone_at from q figures no_heights false (rw x f)
      (rw y (stacked_nothing (floats_of bytes g.tables) t t (le_refl _))) mixed in
      omega (arith, same.0, (laid_out g.spec figures no_heights false).0)

  -- The heights of both up to a column can be added.
  pub floats_lay : Sound bytes g → (b t q : ℕ) (figures tables : Heights) → q < columns_in g
      → Stacked (floats_of bytes g.figures) b (counts_at g 0 q).figures figures
      → Stacked (floats_of bytes g.tables) t (counts_at g 0 q).tables tables → Layable g.spec figures tables
  floats_lay sound b t q figures tables column f h =
      let spec = sound.spec_ranged in
      let within = within_at g 0 q (omega arith) column in
      let first = stacked_small bytes g.figures b (counts_at g 0 q).figures figures sound.figures.sound within.figures f in
      let second = stacked_small bytes g.tables t (counts_at g 0 q).tables tables sound.tables.sound within.tables h in
      let n = sound.figures.few in
      let k = sound.tables.few in
      record {
        smin = omega (arith, spec.smins, spec.smaxs);
        smax = spec.smaxs;
        first = record { tight = omega (arith, first.tight); loose = omega (arith, first.loose) };
        second = record { tight = omega (arith, second.tight); loose = omega (arith, second.loose) };
      }

  -- Pages within a column have nothing beside their lines.
  pub bears_own : (w : List ℕ) (i q side least first : ℕ) → least ≡ floor (model_of bytes g) (all_placed g (counts_at g i q))
      → Bears (search_of bytes g w i q side) q (load_of g 0 no_heights least first)
  bears_own w i q side least first l =
      record {
        tight = omega (arith, beside_none (model_of bytes g) (λ st. st.least) g.spec.smin q);
        loose = omega (arith, beside_none (model_of bytes g) (λ st. st.most) g.spec.smax q);
        htmin =
            l ∙ ap (floor (model_of bytes g)) (sym (full_of bytes g (counts_at g i q) (proper_at g i q)) ∙ ap (full (model_of bytes g)) (sym (place_at_lem bytes g i q)));
        htmax = refl;
      }

-- They are low.
pub alone_low : (spec : Spec) (figures tables : Heights) (both : Bool) → Layable spec figures tables → Low 60000000 (floats_alone spec figures tables both)
unfolding floats_alone
alone_low spec figures tables true h =
    record {
      tight = omega (arith, h.smin, h.first.tight, h.second.tight);
      loose = omega (arith, h.smax, h.first.loose, h.second.loose);
    }
alone_low spec figures tables false h =
    record { tight = omega (arith, h.first.tight, h.second.tight); loose = omega (arith, h.first.loose, h.second.loose) }
