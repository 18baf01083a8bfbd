-- The heights of a page as they grow block by block: what is known of them on the way, and once the page is whole.
use Prim.Native.Nat.{ℕ, zero, suc, pred, ◌+◌, ◌-◌, ◌*◌, ◌≤◌, ◌<◌}
use Rattle.std.proofs.Math.Nat.{le_refl}
use native.Mathlib.Omega.{arith}
use Rattle.std.specs.Prelude.{◌≡◌, Bool, true, false, List, leb, ltb}
use Rattle.std.proofs.Common.{sym, ◌∙◌}
use Rattle.std.proofs.Math.Path.{ap}
use borrow.Author.Tests.{le-leb, lt-leb}
use Rattle.model.specs.Gather.{one, total}
use Rattle.model.specs.Galley as model
use Rattle.model.specs.Galley.{count}
use Rattle.model.specs.Height.{stacked, height, tightest, loosest}
use Rattle.model.specs.Rules.{floor, fits, fills}
use Rattle.model.proofs.laws.Height.{stacked_grows}
use Rattle.galley.specs.declared.Galley.{Galley}
use Rattle.galley.specs.Model.{floats_of, streams_of, model_of}
use Rattle.galley.specs.Range.{SpecRanged}
use Rattle.galley.specs.Sound.{Sound}
use Rattle.blocks.specs.declared.Counts.{Counts}
use Rattle.blocks.specs.Counts.{place_of, Proper, Within}
use Rattle.blocks.specs.Heights.{no_heights, Separable}
use Rattle.blocks.specs.laws.Counts.{sum_floats, count_lines, count_figures, count_tables}
use Rattle.blocks.specs.laws.Stacked.{stacked_none}
use Rattle.blocks.specs.laws.Heights.{separated_low}
use Rattle.rules.specs.Parts.{kinds_on, Ahead}
use Rattle.rules.specs.laws.Page.{kinds_of}
use Rattle.laying.specs.declared.Laid.{Laid}
use Rattle.laying.specs.Heights.{count_of, one_more, bare_page, is_laid, next_stream, with_one, with_next, Open}
use Rattle.laying.specs.laws.Next.{Under, placed, under_up, under_to, under_count, placed_more, left, left_less, next_left, all_laid, stream_within, stream_grown}

-- The height of the blocks of stream s from u to `on`.
abbrev pub part : List ℕ → Galley → (model.Stream → ℕ → ℕ) → Counts → Counts → ℕ → ℕ
part bytes g gap u on s = stacked (streams_of bytes g s) (gap (streams_of bytes g s)) (count_of u s) (count_of on s)

-- The height of a page from u to v with all its separations, and of its blocks those up to `on`.
unfoldable pub height_upto : List ℕ → Galley → (model.Stream → ℕ → ℕ) → ℕ → Counts → Counts → Counts → ℕ
height_upto bytes g gap separation u on v =
    pred (kinds_on u v) * separation + part bytes g gap u on 0 + part bytes g gap u on 1 + part bytes g gap u on 2

-- The page from u to v has its blocks up to a place between the two, and these are its heights with them.
pub record SoFar (bytes : List ℕ) (g : Galley) (u v : Counts) (laid : Laid) : Type 0 where
  pub from : Under u laid.on
  pub to : Under laid.on v
  pub tight : laid.heights.tight ≡ height_upto bytes g (λ st. st.least) g.spec.smin u laid.on v
  pub loose : laid.heights.loose ≡ height_upto bytes g (λ st. st.most) g.spec.smax u laid.on v
  pub tight_most : laid.heights.tight ≤ 300000 + 200000 * placed laid.on
  pub loose_most : laid.heights.loose ≤ 300000 + 200000 * placed laid.on

one_few : (b : Bool) → one b ≤ 1
one_few true = omega arith
one_few false = omega arith

-- There are three kinds at most.
kinds_few : (u v : Counts) → kinds_on u v ≤ 3
kinds_few u v =
    omega (
      arith,
      one_few (ltb u.lines v.lines),
      one_few (ltb u.figures v.figures),
      one_few (ltb u.tables v.tables),
    )

-- The separations of a page are few and small.
pub bare_separable : (g : Galley) (kinds : ℕ) → SpecRanged g.spec → kinds ≤ 3 → Separable g.spec (kinds - 1) no_heights
bare_separable g kinds spec most =
    record {
      few = omega arith;
      smin = omega (arith, spec.smins, spec.smaxs);
      smax = spec.smaxs;
      tight = omega arith;
      loose = omega arith;
    }

module _ (bytes : List ℕ) (g : Galley) (u v : Counts) where
  -- One block more.
  height_more : (gap : model.Stream → ℕ → ℕ) (separation : ℕ) (on : Counts) (s : ℕ)
      → height_upto bytes g gap separation u (one_more on s) v + part bytes g gap u on s
      ≡ height_upto bytes g gap separation u on v + stacked (streams_of bytes g s) (gap (streams_of bytes g s)) (count_of u s) (count_of on s + 1)
  unfolding height_upto
  height_more gap separation on zero = omega arith
  height_more gap separation on (suc zero) = omega arith
  height_more gap separation on (suc (suc s)) = omega arith

  -- Heights only grow.
  height_grows : (gap : model.Stream → ℕ → ℕ) (separation : ℕ) (on : Counts) → Under u on → Under on v
      → height_upto bytes g gap separation u on v ≤ height_upto bytes g gap separation u v v
  unfolding height_upto
  height_grows gap separation on from to = omega (arith, grows 0, grows 1, grows 2)
    where
      grows : (s : ℕ) → part bytes g gap u on s ≤ part bytes g gap u v s
      grows s =
          stacked_grows (streams_of bytes g s) (gap (streams_of bytes g s)) _ _ _ _ (le_refl _) (under_count s from) (under_count s to)

  -- With all blocks they are the page's.
  height_all : (gap : model.Stream → ℕ → ℕ) (separation : ℕ) (on : Counts) → Under on v → Under v on
      → height_upto bytes g gap separation u on v ≡ height_upto bytes g gap separation u v v
  unfolding height_upto
  height_all gap separation on to all = omega (arith, same 0, same 1, same 2)
    where
      same : (s : ℕ) → part bytes g gap u on s ≡ part bytes g gap u v s
      same s =
          let e : count_of on s ≡ count_of v s = omega (arith, under_count s to, under_count s all) in
          ap (stacked (streams_of bytes g s) (gap (streams_of bytes g s)) (count_of u s)) e

  -- At first there are the separations alone.
  pub so_far_bare : Sound bytes g → Ahead g u v → SoFar bytes g u v (bare_page g u v)
  unfolding bare_page height_upto
  so_far_bare so ahead =
      let low = separated_low (bare_separable g (kinds_on u v) so.spec_ranged (kinds_few u v)) in
      let one : pred (kinds_on u v) ≡ kinds_on u v - 1 = omega arith in
      record {
        from = record { lines = le_refl _; figures = le_refl _; tables = le_refl _ };
        to = record { lines = ahead.lines; figures = ahead.figures; tables = ahead.tables };
        tight = rw one (omega (arith, none (λ st. st.least) 0, none (λ st. st.least) 1, none (λ st. st.least) 2));
        loose = rw one (omega (arith, none (λ st. st.most) 0, none (λ st. st.most) 1, none (λ st. st.most) 2));
        tight_most = omega (arith, low.tight);
        loose_most = omega (arith, low.loose);
      }
    where
      none : (gap : model.Stream → ℕ → ℕ) (s : ℕ) → part bytes g gap u u s ≡ 0
      none gap s = stacked_none (streams_of bytes g s) (gap (streams_of bytes g s)) _ _ (le_refl _)

  -- The height of the whole page is the model's.
  height_of : (gap : model.Stream → ℕ → ℕ) (separation : ℕ) → Proper g u → Proper g v
      → height (model_of bytes g) gap separation (place_of g u) (place_of g v) ≡ height_upto bytes g gap separation u v v
  unfolding height total height_upto
  height_of gap separation pu pv =
      let M = model_of bytes g in
      let at : ℕ → ℕ
      = λ s. stacked (M.stream s) (gap (M.stream s)) (count (place_of g u) s) (count (place_of g v) s) in
      let tables = floats_of bytes g.tables in
      let counts : at 2 ≡ stacked tables (gap tables) u.tables v.tables = rw (count_tables g u pu, count_tables g v pv) in
      let none : g.tables.count ≡ 0 → at 2 ≡ 0
      = λ none. counts ∙ stacked_none tables (gap tables) u.tables v.tables (omega (arith, pu none, pv none)) in
      rw (
        sum_floats g at none,
        counts,
        kinds_of bytes g u v pu pv,
        count_lines g u,
        count_lines g v,
        count_figures g u,
        count_figures g v,
      )
      (omega arith)

  module _ {laid : Laid} (p : SoFar bytes g u v laid) where
    -- A block more of any stream.
    so_far_one : Sound bytes g → Within g v → (s : ℕ) → count_of laid.on s < count_of v s → SoFar bytes g u v (with_one bytes g u laid s)
    so_far_one so within s less =
        let grown =
        stream_grown so s (count_of u s) (count_of laid.on s) laid.heights (under_count s p.from)
        (omega (arith, stream_within so {v = v} s within)) in
        let tightly = height_more (λ st. st.least) g.spec.smin laid.on s in
        let loosely = height_more (λ st. st.most) g.spec.smax laid.on s in
        let blocks = placed_more laid.on s in
        record {
          from = under_up s p.from;
          to = under_to s less p.to;
          tight = omega (arith, grown.tight, p.tight);
          loose = omega (arith, grown.loose, p.loose);
          tight_most = omega (arith, grown.tight_most, p.tight_most);
          loose_most = omega (arith, grown.loose_most, p.loose_most);
        }

    module _ (so : Sound bytes g) (within : Within g v) (more : is_laid laid.on v ≡ false) where
      -- The next block can be put on,
      pub so_far_open : Open bytes g v laid
      so_far_open =
          let few : placed laid.on ≤ 4250
          = omega (arith, p.to.lines, p.to.figures, p.to.tables, within.lines, within.figures, within.tables, so.few_lines, so.figures.few, so.tables.few) in
          record {
            sound = so;
            within = within;
            more = more;
            tight = omega (arith, p.tight_most);
            loose = omega (arith, p.loose_most);
          }

      -- and then fewer are left.
      pub so_far_next : SoFar bytes g u v (with_next bytes g u v laid)
      unfolding with_next
      so_far_next = so_far_one so within (next_stream laid.on v) (next_left laid.on v more)

      pub so_far_less : left (with_next bytes g u v laid).on v < left laid.on v
      unfolding with_next
      so_far_less = left_less laid.on v (next_stream laid.on v) (next_left laid.on v more)

    module _ (pu : Proper g u) (pv : Proper g v) where
      -- Heights past htMax break rule 15, whatever blocks are left,
      pub page_over : g.spec.htmax < laid.heights.tight → fits (model_of bytes g) (place_of g u) (place_of g v) ≡ false
      unfolding fits tightest
      page_over over =
          lt-leb (tightest (model_of bytes g) (place_of g u) (place_of g v)) g.spec.htmax
          (omega (
            arith,
            p.tight,
            height_grows (λ st. st.least) g.spec.smin laid.on p.from p.to,
            height_of (λ st. st.least) g.spec.smin pu pv,
          ))

      module _ (all : is_laid laid.on v ≡ true) where
        -- and with all blocks the height is the model's, whatever the spaces:
        height_laid : (gap : model.Stream → ℕ → ℕ) (separation : ℕ)
            → height (model_of bytes g) gap separation (place_of g u) (place_of g v) ≡ height_upto bytes g gap separation u laid.on v
        height_laid gap separation =
            height_of gap separation pu pv ∙ sym (height_all gap separation laid.on p.to (all_laid laid.on v all))

        -- so any others keep rule 15,
        pub page_fits : laid.heights.tight ≤ g.spec.htmax → fits (model_of bytes g) (place_of g u) (place_of g v) ≡ true
        unfolding fits tightest
        page_fits low =
            le-leb (tightest (model_of bytes g) (place_of g u) (place_of g v)) g.spec.htmax
            (omega (arith, p.tight, height_laid (λ st. st.least) g.spec.smin))

        -- and the loosest is the model's,
        pub page_loose : loosest (model_of bytes g) (place_of g u) (place_of g v) ≡ laid.heights.loose
        unfolding loosest
        page_loose = rw p.loose (height_laid (λ st. st.most) g.spec.smax)

        -- which rule 16 judges.
        pub page_fills : (last : Bool)
            → fills (model_of bytes g) last (place_of g u) (place_of g v) ≡ leb (floor (model_of bytes g) last) laid.heights.loose
        unfolding fills
        page_fills last = ap (leb (floor (model_of bytes g) last)) page_loose
