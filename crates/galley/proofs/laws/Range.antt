-- The ranges as inequalities are what the tests decide.
use Rattle.std.specs.Prelude.{ℕ, Bool, true, false, ◌&&◌, ◌≡◌, refl, leb}
use Rattle.std.proofs.Common.{true≢false, sym, leb-true, le-leb}
use Rattle.galley.specs.Range.{spec_in_range, folio_in_range, block_in_range, line_in_range, SpecRanged, FolioRanged, BlockRanged, LineRanged}
use Rattle.galley.specs.declared.Spec.{Spec}
use Rattle.galley.specs.declared.Block.{Block}
use Rattle.galley.specs.declared.Line.{Line}

and_true : (a b : Bool) → (a && b) ≡ true → (a ≡ true) × (b ≡ true)
and_true true b h = (refl, h)
and_true false b h = absurd (true≢false (sym h))

pub spec_ranged_lem : (g : Spec) → spec_in_range g ≡ true → SpecRanged g
unfolding spec_in_range
spec_ranged_lem g h =
    let last = and_true _ (leb g.lastmin g.htmax) h in
    let a = and_true _ (leb g.beta 1000) last.0 in
    let b = and_true _ (leb g.alpha 1000) a.0 in
    let c = and_true _ (leb g.sides 2) b.0 in
    let d = and_true _ (leb 1 g.sides) c.0 in
    let e = and_true _ (leb g.smax 100000) d.0 in
    let f = and_true _ (leb g.smin g.smax) e.0 in
    let i = and_true _ (leb g.htmax 100000) f.0 in
    let j = and_true _ (leb 1 g.htmax) i.0 in
    record {
      htmins = leb-true _ _ j.0;
      htmax_some = leb-true _ _ j.1;
      htmaxs = leb-true _ _ i.1;
      smins = leb-true _ _ f.1;
      smaxs = leb-true _ _ e.1;
      sides_some = leb-true _ _ d.1;
      sides_two = leb-true _ _ c.1;
      alphas = leb-true _ _ b.1;
      betas = leb-true _ _ a.1;
      lastmins = leb-true _ _ last.1;
    }

pub folio_ranged : (f : ℕ) → folio_in_range f ≡ true → FolioRanged f
folio_ranged f h =
    let a = and_true (leb 1 f) (leb f 9999) h in
    record { some = leb-true _ _ a.0; few = leb-true _ _ a.1 }

pub block_ranged : (b : Block) → block_in_range b ≡ true → BlockRanged b
unfolding block_in_range
block_ranged b h =
    let l = and_true _ (leb b.most 100000) h in
    let c = and_true (leb b.height 100000) _ l.0 in
    record { heights = leb-true _ _ c.0; leasts = leb-true _ _ c.1; mosts = leb-true _ _ l.1 }

pub line_ranged : (l : Line) → line_in_range l ≡ true → LineRanged l
line_ranged l h =
    let a = and_true (block_in_range l.block) (leb l.legal 1) h in
    record { block = block_ranged l.block a.0; legals = leb-true _ _ a.1 }

pub ranged_spec : (g : Spec) → SpecRanged g → spec_in_range g ≡ true
unfolding spec_in_range
ranged_spec g r =
    simp (
      le-leb g.htmin g.htmax r.htmins,
      le-leb 1 g.htmax r.htmax_some,
      le-leb g.htmax 100000 r.htmaxs,
      le-leb g.smin g.smax r.smins,
      le-leb g.smax 100000 r.smaxs,
      le-leb 1 g.sides r.sides_some,
      le-leb g.sides 2 r.sides_two,
      le-leb g.alpha 1000 r.alphas,
      le-leb g.beta 1000 r.betas,
      le-leb g.lastmin g.htmax r.lastmins,
    )

pub ranged_folio : (f : ℕ) → FolioRanged f → folio_in_range f ≡ true
ranged_folio f r = simp (le-leb 1 f r.some, le-leb f 9999 r.few)

pub ranged_block : (b : Block) → BlockRanged b → block_in_range b ≡ true
unfolding block_in_range
ranged_block b r =
    simp (
      le-leb b.height 100000 r.heights,
      le-leb b.least b.most r.leasts,
      le-leb b.most 100000 r.mosts,
    )

pub ranged_line : (l : Line) → LineRanged l → line_in_range l ≡ true
ranged_line l r = simp (ranged_block l.block r.block, le-leb l.legal 1 r.legals)
