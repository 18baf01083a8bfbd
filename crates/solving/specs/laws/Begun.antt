-- The origin that an opening leads to is what the code finds.
use Prim.Native.Nat.{ℕ, suc, ◌+◌, ◌-◌, ◌*◌, ◌/◌, ◌≤◌, ◌<◌}
use Rattle.std.proofs.Math.Nat.{suc-mul, mul-le-mul_right}
use Rattle.std.proofs.Common.{mul-le-mul, add-one, ◌∙◌, inl, inr, length-append, eq-eqb}
use Rattle.std.proofs.Math.Decide.{dec_lt}
use native.Mathlib.Omega.{arith}
use Rattle.std.proofs.Math.Path.{◌≡◌, sym, ap}
use Rattle.std.specs.Prelude.{refl, ◌⊎◌, true, List, [], length, Ok}
use Rattle.std.proofs.Math.Option.{none, some}
use Rattle.model.specs.Galley.{Place, zeros}
use Rattle.model.specs.Leaf.{leaf}
use Rattle.model.specs.Answers.{pages_of, Answer}
use Rattle.model.specs.Opening.{opening_turned}
use Rattle.model.proofs.laws.Gather.{and_both}
use Rattle.model.proofs.laws.Words.{length_pages}
use Rattle.model.specs.laws.Rules.{placed}
use Rattle.theorems.specs.turns.Rank.{rank}
use Rattle.theorems.specs.turns.Bounds.{heaviest, weight_limit}
use Rattle.theorems.specs.pages.Graph.{beginning, full}
use Rattle.theorems.specs.pages.Opening.{after, pages_onto, end_onto, end_cost, end_dear}
use Rattle.theorems.specs.pages.LeastAfter.{ByOpening, Whole, opening_or}
use Rattle.galley.specs.declared.Galley.{Galley}
use Rattle.galley.specs.Model.{model_of, sides_in}
use Rattle.galley.specs.Sound.{Sound}
use Rattle.blocks.specs.declared.Counts.{Counts}
use Rattle.blocks.specs.Counts.{place_of, Within}
use Rattle.blocks.specs.laws.Counts.{streams_of_lem, same_of, within_proper}
use Rattle.rules.specs.declared.counts.Sums.{Sums}
use Rattle.rules.specs.Parts.{leaves_turned, all_placed, printed_cost}
use Rattle.marking.specs.Parts.{pages_in}
use Rattle.marking.specs.Judged.{waited, KeptPages}
use Rattle.marking.specs.laws.Judged.{lacked_open}
use Rattle.openings.specs.declared.Ends.{Ends}
use Rattle.openings.specs.Opening.{OpeningJudged}
use Rattle.places.specs.declared.Origin.{Origin}
use Rattle.places.specs.Columns.{place_at}
use Rattle.candidates.specs.Read.{columns_in, counts_at, row_of}
use Rattle.candidates.proofs.laws.Columns.{few_floats, columns_in_lem, row_figures, row_tables, place_at_lem, placed_at}
use Rattle.entries.specs.laws.Price.{sound_limits}
use Rattle.solving.specs.Begun.{origin_after, Ending, Opened}

-- Counts are found again at their column.
module _ (g : Galley) (at : Counts) (inside : Within g at) where
  pub column_back : counts_at g at.lines (at.figures * (g.tables.count + 1) + at.tables) ≡ at
  unfolding row_of
  column_back =
      let f = row_figures g at.lines at.figures at.tables inside.tables in
      let t = row_tables g at.lines at.figures at.tables inside.tables in
      ap (λ (n : ℕ). record { lines = at.lines; figures = n; tables = (counts_at g at.lines (row_of g at.figures + at.tables)).tables }) f
      ∙ ap (λ (n : ℕ). record { lines = at.lines; figures = at.figures; tables = n }) t

  -- The column is one of the galley's.
  pub column_low : at.figures * (g.tables.count + 1) + at.tables < columns_in g
  unfolding columns_in
  column_low =
      let wide = g.tables.count + 1 in
      let most = mul-le-mul_right wide inside.figures in
      let rows = ap (λ n. n * wide) (add-one g.figures.count) ∙ suc-mul g.figures.count wide in
      omega (arith, inside.tables)

module _ {bytes : List ℕ} {g : Galley} (so : Sound bytes g) {ws : List ℕ} {ends : Ends} (judged : OpeningJudged bytes g ws (Ok ends)) where
  abbrev pages : ℕ
  pages = ends.pages

  abbrev at : Counts
  at = ends.at

  abbrev sums : Sums
  sums = ends.sums

  known : (pages ≡ pages_in g ws) × KeptPages bytes g ws 0 at sums
  known = judged.kept ends refl

  stands : opening_turned (model_of bytes g) ws ≡ none
  stands = sym judged.told

  -- The words are whole pages that pass, and a block is left.
  whole : Whole (model_of bytes g) ws
  whole = go (opening_or (model_of bytes g) ws)
    where
      go : ((a : Answer) × (opening_turned (model_of bytes g) ws ≡ some a) × ByOpening a) ⊎ ((opening_turned (model_of bytes g) ws ≡ none) × Whole (model_of bytes g) ws)
          → Whole (model_of bytes g) ws
      go (inl (a, e, h)) = let s = stands in let z : ◌≡◌ {A = ℕ} 0 1 = cc in absurd (omega arith)
      go (inr (e, w)) = w

  pages_are : pages ≡ (after (model_of bytes g) (pages_of (model_of bytes g) ws)).pages
  pages_are =
      let os = pages_of (model_of bytes g) ws in
      let long = length-append os [] in
      omega (arith, known.0, length_pages (model_of bytes g) ws, ap (λ k. length ws / k) (streams_of_lem g bytes), pages_onto (model_of bytes g) (beginning (model_of bytes g)) os [])

  place_is : place_at (model_of bytes g) at.lines (at.figures * (g.tables.count + 1) + at.tables)
      ≡ (after (model_of bytes g) (pages_of (model_of bytes g) ws)).place
  place_is =
      place_at_lem bytes g at.lines (at.figures * (g.tables.count + 1) + at.tables)
      ∙ ap (place_of g) (column_back g at known.1.placed)
      ∙ known.1.ends
      ∙ sym (end_onto (model_of bytes g) (beginning (model_of bytes g)) (pages_of (model_of bytes g) ws))

  cost_is : printed_cost g pages sums ≡ (after (model_of bytes g) (pages_of (model_of bytes g) ws)).cost
  unfolding printed_cost leaves_turned waited
  cost_is =
      let M = model_of bytes g in
      let os = pages_of M ws in
      let p : pages + 1 ≡ suc (after M os).pages = omega (arith, pages_are) in
      let turned = ap (λ q. g.spec.beta * (leaf (sides_in g) q - leaf (sides_in g) 1)) p in
      let waited_by = ap (λ y. g.spec.alpha * y) known.1.waits in
      let white = known.1.whitens ∙ lacked_open M 0 (zeros M) os in
      let cost = end_cost M os whole.printed in
      omega arith

  -- The blocks placed where it ends, of which each page places one: not all are.
  placed_is : placed (model_of bytes g) (after (model_of bytes g) (pages_of (model_of bytes g) ws)).place ≡ at.lines + at.figures + at.tables
  placed_is =
      ap (placed (model_of bytes g)) (sym place_is)
      ∙ placed_at bytes g at.lines (at.figures * (g.tables.count + 1) + at.tables)
      ∙ ap (λ (c : Counts). c.lines + c.figures + c.tables) (column_back g at known.1.placed)

  -- One page more is within the limits.
  pub ends_limits : Ending g pages at sums
  ends_limits =
      let inside = known.1.placed in
      record {
        lines = so.few_lines;
        floats = few_floats so;
        placed = inside;
        limits =
            record {
              numbered =
                  record {
                    some = omega arith;
                    few = omega (arith, known.0, known.1.few, left, so.few_lines, so.figures.few, so.tables.few);
                    folio = so.some_folio;
                    folios = so.few_folios;
                  };
              most = omega (arith, known.1.most, known.0);
              ranged = so.spec_ranged;
            };
      }
    where
      left : at.lines + at.figures + at.tables < g.text.count + g.figures.count + g.tables.count
      left = go (dec_lt (at.lines + at.figures + at.tables) (g.text.count + g.figures.count + g.tables.count))
        where
          go : Dec (at.lines + at.figures + at.tables < g.text.count + g.figures.count + g.tables.count)
              → at.lines + at.figures + at.tables < g.text.count + g.figures.count + g.tables.count
          go (yes l) = l
          go (no l) =
              let inside = known.1.placed in
              let one : at.lines ≡ g.text.count = omega (arith, inside.lines, inside.figures, inside.tables) in
              let two : at.figures ≡ g.figures.count = omega (arith, inside.lines, inside.figures, inside.tables) in
              let three : at.tables ≡ g.tables.count = omega (arith, inside.lines, inside.figures, inside.tables) in
              let all : all_placed g at ≡ true = and_both (eq-eqb _ _ one) (and_both (eq-eqb _ _ two) (eq-eqb _ _ three)) in
              let same : full (model_of bytes g) (place_of g at) ≡ all_placed g at = unfold full in same_of g bytes at (within_proper g inside) in
              let there : place_of g at ≡ (after (model_of bytes g) (pages_of (model_of bytes g) ws)).place =
              known.1.ends ∙ sym (end_onto (model_of bytes g) (beginning (model_of bytes g)) (pages_of (model_of bytes g) ws)) in
              let no_left = whole.printed.left in
              let z : ◌≡◌ {A = ℕ} 0 1 = cc (ap (full (model_of bytes g)) there) in
              absurd (omega arith)

  -- So making begins at the origin that the opening leads to.
  pub ends_opened : (from : Origin) → from ≡ origin_after g pages at sums → Opened bytes g ws from
  ends_opened from e =
      let os = pages_of (model_of bytes g) ws in
      let inside = known.1.placed in
      let dear = end_dear (model_of bytes g) os whole.printed in
      let low : at.lines + at.figures + at.tables ≤ 4250 =
      omega (arith, inside.lines, inside.figures, inside.tables, so.few_lines, so.figures.few, so.tables.few) in
      let most =
      mul-le-mul {n₁ = at.lines + at.figures + at.tables} {m₁ = heaviest (model_of bytes g)} {n₂ = 4250} {m₂ = rank 251000 100000} low
      (weight_limit (model_of bytes g) (sound_limits bytes g so)) in
      rw e
      (record {
        stands = stands;
        whole = whole;
        is =
            ap (λ (v : Place). record { place = v; pages = pages; cost = printed_cost g pages sums }) place_is
            ∙ ap (λ (n : ℕ). record { place = (after (model_of bytes g) os).place; pages = n; cost = printed_cost g pages sums }) pages_are
            ∙ ap (λ (n : ℕ). record { place = (after (model_of bytes g) os).place; pages = (after (model_of bytes g) os).pages; cost = n }) cost_is;
        proper = record { line = inside.lines; column = omega (arith, column_low g at inside, columns_in_lem bytes g) };
        cheap = omega (arith, cost_is, ap (λ n. n * heaviest (model_of bytes g)) placed_is);
        limited = omega arith;
      })
