-- Each line, each figure and each table that was written is read back.
use Rattle.std.specs.Prelude.{ℕ, zero, suc, ◌+◌, ◌*◌, ◌≤◌, ◌<◌, false, List, [], ◌∷◌, ◌++◌, ◌≡◌, refl, length, get_or}
use Rattle.std.proofs.Common.{arith}
use Rattle.std.proofs.Math.Path.{sym}
use Rattle.galley.specs.Range.{LineRanged, FigureRanged, TableRanged}
use Rattle.galley.specs.Record.{line_of, float_of, is_kept}
use Rattle.galley.specs.Block.{offset}
use Rattle.galley.specs.Write.{line_bytes, figure_bytes, table_bytes, each, Stated, head_bytes, bytes_of, LinesRanged, FloatsRanged, InRange}
use Rattle.galley.proofs.laws.Each.{each_split, each_far, each_at}
use Rattle.galley.proofs.laws.RoundTrip.{galley_from, head_joins}
use Rattle.galley.proofs.laws.Write.{line_fields, figure_fields, table_fields}
use Rattle.galley.specs.declared.Galley.{Galley}
use Rattle.galley.specs.declared.Spec.{Spec}
use Rattle.galley.specs.declared.Line.{Line}
use Rattle.galley.specs.declared.Float.{Float}

lines_ranged : (ls : List Line) (k : ℕ) (d : Line) → LinesRanged ls → k < length ls → LineRanged (get_or ls k d)
unfolding LinesRanged
lines_ranged [] k d r h = absurd (omega arith)
lines_ranged (l ∷ ls) zero d r h = r.0
lines_ranged (l ∷ ls) (suc k) d r h = lines_ranged ls k d r.1 (omega arith)

floats_ranged : (Fine : Float → Type 0) (m last : ℕ) (fs : List Float) (k : ℕ) (d : Float) → m ≤ 4000 → FloatsRanged Fine m last fs
    → k < length fs → Fine (get_or fs k d) × ((get_or fs k d).cite ≤ 4000)
unfolding FloatsRanged
floats_ranged Fine m last [] k d few r h = absurd (omega arith)
floats_ranged Fine m last (f ∷ fs) zero d few r h = (r.0, omega (arith, r.2))
floats_ranged Fine m last (f ∷ fs) (suc k) d few r h = floats_ranged Fine m f.cite fs k d few r.4 (omega arith)

module _ (g : Spec) (o : Stated) (ls : List Line) (fs ts : List Float) (r : InRange g o ls fs ts) where
  abbrev bytes : List ℕ
  bytes = bytes_of g o ls fs ts

  abbrev galley : Galley
  galley = galley_from g o ls fs ts

  abbrev ends : List ℕ
  ends = 69 ∷ 68 ∷ []

  -- What stands before the lines, the figures and the tables.
  abbrev head : List ℕ
  head = head_bytes g o []

  abbrev text : List ℕ
  text = head ++ each line_bytes ls []

  abbrev floats : List ℕ
  floats = text ++ each figure_bytes fs []

  lines_there : bytes ≡ head ++ each line_bytes ls (each figure_bytes fs (each table_bytes ts ends))
  unfolding bytes_of
  lines_there = sym (head_joins g o _)

  figures_there : bytes ≡ text ++ each figure_bytes fs (each table_bytes ts ends)
  figures_there = each_split line_bytes bytes head ls (λ a rest more. refl) _ lines_there

  tables_there : bytes ≡ floats ++ each table_bytes ts ends
  tables_there = each_split figure_bytes bytes text fs (λ a rest more. refl) _ figures_there

  -- Each line that was written is read back.
  pub line_back : (k : ℕ) → k < length ls → (d : Line) → line_of bytes (offset galley.text (k + 1)) ≡ get_or ls k d
  line_back k h d =
      let here : offset galley.text (k + 1) ≡ length head + k * 18 = omega arith in
      rw here
      (each_at line_bytes line_of LineRanged (λ l. refl) (λ l rest. refl) line_fields bytes head _ ls lines_there k h d
      (lines_ranged ls k d r.blocks.lines h))

  -- So is each figure.
  pub figure_back : (k : ℕ) → k < length fs → (d : Float)
      → let at = offset galley.figures (k + 1) in float_of (is_kept bytes at) bytes at ≡ get_or fs k d
  figure_back k h d =
      let far = each_far line_bytes bytes head ls (λ l rest. omega arith) in
      let here : offset galley.figures (k + 1) ≡ length text + k * 18 = omega arith in
      rw here
      (each_at figure_bytes (λ bytes at. float_of (is_kept bytes at) bytes at) (λ f. FigureRanged f × (f.cite ≤ 4000)) (λ f. refl) (λ f rest. refl)
      (λ before rest f fine. figure_fields before rest f fine.0 fine.1) bytes text _ fs figures_there k h d
      (floats_ranged FigureRanged (length ls) 0 fs k d r.blocks.few_lines r.blocks.figures h))

  -- So is each table.
  pub table_back : (k : ℕ) → k < length ts → (d : Float) → float_of false bytes (offset galley.tables (k + 1)) ≡ get_or ts k d
  table_back k h d =
      let far = each_far line_bytes bytes head ls (λ l rest. omega arith) in
      let farther = each_far figure_bytes bytes text fs (λ f rest. omega arith) in
      let here : offset galley.tables (k + 1) ≡ length floats + k * 18 = omega arith in
      rw here
      (each_at table_bytes (float_of false) (λ f. TableRanged f × (f.cite ≤ 4000)) (λ f. refl) (λ f rest. refl)
      (λ before rest f fine. table_fields before rest f fine.0 fine.1) bytes floats _ ts tables_there k h d
      (floats_ranged TableRanged (length ls) 0 ts k d r.blocks.few_lines r.blocks.tables h))
