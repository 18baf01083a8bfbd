-- What was written is read back: words, records, and where they stand.
use Rattle.std.specs.Prelude.{ℕ, ◌+◌, ◌-◌, ◌*◌, ◌/◌, ◌%◌, ◌≤◌, ◌<◌, List, [], ◌∷◌, ◌++◌, Bool, true, false, ◌≡◌, refl, eqb, length, get_or, Ok}
use Rattle.std.proofs.Common.{arith, add_assoc, sym, ap, ◌∙◌, length-append, get_or-append-add, le-ltb, eqb-true}
use Rattle.std.proofs.lemmas.Bool.{eqb-false}
use Rattle.model.specs.Gather.{pick}
use Rattle.galley.specs.Word.{word_at, mark_at}
use Rattle.galley.specs.Place.{GS, G2, spec_size, FO, TL, TB, ED, figure_mark, kind_of}
use Rattle.galley.specs.Range.{SpecRanged, Edition, FolioRanged, BlockRanged, LineRanged, FigureRanged, TableRanged}
use Rattle.galley.specs.Record.{height_at, least_at, most_at, cite_at, last_least, spec_of, block_of, line_of, float_of, is_kept, float_at, fields_of, record_at, Read}
use Rattle.galley.specs.Write.{word, spec_bytes_in, spec_bytes, folio_bytes, stated, block_bytes, line_bytes, figure_bytes, table_bytes}
use Rattle.galley.proofs.laws.Place.{figure_kind}
use Rattle.galley.proofs.laws.Record.{kept_mark}
use Rattle.galley.proofs.laws.Range.{ranged_spec, ranged_folio, ranged_block, ranged_line}
use Rattle.galley.specs.declared.Spec.{Spec}
use Rattle.galley.specs.declared.Block.{Block}
use Rattle.galley.specs.declared.Line.{Line}
use Rattle.galley.specs.declared.Float.{Float}
use Rattle.galley.specs.declared.Record.TheVariants as found

-- The four bytes of a number below 2 ^ 32 make it again.
bytes_word : (w : ℕ) → w < 4294967296
    → w / 256 / 256 / 256 % 256 * 16777216 + w / 256 / 256 % 256 * 65536 + w / 256 % 256 * 256 + w % 256 ≡ w
bytes_word w h = omega arith

-- A word after a part of the bytes is the same word of the rest.
word_after : (before rest : List ℕ) (n : ℕ) → word_at (before ++ rest) (length before + n) ≡ word_at rest n
unfolding word_at
word_after before rest n =
    simp (add_assoc, get_or-append-add)

-- So is a mark.
mark_after : (before rest : List ℕ) → mark_at (before ++ rest) (length before) ≡ mark_at rest 0
unfolding mark_at
mark_after before rest =
    let z : length before ≡ length before + 0 = omega arith in
    let first : get_or (before ++ rest) (length before) 0 ≡ get_or rest 0 0
    = ap (λ (i : ℕ). get_or (before ++ rest) i 0) z ∙ get_or-append-add before rest 0 0 in
    simp (first, get_or-append-add)

-- As many bytes are left after a part as the rest has.
left_after : (before rest : List ℕ) → length (before ++ rest) - length before ≡ length rest
left_after before rest = simp length-append (omega arith)

-- A record that was written is read back: its mark and its fields are there.
written : (before tail : List ℕ) (mark : ℕ) (r : Read) → mark_at tail 0 ≡ mark → 2 ≤ length tail
    → (kind_of mark).size ≤ length tail → fields_of mark (before ++ tail) (length before) ≡ r
    → record_at (before ++ tail) (length before) ≡ r
unfolding record_at
written before tail mark r marked two long fields =
    simp (
      left_after before tail,
      le-ltb (length tail) 2 two,
      mark_after before tail ∙ marked,
      le-ltb (length tail) (kind_of mark).size long,
      fields,
    )

-- A word of what was written stands as many bytes after what came before.
word_back : (before tail : List ℕ) (n w : ℕ) → w < 4294967296
    → word_at tail n ≡ w / 256 / 256 / 256 % 256 * 16777216 + w / 256 / 256 % 256 * 65536 + w / 256 % 256 * 256 + w % 256
    → word_at (before ++ tail) (length before + n) ≡ w
word_back before tail n w small e = word_after before tail n ∙ e ∙ bytes_word w small

-- A block that was written after some mark has its heights, and its last field stands after them.
block_back : (before rest : List ℕ) (m n last : ℕ) (b : Block) → BlockRanged b → last ≤ 4000
    → let bytes = before ++ m ∷ n ∷ block_bytes b (word last rest) in
    (block_of bytes (length before) ≡ b) × (word_at bytes (length before + cite_at) ≡ last)
unfolding word_at
block_back before rest m n last b r small =
    let tail : List ℕ = m ∷ n ∷ block_bytes b (word last rest) in (
      simp (
        word_back before tail height_at b.height (omega arith) refl,
        word_back before tail least_at b.least (omega arith) refl,
        word_back before tail most_at b.most (omega arith) refl,
      ),
      word_back before tail cite_at last (omega arith) refl,
    )

-- A line that was written has its fields, and it is read back.
pub line_fields : (before rest : List ℕ) (l : Line) → LineRanged l
    → line_of (before ++ line_bytes l rest) (length before) ≡ l
line_fields before rest l r =
    let h = block_back before rest 84 76 l.legal l.block r.block (omega arith) in simp (h.0, h.1)

pub line_after : (before rest : List ℕ) (l : Line) → LineRanged l
    → record_at (before ++ line_bytes l rest) (length before) ≡ Ok (found.Line l)
unfolding kind_of mark_at fields_of
line_after before rest l r =
    let h = block_back before rest 84 76 l.legal l.block r.block (omega arith) in
    written before (line_bytes l rest) TL (Ok (found.Line l)) refl (omega arith) (omega arith) (simp (h.0, h.1, ranged_line l r))

-- The mark that was written for a figure.
marked_figure : (f : Float) (rest : List ℕ) → mark_at (figure_bytes f rest) 0 ≡ figure_mark f.kept
unfolding mark_at
marked_figure f rest = go f.kept
  where
    go : (kept : Bool) → 70 * 256 + pick kept 75 71 ≡ figure_mark kept
    go true = refl
    go false = refl

figure_read : (kept : Bool) (bytes : List ℕ) (at : ℕ) → fields_of (figure_mark kept) bytes at ≡ float_at found.Figure kept bytes at
unfolding fields_of
figure_read true bytes at = refl
figure_read false bytes at = refl

-- So has a figure, and so is it.
pub figure_fields : (before rest : List ℕ) (f : Float) → FigureRanged f → f.cite ≤ 4000
    → let bytes = before ++ figure_bytes f rest in float_of (is_kept bytes (length before)) bytes (length before) ≡ f
figure_fields before rest f r small =
    let h = block_back before rest 70 (pick f.kept 75 71) f.cite f.block r small in
    simp (mark_after before (figure_bytes f rest), marked_figure f rest, kept_mark f.kept, h.0, h.1)

pub figure_after : (before rest : List ℕ) (f : Float) → FigureRanged f → f.cite ≤ 4000
    → record_at (before ++ figure_bytes f rest) (length before) ≡ Ok (found.Figure f)
unfolding kind_of
figure_after before rest f r small =
    let h = block_back before rest 70 (pick f.kept 75 71) f.cite f.block r small in
    written before (figure_bytes f rest) (figure_mark f.kept) (Ok (found.Figure f)) (marked_figure f rest) (omega arith)
    (rw (figure_kind f.kept) (omega arith))
    (figure_read f.kept _ _ ∙ simp (h.0, h.1, ranged_block f.block r))

-- So has a table, and so is it.
pub table_fields : (before rest : List ℕ) (f : Float) → TableRanged f → f.cite ≤ 4000
    → float_of false (before ++ table_bytes f rest) (length before) ≡ f
table_fields before rest f r small =
    let h = block_back before rest 84 66 f.cite f.block r.block small in simp (h.0, h.1, ← r.free)

pub table_after : (before rest : List ℕ) (f : Float) → TableRanged f → f.cite ≤ 4000
    → record_at (before ++ table_bytes f rest) (length before) ≡ Ok (found.Table f)
unfolding kind_of mark_at fields_of
table_after before rest f r small =
    let h = block_back before rest 84 66 f.cite f.block r.block small in
    written before (table_bytes f rest) TB (Ok (found.Table f)) refl (omega arith) (omega arith)
    (simp (h.0, h.1, ranged_block f.block r.block) (rw (← r.free)))

-- A specification that was written has its fields, and it is read back.
spec_fields : (before rest : List ℕ) (second : Bool) (g : Spec) → SpecRanged g → g.edition ≡ pick second 2 1
    → g.lastmin ≡ last_least second (before ++ spec_bytes_in second g rest) (length before)
    → spec_of second (before ++ spec_bytes_in second g rest) (length before) ≡ g
unfolding word_at
spec_fields before rest second g r e l =
    let tail = spec_bytes_in second g rest in
    simp (
      word_back before tail 2 g.htmin (omega arith) refl,
      word_back before tail 6 g.htmax (omega arith) refl,
      word_back before tail 10 g.smin (omega arith) refl,
      word_back before tail 14 g.smax (omega arith) refl,
      word_back before tail 18 g.sides (omega arith) refl,
      word_back before tail 22 g.alpha (omega arith) refl,
      word_back before tail 26 g.beta (omega arith) refl,
    )
    (rw (← e, ← l))

spec_after_in : (before rest : List ℕ) (second : Bool) (g : Spec) → SpecRanged g → Edition g → eqb g.edition 2 ≡ second
    → record_at (before ++ spec_bytes_in second g rest) (length before) ≡ Ok (found.Spec g)
unfolding word_at kind_of mark_at fields_of
spec_after_in before rest true g r e two =
    let tail = spec_bytes_in true g rest in
    let least : word_at (before ++ tail) (length before + 30) ≡ g.lastmin = word_back before tail 30 g.lastmin (omega arith) refl in
    written before tail G2 (Ok (found.Spec g)) refl (omega arith) (omega arith)
    (simp (spec_fields before rest true g r (eqb-true g.edition 2 two) (sym least), ranged_spec g r))
spec_after_in before rest false g r e one =
    let first : g.edition ≡ 1 = let s = e.some in let t = e.two in omega (arith, eqb-false g.edition 2 one) in
    written before (spec_bytes_in false g rest) GS (Ok (found.Spec g)) refl (omega arith) (omega arith)
    (simp (spec_fields before rest false g r first (e.plain first), ranged_spec g r))

pub spec_after : (before rest : List ℕ) (g : Spec) → SpecRanged g → Edition g
    → record_at (before ++ spec_bytes g rest) (length before) ≡ Ok (found.Spec g)
spec_after before rest g r e = spec_after_in before rest (eqb g.edition 2) g r e refl

-- Its bytes, and what follows it.
pub spec_long : (g : Spec) → length (spec_bytes g []) ≡ spec_size g.edition
spec_long g = go (eqb g.edition 2)
  where
    go : (second : Bool) → length (spec_bytes_in second g []) ≡ pick second 34 30
    go true = refl
    go false = refl

pub spec_joins : (g : Spec) (rest : List ℕ) → spec_bytes g [] ++ rest ≡ spec_bytes g rest
spec_joins g rest = go (eqb g.edition 2)
  where
    go : (second : Bool) → spec_bytes_in second g [] ++ rest ≡ spec_bytes_in second g rest
    go true = refl
    go false = refl

-- So is a folio.
pub folio_after : (before rest : List ℕ) (f : ℕ) → FolioRanged f
    → record_at (before ++ folio_bytes (stated f) rest) (length before) ≡ Ok (found.Folio f)
unfolding word_at kind_of mark_at fields_of
folio_after before rest f r =
    let tail = folio_bytes (stated f) rest in
    written before tail FO (Ok (found.Folio f)) refl (omega arith) (omega arith)
    (simp (word_back before tail 2 f (omega arith) refl, ranged_folio f r))

-- The end is read back.
pub end_after : (before rest : List ℕ) → record_at (before ++ 69 ∷ 68 ∷ rest) (length before) ≡ Ok found.End
unfolding kind_of mark_at fields_of
end_after before rest = written before (69 ∷ 68 ∷ rest) ED (Ok found.End) refl (omega arith) (omega arith) refl
