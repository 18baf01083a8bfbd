-- A galley's bytes from its values: document 01, "The galley file".
use Rattle.std.specs.Prelude.{ℕ, ◌/◌, ◌%◌, ◌≤◌, List, [], ◌∷◌, Bool, eqb, length}
use Rattle.model.specs.Gather.{pick}
use Rattle.galley.specs.Range.{SpecRanged, Edition, FolioRanged, LineRanged, FigureRanged, TableRanged}
use Rattle.galley.specs.declared.Spec.{Spec}
use Rattle.galley.specs.declared.Block.{Block}
use Rattle.galley.specs.declared.Line.{Line}
use Rattle.galley.specs.declared.Float.{Float}

-- A field in front of what follows it: four bytes, the most significant first.
abbrev pub word : ℕ → List ℕ → List ℕ
word w rest = w / 256 / 256 / 256 % 256 ∷ w / 256 / 256 % 256 ∷ w / 256 % 256 ∷ w % 256 ∷ rest

-- A `GS` with its fields in front of what follows it, or a `G2` with one field more.
abbrev pub spec_bytes_in : Bool → Spec → List ℕ → List ℕ
spec_bytes_in second g rest =
    71 ∷ pick second 50 83
    ∷ word g.htmin (word g.htmax (word g.smin (word g.smax (word g.sides (word g.alpha (word g.beta
    (pick second (word g.lastmin rest) rest)))))))

-- The mark goes by the edition.
abbrev pub spec_bytes : Spec → List ℕ → List ℕ
spec_bytes g = spec_bytes_in (eqb g.edition 2) g

-- The heights of a block.
abbrev pub block_bytes : Block → List ℕ → List ℕ
block_bytes b rest = word b.height (word b.least (word b.most rest))

-- A `TL` with its fields.
abbrev pub line_bytes : Line → List ℕ → List ℕ
line_bytes l rest = 84 ∷ 76 ∷ block_bytes l.block (word l.legal rest)

-- An `FG` with its fields, or an `FK` where it is kept with the next figure.
abbrev pub figure_bytes : Float → List ℕ → List ℕ
figure_bytes f rest = 70 ∷ pick f.kept 75 71 ∷ block_bytes f.block (word f.cite rest)

-- A `TB` with its fields.
abbrev pub table_bytes : Float → List ℕ → List ℕ
table_bytes f rest = 84 ∷ 66 ∷ block_bytes f.block (word f.cite rest)

-- Records one after the other.
unfoldable pub each : {A : Type 0} → (A → List ℕ → List ℕ) → List A → List ℕ → List ℕ
each write [] rest = rest
each write (r ∷ rs) rest = write r (each write rs rest)

-- The first folio as a galley states it (document 02, S-1): not at all, or in an `FO`.
pub data Stated : Type 0 where
  unstated : Stated
  stated : ℕ → Stated

-- Without the record it is 1.
abbrev pub folio_of : Stated → ℕ
folio_of unstated = 1
folio_of (stated f) = f

-- The `FO`, if there is one.
abbrev pub folio_bytes : Stated → List ℕ → List ℕ
folio_bytes unstated rest = rest
folio_bytes (stated f) rest = 70 ∷ 79 ∷ word f rest

-- What stands before line 1.
abbrev pub head_bytes : Spec → Stated → List ℕ → List ℕ
head_bytes g o rest = spec_bytes g (folio_bytes o rest)

-- The specification, the folio, the lines, the figures, the tables and the end.
unfoldable pub bytes_of : Spec → Stated → List Line → List Float → List Float → List ℕ
bytes_of g o ls fs ts = head_bytes g o (each line_bytes ls (each figure_bytes fs (each table_bytes ts (69 ∷ 68 ∷ []))))

-- A folio that is stated is in range.
abbrev pub StatedRanged : Stated → Type 0
StatedRanged unstated = Unit {0}
StatedRanged (stated f) = FolioRanged f

-- Every line is in range.
unfoldable pub LinesRanged : List Line → Type 0
LinesRanged [] = Unit {0}
LinesRanged (l ∷ ls) = LineRanged l × LinesRanged ls

-- Every float of a stream is in range and cites one of m lines, none before the line cited last.
unfoldable pub FloatsRanged : (Float → Type 0) → ℕ → ℕ → List Float → Type 0
FloatsRanged Fine m last [] = Unit {0}
FloatsRanged Fine m last (f ∷ fs) =
    Fine f × (1 ≤ f.cite) × (f.cite ≤ m) × (last ≤ f.cite) × FloatsRanged Fine m f.cite fs

-- Lines, figures and tables that a galley may have.
pub record BlocksInRange (ls : List Line) (fs ts : List Float) : Type 0 where
  pub some : 1 ≤ length ls
  pub few_lines : length ls ≤ 4000
  pub few_figures : length fs ≤ 200
  pub few_tables : length ts ≤ 50
  pub lines : LinesRanged ls
  pub figures : FloatsRanged FigureRanged (length ls) 0 fs
  pub tables : FloatsRanged TableRanged (length ls) 0 ts

-- Values that a galley may have.
pub record InRange (g : Spec) (o : Stated) (ls : List Line) (fs ts : List Float) : Type 0 where
  pub spec : SpecRanged g
  pub edition : Edition g
  pub folio : StatedRanged o
  pub blocks : BlocksInRange ls fs ts
