-- How far reading has come where these records stand.
use Prim.Native.Nat.{ℕ, zero, suc, ◌+◌, ◌*◌, ◌≤◌}
use native.Mathlib.Omega.{arith}
use Rattle.std.specs.Prelude.{◌≡◌, false, List, leb, eqb}
use Rattle.std.proofs.Math.Path.{refl}
use Rattle.std.proofs.Math.Dec.{eqb-suc-zero}
use Rattle.std.proofs.lemmas.Bool.Decides.{nat_tests}
use Rattle.model.specs.Gather.{pick}
use Rattle.galley.specs.Place.{GS, G2, FO, TL, FG, FK, TB, ED, spec_mark, spec_size, spec, folio, line, figure, table, row_of, kind_of, unfit}
use Rattle.galley.specs.Record.{cite_at}
use Rattle.galley.specs.Block.{field_of}
use Rattle.galley.specs.Whole.{beginning, moved, with_folio, with_line, with_figure, with_table, galley_so_far}
use Rattle.galley.proofs.laws.Place.{spec_kind}
use Rattle.galley.specs.Write.{Stated, unstated, stated, folio_of}
use Rattle.galley.specs.declared.Spec.{Spec}
use Rattle.galley.specs.declared.Sofar.{Sofar}
use Rattle.refusals.specs.Declared.{Start, nothing, begun, head_of, galley_in, due_at, may_follow, early, crowded, lines_in, last_cited}

-- With a specification and maybe a folio,
abbrev head_state : Spec → Stated → Sofar
head_state s unstated =
    record { stage = spec; count = 1; last = 0; at = head_of s unstated; folio = 1; first = head_of s unstated; lines = 0; figures = 0; tables = 0 }
head_state s (stated f) =
    record { stage = folio; count = 1; last = 0; at = head_of s (stated f); folio = f; first = head_of s (stated f); lines = 0; figures = 0; tables = 0 }

-- with lines after them,
abbrev text_state : Spec → Stated → ℕ → Sofar
text_state s o zero = head_state s o
text_state s o (suc m) =
    record {
      stage = line;
      count = suc m;
      last = 0;
      at = head_of s o + suc m * 18;
      folio = folio_of o;
      first = head_of s o;
      lines = suc m;
      figures = 0;
      tables = 0;
    }

-- with figures,
abbrev figure_state : List ℕ → Spec → Stated → ℕ → ℕ → Sofar
figure_state bytes s o m zero = text_state s o m
figure_state bytes s o m (suc n) =
    record {
      stage = figure;
      count = suc n;
      last = field_of bytes (galley_in s o m (suc n) 0).figures cite_at (suc n);
      at = head_of s o + m * 18 + suc n * 18;
      folio = folio_of o;
      first = head_of s o;
      lines = m;
      figures = suc n;
      tables = 0;
    }

-- and with tables.
abbrev table_state : List ℕ → Spec → Stated → ℕ → ℕ → ℕ → Sofar
table_state bytes s o m n zero = figure_state bytes s o m n
table_state bytes s o m n (suc k) =
    record {
      stage = table;
      count = suc k;
      last = field_of bytes (galley_in s o m n (suc k)).tables cite_at (suc k);
      at = head_of s o + m * 18 + n * 18 + suc k * 18;
      folio = folio_of o;
      first = head_of s o;
      lines = m;
      figures = n;
      tables = suc k;
    }

unfoldable pub state_of : List ℕ → Start → Sofar
state_of bytes nothing = beginning
state_of bytes (begun s o m n k) = table_state bytes s o m n k

-- It is due where the next record is.
pub state_at : (bytes : List ℕ) (b : Start) → (state_of bytes b).at ≡ due_at b
unfolding state_of due_at
state_at bytes b = grind arith

-- The number that turns a mark away, 2 before 5 before 4; 0 where it fits.
abbrev pub turned : Start → ℕ → ℕ
turned b mark = pick (may_follow b mark) (pick (early b mark) 5 (pick (crowded b mark) 4 0)) 2

-- What holds of each mark, and of every unknown one, holds of all.
pub record Unknown (mark : ℕ) : Type 0 where
  pub gs : eqb mark GS ≡ false
  pub g2 : eqb mark G2 ≡ false
  pub fo : eqb mark FO ≡ false
  pub tl : eqb mark TL ≡ false
  pub fg : eqb mark FG ≡ false
  pub fk : eqb mark FK ≡ false
  pub tb : eqb mark TB ≡ false
  pub ed : eqb mark ED ≡ false

pub all_marks : (P : ℕ → Type 0) → P GS → P G2 → P FO → P TL → P FG → P FK → P TB → P ED → ((mark : ℕ) → Unknown mark → P mark)
    → (mark : ℕ) → P mark
all_marks P gs g2 fo tl fg fk tb ed unknown mark = grind arith

-- As many as there may be, where there are no more.
full_is : (n top : ℕ) → n ≤ top → leb top n ≡ eqb n top
full_is n top few = grind (arith, nat_tests)

-- No more than there may be of each kind.
abbrev pub Few : Start → Type 0
Few nothing = Unit {0}
Few (begun s o m n k) = (m ≤ 4000) × (n ≤ 200) × (k ≤ 50)

unknown_kind : (mark : ℕ) → Unknown mark → kind_of mark ≡ row_of 0 spec 0 0 2
unfolding kind_of
unknown_kind mark u = rw (u.gs, u.g2, u.fo, u.tl, u.fg, u.fk, u.tb, u.ed) refl

-- A mark is turned away from where reading has come to by what stands there.
pub unfit_told : (bytes : List ℕ) (b : Start) → Few b → (mark : ℕ) → unfit (kind_of mark) (state_of bytes b) ≡ turned b mark
unfolding state_of kind_of may_follow early crowded
unfit_told bytes nothing few =
    all_marks _ refl refl refl refl refl refl refl refl (λ mark u. rw (unknown_kind mark u, u.gs, u.g2) refl)
unfit_told bytes (begun s unstated zero zero zero) few =
    all_marks _ refl refl refl refl refl refl refl refl
    (λ mark u. rw (unknown_kind mark u, u.fo, u.tl, u.fg, u.fk, u.tb, u.ed) refl)
unfit_told bytes (begun s (stated f) zero zero zero) few =
    all_marks _ refl refl refl refl refl refl refl refl (λ mark u. rw (unknown_kind mark u, u.tl, u.fg, u.fk, u.tb, u.ed) refl)
unfit_told bytes (begun s o (suc m) zero zero) few =
    let some = eqb-suc-zero m in
    all_marks _ refl refl refl (rw (full_is (suc m) 4000 few.0) refl) (rw some refl) (rw some refl) (rw some refl) (rw some refl)
    (λ mark u. rw (unknown_kind mark u, u.tl, u.fg, u.fk, u.tb, u.ed) refl)
unfit_told bytes (begun s o zero (suc n) zero) few =
    all_marks _ refl refl refl refl refl refl refl refl (λ mark u. rw (unknown_kind mark u, u.fg, u.fk, u.tb, u.ed) refl)
unfit_told bytes (begun s o (suc m) (suc n) zero) few =
    let some = eqb-suc-zero m in
    let full = full_is (suc n) 200 few.1 in
    all_marks _ refl refl refl refl (rw (some, full) refl) (rw (some, full) refl) (rw some refl) (rw some refl)
    (λ mark u. rw (unknown_kind mark u, u.fg, u.fk, u.tb, u.ed) refl)
unfit_told bytes (begun s o zero n (suc k)) few =
    all_marks _ refl refl refl refl refl refl refl refl (λ mark u. rw (unknown_kind mark u, u.tb, u.ed) refl)
unfit_told bytes (begun s o (suc m) n (suc k)) few =
    let some = eqb-suc-zero m in
    all_marks _ refl refl refl refl refl refl (rw (some, full_is (suc k) 50 few.2) refl) (rw some refl)
    (λ mark u. rw (unknown_kind mark u, u.tb, u.ed) refl)

module _ (bytes : List ℕ) (s : Spec) where
  -- A specification,
  pub spec_more : with_folio (moved beginning (kind_of (spec_mark s.edition))) 1 ≡ state_of bytes (begun s unstated 0 0 0)
  unfolding state_of head_of
  spec_more =
      let far : 0 + spec_size s.edition ≡ spec_size s.edition = omega arith in
      rw (spec_kind s.edition) (λ i.
      record { stage = spec; count = 1; last = 0; at = far i; folio = 1; first = far i; lines = 0; figures = 0; tables = 0 })

  -- a folio,
  pub folio_more : (f : ℕ) → with_folio (moved (state_of bytes (begun s unstated 0 0 0)) (kind_of FO)) f ≡ state_of bytes (begun s (stated f) 0 0 0)
  unfolding state_of head_of kind_of
  folio_more f = refl

  -- a line,
  pub line_more : (o : Stated) (m : ℕ) → with_line (moved (state_of bytes (begun s o m 0 0)) (kind_of TL)) ≡ state_of bytes (begun s o (suc m) 0 0)
  unfolding state_of kind_of
  line_more o m = grind arith

  -- a figure,
  pub figure_more : (o : Stated) (m n cite : ℕ) → cite ≡ field_of bytes (galley_in s o (suc m) (suc n) 0).figures cite_at (suc n)
      → with_figure (moved (state_of bytes (begun s o (suc m) n 0)) (kind_of FG)) cite ≡ state_of bytes (begun s o (suc m) (suc n) 0)
  unfolding state_of kind_of
  figure_more o m n cite e = grind arith

  -- a table.
  pub table_more : (o : Stated) (m n k cite : ℕ) → cite ≡ field_of bytes (galley_in s o (suc m) n (suc k)).tables cite_at (suc k)
      → with_table (moved (state_of bytes (begun s o (suc m) n k)) (kind_of TB)) cite ≡ state_of bytes (begun s o (suc m) n (suc k))
  unfolding state_of kind_of
  table_more o m n k cite e = grind arith

-- The line cited last, where another float of a stream is read.
pub figure_last : (bytes : List ℕ) (s : Spec) (o : Stated) (m n : ℕ)
    → (moved (state_of bytes (begun s o (suc m) n 0)) (kind_of FG)).last ≡ last_cited bytes (galley_in s o (suc m) n 0).figures
unfolding state_of kind_of
figure_last bytes s o m n = grind arith

pub table_last : (bytes : List ℕ) (s : Spec) (o : Stated) (m n k : ℕ)
    → (moved (state_of bytes (begun s o (suc m) n k)) (kind_of TB)).last ≡ last_cited bytes (galley_in s o (suc m) n k).tables
unfolding state_of kind_of
table_last bytes s o m n k = grind arith

-- The lines that were read, and where the galley has come to.
pub state_lines : (bytes : List ℕ) (b : Start) → (state_of bytes b).lines ≡ lines_in b
unfolding state_of
state_lines bytes b = grind arith

pub state_galley : (bytes : List ℕ) (s : Spec) (o : Stated) (m n k : ℕ) → galley_so_far s (state_of bytes (begun s o m n k)) ≡ galley_in s o m n k
unfolding state_of head_of
state_galley bytes s o m n k = grind arith
