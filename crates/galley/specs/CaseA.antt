-- The galley of case A, byte by byte, read by computation: document 01, "Galleys to try".
use Rattle.std.specs.Prelude.{ℕ, false, ◌≡◌, refl, List, [], ◌∷◌, ◌++◌, Ok}
use Rattle.galley.specs.Whole.{galley_of}
use Rattle.galley.specs.Word.{word_at, mark_at}
use Rattle.galley.specs.Range.{spec_in_range, block_in_range}
use Rattle.galley.specs.Place.{kind_of}
use Rattle.galley.specs.Record.{line_of, float_of, fields_of, record_at}
use Rattle.galley.specs.Whole.{cited, closed, after, step_from, settled, read_from}
use Rattle.galley.specs.Block.{offset}
use Rattle.galley.specs.declared.Galley.{Galley}

abbrev spec_bytes : List ℕ
spec_bytes =
    71 ∷ 83 ∷ 0 ∷ 0 ∷ 0 ∷ 30 ∷ 0 ∷ 0 ∷ 0 ∷ 30 ∷ 0 ∷ 0 ∷ 0 ∷ 0 ∷ 0 ∷ 0 ∷ 0 ∷ 0
    ∷ 0 ∷ 0 ∷ 0 ∷ 1 ∷ 0 ∷ 0 ∷ 0 ∷ 1 ∷ 0 ∷ 0 ∷ 0 ∷ 1 ∷ []

abbrev line_bytes : List ℕ
line_bytes = 84 ∷ 76 ∷ 0 ∷ 0 ∷ 0 ∷ 10 ∷ 0 ∷ 0 ∷ 0 ∷ 0 ∷ 0 ∷ 0 ∷ 0 ∷ 0 ∷ 0 ∷ 0 ∷ 0 ∷ 1 ∷ []

abbrev figure_bytes : List ℕ
figure_bytes = 70 ∷ 71 ∷ 0 ∷ 0 ∷ 0 ∷ 20 ∷ 0 ∷ 0 ∷ 0 ∷ 0 ∷ 0 ∷ 0 ∷ 0 ∷ 0 ∷ 0 ∷ 0 ∷ 0 ∷ 1 ∷ []

abbrev case_a : List ℕ
case_a = spec_bytes ++ line_bytes ++ line_bytes ++ line_bytes ++ figure_bytes ++ 69 ∷ 68 ∷ []

abbrev galley_a : Galley
galley_a =
    record {
      spec = record { htmin = 30; htmax = 30; smin = 0; smax = 0; sides = 1; alpha = 1; beta = 1; edition = 1; lastmin = 0 };
      folio = 1;
      text = record { first = 30; count = 3 };
      figures = record { first = 84; count = 1 };
      tables = record { first = 102; count = 0 };
    }

-- Case A reads without refusal.
a_reads : galley_of case_a ≡ Ok galley_a
unfolding word_at mark_at kind_of spec_in_range block_in_range fields_of record_at cited closed after step_from settled read_from galley_of
a_reads = refl

-- Its third line and its figure.
a_line : line_of case_a (offset galley_a.text 3) ≡ record { block = record { height = 10; least = 0; most = 0 }; legal = 1 }
unfolding word_at
a_line = refl

a_figure : float_of false case_a (offset galley_a.figures 1) ≡ record { block = record { height = 20; least = 0; most = 0 }; cite = 1; kept = false }
unfolding word_at
a_figure = refl
