-- The heights of pages of floats alone, and the columns of a row.
use Rattle.std.specs.Prelude.{ℕ, ◌+◌, ◌≤◌, Bool, ltb}
use Rattle.model.specs.Gather.{pick}
use Rattle.galley.specs.declared.Spec.{Spec}
use Rattle.blocks.specs.declared.heights.Heights.{Heights}
use Rattle.blocks.specs.Heights.{separated}
use Rattle.blocks.specs.laws.Heights.{Low}
use Rattle.starts.specs.declared.sweep.Row.{Row}

-- Heights of figures and of tables whose sum, with a separation, is a word.
pub record Layable (spec : Spec) (figures tables : Heights) : Type 0 where
  pub smin : spec.smin ≤ 100000
  pub smax : spec.smax ≤ 100000
  pub first : Low 40000000 figures
  pub second : Low 10000000 tables

-- The heights of a page of figures and tables alone, apart where it has both.
unfoldable pub floats_alone : Spec → Heights → Heights → Bool → Heights
floats_alone spec figures tables both =
    let floats : Heights = record { tight = figures.tight + tables.tight; loose = figures.loose + tables.loose } in
    pick both (separated spec 1 floats) floats

-- The tables of the columns that a row has to offer are fewer than this: no more than the end's, and in its own row fewer.
unfoldable pub row_top : Row → ℕ
row_top row = pick (ltb row.figures row.end.figures) (row.end.tables + 1) row.end.tables
