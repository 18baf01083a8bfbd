-- `origin_after` meets its contract: the column of a place within the limits and the cost of its pages are words.
use Prim.Native.Nat.{◌*◌, ◌+◌, ◌≤◌}
use native.Mathlib.Nat.{mul-le-mul}
use native.Mathlib.Omega.{arith}
use Rattle.solving.proofs.opening.origin_after.Goals as goal
use Rattle.solving.proofs.opening.origin_after.Goals.{Start}

-- A column is a small number.
low : (c : Start) → c.args.ends.at.figures * (c.args.g.tables.count + 1) ≤ 10200
low c =
    let pre = c.requires in
    mul-le-mul {n₁ = c.args.ends.at.figures} {m₁ = c.args.g.tables.count + 1} {n₂ = 200} {m₂ = 51}
    (omega (arith, pre.placed.figures, pre.floats.figures)) (omega (arith, pre.floats.tables))

pub place_of-requires : goal.place_of-requires
place_of-requires c =
    record { line = omega (arith, c.requires.placed.lines, c.requires.lines); column = omega (arith, low (goal.at.place_of-requires c).Start, c.requires.placed.tables, c.requires.floats.tables) }

pub overflow_add-column : goal.overflow_add-column
overflow_add-column c = omega (arith, c.requires.floats.tables)

pub overflow_mul-column : goal.overflow_mul-column
overflow_mul-column c = omega (arith, low (goal.at.overflow_mul-column c).Start)

pub overflow_add-column-2 : goal.overflow_add-column-2
overflow_add-column-2 c = omega (arith, low (goal.at.overflow_add-column-2 c).Start, c.requires.placed.tables, c.requires.floats.tables)

pub printed_cost-requires : goal.printed_cost-requires
printed_cost-requires c = c.requires.limits

pub returns : goal.returns
returns c = rw (c.place_of.ensures, c.printed_cost.ensures)
