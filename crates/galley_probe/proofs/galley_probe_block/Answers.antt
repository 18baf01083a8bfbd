-- `galley_probe::galley_probe_block` meets its contract. Block k is there once its number is tested, since a galley that reads
-- is sound.
use Prim.Native.Nat.{ℕ, ◌≤◌}
use mathlib.Core.Path.{sym, ◌∙◌}
use native.Mathlib.Omega.{arith}
use Rattle.galley.specs.Block.{Has}
use Rattle.galley.proofs.laws.Sound.{sound}
use Rattle.galley_probe.specs.laws.Stream.{stream_sound}
use Rattle.galley_probe.proofs.galley_probe_block.Goals as goal
use Rattle.galley_probe.proofs.galley_probe_block.Goals.{Else-stream-k}

-- Once the number is tested, block k has each of its fields.
has : (c : Else-stream-k) (at : ℕ) → at ≤ 14
    → Has c.args.bytes.now c.stream_at-stream.result c.args.k at
has c at inside =
    let a = c.args in
    let read = sym c.read_galley.ensures ∙ c.in-Ok.is in
    record {
      within = rw c.stream_at-stream.ensures (stream_sound a.bytes.now _ a.number (sound _ _ read)).0.within;
      low = c.if-k-lt1.false;
      high = c.if-stream-k.false;
      field = inside;
    }

pub is_legal-requires : goal.is_legal-requires
is_legal-requires c = has (goal.at.is_legal-requires c).Else-stream-k _ (omega arith)

pub field-requires : goal.field-requires
field-requires c = has (goal.at.field-requires c).Else-stream-k _ (omega arith)

pub field-requires-2 : goal.field-requires-2
field-requires-2 c = has (goal.at.field-requires-2 c).Else-stream-k _ (omega arith)

pub field-requires-3 : goal.field-requires-3
field-requires-3 c = has (goal.at.field-requires-3 c).Else-stream-k _ (omega arith)

pub field-requires-4 : goal.field-requires-4
field-requires-4 c = has (goal.at.field-requires-4 c).Else-stream-k _ (omega arith)
