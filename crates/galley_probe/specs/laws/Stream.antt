-- What the streams of a galley that reads have in common.
use Rattle.std.specs.Prelude.{ℕ, ◌≤◌, Bool, true, false, List, eqb}
use Rattle.std.proofs.Common.{arith}
use Rattle.model.specs.Gather.{pick}
use Rattle.galley.specs.Sound.{SoundStream, Sound}
use Rattle.galley.specs.declared.Galley.{Galley}
use Rattle.galley.specs.declared.Stream.{Stream}
use Rattle.galley_probe.specs.Words.{stream_at}

-- Every stream is sound, and has no more than 4,000 blocks.
pub stream_sound : (bytes : List ℕ) (g : Galley) (number : ℕ) → Sound bytes g
    → SoundStream bytes (stream_at g number) × ((stream_at g number).count ≤ 4000)
stream_sound bytes g number so = go (eqb number 0) (eqb number 1)
  where
    Fine : Stream → Type 0
    Fine stream = SoundStream bytes stream × (stream.count ≤ 4000)

    go : (text figures : Bool) → Fine (pick text g.text (pick figures g.figures g.tables))
    go true figures = (so.text, so.few_lines)
    go false true = (so.figures.sound, omega (arith, so.figures.few))
    go false false = (so.tables.sound, omega (arith, so.tables.few))
