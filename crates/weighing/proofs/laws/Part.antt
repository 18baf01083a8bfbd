-- What pages have of a stream of floats, whichever it is: from nothing, one float more at a time.
use Rattle.std.specs.Prelude.{ℕ, ◌≤◌, ◌<◌, refl, List}
use Rattle.std.proofs.Common.{le_refl, arith}
use Rattle.galley.specs.declared.Stream.{Stream}
use Rattle.galley.specs.Model.{floats_of}
use Rattle.galley.specs.Sound.{SoundStream}
use Rattle.blocks.specs.laws.Heights.{stacked_nothing, stacked_room, back_stacked}
use Rattle.weighing.specs.Count.{Part, nothing, with_one_more, Extendable, PartOf}

module _ (bytes : List ℕ) (stream : Stream) (first end : ℕ) where
  pub part_nothing : first ≤ end → PartOf bytes stream first end (nothing end)
  part_nothing l = record { since = l; within = le_refl _; high = stacked_nothing (floats_of bytes stream) end end (le_refl _) }

  module _ {part : Part} (of : PartOf bytes stream first end part) where
    pub part_more : first < part.from → PartOf bytes stream first end (with_one_more bytes stream part end)
    part_more l =
        record {
          since = omega arith;
          within = omega (arith, of.within);
          high = back_stacked bytes stream part.from end part.heights _ (omega arith) refl of.high;
        }

    -- There is room for one more.
    pub part_room : first < part.from → SoundStream bytes stream → stream.count ≤ 4000 → end ≤ stream.count
        → Extendable bytes stream part end
    part_room l sound few within =
        record { some = omega arith; room = stacked_room bytes stream part.from end part.heights sound few within of.high }
