-- The next block of a page, whatever its stream: lines come first, then figures, then tables.
use Rattle.std.specs.Prelude.{ℕ, zero, suc, ◌+◌, ◌-◌, ◌≤◌, ◌<◌, ◌≡◌, refl, Bool, true, false, ◌&&◌, List, leb, ltb}
use Rattle.std.proofs.Common.{arith, le-leb, leb-true, leb-false, ltb-true, ltb-false}
use Rattle.model.specs.Gather.{pick}
use Rattle.model.proofs.laws.Gather.{and_left, and_right}
use Rattle.galley.specs.declared.Galley.{Galley}
use Rattle.galley.specs.Model.{streams_of}
use Rattle.galley.specs.Sound.{SoundStream, Sound}
use Rattle.blocks.specs.declared.Counts.{Counts}
use Rattle.blocks.specs.declared.heights.Heights.{Heights}
use Rattle.blocks.specs.Counts.{Within}
use Rattle.blocks.specs.Heights.{with_block, Room}
use Rattle.blocks.specs.laws.Heights.{Grown, with_grown}
use Rattle.laying.specs.declared.Laid.{Laid}
use Rattle.laying.specs.Heights.{records_of, count_of, one_more, is_laid, next_stream, Open}

-- No count of u is above that of v.
pub record Under (u v : Counts) : Type 0 where
  pub lines : u.lines ≤ v.lines
  pub figures : u.figures ≤ v.figures
  pub tables : u.tables ≤ v.tables

-- The blocks placed.
abbrev pub placed : Counts → ℕ
placed c = c.lines + c.figures + c.tables

-- One block more, whatever its stream.
pub under_up : {u on : Counts} (s : ℕ) → Under u on → Under u (one_more on s)
under_up zero h = record { lines = omega (arith, h.lines); figures = h.figures; tables = h.tables }
under_up (suc zero) h = record { lines = h.lines; figures = omega (arith, h.figures); tables = h.tables }
under_up (suc (suc s)) h = record { lines = h.lines; figures = h.figures; tables = omega (arith, h.tables) }

pub under_to : {on v : Counts} (s : ℕ) → count_of on s < count_of v s → Under on v → Under (one_more on s) v
under_to zero less h = record { lines = omega arith; figures = h.figures; tables = h.tables }
under_to (suc zero) less h = record { lines = h.lines; figures = omega arith; tables = h.tables }
under_to (suc (suc s)) less h = record { lines = h.lines; figures = h.figures; tables = omega arith }

pub under_count : {u v : Counts} (s : ℕ) → Under u v → count_of u s ≤ count_of v s
under_count zero h = h.lines
under_count (suc zero) h = h.figures
under_count (suc (suc s)) h = h.tables

pub placed_more : (c : Counts) (s : ℕ) → placed (one_more c s) ≡ placed c + 1
placed_more c zero = omega arith
placed_more c (suc zero) = omega arith
placed_more c (suc (suc s)) = omega arith

-- Fewer are left then.
abbrev pub left : Counts → Counts → ℕ
left on v = (v.lines - on.lines) + (v.figures - on.figures) + (v.tables - on.tables)

pub left_less : (on v : Counts) (s : ℕ) → count_of on s < count_of v s → left (one_more on s) v < left on v
left_less on v zero less = omega arith
left_less on v (suc zero) less = omega arith
left_less on v (suc (suc s)) less = omega arith

-- A page that has not all its blocks has a table left where no line and no figure is,
pub last_left : (on v : Counts) → is_laid on v ≡ false → v.lines ≤ on.lines → v.figures ≤ on.figures → on.tables < v.tables
unfolding is_laid
last_left on v not_all lines figures =
    let t : leb v.tables on.tables ≡ false = rw (le-leb _ _ lines, le-leb _ _ figures) at not_all in
    leb-false _ _ t

-- so that one is left of the stream that is next,
pub next_left : (on v : Counts) → is_laid on v ≡ false → count_of on (next_stream on v) < count_of v (next_stream on v)
unfolding next_stream
next_left on v not_all = go (ltb on.lines v.lines) refl (ltb on.figures v.figures) refl
  where
    go : (a : Bool) → ltb on.lines v.lines ≡ a → (b : Bool) → ltb on.figures v.figures ≡ b
        → count_of on (pick a 0 (pick b 1 2)) < count_of v (pick a 0 (pick b 1 2))
    go true lines b figures = ltb-true _ _ lines
    go false lines true figures = ltb-true _ _ figures
    go false lines false figures = last_left on v not_all (ltb-false _ _ lines) (ltb-false _ _ figures)

-- and one that has them all has none left of any.
pub all_laid : (on v : Counts) → is_laid on v ≡ true → Under v on
unfolding is_laid
all_laid on v all =
    let lines : Bool = leb v.lines on.lines in
    let figures : Bool = leb v.figures on.figures in
    let tables : Bool = leb v.tables on.tables in
    let floats = and_right lines (figures && tables) all in
    record {
      lines = leb-true _ _ (and_left lines (figures && tables) all);
      figures = leb-true _ _ (and_left figures tables floats);
      tables = leb-true _ _ (and_right figures tables floats);
    }

module _ {bytes : List ℕ} {g : Galley} (so : Sound bytes g) where
  stream_sound : (s : ℕ) → SoundStream bytes (records_of g s)
  stream_sound zero = so.text
  stream_sound (suc zero) = so.figures.sound
  stream_sound (suc (suc s)) = so.tables.sound

  pub stream_within : {v : Counts} (s : ℕ) → Within g v → count_of v s ≤ (records_of g s).count
  stream_within zero w = w.lines
  stream_within (suc zero) w = w.figures
  stream_within (suc (suc s)) w = w.tables

  pub stream_grown : (s a k : ℕ) (h : Heights) → a ≤ k → k < (records_of g s).count
      → Grown (streams_of bytes g s) a k h (with_block bytes (records_of g s) h a k)
  stream_grown zero a k h = with_grown bytes g.text so.text a k h
  stream_grown (suc zero) a k h = with_grown bytes g.figures so.figures.sound a k h
  stream_grown (suc (suc s)) a k h = with_grown bytes g.tables so.tables.sound a k h

  -- There is room for the next block.
  pub open_room : {v : Counts} {laid : Laid} (s : ℕ) → count_of laid.on s < count_of v s → Open bytes g v laid
      → Room bytes (records_of g s) laid.heights (count_of laid.on s + 1)
  open_room {v} s less o =
      record {
        sound = stream_sound s;
        within = omega (arith, stream_within {v = v} s o.within);
        tight = o.tight;
        loose = o.loose;
      }
