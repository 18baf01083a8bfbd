-- What is lent for a column is enough for the window, its queues and the best starts.
use Rattle.std.specs.Prelude.{ℕ, ◌+◌, ◌≤◌, ◌<◌, List}
use Rattle.std.proofs.Common.{mul-le-mul_right, arith, sym, subst}
use Rattle.galley.specs.declared.Galley.{Galley}
use Rattle.blocks.specs.declared.heights.Heights.{Heights}
use Rattle.blocks.specs.Heights.{Separable}
use Rattle.blocks.specs.laws.Heights.{Low}
use Rattle.places.specs.Address.{Stands}
use Rattle.window.specs.declared.slide.Window.{Window}
use Rattle.queues.specs.declared.parts.Parts.{Parts}
use Rattle.window.specs.Slide.{Reachable, Slidable}
use Rattle.queues.specs.Queue.{lines_of, Payable}
use Rattle.window.specs.Slide.{Rises}
use Rattle.queues.specs.Parts.{Both, Movable}
use Rattle.window.specs.laws.Sums.{sums_small}
use Rattle.candidates.specs.Read.{side_of, columns_in, load_of, Placed}
use Rattle.passes.specs.Sweep.{Lent, Scratch, Summed}
use Rattle.candidates.specs.Cells.{Wide, ColumnRoom}
use Rattle.candidates.proofs.laws.Columns.{few_floats}
use Rattle.candidates.proofs.laws.Read.{side_either, stands_in}

module _ {bytes : List ℕ} {g : Galley} {w : List ℕ} {j : ℕ} (lent : Lent bytes g w j) where
  -- A line of the column is a place.
  pub lent_placed : (i : ℕ) → i ≤ g.text.count → Placed bytes g i j
  lent_placed i h = record { sound = lent.sound; line = h; column = lent.column }

  -- A column of a galley within the limits.
  pub lent_wide : Wide g j
  lent_wide = record { few = lent.sound.few_lines; floats = few_floats lent.sound; within = lent.column }

  -- It stands in the work area,
  pub lent_room : ColumnRoom g w j
  lent_room = record { wide = lent_wide; two = lent.sound.spec_ranged.sides_two; room = lent.room }

  -- and so does a place.
  pub can_stand : (i b side : ℕ) → i ≤ g.text.count → b < columns_in g → side ≤ 1
      → Stands w (g.text.count + 1) (record { line = i; column = b }) side
  can_stand i b side h k l = stands_in g w i b side lent.sound.few_lines (few_floats lent.sound) h k l lent.room

  -- A separation or none can be added to floats.
  pub floats_separable : (n : ℕ) (floats : Heights) → n ≤ 1 → Low 60000000 floats → Separable g.spec n floats
  floats_separable n floats few low =
      let spec = lent.sound.spec_ranged in
      record {
        few = omega arith;
        smin = omega (arith, spec.smins, spec.smaxs);
        smax = spec.smaxs;
        tight = omega (arith, low.tight);
        loose = omega (arith, low.loose);
      }

  -- The ends of a window can be moved on to line i.
  pub can_slide : {sums : List ℕ} → Summed bytes g sums → (n : ℕ) (floats : Heights) → n ≤ 1 → Low 60000000 floats
      → (least first : ℕ) → least ≤ g.spec.htmax → (window : Window) (i : ℕ)
      → i ≤ g.text.count → window.low ≤ i → window.split ≤ i → window.high ≤ i → Slidable sums (load_of g n floats least first) window i
  can_slide {sums} summed n floats few beside least first under window i h low split high =
      let spec = lent.sound.spec_ranged in
      let load = load_of g n floats least first in
      let p = mul-le-mul_right g.spec.smin few in
      let q = mul-le-mul_right g.spec.smax few in
      record {
        low = from 0 load.tight (load.htmax + 1) window.low (omega arith) (omega (arith, beside.tight, spec.smins, spec.smaxs))
            (omega (arith, spec.htmaxs)) low;
        split = from 1 load.loose load.htmax window.split (omega arith) (omega (arith, beside.loose, spec.smaxs))
            (omega (arith, spec.htmaxs)) split;
        high = from 1 load.loose load.htmin window.high (omega arith) (omega (arith, beside.loose, spec.smaxs))
            (omega (arith, spec.htmaxs)) high;
      }
    where
      from : (space beside limit a : ℕ) → space ≤ 1 → beside ≤ 1000000000 → limit ≤ 1000000001 → a ≤ i
          → Reachable sums space beside limit a i
      from space beside limit a either added limited start =
          record {
            start = start;
            either = either;
            room = omega (arith, summed.room);
            small = λ k l.
                sums_small bytes g.text lent.sound.text lent.sound.few_lines sums summed.rows space either k
                (omega arith);
            added = added;
            limited = limited;
          }

  -- The queues of the lines of column b can be moved on to a window whose parts end by line i.
  pub can_move : {sums words : List ℕ} → Summed bytes g sums → Scratch words → (b c : ℕ) → b < columns_in g → (parts : Parts)
      (from to : Window) (i : ℕ) → i ≤ g.text.count → Payable (lines_of w (g.text.count + 1) b (side_of g c)) i → to.split ≤ i
      → to.high ≤ i → Rises from to → (base : ℕ) → base ≤ 8000
      → Both (lines_of w (g.text.count + 1) b (side_of g c)) sums words base parts from
      → Movable w sums words (record { tall = g.text.count + 1; column = b; side = side_of g c }) parts from to
  can_move {sums} {words} summed scratch b c k parts from to i h costs split high rises base low held =
      record {
        top = i;
        few = omega (arith, lent.sound.few_lines);
        split = split;
        high = high;
        stands = λ a l. can_stand a b (side_of g c) (omega arith) k (side_either g c);
        costs = costs;
        summed = omega (arith, summed.room);
        rises = rises;
        held =
            subst (λ n. Both (lines_of w (g.text.count + 1) b (side_of g c)) sums words n parts from) (sym held.first) held;
        room = omega (arith, scratch, held.first);
      }
