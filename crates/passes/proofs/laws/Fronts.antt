-- The queues of a window's two parts: their fronts can be read, and the better of them is the best line of the window.
use Rattle.std.specs.Prelude.{ℕ, ◌≤◌, ◌<◌, ◌⊎◌, true, List}
use Rattle.std.proofs.Common.{le_refl, arith, inl, inr}
use Rattle.std.proofs.Math.Decide.{dec_lt}
use Rattle.galley.specs.declared.Galley.{Galley}
use Rattle.galley.specs.Model.{text_of}
use Rattle.places.specs.Entry.{Entry}
use Rattle.places.specs.Best.{Best}
use Rattle.window.specs.declared.slide.Load.{Load}
use Rattle.window.specs.declared.slide.Window.{Window}
use Rattle.queues.specs.declared.parts.Parts.{Parts}
use Rattle.window.specs.Slide.{reached_of, white_of, Slidable, Open}
use Rattle.queues.specs.Queue.{added_of, front_of, Lines, Payable}
use Rattle.queues.specs.Parts.{rest_from, whitened_of, Both, Fresh}
use Rattle.window.specs.laws.Sums.{sums_small}
use Rattle.window.specs.laws.Slide.{reaches_readable}
use Rattle.queues.proofs.laws.White.{split_within, full_best, rest_best, rest_whitenable}
use Rattle.candidates.specs.Fronts.{best_front, Fronted}
use Rattle.candidates.specs.Read.{columns_in}
use Rattle.passes.specs.Sweep.{Lent, Scratch, Summed}
use Rattle.candidates.proofs.laws.Columns.{few_floats, columns_few}
use Rattle.candidates.proofs.laws.Choice.{best_chosen}

module _ {bytes : List ℕ} {g : Galley} {w : List ℕ} {j : ℕ} (lent : Lent bytes g w j) {sums words : List ℕ} (summed : Summed bytes g sums)
    (scratch : Scratch words) (load : Load) (order : load.htmin ≤ load.htmax) (i : ℕ) (line : i ≤ g.text.count) (window : Window)
    (opened : Open (text_of bytes g.text) load window i) (col : ℕ → Entry) (base b : ℕ) (parts : Parts)
    (held : Both col sums words base parts window) (fresh : Fresh words parts window) where
  -- The front of the full pages is the best line before the split,
  front_full : Best (Lines col (white_of (text_of bytes g.text) load i) window.low window.split b) (front_of words parts.full b)
  front_full =
      full_best (text_of bytes g.text) load window i opened order g.text.count sums summed.rows line col words base b parts held fresh

  -- that of the others, with its white, the best from there on,
  front_rest : Best (Lines col (white_of (text_of bytes g.text) load i) (rest_from window) window.high b)
      (whitened_of (front_of words parts.rest b) load.htmax (reached_of sums 1 load.loose i))
  front_rest =
      rest_best (text_of bytes g.text) load window i opened order g.text.count sums summed.rows line col words base b parts held fresh

  -- and the better of the two the best line of the window.
  pub fronts_best :
      Best (Lines col (white_of (text_of bytes g.text) load i) window.low window.high b) (best_front sums words parts b load i)
  fronts_best =
      best_chosen (λ a b' x c. (c.0, omega (arith, c.1, within), c.2, c.3))
      (λ a b' x c. (omega (arith, c.0), c.1, c.2, c.3)) part _ _ front_full front_rest
    where
      within : window.split ≤ window.high
      within = split_within (text_of bytes g.text) load window i opened order g.text.count sums summed.rows line

      part : (a b' x : ℕ) → Lines col (white_of (text_of bytes g.text) load i) window.low window.high b a b' x
          → Lines col (white_of (text_of bytes g.text) load i) window.low window.split b a b' x
          ⊎ Lines col (white_of (text_of bytes g.text) load i) (rest_from window) window.high b a b' x
      part a b' x c = go (dec_lt a window.split)
        where
          go : Dec (a < window.split) → Lines col (white_of (text_of bytes g.text) load i) window.low window.split b a b' x
              ⊎ Lines col (white_of (text_of bytes g.text) load i) (rest_from window) window.high b a b' x
          go (yes l) = inl (c.0, l, c.2, c.3)
          go (no l) = inr (omega (arith, c.0), c.1, c.2, c.3)

  -- Both can be read.
  pub can_front : b < columns_in g → base ≤ 8000 → Payable col i → Slidable sums load window i
      → Fronted sums words parts b load i
  can_front k low costs slides =
      let few = lent.sound.few_lines in
      let wide = columns_few g (few_floats lent.sound) in
      record {
        full =
            record {
              order = held.full.order;
              room = omega (arith, scratch, held.first, held.full.short, opened.ends.split);
              column = omega arith;
            };
        rest =
            record {
              order = held.rest.order;
              room = omega (arith, scratch, held.second, held.rest.short, opened.ends.high);
              column = omega arith;
            };
        reached = reaches_readable slides.high;
        white =
            rest_whitenable (text_of bytes g.text) load window i opened order g.text.count sums summed.rows line col words base b
            parts held fresh (λ a l. costs a (omega (arith, opened.ends.high)))
            (λ a l. small a (omega (arith, opened.ends.high)));
        order = λ x y s r e f.
            let first = front_full.may x s e in
            let second = front_rest.may y r f in
            omega (arith, first.1, second.0);
      }
    where
      small : (a : ℕ) → a < i → added_of sums true a ≤ 1000000000
      small a l =
          let pair = sums_small bytes g.text lent.sound.text lent.sound.few_lines sums summed.rows 1 (le_refl 1) a (omega arith) in
          unfold added_of in pair.0
