-- Sums from the first line on: the height of a run of lines is what one has beyond another, and none is large.
use Rattle.std.specs.Prelude.{ℕ, zero, suc, pred, ◌+◌, ◌*◌, ◌≤◌, ◌<◌, ◌≡◌, refl, List, [], ◌∷◌, length, get_or}
use Rattle.std.proofs.Math.Decide.{dec_lt}
use Rattle.std.proofs.Common.{arith, sym, ap, ◌∙◌, inl}
use Rattle.model.specs.Gather.{sum}
use Rattle.model.specs.Galley.{Stream}
use Rattle.model.specs.Height.{stacked}
use Rattle.model.proofs.laws.Gather.{between_sum}
use Rattle.model.proofs.laws.Height.{sum_mono}
use Rattle.galley.specs.declared.Stream as galley
use Rattle.galley.specs.Model.{text_of}
use Rattle.galley.specs.Sound.{SoundStream}
use Rattle.window.specs.Sums.{reach, bare_at, Bare, SmallPair, Pair, Row, Sums}
use Rattle.window.specs.Rows.{pushed}
use Rattle.window.specs.Run.{SumsRun}
use Rattle.window.specs.laws.Rows.{pushed_length, pushed_word, pushed_own}

-- The lines up to i are those up to a with the space after it, and the rest.
pub reach_stacked :
    (st : Stream) (gap : ℕ → ℕ) (a i : ℕ) → a < i → stacked st gap 0 i ≡ reach st gap a + stacked st gap a i
unfolding stacked reach sum
reach_stacked st gap a i h =
    let blocks = between_sum a i st.ht (omega arith) in
    let spaces = between_sum a (pred i) gap (omega arith) in
    let blocks₀ = between_sum 0 i st.ht (omega arith) in
    let spaces₀ = between_sum 0 (pred i) gap (omega arith) in
    omega arith

-- A later line is reached no earlier.
pub reach_grows : (st : Stream) (gap : ℕ → ℕ) (a b : ℕ) → a ≤ b → reach st gap a ≤ reach st gap b
unfolding reach
reach_grows st gap a b h =
    let blocks = sum_mono a b st.ht h in
    let spaces = sum_mono a b gap h in
    omega arith

-- Nothing is reached before the first line.
pub reach_none : (st : Stream) (gap : ℕ → ℕ) → reach st gap 0 ≡ 0
unfolding reach sum
reach_none st gap = omega arith

-- One line more, with the space after it.
pub reach_next :
    (st : Stream) (gap : ℕ → ℕ) (k : ℕ) → reach st gap (k + 1) ≡ reach st gap k + (st.ht (k + 1) + gap (k + 1))
unfolding reach sum
reach_next st gap k =
    let e : suc k ≡ k + 1 = omega arith in
    rw (← e) (omega arith)

-- No line, no height.
pub high_none : (st : Stream) (gap : ℕ → ℕ) → stacked st gap 0 0 ≡ 0
unfolding stacked sum
high_none st gap =
    let blocks = between_sum 0 0 st.ht (omega arith) in
    let spaces = between_sum 0 0 gap (omega arith) in
    omega arith

-- One line more, without the space after it.
pub high_next : (st : Stream) (gap : ℕ → ℕ) (k : ℕ) → stacked st gap 0 (k + 1) ≡ reach st gap k + st.ht (k + 1)
unfolding stacked reach sum
high_next st gap k =
    let e : suc k ≡ k + 1 = omega arith in
    let blocks = between_sum 0 (suc k) st.ht (omega arith) in
    let spaces = between_sum 0 k gap (omega arith) in
    rw (← e) (omega arith)

-- Row k + 1 written with how far the lines up to k reach and some height. The rows before it are as they were, so that the sums of line k,
-- which lacked the space after it, are whole.
module _ (sums : List ℕ) (k tight loose height : ℕ) where
  row_kept : (n : ℕ) → n < 3 * k + 3 → get_or (pushed sums (k + 1) tight loose height) n 0 ≡ get_or sums n 0
  row_kept n l = pushed_word sums (k + 1) tight loose height n (inl (omega arith))

  row_word : (d : ℕ) → d < 3 → 3 * k + 6 ≤ length sums
      → get_or (pushed sums (k + 1) tight loose height) (3 * k + 3 + d) 0 ≡ get_or (tight ∷ loose ∷ height ∷ []) d 0
  row_word d l room =
      let at : 3 * k + 3 + d ≡ 3 * (k + 1) + d = omega arith in
      rw at (pushed_own sums (k + 1) tight loose height d l (omega arith))

  bare_kept : (space q : ℕ) → space ≤ 1 → q ≤ k → bare_at (pushed sums (k + 1) tight loose height) space q ≡ bare_at sums space q
  bare_kept space q either l =
      let first = row_kept (3 * q + space) (omega arith) in
      let last = row_kept (3 * q + 2) (omega arith) in
      omega arith

  pair_kept : (st : Stream) (gap : ℕ → ℕ) (space q : ℕ) → space ≤ 1 → q < k → Pair st gap sums space q
      → Pair st gap (pushed sums (k + 1) tight loose height) space q
  pair_kept st gap space q either l p =
      record {
        spaced = row_kept (3 * q + 3 + space) (omega arith) ∙ p.spaced;
        bare = bare_kept space q either (omega arith) ∙ p.bare;
      }

  pair_whole : (st : Stream) (gap : ℕ → ℕ) (space : ℕ) → space ≤ 1 → 3 * k + 6 ≤ length sums
      → get_or (tight ∷ loose ∷ height ∷ []) space 0 ≡ reach st gap k → bare_at sums space k ≡ stacked st gap 0 k
      → Pair st gap (pushed sums (k + 1) tight loose height) space k
  pair_whole st gap space either room e bare =
      record {
        spaced = row_word space (omega arith) room ∙ e;
        bare = bare_kept space k either (omega arith) ∙ bare;
      }

  -- Where the height is that of line k + 1, so far its sums go without the space after it.
  bare_next : (st : Stream) (gap : ℕ → ℕ) (space : ℕ) → space ≤ 1 → 3 * k + 6 ≤ length sums
      → get_or (tight ∷ loose ∷ height ∷ []) space 0 ≡ reach st gap k → height ≡ st.ht (k + 1)
      → bare_at (pushed sums (k + 1) tight loose height) space (k + 1) ≡ stacked st gap 0 (k + 1)
  bare_next st gap space either room e h =
      let begin : 3 * (k + 1) + space ≡ 3 * k + 3 + space = omega arith in
      let own : 3 * (k + 1) + 2 ≡ 3 * k + 3 + 2 = omega arith in
      let first = row_word space (omega arith) room in
      let last = row_word 2 (omega arith) room in
      let high = high_next st gap k in
      rw (begin, own) (omega arith)

  rows_kept : (st : Stream) → 3 * k + 6 ≤ length sums → tight ≡ reach st st.least k → loose ≡ reach st st.most k
      → ((q : ℕ) → q < k → Row st sums q) → Bare st sums k → (q : ℕ) → q ≤ k → Row st (pushed sums (k + 1) tight loose height) q
  rows_kept st room t l rows bare q m = go (dec_lt q k)
    where
      go : Dec (q < k) → Row st (pushed sums (k + 1) tight loose height) q
      go (yes p) =
          record {
            tight = pair_kept st st.least 0 q (omega arith) p (rows q p).tight;
            loose = pair_kept st st.most 1 q (omega arith) p (rows q p).loose;
          }
      go (no p) =
          let last : q ≡ k = omega arith in
          rw last
          (record {
            tight = pair_whole st st.least 0 (omega arith) room t bare.tight;
            loose = pair_whole st st.most 1 (omega arith) room l bare.loose;
          })

-- Heights and spaces within the limit make small sums.
reach_low : (st : Stream) (gap : ℕ → ℕ) (n : ℕ) → ((k : ℕ) → 1 ≤ k → k ≤ n → st.ht k ≤ 100000)
    → ((k : ℕ) → 1 ≤ k → k ≤ n → gap k ≤ 100000) → (i : ℕ) → i ≤ n → reach st gap i ≤ i * 200000
unfolding reach sum
reach_low st gap n h l zero m = omega arith
reach_low st gap n h l (suc i) m =
    let below = reach_low st gap n h l i (omega arith) in
    let block = h (suc i) (omega arith) m in
    let space = l (suc i) (omega arith) m in
    omega arith

-- Without the space after the last line they are no larger.
high_low : (st : Stream) (gap : ℕ → ℕ) (i : ℕ) → stacked st gap 0 i ≤ reach st gap i
unfolding stacked reach sum
high_low st gap i =
    let blocks = between_sum 0 i st.ht (omega arith) in
    let spaces = between_sum 0 (pred i) gap (omega arith) in
    let less = sum_mono (pred i) i gap (omega arith) in
    omega arith

-- A pair of small sums is small.
pair_small : (st : Stream) (gap : ℕ → ℕ) (sums : List ℕ) (space k : ℕ) → reach st gap k ≤ 800000000 → Pair st gap sums space k
    → SmallPair sums space k
pair_small st gap sums space k low p =
    let spaced = p.spaced in
    let bare = p.bare in
    let less = high_low st gap k in
    omega arith

-- The sums of a text are small in every line.
module _ (bytes : List ℕ) (text : galley.Stream) (sound : SoundStream bytes text) (few : text.count ≤ 4000) where
  text_low : (gap : ℕ → ℕ) → ((k : ℕ) → 1 ≤ k → k ≤ text.count → gap k ≤ 100000) → (i : ℕ) → i ≤ text.count
      → reach (text_of bytes text) gap i ≤ 800000000
  text_low gap low i m =
      let small = reach_low (text_of bytes text) gap text.count (λ k p q. (sound.ranged k p q).heights) low i m in
      omega arith

  tight_low : (i : ℕ) → i ≤ text.count → reach (text_of bytes text) (text_of bytes text).least i ≤ 800000000
  tight_low = text_low (text_of bytes text).least (λ k p q. let r = sound.ranged k p q in omega (arith, r.leasts, r.mosts))

  loose_low : (i : ℕ) → i ≤ text.count → reach (text_of bytes text) (text_of bytes text).most i ≤ 800000000
  loose_low = text_low (text_of bytes text).most (λ k p q. (sound.ranged k p q).mosts)

  pub sums_small : (sums : List ℕ) → Sums (text_of bytes text) text.count sums → (space : ℕ) → space ≤ 1 → (k : ℕ)
      → k ≤ text.count → SmallPair sums space k
  sums_small sums rows zero either k m =
      pair_small (text_of bytes text) (text_of bytes text).least sums 0 k (tight_low k m) (rows k m).tight
  sums_small sums rows (suc zero) either k m =
      pair_small (text_of bytes text) (text_of bytes text).most sums 1 k (loose_low k m) (rows k m).loose
  sums_small sums rows (suc (suc space)) either k m = absurd (omega arith)

-- The row of zeros is that of the place before the first line.
pub sums_first : (bytes : List ℕ) (text : galley.Stream) (sums new : List ℕ) → 3 * text.count + 6 ≤ length sums
    → new ≡ pushed sums 0 0 0 0 → SumsRun bytes text new new 0 0 0
sums_first bytes text sums new room e =
    record {
      within = omega arith;
      sized = refl;
      tights = sym (reach_none st st.least);
      looses = sym (reach_none st st.most);
      rows = λ q l. absurd (omega arith);
      bare = record {
        tight = none 0 (omega arith) refl ∙ sym (high_none st st.least);
        loose = none 1 (omega arith) refl ∙ sym (high_none st st.most);
      };
    }
  where
    st : Stream
    st = text_of bytes text

    zeros : List ℕ
    zeros = 0 ∷ 0 ∷ 0 ∷ []

    none : (space : ℕ) → space ≤ 1 → get_or zeros space 0 ≡ 0 → bare_at new space 0 ≡ 0
    none space either z =
        let first = pushed_own sums 0 0 0 0 space (omega arith) (omega arith) in
        let last = pushed_own sums 0 0 0 0 2 (omega arith) (omega arith) in
        rw e (omega arith)

-- One line more: its row is written, and its sums are in hand.
module _ (bytes : List ℕ) (text : galley.Stream) (sums₀ sums : List ℕ) (tight loose k height least most : ℕ)
    (run : SumsRun bytes text sums₀ sums tight loose k) (some : k < text.count) (a : height ≡ (text_of bytes text).ht (k + 1))
    (b : least ≡ (text_of bytes text).least (k + 1)) (c : most ≡ (text_of bytes text).most (k + 1)) where
  -- The sums in hand and what the line adds to them, all together, fit a word.
  pub sums_fit : SoundStream bytes text → text.count ≤ 4000 → tight + loose + height + least + most ≤ 1600300000
  sums_fit sound few =
      let ranged = sound.ranged (k + 1) (omega arith) (omega arith) in
      let tights = tight_low bytes text sound few k (omega arith) in
      let looses = loose_low bytes text sound few k (omega arith) in
      omega (arith, run.tights, run.looses, ranged)

  pub sums_next : (new : List ℕ) → 3 * text.count + 6 ≤ length sums → new ≡ pushed sums (k + 1) tight loose height
      → SumsRun bytes text sums₀ new (tight + (height + least)) (loose + (height + most)) (k + 1)
  sums_next new room e =
      record {
        within = omega arith;
        sized = ap length e ∙ pushed_length sums (k + 1) tight loose height ∙ run.sized;
        tights = let next = reach_next st st.least k in omega (arith, run.tights);
        looses = let next = reach_next st st.most k in omega (arith, run.looses);
        rows = λ q l.
            rw e (rows_kept sums k tight loose height st (omega arith) run.tights run.looses run.rows run.bare q (omega arith));
        bare = record {
          tight = rw e (bare_next sums k tight loose height st st.least 0 (omega arith) (omega arith) run.tights a);
          loose = rw e (bare_next sums k tight loose height st st.most 1 (omega arith) (omega arith) run.looses a);
        };
      }
    where
      st : Stream
      st = text_of bytes text

-- After the last line: how far it reaches is written too, and the sums are whole.
pub sums_last : (bytes : List ℕ) (text : galley.Stream) (sums₀ sums new : List ℕ) (tight loose k : ℕ)
    → SumsRun bytes text sums₀ sums tight loose k → text.count ≤ k → 3 * text.count + 6 ≤ length sums
    → new ≡ pushed sums (text.count + 1) tight loose 0 → Sums (text_of bytes text) text.count new
sums_last bytes text sums₀ sums new tight loose k run over room e q l =
    let last : text.count ≡ k = omega (arith, run.within) in
    let written : new ≡ pushed sums (k + 1) tight loose 0 = e ∙ ap (λ m. pushed sums (m + 1) tight loose 0) last in
    rw written
    (rows_kept sums k tight loose 0 (text_of bytes text) (omega arith) run.tights run.looses run.rows run.bare q (omega arith))
