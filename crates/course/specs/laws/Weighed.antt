-- What is weighed of a chapter is at most what all its starts and ends paired come to, and that of all chapters goes by one after another.
use Prim.Native.Nat.{ℕ, zero, suc, ◌+◌, ◌*◌, ◌≤◌, ◌<◌}
use Rattle.std.proofs.Common.{suc-mul, mul-le-mul, sym, ◌∙◌, drop_of_length-le}
use native.Mathlib.Omega.{arith}
use Rattle.std.specs.Prelude.{◌≡◌, Bool, true, false, ◌&&◌, List, ◌∷◌, drop, Ok}
use Rattle.std.proofs.Math.Path.{ap}
use Rattle.std.proofs.Math.ListN.{length}
use Rattle.model.specs.Gather.{one, sum, total}
use Rattle.model.specs.Galley as model
use Rattle.model.specs.Galley.{Place}
use Rattle.model.specs.Weighed.{weighs, past, weighed_from}
use Rattle.model.specs.laws.Boxes.{below}
use Rattle.model.proofs.laws.Weighed.{weighed_from_nothing}
use Rattle.galley.specs.declared.Galley.{Galley}
use Rattle.galley.specs.Whole.{galley_of}
use Rattle.galley.specs.Model.{model_of}
use Rattle.galley.specs.Sound.{Sound}
use Rattle.galley.proofs.laws.Sound.{sound}
use Rattle.blocks.specs.Counts.{no_counts, place_of, Within}
use Rattle.blocks.specs.laws.Counts.{zeros_of}
use Rattle.places.specs.Columns.{place_at}
use Rattle.candidates.specs.Read.{columns_in}
use Rattle.candidates.proofs.laws.Columns.{few_floats, columns_few, columns_in_lem}
use Rattle.weighing.specs.Columns.{pairs_from}
use Rattle.weighing.proofs.laws.Columns.{weighed_columns}
use Rattle.chapters.specs.declared.Book.{Book}
use Rattle.chapters.specs.Book.{Chapter, chapters_in, book_of, chapter_bytes}
use Rattle.chapters.specs.laws.Later.{chapters_read}
use Rattle.chapters.specs.laws.Chapters.{ChapterAt, chapter_at}
use Rattle.course.specs.Weighed.{all_weighed, BookRead, ChapterWeighed, Weighing}
use Rattle.course.specs.laws.Course.{one_galley}

-- Sums of numbers that are at most so much.
below_most : (n most : ℕ) (f : ℕ → ℕ) → ((x : ℕ) → f x ≤ most) → below n f ≤ n * most
unfolding below
below_most zero most f h = omega arith
below_most (suc n) most f h = let r = below_most n most f h in let x = h n in omega (arith, suc-mul n most)

total_most : (n most : ℕ) (f : ℕ → ℕ) → ((x : ℕ) → f x ≤ most) → total n f ≤ suc n * most
unfolding total sum
total_most n most f h = let r = sums n in let x = h 0 in omega (arith, suc-mul n most)
  where
    sums : (n : ℕ) → sum n f ≤ n * most
    sums zero = omega arith
    sums (suc n) = let r = sums n in let x = h (suc n) in omega (arith, suc-mul n most)

one_most : (b : Bool) → one b ≤ 1
one_most true = omega arith
one_most false = omega arith

pairs_most : (g : model.Galley) (w : Place) (b q : ℕ) → pairs_from g w b q ≤ suc (g.stream 0).size * (suc (g.stream 0).size * 1)
unfolding pairs_from
pairs_most g w b q =
    let n = (g.stream 0).size in
    let test : ℕ → ℕ → Bool = λ i a. past g w (place_at g a b) && weighs g (place_at g a b) (place_at g i q) in
    total_most n (suc n * 1) (λ i. total n (λ a. one (test i a))) (λ i. total_most n 1 (λ a. one (test i a)) (λ a. one_most (test i a)))

-- A galley within document 01's limits has no more pairs of starts and ends.
pub weighed_few : (bytes : List ℕ) (g : Galley) → Sound bytes g → (w : Place) → weighed_from (model_of bytes g) w ≤ 1682168785091001
weighed_few bytes g s w =
    let m = g.text.count in
    let wide = columns_in g in
    let few = columns_few g (few_floats s) in
    let lines : (b q : ℕ) → pairs_from (model_of bytes g) w b q ≤ 16008001 =
    λ b q.
    let t = pairs_most (model_of bytes g) w b q in
    let k = mul-le-mul {n₁ = suc m} {m₁ = suc m * 1} {n₂ = 4001} {m₂ = 4001} (omega (arith, s.few_lines)) (omega (arith, s.few_lines)) in
    omega arith in
    let row : (q : ℕ) → below wide (λ b. pairs_from (model_of bytes g) w b q) ≤ 164098018251 =
    λ q. let t = below_most wide 16008001 (λ b. pairs_from (model_of bytes g) w b q) (λ b. lines b q) in omega (arith, few) in
    let all = below_most wide 164098018251 _ row in
    let is = weighed_columns (model_of bytes g) w in
    let is' : weighed_from (model_of bytes g) w ≡ below wide (λ q. below wide (λ b. pairs_from (model_of bytes g) w b q)) = rw (columns_in_lem bytes g) at is in
    omega (arith, few)

-- Nothing is placed, within any galley.
pub none_within : (g : Galley) → Within g no_counts
none_within g = record { lines = omega arith; figures = omega arith; tables = omega arith }

pub chapter_weighed : (bytes : List ℕ) (g : Galley) (count : ℕ) → galley_of bytes ≡ Ok g
    → count ≡ weighed_from (model_of bytes g) (place_of g no_counts) → ChapterWeighed bytes count
chapter_weighed bytes g count e is =
    record {
      counts = λ h f.
          let all = is ∙ ap (weighed_from (model_of bytes g)) (sym (zeros_of g bytes)) ∙ weighed_from_nothing (model_of bytes g) in
          rw (← one_galley bytes g h e f) all;
      few = let few = weighed_few bytes g (sound bytes g e) (place_of g no_counts) in omega arith;
    }

module _ {bytes lengths : List ℕ} {book : Book} (p : BookRead bytes lengths book) where
  abbrev chapters : List Chapter
  chapters = p.first ∷ p.rest

  is_read : chapters_in (book_of bytes lengths) ≡ chapters
  is_read = chapters_read p.is

  -- Before the first chapter nothing is counted.
  pub weighing_first : Weighing (chapters_in (book_of bytes lengths)) 0 0
  weighing_first = record { within = omega arith; few = omega arith; goes = omega arith }

  pub weighing_at : {k : ℕ} → k < book.chapters → ChapterAt bytes lengths p.first p.rest k
  weighing_at {k} h = chapter_at bytes lengths p.first p.rest p.is k (omega (arith, p.many))

  -- One chapter more is counted.
  pub weighing_next : {k sum count : ℕ} → k < book.chapters → Weighing (chapters_in (book_of bytes lengths)) k sum
      → ChapterWeighed (chapter_bytes bytes lengths k) count → Weighing (chapters_in (book_of bytes lengths)) (k + 1) (sum + count)
  unfolding all_weighed
  weighing_next {k} {sum} {count} h w c =
      let at = weighing_at h in
      let is = c.counts at.galley at.reads in
      let e : k + 1 ≡ suc k = omega arith in
      let in_all = ap length is_read in
      let here = ap all_weighed (ap (drop k) is_read ∙ at.there) in
      let next = ap (λ j. all_weighed (drop j (chapters_in (book_of bytes lengths)))) e ∙ ap (λ cs. all_weighed (drop (suc k) cs)) is_read in
      record { within = omega (arith, p.many); few = omega (arith, w.few, c.few); goes = omega (arith, w.goes) }

  pub weighing_done : {k sum : ℕ} → book.chapters ≤ k → Weighing (chapters_in (book_of bytes lengths)) k sum
      → sum ≡ all_weighed (chapters_in (book_of bytes lengths))
  unfolding all_weighed
  weighing_done {k} {sum} h w =
      let in_all = ap length is_read in
      let all : length (chapters_in (book_of bytes lengths)) ≤ k = omega (arith, p.many) in
      let none = ap all_weighed (drop_of_length-le (chapters_in (book_of bytes lengths)) all) in
      omega (arith, w.goes)
