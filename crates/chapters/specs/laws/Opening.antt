-- How reading a book begins: the lengths do not add up, or the first chapter is turned away, or all is as the chapters have it.
use Rattle.std.specs.Prelude.{ℕ, ◌+◌, ◌≤◌, ◌<◌, true, false, ◌≡◌, length, get_or, Err}
use native.Mathlib.Omega.{arith}
use mathlib.Core.List.{List, [], ◌∷◌}
use Rattle.std.proofs.Math.Path.{sym, ap}
use Rattle.std.proofs.Common.{◌∙◌}
use Rattle.std.proofs.Math.Seq.{slice}
use Rattle.model.specs.Gather.{pick}
use Rattle.galley.specs.Whole.{galley_of}
use Rattle.model.specs.declared.answer.Refusal.{Refusal}
use Rattle.chapters.specs.Book.{refused, all_bytes, adds_up, first_of, chapters_of, book_of, reading_of, chapter_start}
use Rattle.chapters.specs.laws.Lengths.{Adding, adding, start_next, start_within}

module _ (bytes lengths : List ℕ) where
  -- The lengths do not add up.
  pub unadded : adds_up bytes lengths ≡ false → Err (record { number = 28; place = 0 }) ≡ reading_of (book_of bytes lengths)
  unfolding book_of reading_of
  unadded e = sym (ap (λ b. reading_of (pick b (chapters_of bytes lengths) (refused 28 0))) e)

  -- They add up.
  pub added : adds_up bytes lengths ≡ true → book_of bytes lengths ≡ chapters_of bytes lengths
  unfolding book_of
  added e = ap (λ b. pick b (chapters_of bytes lengths) (refused 28 0)) e

  -- Every chapter ends within the bytes.
  pub extent_within : Adding bytes lengths → (k : ℕ) → k < length lengths → chapter_start lengths k + get_or lengths k 0 ≤ length bytes
  extent_within adds k h = omega (arith, start_next lengths k h, start_within lengths (k + 1), adds.all)

  pub first_within : adds_up bytes lengths ≡ true → get_or lengths 0 0 ≤ length bytes
  unfolding all_bytes
  first_within e =
      let adds = adding bytes lengths e in
      let w = extent_within adds 0 (omega (arith, adds.some)) in
      omega arith

  -- The first chapter is turned away.
  pub first_refused : (r : Refusal) → adds_up bytes lengths ≡ true → galley_of (slice 0 (get_or lengths 0 0) bytes) ≡ Err r
      → Err (record { number = r.number; place = 1 }) ≡ reading_of (book_of bytes lengths)
  unfolding chapters_of first_of reading_of
  first_refused r e f = go lengths (adding bytes lengths e) f ∙ sym (ap reading_of (added e))
    where
      go : (ls : List ℕ) → Adding bytes ls → galley_of (slice 0 (get_or ls 0 0) bytes) ≡ Err r
          → Err (record { number = r.number; place = 1 }) ≡ reading_of (chapters_of bytes ls)
      go [] adds f = absurd (omega (arith, adds.some))
      go (n ∷ ns) adds f =
          sym (ap (λ r. reading_of (first_of bytes n ns r)) f)
