-- The lengths of a book's chapters: what the first of them and the rest come to.
use Rattle.std.specs.Prelude.{ℕ, zero, suc, ◌+◌, ◌-◌, ◌≤◌, ◌<◌, true, not, ◌&&◌, List, [], ◌∷◌, ◌≡◌, refl, length, get_or, take, drop, ltb, eqb}
use Rattle.std.proofs.Common.{arith, sym, ◌∙◌, ap, drop-cons, ltb-false, eqb-true}
use Rattle.std.proofs.Math.Seq.{slice, take-length, take-nil}
use Rattle.std.proofs.lemmas.Bool.{eqb-false, not-true}
use Rattle.model.proofs.laws.Gather.{and_left, and_right}
use Rattle.chapters.specs.Book.{all_bytes, adds_up, chapter_start}

start_suc : (lengths : List ℕ) (i : ℕ) → i < length lengths → chapter_start lengths (suc i) ≡ chapter_start lengths i + get_or lengths i 0
unfolding all_bytes
start_suc [] i h = absurd (omega arith)
start_suc (n ∷ ns) zero h = omega arith
start_suc (n ∷ ns) (suc i) h = let e = start_suc ns i (omega arith) in omega arith

-- The chapter after chapter i begins where that ends.
pub start_next : (lengths : List ℕ) (i : ℕ) → i < length lengths → chapter_start lengths (i + 1) ≡ chapter_start lengths i + get_or lengths i 0
start_next lengths i h =
    let e : i + 1 ≡ suc i = omega arith in
    ap (chapter_start lengths) e ∙ start_suc lengths i h

-- After all chapters stands what all lengths come to.
pub start_all : (lengths : List ℕ) → chapter_start lengths (length lengths) ≡ all_bytes lengths
start_all lengths = ap all_bytes (take-length lengths)

-- No chapter begins past the end of all.
pub start_within : (lengths : List ℕ) (i : ℕ) → chapter_start lengths i ≤ all_bytes lengths
unfolding all_bytes
start_within [] zero = omega arith
start_within [] (suc i) = omega arith
start_within (n ∷ ns) zero = omega arith
start_within (n ∷ ns) (suc i) = let h = start_within ns i in omega arith

-- What is left of the lengths is the next one, and what is left after that.
pub left_next : (lengths : List ℕ) (k : ℕ) → k < length lengths → all_bytes (drop k lengths) ≡ get_or lengths k 0 + all_bytes (drop (k + 1) lengths)
unfolding all_bytes
left_next lengths k h =
    let e : suc k ≡ k + 1 = omega arith in
    ap all_bytes (drop-cons lengths k 0 h) ∙ ap (λ j. get_or lengths k 0 + all_bytes (drop j lengths)) e

-- Lengths that add up, as inequalities.
pub record Adding (bytes lengths : List ℕ) : Type 0 where
  pub some : 1 ≤ length lengths
  pub few : length lengths ≤ 200
  pub all : all_bytes lengths ≡ length bytes

pub adding : (bytes lengths : List ℕ) → adds_up bytes lengths ≡ true → Adding bytes lengths
unfolding adds_up
adding bytes lengths h =
    let a = not (eqb (length lengths) 0) in
    let b = not (ltb 200 (length lengths)) in
    let c = eqb (all_bytes lengths) (length bytes) in
    let none = eqb-false (length lengths) 0 (not-true _ (and_left a b (and_left (a && b) c h))) in
    record {
      some = go (length lengths) none;
      few = ltb-false 200 (length lengths) (not-true _ (and_right a b (and_left (a && b) c h)));
      all = eqb-true (all_bytes lengths) (length bytes) (and_right (a && b) c h);
    }
  where
    go : (n : ℕ) → (n ≡ 0 → ⊥) → 1 ≤ n
    go zero none = absurd (none refl)
    go (suc n) none = omega arith

part_from : (from k : ℕ) (l : List ℕ) → take k (drop from l) ≡ slice from (from + k) l
part_from zero k l = let e : 0 + k ≡ k = omega arith in ap (λ j. take j l) (sym e)
part_from (suc from) k [] = take-nil k ∙ sym (ap (drop {A = ℕ} (suc from)) (take-nil (suc from + k)))
part_from (suc from) k (x ∷ l) = let e : suc from + k ≡ suc (from + k) = omega arith in part_from from k l ∙ ap (λ j. drop (suc from) (take j (x ∷ l))) (sym e)

-- The bytes of a chapter as they are lent: so many after its start.
pub part_slice : (from k : ℕ) (l : List ℕ) → take (from + k - from) (drop from l) ≡ slice from (from + k) l
part_slice from k l = let e : from + k - from ≡ k = omega arith in ap (λ j. take j (drop from l)) e ∙ part_from from k l
