-- The sizes that there are sections of.
use Rattle.std.specs.Prelude.{ℕ, ◌-◌, ◌*◌, ◌/◌, ◌%◌, ◌≤◌, ◌≡◌, true, ◌&&◌, leb, eqb}
use Rattle.std.proofs.Common.{mul-le-mul, arith, leb-true, eqb-true, le-leb, eq-eqb}
use Rattle.model.proofs.laws.Gather.{and_left, and_right, and_both}
use Rattle.sections.specs.Folding.{start_of}
use Rattle.sections.specs.Answer.{is_size, Size}

-- The test holds exactly where the three facts do.
pub size_facts : (n : ℕ) → is_size n ≡ true → Size n
size_facts n h =
    let range = and_left (leb 4 n && leb n 64) (eqb (n % 4) 0) h in
    record {
      least = leb-true 4 n (and_left (leb 4 n) (leb n 64) range);
      most = leb-true n 64 (and_right (leb 4 n) (leb n 64) range);
      fours = eqb-true (n % 4) 0 (and_right (leb 4 n && leb n 64) (eqb (n % 4) 0) h);
    }

pub size_test : (n : ℕ) → Size n → is_size n ≡ true
size_test n h = and_both (and_both (le-leb 4 n h.least) (le-leb n 64 h.most)) (eq-eqb (n % 4) 0 h.fours)

-- No section starts after the first 480 numbers.
pub starts_inside : (n : ℕ) → Size n → start_of n ≤ 480
starts_inside n h =
    let twice : 2 * (n / 4) ≤ 32 = omega (arith, h.most) in
    let before : n / 4 - 1 ≤ 15 = omega (arith, h.most) in
    mul-le-mul twice before
