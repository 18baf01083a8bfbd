-- A galley that reads without refusal is one that the page model's theorems hold of.
use Rattle.std.specs.Prelude.{ℕ, zero, suc, ◌≤◌, ◌≡◌, List, Ok}
use Rattle.std.proofs.Common.{arith}
use Rattle.model.specs.Galley.{Sane, Block}
use Rattle.galley.specs.declared.Galley.{Galley}
use Rattle.galley.specs.Whole.{galley_of}
use Rattle.galley.specs.Model.{model_of}
use Rattle.galley.specs.Sound.{Sound}
use Rattle.galley.proofs.laws.Sound.{sound}

-- There is a line, and the floats of each stream are cited in order by lines that exist.
pub sound_sane : (bytes : List ℕ) (g : Galley) → Sound bytes g → Sane (model_of bytes g)
sound_sane bytes g so =
    record {
      lined = so.some_lines;
      cites = λ s k h b. cites s k h b;
      grows = λ s k h b n. grows s k h b n;
    }
  where
    cites : (s k : ℕ) → 1 ≤ s → Block (model_of bytes g) s k
        → Block (model_of bytes g) 0 (((model_of bytes g).stream s).cite k)
    cites zero k h b = absurd (omega arith)
    cites (suc zero) k h b =
        let c = so.figures.citations in
        record { stream = omega arith; first = c.some k b.first b.last; last = c.line k b.first b.last }
    cites (suc (suc s)) k h b =
        let c = so.tables.citations in
        record { stream = omega arith; first = c.some k b.first b.last; last = c.line k b.first b.last }

    grows : (s k : ℕ) → 1 ≤ s → Block (model_of bytes g) s k → Block (model_of bytes g) s (suc k)
        → ((model_of bytes g).stream s).cite k ≤ ((model_of bytes g).stream s).cite (suc k)
    grows zero k h b n = absurd (omega arith)
    grows (suc zero) k h b n = so.figures.citations.grow k (suc k) b.first (omega arith) n.last
    grows (suc (suc s)) k h b n = so.tables.citations.grow k (suc k) b.first (omega arith) n.last

pub reads_sane : (bytes : List ℕ) (g : Galley) → galley_of bytes ≡ Ok g → Sane (model_of bytes g)
reads_sane bytes g e = sound_sane bytes g (sound bytes g e)
