-- What is added up page by page of a list: X and W.
use Rattle.std.specs.Prelude.{ℕ, ◌+◌, ◌-◌, ◌≤◌, Bool}
use Rattle.model.specs.Gather.{pick}
use Rattle.galley.specs.declared.Galley.{Galley}
use Rattle.rules.specs.declared.counts.Sums.{Sums}
use Rattle.rules.specs.declared.waiting.Waiting.{Waiting}
use Rattle.rules.specs.Waiting.{waiting_at}

-- What a page of this loosest height lacks of htMax; nothing where it is the last (document 02, S-10).
unfoldable pub white_at : Galley → Bool → ℕ → ℕ
white_at g last loose = pick last 0 (g.spec.htmax - loose)

-- The sums with page q more, at whose end so many floats wait.
abbrev pub with_page : Galley → ℕ → Bool → ℕ → Waiting → Sums → Sums
with_page g q last loose waiting sums =
    record {
      x = sums.x + waiting_at g q (waiting.figures + waiting.tables);
      white = sums.white + white_at g last loose;
    }

-- Sums of so many pages at most, to which one more can be added within 32 bits.
pub record Addable (g : Galley) (waiting : Waiting) (sums : Sums) : Type 0 where
  pub folio : 1 ≤ g.folio
  pub waits : waiting.figures + waiting.tables ≤ 250
  pub highest : g.spec.htmax ≤ 100000
  pub x : sums.x ≤ 1062500
  pub white : sums.white ≤ 425000000
