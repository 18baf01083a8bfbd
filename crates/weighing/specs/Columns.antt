-- What is weighed, by the columns where pages start and end.
use Rattle.std.specs.Prelude.{ℕ, ◌&&◌}
use Rattle.model.specs.Gather.{one, total}
use Rattle.model.specs.Galley.{Galley, Place}
use Rattle.model.specs.Weighed.{weighs, past}
use Rattle.places.specs.Columns.{place_at}

-- The pairs that are weighed of those that start in column b, at or past w in every stream, and end in column q.
unfoldable pub pairs_from : Galley → Place → ℕ → ℕ → ℕ
pairs_from g w b q =
    total (g.stream 0).size
    (λ i. total (g.stream 0).size (λ a. one (past g w (place_at g a b) && weighs g (place_at g a b) (place_at g i q))))
