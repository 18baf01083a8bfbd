-- The ceiling on the pages weighed, stream by stream (document 02, S-5).
use Rattle.std.specs.Prelude.{ℕ, suc, ◌*◌}
use Rattle.model.specs.Galley as model
use Rattle.model.specs.Weighed.{most_together}

-- The two factors of a stream, multiplied: (m + 1)·(L + 1) of the lines, (n + 1)·(G + 1) of the figures, (k + 1)·(K + 1) of the
-- tables (document 02, S-5).
unfoldable pub factors : model.Galley → model.Stream → ℕ
factors g st = suc st.size * suc (most_together g st)
