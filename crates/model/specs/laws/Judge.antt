-- Definitions that proofs/laws/Judge.antt is about, and that definitions of other crates cite.
use Rattle.std.specs.Prelude.{ℕ, suc, Bool, ◌&&◌, List, [], ◌∷◌}
use Rattle.model.specs.Galley.{Place}
use Rattle.model.specs.Answers.{same, ended}
use Rattle.model.specs.Best.{Allowed}

-- Each page, numbered from q and starting at u, is allowed, and the last ends at l.
unfoldable pub accepts : Allowed → Place → ℕ → Place → List Place → Bool
accepts ok l q u [] = same u l
accepts ok l q u (v ∷ vs) = ok q (ended vs) u v && accepts ok l (suc q) v vs
