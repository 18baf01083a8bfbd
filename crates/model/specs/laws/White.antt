-- Definitions that proofs/laws/White.antt is about, and that definitions of other crates cite.
use Rattle.std.specs.Prelude.{ℕ, Bool}
use Rattle.model.specs.Gather.{pick}
use Rattle.model.specs.Galley.{Galley, Place}
use Rattle.model.specs.White.{white_on}

-- What the page from u to v adds to W: its white, and nothing where it is the last.
unfoldable pub page_white : Galley → Bool → Place → Place → ℕ
page_white g last u v = pick last 0 (white_on g u v)
