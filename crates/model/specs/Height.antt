-- The height of one page, which goes from place u to place v (paper, section 2; document 01, "One page").
use Rattle.std.specs.Prelude.{ℕ, pred, ◌+◌, ◌*◌, Bool, ltb}
use Rattle.model.specs.Gather.{one, between, total}
use Rattle.model.specs.Galley.{Stream, Galley, Place, count}

-- The page has a block of stream s (paper, section 2: whether a sequence on the page is empty).
unfoldable pub has : Place → Place → ℕ → Bool
has u v s = ltb (count u s) (count v s)

-- The number of kinds on the page: of streams that it has a block of (paper, section 2, on mixed content).
unfoldable pub kinds : Galley → Place → Place → ℕ
kinds g u v = total g.floats (λ s. one (has u v s))

-- Blocks a + 1 to b of a stream with the spaces strictly between them: the space after block b, like that after a, is at
-- the page's edge and vanishes (paper, section 2, on white space; document 01, "One page").
unfoldable pub stacked : Stream → (ℕ → ℕ) → ℕ → ℕ → ℕ
stacked st gap a b = between a b st.ht + between a (pred b) gap

-- The height of the page with a given height for each space (paper, section 2, the left sides of its two inequalities), and
-- one separation for each kind beyond the first: with one float stream none or one, as in the paper.
unfoldable pub height : Galley → (Stream → ℕ → ℕ) → ℕ → Place → Place → ℕ
height g gap separation u v =
    total g.floats (λ s. stacked (g.stream s) (gap (g.stream s)) (count u s) (count v s)) + pred (kinds g u v) * separation

-- The tightest height: every space and separation at its least (document 01, "One page").
unfoldable pub tightest : Galley → Place → Place → ℕ
tightest g = height g (λ st. st.least) g.spec.smin

-- The loosest height: every space and separation at its greatest (document 01, "One page").
unfoldable pub loosest : Galley → Place → Place → ℕ
loosest g = height g (λ st. st.most) g.spec.smax
