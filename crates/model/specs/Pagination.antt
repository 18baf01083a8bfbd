-- A pagination as section 2 of the paper has it: a map from blocks to pages, stated without a page list. P s k is the page of
-- block k of stream s. What follows the definition says which list a map has, and its turns.
use Rattle.std.specs.Prelude.{ℕ, zero, suc, pred, ◌+◌, ◌-◌, ◌*◌, ◌≤◌, ◌<◌, ◌≡◌, Bool, true, ◌&&◌, List, [], ◌∷◌, eqb, leb, ltb}
use Rattle.model.specs.Gather.{pick, one, sum, total, row}
use Rattle.model.specs.Galley.{Stream, Galley, Place, Block, streams}
use Rattle.model.specs.Leaf.{leaf}
use Rattle.model.specs.Rules.{floor}

-- A map from blocks to pages (paper, section 2).
abbrev pub Map : Type 0
Map = ℕ → ℕ → ℕ

-- Heights of the blocks on page q, and of the spaces between two neighbours that are both on it (paper, section 2).
unfoldable pub stacked_on : Stream → (ℕ → ℕ) → (ℕ → ℕ) → ℕ → ℕ
stacked_on st gap P q =
    sum st.size (λ k. pick (eqb (P k) q) (st.ht k) 0)
    + sum (pred st.size) (λ k. pick (eqb (P k) q && eqb (P (suc k)) q) (gap k) 0)

-- Some block of the stream is on page q (paper, section 2).
unfoldable pub has_on : Stream → (ℕ → ℕ) → ℕ → Bool
has_on st P q = ltb 0 (sum st.size (λ k. one (eqb (P k) q)))

-- The height of page q, with a separation where it has mixed content (paper, section 2): one for each kind beyond the first.
unfoldable pub height_on : Galley → (Stream → ℕ → ℕ) → ℕ → Map → ℕ → ℕ
height_on g gap separation P q =
    total g.floats (λ s. stacked_on (g.stream s) (gap (g.stream s)) (P s) q)
    + pred (total g.floats (λ s. one (has_on (g.stream s) (P s) q))) * separation

-- P is a pagination of the galley on p pages (paper, section 2, with its four constraints).
pub record Pagination (g : Galley) (p : ℕ) (P : Map) : Type 0 where
  -- every block has one of the pages 1 to p
  pub into : (s k : ℕ) → Block g s k → (1 ≤ P s k) × (P s k ≤ p)
  -- every page has a block
  pub onto : (q : ℕ) → 1 ≤ q → q ≤ p → (s : ℕ) × (k : ℕ) × Block g s k × (P s k ≡ q)
  -- first constraint: the order of each stream is kept
  pub order : (s k : ℕ) → Block g s k → Block g s (suc k) → P s k ≤ P s (suc k)
  -- second constraint: no page is overfull
  pub over : (q : ℕ) → 1 ≤ q → q ≤ p → height_on g (λ st. st.least) g.spec.smin P q ≤ g.spec.htmax
  -- second constraint: no page is underfull, the last by a height of its own (document 02, S-11)
  pub under : (q : ℕ) → 1 ≤ q → q ≤ p → floor g (eqb q p) ≤ height_on g (λ st. st.most) g.spec.smax P q
  -- third constraint: a space that vanishes between two pages is a legal page end
  pub legal : (s k : ℕ) → Block g s k → Block g s (suc k) → P s k < P s (suc k) → (g.stream s).legal k ≡ true
  -- fourth constraint: no float is on a leaf before that of the line that cites it
  pub fourth : (s k : ℕ) → 1 ≤ s → Block g s k
      → leaf g.spec.sides (P 0 ((g.stream s).cite k)) ≤ leaf g.spec.sides (P s k)

-- The place after page q: of each stream the blocks on that page or an earlier one (document 01, "One page").
unfoldable pub place_on : Galley → Map → ℕ → Place
place_on g P q = row 0 (streams g) (λ s. sum (g.stream s).size (λ k. one (leb (P s k) q)))

-- The page list of a map: the places after p pages from page q on (document 01, "One page").
unfoldable pub list_on : Galley → Map → ℕ → ℕ → List Place
list_on g P zero q = []
list_on g P (suc p) q = place_on g P q ∷ list_on g P p (suc q)

-- The paper's Σ (P(f) − P(R(f))), over leaves: section 3.
unfoldable pub x_on : Galley → Map → ℕ
x_on g P =
    sum g.floats
    (λ s. sum (g.stream s).size (λ k. leaf g.spec.sides (P s k) - leaf g.spec.sides (P 0 ((g.stream s).cite k))))

-- Turn.S in single-sided work and Turn.D in double-sided work, of a pagination on p pages: section 3.
unfoldable pub turns_on : Galley → ℕ → Map → ℕ
turns_on g p P = g.spec.alpha * x_on g P + g.spec.beta * (leaf g.spec.sides p - leaf g.spec.sides 1)

-- W of a pagination on p pages: what each page but the last lacks of htMax at its loosest (document 02, S-10).
unfoldable pub white_over : Galley → ℕ → Map → ℕ
white_over g p P = sum (pred p) (λ q. g.spec.htmax - height_on g (λ st. st.most) g.spec.smax P q)
