-- What reading gives, as words.
use Rattle.std.specs.Prelude.{ℕ, List, [], ◌∷◌, ltb, eqb, Err, Ok}
use Rattle.galley.specs.Whole.{Reading}
use Rattle.model.specs.Gather.{pick}
use Rattle.galley.specs.Record.{height_at, least_at, most_at, cite_at}
use Rattle.galley.specs.Block.{field_of}
use Rattle.galley.specs.Model.{legal_of, floats_of}
use Rattle.rules.specs.Waiting.{waits}
use Rattle.galley.specs.declared.Stream.{Stream}
use Rattle.galley.specs.declared.Galley as galley

-- The number and place of a refusal, or the specification with its edition, the first folio and the counts after two zeros.
unfoldable pub words_of : Reading → List ℕ
words_of (Ok g) =
    0 ∷ 0 ∷ g.spec.htmin ∷ g.spec.htmax ∷ g.spec.smin ∷ g.spec.smax ∷ g.spec.sides ∷ g.spec.alpha
    ∷ g.spec.beta ∷ g.spec.edition ∷ g.spec.lastmin ∷ g.folio ∷ g.text.count ∷ g.figures.count
    ∷ g.tables.count ∷ []
words_of (Err r) = r.number ∷ r.place ∷ 0 ∷ 0 ∷ 0 ∷ 0 ∷ 0 ∷ 0 ∷ 0 ∷ 0 ∷ 0 ∷ 0 ∷ 0 ∷ 0 ∷ 0 ∷ []

-- The stream of a number: 0 is the text, 1 the figures, any other the tables.
abbrev pub stream_at : galley.Galley → ℕ → Stream
stream_at g number = pick (eqb number 0) g.text (pick (eqb number 1) g.figures g.tables)

abbrev zeros : List ℕ
zeros = 0 ∷ 0 ∷ 0 ∷ 0 ∷ 0 ∷ []

-- The four fields of block k of a stream and whether a page may end after it, or zeros where there is none.
unfoldable pub block_words : List ℕ → ℕ → ℕ → Reading → List ℕ
block_words bytes number k (Ok g) =
    let stream = stream_at g number in
    pick (ltb k 1) zeros
    (pick (ltb stream.count k) zeros
    (field_of bytes stream height_at k ∷ field_of bytes stream least_at k ∷ field_of bytes stream most_at k ∷ field_of bytes stream cite_at k
    ∷ pick (legal_of bytes stream k) 1 0 ∷ []))
block_words bytes number k (Err r) = zeros

-- How many floats of a stream wait with i lines and j of its floats placed, or 0 where the galley is refused.
unfoldable pub waiting_of : List ℕ → ℕ → ℕ → ℕ → Reading → ℕ
waiting_of bytes number i j (Ok g) = waits (floats_of bytes (stream_at g number)) i j
waiting_of bytes number i j (Err r) = 0
