-- What the words of the work area mean: an entry read, stored and cleared (document 01, "Making").
use Rattle.std.specs.Prelude.{ℕ, ◌+◌, ◌*◌, ◌/◌, ◌%◌, Bool, true, false, List, [], ◌∷◌, ◌++◌, Option, Some, None, get_or, drop, replicate, eqb, ltb}
use Rattle.std.proofs.lemmas.List.Edits.{sets}
use Rattle.places.specs.declared.Place.{Place}
use Rattle.places.specs.declared.Least.{Least}

-- A place is either unreached or has a least cost, that of the page ending there, and with it the page's start (document 01, "Making").
abbrev pub Entry : Type 0
Entry = Option Least

-- The entry of a place that is reached.
abbrev pub least : ℕ → Place → Entry
least cost start = Some (record { cost = cost; start = start })

-- The cost x is less than y (document 01, "Making": least T; document 02, S-10: then least W).
abbrev pub less : ℕ → ℕ → Bool
less x y = ltb x y

-- The two words of a cost: the low one,
abbrev pub low_of : ℕ → ℕ
low_of cost = cost % 4294967296

-- and the high one.
abbrev pub high_of : ℕ → ℕ
high_of cost = cost / 4294967296

-- The cost of two words.
abbrev pub joined : ℕ → ℕ → ℕ
joined low high = high * 4294967296 + low

-- A limit that no list passes.
abbrev pub boundless : ℕ
boundless = 4600000000000000000

-- A place is either unreached or has a least cost, by its tag (document 01, "Making").
abbrev pub tagged : Bool → ℕ → Place → Entry
tagged true cost start = least cost start
tagged false cost start = None

-- The entry whose five words start at an offset; only the tag 1 says that the place is reached (document 01, "Making").
unfoldable pub entry_at : List ℕ → ℕ → Entry
entry_at w at =
    tagged (eqb (get_or w at 0) 1) (joined (get_or w (at + 1) 0) (get_or w (at + 2) 0))
    (record { line = get_or w (at + 3) 0; column = get_or w (at + 4) 0 })

-- The five words of an entry: tag, the two of the cost, line and column; an unreached place is five zeros (document 01, "Making";
-- document 02, S-10).
abbrev pub words_of : Entry → List ℕ
words_of None = 0 ∷ 0 ∷ 0 ∷ 0 ∷ 0 ∷ []
words_of (Some l) = 1 ∷ low_of l.cost ∷ high_of l.cost ∷ l.start.line ∷ l.start.column ∷ []

-- The list after storing an entry from an offset on (document 01, "Making").
unfoldable pub stored : List ℕ → ℕ → Entry → List ℕ
stored w at e = sets w at (words_of e)

-- The first n words are zeros, the rest as before (document 01, "Making").
unfoldable pub cleared : ℕ → List ℕ → List ℕ
cleared n w = replicate n 0 ++ drop n w
