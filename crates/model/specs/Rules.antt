-- Rules 13 to 17 of document 01, "Numbers that turn work away": each a test that holds where the page keeps the rule.
-- Page q goes from place u to place v, and `last` says whether it is the last of its list.
use Rattle.std.specs.Prelude.{ℕ, Bool, true, false, ◌&&◌, ◌||◌, leb, ltb}
use Rattle.model.specs.Gather.{pick, implies, each, every}
use Rattle.model.specs.Galley.{Stream, Galley, Place, count}
use Rattle.model.specs.Height.{kinds, tightest, loosest}
use Rattle.model.specs.Leaf.{ends}

-- 13: no count falls or passes its stream's size, and the page is not empty (document 01, rule 13).
unfoldable pub forward : Galley → Place → Place → Bool
forward g u v =
    every g.floats (λ s. leb (count u s) (count v s) && leb (count v s) (g.stream s).size) && ltb 0 (kinds g u v)

-- A page may end after block k of a stream: before its first block, after its last, or in a legal space (document 01, rule 14;
-- document 02, S-3, by which the space after a kept figure is not).
unfoldable pub may_end : Stream → ℕ → Bool
may_end st k = implies (ltb 0 k && ltb k st.size) (st.legal k)

-- 14: the page ends where every stream lets it end (document 01, rule 14).
unfoldable pub closes : Galley → Place → Bool
closes g v = every g.floats (λ s. may_end (g.stream s) (count v s))

-- 15: the tightest height is at most htMax (document 01, rule 15).
unfoldable pub fits : Galley → Place → Place → Bool
fits g u v = leb (tightest g u v) g.spec.htmax

-- What a page's loosest height is held to: htMin, and of the last page lastMin (document 01, rule 16; document 02, S-11).
abbrev pub floor : Galley → Bool → ℕ
floor g last = pick last g.spec.lastmin g.spec.htmin

-- 16: the loosest height is at least that (document 01, rule 16).
unfoldable pub fills : Galley → Bool → Place → Place → Bool
fills g last u v = leb (floor g last) (loosest g u v)

-- 17: where the page ends its leaf or is the last, the last float placed of each stream is cited by a line already placed
-- (document 01, rule 17); so are those before it, since citations never fall.
unfoldable pub cited : Galley → ℕ → Bool → Place → Bool
cited g q last v =
    implies (ends g.spec.sides q || last)
    (each g.floats (λ s. implies (ltb 0 (count v s)) (leb ((g.stream s).cite (count v s)) (count v 0))))

-- The number of the first rule that fails, given the five tests in order; 0 where all hold (document 01, "Marking").
unfoldable pub first_broken : Bool → Bool → Bool → Bool → Bool → ℕ
first_broken false b c d e = 13
first_broken true false c d e = 14
first_broken true true false d e = 15
first_broken true true true false e = 16
first_broken true true true true false = 17
first_broken true true true true true = 0

-- The number of the first rule that the page breaks, or 0 (document 01, "Marking").
unfoldable pub broken : Galley → ℕ → Bool → Place → Place → ℕ
broken g q last u v = first_broken (forward g u v) (closes g v) (fits g u v) (fills g last u v) (cited g q last v)
