-- Which record a mark opens, and where it may come: document 01, "The galley file".
use Rattle.std.specs.Prelude.{ℕ, zero, suc, Option, Some, None, Bool, ◌||◌, ◌&&◌, ltb, leb, eqb}
use Rattle.model.specs.Gather.{pick}
use Rattle.galley.specs.declared.Kind.{Kind}
use Rattle.galley.specs.declared.Sofar.{Sofar}

-- The marks, two bytes each.
abbrev pub GS : ℕ
GS = 0x4753

abbrev pub G2 : ℕ
G2 = 0x4732

abbrev pub FO : ℕ
FO = 0x464f

abbrev pub TL : ℕ
TL = 0x544c

abbrev pub FG : ℕ
FG = 0x4647

abbrev pub FK : ℕ
FK = 0x464b

abbrev pub TB : ℕ
TB = 0x5442

abbrev pub ED : ℕ
ED = 0x4544

-- The mark of a specification, and its bytes, by its edition (document 02, S-11): whether it is the second.
abbrev pub spec_mark : ℕ → ℕ
spec_mark edition = pick (eqb edition 2) G2 GS

abbrev pub size_in : Bool → ℕ
size_in second = pick second 34 30

abbrev pub spec_size : ℕ → ℕ
spec_size edition = size_in (eqb edition 2)

-- The mark of a figure: another one where it is kept with the next.
abbrev pub figure_mark : Bool → ℕ
figure_mark kept = pick kept FK FG

-- The stages of a galley, in the order in which its records come: before the first record, then what was read last.
abbrev pub nothing : ℕ
nothing = 0

abbrev pub spec : ℕ
spec = 1

abbrev pub folio : ℕ
folio = 2

abbrev pub line : ℕ
line = 3

abbrev pub figure : ℕ
figure = 4

abbrev pub table : ℕ
table = 5

abbrev pub end : ℕ
end = 6

-- A kind of record: the stage that it reaches, the first and the last stage after which it may come, how many there may be of
-- its stage, and its bytes.
abbrev pub row_of : ℕ → ℕ → ℕ → ℕ → ℕ → Kind
row_of stage earliest latest most size =
    record { stage = stage; earliest = earliest; latest = latest; most = most; size = size }

-- The kind of record that a mark opens. The specification, of either edition, is first and comes once, a folio may stand straight
-- after it (document 02, S-1), figures follow all lines, kept with the next one or not (document 02, S-3), tables follow all
-- figures (document 02, S-4), and the end follows all of them; an unknown mark fits nowhere, and only its two bytes are known.
unfoldable pub kind_of : ℕ → Kind
kind_of mark =
    pick (eqb mark GS) (row_of spec nothing nothing 1 30)
    (pick (eqb mark G2) (row_of spec nothing nothing 1 34)
    (pick (eqb mark FO) (row_of folio spec spec 1 6)
    (pick (eqb mark TL) (row_of line spec line 4000 18)
    (pick (eqb mark FG) (row_of figure spec figure 200 18)
    (pick (eqb mark FK) (row_of figure spec figure 200 18)
    (pick (eqb mark TB) (row_of table spec table 50 18)
    (pick (eqb mark ED) (row_of end spec table 1 2)
    (row_of nothing spec nothing 0 2))))))))

-- A record that comes too soon or too late in the order of stages: number 2.
abbrev pub misplaced : Kind → Sofar → Bool
misplaced kind so = ltb so.stage kind.earliest || ltb kind.latest so.stage

-- What belongs after the lines, before any line: number 5.
abbrev pub too_early : Kind → Sofar → Bool
too_early kind so = ltb line kind.stage && eqb so.lines 0

-- Line 4,001, figure 201 or table 51: number 4.
abbrev pub too_many : Kind → Sofar → Bool
too_many kind so = eqb kind.stage so.stage && leb kind.most so.count

-- The number that turns a record away from its place, 2 before 5 before 4; 0 where it fits.
abbrev pub unfit : Kind → Sofar → ℕ
unfit kind so =
    pick (misplaced kind so) 2
    (pick (too_early kind so) 5
    (pick (too_many kind so) 4
    0))

-- The number as it is answered: none is 0.
abbrev pub turning : ℕ → Option ℕ
turning zero = None
turning (suc n) = Some (suc n)
