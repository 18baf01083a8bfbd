-- The galleys of the table: those of document 01, "Galleys to try", under their letters there, then those for what they leave
-- open. What the cases vary of a galley is left open in it.
use Rattle.std.specs.Prelude.{Bool, true, false, ◌&&◌, List, [], ◌∷◌, ◌++◌, ℕ, replicate, eqb}
use Rattle.model.specs.Gather.{pick}
use Rattle.model.specs.Galley.{Sides, single, double, Spec, Galley, respecified}
use Rattle.cases.specs.Case.{Block, stream_of, galley_of}

-- A specification of the first edition.
unfoldable pub spec : ℕ → ℕ → ℕ → ℕ → Sides → ℕ → ℕ → Spec
spec a b c d sides α β = record { htmin = a; htmax = b; smin = c; smax = d; sides = sides; alpha = α; beta = β; lastmin = 0 }

-- A line with no space after it, and a page end allowed or not.
unfoldable pub line : ℕ → Bool → Block
line h legal = record { height = h; least = 0; most = 0; legal = legal; cite = 0 }

-- A figure with no space after it, and the line that cites it.
unfoldable pub figure : ℕ → ℕ → Block
figure h cite = record { height = h; least = 0; most = 0; legal = true; cite = cite }

-- A line or figure with another space after it, from its least to its greatest height.
unfoldable pub spaced : ℕ → ℕ → Block → Block
spaced least most b = record { height = b.height; least = least; most = most; legal = b.legal; cite = b.cite }

-- Three lines of 10.
unfoldable pub three : List Block
three = line 10 true ∷ line 10 true ∷ line 10 true ∷ []

-- Galley A, with the separation, the figure's height and the weights left open.
unfoldable pub galley_a : ℕ → ℕ → ℕ → ℕ → Galley
galley_a separation tall α β = galley_of (spec 30 30 separation separation single α β) three (figure tall 1 ∷ [])

-- Galley B, with htMin and the first line's page end left open.
unfoldable pub galley_b : ℕ → Bool → Galley
galley_b least legal = galley_of (spec least 30 0 0 single 1 1) (line 20 legal ∷ line 20 true ∷ []) []

-- Galley C, with the sidedness left open.
unfoldable pub galley_c : Sides → Galley
galley_c sides =
    galley_of (spec 10 20 0 0 sides 1 1) (line 10 true ∷ line 10 true ∷ line 20 true ∷ line 20 true ∷ []) (figure 20 4 ∷ [])

-- Galley D: three lines of 10, two to a page, no figure, with the sidedness and the weight of Y left open.
unfoldable pub galley_d : Sides → ℕ → Galley
galley_d sides β = galley_of (spec 0 20 0 0 sides 1 β) three []

-- Galley E: a line that cites two figures, two blocks to a page, with X left out of the turns.
unfoldable pub galley_e : Galley
galley_e = galley_of (spec 0 20 0 0 single 0 1) (line 10 true ∷ []) (figure 10 1 ∷ figure 10 1 ∷ [])

-- Galley F: every space and the separation can stretch, with htMin = htMax left open. Lines 3 and 4 with figures 2 and 3 have
-- spaces of their own on every side; together they are 40 + 1 + 2 + 4 = 47 at the tightest, 40 + 10 + 20 + 40 = 110 at the
-- loosest.
unfoldable pub galley_f : ℕ → Galley
galley_f high =
    galley_of (spec high high 4 40 single 2 3)
    (spaced 0 100 (line 10 true)
    ∷ spaced 5 9 (line 10 true)
    ∷ spaced 1 10 (line 10 true)
    ∷ spaced 5 9 (line 10 true)
    ∷ spaced 5 9 (line 10 true)
    ∷ [])
    (spaced 5 9 (figure 10 1) ∷ spaced 2 20 (figure 10 1) ∷ spaced 5 9 (figure 10 2) ∷ spaced 5 9 (figure 10 3) ∷ [])

-- Galley G: five lines of 10, of which every other one forbids a page end, the first and the last included; figures of 10 and
-- 30, both cited by the last line.
unfoldable pub galley_g : Galley
galley_g =
    galley_of (spec 20 30 0 0 single 1 1)
    (line 10 false ∷ line 10 true ∷ line 10 false ∷ line 10 true ∷ line 10 false ∷ [])
    (figure 10 5 ∷ figure 30 5 ∷ [])

-- Galley H: 301 lines of 1, 300 to a page, where a page may end after lines 255 and 300 alone, and 255 lines can stretch to 300.
unfoldable pub galley_h : Galley
galley_h =
    galley_of (spec 0 300 0 0 single 1 1)
    (replicate 254 (spaced 0 1 (line 1 false)) ++ line 1 true ∷ replicate 44 (line 1 false) ++ line 1 true ∷ line 1 true ∷ [])
    []

-- Galley I: a line that cites a figure of 25 and one of 10, which do not fit on one page, double-sided from a folio on.
unfoldable pub galley_i : ℕ → Galley
galley_i folio = galley_of (spec 0 30 0 0 (double folio) 1 1) (line 20 true ∷ []) (figure 25 1 ∷ figure 10 1 ∷ [])

-- Galley J: two lines of 10, and figures of 10, 20 and 20 that line 1 cites, with pages from 20 to 30.
unfoldable pub galley_j : Galley
galley_j =
    galley_of (spec 20 30 0 0 single 1 1) (line 10 true ∷ line 10 true ∷ []) (figure 10 1 ∷ figure 20 1 ∷ figure 20 1 ∷ [])

-- A galley with tables beside its figures, a stream of their own.
unfoldable pub tabling : List Block → Galley → Galley
tabling tables g =
    record { spec = g.spec; floats = 2; stream = λ s. pick (eqb s 2) (stream_of tables) (g.stream s) }

-- A galley whose figures are tables instead.
unfoldable pub as_tables : Galley → Galley
as_tables g =
    record {
      spec = g.spec;
      floats = 2;
      stream = λ s. pick (eqb s 1) (stream_of []) (pick (eqb s 2) (g.stream 1) (g.stream s));
    }

-- Galley K: three lines of 10, a figure and a table of 20 that line 1 cites, of which either may come first.
unfoldable pub galley_k : Galley
galley_k = tabling (figure 20 1 ∷ []) (galley_of (spec 0 40 0 0 single 1 1) three (figure 20 1 ∷ []))

-- Galley L: two lines, a figure and a table, all of 10, with separations of 4 to 5, and htMin and htMax left open.
unfoldable pub galley_l : ℕ → ℕ → Galley
galley_l low high =
    tabling (figure 10 1 ∷ [])
    (galley_of (spec low high 4 5 single 1 1) (line 10 true ∷ line 10 true ∷ []) (figure 10 1 ∷ []))

-- Galley M: the same without separations on pages of up to 40, with the lines that cite figure and table left open.
unfoldable pub galley_m : ℕ → ℕ → Galley
galley_m one two =
    tabling (figure 10 two ∷ [])
    (galley_of (spec 0 40 0 0 single 1 1) (line 10 true ∷ line 10 true ∷ []) (figure 10 one ∷ []))

-- Galley N: a line of 20 that cites a figure of 10 and a table of 25, double-sided from a folio on.
unfoldable pub galley_n : ℕ → Galley
galley_n folio =
    tabling (figure 25 1 ∷ []) (galley_of (spec 0 30 0 0 (double folio) 1 1) (line 20 true ∷ []) (figure 10 1 ∷ []))

-- Galley O: lines of 20, 10 and 10 on pages of up to 20, no figure.
unfoldable pub galley_o : Galley
galley_o = galley_of (spec 0 20 0 0 single 1 1) (line 20 true ∷ line 10 true ∷ line 10 true ∷ []) []

-- Galley P: five lines of 5 on pages of up to 20, no figure, with the sidedness and the weight of Y left open. Two lines and more
-- stretch to 20, so that only a page of one line has white.
unfoldable pub galley_p : Sides → ℕ → Galley
galley_p sides β = galley_of (spec 0 20 0 0 sides 1 β) (replicate 5 (spaced 0 20 (line 5 true))) []

-- Galley Q: two lines of 5 that stretch to a page of 15, and two figures of 5 that line 1 cites, with X left out of the turns.
unfoldable pub galley_q : Galley
galley_q =
    galley_of (spec 0 15 0 0 single 0 1) (spaced 0 20 (line 5 true) ∷ line 5 true ∷ []) (figure 5 1 ∷ figure 5 1 ∷ [])

-- Galley R: three lines of 9 and a figure that line 1 cites, on pages of up to 30, with the figure's height and both weights left
-- open.
unfoldable pub galley_r : ℕ → ℕ → Galley
galley_r tall weight =
    galley_of (spec 0 30 0 0 single weight weight) (line 9 true ∷ line 9 true ∷ line 9 true ∷ []) (figure tall 1 ∷ [])

-- Galley S: a line of 20 that cites a figure of 20, on pages of up to 20 as those of galleys D and P.
unfoldable pub galley_s : Sides → Galley
galley_s sides = galley_of (spec 0 20 0 0 sides 1 1) (line 20 true ∷ []) (figure 20 1 ∷ [])

-- Galley T: some lines and figures on pages of 20, no less, double-sided from folio 1.
unfoldable pub galley_t : List Block → List Block → Galley
galley_t = galley_of (spec 20 20 0 0 (double 1) 1 1)

-- Galley U: a line of 5 on pages of up to 20, with the sidedness and the weight of Y left open.
unfoldable pub galley_u : Sides → ℕ → Galley
galley_u sides β = galley_of (spec 0 20 0 0 sides 1 β) (line 5 true ∷ []) []

-- Galley V: galley K without its table.
unfoldable pub galley_v : Galley
galley_v = galley_of (spec 0 40 0 0 single 1 1) three (figure 20 1 ∷ [])

-- A galley in which figure k is kept with the one after it.
unfoldable pub keeping : ℕ → Galley → Galley
keeping k g =
    record {
      spec = g.spec;
      floats = g.floats;
      stream = λ s. record {
        size = (g.stream s).size;
        ht = (g.stream s).ht;
        least = (g.stream s).least;
        most = (g.stream s).most;
        legal = λ j. pick (eqb s 1 && eqb j k) false ((g.stream s).legal j);
        cite = (g.stream s).cite;
      };
    }

-- A galley under the second edition, which holds its last page to a height.
unfoldable pub closing : ℕ → Galley → Galley
closing least g = respecified g.spec.htmin g.spec.sides least g

-- A galley of another sidedness.
unfoldable pub sided : Sides → Galley → Galley
sided sides g = respecified g.spec.htmin sides g.spec.lastmin g
