-- The model's tests of one page, said of lines, figures and tables.
use Prim.Native.Nat.{ℕ, zero, suc, ◌+◌, ◌≤◌}
use Rattle.std.proofs.Common.{arith, sym, ◌∙◌, lt-ltb, ltb-true, leb-true, le-leb}
use Rattle.std.specs.Prelude.{◌≡◌, refl, false, ◌&&◌, ◌||◌, List, max, ltb}
use Rattle.std.proofs.Math.Bool.{Bool, true}
use Rattle.std.proofs.Math.Dec.{leb}
use Rattle.model.specs.Gather.{implies, one, total, every}
use Rattle.model.specs.Galley.{Stream, count}
use Rattle.model.specs.Height.{has, kinds}
use Rattle.model.specs.Leaf.{ends}
use Rattle.model.specs.Rules.{forward, may_end, closes, cited}
use Rattle.model.proofs.laws.Gather.{and_left, and_right}
use Rattle.theorems.specs.pages.Graph.{full}
use Rattle.galley.specs.declared.Galley.{Galley}
use Rattle.galley.specs.Model.{text_of, floats_of, sides_in, model_of}
use Rattle.blocks.specs.declared.Counts.{Counts}
use Rattle.blocks.specs.Counts.{place_of, Proper}
use Rattle.rules.specs.Parts.{kinds_on, Ahead, cite_of, cited_from, all_placed}
use Rattle.blocks.specs.laws.Counts.{each_floats, sum_floats, same_of, count_lines, count_figures, count_tables}

some_kind : (a b c : Bool) → ltb 0 (one a + (one b + one c)) ≡ (a || (b || c))
some_kind true b c = lt-ltb 0 (1 + (one b + one c)) (omega arith)
some_kind false true c = lt-ltb 0 (0 + (1 + one c)) (omega arith)
some_kind false false true = refl
some_kind false false false = refl

-- Rule 17 asks of each stream what it asks of both.
implies_both : (a b c d e : Bool) → implies a (implies b c && implies d e) ≡ (implies (a && b) c && implies (a && d) e)
implies_both true b c d e = refl
implies_both false b c d e = refl

-- Two tests asked for are each asked for.
implies_and : (a b c : Bool) → (implies a b && implies a c) ≡ implies a (b && c)
implies_and true b c = refl
implies_and false b c = refl

-- Where there is no float, every line cites it.
cite_asked : (st : Stream) (asked : Bool) (i j : ℕ)
    → implies (asked && ltb 0 j) (leb (st.cite j) i) ≡ implies asked (leb (cite_of st j) i)
unfolding cite_of
cite_asked st true i zero = sym (le-leb 0 i (omega arith))
cite_asked st true i (suc j) = rw (lt-ltb 0 (suc j) (omega arith))
cite_asked st false i j = refl

-- The later of two lines is reached where both are.
max_both : (a b i : ℕ) → (leb a i && leb b i) ≡ leb (max a b) i
max_both a b i = grind arith

module _ (bytes : List ℕ) (g : Galley) where
  -- The kinds on a page.
  pub kinds_of : (u v : Counts) → Proper g u → Proper g v → kinds (model_of bytes g) (place_of g u) (place_of g v) ≡ kinds_on u v
  unfolding kinds has total
  kinds_of u v pu pv =
      let kind : ℕ → ℕ = λ s. one (ltb (count (place_of g u) s) (count (place_of g v) s)) in
      let counts : kind 2 ≡ one (ltb u.tables v.tables) = rw (count_tables g u pu, count_tables g v pv) in
      let none : g.tables.count ≡ 0 → kind 2 ≡ 0 = λ none. counts ∙ rw (pu none, pv none) in
      rw (sum_floats g kind none, counts, count_lines g u, count_lines g v, count_figures g u, count_figures g v)

  -- Rule 13.
  pub forward_of : (u v : Counts) → Proper g u → Proper g v
      → forward (model_of bytes g) (place_of g u) (place_of g v)
      ≡ ((leb u.lines v.lines && leb v.lines g.text.count)
      && ((leb u.figures v.figures && leb v.figures g.figures.count)
      && (leb u.tables v.tables && leb v.tables g.tables.count))
      && (ltb u.lines v.lines || (ltb u.figures v.figures || ltb u.tables v.tables)))
  unfolding forward every
  forward_of u v pu pv =
      let rises : ℕ → Bool
      = λ s. leb (count (place_of g u) s) (count (place_of g v) s) && leb (count (place_of g v) s) ((model_of bytes g).stream s).size in
      let counts : rises 2 ≡ (leb u.tables v.tables && leb v.tables g.tables.count)
      = rw (count_tables g u pu, count_tables g v pv) in
      let none : g.tables.count ≡ 0 → rises 2 ≡ true = λ none. counts ∙ rw (pu none, pv none, none) in
      rw (
        each_floats g rises none,
        counts,
        count_lines g u,
        count_lines g v,
        count_figures g u,
        count_figures g v,
        kinds_of u v pu pv,
        some_kind (ltb u.lines v.lines) (ltb u.figures v.figures) (ltb u.tables v.tables),
      )

  -- What rule 13 says of the counts.
  pub ahead : (u v : Counts) → Proper g u → Proper g v → forward (model_of bytes g) (place_of g u) (place_of g v) ≡ true → Ahead g u v
  ahead u v pu pv h =
      let lines = rises u.lines v.lines g.text.count in
      let figures = rises u.figures v.figures g.figures.count in
      let tables = rises u.tables v.tables g.tables.count in
      let some : Bool = ltb u.lines v.lines || (ltb u.figures v.figures || ltb u.tables v.tables) in
      let e : (lines && (figures && tables) && some) ≡ true = sym (forward_of u v pu pv) ∙ h in
      let all = and_left (lines && (figures && tables)) some e in
      let floats = and_right lines (figures && tables) all in
      let l = risen (and_left lines (figures && tables) all) in
      let f = risen (and_left figures tables floats) in
      let t = risen (and_right figures tables floats) in
      record {
        within = record { lines = l.1; figures = f.1; tables = t.1 };
        lines = l.0;
        figures = f.0;
        tables = t.0;
        some =
            ltb-true 0 (kinds_on u v)
            (some_kind (ltb u.lines v.lines) (ltb u.figures v.figures) (ltb u.tables v.tables)
            ∙ and_right (lines && (figures && tables)) some e);
      }
    where
      rises : ℕ → ℕ → ℕ → Bool
      rises a i n = leb a i && leb i n

      risen : {a i n : ℕ} → (leb a i && leb i n) ≡ true → (a ≤ i) × (i ≤ n)
      risen {a} {i} {n} h = (leb-true a i (and_left (leb a i) (leb i n) h), leb-true i n (and_right (leb a i) (leb i n) h))

  -- Rule 14.
  pub closes_of : (v : Counts) → Proper g v
      → closes (model_of bytes g) (place_of g v)
      ≡ (may_end (text_of bytes g.text) v.lines
      && (may_end (floats_of bytes g.figures) v.figures && may_end (floats_of bytes g.tables) v.tables))
  unfolding closes every may_end
  closes_of v pv =
      let may : ℕ → Bool = λ s. may_end ((model_of bytes g).stream s) (count (place_of g v) s) in
      let counts : may 2 ≡ may_end (floats_of bytes g.tables) v.tables = rw (count_tables g v pv) in
      let none : g.tables.count ≡ 0 → may 2 ≡ true = λ none. counts ∙ rw (pv none) in
      rw (each_floats g may none, counts, count_lines g v, count_figures g v)

  -- Rule 17, where it is asked.
  pub cited_of : (q : ℕ) (last asked : Bool) (v : Counts) → Proper g v → asked ≡ (ends (sides_in g) q || last)
      → cited (model_of bytes g) q last (place_of g v)
      ≡ (implies (asked && ltb 0 v.figures) (leb ((floats_of bytes g.figures).cite v.figures) v.lines)
      && implies (asked && ltb 0 v.tables) (leb ((floats_of bytes g.tables).cite v.tables) v.lines))
  unfolding cited
  cited_of q last asked v pv e =
      let fine : ℕ → Bool
      = λ s.
      implies (ltb 0 (count (place_of g v) s)) (leb (((model_of bytes g).stream s).cite (count (place_of g v) s)) (count (place_of g v) 0)) in
      let counts : fine 2 ≡ implies (ltb 0 v.tables) (leb ((floats_of bytes g.tables).cite v.tables) v.lines)
      = rw (count_tables g v pv, count_lines g v) in
      let none : g.tables.count ≡ 0 → fine 2 ≡ true = λ none. counts ∙ rw (pv none) in
      rw (each_floats g fine none, counts, count_lines g v, count_figures g v, ← e)
      (implies_both asked (ltb 0 v.figures) (leb ((floats_of bytes g.figures).cite v.figures) v.lines) (ltb 0 v.tables)
      (leb ((floats_of bytes g.tables).cite v.tables) v.lines))

  -- The same by the line from which on the last floats placed are cited.
  pub cited_by : (q : ℕ) (last asked : Bool) (v : Counts) → Proper g v → asked ≡ (ends (sides_in g) q || last)
      → cited (model_of bytes g) q last (place_of g v) ≡ implies asked (leb (cited_from bytes g v) v.lines)
  cited_by q last asked v pv e =
      let figures = floats_of bytes g.figures in
      let tables = floats_of bytes g.tables in
      rw (
        cited_of q last asked v pv e,
        cite_asked figures asked v.lines v.figures,
        cite_asked tables asked v.lines v.tables,
        ← max_both (cite_of figures v.figures) (cite_of tables v.tables) v.lines,
      )
      (implies_and asked (leb (cite_of figures v.figures) v.lines) (leb (cite_of tables v.tables) v.lines))

-- The full place, by what is placed.
pub full_of : (bytes : List ℕ) (g : Galley) (at : Counts) → Proper g at → full (model_of bytes g) (place_of g at) ≡ all_placed g at
unfolding full
full_of bytes g at proper = same_of g bytes at proper
