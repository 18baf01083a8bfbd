-- Where a page goes from, by line and column: by its heights, and only from columns under the one where it ends.
use Rattle.std.specs.Prelude.{ℕ, ◌+◌, ◌≤◌, ◌<◌, ◌≡◌, ◌↔◌, true, ◌&&◌, leb}
use Rattle.std.proofs.Common.{le_refl}
use Rattle.std.proofs.Math.Decide.{dec_lt}
use native.Mathlib.Omega.{arith}
use Rattle.std.proofs.Math.Logic.{inl, inr}
use borrow.Author.Tests.{leb-true, le-leb}
use Rattle.model.specs.Galley.{Galley, Place, count}
use Rattle.model.specs.Height.{stacked, tightest, loosest}
use Rattle.model.specs.Rules.{forward, fits, floor, fills}
use Rattle.model.proofs.laws.Gather.{and_left, and_right, and_both}
use Rattle.model.specs.laws.Lists.{Inside}
use Rattle.theorems.specs.pages.Graph.{full}
use Rattle.places.specs.Order.{Earlier}
use Rattle.places.specs.Columns.{place_at}
use Rattle.places.proofs.laws.Columns.{inside_cons, inside_tail}
use Rattle.places.proofs.laws.Places.{place_inside, forward_inside, forward_earlier, line_at, column_at}
use Rattle.candidates.specs.Search.{Search, goes}
use Rattle.candidates.specs.Choice.{Candidate}
use Rattle.candidates.specs.Beside.{Under, beside, alone, Sought}
use Rattle.candidates.proofs.laws.Heights.{height_lines, height_alone, forward_under, fits_later}

-- The page's heights keep to the specification.
pub record Keeps (g : Galley) (v : Place) (tight loose : ℕ) : Type 0 where
  pub short : tight ≤ g.spec.htmax
  pub enough : floor g (full g v) ≤ loose

-- The heights of a page that goes forward decide whether it is one.
kept_heights : (g : Galley) (u v : Place) (tight loose : ℕ) → tightest g u v ≡ tight → loosest g u v ≡ loose → forward g u v ≡ true
    → ((forward g u v && (fits g u v && fills g (full g v) u v)) ≡ true) ↔ Keeps g v tight loose
unfolding fits fills
kept_heights g u v tight loose t l f = rw (t, l) (out, into)
  where
    out : (forward g u v && (leb tight g.spec.htmax && leb (floor g (full g v)) loose)) ≡ true → Keeps g v tight loose
    out h =
        let both = and_right (forward g u v) (leb tight g.spec.htmax && leb (floor g (full g v)) loose) h in
        record {
          short = leb-true tight g.spec.htmax (and_left (leb tight g.spec.htmax) (leb (floor g (full g v)) loose) both);
          enough = leb-true (floor g (full g v)) loose (and_right (leb tight g.spec.htmax) (leb (floor g (full g v)) loose) both);
        }

    into : Keeps g v tight loose → (forward g u v && (leb tight g.spec.htmax && leb (floor g (full g v)) loose)) ≡ true
    into k = and_both f (and_both (le-leb tight g.spec.htmax k.short) (le-leb (floor g (full g v)) loose k.enough))

module _ (s : Search) (sought : Sought s) where
  abbrev v : Place
  v = place_at s.galley s.line s.column

  -- From line a of a column under this one a page goes exactly where its lines, and what it has beside them, keep to the
  -- specification: what a window of lines tells.
  pub goes_lines : (a b : ℕ) → a < s.line → b ≤ s.column → Under s.galley b s.column
      → (goes s a b ≡ true)
      ↔ Keeps s.galley v
      (stacked (s.galley.stream 0) (s.galley.stream 0).least a s.line + beside s.galley (λ st. st.least) s.galley.spec.smin b s.column)
      (stacked (s.galley.stream 0) (s.galley.stream 0).most a s.line + beside s.galley (λ st. st.most) s.galley.spec.smax b s.column)
  unfolding tightest loosest goes
  goes_lines a b l m under =
      kept_heights s.galley (place_at s.galley a b) v _ _
      (height_lines s.galley (λ st. st.least) s.galley.spec.smin a b s.line s.column l)
      (height_lines s.galley (λ st. st.most) s.galley.spec.smax a b s.line s.column l)
      (forward_under s.galley s.line s.column sought.high sought.wide a b (omega arith) (omega arith) under (earlier (dec_lt b s.column)))
    where
      earlier : Dec (b < s.column) → Earlier a b s.line s.column
      earlier (yes h) = inl h
      earlier (no h) = inr (omega arith, l)

  -- From the same line of an earlier column under this one it goes exactly where its floats do so.
  pub goes_alone : (b : ℕ) → b < s.column → Under s.galley b s.column
      → (goes s s.line b ≡ true)
      ↔ Keeps s.galley v (alone s.galley (λ st. st.least) s.galley.spec.smin b s.column)
      (alone s.galley (λ st. st.most) s.galley.spec.smax b s.column)
  unfolding tightest loosest goes
  goes_alone b l under =
      kept_heights s.galley (place_at s.galley s.line b) v _ _
      (height_alone s.galley (λ st. st.least) s.galley.spec.smin b s.line s.column)
      (height_alone s.galley (λ st. st.most) s.galley.spec.smax b s.line s.column)
      (forward_under s.galley s.line s.column sought.high sought.wide s.line b (le_refl _) (omega arith) under (inl l))

  -- What a candidate keeps.
  pub candidate_forward : (a b x : ℕ) → Candidate s a b x → forward s.galley (place_at s.galley a b) v ≡ true
  unfolding goes
  candidate_forward a b x c = and_left (forward s.galley (place_at s.galley a b) (place_at s.galley s.line s.column)) _ c.page

  candidate_fits : (a b x : ℕ) → Candidate s a b x → fits s.galley (place_at s.galley a b) v ≡ true
  unfolding goes
  candidate_fits a b x c =
      and_left (fits s.galley (place_at s.galley a b) (place_at s.galley s.line s.column)) _
      (and_right (forward s.galley (place_at s.galley a b) (place_at s.galley s.line s.column)) _ c.page)

  -- A page starts only in earlier columns, or in this one with an earlier line,
  pub candidate_earlier : (a b x : ℕ) → Candidate s a b x → Earlier a b s.line s.column
  candidate_earlier a b x c =
      let l = c.line in
      let k = c.column in
      let f = (forward_earlier s.galley (place_at s.galley a b) v (place_inside s.galley a b (omega arith) (omega arith))
      (place_inside s.galley s.line s.column sought.high sought.wide) (candidate_forward a b x c)).2 in
      let e = column_at s.galley a b (omega arith) in
      let h = column_at s.galley s.line s.column sought.wide in
      let x : count (place_at s.galley a b) 0 ≡ a = line_at s.galley a b in
      let y : count v 0 ≡ s.line = line_at s.galley s.line s.column in
      rw (e, h, x, y) at f

  -- only in columns under this one,
  pub candidate_under : (a b x : ℕ) → Candidate s a b x → Under s.galley b s.column
  unfolding place_at
  candidate_under a b x c =
      let l = c.line in
      let k = c.column in
      inside_tail s.line a _ _
      (forward_inside s.galley (place_at s.galley a b) v
      (place_inside s.galley a b (omega (arith, sought.high)) (omega (arith, sought.wide)))
      (place_inside s.galley s.line s.column sought.high sought.wide) (candidate_forward a b x c))

  -- and in none that is under a column whose floats alone are too tall.
  pub column_over : (b a b' x : ℕ) → b ≤ s.column → Under s.galley b s.column → Under s.galley b' b
      → s.galley.spec.htmax < alone s.galley (λ st. st.least) s.galley.spec.smin b s.column → Candidate s a b' x → ⊥
  unfolding fits tightest
  column_over b a b' x k under below tall c =
      let fit = fits_later s.galley (place_at s.galley s.line b) (place_at s.galley a b') v back page (candidate_fits a b' x c) in
      let low = leb-true (tightest s.galley (place_at s.galley s.line b) v) s.galley.spec.htmax fit in
      let e = height_alone s.galley (λ st. st.least) s.galley.spec.smin b s.line s.column in
      omega arith
    where
      back : Inside (place_at s.galley s.line b) (place_at s.galley a b')
      back = unfold place_at in inside_cons s.line a _ _ c.line below

      page : Inside v (place_at s.galley s.line b)
      page = unfold place_at in inside_cons s.line s.line _ _ (le_refl _) under
