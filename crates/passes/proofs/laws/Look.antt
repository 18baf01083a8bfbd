-- What is not reached is no start: lines that were looked at, and all that stands before the origin.
use Rattle.std.specs.Prelude.{ℕ, suc, ◌+◌, ◌≤◌, ◌<◌, ◌≡◌, refl, List, None, Some}
use Rattle.std.proofs.Common.{le_refl, arith, sym, ◌∙◌}
use Rattle.std.proofs.Math.Decide.{dec_lt}
use Rattle.galley.specs.declared.Galley.{Galley}
use Rattle.blocks.specs.declared.Counts.{Counts}
use Rattle.places.specs.Entry.{Entry}
use Rattle.places.proofs.laws.Best.{no_reach}
use Rattle.candidates.specs.Choice.{Candidate, Between}
use Rattle.candidates.specs.Read.{table_in, side_of, search_of, counts_at}
use Rattle.reached.specs.Look.{Quiet, LastFound, PastOrigin, Hinted, Told, Recalled}
use Rattle.passes.specs.Sweep.{Lent, Knows, Known, Swept}
use Rattle.candidates.specs.Cells.{number, Scratched}
use Rattle.candidates.proofs.laws.Read.{side_occurs}
use Rattle.candidates.proofs.laws.Cells.{scratched_others}
use Rattle.passes.proofs.laws.Past.{knows_past}

-- Lines that are not reached, and those after them.
pub quiet_then : {g : Galley} {w : List ℕ} {j n from mid to : ℕ} → Quiet g w j n from mid → Quiet g w j n mid to → Quiet g w j n from to
quiet_then {g} {w} {j} {n} {from} {mid} {to} first second =
    record { none = λ a c l m occurs. go a c l m occurs (dec_lt a mid) }
  where
    go : (a c : ℕ) → from ≤ a → a < to → c < n → Dec (a < mid) → table_in g w a j c ≡ None
    go a c l m occurs (yes h) = first.none a c l h occurs
    go a c l m occurs (no h) = second.none a c (omega arith) m occurs

-- Stores in another column leave them so,
pub quiet_kept : {g : Galley} {w v : List ℕ} {j b n from to : ℕ} → Scratched g j w v → g.spec.sides ≤ 2 → n ≤ 2 → b < j → to ≤ g.text.count + 1
    → Quiet g w b n from to → Quiet g v b n from to
quiet_kept {g} {w} {v} {j} {b} kept two few before within quiet =
    record {
      none = λ a c l m occurs.
          scratched_others g j w v two kept a b c (omega arith) (omega arith) (λ e. omega arith) ∙ quiet.none a c l m occurs;
    }

pub last_kept : {g : Galley} {w v : List ℕ} {j b from r : ℕ} → Scratched g j w v → g.spec.sides ≤ 2 → b < j
    → LastFound g w b from r → LastFound g v b from r
last_kept kept two before found =
    record { since = found.since; within = found.within; quiet = quiet_kept kept two two before (le_refl _) found.quiet }

-- leave what was seen of other columns,
told_kept : {g : Galley} {w v seen : List ℕ} {j b line : ℕ} → Scratched g j w v → g.spec.sides ≤ 2 → b < j → Told g w seen b line
    → Told g v seen b line
told_kept {g} {w} {v} {b = b} {line} kept two before told =
    record {
      none = λ absent. quiet_kept kept two two before (le_refl _) (told.none absent);
      hinted = λ x here. go (told.hinted x here);
    }
  where
    go : {x : ℕ} → Hinted g w b line x → Hinted g v b line x
    go hinted =
        record {
          within = hinted.within;
          early = quiet_kept kept two two before (omega (arith, hinted.within)) hinted.early;
          late = quiet_kept kept two two before (le_refl _) hinted.late;
        }

pub recalled_kept : {g : Galley} {w v seen : List ℕ} {j line since : ℕ} → Scratched g j w v → g.spec.sides ≤ 2
    → Recalled g w seen line since j → Recalled g v seen line since j
recalled_kept kept two recalled =
    record { told = λ b after before. told_kept kept two before (recalled.told b after before); named = recalled.named }

-- and leave what stands past the origin.
pub past_kept : {g : Galley} {w v : List ℕ} {j : ℕ} {origin : Counts} → Scratched g j w v → g.spec.sides ≤ 2 → PastOrigin g w j origin
    → PastOrigin g v j origin
past_kept {g} {w} {v} {j} kept two past =
    record {
      line = past.line;
      past = λ a b c x s l m occurs e.
          past.past a b c x s l m occurs (sym (scratched_others g j w v two kept a b c l (omega arith) (λ q. omega arith)) ∙ e);
    }

module _ {bytes : List ℕ} {g : Galley} {w : List ℕ} {j : ℕ} (lent : Lent bytes g w j) where
  -- A line that is not reached is no start.
  pub start_quiet : {b from to : ℕ} → Quiet g w b g.spec.sides from to → (i a y c : ℕ) → c < g.spec.sides
      → Candidate (search_of bytes g w i j (side_of g c)) a b y → from ≤ a → a < to → ⊥
  start_quiet quiet i a y c occurs start l m =
      no_reach (sym (quiet.none a (side_of g c) l m (side_occurs lent.sound c occurs)) ∙ start.reached.entry)

  module _ {origin : Counts} (past : PastOrigin g w j origin) where
    -- A start has the origin's counts or more.
    pub start_past : (i a x y c : ℕ) → i ≤ g.text.count → c < g.spec.sides → x < j
        → Candidate (search_of bytes g w i j (side_of g c)) a x y
        → (origin.lines ≤ a) × (origin.figures ≤ (counts_at g 0 x).figures) × (origin.tables ≤ (counts_at g 0 x).tables)
    start_past i a x y c h occurs m start =
        past.past a x (side_of g c) _ _ (omega (arith, start.line)) m (side_occurs lent.sound c occurs) start.reached.entry

    -- No line before the origin's is reached.
    pub past_quiet : (b : ℕ) → b < j → Quiet g w b g.spec.sides 0 origin.lines
    past_quiet b m = record { none = λ a c l before occurs. go a c before occurs (table_in g w a b c) refl }
      where
        go : (a c : ℕ) → a < origin.lines → c < g.spec.sides → (e : Entry) → table_in g w a b c ≡ e → table_in g w a b c ≡ None
        go a c before occurs None e = e
        go a c before occurs (Some l) e =
            absurd (omega (arith, (past.past a b c l.cost l.start (omega (arith, past.line)) m occurs e).0))

    -- So no page ends before it that starts in an earlier column.
    pub known_before : Known bytes g w j 0 → Quiet g w j g.spec.sides 0 origin.lines
    known_before known = record { none = λ a c l before occurs. go a c before occurs (table_in g w a j c) refl }
      where
        go : (a c : ℕ) → a < origin.lines → c < g.spec.sides → (e : Entry) → table_in g w a j c ≡ e → table_in g w a j c ≡ None
        go a c before occurs None e = e
        go a c before occurs (Some l) e =
            let line : a ≤ g.text.count = omega (arith, past.line) in
            let start = (known a c line occurs).may l.cost l.start e in
            absurd (omega (arith, start.1.line, (start_past a l.start.line l.start.column l.cost c line occurs start.0.1 start.1).0))

  -- Where no line is reached, the starts of the column are known with those of later ones,
  pub known_quiet : {b : ℕ} → Quiet g w b g.spec.sides 0 (g.text.count + 1) → Known bytes g w j (suc b) → Known bytes g w j b
  known_quiet {b} quiet known k c l m =
      knows_past bytes g w k j c b (suc b) (omega arith)
      (λ a x y p q r start.
      let e : x ≡ b = omega arith in
      start_quiet quiet k a y c m (rw e at start) (omega arith) (omega (arith, start.line))) (known k c l m)

  -- and so on lines of a side that no page of the column ends at.
  pub swept_skip : {b : ℕ} (c from to : ℕ) → from ≤ to → to ≤ g.text.count + 1
      → ((k a y : ℕ) → from ≤ k → k < to → Candidate (search_of bytes g w k j (side_of g c)) a b y → ⊥)
      → Swept bytes g w j b (number c from) → Swept bytes g w j b (number c to)
  swept_skip {b} c from to order within none swept =
      record {
        done = λ k d l m n. go k d l m n (dec_lt (number d k) (number c from));
        left = λ k d l m n. swept.left k d l m (omega arith);
      }
    where
      go : (k d : ℕ) → k ≤ g.text.count → d < g.spec.sides → number d k < number c to → Dec (number d k < number c from)
          → Knows bytes g w k j d (Between b j)
      go k d l m n (yes h) = swept.done k d l m h
      go k d l m n (no h) =
          let few = lent.sound.few_lines in
          let side : d ≡ c = omega arith in
          let since : from ≤ k = omega arith in
          let before : k < to = omega arith in
          knows_past bytes g w k j d b (suc b) (omega arith)
          (λ a x y p q r start.
          let e : x ≡ b = omega arith in
          none k a y since before (rw (e, side) at start)) (swept.left k d l m (omega arith))
