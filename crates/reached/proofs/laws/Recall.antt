-- What the ring says of columns: one put in it drops another.
use Rattle.std.specs.Prelude.{ℕ, ◌+◌, ◌≤◌, ◌<◌, ◌≡◌, ◌⊎◌, List, length, get_or, set}
use Rattle.std.proofs.Math.Decide.{ℕ_discrete}
use Rattle.std.proofs.Common.{arith, sym, ◌∙◌, ap, inl, inr, length-set, get_or-set_same, get_or-set_other}
use Rattle.galley.specs.declared.Galley.{Galley}
use Rattle.reached.specs.declared.look.Reach.{Reach}
use Rattle.reached.specs.declared.recall.Recall.{Recall}
use Rattle.reached.specs.Ring.{hint_of, hint_name, Present, Named}
use Rattle.reached.specs.Look.{Quiet, Found, Hinted, Reached}
use Rattle.reached.specs.Recall.{Remembered, Agrees, Noted}
use Rattle.reached.proofs.laws.Ring.{hint_name_lem, hint_first_lem, hint_last_lem}

-- A word put in the ring.
module _ (old : List ℕ) (h x : ℕ) (room : h < length old) where
  put_inside : {k : ℕ} → k < length old → k < length (set old h x)
  put_inside l = rw (length-set old h x) l

  -- A word for a column is the one put there or an old one,
  put_back : {b y : ℕ} → Present (set old h x) b y → (y ≡ x) ⊎ Present old b y
  put_back {b} {y} here = go (ℕ_discrete here.at h)
    where
      go : Dec (here.at ≡ h) → (y ≡ x) ⊎ Present old b y
      go (yes e) = inl (sym (rw e at here.word) ∙ get_or-set_same old h x 0 room)
      go (no e) =
          inr (record {
            at = here.at;
            inside = rw (length-set old h x) at here.inside;
            word = sym (get_or-set_other old h here.at x 0 e) ∙ here.word;
            names = here.names;
          })

  -- and an old one is still there unless it was dropped.
  put_there : {b y : ℕ} → (hint_name (get_or old h 0) ≡ b + 1 → ⊥) → Present old b y → Present (set old h x) b y
  put_there {b} {y} kept here = go (ℕ_discrete here.at h)
    where
      go : Dec (here.at ≡ h) → Present (set old h x) b y
      go (yes e) = absurd (kept (ap hint_name (rw e at here.word) ∙ here.names))
      go (no e) =
          record {
            at = here.at;
            inside = put_inside here.inside;
            word = get_or-set_other old h here.at x 0 e ∙ here.word;
            names = here.names;
          }

  -- It is the only one for a column that comes after all that are named,
  module _ (j : ℕ) (names : hint_name x ≡ j + 1) (named : Named old j) where
    put_own : Present (set old h x) j x
    put_own = record { at = h; inside = put_inside room; word = get_or-set_same old h x 0 room; names = names }

    put_only : {y : ℕ} → Present (set old h x) j y → y ≡ x
    put_only {y} here = go (put_back here)
      where
        go : (y ≡ x) ⊎ Present old j y → y ≡ x
        go (inl e) = e
        go (inr before) = absurd (omega (arith, named j y before))

    -- which is then the last that is.
    put_named : Named (set old h x) (j + 1)
    put_named b y here = go (put_back here)
      where
        go : (y ≡ x) ⊎ Present old b y → b < j + 1
        go (inl e) = omega (arith, here.names, ap hint_name e)
        go (inr before) = omega (arith, named b y before)

    -- Of the others but the one dropped the ring says what it did.
    put_agrees : (b : ℕ) → b < j → (hint_name (get_or old h 0) ≡ b + 1 → ⊥) → Agrees old (set old h x) b
    put_agrees b before kept = record { there = λ y here. put_there kept here; back = λ y here. go here (put_back here) }
      where
        go : {y : ℕ} → Present (set old h x) b y → (y ≡ x) ⊎ Present old b y → Present old b y
        go here (inl e) = absurd (omega (arith, here.names, ap hint_name e))
        go here (inr old) = old

-- A column that is not reached, as a look has found,
pub found_none : {g : Galley} {w : List ℕ} {j from r : ℕ} → Found g w j from r → g.text.count < r
    → Quiet g w j g.spec.sides from (g.text.count + 1)
found_none found over = record { none = λ a c l m occurs. found.quiet.none a c l (omega arith) occurs }

-- needs no place in the ring,
pub noted_none : {g : Galley} {w seen : List ℕ} {j from : ℕ} (recall : Recall) → recall.head < length seen → Named seen j
    → Quiet g w j g.spec.sides from (g.text.count + 1) → Noted g w seen seen recall j from recall
noted_none {j = j} recall head named quiet =
    record {
      head = head;
      since = omega arith;
      own = record { none = λ absent. quiet; hinted = λ x here. absurd (omega (arith, named j x here)) };
      others = λ b l before. record { there = λ x here. here; back = λ x here. here };
      named = λ b x here. omega (arith, named b x here);
    }

-- and another has one, whose hint its lines bear out.
reach_hinted : {g : Galley} {w : List ℕ} {j from : ℕ} {reach : Reach} → g.text.count ≤ 4000 → Reached g w j from reach
    → reach.first ≤ g.text.count → Hinted g w j from (hint_of j reach.first reach.last)
reach_hinted {g} {w} {j} {from} {reach} few found some =
    let last = found.last.within some in
    let first_low = hint_first_lem j reach.first reach.last (omega arith) (omega arith) in
    let last_high = hint_last_lem j reach.first reach.last (omega arith) (omega arith) in
    record {
      within = omega (arith, first_low);
      early = record { none = λ a c l m occurs. found.first.quiet.none a c l (omega (arith, first_low)) occurs };
      late = record { none = λ a c l m occurs. found.last.quiet.none a c (omega (arith, last_high)) m occurs };
    }

pub noted_new : {g : Galley} {w old new : List ℕ} {recall r : Recall} {j from : ℕ} {reach : Reach} → g.text.count ≤ 4000
    → recall.head < length old → Named old j → Reached g w j from reach → reach.first ≤ g.text.count
    → Remembered old new recall (hint_of j reach.first reach.last) r → Noted g w old new recall j from r
noted_new {g} {w} {old} {new} {recall} {r} {j} {from} {reach} few room named found some done =
    let last = found.last.within some in
    let x = hint_of j reach.first reach.last in
    let names = hint_name_lem j reach.first reach.last (omega arith) (omega arith) in
    record {
      head = done.head;
      since = done.since;
      own =
          rw done.put
          (record {
            none = λ absent. absurd (absent x (put_own old recall.head x room j names named));
            hinted = λ y here. rw (put_only old recall.head x room j names named here) (reach_hinted few found some);
          });
      others = λ b l before.
          rw done.put (put_agrees old recall.head x room j names named b before (λ e. omega (arith, done.dropped)));
      named = rw done.put (put_named old recall.head x room j names named);
    }
