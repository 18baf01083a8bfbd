-- The folios that are followed back are those of the best route.
use Prim.Native.Nat.{ℕ, zero, suc, ◌+◌, ◌-◌, ◌≤◌, ◌<◌}
use native.Mathlib.Omega.{arith}
use Rattle.std.specs.Prelude.{◌≡◌, refl, List, ◌∷◌, set}
use Rattle.std.proofs.Common.{sym, ◌∙◌, subst}
use Rattle.std.proofs.Math.Path.{ap}
use Rattle.std.proofs.Math.ListN.{length, get_or, drop, length-set}
use Rattle.std.proofs.Math.Seq.{drop-cons, get_or-set_same, drop-set-lt}
use Rattle.course.specs.Trace.{came_from, followed, Leads, Followable, Following}

module _ {from : List ℕ} {chapters last : ℕ} where
  -- The folio after the last chapter is written.
  pub follow_first : (folios : List ℕ) → Followable from chapters last folios
      → Following from chapters last (drop (chapters + 1) folios) (set folios chapters last) chapters
  follow_first folios p =
      let is : get_or (set folios chapters last) chapters 0 ≡ last = get_or-set_same folios chapters last 0 p.room in
      let long = length-set folios chapters last in
      record {
        within = omega arith;
        room = omega (arith, p.room);
        leads = rw is p.leads;
        same = rw (is, drop-set-lt (chapters + 1) folios chapters last (omega arith)) refl;
      }

  module _ {after folios : List ℕ} where
    -- A folio that is known is 1 or 2.
    pub follow_range : (k : ℕ) → Following from chapters last after folios k → (1 ≤ get_or folios k 0) × (get_or folios k 0 ≤ 2)
    unfolding Leads
    follow_range zero f = f.leads
    follow_range (suc k) f = let l = f.leads in (l.0, l.1)

    one_back : (k : ℕ) → Following from chapters last after folios (suc k)
        → Following from chapters last after (set folios k (came_from from k (get_or folios (suc k) 0))) k
    unfolding Leads followed
    one_back k f =
        let o = came_from from k (get_or folios (suc k) 0) in
        let here : k < length folios = omega (arith, f.room, f.within) in
        let is : get_or (set folios k o) k 0 ≡ o = get_or-set_same folios k o 0 here in
        let long = length-set folios k o in
        let e : k + 1 ≡ suc k = omega arith in
        let e' : suc k + 1 ≡ suc (suc k) = omega arith in
        let rest : drop (k + 1) (set folios k o) ≡ get_or folios (suc k) 0 ∷ drop (suc k + 1) folios =
        drop-set-lt (k + 1) folios k o (omega arith) ∙ ap (λ n. drop n folios) e
        ∙ drop-cons folios (suc k) 0 (omega (arith, f.room, f.within)) ∙ ap (λ n. get_or folios (suc k) 0 ∷ drop n folios) (sym e') in
        record {
          within = omega (arith, f.within);
          room = omega (arith, f.room);
          leads = rw is f.leads.2;
          same = ap (λ n. followed from k n (drop (k + 1) (set folios k o))) is ∙ ap (followed from k o) rest ∙ f.same;
        }

    -- One more chapter back.
    pub follow_next : (k : ℕ) → 0 < k → Following from chapters last after folios k
        → Following from chapters last after (set folios (k - 1) (came_from from (k - 1) (get_or folios k 0))) (k - 1)
    follow_next zero h f = absurd (omega arith)
    follow_next (suc k) h f =
        let e : k ≡ suc k - 1 = omega arith in
        subst (λ j. Following from chapters last after (set folios j (came_from from j (get_or folios (suc k) 0))) j) e (one_back k f)

    -- All are known.
    pub follow_done : (k : ℕ) → Following from chapters last after folios k → k ≤ 0 → folios ≡ followed from chapters last after
    unfolding followed
    follow_done zero f h = drop-cons folios 0 0 (omega (arith, f.room)) ∙ f.same
    follow_done (suc k) f h = absurd (omega arith)
