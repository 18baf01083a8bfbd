-- An ask and a commit on a desk do what they do in a sitting.
use Prim.Native.Nat.{ℕ, suc, ◌-◌, ◌*◌, ◌/◌, ◌<◌}
use native.Mathlib.Omega.{arith}
use Rattle.std.proofs.Math.Bool.{Bool, true, false}
use Rattle.std.specs.Prelude.{◌&&◌, ◌≡◌, refl, leb, ltb, Option, None, Some}
use mathlib.Core.List.{List}
use Rattle.std.proofs.Math.Path.{sym, ap, subst}
use Rattle.std.proofs.Common.{◌∙◌}
use Rattle.std.proofs.Math.ListN.{length}
use borrow.Author.Tests.{leb-true, ltb-true}
use Rattle.model.specs.Galley.{Galley, streams}
use Rattle.model.specs.Answers.{accepted, pages_of, marked, Answer, refused}
use Rattle.model.specs.Gather.{pick}
use Rattle.model.proofs.laws.Gather.{and_left, and_right}
use Rattle.model.proofs.laws.Words.{length_pages}
use Rattle.marking.specs.Mark.{mark_of}
use Rattle.desk.specs.declared.Desk.{Desk}
use Rattle.desk.specs.Calls.{End, Ask, Commit, Marking, Number, words_at, Sitting, Step}
use Rattle.desk.specs.Sitting.{pend, put_or, other_end, tried, step}
use Rattle.desk.specs.Pages.{pages_on, words_on, in_force, is_inner, with_end}
use Rattle.desk.specs.Desk.{Told, pended, cleared, altered, after_ask, ask_marked, ask_off, ask_desk, pending_on, committed, commit_by, commit_desk}
use Rattle.desk.proofs.laws.Ends.{take_end, end_pages}
use Rattle.desk.proofs.laws.Stands.{Fits, Sized, Stands, Follows, stays, pend_stands, put_stands}

-- An inner page that is asked about is pending, and page 0 is none.
pended_some : (d : Desk) (page : ℕ) (end : List ℕ) → is_inner d page ≡ true → pending_on (pended d page end) ≡ Some (altered d page end)
unfolding pending_on is_inner pages_on altered words_on
pended_some d page end inner = rw inner

cleared_none : (d : Desk) → pending_on (cleared d) ≡ None
unfolding pending_on is_inner
cleared_none d = refl

-- A commit puts in force what is pending.
committed_pending : (d : Desk) → pick (is_inner d d.page) (Some (in_force (committed d))) None ≡ pending_on d
unfolding pending_on altered in_force words_on pages_on is_inner
committed_pending d = refl

module _ (g : Galley) (n : ℕ) (d : Desk) (s : Sitting) (so : Stands g n d s) where
  module _ (fits : Fits g n) (long : Sized n s.force) (bytes : List ℕ) (marks : (list : List ℕ) → mark_of bytes list ≡ marked g list) where
    pages_same : pages_on d ≡ length (pages_of g s.force)
    pages_same = so.pages ∙ ap (λ (k : ℕ). k / streams g) (sym long) ∙ sym (length_pages g s.force)

    inner_same : (page : ℕ) → is_inner d page ≡ leb 1 page && ltb page (length (pages_of g s.force))
    unfolding is_inner
    inner_same page = rw pages_same

    module _ (page : ℕ) (end : End) where
      abbrev asked : List ℕ
      asked = other_end g s.force page end

      altered_same : is_inner d page ≡ true → altered d page (words_at end) ≡ asked
      unfolding altered other_end is_inner in_force pages_of
      altered_same inner =
          let first = leb-true 1 page (and_left (leb 1 page) (ltb page (pages_on d)) inner) in
          let before = ltb-true page (pages_on d) (and_right (leb 1 page) (ltb page (pages_on d)) inner) in
          let p = so.pages in
          let e : suc (page - 1) ≡ page = omega arith in
          let whole : length s.force ≡ length s.force / streams g * streams g = rw long fits.whole in
          let low : page - 1 < length s.force / streams g = rw long (omega arith) in
          let pages = end_pages (length s.force / streams g) (streams g) s.force (page - 1) end.lines end.figures end.tables
          fits.least fits.most whole low in
          take_end (words_on d) d.width d.list page (words_at end)
          ∙ ap (λ (k : ℕ). with_end k (in_force d) page (words_at end)) so.width
          ∙ ap (λ (l : List ℕ). with_end (streams g) l page (words_at end)) so.force
          ∙ sym (rw e at pages)

      pub ask_follows : Follows g n (ask_desk bytes page (words_at end) d).desk (Marking (ask_desk bytes page (words_at end) d).answer) (step g s (Ask page end))
      unfolding ask_desk after_ask tried
      ask_follows = rw (← inner_same page) (go (is_inner d page) refl)
        where
          told : Bool → Told
          told b = pick b (ask_marked d page (words_at end) (mark_of bytes (altered d page (words_at end)))) (ask_off d page)

          answer : Bool → Answer
          answer b = pick b (marked g asked) (refused 23 page)

          next : Answer → Step
          next a = record { reply = Marking a; after = pend s (pick (accepted a) (Some asked) None) }

          either : is_inner d page ≡ true → (c : Bool)
              → Stands g n (pick c (pended d page (words_at end)) (cleared d)) (pend s (pick c (Some asked) None))
          either inner true = pend_stands g n d s so page (words_at end) (Some asked) (pended_some d page (words_at end) inner ∙ ap Some (altered_same inner))
          either inner false = pend_stands g n d s so 0 d.end None (cleared_none d)

          go : (b : Bool) → is_inner d page ≡ b → Follows g n (told b).desk (Marking (told b).answer) (next (answer b))
          go true inner =
              let same = marks (altered d page (words_at end)) ∙ ap (marked g) (altered_same inner) in
              rw same (record { reply = refl; stands = either inner (accepted (marked g asked)) })
          go false outer = record { reply = refl; stands = pend_stands g n d s so 0 d.end None (cleared_none d) }

  pub commit_follows : Follows g n (commit_desk d).desk (Number (commit_desk d).number) (step g s Commit)
  unfolding commit_desk
  commit_follows =
      subst (λ (p : Option (List ℕ)). Follows g n (commit_by (is_inner d d.page) d).desk (Number (commit_by (is_inner d d.page) d).number) (put_or 24 s p))
      (committed_pending d ∙ so.pending) (go (is_inner d d.page))
    where
      go : (b : Bool) → Follows g n (commit_by b d).desk (Number (commit_by b d).number) (put_or 24 s (pick b (Some (in_force (committed d))) None))
      go true = record { reply = refl; stands = put_stands g n d s so (with_end d.width d.list d.page d.end) }
      go false = stays g n d s so 24
