-- `judge_pages` meets its contract. The outer invariant is the run over the pages so far (laws/Run), the inner one the page under
-- way with the blocks that it has so far (laws/Page); each way of leaving a page is one law of laws/Page.
use Rattle.std.proofs.Common.{◌≡◌, ◌∙◌, ◌/◌, ℕ, List, length, ◌+◌, Option, None, Some, unwrap_or, eqb, ne_eqb, Ok, sym, arith}
use Rattle.std.specs.Option.{option_eq}
use Rattle.std.proofs.Math.Option.{none, some}
use Rattle.model.specs.Answers.{refused}
use Rattle.galley.specs.declared.Galley.{Galley}
use Rattle.galley.specs.Model.{model_of}
use Rattle.blocks.specs.Counts.{place_of}
use Rattle.rules.specs.Parts.{start_fault}
use Rattle.marking.specs.declared.pages.Kept.{Kept}
use Rattle.marking.specs.Judged.{first_fault, JudgedPages, KeptPages}
use Rattle.marking.specs.laws.Page.{Begun, page_there, page_few, run_over, begins, begun_proper, begun_refused, begun_ahead, underway_bare, underway_open, underway_more, underway_less, underway_over, underway_ended, underway_next, underway_walking, underway_addable}
use Rattle.marking.specs.laws.Run.{Run, run_start}
use Rattle.marking.proofs.pages.judge_pages.Goals as goal
use Rattle.marking.proofs.pages.judge_pages.Goals.{After-page_at-v, In_default, After-eq-closing}

-- Counts, floats that wait and sums that are all 0 are those before the first page.
from_none : {bytes : List ℕ} {g : Galley} {ws : List ℕ} {last l f t fw tw x white : ℕ}
    → Run bytes g ws last 0 (record { lines = 0; figures = 0; tables = 0 }) (record { figures = 0; tables = 0 }) (record { x = 0; white = 0 })
    → l ≡ 0 → f ≡ 0 → t ≡ 0 → fw ≡ 0 → tw ≡ 0 → x ≡ 0 → white ≡ 0
    → Run bytes g ws last 0 (record { lines = l; figures = f; tables = t }) (record { figures = fw; tables = tw }) (record { x = x; white = white })
from_none run a b c d e f h = rw (a, b, c, d, e, f, h) run

pub loop-done-init : goal.loop-done-init
loop-done-init c =
    let at = c.default-at.ensures in
    let w = c.default-waiting.ensures in
    let sums = c.default-sums.ensures in
    from_none (run_start c.args.s.now c.args.g c.requires.sound c.args.list.now (unwrap_or c.args.last 0)) at.0 at.1.0 at.1.1 w.0 w.1 sums.0 sums.1

pub overflow_mul-words : goal.overflow_mul-words
overflow_mul-words c =
    omega (arith, page_few c.args.s.now c.args.g c.args.list.now c.requires c.page_words-words.ensures.1 c.loop-done.invariant c.loop-done-test.true)

pub page_at-v-requires : goal.page_at-v-requires
page_at-v-requires c =
    page_there c.args.s.now c.args.g c.args.list.now c.requires c.page_words-words.ensures.1 c.loop-done.invariant c.loop-done-test.true

pub start_fault-requires : goal.start_fault-requires
start_fault-requires c =
    let both = begun_proper c.loop-done.invariant _ c.page_at-v.ensures in
    (c.requires.sound, both.0, both.1)

-- The page that is looked at.
page : (c : After-page_at-v)
    → (let l = c.loop-done in
    Begun c.args.s.now c.args.g c.args.list.now (unwrap_or c.args.last 0) l.done l.at l.waiting l.sums c.page_at-v.result)
page c =
    begins c.args.s.now c.args.g c.args.list.now c.requires c.page_words-words.ensures.1 c.loop-done.invariant c.loop-done-test.true
    c.page_at-v.ensures

-- It breaks neither 13 nor 14.
fine : (c : In_default) → None ≡ start_fault (model_of c.args.s.now c.args.g) (place_of c.args.g c.loop-done.at) (place_of c.args.g c.page_at-v.result)
fine c = sym c.in_default.is ∙ c.start_fault.ensures

pub bare_page-laid-requires : goal.bare_page-laid-requires
bare_page-laid-requires c =
    (c.requires.sound.spec_ranged, (begun_ahead (page (goal.at.bare_page-laid-requires c).After-page_at-v) (fine (goal.at.bare_page-laid-requires c).In_default)).some)

pub loop-laid-init : goal.loop-laid-init
loop-laid-init c =
    rw c.bare_page-laid.ensures
    (underway_bare (page (goal.at.loop-laid-init c).After-page_at-v) (fine (goal.at.loop-laid-init c).In_default))

pub with_next-laid-requires : goal.with_next-laid-requires
with_next-laid-requires c = underway_open c.loop-laid.invariant (sym c.is_laid.ensures ∙ c.if-is_laid.false)

pub loop-laid-smaller : goal.loop-laid-smaller
loop-laid-smaller c = rw c.with_next-laid.ensures (underway_less c.loop-laid.invariant (sym c.is_laid.ensures ∙ c.if-is_laid.false))

pub loop-laid-preserved : goal.loop-laid-preserved
loop-laid-preserved c = rw c.with_next-laid.ensures (underway_more c.loop-laid.invariant (sym c.is_laid.ensures ∙ c.if-is_laid.false))

pub waiting_on-waiting-requires : goal.waiting_on-waiting-requires
waiting_on-waiting-requires c = underway_walking c.loop-laid.invariant

pub with_page-sums-requires : goal.with_page-sums-requires
with_page-sums-requires c =
    underway_addable c.loop-laid.invariant c.waiting_on-waiting.result c.waiting_on-waiting.ensures

-- The page that counts as the last is the one of that number, of which no page has 0.
closing : (last : Option ℕ) (done : ℕ) → option_eq eqb last (Some (done + 1)) ≡ eqb (done + 1) (unwrap_or last 0)
closing None done = sym (ne_eqb (done + 1) 0 (λ e. omega arith))
closing (Some n) done = grind arith

-- So it is asked of the page that is looked at.
is_last : (c : After-eq-closing) → c.eq-closing.result ≡ eqb (c.loop-done.done + 1) (unwrap_or c.args.last 0)
is_last c = c.eq-closing.ensures ∙ closing c.args.last c.loop-done.done

pub loop-done-preserved : goal.loop-done-preserved
loop-done-preserved c =
    let last = is_last (goal.at.loop-done-preserved c).After-eq-closing in
    rw (c.with_page-sums.ensures, last)
    (underway_next c.loop-laid.invariant c.if-g-laid.false (sym c.is_laid.ensures ∙ c.if-is_laid.true) c.end_fault.result
    (rw last at c.end_fault.ensures) c.in_default-end_fault.is c.waiting_on-waiting.result c.waiting_on-waiting.ensures)

-- A rule that is broken is told with its page, and nothing is kept.
broke : {bytes : List ℕ} {g : Galley} {ws : List ℕ} {last n q : ℕ} → some (refused n q) ≡ first_fault bytes g ws last
    → JudgedPages bytes g ws last (refused n q)
broke e = record { fault = e; kept = λ k f. cc }

pub returns-in-Some : goal.returns-in-Some
returns-in-Some c =
    broke (begun_refused (page (goal.at.returns-in-Some c).After-page_at-v) c.in-Some.number (sym c.in-Some.is ∙ c.start_fault.ensures))

pub returns-then-g-laid : goal.returns-then-g-laid
returns-then-g-laid c = broke (underway_over c.loop-laid.invariant c.if-g-laid.true)

pub returns-in-Some-end_fault : goal.returns-in-Some-end_fault
returns-in-Some-end_fault c =
    let last = is_last (goal.at.returns-in-Some-end_fault c).After-eq-closing in
    broke
    (underway_ended c.loop-laid.invariant c.if-g-laid.false (sym c.is_laid.ensures ∙ c.if-is_laid.true) c.end_fault.result
    (rw last at c.end_fault.ensures) c.in-Some-end_fault.number c.in-Some-end_fault.is)

-- No rule is broken, and what is kept is what the run has.
through : {bytes : List ℕ} {g : Galley} {ws : List ℕ} {last : ℕ} {kept : Kept} → none ≡ first_fault bytes g ws last
    → KeptPages bytes g ws last kept.at kept.sums → JudgedPages bytes g ws last (Ok kept)
through {kept = kept} e pages = record { fault = e; kept = λ k f. let same : kept ≡ k = cc in rw (← same) pages }

pub returns-after-loop-done : goal.returns-after-loop-done
returns-after-loop-done c =
    let all : c.loop-done.done ≡ length c.args.list.now / c.page_words-words.result = omega (arith, c.loop-done.auto.done-end, c.loop-done-test.false) in
    let over = run_over c.args.s.now c.args.g c.args.list.now c.requires c.page_words-words.ensures.1 c.loop-done.invariant all in
    through over.0 over.1
