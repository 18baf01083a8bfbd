-- The answer for the words of a list, from how its pages were judged.
use Rattle.std.specs.Prelude.{ℕ, ◌+◌, ◌*◌, ◌/◌, ◌≤◌, ◌<◌, ◌≡◌, refl, Bool, List, Ok, Err}
use Rattle.std.proofs.Common.{mul_comm, arith, ◌∙◌}
use Rattle.std.proofs.Math.Path.{sym, ap}
use Rattle.std.proofs.Math.Bool.{true, false}
use Rattle.std.proofs.Math.ListN.{length}
use Rattle.model.specs.declared.answer.Refusal.{Refusal}
use Rattle.model.specs.Gather.{pick}
use Rattle.model.specs.Galley.{Place, zeros, sizes, blocks}
use Rattle.model.specs.Turns.{x_of, y_of, turns}
use Rattle.model.specs.White.{white}
use Rattle.model.specs.Answers.{accepted, same, judge, counted, counts_of, pages_of, marked, Answer, refused}
use Rattle.model.specs.Best.{allowed}
use Rattle.model.specs.Opening.{end_of}
use Rattle.model.proofs.laws.Rules as rules
use Rattle.model.specs.laws.Judge.{accepts}
use Rattle.model.proofs.laws.Judge.{judge_accepts}
use Rattle.model.proofs.laws.Words.{length_pages, counted_at}
use Rattle.theorems.specs.turns.Pages.{along, accepts_along}
use Rattle.theorems.specs.turns.LeafEnds.{Orderly, x_by_ends}
use Rattle.theorems.specs.turns.Costs.{orderly}
use Rattle.galley.specs.declared.Galley.{Galley}
use Rattle.galley.specs.Sound.{Sound}
use Rattle.galley.specs.Model.{model_of}
use Rattle.blocks.specs.declared.Counts.{Counts}
use Rattle.blocks.specs.Counts.{page_words}
use Rattle.blocks.specs.laws.Counts.{streams_of_lem, blocks_of, same_of, within_proper}
use Rattle.rules.specs.declared.counts.Sums.{Sums}
use Rattle.rules.specs.Parts.{leaves_turned, all_placed, counts, CountLimits, finished}
use Rattle.rules.specs.laws.Sane.{sound_sane}
use Rattle.marking.specs.declared.pages.Kept.{Kept}
use Rattle.marking.specs.Parts.{pages_in, CountedPages}
use Rattle.marking.specs.Judged.{first_fault, waited, KeptPages, JudgedPages}
use Rattle.marking.specs.laws.Judged.{or_else, judge_fault, lacked_list}

-- The words that rule 12 lets pass are whole pages, and no more than there are blocks.
pub counted_listed : (bytes : List ℕ) (g : Galley) → Sound bytes g → (ws : List ℕ) → counted (model_of bytes g) ws ≡ true
    → (pages : ℕ) → pages ≡ pages_in g ws → CountedPages bytes g ws pages
counted_listed bytes g so ws h pages is =
    let w = counted_at (model_of bytes g) ws h in
    let n = blocks_of g bytes in
    let k = streams_of_lem g bytes in
    let whole : length ws ≡ pages_in g ws * page_words g = rw k at w.whole in
    let some : 0 < pages_in g ws = rw k at w.some in
    let few : pages_in g ws ≤ blocks (model_of bytes g) = rw k at w.few in
    record {
      list = record { sound = so; whole = whole ∙ mul_comm (pages_in g ws) (page_words g) };
      counted = h;
      is = is;
      some = omega arith;
      few = omega (arith, so.few_lines, so.figures.few, so.tables.few);
    }

pub marked_refused : (bytes : List ℕ) (g : Galley) (ws : List ℕ) → counted (model_of bytes g) ws ≡ false
    → refused 12 0 ≡ marked (model_of bytes g) ws
unfolding marked
marked_refused bytes g ws h = rw h

-- The pages that words name are as many as the words make.
pub pages_in_lem : (bytes : List ℕ) (g : Galley) (ws : List ℕ) → pages_in g ws ≡ 0 + length (pages_of (model_of bytes g) ws)
pages_in_lem bytes g ws = omega (arith, length_pages (model_of bytes g) ws, ap (λ k. length ws / k) (streams_of_lem g bytes))

-- What is said of the place where pages end, by its counts.
pub ended_of : {bytes : List ℕ} {g : Galley} {ws : List ℕ} {last : ℕ} {at : Counts} {sums : Sums} → KeptPages bytes g ws last at sums
    → same (end_of (zeros (model_of bytes g)) (pages_of (model_of bytes g) ws)) (sizes (model_of bytes g)) ≡ all_placed g at
ended_of {bytes} {g} {at = at} k =
    ap (λ v. same v (sizes (model_of bytes g))) (sym k.ends) ∙ same_of g bytes at (within_proper g k.placed)

-- A list, and page `pages` is its last.
module _ {bytes : List ℕ} {g : Galley} {ws : List ℕ} {pages : ℕ} (asked : CountedPages bytes g ws pages) where
  -- Without a fault it is refused by 18, or its pages are counted.
  abbrev ended : Bool → Answer
  ended full = pick full (counts_of (model_of bytes g) (pages_of (model_of bytes g) ws)) (refused 18 pages)

  -- The first fault refuses it.
  marked_by : marked (model_of bytes g) ws
      ≡ or_else (first_fault bytes g ws pages)
      (ended (same (end_of (zeros (model_of bytes g)) (pages_of (model_of bytes g) ws)) (sizes (model_of bytes g))))
  unfolding marked
  marked_by =
      let M = model_of bytes g in
      rw asked.counted
      (judge_fault M (counts_of M (pages_of M ws)) 0 pages (zeros M) (pages_of M ws) (asked.is ∙ pages_in_lem bytes g ws))

  pub list_broken : (r : Refusal) → JudgedPages bytes g ws pages (Err r) → Err r ≡ marked (model_of bytes g) ws
  list_broken r judged =
      let full = same (end_of (zeros (model_of bytes g)) (pages_of (model_of bytes g) ws)) (sizes (model_of bytes g)) in
      sym (marked_by ∙ ap (λ f. or_else f (ended full)) (sym judged.fault))

  module _ (kept : Kept) (r : JudgedPages bytes g ws pages (Ok kept)) where
    kept_pages : KeptPages bytes g ws pages kept.at kept.sums
    kept_pages = r.kept kept refl

    -- No count passes 32 bits.
    pub list_limits : CountLimits g pages kept.sums.x
    list_limits =
        record {
          numbered =
              record { some = asked.some; few = asked.few; folio = asked.list.sound.some_folio; folios = asked.list.sound.few_folios };
          most = omega (arith, kept_pages.most, asked.is);
          ranged = asked.list.sound.spec_ranged;
        }

    marked_kept : marked (model_of bytes g) ws ≡ ended (all_placed g kept.at)
    marked_kept =
        let full = same (end_of (zeros (model_of bytes g)) (pages_of (model_of bytes g) ws)) (sizes (model_of bytes g)) in
        marked_by ∙ ap (λ f. or_else f (ended full)) (sym r.fault) ∙ ap ended (ended_of kept_pages)

    -- X of an accepted list is what waited at the ends of its leaves.
    x_is : marked (model_of bytes g) ws ≡ counts_of (model_of bytes g) (pages_of (model_of bytes g) ws)
        → kept.sums.x ≡ x_of (model_of bytes g) (pages_of (model_of bytes g) ws)
    unfolding counts_of waited marked
    x_is good =
        let M = model_of bytes g in
        let pages = pages_of M ws in
        let judged : judge M (counts_of M pages) 1 (zeros M) pages ≡ counts_of M pages = rw asked.counted at good in
        let taken : accepts (allowed M) (sizes M) 1 (zeros M) pages ≡ true =
        sym (judge_accepts M (counts_of M pages) 1 (zeros M) pages refl) ∙ ap accepted judged in
        let fine =
        along (λ (q : ℕ) (last : Bool) (u v : Place). (allowed M q last u v ≡ true) × (last ≡ true → v ≡ sizes M)) (Orderly M)
        (λ q last u v t. let k = rules.kept t.0 in orderly M (sound_sane bytes g asked.list.sound) q last u v k.rule13 k.rule17) 1
        (zeros M) pages (accepts_along (allowed M) (sizes M) 1 (zeros M) pages taken) in
        kept_pages.waits ∙ sym (x_by_ends M (zeros M) pages fine)

    -- W of any list is what its pages but the last lack.
    white_is : kept.sums.white ≡ white (model_of bytes g) (pages_of (model_of bytes g) ws)
    unfolding white
    white_is =
        let M = model_of bytes g in
        kept_pages.whitens ∙ lacked_list M 0 pages (zeros M) (pages_of M ws) (asked.is ∙ pages_in_lem bytes g ws)

    counts_are : marked (model_of bytes g) ws ≡ counts_of (model_of bytes g) (pages_of (model_of bytes g) ws)
        → counts g pages kept.sums ≡ counts_of (model_of bytes g) (pages_of (model_of bytes g) ws)
    unfolding counts leaves_turned counts_of y_of turns
    counts_are good =
        let p : length (pages_of (model_of bytes g) ws) ≡ pages = omega (arith, pages_in_lem bytes g ws, asked.is) in
        rw (p, ← x_is good, ← white_is)

    pub list_kept : finished g pages kept.at kept.sums ≡ marked (model_of bytes g) ws
    unfolding finished
    list_kept = go (all_placed g kept.at) marked_kept
      where
        go : (b : Bool) → marked (model_of bytes g) ws ≡ ended b → pick b (counts g pages kept.sums) (refused 18 pages) ≡ marked (model_of bytes g) ws
        go true e = counts_are e ∙ sym e
        go false e = sym e
