-- What turns an opening away, from how its pages were judged.
use Rattle.std.specs.Prelude.{ℕ, ◌*◌, ◌/◌, ◌%◌, ◌≤◌, ◌<◌, ◌≡◌, Bool, true, false, List, Result, Ok, Err}
use Rattle.std.proofs.Common.{mul_comm, div-add-mod', arith, ◌∙◌, eq-eqb, ne_eqb}
use Rattle.std.proofs.Math.Path.{refl, sym, ap}
use Rattle.std.proofs.Math.Option.{Option, none, some}
use Rattle.std.proofs.Math.ListN.{length}
use Rattle.model.specs.declared.answer.Refusal.{Refusal}
use Rattle.model.specs.Gather.{pick}
use Rattle.model.specs.Galley.{streams, zeros, sizes}
use Rattle.model.specs.Answers.{same, pages_of, Answer, refused}
use Rattle.model.specs.Opening.{end_of, opening_turned}
use Rattle.galley.specs.declared.Galley.{Galley}
use Rattle.galley.specs.Sound.{Sound}
use Rattle.galley.specs.Model.{model_of}
use Rattle.blocks.specs.Counts.{page_words}
use Rattle.blocks.specs.laws.Counts.{streams_of_lem}
use Rattle.rules.specs.Parts.{all_placed}
use Rattle.marking.specs.declared.pages.Kept.{Kept}
use Rattle.marking.specs.Parts.{pages_in, WholePages}
use Rattle.marking.specs.Judged.{first_fault, KeptPages, JudgedPages}
use Rattle.marking.specs.laws.Judged.{as_opening, turned_fault}
use Rattle.marking.specs.laws.Listed.{pages_in_lem, ended_of}
use Rattle.openings.specs.declared.Ends.{Ends}
use Rattle.openings.specs.Opening.{turned, Ended, OpeningJudged}

-- An opening, none of whose pages counts as the last.
module _ (bytes : List ℕ) (g : Galley) (so : Sound bytes g) (ws : List ℕ) {words : ℕ} (is : words ≡ page_words g) where
  -- An incomplete page turns it away before any page.
  pub opening_partial : 0 < length ws % words → some (refused 20 0) ≡ opening_turned (model_of bytes g) ws
  unfolding opening_turned
  opening_partial l =
      let e : length ws % streams (model_of bytes g) ≡ length ws % words = ap (λ k. length ws % k) (streams_of_lem g bytes ∙ sym is) in
      rw (ne_eqb (length ws % streams (model_of bytes g)) 0 (λ z. omega arith)) refl

  module _ (none_over : length ws % words ≤ 0) where
    pub opening_whole : WholePages bytes g ws
    opening_whole =
        let parts = div-add-mod' (length ws) words in
        let e : pages_in g ws ≡ length ws / words = ap (λ k. length ws / k) (sym is) in
        let whole : length ws ≡ length ws / words * words = omega arith in
        record { sound = so; whole = whole ∙ mul_comm (length ws / words) words ∙ ap (λ k. k * (length ws / words)) is ∙ ap (λ k. page_words g * k) (sym e) }

    -- Without a fault 21 does where everything is placed.
    abbrev complete : Bool → Option Answer
    complete full = pick full (some (refused 21 (pages_in g ws))) none

    -- The first fault comes before it.
    turned_by : opening_turned (model_of bytes g) ws
        ≡ as_opening (first_fault bytes g ws 0)
        (complete (same (end_of (zeros (model_of bytes g)) (pages_of (model_of bytes g) ws)) (sizes (model_of bytes g))))
    unfolding opening_turned
    turned_by =
        let M = model_of bytes g in
        let e : length ws % streams M ≡ length ws % words = ap (λ k. length ws % k) (streams_of_lem g bytes ∙ sym is) in
        rw (eq-eqb (length ws % streams M) 0 (omega arith)) (turned_fault M 0 (pages_in g ws) (zeros M) (pages_of M ws) (pages_in_lem bytes g ws))

    pub opening_broken : (r : Refusal) → JudgedPages bytes g ws 0 (Err r) → some (refused 20 r.place) ≡ opening_turned (model_of bytes g) ws
    opening_broken r judged =
        let full = same (end_of (zeros (model_of bytes g)) (pages_of (model_of bytes g) ws)) (sizes (model_of bytes g)) in
        sym (turned_by ∙ ap (λ f. as_opening f (complete full)) (sym judged.fault))

    module _ (kept : Kept) (r : JudgedPages bytes g ws 0 (Ok kept)) where
      -- Its pages are no more than there are blocks.
      pub opening_few : length ws / words ≤ 4250
      opening_few =
          let k = r.kept kept refl in
          let e : pages_in g ws ≡ length ws / words = ap (λ k. length ws / k) (sym is) in
          omega (arith, k.few, k.placed.lines, k.placed.figures, k.placed.tables, so.few_lines, so.figures.few, so.tables.few)

      -- Where it ends.
      abbrev here : Ends
      here = record { pages = length ws / words; at = kept.at; sums = kept.sums }

      pub opening_kept : (o : Result Ends Refusal) → Ended g (length ws / words) kept.at kept.sums o → OpeningJudged bytes g ws o
      opening_kept o e =
          record {
            told =
                ap turned e ∙ picks (all_placed g kept.at)
                ∙ sym (turned_by ∙ ap (λ f. as_opening f (complete full)) (sym r.fault) ∙ ap complete (ended_of known));
            kept = λ ends q. go (all_placed g kept.at) ends (sym e ∙ q);
          }
        where
          full : Bool
          full = same (end_of (zeros (model_of bytes g)) (pages_of (model_of bytes g) ws)) (sizes (model_of bytes g))

          known : KeptPages bytes g ws 0 kept.at kept.sums
          known = r.kept kept refl

          same_pages : length ws / words ≡ pages_in g ws
          same_pages = ap (λ k. length ws / k) is

          picks : (b : Bool) → turned (pick b (refused 21 (length ws / words)) (Ok here)) ≡ complete b
          picks true = ap (λ p. some (refused 21 p)) same_pages
          picks false = refl

          go : (b : Bool) (ends : Ends) → pick b (refused 21 (length ws / words)) (Ok here) ≡ Ok ends
              → (ends.pages ≡ pages_in g ws) × KeptPages bytes g ws 0 ends.at ends.sums
          go true ends q = cc
          go false ends q = let same : here ≡ ends = cc in rw (← same) (same_pages, known)
