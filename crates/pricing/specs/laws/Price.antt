-- Whether a page may end at a place, and what it costs by the number of floats that wait there.
use Rattle.std.specs.Prelude.{ℕ, ◌*◌, ◌%◌, ◌≤◌, ◌<◌, ◌≡◌, refl, Bool, true, false, not, ◌&&◌, ◌||◌, List, eqb}
use Rattle.std.proofs.Common.{mul-le-mul, arith, sym, ◌∙◌, eq-eqb}
use Rattle.std.proofs.lemmas.Bool.{eqb-false}
use Rattle.model.specs.Gather.{pick, implies}
use Rattle.model.specs.Galley.{single, double, Sane}
use Rattle.model.specs.Leaf.{ends, sides_of}
use Rattle.model.proofs.laws.Leaf.{ends_folio}
use Rattle.theorems.specs.turns.Waiting.{page_cost}
use Rattle.theorems.specs.pages.Graph.{full}
use Rattle.galley.specs.declared.Galley.{Galley}
use Rattle.galley.specs.Model.{model_of, sides_in}
use Rattle.blocks.specs.declared.Counts.{Counts}
use Rattle.blocks.specs.Counts.{place_of, Proper}
use Rattle.rules.specs.laws.Page.{closes_of, cited_by, full_of}
use Rattle.rules.specs.laws.Walked.{waiting_of_lem}
use Rattle.rules.specs.Parts.{all_placed}
use Rattle.pricing.specs.Stop.{stop_at, stops_at, ending_side}
use Rattle.pricing.specs.Price.{waits_at, price_of}

-- A page ends its leaf on the one side whose pages do.
pub turns_on_lem : (g : Galley) (c : ℕ) → 1 ≤ g.folio → g.spec.sides ≤ 2 → c < g.spec.sides
    → eqb c (ending_side g) ≡ ends (sides_in g) c
unfolding ending_side sides_of ends
turns_on_lem g c some two occurs = go (eqb g.spec.sides 2) refl
  where
    go : (t : Bool) → eqb g.spec.sides 2 ≡ t → eqb c (pick t (g.folio % 2) 0) ≡ ends (pick t (double g.folio) single) c
    go true e =
        let same : c % 2 ≡ c = omega arith in
        sym (ends_folio g.folio c some ∙ rw same)
    go false e =
        let odd = eqb-false g.spec.sides 2 e in
        eq-eqb c 0 (omega (arith, odd))

-- What is asked is kept, or not asked.
implies_or : (a b : Bool) → implies a b ≡ (not a || b)
implies_or true b = refl
implies_or false b = refl

-- Whether a page may end at a place, by what the place says and whether the page ends its leaf.
pub stops_of_lem : (bytes : List ℕ) (g : Galley) (at : Counts) (c : ℕ) → Proper g at → (turns : Bool) → turns ≡ ends (sides_in g) c
    → stops_at (model_of bytes g) (place_of g at) c
    ≡ ((stop_at bytes g at).closes && (not (turns || (stop_at bytes g at).full) || (stop_at bytes g at).cited))
stops_of_lem bytes g at c proper turns e =
    rw (
      full_of bytes g at proper,
      closes_of bytes g at proper,
      cited_by bytes g c (all_placed g at) (turns || all_placed g at) at proper (rw e),
      implies_or (turns || all_placed g at) (stop_at bytes g at).cited,
    )

-- The price, by two tests: whether the page is the last, and whether it ends its leaf.
pub price_of_lem : (bytes : List ℕ) (g : Galley) (at : Counts) (c : ℕ) → Proper g at → Sane (model_of bytes g) → (n : ℕ) → n ≡ waits_at bytes g at
    → (last turns : Bool) → last ≡ all_placed g at → turns ≡ ends (sides_in g) c
    → page_cost (model_of bytes g) c (full (model_of bytes g) (place_of g at)) (place_of g at) ≡ price_of g last turns n
unfolding page_cost
price_of_lem bytes g at c proper sane n found last turns e f =
    rw (full_of bytes g at proper, waiting_of_lem bytes g sane at proper, ← found, e, f)

-- The product in a price is small.
pub price_small : (alpha n : ℕ) → alpha ≤ 1000 → n ≤ 250 → alpha * n ≤ 250000
price_small alpha n h l = mul-le-mul {n₁ = alpha} {m₁ = n} {n₂ = 1000} {m₂ = 250} h l
