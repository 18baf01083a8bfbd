-- What is weighed, and what is told of it beforehand (document 02, S-5). `make` is proved to do what `Made` says, and `forecast_of` to
-- answer `forecast_of`, both for any bytes.
use Rattle.std.specs.Prelude.{ℕ, ◌+◌, ◌*◌, ◌≤◌, ◌≡◌, ◌⊎◌, Bool, ◌||◌, List, length, ltb, Err, Ok, Result}
use Rattle.std.proofs.Common.{mul-le-mul, sym, ◌∙◌, subst, inl, inr}
use native.Mathlib.Omega.{arith}
use Rattle.std.proofs.Math.Path.{refl}
use Rattle.std.proofs.Math.Bool.{true, false}
use Rattle.model.specs.declared.answer.Refusal.{Refusal}
use Rattle.model.specs.Gather.{pick}
use Rattle.model.specs.Galley as model
use Rattle.model.specs.Answers as answers
use Rattle.model.specs.Answers.{numbers_of, accepted, Answer}
use Rattle.model.specs.Best.{made}
use Rattle.model.specs.Weighed.{together, most_together, weighed, ceiling}
use Rattle.model.proofs.laws.Weighed.{weighed_ceiling}
use Rattle.galley.specs.declared.Galley.{Galley}
use Rattle.galley.specs.Whole.{galley_of, Reading}
use Rattle.galley.specs.Model.{model_of}
use Rattle.galley.proofs.laws.Sound.{sound, refusal_number}
use Rattle.needs.specs.Needs.{work_needed, list_needed}
use Rattle.making.specs.Make.{too_short, make_read, make_of, weighed_read, weighed_of, Made}
use Rattle.forecast.specs.declared.Forecast.{Forecast}
use Rattle.forecast.specs.Forecast.{forecast_read, forecast_of}
use Rattle.forecast.specs.Ceiling.{factors}
use Rattle.forecast.specs.laws.Ceiling.{greatest_low, factors_is, factors_few, ceiling_low, ceiling_is}
use Rattle.promises.specs.Answers.{past_memory}
use Rattle.promises.specs.FirstDemand.{made_refused}

-- The ceiling that a forecast tells, 0 where the galley is refused.
abbrev pub ceiling_told : Result Forecast Refusal → ℕ
ceiling_told (Ok f) = f.ceiling
ceiling_told (Err r) = 0

-- A list was sought: making finished, or answered 11.
abbrev pub Sought : Answer → Type 0
Sought a = (accepted a ≡ true) ⊎ ((numbers_of a).number ≡ 11)

-- What is promised of the count that making the bytes returns beside its answer.
pub record Counts (bytes : List ℕ) (answer : Answer) (count : ℕ) : Type 0 where
  -- on success and on 11 the bytes say a galley, and the count is what is weighed of it, by enumeration
  pub sought : Sought answer → (g : Galley) × (galley_of bytes ≡ Ok g) × (count ≡ weighed (model_of bytes g))
  -- with every other refusal it is 0
  pub refused : (n at : ℕ) → answer ≡ answers.refused n at → ¬ (n ≡ 11) → count ≡ 0
  -- it never passes the ceiling that is told beforehand,
  pub low : count ≤ ceiling_told (forecast_of bytes)
  -- which is far within 64 bits
  pub fits : ceiling_told (forecast_of bytes) ≤ 1682168785091001

module _ (bytes : List ℕ) where
  not_sought : {A : Type 0} (n at : ℕ) → n ≤ 10 → Sought (answers.refused n at) → A
  not_sought n at l (inl e) = absurd cc
  not_sought n at l (inr e) = absurd (omega arith)

  sought_weighed : (work list : ℕ) → Sought (make_of bytes work list)
      → (g : Galley) × (galley_of bytes ≡ Ok g) × (weighed_of bytes work list ≡ weighed (model_of bytes g))
  unfolding make_of make_read weighed_of weighed_read
  sought_weighed work list h = go (galley_of bytes) refl h
    where
      all : (g : Galley) (a b : Bool)
          → Sought (pick a (answers.refused 9 (work_needed g)) (pick b (answers.refused 10 (list_needed g)) (made (model_of bytes g))))
          → pick (a || b) 0 (weighed (model_of bytes g)) ≡ weighed (model_of bytes g)
      all g true b h = not_sought 9 (work_needed g) (omega arith) h
      all g false true h = not_sought 10 (list_needed g) (omega arith) h
      all g false false h = refl

      go : (r : Reading) → galley_of bytes ≡ r → Sought (make_read bytes work list r)
          → (g : Galley) × (galley_of bytes ≡ Ok g) × (weighed_read bytes work list r ≡ weighed (model_of bytes g))
      go (Ok g) e h = (g, e, all g (ltb work (work_needed g)) (ltb list (list_needed g)) h)
      go (Err r) e h = not_sought r.number r.place (omega (arith, (refusal_number bytes r.number r.place e).1)) h

  refused_none : (work list n at : ℕ) → make_of bytes work list ≡ answers.refused n at → ¬ (n ≡ 11) → weighed_of bytes work list ≡ 0
  unfolding make_of make_read weighed_of weighed_read
  refused_none work list n at e other = go (galley_of bytes) e
    where
      go : (r : Reading) → make_read bytes work list r ≡ answers.refused n at → weighed_read bytes work list r ≡ 0
      go (Ok g) e =
          past_memory (λ short. pick short 0 (weighed (model_of bytes g)) ≡ 0) _ _ (made (model_of bytes g)) refl
          (λ e. absurd (other (made_refused (model_of bytes g) n at e).0))
          (ltb work (work_needed g)) (ltb list (list_needed g)) e
      go (Err r) e = refl

  weighed_low : (work list : ℕ) → weighed_of bytes work list ≤ ceiling_told (forecast_of bytes)
  unfolding weighed_of weighed_read forecast_of forecast_read
  weighed_low work list = go (galley_of bytes)
    where
      less : (b : Bool) (n top : ℕ) → n ≤ top → pick b 0 n ≤ top
      less true n top h = omega arith
      less false n top h = h

      go : (r : Reading) → weighed_read bytes work list r ≤ ceiling_told (forecast_read bytes r)
      go (Ok g) =
          less (too_short g work list) (weighed (model_of bytes g)) (ceiling (model_of bytes g)) (weighed_ceiling (model_of bytes g))
      go (Err r) = omega arith

-- A stream's factors, by the most blocks that it may have.
factors_low : (g : model.Galley) (st : model.Stream) (most : ℕ) → st.size ≤ most → factors g st ≤ (most + 1) * (most + 1)
unfolding most_together
factors_low g st most few =
    let low = greatest_low st.size (together g st) in
    let is = factors_is g st (most_together g st) refl in
    factors_few st.size most few (subst (λ k. k ≤ (st.size + 1) * (st.size + 1)) is (mul-le-mul {n₁ = st.size + 1} {m₁ = most_together g st + 1} (omega arith) (omega arith)))

-- The ceiling is at most 4,001² · 201² · 51²: the limits of a galley's lines, figures and tables.
pub forecast_fits : (bytes : List ℕ) → ceiling_told (forecast_of bytes) ≤ 1682168785091001
unfolding forecast_of forecast_read
forecast_fits bytes = go (galley_of bytes) refl
  where
    all : (g : Galley) → galley_of bytes ≡ Ok g → ceiling (model_of bytes g) ≤ 1682168785091001
    all g e =
        let so = sound bytes g e in
        let M = model_of bytes g in
        let lines = factors_low M (M.stream 0) 4000 so.few_lines in
        let figures = factors_low M (M.stream 1) 200 so.figures.few in
        let tables = factors_low M (M.stream 2) 50 so.tables.few in
        subst (λ k. k ≤ 1682168785091001) (ceiling_is bytes g _ _ _ refl refl refl) (ceiling_low lines figures tables)

    go : (r : Reading) → galley_of bytes ≡ r → ceiling_told (forecast_read bytes r) ≤ 1682168785091001
    go (Ok g) e = all g e
    go (Err r) e = omega arith

-- It holds of whatever the contract of `make` allows.
pub counts : {bytes work list : List ℕ} {answer : Answer} {count : ℕ} {work' list' : List ℕ}
    → Made bytes work list answer count work' list' → Counts bytes answer count
counts {bytes} {work} {list} {answer} {count} m =
    record {
      sought = λ h. let (g, e, is) = sought_weighed bytes (length work) (length list) (subst (λ a. Sought a) m.answers h) in (g, e, m.counts ∙ is);
      refused = λ n at e other. m.counts ∙ refused_none bytes (length work) (length list) n at (sym m.answers ∙ e) other;
      low = subst (λ k. k ≤ ceiling_told (forecast_of bytes)) (sym m.counts) (weighed_low bytes (length work) (length list));
      fits = forecast_fits bytes;
    }
