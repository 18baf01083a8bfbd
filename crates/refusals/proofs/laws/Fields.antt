-- The fields of a record whose mark fits: in range, or 3.
use Rattle.std.specs.Prelude.{ℕ, ◌≤◌, ◌≡◌, Bool, List, Err, Ok}
use Rattle.std.proofs.Common.{arith, ◌∙◌, ap}
use Rattle.std.proofs.Math.Path.{refl}
use Rattle.std.proofs.Math.Bool.{true, false}
use Rattle.galley.specs.Record.{spec_of, opening_folio, line_of, float_of, Read, unread, ranged, fields_of}
use Rattle.galley.specs.declared.Record.{Record}
use Rattle.galley.specs.declared.Record.TheVariants as found
use Rattle.refusals.specs.Declared.{Start, fits, in_range}
use Rattle.refusals.proofs.laws.State.{all_marks}
use Rattle.refusals.proofs.laws.Fit.{unknown_unfit}

-- The number of a record that is refused, 0 of any other.
abbrev pub number_of : Read → ℕ
number_of (Ok r) = 0
number_of (Err r) = r.number

module _ (b : Start) (bytes : List ℕ) (at : ℕ) where
  -- They are a record where they are in range.
  record Ranged (mark : ℕ) : Type 0 where
    value : Record
    is : fields_of mark bytes at ≡ ranged (in_range mark bytes at) value at

  fields_ranged : (mark : ℕ) → fits b mark ≡ true → Ranged mark
  unfolding fields_of in_range
  fields_ranged =
      all_marks (λ mark. fits b mark ≡ true → Ranged mark)
      (λ _. record { value = found.Spec (spec_of false bytes at); is = refl })
      (λ _. record { value = found.Spec (spec_of true bytes at); is = refl })
      (λ _. record { value = found.Folio (opening_folio bytes at); is = refl })
      (λ _. record { value = found.Line (line_of bytes at); is = refl })
      (λ _. record { value = found.Figure (float_of false bytes at); is = refl })
      (λ _. record { value = found.Figure (float_of true bytes at); is = refl })
      (λ _. record { value = found.Table (float_of false bytes at); is = refl })
      (λ _. record { value = found.End; is = refl })
      (λ mark u fit. unknown_unfit b mark u fit)

  -- Out of range they are 3,
  pub fields_bad : (mark : ℕ) → fits b mark ≡ true → in_range mark bytes at ≡ false → fields_of mark bytes at ≡ unread 3 at
  fields_bad mark fit bad = let r = fields_ranged mark fit in r.is ∙ ap (λ fine. ranged fine r.value at) bad

  -- and where they are refused they are out of range, and 3.
  pub fields_three : (mark : ℕ) → fits b mark ≡ true → 1 ≤ number_of (fields_of mark bytes at)
      → (number_of (fields_of mark bytes at) ≡ 3) × (in_range mark bytes at ≡ false)
  fields_three mark fit some =
      let r = fields_ranged mark fit in
      go r.value (in_range mark bytes at) refl (ap number_of r.is)
    where
      go : (value : Record) → (fine : Bool) → in_range mark bytes at ≡ fine
          → number_of (fields_of mark bytes at) ≡ number_of (ranged fine value at)
          → (number_of (fields_of mark bytes at) ≡ 3) × (in_range mark bytes at ≡ false)
      go value true e is = absurd (omega arith)
      go value false e is = (is, e)
