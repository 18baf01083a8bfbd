-- Bytes that are alike in all but htMin hold galleys that differ in htMin alone, as they are read and in the page model.
use Prim.Native.Nat.{ℕ, zero, suc, ◌+◌, ◌-◌, ◌≤◌}
use Rattle.std.proofs.Common.{arith, ◌∙◌, inl, inr}
use Rattle.std.specs.Prelude.{◌≡◌, Bool, true, false, ◌||◌, List, length, ltb, eqb, Err, Ok}
use Rattle.std.proofs.Math.Path.{refl, sym, ap, fun_ext}
use Rattle.model.specs.Gather.{pick}
use Rattle.model.specs.Loosened as model
use Rattle.galley.specs.Word.{word_at, mark_at}
use Rattle.galley.specs.Place.{spec_mark, spec_size, kind_of}
use Rattle.galley.specs.Record.{height_at, least_at, most_at, legal_at, cite_at, fields_of, record_at, Read}
use Rattle.galley.specs.Whole.{beginning, moved, with_folio, refused, cited, closed, after, step_from, settled, read_from, galley_of, Reading, Step}
use Rattle.galley.specs.Alike.{Alike, with_htmin}
use Rattle.galley.specs.Block.{offset, field_of}
use Rattle.galley.specs.Sound.{Opening}
use Rattle.galley.specs.Model.{stream_of, legal_of, streams_of, float_streams, model_of}
use Rattle.galley.proofs.laws.Place.{spec_kind, spec_large}
use Rattle.galley.proofs.laws.Record.{Found, found_at}
use Rattle.galley.proofs.laws.Underway.{read_on}
use Rattle.galley.proofs.laws.Stand.{begun, spec_first}
use Rattle.galley.proofs.laws.Reached.{Reached, reached_none}
use Rattle.galley.proofs.laws.Step.{Fine, step_fine}
use Rattle.galley.proofs.laws.Sound.{sound, opening}
use Rattle.galley.specs.declared.Galley.{Galley}
use Rattle.galley.specs.declared.Spec.{Spec}
use Rattle.galley.specs.declared.Stream.{Stream}
use Rattle.galley.specs.declared.Record.TheVariants as found
use Rattle.galley.specs.declared.Sofar.{Sofar}
use Rattle.std.specs.declared.ops.ControlFlow.TheVariants.{Break, Continue}

-- A reading with h for its htMin, and a step of reading.
abbrev reading_with : ℕ → Reading → Reading
reading_with h (Ok g) = Ok (with_htmin h g)
reading_with h (Err r) = Err r

abbrev step_with : ℕ → Step → Step
step_with h (Continue so) = Continue so
step_with h (Break reading) = Break (reading_with h reading)

pick_with : (h : ℕ) (b : Bool) (x y : Step) → step_with h (pick b x y) ≡ pick b (step_with h x) (step_with h y)
pick_with h true x y = refl
pick_with h false x y = refl

-- A float's step has no galley.
cited_with : (h : ℕ) (so : Sofar) (cite : ℕ) (next : Sofar) (at : ℕ) → step_with h (cited so cite next at) ≡ cited so cite next at
unfolding cited
cited_with h so cite next at = go (eqb cite 0 || ltb so.lines cite) (ltb cite so.last)
  where
    go : (a b : Bool) → (let step = pick a (refused 6 at) (pick b (refused 7 at) (Continue next)) in step_with h step ≡ step)
    go true b = refl
    go false true = refl
    go false false = refl

module _ {bytes bytes' : List ℕ} (like : Alike bytes bytes') where
  -- A field that stands after htMin is the same,
  word_same : (at : ℕ) → 6 ≤ at → word_at bytes' at ≡ word_at bytes at
  unfolding word_at
  word_same at far =
      let a = like.same at (inr (omega arith)) in
      let b = like.same (at + 1) (inr (omega arith)) in
      let c = like.same (at + 2) (inr (omega arith)) in
      let d = like.same (at + 3) (inr (omega arith)) in
      cc

  -- and so is a mark there,
  mark_same : (at : ℕ) → 6 ≤ at → mark_at bytes' at ≡ mark_at bytes at
  unfolding mark_at
  mark_same at far =
      let a = like.same at (inr (omega arith)) in
      let b = like.same (at + 1) (inr (omega arith)) in
      cc

  -- and the first one.
  first_mark : mark_at bytes' 0 ≡ mark_at bytes 0
  unfolding mark_at
  first_mark = let a = like.same 0 (inl (omega arith)) in let b = like.same 1 (inl (omega arith)) in cc

  record_same : (at : ℕ) → 6 ≤ at → record_at bytes' at ≡ record_at bytes at
  unfolding record_at fields_of
  record_same at far =
      rw (
        like.long,
        mark_same at far,
        word_same (at + 2) (omega arith),
        word_same (at + 6) (omega arith),
        word_same (at + 10) (omega arith),
        word_same (at + 14) (omega arith),
        word_same (at + 18) (omega arith),
        word_same (at + 22) (omega arith),
        word_same (at + 26) (omega arith),
        word_same (at + 30) (omega arith),
      )

  -- The htMin of the second bytes.
  abbrev least : ℕ
  least = word_at bytes' 2

  closed_same : (so : Sofar) → closed bytes' so ≡ step_with least (closed bytes so)
  unfolding closed
  closed_same so =
      rw (
        like.long,
        first_mark,
        word_same 6 (omega arith),
        word_same 10 (omega arith),
        word_same 14 (omega arith),
        word_same 18 (omega arith),
        word_same 22 (omega arith),
        word_same 26 (omega arith),
        word_same 30 (omega arith),
      ) (sym (pick_with least (ltb so.at (length bytes)) _ _))

  after_same : (so : Sofar) (at : ℕ) (r : Read) → after bytes' so at r ≡ step_with least (after bytes so at r)
  unfolding after
  after_same so at (Ok (found.Spec g)) = refl
  after_same so at (Ok (found.Folio f)) = refl
  after_same so at (Ok (found.Line l)) = refl
  after_same so at (Ok (found.Figure f)) = sym (cited_with least so f.cite _ at)
  after_same so at (Ok (found.Table f)) = sym (cited_with least so f.cite _ at)
  after_same so at (Ok found.End) = closed_same so
  after_same so at (Err r) = refl

  -- Past htMin reading goes the same way, and ends with the same galley but for its htMin.
  step_same : (so : Sofar) → 6 ≤ so.at → step_from bytes' so ≡ step_with least (step_from bytes so)
  unfolding step_from
  step_same so far =
      rw (like.long, mark_same so.at far, record_same so.at far, after_same)
      (rw (pick_with least (ltb (length bytes - so.at) 2), pick_with least) refl)

  read_same : (most : ℕ) (so : Sofar) → 6 ≤ so.at → Reached bytes so → read_from bytes' most so ≡ reading_with least (read_from bytes most so)
  unfolding read_from
  read_same zero so far r = refl
  read_same (suc most) so far r =
      ap (settled (read_from bytes' most)) (step_same so far) ∙ go (step_from bytes so) (step_fine bytes so r) (read_same most)
    where
      go : (step : Step) → Fine bytes so step
          → ((next : Sofar) → 6 ≤ next.at → Reached bytes next → read_from bytes' most next ≡ reading_with least (read_from bytes most next))
          → settled (read_from bytes' most) (step_with least step) ≡ reading_with least (settled (read_from bytes most) step)
      go (Continue next) fine on = unfold settled in unfold Fine in on next (omega (arith, fine.0)) fine.1
      go (Break reading) fine on = unfold settled in refl

-- The mark of a specification that was read.
spec_marked : (bytes : List ℕ) (g : Spec) → record_at bytes 0 ≡ Ok (found.Spec g) → mark_at bytes 0 ≡ spec_mark g.edition
unfolding Found
spec_marked bytes g e = (rw e at (found_at bytes 0)).marked

-- Reading goes on after it, past htMin.
begins : (bytes : List ℕ) (g : Galley) → galley_of bytes ≡ Ok g
    → (galley_of bytes ≡ read_from bytes (length bytes) (begun g.spec)) × Reached bytes (begun g.spec)
unfolding galley_of Fine
begins bytes g read =
    let first = spec_first bytes g.spec (sound bytes g read).spec_read in
    (read_on bytes (length bytes) beginning (begun g.spec) first, (rw first at (step_fine bytes beginning (reached_none bytes))).1)

far_begun : (g : Spec) → 6 ≤ (begun g).at
far_begun g = rw (spec_kind g.edition) (let h = spec_large g.edition in omega arith)

module _ {bytes bytes' : List ℕ} (like : Alike bytes bytes') (g g' : Galley) (read : galley_of bytes ≡ Ok g)
    (read' : galley_of bytes' ≡ Ok g') where
  same_begun : begun g'.spec ≡ begun g.spec
  same_begun =
      let a = spec_marked bytes g.spec (sound bytes g read).spec_read in
      let b = spec_marked bytes' g'.spec (sound bytes' g' read').spec_read in
      ap (λ mark. with_folio (moved beginning (kind_of mark)) 1) (sym b ∙ first_mark like ∙ a)

  -- The two galleys that are read differ in their htMin alone.
  pub galleys_alike : g' ≡ with_htmin g'.spec.htmin g
  galleys_alike =
      let e : Ok g' ≡ Ok (with_htmin (word_at bytes' 2) g) =
      sym read' ∙ (begins bytes' g' read').0
      ∙ rw (like.long, same_begun) (read_same like (length bytes) (begun g.spec) (far_begun g.spec) (begins bytes g read).1)
      ∙ ap (reading_with (word_at bytes' 2)) (sym (begins bytes g read).0 ∙ read) in
      let same : g' ≡ with_htmin (word_at bytes' 2) g = cc in
      same ∙ ap (λ h. with_htmin h g) (sym (ap (λ (x : Galley). x.spec.htmin) same))

  -- The text stands past htMin, and so do the other streams.
  far_text : 6 ≤ g.text.first
  far_text = go (opening bytes g read)
    where
      large : 30 ≤ spec_size g.spec.edition
      large = spec_large g.spec.edition

      go : Opening bytes g → 6 ≤ g.text.first
      go (inl o) = omega (arith, large, o.1)
      go (inr o) = omega (arith, large, o.1)

  far_figures : 6 ≤ g.figures.first
  far_figures = omega (arith, far_text, (sound bytes g read).follow)

  far_tables : 6 ≤ g.tables.first
  far_tables = omega (arith, far_figures, (sound bytes g read).follow_tables)

  field_same : (st : Stream) (at : ℕ) → 6 ≤ st.first → field_of bytes' st at ≡ field_of bytes st at
  field_same st at far = fun_ext (λ k. word_same like (offset st k + at) (omega arith))

  legal_same : (st : Stream) → 6 ≤ st.first → legal_of bytes' st ≡ legal_of bytes st
  unfolding legal_of
  legal_same st far =
      fun_ext (λ k.
      rw (mark_same like (offset st k) (omega arith), word_same like (offset st k + legal_at) (omega arith)))

  stream_same : (st : Stream) {cite cite' : ℕ → ℕ} → 6 ≤ st.first → cite' ≡ cite
      → stream_of bytes' st (legal_of bytes' st) cite' ≡ stream_of bytes st (legal_of bytes st) cite
  stream_same st far e =
      let a = field_same st height_at far in
      let b = field_same st least_at far in
      let c = field_same st most_at far in
      let d = legal_same st far in
      λ i. record { size = st.count; ht = a i; least = b i; most = c i; legal = d i; cite = e i }

  streams_same : (h s : ℕ) → streams_of bytes' (with_htmin h g) s ≡ streams_of bytes g s
  streams_same h zero = stream_same g.text far_text refl
  streams_same h (suc zero) = let far = far_figures in stream_same g.figures far (field_same g.figures cite_at far)
  streams_same h (suc (suc s)) = let far = far_tables in stream_same g.tables far (field_same g.tables cite_at far)

  model_same : (h : ℕ) → model_of bytes' (with_htmin h g) ≡ model.with_htmin h (model_of bytes g)
  unfolding float_streams
  model_same h =
      let streams : streams_of bytes' (with_htmin h g) ≡ streams_of bytes g = fun_ext (streams_same h) in
      λ i. record { spec = (model_of bytes (with_htmin h g)).spec; floats = float_streams g; stream = streams i }

  -- So do the two galleys of the page model.
  pub models_alike : model_of bytes' g' ≡ model.with_htmin g'.spec.htmin (model_of bytes g)
  models_alike = ap (model_of bytes') galleys_alike ∙ model_same g'.spec.htmin
