-- The figures that wait at a place of a galley that reads without refusal: document 02, S-2.
use Rattle.std.specs.Prelude.{ℕ, ◌-◌, ◌≤◌, ◌≡◌, List, Ok}
use Rattle.std.proofs.Common.{sym, ◌∙◌}
use Rattle.std.proofs.Math.Path.{ap, subst}
use Rattle.model.specs.Galley as model
use Rattle.galley.specs.declared.Galley.{Galley}
use Rattle.galley.specs.Whole.{galley_of}
use Rattle.galley.specs.Model.{model_of}
use Rattle.rules.specs.Waiting.{waiting_floats, waits, EachOnce}
use Rattle.promises.specs.Waiting.{next, met_next, waiting_stream}

module _ (bytes : List ℕ) (g : Galley) (read : galley_of bytes ≡ Ok g) where
  -- So the number that `waiting_floats` returns tells the list: that many floats from j + 1 on are each of those, once, and no other.
  pub waiting_told : (s : ℕ) → 1 ≤ s → s ≤ (model_of bytes g).floats → (i j : ℕ) → j ≤ ((model_of bytes g).stream s).size
      → (r : ℕ) → r ≡ waits ((model_of bytes g).stream s) i j → EachOnce ((model_of bytes g).stream s) i j (next j r)
  unfolding waiting_floats
  waiting_told s h l i j within r is =
      let st : model.Stream = (model_of bytes g).stream s in
      subst (EachOnce st i j) (met_next st i (st.size - j) j ∙ ap (next j) (sym is)) (waiting_stream bytes g read s h l i j within)
