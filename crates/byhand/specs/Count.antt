-- A loop that counts from 0 to n, in a walk by hand: it is enough to walk a turn before the last, which goes on one further,
-- and the last, which leaves the loop.
use Rattle.std.specs.Prelude.{◌≡◌, List}
use Rattle.std.proofs.Common.{sym, subst, ◌∙◌, add-zero, zero-add, arith}
use Prim.Native.Nat.{ℕ, zero, suc, ◌+◌, ◌<◌}
use lib.WfN.{lt-wf_rel}
use seplogic.Ra.Ura.{Ura}
use mir.Syntax.{Body, loop}
use base.Logic.{SProp, ent, ex, guard, via, ex_i, ex_e, guard_i, guard_e}
use prog.Model.{Model}
use prog.Routine.{Env as Routines}
use prog.Wp.{Env, Out, Wp, after_turn}
use sound.Loop.{loop_rule}
use types.Logic.{Logic}
use contract.Running.{Running, tables, tables_of}
use types.Kit.{Item, ⋆}

module _ {M : Type 1} {𝓤 : Ura M} (𝓛 : Logic 𝓤) (𝓜 : Model 𝓤 𝓛.H) (𝓡 : Running 𝓤 𝓛.H 𝓜) (γ : Routines) where
  open 𝓛 use {H}
  open tables 𝓤 H 𝓜 𝓡 γ use {C, Λ}

  -- What is had before turn i, and what is known of i. `Left` is what is due where the loop is left.
  module _ (E : Env 𝓤 H) (turn : Body) (Left : Out → SProp 𝓤) (n : ℕ) (At : ℕ → List (Item 𝓤)) (Good : ℕ → Type 0) where
    abbrev Had : ℕ → SProp 𝓤
    Had i = ⋆ 𝓛 (At i)

    -- a turn from i that goes on to what is due after it, or leaves
    abbrev pub Turn : ℕ → SProp 𝓤 → Type 1
    Turn i after = ent 𝓤 (Had i) (Wp 𝓤 H C Λ E turn (after_turn 𝓤 H after Left))

    module _ (more : (i : ℕ) (after : SProp 𝓤) → i < n → Good i → (Good (suc i) → ent 𝓤 (Had (suc i)) after) → Turn i after)
        (last : (after : SProp 𝓤) → Good n → Turn n after) where
      -- t turns before the last are to go
      abbrev Facts : ℕ → ℕ → Type 0
      Facts t i = (i + t ≡ n) × Good i

      abbrev Inv : ℕ → SProp 𝓤
      Inv t = ex 𝓤 (λ (i : ℕ). guard 𝓤 (Facts t i) (Had i))

      inv : (t i : ℕ) → Facts t i → ent 𝓤 (Had i) (Inv t)
      inv t i f = via 𝓤 (guard 𝓤 (Facts t i) (Had i)) (guard_i 𝓤 (Facts t i) (Had i) f) (ex_i 𝓤 (λ (j : ℕ). guard 𝓤 (Facts t j) (Had j)) i)

      abbrev Below : ℕ → SProp 𝓤
      Below t = ex 𝓤 (λ (u : ℕ). guard 𝓤 (u < t) (Inv u))

      -- a turn leaves the loop, or ends in the invariant with one turn fewer to go
      turn_at : (t i : ℕ) → Facts t i → Turn i (Below t)
      turn_at zero i f =
          let e : i ≡ n = sym (add-zero i) ∙ f.0 in
          subst (λ (j : ℕ). Good j → Turn j (Below zero)) (sym e) (last (Below zero)) f.1
      turn_at (suc t) i f =
          let e : i + suc t ≡ n = f.0 in
          let small : i < n = omega (arith, e) in
          let left : suc i + t ≡ n = omega (arith, e) in
          let less : t < suc t = omega arith in
          more i (Below (suc t)) small f.1 (λ g.
          via 𝓤 (Inv t) (inv t (suc i) (left, g))
          (via 𝓤 (guard 𝓤 (t < suc t) (Inv t)) (guard_i 𝓤 (t < suc t) (Inv t) less) (ex_i 𝓤 (λ (u : ℕ). guard 𝓤 (u < suc t) (Inv u)) t)))

      turns : (t : ℕ) → ent 𝓤 (Inv t) (Wp 𝓤 H C Λ E turn (after_turn 𝓤 H (Below t) Left))
      turns t = ex_e 𝓤 (λ (i : ℕ). guard 𝓤 (Facts t i) (Had i)) (λ i. guard_e 𝓤 (Facts t i) (Had i) (λ f. turn_at t i f))

      pub counted : Good 0 → ent 𝓤 (Had 0) (Wp 𝓤 H C Λ E (loop turn) Left)
      unfolding tables_of
      counted g =
          via 𝓤 (Inv n) (inv n 0 (zero-add n, g))
          (loop_rule 𝓤 H 𝓛.laws (tables_of 𝓤 H 𝓜 (tables 𝓤 H 𝓜 𝓡 γ)) ◌<◌ lt-wf_rel.wf E turn Left Inv turns n)
