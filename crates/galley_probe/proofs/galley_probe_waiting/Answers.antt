-- `galley_probe::galley_probe_waiting` meets its contract. Each return is the case of `waiting_of` for it; the number fits, since no
-- more floats wait than there are.
use Prim.Native.Nat.{◌≤◌}
use mathlib.Core.Path.{sym, ◌∙◌}
use native.Mathlib.Omega.{arith}
use Rattle.galley.specs.Model.{floats_of}
use Rattle.galley.specs.Sound.{SoundStream}
use Rattle.galley.proofs.laws.Sound.{sound}
use Rattle.rules.specs.laws.Waiting.{waits_end, waits_few}
use Rattle.galley_probe.specs.Words.{waiting_of}
use Rattle.galley_probe.specs.laws.Stream.{stream_sound}
use Rattle.galley_probe.proofs.galley_probe_waiting.Goals as goal
use Rattle.galley_probe.proofs.galley_probe_waiting.Goals.{After-stream_at-floats}

-- The stream is sound, since a galley that reads is.
fine : (c : After-stream_at-floats)
    → let floats = c.stream_at-floats.result in
    SoundStream c.args.bytes.now floats × (floats.count ≤ 4000)
fine c =
    let a = c.args in
    rw c.stream_at-floats.ensures
    (stream_sound a.bytes.now _ a.number (sound _ _ (sym c.read_galley.ensures ∙ c.in-Ok.is)))

pub returns-then-floats-j : goal.returns-then-floats-j
unfolding waiting_of
returns-then-floats-j c =
    let a = c.args in
    let none = waits_end (floats_of a.bytes.now c.stream_at-floats.result) a.i a.j (omega (arith, c.if-floats-j.true)) in
    simp (
      sym c.read_galley.ensures ∙ c.in-Ok.is,
      ← c.stream_at-floats.ensures,
      none,
    )

pub overflow_cast-result : goal.overflow_cast-result
overflow_cast-result c =
    let a = c.args in
    let few = waits_few (floats_of a.bytes.now c.stream_at-floats.result) a.i a.j in
    omega (arith, few, c.waiting_floats.ensures, (fine (goal.at.overflow_cast-result c).After-stream_at-floats).1)

pub known_from-known-requires : goal.known_from-known-requires
known_from-known-requires c = ((fine (goal.at.known_from-known-requires c).After-stream_at-floats).0, c.if-floats-j.false)

pub waiting_floats-requires : goal.waiting_floats-requires
waiting_floats-requires c = c.known_from-known.ensures
