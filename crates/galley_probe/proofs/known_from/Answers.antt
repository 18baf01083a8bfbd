-- `galley_probe::known_from` meets its contract. What a walk for an earlier line finds is cited by line i or earlier too.
use native.Mathlib.Omega.{arith}
use Rattle.rules.specs.laws.Walked.{walked_none, walked_here, walked_on}
use Rattle.galley_probe.proofs.known_from.Goals as goal

pub waiting_floats-requires : goal.waiting_floats-requires
waiting_floats-requires c =
    walked_none c.requires.0 c.args.earlier c.args.j c.requires.1

pub returns-then-earlier-i : goal.returns-then-earlier-i
returns-then-earlier-i c =
    let a = c.args in
    let found = c.waiting_floats in
    walked_on (walked_here c.requires.0 a.earlier a.j found.result c.requires.1 found.ensures) a.i a.j
    found.result c.if-earlier-i.true (omega arith) c.requires.1 (omega arith)

pub returns : goal.returns
returns c =
    walked_none c.requires.0 c.args.i c.args.j c.requires.1
