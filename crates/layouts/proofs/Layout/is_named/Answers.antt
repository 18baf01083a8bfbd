-- `is_named` meets its contract. The invariant: the bytes before number `i` are the same, so that the rest decides.
use Rattle.std.proofs.Common.{◌≡◌, ◌<◌, length, arith, eq-eqb, ne_eqb}
use Rattle.std.proofs.Math.Bool.{and-false}
use borrow.Author.Rules.{rules}
use Rattle.layouts.specs.Names.{is_named}
use Rattle.layouts.specs.laws.Names.{match_starts, match_differs, match_goes_on, match_ends, longer_differs}
use Rattle.layouts.proofs.Layout.is_named.Goals as goal
use Rattle.layouts.proofs.Layout.is_named.Goals.{then-self-name-via-then-self-name, then-self-name-via-else-self-name+then-name-gt16}

pub returns-then-self-name : goal.returns-then-self-name
unfolding is_named
returns-then-self-name c =
    let layout = c.args.self.now in
    let name = c.args.name.now in
    elim c.then-self-name.branch [
      | then-self-name-via-then-self-name w ↦ simp (ne_eqb layout.len (length name) (λ e. omega (arith, w.if-self-name.true)))
      | then-self-name-via-else-self-name+then-name-gt16 w ↦
          let long : length layout.name ≡ 16 = search rules in
          let longer : length layout.name < length name = omega (arith, w.if-name-gt16.true) in
          simp (longer_differs layout.name name longer, and-false)
    ]

pub loop-i-init : goal.loop-i-init
loop-i-init c =
    let long : length c.args.self.now.name ≡ 16 = search rules in
    match_starts _ _ (omega (arith, c.if-name-gt16.false))

pub returns-then-self-i : goal.returns-then-self-i
unfolding is_named
returns-then-self-i c =
    simp (eq-eqb _ _ c.if-self-name.false, match_differs _ _ c.loop-i.invariant c.loop-i-test.true c.if-self-i.true)

pub loop-i-preserved : goal.loop-i-preserved
loop-i-preserved c = match_goes_on _ _ c.loop-i.invariant c.loop-i-test.true c.if-self-i.false

pub returns : goal.returns
unfolding is_named
returns c =
    simp (eq-eqb _ _ c.if-self-name.false, match_ends _ _ c.loop-i.invariant c.loop-i-test.false)
