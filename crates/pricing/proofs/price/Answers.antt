-- `price` meets its contract: by the tests on the way each answer is the case of the price for them, and the limits on the
-- weights keep it within a word.
use Rattle.pricing.specs.laws.Price.{price_of_lem}
use Rattle.pricing.proofs.price.Goals as goal

pub returns-then-last : goal.returns-then-last
returns-then-last c =
    λ bytes at side proper sane last turns found.
    let a = c.args in
    let law = price_of_lem bytes a.g at side proper sane a.waiting found a.last a.turns last turns in
    rw (law, c.if-last.true)

pub returns-then-not-turns : goal.returns-then-not-turns
returns-then-not-turns c =
    λ bytes at side proper sane last turns found.
    let a = c.args in
    let law = price_of_lem bytes a.g at side proper sane a.waiting found a.last a.turns last turns in
    rw (law, c.if-last.false, c.if-not-turns.true)

pub returns : goal.returns
returns c =
    λ bytes at side proper sane last turns found.
    let a = c.args in
    let law = price_of_lem bytes a.g at side proper sane a.waiting found a.last a.turns last turns in
    rw (law, c.if-last.false, c.if-not-turns.false)
