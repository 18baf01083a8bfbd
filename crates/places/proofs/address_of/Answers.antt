-- `address_of` meets its contract: it computes the definition, and the product of two numbers within the limits is small.
use borrow.Author.Rules.{rules}
use Rattle.places.specs.Address.{address}
use Rattle.places.proofs.address_of.Goals as goal

pub returns : goal.returns
unfolding address
returns c = search rules
