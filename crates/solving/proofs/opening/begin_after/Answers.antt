-- `begin_after` meets its contract: what turns the opening away, or the origin that it leads to.
use mathlib.Core.Path.{◌≡◌, ◌∙◌, sym}
use Rattle.solving.specs.laws.Begun.{ends_limits, ends_opened}
use Rattle.solving.proofs.opening.begin_after.Goals as goal

pub origin_after-requires : goal.origin_after-requires
origin_after-requires c = ends_limits c.requires c.in_ok-ends.ensures

pub returns : goal.returns
returns c =
    record {
      turned = c.in_ok-ends.ensures.told;
      opened = λ from e.
          let is : c.origin_after.result ≡ from = cc in
          ends_opened c.requires c.in_ok-ends.ensures from (sym is ∙ c.origin_after.ensures);
    }
