-- `chapter_weighed` meets its contract: what is weighed from nothing placed on is all that is weighed.
use Rattle.galley.proofs.laws.Sound.{sound}
use Rattle.course.specs.laws.Weighed.{none_within, chapter_weighed}
use Rattle.course.proofs.weighed.chapter_weighed.Goals as goal

pub weighed-requires : goal.weighed-requires
weighed-requires c = (sound _ _ c.galley_in-g.ensures, none_within _)

pub returns : goal.returns
returns c = chapter_weighed _ _ _ c.galley_in-g.ensures c.weighed.ensures
