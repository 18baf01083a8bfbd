-- `counted` meets its contract: the first chapter has the weights and the sidedness of all.
use native.Mathlib.Omega.{arith}
use mathlib.Core.Path.{refl}
use Rattle.galley.proofs.laws.Sound.{sound}
use Rattle.course.specs.laws.Course.{one_galley}
use Rattle.book.specs.laws.Count.{count_first}
use Rattle.book.proofs.counted.Goals as goal

pub bytes_of-requires : goal.bytes_of-requires
bytes_of-requires c = let at = count_first c.requires in record { numbered = at.numbered; within = at.within }

pub galley_in-g-requires : goal.galley_in-g-requires
galley_in-g-requires c = let at = count_first c.requires in rw c.bytes_of.ensures (at.galley, at.reads)

pub leaves-y-requires : goal.leaves-y-requires
leaves-y-requires c =
    let s = sound _ _ c.galley_in-g.ensures in
    let pre = c.requires in
    record { opens = omega (arith, s.some_folio); low = omega (arith, s.few_folios); some = pre.pages; few = pre.small.pages }

pub turned-requires : goal.turned-requires
turned-requires c =
    let s = sound _ _ c.galley_in-g.ensures in
    record { alphas = s.spec_ranged.alphas; xs = c.requires.small.x; betas = s.spec_ranged.betas; ys = c.leaves-y.ensures.1 }

pub returns : goal.returns
returns c = λ g e.
    let same = one_galley _ c.galley_in-g.result g (rw c.bytes_of.ensures at c.galley_in-g.ensures) e in
    rw (c.turned.ensures, c.leaves-y.ensures.0, same) refl
