-- `copy_list` meets its contract: both lists have 192 words.
use Rattle.std.proofs.Common.{◌≡◌, ◌∙◌, drop, arith}
use Rattle.std.proofs.lemmas.List.{take_all, append-nil}
use Rattle.std.proofs.Math.Seq.{drop-length}
use mathlib.Core.List.{[]}
use Rattle.desk.proofs.copy_list.Goals as goal

pub returns : goal.returns
returns c =
    let from = c.args.from.now in
    let whole = take_all 192 from (omega (arith, c.told-from)) in
    let none : drop 192 c.args.into.now ≡ [] = rw c.told-into at (drop-length c.args.into.now) in
    c.copy_words.ensures ∙ rw (whole, none) (append-nil from)
