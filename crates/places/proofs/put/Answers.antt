-- `put` meets its contract: word by word the row is pasted over what was there, and that is what the stores of its words leave.
use Prim.Native.Nat.{ℕ, ◌+◌}
use native.Mathlib.Omega.{arith}
use mathlib.Core.Path.{◌≡◌, ap, ◌∙◌}
use mathlib.Core.List.{List}
use lib.ListN.{length, set, get_or}
use Rattle.std.proofs.lemmas.List.Edits.{paste_more}
use Rattle.places.proofs.laws.Stored.{pasted_sets}
use Rattle.places.proofs.put.Goals as goal

pub loop-k-preserved : goal.loop-k-preserved
loop-k-preserved g c =
    let st = c.loop-k in
    let at = c.args.at in
    let size : length c.args.row ≡ g.row.N = omega arith in
    ap (λ (l : List ℕ). set l (at + st.k) (get_or c.args.row st.k 0)) st.invariant ∙ paste_more c.args.words.now at c.args.row st.k 0 (omega arith) (omega arith)

pub returns : goal.returns
returns g c =
    let st = c.loop-k in
    let at = c.args.at in
    let size : length c.args.row ≡ g.row.N = omega arith in
    let done : st.k ≡ length c.args.row = omega arith in
    st.invariant ∙ pasted_sets c.args.words.now c.args.row at st.k done (omega arith)
