-- Loosening the least fill, without an opening (document 02, S-14): apart from the case with one, since it rests on it.
use Rattle.std.specs.Prelude.{ℕ, ◌≤◌, ◌≡◌, List, [], Ok}
use Rattle.galley.specs.declared.Galley.{Galley}
use Rattle.galley.specs.Whole.{galley_of}
use Rattle.galley.specs.Alike.{Alike}
use Rattle.needs.specs.Needs.{work_needed, list_needed}
use Rattle.making.specs.Make.{make_of}
use Rattle.promises.specs.Loosening.{Loosens, after_nothing}
use Rattle.promises.proofs.Loosening.{making_loosened}

-- Two galleys that are read from bytes alike in all but htMin, which is no higher in the second.
module _ {bytes bytes' : List ℕ} (like : Alike bytes bytes') (g g' : Galley) (read : galley_of bytes ≡ Ok g)
    (read' : galley_of bytes' ≡ Ok g') (low : g'.spec.htmin ≤ g.spec.htmin) where
  module _ (work list work' list' : ℕ) (enough : work_needed g' ≤ work') (room : list_needed g' ≤ list') where
    -- Making without an opening is the case of the empty one.
    pub making_loosened_whole : Loosens (make_of bytes work list) (make_of bytes' work' list')
    making_loosened_whole = rw (after_nothing bytes g read work list, after_nothing bytes' g' read' work' list') at (making_loosened like g g' read read' low work list work' list' enough room [])
