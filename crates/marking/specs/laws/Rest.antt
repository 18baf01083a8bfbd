-- The pages of a list of words, taken off one by one.
use Prim.Native.Nat.{ℕ, suc, ◌+◌, ◌-◌, ◌*◌, ◌≤◌, ◌<◌}
use Rattle.std.proofs.Common.{mul-add, mul-one, mul-le-mul_left, ◌∙◌, ap}
use native.Mathlib.Omega.{arith}
use Rattle.std.specs.Prelude.{◌≡◌, List, [], ◌∷◌, length}
use Rattle.std.proofs.Math.Seq.{drop-drop}
use Rattle.model.specs.Answers.{chunks, pages_of}
use Rattle.galley.specs.declared.Galley.{Galley}
use Rattle.galley.specs.Model.{model_of}
use Rattle.blocks.specs.Counts.{page_words, place_of, counts_in}
use Rattle.blocks.specs.laws.Counts.{streams_of_lem, take_of}
use Rattle.marking.specs.Parts.{pages_in, rest}

-- At first all pages are left.
pub rest_all : (bytes : List ℕ) (g : Galley) (ws : List ℕ) → rest ws (page_words g) (pages_in g ws) 0 ≡ pages_of (model_of bytes g) ws
unfolding rest pages_of
rest_all bytes g ws =
    let e : pages_in g ws - 0 ≡ pages_in g ws = omega arith in
    let z : page_words g * 0 ≡ 0 = omega arith in
    rw (e, z, streams_of_lem g bytes)

-- At last none is.
pub rest_none : (ws : List ℕ) (k pages : ℕ) → rest ws k pages pages ≡ []
unfolding rest chunks
rest_none ws k pages = let e : pages - pages ≡ 0 = omega arith in rw e

module _ (g : Galley) (ws : List ℕ) (pages done : ℕ) (whole : length ws ≡ page_words g * pages) (more : done < pages) where
  next : page_words g * (done + 1) ≡ page_words g * done + page_words g
  next = mul-add (page_words g) done 1 ∙ ap (λ n. page_words g * done + n) (mul-one (page_words g))

  -- The words of the next page are there.
  pub rest_long : page_words g * done + page_words g ≤ length ws
  rest_long =
      let up : page_words g * (done + 1) ≤ page_words g * pages = mul-le-mul_left (page_words g) (omega arith) in
      omega (arith, next)

  -- It takes them off.
  pub rest_next : rest ws (page_words g) pages done
      ≡ place_of g (counts_in g ws (page_words g * done)) ∷ rest ws (page_words g) pages (done + 1)
  unfolding rest chunks
  rest_next =
      let e : pages - done ≡ suc (pages - (done + 1)) = omega arith in
      rw (e, take_of g ws (page_words g * done) rest_long, drop-drop (page_words g) (page_words g * done) ws, next)
