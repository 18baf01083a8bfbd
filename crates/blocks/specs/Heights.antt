-- The heights of a page, block by block (paper, section 2, on white space; document 01, "One page").
use Rattle.std.specs.Prelude.{ℕ, ◌+◌, ◌*◌, ◌≤◌, Bool, true, List, ◌≡◌, ltb, leb}
use Rattle.model.specs.Gather.{pick}
use Rattle.model.specs.Height.{stacked}
use Rattle.model.specs.Galley as model
use Rattle.galley.specs.declared.Spec.{Spec}
use Rattle.galley.specs.declared.Stream.{Stream}
use Rattle.galley.specs.Record.{height_at, least_at, most_at}
use Rattle.galley.specs.Block.{field_of}
use Rattle.galley.specs.Sound.{SoundStream}
use Rattle.blocks.specs.declared.heights.Heights.{Heights}

-- The heights of a page that has nothing.
abbrev pub no_heights : Heights
no_heights = record { tight = 0; loose = 0 }

-- The heights with n separations more, each at its least and at its greatest: one for each kind beyond the first (document 02, S-4).
abbrev pub separated : Spec → ℕ → Heights → Heights
separated spec n h = record { tight = h.tight + n * spec.smin; loose = h.loose + n * spec.smax }

-- What block k adds: its own height, and the space after block `gap`, of the field at `at`, where that is on the page.
unfoldable pub added : List ℕ → Stream → ℕ → ℕ → ℕ → Bool → ℕ
added bytes stream at k gap spaced = field_of bytes stream height_at k + pick spaced (field_of bytes stream at gap) 0

-- The heights with block k more, at least and at greatest spaces.
unfoldable pub put_on : List ℕ → Stream → Heights → ℕ → ℕ → Bool → Heights
put_on bytes stream h k gap spaced =
    record {
      tight = h.tight + added bytes stream least_at k gap spaced;
      loose = h.loose + added bytes stream most_at k gap spaced;
    }

-- Going forward: blocks a + 1 to k with block k + 1, and with the space before it where that is on the page.
abbrev pub with_block : List ℕ → Stream → Heights → ℕ → ℕ → Heights
with_block bytes stream h a k = put_on bytes stream h (k + 1) k (ltb a k)

-- Going back: blocks a + 2 to b with block a + 1, and with the space after it where that is on the page; past b there is none.
abbrev pub block_before : List ℕ → Stream → Heights → ℕ → ℕ → Heights
block_before bytes stream h a b = pick (leb b a) h (put_on bytes stream h (a + 1) (a + 1) (ltb (a + 1) b))

-- Heights that have room for one of the stream's blocks up to a last one.
pub record Room (bytes : List ℕ) (stream : Stream) (h : Heights) (last : ℕ) : Type 0 where
  pub sound : SoundStream bytes stream
  pub within : last ≤ stream.count
  pub tight : h.tight ≤ 4000000000
  pub loose : h.loose ≤ 4000000000

-- Heights that have room for block k, and a space after block `gap` where that is on the page.
pub record Joint (bytes : List ℕ) (stream : Stream) (h : Heights) (k gap : ℕ) (spaced : Bool) : Type 0 where
  pub room : Room bytes stream h k
  pub some : 1 ≤ k
  pub space : spaced ≡ true → (1 ≤ gap) × (gap ≤ stream.count)

-- Heights and separations, of at most four kinds, whose sum is a word.
pub record Separable (spec : Spec) (n : ℕ) (h : Heights) : Type 0 where
  pub few : n ≤ 3
  pub smin : spec.smin ≤ 100000
  pub smax : spec.smax ≤ 100000
  pub tight : h.tight ≤ 1000000000
  pub loose : h.loose ≤ 1000000000

-- h is the height of blocks a + 1 to b of a stream of the page model, at least and at greatest spaces.
pub record Stacked (st : model.Stream) (a b : ℕ) (h : Heights) : Type 0 where
  pub tight : h.tight ≡ stacked st st.least a b
  pub loose : h.loose ≡ stacked st st.most a b
