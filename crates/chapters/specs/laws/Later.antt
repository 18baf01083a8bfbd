-- What is known of a later chapter that was taken: it reads, its specification is the first chapter's, and it names no folio.
use Rattle.std.specs.Prelude.{ℕ, zero, suc, ◌+◌, ◌<◌, Bool, true, false, ◌&&◌, List, [], ◌∷◌, ◌≡◌, refl, length, get_or, drop, eqb, Err, Ok}
use Rattle.std.proofs.Common.{arith, sym, ap, subst, inl, inr, eqb-true, ltb-false}
use Rattle.std.proofs.Math.Seq.{slice}
use Rattle.model.specs.Gather.{pick}
use Rattle.model.proofs.laws.Gather.{and_left, and_right}
use Rattle.galley.specs.declared.Spec.{Spec}
use Rattle.galley.specs.declared.Galley.{Galley}
use Rattle.galley.specs.Place.{spec_size}
use Rattle.galley.specs.Sound.{Opening}
use Rattle.galley.specs.Whole.{galley_of, Reading}
use Rattle.galley.proofs.laws.Sound.{opening}
use Rattle.chapters.specs.Book.{Chapter, Outcome, read, refused, chapters_in, all_bytes, alike, has_folio, before, later, later_from, chapter_start}

-- What was read is not refused, and is what it is.
pub unread : {A : Type 0} {number place : ℕ} {cs : List Chapter} → refused number place ≡ read cs → A
unread e = let z : ◌≡◌ {A = ℕ} 0 1 = ap kind e in absurd (omega arith)
  where
    kind : Outcome → ℕ
    kind (refused number place) = 0
    kind (read cs) = 1

pub chapters_read : {o : Outcome} {cs : List Chapter} → o ≡ read cs → chapters_in o ≡ cs
unfolding chapters_in
chapters_read e = ap chapters_in e

pub read_same : {cs ds : List Chapter} → read cs ≡ read ds → cs ≡ ds
unfolding chapters_in
read_same e = chapters_read e

-- A chapter was taken only where the rest was.
pub before_read : (c : Chapter) (rest : Outcome) (cs : List Chapter) → before c rest ≡ read cs
    → (ds : List Chapter) × (rest ≡ read ds) × (cs ≡ c ∷ ds)
unfolding before
before_read c (read ds) cs e = (ds, refl, sym (read_same e))
before_read c (refused number place) cs e = unread e

-- Specifications that are alike are the same.
pub spec_same : (g h : Spec) → alike g h ≡ true → h ≡ g
unfolding alike
spec_same g h all =
    let j = eqb g.lastmin h.lastmin in
    let i = eqb g.edition h.edition && j in
    let f = eqb g.beta h.beta && i in
    let e = eqb g.alpha h.alpha && f in
    let d = eqb g.sides h.sides && e in
    let c = eqb g.smax h.smax && d in
    let b = eqb g.smin h.smin && c in
    let a = eqb g.htmax h.htmax && b in
    let p = eqb-true g.htmin h.htmin (and_left (eqb g.htmin h.htmin) a all) in
    let a! = and_right (eqb g.htmin h.htmin) a all in
    let q = eqb-true g.htmax h.htmax (and_left (eqb g.htmax h.htmax) b a!) in
    let b! = and_right (eqb g.htmax h.htmax) b a! in
    let r = eqb-true g.smin h.smin (and_left (eqb g.smin h.smin) c b!) in
    let c! = and_right (eqb g.smin h.smin) c b! in
    let s = eqb-true g.smax h.smax (and_left (eqb g.smax h.smax) d c!) in
    let d! = and_right (eqb g.smax h.smax) d c! in
    let t = eqb-true g.sides h.sides (and_left (eqb g.sides h.sides) e d!) in
    let e! = and_right (eqb g.sides h.sides) e d! in
    let u = eqb-true g.alpha h.alpha (and_left (eqb g.alpha h.alpha) f e!) in
    let f! = and_right (eqb g.alpha h.alpha) f e! in
    let v = eqb-true g.beta h.beta (and_left (eqb g.beta h.beta) i f!) in
    let i! = and_right (eqb g.beta h.beta) i f! in
    let w = eqb-true g.edition h.edition (and_left (eqb g.edition h.edition) j i!) in
    let j! = and_right (eqb g.edition h.edition) j i! in
    let x = eqb-true g.lastmin h.lastmin j! in
    rw (p, q, r, s, t, u, v, w, x) refl

-- A galley that has no `FO` opens on folio 1.
pub unnumbered : (bytes : List ℕ) (g : Galley) → galley_of bytes ≡ Ok g → has_folio g ≡ false → g.folio ≡ 1
unfolding has_folio
unnumbered bytes g e none = go (opening bytes g e)
  where
    go : Opening bytes g → g.folio ≡ 1
    go (inl o) = o.0
    go (inr o) = let h = ltb-false (spec_size g.spec.edition) g.text.first none in absurd (omega (arith, o.1))

-- What is known of a later chapter of these bytes, in a book whose first chapter has this specification.
pub record Later (bytes : List ℕ) (first : Spec) (c : Chapter) : Type 0 where
  pub is : c.bytes ≡ bytes
  pub reads : galley_of bytes ≡ Ok c.galley
  pub spec : c.galley.spec ≡ first
  pub folio : c.galley.folio ≡ 1

-- What is known where a later chapter was taken and the rest gave this.
pub record Taken (bytes : List ℕ) (first : Spec) (rest : Outcome) (cs : List Chapter) : Type 0 where
  pub chapter : Chapter
  pub others : List Chapter
  pub known : Later bytes first chapter
  pub rested : rest ≡ read others
  pub all : cs ≡ chapter ∷ others

-- A later chapter was taken only where it reads and is fit, and the rest was taken.
later_read : (bytes : List ℕ) (first : Spec) (k : ℕ) (rest : Outcome) (cs : List Chapter) → later first k bytes (galley_of bytes) rest ≡ read cs
    → Taken bytes first rest cs
unfolding later
later_read bytes first k rest cs = go (galley_of bytes) refl
  where
    fit : (g : Galley) → galley_of bytes ≡ Ok g → (a b : Bool) → alike first g.spec ≡ a → has_folio g ≡ b
        → pick a (pick b (refused 30 k) (before (record { bytes = bytes; galley = g }) rest)) (refused 29 k) ≡ read cs
        → Taken bytes first rest cs
    fit g e true true a b h = unread h
    fit g e false b i j h = unread h
    fit g e true false a b h =
        let t = before_read (record { bytes = bytes; galley = g }) rest cs h in
        record {
          chapter = record { bytes = bytes; galley = g };
          others = t.0;
          known = record { is = refl; reads = e; spec = spec_same first g.spec a; folio = unnumbered bytes g e b };
          rested = t.1;
          all = t.2;
        }

    go : (r : Reading) → galley_of bytes ≡ r → later first k bytes r rest ≡ read cs → Taken bytes first rest cs
    go (Err r) e h = unread h
    go (Ok g) e h = fit g e (alike first g.spec) (has_folio g) refl refl h

-- Chapter j, from 0, of some that were taken, whose bytes begin at an offset.
pub record LaterAt (bytes : List ℕ) (first : Spec) (at : ℕ) (lengths : List ℕ) (cs : List Chapter) (j : ℕ) : Type 0 where
  pub chapter : Chapter
  pub there : drop j cs ≡ chapter ∷ drop (suc j) cs
  pub known : Later (slice (at + chapter_start lengths j) (at + chapter_start lengths j + get_or lengths j 0) bytes) first chapter

-- The first of some, or one of the others.
later_next : (bytes : List ℕ) (first : Spec) (at n : ℕ) (ns : List ℕ) (c : Chapter) (ds : List Chapter)
    → Later (slice at (at + n) bytes) first c → ((j : ℕ) → j < length ns → LaterAt bytes first (at + n) ns ds j)
    → (j : ℕ) → j < suc (length ns) → LaterAt bytes first at (n ∷ ns) (c ∷ ds) j
unfolding all_bytes
later_next bytes first at n ns c ds this rest zero h =
    let z : at ≡ at + 0 = omega arith in
    record { chapter = c; there = refl; known = subst (λ a. Later (slice a (a + n) bytes) first c) z this }
later_next bytes first at n ns c ds this rest (suc j) h =
    let r = rest j (omega arith) in
    let z : at + n + chapter_start ns j ≡ at + (n + chapter_start ns j) = omega arith in
    record {
      chapter = r.chapter;
      there = r.there;
      known = subst (λ a. Later (slice a (a + get_or ns j 0) bytes) first r.chapter) z r.known;
    }

-- So it is of every later chapter, in order, and there is one for each length.
pub record AllLater (bytes : List ℕ) (first : Spec) (at : ℕ) (lengths : List ℕ) (cs : List Chapter) : Type 0 where
  pub many : length cs ≡ length lengths
  pub each : (j : ℕ) → j < length lengths → LaterAt bytes first at lengths cs j

all_next : (bytes : List ℕ) (first : Spec) (at n : ℕ) (ns : List ℕ) (c : Chapter) (ds : List Chapter)
    → Later (slice at (at + n) bytes) first c → AllLater bytes first (at + n) ns ds → AllLater bytes first at (n ∷ ns) (c ∷ ds)
all_next bytes first at n ns c ds this rest =
    record { many = ap suc rest.many; each = later_next bytes first at n ns c ds this rest.each }

pub later_at : (bytes : List ℕ) (first : Spec) (k at : ℕ) (lengths : List ℕ) (cs : List Chapter) → later_from bytes first k at lengths ≡ read cs
    → AllLater bytes first at lengths cs
unfolding later_from
later_at bytes first k at [] cs e = record { many = sym (ap length (read_same e)); each = λ j h. absurd (omega arith) }
later_at bytes first k at (n ∷ ns) cs e =
    let t = later_read (slice at (at + n) bytes) first (k + 1) (later_from bytes first (k + 1) (at + n) ns) cs e in
    subst (AllLater bytes first at (n ∷ ns)) (sym t.all)
    (all_next bytes first at n ns t.chapter t.others t.known (later_at bytes first (k + 1) (at + n) ns t.others t.rested))
