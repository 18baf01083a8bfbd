-- Every later chapter of a book that was read states no folio, so that one can be put in.
use Rattle.std.specs.Prelude.{ℕ, ◌+◌, ◌≡◌, refl, Bool, true, false, List, [], ◌∷◌, Err, Ok}
use Rattle.std.proofs.Common.{sym, subst}
use Rattle.std.proofs.Math.Seq.{slice}
use Rattle.model.specs.Gather.{pick}
use Rattle.galley.specs.declared.Spec.{Spec}
use Rattle.galley.specs.declared.Galley.{Galley}
use Rattle.galley.specs.Whole.{galley_of, Reading}
use Rattle.chapters.specs.Book.{Chapter, Outcome, read, refused, adds_up, alike, has_folio, before, later, later_from, first_of, chapters_of, book_of}
use Rattle.chapters.specs.laws.Later.{unread, read_same, before_read}

-- A chapter's bytes hold its galley, which has no `FO`.
pub record Plain (c : Chapter) : Type 0 where
  pub reads : galley_of c.bytes ≡ Ok c.galley
  pub none : has_folio c.galley ≡ false

abbrev pub AllPlain : List Chapter → Type 0
AllPlain [] = Unit {0}
AllPlain (c ∷ cs) = Plain c × AllPlain cs

-- A later chapter that was taken, before those after it.
plain_before : (first : Spec) (k : ℕ) (bytes : List ℕ) (rest : Outcome) (cs : List Chapter) → ((ds : List Chapter) → rest ≡ read ds → AllPlain ds)
    → later first k bytes (galley_of bytes) rest ≡ read cs → AllPlain cs
unfolding later
plain_before first k bytes rest cs after = go (galley_of bytes) refl
  where
    fit : (g : Galley) → galley_of bytes ≡ Ok g → (a b : Bool) → has_folio g ≡ b
        → pick a (pick b (refused 30 k) (before (record { bytes = bytes; galley = g }) rest)) (refused 29 k) ≡ read cs → AllPlain cs
    fit g e true true b h = unread h
    fit g e false b c h = unread h
    fit g e true false b h =
        let (ds, is, all) = before_read (record { bytes = bytes; galley = g }) rest cs h in
        subst (λ l. AllPlain l) (sym all) (record { reads = e; none = b }, after ds is)

    go : (r : Reading) → galley_of bytes ≡ r → later first k bytes r rest ≡ read cs → AllPlain cs
    go (Err r) e h = unread h
    go (Ok g) e h = fit g e (alike first g.spec) (has_folio g) refl h

plain_later : (bytes : List ℕ) (first : Spec) (k at : ℕ) (lengths : List ℕ) (cs : List Chapter) → later_from bytes first k at lengths ≡ read cs
    → AllPlain cs
unfolding later_from
plain_later bytes first k at [] cs e = subst (λ l. AllPlain l) (read_same e) tt
plain_later bytes first k at (n ∷ ns) cs e =
    plain_before first (k + 1) (slice at (at + n) bytes) (later_from bytes first (k + 1) (at + n) ns) cs
    (plain_later bytes first (k + 1) (at + n) ns) e

-- The first chapter's bytes hold its galley, and every later one is plain.
abbrev pub BookPlain : List Chapter → Type 0
BookPlain [] = Unit {0}
BookPlain (c ∷ cs) = (galley_of c.bytes ≡ Ok c.galley) × AllPlain cs

-- So it is of a book that was read.
pub book_plain : (bytes lengths : List ℕ) (cs : List Chapter) → book_of bytes lengths ≡ read cs → BookPlain cs
unfolding book_of chapters_of first_of
book_plain bytes lengths cs = go (adds_up bytes lengths) lengths
  where
    opens : (n : ℕ) (ns : List ℕ) (r : Reading) → galley_of (slice 0 n bytes) ≡ r → first_of bytes n ns r ≡ read cs → BookPlain cs
    opens n ns (Err r) e h = unread h
    opens n ns (Ok g) e h =
        let (ds, is, all) = before_read (record { bytes = slice 0 n bytes; galley = g }) (later_from bytes g.spec 1 n ns) cs h in
        subst (λ l. BookPlain l) (sym all) (e, plain_later bytes g.spec 1 n ns ds is)

    go : (adds : Bool) (lengths : List ℕ) → pick adds (chapters_of bytes lengths) (refused 28 0) ≡ read cs → BookPlain cs
    go false lengths e = unread e
    go true [] e = subst (λ l. BookPlain l) (read_same e) tt
    go true (n ∷ ns) e = opens n ns (galley_of (slice 0 n bytes)) refl e
