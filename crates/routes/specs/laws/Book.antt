-- The routes of a book that was read, from before its first chapter to after its last.
use Rattle.std.specs.Prelude.{ℕ, suc, ◌+◌, ◌*◌, ◌%◌, ◌≤◌, ◌<◌, ◌≡◌, refl, Bool, true, false, length, set, drop, eqb}
use Rattle.std.proofs.Common.{arith, sym, ◌∙◌, length-set}
use Rattle.std.proofs.Math.Path.{ap, subst}
use mathlib.Core.List.{List, [], ◌∷◌}
use Rattle.model.specs.Gather.{pick}
use Rattle.model.specs.Book.{first_folio}
use Rattle.galley.specs.declared.Galley.{Galley}
use Rattle.galley.specs.Model.{model_of}
use Rattle.places.specs.Address.{words_needed}
use Rattle.chapters.specs.declared.Book.{Book}
use Rattle.chapters.specs.Book.{Chapter, read, book_of, models_of, chapter_bytes, largest}
use Rattle.chapters.specs.laws.Chapters.{chapter_at, chapters_many}
use Rattle.chapters.specs.laws.Alike.{spec_alike, models_drop, models_many}
use Rattle.candidates.specs.Read.{columns_in}
use Rattle.std.specs.Prelude.{None, Some}
use Rattle.routes.specs.declared.Routes.{Routes}
use Rattle.routes.specs.Routes.{Route}
use Rattle.routes.specs.Room.{BookRoom}
use Rattle.routes.specs.Routes.{first_routes, before, Routed}
use Rattle.routes.specs.Offer.{Cheap}
use Rattle.routes.specs.Next.{NextRoom, Onward, Lies, Opens, Routing, AllRouted}
use Rattle.routes.specs.laws.Offer.{none_cheap, least_cheap}
use Rattle.routes.specs.laws.Next.{galley_same}
use Rattle.routes.specs.laws.Routing.{first_right, none_before, routed_next}

-- Before the first chapter nothing is paid.
first_cheap : (sides folio : ℕ) → Cheap 0 (first_routes sides folio).one × Cheap 0 (first_routes sides folio).two
first_cheap sides folio = go (eqb sides 2) (eqb (folio % 2) 0)
  where
    nothing : Cheap 0 (Some (record { turns = 0; white = 0 }))
    nothing = least_cheap 0 (record { turns = 0; white = 0 }) (omega arith) (omega arith)

    go : (b d : Bool)
        → (let none : Route = Some (record { turns = 0; white = 0 }) in
        let r = pick {A = Routes} b (pick d (record { one = None; two = none }) (record { one = none; two = None })) (record { one = none; two = None }) in
        Cheap 0 r.one × Cheap 0 r.two)
    go true true = (none_cheap 0, nothing)
    go true false = (nothing, none_cheap 0)
    go false d = (nothing, none_cheap 0)

-- The first of some models is that of the first chapter.
models_first : (c : Chapter) (cs : List Chapter) → models_of (c ∷ cs) ≡ model_of c.bytes c.galley ∷ models_of cs
unfolding models_of
models_first c cs = refl

module _ {bytes lengths : List ℕ} {book : Book} {w₀ : List ℕ} (book_room : BookRoom bytes lengths book w₀) where
  -- There are so many chapters.
  many : book.chapters ≡ suc (length book_room.rest)
  many = ap (λ (b : Book). b.chapters) book_room.sized

  -- Every chapter lies within the bytes,
  pub book_lies : (k : ℕ) → k < book.chapters → Lies bytes lengths k
  book_lies k l =
      let m = many in
      let at = chapter_at bytes lengths book_room.first book_room.rest book_room.is k (omega arith) in
      record { numbered = at.numbered; within = at.within; holds = (at.galley, at.reads) }

  -- the first among them.
  pub book_first : Lies bytes lengths 0
  book_first = let m = many in book_lies 0 (omega arith)

  -- The routes before the first chapter are right,
  pub routing_first : {from : List ℕ} {r : Routes} → length from ≡ 400 → Opens bytes lengths r → Routing bytes lengths book w₀ w₀ 0 r from
  unfolding models_of first_folio
  routing_first {from} {r} words opens =
      let at = chapter_at bytes lengths book_room.first book_room.rest book_room.is 0 (omega arith) in
      let is = opens at.galley at.reads in
      let cheap = first_cheap at.galley.spec.sides at.galley.folio in
      record {
        few = omega arith;
        long = refl;
        words = words;
        one = subst (λ (r : Routes). Cheap 0 r.one) (sym is) cheap.0;
        two = subst (λ (r : Routes). Cheap 0 r.two) (sym is) cheap.1;
        right = λ c cs e.
            let there = chapter_at bytes lengths c cs e 0 (omega arith) in
            let same : there.galley ≡ c.galley = ap (galley_in c) (sym there.there) in
            let r_is : r ≡ first_routes c.galley.spec.sides c.galley.folio =
            opens there.galley there.reads ∙ ap (λ (g : Galley). first_routes g.spec.sides g.folio) same in
            let both = first_right c.bytes c.galley in
            record {
              few = omega arith;
              one = ap (λ (r : Routes). r.one) r_is ∙ both.0;
              two = ap (λ (r : Routes). r.two) r_is ∙ both.1;
              long = words;
              first = λ j l. absurd (omega arith);
              second = λ j l. absurd (omega arith);
            };
      }
    where
      galley_in : Chapter → List Chapter → Galley
      galley_in c [] = c.galley
      galley_in c (d ∷ ds) = d.galley

  module _ {w : List ℕ} {k : ℕ} {routes : Routes} {from : List ℕ} (run : Routing bytes lengths book w₀ w k routes from) where
    -- there is room for the next chapter,
    pub routing_room : k < book.chapters → NextRoom (chapter_bytes bytes lengths k) k routes book.largest w from
    unfolding columns_in
    routing_room l =
        let m = many in
        let at = chapter_at bytes lengths book_room.first book_room.rest book_room.is k (omega arith) in
        let largest_is : book.largest ≡ largest (book_room.first ∷ book_room.rest) = ap (λ (b : Book). b.largest) book_room.sized in
        let count = chapters_many bytes lengths book_room.first book_room.rest book_room.is in
        record {
          holds = (at.galley, at.reads);
          room = λ g e.
              subst (λ (g : Galley). words_needed g.text.count (columns_in g) ≤ book.largest)
              (sym (galley_same (chapter_bytes bytes lengths k) at.galley g at.reads e)) (omega (arith, at.work));
          long = omega (arith, book_room.room, run.long);
          few = omega (arith, at.numbered.few);
          one = run.one;
          two = run.two;
          words = run.words;
        }

    -- the routes after it are right,
    pub routing_next : {w' : List ℕ} {r : Routes} {from' : List ℕ} → k < book.chapters → Onward (chapter_bytes bytes lengths k) k routes from r from'
        → length w' ≡ length w → Routing bytes lengths book w₀ w' (k + 1) r from'
    routing_next {w'} {r} {from'} l on long =
        subst (λ (n : ℕ). Routing bytes lengths book w₀ w' n r from') (one_more k)
        (record {
          few = omega arith;
          long = long ∙ run.long;
          words =
              ap length on.kept ∙ length-set (set from (2 * k) on.first.from) (2 * k + 1) on.second.from ∙ length-set from (2 * k) on.first.from
              ∙ run.words;
          one = on.cheap_one;
          two = on.cheap_two;
          right = λ c cs e. right c cs e;
        })
      where
        one_more : (k : ℕ) → suc k ≡ k + 1
        one_more k = omega arith

        right : (c : Chapter) (cs : List Chapter) → book_of bytes lengths ≡ read (c ∷ cs)
            → (let gs = models_of (c ∷ cs) in Routed (model_of c.bytes c.galley) (first_folio gs) gs (suc k) r from')
        right c cs e =
            let m = many in
            let count = chapters_many bytes lengths book_room.first book_room.rest book_room.is in
            let other = chapters_many bytes lengths c cs e in
            let models = models_many (c ∷ cs) in
            let at = chapter_at bytes lengths c cs e k (omega arith) in
            let d : Chapter = record { bytes = chapter_bytes bytes lengths k; galley = at.galley } in
            let gs = models_of (c ∷ cs) in
            let there : drop k gs ≡ model_of d.bytes d.galley ∷ models_of (drop (suc k) (c ∷ cs)) =
            models_drop (c ∷ cs) k ∙ ap models_of at.there ∙ models_first d (drop (suc k) (c ∷ cs)) in
            let was = run.right c cs e in
            let both =
            on.right (model_of c.bytes c.galley) (first_folio gs) (before gs k) at.galley at.reads (spec_alike c d at.spec)
            (none_before gs k (omega arith)) was.one was.two in
            subst (Routed (model_of c.bytes c.galley) (first_folio gs) gs (suc k) r) (sym on.kept)
            (routed_next (model_of c.bytes c.galley) (first_folio gs) gs k was (model_of d.bytes d.galley) (models_of (drop (suc k) (c ∷ cs))) there
            (omega (arith, at.numbered.few)) on.first on.second both.0 both.1 on.one on.two (omega arith))

    -- and those after the last are the theorem's.
    pub routing_done : book.chapters ≤ k → AllRouted bytes lengths w₀ w routes from
    routing_done l =
        record {
          long = run.long;
          right = λ c cs e.
              let m = many in
              let count = chapters_many bytes lengths book_room.first book_room.rest book_room.is in
              let other = chapters_many bytes lengths c cs e in
              let models = models_many (c ∷ cs) in
              let all : k ≡ length (models_of (c ∷ cs)) = omega (arith, run.few) in
              subst (λ (n : ℕ). Routed (model_of c.bytes c.galley) (first_folio (models_of (c ∷ cs))) (models_of (c ∷ cs)) n routes from) all (run.right c cs e);
        }
