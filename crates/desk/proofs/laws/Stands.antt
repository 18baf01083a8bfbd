-- A desk stands as a sitting does.
use Rattle.std.specs.Prelude.{ℕ, ◌+◌, ◌*◌, ◌/◌, ◌≤◌, true, List, [], ◌≡◌, refl, length, Option, None}
use Rattle.model.specs.Galley.{Galley, streams}
use Rattle.layouts.specs.declared.Layout.{Layout}
use Rattle.layouts.specs.Names.{is_name}
use Rattle.desk.specs.declared.Desk.{Desk}
use Rattle.desk.specs.Calls.{Reply, Number, Named, Sitting, Step}
use Rattle.desk.specs.Sitting.{under, says, pend, hold}
use Rattle.desk.specs.Pages.{pages_on, words_on, in_force, is_inner}
use Rattle.desk.specs.Desk.{pended, altered, pending_on, put_in, lay_in}
use Rattle.desk.specs.Held.{held_on}
use Rattle.desk.proofs.laws.Room.{copies, Sole}
use Rattle.desk.proofs.laws.Sitting.{Once}

-- So many words are whole pages of two or three words each, as the galley has streams.
pub record Fits (g : Galley) (n : ℕ) : Type 0 where
  pub least : 2 ≤ streams g
  pub most : streams g ≤ 3
  pub whole : n ≡ n / streams g * streams g

-- A list has so many words.
abbrev pub Sized : ℕ → List ℕ → Type 0
Sized n list = length list ≡ n

-- Of eight layouts those are free that a sitting has room for, and no name is there twice.
pub record Lays (layouts : List Layout) (held : List Named) : Type 0 where
  pub eight : length layouts ≡ 8
  pub sole : Sole layouts
  pub once : Once held
  pub room : copies layouts [] + length held ≡ 8

-- A desk with lists of so many words stands as a sitting does: in force, pending and held is the same.
pub record Stands (g : Galley) (n : ℕ) (d : Desk) (s : Sitting) : Type 0 where
  pub width : d.width ≡ streams g
  pub pages : pages_on d ≡ n / streams g
  pub force : in_force d ≡ s.force
  pub pending : pending_on d ≡ s.pending
  pub held : (name : List ℕ) → is_name name ≡ true → held_on d name ≡ under s.held name
  pub lays : Lays d.layouts s.held

-- A call that leaves a desk and replies does what a step does.
pub record Follows (g : Galley) (n : ℕ) (d : Desk) (said : Reply) (next : Step) : Type 0 where
  pub reply : said ≡ next.reply
  pub stands : Stands g n d next.after

module _ (g : Galley) (n : ℕ) (d : Desk) (s : Sitting) (so : Stands g n d s) where
  -- A refusal changes nothing.
  pub stays : (number : ℕ) → Follows g n d (Number number) (says number s)
  stays number = record { reply = refl; stands = so }

  -- Another page is pending,
  pub pend_stands : (page : ℕ) (end : List ℕ) (pending : Option (List ℕ)) → pending_on (pended d page end) ≡ pending
      → Stands g n (pended d page end) (pend s pending)
  unfolding pages_on words_on in_force held_on
  pend_stands page end pending h =
      record { width = so.width; pages = so.pages; force = so.force; pending = h; held = so.held; lays = so.lays }

  -- another list is in force,
  pub put_stands : (list : List ℕ) → Stands g n (put_in d list) (record { force = in_force (put_in d list); pending = None; held = s.held })
  unfolding pages_on words_on in_force held_on pending_on is_inner
  put_stands list = record { width = so.width; pages = so.pages; force = refl; pending = refl; held = so.held; lays = so.lays }

  -- and there are other layouts.
  pub lay_stands : (layouts : List Layout) (held : List Named)
      → ((name : List ℕ) → is_name name ≡ true → held_on (lay_in d layouts) name ≡ under held name) → Lays layouts held
      → Stands g n (lay_in d layouts) (hold s held)
  unfolding pages_on words_on in_force pending_on is_inner altered
  lay_stands layouts held h lays =
      record { width = so.width; pages = so.pages; force = so.force; pending = so.pending; held = h; lays = lays }
