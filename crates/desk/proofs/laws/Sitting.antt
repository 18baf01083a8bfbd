-- What the calls of a sitting keep.
use Rattle.std.specs.Prelude.{ℕ, suc, ◌+◌, true, false, ◌&&◌, ◌≡◌, leb, ltb, length, Option, None, Some, is_some}
use Rattle.std.proofs.Common.{arith, sym, ap, subst, ◌∙◌}
use Rattle.std.proofs.Math.Bool.{Bool}
use mathlib.Core.List.{List, [], ◌∷◌, ◌++◌}
use Rattle.std.proofs.Math.Path.{refl, subst⁻¹}
use Rattle.model.specs.Galley.{Galley}
use Rattle.model.specs.Answers.{accepted, pages_of, same, marked, refused}
use Rattle.model.specs.Gather.{pick, one}
use Rattle.model.proofs.laws.Valid.{same_true, same_refl}
use Rattle.layouts.specs.Names.{is_name}
use Rattle.desk.specs.Calls.{End, Call, Ask, Commit, Save, Back, Drop, Number, Spares, Quiet, Onward, Named, Sitting, Step}
use Rattle.desk.specs.Sitting.{under, without, has_room, says, hold, put_or, named, other_end, tried, step, begin, sat}

-- ---- what is held
-- Without a name nothing is held under it, and what is held under any other stays.
pub under_without : (held : List Named) (name n : List ℕ) → under (without name held) n ≡ pick (same name n) None (under held n)
unfolding under without
under_without [] name n = go (same name n)
  where
    go : (b : Bool) → ◌≡◌ {A = Option (List ℕ)} None (pick b None None)
    go true = refl
    go false = refl
under_without (it ∷ held) name n = go (same it.name name) (same name n) refl refl (under_without held name n)
  where
    go : (a b : Bool) → same it.name name ≡ a → same name n ≡ b → under (without name held) n ≡ pick b None (under held n)
        → under (pick a (without name held) (it ∷ without name held)) n
        ≡ pick b None (pick (same it.name n) (Some it.list) (under held n))
    go true true e f rest = rest
    go true false e f rest = rw (subst⁻¹ (λ (m : List ℕ). same m n ≡ false) (same_true it.name name e) f) rest
    go false true e f rest = rw (subst (λ (m : List ℕ). same it.name m ≡ false) (same_true name n f) e) rest
    go false false e f rest = ap (pick (same it.name n) (Some it.list)) rest

-- How many layouts are under a name,
unfoldable pub times : List Named → List ℕ → ℕ
times [] n = 0
times (it ∷ held) n = one (same it.name n) + times held n

-- and without a name.
pub times_without : (held : List Named) (name n : List ℕ) → times (without name held) n ≡ pick (same name n) 0 (times held n)
unfolding times without
times_without [] name n = go (same name n)
  where
    go : (b : Bool) → ◌≡◌ {A = ℕ} 0 (pick b 0 0)
    go true = refl
    go false = refl
times_without (it ∷ held) name n = go (same it.name name) (same name n) refl refl (times_without held name n)
  where
    go : (a b : Bool) → same it.name name ≡ a → same name n ≡ b → times (without name held) n ≡ pick b 0 (times held n)
        → times (pick a (without name held) (it ∷ without name held)) n ≡ pick b 0 (one (same it.name n) + times held n)
    go true true e f rest = rest
    go true false e f rest =
        rw (subst⁻¹ (λ (m : List ℕ). same m n ≡ false) (same_true it.name name e) f) (rest ∙ omega arith)
    go false true e f rest = rw (subst (λ (m : List ℕ). same it.name m ≡ false) (same_true name n f) e) (omega (arith, rest))
    go false false e f rest = ap (λ (k : ℕ). one (same it.name n) + k) rest

pub length_without : (held : List Named) (name : List ℕ) → length (without name held) + times held name ≡ length held
unfolding times without
length_without [] name = refl
length_without (it ∷ held) name = go (same it.name name) (length_without held name)
  where
    go : (b : Bool) → length (without name held) + times held name ≡ length held
        → length (pick b (without name held) (it ∷ without name held)) + (one b + times held name) ≡ suc (length held)
    go true rest = omega (arith, rest)
    go false rest = omega (arith, rest)

-- Each name is held once.
abbrev pub Once : List Named → Type 0
Once held = (n : List ℕ) → times held n ≡ one (is_some (under held n))

pub none_once : Once []
unfolding times under
none_once n = refl

pub without_once : (held : List Named) (name : List ℕ) → Once held → Once (without name held)
without_once held name once n = rw (times_without held name n, under_without held name n) (go (same name n))
  where
    go : (b : Bool) → pick b 0 (times held n) ≡ one (is_some (pick b None (under held n)))
    go true = refl
    go false = once n

-- So it is where a list is saved under one.
pub more_once : (held : List Named) (name list : List ℕ) → Once held → Once (record { name = name; list = list } ∷ without name held)
unfolding times under
more_once held name list once n = rw (times_without held name n, under_without held name n) (go (same name n))
  where
    go : (b : Bool) → one b + pick b 0 (times held n) ≡ one (is_some (pick b (Some list) (pick b None (under held n))))
    go true = refl
    go false = omega arith ∙ once n

-- ---- every list
-- Something holds of a list, if there is one,
abbrev pub Each : (List ℕ → Type 0) → Option (List ℕ) → Type 0
Each P None = Unit {0}
Each P (Some list) = P list

-- and of every list of a sitting.
pub record All (P : List ℕ → Type 0) (s : Sitting) : Type 0 where
  pub force : P s.force
  pub pending : Each P s.pending
  pub held : (name : List ℕ) → Each P (under s.held name)

pub begin_all : (P : List ℕ → Type 0) (list : List ℕ) → P list → All P (begin list)
unfolding under
begin_all P list h = record { force = h; pending = tt; held = λ name. tt }

-- What an accepted ask keeps, every call keeps.
abbrev pub Lasts : Galley → (List ℕ → Type 0) → Type 0
Lasts g P = (list : List ℕ) (page : ℕ) (end : End) → P list → accepted (tried g list page end) ≡ true → P (other_end g list page end)

module _ (g : Galley) (P : List ℕ → Type 0) (lasts : Lasts g P) (s : Sitting) (all : All P s) where
  either : (b : Bool) (x y : Option (List ℕ)) → Each P x → Each P y → Each P (pick b x y)
  either true x y h k = h
  either false x y h k = k

  put_all : (number : ℕ) (list : Option (List ℕ)) → Each P list → All P (put_or number s list).after
  put_all number None h = all
  put_all number (Some list) h = record { force = h; pending = tt; held = all.held }

  named_all : (name : List ℕ) (next : Step) → All P next.after → All P (named name s next).after
  named_all name next h = go (is_name name)
    where
      go : (b : Bool) → All P (pick b next (says 25 s)).after
      go true = h
      go false = all

  hold_all : (held : List Named) (number : ℕ) → ((n : List ℕ) → Each P (under held n)) → (b : Bool)
      → All P (pick b (says 0 (hold s held)) (says number s)).after
  hold_all held number h true = record { force = all.force; pending = all.pending; held = h }
  hold_all held number h false = all

  without_all : (name n : List ℕ) → Each P (under (without name s.held) n)
  without_all name n =
      subst⁻¹ (Each P) (under_without s.held name n) (either (same name n) None (under s.held n) tt (all.held n))

  save_all : (name n : List ℕ) → Each P (under (record { name = name; list = s.force } ∷ without name s.held) n)
  unfolding under
  save_all name n = either (same name n) (Some s.force) (under (without name s.held) n) all.force (without_all name n)

  pub step_all : (call : Call) → All P (step g s call).after
  step_all (Ask page end) = record { force = all.force; pending = go (accepted (tried g s.force page end)) refl; held = all.held }
    where
      go : (b : Bool) → accepted (tried g s.force page end) ≡ b → Each P (pick b (Some (other_end g s.force page end)) None)
      go true e = lasts s.force page end all.force e
      go false e = tt
  step_all Commit = put_all 24 s.pending all.pending
  step_all (Save name) = named_all name _ (hold_all _ 27 (save_all name) (has_room s.held name))
  step_all (Back name) = named_all name _ (put_all 26 (under s.held name) (all.held name))
  step_all (Drop name) = named_all name _ (hold_all _ 26 (without_all name) (is_some (under s.held name)))

pub sat_all : (g : Galley) (P : List ℕ → Type 0) → Lasts g P → (s : Sitting) → All P s → (calls : List Call) → All P (sat g s calls)
unfolding sat
sat_all g P lasts s all [] = all
sat_all g P lasts s all (call ∷ calls) = sat_all g P lasts (step g s call).after (step_all g P lasts s all call) calls

-- What the marking accepts it goes on accepting.
pub taken_lasts : (g : Galley) → Lasts g (λ list. accepted (marked g list) ≡ true)
unfolding tried
taken_lasts g list page end was = go (leb 1 page && ltb page (length (pages_of g list)))
  where
    go : (b : Bool) → accepted (pick b (marked g (other_end g list page end)) (refused 23 page)) ≡ true
        → accepted (marked g (other_end g list page end)) ≡ true
    go true h = h
    go false h = let z : ◌≡◌ {A = ℕ} 0 1 = cc in absurd (omega arith)

-- ---- what is pending
-- Nothing is pending, or the list in force with another end of a page.
pub data Pends (g : Galley) (force : List ℕ) (pending : Option (List ℕ)) : Type 0 where
  nothing : pending ≡ None → Pends g force pending
  ending : (page : ℕ) (end : End) → pending ≡ Some (other_end g force page end) → Pends g force pending

module _ (g : Galley) (s : Sitting) (pends : Pends g s.force s.pending) where
  put_pends : (number : ℕ) (list : Option (List ℕ)) → Pends g (put_or number s list).after.force (put_or number s list).after.pending
  put_pends number None = pends
  put_pends number (Some list) = nothing refl

  hold_pends : (name : List ℕ) (held : List Named) (number : ℕ) (b : Bool)
      → Pends g (named name s (pick b (says 0 (hold s held)) (says number s))).after.force
      (named name s (pick b (says 0 (hold s held)) (says number s))).after.pending
  hold_pends name held number = go (is_name name)
    where
      go : (a b : Bool) → Pends g (pick a (pick b (says 0 (hold s held)) (says number s)) (says 25 s)).after.force
          (pick a (pick b (says 0 (hold s held)) (says number s)) (says 25 s)).after.pending
      go true true = pends
      go true false = pends
      go false b = pends

  step_pends : (call : Call) → Pends g (step g s call).after.force (step g s call).after.pending
  step_pends (Ask page end) = go (accepted (tried g s.force page end))
    where
      go : (b : Bool) → Pends g s.force (pick b (Some (other_end g s.force page end)) None)
      go true = ending page end refl
      go false = nothing refl
  step_pends Commit = put_pends 24 s.pending
  step_pends (Save name) = hold_pends name _ 27 (has_room s.held name)
  step_pends (Back name) = go (is_name name)
    where
      go : (a : Bool) → Pends g (pick a (put_or 26 s (under s.held name)) (says 25 s)).after.force
          (pick a (put_or 26 s (under s.held name)) (says 25 s)).after.pending
      go true = put_pends 26 (under s.held name)
      go false = pends
  step_pends (Drop name) = hold_pends name _ 26 (is_some (under s.held name))

pub sat_pends : (g : Galley) (s : Sitting) → Pends g s.force s.pending → (calls : List Call)
    → Pends g (sat g s calls).force (sat g s calls).pending
unfolding sat
sat_pends g s pends [] = pends
sat_pends g s pends (call ∷ calls) = sat_pends g (step g s call).after (step_pends g s pends call) calls

-- ---- calls before and since
pub sat_append : (g : Galley) (s : Sitting) (before since : List Call) → sat g s (before ++ since) ≡ sat g (sat g s before) since
unfolding sat
sat_append g s [] since = refl
sat_append g s (call ∷ before) since = sat_append g (step g s call).after before since

-- What is held under a name stays as it is until the name is saved again or dropped.
module _ (g : Galley) (name : List ℕ) where
  spares_named : (s : Sitting) (other : List ℕ) (next : Step) → under next.after.held name ≡ under s.held name
      → under (named other s next).after.held name ≡ under s.held name
  spares_named s other next h = go (is_name other)
    where
      go : (b : Bool) → under (pick b next (says 25 s)).after.held name ≡ under s.held name
      go true = h
      go false = refl

  spares_put : (number : ℕ) (s : Sitting) (list : Option (List ℕ)) → (put_or number s list).after.held ≡ s.held
  spares_put number s None = refl
  spares_put number s (Some list) = refl

  spares_hold : (number : ℕ) (s : Sitting) (held : List Named) → under held name ≡ under s.held name → (b : Bool)
      → under (pick b (says 0 (hold s held)) (says number s)).after.held name ≡ under s.held name
  spares_hold number s held h true = h
  spares_hold number s held h false = refl

  spares_without : (s : Sitting) (other : List ℕ) → same other name ≡ false → under (without other s.held) name ≡ under s.held name
  spares_without s other differ = under_without s.held other name ∙ rw differ

  spares_more : (s : Sitting) (other : List ℕ) → same other name ≡ false
      → under (record { name = other; list = s.force } ∷ without other s.held) name ≡ under s.held name
  unfolding under
  spares_more s other differ = rw differ (spares_without s other differ)

  spares_under : (s : Sitting) (call : Call) → Spares name call → under (step g s call).after.held name ≡ under s.held name
  spares_under s (Ask page end) spares = refl
  spares_under s Commit spares = ap (λ (held : List Named). under held name) (spares_put 24 s s.pending)
  spares_under s (Save other) spares =
      spares_named s other _ (spares_hold 27 s _ (spares_more s other spares) (has_room s.held other))
  spares_under s (Back other) spares =
      spares_named s other _ (ap (λ (held : List Named). under held name) (spares_put 26 s (under s.held other)))
  spares_under s (Drop other) spares =
      spares_named s other _ (spares_hold 26 s _ (spares_without s other spares) (is_some (under s.held other)))

  pub quiet_under : (s : Sitting) (calls : List Call) → Quiet name calls → under (sat g s calls).held name ≡ under s.held name
  unfolding sat
  quiet_under s [] quiet = refl
  quiet_under s (call ∷ calls) quiet =
      quiet_under (step g s call).after calls quiet.1 ∙ spares_under s call quiet.0

  -- A save that is not refused keeps the list in force under a name,
  pub save_under : (s : Sitting) → (step g s (Save name)).reply ≡ Number 0
      → (is_name name ≡ true) × (under (step g s (Save name)).after.held name ≡ Some s.force)
  unfolding under
  save_under s = go (is_name name) (has_room s.held name)
    where
      next : Bool → Bool → Step
      next a b =
          pick a (pick b (says 0 (hold s (record { name = name; list = s.force } ∷ without name s.held))) (says 27 s)) (says 25 s)

      go : (a b : Bool) → (next a b).reply ≡ Number 0 → (a ≡ true) × (under (next a b).after.held name ≡ Some s.force)
      go true true h = (refl, rw (same_refl name))
      go true false h = let z : ◌≡◌ {A = ℕ} 27 0 = cc in absurd (omega arith)
      go false b h = let z : ◌≡◌ {A = ℕ} 25 0 = cc in absurd (omega arith)

  -- and after a drop nothing is.
  pub drop_under : (s : Sitting) → is_name name ≡ true → under (step g s (Drop name)).after.held name ≡ None
  drop_under s proper = rw proper (go (under s.held name) refl)
    where
      go : (p : Option (List ℕ)) → under s.held name ≡ p
          → under (pick (is_some p) (says 0 (hold s (without name s.held))) (says 26 s)).after.held name ≡ None
      go None e = e
      go (Some list) e = under_without s.held name name ∙ rw (same_refl name)

-- ---- what is in force
-- Two sittings have the same in force and pending, whatever they hold.
pub record Alike (s t : Sitting) : Type 0 where
  pub force : s.force ≡ t.force
  pub pending : s.pending ≡ t.pending

-- Layouts do not matter to it: saving and dropping change neither,
named_alike : (name : List ℕ) (s : Sitting) (b : Bool) (held : List Named) (number : ℕ)
    → Alike (named name s (pick b (says 0 (hold s held)) (says number s))).after s
named_alike name s b held number = go (is_name name) b
  where
    go : (a b : Bool) → Alike (pick a (pick b (says 0 (hold s held)) (says number s)) (says 25 s)).after s
    go true true = record { force = refl; pending = refl }
    go true false = record { force = refl; pending = refl }
    go false b = record { force = refl; pending = refl }

both_alike : {s s' t t' : Sitting} → Alike s' s → Alike t' t → Alike s t → Alike s' t'
both_alike a b c = record { force = a.force ∙ c.force ∙ sym b.force; pending = a.pending ∙ c.pending ∙ sym b.pending }

ask_alike : (g : Galley) (s t : Sitting) → Alike s t → (page : ℕ) (end : End)
    → Alike (step g s (Ask page end)).after (step g t (Ask page end)).after
ask_alike g s t alike page end =
    record {
      force = alike.force;
      pending = ap (λ (list : List ℕ). pick (accepted (tried g list page end)) (Some (other_end g list page end)) None) alike.force;
    }

commit_alike : (g : Galley) (s t : Sitting) → Alike s t → Alike (step g s Commit).after (step g t Commit).after
commit_alike g s t alike =
    subst⁻¹ (λ (p : Option (List ℕ)). Alike (put_or 24 s p).after (put_or 24 t t.pending).after) alike.pending (go t.pending)
  where
    go : (p : Option (List ℕ)) → Alike (put_or 24 s p).after (put_or 24 t p).after
    go None = alike
    go (Some list) = record { force = refl; pending = refl }

-- and so it goes on until one comes back.
pub onward_alike : (g : Galley) (s t : Sitting) → Alike s t → (calls : List Call) → Onward calls → Alike (sat g s calls) (sat g t calls)
unfolding sat
onward_alike g s t alike [] onward = alike
onward_alike g s t alike (Ask page end ∷ calls) onward =
    onward_alike g (step g s (Ask page end)).after (step g t (Ask page end)).after (ask_alike g s t alike page end) calls onward
onward_alike g s t alike (Commit ∷ calls) onward =
    onward_alike g (step g s Commit).after (step g t Commit).after (commit_alike g s t alike) calls onward
onward_alike g s t alike (Save name ∷ calls) onward =
    onward_alike g (step g s (Save name)).after (step g t (Save name)).after
    (both_alike (named_alike name s (has_room s.held name) _ 27) (named_alike name t (has_room t.held name) _ 27) alike) calls onward
onward_alike g s t alike (Back name ∷ calls) onward = absurd onward
onward_alike g s t alike (Drop name ∷ calls) onward =
    onward_alike g (step g s (Drop name)).after (step g t (Drop name)).after
    (both_alike (named_alike name s (is_some (under s.held name)) _ 26) (named_alike name t (is_some (under t.held name)) _ 26) alike) calls onward
