-- What walks by hand share, whatever the function. It has no `&mut`, and all that it is passed is Copy: what the arguments own
-- is had twice, one copy is put aside for the exit, and the walk goes on with the other.
--     Passed                      what a walk knows of an argument's type
--     met                         a walk from the entry is the function's statement
--     Walks, proved               what a walk shows, and that it is the function's statement
--     calls                       a call: what the arguments own becomes what the result owns, and what is ensured is learned
--     ends                        the exit: what is ensured is shown, and the copy put aside is handed back
--     first, alone, beside        what the first argument owns, of what all own; what one value owns as what all arguments
--                                 own; the same of a value and a number, which owns nothing but facts
use Rattle.std.specs.Prelude.{◌≡◌, refl, ℕ, ◌<◌, ◌^◌, List, [], ◌∷◌}
use Rattle.std.proofs.Common.{subst, ap}
use seplogic.Ra.Ura.{Ura}
use mir.Syntax.{Fn, Callee, Place, Opd as Operand, Body, seq, call, w64}
use mir.Val.{Val}
use base.Logic.{SProp, ent, sep, emp, via, mono_r, emp∗, fst∗, snd∗, ex_e, id⊢}
use Rattle.std.specs.Borrow.{Fml, ftrue, fsep, usize}
use prog.Model.{Model}
use prog.Routine.{Routine, Env as Routines}
use prog.Wp.{Env, WpFn, Closed}
use ghost.Atoms.{Atoms}
use types.Logic.{Logic, sem}
use contract.Lifetimes.{Lfts, Shares, AllOutlive}
use contract.Monad.{fact}
use contract.Running.{Running, tables, tables_of}
use types.Kit.{Item, Goal, Post, Step, step, Seq, Sq, prop, ‵, raw, ◌⊛◌, ⋆, some, later, runs, lands, ◌$◌, ◌∵◌, ! }
use types.Kit.{qed, by, move, drop, use1, use2, split, join, pick, fsplit, fjoin, suffices, frame, await, done}
use types.Run.{Opds}
use sound.WpLaws.{FmC, fm_of, WpFn-mono}
use denote.RattleType.{RattleType, Denots, Valss, flat, owns}
use denote.Laws.{Is, Ises, Are, Spells, valss, Tells, Tellss, Copy, shows}
use denote.Plain.{uint_vals, uint_Makes}
use denote.Signature.{Slot, type_at, types_at}
use denote.Steps.{owned, peeks, heard, nothing}
use denote.Exit.{Kept, Last, left}
use denote.Triple.Statement.{Contract}
use denote.Triple.Call.{calls_at}
use denote.Triple.Clauses.{Ended, Clauses, Lasts, at_exit, lasts, ensured, closing}
use denote.Triple.End.{Kepts, Fins}
use denote.Triple.Entry.{Args, Res, alive, on_entry}
use denote.Triple.Spec.{Meets, triple_of}
use denote.Triple.Table.{entered, cited}
use denote.Triple.Walked.{says, Stays, fits_of, has_of, on_exit, walk_of, AllGo, Goes-Silent, ends_at, walked, walk_Meets}

-- ---- arguments
-- Of an argument's type: its machine values, that it is Copy, and that no contract says anything of it at exit.
pub record Passed {M : Type 1} {𝓤 : Ura M} (𝓛 : Logic 𝓤) {n : ℕ} (s : Slot n) : Type 1 where
  pub vals : (κs : Lfts n) → (s.row κs).Denot → List Val
  pub tells : (κs : Lfts n) → Tells (s.row κs) (Is (s.row κs)) (vals κs)
  pub copy : (κs : Lfts n) → Copy 𝓛 (s.row κs)
  pub silent : (k : Kept) (κs : Lfts n) (x : (s.row κs).Denot) (f : Last ((s.row κs).exit k) x)
      → left ((s.row κs).exit k) x f ≡ ftrue

-- each is still owned at exit, as it was passed
abbrev kept : {n : ℕ} (ss : List (Slot n)) (ks : Kepts ss) → Stays ss ks
kept [] ks = tt
kept (s ∷ ss) ks = (record { fit = λ κs x f. Unit {0}; has = λ κs x f vs. (s.row κs).own_val x vs }, kept ss ks.1)

-- nothing is owed of what is bound at exit, and what is had there is what was owned at entry
fits : {n : ℕ} (κs : Lfts n) (ss : List (Slot n)) (ks : Kepts ss) (a : Denots (types_at ss κs)) (ws : Fins κs ss ks a)
    → fits_of κs ss ks (kept ss ks) a ws
fits κs [] ks a ws = tt
fits κs (s ∷ ss) ks a ws = (tt, fits κs ss ks.1 a.1 ws.1)

had : {n : ℕ} (κs : Lfts n) (ss : List (Slot n)) (ks : Kepts ss) (a : Denots (types_at ss κs)) (ws : Fins κs ss ks a)
    (vss : Valss (types_at ss κs)) → has_of κs ss ks (kept ss ks) a ws vss ≡ owns (types_at ss κs) a vss
had κs [] ks a ws vss = refl
had κs (s ∷ ss) ks a ws vss = ap (fsep ((s.row κs).own_val a.0 vss.0)) (had κs ss ks.1 a.1 ws.1 vss.1)

module _ {M : Type 1} {𝓤 : Ura M} (𝓛 : Logic 𝓤) {n : ℕ} where
  abbrev pub Passeds : List (Slot n) → Type 1
  Passeds [] = Unit {1}
  Passeds (s ∷ ss) = Passed 𝓛 s × Passeds ss

  -- their machine values, and that what they own tells these
  abbrev spelled : (ss : List (Slot n)) → Passeds ss → (κs : Lfts n) → Spells (types_at ss κs)
  spelled [] ps κs = tt
  spelled (s ∷ ss) ps κs = (ps.0.vals κs, spelled ss ps.1 κs)

  told : (ss : List (Slot n)) (ps : Passeds ss) (κs : Lfts n)
      → Tellss (types_at ss κs) (Ises (types_at ss κs)) (spelled ss ps κs)
  told [] ps κs = tt
  told (s ∷ ss) ps κs = (ps.0.tells κs, told ss ps.1 κs)

  -- what is had at exit gives what a contract says of them, which is nothing
  goes : (ss : List (Slot n)) (ks : Kepts ss) → Passeds ss → AllGo 𝓛 n ss ks (kept ss ks)
  goes [] ks ps = tt
  goes (s ∷ ss) ks ps =
      (Goes-Silent 𝓛 n s ks.0 (kept (s ∷ ss) ks).0 (ps.0.silent ks.0), goes ss ks.1 ps.1)

  -- what they own together is had twice
  twice : (κs : Lfts n) (ss : List (Slot n)) → Passeds ss → (a : Denots (types_at ss κs)) (vss : Valss (types_at ss κs))
      → ent 𝓤 (sem 𝓛 (owns (types_at ss κs) a vss))
      (sep 𝓤 (sem 𝓛 (owns (types_at ss κs) a vss)) (sem 𝓛 (owns (types_at ss κs) a vss)))
  twice κs [] ps a vss = emp∗ 𝓤 (emp 𝓤)
  twice κs (s ∷ ss) ps a vss =
      let P : Fml = (s.row κs).own_val a.0 vss.0 in
      let Q : Fml = owns (types_at ss κs) a.1 vss.1 in
      qed 𝓛 (‵ (fsep P Q) ∷ []) ∵ fsplit ! $
      use1 𝓛 (‵ P ⊛ ‵ P) ((ps.0.copy κs).twice a.0 vss.0) $ split ! $ move ! (2 ∷ []) $
      use1 𝓛 (‵ Q ⊛ ‵ Q) (twice κs ss ps.1 a.1 vss.1) $ split ! $
      move ! (2 ∷ 0 ∷ []) $ fjoin ! $ move ! (2 ∷ 1 ∷ []) $ fjoin ! $ done !

-- ---- from the entry to the exit
module _ {M : Type 1} {𝓤 : Ura M} (𝓛 : Logic 𝓤) (T : Ended) (c : Clauses 𝓤 T) where
  -- the triple in which a walk ends, and what it binds: lifetimes, shares of their tokens, arguments and machine values
  abbrev pub Walk : Contract 𝓤
  Walk = walk_of 𝓛 T (kept T.signature.params T.kept) c

  abbrev pub Call : Type 0
  Call = Walk.Ghost

  -- at one such choice: the result's type, what the arguments own, the tokens, what a result owns, and what is ensured of it
  module _ (y : Call) where
    abbrev pub Result : Type 0
    Result = Res T.signature y.0.0

    abbrev pub passed : Fml
    passed = owns (types_at T.signature.params y.0.0) y.0.3 y.0.4

    abbrev pub tokens : SProp 𝓤
    tokens = alive 𝓛 T.signature y.0.0 y.0.1

    abbrev pub result : Result → Val → Fml
    result r v = (type_at T.signature.result y.0.0).own_val r (v ∷ [])

    abbrev pub ensures : Result → Lasts T y.0.0 y.0.3 → SProp 𝓤
    ensures r ws = (c y.0.0 y.0.3).ensures y.1 r (at_exit T y.0.0 y.0.3 ws)

  pub ends : (y : Call) (v : Val) (r : Result y) (ws : Lasts T y.0.0 y.0.3) {φ : Type 0}
      → ent 𝓤 (fact 𝓤 φ) (ensures y r ws) → φ
      → ent 𝓤 (⋆ 𝓛 (‵ (result y r v) ∷ raw (tokens y) ∷ ‵ (passed y) ∷ [])) (Walk.post y v)
  ends y v r ws {φ} said x =
      let ss : List (Slot T.signature.lifetimes) = T.signature.params in
      let hs : Stays ss T.kept = kept ss T.kept in
      let P : SProp 𝓤 = on_exit 𝓛 T hs y.0.0 y.0.1 y.0.4 v r y.0.3 ws in
      subst (λ (Q : Fml). ent 𝓤 (⋆ 𝓛 (‵ (result y r v) ∷ raw (tokens y) ∷ ‵ Q ∷ [])) (Walk.post y v))
      (had y.0.0 ss T.kept y.0.3 ws y.0.4)
      (qed 𝓛 (‵ (result y r v) ∷ raw (tokens y) ∷ ‵ (has_of y.0.0 ss T.kept hs y.0.3 ws y.0.4) ∷ []) ∵
      suffices ! _ (ends_at 𝓛 T hs c y v r ws (fits y.0.0 ss T.kept y.0.3 ws)) $
      suffices ! (sep 𝓤 P (fact 𝓤 φ)) (mono_r 𝓤 P said) $ says ! x $ move ! (1 ∷ 2 ∷ 0 ∷ []) $ done !)

module _ {M : Type 1} {𝓤 : Ura M} (𝓛 : Logic 𝓤) (𝓜 : Model 𝓤 𝓛.H) (𝓡 : Running 𝓤 𝓛.H 𝓜) (γ : Routines) where
  open 𝓛 use {H}
  open tables 𝓤 H 𝓜 𝓡 γ use {C, Λ}

  -- a table of calls is monotone under a frame, which the call rule asks
  pub framed : FmC 𝓤 H 𝓛.laws C
  unfolding tables_of
  framed = fm_of 𝓤 H 𝓛.laws (tables_of 𝓤 H 𝓜 (tables 𝓤 H 𝓜 𝓡 γ))

  module _ (f : Fn) (T : Ended) (c : Clauses 𝓤 T) where
    abbrev ss : List (Slot T.signature.lifetimes)
    ss = T.signature.params

    -- A walk from the entry is the function's statement, whatever is had of each argument at exit.
    pub met : (k : Callee) → Closed 𝓤 H C Λ k f → (hs : Stays ss T.kept) → AllGo 𝓛 T.signature.lifetimes ss T.kept hs
        → (sp : (κs : Lfts T.signature.lifetimes) → Spells (types_at ss κs))
        → ((κs : Lfts T.signature.lifetimes) → Tellss (types_at ss κs) (Ises (types_at ss κs)) (sp κs))
        → ((κs : Lfts T.signature.lifetimes) (qs : Shares T.signature.lifetimes)
        (bounds : AllOutlive T.signature.lifetimes T.signature.outlives κs) (a : Args T.signature κs)
        (g : (c κs a).ghost) → let vss = valss (types_at ss κs) (sp κs) a in Are (types_at ss κs) (Ises (types_at ss κs)) a vss
        → ent 𝓤 (on_entry 𝓛 T.signature κs qs a vss)
        (WpFn 𝓤 H C Λ f (flat (types_at ss κs) vss) ((walk_of 𝓛 T hs c).post ((κs, qs, bounds, a, vss), g))))
        → Meets 𝓛 T.signature (C k) (closing 𝓛 T c)
    unfolding tables_of
    met k closed hs gos sp tells walk =
        let A : Atoms 𝓤 = 𝓛.A in
        entered 𝓤 H (triple_of 𝓛 T.signature (closing 𝓛 T c)) C Λ k f closed
        (walk_Meets 𝓛 T hs gos c (WpFn 𝓤 H C Λ f)
        (WpFn-mono 𝓤 H 𝓛.laws (tables_of 𝓤 H 𝓜 (tables 𝓤 H 𝓜 𝓡 γ)) f)
        (walked 𝓛 T hs c (WpFn 𝓤 H C Λ f) sp tells (λ κs qs bounds a g are.
        let E : SProp 𝓤 = on_entry 𝓛 T.signature κs qs a (valss (types_at ss κs) (sp κs) a) in
        via 𝓤 E (fst∗ 𝓤 E ((c κs a).requires g)) (walk κs qs bounds a g are))))

    -- from the arguments' two copies, the function runs to what `ends` gives
    abbrev pub Walks : Call 𝓛 T c → Type 1
    Walks y = Sq 𝓛 (‵ (passed 𝓛 T c y) ∷ raw (tokens 𝓛 T c y) ∷ ‵ (passed 𝓛 T c y) ∷ [])
        (prop (WpFn 𝓤 H C Λ f (flat (types_at ss y.0.0) y.0.4) ((Walk 𝓛 T c).post y)))

    pub proved : (k : Callee) → Closed 𝓤 H C Λ k f → (ps : Passeds 𝓛 ss)
        → ((κs : Lfts T.signature.lifetimes) (qs : Shares T.signature.lifetimes)
        (bounds : AllOutlive T.signature.lifetimes T.signature.outlives κs) (a : Args T.signature κs)
        (g : (c κs a).ghost) → let vss = valss (types_at ss κs) (spelled 𝓛 ss ps κs) a in
        Are (types_at ss κs) (Ises (types_at ss κs)) a vss → Walks ((κs, qs, bounds, a, vss), g))
        → Meets 𝓛 T.signature (C k) (closing 𝓛 T c)
    proved k closed ps walk =
        met k closed (kept ss T.kept) (goes 𝓛 ss T.kept ps) (spelled 𝓛 ss ps) (told 𝓛 ss ps) (λ κs qs bounds a g are.
        let vss = valss (types_at ss κs) (spelled 𝓛 ss ps κs) a in
        let P : Fml = owns (types_at ss κs) a vss in
        let L : SProp 𝓤 = alive 𝓛 T.signature κs qs in
        via 𝓤 (⋆ 𝓛 (‵ P ∷ raw L ∷ ‵ P ∷ []))
        (qed 𝓛 (raw L ∷ ‵ P ∷ []) ∵
        move ! (1 ∷ []) $ use1 𝓛 (‵ P ⊛ ‵ P) (twice 𝓛 κs ss ps a vss) $ split ! $ move ! (0 ∷ 2 ∷ []) $ done !)
        (walk κs qs bounds a g are).prf)

  -- The callee f is the routine r. What it ensures is the fact φ. Its operands are read while the arguments and the tokens
  -- are one item.
  module _ (T : Ended) (c : Clauses 𝓤 T) {K : Type 0} {Γ : List (Item 𝓤)} {E : Env 𝓤 H} {f : Callee} {xs : List Operand}
      {p : Post 𝓤 H} {d : Place} {body : Body} where
    pub calls : K → (r : Routine) → γ f ≡ r → Meets 𝓛 T.signature (𝓡.run r) (closing 𝓛 T c)
        → (y : Call 𝓛 T c) → ent 𝓤 (emp 𝓤) ((c y.0.0 y.0.3).requires y.1) → (φ : Result 𝓛 T c y → Type 0)
        → ((x : Result 𝓛 T c y) (ws : Lasts T y.0.0 y.0.3) → ent 𝓤 (ensures 𝓛 T c y x ws) (fact 𝓤 (φ x)))
        → Opds K 𝓛 (raw ((Walk 𝓛 T c).pre y) ∷ Γ) E xs ((Walk 𝓛 T c).args y)
        → ((u : Val) (x : Result 𝓛 T c y) → φ x → Is (type_at T.signature.result y.0.0) x (u ∷ [])
        → Seq K 𝓛 (‵ (result 𝓛 T c y x u) ∷ raw (tokens 𝓛 T c y) ∷ Γ) (lands C Λ E d u body p))
        → Seq K 𝓛 (‵ (passed 𝓛 T c y) ∷ raw (tokens 𝓛 T c y) ∷ Γ) (runs C Λ E (seq (call f xs d) body) p)
    calls t r is_r met y asks φ said os go =
        let A : Atoms 𝓤 = 𝓛.A in
        let R : RattleType = type_at T.signature.result y.0.0 in
        let S : Contract 𝓤 = triple_of 𝓛 T.signature (closing 𝓛 T c) in
        use2 𝓛 (raw (S.pre y))
        (qed 𝓛 (‵ (passed 𝓛 T c y) ∷ raw (tokens 𝓛 T c y) ∷ []) ∵ move ! (1 ∷ 0 ∷ []) $ join ! $ frame ! $ by ! asks) $
        calls_at t framed S (cited 𝓤 H S 𝓜 𝓡 γ f r is_r met) y os (λ u.
        use1 𝓛 (later (some (λ (x : Result 𝓛 T c y).
        (raw (tokens 𝓛 T c y) ⊛ ‵ (result 𝓛 T c y x u)) ⊛ raw (ensured 𝓛 T c y.0.0 y.0.3 y.1 x)))) (id⊢ 𝓤 _) $
        await t tt $ pick t (λ x. split t $ move t (1 ∷ []) $
        use1 𝓛 (raw (fact 𝓤 (φ x))) (ex_e 𝓤 _ (λ ws.
        via 𝓤 _ (snd∗ 𝓤 (sem 𝓛 (lasts T y.0.0 y.0.3 ws)) (ensures 𝓛 T c y x ws)) (said x ws))) $
        heard t (φ x) (λ e. split t $ move t (1 ∷ []) $
        peeks t R (Is R) (shows 𝓛 R) x (u ∷ []) (λ is. go u x e is))))

-- ---- what the arguments own
module _ {M : Type 1} {𝓤 : Ura M} {𝓛 : Logic 𝓤} {K : Type 0} {Γ : List (Item 𝓤)} {G : Goal 𝓤 𝓛.H} where
  pub first : K → {P Q : Fml} → Step K 𝓛 (‵ P ∷ Γ) G (‵ (fsep P Q) ∷ Γ) G
  first t = step (λ s. fsplit t $ move t (1 ∷ []) $ drop t $ s)

  module _ (t : K) (R : RattleType) (x : R.Denot) (vs : List Val) where
    pub alone : Step K 𝓛 (‵ (owns (R ∷ []) (x, tt) (vs, tt)) ∷ Γ) G (‵ (R.own_val x vs) ∷ Γ) G
    alone = step (λ s. nothing t $ move t (1 ∷ 0 ∷ []) $ fjoin t $ s)

    pub beside : (n : ℕ) → n < 2 ^ 64
        → Step K 𝓛 (‵ (owns (R ∷ usize ∷ []) (x, (n, tt)) (vs, (uint_vals w64 n, tt))) ∷ Γ) G (‵ (R.own_val x vs) ∷ Γ) G
    beside n ok = step (λ s.
        nothing t $ owned t usize (Is usize) (uint_Makes 𝓛 w64) n (uint_vals w64 n) (refl, ok) $ fjoin t $
        move t (1 ∷ 0 ∷ []) $ fjoin t $ s)
