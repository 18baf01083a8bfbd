-- A walk by hand over a function whatever its leading parameters are, where it only passes them on: they are a list, and of them only
-- their machine types, their values and that these fit are known. Their locals come after the result's, before the others.
--     Blocks, Values, Fit         the blocks of their locals, what is passed, and that it has its type
--     locals, env, past, listed   the locals, blocks, numbers of locals and values of which theirs are the first
--     operands                    the operands that pass them on
--     allocs-leading, passes-leading, frees-leading      the function is entered and left
--     there, leads                a later local; the operands
use Rattle.std.specs.Prelude.{◌≡◌, refl, ℕ, zero, suc, List, [], ◌∷◌, T, get_or}
use Rattle.std.proofs.Common.{sym, subst}
use seplogic.Ra.Ura.{Ura}
use base.Fraction.{full_share}
use mir.Syntax.{Ty, ty_enum, ttnil, Local, local, value_local, place, Step as PlaceStep, Opd as Operand, copy}
use mir.Val.{Val, WT, has_ty}
use base.Logic.{ent, via}
use base.Fml.{Fml, ftrue, fsep, fat, froom, fdies}
use prog.Wp.{Env, Spot, spot_of}
use types.Logic.{Logic}
use types.Kit.{Item, ‵, ⋆, Goal, allocs, passes, frees, Seq, Step, step, ◌$◌, ◌∵◌, !, qed, move, drop, fsplit, fjoin, done}
use types.Run.{Walks, Finds, Opds, alloc1, pass1, free1, init, forget, from, stop, load, look, and_then}
use denote.Steps.{nothing}

abbrev pub Blocks : List Ty → Type 0
Blocks [] = Unit {0}
Blocks (τ ∷ τs) = ℕ × Blocks τs

abbrev pub Values : List Ty → Type 0
Values [] = Unit {0}
Values (τ ∷ τs) = Val × Values τs

abbrev pub Fit : (τs : List Ty) → Values τs → Type 0
Fit [] vs = Unit {0}
Fit (τ ∷ τs) vs = (T (has_ty τ vs.0) × WT vs.0) × Fit τs vs.1

abbrev pub locals : List Ty → List Local → List Local
locals [] ls = ls
locals (τ ∷ τs) ls = local τ value_local ∷ locals τs ls

abbrev pub past : List Ty → ℕ → ℕ
past [] k = k
past (τ ∷ τs) k = suc (past τs k)

abbrev pub listed : (τs : List Ty) → Values τs → List Val → List Val
listed [] vs ws = ws
listed (τ ∷ τs) vs ws = vs.0 ∷ listed τs vs.1 ws

-- from the local of number k on
abbrev pub operands : List Ty → ℕ → List Operand → List Operand
operands [] k xs = xs
operands (τ ∷ τs) k xs = copy (place k []) ∷ operands τs (suc k) xs

-- ---- their locals: room for each, what each holds, and that each may be freed
abbrev pub rooms : (τs : List Ty) → Blocks τs → Fml
rooms [] bs = ftrue
rooms (τ ∷ τs) bs = fsep (froom τ bs.0 zero) (rooms τs bs.1)

abbrev pub cells : (τs : List Ty) → Blocks τs → Values τs → Fml
cells [] bs vs = ftrue
cells (τ ∷ τs) bs vs = fsep (fat full_share τ bs.0 zero vs.0) (cells τs bs.1 vs.1)

abbrev pub deaths : (τs : List Ty) → Blocks τs → Fml
deaths [] bs = ftrue
deaths (τ ∷ τs) bs = fsep (fdies τ bs.0) (deaths τs bs.1)

abbrev pub env : (τs : List Ty) → Blocks τs → List (Ty × ℕ) → List (Ty × ℕ)
env [] bs E = E
env (τ ∷ τs) bs E = (τ, bs.0) ∷ env τs bs.1 E

module _ {M : Type 1} {𝓤 : Ura M} {𝓛 : Logic 𝓤} {K : Type 0} (t : K) where
  open 𝓛 use {H}

  pub allocs_leading : (τs : List Ty) {ls : List Local} {Kt : Env 𝓤 H → Goal 𝓤 H} {Γ : List (Item 𝓤)}
      → ((bs : Blocks τs) → Seq K 𝓛 (‵ (rooms τs bs) ∷ ‵ (deaths τs bs) ∷ Γ) (allocs ls (λ E. Kt (env τs bs E))))
      → Seq K 𝓛 Γ (allocs (locals τs ls) Kt)
  allocs_leading [] k = nothing t $ nothing t $ k tt
  allocs_leading (τ ∷ τs) {Kt = Kt} k = alloc1 t (λ b.
      allocs_leading τs {Kt = λ E. Kt ((τ, b) ∷ E)} (λ bs.
      move t (2 ∷ 0 ∷ []) $ fjoin t $ move t (2 ∷ 1 ∷ []) $ fjoin t $ move t (1 ∷ 0 ∷ []) $ k (b, bs)))

  pub passes_leading : (τs : List Ty) (bs : Blocks τs) (vs : Values τs) → Fit τs vs → {E : Env 𝓤 H} {ws : List Val} {g : Goal 𝓤 H} {Γ : List (Item 𝓤)}
      → Step K 𝓛 (‵ (cells τs bs vs) ∷ Γ) (passes E ws g) (‵ (rooms τs bs) ∷ Γ) (passes (env τs bs E) (listed τs vs ws) g)
  passes_leading [] bs vs fit = step (λ s. s)
  passes_leading (τ ∷ τs) bs vs fit = step (λ s.
      fsplit t $ pass1 t (init t 0 refl fit.0) $ move t (1 ∷ []) $ passes_leading τs bs.1 vs.1 fit.1 $
      move t (1 ∷ 0 ∷ []) $ fjoin t $ s)

  pub frees_leading : (τs : List Ty) (bs : Blocks τs) (vs : Values τs) {E : Env 𝓤 H} {g : Goal 𝓤 H} {Γ : List (Item 𝓤)}
      → Step K 𝓛 Γ (frees E g) (‵ (cells τs bs vs) ∷ ‵ (deaths τs bs) ∷ Γ) (frees (env τs bs E) g)
  frees_leading [] bs vs = step (λ s. drop t $ drop t $ s)
  frees_leading (τ ∷ τs) bs vs = step (λ s.
      fsplit t $ forget t 0 refl $ move t (2 ∷ []) $ fsplit t $ move t (2 ∷ 0 ∷ 3 ∷ 1 ∷ []) $ free1 t $
      frees_leading τs bs.1 vs.1 $ s)

-- ---- places
-- What stands for a local that there is not, in `Prog/Wp.antt`.
abbrev none : Ty × ℕ
none = (ty_enum [] ttnil, zero)

-- A local past them is that of the same number among the others.
past_them : (τs : List Ty) (bs : Blocks τs) (E : List (Ty × ℕ)) (k : ℕ) → get_or (env τs bs E) (past τs k) none ≡ get_or E k none
past_them [] bs E k = refl
past_them (τ ∷ τs) bs E k = past_them τs bs.1 E k

-- where theirs lie, from the local of number k on
abbrev At : List (Ty × ℕ) → ℕ → (τs : List Ty) → Blocks τs → Type 0
At E k [] bs = Unit {0}
At E k (τ ∷ τs) bs = (get_or E k none ≡ (τ, bs.0)) × At E (suc k) τs bs.1

under : (e : Ty × ℕ) (E : List (Ty × ℕ)) (k : ℕ) (τs : List Ty) (bs : Blocks τs) → At E k τs bs → At (e ∷ E) (suc k) τs bs
under e E k [] bs p = tt
under e E k (τ ∷ τs) bs p = (p.0, under e E (suc k) τs bs.1 p.1)

at_first : (τs : List Ty) (bs : Blocks τs) (E : List (Ty × ℕ)) → At (env τs bs E) zero τs bs
at_first [] bs E = tt
at_first (τ ∷ τs) bs E = (refl, under (τ, bs.0) (env τs bs.1 E) zero τs bs.1 (at_first τs bs.1 E))

module _ {M : Type 1} {𝓤 : Ura M} {𝓛 : Logic 𝓤} {K : Type 0} where
  open 𝓛 use {H}

  pub there : K → {Γ : List (Item 𝓤)} (τs : List Ty) (bs : Blocks τs) {e : Ty × ℕ} (E : Env 𝓤 H) (k : ℕ) {st : List PlaceStep} {sp : Spot 𝓤 H}
      → Walks K 𝓛 Γ (e ∷ env τs bs E) (spot_of 𝓤 H E k) st sp → Finds K 𝓛 Γ (e ∷ env τs bs E) (place (suc (past τs k)) st) sp
  there t {Γ = Γ} τs bs {e = e} E k {st = st} {sp = sp} w = from t
      (subst (λ (x : Ty × ℕ). Walks K 𝓛 Γ (e ∷ env τs bs E) (x.0, x.1, zero) st sp) (sym (past_them τs bs E k)) w)

  -- a context that can be had from another, and the other from it, reads the same
  alike : {Γ Γ' : List (Item 𝓤)} {E : Env 𝓤 H} {xs : List Operand} {vs : List Val} → ent 𝓤 (⋆ 𝓛 Γ) (⋆ 𝓛 Γ') → ent 𝓤 (⋆ 𝓛 Γ') (⋆ 𝓛 Γ)
      → Opds K 𝓛 Γ' E xs vs → Opds K 𝓛 Γ E xs vs
  alike {Γ = Γ} {Γ' = Γ'} to back os = record { go = λ Kt h. via 𝓤 (⋆ 𝓛 Γ') to (os.go Kt (via 𝓤 (⋆ 𝓛 Γ) back h)) }

  leads_from : K → (τs : List Ty) (bs : Blocks τs) (vs : Values τs) {E : Env 𝓤 H} (k : ℕ) → At E k τs bs
      → {i : Item 𝓤} {Γ : List (Item 𝓤)} {xs : List Operand} {ws : List Val} → Opds K 𝓛 (i ∷ ‵ (cells τs bs vs) ∷ Γ) E xs ws
      → Opds K 𝓛 (i ∷ ‵ (cells τs bs vs) ∷ Γ) E (operands τs k xs) (listed τs vs ws)
  leads_from t [] bs vs k p os = os
  leads_from t (τ ∷ τs) bs vs {E = E} k p {i = i} {Γ = Γ} os =
      let c : Fml = fat full_share τ bs.0 zero vs.0 in
      let r : Fml = cells τs bs.1 vs.1 in
      let Δ : List (Item 𝓤) = i ∷ ‵ r ∷ ‵ c ∷ Γ in
      let to : ent 𝓤 (⋆ 𝓛 (i ∷ ‵ (fsep c r) ∷ Γ)) (⋆ 𝓛 Δ)
      = qed 𝓛 (i ∷ ‵ (fsep c r) ∷ Γ) ∵ move ! (1 ∷ []) $ fsplit ! $ move ! (2 ∷ 1 ∷ 0 ∷ []) $ done ! in
      let back : ent 𝓤 (⋆ 𝓛 Δ) (⋆ 𝓛 (i ∷ ‵ (fsep c r) ∷ Γ))
      = qed 𝓛 Δ ∵ move ! (2 ∷ 1 ∷ []) $ fjoin ! $ move ! (1 ∷ 0 ∷ []) $ done ! in
      alike to back (and_then t
      (load t (from t (subst (λ (x : Ty × ℕ). Walks K 𝓛 Δ E (x.0, x.1, zero) [] (τ, bs.0, zero)) (sym p.0) (stop t))) (look t 2 refl))
      (leads_from t τs bs.1 vs.1 (suc k) p.1 (alike back to os)))

  pub leads : K → (τs : List Ty) (bs : Blocks τs) (vs : Values τs) {e : Ty × ℕ} (E : Env 𝓤 H) {i : Item 𝓤} {Γ : List (Item 𝓤)} {xs : List Operand} {ws : List Val}
      → Opds K 𝓛 (i ∷ ‵ (cells τs bs vs) ∷ Γ) (e ∷ env τs bs E) xs ws
      → Opds K 𝓛 (i ∷ ‵ (cells τs bs vs) ∷ Γ) (e ∷ env τs bs E) (operands τs 1 xs) (listed τs vs ws)
  leads t τs bs vs {e = e} E os = leads_from t τs bs vs 1 (under e (env τs bs E) zero τs bs (at_first τs bs E)) os
