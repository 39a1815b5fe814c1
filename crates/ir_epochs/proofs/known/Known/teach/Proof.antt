-- A note of the same cell is shut knowing the value.
use Rattle.std.proofs.Common.{◌≡◌, ℕ, List, [], ◌∷◌, ◌++◌, refl, sym, subst}
use mir.Syntax.{a_type}
use mir.Val.{Val, vunit, vptr}
use mir.MapTy.{inst_fn}
use base.Logic.{SProp, ent, emp, id⊢, apply∗, all, all_e}
use base.Fml.{Lft, Share, Fml, ftrue, fsep, flft}
use prog.Wp.{WpFn}
use types.Logic.{sem}
use types.Kit.{‵, raw, ◌⊛◌, later, ◌$◌, ◌∵◌, !, qed, by, move, keep, drop, split, split3, join, fsplit, fsplit3, fjoin, suffices, use0, use1, use2, await, rewrite, feq_i}
use types.Run.{of_opd, unit_lit, returns, enter}
use types.ByLocal.{alloc_all, pass_all, free_all, look_at, sets}
use contract.Monad.{fact, fact_i}
use contract.Running.{tables}
use denote.Exit.{yes}
use denote.RattleType.{RattleType, owns}
use denote.Signature.{types_at, plain}
use denote.Steps.{nothing, heard}
use denote.Opens.{unhide}
use denote.Param.{param, layouts}
use denote.Builtin.{RefOf}
use denote.Triple.Walked.{Stays, stay_dropped, walk_of, Goes-dropped, stay_ref, Goes-ref}
use Rattle.std.proofs.raw_atomic.Walks.{proved_at, leaves}
use Rattle.std.specs.declared.option.Option.TheVariants.{Some}
use Rattle.once_cell.specs.Once.{noted}
use Rattle.once_cell.proofs.Notes as notes
use Rattle.once_cell.proofs.Notes.{Note}
use Rattle.ir_epochs.specs.contracts.known.Known as Known
use Rattle.ir_epochs.specs.contracts.known.Known.teach.{ended, clauses}
use Rattle.ir_epochs.specs.contracts.known.Known.teach.Key.{name as #self}
use Rattle.ir_epochs.proofs.known.Known.teach.Statement.{statement}
use Rattle.ir_epochs.proofs.known.Known.teach.Code as code

pub teach_spec : {M : Type 1} → statement M
teach_spec 𝓤 𝓛 𝓜 𝓡 wired T L =
    let H = 𝓛.H in let 𝓣 = tables 𝓤 H 𝓜 𝓡 𝓡.env in let R : RattleType = param 0 T in let En = ended T in let c = clauses T 𝓛 𝓜.mem 𝓡.returns in let S : RattleType = Known.the_row R in
    let inst = layouts (a_type ∷ []) (T, tt) in let fn = inst_fn inst code.function in let self = RefOf (0 ∷ []) tt (plain (λ _. S)) (λ _. tt) in
    let hs : Stays En.signature.params En.kept = (stay_dropped self yes, (stay_ref (1 ∷ []) tt (plain (λ _. Note 𝓛 R)), tt)) in
    proved_at 𝓛 En hs c 𝓜 𝓡 (Goes-dropped 𝓛 3 self yes (λ κs x f. refl), (Goes-ref 𝓛 3 1 tt (plain (λ _. Note 𝓛 R)), tt)) (#self inst) fn (code.unfolded 𝓤 H 𝓜 𝓡 wired (T, tt)) (λ z are.
    let κs = z.0.0 in let qs = z.0.1 in let Post : Val → SProp 𝓤 = (walk_of 𝓛 En hs c).post z in let Run : List Val → SProp 𝓤 = λ ws. WpFn 𝓤 H 𝓣.C 𝓣.Λ fn ws Post in
    let at : Val = vptr z.0.3.0.ref_ptr.0 z.0.3.0.ref_ptr.1 in let γ : ℕ = z.0.3.0.now.cell in let x : R.Denot = z.0.3.0.now.value in
    let κ : Lft = κs.1.0 in let q : Share = qs.1.0 in let m = z.0.3.1.0 in let b : ℕ = m.ref_ptr.0 in let o : ℕ = m.ref_ptr.1 in let ν : ℕ = m.ghost_name in let n = m.now in
    let N : Fml = noted R n.cell (Some x) in let Vs : List Val = at ∷ vptr b o ∷ [] in let Shuts = notes.Shuts 𝓛 R κ q b o ν in
    let t : (Note 𝓛 R).Denot = record { marker = n.marker; cell = n.cell; known = Some x } in let Told : Type 0 = (n.cell ≡ n.cell) × (t.known ≡ Some x) in
    qed 𝓛 (((‵ (flft κs.0 qs.0) ⊛ ‵ (flft κ q) ⊛ ‵ (fsep (flft κs.1.1.0 qs.1.1.0) ftrue)) ⊛ ‵ (owns (types_at En.signature.params κs) z.0.3 z.0.4)) ∷ raw (fact 𝓤 _) ∷ raw (fact 𝓤 (n.cell ≡ γ)) ∷ []) ∵
    move ! (2 ∷ []) $ heard ! (n.cell ≡ γ) (λ same. keep ! (0 ∷ []) $ split ! $ split3 ! $ move ! (3 ∷ []) $ fsplit3 ! $ fsplit ! $ move ! (1 ∷ []) $ unhide ! $ fsplit ! $ drop ! $ rewrite ! 0 (λ (k : ℕ). ‵ (noted R k (Some x))) (sym same) refl $
    move ! (2 ∷ []) $ fsplit ! $ keep ! (1 ∷ 2 ∷ 6 ∷ 5 ∷ 7 ∷ []) $
    suffices ! (Run Vs) (subst (λ (us : List Val). ent 𝓤 (Run Vs) (Run us)) (sym (λ i. are.0.0 i ++ (are.1.0.0 i ++ []))) (id⊢ 𝓤 (Run Vs))) $
    enter ! 𝓣.C 𝓣.Λ fn Vs Post $ alloc_all ! (λ l. pass_all ! refl ((tt, tt), ((tt, tt), tt)) $ move ! (0 ∷ 2 ∷ []) $
    use2 𝓛 (later (‵ (noted R n.cell n.known) ⊛ raw (all 𝓤 Shuts))) (notes.note_opens 𝓛 R κ q b o ν n) $ await ! tt $ split ! $ drop ! $ use1 𝓛 (raw (Shuts t)) (all_e 𝓤 Shuts t) $ move ! (1 ∷ 0 ∷ []) $
    use2 𝓛 (later (‵ (notes.lent 𝓛 R κ q b o ν t) ⊛ ‵ (flft κ q))) (apply∗ 𝓤 (sem 𝓛 N) _) $ await ! tt $ split ! $
    feq_i ! (List Val) z.0.4.1.0 (vptr b o ∷ []) are.1.0.0 $ fjoin ! $ nothing ! $ move ! (1 ∷ 0 ∷ []) $ fjoin ! $ nothing ! $ fjoin ! $
    move ! (1 ∷ 3 ∷ []) $ join ! $ move ! (2 ∷ 0 ∷ []) $ join ! $
    sets ! (of_opd ! (unit_lit !)) refl (tt, tt) $ feq_i ! (List Val) (vunit ∷ []) (vunit ∷ []) refl $ use0 𝓛 (raw (fact 𝓤 Told)) (fact_i 𝓤 Told (emp 𝓤) (refl, refl)) $
    returns ! (look_at ! 0 refl) $ free_all ! refl $ keep ! (2 ∷ 3 ∷ 1 ∷ 0 ∷ []) $ by ! (leaves 𝓛 En hs c z vunit tt (tt, (t, tt)) (tt, (tt, tt))))))
