-- A fact of the logic has at most one proof, so what is merely known may be stated as a fact.
use Rattle.std.proofs.Common.{List, [], ◌∷◌, refl}
use mathlib.Core.Logic.{∥∥₁_elim}
use seplogic.Ra.Ura.{Ura}
use mir.Syntax.{a_type, dcons, dnil, named}
use mir.Val.{Val, vptr, vunit}
use mir.MapTy.{inst_fn}
use base.Logic.{SProp, ent, emp}
use types.Kit.{‵, raw, ◌⊛◌, ◌$◌, ◌∵◌, !, qed, by, move, keep, use0, split, fjoin, feq_i}
use types.Run.{of_opd, unit_lit, returns, enter}
use types.ByLocal.{alloc_all, pass_all, free_all, look_at, sets}
use contract.BorrowLft.{◌⊑◌}
use contract.Monad.{fact, fact_i}
use contract.Running.{tables}
use denote.Exit.{yes}
use denote.RattleType.{RattleType, owns}
use denote.Signature.{types_at, plain}
use denote.Steps.{nothing, heard}
use denote.Param.{param, bounded}
use denote.Builtin.{RefOf}
use denote.Ref.{shr_vals, shr_Tells}
use denote.Triple.Entry.{alive}
use denote.Triple.Walked.{Stays, stay_dropped, walk_of, Goes-dropped}
use Rattle.std.proofs.raw_atomic.Walks.{proved, leaves}
use Rattle.prettyless_doc.specs.contracts.fact.holds.{ended, clauses}
use Rattle.prettyless_doc.specs.contracts.fact.holds.Key.{name as #self}
use Rattle.prettyless_doc.proofs.fact.holds.Statement.{statement}
use Rattle.prettyless_doc.proofs.fact.holds.Code as code

-- what is merely known is a fact of the logic
merely_fact : {M : Type 1} (𝓤 : Ura M) (A : Type 0) → ∥ A ∥₁ → ent 𝓤 (emp 𝓤) (fact 𝓤 A)
merely_fact 𝓤 A merely =
    record { apply = λ m h. ∥∥₁_elim merely ((fact 𝓤 A).holds_prop m) (λ a. (fact_i 𝓤 A (emp 𝓤) a).apply m h) }

pub holds_spec : {M : Type 1} → statement M
holds_spec 𝓤 𝓛 𝓜 𝓡 wired T Y L LY g d _ =
    let H = 𝓛.H in let 𝓣 = tables 𝓤 H 𝓜 𝓡 𝓡.env in let R : RattleType = param 0 T in let En = ended T Y g d in
    let inst = bounded (a_type ∷ a_type ∷ []) (T, (Y, tt)) (dcons d dnil) in let fn = inst_fn inst code.function in
    let c = clauses T Y g d 𝓛 𝓜.mem 𝓡.returns in
    let arg = RefOf (0 ∷ []) tt (plain (λ _. R)) (λ _. tt) in let hs : Stays En.signature.params En.kept = (stay_dropped arg yes, tt) in
    proved 𝓛 En hs c 𝓜 𝓡 (Goes-dropped 𝓛 3 arg yes (λ κs x f. refl), tt) (#self inst) fn (code.unfolded 𝓤 H 𝓜 𝓡 wired (T, (Y, tt)) d)
    (λ κs. (shr_vals, tt)) (λ κs. (shr_Tells (named 0) κs.0 R, tt)) (λ κs qs bounds a gh are.
    let p : Val = vptr a.0.ref_ptr.0 a.0.ref_ptr.1 in let A : Type 0 = g.holds a.0.now in
    let y : (walk_of 𝓛 En hs c).Ghost = ((κs, qs, bounds, a, (p ∷ [], tt)), gh) in let Post : Val → SProp 𝓤 = (walk_of 𝓛 En hs c).post y in
    qed 𝓛 ((raw (alive 𝓛 En.signature κs qs) ⊛ ‵ (owns (types_at En.signature.params κs) a y.0.4))
    ∷ raw (fact 𝓤 (κs.1.0 ⊑ T.lives)) ∷ raw (fact 𝓤 (κs.1.1.0 ⊑ Y.lives)) ∷ raw (fact 𝓤 (∥ A ∥₁)) ∷ []) ∵
    move ! (3 ∷ []) $ heard ! (∥ A ∥₁) (λ merely. split ! $ keep ! (0 ∷ []) $
    enter ! 𝓣.C 𝓣.Λ fn (p ∷ []) Post $ alloc_all ! (λ l. pass_all ! refl ((tt, tt), tt) $
    sets ! (of_opd ! (unit_lit !)) refl (tt, tt) $ feq_i ! (List Val) (vunit ∷ []) (vunit ∷ []) refl $
    use0 𝓛 (raw (fact 𝓤 A)) (merely_fact 𝓤 A merely) $ nothing ! $ nothing ! $ fjoin ! $
    returns ! (look_at ! 0 refl) $ free_all ! refl $ keep ! (3 ∷ 0 ∷ 2 ∷ 1 ∷ []) $ by ! (leaves 𝓛 En hs c y vunit tt (tt, tt) (tt, tt)))))
