-- `into_box` hands the allocator, the pointer and the memory behind it to the box's own function.
use Rattle.std.proofs.Common.{◌≡◌, List, [], ◌∷◌, ◌++◌, refl, sym, ap, subst}
use mir.Syntax.{a_type, dcons, dnil, ty_ptr, ty_struct, tcons, tnil}
use mir.MapTy.{inst_fn}
use mir.Val.{Val}
use base.Logic.{id⊢, emp}
use base.Fml.{ftrue, fsep, flft}
use prog.Wp.{WpFn}
use types.Kit.{‵, raw, ◌⊛◌, some, later, prop, at_ret, ◌$◌, ◌∵◌, !, qed, move, drop, use1, split, split3, join, fsplit, fjoin, feq_i, pick, await, regoal, suffices, done}
use types.Part.{whole, sub}
use types.Run.{stop, fld, of_opd, no_more, and_then, first, blocks, exec, returns, enter}
use types.ByLocal.{alloc_all, pass_all, free_all, look_at, get, get_in, sets, lands_last, env}
use contract.BorrowLft.{◌⊑◌}
use contract.Monad.{fact}
use contract.Running.{tables}
use denote.Exit.{no}
use denote.Laws.{Is, Typed, shows}
use denote.Param.{param, layout, bounded}
use denote.Param.Laws.{param_laws}
use denote.RawPtr.{ptr_val}
use denote.Signature.{plain}
use denote.Steps.{nothing, only, heard, peeks}
use denote.Triple.Call.{calls_at_last}
use denote.Triple.Clauses.{Lasts, lasts}
use denote.Triple.Spec.{triple_of}
use denote.Triple.Table.{framed}
use denote.Triple.Walked.{says, Stays, stay_dropped, walk_of, ends_at}
use Rattle.core.proofs.alloc.Calls.{Goes-blank}
use Rattle.core.proofs.atomic.Steps.{Ptr-Good}
use Rattle.core.proofs.cell.Inside.{Good}
use Rattle.std.proofs.VecSteps.Shapes.{after}
use Rattle.std.proofs.raw_atomic.Walks.{proved_at}
use Rattle.std_alloc.specs.contracts.boxed.Box as box
use Rattle.std_alloc.specs.contracts.boxed.Box.from_raw as callee
use Rattle.std_alloc.proofs.boxed.Box.from_raw.Met.{met}
use Rattle.dcsctp_c.proofs.TwoWords.{reads, fits, opens}
use Rattle.dcsctp_c.specs.contracts.words.Words as words
use Rattle.dcsctp_c.specs.contracts.words.Words.into_box as f
use Rattle.dcsctp_c.proofs.words.Words.into_box.Statement.{statement}
use Rattle.dcsctp_c.proofs.words.Words.into_box.Code as code

pub into_box_spec : {M : Type 1} → statement M
into_box_spec 𝓤 𝓛 𝓜 𝓡 wired T A LT LA g d dx dd allocator glue glued =
    let R = param 0 T in let Z = param 1 A in let τ = layout A in
    let typed : (a : A.Denot) (vs : List Val) → Is Z a vs → Typed (τ ∷ []) vs = ((param_laws 1 A LA).lawful 𝓛).typed in
    let args = bounded (a_type ∷ a_type ∷ []) (T, (A, tt)) (dcons d (dcons dx (dcons dd dnil))) in
    let ended = f.ended T A g d dx dd in let c = f.clauses T A g d dx dd 𝓛 𝓜.mem 𝓡.returns in
    let 𝓣 = tables 𝓤 𝓛.H 𝓜 𝓡 𝓡.env in let fn = inst_fn args code.function in
    let Apart = words.the_row R Z g in let Whole = box.the_row R Z g in
    let stayed : Stays ended.signature.params ended.kept = (stay_dropped (plain (λ _. Apart)) no, tt) in
    proved_at 𝓛 ended stayed c 𝓜 𝓡 (Goes-blank 𝓛 2 (plain (λ _. Apart)) no (λ κs x w. tt), tt)
    (f.Key.name args) fn (code.unfolded 𝓤 𝓛.H 𝓜 𝓡 wired (T, (A, tt)) d dx dd) (λ y are.
    let κs = y.0.0 in let qs = y.0.1 in let b = y.0.3.0 in let vs = y.0.4.0 in
    let post = (walk_of 𝓛 ended stayed c).post y in
    let tokens = ‵ (flft κs.0 qs.0) ⊛ ‵ (flft κs.1.0 qs.1.0) ⊛ ‵ ftrue in
    let living = raw (fact 𝓤 (κs.0 ⊑ T.lives)) ⊛ raw (fact 𝓤 (κs.1.0 ⊑ A.lives)) ⊛ raw (emp 𝓤) in
    let G = triple_of 𝓛 (callee.signature T A g d dd) (callee.spec T A g d dd 𝓛 𝓜.mem 𝓡.returns) in
    let Called = callee.ended T A g d dd in
    qed 𝓛 ((tokens ⊛ ‵ (fsep (Apart.own_val b vs) ftrue)) ∷ living ∷ []) ∵
    split ! $ move ! (1 ∷ []) $ fsplit ! $ fsplit ! $ opens Z τ typed ! b.ptr b.alloc vs (λ h is good.
    let z : G.Ghost = ((κs, qs, tt, (b.alloc, (b.ptr, tt)), (h ∷ [], (ptr_val b.ptr ∷ [], tt))), b.value) in
    -- [the allocator; the memory; true; the tokens; that the types live]
    regoal ! (λ (us : List Val). prop (WpFn 𝓤 𝓛.H 𝓣.C 𝓣.Λ fn (us ++ []) post)) is refl $
    move ! (2 ∷ []) $ feq_i ! (List Val) (ptr_val b.ptr ∷ []) (ptr_val b.ptr ∷ []) refl $ fjoin ! $ move ! (1 ∷ 0 ∷ []) $ fjoin ! $
    move ! (2 ∷ 0 ∷ []) $ join ! $ move ! (2 ∷ []) $ split3 ! $ move ! (2 ∷ []) $ drop ! $
    move ! (0 ∷ 1 ∷ 3 ∷ 2 ∷ []) $ move ! (1 ∷ 2 ∷ []) $ join ! $ move ! (1 ∷ 0 ∷ []) $ join ! $ move ! (1 ∷ 0 ∷ []) $ join ! $ use1 𝓛 (raw (G.pre z)) (id⊢ 𝓤 _) $
    enter ! _ _ _ _ _ $ alloc_all ! (λ l. pass_all ! refl (fits τ b.ptr h good, tt) $
    sets ! (of_opd ! (get_in ! (fld ! refl (stop !)) (sub ! 0 refl (whole !)))) refl (Ptr-Good b.ptr) $
    sets ! (of_opd ! (get_in ! (fld ! refl (stop !)) (sub ! 1 refl (whole !)))) refl good $
    first ! $ blocks ! $ sets ! (of_opd ! (get ! refl)) refl good $
    calls_at_last ! (framed 𝓤 𝓛.H 𝓜 𝓣) G (met 𝓤 𝓛 𝓜 𝓡 (code.calls-std_alloc::boxed::Box::from_raw 𝓡.env wired) T A LT LA g d dd allocator glued) z
    (and_then ! (get ! refl) (and_then ! (get ! refl) (no_more !))) (λ u.
    use1 𝓛 (later (some (λ (r : Whole.Denot). (tokens ⊛ ‵ (Whole.own_val r (u ∷ []))) ⊛
    some (λ (ws : Lasts Called κs z.0.3). ‵ (lasts Called κs z.0.3 ws) ⊛ raw (fact 𝓤 (r.value ≡ b.value)) ⊛ raw (fact 𝓤 (r.alloc ≡ b.alloc)))))) (id⊢ 𝓤 _) $
    await ! tt $ pick ! (λ r. split ! $ move ! (1 ∷ []) $ pick ! (λ ws. split3 ! $ drop ! $ heard ! (r.value ≡ b.value) (λ same. drop ! $
    split ! $ move ! (1 ∷ []) $ peeks ! Whole _ (shows 𝓛 Whole) r (u ∷ []) (λ are'.
    -- [the box; the tokens; the locals]
    let got = reads Z τ typed r.ptr r.alloc (u ∷ []) are'.0 in
    let fit : Good (ty_struct [] (tcons ty_ptr (tcons τ tnil))) u = subst (Good (ty_struct [] (tcons ty_ptr (tcons τ tnil)))) (sym (ap only got.1)) (fits τ r.ptr got.0 got.2) in
    lands_last ! refl fit $ exec ! 𝓣.C 𝓣.Λ (env fn.locals l) (after 3 fn.body) (at_ret _ post) $
    sets ! (of_opd ! (get ! refl)) refl fit $
    returns ! (look_at ! 0 refl) $ free_all ! refl $
    suffices ! _ (ends_at 𝓛 ended stayed c y u r ((tt, (tt, tt)), tt) (tt, tt)) $ says ! same $
    nothing ! $ nothing ! $ fjoin ! $ join ! $ move ! (1 ∷ 0 ∷ []) $ join ! $ done !))))))))
