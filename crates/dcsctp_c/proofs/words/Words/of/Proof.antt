-- `of` takes what the box's own function gives out: a pair, and the memory behind its pointer.
-- Together they are the words.
use Rattle.std.proofs.Common.{◌≡◌, List, [], ◌∷◌, ◌++◌, refl, sym, ap}
use mir.Syntax.{a_type, dcons, dnil}
use mir.MapTy.{inst_fn}
use mir.Val.{Val}
use base.Logic.{id⊢}
use base.Fml.{ftrue, fsep, flft}
use prog.Wp.{WpFn}
use types.Kit.{‵, raw, ◌⊛◌, some, later, prop, ◌$◌, ◌∵◌, !, qed, move, drop, use1, split, split3, join, fjoin, pick, await, rewrite, regoal, suffices, done}
use types.Part.{whole, sub, agg}
use types.Run.{stop, fld, of_opd, no_more, and_then, returns, enter}
use types.ByLocal.{alloc_all, pass_all, free_all, look_at, get, get_in, sets, lands_as}
use contract.Monad.{fact}
use contract.Running.{tables}
use denote.Builtin.{RawPtr}
use denote.Exit.{no}
use denote.Laws.{Is, Typed, shows}
use denote.Param.{param, layout, bounded}
use denote.Param.Laws.{param_laws}
use denote.RawPtr.{Ptr, ptr_val}
use denote.Signature.{plain}
use denote.Steps.{nothing, only, heard, peeks}
use denote.Struct.Tuple.{Tuple}
use denote.Triple.Call.{calls_at}
use denote.Triple.Clauses.{Lasts, lasts}
use denote.Triple.Spec.{triple_of}
use denote.Triple.Table.{framed}
use denote.Triple.Walked.{says, Stays, stay_dropped, walk_of, ends_at}
use Rattle.core.proofs.alloc.Calls.{Goes-blank}
use Rattle.core.proofs.atomic.Steps.{Ptr-Good}
use Rattle.std.proofs.raw_atomic.Walks.{proved_at}
use Rattle.std_alloc.specs.Box.Ownership.{box_owns}
use Rattle.std_alloc.specs.contracts.boxed.Box as box
use Rattle.std_alloc.specs.contracts.boxed.Box.into_raw_with_allocator as callee
use Rattle.std_alloc.proofs.boxed.Box.into_raw_with_allocator.Met.{met}
use Rattle.dcsctp_c.proofs.TwoWords.{two, reads, fits}
use Rattle.dcsctp_c.specs.contracts.words.Words.of as f
use Rattle.dcsctp_c.proofs.words.Words.of.Statement.{statement}
use Rattle.dcsctp_c.proofs.words.Words.of.Code as code

pub of_spec : {M : Type 1} → statement M
of_spec 𝓤 𝓛 𝓜 𝓡 wired T A LT LA g d dx dd allocator glue glued =
    let R = param 0 T in let Z = param 1 A in let τ = layout A in
    let typed : (a : A.Denot) (vs : List Val) → Is Z a vs → Typed (τ ∷ []) vs = ((param_laws 1 A LA).lawful 𝓛).typed in
    let args = bounded (a_type ∷ a_type ∷ []) (T, (A, tt)) (dcons d (dcons dx (dcons dd dnil))) in
    let ended = f.ended T A g d dx dd in let c = f.clauses T A g d dx dd 𝓛 𝓜.mem 𝓡.returns in
    let 𝓣 = tables 𝓤 𝓛.H 𝓜 𝓡 𝓡.env in let fn = inst_fn args code.function in
    let Whole = box.the_row R Z g in let Halves = Tuple (RawPtr ∷ Z ∷ []) in
    let stayed : Stays ended.signature.params ended.kept = (stay_dropped (plain (λ _. Whole)) no, tt) in
    proved_at 𝓛 ended stayed c 𝓜 𝓡 (Goes-blank 𝓛 2 (plain (λ _. Whole)) no (λ κs x w. tt), tt)
    (f.Key.name args) fn (code.unfolded 𝓤 𝓛.H 𝓜 𝓡 wired (T, (A, tt)) d dx dd) (λ y are.
    let κs = y.0.0 in let qs = y.0.1 in let b = y.0.3.0 in let vs = y.0.4.0 in
    let post = (walk_of 𝓛 ended stayed c).post y in
    let at = reads Z τ typed b.ptr b.alloc vs are.0.0 in let v = two (ptr_val b.ptr) at.0 in
    let tokens = ‵ (flft κs.0 qs.0) ⊛ ‵ (flft κs.1.0 qs.1.0) ⊛ ‵ ftrue in
    let G = triple_of 𝓛 (callee.signature T A g d dd dx) (callee.spec T A g d dd dx 𝓛 𝓜.mem 𝓡.returns) in
    let Called = callee.ended T A g d dd dx in
    let z : G.Ghost = ((κs, qs, tt, (b, tt), (v ∷ [], tt)), tt) in
    qed 𝓛 ((tokens ⊛ ‵ (fsep (Whole.own_val b vs) ftrue)) ∷ raw ((c κs y.0.3).requires tt) ∷ []) ∵
    rewrite ! 0 (λ (us : List Val). tokens ⊛ ‵ (fsep (Whole.own_val b us) ftrue)) at.1 refl $ join ! $ use1 𝓛 (raw (G.pre z)) (id⊢ 𝓤 _) $
    regoal ! (λ (us : List Val). prop (WpFn 𝓤 𝓛.H 𝓣.C 𝓣.Λ fn (us ++ []) post)) at.1 refl $
    enter ! _ _ _ _ _ $ alloc_all ! (λ l. pass_all ! refl (fits τ b.ptr at.0 at.2, tt) $
    sets ! (of_opd ! (get ! refl)) refl (fits τ b.ptr at.0 at.2) $
    calls_at ! (framed 𝓤 𝓛.H 𝓜 𝓣) G (met 𝓤 𝓛 𝓜 𝓡 (code.calls-std_alloc::boxed::Box::into_raw_with_allocator 𝓡.env wired) T A LT LA g d dd dx allocator glued glue) z
    (and_then ! (get ! refl) (no_more !)) (λ u.
    use1 𝓛 (later (some (λ (r : Ptr × A.Denot). (tokens ⊛ ‵ (Halves.own_val r (u ∷ []))) ⊛
    some (λ (ws : Lasts Called κs z.0.3). ‵ (lasts Called κs z.0.3 ws) ⊛ raw (fact 𝓤 (r.1 ≡ b.alloc)) ⊛ ‵ (box_owns (g.dealloc_token b.alloc) R r.0 b.value))))) (id⊢ 𝓤 _) $
    await ! tt $ pick ! (λ r. split ! $ move ! (1 ∷ []) $ pick ! (λ ws. split3 ! $ drop ! $ heard ! (r.1 ≡ b.alloc) (λ same.
    rewrite ! 0 (λ (a : A.Denot). ‵ (box_owns (g.dealloc_token a) R r.0 b.value)) (sym same) refl $
    move ! (1 ∷ []) $ split ! $ move ! (1 ∷ []) $ peeks ! Halves _ (shows 𝓛 Halves) r (u ∷ []) (λ is.
    -- [the pair; the tokens; the memory; the locals]
    let got = reads Z τ typed r.0 r.1 (u ∷ []) is in let w = two (ptr_val r.0) got.0 in let fit = fits τ r.0 got.0 got.2 in
    rewrite ! 0 (λ (us : List Val). ‵ (Halves.own_val r us)) got.1 refl $
    lands_as ! (ap only got.1) refl fit $
    sets ! (of_opd ! (get_in ! (fld ! refl (stop !)) (sub ! 0 refl (whole !)))) refl (Ptr-Good r.0) $
    sets ! (of_opd ! (get_in ! (fld ! refl (stop !)) (sub ! 1 refl (whole !)))) refl got.2 $
    sets ! (of_opd ! (get ! refl)) refl got.2 $
    sets ! (agg ! (and_then ! (get ! refl) (and_then ! (get ! refl) (no_more !)))) refl fit $
    returns ! (look_at ! 0 refl) $ free_all ! refl $
    move ! (0 ∷ 2 ∷ []) $ fjoin ! $
    suffices ! _ (ends_at 𝓛 ended stayed c y w (record { ptr = r.0; alloc = r.1; value = b.value }) ((tt, (tt, tt)), tt) (tt, tt)) $ says ! refl $
    nothing ! $ nothing ! $ fjoin ! $ join ! $ move ! (1 ∷ 0 ∷ []) $ join ! $ done !)))))))
