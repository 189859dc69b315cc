-- `of_words` moves two fields. What the words of a session's box own is what the slot owns.
use Rattle.std.proofs.Common.{List, [], ◌∷◌, ◌++◌, Some, refl}
use mir.Val.{Val}
use base.Logic.{emp}
use base.Fml.{ftrue, fsep}
use prog.Wp.{WpFn}
use types.Kit.{‵, raw, ◌⊛◌, prop, ◌$◌, ◌∵◌, !, qed, keep, drop, split, join, fsplit, fjoin, rewrite, regoal, suffices, done}
use types.Part.{whole, sub, agg}
use types.Run.{stop, fld, of_opd, no_more, and_then, returns, enter}
use types.ByLocal.{alloc_all, pass_all, free_all, look_at, get, get_in, sets}
use contract.Running.{tables}
use denote.Exit.{yes}
use denote.RawPtr.{ptr_val}
use denote.Signature.{plain}
use denote.Steps.{nothing}
use denote.Triple.Walked.{says, Stays, stay_dropped, walk_of, ends_at, Goes-dropped}
use Rattle.core.proofs.atomic.Steps.{Ptr-Good}
use Rattle.std.proofs.raw_atomic.Walks.{proved_at}
use Rattle.dcsctp_c.proofs.TwoWords.{two, reads, fits}
use Rattle.dcsctp_c.proofs.SlotRows.{Heap, word, typed, Apart}
use Rattle.dcsctp_c.specs.contracts.slot.Slot.of_words as f
use Rattle.dcsctp_c.proofs.slot.Slot.of_words.Statement.{statement}
use Rattle.dcsctp_c.proofs.slot.Slot.of_words.Code as code

abbrev stayed : Stays f.ended.signature.params f.ended.kept
stayed = (stay_dropped (plain (λ _. Apart)) yes, tt)

pub of_words_spec : {M : Type 1} → statement M
of_words_spec 𝓤 𝓛 𝓜 𝓡 wired =
    let c = f.clauses 𝓛 𝓜.mem 𝓡.returns in let 𝓣 = tables 𝓤 𝓛.H 𝓜 𝓡 𝓡.env in
    proved_at 𝓛 f.ended stayed c 𝓜 𝓡 (Goes-dropped 𝓛 0 (plain (λ _. Apart)) yes (λ κs x w. refl), tt)
    f.Key.name code.function (code.unfolded 𝓤 𝓛.H 𝓜 𝓡 wired) (λ y are.
    let b = y.0.3.0 in let vs = y.0.4.0 in let post = (walk_of 𝓛 f.ended stayed c).post y in
    let at = reads Heap word (typed 𝓛) b.ptr b.alloc vs are.0.0 in
    let w = two (ptr_val b.ptr) at.0 in let fit = fits word b.ptr at.0 at.2 in
    qed 𝓛 ((‵ ftrue ⊛ ‵ (fsep (Apart.own_val b vs) ftrue)) ∷ raw (emp 𝓤) ∷ []) ∵
    split ! $ drop ! $ fsplit ! $ rewrite ! 0 (λ (us : List Val). ‵ (Apart.own_val b us)) at.1 refl $ keep ! (0 ∷ []) $
    regoal ! (λ (us : List Val). prop (WpFn 𝓤 𝓛.H 𝓣.C 𝓣.Λ code.function (us ++ []) post)) at.1 refl $
    enter ! _ _ _ _ _ $ alloc_all ! (λ l. pass_all ! refl (fit, tt) $
    sets ! (of_opd ! (get_in ! (fld ! refl (stop !)) (sub ! 0 refl (whole !)))) refl (Ptr-Good b.ptr) $
    sets ! (of_opd ! (get_in ! (fld ! refl (stop !)) (sub ! 1 refl (whole !)))) refl at.2 $
    sets ! (of_opd ! (get ! refl)) refl (Ptr-Good b.ptr) $
    sets ! (agg ! (and_then ! (get ! refl) (and_then ! (get ! refl) (no_more !)))) refl fit $
    returns ! (look_at ! 0 refl) $ free_all ! refl $
    suffices ! _ (ends_at 𝓛 f.ended stayed c y w (record { ptr = b.ptr; alloc = b.alloc; value = Some b.value }) (tt, tt) (tt, tt)) $ says ! refl $
    nothing ! $ nothing ! $ fjoin ! $ join ! $ nothing ! $ join ! $ done !))
