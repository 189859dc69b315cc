-- `empty` makes a slot of a null pointer, which owns nothing.
use Rattle.std.proofs.Common.{List, [], ◌∷◌, ◌++◌, None, refl}
use mir.Val.{Val}
use base.Logic.{emp}
use base.Fml.{ftrue, fsep}
use prog.Wp.{WpFn}
use types.Kit.{‵, raw, ◌⊛◌, prop, ◌$◌, ◌∵◌, !, qed, keep, move, drop, split, join, fsplit, fjoin, rewrite, regoal, suffices, done}
use types.Part.{agg}
use types.Run.{lit, no_more, and_then, returns, enter}
use types.ByLocal.{alloc_all, pass_all, free_all, look_at, get, sets}
use contract.Running.{tables}
use denote.Exit.{yes}
use denote.RawPtr.{null_ptr, ptr_val}
use denote.Signature.{plain}
use denote.Steps.{nothing}
use denote.Triple.Walked.{says, Stays, stay_dropped, walk_of, ends_at, Goes-dropped}
use Rattle.core.proofs.cell.Inside.{one}
use Rattle.std.proofs.raw_atomic.Walks.{proved_at}
use Rattle.dcsctp_c.proofs.TwoWords.{two, fits, closes}
use Rattle.dcsctp_c.proofs.SlotRows.{Heap, word, typed}
use Rattle.dcsctp_c.specs.contracts.slot.Slot.empty as f
use Rattle.dcsctp_c.proofs.slot.Slot.empty.Statement.{statement}
use Rattle.dcsctp_c.proofs.slot.Slot.empty.Code as code

abbrev stayed : Stays f.ended.signature.params f.ended.kept
stayed = (stay_dropped (plain (λ _. Heap)) yes, tt)

pub empty_spec : {M : Type 1} → statement M
empty_spec 𝓤 𝓛 𝓜 𝓡 wired =
    let c = f.clauses 𝓛 𝓜.mem 𝓡.returns in let 𝓣 = tables 𝓤 𝓛.H 𝓜 𝓡 𝓡.env in
    proved_at 𝓛 f.ended stayed c 𝓜 𝓡 (Goes-dropped 𝓛 0 (plain (λ _. Heap)) yes (λ κs x w. refl), tt)
    f.Key.name code.function (code.unfolded 𝓤 𝓛.H 𝓜 𝓡 wired) (λ y are.
    let a = y.0.3.0 in let vs = y.0.4.0 in let post = (walk_of 𝓛 f.ended stayed c).post y in
    let at = one word vs (typed 𝓛 a vs are.0) in
    let w = two (ptr_val null_ptr) at.0 in let fit = fits word null_ptr at.0 at.2 in
    qed 𝓛 ((‵ ftrue ⊛ ‵ (fsep (Heap.own_val a vs) ftrue)) ∷ raw (emp 𝓤) ∷ []) ∵
    split ! $ drop ! $ fsplit ! $ rewrite ! 0 (λ (us : List Val). ‵ (Heap.own_val a us)) at.1 refl $ keep ! (0 ∷ []) $
    regoal ! (λ (us : List Val). prop (WpFn 𝓤 𝓛.H 𝓣.C 𝓣.Λ code.function (us ++ []) post)) at.1 refl $
    enter ! _ _ _ _ _ $ alloc_all ! (λ l. pass_all ! refl (at.2, tt) $
    sets ! (agg ! (and_then ! (lit ! tt) (and_then ! (get ! refl) (no_more !)))) refl fit $
    returns ! (look_at ! 0 refl) $ free_all ! refl $
    closes Heap word (typed 𝓛) ! null_ptr a at.0 $ nothing ! $ move ! (1 ∷ 0 ∷ []) $ fjoin ! $
    suffices ! _ (ends_at 𝓛 f.ended stayed c y w (record { ptr = null_ptr; alloc = a; value = None }) (tt, tt) (tt, tt)) $ says ! refl $
    nothing ! $ nothing ! $ fjoin ! $ join ! $ nothing ! $ join ! $ done !))
