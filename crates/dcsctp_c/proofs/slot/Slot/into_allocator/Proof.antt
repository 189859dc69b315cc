-- `into_allocator` gives out one field. A slot that owns nothing owns its allocator alone.
use Rattle.std.proofs.Common.{◌≡◌, List, [], ◌∷◌, ◌++◌, None, refl}
use mir.Val.{Val}
use base.Fml.{ftrue, fsep}
use prog.Wp.{WpFn}
use types.Kit.{‵, raw, ◌⊛◌, prop, ◌$◌, ◌∵◌, !, qed, move, keep, drop, split, join, fsplit, fjoin, regoal, suffices, done}
use types.Part.{whole, sub}
use types.Run.{stop, fld, of_opd, returns, enter}
use types.ByLocal.{alloc_all, pass_all, free_all, look_at, get, get_in, sets}
use contract.Monad.{fact}
use contract.Running.{tables}
use denote.Exit.{yes}
use denote.Signature.{plain}
use denote.Steps.{nothing}
use denote.Triple.Walked.{Stays, stay_dropped, walk_of, ends_at, Goes-dropped}
use Rattle.std.proofs.raw_atomic.Walks.{proved_at}
use Rattle.dcsctp_c.proofs.TwoWords.{opens, fits}
use Rattle.dcsctp_c.proofs.SlotRows.{Heap, word, typed}
use Rattle.dcsctp_c.specs.contracts.slot.Slot as slot
use Rattle.dcsctp_c.specs.contracts.slot.Slot.into_allocator as f
use Rattle.dcsctp_c.proofs.slot.Slot.into_allocator.Statement.{statement}
use Rattle.dcsctp_c.proofs.slot.Slot.into_allocator.Code as code

abbrev stayed : Stays f.ended.signature.params f.ended.kept
stayed = (stay_dropped (plain (λ _. slot.the_row)) yes, tt)

pub into_allocator_spec : {M : Type 1} → statement M
into_allocator_spec 𝓤 𝓛 𝓜 𝓡 wired =
    let c = f.clauses 𝓛 𝓜.mem 𝓡.returns in let 𝓣 = tables 𝓤 𝓛.H 𝓜 𝓡 𝓡.env in
    proved_at 𝓛 f.ended stayed c 𝓜 𝓡 (Goes-dropped 𝓛 0 (plain (λ _. slot.the_row)) yes (λ κs x w. refl), tt)
    f.Key.name code.function (code.unfolded 𝓤 𝓛.H 𝓜 𝓡 wired) (λ y are.
    let s = y.0.3.0 in let vs = y.0.4.0 in let post = (walk_of 𝓛 f.ended stayed c).post y in
    qed 𝓛 ((‵ ftrue ⊛ ‵ (fsep (slot.the_row.own_val s vs) ftrue)) ∷ raw (fact 𝓤 (s.value ≡ None)) ∷ []) ∵
    split ! $ drop ! $ fsplit ! $ fsplit ! $ keep ! (0 ∷ []) $ opens Heap word (typed 𝓛) ! s.ptr s.alloc vs (λ h is good.
    regoal ! (λ (us : List Val). prop (WpFn 𝓤 𝓛.H 𝓣.C 𝓣.Λ code.function (us ++ []) post)) is refl $
    enter ! _ _ _ _ _ $ alloc_all ! (λ l. pass_all ! refl (fits word s.ptr h good, tt) $
    sets ! (of_opd ! (get_in ! (fld ! refl (stop !)) (sub ! 1 refl (whole !)))) refl good $
    sets ! (of_opd ! (get ! refl)) refl good $
    returns ! (look_at ! 0 refl) $ free_all ! refl $
    suffices ! _ (ends_at 𝓛 f.ended stayed c y h s.alloc (tt, tt) (tt, tt)) $
    nothing ! $ nothing ! $ fjoin ! $ join ! $ nothing ! $ join ! $ nothing ! $ move ! (1 ∷ 0 ∷ []) $ join ! $ done !)))
