-- `into_words` moves two fields. What a slot with a session owns is what the session's words own.
use Rattle.std.proofs.Common.{List, [], ◌∷◌, ◌++◌, Option, IsSome, refl}
use mir.Val.{Val}
use base.Fml.{ftrue, fsep}
use prog.Wp.{WpFn}
use types.Kit.{‵, raw, ◌⊛◌, prop, ◌$◌, ◌∵◌, !, qed, move, keep, drop, split, join, fsplit, fjoin, rewrite, regoal, suffices, done}
use types.Part.{whole, sub, agg}
use types.Run.{stop, fld, of_opd, no_more, and_then, returns, enter}
use types.ByLocal.{alloc_all, pass_all, free_all, look_at, get, get_in, sets}
use contract.Monad.{fact}
use contract.Running.{tables}
use denote.Exit.{yes}
use denote.RawPtr.{ptr_val}
use denote.Signature.{plain}
use denote.Steps.{nothing, heard}
use denote.Triple.Walked.{says, Stays, stay_dropped, walk_of, ends_at, Goes-dropped}
use Rattle.core.proofs.atomic.Steps.{Ptr-Good}
use Rattle.std.proofs.raw_atomic.Walks.{proved_at}
use Rattle.dcsctp_channel_session.specs.contracts.held.Held as content
use Rattle.dcsctp_c.specs.SlotMemory.{memory_behind}
use Rattle.dcsctp_c.proofs.TwoWords.{two, Pair, reads, fits}
use Rattle.dcsctp_c.proofs.SlotRows.{Heap, word, typed, the_some}
use Rattle.dcsctp_c.specs.contracts.slot.Slot as slot
use Rattle.dcsctp_c.specs.contracts.slot.Slot.into_words as f
use Rattle.dcsctp_c.proofs.slot.Slot.into_words.Statement.{statement}
use Rattle.dcsctp_c.proofs.slot.Slot.into_words.Code as code

abbrev stayed : Stays f.ended.signature.params f.ended.kept
stayed = (stay_dropped (plain (λ _. slot.the_row)) yes, tt)

pub into_words_spec : {M : Type 1} → statement M
into_words_spec 𝓤 𝓛 𝓜 𝓡 wired =
    let c = f.clauses 𝓛 𝓜.mem 𝓡.returns in let 𝓣 = tables 𝓤 𝓛.H 𝓜 𝓡 𝓡.env in
    proved_at 𝓛 f.ended stayed c 𝓜 𝓡 (Goes-dropped 𝓛 0 (plain (λ _. slot.the_row)) yes (λ κs x w. refl), tt)
    f.Key.name code.function (code.unfolded 𝓤 𝓛.H 𝓜 𝓡 wired) (λ y are.
    let s = y.0.3.0 in let vs = y.0.4.0 in let post = (walk_of 𝓛 f.ended stayed c).post y in
    let at = reads Heap word (typed 𝓛) s.ptr s.alloc vs are.0.0 in
    let w = two (ptr_val s.ptr) at.0 in let fit = fits word s.ptr at.0 at.2 in
    let P = Pair Heap word (typed 𝓛) in
    qed 𝓛 ((‵ ftrue ⊛ ‵ (fsep (slot.the_row.own_val s vs) ftrue)) ∷ raw (fact 𝓤 (IsSome s.value)) ∷ []) ∵
    move ! (1 ∷ []) $ heard ! _ (λ full. let there = the_some s.value full in
    split ! $ drop ! $ fsplit ! $ fsplit ! $
    rewrite ! 1 (λ (o : Option content.the_row.Denot). ‵ (memory_behind s.alloc s.ptr o)) there.1 refl $
    rewrite ! 0 (λ (us : List Val). ‵ (P.own_val (s.ptr, (s.alloc, tt)) us)) at.1 refl $ fjoin ! $ keep ! (0 ∷ []) $
    regoal ! (λ (us : List Val). prop (WpFn 𝓤 𝓛.H 𝓣.C 𝓣.Λ code.function (us ++ []) post)) at.1 refl $
    enter ! _ _ _ _ _ $ alloc_all ! (λ l. pass_all ! refl (fit, tt) $
    sets ! (of_opd ! (get_in ! (fld ! refl (stop !)) (sub ! 0 refl (whole !)))) refl (Ptr-Good s.ptr) $
    sets ! (of_opd ! (get_in ! (fld ! refl (stop !)) (sub ! 1 refl (whole !)))) refl at.2 $
    sets ! (of_opd ! (get ! refl)) refl (Ptr-Good s.ptr) $
    sets ! (agg ! (and_then ! (get ! refl) (and_then ! (get ! refl) (no_more !)))) refl fit $
    returns ! (look_at ! 0 refl) $ free_all ! refl $
    suffices ! _ (ends_at 𝓛 f.ended stayed c y w (record { ptr = s.ptr; alloc = s.alloc; value = there.0 }) (tt, tt) (tt, tt)) $ says ! there.1 $
    nothing ! $ nothing ! $ fjoin ! $ join ! $ nothing ! $ join ! $ done !)))
