-- `held` lends the session behind the pointer, and the slot follows it. The two words are only read.
use Rattle.std.proofs.Common.{◌≡◌, ◌∙◌, List, [], ◌∷◌, ◌++◌, Option, Some, None, IsSome, refl, sym, ap}
use Prim.Native.Nat.{ℕ}
use seplogic.Ra.Ura.{Ura}
use base.Fraction.{full_share}
use mir.Raw.{raw as bare}
use mir.Syntax.{named}
use mir.Val.{Val, vptr}
use base.Logic.{SProp, ent, sep, fst∗, never, id⊢}
use base.Fml.{Lft, GName, Share, Fml, ftrue, fsep, flft, fobs, fauth, fbor, fobor}
use contract.Monad.{fact}
use contract.Running.{tables}
use prog.Wp.{Calls, Env, Loops, WpFn}
use types.Logic.{Logic, sem}
use types.Kit.{‵, raw, ◌⊛◌, some, later, at_ret, ◌$◌, ◌∵◌, !, qed, by, keep, move, drop, use1, split, join, pick, rewrite, fsplit, fsplit3, fjoin, fpack, frame, group, await, suffices, done}
use types.Part.{whole, sub, look_in}
use types.Run.{stop, fld, load, of_opd, addr, first, blocks, exec, returns, enter}
use types.ByLocal.{alloc_all, pass_all, free_all, look_at, get, through, sets, sets_last, env}
use types.SemTy.{Body}
use denote.Builtin.{RefMutOf}
use denote.Exit.{no}
use denote.Follow.{follows, Part, lends_Part}
use denote.Memory.{part_at, mem, cell_at, part_of}
use denote.Param.{layout}
use denote.RattleType.{RattleType, owns}
use denote.RawPtr.{Ptr, block_ptr, null_ptr, ptr_val, in_a_block}
use denote.Ref.{MutRef, mut_vals, mut_Tells}
use denote.Signature.{plain, mut_ref_to}
use denote.Steps.{nothing, heard, opens}
use denote.Triple.Walked.{says, Stays, stay_dropped, walk_of, ends_at, Goes-spent_ref}
use Rattle.std_alloc.proofs.VecSteps.Shapes.{after}
use Rattle.core.proofs.cell.Inside.{Good}
use Rattle.std.proofs.raw_atomic.Walks.{proved}
use Rattle.std.specs.Box.Ownership.{box_owns}
use Rattle.std_heap.specs.contracts.GlobalAllocator.TheImpl.{ghosts}
use Rattle.dcsctp_channel_session.specs.contracts.held.Held as content
use Rattle.dcsctp_c.specs.SlotMemory.{memory_behind}
use Rattle.dcsctp_c.specs.Lending.{with_value}
use Rattle.dcsctp_c.proofs.TwoWords.{two, closes}
use Rattle.dcsctp_c.proofs.TwoWords as words
use Rattle.dcsctp_c.proofs.SlotRows.{Heap, word, typed, the_some}
use Rattle.dcsctp_c.specs.contracts.slot.Slot as slot
use Rattle.dcsctp_c.specs.contracts.slot.Slot.held as f
use Rattle.dcsctp_c.proofs.slot.Slot.held.Statement.{statement}
use Rattle.dcsctp_c.proofs.slot.Slot.held.Code as code

abbrev B : RattleType
B = slot.the_row

abbrev R : RattleType
R = content.the_row

abbrev stayed : Stays f.ended.signature.params f.ended.kept
stayed = (stay_dropped (mut_ref_to (0 ∷ []) tt (plain (λ _. B))) no, tt)

abbrev token : slot.the_row.Denot → ℕ → ℕ → Fml
token s b o = ghosts.dealloc_token s.alloc (bare (layout R)) (block_ptr b o)

module _ {M : Type 1} {𝓤 : Ura M} (𝓛 : Logic 𝓤) (rb ro : ℕ) (s : slot.the_row.Denot) (b o : ℕ) (h : Val) where
  -- all of the slot but its session
  abbrev Rest : Fml
  Rest = fsep (token s b o) (fsep (Heap.own_val s.alloc (h ∷ [])) (cell_at full_share B.mir (two (vptr b o) h ∷ []) rb ro))

  back : s.ptr ≡ block_ptr b o → (w : content.the_row.Denot) → ent 𝓤 (sep 𝓤 (sem 𝓛 ((mem R).own_at w b o)) (sem 𝓛 Rest)) (sem 𝓛 ((mem B).own_at (with_value s w) rb ro))
  unfolding part_of
  back at w =
      qed 𝓛 (‵ (part_at R full_share w b o) ∷ ‵ Rest ∷ []) ∵ move ! (1 ∷ []) $ fsplit3 ! $ move ! (3 ∷ 0 ∷ []) $ fjoin ! $
      rewrite ! 0 (λ (p : Ptr). ‵ (box_owns (ghosts.dealloc_token s.alloc) R p w)) (sym at) refl $
      rewrite ! 2 (λ (p : Ptr). ‵ (cell_at full_share B.mir (two (ptr_val p) h ∷ []) rb ro)) (sym at) refl $ move ! (1 ∷ []) $
      closes Heap word (typed 𝓛) ! s.ptr s.alloc h $ fjoin ! $ move ! (1 ∷ 0 ∷ []) $ fjoin ! $
      fpack ! (List Val) (λ us. fsep (cell_at full_share B.mir us rb ro) (B.own_val (with_value s w) us)) (two (ptr_val s.ptr) h ∷ []) $ done !

pub held_spec : {M : Type 1} → statement M
held_spec 𝓤 𝓛 𝓜 𝓡 wired =
    let c = f.clauses 𝓛 𝓜.mem 𝓡.returns in let 𝓣 = tables 𝓤 𝓛.H 𝓜 𝓡 𝓡.env in
    proved 𝓛 f.ended stayed c 𝓜 𝓡 (Goes-spent_ref 𝓛 1 (0 ∷ []) tt (plain (λ _. B)), tt) f.Key.name code.function (code.unfolded 𝓤 𝓛.H 𝓜 𝓡 wired)
    (λ κs. (mut_vals, tt)) (λ κs. (mut_Tells (named 0) κs.0 B, tt)) (λ κs qs bounds a gh are.
    let κ = κs.0 in let q = qs.0 in let rb = a.0.ref_ptr.0 in let ro = a.0.ref_ptr.1 in let γ = a.0.ghost_name in let s = a.0.now in
    let y : (walk_of 𝓛 f.ended stayed c).Ghost = ((κs, qs, bounds, a, (mut_vals a.0, tt)), gh) in
    let Post = (walk_of 𝓛 f.ended stayed c).post y in
    qed 𝓛 (((‵ (flft κ q) ⊛ ‵ ftrue) ⊛ ‵ (owns (MutRef (named 0) κ B ∷ []) (a.0, tt) (vptr rb ro ∷ [], tt))) ∷ raw (fact 𝓤 (IsSome s.value)) ∷ []) ∵
    move ! (1 ∷ []) $ heard ! _ (λ full. let there = the_some s.value full in let x = there.0 in
    split ! $ enter ! 𝓣.C 𝓣.Λ code.function (vptr rb ro ∷ []) _ $ alloc_all ! (λ l. pass_all ! refl ((tt, tt), tt) $
    let En : Env 𝓤 𝓛.H = env code.function.locals l in
    move ! (1 ∷ []) $ fsplit ! $ fsplit3 ! $ drop ! $ move ! (3 ∷ []) $ split ! $ move ! (2 ∷ 3 ∷ 0 ∷ []) $
    opens ! tt B {h = s} rb ro (λ vs. move ! (1 ∷ []) $ fsplit ! $ words.opens Heap word (typed 𝓛) ! s.ptr s.alloc vs (λ h is good.
    rewrite ! 2 (λ (us : List Val). ‵ (cell_at full_share B.mir us rb ro)) is refl $
    rewrite ! 1 (λ (held : Option content.the_row.Denot). ‵ (memory_behind s.alloc s.ptr held)) there.1 refl $ move ! (1 ∷ []) $
    in_a_block ! s.ptr (λ p. box_owns (ghosts.dealloc_token s.alloc) R p x) (fst∗ 𝓤 (never 𝓤) (sem 𝓛 (ghosts.dealloc_token s.alloc (bare (layout R)) null_ptr))) (λ b o at. fsplit ! $
    rewrite ! 3 (λ (p : Ptr). ‵ (cell_at full_share B.mir (two (ptr_val p) h ∷ []) rb ro)) at refl $
    first ! $ blocks ! $
    sets ! (of_opd ! (load ! (through ! refl (fld ! refl (stop !))) (look_in ! 3 (sub ! 0 refl (whole !))))) refl (tt, tt) $
    sets ! (of_opd ! (get ! refl)) refl (tt, tt) $
    sets_last ! (addr ! (through ! refl (stop !))) refl (tt, tt) $
    exec ! 𝓣.C 𝓣.Λ En (after 1 code.function.body) (at_ret En Post) $
    sets ! (of_opd ! (get ! refl)) refl (tt, tt) $
    move ! (2 ∷ 3 ∷ []) $ fjoin ! $ move ! (2 ∷ 0 ∷ []) $ fjoin ! $ move ! (2 ∷ 3 ∷ 4 ∷ 1 ∷ 0 ∷ []) $ group ! 5 $
    use1 𝓛 (later (some (λ (γ' : GName). raw (Part 𝓛 B R (with_value s) (named 0) κ q rb ro b o γ (sem 𝓛 (Rest 𝓛 rb ro s b o h)) (back 𝓛 rb ro s b o h at) x γ'))))
    (lends_Part 𝓛 B R (with_value s) (named 0) κ q rb ro b o γ (sem 𝓛 (Rest 𝓛 rb ro s b o h)) (back 𝓛 rb ro s b o h at) (B.coded.code s) (B.coded.code s) x) $ await ! tt $ pick ! (λ γ'.
    returns ! (look_at ! 0 refl) $ free_all ! refl $ keep ! (0 ∷ []) $
    by ! (qed 𝓛 (‵ ((MutRef (named 0) κ R).own_val (record { ref_ptr = (b, o); ghost_name = γ'; now = x }) (vptr b o ∷ [])) ∷ ‵ (flft κ q) ∷ ‵ (follows B R γ γ' (with_value s)) ∷ []) {P = Post (vptr b o)} (
    suffices ! _ (ends_at 𝓛 f.ended stayed c y (vptr b o) (record { ref_ptr = (b, o); ghost_name = γ'; now = x }) (tt, tt) (tt, tt)) $
    nothing ! $ nothing ! $ fjoin ! $ join ! $ nothing ! $ move ! (2 ∷ 0 ∷ []) $ join ! $ join ! $ frame ! $ says ! there.1 $ done !)))))))))
