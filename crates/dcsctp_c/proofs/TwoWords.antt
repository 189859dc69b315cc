-- A pointer beside an allocator, as machine values. A box, its words and a slot lie in memory as these two.
--     two        the machine value
--     Pair       the two as a struct, whatever the struct's name
--     reads      what is owned of a pair says which machine value it is
--     fits       that machine value is of the struct's type
--     opens, closes   a pair is owned as its allocator is
use Rattle.std.proofs.Common.{◌≡◌, List, [], ◌∷◌, ◌++◌, ◌∙◌, ◌&&◌, true, refl}
use seplogic.Ra.Ura.{Ura}
use lib.Dec.{T}
use mir.Syntax.{Ty, ty_ptr}
use mir.Val.{Val, vstruct, vcons, vnil, of_list, has_ty, WT}
use types.Logic.{Logic}
use types.Kit.{Goal, Seq, Step, step, Item, ‵, ◌$◌, move, drop, rewrite, fsplit, fjoin, fpick, fpack, feq_l, feq_i}
use denote.RattleType.{RattleType, Valss}
use denote.Steps.{nothing, peeks}
use denote.Builtin.{RawPtr}
use denote.Laws.{Is, Typed, shows}
use denote.RawPtr.{Ptr, ptr_val}
use denote.Struct.Struct.{Struct, within, as_fields}
use Rattle.core.proofs.atomic.Steps.{Ptr-Good}
use Rattle.core.proofs.cell.Inside.{Good, one}

abbrev pub two : Val → Val → Val
two v w = vstruct (vcons v (vcons w vnil))

pub fits : (τ : Ty) (p : Ptr) (h : Val) → Good τ h → T (has_ty ty_ptr (ptr_val p) && (has_ty τ h && true)) × WT (two (ptr_val p) h)
fits τ p h good = as_fields (ty_ptr ∷ τ ∷ []) (ptr_val p ∷ h ∷ []) (Ptr-Good p, (good, tt))

module _ (Z : RattleType) (τ : Ty) (typed : (a : Z.Denot) (vs : List Val) → Is Z a vs → Typed (τ ∷ []) vs) where
  abbrev pub Pair : RattleType
  Pair = Struct (record { name = []; args = []; types = []; fields = RawPtr ∷ Z ∷ [] })

  pub reads : (p : Ptr) (a : Z.Denot) (vs : List Val) → Is Pair (p, (a, tt)) vs → (h : Val) × (vs ≡ two (ptr_val p) h ∷ []) × Good τ h
  reads p a vs is =
      let alone = one τ is.0.1.0 (typed a is.0.1.0 is.1.1.1.0) in
      (alone.0, is.1.0 ∙ (λ i. vstruct (of_list (is.1.1.0 i ++ (alone.1 i ++ []))) ∷ []), alone.2)

  module _ {M : Type 1} {𝓤 : Ura M} {𝓛 : Logic 𝓤} {K : Type 0} {Γ : List (Item 𝓤)} {G : Goal 𝓤 𝓛.H} where
    pub opens : K → (p : Ptr) (a : Z.Denot) (vs : List Val)
        → ((h : Val) → vs ≡ two (ptr_val p) h ∷ [] → Good τ h → Seq K 𝓛 (‵ (Z.own_val a (h ∷ [])) ∷ Γ) G)
        → Seq K 𝓛 (‵ (Pair.own_val (p, (a, tt)) vs) ∷ Γ) G
    opens t p a vs rest =
        fpick t (λ vss. fsplit t $ feq_l t (λ e. fsplit t $ feq_l t (λ f. fsplit t $
        peeks t Z (Is Z) (shows 𝓛 Z) a vss.1.0 (λ i. let alone = one τ vss.1.0 (typed a vss.1.0 i) in
        move t (1 ∷ []) $ drop t $ rewrite t 0 (λ (us : List Val). ‵ (Z.own_val a us)) alone.1 refl $
        rest alone.0 (e ∙ (λ j. vstruct (of_list (f j ++ (alone.1 j ++ []))) ∷ [])) alone.2))))

    pub closes : K → (p : Ptr) (a : Z.Denot) (h : Val)
        → Step K 𝓛 (‵ (Pair.own_val (p, (a, tt)) (two (ptr_val p) h ∷ [])) ∷ Γ) G (‵ (Z.own_val a (h ∷ [])) ∷ Γ) G
    closes t p a h = step (λ rest.
        nothing t $ move t (1 ∷ 0 ∷ []) $ fjoin t $ feq_i t (List Val) (ptr_val p ∷ []) (ptr_val p ∷ []) refl $ fjoin t $
        feq_i t (List Val) (two (ptr_val p) h ∷ []) (two (ptr_val p) h ∷ []) refl $ fjoin t $
        fpack t (Valss (RawPtr ∷ Z ∷ [])) (within (record { name = []; args = []; types = []; fields = RawPtr ∷ Z ∷ [] }) (p, (a, tt)) (two (ptr_val p) h ∷ [])) (ptr_val p ∷ [], (h ∷ [], tt)) $ rest)
