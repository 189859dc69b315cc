-- What has changed below an association that was lent.
use Rattle.std.proofs.Common.{◌≡◌, Bool, true, false, Option, None, Some, refl, sym, ap, subst, ◌∙◌}
use Rattle.dcsctp_transfer.specs.spec.queues.Transfer.{Transfer}
use Rattle.dcsctp_core.specs.declared.state.State.{State}
use Rattle.dcsctp_core.specs.declared.state.State.TheVariants.{Closed, CookieWait, CookieEchoed, Open}
use Rattle.dcsctp_core.specs.declared.transmission_control_block.TransmissionControlBlock.{TransmissionControlBlock}
use Rattle.dcsctp_core.specs.View.{tcb_of, transfer_of_tcb, transfer_of}
use Rattle.dcsctp_core.specs.Reconfiguring.{tcb_changed}
use Rattle.dcsctp_core.specs.Flushing.{state_with}
use Rattle.dcsctp_core.specs.Below.{ChangesQueues, ChangesOrKeeps}

pub within : {A : Type 0} {x y : A} → Some x ≡ Some y → x ≡ y
within is = cc

-- the state with another transfer layer in the association that was lent
abbrev pub left_with : State → TransmissionControlBlock → Transfer → State
left_with state tcb after = tcb_changed (λ _. record tcb { transfer = after }) state

pub lent : (state : State) (tcb : TransmissionControlBlock) (after : Transfer) → Some tcb ≡ tcb_of state → left_with state tcb after ≡ state_with state after
lent Closed tcb after holds = refl
lent (CookieWait wait) tcb after holds = refl
lent (CookieEchoed echoed) tcb after holds = ap (λ (t : TransmissionControlBlock). CookieEchoed (record echoed { tcb = record t { transfer = after } })) (within holds)
lent (Open opened) tcb after holds = ap (λ (t : TransmissionControlBlock). Open (record opened { tcb = record t { transfer = after } })) (within holds)

-- given back as it was
pub kept : (state : State) (tcb : TransmissionControlBlock) → Some tcb ≡ tcb_of state → tcb_changed (λ _. tcb) state ≡ state
kept Closed tcb holds = refl
kept (CookieWait wait) tcb holds = refl
kept (CookieEchoed echoed) tcb holds = ap (λ (t : TransmissionControlBlock). CookieEchoed (record echoed { tcb = t })) (within holds)
kept (Open opened) tcb holds = ap (λ (t : TransmissionControlBlock). Open (record opened { tcb = t })) (within holds)

pub found : (state : State) (tcb : TransmissionControlBlock) → Some tcb ≡ tcb_of state → transfer_of state ≡ Some tcb.transfer
found state tcb holds = ap transfer_of_tcb (sym holds)

pub nobody : (state : State) → None ≡ tcb_of state → transfer_of state ≡ None
nobody state none = ap transfer_of_tcb (sym none)

pub changes_lent : (Changes : Transfer → Transfer → Type 0) (state : State) (tcb : TransmissionControlBlock) (after : Transfer) → Some tcb ≡ tcb_of state → Changes tcb.transfer after
    → ChangesQueues Changes (transfer_of state) state (left_with state tcb after)
changes_lent Changes state tcb after holds changes =
    subst (λ (f : Option Transfer). ChangesQueues Changes f state (left_with state tcb after)) (sym (found state tcb holds)) (after, lent state tcb after holds, changes)

pub changes_nobody : (Changes : Transfer → Transfer → Type 0) (state : State) → None ≡ tcb_of state → ChangesQueues Changes (transfer_of state) state state
changes_nobody Changes state none = subst (λ (f : Option Transfer). ChangesQueues Changes f state state) (sym (nobody state none)) refl

pub changes_where : (b : Bool) (Changes : Transfer → Transfer → Type 0) (state : State) (tcb : TransmissionControlBlock) (after : Transfer) → Some tcb ≡ tcb_of state
    → (b ≡ true → Changes tcb.transfer after) → (b ≡ false → after ≡ tcb.transfer) → ChangesOrKeeps b Changes (transfer_of state) state (left_with state tcb after)
changes_where true Changes state tcb after holds changes same = changes_lent Changes state tcb after holds (changes refl)
changes_where false Changes state tcb after holds changes same = ap (λ (t : Transfer). left_with state tcb t) (same refl) ∙ kept state tcb holds

-- what lies below the association then
pub left_transfer : (state : State) (tcb : TransmissionControlBlock) (after : Transfer) → Some tcb ≡ tcb_of state → transfer_of (left_with state tcb after) ≡ Some after
left_transfer Closed tcb after holds = absurd (cc)
left_transfer (CookieWait wait) tcb after holds = absurd (cc)
left_transfer (CookieEchoed echoed) tcb after holds = refl
left_transfer (Open opened) tcb after holds = refl
