-- A SACK that is made of what came in.
use Rattle.std.proofs.Common.{◌≡◌, ◌∙◌, ℕ, ◌%◌, ◌^◌, ◌&&◌, ◌||◌, Bool, true, false, if◌then◌else◌, List, [], take, refl, ap, sym, subst}
use Rattle.std.specs.List.{flat_map}
use Rattle.std.specs.Int.{w32, to_be_bytes}
use Rattle.dcsctp_send_retransmission.specs.wire.Content.{SackContent, sack_chunk}
use Rattle.dcsctp_wire_build.specs.Building.{Building, bytes_remaining}
use Rattle.dcsctp_send_retransmission.specs.spec.queues.Reassembly.{ReassemblyState, remaining_bytes, bytes_to_watermark}
use Rattle.dcsctp_send_retransmission.specs.spec.queues.Transfer.{Transfer, advertised_window}
use Rattle.dcsctp_send_retransmission.specs.types.declared.tracking.AckState.{AckState}
use Rattle.dcsctp_send_retransmission.specs.types.declared.tracking.AckState.TheVariants.{Idle, BecomingDelayed, Delayed, Immediate}
use Rattle.dcsctp_receive_tracker.specs.declared.data_tracker.SelectiveAck.{SelectiveAck}
use Rattle.dcsctp_send_retransmission.specs.spec.queues.Tracker.{TrackerState, is_sack_due, is_acknowledgement_due, owes_acknowledgement, all_acknowledged, acknowledgement_asked, block_bytes, most_blocks, duplicates_left, sack_of, tracker_after_sack}
use Rattle.dcsctp_transfer.specs.Filling.{is_sack_wanted, with_chunk, FillsRequestedSack}
use Rattle.dcsctp_transfer.specs.Adding.{sack_said}

-- ---- whether it is wanted

due_by : (state : AckState) (along : Bool) → (is_sack_due state false || (is_sack_due state true && along)) ≡ is_sack_due state along
due_by Idle true = refl
due_by Idle false = refl
due_by BecomingDelayed true = refl
due_by BecomingDelayed false = refl
due_by Delayed true = refl
due_by Delayed false = refl
due_by Immediate true = refl
due_by Immediate false = refl

-- ---- all of it

-- what it says of the tracker, where so many bytes are left
pub record Says (sack : SelectiveAck) (room : ℕ) (tracker : TrackerState) : Type 0 where
  pub cumulative : sack.cumulative_tsn_ack ≡ tracker.cumulative % 2 ^ 32
  pub blocks : sack.gap_ack_blocks.items ≡ flat_map (block_bytes tracker.cumulative) (take (most_blocks tracker.follows_rfc room) tracker.ranges)
  pub duplicates : sack.duplicate_tsns.items ≡ flat_map (to_be_bytes w32) (take (duplicates_left tracker room) tracker.duplicates)

says_so : (sack : SelectiveAck) (room : ℕ) (tracker : TrackerState) (window : ℕ) → sack.a_rwnd ≡ window % 2 ^ 32 → Says sack room tracker → sack_said sack ≡ sack_of room tracker window
says_so sack room tracker window window_is says =
    let said : SackContent = sack_said sack in
    ap (λ (n : ℕ). record said { cumulative_tsn_ack = n }) says.cumulative
    ∙ ap (λ (n : ℕ). record said { cumulative_tsn_ack = tracker.cumulative % 2 ^ 32; a_rwnd = n }) window_is
    ∙ ap (λ (bytes : List ℕ). record said { cumulative_tsn_ack = tracker.cumulative % 2 ^ 32; a_rwnd = window % 2 ^ 32; gap_ack_blocks = bytes }) says.blocks
    ∙ ap (λ (bytes : List ℕ). record (sack_of room tracker window) { duplicate_tsns = bytes }) says.duplicates

-- the window that a SACK reports, by whether the RFC is followed
abbrev pub told_where : Bool → ReassemblyState → ℕ
told_where follows queue = if follows then bytes_to_watermark queue else remaining_bytes queue

asking_keeps : (tracker asked : TrackerState) (along : Bool) → asked ≡ acknowledgement_asked along tracker → asked.follows_rfc ≡ tracker.follows_rfc
asking_keeps tracker asked along is = ap (λ (t : TrackerState). t.follows_rfc) is ∙ go (is_sack_due tracker.acknowledgement along)
  where
    go : (b : Bool) → (if b then all_acknowledged tracker else tracker).follows_rfc ≡ tracker.follows_rfc
    go true = refl
    go false = refl

pub gives_wanted : (old new : Transfer) (tracker asked after : TrackerState) (along : Bool) (sack : SelectiveAck) (room : ℕ) (packet filled : Building)
    → room ≡ bytes_remaining packet
    → tracker ≡ old.tracker
    → new ≡ record old { tracker = after }
    → is_sack_due tracker.acknowledgement along ≡ true
    → asked ≡ acknowledgement_asked along tracker
    → after ≡ record asked { duplicates = [] }
    → Says sack room asked
    → sack.a_rwnd ≡ (told_where asked.follows_rfc old.reassembly) % 2 ^ 32
    → filled ≡ with_chunk packet (sack_chunk (sack_said sack))
    → FillsRequestedSack (is_sack_wanted along old) old packet new filled
gives_wanted old new tracker asked after along sack room packet filled room_is seen new_is due asked_is after_is says window adds =
    let wanted : is_sack_wanted along old ≡ true =
    ap (λ (t : TrackerState). is_acknowledgement_due t || (owes_acknowledgement t && along)) (sym seen) ∙ (due_by tracker.acknowledgement along ∙ due) in
    let idle : asked ≡ all_acknowledged tracker = asked_is ∙ ap (λ (b : Bool). if b then all_acknowledged tracker else tracker) due in
    let left : after ≡ tracker_after_sack old.tracker = after_is ∙ (ap (λ (t : TrackerState). record t { duplicates = [] }) idle ∙ ap tracker_after_sack seen) in
    let told : told_where asked.follows_rfc old.reassembly ≡ advertised_window old =
    ap (λ (b : Bool). told_where b old.reassembly) (asking_keeps tracker asked along asked_is ∙ ap (λ (t : TrackerState). t.follows_rfc) seen) in
    let said : sack_said sack ≡ sack_of (bytes_remaining packet) old.tracker (advertised_window old) =
    says_so sack room asked (advertised_window old) (window ∙ ap (λ (n : ℕ). n % 2 ^ 32) told) says
    ∙ (ap (λ (t : TrackerState). sack_of room t (advertised_window old)) idle ∙ ap (λ (t : TrackerState). sack_of room t (advertised_window old)) seen)
    ∙ ap (λ (n : ℕ). sack_of n old.tracker (advertised_window old)) room_is in
    let gives : FillsRequestedSack true old packet new filled =
    (new_is ∙ ap (λ (t : TrackerState). record old { tracker = t }) left, adds ∙ ap (λ (content : SackContent). with_chunk packet (sack_chunk content)) said) in
    subst (λ (b : Bool). FillsRequestedSack b old packet new filled) (sym wanted) gives
