-- What a message of the peer is to its stream.
use Rattle.std.proofs.Common.{◌≡◌, ◌==◌, ◌⊎◌, ℕ, Bool, true, false, nat_lt, Option, Some, None, Result, Ok, Err, length, refl, inl, inr}
use Rattle.std.specs.Prelude.{if◌then◌else◌}
use Rattle.std.proofs.lemmas.Bool.{eqb-true}
use Rattle.dcsctp_channel_calls.specs.api.types.queues.Messages.{MessageContent}
use Rattle.dcsctp_channel_calls.specs.messages.channel_spec.Contents.{ChannelContent, control_ppid, content_from}
use Rattle.dcsctp_channel_calls.specs.messages.channel_spec.Slots.{Opening, SlotInput, opens, agrees, hears_open, hears_ack, hears_message, hears_bad_message, may_acknowledge, is_closed, all_is_sent, cannot_reset, was_performed, was_refused, peer_resets, association_ends}
use Rattle.dcsctp_channel_calls.specs.messages.declared.control.ControlError.{ControlError}
use Rattle.dcsctp_channel_calls.specs.messages.Format.{Control, open_message, acknowledgement, control_of_bytes}
use Rattle.dcsctp_channel_calls.specs.Arrivals.{accepts_open, input_of_control, input_of_content, input_of, message_taken, TakesRow}
use Rattle.dcsctp_channel_calls.specs.Calls.{on_layer}
use Rattle.dcsctp_channel_calls.specs.View.{LayerView, ChannelsView}
use Rattle.dcsctp_channel_runs.proofs.Heard.{SaysOpen, SaysContent}
use Rattle.dcsctp_channel_runs.proofs.SlotNames.{names_none}
use Rattle.dcsctp_channel_runs.proofs.Rows.{brings_nothing}

-- ---- what a message is to its stream

-- It brings nothing of the peer's user; or it is an OPEN that is accepted; or it is a message of the user.
pub data Brings (layer : LayerView) (m : MessageContent) : SlotInput → Type 0 where
  nothing_new : (input : SlotInput) → brings_nothing input ≡ true → names_none input ≡ true → (m.ppid ≡ control_ppid) ⊎ (input ≡ hears_bad_message) → Brings layer m input
  a_new_channel : (opening : Opening) → SaysOpen m (record { name = layer.named; opening = opening }) → Brings layer m (hears_open true layer.named opening)
  a_new_message : (content : ChannelContent) → SaysContent m content → Brings layer m (hears_message content)

pub open_brings : (layer : LayerView) (m : MessageContent) (opening : Opening) (accepted : Bool) → m.ppid ≡ control_ppid → control_of_bytes m.payload ≡ Ok (open_message opening)
    → Brings layer m (hears_open accepted layer.named opening)
open_brings layer m opening true ppid read = a_new_channel opening (record { ppid = ppid; payload = read })
open_brings layer m opening false ppid read = nothing_new (hears_open false layer.named opening) refl refl (inl ppid)

pub control_brings : (layer : LayerView) (m : MessageContent) (read : Result Control ControlError) → m.ppid ≡ control_ppid → control_of_bytes m.payload ≡ read
    → Brings layer m (input_of_control layer m.stream read)
control_brings layer m (Ok acknowledgement) ppid is = nothing_new hears_ack refl refl (inl ppid)
control_brings layer m (Ok (open_message opening)) ppid is = open_brings layer m opening (accepts_open layer m.stream opening) ppid is
control_brings layer m (Err error) ppid is = nothing_new hears_bad_message refl refl (inl ppid)

pub content_brings : (layer : LayerView) (m : MessageContent) (is_long : Bool) (content : Option ChannelContent) → content_from m.ppid m.payload ≡ content → Brings layer m (input_of_content is_long content)
content_brings layer m true content is = nothing_new hears_bad_message refl refl (inr refl)
content_brings layer m false None is = nothing_new hears_bad_message refl refl (inr refl)
content_brings layer m false (Some content) is = a_new_message content is

pub either_brings : (layer : LayerView) (m : MessageContent) (is_control : Bool) → (m.ppid == control_ppid) ≡ is_control
    → Brings layer m (if is_control then input_of_control layer m.stream (control_of_bytes m.payload) else input_of_content (nat_lt layer.limits.message (length m.payload)) (content_from m.ppid m.payload))
either_brings layer m true is = control_brings layer m (control_of_bytes m.payload) (eqb-true m.ppid control_ppid is) refl
either_brings layer m false is = content_brings layer m (nat_lt layer.limits.message (length m.payload)) (content_from m.ppid m.payload) refl

pub input_brings : (layer : LayerView) (m : MessageContent) → Brings layer m (input_of layer m)
input_brings layer m = either_brings layer m (m.ppid == control_ppid) refl

-- all rows but that of an OPEN that is accepted change the layer alone
pub plain_row : (number : ℕ) (input : SlotInput) (old new : ChannelsView) → brings_nothing input ≡ true → TakesRow number input old new → new ≡ on_layer (message_taken number input) old
plain_row number (hears_open true name opening) old new none is = absurd cc
plain_row number (hears_open false name opening) old new none is = is
plain_row number (opens name opening) old new none is = is
plain_row number (agrees name) old new none is = is
plain_row number hears_ack old new none is = is
plain_row number (hears_message content) old new none is = is
plain_row number hears_bad_message old new none is = is
plain_row number may_acknowledge old new none is = is
plain_row number is_closed old new none is = is
plain_row number all_is_sent old new none is = is
plain_row number cannot_reset old new none is = is
plain_row number was_performed old new none is = is
plain_row number was_refused old new none is = is
plain_row number peer_resets old new none is = is
plain_row number association_ends old new none is = is
