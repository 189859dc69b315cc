-- What a poll reports, one thing after another.
use Rattle.std.proofs.Common.{◌==◌, ◌≡◌, ◌≤◌, ℕ, ◌+◌, Bool, true, false, not, ◌&&◌, nat_lt, Option, Some, None, Result, Ok, Err, List, [], ◌∷◌, ◌++◌, length, map, refl, sym, subst, ◌∙◌, inl, inr, arith, if◌then◌else◌}
use Rattle.std.proofs.lemmas.Bool.{ltb-false}
use Rattle.std.proofs.lemmas.List.{append-nil}
use Rattle.dcsctp_channel_calls.specs.api.Calls.{UserView}
use Rattle.dcsctp_channel_calls.specs.api.declared.errors.SendError.{SendError}
use Rattle.dcsctp_channel_calls.specs.api.declared.errors.ResetStreamsError.{ResetStreamsError}
use Rattle.dcsctp_channel_calls.specs.api.types.queues.Messages.{MessageContent, message_content}
use Rattle.dcsctp_channel_calls.specs.messages.channel_spec.declared.types.ChannelEnd.{ChannelEnd}
use Rattle.dcsctp_channel_calls.specs.messages.channel_spec.declared.types.OwnReset.{OwnReset}
use Rattle.dcsctp_channel_calls.specs.messages.channel_spec.declared.types.OwnReset.TheVariants.{NotAsked, Asked, Performed, GivenUp}
use Rattle.dcsctp_channel_calls.specs.messages.channel_spec.declared.types.StreamUse.{StreamUse}
use Rattle.dcsctp_channel_calls.specs.messages.channel_spec.Contents.{ChannelContent, text_ppid, binary_ppid, empty_text_ppid, empty_binary_ppid, content_from}
use Rattle.dcsctp_channel_calls.specs.messages.channel_spec.Slots.{Opening, StreamSlot, free, used, Report, incoming, ended, SlotInput, opens, agrees, hears_open, hears_ack, hears_message, hears_bad_message, may_acknowledge, is_closed, all_is_sent, cannot_reset, was_performed, was_refused, peer_resets, association_ends}
use Rattle.dcsctp_channel_calls.specs.messages.channel_spec.Table.{outcome_of, reports_of, end_if_heard, reopens_if_reset}
use Rattle.dcsctp_channel_calls.specs.messages.declared.control.ControlError.{ControlError}
use Rattle.dcsctp_channel_calls.specs.messages.Format.{Control, open_message, acknowledgement, control_of_bytes}
use Rattle.dcsctp_channel_calls.specs.declared.channel.HeldStream.{HeldStream}
use Rattle.dcsctp_channel_calls.specs.declared.channel.Limits.{Limits}
use Rattle.dcsctp_channel_calls.specs.View.{ChannelNotice, of_channel, LayerView, ChannelsView, held_stream_numbered, slot_numbered, row_taken, view_with_events}
use Rattle.dcsctp_channel_calls.specs.Calls.{on_layer}
use Rattle.dcsctp_channel_calls.specs.Arrivals.{has_place, is_peers, accepts_open, input_of_control, input_of_content, input_of, AcceptsOpen, delivery_of_input, message_taken, TakesRow, ack_is_due, view_after_ack, SendsAck, AcksIfDue, AcksHeld, is_handled, HandlesOrDropsMessage}
use Rattle.dcsctp_channel_calls.specs.Late.{reset_input, DoesLate, a_reset, an_ack, waiting_begin}
use Rattle.dcsctp_channel_calls.specs.Polls.{one_more_taken, HandlesNext, an_event, a_message, put_off, TakesNextNotice, PollsInTurn, takes, goes_on, idle}
use Rattle.dcsctp_channel_laws.specs.Names.{names_given, AreNew, AreWithin, Reports, WasPacket, PollReports}
use Rattle.dcsctp_channel_laws.proofs.Adding.{le_same, Adds, adds_then, adds_none, adds_refl, adds_to, adds_from}
use Rattle.dcsctp_channel_laws.proofs.Rows.{row_adds}
use Rattle.dcsctp_channel_laws.proofs.Calls.{waiting_adds, gathers_add}
use Rattle.dcsctp_channel_laws.proofs.Polling.{events_add}

-- ---- an OPEN that is accepted

-- its names and its texts
abbrev Accepted : Limits → ℕ → List Report → Type 0
Accepted limits named reports = AreNew named (names_given (map of_channel reports)) (named + 1) × AreWithin limits (map of_channel reports)

no_reports : (limits : Limits) (named : ℕ) → Accepted limits named []
no_reports limits named = let le : named ≤ named + 1 = omega arith in (le, tt)

one_report : (limits : Limits) (named : ℕ) (opening : Opening) → length opening.label + length opening.protocol ≤ limits.text → Accepted limits named (incoming named opening ∷ [])
one_report limits named opening short = ((le_same named, le_same (named + 1)), (short, tt))

after_end : (limits : Limits) (named : ℕ) (opening : Opening) → length opening.label + length opening.protocol ≤ limits.text → (name : Option ℕ) (e : ChannelEnd)
    → Accepted limits named (reports_of name (λ n. ended n e) ++ incoming named opening ∷ [])
after_end limits named opening short None e = one_report limits named opening short
after_end limits named opening short (Some name) e = one_report limits named opening short

reopened : (limits : Limits) (named : ℕ) (opening : Opening) → length opening.label + length opening.protocol ≤ limits.text → (peer_reset : Bool) (own : OwnReset) (stream : StreamUse)
    → Accepted limits named (reopens_if_reset peer_reset own true named opening stream).reports
reopened limits named opening short true Asked stream = after_end limits named opening short stream.name (end_if_heard stream.heard)
reopened limits named opening short true NotAsked stream = no_reports limits named
reopened limits named opening short true Performed stream = no_reports limits named
reopened limits named opening short true GivenUp stream = no_reports limits named
reopened limits named opening short false own stream = no_reports limits named

accepted_in : (limits : Limits) (named : ℕ) (opening : Opening) → length opening.label + length opening.protocol ≤ limits.text → (slot : StreamSlot)
    → Accepted limits named (outcome_of (hears_open true named opening) slot).reports
accepted_in limits named opening short free = one_report limits named opening short
accepted_in limits named opening short (used stream) = reopened limits named opening short stream.peer_reset stream.own stream

accepted_adds : (number : ℕ) (opening : Opening) (old new : ChannelsView) → length opening.label + length opening.protocol ≤ old.layer.limits.text → AcceptsOpen number opening old new
    → Adds old.layer new.layer
accepted_adds number opening old new short accepts =
    let all = accepted_in old.layer.limits old.layer.named opening short (slot_numbered old.layer number) in
    adds_to old.layer _ new accepts.is
    (record { more = map of_channel (outcome_of (hears_open true old.layer.named opening) (slot_numbered old.layer number)).reports; behind = refl; are_new = all.0; are_within = all.1; limits_stay = refl })

-- ---- what a message is to its stream

-- an OPEN that is accepted has no longer texts, and a message no more bytes
abbrev ShortIn : Limits → SlotInput → Type 0
ShortIn limits (hears_open true name opening) = length opening.label + length opening.protocol ≤ limits.text
ShortIn limits (hears_message content) = length content.bytes ≤ limits.message
ShortIn limits input = Unit {0}

second_holds : (a b c : Bool) → (a && b && c) ≡ true → b ≡ true
second_holds true true c all = refl
second_holds true false true all = all
second_holds true false false all = absurd cc
second_holds false true c all = refl
second_holds false false c all = absurd cc

not_less : (m n : ℕ) (b : Bool) → nat_lt m n ≡ b → not b ≡ true → n ≤ m
not_less m n false is so = ltb-false m n is
not_less m n true is so = absurd cc

open_short : (layer : LayerView) (number : ℕ) (opening : Opening) (accepted : Bool) → accepts_open layer number opening ≡ accepted
    → ShortIn layer.limits (hears_open accepted layer.named opening)
open_short layer number opening true is =
    not_less layer.limits.text (length opening.label + length opening.protocol) (nat_lt layer.limits.text (length opening.label + length opening.protocol)) refl
    (second_holds (has_place (slot_numbered layer number) layer) (not (nat_lt layer.limits.text (length opening.label + length opening.protocol))) (is_peers layer.role number) is)
open_short layer number opening false is = tt

control_short : (layer : LayerView) (number : ℕ) (read : Result Control ControlError) → ShortIn layer.limits (input_of_control layer number read)
control_short layer number (Ok acknowledgement) = tt
control_short layer number (Ok (open_message opening)) = open_short layer number opening (accepts_open layer number opening) refl
control_short layer number (Err error) = tt

abbrev FitsIn : ℕ → Option ChannelContent → Type 0
FitsIn most None = Unit {0}
FitsIn most (Some content) = length content.bytes ≤ most

too_long : (limits : Limits) (content : Option ChannelContent) → ShortIn limits (input_of_content true content)
too_long limits None = tt
too_long limits (Some content) = tt

either_long : (most : ℕ) (b : Bool) (x y : Option ChannelContent) → FitsIn most x → FitsIn most y → FitsIn most (if b then x else y)
either_long most true x y a b = a
either_long most false x y a b = b

-- what is read of a payload isn't longer
read_fits : (most ppid : ℕ) (payload : List ℕ) → length payload ≤ most → FitsIn most (content_from ppid payload)
read_fits most ppid payload le =
    let none : 0 ≤ most = omega arith in
    either_long most (ppid == text_ppid) _ _ le (either_long most (ppid == binary_ppid) _ _ le (either_long most (ppid == empty_text_ppid) _ _ none (either_long most (ppid == empty_binary_ppid) _ None none tt)))

fitting : (limits : Limits) (content : Option ChannelContent) → FitsIn limits.message content → ShortIn limits (input_of_content false content)
fitting limits None fits = tt
fitting limits (Some content) fits = fits

content_short : (limits : Limits) (ppid : ℕ) (payload : List ℕ) (is_long : Bool) → nat_lt limits.message (length payload) ≡ is_long → ShortIn limits (input_of_content is_long (content_from ppid payload))
content_short limits ppid payload true is = too_long limits (content_from ppid payload)
content_short limits ppid payload false is = fitting limits (content_from ppid payload) (read_fits limits.message ppid payload (ltb-false limits.message (length payload) is))

either_short : (limits : Limits) (b : Bool) (x y : SlotInput) → ShortIn limits x → ShortIn limits y → ShortIn limits (if b then x else y)
either_short limits true x y a b = a
either_short limits false x y a b = b

input_short : (layer : LayerView) (m : MessageContent) → ShortIn layer.limits (input_of layer m)
input_short layer m =
    either_short layer.limits _ _ _ (control_short layer m.stream (control_of_bytes m.payload))
    (content_short layer.limits m.ppid m.payload (nat_lt layer.limits.message (length m.payload)) refl)

takes_add : (number : ℕ) (input : SlotInput) (old new : ChannelsView) → ShortIn old.layer.limits input → TakesRow number input old new → Adds old.layer new.layer
takes_add number (hears_open true name opening) old new short made = accepted_adds number opening old new short made
takes_add number (hears_open false name opening) old new short is =
    adds_to old.layer (on_layer (message_taken number (hears_open false name opening)) old) new is (row_adds number (delivery_of_input (hears_open false name opening)) (hears_open false name opening) old.layer refl tt)
takes_add number (opens name opening) old new short is =
    adds_to old.layer (on_layer (message_taken number (opens name opening)) old) new is (row_adds number (delivery_of_input (opens name opening)) (opens name opening) old.layer refl tt)
takes_add number (agrees name) old new short is =
    adds_to old.layer (on_layer (message_taken number (agrees name)) old) new is (row_adds number (delivery_of_input (agrees name)) (agrees name) old.layer refl tt)
takes_add number hears_ack old new short is = adds_to old.layer (on_layer (message_taken number hears_ack) old) new is (row_adds number (delivery_of_input hears_ack) hears_ack old.layer refl tt)
takes_add number (hears_message content) old new short is =
    adds_to old.layer (on_layer (message_taken number (hears_message content)) old) new is (row_adds number (delivery_of_input (hears_message content)) (hears_message content) old.layer refl short)
takes_add number hears_bad_message old new short is =
    adds_to old.layer (on_layer (message_taken number hears_bad_message) old) new is (row_adds number (delivery_of_input hears_bad_message) hears_bad_message old.layer refl tt)
takes_add number may_acknowledge old new short is =
    adds_to old.layer (on_layer (message_taken number may_acknowledge) old) new is (row_adds number (delivery_of_input may_acknowledge) may_acknowledge old.layer refl tt)
takes_add number is_closed old new short is = adds_to old.layer (on_layer (message_taken number is_closed) old) new is (row_adds number (delivery_of_input is_closed) is_closed old.layer refl tt)
takes_add number all_is_sent old new short is = adds_to old.layer (on_layer (message_taken number all_is_sent) old) new is (row_adds number (delivery_of_input all_is_sent) all_is_sent old.layer refl tt)
takes_add number cannot_reset old new short is = adds_to old.layer (on_layer (message_taken number cannot_reset) old) new is (row_adds number (delivery_of_input cannot_reset) cannot_reset old.layer refl tt)
takes_add number was_performed old new short is =
    adds_to old.layer (on_layer (message_taken number was_performed) old) new is (row_adds number (delivery_of_input was_performed) was_performed old.layer refl tt)
takes_add number was_refused old new short is = adds_to old.layer (on_layer (message_taken number was_refused) old) new is (row_adds number (delivery_of_input was_refused) was_refused old.layer refl tt)
takes_add number peer_resets old new short is = adds_to old.layer (on_layer (message_taken number peer_resets) old) new is (row_adds number (delivery_of_input peer_resets) peer_resets old.layer refl tt)
takes_add number association_ends old new short is =
    adds_to old.layer (on_layer (message_taken number association_ends) old) new is (row_adds number (delivery_of_input association_ends) association_ends old.layer refl tt)

-- ---- ACKs

acked_adds : (answer : Result (Unit {0}) SendError) (number : ℕ) (held : HeldStream) (below : UserView) (layer : LayerView) → Adds layer (view_after_ack answer number held below layer).layer
acked_adds (Ok done) number held below layer = row_adds number held.delivery may_acknowledge layer refl tt
acked_adds (Err refusal) number held below layer = adds_none layer (view_after_ack (Err refusal) number held below layer).layer refl (le_same layer.named) refl

ack_adds : (number : ℕ) (held : HeldStream) (old new : ChannelsView) → SendsAck number held old new → Adds old.layer new.layer
ack_adds number held old new acks = adds_to old.layer _ new acks.is (acked_adds acks.answer number held acks.below old.layer)

ack_where_adds : (due : Bool) (number : ℕ) (held : HeldStream) (old new : ChannelsView) → AcksIfDue due number held old new → Adds old.layer new.layer
ack_where_adds true number held old new acks = ack_adds number held old new acks
ack_where_adds false number held old new is = adds_to old.layer old new is (adds_refl old.layer)

acks_add : (found : Option HeldStream) (number : ℕ) (old new : ChannelsView) → AcksHeld found number old new → Adds old.layer new.layer
acks_add None number old new is = adds_to old.layer old new is (adds_refl old.layer)
acks_add (Some held) number old new acks = ack_where_adds (ack_is_due old held) number held old new acks

-- ---- one thing

message_adds : (handled : Bool) (m : MessageContent) (old new : ChannelsView) → HandlesOrDropsMessage handled m old new → Adds old.layer new.layer
message_adds false m old new is = adds_to old.layer old new is (adds_refl old.layer)
message_adds true m old new made =
    adds_then old.layer made.0.layer [] new.layer (takes_add m.stream (input_of old.layer m) old made.0 (input_short old.layer m) made.1) (acks_add (held_stream_numbered made.0.layer m.stream) m.stream made.0 new made.2)

reset_adds : (answer : Result (Unit {0}) ResetStreamsError) (number : ℕ) (held : HeldStream) (layer : LayerView) → Adds layer (row_taken number held.delivery (reset_input answer) layer)
reset_adds (Ok done) number held layer = row_adds number held.delivery all_is_sent layer refl tt
reset_adds (Err error) number held layer = row_adds number held.delivery cannot_reset layer refl tt

late_adds : (old new : ChannelsView) → DoesLate old new → Adds old.layer new.layer
late_adds old new (a_reset number held at due resets) = adds_to old.layer _ new resets.is (reset_adds resets.answer number held old.layer)
late_adds old new (an_ack number held none at due acks) = ack_adds number held old new acks
late_adds old new (waiting_begin no_reset no_ack may begun) = waiting_adds old new begun

next_adds : (old new : ChannelsView) → HandlesNext old new → Adds old.layer new.layer
next_adds old new (an_event first rest due told made) =
    adds_from old.layer (record old.layer { told = rest }) new.layer [] refl (le_same old.layer.named) refl (events_add old.layer.over first.event (on_layer (λ layer. record layer { told = rest }) old) new made)
next_adds old new (a_message due ready) =
    adds_from old.layer (one_more_taken ready.below old.layer).layer new.layer [] refl (le_same old.layer.named) refl
    (message_adds (is_handled (one_more_taken ready.below old.layer) (message_content ready.taken).stream) (message_content ready.taken) (one_more_taken ready.below old.layer) new ready.handles)
next_adds old new (put_off quiet lasts late) = late_adds old new late

-- ---- a poll

from_queue : (packets : List (List ℕ)) (old : LayerView) (notice : ChannelNotice) (new : LayerView) → TakesNextNotice packets old notice new → PollReports (Some notice) old new
from_queue (packet ∷ rest) old notice new (out, is) =
    record { taken = []; was_taken = inr (refl, subst WasPacket (sym out) tt); reports = subst (λ (l : LayerView). Reports old [] l) (sym is) (adds_none old (record old { packets = rest }) refl (le_same old.named) refl) }
from_queue [] old notice new taken =
    record {
      taken = notice ∷ [];
      was_taken = inl refl;
      reports =
          subst (λ (l : LayerView). Reports old (notice ∷ []) l) (sym taken.2)
          (record { more = []; behind = sym taken.1 ∙ sym (append-nil old.notices); are_new = le_same old.named; are_within = tt; limits_stay = refl });
    }

behind_first : (result : Option ChannelNotice) (a b c : LayerView) → Adds a b → PollReports result b c → PollReports result a c
behind_first result a b c adds polls = record { taken = polls.taken; was_taken = polls.was_taken; reports = adds_then a b polls.taken c adds polls.reports }

pub polls_add : (result : Option ChannelNotice) (new old : ChannelsView) → PollsInTurn result new old → PollReports result old.layer new.layer
polls_add result new _ (takes old notice is taken below) =
    subst (λ (r : Option ChannelNotice). PollReports r old.layer new.layer) (sym is)
    (behind_first (Some notice) old.layer (view_with_events old).layer new.layer (gathers_add old) (from_queue (view_with_events old).layer.packets (view_with_events old).layer notice new.layer taken))
polls_add result new _ (goes_on old between nothing next polls) =
    behind_first result old.layer between.layer new.layer
    (adds_then old.layer (view_with_events old).layer [] between.layer (gathers_add old) (next_adds (view_with_events old) between next)) (polls_add result new between polls)
polls_add result new _ (idle old is nothing none same) =
    subst (λ (r : Option ChannelNotice). PollReports r old.layer new.layer) (sym is)
    (record { taken = []; was_taken = refl; reports = adds_to old.layer (view_with_events old) new same (gathers_add old) })
