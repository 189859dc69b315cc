-- What calls report.
use Rattle.std.proofs.Common.{if◌then◌else◌, Bool, ◌≡◌, ◌==◌, ◌≤◌, ℕ, ◌+◌, true, false, Option, Some, None, Result, Ok, Err, List, [], ◌∷◌, refl, arith}
use Rattle.dcsctp_channel_calls.specs.api.Calls.{UserView}
use Rattle.dcsctp_channel_calls.specs.api.declared.errors.SendError.{SendError}
use Rattle.dcsctp_channel_calls.specs.messages.channel_spec.declared.types.ChannelEnd.TheVariants.{Closed, NoStream}
use Rattle.dcsctp_channel_calls.specs.messages.channel_spec.declared.types.Role.{Role}
use Rattle.dcsctp_channel_calls.specs.messages.channel_spec.Contents.{ChannelContent}
use Rattle.dcsctp_channel_calls.specs.messages.channel_spec.Slots.{Opening, ended, SlotInput, opens, agrees, is_closed}
use Rattle.dcsctp_channel_calls.specs.declared.channel.ChannelError.{ChannelError}
use Rattle.dcsctp_channel_calls.specs.declared.channel.ChannelId.{ChannelId}
use Rattle.dcsctp_channel_calls.specs.declared.channel.HeldStream.{HeldStream}
use Rattle.dcsctp_channel_calls.specs.declared.channel.Limits.{Limits}
use Rattle.dcsctp_channel_calls.specs.View.{WaitingChannel, ChannelNotice, of_channel, LayerView, ChannelsView, held_stream_numbered, view_with_events}
use Rattle.dcsctp_channel_calls.specs.Calls.{OnlySocket, on_layer, clock_set}
use Rattle.dcsctp_channel_calls.specs.Sending.{SendsIfOpen, view_after_send, row_taken_if_held, ends_waiting, layer_after_close, channel_closed, SetsThresholdIfOpen, open_stream, stream_of_name}
use Rattle.dcsctp_channel_calls.specs.Opening.{BeginsOn, BeginsInTurn, none_waits, begins, waits_on, BeginsWhereKnown, BeginsWaiting, may_begin, view_after_open, opening_said, channels_waiting, without_stream, OpensOrRefuses, OpensChannel, open_refusal, named_next}
use Rattle.dcsctp_channel_laws.specs.Names.{names_given, AreWithin, ChannelsCall, sets_role, connects, handles_input, advances, aborts, shuts_down, opens_channel, sends_content, closes_channel, sets_threshold, IsCallMade}
use Rattle.dcsctp_channel_laws.proofs.Adding.{le_same, rises, Adds, adds_then, adds_quietly, adds_none, adds_refl, adds_to, adds_from}
use Rattle.dcsctp_channel_laws.proofs.Rows.{accepts, IsBounded, row_adds}

-- ---- the socket below

pub only_adds : (Makes : UserView → Type 0) (old new : ChannelsView) → OnlySocket Makes old new → Adds old.layer new.layer
only_adds Makes old new only =
    adds_to old.layer (view_with_events (record old { below = only.below })) new only.is (adds_none old.layer (view_with_events (record old { below = only.below })).layer refl (le_same old.layer.named) refl)

pub gathers_add : (view : ChannelsView) → Adds view.layer (view_with_events view).layer
gathers_add view = adds_none view.layer (view_with_events view).layer refl (le_same view.layer.named) refl

-- ---- rows

pub row_where_adds : (held : Option HeldStream) (number : ℕ) (input : SlotInput) (layer : LayerView) → accepts input ≡ false → IsBounded layer.limits input → Adds layer (row_taken_if_held held number input layer)
row_where_adds None number input layer not bounded = adds_refl layer
row_where_adds (Some held) number input layer not bounded = row_adds number held.delivery input layer not bounded

-- ---- channels begin

opened_adds : (answer : Result (Unit {0}) SendError) (number : ℕ) (waits : WaitingChannel) (below : UserView) (layer : LayerView) → Adds layer (view_after_open answer number waits below layer).layer
opened_adds (Ok done) number waits below layer = row_adds number waits.delivery (opens waits.name (opening_said waits.payload)) layer refl tt
opened_adds (Err refusal) number waits below layer = adds_none layer (view_after_open (Err refusal) number waits below layer).layer refl (le_same layer.named) refl

ends_adds : (name : ℕ) (old new : ChannelsView) → new ≡ on_layer (without_stream name) old → Adds old.layer new.layer
ends_adds name old new is =
    adds_to old.layer (on_layer (without_stream name) old) new is
    (adds_quietly old.layer (without_stream name old.layer) (of_channel (ended name NoStream) ∷ []) refl refl tt (le_same old.layer.named) refl)

begins_adds : (waits : WaitingChannel) (negotiated stream : Option ℕ) (begun : Bool) (old new : ChannelsView) → BeginsOn waits negotiated stream begun old new → Adds old.layer new.layer
begins_adds waits None None begun old new on = ends_adds waits.name old new on.1
begins_adds waits (Some agreed) None begun old new on = ends_adds waits.name old new on.1
begins_adds waits (Some agreed) (Some number) begun old new on =
    adds_to old.layer _ new on.1.is (row_adds number waits.delivery (agrees waits.name) old.layer refl tt)
begins_adds waits None (Some number) begun old new on =
    adds_to old.layer _ new on.is (opened_adds on.answer number waits on.below old.layer)

out_adds : (waiting : List WaitingChannel) (old : LayerView) (new : LayerView) → Adds (channels_waiting waiting old) new → Adds old new
out_adds waiting old new adds = adds_from old (channels_waiting waiting old) new [] refl (le_same old.named) refl adds

pub turns_add : (role : Role) (new old : ChannelsView) → BeginsInTurn role new old → Adds old.layer new.layer
turns_add role new _ (none_waits old none is) = adds_to old.layer old new is (adds_refl old.layer)
turns_add role new _ (begins old between waits rest is first others) =
    out_adds rest old.layer new.layer
    (adds_then (channels_waiting rest old.layer) between.layer [] new.layer
    (begins_adds waits waits.negotiated first.stream true (on_layer (channels_waiting rest) old) between first.begins) (turns_add role new between others))
turns_add role new _ (waits_on old between waits rest is first back) =
    out_adds rest old.layer new.layer
    (adds_then (channels_waiting rest old.layer) between.layer [] new.layer
    (begins_adds waits waits.negotiated first.stream false (on_layer (channels_waiting rest) old) between first.begins)
    (adds_to between.layer (on_layer (channels_waiting (waits ∷ rest)) between) new back
    (adds_none between.layer (channels_waiting (waits ∷ rest) between.layer) refl (le_same between.layer.named) refl)))

known_adds : (may : Bool) (role : Option Role) (old new : ChannelsView) → BeginsWhereKnown may role old new → Adds old.layer new.layer
known_adds true (Some role) old new turns = turns_add role new old turns
known_adds true None old new is = adds_to old.layer old new is (adds_refl old.layer)
known_adds false None old new is = adds_to old.layer old new is (adds_refl old.layer)
known_adds false (Some role) old new is = adds_to old.layer old new is (adds_refl old.layer)

pub waiting_adds : (old new : ChannelsView) → BeginsWaiting old new → Adds old.layer new.layer
waiting_adds old new begun = known_adds (may_begin old.layer) old.layer.role old new begun

-- ---- a call

named_adds : (opening : Opening) (negotiated : Option ℕ) (layer : LayerView) → Adds layer (named_next opening negotiated layer)
named_adds opening negotiated layer = adds_none layer (named_next opening negotiated layer) refl (let le : layer.named ≤ layer.named + 1 = omega arith in le) refl

opens_add : (opening : Opening) (negotiated : Option ℕ) (refusal : Option ChannelError) (answer : Result ChannelId ChannelError) (old new : ChannelsView)
    → OpensOrRefuses opening negotiated refusal answer old new → Adds old.layer new.layer
opens_add opening negotiated None (Ok id) old new made =
    adds_then old.layer (named_next opening negotiated old.layer) [] new.layer (named_adds opening negotiated old.layer) (waiting_adds (on_layer (named_next opening negotiated) old) new made.1)
opens_add opening negotiated None (Err error) old new made = absurd made
opens_add opening negotiated (Some refusal) (Ok id) old new made = absurd made
opens_add opening negotiated (Some refusal) (Err error) old new made = adds_to old.layer old new made.1 (adds_refl old.layer)

sent_adds : (taken : Result (Unit {0}) SendError) (number bytes : ℕ) (held : HeldStream) (below : UserView) (layer : LayerView) → Adds layer (view_after_send taken number bytes held below layer).layer
sent_adds (Ok done) number bytes held below layer = adds_none layer (view_after_send (Ok done) number bytes held below layer).layer refl (le_same layer.named) refl
sent_adds (Err refusal) number bytes held below layer = adds_refl layer

sends_add : (found : Option (ℕ × HeldStream)) (content : ChannelContent) (answer : Result (Unit {0}) ChannelError) (old new : ChannelsView) → SendsIfOpen found content answer old new
    → Adds old.layer new.layer
sends_add None content answer old new made = adds_to old.layer old new made.1 (adds_refl old.layer)
sends_add (Some found) content answer old new made = adds_to old.layer _ new made.is (sent_adds made.taken found.0 _ found.1 made.below old.layer)

ends_here : (name : ℕ) (waits : WaitingChannel) (rest : List WaitingChannel) → names_given (ends_waiting name rest) ≡ [] → (b : Bool) → (waits.name == name) ≡ b
    → names_given (ends_waiting name (waits ∷ rest)) ≡ []
ends_here name waits rest others true is = rw is refl
ends_here name waits rest others false is = rw is others

ends_waiting_quietly : (name : ℕ) (waiting : List WaitingChannel) → names_given (ends_waiting name waiting) ≡ []
ends_waiting_quietly name [] = refl
ends_waiting_quietly name (waits ∷ rest) = ends_here name waits rest (ends_waiting_quietly name rest) (waits.name == name) refl

end_within : (limits : Limits) (name : ℕ) (b : Bool) (others : List ChannelNotice) → AreWithin limits others → AreWithin limits (if b then of_channel (ended name Closed) ∷ [] else others)
end_within limits name true others within = tt
end_within limits name false others within = within

ends_within : (limits : Limits) (name : ℕ) (waiting : List WaitingChannel) → AreWithin limits (ends_waiting name waiting)
ends_within limits name [] = tt
ends_within limits name (waits ∷ rest) = end_within limits name (waits.name == name) (ends_waiting name rest) (ends_within limits name rest)

closes_add : (stream : Option ℕ) (name : ℕ) (layer : LayerView) → Adds layer (layer_after_close stream name layer)
closes_add (Some number) name layer = row_where_adds (held_stream_numbered layer number) number is_closed layer refl tt
closes_add None name layer =
    adds_quietly layer (layer_after_close None name layer) (ends_waiting name layer.waiting) refl (ends_waiting_quietly name layer.waiting) (ends_within layer.limits name layer.waiting) (le_same layer.named) refl

sets_add : (stream : Option ℕ) (bytes : ℕ) (answer : Result (Unit {0}) ChannelError) (old new : ChannelsView) → SetsThresholdIfOpen stream bytes answer old new → Adds old.layer new.layer
sets_add None bytes answer old new made = adds_to old.layer old new made.1 (adds_refl old.layer)
sets_add (Some number) bytes answer old new made = adds_to old.layer _ new made.1.is (adds_refl old.layer)

pub calls_add : (call : ChannelsCall) (old new : ChannelsView) → IsCallMade call old new → Adds old.layer new.layer
calls_add (sets_role role) old new made =
    adds_from old.layer (record old.layer { role = Some role }) new.layer [] refl (le_same old.layer.named) refl (waiting_adds (on_layer (λ layer. record layer { role = Some role }) old) new made)
calls_add connects old new made = only_adds _ old new made
calls_add (handles_input packet) old new made =
    adds_from old.layer (record old.layer { has_room = true }) new.layer [] refl (le_same old.layer.named) refl (only_adds _ (on_layer (λ layer. record layer { has_room = true }) old) new made)
calls_add (advances moment) old new made =
    adds_from old.layer (clock_set moment old.layer) new.layer [] refl (le_same old.layer.named) refl (only_adds _ (on_layer (clock_set moment) old) new made)
calls_add aborts old new made = only_adds _ old new made
calls_add shuts_down old new made = only_adds _ old new made
calls_add (opens_channel opening negotiated answer) old new made = opens_add opening negotiated (open_refusal opening negotiated old) answer old new made
calls_add (sends_content name content answer) old new made = sends_add (open_stream old.layer name) content answer old new made
calls_add (closes_channel name) old new made = adds_to old.layer (on_layer (channel_closed name) old) new made (closes_add (stream_of_name old.layer name) name old.layer)
calls_add (sets_threshold name bytes answer) old new made = sets_add (stream_of_name old.layer name) bytes answer old new made

opens_next : (opening : Opening) (negotiated : Option ℕ) (refusal : Option ChannelError) (id : ChannelId) (old new : ChannelsView) → OpensOrRefuses opening negotiated refusal (Ok id) old new
    → (id.0 ≡ old.layer.named) × (id.0 + 1 ≤ new.layer.named)
opens_next opening negotiated None id old new made =
    let adds = waiting_adds (on_layer (named_next opening negotiated) old) new made.1 in
    let le : old.layer.named + 1 ≤ new.layer.named = rises _ _ adds in
    let same : id.0 ≡ old.layer.named = made.0 in (made.0, omega arith)
opens_next opening negotiated (Some refusal) id old new made = absurd made

pub opens_new : (opening : Opening) (negotiated : Option ℕ) (id : ChannelId) (old new : ChannelsView) → OpensChannel opening negotiated (Ok id) old new
    → (id.0 ≡ old.layer.named) × (id.0 + 1 ≤ new.layer.named)
opens_new opening negotiated id old new made = opens_next opening negotiated (open_refusal opening negotiated old) id old new made
