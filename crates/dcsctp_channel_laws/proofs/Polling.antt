-- What a poll reports.
use Rattle.std.proofs.Common.{◌≡◌, ℕ, Bool, true, false, not, nat_lt, Option, Some, None, List, [], ◌∷◌, refl}
use Rattle.std.specs.Map.{keys_of}
use Rattle.dcsctp_channel_calls.specs.api.spec.endpoint.Event.{Event, sent, connected, closed, connection_restarted, aborted, error, buffered_amount_low, total_buffered_amount_low, streams_reset_failed, streams_reset_performed, incoming_stream_reset, lifecycle_message_fully_sent, lifecycle_message_maybe_expired, lifecycle_message_expired, lifecycle_message_delivered, lifecycle_end}
use Rattle.dcsctp_channel_calls.specs.messages.channel_spec.Slots.{SlotInput, was_performed, was_refused, peer_resets, association_ends}
use Rattle.dcsctp_channel_calls.specs.declared.channel.HeldStream.{HeldStream}
use Rattle.dcsctp_channel_calls.specs.declared.channel.Limits.{Limits}
use Rattle.dcsctp_channel_calls.specs.View.{WaitingChannel, ChannelNotice, association_made, association_over, LayerView, ChannelsView, held_stream_numbered}
use Rattle.dcsctp_channel_calls.specs.Calls.{on_layer}
use Rattle.dcsctp_channel_calls.specs.Sending.{row_taken_if_held}
use Rattle.dcsctp_channel_calls.specs.Opening.{BeginsWaiting}
use Rattle.dcsctp_channel_calls.specs.Events.{rows_taken, reset_numbers, lost_waiting, streams_lost, waiting_lost, with_notices, channels_ended, low_notice, low_notices, connection_made, streams_reset, amount_reported, HandlesEvent, HandlesEventUnlessEnded}
use Rattle.dcsctp_channel_laws.specs.Names.{names_given, AreWithin}
use Rattle.dcsctp_channel_laws.proofs.Adding.{le_same, Adds, adds_then, adds_quietly, adds_refl, adds_to, adds_from}
use Rattle.dcsctp_channel_laws.proofs.Rows.{accepts, IsBounded}
use Rattle.dcsctp_channel_laws.proofs.Calls.{only_adds, row_where_adds, waiting_adds}

-- ---- events

pub rows_add : (numbers : List ℕ) (input : SlotInput) (layer : LayerView) → accepts input ≡ false → ((limits : Limits) → IsBounded limits input) → Adds layer (rows_taken numbers input layer)
rows_add [] input layer not bounded = adds_refl layer
rows_add (number ∷ numbers) input layer not bounded =
    adds_then layer (row_taken_if_held (held_stream_numbered layer number) number input layer) [] _ (row_where_adds (held_stream_numbered layer number) number input layer not (bounded layer.limits))
    (rows_add numbers input (row_taken_if_held (held_stream_numbered layer number) number input layer) not bounded)

notices_add : (notices : List ChannelNotice) (layer : LayerView) → names_given notices ≡ [] → AreWithin layer.limits notices → Adds layer (with_notices notices layer)
notices_add notices layer none within = adds_quietly layer (with_notices notices layer) notices refl none within (le_same layer.named) refl

lost_quietly : (waiting : List WaitingChannel) → names_given (lost_waiting waiting) ≡ []
lost_quietly [] = refl
lost_quietly (waits ∷ rest) = lost_quietly rest

lost_within : (limits : Limits) (waiting : List WaitingChannel) → AreWithin limits (lost_waiting waiting)
lost_within limits [] = tt
lost_within limits (waits ∷ rest) = lost_within limits rest

waiting_lost_adds : (layer : LayerView) → Adds layer (waiting_lost layer)
waiting_lost_adds layer = adds_quietly layer (waiting_lost layer) (lost_waiting layer.waiting) refl (lost_quietly layer.waiting) (lost_within layer.limits layer.waiting) (le_same layer.named) refl

streams_lost_add : (layer : LayerView) → Adds layer (streams_lost layer)
streams_lost_add layer =
    adds_from layer (record layer { over = true; connected = false }) (streams_lost layer) [] refl (le_same layer.named) refl
    (rows_add (keys_of layer.streams) association_ends (record layer { over = true; connected = false }) refl (λ limits. tt))

ended_adds : (layer : LayerView) → Adds layer (channels_ended layer)
ended_adds layer =
    adds_then layer (streams_lost layer) [] (channels_ended layer) (streams_lost_add layer)
    (adds_then (streams_lost layer) (waiting_lost (streams_lost layer)) [] (channels_ended layer) (waiting_lost_adds (streams_lost layer))
    (notices_add (association_over ∷ []) (waiting_lost (streams_lost layer)) refl tt))

low_quietly : (name : Option ℕ) (has_sent : Bool) → names_given (low_notice name has_sent) ≡ []
low_quietly None has_sent = refl
low_quietly (Some name) true = refl
low_quietly (Some name) false = refl

lows_quietly : (held : Option HeldStream) → names_given (low_notices held) ≡ []
lows_quietly None = refl
lows_quietly (Some held) = low_quietly held.stream.name (nat_lt 0 held.traffic.messages_sent)

low_within : (limits : Limits) (name : Option ℕ) (has_sent : Bool) → AreWithin limits (low_notice name has_sent)
low_within limits None has_sent = tt
low_within limits (Some name) true = tt
low_within limits (Some name) false = tt

lows_within : (limits : Limits) (held : Option HeldStream) → AreWithin limits (low_notices held)
lows_within limits None = tt
lows_within limits (Some held) = low_within limits held.stream.name (nat_lt 0 held.traffic.messages_sent)

-- what this makes of the layer, and then channels begin
then_begins : (becomes : LayerView → LayerView) (old new : ChannelsView) → Adds old.layer (becomes old.layer)
    → BeginsWaiting (on_layer becomes old) new → Adds old.layer new.layer
then_begins becomes old new adds begun = adds_then old.layer (becomes old.layer) [] new.layer adds (waiting_adds (on_layer becomes old) new begun)

event_adds : (event : Event (List ℕ)) (old new : ChannelsView) → HandlesEvent event old new → Adds old.layer new.layer
event_adds connected old new made =
    then_begins connection_made old new
    (adds_from old.layer (record old.layer { connected = true }) (connection_made old.layer) [] refl (le_same old.layer.named) refl
    (notices_add (association_made ∷ []) (record old.layer { connected = true }) refl tt)) made
event_adds closed old new is = adds_to old.layer (on_layer channels_ended old) new is (ended_adds old.layer)
event_adds (aborted kind text) old new is = adds_to old.layer (on_layer channels_ended old) new is (ended_adds old.layer)
event_adds connection_restarted old new made = adds_then old.layer (channels_ended old.layer) [] new.layer (ended_adds old.layer) (only_adds _ (on_layer channels_ended old) new made)
event_adds (incoming_stream_reset numbers) old new made =
    then_begins (streams_reset numbers) old new (rows_add (reset_numbers numbers old.layer) peer_resets old.layer refl (λ limits. tt)) made
event_adds (streams_reset_performed numbers) old new made = then_begins (rows_taken numbers was_performed) old new (rows_add numbers was_performed old.layer refl (λ limits. tt)) made
event_adds (streams_reset_failed numbers) old new is = adds_to old.layer (on_layer (rows_taken numbers was_refused) old) new is (rows_add numbers was_refused old.layer refl (λ limits. tt))
event_adds (buffered_amount_low number) old new is =
    adds_to old.layer (on_layer (amount_reported number) old) new is (notices_add (low_notices (held_stream_numbered old.layer number)) old.layer (lows_quietly (held_stream_numbered old.layer number)) (lows_within old.layer.limits (held_stream_numbered old.layer number)))
event_adds (sent packet) old new is = adds_to old.layer old new is (adds_refl old.layer)
event_adds (error kind text) old new is = adds_to old.layer old new is (adds_refl old.layer)
event_adds total_buffered_amount_low old new is = adds_to old.layer old new is (adds_refl old.layer)
event_adds (lifecycle_message_fully_sent id) old new is = adds_to old.layer old new is (adds_refl old.layer)
event_adds (lifecycle_message_maybe_expired id) old new is = adds_to old.layer old new is (adds_refl old.layer)
event_adds (lifecycle_message_expired id) old new is = adds_to old.layer old new is (adds_refl old.layer)
event_adds (lifecycle_message_delivered id) old new is = adds_to old.layer old new is (adds_refl old.layer)
event_adds (lifecycle_end id) old new is = adds_to old.layer old new is (adds_refl old.layer)

pub events_add : (over : Bool) (event : Event (List ℕ)) (old new : ChannelsView) → HandlesEventUnlessEnded over event old new → Adds old.layer new.layer
events_add true event old new is = adds_to old.layer old new is (adds_refl old.layer)
events_add false event old new made = event_adds event old new made
