-- What is done where the socket tells something beside messages.
use Rattle.std.specs.Prelude.{◌≡◌, ℕ, ◌+◌, Bool, true, false, Option, Some, None, List, [], ◌∷◌, ◌++◌, nat_lt, map}
use Rattle.dcsctp_channel_messages.specs.channel_spec.Slots.{ended, SlotInput, was_performed, was_refused, peer_resets, association_ends}
use Rattle.std.specs.Map.{keys_of}
use Rattle.dcsctp_api.specs.spec.endpoint.Event.{Event, connected, closed, connection_restarted, aborted, buffered_amount_low, streams_reset_failed, streams_reset_performed, incoming_stream_reset}
use Rattle.dcsctp_channel_messages.specs.channel_spec.declared.types.ChannelEnd.TheVariants.{Lost}
use Rattle.dcsctp_channel_calls.specs.declared.channel.HeldStream.{HeldStream}
use Rattle.dcsctp_channel_calls.specs.View.{WaitingChannel, ChannelNotice, of_channel, LayerView, ChannelsView, held_stream_numbered, association_made, amount_low, association_over}
use Rattle.dcsctp_channel_calls.specs.Calls.{on_layer, SocketCloses}
use Rattle.dcsctp_channel_calls.specs.Sending.{row_taken_if_held}
use Rattle.dcsctp_channel_calls.specs.Opening.{BeginsWaiting}

-- ---- rows on several streams

-- the same row on each of these streams that is in use
abbrev pub rows_taken : List ℕ → SlotInput → LayerView → LayerView
rows_taken [] input layer = layer
rows_taken (number ∷ numbers) input layer = rows_taken numbers input (row_taken_if_held (held_stream_numbered layer number) number input layer)

-- an empty list means all streams
abbrev pub reset_numbers : List ℕ → LayerView → List ℕ
reset_numbers [] layer = keys_of layer.streams
reset_numbers (number ∷ numbers) layer = number ∷ numbers

-- ---- the association's end

abbrev pub lost_waiting : List WaitingChannel → List ChannelNotice
lost_waiting waiting = map (λ (waits : WaitingChannel). of_channel (ended waits.name Lost)) waiting

-- Each channel has its end, those that wait too, and nothing begins again.
abbrev pub streams_lost : LayerView → LayerView
streams_lost layer = rows_taken (keys_of layer.streams) association_ends (record layer { over = true; connected = false })

abbrev pub waiting_lost : LayerView → LayerView
waiting_lost layer = record layer { waiting = []; notices = layer.notices ++ lost_waiting layer.waiting }

abbrev pub with_notices : List ChannelNotice → LayerView → LayerView
with_notices notices layer = record layer { notices = layer.notices ++ notices }

abbrev pub channels_ended : LayerView → LayerView
channels_ended layer = with_notices (association_over ∷ []) (waiting_lost (streams_lost layer))

-- ---- an event of the socket

-- The user of a channel that has sent anything hears of a low amount: an OPEN is none of its messages.
abbrev pub low_notice : Option ℕ → Bool → List ChannelNotice
low_notice (Some name) true = amount_low name ∷ []
low_notice name has_sent = []

abbrev pub low_notices : Option HeldStream → List ChannelNotice
low_notices None = []
low_notices (Some held) = low_notice held.stream.name (nat_lt 0 held.traffic.messages_sent)

abbrev pub connection_made : LayerView → LayerView
connection_made layer = with_notices (association_made ∷ []) (record layer { connected = true })

abbrev pub streams_reset : List ℕ → LayerView → LayerView
streams_reset numbers layer = rows_taken (reset_numbers numbers layer) peer_resets layer

abbrev pub amount_reported : ℕ → LayerView → LayerView
amount_reported number layer = with_notices (low_notices (held_stream_numbered layer number)) layer

abbrev pub HandlesEvent : Event (List ℕ) → ChannelsView → ChannelsView → Type 0
HandlesEvent connected old new = BeginsWaiting (on_layer connection_made old) new
HandlesEvent closed old new = new ≡ on_layer channels_ended old
HandlesEvent (aborted kind text) old new = new ≡ on_layer channels_ended old
HandlesEvent connection_restarted old new = SocketCloses (on_layer channels_ended old) new
HandlesEvent (incoming_stream_reset numbers) old new = BeginsWaiting (on_layer (streams_reset numbers) old) new
HandlesEvent (streams_reset_performed numbers) old new = BeginsWaiting (on_layer (rows_taken numbers was_performed) old) new
HandlesEvent (streams_reset_failed numbers) old new = new ≡ on_layer (rows_taken numbers was_refused) old
HandlesEvent (buffered_amount_low number) old new = new ≡ on_layer (amount_reported number) old
HandlesEvent event old new = new ≡ old

-- After the association's end nothing is handled: what comes is of another association.
abbrev pub HandlesEventUnlessEnded : Bool → Event (List ℕ) → ChannelsView → ChannelsView → Type 0
HandlesEventUnlessEnded true event old new = new ≡ old
HandlesEventUnlessEnded false event old new = HandlesEvent event old new
