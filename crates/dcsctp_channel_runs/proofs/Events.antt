-- The association's end, and events of the socket.
use Rattle.std.proofs.Common.{◌≡◌, ◌≤◌, ℕ, Bool, true, false, nat_lt, Option, Some, None, List, [], ◌∷◌, ◌++◌, refl, sym, subst}
use Rattle.dcsctp_spec_runs.specs.Laws.{SocketsKeepOptions}
use Rattle.dcsctp_channel_calls.specs.api.types.declared.schedule.Side.{Side}
use Rattle.dcsctp_channel_calls.specs.api.spec.endpoint.Event.{Event, sent, error, connected, closed, aborted, connection_restarted, buffered_amount_low, streams_reset_failed, streams_reset_performed, incoming_stream_reset, total_buffered_amount_low, lifecycle_message_fully_sent, lifecycle_message_maybe_expired, lifecycle_message_expired, lifecycle_message_delivered, lifecycle_end}
use Rattle.dcsctp_channel_calls.specs.messages.channel_spec.Slots.{was_performed, was_refused, peer_resets, association_ends}
use Rattle.dcsctp_channel_calls.specs.declared.channel.HeldStream.{HeldStream}
use Rattle.dcsctp_channel_calls.specs.Calls.{on_layer}
use Rattle.dcsctp_channel_calls.specs.Events.{rows_taken, reset_numbers, lost_waiting, streams_lost, waiting_lost, channels_ended, low_notice, low_notices, connection_made, streams_reset, amount_reported, HandlesEvent, HandlesEventUnlessEnded}
use Rattle.dcsctp_channel_calls.specs.Opening.{BeginsWaiting}
use Rattle.dcsctp_channel_calls.specs.View.{WaitingChannel, ChannelNotice, association_made, amount_low, association_over, LayerView, ChannelsView, held_stream_numbered}
use Rattle.std.specs.Map.{keys_of}
use Rattle.dcsctp_channel_runs.specs.Acts.{OpenedChannel, packets_given, channels_reported, messages_reported}
use Rattle.dcsctp_channel_runs.proofs.Said.{Wait, wait_within}
use Rattle.dcsctp_channel_runs.proofs.Moves.{Moves, moves_then, Silently, silently_same, silently_then, layer_moves, silent_moves, stays}
use Rattle.dcsctp_channel_runs.proofs.Notices.{Tells, tells_then}
use Rattle.dcsctp_channel_runs.proofs.Streams.{keeping_then, same_keeps}
use Rattle.dcsctp_channel_runs.proofs.Naming.{lost_keeping}
use Rattle.dcsctp_channel_runs.proofs.Rows.{tells_more}
use Rattle.dcsctp_channel_runs.proofs.Sockets.{close_moves}
use Rattle.dcsctp_channel_runs.proofs.Begins.{only_moves, rows_silently, waiting_moves}

lost_channels : (waiting : List WaitingChannel) → channels_reported (lost_waiting waiting) ≡ []
lost_channels [] = refl
lost_channels (waits ∷ rest) = lost_channels rest

lost_contents : (waiting : List WaitingChannel) → messages_reported (lost_waiting waiting) ≡ []
lost_contents [] = refl
lost_contents (waits ∷ rest) = lost_contents rest

lost_packets : (waiting : List WaitingChannel) → packets_given (lost_waiting waiting) ≡ []
lost_packets [] = refl
lost_packets (waits ∷ rest) = lost_packets rest

lows_tell : (before : List ChannelNotice) (name : Option ℕ) (has_sent : Bool) → Tells [] [] [] before (before ++ low_notice name has_sent)
lows_tell before None has_sent = tells_more before [] [] [] refl refl refl
lows_tell before (Some name) true = tells_more before (amount_low name ∷ []) [] [] refl refl refl
lows_tell before (Some name) false = tells_more before [] [] [] refl refl refl

lows_held : (before : List ChannelNotice) (held : Option HeldStream) → Tells [] [] [] before (before ++ low_notices held)
lows_held before None = tells_more before [] [] [] refl refl refl
lows_held before (Some held) = lows_tell before held.stream.name (nat_lt 0 held.traffic.messages_sent)

module _ (keep : SocketsKeepOptions) (side : Side) (packets : List (List ℕ)) (all : List OpenedChannel) where
  -- ---- the association's end

  streams_lost_silently : (layer : LayerView) → Silently keep side packets all layer (streams_lost layer)
  streams_lost_silently layer =
      let over : LayerView = record layer { over = true; connected = false } in
      silently_then keep side packets all layer over (streams_lost layer) (silently_same keep side packets all layer over refl refl refl refl refl refl (λ was. refl))
      (rows_silently keep side packets all (keys_of layer.streams) association_ends over refl refl)

  lost_tells : (layer : LayerView) → Tells [] [] [] layer.notices (waiting_lost layer).notices
  lost_tells layer = tells_more layer.notices (lost_waiting layer.waiting) [] [] (lost_channels layer.waiting) (lost_contents layer.waiting) (lost_packets layer.waiting)

  ended_tells : (layer : LayerView) → Tells [] [] [] layer.notices (channels_ended layer).notices
  ended_tells layer =
      let lost : LayerView = streams_lost layer in
      tells_then [] [] [] [] [] layer.notices (waiting_lost lost).notices (channels_ended layer).notices
      (tells_then [] [] [] [] [] layer.notices lost.notices (waiting_lost lost).notices (streams_lost_silently layer).tells (lost_tells lost))
      (tells_more (waiting_lost lost).notices (association_over ∷ []) [] [] refl refl refl)

  pub ended_moves : (low : ℕ) (old : ChannelsView) → Wait all low old.layer.waiting old.layer.named → Moves keep side packets all [] low [] old [] (on_layer channels_ended old)
  ended_moves low old wait =
      let lost = streams_lost_silently old.layer in
      layer_moves keep side packets all low old (on_layer channels_ended old)
      (keeping_then [] [] old.layer (streams_lost old.layer) (channels_ended old.layer) lost.keeping
      (keeping_then [] [] (streams_lost old.layer) (waiting_lost (streams_lost old.layer)) (channels_ended old.layer) (lost_keeping (streams_lost old.layer))
      (same_keeps (waiting_lost (streams_lost old.layer)) (channels_ended old.layer) refl refl refl refl (λ was. was)))) refl lost.packets_stay (ended_tells old.layer)
      (subst (λ (n : ℕ). low ≤ n) (sym lost.named) (wait_within all low old.layer.waiting old.layer.named wait))

  -- ---- an event

  becomes_moves : (low : ℕ) (becomes : LayerView → LayerView) (old new : ChannelsView) → Silently keep side packets all old.layer (becomes old.layer) → new ≡ on_layer becomes old
      → Wait all low old.layer.waiting old.layer.named → Moves keep side packets all [] low [] old [] new
  becomes_moves low becomes old new silently is wait =
      subst (λ (v : ChannelsView). Moves keep side packets all [] low [] old [] v) (sym is) (silent_moves keep side packets all low old (on_layer becomes old) refl silently wait)

  -- what this makes of the layer, and then channels begin
  pub then_begins : (low : ℕ) (becomes : LayerView → LayerView) (old new : ChannelsView) → Silently keep side packets all old.layer (becomes old.layer) → BeginsWaiting (on_layer becomes old) new
      → Wait all low old.layer.waiting old.layer.named → Moves keep side packets all [] low [] old [] new
  then_begins low becomes old new silently begun wait =
      let first = silent_moves keep side packets all low old (on_layer becomes old) refl silently wait in
      moves_then keep side packets all [] low old (on_layer becomes old) [] new first (waiting_moves keep side packets all first.steps.high (on_layer becomes old) new first.waits begun)

  connected_silently : (layer : LayerView) → Silently keep side packets all layer (connection_made layer)
  connected_silently layer =
      record { packets_stay = refl; waiting = refl; named = refl; keeping = same_keeps layer (connection_made layer) refl refl refl refl (λ was. was); tells = tells_more layer.notices (association_made ∷ []) [] [] refl refl refl }

  reported_silently : (number : ℕ) (layer : LayerView) → Silently keep side packets all layer (amount_reported number layer)
  reported_silently number layer =
      record { packets_stay = refl; waiting = refl; named = refl; keeping = same_keeps layer (amount_reported number layer) refl refl refl refl (λ was. was); tells = lows_held layer.notices (held_stream_numbered layer number) }

  event_moves : (low : ℕ) (event : Event (List ℕ)) (old new : ChannelsView) → HandlesEvent event old new → Wait all low old.layer.waiting old.layer.named
      → Moves keep side packets all [] low [] old [] new
  event_moves low connected old new made wait = then_begins low connection_made old new (connected_silently old.layer) made wait
  event_moves low closed old new is wait = subst (λ (v : ChannelsView). Moves keep side packets all [] low [] old [] v) (sym is) (ended_moves low old wait)
  event_moves low (aborted kind text) old new is wait = subst (λ (v : ChannelsView). Moves keep side packets all [] low [] old [] v) (sym is) (ended_moves low old wait)
  event_moves low connection_restarted old new made wait =
      let first = ended_moves low old wait in
      moves_then keep side packets all [] low old (on_layer channels_ended old) [] new first
      (only_moves keep side packets all first.steps.high _ (on_layer channels_ended old) new made (close_moves keep side packets all first.steps.high (on_layer channels_ended old) made.below made.makes first.waits))
  event_moves low (incoming_stream_reset numbers) old new made wait =
      then_begins low (streams_reset numbers) old new (rows_silently keep side packets all (reset_numbers numbers old.layer) peer_resets old.layer refl refl) made wait
  event_moves low (streams_reset_performed numbers) old new made wait = then_begins low (rows_taken numbers was_performed) old new (rows_silently keep side packets all numbers was_performed old.layer refl refl) made wait
  event_moves low (streams_reset_failed numbers) old new is wait = becomes_moves low (rows_taken numbers was_refused) old new (rows_silently keep side packets all numbers was_refused old.layer refl refl) is wait
  event_moves low (buffered_amount_low number) old new is wait = becomes_moves low (amount_reported number) old new (reported_silently number old.layer) is wait
  event_moves low (sent packet) old new is wait = stays keep side packets all low old new is wait
  event_moves low (error kind text) old new is wait = stays keep side packets all low old new is wait
  event_moves low total_buffered_amount_low old new is wait = stays keep side packets all low old new is wait
  event_moves low (lifecycle_message_fully_sent id) old new is wait = stays keep side packets all low old new is wait
  event_moves low (lifecycle_message_maybe_expired id) old new is wait = stays keep side packets all low old new is wait
  event_moves low (lifecycle_message_expired id) old new is wait = stays keep side packets all low old new is wait
  event_moves low (lifecycle_message_delivered id) old new is wait = stays keep side packets all low old new is wait
  event_moves low (lifecycle_end id) old new is wait = stays keep side packets all low old new is wait

  pub events_move : (low : ℕ) (over : Bool) (event : Event (List ℕ)) (old new : ChannelsView) → HandlesEventUnlessEnded over event old new → Wait all low old.layer.waiting old.layer.named
      → Moves keep side packets all [] low [] old [] new
  events_move low true event old new is wait = stays keep side packets all low old new is wait
  events_move low false event old new made wait = event_moves low event old new made wait
