-- Channels get their streams, and their OPENs are sent; events of the socket are handled.
use Rattle.std.proofs.Common.{◌≡◌, ◌<◌, ◌^◌, ℕ, ◌+◌, Bool, true, false, Option, Some, None, Result, Ok, Err, List, [], ◌∷◌, ◌++◌, length, refl, sym, ap, subst, ◌∙◌, inl, arith}
use Rattle.std.proofs.lemmas.Bool.{true≢false}
use Rattle.std.proofs.lemmas.List.{append-nil}
use Rattle.dcsctp_spec_runs.specs.Laws.{SocketsKeepOptions}
use Rattle.dcsctp_delivery_sockets.specs.sockets.Delivery.{FitsMessage}
use Rattle.dcsctp_channel_calls.specs.api.Calls.{UserView}
use Rattle.dcsctp_channel_calls.specs.api.Messages.{SendsMessage}
use Rattle.dcsctp_channel_calls.specs.api.declared.errors.SendError.{SendError}
use Rattle.dcsctp_channel_calls.specs.api.types.declared.schedule.Side.{Side}
use Rattle.dcsctp_channel_calls.specs.api.spec.endpoint.Event.{Event, sent, error, connected, closed, aborted, connection_restarted, buffered_amount_low, streams_reset_failed, streams_reset_performed, incoming_stream_reset, total_buffered_amount_low, lifecycle_message_fully_sent, lifecycle_message_maybe_expired, lifecycle_message_expired, lifecycle_message_delivered, lifecycle_end, packets_of_events}
use Rattle.dcsctp_channel_calls.specs.messages.channel_spec.declared.types.ChannelEnd.TheVariants.{NoStream}
use Rattle.dcsctp_channel_calls.specs.messages.channel_spec.declared.types.Delivery.{Delivery}
use Rattle.dcsctp_channel_calls.specs.messages.channel_spec.declared.types.Role.{Role}
use Rattle.dcsctp_channel_calls.specs.messages.channel_spec.Slots.{free, SlotInput, opens, agrees, ended}
use Rattle.dcsctp_channel_calls.specs.declared.channel.HeldStream.{HeldStream}
use Rattle.dcsctp_channel_calls.specs.Calls.{OnlySocket, on_layer}
use Rattle.dcsctp_channel_calls.specs.Events.{rows_taken}
use Rattle.dcsctp_channel_calls.specs.Opening.{is_taken, GetsStream, ReadiesStream, opening_said, view_after_open, Agrees, without_stream, BeginsOn, channels_waiting, BeginsInTurn, none_waits, begins, waits_on, BeginsWhereKnown, may_begin, BeginsWaiting}
use Rattle.dcsctp_channel_calls.specs.Sending.{plainly, control_message, row_taken_if_held}
use Rattle.dcsctp_channel_calls.specs.View.{WaitingChannel, ChannelNotice, of_channel, LayerView, ChannelsView, entry_numbered, held_stream_numbered, slot_numbered, row_taken, packets_of_layer_events, view_with_events}
use Rattle.dcsctp_channel_runs.specs.Acts.{AreByteValues, OpenedChannel}
use Rattle.dcsctp_channel_runs.proofs.Said.{Wait, same_le, WaitsFor, WaitsToOpen, wait_from}
use Rattle.dcsctp_channel_runs.proofs.Moves.{hears_nothing, Moves, moves_then, unmoved, Silently, silently_same, silently_then, layer_moves, stays}
use Rattle.dcsctp_channel_runs.proofs.Notices.{Tells, tells_nothing}
use Rattle.dcsctp_channel_runs.proofs.SentBy.{none_sent, an_open}
use Rattle.dcsctp_channel_calls.specs.api.spec.endpoint.MessageOutcomes.{sending_of}
use Rattle.dcsctp_channel_runs.proofs.Streams.{keep_plain, Keeping, same_keeps}
use Rattle.dcsctp_channel_runs.proofs.Naming.{row_keeping, waits_to_come, begun_noted, begun_on, rules_begun, gets_free, ends_keeping}
use Rattle.dcsctp_channel_runs.proofs.SlotNames.{names_none}
use Rattle.dcsctp_channel_runs.proofs.Rows.{brings_nothing, row_tells, tells_more}
use Rattle.dcsctp_channel_runs.proofs.Sockets.{readies_moves, send_moves}
use Rattle.dcsctp_channel_runs.proofs.Heard.{IsPassed}

-- ---- packets among events

pub layer_packets_are : (events : List (Event (List ℕ))) → packets_of_layer_events events ≡ packets_of_events events
layer_packets_are [] = refl
layer_packets_are (sent packet ∷ events) = ap (λ (l : List (List ℕ)). packet ∷ l) (layer_packets_are events)
layer_packets_are (error kind text ∷ events) = layer_packets_are events
layer_packets_are (aborted kind text ∷ events) = layer_packets_are events
layer_packets_are (connected ∷ events) = layer_packets_are events
layer_packets_are (closed ∷ events) = layer_packets_are events
layer_packets_are (connection_restarted ∷ events) = layer_packets_are events
layer_packets_are (streams_reset_failed numbers ∷ events) = layer_packets_are events
layer_packets_are (streams_reset_performed numbers ∷ events) = layer_packets_are events
layer_packets_are (incoming_stream_reset numbers ∷ events) = layer_packets_are events
layer_packets_are (buffered_amount_low number ∷ events) = layer_packets_are events
layer_packets_are (total_buffered_amount_low ∷ events) = layer_packets_are events
layer_packets_are (lifecycle_message_fully_sent id ∷ events) = layer_packets_are events
layer_packets_are (lifecycle_message_maybe_expired id ∷ events) = layer_packets_are events
layer_packets_are (lifecycle_message_expired id ∷ events) = layer_packets_are events
layer_packets_are (lifecycle_message_delivered id ∷ events) = layer_packets_are events
layer_packets_are (lifecycle_end id ∷ events) = layer_packets_are events

not_taken : (answer : Result (Unit {0}) SendError) → false ≡ is_taken answer → (refusal : SendError) × (answer ≡ Err refusal)
not_taken (Ok done) is = absurd (true≢false (sym is))
not_taken (Err refusal) is = (refusal, refl)

was_taken : (answer : Result (Unit {0}) SendError) → true ≡ is_taken answer → answer ≡ Ok tt
was_taken (Ok done) is = refl
was_taken (Err refusal) is = absurd (true≢false is)

-- an OPEN of a channel that waits fits the fields of a chunk
open_fits : (all : List OpenedChannel) (number : ℕ) (waits : WaitingChannel) → number < 2 ^ 16 → WaitsToOpen all waits → FitsMessage (control_message number waits.payload)
open_fits all number waits fits wanted =
    record {
      stream = fits;
      ppid = omega arith;
      payload = subst (λ (bytes : List ℕ). AreByteValues bytes) (sym wanted.payload) wanted.good.bytes;
      size = subst (λ (bytes : List ℕ). length bytes < 2 ^ 63) (sym wanted.payload) wanted.good.size;
    }

module _ (keep : SocketsKeepOptions) (side : Side) (packets : List (List ℕ)) (all : List OpenedChannel) where
  -- ---- events are taken over

  gathered_left : (view : ChannelsView) → (view.layer.packets ++ packets_of_layer_events view.below.events) ++ [] ≡ view.layer.packets ++ packets_of_events view.below.events
  gathered_left view = append-nil (view.layer.packets ++ packets_of_layer_events view.below.events) ∙ ap (λ (l : List (List ℕ)). view.layer.packets ++ l) (layer_packets_are view.below.events)

  pub gather_moves : (low : ℕ) (view : ChannelsView) → Wait all low view.layer.waiting view.layer.named → Moves keep side packets all [] low [] view [] (view_with_events view)
  gather_moves low view waits =
      unmoved keep side packets all [] low view [] (view_with_events view) [] [] [] (same_keeps view.layer (view_with_events view).layer refl refl refl refl (λ was. was)) (λ orderly. tt) refl (gathered_left view) waits
      (hears_nothing [] (IsPassed view.below.endpoint []) view.layer (view_with_events view).layer (same_keeps view.layer (view_with_events view).layer refl refl refl refl (λ was. was))) (tells_nothing view.layer.notices)

  -- the socket makes a call, and its events are taken over
  pub only_moves : (low : ℕ) (Makes : UserView → Type 0) (old new : ChannelsView) → (only : OnlySocket Makes old new)
      → Moves keep side packets all [] low [] old [] (record old { below = only.below }) → Moves keep side packets all [] low [] old [] new
  only_moves low Makes old new only first =
      let called : ChannelsView = record old { below = only.below } in
      subst (λ (v : ChannelsView). Moves keep side packets all [] low [] old [] v) (sym only.is)
      (moves_then keep side packets all [] low old called [] (view_with_events called) first (gather_moves first.steps.high called first.waits))

  -- ---- rows

  pub row_silently : (number : ℕ) (delivery : Delivery) (input : SlotInput) (layer : LayerView) → brings_nothing input ≡ true → names_none input ≡ true
      → Silently keep side packets all layer (row_taken number delivery input layer)
  row_silently number delivery input layer none names =
      record { packets_stay = refl; waiting = refl; named = refl; keeping = row_keeping number delivery input layer names; tells = row_tells number delivery input layer none }

  pub held_silently : (held : Option HeldStream) (number : ℕ) (input : SlotInput) (layer : LayerView) → brings_nothing input ≡ true → names_none input ≡ true
      → Silently keep side packets all layer (row_taken_if_held held number input layer)
  held_silently None number input layer none names = silently_same keep side packets all layer layer refl refl refl refl refl refl (λ was. was)
  held_silently (Some held) number input layer none names = row_silently number held.delivery input layer none names

  pub rows_silently : (numbers : List ℕ) (input : SlotInput) (layer : LayerView) → brings_nothing input ≡ true → names_none input ≡ true
      → Silently keep side packets all layer (rows_taken numbers input layer)
  rows_silently [] input layer none names = silently_same keep side packets all layer layer refl refl refl refl refl refl (λ was. was)
  rows_silently (number ∷ numbers) input layer none names =
      let next : LayerView = row_taken_if_held (held_stream_numbered layer number) number input layer in
      silently_then keep side packets all layer next (rows_taken numbers input next) (held_silently (held_stream_numbered layer number) number input layer none names) (rows_silently numbers input next none names)

  -- ---- a channel begins

  -- Its OPEN was sent.
  sent_moves : (low number : ℕ) (waits : WaitingChannel) (rest : List WaitingChannel) (old new : ChannelsView) (prepared : UserView) → old.layer.waiting ≡ waits ∷ rest → slot_numbered old.layer number ≡ free
      → ReadiesStream number waits.delivery.priority old.below prepared → WaitsToOpen all waits → SendsMessage (control_message number waits.payload) plainly prepared (Ok (Ok tt)) new.below
      → new.layer ≡ row_taken number waits.delivery (opens waits.name (opening_said waits.payload)) (channels_waiting rest old.layer)
      → Wait all low old.layer.waiting old.layer.named → Moves keep side packets all [] low [] old [] new
  sent_moves low number waits rest old new prepared is is_free readies wanted sends row wait =
      let ready : ChannelsView = record old { below = prepared } in
      let first = readies_moves keep side packets all low number waits.delivery.priority old prepared readies wait in
      let now : Wait all first.steps.high (waits ∷ rest) old.layer.named = subst (λ (l : List WaitingChannel). Wait all first.steps.high l old.layer.named) is first.waits in
      let channel : OpenedChannel = record { name = waits.name; opening = wanted.opening } in
      let after : LayerView = row_taken number waits.delivery (opens waits.name (opening_said waits.payload)) (channels_waiting rest old.layer) in
      let begun : Keeping ((waits.name, number) ∷ []) old.layer new.layer =
      subst (λ (l : LayerView). Keeping ((waits.name, number) ∷ []) old.layer l) (sym row)
      (begun_noted number waits.delivery (opens waits.name (opening_said waits.payload)) old.layer waits rest is is_free refl (λ n. tt)) in
      moves_then keep side packets all [] low old ready [] new first
      (send_moves keep side packets all first.steps.high (waits.name + 1) (control_message number waits.payload) plainly (channel ∷ []) [] ((waits.name, number) ∷ []) ready new (Ok tt)
      (open_fits all number waits readies.fits wanted)
      begun sends
      (λ orderly.
      let keeps = begun orderly in
      let gets : entry_numbered waits.name new.layer.names ≡ Some number = begun_on number waits.delivery (opens waits.name (opening_said waits.payload)) old.layer waits rest is is_free refl (λ n. tt) new.layer row orderly in
      an_open old.layer new.layer (sending_of plainly (control_message number waits.payload)) channel [] [] [] (keep_plain keeps) (record { ppid = refl; payload = wanted.payload; fits = wanted.good.fits }) refl
      (waits_to_come waits rest old.layer is orderly) (inl refl) tt
      (record { on = gets; rules = rules_begun number waits.delivery waits.name (opening_said waits.payload) (channels_waiting rest old.layer) new.layer is_free row ∙ ap (λ (d : Delivery). Some d) wanted.rules })
      (none_sent new.layer (same_keeps new.layer new.layer refl refl refl refl (λ was. was) keeps.orderly)))
      (now.0, wanted.opened, same_le (waits.name + 1))
      (ap (λ (l : LayerView). l.packets) row)
      (subst (λ (l : LayerView). Wait all (waits.name + 1) l.waiting l.named) (sym row) now.2)
      (subst (λ (l : LayerView). Tells [] [] [] old.layer.notices l.notices) (sym row)
      (row_tells number waits.delivery (opens waits.name (opening_said waits.payload)) (channels_waiting rest old.layer) refl)))

  -- The socket refused it, and the channel waits on.
  refused_moves : (low number : ℕ) (waits : WaitingChannel) (old new : ChannelsView) (prepared : UserView) (refusal : SendError)
      → ReadiesStream number waits.delivery.priority old.below prepared → WaitsToOpen all waits → SendsMessage (control_message number waits.payload) plainly prepared (Ok (Err refusal)) new.below
      → new.layer.packets ≡ old.layer.packets → new.layer.streams ≡ old.layer.streams → new.layer.names ≡ old.layer.names → new.layer.waiting ≡ old.layer.waiting → new.layer.named ≡ old.layer.named
      → new.layer.notices ≡ old.layer.notices → (old.layer.over ≡ true → new.layer.over ≡ true) → Wait all low old.layer.waiting old.layer.named → Moves keep side packets all [] low [] old [] new
  refused_moves low number waits old new prepared refusal readies wanted sends left streams names waiting named same over wait =
      let ready : ChannelsView = record old { below = prepared } in
      let first = readies_moves keep side packets all low number waits.delivery.priority old prepared readies wait in
      moves_then keep side packets all [] low old ready [] new first
      (send_moves keep side packets all first.steps.high first.steps.high (control_message number waits.payload) plainly [] [] [] ready new (Err refusal)
      (open_fits all number waits readies.fits wanted) (same_keeps old.layer new.layer streams names waiting named over) sends
      (λ orderly. none_sent old.layer (same_keeps old.layer new.layer streams names waiting named over orderly)) (same_le first.steps.high) left
      (subst (λ (l : List WaitingChannel). Wait all first.steps.high l new.layer.named) (sym waiting)
      (subst (λ (n : ℕ). Wait all first.steps.high old.layer.waiting n) (sym named) first.waits))
      (subst (λ (l : List ChannelNotice). Tells [] [] [] old.layer.notices l) (sym same) (tells_nothing old.layer.notices)))

  -- what waits behind the first
  behind_first : (low : ℕ) (waits : WaitingChannel) (rest : List WaitingChannel) (named : ℕ) → Wait all low (waits ∷ rest) named → Wait all low rest named
  behind_first low waits rest named (le, opened, others) = wait_from all low (waits.name + 1) rest named (omega arith) others

  ends_moves : (low : ℕ) (waits : WaitingChannel) (rest : List WaitingChannel) (old new : ChannelsView) → old.layer.waiting ≡ waits ∷ rest
      → new ≡ on_layer (without_stream waits.name) (on_layer (channels_waiting rest) old) → Wait all low old.layer.waiting old.layer.named → Moves keep side packets all [] low [] old [] new
  ends_moves low waits rest old new is gone wait =
      let over : ChannelsView = on_layer (without_stream waits.name) (on_layer (channels_waiting rest) old) in
      subst (λ (v : ChannelsView). Moves keep side packets all [] low [] old [] v) (sym gone)
      (layer_moves keep side packets all low old over (ends_keeping old.layer waits rest is) refl refl (tells_more old.layer.notices (of_channel (ended waits.name NoStream) ∷ []) [] [] refl refl refl)
      (behind_first low waits rest old.layer.named (subst (λ (l : List WaitingChannel). Wait all low l old.layer.named) is wait)))

  agreed_moves : (low number : ℕ) (waits : WaitingChannel) (rest : List WaitingChannel) (old new : ChannelsView) → old.layer.waiting ≡ waits ∷ rest → slot_numbered old.layer number ≡ free
      → Agrees number waits (on_layer (channels_waiting rest) old) new → Wait all low old.layer.waiting old.layer.named → Moves keep side packets all [] low [] old [] new
  agreed_moves low number waits rest old new is is_free made wait =
      let ready : ChannelsView = record old { below = made.prepared } in
      let first = readies_moves keep side packets all low number waits.delivery.priority old made.prepared made.prepares wait in
      let after : ChannelsView = record { below = made.prepared; layer = row_taken number waits.delivery (agrees waits.name) (channels_waiting rest old.layer) } in
      subst (λ (v : ChannelsView). Moves keep side packets all [] low [] old [] v) (sym made.is)
      (moves_then keep side packets all [] low old ready [] after first
      (unmoved keep side packets all [] first.steps.high ready [] after [] [] ((waits.name, number) ∷ [])
      (begun_noted number waits.delivery (agrees waits.name) old.layer waits rest is is_free refl (λ n. tt)) (λ orderly. tt) refl refl
      (behind_first first.steps.high waits rest old.layer.named (subst (λ (l : List WaitingChannel). Wait all first.steps.high l old.layer.named) is first.waits))
      (hears_nothing ((waits.name, number) ∷ []) (IsPassed made.prepared.endpoint []) old.layer after.layer (begun_noted number waits.delivery (agrees waits.name) old.layer waits rest is is_free refl (λ n. tt)))
      (row_tells number waits.delivery (agrees waits.name) (channels_waiting rest old.layer) refl)))

  -- The first that waits begins, or is over.
  begun_moves : (low : ℕ) (waits : WaitingChannel) (rest : List WaitingChannel) (role : Role) (negotiated stream : Option ℕ) (old new : ChannelsView) → old.layer.waiting ≡ waits ∷ rest
      → WaitsFor all negotiated waits → GetsStream role (on_layer (channels_waiting rest) old) negotiated stream → BeginsOn waits negotiated stream true (on_layer (channels_waiting rest) old) new → Wait all low old.layer.waiting old.layer.named
      → Moves keep side packets all [] low [] old [] new
  begun_moves low waits rest role None None old new is wanted gets made wait = ends_moves low waits rest old new is made.1 wait
  begun_moves low waits rest role (Some agreed) None old new is wanted gets made wait = ends_moves low waits rest old new is made.1 wait
  begun_moves low waits rest role (Some agreed) (Some number) old new is wanted gets made wait =
      agreed_moves low number waits rest old new is (gets_free role (on_layer (channels_waiting rest) old) (Some agreed) number gets) made.1 wait
  begun_moves low waits rest role None (Some number) old new is wanted gets made wait =
      let taken = was_taken made.answer made.begins in
      let new_is : new ≡ view_after_open (Ok tt) number waits made.below (channels_waiting rest old.layer) =
      made.is ∙ ap (λ (a : Result (Unit {0}) SendError). view_after_open a number waits made.below (channels_waiting rest old.layer)) taken in
      sent_moves low number waits rest old new made.prepared is (gets_free role (on_layer (channels_waiting rest) old) None number gets) made.prepares wanted
      (subst (λ (a : Result (Unit {0}) SendError). SendsMessage (control_message number waits.payload) plainly made.prepared (Ok a) new.below) taken
      (subst (λ (u : UserView). SendsMessage (control_message number waits.payload) plainly made.prepared (Ok made.answer) u) (sym (ap (λ (v : ChannelsView). v.below) new_is)) made.sends))
      (ap (λ (v : ChannelsView). v.layer) new_is) wait

  -- The first waits on.
  waiting_on_moves : (low : ℕ) (waits : WaitingChannel) (rest : List WaitingChannel) (negotiated stream : Option ℕ) (old between new : ChannelsView) → old.layer.waiting ≡ waits ∷ rest
      → WaitsFor all negotiated waits → BeginsOn waits negotiated stream false (on_layer (channels_waiting rest) old) between
      → new ≡ on_layer (channels_waiting (waits ∷ rest)) between → Wait all low old.layer.waiting old.layer.named
      → Moves keep side packets all [] low [] old [] new
  waiting_on_moves low waits rest None None old between new is wanted made back wait = absurd (true≢false (sym made.0))
  waiting_on_moves low waits rest (Some agreed) None old between new is wanted made back wait = absurd (true≢false (sym made.0))
  waiting_on_moves low waits rest (Some agreed) (Some number) old between new is wanted made back wait = absurd (true≢false (sym made.0))
  waiting_on_moves low waits rest None (Some number) old between new is wanted made back wait =
      let refused = not_taken made.answer made.begins in
      let between_is : between ≡ view_after_open (Err refused.0) number waits made.below (channels_waiting rest old.layer) =
      made.is ∙ ap (λ (a : Result (Unit {0}) SendError). view_after_open a number waits made.below (channels_waiting rest old.layer)) refused.1 in
      let new_is : new ≡ on_layer (channels_waiting (waits ∷ rest)) (view_after_open (Err refused.0) number waits made.below (channels_waiting rest old.layer)) =
      back ∙ ap (on_layer (channels_waiting (waits ∷ rest))) between_is in
      refused_moves low number waits old new made.prepared refused.0 made.prepares wanted
      (subst (λ (a : Result (Unit {0}) SendError). SendsMessage (control_message number waits.payload) plainly made.prepared (Ok a) new.below) refused.1
      (subst (λ (u : UserView). SendsMessage (control_message number waits.payload) plainly made.prepared (Ok made.answer) u) (sym (ap (λ (v : ChannelsView). v.below) new_is)) made.sends))
      (ap (λ (v : ChannelsView). v.layer.packets) new_is)
      (ap (λ (v : ChannelsView). v.layer.streams) new_is)
      (ap (λ (v : ChannelsView). v.layer.names) new_is)
      (ap (λ (v : ChannelsView). v.layer.waiting) new_is ∙ sym is)
      (ap (λ (v : ChannelsView). v.layer.named) new_is)
      (ap (λ (v : ChannelsView). v.layer.notices) new_is) (λ was. ap (λ (v : ChannelsView). v.layer.over) new_is ∙ was) wait

  first_opened : (low : ℕ) (waits : WaitingChannel) (rest : List WaitingChannel) (waiting : List WaitingChannel) (named : ℕ) → waiting ≡ waits ∷ rest → Wait all low waiting named
      → WaitsFor all waits.negotiated waits
  first_opened low waits rest waiting named is wait = (subst (λ (l : List WaitingChannel). Wait all low l named) is wait).1

  turns_move : (role : Role) (new : ChannelsView) (low : ℕ) (old : ChannelsView) → Wait all low old.layer.waiting old.layer.named → BeginsInTurn role new old → Moves keep side packets all [] low [] old [] new
  turns_move role new low _ wait (none_waits old none is) = stays keep side packets all low old new is wait
  turns_move role new low _ wait (begins old between waits rest is first others) =
      let begun = begun_moves low waits rest role waits.negotiated first.stream old between is (first_opened low waits rest old.layer.waiting old.layer.named is wait) first.gets first.begins wait in
      moves_then keep side packets all [] low old between [] new begun (turns_move role new begun.steps.high between begun.waits others)
  turns_move role new low _ wait (waits_on old between waits rest is first back) =
      waiting_on_moves low waits rest waits.negotiated first.stream old between new is (first_opened low waits rest old.layer.waiting old.layer.named is wait) first.begins back wait

  known_moves : (low : ℕ) (may : Bool) (role : Option Role) (old new : ChannelsView) → Wait all low old.layer.waiting old.layer.named → BeginsWhereKnown may role old new
      → Moves keep side packets all [] low [] old [] new
  known_moves low true (Some role) old new wait turns = turns_move role new low old wait turns
  known_moves low true None old new wait is = stays keep side packets all low old new is wait
  known_moves low false (Some role) old new wait is = stays keep side packets all low old new is wait
  known_moves low false None old new wait is = stays keep side packets all low old new is wait

  pub waiting_moves : (low : ℕ) (old new : ChannelsView) → Wait all low old.layer.waiting old.layer.named → BeginsWaiting old new → Moves keep side packets all [] low [] old [] new
  waiting_moves low old new wait begun = known_moves low (may_begin old.layer) old.layer.role old new wait begun
