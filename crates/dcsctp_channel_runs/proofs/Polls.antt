-- Messages of the peer, what was put off, and polls.
use Rattle.std.proofs.Common.{◌≡◌, ◌<◌, ◌^◌, ℕ, Bool, true, false, Option, Some, None, Result, Ok, Err, List, [], ◌∷◌, ◌++◌, refl, sym, ap, subst, ◌∙◌, inl, inr, arith, not, ◌⊎◌, ◌&&◌}
use Rattle.std.proofs.lemmas.List.{append-nil}
use Rattle.dcsctp_spec_runs.specs.Laws.{SocketsKeepOptions}
use Rattle.dcsctp_delivery_sockets.specs.sockets.Delivery.{FitsMessage}
use Rattle.dcsctp_channel_calls.specs.api.Calls.{UserView}
use Rattle.dcsctp_channel_calls.specs.api.Messages.{SendsMessage}
use Rattle.dcsctp_channel_calls.specs.api.declared.errors.SendError.{SendError}
use Rattle.dcsctp_channel_calls.specs.api.declared.errors.ResetStreamsError.{ResetStreamsError}
use Rattle.dcsctp_channel_calls.specs.api.types.declared.schedule.Side.{Side}
use Rattle.dcsctp_channel_calls.specs.api.types.queues.Messages.{MessageContent, message_content}
use Rattle.dcsctp_channel_calls.specs.api.spec.endpoint.Event.{packets_of_events}
use Rattle.dcsctp_channel_calls.specs.messages.channel_spec.Slots.{may_acknowledge}
use Rattle.dcsctp_channel_calls.specs.messages.Format.{ack_bytes}
use Rattle.dcsctp_channel_calls.specs.declared.channel.HeldStream.{HeldStream}
use Rattle.dcsctp_channel_calls.specs.Arrivals.{input_of, ack_is_due, view_after_ack, SendsAck, AcksIfDue, AcksHeld, is_handled, HandlesOrDropsMessage}
use Rattle.dcsctp_channel_calls.specs.Calls.{on_layer}
use Rattle.dcsctp_channel_calls.specs.Late.{reset_input, ResetsStream, DoesLate, a_reset, an_ack, waiting_begin, not_asked, is_all_sent}
use Rattle.dcsctp_channel_calls.specs.Polls.{one_more_taken, HandlesNext, an_event, a_message, put_off, TakesNextNotice, PollsInTurn, takes, goes_on, idle}
use Rattle.dcsctp_channel_calls.specs.Sending.{plainly, control_message}
use Rattle.dcsctp_channel_calls.specs.View.{ChannelNotice, packet_out, association_made, of_channel, amount_low, association_over, LayerView, ChannelsView, held_stream_numbered, row_taken, view_with_events, has_stream}
use Rattle.dcsctp_channel_runs.specs.Acts.{OpenedChannel, packets_given, channels_reported, messages_reported, notices_of_act, polls}
use Rattle.dcsctp_channel_runs.proofs.Heard.{IsPassed, IsDropped, is_over, is_elsewhere}
use Rattle.dcsctp_channel_runs.proofs.Said.{Wait, same_le}
use Rattle.dcsctp_channel_runs.proofs.Moves.{hears_nothing, Moves, moves_then, unmoved, silently_same, silent_moves, stays}
use Rattle.dcsctp_channel_runs.proofs.Notices.{tells_nothing}
use Rattle.dcsctp_channel_runs.proofs.SentBy.{AreClosing, none_sent, an_ack as sent_ack}
use Rattle.dcsctp_channel_calls.specs.api.spec.endpoint.MessageOutcomes.{sending_of}
use Rattle.dcsctp_channel_runs.proofs.Lasting.{closing_of, closing_on}
use Rattle.dcsctp_channel_runs.proofs.Sockets.{sends_nothing, reset_moves, send_moves, takes_then}
use Rattle.dcsctp_channel_runs.proofs.Streams.{same_keeps}
use Rattle.dcsctp_channel_runs.proofs.SlotNames.{names_none}
use Rattle.dcsctp_channel_runs.proofs.Rows.{brings_nothing}
use Rattle.dcsctp_channel_runs.proofs.Begins.{gather_moves, row_silently, waiting_moves}
use Rattle.dcsctp_channel_runs.proofs.Events.{events_move}
use Rattle.dcsctp_channel_runs.proofs.Brings.{input_brings}
use Rattle.dcsctp_channel_runs.proofs.Taking.{dropped_moves, row_moves}

-- ---- notices without a packet

first_plain : (notice : ChannelNotice) (rest : List ChannelNotice) → packets_given (notice ∷ rest) ≡ [] → (packets_given (notice ∷ []) ≡ []) × (packets_given rest ≡ [])
first_plain (packet_out packet) rest none = absurd cc
first_plain association_made rest none = (refl, none)
first_plain (of_channel report) rest none = (refl, none)
first_plain (amount_low name) rest none = (refl, none)
first_plain association_over rest none = (refl, none)

ack_message_fits : (number : ℕ) → number < 2 ^ 16 → FitsMessage (control_message number ack_bytes)
ack_message_fits number fits = record { stream = fits; ppid = omega arith; payload = (omega arith, tt); size = omega arith }

module _ (keep : SocketsKeepOptions) (side : Side) (packets : List (List ℕ)) (all : List OpenedChannel) where
  -- ---- ACKs

  ack_moves : (low number : ℕ) (held : HeldStream) (old new : ChannelsView) (answer : Result (Unit {0}) SendError) (below : UserView) → number < 2 ^ 16
      → SendsMessage (control_message number ack_bytes) plainly old.below (Ok answer) below → new ≡ view_after_ack answer number held below old.layer
      → Wait all low old.layer.waiting old.layer.named → Moves keep side packets all [] low [] old [] new
  ack_moves low number held old new (Ok done) below fits sends is wait =
      let acked : ChannelsView = view_after_ack (Ok done) number held below old.layer in
      let silently = row_silently keep side packets all number held.delivery may_acknowledge old.layer refl refl in
      subst (λ (v : ChannelsView). Moves keep side packets all [] low [] old [] v) (sym is)
      (send_moves keep side packets all low low (control_message number ack_bytes) plainly [] [] [] old acked (Ok done) (ack_message_fits number fits) silently.keeping sends
      (λ orderly. let keeps = silently.keeping orderly in
      sent_ack old.layer acked.layer (sending_of plainly (control_message number ack_bytes)) [] [] [] keeps (record { ppid = refl; payload = refl }) refl
      (none_sent acked.layer (same_keeps acked.layer acked.layer refl refl refl refl (λ was. was) keeps.orderly))) (same_le low) refl wait silently.tells)
  ack_moves low number held old new (Err refusal) below fits sends is wait =
      let acked : ChannelsView = view_after_ack (Err refusal) number held below old.layer in
      subst (λ (v : ChannelsView). Moves keep side packets all [] low [] old [] v) (sym is)
      (send_moves keep side packets all low low (control_message number ack_bytes) plainly [] [] [] old acked (Err refusal) (ack_message_fits number fits)
      (same_keeps old.layer acked.layer refl refl refl refl (λ was. was)) sends
      (sends_nothing [] old.layer acked.layer refl (same_keeps old.layer acked.layer refl refl refl refl (λ was. was))) (same_le low) refl wait (tells_nothing old.layer.notices))

  pub acks_move : (low number : ℕ) (held : HeldStream) (old new : ChannelsView) → SendsAck number held old new → Wait all low old.layer.waiting old.layer.named → Moves keep side packets all [] low [] old [] new
  acks_move low number held old new acks wait = ack_moves low number held old new acks.answer acks.below acks.fits acks.sends acks.is wait

  due_moves : (low : ℕ) (due : Bool) (number : ℕ) (held : HeldStream) (old new : ChannelsView) → AcksIfDue due number held old new → Wait all low old.layer.waiting old.layer.named
      → Moves keep side packets all [] low [] old [] new
  due_moves low true number held old new acks wait = acks_move low number held old new acks wait
  due_moves low false number held old new is wait = stays keep side packets all low old new is wait

  held_moves : (low : ℕ) (found : Option HeldStream) (number : ℕ) (old new : ChannelsView) → AcksHeld found number old new → Wait all low old.layer.waiting old.layer.named
      → Moves keep side packets all [] low [] old [] new
  held_moves low None number old new is wait = stays keep side packets all low old new is wait
  held_moves low (Some held) number old new acks wait = due_moves low (ack_is_due old held) number held old new acks wait

  -- after the association's end nothing is handled, nor on a stream that isn't there
  over_or_elsewhere : (view : ChannelsView) (number : ℕ) (over : Bool) → view.layer.over ≡ over → (not over && has_stream view.below number) ≡ false → (view.layer.over ≡ true) ⊎ (has_stream view.below number ≡ false)
  over_or_elsewhere view number true is not_handled = inl is
  over_or_elsewhere view number false is not_handled = inr not_handled

  handled_lasts : (over there : Bool) → (not over && there) ≡ true → over ≡ false
  handled_lasts true there is = absurd cc
  handled_lasts false there is = refl

  not_handled_so : (m : MessageContent) (view : ChannelsView) → (view.layer.over ≡ true) ⊎ (has_stream view.below m.stream ≡ false) → IsDropped (IsPassed view.below.endpoint []) m view.layer
  not_handled_so m view (inl over) = is_over over
  not_handled_so m view (inr none) = is_elsewhere view.below.endpoint (record { earlier = []; later = []; is = refl; at = refl }) none

  message_moves : (low : ℕ) (handled : Bool) (m : MessageContent) (old new : ChannelsView) → is_handled old m.stream ≡ handled → HandlesOrDropsMessage handled m old new → Wait all low old.layer.waiting old.layer.named
      → Moves keep side packets all (m ∷ []) low [] old [] new
  message_moves low false m old new not_handled is wait =
      dropped_moves keep side packets all low m old new is (not_handled_so m old (over_or_elsewhere old m.stream old.layer.over refl not_handled)) wait
  message_moves low true m old new handled made wait =
      let first = row_moves keep side packets all low m (input_of old.layer m) old made.0 (input_brings old.layer m) made.1 (handled_lasts old.layer.over (has_stream old.below m.stream) handled) wait in
      moves_then keep side packets all (m ∷ []) low old made.0 [] new first
      (held_moves first.steps.high (held_stream_numbered made.0.layer m.stream) m.stream made.0 new made.2 first.waits)

  -- ---- one thing

  reset_row : (answer : Result (Unit {0}) ResetStreamsError) → brings_nothing (reset_input answer) ≡ true
  reset_row (Ok done) = refl
  reset_row (Err error) = refl

  reset_names : (answer : Result (Unit {0}) ResetStreamsError) → names_none (reset_input answer) ≡ true
  reset_names (Ok done) = refl
  reset_names (Err error) = refl

  -- the stream whose reset is due is closing
  due_closing : (closing awaits unasked sent : Bool) → ((closing && not awaits && unasked) && sent) ≡ true → closing ≡ true
  due_closing true awaits unasked sent is = refl
  due_closing false awaits unasked sent is = absurd cc

  one_closes : (number : ℕ) (layer : LayerView) → closing_on layer number ≡ true → AreClosing (number ∷ []) layer
  one_closes number layer closing id (inl same) = subst (λ (k : ℕ). closing_on layer k ≡ true) (sym same) closing
  one_closes number layer closing id (inr has) = absurd has

  resets_move : (low number : ℕ) (held : HeldStream) (old new : ChannelsView) → held.stream.closing ≡ true → held_stream_numbered old.layer number ≡ Some held → ResetsStream number held old new → Wait all low old.layer.waiting old.layer.named
      → Moves keep side packets all [] low [] old [] new
  resets_move low number held old new closing at resets wait =
      let asked : ChannelsView = record old { below = resets.below } in
      let after : ChannelsView = record { below = resets.below; layer = row_taken number held.delivery (reset_input resets.answer) old.layer } in
      let first = reset_moves keep side packets all low number old resets.answer resets.below resets.fits resets.resets (one_closes number old.layer (ap closing_of at ∙ closing)) wait in
      subst (λ (v : ChannelsView). Moves keep side packets all [] low [] old [] v) (sym resets.is)
      (moves_then keep side packets all [] low old asked [] after first
      (silent_moves keep side packets all first.steps.high asked after refl
      (row_silently keep side packets all number held.delivery (reset_input resets.answer) old.layer (reset_row resets.answer) (reset_names resets.answer)) first.waits))

  late_moves : (low : ℕ) (old new : ChannelsView) → DoesLate old new → Wait all low old.layer.waiting old.layer.named → Moves keep side packets all [] low [] old [] new
  late_moves low old new (a_reset number held at due resets) wait =
      resets_move low number held old new (due_closing held.stream.closing held.stream.awaits_answer (not_asked held.stream.own) (is_all_sent old number held) due) at resets wait
  late_moves low old new (an_ack number held none at due acks) wait = acks_move low number held old new acks wait
  late_moves low old new (waiting_begin no_reset no_ack may begun) wait = waiting_moves keep side packets all low old new wait begun

  next_moves : (low : ℕ) (old new : ChannelsView) → HandlesNext old new → Wait all low old.layer.waiting old.layer.named → Moves keep side packets all [] low [] old [] new
  next_moves low old new (an_event first rest due told made) wait =
      let without : ChannelsView = on_layer (λ layer. record layer { told = rest }) old in
      let out = silent_moves keep side packets all low old without refl (silently_same keep side packets all old.layer without.layer refl refl refl refl refl refl (λ was. was)) wait in
      moves_then keep side packets all [] low old without [] new out
      (events_move keep side packets all out.steps.high old.layer.over first.event without new made out.waits)
  next_moves low old new (a_message due ready) wait =
      let now : ChannelsView = one_more_taken ready.below old.layer in
      let m : MessageContent = message_content ready.taken in
      takes_then keep side packets all low old now ready.taken new ready.takes (same_keeps old.layer now.layer refl refl refl refl (λ was. was)) refl refl (message_moves low (is_handled now m.stream) m now new refl ready.handles wait)
  next_moves low old new (put_off quiet lasts late) wait = late_moves low old new late wait

  -- ---- a poll

  takes_moves : (low : ℕ) (left : List (List ℕ)) (old new : ChannelsView) (notice : ChannelNotice) → left ≡ old.layer.packets → TakesNextNotice left old.layer notice new.layer → new.below ≡ old.below
      → packets_given old.layer.notices ≡ [] → Wait all low old.layer.waiting old.layer.named → Moves keep side packets all [] low [] old (notice ∷ []) new
  takes_moves low (packet ∷ rest) old new notice is (out, layer) below plain wait =
      let taken : ChannelsView = record old { layer = record old.layer { packets = rest } } in
      subst (λ (v : ChannelsView). Moves keep side packets all [] low [] old (notice ∷ []) v) (sym (ap (λ (u : UserView). record { below = u; layer = new.layer }) below ∙ ap (λ (l : LayerView). record { below = old.below; layer = l }) layer))
      (subst (λ (n : ChannelNotice). Moves keep side packets all [] low [] old (n ∷ []) taken) (sym out)
      (unmoved keep side packets all [] low old (packet_out packet ∷ []) taken [] [] [] (same_keeps old.layer taken.layer refl refl refl refl (λ was. was)) (λ orderly. tt) refl (ap (λ (l : List (List ℕ)). l ++ packets_of_events old.below.events) is) wait
      (hears_nothing [] (IsPassed old.below.endpoint []) old.layer taken.layer (same_keeps old.layer taken.layer refl refl refl refl (λ was. was)))
      (record { incoming = sym (append-nil (channels_reported old.layer.notices)); messages = sym (append-nil (messages_reported old.layer.notices)); plain = λ none. none })))
  takes_moves low [] old new notice is (rest, found, layer) below plain wait =
      let taken : ChannelsView = record old { layer = record old.layer { notices = rest } } in
      let none = first_plain notice rest (ap packets_given (sym found) ∙ plain) in
      subst (λ (v : ChannelsView). Moves keep side packets all [] low [] old (notice ∷ []) v) (sym (ap (λ (u : UserView). record { below = u; layer = new.layer }) below ∙ ap (λ (l : LayerView). record { below = old.below; layer = l }) layer))
      (unmoved keep side packets all [] low old (notice ∷ []) taken [] [] [] (same_keeps old.layer taken.layer refl refl refl refl (λ was. was)) (λ orderly. tt) refl
      (ap (λ (l : List (List ℕ)). l ++ (old.layer.packets ++ packets_of_events old.below.events)) none.0) wait
      (hears_nothing [] (IsPassed old.below.endpoint []) old.layer taken.layer (same_keeps old.layer taken.layer refl refl refl refl (λ was. was)))
      (record {
        incoming = ap channels_reported (sym found) ∙ sym (append-nil (channels_reported old.layer.notices));
        messages = ap messages_reported (sym found) ∙ sym (append-nil (messages_reported old.layer.notices));
        plain = λ before. none.1;
      }))

  pub polls_move : (result : Option ChannelNotice) (new : ChannelsView) (low : ℕ) (old : ChannelsView) → packets_given old.layer.notices ≡ [] → Wait all low old.layer.waiting old.layer.named
      → PollsInTurn result new old → Moves keep side packets all [] low [] old (notices_of_act (polls result)) new
  polls_move result new low _ plain wait (takes old notice is taken below) =
      let gathered : ChannelsView = view_with_events old in
      let first = gather_moves keep side packets all low old wait in
      subst (λ (r : Option ChannelNotice). Moves keep side packets all [] low [] old (notices_of_act (polls r)) new) (sym is)
      (moves_then keep side packets all [] low old gathered (notice ∷ []) new first
      (takes_moves first.steps.high gathered.layer.packets gathered new notice refl taken below plain first.waits))
  polls_move result new low _ plain wait (goes_on old between nothing next rest) =
      let gathered : ChannelsView = view_with_events old in
      let first = gather_moves keep side packets all low old wait in
      let second = moves_then keep side packets all [] low old gathered [] between first (next_moves first.steps.high gathered between next first.waits) in
      moves_then keep side packets all [] low old between (notices_of_act (polls result)) new second
      (polls_move result new second.steps.high between (second.tells.plain plain) second.waits rest)
  polls_move result new low _ plain wait (idle old is nothing none same) =
      subst (λ (r : Option ChannelNotice). Moves keep side packets all [] low [] old (notices_of_act (polls r)) new) (sym is)
      (subst (λ (v : ChannelsView). Moves keep side packets all [] low [] old [] v) (sym same) (gather_moves keep side packets all low old wait))
