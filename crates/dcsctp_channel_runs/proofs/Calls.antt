-- The calls of an end's user, each as a move.
use Rattle.std.proofs.Common.{◌≡◌, ◌==◌, ℕ, suc, ◌+◌, Bool, true, false, Option, Some, None, Result, Ok, Err, List, [], ◌∷◌, length, refl, sym, ap, subst, ◌∙◌, inl, inr, arith}
use Rattle.std.specs.Prelude.{slice_get, if◌then◌else◌}
use Rattle.dcsctp_spec_runs.specs.Laws.{SocketsKeepOptions}
use Rattle.dcsctp_spec_runs.specs.Sockets.{DeliveryTurns, PerformedAct}
use Rattle.dcsctp_delivery_directions.specs.sending.Places.{HasEntry}
use Rattle.dcsctp_channel_calls.specs.api.Calls.{UserView, HandlesInput}
use Rattle.dcsctp_channel_calls.specs.api.Messages.{SendsMessage}
use Rattle.dcsctp_channel_calls.specs.api.declared.errors.SendError.{SendError}
use Rattle.dcsctp_channel_calls.specs.api.types.declared.schedule.Side.{Side}
use Rattle.dcsctp_channel_calls.specs.api.types.Schedule.{delivery_step, step_act}
use Rattle.dcsctp_channel_calls.specs.api.types.Setting.{stream_low_threshold}
use Rattle.dcsctp_channel_calls.specs.api.types.queues.Messages.{MessageContent}
use Rattle.dcsctp_channel_calls.specs.api.spec.endpoint.CallTurns.{Transition}
use Rattle.dcsctp_channel_calls.specs.messages.channel_spec.declared.types.ChannelEnd.TheVariants.{Closed}
use Rattle.dcsctp_channel_calls.specs.messages.channel_spec.Contents.{ChannelContent, content_ppid, payload_of}
use Rattle.dcsctp_channel_calls.specs.messages.channel_spec.Slots.{Opening, ended, is_closed}
use Rattle.dcsctp_channel_calls.specs.messages.Format.{open_bytes}
use Rattle.dcsctp_channel_calls.specs.declared.channel.ChannelError.{ChannelError}
use Rattle.dcsctp_channel_calls.specs.declared.channel.ChannelId.{ChannelId}
use Rattle.dcsctp_channel_calls.specs.declared.channel.HeldStream.{HeldStream}
use Rattle.dcsctp_channel_calls.specs.Calls.{OnlySocket, on_layer, clock_set}
use Rattle.dcsctp_channel_calls.specs.Opening.{open_refusal, named_next, OpensOrRefuses}
use Rattle.dcsctp_channel_calls.specs.Sending.{stream_of_name, open_stream, refusal_as, view_after_send, SendsOn, SendsIfOpen, without_waiting, ends_waiting, layer_after_close, SetsThresholdIfOpen}
use Rattle.dcsctp_channel_calls.specs.View.{WaitingChannel, of_channel, LayerView, ChannelsView, held_stream_numbered}
use Rattle.dcsctp_channel_laws.specs.Names.{ChannelsCall, sets_role, connects, handles_input, advances, aborts, shuts_down, opens_channel, sends_content, closes_channel, sets_threshold, IsCallMade}
use Rattle.dcsctp_channel_runs.specs.Acts.{EndAct, calls, polls, IsInMemory, FitsChannelContent, FitsEndCall, FitsEndAct, OpenedChannel, SaidContent, packets_given, channels_reported, messages_reported, channels_of_act, said_contents, notices_of_act}
use Rattle.dcsctp_channel_runs.specs.Runs.{HandsInOne, MakesAct}
use Rattle.dcsctp_channel_laws.proofs.CallsTell.{open_is}
use Rattle.dcsctp_channel_runs.proofs.Streams.{same_keeps, note_before}
use Rattle.dcsctp_channel_runs.proofs.Naming.{named_keeping, closes_keeping, counted_keeping, open_has_stream}
use Rattle.dcsctp_channel_runs.proofs.Begins.{only_moves, held_silently, waiting_moves}
use Rattle.dcsctp_channel_runs.proofs.Events.{then_begins}
use Rattle.dcsctp_channel_runs.proofs.Moves.{Moves, moves_then, Silently, silently_same, layer_moves, silent_moves, stays}
use Rattle.dcsctp_channel_runs.proofs.SocketMoves.{socket_moves}
use Rattle.dcsctp_channel_runs.proofs.Notices.{tells_nothing}
use Rattle.dcsctp_channel_runs.proofs.Polls.{polls_move}
use Rattle.dcsctp_channel_runs.proofs.QuietTurns.{input_quiet}
use Rattle.dcsctp_channel_runs.proofs.Rows.{tells_more}
use Rattle.dcsctp_channel_runs.proofs.Said.{IsGood, WaitsFor, Wait, same_le, wait_from, wait_more}
use Rattle.dcsctp_channel_runs.proofs.Sockets.{connect_moves, close_moves, shutdown_moves, advance_moves, set_moves, send_moves, sends_nothing}
use Rattle.dcsctp_channel_runs.proofs.Bytes.{texts_short, opening_good, content_message_fits}
use Rattle.dcsctp_channel_runs.proofs.Ruling.{sent_by_rules, open_unless_closing}
use Rattle.dcsctp_channel_runs.proofs.Deeds.{deeds_of_turns}
use Rattle.dcsctp_channel_calls.specs.api.spec.endpoint.MessageOutcomes.{sending_of}
use Rattle.dcsctp_channel_runs.proofs.SentBy.{none_sent, a_content}

-- ---- packets

place_of : {A : Type 0} (entry : A) (xs : List A) → HasEntry entry xs → (place : ℕ) × (slice_get xs place ≡ Some entry)
place_of entry [] has = absurd has
place_of entry (x ∷ xs) (inl is) = (0, ap Some (sym is))
place_of entry (x ∷ xs) (inr has) = let later = place_of entry xs has in (suc later.0, later.1)

-- ---- a close of a channel that waits

closed_tells : (name : ℕ) (waiting : List WaitingChannel) → (channels_reported (ends_waiting name waiting) ≡ []) × (messages_reported (ends_waiting name waiting) ≡ []) × (packets_given (ends_waiting name waiting) ≡ [])
closed_tells name [] = (refl, refl, refl)
closed_tells name (waits ∷ rest) = at_first (waits.name == name) (closed_tells name rest)
  where
    at_first : (b : Bool) → (channels_reported (ends_waiting name rest) ≡ []) × (messages_reported (ends_waiting name rest) ≡ []) × (packets_given (ends_waiting name rest) ≡ [])
        → (channels_reported (if b then of_channel (ended name Closed) ∷ [] else ends_waiting name rest) ≡ []) × (messages_reported (if b then of_channel (ended name Closed) ∷ [] else ends_waiting name rest) ≡ [])
        × (packets_given (if b then of_channel (ended name Closed) ∷ [] else ends_waiting name rest) ≡ [])
    at_first true others = (refl, refl, refl)
    at_first false others = others

without_first : (all : List OpenedChannel) (low : ℕ) (waits : WaitingChannel) (rest others : List WaitingChannel) (named : ℕ) (b : Bool) → Wait all low (waits ∷ rest) named
    → Wait all (waits.name + 1) others named → Wait all low (if b then rest else waits ∷ others) named
without_first all low waits rest others named true (le, opened, wait) left = wait_from all low (waits.name + 1) rest named (omega arith) wait
without_first all low waits rest others named false (le, opened, wait) left = (le, opened, left)

wait_without : (all : List OpenedChannel) (low name : ℕ) (waiting : List WaitingChannel) (named : ℕ) → Wait all low waiting named → Wait all low (without_waiting name waiting) named
wait_without all low name [] named wait = wait
wait_without all low name (waits ∷ rest) named wait =
    without_first all low waits rest (without_waiting name rest) named (waits.name == name) wait (wait_without all (waits.name + 1) name rest named wait.2)

module _ (keep : SocketsKeepOptions) (side : Side) (packets : List (List ℕ)) (all : List OpenedChannel) where
  -- ---- a packet

  delivered : ℕ → List Transition → PerformedAct
  delivered number turns = record { act = step_act (delivery_step side number); turns = turns }

  input_moves : (low : ℕ) (packet : List ℕ) (old : ChannelsView) (below : UserView) → HasEntry packet packets → HandlesInput old.below packet (Ok tt) below
      → Wait all low old.layer.waiting old.layer.named → Moves keep side packets all [] low [] old [] (record old { below = below })
  unfolding delivered
  input_moves low packet old below has made wait =
      let place = place_of packet packets has in
      let quiet = input_quiet old.below.endpoint packet made.turns made.are in
      socket_moves keep side packets all low low (delivered (suc place.0) made.turns) [] [] [] old (record old { below = below })
      (record {
        step = record {
          step = delivery_step side (suc place.0);
          is = refl;
          here = refl;
          turns = subst (λ (p : Option (List ℕ)). DeliveryTurns old.below.endpoint p made.turns) (sym place.1) made.are;
          fits = tt;
        };
        endpoint = made.follows.endpoint;
        events = made.follows.events;
      }) (same_keeps old.layer old.layer refl refl refl refl (λ was. was)) refl (sends_nothing (deeds_of_turns old.below.endpoint made.turns) old.layer old.layer quiet.deeds (same_keeps old.layer old.layer refl refl refl refl (λ was. was))) (same_le low) quiet.read wait (tells_nothing old.layer.notices)

  -- this of the layer, and then a call of the socket
  layer_then_only : (low : ℕ) (becomes : LayerView → LayerView) (Makes : UserView → Type 0) (old new : ChannelsView) → Silently keep side packets all old.layer (becomes old.layer)
      → (made : OnlySocket Makes (on_layer becomes old) new) → Wait all low old.layer.waiting old.layer.named
      → ((from : ℕ) → Wait all from (becomes old.layer).waiting (becomes old.layer).named → Moves keep side packets all [] from [] (on_layer becomes old) [] (record (on_layer becomes old) { below = made.below }))
      → Moves keep side packets all [] low [] old [] new
  layer_then_only low becomes Makes old new silently made wait calls_it =
      let first = silent_moves keep side packets all low old (on_layer becomes old) refl silently wait in
      moves_then keep side packets all [] low old (on_layer becomes old) [] new first
      (only_moves keep side packets all first.steps.high Makes (on_layer becomes old) new made (calls_it first.steps.high first.waits))

  -- ---- a channel is opened

  waits_for : (opening : Opening) (negotiated : Option ℕ) (id : ChannelId) (named : ℕ) → id.0 ≡ named → IsGood opening
      → ((channel : OpenedChannel) → HasEntry channel (channels_of_act (calls (opens_channel opening negotiated (Ok id)))) → HasEntry channel all)
      → WaitsFor all negotiated (record { name = named; payload = open_bytes opening; delivery = opening.delivery; negotiated = negotiated })
  waits_for opening (Some agreed) id named is good entries = tt
  waits_for opening None id named is good entries =
      record { opening = opening; payload = refl; rules = refl; good = good; opened = subst (λ (n : ℕ). HasEntry (record { name = n; opening = opening }) all) is (entries (record { name = id.0; opening = opening }) (inl refl)) }

  opens_move : (low : ℕ) (opening : Opening) (negotiated : Option ℕ) (refusal : Option ChannelError) (answer : Result ChannelId ChannelError) (old new : ChannelsView)
      → open_refusal opening negotiated old ≡ refusal → OpensOrRefuses opening negotiated refusal answer old new → IsInMemory opening
      → ((channel : OpenedChannel) → HasEntry channel (channels_of_act (calls (opens_channel opening negotiated answer))) → HasEntry channel all)
      → Wait all low old.layer.waiting old.layer.named → Moves keep side packets all [] low [] old [] new
  opens_move low opening negotiated None (Ok id) old new not made fits entries wait =
      let named : ChannelsView = on_layer (named_next opening negotiated) old in
      let short = texts_short opening negotiated old not in
      let waits = wait_more all low old.layer.waiting (record { name = old.layer.named; payload = open_bytes opening; delivery = opening.delivery; negotiated = negotiated }) old.layer.named refl
      (waits_for opening negotiated id old.layer.named made.0 (opening_good opening fits short.0 short.1) entries) wait in
      let first = layer_moves keep side packets all low old named (named_keeping opening negotiated old.layer) refl refl (tells_nothing old.layer.notices) waits in
      moves_then keep side packets all [] low old named [] new first (waiting_moves keep side packets all first.steps.high named new first.waits made.1)
  opens_move low opening negotiated None (Err error) old new not made fits entries wait = absurd made
  opens_move low opening negotiated (Some refusal) (Ok id) old new not made fits entries wait = absurd made
  opens_move low opening negotiated (Some refusal) (Err error) old new not made fits entries wait = stays keep side packets all low old new made.1 wait

  -- ---- a message is sent

  sent_on_moves : (low number : ℕ) (name : ℕ) (held : HeldStream) (content : ChannelContent) (answer : Result (Unit {0}) ChannelError) (taken : Result (Unit {0}) SendError) (old new : ChannelsView)
      → (made : SendsOn number held content answer old new) → made.taken ≡ taken → open_stream old.layer name ≡ Some (number, held) → FitsChannelContent content → Wait all low old.layer.waiting old.layer.named
      → Moves keep side packets all [] low (said_contents (calls (sends_content name content answer)) new.layer) old [] new
  sent_on_moves low number name held content answer (Ok done) old new made is found fits wait =
      let message : MessageContent = record { stream = number; ppid = content_ppid content; payload = payload_of content } in
      let after : ChannelsView = view_after_send (Ok done) number (length content.bytes) held made.below old.layer in
      let said : SaidContent = record { message = record { name = name; content = content }; after = after.layer } in
      let on = open_has_stream old.layer name (number, held) found in
      let is_held = open_is old.layer (number, held) name found in
      let counted = counted_keeping number (length content.bytes) held old.layer is_held in
      let answered : answer ≡ Ok done = made.answer_is ∙ ap refusal_as is in
      let new_is : new ≡ view_after_send (Ok done) number (length content.bytes) held made.below old.layer =
      made.is ∙ ap (λ (t : Result (Unit {0}) SendError). view_after_send t number (length content.bytes) held made.below old.layer) is in
      subst (λ (a : Result (Unit {0}) ChannelError). Moves keep side packets all [] low (said_contents (calls (sends_content name content a)) new.layer) old [] new) (sym answered)
      (subst (λ (v : ChannelsView). Moves keep side packets all [] low (said_contents (calls (sends_content name content (Ok done))) v.layer) old [] v) (sym new_is)
      (send_moves keep side packets all low low message made.how [] (said ∷ []) ((name, number) ∷ []) old after (Ok done)
      (content_message_fits number content made.fits fits)
      (note_before name number old.layer after.layer (λ a. on) counted)
      (subst (λ (t : Result (Unit {0}) SendError). SendsMessage message made.how old.below (Ok t) made.below) is made.sends)
      (λ orderly. let keeps = counted orderly in
      a_content old.layer (sending_of made.how message) said [] [] [] keeps (record { ppid = refl; payload = refl }) (inl refl)
      (sent_by_rules number (length content.bytes) name held content made.how old.layer on is_held (open_unless_closing old.layer name number held found) made.sending)
      (none_sent after.layer (same_keeps after.layer after.layer refl refl refl refl (λ was. was) keeps.orderly))) (same_le low) refl wait (tells_nothing old.layer.notices)))
  sent_on_moves low number name held content answer (Err refusal) old new made is found fits wait =
      let message : MessageContent = record { stream = number; ppid = content_ppid content; payload = payload_of content } in
      let answered : answer ≡ refusal_as (Err refusal) = made.answer_is ∙ ap refusal_as is in
      let new_is : new ≡ view_after_send (Err refusal) number (length content.bytes) held made.below old.layer =
      made.is ∙ ap (λ (t : Result (Unit {0}) SendError). view_after_send t number (length content.bytes) held made.below old.layer) is in
      subst (λ (a : Result (Unit {0}) ChannelError). Moves keep side packets all [] low (said_contents (calls (sends_content name content a)) new.layer) old [] new) (sym answered)
      (subst (λ (v : ChannelsView). Moves keep side packets all [] low [] old [] v) (sym new_is)
      (send_moves keep side packets all low low message made.how [] [] [] old (view_after_send (Err refusal) number (length content.bytes) held made.below old.layer) (Err refusal)
      (content_message_fits number content made.fits fits) (same_keeps old.layer old.layer refl refl refl refl (λ was. was))
      (subst (λ (t : Result (Unit {0}) SendError). SendsMessage message made.how old.below (Ok t) made.below) is made.sends)
      (sends_nothing [] old.layer old.layer refl (same_keeps old.layer old.layer refl refl refl refl (λ was. was))) (same_le low) refl wait (tells_nothing old.layer.notices)))

  sends_move : (low : ℕ) (found : Option (ℕ × HeldStream)) (name : ℕ) (content : ChannelContent) (answer : Result (Unit {0}) ChannelError) (old new : ChannelsView)
      → open_stream old.layer name ≡ found → SendsIfOpen found content answer old new → FitsChannelContent content → Wait all low old.layer.waiting old.layer.named
      → Moves keep side packets all [] low (said_contents (calls (sends_content name content answer)) new.layer) old [] new
  sends_move low None name content answer old new is made fits wait =
      subst (λ (a : Result (Unit {0}) ChannelError). Moves keep side packets all [] low (said_contents (calls (sends_content name content a)) new.layer) old [] new) (sym made.0) (stays keep side packets all low old new made.1 wait)
  sends_move low (Some found) name content answer old new is made fits wait = sent_on_moves low found.0 name found.1 content answer made.taken old new made refl is fits wait

  -- ---- close, and the threshold

  closes_move : (low : ℕ) (stream : Option ℕ) (name : ℕ) (old new : ChannelsView) → new ≡ on_layer (layer_after_close stream name) old → Wait all low old.layer.waiting old.layer.named
      → Moves keep side packets all [] low [] old [] new
  closes_move low (Some number) name old new is wait =
      subst (λ (v : ChannelsView). Moves keep side packets all [] low [] old [] v) (sym is)
      (silent_moves keep side packets all low old (on_layer (layer_after_close (Some number) name) old) refl
      (held_silently keep side packets all (held_stream_numbered old.layer number) number is_closed old.layer refl refl) wait)
  closes_move low None name old new is wait =
      let silent = closed_tells name old.layer.waiting in
      subst (λ (v : ChannelsView). Moves keep side packets all [] low [] old [] v) (sym is)
      (layer_moves keep side packets all low old (on_layer (layer_after_close None name) old) (closes_keeping name old.layer) refl refl
      (tells_more old.layer.notices (ends_waiting name old.layer.waiting) [] [] silent.0 silent.1 silent.2)
      (wait_without all low name old.layer.waiting old.layer.named wait))

  threshold_moves : (low : ℕ) (stream : Option ℕ) (bytes : ℕ) (answer : Result (Unit {0}) ChannelError) (old new : ChannelsView) → SetsThresholdIfOpen stream bytes answer old new
      → Wait all low old.layer.waiting old.layer.named → Moves keep side packets all [] low [] old [] new
  threshold_moves low None bytes answer old new made wait = stays keep side packets all low old new made.1 wait
  threshold_moves low (Some number) bytes answer old new made wait =
      subst (λ (v : ChannelsView). Moves keep side packets all [] low [] old [] v) (sym made.1.is)
      (set_moves keep side packets all low (stream_low_threshold number bytes) old made.1.below made.1.fits made.1.sets wait)

  -- ---- any call

  same_silently : (old new : LayerView) → new.packets ≡ old.packets → new.streams ≡ old.streams → new.names ≡ old.names → new.waiting ≡ old.waiting → new.named ≡ old.named → new.notices ≡ old.notices → (old.over ≡ true → new.over ≡ true) → Silently keep side packets all old new
  same_silently old new left streams names waiting named same over = silently_same keep side packets all old new left streams names waiting named same over

  call_moves : (low : ℕ) (given : List (List ℕ)) (call : ChannelsCall) (old new : ChannelsView) → ((packet : List ℕ) → HasEntry packet given → HasEntry packet packets) → FitsEndCall call
      → ((channel : OpenedChannel) → HasEntry channel (channels_of_act (calls call)) → HasEntry channel all) → HandsInOne given call → IsCallMade call old new
      → Wait all low old.layer.waiting old.layer.named → Moves keep side packets all [] low (said_contents (calls call) new.layer) old [] new
  call_moves low given (sets_role role) old new more fits entries hands made wait =
      then_begins keep side packets all low (λ layer. record layer { role = Some role }) old new (same_silently old.layer (record old.layer { role = Some role }) refl refl refl refl refl refl (λ was. was)) made wait
  call_moves low given connects old new more fits entries hands made wait =
      only_moves keep side packets all low _ old new made (connect_moves keep side packets all low old made.below made.makes wait)
  call_moves low given (handles_input packet) old new more fits entries hands made wait =
      let room : LayerView → LayerView = λ layer. record layer { has_room = true } in
      layer_then_only low room _ old new (same_silently old.layer (room old.layer) refl refl refl refl refl refl (λ was. was)) made wait
      (λ from waits. input_moves from packet (on_layer room old) made.below (more packet hands) made.makes waits)
  call_moves low given (advances moment) old new more fits entries hands made wait =
      layer_then_only low (clock_set moment) _ old new (same_silently old.layer (clock_set moment old.layer) refl refl refl refl refl refl (λ was. was)) made wait
      (λ from waits. advance_moves keep side packets all from moment (on_layer (clock_set moment) old) made.below made.makes waits)
  call_moves low given aborts old new more fits entries hands made wait =
      only_moves keep side packets all low _ old new made (close_moves keep side packets all low old made.below made.makes wait)
  call_moves low given shuts_down old new more fits entries hands made wait =
      only_moves keep side packets all low _ old new made (shutdown_moves keep side packets all low old made.below made.makes wait)
  call_moves low given (opens_channel opening negotiated answer) old new more fits entries hands made wait =
      opens_move low opening negotiated (open_refusal opening negotiated old) answer old new refl made fits entries wait
  call_moves low given (sends_content name content answer) old new more fits entries hands made wait =
      sends_move low (open_stream old.layer name) name content answer old new refl made fits wait
  call_moves low given (closes_channel name) old new more fits entries hands made wait = closes_move low (stream_of_name old.layer name) name old new made wait
  call_moves low given (sets_threshold name bytes answer) old new more fits entries hands made wait = threshold_moves low (stream_of_name old.layer name) bytes answer old new made wait

  -- an act of an end is a move of it
  pub act_moves : (low : ℕ) (given : List (List ℕ)) (act : EndAct) (old new : ChannelsView) → ((packet : List ℕ) → HasEntry packet given → HasEntry packet packets) → FitsEndAct act
      → ((channel : OpenedChannel) → HasEntry channel (channels_of_act act) → HasEntry channel all) → MakesAct given act old new → packets_given old.layer.notices ≡ []
      → Wait all low old.layer.waiting old.layer.named → Moves keep side packets all [] low (said_contents act new.layer) old (notices_of_act act) new
  act_moves low given (calls call) old new more fits entries made plain wait = call_moves low given call old new more fits entries made.0 made.1 wait
  act_moves low given (polls notice) old new more fits entries made plain wait = polls_move keep side packets all notice new low old plain wait made
