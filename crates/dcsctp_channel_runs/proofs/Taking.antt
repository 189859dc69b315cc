-- A message of the peer takes its row.
use Rattle.std.proofs.Common.{◌≡◌, ℕ, ◌+◌, true, false, None, List, [], ◌∷◌, ◌++◌, map, refl, sym, ap, subst, ◌∙◌, inl, inr, arith, ◌⊎◌}
use Rattle.dcsctp_spec_runs.specs.Laws.{SocketsKeepOptions}
use Rattle.dcsctp_channel_calls.specs.api.Calls.{UserView}
use Rattle.dcsctp_channel_calls.specs.api.types.declared.schedule.Side.{Side}
use Rattle.dcsctp_channel_calls.specs.api.types.queues.Messages.{MessageContent}
use Rattle.dcsctp_channel_calls.specs.api.spec.endpoint.Event.{packets_of_events}
use Rattle.dcsctp_channel_calls.specs.messages.channel_spec.Contents.{ChannelContent, control_ppid}
use Rattle.dcsctp_channel_calls.specs.messages.channel_spec.Slots.{Opening, name_of_slot, Report, SlotInput, hears_open, hears_message, hears_bad_message}
use Rattle.dcsctp_channel_calls.specs.messages.channel_spec.Table.{outcome_of}
use Rattle.dcsctp_channel_calls.specs.Arrivals.{AcceptsOpen, plain_delivery, delivery_of_input, message_taken, TakesRow}
use Rattle.dcsctp_channel_calls.specs.Calls.{on_layer}
use Rattle.dcsctp_channel_calls.specs.View.{ChannelNotice, of_channel, LayerView, ChannelsView, held_stream_numbered, slot_numbered, row_taken}
use Rattle.dcsctp_channel_runs.specs.Acts.{OpenedChannel, NamedContent, channels_reported, messages_reported}
use Rattle.dcsctp_channel_runs.proofs.Heard.{a_dropped, a_channel, a_message as heard_message, SaysOpen, SaysContent, Heard, IsPassed, IsDropped, is_control, is_closing}
use Rattle.dcsctp_channel_runs.proofs.Said.{Wait, wait_named}
use Rattle.dcsctp_channel_runs.proofs.Moves.{hears_nothing, Moves, moves_then, unmoved}
use Rattle.dcsctp_channel_runs.proofs.Coming.{AreToCome}
use Rattle.dcsctp_channel_runs.proofs.Notices.{Tells, tells_nothing}
use Rattle.dcsctp_channel_runs.proofs.StreamRows.{next_to_come}
use Rattle.dcsctp_channel_runs.proofs.Streams.{Keeping, same_keeps, note_before}
use Rattle.dcsctp_channel_runs.proofs.Naming.{row_keeping, accepted_keeping, accepted_noted}
use Rattle.dcsctp_channel_runs.proofs.SlotNames.{names_none}
use Rattle.dcsctp_channel_runs.proofs.Rows.{brings_nothing, BringsChannel, BringsContent, brings_none, brings_one, row_brings_channel, row_brings_content, row_silent, no_packets, tells_more}
use Rattle.dcsctp_channel_runs.proofs.Sockets.{readies_moves}
use Rattle.dcsctp_channel_runs.proofs.Brings.{Brings, plain_row, nothing_new, a_new_channel, a_new_message}
use Rattle.dcsctp_channel_laws.specs.Lives.{IsOrderly}
use Rattle.dcsctp_channel_calls.specs.api.spec.endpoint.Endpoint.{Endpoint}
use Rattle.dcsctp_channel_runs.proofs.Lasting.{closing_slot, closing_on, closing_by_slot, bad_closing, dropped_closing, heard_open}
use Rattle.dcsctp_channel_laws.proofs.Places.{row_leaves}

-- one message is read, and dropped
drops_one : (old : ChannelsView) (m : MessageContent) (pairs : List (ℕ × ℕ)) (after : LayerView) → Keeping [] old.layer after → (IsOrderly old.layer → IsOrderly after → IsDropped (IsPassed old.below.endpoint []) m after)
    → IsOrderly old.layer → Heard pairs (IsPassed old.below.endpoint []) after old.layer (m ∷ []) [] []
drops_one old m pairs after keeping why orderly =
    let keeps = keeping orderly in
    a_dropped old.layer after m [] [] [] keeps (why orderly keeps.orderly)
    (hears_nothing pairs (IsPassed old.below.endpoint []) after after (same_keeps after after refl refl refl refl (λ was. was)) keeps.orderly)

module _ (keep : SocketsKeepOptions) (side : Side) (packets : List (List ℕ)) (all : List OpenedChannel) where
  -- ---- a message takes its row

  -- the layer after a row, with what it reports
  reports_move : (low : ℕ) (m : MessageContent) (old new : ChannelsView) (reports : List Report) (channels : List OpenedChannel) (contents : List NamedContent)
      (pairs : List (ℕ × ℕ)) → Keeping pairs old.layer new.layer → AreToCome old.layer channels → new.below ≡ old.below → new.layer.packets ≡ old.layer.packets → new.layer.notices ≡ old.layer.notices ++ map of_channel reports
      → channels_reported (map of_channel reports) ≡ channels → messages_reported (map of_channel reports) ≡ contents
      → (IsOrderly old.layer → Heard pairs (IsPassed old.below.endpoint []) new.layer old.layer (m ∷ []) channels contents)
      → Wait all low new.layer.waiting new.layer.named → Moves keep side packets all (m ∷ []) low [] old [] new
  reports_move low m old new reports channels contents pairs keeping come below left behind some others heard wait =
      unmoved keep side packets all (m ∷ []) low old [] new channels contents pairs keeping come (ap (λ (u : UserView). u.endpoint) below)
      (ap (λ (u : UserView). new.layer.packets ++ packets_of_events u.events) below ∙ ap (λ (l : List (List ℕ)). l ++ packets_of_events old.below.events) left)
      wait heard
      (subst (λ (l : List ChannelNotice). Tells [] channels contents old.layer.notices l) (sym behind)
      (tells_more old.layer.notices (map of_channel reports) channels contents some others (no_packets reports)))

  pub dropped_moves : (low : ℕ) (m : MessageContent) (old new : ChannelsView) → new ≡ old → IsDropped (IsPassed old.below.endpoint []) m old.layer → Wait all low old.layer.waiting old.layer.named
      → Moves keep side packets all (m ∷ []) low [] old [] new
  dropped_moves low m old new is why wait =
      subst (λ (v : ChannelsView). Moves keep side packets all (m ∷ []) low [] old [] v) (sym is)
      (unmoved keep side packets all (m ∷ []) low old [] old [] [] [] (same_keeps old.layer old.layer refl refl refl refl (λ was. was)) (λ orderly. tt) refl refl wait
      (drops_one old m [] old.layer (same_keeps old.layer old.layer refl refl refl refl (λ was. was)) (λ orderly now. why)) (tells_nothing old.layer.notices))

  -- a row leaves a stream so
  row_is : (number : ℕ) (input : SlotInput) (layer : LayerView) → IsOrderly layer
      → slot_numbered (message_taken number input layer) number ≡ (outcome_of input (slot_numbered layer number)).after
  row_is number input layer a = (row_leaves number (delivery_of_input input) input (outcome_of input (slot_numbered layer number)) layer a).here

  closing_is : (number : ℕ) (input : SlotInput) (layer : LayerView) → IsOrderly layer
      → closing_on (message_taken number input layer) number ≡ closing_slot (outcome_of input (slot_numbered layer number)).after
  closing_is number input layer a = closing_by_slot (held_stream_numbered (message_taken number input layer) number) ∙ ap closing_slot (row_is number input layer a)

  -- why a message that brings nothing isn't reported
  why_dropped : (m : MessageContent) (input : SlotInput) (Passed : Endpoint → Type 0) (layer : LayerView) → (m.ppid ≡ control_ppid) ⊎ (input ≡ hears_bad_message) → IsOrderly layer
      → IsDropped Passed m (message_taken m.stream input layer)
  why_dropped m input Passed layer (inl control) a = is_control control
  why_dropped m input Passed layer (inr bad) a =
      is_closing (λ name on. closing_is m.stream input layer a ∙ subst (λ (i : SlotInput). closing_slot (outcome_of i (slot_numbered layer m.stream)).after ≡ true) (sym bad) (bad_closing (slot_numbered layer m.stream)))

  silent_row_moves : (low : ℕ) (m : MessageContent) (input : SlotInput) (old new : ChannelsView) → brings_nothing input ≡ true → names_none input ≡ true → (m.ppid ≡ control_ppid) ⊎ (input ≡ hears_bad_message)
      → new ≡ on_layer (message_taken m.stream input) old → Wait all low old.layer.waiting old.layer.named → Moves keep side packets all (m ∷ []) low [] old [] new
  silent_row_moves low m input old new none names why is wait =
      let taken : ChannelsView = on_layer (message_taken m.stream input) old in
      let silent = row_silent input (slot_numbered old.layer m.stream) none in
      let keeping = row_keeping m.stream (delivery_of_input input) input old.layer names in
      subst (λ (v : ChannelsView). Moves keep side packets all (m ∷ []) low [] old [] v) (sym is)
      (reports_move low m old taken (outcome_of input (slot_numbered old.layer m.stream)).reports [] [] [] keeping (λ orderly. tt) refl refl refl silent.0 silent.1
      (drops_one old m [] taken.layer keeping (λ orderly now. why_dropped m input (IsPassed old.below.endpoint []) old.layer why orderly)) wait)

  -- the message was dropped by its stream
  why_unheard : (m : MessageContent) (content : ChannelContent) (Passed : Endpoint → Type 0) (layer : LayerView) → (name_of_slot (slot_numbered layer m.stream) ≡ None) ⊎ (closing_slot (slot_numbered layer m.stream) ≡ true)
      → IsOrderly layer → IsOrderly (message_taken m.stream (hears_message content) layer) → IsDropped Passed m (message_taken m.stream (hears_message content) layer)
  why_unheard m content Passed layer why a now =
      is_closing (λ name on. closing_is m.stream (hears_message content) layer a
      ∙ dropped_closing content (slot_numbered layer m.stream) name why (ap name_of_slot (sym (row_is m.stream (hears_message content) layer a)) ∙ now.led_to name m.stream on))

  content_moves : (low : ℕ) (m : MessageContent) (content : ChannelContent) (old : ChannelsView) → SaysContent m content → old.layer.over ≡ false
      → BringsContent content (closing_slot (slot_numbered old.layer m.stream)) (name_of_slot (slot_numbered old.layer m.stream)) (outcome_of (hears_message content) (slot_numbered old.layer m.stream)).reports
      → Wait all low old.layer.waiting old.layer.named → Moves keep side packets all (m ∷ []) low [] old [] (on_layer (message_taken m.stream (hears_message content)) old)
  content_moves low m content old says lasts (brings_none silent why) wait =
      let after : ChannelsView = on_layer (message_taken m.stream (hears_message content)) old in
      let keeping = row_keeping m.stream plain_delivery (hears_message content) old.layer refl in
      reports_move low m old after (outcome_of (hears_message content) (slot_numbered old.layer m.stream)).reports [] [] []
      keeping (λ orderly. tt) refl refl refl silent.0 silent.1 (drops_one old m [] after.layer keeping (λ orderly now. why_unheard m content (IsPassed old.below.endpoint []) old.layer why orderly now)) wait
  content_moves low m content old says lasts (brings_one name on is_open none one) wait =
      let after : ChannelsView = on_layer (message_taken m.stream (hears_message content)) old in
      let keeping = row_keeping m.stream plain_delivery (hears_message content) old.layer refl in
      let left = heard_open content (slot_numbered old.layer m.stream) name on is_open in
      reports_move low m old after (outcome_of (hears_message content) (slot_numbered old.layer m.stream)).reports [] (record { name = name; content = content } ∷ []) ((name, m.stream) ∷ [])
      (note_before name m.stream old.layer after.layer (λ a. a.leads m.stream name on) keeping) (λ orderly. tt) refl refl refl none one
      (λ orderly. let keeps = keeping orderly in
      heard_message old.layer after.layer m (record { name = name; content = content }) [] [] [] keeps says (inl refl) tt
      (record {
        on = keeps.orderly.leads m.stream name (ap name_of_slot (row_is m.stream (hears_message content) old.layer orderly) ∙ left.1);
        opened = closing_is m.stream (hears_message content) old.layer orderly ∙ left.0;
        lasts = lasts;
      }) (hears_nothing ((name, m.stream) ∷ []) (IsPassed old.below.endpoint []) after.layer after.layer (same_keeps after.layer after.layer refl refl refl refl (λ was. was)) keeps.orderly)) wait

  -- the layer after an OPEN that is accepted
  accepted_layer : ℕ → Opening → LayerView → LayerView
  accepted_layer number opening layer = record (row_taken number opening.delivery (hears_open true layer.named opening) layer) { named = layer.named + 1 }

  channel_moves : (low : ℕ) (m : MessageContent) (opening : Opening) (old : ChannelsView) → SaysOpen m (record { name = old.layer.named; opening = opening })
      → BringsChannel old.layer.named opening (outcome_of (hears_open true old.layer.named opening) (slot_numbered old.layer m.stream)) → Wait all low old.layer.waiting old.layer.named
      → Moves keep side packets all (m ∷ []) low [] old [] (record old { layer = accepted_layer m.stream opening old.layer })
  unfolding accepted_layer
  channel_moves low m opening old says (inl silent) wait =
      reports_move low m old (record old { layer = accepted_layer m.stream opening old.layer }) (outcome_of (hears_open true old.layer.named opening) (slot_numbered old.layer m.stream)).reports [] [] []
      (accepted_keeping m.stream opening old.layer) (λ orderly. tt)
      refl refl refl silent.0 silent.1
      (drops_one old m [] (accepted_layer m.stream opening old.layer) (accepted_keeping m.stream opening old.layer) (λ orderly now. is_control says.ppid)) (wait_named all low old.layer.waiting old.layer.named (old.layer.named + 1) (omega arith) wait)
  channel_moves low m opening old says (inr brings) wait =
      let channel : OpenedChannel = record { name = old.layer.named; opening = opening } in
      reports_move low m old (record old { layer = accepted_layer m.stream opening old.layer }) (outcome_of (hears_open true old.layer.named opening) (slot_numbered old.layer m.stream)).reports (channel ∷ []) []
      ((old.layer.named, m.stream) ∷ []) (accepted_noted m.stream opening old.layer brings.0) (λ orderly. (next_to_come old.layer orderly, tt))
      refl refl refl brings.1 brings.2
      (λ orderly. let keeps = accepted_keeping m.stream opening old.layer orderly in
      a_channel old.layer (accepted_layer m.stream opening old.layer) m channel [] [] [] keeps says (inl refl)
      ((row_leaves m.stream opening.delivery (hears_open true old.layer.named opening) (outcome_of (hears_open true old.layer.named opening) (slot_numbered old.layer m.stream)) old.layer orderly).gets old.layer.named brings.0)
      (hears_nothing ((old.layer.named, m.stream) ∷ []) (IsPassed old.below.endpoint []) (accepted_layer m.stream opening old.layer) (accepted_layer m.stream opening old.layer)
      (same_keeps (accepted_layer m.stream opening old.layer) (accepted_layer m.stream opening old.layer) refl refl refl refl (λ was. was)) keeps.orderly)) (wait_named all low old.layer.waiting old.layer.named (old.layer.named + 1) (omega arith) wait)

  accepted_moves : (low : ℕ) (m : MessageContent) (opening : Opening) (old new : ChannelsView) → SaysOpen m (record { name = old.layer.named; opening = opening }) → AcceptsOpen m.stream opening old new
      → Wait all low old.layer.waiting old.layer.named → Moves keep side packets all (m ∷ []) low [] old [] new
  unfolding accepted_layer
  accepted_moves low m opening old new says accepts wait =
      let noted : ChannelsView = record old { layer = accepted_layer m.stream opening old.layer } in
      let first = channel_moves low m opening old says (row_brings_channel old.layer.named opening (slot_numbered old.layer m.stream)) wait in
      subst (λ (v : ChannelsView). Moves keep side packets all (m ∷ []) low [] old [] v) (sym accepts.is)
      (moves_then keep side packets all (m ∷ []) low old noted [] (record { below = accepts.prepared; layer = accepted_layer m.stream opening old.layer }) first
      (readies_moves keep side packets all first.steps.high m.stream opening.delivery.priority noted accepts.prepared accepts.prepares first.waits))

  pub row_moves : (low : ℕ) (m : MessageContent) (input : SlotInput) (old new : ChannelsView) → Brings old.layer m input → TakesRow m.stream input old new → old.layer.over ≡ false → Wait all low old.layer.waiting old.layer.named
      → Moves keep side packets all (m ∷ []) low [] old [] new
  row_moves low m _ old new (nothing_new input none names why) made lasts wait = silent_row_moves low m input old new none names why (plain_row m.stream input old new none made) wait
  row_moves low m _ old new (a_new_channel opening says) made lasts wait = accepted_moves low m opening old new says made wait
  row_moves low m _ old new (a_new_message content says) is lasts wait =
      subst (λ (v : ChannelsView). Moves keep side packets all (m ∷ []) low [] old [] v) (sym is)
      (content_moves low m content old says lasts (row_brings_content content (slot_numbered old.layer m.stream)) wait)
