-- What is known of all associations in one direction outlasts each act of either side.
use Rattle.std.specs.List.{AllByRecursion}
use Rattle.std.proofs.Common.{◌≡◌, ℕ, ◌<◌, ◌^◌, List, [], ◌∷◌, ◌++◌, length, refl, sym, ◌∙◌, ap, arith, subst}
use Rattle.dcsctp_spec_lemmas.specs.wire.Content.{PacketContent}
use Rattle.dcsctp_spec_lemmas.specs.wire.Format.{IsPacket}
use Rattle.dcsctp_spec_lemmas.specs.types.declared.options.Options.{Options}
use Rattle.dcsctp_spec_lemmas.specs.types.Schedule.{CallContent}
use Rattle.dcsctp_spec_lemmas.specs.types.Settings.{wire_options}
use Rattle.dcsctp_spec_lemmas.specs.spec.endpoint.CallTurns.{Transition, AlongTurns, HandleInput, after_all, effects_of, events_of}
use Rattle.dcsctp_spec_lemmas.specs.spec.endpoint.Endpoint.{Endpoint, fresh_endpoint}
use Rattle.dcsctp_spec_lemmas.specs.spec.endpoint.Event.{Event, packets_of_events}
use Rattle.dcsctp_spec_lemmas.specs.spec.Packet.{packet_of_content, Emission}
use Rattle.dcsctp_spec_runs.specs.Past.{Each}
use Rattle.dcsctp_spec_lemmas.specs.spec.endpoint.UserTurns.{UserTurns}
use Rattle.dcsctp_spec_runs.specs.Sockets.{endpoint_after}
use Rattle.dcsctp_spec_runs.specs.World.{after_effects}
use Rattle.dcsctp_spec_lemmas.specs.spec.association.Effect.{Effect}
use Rattle.dcsctp_spec_lemmas.proofs.TurnLists.{after_all-append, events_of-append}
use Rattle.dcsctp_theorem_sockets.specs.Agreement.{recorded_past}
use Rattle.dcsctp_theorem_sockets.proofs.Bursts.{packets_of_events-append}
use Rattle.dcsctp_delivery_directions.specs.sending.Log.{Message}
use Rattle.dcsctp_delivery_directions.specs.sending.Places as places
use Rattle.dcsctp_delivery_directions.specs.directions.Directions.{PreparedReset}
use Rattle.dcsctp_delivery_sockets.specs.turns.Runs.{prepared_after}
use Rattle.dcsctp_delivery_sockets.specs.turns.Actions.{queued_after}
use Rattle.dcsctp_delivery_sockets.specs.associations.Laws.{AsksLittle, ResetsWereSeen, AreEnds}
use Rattle.dcsctp_delivery_sockets.specs.associations.Reads.{Reading, nothing_read, reading_after}
use Rattle.dcsctp_delivery_sockets.specs.sockets.Acts.{made_through, queued_through, AreNewPeers, HearsBack}
use Rattle.dcsctp_delivery_sockets.specs.sockets.Packets.{reading_through, AreNewTags}
use Rattle.dcsctp_delivery_sockets.specs.sockets.UserMessages.{message_sent, messages_of_turns}
use Rattle.dcsctp_delivery_sockets.specs.sockets.Delivery.{IsOfNewTagsBut, MatchOrUnmatched, SendsLittle}
use Rattle.dcsctp_delivery_sockets.proofs.sockets.Acts.{senders_act, senders_reset, receivers_act, receivers_handle}
use Rattle.dcsctp_delivery_sockets.proofs.sockets.Calls.{NoChunks, AreCalls, call_without}
use Rattle.dcsctp_delivery_sockets.proofs.sockets.OpenFitting.{AllOpenFitting, none_open}
use Rattle.dcsctp_delivery_sockets.proofs.sockets.Early.{AllFound, NoneRestored, StandsSo, AllEcho}
use Rattle.dcsctp_delivery_sockets.proofs.sockets.NewLinks.{AllPerformed, new_peers, new_tags}
use Rattle.dcsctp_delivery_sockets.proofs.sockets.Known.{past_more, GoodPacket, SideKnown, rest_turns, rest_moves, rest_refused, rest_resets, rest_tells, ran_front}
use Rattle.dcsctp_delivery_sockets.proofs.sockets.UserMessages.{SaysSame, nothing_same, turns_same}
use Rattle.dcsctp_delivery_sockets.specs.associations.Ends.{ResetCalls, sending_side, receiving_side}

-- ---- what two sockets have done

abbrev pub queued_of : Options → List Transition → List Message
queued_of options turns = queued_through (fresh_endpoint options) turns []

abbrev pub packets_of : List Transition → List Emission
packets_of turns = packets_of_events (events_of turns)

abbrev pub reading_of : Options → List Transition → Reading
reading_of options turns = reading_through (fresh_endpoint options) turns nothing_read

-- the calls by which the user resets streams, with those that it has made by then
abbrev pub made_of : Options → List Transition → List PreparedReset
made_of options turns = made_through (fresh_endpoint options) turns [] []

abbrev pub calls_by : ResetCalls → Options → List Transition → ResetCalls
calls_by reset_calls options turns = record reset_calls { made = made_of options turns }

-- the direction from the one to the other
abbrev pub Stand : ResetCalls → Options → Options → List Transition → List Transition → Type 0
Stand reset_calls mine theirs turns others =
    AreEnds (calls_by reset_calls mine turns) (events_of others) theirs (sending_side (endpoint_after mine turns) (queued_of mine turns) (recorded_past turns) (packets_of turns)) (receiving_side (endpoint_after theirs others) (recorded_past others) (reading_of theirs others))

queued_more : (e : Endpoint) (turns more : List Transition) (queued : List Message) → queued_through e (turns ++ more) queued ≡ queued_through (after_all e turns) more (queued_through e turns queued)
queued_more e [] more queued = refl
queued_more e (t ∷ turns) more queued = queued_more t.outcome.after turns more (queued_after e t.input queued)

made_more : (e : Endpoint) (turns more : List Transition) (queued : List Message) (made : List PreparedReset) → made_through e (turns ++ more) queued made ≡ made_through (after_all e turns) more (queued_through e turns queued) (made_through e turns queued made)
made_more e [] more queued made = refl
made_more e (t ∷ turns) more queued made = made_more t.outcome.after turns more (queued_after e t.input queued) (prepared_after e t.input (length queued) made)

pub reading_more : (e : Endpoint) (turns more : List Transition) (reading : Reading) → reading_through e (turns ++ more) reading ≡ reading_through (after_all e turns) more (reading_through e turns reading)
reading_more e [] more reading = refl
reading_more e (t ∷ turns) more reading = reading_more t.outcome.after turns more (reading_after e t.input t.outcome reading)

packets_more : (turns more : List Transition) → packets_of (turns ++ more) ≡ packets_of turns ++ packets_of more
packets_more turns more = ap packets_of_events (events_of-append turns more) ∙ packets_of_events-append (events_of turns) (events_of more)

-- ---- little is sent

pub queued_same : (options : Options) (turns : List Transition) → SaysSame message_sent (queued_of options turns) (messages_of_turns (fresh_endpoint options) turns)
queued_same options turns = turns_same message_sent (fresh_endpoint options) turns [] [] (nothing_same message_sent)

pub few_queued : (options : Options) (turns : List Transition) → SendsLittle options turns → length (queued_of options turns) < 2 ^ 64
few_queued options turns little = (let same = queued_same options turns in let few = little.messages in omega (arith, same.size, few))

-- ---- the sender acts

module _ (reset_calls : ResetCalls) (seen : List (Event Emission)) (theirs : Options) (d : Endpoint) (their_past : List Effect) (reading : Reading) where
  same_sender : (e e' : Endpoint) (queued queued' : List Message) (past past' : List Effect) (packets packets' : List Emission) (made made' : List PreparedReset) → made ≡ made' → e ≡ e' → queued ≡ queued' → past ≡ past' → packets ≡ packets'
      → AreEnds (record reset_calls { made = made }) seen theirs (sending_side e queued past packets) (receiving_side d their_past reading) → AreEnds (record reset_calls { made = made' }) seen theirs (sending_side e' queued' past' packets') (receiving_side d their_past reading)
  same_sender e e' queued queued' past past' packets packets' made made' same_made same_e same_queued same_past same_packets h =
      subst (λ (x : List PreparedReset). AreEnds (record reset_calls { made = x }) seen theirs (sending_side e' queued' past' packets') (receiving_side d their_past reading)) same_made
      (subst (λ (x : Endpoint). AreEnds (record reset_calls { made = made }) seen theirs (sending_side x queued' past' packets') (receiving_side d their_past reading)) same_e
      (subst (λ (x : List Message). AreEnds (record reset_calls { made = made }) seen theirs (sending_side e x past' packets') (receiving_side d their_past reading)) same_queued
      (subst (λ (x : List Effect). AreEnds (record reset_calls { made = made }) seen theirs (sending_side e queued x packets') (receiving_side d their_past reading)) same_past
      (subst (λ (x : List Emission). AreEnds (record reset_calls { made = made }) seen theirs (sending_side e queued past x) (receiving_side d their_past reading)) same_packets h))))

pub sender_more : (reset_calls : ResetCalls) (mine theirs : Options) (turns others more : List Transition) → Stand reset_calls mine theirs turns others → SideKnown reset_calls mine (recorded_past others) (turns ++ more)
    → MatchOrUnmatched mine theirs (recorded_past (turns ++ more)) (recorded_past others) → StandsSo (endpoint_after mine turns) (recorded_past turns) → AllPerformed (recorded_past (turns ++ more)) (recorded_past others)
    → AllFound (recorded_past (turns ++ more)) (recorded_past others) → NoneRestored (recorded_past (turns ++ more)) → AreCalls more → AllOpenFitting more → AllEcho more
    → AlongTurns (HearsBack (packets_of others)) (endpoint_after mine turns) more → Stand reset_calls mine theirs (turns ++ more) others × AllByRecursion (λ turn. ResetsWereSeen (events_of others) turn.outcome) more
sender_more reset_calls mine theirs turns others more h known matched stands performed found restored calls opens makers back =
    let e : Endpoint = endpoint_after mine turns in
    let past : List Effect = recorded_past turns in
    let new : AreNewPeers reset_calls.in_turn past (recorded_past others) e more =
    new_peers reset_calls.in_turn mine theirs (recorded_past others) more past e (ran_front reset_calls mine turns more known) stands (rest_turns reset_calls mine turns more known) calls (rest_refused reset_calls mine turns more known) (rest_moves reset_calls mine turns more known) opens makers
    (subst (Each (IsOfNewTagsBut mine (recorded_past others))) (past_more turns more) known.tags)
    (subst (λ (p : List Effect). MatchOrUnmatched mine theirs p (recorded_past others)) (past_more turns more) matched)
    (subst (λ (p : List Effect). AllPerformed p (recorded_past others)) (past_more turns more) performed)
    (subst (λ (p : List Effect). AllFound p (recorded_past others)) (past_more turns more) found) (subst NoneRestored (past_more turns more) restored) in
    let few : length (queued_through e more (queued_of mine turns)) < 2 ^ 64 =
    subst (λ (q : List Message). length q < 2 ^ 64) (queued_more (fresh_endpoint mine) turns more []) (few_queued mine (turns ++ more) known.little) in
    let asks : AsksLittle (packets_of turns ++ packets_of more) = subst AsksLittle (packets_more turns more) known.little.requests in (
      same_sender reset_calls (events_of others) theirs (endpoint_after theirs others) (recorded_past others) (reading_of theirs others) (after_all e more) (endpoint_after mine (turns ++ more)) (queued_through e more (queued_of mine turns)) (queued_of mine (turns ++ more))
          (after_effects (effects_of more) past) (recorded_past (turns ++ more)) (packets_of turns ++ packets_of more) (packets_of (turns ++ more)) (made_through e more (queued_of mine turns) (made_of mine turns)) (made_of mine (turns ++ more)) (sym (made_more (fresh_endpoint mine) turns more [] [])) (sym (after_all-append (fresh_endpoint mine) turns more))
          (sym (queued_more (fresh_endpoint mine) turns more [])) (sym (past_more turns more)) (sym (packets_more turns more))
          (senders_act reset_calls (events_of others) theirs (endpoint_after theirs others) (recorded_past others) (reading_of theirs others) more e (queued_of mine turns) past (packets_of turns) (made_of mine turns) h (rest_turns reset_calls mine turns more known) (rest_resets reset_calls mine turns more known) back new few
          asks),
      senders_reset reset_calls (events_of others) theirs (endpoint_after theirs others) (recorded_past others) (reading_of theirs others) more e (queued_of mine turns) past (packets_of turns) (made_of mine turns) h (rest_turns reset_calls mine turns more known) (rest_resets reset_calls mine turns more known) back new few
          asks,
    )

-- ---- the receiver acts

module _ (reset_calls : ResetCalls) (theirs : Options) (e : Endpoint) (queued : List Message) (past : List Effect) (packets : List Emission) where
  same_receiver : (seen seen' : List (Event Emission)) (d d' : Endpoint) (their_past their_past' : List Effect) (reading reading' : Reading) → seen ≡ seen' → d ≡ d' → their_past ≡ their_past' → reading ≡ reading'
      → AreEnds reset_calls seen theirs (sending_side e queued past packets) (receiving_side d their_past reading) → AreEnds reset_calls seen' theirs (sending_side e queued past packets) (receiving_side d' their_past' reading')
  same_receiver seen seen' d d' their_past their_past' reading reading' same_seen same_d same_past same_reading h =
      subst (λ (x : List (Event Emission)). AreEnds reset_calls x theirs (sending_side e queued past packets) (receiving_side d' their_past' reading')) same_seen
      (subst (λ (x : Endpoint). AreEnds reset_calls seen theirs (sending_side e queued past packets) (receiving_side x their_past' reading')) same_d
      (subst (λ (x : List Effect). AreEnds reset_calls seen theirs (sending_side e queued past packets) (receiving_side d x reading')) same_past
      (subst (λ (x : Reading). AreEnds reset_calls seen theirs (sending_side e queued past packets) (receiving_side d their_past x)) same_reading h)))

module _ (reset_calls their_reset_calls : ResetCalls) (mine theirs : Options) (turns others more : List Transition) (h : Stand reset_calls mine theirs turns others) (known : SideKnown their_reset_calls theirs (recorded_past turns) (others ++ more))
    (each : Each (IsOfNewTagsBut mine (recorded_past (others ++ more))) (recorded_past turns)) (matched : MatchOrUnmatched theirs mine (recorded_past (others ++ more)) (recorded_past turns)) (stands : StandsSo (endpoint_after theirs others) (recorded_past others))
    (found : AllFound (recorded_past (others ++ more)) (recorded_past turns)) (restored : NoneRestored (recorded_past (others ++ more))) (little : SendsLittle mine turns) where
  their_tags : AreCalls more → AllOpenFitting more → AreNewTags theirs (recorded_past others) (recorded_past turns) (endpoint_after theirs others) more
  their_tags calls opens =
      let same : recorded_past (others ++ more) ≡ after_effects (effects_of more) (recorded_past others) = past_more others more in
      new_tags theirs mine (recorded_past turns) more (recorded_past others) (endpoint_after theirs others) (ran_front their_reset_calls theirs others more known) stands (rest_turns their_reset_calls theirs others more known) (rest_tells their_reset_calls theirs others more known) calls
      (rest_moves their_reset_calls theirs others more known) opens (subst (Each (IsOfNewTagsBut theirs (recorded_past turns))) same known.tags)
      (subst (λ (p : List Effect). Each (IsOfNewTagsBut mine p) (recorded_past turns)) same each)
      (subst (λ (p : List Effect). MatchOrUnmatched theirs mine p (recorded_past turns)) same matched)
      (subst (λ (p : List Effect). AllFound p (recorded_past turns)) same found) (subst NoneRestored same restored)

  now_stands : AreEnds (calls_by reset_calls mine turns) (events_of others ++ events_of more) theirs (sending_side (endpoint_after mine turns) (queued_of mine turns) (recorded_past turns) (packets_of turns)) (receiving_side (after_all (endpoint_after theirs others) more) (after_effects (effects_of more) (recorded_past others))
      (reading_through (endpoint_after theirs others) more (reading_of theirs others))) → Stand reset_calls mine theirs turns (others ++ more)
  now_stands after =
      same_receiver (calls_by reset_calls mine turns) theirs (endpoint_after mine turns) (queued_of mine turns) (recorded_past turns) (packets_of turns) (events_of others ++ events_of more) (events_of (others ++ more)) (after_all (endpoint_after theirs others) more) (endpoint_after theirs (others ++ more))
      (after_effects (effects_of more) (recorded_past others)) (recorded_past (others ++ more)) (reading_through (endpoint_after theirs others) more (reading_of theirs others)) (reading_of theirs (others ++ more))
      (sym (events_of-append others more)) (sym (after_all-append (fresh_endpoint theirs) others more)) (sym (past_more others more)) (sym (reading_more (fresh_endpoint theirs) others more nothing_read)) after

  pub receiver_calls : (call : CallContent) → UserTurns (endpoint_after theirs others) call more → AreCalls more → Stand reset_calls mine theirs turns (others ++ more)
  receiver_calls call taken calls =
      let none : NoChunks more = call_without (endpoint_after theirs others) call more taken in
      now_stands (receivers_act (calls_by reset_calls mine turns) theirs (endpoint_after mine turns) (queued_of mine turns) (recorded_past turns) (packets_of turns) (few_queued mine turns little) little.requests more (events_of others) (endpoint_after theirs others) (recorded_past others)
      (reading_of theirs others) h none (rest_turns their_reset_calls theirs others more known) calls (their_tags calls (none_open more none)))

  pub receiver_handles : (bytes : List ℕ) (emission : Emission) → places.HasEntry emission (packets_of turns) → GoodPacket emission
      → ((packet : PacketContent) → IsPacket (wire_options (endpoint_after theirs others).options) packet bytes → packet_of_content packet ≡ emission.packet) → HandleInput (endpoint_after theirs others) bytes more → AreCalls more → AllOpenFitting more
      → Stand reset_calls mine theirs turns (others ++ more)
  receiver_handles bytes emission has good is taken calls opens =
      now_stands (receivers_handle (calls_by reset_calls mine turns) theirs (endpoint_after mine turns) (queued_of mine turns) (recorded_past turns) (packets_of turns) (few_queued mine turns little) little.requests (events_of others) (endpoint_after theirs others) (recorded_past others)
      (reading_of theirs others) emission bytes more h has good.goes is (their_tags calls opens) taken)
