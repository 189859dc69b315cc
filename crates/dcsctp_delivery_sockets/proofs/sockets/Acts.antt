-- What two sockets do one after another.
use Rattle.dcsctp_delivery_sockets.specs.turns.Runs.{RefusesNone}
use Rattle.std.proofs.Common.{◌≡◌, ℕ, ◌<◌, ◌≤◌, ◌^◌, List, [], ◌∷◌, ◌++◌, append_assoc, length, refl, sym, ◌∙◌, ap, arith, subst, inr}
use Rattle.std.specs.List.{AllByRecursion}
use Rattle.std.proofs.lemmas.List.{append-nil, length-append}
use Rattle.dcsctp_spec_lemmas.specs.wire.Content.{PacketContent}
use Rattle.dcsctp_spec_lemmas.specs.wire.Format.{IsPacket}
use Rattle.dcsctp_spec_lemmas.specs.types.declared.options.Options.{Options}
use Rattle.dcsctp_spec_lemmas.specs.types.Settings.{wire_options}
use Rattle.dcsctp_spec_lemmas.specs.spec.Admission.{admits}
use Rattle.dcsctp_spec_lemmas.specs.spec.endpoint.CallTurns.{Transition, AlongTurns, IsTurn, Turns, AdmittedTurns, HandleInput, unreadable, readable, after_all, effects_of, events_of}
use Rattle.dcsctp_spec_lemmas.specs.spec.endpoint.Endpoint.{Endpoint, Core}
use Rattle.dcsctp_spec_lemmas.specs.spec.endpoint.Event.{Event, packets_of_events}
use Rattle.dcsctp_spec_lemmas.specs.spec.endpoint.Outcome.{Outcome}
use Rattle.dcsctp_spec_lemmas.specs.spec.Packet.{Packet, packet_of_content, Emission}
use Rattle.dcsctp_spec_lemmas.specs.spec.endpoint.Turn.{Input, arrival, refusal, chunk_input, Turn, unreadable_text}
use Rattle.dcsctp_spec_lemmas.specs.spec.endpoint.Turn as inputs
use Rattle.dcsctp_spec_runs.specs.World.{after_effects}
use Rattle.dcsctp_spec_lemmas.specs.spec.association.Effect.{Effect}
use Rattle.dcsctp_theorem_association.proofs.Growth.{after_effects-append}
use Rattle.dcsctp_delivery_directions.specs.sending.Log.{Message}
use Rattle.dcsctp_delivery_directions.specs.sending.Places as places
use Rattle.dcsctp_delivery_directions.proofs.directions.RequestCounts.{requests_more_to}
use Rattle.dcsctp_delivery_directions.specs.directions.Directions.{PreparedReset}
use Rattle.dcsctp_delivery_sockets.specs.turns.Runs.{prepared_after}
use Rattle.dcsctp_delivery_sockets.specs.turns.Actions.{content_of_input, queued_after, IsCall}
use Rattle.dcsctp_delivery_sockets.specs.turns.Sides.{WasSent}
use Rattle.dcsctp_delivery_sockets.specs.associations.Laws.{AsksLittle, ResetsAs, ResetsWereSeen, AreEnds}
use Rattle.dcsctp_delivery_sockets.specs.associations.Reads.{Reading, reading_after}
use Rattle.dcsctp_delivery_sockets.specs.sockets.Acts.{made_through, queued_through, AreTurns, AreNewPeers, HearsBack, ResetsThrough}
use Rattle.dcsctp_delivery_sockets.specs.sockets.Echoes.{GoesToMaker}
use Rattle.dcsctp_delivery_sockets.specs.sockets.Packets.{reading_through, AreNewTags}
use Rattle.dcsctp_delivery_sockets.proofs.associations.Growing.{input_adds}
use Rattle.dcsctp_delivery_sockets.proofs.associations.Seen.{resets_were_seen}
use Rattle.dcsctp_delivery_sockets.proofs.associations.SenderTurns.{sender_turns}
use Rattle.dcsctp_delivery_sockets.proofs.associations.ReceiverTurns.{receiver_turns}
use Rattle.dcsctp_delivery_sockets.proofs.sockets.Calls.{NoChunk, NoChunks}
use Rattle.dcsctp_delivery_sockets.proofs.sockets.PacketTurns.{packets_apart, packet_goes}
use Rattle.dcsctp_delivery_sockets.specs.associations.Ends.{calls_after, ResetCalls, sending_side, receiving_side}

-- ---- the sender

queued_grows : (e : Endpoint) (turns : List Transition) (queued : List Message) → length queued ≤ length (queued_through e turns queued)
queued_grows e [] queued = omega arith
queued_grows e (t ∷ turns) queued =
    let rest = queued_grows t.outcome.after turns (queued_after e t.input queued) in
    let first = ap (λ (l : List Message). length l) (input_adds e t.input queued) ∙ length-append (queued_after e t.input []) queued in
    omega (arith, rest, first)

-- What all packets ask is no less than what the first ones ask.
asks_little : (packets more : List Emission) → AsksLittle (packets ++ more) → AsksLittle packets
asks_little packets more little tag = (let both = requests_more_to tag packets more in let few = little tag in omega (arith, both, few))

-- It does not matter which calls were made so far.
resets_with : (calls : ResetCalls) (made : List PreparedReset) (count : ℕ) (e : Endpoint) (input : Input) → ResetsAs calls count e input → ResetsAs (record calls { made = made }) count e input
resets_with calls made count e input r = record { never = r.never; asks = r.asks; empty = r.empty }

module _ (calls : ResetCalls) (seen : List (Event Emission)) (options : Options) (d : Endpoint) (their_past : List Effect) (reading : Reading) where
  -- the first of these turns
  sender_first : (t : Transition) (turns : List Transition) (e : Endpoint) (queued : List Message) (past : List Effect) (packets : List Emission) (made : List PreparedReset) → AreEnds (record calls { made = made }) seen options (sending_side e queued past packets) (receiving_side d their_past reading) → AreTurns e (t ∷ turns)
      → ResetsThrough calls e queued (t ∷ turns) → AlongTurns (HearsBack (packets_of_events seen)) e (t ∷ turns) → AreNewPeers calls.in_turn past their_past e (t ∷ turns) → length (queued_through e (t ∷ turns) queued) < 2 ^ 64
      → AsksLittle ((packets ++ packets_of_events t.outcome.events) ++ packets_of_events (events_of turns))
      → AreEnds (record calls { made = prepared_after e t.input (length queued) made }) seen options (sending_side t.outcome.after (queued_after e t.input queued) (after_effects t.outcome.effects past) (packets ++ packets_of_events t.outcome.events)) (receiving_side d their_past reading)
  sender_first t turns e queued past packets made h taken resets back new few all =
      let grows = queued_grows t.outcome.after turns (queued_after e t.input queued) in
      (subst (λ (n : ResetCalls). AreEnds (calls_after e t.input (length queued) n) seen options (sending_side t.outcome.after (queued_after e t.input queued) (after_effects t.outcome.effects past) (packets ++ packets_of_events t.outcome.events)) (receiving_side d their_past reading)) h.is
      (sender_turns options h.ends e queued past packets d their_past reading h.between t.input t.outcome new.1 h.answered
      (asks_little (packets ++ packets_of_events t.outcome.events) (packets_of_events (events_of turns)) all) seen h.reported back.0 (omega (arith, few, grows)) (subst (λ (n : ResetCalls). RefusesNone n.in_turn e t.outcome) (sym h.is) new.2) (subst (λ (n : ResetCalls). ResetsAs n (length queued) e t.input) (sym h.is) (resets_with calls made (length queued) e t.input resets.0)) new.3 new.4 new.0 taken.0))

  pub senders_act : (turns : List Transition) (e : Endpoint) (queued : List Message) (past : List Effect) (packets : List Emission) (made : List PreparedReset) → AreEnds (record calls { made = made }) seen options (sending_side e queued past packets) (receiving_side d their_past reading) → AreTurns e turns
      → ResetsThrough calls e queued turns → AlongTurns (HearsBack (packets_of_events seen)) e turns → AreNewPeers calls.in_turn past their_past e turns → length (queued_through e turns queued) < 2 ^ 64 → AsksLittle (packets ++ packets_of_events (events_of turns))
      → AreEnds (record calls { made = made_through e turns queued made }) seen options (sending_side (after_all e turns) (queued_through e turns queued) (after_effects (effects_of turns) past) (packets ++ packets_of_events (events_of turns))) (receiving_side d their_past reading)
  senders_act [] e queued past packets made h taken resets back new few little = subst (λ (l : List Emission). AreEnds (record calls { made = made }) seen options (sending_side e queued past l) (receiving_side d their_past reading)) (sym (append-nil packets)) h
  senders_act (t ∷ turns) e queued past packets made h taken resets back new few little =
      let all : AsksLittle ((packets ++ packets_of_events t.outcome.events) ++ packets_of_events (events_of turns)) = subst AsksLittle (sym (packets_apart packets t turns)) little in
      let first = sender_first t turns e queued past packets made h taken resets back new few all in
      let rest = senders_act turns t.outcome.after (queued_after e t.input queued) (after_effects t.outcome.effects past) (packets ++ packets_of_events t.outcome.events) (prepared_after e t.input (length queued) made) first taken.1 resets.1 back.1 new.5 few all in
      subst (λ (l : List Effect). AreEnds (record calls { made = made_through e (t ∷ turns) queued made }) seen options (sending_side (after_all t.outcome.after turns) (queued_through t.outcome.after turns (queued_after e t.input queued)) l (packets ++ packets_of_events (t.outcome.events ++ events_of turns))) (receiving_side d their_past reading))
      (sym (after_effects-append t.outcome.effects (effects_of turns) past))
      (subst (λ (l : List Emission). AreEnds (record calls { made = made_through e (t ∷ turns) queued made }) seen options (sending_side (after_all t.outcome.after turns) (queued_through t.outcome.after turns (queued_after e t.input queued)) (after_effects (effects_of turns) (after_effects t.outcome.effects past)) l) (receiving_side d their_past reading))
      (packets_apart packets t turns) rest)

  -- Of each reset that the sender's user is told is performed, the receiver's was told.
  pub senders_reset : (turns : List Transition) (e : Endpoint) (queued : List Message) (past : List Effect) (packets : List Emission) (made : List PreparedReset) → AreEnds (record calls { made = made }) seen options (sending_side e queued past packets) (receiving_side d their_past reading) → AreTurns e turns
      → ResetsThrough calls e queued turns → AlongTurns (HearsBack (packets_of_events seen)) e turns → AreNewPeers calls.in_turn past their_past e turns → length (queued_through e turns queued) < 2 ^ 64 → AsksLittle (packets ++ packets_of_events (events_of turns))
      → AllByRecursion (λ turn. ResetsWereSeen seen turn.outcome) turns
  senders_reset [] e queued past packets made h taken resets back new few little = tt
  senders_reset (t ∷ turns) e queued past packets made h taken resets back new few little =
      let all : AsksLittle ((packets ++ packets_of_events t.outcome.events) ++ packets_of_events (events_of turns)) = subst AsksLittle (sym (packets_apart packets t turns)) little in
      let first = sender_first t turns e queued past packets made h taken resets back new few all in (
        resets_were_seen seen options h.ends e queued past packets d their_past reading t.input t.outcome h.between h.answered h.reported (asks_little packets (packets_of_events (events_of (t ∷ turns))) little) new.3 new.0 taken.0,
        senders_reset turns t.outcome.after (queued_after e t.input queued) (after_effects t.outcome.effects past) (packets ++ packets_of_events t.outcome.events) (prepared_after e t.input (length queued) made) first taken.1 resets.1 back.1 new.5 few all,
      )

-- ---- the receiver

-- Where no chunk is handled, all that is was sent.
none_sent : (sent : List Emission) (input : Input) → NoChunk input → WasSent sent (content_of_input input)
none_sent sent (chunk_input tag content) none = absurd none
none_sent sent inputs.arrival none = tt
none_sent sent (inputs.refusal text) none = tt
none_sent sent (inputs.packet_begins contents) none = tt
none_sent sent inputs.packet_ends none = tt
none_sent sent (inputs.act_input act) none = tt
none_sent sent (inputs.user_sets setting) none = tt
none_sent sent (inputs.user_sends messages) none = tt
none_sent sent (inputs.user_resets ids) none = tt
none_sent sent inputs.user_takes none = tt
none_sent sent (inputs.timer_expires timer) none = tt
none_sent sent (inputs.time_passes moment) none = tt
none_sent sent (inputs.restores state) none = tt

module _ (calls : ResetCalls) (options : Options) (e : Endpoint) (queued : List Message) (past : List Effect) (packets : List Emission) (few : length queued < 2 ^ 64) (little : AsksLittle packets) where
  pub receivers_act : (turns : List Transition) (seen : List (Event Emission)) (d : Endpoint) (their_past : List Effect) (reading : Reading) → AreEnds calls seen options (sending_side e queued past packets) (receiving_side d their_past reading) → NoChunks turns → AreTurns d turns
      → AllByRecursion (λ turn. IsCall turn.input) turns → AreNewTags options their_past past d turns
      → AreEnds calls (seen ++ events_of turns) options (sending_side e queued past packets) (receiving_side (after_all d turns) (after_effects (effects_of turns) their_past) (reading_through d turns reading))
  receivers_act [] seen d their_past reading h none taken may new = subst (λ (l : List (Event Emission)). AreEnds calls l options (sending_side e queued past packets) (receiving_side d their_past reading)) (sym (append-nil seen)) h
  receivers_act (t ∷ turns) seen d their_past reading h none taken may new =
      let first : AreEnds calls (seen ++ t.outcome.events) options (sending_side e queued past packets) (receiving_side t.outcome.after (after_effects t.outcome.effects their_past) (reading_after d t.input t.outcome reading)) =
      (subst (λ (n : ResetCalls). AreEnds n (seen ++ t.outcome.events) options (sending_side e queued past packets) (receiving_side t.outcome.after (after_effects t.outcome.effects their_past) (reading_after d t.input t.outcome reading))) h.is
      (receiver_turns options h.ends e queued past packets d their_past reading h.between few new.0 t.input t.outcome new.1 h.answered little new.3.0 may.0 taken.0 seen h.reported new.3.2 new.2
      (λ transfer link there linked. (none_sent (h.ends.sends link.peer.tag).sent t.input none.0, inr (none_sent [] t.input none.0))))) in
      let rest = receivers_act turns (seen ++ t.outcome.events) t.outcome.after (after_effects t.outcome.effects their_past) (reading_after d t.input t.outcome reading) first none.1 taken.1 may.1 new.4 in
      subst (λ (l : List Effect). AreEnds calls (seen ++ events_of (t ∷ turns)) options (sending_side e queued past packets) (receiving_side (after_all t.outcome.after turns) l (reading_through t.outcome.after turns (reading_after d t.input t.outcome reading))))
      (sym (after_effects-append t.outcome.effects (effects_of turns) their_past))
      (subst (λ (l : List (Event Emission)). AreEnds calls l options (sending_side e queued past packets) (receiving_side (after_all t.outcome.after turns) (after_effects (effects_of turns) (after_effects t.outcome.effects their_past)) (reading_through t.outcome.after turns (reading_after d t.input t.outcome reading))))
      (append_assoc seen t.outcome.events (events_of turns)) rest)

  one_turn : (d : Endpoint) (their_past : List Effect) (reading : Reading) (input : Input) (t : Transition) → NoChunk input → IsCall input → IsTurn d input t → NoChunk t.input × IsCall t.input × Turn d t.input t.outcome
  one_turn d their_past reading input t none may turn =
      (subst NoChunk (sym turn.is) none, subst IsCall (sym turn.is) may, subst (λ (i : Input). Turn d i t.outcome) (sym turn.is) turn.comes)

  pub receivers_handle : (seen : List (Event Emission)) (d : Endpoint) (their_past : List Effect) (reading : Reading) (emission : Emission) (bytes : List ℕ) (turns : List Transition) → AreEnds calls seen options (sending_side e queued past packets) (receiving_side d their_past reading) → places.HasEntry emission packets
      → GoesToMaker emission → ((packet : PacketContent) → IsPacket (wire_options d.options) packet bytes → packet_of_content packet ≡ emission.packet)
      → AreNewTags options their_past past d turns → HandleInput d bytes turns
      → AreEnds calls (seen ++ events_of turns) options (sending_side e queued past packets) (receiving_side (after_all d turns) (after_effects (effects_of turns) their_past) (reading_through d turns reading))
  receivers_handle seen d their_past reading emission bytes turns h has go is new (unreadable ts unread taken) = two ts new taken
    where
      two : (turns : List Transition) → AreNewTags options their_past past d turns → Turns d (arrival ∷ refusal unreadable_text ∷ []) turns
          → AreEnds calls (seen ++ events_of turns) options (sending_side e queued past packets) (receiving_side (after_all d turns) (after_effects (effects_of turns) their_past) (reading_through d turns reading))
      two [] new taken = absurd taken
      two (t ∷ []) new taken = absurd taken.1
      two (t ∷ u ∷ []) new taken =
          let a = one_turn d their_past reading arrival t tt tt taken.0 in
          let b = one_turn t.outcome.after their_past reading (refusal unreadable_text) u tt tt taken.1.0 in
          receivers_act (t ∷ u ∷ []) seen d their_past reading h (a.0, (b.0, tt)) (a.2, (b.2, tt)) (a.1, (b.1, tt)) new
      two (t ∷ u ∷ v ∷ turns) new taken = absurd taken.1.1
  receivers_handle seen d their_past reading emission bytes turns h has go is new (readable packet counted ts is_packet counting admitted) =
      let a = one_turn d their_past reading arrival counted tt tt counting in
      let first = receivers_act (counted ∷ []) seen d their_past reading h (a.0, tt) (a.2, tt) (a.1, tt) (new.0, new.1, new.2, new.3, tt) in
      let core : counted.outcome.after.core ≡ d.core = ap (λ (x : Outcome). x.after.core) counting.comes in
      let same : AdmittedTurns counted.outcome.after emission.packet (admits counted.outcome.after.core emission.packet) ts =
      subst (λ (c : Core). AdmittedTurns counted.outcome.after emission.packet (admits c emission.packet) ts) (sym core)
      (subst (λ (p : Packet). AdmittedTurns counted.outcome.after p (admits d.core p) ts) (is packet is_packet) admitted) in
      let more : List (Event Emission) = seen ++ counted.outcome.events in
      let alone : seen ++ events_of (counted ∷ []) ≡ more = ap (λ (events : List (Event Emission)). seen ++ events) (append-nil counted.outcome.events) in
      subst (λ (l : List Effect). AreEnds calls (seen ++ events_of (counted ∷ ts)) options (sending_side e queued past packets) (receiving_side (after_all counted.outcome.after ts) l (reading_through counted.outcome.after ts (reading_after d counted.input counted.outcome reading))))
      (sym (after_effects-append counted.outcome.effects (effects_of ts) their_past))
      (subst (λ (l : List (Event Emission)). AreEnds calls l options (sending_side e queued past packets) (receiving_side (after_all counted.outcome.after ts) (after_effects (effects_of ts) (after_effects counted.outcome.effects their_past)) (reading_through counted.outcome.after ts (reading_after d counted.input counted.outcome reading))))
      (append_assoc seen counted.outcome.events (events_of ts))
      (packet_goes calls options e queued past packets few little emission has more counted.outcome.after (after_effects counted.outcome.effects their_past) (reading_after d counted.input counted.outcome reading) ts
      (subst (λ (l : List Effect). AreEnds calls more options (sending_side e queued past packets) (receiving_side counted.outcome.after (after_effects l their_past) (reading_after d counted.input counted.outcome reading))) (append-nil counted.outcome.effects)
      (subst (λ (l : List (Event Emission)). AreEnds calls l options (sending_side e queued past packets) (receiving_side counted.outcome.after (after_effects (counted.outcome.effects ++ []) their_past) (reading_after d counted.input counted.outcome reading))) alone first)) new.4 go
      (admits counted.outcome.after.core emission.packet) refl same))
