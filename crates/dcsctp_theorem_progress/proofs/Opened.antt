-- An Established socket that is handed data, acknowledgements and reports: the association stays, OnConnected isn't told, and what it
-- sends is taken by the peer.
use Rattle.std.proofs.Common.{◌≡◌, ℕ, Bool, true, false, ◌&&◌, Option, None, Some, List, [], ◌∷◌, ◌++◌, take, refl, sym, ap, subst, ◌∙◌}
use Rattle.dcsctp_spec_lemmas.specs.wire.Content.{SackContent, data_chunk, init_chunk, init_ack_chunk, sack_chunk, heartbeat_chunk, heartbeat_ack_chunk, abort_chunk, shutdown_chunk, shutdown_ack_chunk, error_chunk, cookie_echo_chunk, cookie_ack_chunk, shutdown_complete_chunk, i_data_chunk, re_config_chunk, forward_tsn_chunk, i_forward_tsn_chunk, unknown_chunk}
use Rattle.dcsctp_spec_lemmas.specs.wire.Texts.{causes_text}
use Rattle.dcsctp_spec_lemmas.specs.types.declared.association.Held.{Held}
use Rattle.dcsctp_spec_lemmas.specs.types.declared.association.Pair.{Pair}
use Rattle.dcsctp_spec_lemmas.specs.types.declared.ends.Violation.{Violation}
use Rattle.dcsctp_spec_lemmas.specs.types.declared.kinds.ErrorKind.TheVariants.{PeerReported}
use Rattle.dcsctp_spec_lemmas.specs.spec.Packet.{Plain, plain, Content, init, init_ack, cookie_echo, cookie_ack, re_config, abort, shutdown, shutdown_ack, shutdown_complete, unknown, heartbeat, heartbeat_ack, unworked}
use Rattle.dcsctp_spec_lemmas.specs.spec.association.Choices.{plain_contents}
use Rattle.dcsctp_spec_lemmas.specs.spec.endpoint.Cause.{Cause, has_stale_cookie}
use Rattle.dcsctp_spec_lemmas.specs.spec.endpoint.DataOutcomes.{with_transfer, SendsLost, FastRetransmits, sack_taken, TakesSackAndFlushes, HandlesSackIfValid, HandlesSackIfConnected, SackTurn, acknowledging, shows_peer, AnswersPacketIfDue, AcknowledgesPacket}
use Rattle.dcsctp_spec_lemmas.specs.spec.endpoint.Endpoint.{Endpoint, Core, established, held_by_core}
use Rattle.dcsctp_spec_lemmas.specs.spec.endpoint.FlushOutcomes.{draft_to, flush_of, room_of_draft, own_sack}
use Rattle.dcsctp_spec_lemmas.specs.spec.endpoint.HeartbeatOutcomes.{first_heartbeat_info, counter_of}
use Rattle.dcsctp_spec_lemmas.specs.spec.endpoint.Outcome.{Outcome, still, reports}
use Rattle.dcsctp_spec_lemmas.specs.spec.endpoint.PlainOutcomes.{violation_by_core, violation_of_capabilities, echoed_error_outcome, data_violation, i_data_violation, forward_tsn_violation, i_forward_tsn_violation, PlainTurn, PlainTurnUnlessViolating, error_outcome}
use Rattle.dcsctp_spec_lemmas.specs.spec.endpoint.ShutdownOutcomes.{step_outcome, step_if_acknowledged, may_continue_shutdown}
use Rattle.dcsctp_spec_lemmas.specs.spec.endpoint.Turn.{ContentTurn, HandlesContent}
use Rattle.dcsctp_spec_lemmas.specs.spec.queues.Acknowledging.{ends_delivery, lifecycle_events_of, delivered_events}
use Rattle.dcsctp_spec_lemmas.specs.spec.queues.Arrivals.{data_arrival, i_data_arrival, named_skips, skipped_messages}
use Rattle.dcsctp_spec_lemmas.specs.spec.queues.Items.{Item}
use Rattle.dcsctp_spec_lemmas.specs.spec.queues.Outstanding.{acknowledged_count}
use Rattle.dcsctp_spec_lemmas.specs.spec.queues.Retransmission.{has_fast_retransmit}
use Rattle.dcsctp_spec_lemmas.specs.spec.queues.Tracker.{TrackerState, after_packet_end, is_acknowledgement_due, tracker_after_sack}
use Rattle.dcsctp_spec_lemmas.specs.spec.queues.Transfer.{Transfer, EndpointQueues}
use Rattle.dcsctp_spec_lemmas.proofs.EarlyLemmas.{content_by}
use Rattle.dcsctp_spec_runs.specs.Fitting.{Sendable}
use Rattle.dcsctp_spec_runs.proofs.KindLemmas.{chunks_are_data, IsData}
use Rattle.std.specs.List.{AllByRecursion}
use Rattle.dcsctp_delivery_directions.specs.sending.Losing.{AreOpen}
use Rattle.dcsctp_delivery_directions.proofs.sending.Packets.{out_below}
use Rattle.dcsctp_spec_lemmas.proofs.FlushKeeps.{goes_out_keeps}
use Rattle.dcsctp_theorem_progress.proofs.FlightKinds.{SameKind, at_once_kind, taken_kind}
use Rattle.dcsctp_theorem_progress.proofs.Carried.{IsAllowed, IsCarried, data_carried, sack_carried}
use Rattle.dcsctp_theorem_progress.proofs.Constant.{SameClock, out_same, same_trying, trying_then, errors_begin}
use Rattle.dcsctp_theorem_progress.proofs.Flows.{HasPeer, is_open, is_echoing, Flows, TellsCarried, tells_both, out_tells}
use Rattle.dcsctp_theorem_progress.proofs.Flushes.{Stays, out_asked, flush_stays}
use Rattle.dcsctp_theorem_progress.proofs.Received.{still_stays, nothing_told, moved_stays, flows_with, payload_stays, forward_stays, heartbeat_stays, answer_stays}

-- ---- what acknowledges it

name_tells : (held : Held) (name : Option ℕ) (ends : Bool) → TellsCarried held (lifecycle_events_of name ends)
name_tells held None ends = nothing_told held
name_tells held (Some id) true = record { told = λ n. refl; sent = tt }
name_tells held (Some id) false = nothing_told held

delivered_tells : (held : Held) (items : List Item) → TellsCarried held (delivered_events items)
delivered_tells held [] = nothing_told held
delivered_tells held (item ∷ items) =
    tells_both held (lifecycle_events_of item.fragment.lifecycle (ends_delivery item)) (delivered_events items) (name_tells held item.fragment.lifecycle (ends_delivery item)) (delivered_tells held items)

-- A packet of lost data.
lost_stays : (held : Held) (e : Endpoint) (f : Flows held e) (o : Outcome) → SendsLost e held f.kind.transfer o → Stays held e o
lost_stays held e f o turn =
    let left : Transfer = record f.kind.transfer { retransmission = turn.left } in
    let base : Endpoint = with_transfer e left in
    let contents : List Content = plain_contents turn.chunks in
    let same : SameKind f.kind.transfer.retransmission turn.left = at_once_kind e.moment _ e.queues.queue f.kind.transfer.retransmission turn.left turn.tsns turn.sends in
    let interleaves = same.0 ∙ f.kind.interleaves in
    let keeps = goes_out_keeps base [] (draft_to held).with_checksum held.peer.tag contents in
    let below = out_below base [] (draft_to held).with_checksum held.peer.tag contents in
    let same_clock : SameClock base _ = out_same base [] (draft_to held).with_checksum held.peer.tag contents in
    subst (Stays held e) (sym turn.is)
    (record {
      core = keeps.core;
      options = keeps.options;
      asked = out_asked base [] (draft_to held).with_checksum held.peer.tag contents;
      flows = record {
        kind = record { peer = ap held_by_core keeps.core ∙ f.kind.peer; transfer = left; known = ap (λ (q : EndpointQueues). q.transfer) below; interleaves = interleaves; abandons = same.1 ∙ f.kind.abandons };
        unpaused = subst (λ (q : EndpointQueues). AreOpen q.queue.streams) (sym below) f.unpaused;
      };
      tells = out_tells held base [] (draft_to held).with_checksum held.peer.tag contents refl refl
          (data_carried held.capabilities.message_interleaving held.capabilities.partial_reliability turn.chunks
          (subst (λ (b : Bool). AllByRecursion (IsData b) turn.chunks) interleaves (chunks_are_data turn.left.outstanding turn.tsns turn.chunks turn.are)) turn.fit);
      following = keeps.following;
      trying = same_trying _ _ same_clock.moment keeps.t1 same_clock.errors;
    })

fast_stays : (b : Bool) (held : Held) (e : Endpoint) (f : Flows held e) (o : Outcome) → FastRetransmits b e held f.kind.transfer o → Stays held e o
fast_stays true held e f o turn = lost_stays held e f o turn
fast_stays false held e f o turn = subst (Stays held e) (sym turn) (still_stays held e f)

-- No shutdown is under way.
step_still : (b : Bool) (e : Endpoint) (my : Pair) (held : Held) → step_if_acknowledged b e established my held ≡ still e
step_still true e my held = refl
step_still false e my held = refl

step_rests : (base : Endpoint) (my : Pair) (held : Held) (core : Core) → HasPeer my held core → step_outcome base core ≡ still base
step_rests base my held core (is_open is) = ap (step_outcome base) is ∙ step_still (may_continue_shutdown base) base my held
step_rests base my held core (is_echoing bytes is) = ap (step_outcome base) is

taken_stays : (held : Held) (my : Pair) (e : Endpoint) (f : Flows held e) (sack : SackContent) (o : Outcome) → HasPeer my held e.core → TakesSackAndFlushes e held f.kind.transfer sack o → Stays held e o
taken_stays held my e f sack o opened turn =
    let base : Endpoint = sack_taken e f.kind.transfer turn.left in
    let stepped : turn.stepped ≡ still base = turn.steps ∙ step_rests base my held e.core opened in
    let same : SameKind f.kind.transfer.retransmission turn.left.retransmission = taken_kind e.moment sack f.kind.transfer turn.left turn.takes in
    let flows : Flows held base = record {
      kind = record { peer = f.kind.peer; transfer = turn.left; known = refl; interleaves = same.0 ∙ f.kind.interleaves; abandons = same.1 ∙ f.kind.abandons };
      unpaused = f.unpaused;
    } in
    let fast : Stays held base turn.fast =
    fast_stays (has_fast_retransmit turn.left.retransmission) held base flows turn.fast
    (subst (λ (s : Outcome). FastRetransmits (has_fast_retransmit turn.left.retransmission) s.after held turn.left turn.fast) stepped turn.resends) in
    let last : Stays held turn.fast.after (flush_of turn.fast.after (draft_to held) turn.answers) =
    flush_stays held turn.fast.after (draft_to held) turn.answers fast.flows (record { checked = refl; header = refl; contents = tt }) turn.allowed in
    let acknowledged : List Item = take (acknowledged_count f.kind.transfer.retransmission.outstanding sack.cumulative_tsn_ack) f.kind.transfer.retransmission.outstanding.items in
    let before : TellsCarried held (turn.stepped.events ++ turn.fast.events) =
    tells_both held turn.stepped.events turn.fast.events (subst (λ (s : Outcome). TellsCarried held s.events) (sym stepped) (nothing_told held)) fast.tells in
    subst (Stays held e) (sym turn.is)
    (record {
      core = last.core ∙ fast.core;
      options = last.options ∙ fast.options;
      asked = last.asked ∙ fast.asked;
      flows = last.flows;
      tells = tells_both held (delivered_events acknowledged ++ (turn.stepped.events ++ turn.fast.events)) _
          (tells_both held (delivered_events acknowledged) (turn.stepped.events ++ turn.fast.events) (delivered_tells held acknowledged) before) last.tells;
      following = last.following;
      trying = trying_then e base _
          (record { moment = refl; t1 = refl; errors = λ limit none. errors_begin (shows_peer e.options f.kind.transfer turn.left) limit e.error_count none })
          (trying_then base turn.fast.after _ fast.trying last.trying);
    })

sack_where : (b : Bool) (held : Held) (my : Pair) (e : Endpoint) (f : Flows held e) (sack : SackContent) (o : Outcome) → HasPeer my held e.core → HandlesSackIfValid b e held f.kind.transfer sack o → Stays held e o
sack_where true held my e f sack o opened turn = taken_stays held my e f sack o opened turn
sack_where false held my e f sack o opened turn = subst (Stays held e) (sym turn) (still_stays held e f)

sack_stays : (held : Held) (my : Pair) (e : Endpoint) (f : Flows held e) (sack : SackContent) (o : Outcome) → HasPeer my held e.core → SackTurn e e.queues.transfer sack o → Stays held e o
sack_stays held my e f sack o opened turn =
    let here : HandlesSackIfConnected e (held_by_core e.core) f.kind.transfer sack o = subst (λ (t : Option Transfer). SackTurn e t sack o) f.kind.known turn in
    sack_where _ held my e f sack o opened (subst (λ (peer : Option Held). HandlesSackIfConnected e peer f.kind.transfer sack o) f.kind.peer here)

-- ---- each chunk

told_stays : (held : Held) (e : Endpoint) (f : Flows held e) (causes : List Cause) → Stays held e (reports e PeerReported (causes_text causes))
told_stays held e f causes =
    record { core = refl; options = refl; asked = refl; flows = f; tells = record { told = λ n. refl; sent = tt }; following = refl; trying = same_trying _ _ refl refl refl }

error_stays : (held : Held) (my : Pair) (e : Endpoint) (f : Flows held e) (causes : List Cause) → HasPeer my held e.core → has_stale_cookie causes ≡ false → Stays held e (error_outcome e e.core causes)
error_stays held my e f causes (is_open opened) young =
    subst (λ (core : Core). Stays held e (error_outcome e core causes)) (sym opened) (told_stays held e f causes)
error_stays held my e f causes (is_echoing bytes echoed) young =
    subst (λ (core : Core). Stays held e (error_outcome e core causes)) (sym echoed)
    (subst (λ (b : Bool). Stays held e (echoed_error_outcome (b && e.options.follow_rfc) e causes)) (sym young) (told_stays held e f causes))

-- what violates nothing
violation_is : (my : Pair) (held : Held) (core : Core) (chunk : Plain) → HasPeer my held core → violation_by_core core chunk ≡ violation_of_capabilities held.capabilities chunk
violation_is my held core chunk (is_open is) = ap (λ (c : Core). violation_by_core c chunk) is
violation_is my held core chunk (is_echoing bytes is) = ap (λ (c : Core). violation_by_core c chunk) is

kept : (e : Endpoint) (my : Pair) (held : Held) (chunk : Plain) (o : Outcome) → HasPeer my held e.core → violation_of_capabilities held.capabilities chunk ≡ None → PlainTurn e chunk o
    → PlainTurnUnlessViolating e chunk None o
kept e my held chunk o opened none turn =
    subst (λ (violation : Option Violation). PlainTurnUnlessViolating e chunk violation o) (violation_is my held e.core chunk opened ∙ none) turn

plain_stays : (held : Held) (my : Pair) (e : Endpoint) (f : Flows held e) (chunk : Plain) (o : Outcome) → HasPeer my held e.core → Sendable (plain chunk)
    → IsAllowed held.capabilities.message_interleaving held.capabilities.partial_reliability chunk → PlainTurn e chunk o → Stays held e o
plain_stays held my e f (unworked (data_chunk chunk)) o opened good may turn =
    payload_stays held e f (data_arrival chunk) (data_arrival chunk).chunk.payload o good.fits.tsn (kept e my held (unworked (data_chunk chunk)) o opened (ap data_violation may) turn)
plain_stays held my e f (unworked (i_data_chunk chunk)) o opened good may turn =
    payload_stays held e f (i_data_arrival chunk) (i_data_arrival chunk).chunk.payload o good.fits.tsn (kept e my held (unworked (i_data_chunk chunk)) o opened (ap i_data_violation may) turn)
plain_stays held my e f (unworked (sack_chunk chunk)) o opened good may turn =
    sack_stays held my e f chunk o opened (kept e my held (unworked (sack_chunk chunk)) o opened refl turn)
plain_stays held my e f (unworked (error_chunk causes)) o opened good may turn =
    subst (Stays held e) (sym (kept e my held (unworked (error_chunk causes)) o opened refl turn)) (error_stays held my e f causes opened may)
plain_stays held my e f (unworked (forward_tsn_chunk tsn streams)) o opened good may turn =
    forward_stays held e f tsn (named_skips streams) o
    (kept e my held (unworked (forward_tsn_chunk tsn streams)) o opened
    (ap (λ (m : Bool). forward_tsn_violation m held.capabilities.partial_reliability) may.0 ∙ ap (forward_tsn_violation false) may.1) turn)
plain_stays held my e f (unworked (i_forward_tsn_chunk tsn streams)) o opened good may turn =
    forward_stays held e f tsn (skipped_messages streams) o
    (kept e my held (unworked (i_forward_tsn_chunk tsn streams)) o opened
    (ap (λ (m : Bool). i_forward_tsn_violation m held.capabilities.partial_reliability) may.0 ∙ ap (i_forward_tsn_violation true) may.1) turn)
plain_stays held my e f (unworked (init_chunk c)) o opened good may turn = absurd may
plain_stays held my e f (unworked (init_ack_chunk c)) o opened good may turn = absurd may
plain_stays held my e f (unworked (heartbeat_chunk c)) o opened good may turn = absurd may
plain_stays held my e f (unworked (heartbeat_ack_chunk c)) o opened good may turn = absurd may
plain_stays held my e f (unworked (abort_chunk t c)) o opened good may turn = absurd may
plain_stays held my e f (unworked (shutdown_chunk c)) o opened good may turn = absurd may
plain_stays held my e f (unworked shutdown_ack_chunk) o opened good may turn = absurd may
plain_stays held my e f (unworked (cookie_echo_chunk c)) o opened good may turn = absurd may
plain_stays held my e f (unworked cookie_ack_chunk) o opened good may turn = absurd may
plain_stays held my e f (unworked (shutdown_complete_chunk c)) o opened good may turn = absurd may
plain_stays held my e f (unworked (re_config_chunk c)) o opened good may turn = absurd may
plain_stays held my e f (unworked (unknown_chunk t g v)) o opened good may turn = absurd may
plain_stays held my e f (unknown t g v) o opened good may turn = absurd may
plain_stays held my e f (heartbeat c) o opened good may turn =
    subst (Stays held e) (sym (kept e my held (heartbeat c) o opened refl turn)) (heartbeat_stays held my e f c opened good)
plain_stays held my e f (heartbeat_ack c) o opened good may turn =
    subst (Stays held e) (sym (kept e my held (heartbeat_ack c) o opened refl turn)) (answer_stays held e f (counter_of (first_heartbeat_info c)))

content_stays : (held : Held) (my : Pair) (e : Endpoint) (tag : ℕ) (f : Flows held e) (content : Content) (o : Outcome) → HasPeer my held e.core
    → IsCarried held.capabilities.message_interleaving held.capabilities.partial_reliability content → HandlesContent e tag content o → Stays held e o
content_stays held my e tag f (plain chunk) o opened good turn = plain_stays held my e f chunk o opened good.sendable good.allowed turn
content_stays held my e tag f (init c) o opened good turn = absurd good.allowed
content_stays held my e tag f (init_ack c k) o opened good turn = absurd good.allowed
content_stays held my e tag f (cookie_echo c) o opened good turn = absurd good.allowed
content_stays held my e tag f cookie_ack o opened good turn = absurd good.allowed
content_stays held my e tag f (re_config c) o opened good turn = absurd good.allowed
content_stays held my e tag f (abort t c) o opened good turn = absurd good.allowed
content_stays held my e tag f (shutdown t) o opened good turn = absurd good.allowed
content_stays held my e tag f shutdown_ack o opened good turn = absurd good.allowed
content_stays held my e tag f (shutdown_complete t) o opened good turn = absurd good.allowed

pub carried_stays : (held : Held) (my : Pair) (e : Endpoint) (tag : ℕ) (f : Flows held e) (content : Content) (o : Outcome) → HasPeer my held e.core
    → IsCarried held.capabilities.message_interleaving held.capabilities.partial_reliability content → ContentTurn e tag content o → Stays held e o
carried_stays held my e tag f content o opened good turn =
    content_by e tag content o (λ dropped. subst (Stays held e) (sym dropped) (still_stays held e f)) (λ handled. content_stays held my e tag f content o opened good handled) turn

-- ---- the end of a packet

end_where : (b : Bool) (held : Held) (e : Endpoint) (f : Flows held e) (tracker : TrackerState) (o : Outcome) → AnswersPacketIfDue b e (Some held) f.kind.transfer tracker o → Stays held e o
end_where true held e f tracker o turn =
    let room : ℕ = room_of_draft e (draft_to held) in
    let left : Transfer = record f.kind.transfer { tracker = tracker_after_sack tracker } in
    let last : Stays held (with_transfer e left) _ =
    flush_stays held (with_transfer e left) (acknowledging e held (own_sack room (record f.kind.transfer { tracker = tracker }))) turn.answers (flows_with held e f left (refl, refl))
    (record {
      checked = refl;
      header = refl;
      contents = sack_carried held.capabilities.message_interleaving held.capabilities.partial_reliability room room (record f.kind.transfer { tracker = tracker });
    }) turn.allowed in
    subst (Stays held e) (sym turn.is) (record { core = last.core; options = last.options; asked = last.asked; flows = last.flows; tells = last.tells; following = last.following; trying = trying_then e _ _ (same_trying _ (with_transfer e left) refl refl refl) last.trying })
end_where false held e f tracker o turn = subst (Stays held e) (sym turn) (moved_stays held e f (record f.kind.transfer { tracker = tracker }) (refl, refl))

pub end_stays : (held : Held) (e : Endpoint) (f : Flows held e) (o : Outcome) → AcknowledgesPacket e e.queues.transfer o → Stays held e o
end_stays held e f o turn =
    let tracker : TrackerState = after_packet_end e.moment f.kind.transfer.tracker in
    let here : AnswersPacketIfDue (is_acknowledgement_due tracker) e (held_by_core e.core) f.kind.transfer tracker o = subst (λ (t : Option Transfer). AcknowledgesPacket e t o) f.kind.known turn in
    end_where (is_acknowledgement_due tracker) held e f tracker o
    (subst (λ (peer : Option Held). AnswersPacketIfDue (is_acknowledgement_due tracker) e peer f.kind.transfer tracker o) f.kind.peer here)
