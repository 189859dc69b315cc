-- The messages that an association leaves stay in every turn until they are taken or the next one begins.
use Rattle.std.proofs.Common.{◌≡◌, ◌==◌, ℕ, Bool, true, false, Option, None, Some, List, inl, inr, refl, sym, subst}
use Rattle.std.specs.Prelude.{if◌then◌else◌}
use Rattle.std.specs.Option.{option_map}
use Rattle.dcsctp_spec_lemmas.specs.wire.Content.{ParameterContent, data_chunk, init_chunk, init_ack_chunk, sack_chunk, heartbeat_chunk, heartbeat_ack_chunk, abort_chunk, shutdown_chunk, shutdown_ack_chunk, error_chunk, cookie_echo_chunk, cookie_ack_chunk, shutdown_complete_chunk, i_data_chunk, re_config_chunk, forward_tsn_chunk, i_forward_tsn_chunk, unknown_chunk}
use Rattle.dcsctp_spec_lemmas.specs.types.Snapshot.{Snapshot}
use Rattle.dcsctp_spec_lemmas.specs.types.declared.ends.AbortReason.TheVariants as reasons
use Rattle.dcsctp_spec_lemmas.specs.types.declared.ends.Violation.{Violation}
use Rattle.dcsctp_spec_lemmas.specs.spec.Packet.{Content, init, init_ack, cookie_echo, cookie_ack, re_config, abort, shutdown, shutdown_ack, shutdown_complete, plain, Plain, unknown, heartbeat, heartbeat_ack, unworked}
use Rattle.dcsctp_spec_lemmas.specs.spec.endpoint.Cause.{Cause}
use Rattle.dcsctp_spec_lemmas.specs.spec.endpoint.Endpoint.{Endpoint, Core, closed, cookie_wait, cookie_echoed, open_in, established, shutdown_pending, shutdown_sent, shutdown_received, shutdown_ack_sent}
use Rattle.dcsctp_spec_lemmas.specs.spec.endpoint.Outcome.{Outcome, still, to_peer}
use Rattle.dcsctp_spec_lemmas.specs.spec.endpoint.HeartbeatOutcomes.{heartbeat_outcome, heartbeat_ack_outcome, endpoint_answered, heartbeat_round_trip, first_heartbeat_info, counter_of}
use Rattle.dcsctp_spec_lemmas.specs.spec.endpoint.PlainOutcomes.{PlainTurnUnlessViolating, violation_by_core, is_reported, after_unknown, unknown_bytes, unknown_chunk_outcome, error_outcome}
use Rattle.dcsctp_spec_lemmas.specs.spec.endpoint.RestoreOutcomes.{RestoreTurn}
use Rattle.dcsctp_spec_lemmas.specs.spec.endpoint.Turn.{Input, Turn, arrival, refusal, packet_begins, chunk_input, packet_ends, act_input, user_sets, user_sends, user_resets, user_takes, timer_expires, time_passes, restores, has_data_chunk, BeginTurn, ContentTurn}
use Rattle.dcsctp_spec_lemmas.specs.spec.queues.Arrivals.{data_arrival, i_data_arrival, named_skips, skipped_messages}
use Rattle.dcsctp_spec_laws.specs.LeftLaws.{IsOwnInput, MessagesLeftStay}
use Rattle.dcsctp_spec_lemmas.specs.spec.endpoint.TransferMoves.{timed_transfer}
use Rattle.dcsctp_spec_lemmas.specs.spec.queues.Transfer.{Transfer}
use Rattle.dcsctp_spec_laws.proofs.LeftLemmas.{is_there, StaysIn, LeavesIn, unmoved, answer_stays, left_where}
use Rattle.dcsctp_spec_lemmas.proofs.AbortLemmas.{by_error_outcome}
use Rattle.dcsctp_spec_laws.proofs.LeftActs.{aborting_leaves, act_leaves, timer_stays}
use Rattle.dcsctp_spec_laws.proofs.LeftChunks.{init_leaves, init_ack_leaves, cookie_echo_leaves, cookie_ack_leaves, reset_leaves, abort_leaves, shutdown_ack_leaves, shutdown_complete_leaves}
use Rattle.dcsctp_spec_laws.proofs.LeftData.{data_stays, forward_stays, sack_stays, shutdown_stays, end_stays, send_stays, own_resets_stay, take_leaves}
use Rattle.dcsctp_spec_lemmas.proofs.EarlyLemmas.{content_by}

-- ---- chunks that don't concern the association

told_stays : (e : Endpoint) (core : Core) (type : ℕ) (chunk : List ℕ) → StaysIn e (unknown_chunk_outcome e core type chunk)
told_stays e closed type chunk = unmoved e
told_stays e (cookie_wait my) type chunk = unmoved e
told_stays e (cookie_echoed my held cookie) type chunk = record { left = refl; there = refl; last = refl }
told_stays e (open_in phase my held) type chunk = record { left = refl; there = refl; last = refl }

unknown_where : (reported : Bool) (e : Endpoint) (core : Core) (type : ℕ) (chunk : List ℕ)
    → StaysIn e (record (if reported then unknown_chunk_outcome e core type chunk else still e) { following = after_unknown type })
unknown_where true e core type chunk = told_stays e core type chunk
unknown_where false e core type chunk = unmoved e

heartbeat_stays : (e : Endpoint) (core : Core) (parameters : List ParameterContent) → StaysIn e (heartbeat_outcome e core parameters)
heartbeat_stays e closed parameters = unmoved e
heartbeat_stays e (cookie_wait my) parameters = unmoved e
heartbeat_stays e (cookie_echoed my held cookie) parameters = answer_stays e (to_peer held (plain (heartbeat_ack parameters)))
heartbeat_stays e (open_in phase my held) parameters = answer_stays e (to_peer held (plain (heartbeat_ack parameters)))

timed_there : (change : Transfer → Transfer) (transfer : Option Transfer) → is_there (option_map change transfer) ≡ is_there transfer
timed_there change None = refl
timed_there change (Some transfer) = refl

ack_where : (b : Bool) (e : Endpoint) → StaysIn e (if b then still (endpoint_answered e) else still e)
ack_where true e = record { left = refl; there = timed_there (timed_transfer (heartbeat_round_trip e)) e.queues.transfer; last = refl }
ack_where false e = unmoved e

heartbeat_ack_stays : (e : Endpoint) (counter : Option ℕ) → StaysIn e (heartbeat_ack_outcome e counter)
heartbeat_ack_stays e None = unmoved e
heartbeat_ack_stays e (Some counter) = ack_where (counter == e.heartbeat_counter) e

error_leaves : (e : Endpoint) (core : Core) (causes : List Cause) → LeavesIn e (error_outcome e core causes)
error_leaves e core causes =
    by_error_outcome (LeavesIn e) e core causes (inr (inr (record { left = refl; none = refl; last = refl }))) (inl (unmoved e)) (inl (unmoved e))

rests : (e : Endpoint) (o : Outcome) → o ≡ still e → LeavesIn e o
rests e o turn = subst (LeavesIn e) (sym turn) (inl (unmoved e))

plain_by : (e : Endpoint) (chunk : Plain) (violation : Option Violation) (o : Outcome) → PlainTurnUnlessViolating e chunk violation o → LeavesIn e o
plain_by e chunk (Some violation) o turn = subst (LeavesIn e) (sym turn) (aborting_leaves e e.core (reasons.Violation violation))
plain_by e (unknown type flags value) None o turn = subst (LeavesIn e) (sym turn) (inl (unknown_where (is_reported type) e e.core type (unknown_bytes type flags value)))
plain_by e (heartbeat parameters) None o turn = subst (LeavesIn e) (sym turn) (inl (heartbeat_stays e e.core parameters))
plain_by e (heartbeat_ack parameters) None o turn = subst (LeavesIn e) (sym turn) (inl (heartbeat_ack_stays e (counter_of (first_heartbeat_info parameters))))
plain_by e (unworked (data_chunk chunk)) None o turn = inl (data_stays e (data_arrival chunk) o turn)
plain_by e (unworked (i_data_chunk chunk)) None o turn = inl (data_stays e (i_data_arrival chunk) o turn)
plain_by e (unworked (sack_chunk chunk)) None o turn = inl (sack_stays e chunk o turn)
plain_by e (unworked (forward_tsn_chunk tsn streams)) None o turn = inl (forward_stays e tsn (named_skips streams) o turn)
plain_by e (unworked (i_forward_tsn_chunk tsn streams)) None o turn = inl (forward_stays e tsn (skipped_messages streams) o turn)
plain_by e (unworked (error_chunk causes)) None o turn = subst (LeavesIn e) (sym turn) (error_leaves e e.core causes)
plain_by e (unworked (init_chunk chunk)) None o turn = rests e o turn
plain_by e (unworked (init_ack_chunk chunk)) None o turn = rests e o turn
plain_by e (unworked (heartbeat_chunk parameters)) None o turn = rests e o turn
plain_by e (unworked (heartbeat_ack_chunk parameters)) None o turn = rests e o turn
plain_by e (unworked (abort_chunk reflected causes)) None o turn = rests e o turn
plain_by e (unworked (shutdown_chunk tsn)) None o turn = rests e o turn
plain_by e (unworked shutdown_ack_chunk) None o turn = rests e o turn
plain_by e (unworked (cookie_echo_chunk cookie)) None o turn = rests e o turn
plain_by e (unworked cookie_ack_chunk) None o turn = rests e o turn
plain_by e (unworked (shutdown_complete_chunk reflected)) None o turn = rests e o turn
plain_by e (unworked (re_config_chunk parameters)) None o turn = rests e o turn
plain_by e (unworked (unknown_chunk type flags value)) None o turn = rests e o turn

content_leaves : (e : Endpoint) (tag : ℕ) (content : Content) (o : Outcome) → ContentTurn e tag content o → LeavesIn e o
content_leaves e tag (init theirs) o turn = init_leaves e theirs o turn
content_leaves e tag (init_ack theirs cookie) o turn = init_ack_leaves e theirs cookie o turn
content_leaves e tag (cookie_echo cookie) o turn = cookie_echo_leaves e tag cookie o turn
content_leaves e tag cookie_ack o turn = cookie_ack_leaves e o turn
content_leaves e tag (re_config parameters) o turn = content_by e tag (re_config parameters) o (λ dropped. rests e o dropped) (λ handled. reset_leaves e parameters o handled) turn
content_leaves e tag (abort reflected causes) o turn = subst (LeavesIn e) (sym turn) (abort_leaves e causes e.core)
content_leaves e tag (shutdown tsn) o turn = inl (shutdown_stays e tsn o turn)
content_leaves e tag shutdown_ack o turn = subst (LeavesIn e) (sym turn) (shutdown_ack_leaves e e.core tag)
content_leaves e tag (shutdown_complete reflected) o turn = subst (LeavesIn e) (sym turn) (shutdown_complete_leaves e e.core)
content_leaves e tag (plain chunk) o turn = content_by e tag (plain chunk) o (λ dropped. rests e o dropped) (λ handled. plain_by e chunk (violation_by_core e.core chunk) o handled) turn

-- ---- every turn

begin_stays : (e : Endpoint) (core : Core) (has : Bool) (o : Outcome) → BeginTurn e core has o → StaysIn e o
begin_stays e closed has o turn = subst (StaysIn e) (sym turn) (unmoved e)
begin_stays e (cookie_wait my) has o turn = subst (StaysIn e) (sym turn) (unmoved e)
begin_stays e (cookie_echoed my held cookie) has o turn = subst (StaysIn e) (sym turn) (unmoved e)
begin_stays e (open_in established my held) has o turn = subst (StaysIn e) (sym turn) (unmoved e)
begin_stays e (open_in shutdown_pending my held) has o turn = subst (StaysIn e) (sym turn) (unmoved e)
begin_stays e (open_in shutdown_sent my held) true o turn = subst (StaysIn e) (sym turn) (record { left = refl; there = refl; last = refl })
begin_stays e (open_in shutdown_sent my held) false o turn = subst (StaysIn e) (sym turn) (unmoved e)
begin_stays e (open_in shutdown_received my held) has o turn = subst (StaysIn e) (sym turn) (unmoved e)
begin_stays e (open_in shutdown_ack_sent my held) has o turn = subst (StaysIn e) (sym turn) (unmoved e)

restore_leaves : (e : Endpoint) (core : Core) (state : Snapshot) (o : Outcome) → RestoreTurn e core state o → LeavesIn e o
restore_leaves e closed state o turn = subst (LeavesIn e) (sym turn.2) (inr (inl (record { left = refl; there = refl; last = refl })))
restore_leaves e (cookie_wait my) state o turn = rests e o turn
restore_leaves e (cookie_echoed my held cookie) state o turn = rests e o turn
restore_leaves e (open_in phase my held) state o turn = rests e o turn

-- Does the user take a message?
abbrev pub takes : Input → Bool
takes user_takes = true
takes input = false

-- every turn but that
pub turn_leaves : (e : Endpoint) (input : Input) (o : Outcome) → takes input ≡ false → IsOwnInput input → Turn e input o → LeavesIn e o
turn_leaves e arrival o other own turn = subst (LeavesIn e) (sym turn) (inl (record { left = refl; there = refl; last = refl }))
turn_leaves e (refusal text) o other own turn = subst (LeavesIn e) (sym turn) (inl (unmoved e))
turn_leaves e (packet_begins contents) o other own turn = inl (begin_stays e e.core (has_data_chunk e.options.follow_rfc contents) o turn)
turn_leaves e (chunk_input tag content) o other own turn = content_leaves e tag content o turn
turn_leaves e packet_ends o other own turn = inl (end_stays e o turn)
turn_leaves e (act_input act) o other own turn = act_leaves e act o own turn
turn_leaves e (user_sets setting) o other own turn = subst (LeavesIn e) (sym turn) (inl (record { left = refl; there = refl; last = refl }))
turn_leaves e (user_sends messages) o other own turn = inl (send_stays e messages o turn)
turn_leaves e (user_resets ids) o other own turn = inl (own_resets_stay e ids o turn)
turn_leaves e user_takes o other own turn = absurd (cc)
turn_leaves e (timer_expires timer) o other own turn = inl (timer_stays e timer o turn)
turn_leaves e (time_passes moment) o other own turn = subst (LeavesIn e) (sym turn) (inl (record { left = refl; there = refl; last = refl }))
turn_leaves e (restores state) o other own turn = restore_leaves e e.core state o turn

pub messages_left_stay : MessagesLeftStay
messages_left_stay e arrival o own turn = left_where e arrival o refl (turn_leaves e arrival o refl own turn)
messages_left_stay e (refusal text) o own turn = left_where e (refusal text) o refl (turn_leaves e (refusal text) o refl own turn)
messages_left_stay e (packet_begins contents) o own turn = left_where e (packet_begins contents) o refl (turn_leaves e (packet_begins contents) o refl own turn)
messages_left_stay e (chunk_input tag content) o own turn = left_where e (chunk_input tag content) o refl (turn_leaves e (chunk_input tag content) o refl own turn)
messages_left_stay e packet_ends o own turn = left_where e packet_ends o refl (turn_leaves e packet_ends o refl own turn)
messages_left_stay e (act_input act) o own turn = left_where e (act_input act) o refl (turn_leaves e (act_input act) o refl own turn)
messages_left_stay e (user_sets setting) o own turn = left_where e (user_sets setting) o refl (turn_leaves e (user_sets setting) o refl own turn)
messages_left_stay e (user_sends messages) o own turn = left_where e (user_sends messages) o refl (turn_leaves e (user_sends messages) o refl own turn)
messages_left_stay e (user_resets ids) o own turn = left_where e (user_resets ids) o refl (turn_leaves e (user_resets ids) o refl own turn)
messages_left_stay e user_takes o own turn = take_leaves e o turn
messages_left_stay e (timer_expires timer) o own turn = left_where e (timer_expires timer) o refl (turn_leaves e (timer_expires timer) o refl own turn)
messages_left_stay e (time_passes moment) o own turn = left_where e (time_passes moment) o refl (turn_leaves e (time_passes moment) o refl own turn)
messages_left_stay e (restores state) o own turn = left_where e (restores state) o refl (turn_leaves e (restores state) o refl own turn)
