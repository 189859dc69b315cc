-- The turns of chunks that speak of no association, kind by kind. No other proof of this crate goes by their kinds.
use Rattle.std.proofs.Common.{◌≡◌, ◌==◌, ℕ, Bool, true, false, cond, Option, None, Some, List, [], ◌∷◌, refl, sym, subst}
use Rattle.dcsctp_spec_lemmas.specs.types.declared.association.Pair.{Pair}
use Rattle.dcsctp_spec_lemmas.specs.types.declared.association.Held.{Held}
use Rattle.dcsctp_spec_lemmas.specs.types.declared.ends.Violation.{Violation}
use Rattle.dcsctp_spec_lemmas.specs.types.declared.ends.AbortReason.TheVariants as reasons
use Rattle.dcsctp_spec_lemmas.specs.types.declared.kinds.ErrorKind.TheVariants.{ParseFailed, PeerReported}
use Rattle.dcsctp_spec_lemmas.specs.spec.endpoint.Cause.{Cause, causes_of}
use Rattle.dcsctp_spec_lemmas.specs.spec.endpoint.Event.{Event, error}
use Rattle.dcsctp_spec_lemmas.specs.spec.Packet.{Plain, plain, unknown, heartbeat, heartbeat_ack, unworked, Emission}
use Rattle.dcsctp_spec_lemmas.specs.spec.endpoint.Endpoint.{Endpoint, Core, closed, cookie_wait, cookie_echoed, open_in, OpenPhase, established, shutdown_pending, shutdown_sent, shutdown_received, shutdown_ack_sent}
use Rattle.dcsctp_spec_lemmas.specs.spec.endpoint.Outcome.{Outcome, still, reports, quiet, sends, fits, answering as counted, answers_with as answered_once, to_peer}
use Rattle.dcsctp_spec_lemmas.specs.spec.endpoint.EndOutcomes.{abort_to, aborting_outcome}
use Rattle.dcsctp_spec_lemmas.specs.spec.endpoint.PlainOutcomes.{PlainTurn, PlainTurnUnlessViolating, violation_by_core, is_reported, after_unknown, unknown_text, unknown_bytes, unknown_error, unknown_report, unknown_chunk_outcome, ends_handshake, echoed_error_outcome, error_outcome}
use Rattle.dcsctp_spec_lemmas.specs.spec.association.Effect.{Change, no_change}
use Rattle.dcsctp_spec_lemmas.specs.spec.association.Effect as effects
use Rattle.dcsctp_spec_lemmas.specs.spec.association.Choices.{Choices}
use Rattle.dcsctp_spec_lemmas.specs.spec.association.Acts.{plain_change}
use Rattle.dcsctp_spec_lemmas.specs.spec.endpoint.Following.{next_chunk}
use Rattle.dcsctp_spec_lemmas.specs.spec.endpoint.HeartbeatOutcomes.{heartbeat_outcome, heartbeat_ack_outcome, endpoint_answered, first_heartbeat_info, counter_of, invalid_info_text}
use Rattle.dcsctp_spec_lemmas.specs.wire.Content.{ParameterContent, data_chunk, init_chunk, init_ack_chunk, sack_chunk, heartbeat_chunk, heartbeat_ack_chunk, abort_chunk, shutdown_chunk, shutdown_ack_chunk, error_chunk, cookie_echo_chunk, cookie_ack_chunk, shutdown_complete_chunk, i_data_chunk, re_config_chunk, forward_tsn_chunk, i_forward_tsn_chunk, unknown_chunk}
use Rattle.dcsctp_spec_lemmas.specs.wire.Texts.{causes_text}
use Rattle.dcsctp_spec_lemmas.specs.spec.queues.Arrivals.{data_arrival, i_data_arrival, named_skips, skipped_messages}
use Rattle.dcsctp_spec_laws.proofs.DataLemmas.{flushed_chunk, data_at, forward_at}
use Rattle.dcsctp_spec_laws.proofs.SackLemmas.{stepped_chunk, sack_at}
use Rattle.dcsctp_spec_lemmas.specs.spec.association.Controlled.{observations_of_events, IsControlled, IsControlledChunk}
use Rattle.dcsctp_spec_lemmas.proofs.ControlHandshake.{no_choices, filling_where, still_controlled, ControlledAt}
use Rattle.dcsctp_spec_laws.proofs.ControlEnds.{aborts_where}
use Rattle.dcsctp_spec_lemmas.proofs.OneAnswerLemmas.{answered_by}
use Rattle.dcsctp_spec_lemmas.specs.spec.endpoint.Turn.{ContentTurn}
use Rattle.dcsctp_spec_lemmas.proofs.EarlyLemmas.{content_by}

-- what a chunk chooses where nothing waits and nothing is sent
abbrev nothing_chosen : Endpoint → Choices
nothing_chosen e = record (no_choices e false) { is_acknowledged = false; filling = filling_where false }

-- ---- one that changes nothing

rests_at : (e : Endpoint) (core : Core) (tag : ℕ) (chunk : Plain) → e.core ≡ core → ControlledAt e core tag (plain chunk) (still e)
rests_at e closed tag chunk is = (no_change closed, (nothing_chosen e, tt, refl), still_controlled e closed is)
rests_at e (cookie_wait my) tag chunk is = (no_change (cookie_wait my), (nothing_chosen e, tt, refl), still_controlled e (cookie_wait my) is)
rests_at e (cookie_echoed my held cookie) tag chunk is = (no_change (cookie_echoed my held cookie), (nothing_chosen e, tt, refl), still_controlled e (cookie_echoed my held cookie) is)
rests_at e (open_in established my held) tag chunk is = (no_change (open_in established my held), (nothing_chosen e, tt, refl), still_controlled e (open_in established my held) is)
rests_at e (open_in shutdown_pending my held) tag chunk is = (no_change (open_in shutdown_pending my held), (nothing_chosen e, tt, refl), still_controlled e (open_in shutdown_pending my held) is)
rests_at e (open_in shutdown_sent my held) tag chunk is = (no_change (open_in shutdown_sent my held), (nothing_chosen e, tt, refl), still_controlled e (open_in shutdown_sent my held) is)
rests_at e (open_in shutdown_received my held) tag chunk is = (no_change (open_in shutdown_received my held), (nothing_chosen e, tt, refl), still_controlled e (open_in shutdown_received my held) is)
rests_at e (open_in shutdown_ack_sent my held) tag chunk is = (no_change (open_in shutdown_ack_sent my held), (nothing_chosen e, tt, refl), still_controlled e (open_in shutdown_ack_sent my held) is)

-- ---- one of a type that isn't known

-- It chooses what follows, and the report, where one goes out.
abbrev follows : Endpoint → ℕ → Choices
follows e type = record (nothing_chosen e) { following = after_unknown type }

abbrev reporting : Endpoint → ℕ → List ℕ → Choices
reporting e type chunk = record (follows e type) { plain = (unknown_error e chunk ∷ []) ∷ [] }

-- what it is to the association, where nothing is sent to the peer
silent : (e : Endpoint) (core : Core) → e.core ≡ core → (type : ℕ) (events : List (Event Emission)) → observations_of_events events ≡ []
    → IsControlled e (record { words = []; effects = []; after = e; events = events; following = after_unknown type }) (record { core = core; effects = []; following = after_unknown type })
silent e core is type events none = record { core = is; options = refl; observations = none; effects = refl; following = refl }

-- where the peer gets a report
told : (e : Endpoint) (core : Core) (held : Held) (type : ℕ) (chunk : List ℕ) → e.core ≡ core
    → IsControlled e (record (sends e [] (error ParseFailed (unknown_text type) ∷ []) (unknown_report e held chunk)) { following = after_unknown type })
    (record { core = core; effects = effects.sends (unknown_report e held chunk).packet ∷ []; following = after_unknown type })
told e core held type chunk is = record { core = is; options = refl; observations = refl; effects = refl; following = refl }

unknown_at : (e : Endpoint) (core : Core) (tag type flags : ℕ) (value : List ℕ) (reported : Bool) → e.core ≡ core
    → ControlledAt e core tag (plain (unknown type flags value))
    (record (cond reported (unknown_chunk_outcome e core type (unknown_bytes type flags value)) (still e)) { following = after_unknown type })
unknown_at e closed tag type flags value true is = (_, (follows e type, tt, refl), silent e closed is type (error ParseFailed (unknown_text type) ∷ []) refl)
unknown_at e closed tag type flags value false is = (_, (follows e type, tt, refl), silent e closed is type [] refl)
unknown_at e (cookie_wait my) tag type flags value true is = (_, (follows e type, tt, refl), silent e (cookie_wait my) is type (error ParseFailed (unknown_text type) ∷ []) refl)
unknown_at e (cookie_wait my) tag type flags value false is = (_, (follows e type, tt, refl), silent e (cookie_wait my) is type [] refl)
unknown_at e (cookie_echoed my held cookie) tag type flags value true is =
    (_, (reporting e type (unknown_bytes type flags value), tt, refl), told e (cookie_echoed my held cookie) held type (unknown_bytes type flags value) is)
unknown_at e (cookie_echoed my held cookie) tag type flags value false is = (_, (follows e type, tt, refl), silent e (cookie_echoed my held cookie) is type [] refl)
unknown_at e (open_in established my held) tag type flags value true is =
    (_, (reporting e type (unknown_bytes type flags value), tt, refl), told e (open_in established my held) held type (unknown_bytes type flags value) is)
unknown_at e (open_in established my held) tag type flags value false is = (_, (follows e type, tt, refl), silent e (open_in established my held) is type [] refl)
unknown_at e (open_in shutdown_pending my held) tag type flags value true is =
    (_, (reporting e type (unknown_bytes type flags value), tt, refl), told e (open_in shutdown_pending my held) held type (unknown_bytes type flags value) is)
unknown_at e (open_in shutdown_pending my held) tag type flags value false is = (_, (follows e type, tt, refl), silent e (open_in shutdown_pending my held) is type [] refl)
unknown_at e (open_in shutdown_sent my held) tag type flags value true is =
    (_, (reporting e type (unknown_bytes type flags value), tt, refl), told e (open_in shutdown_sent my held) held type (unknown_bytes type flags value) is)
unknown_at e (open_in shutdown_sent my held) tag type flags value false is = (_, (follows e type, tt, refl), silent e (open_in shutdown_sent my held) is type [] refl)
unknown_at e (open_in shutdown_received my held) tag type flags value true is =
    (_, (reporting e type (unknown_bytes type flags value), tt, refl), told e (open_in shutdown_received my held) held type (unknown_bytes type flags value) is)
unknown_at e (open_in shutdown_received my held) tag type flags value false is = (_, (follows e type, tt, refl), silent e (open_in shutdown_received my held) is type [] refl)
unknown_at e (open_in shutdown_ack_sent my held) tag type flags value true is =
    (_, (reporting e type (unknown_bytes type flags value), tt, refl), told e (open_in shutdown_ack_sent my held) held type (unknown_bytes type flags value) is)
unknown_at e (open_in shutdown_ack_sent my held) tag type flags value false is = (_, (follows e type, tt, refl), silent e (open_in shutdown_ack_sent my held) is type [] refl)

-- ---- heartbeats

-- It moves nothing of the association.
unmoved : (e : Endpoint) (core : Core) → no_change core ≡ plain_change core false (nothing_chosen e)
unmoved e closed = refl
unmoved e (cookie_wait my) = refl
unmoved e (cookie_echoed my held cookie) = refl
unmoved e (open_in established my held) = refl
unmoved e (open_in shutdown_pending my held) = refl
unmoved e (open_in shutdown_sent my held) = refl
unmoved e (open_in shutdown_received my held) = refl
unmoved e (open_in shutdown_ack_sent my held) = refl

quietly : (e : Endpoint) (core : Core) (tag : ℕ) (chunk : Plain) (o : Outcome) → IsControlled e o (no_change core) → ControlledAt e core tag (plain chunk) o
quietly e core tag chunk o h = (no_change core, (nothing_chosen e, tt, unmoved e core), h)

-- It chooses the answer.
abbrev answering : Endpoint → List ParameterContent → Choices
answering e parameters = record (nothing_chosen e) { plain = (heartbeat_ack parameters ∷ []) ∷ [] }

abbrev answer_to : Held → List ParameterContent → Emission
answer_to held parameters = to_peer held (plain (heartbeat_ack parameters))

-- the association, and one packet
abbrev answers_with : Core → Held → List ParameterContent → Change
answers_with core held parameters = record { core = core; effects = effects.sends (answer_to held parameters).packet ∷ []; following = next_chunk }

answered_open : (e : Endpoint) (phase : OpenPhase) (my : Pair) (held : Held) (parameters : List ParameterContent)
    → answers_with (open_in phase my held) held parameters ≡ plain_change (open_in phase my held) false (answering e parameters)
answered_open e established my held parameters = refl
answered_open e shutdown_pending my held parameters = refl
answered_open e shutdown_sent my held parameters = refl
answered_open e shutdown_received my held parameters = refl
answered_open e shutdown_ack_sent my held parameters = refl

answer_where : (b : Bool) (e : Endpoint) (core : Core) (held : Held) (tag : ℕ) (parameters : List ParameterContent) → e.core ≡ core
    → answers_with core held parameters ≡ plain_change core false (answering e parameters)
    → ControlledAt e core tag (plain (heartbeat parameters)) (counted (cond b (sends e [] [] (answer_to held parameters)) (quiet e [] [])))
answer_where true e core held tag parameters is change =
    (answers_with core held parameters, (answering e parameters, tt, change), record { core = is; options = refl; observations = refl; effects = refl; following = refl })
answer_where false e core held tag parameters is change =
    quietly e core tag (heartbeat parameters) (counted (quiet e [] [])) (record { core = is; options = refl; observations = refl; effects = refl; following = refl })

answer_at : (e : Endpoint) (core : Core) (held : Held) (tag : ℕ) (parameters : List ParameterContent) → e.core ≡ core
    → answers_with core held parameters ≡ plain_change core false (answering e parameters)
    → ControlledAt e core tag (plain (heartbeat parameters)) (answered_once e (answer_to held parameters))
answer_at e core held tag parameters is change =
    answered_by (ControlledAt e core tag (plain (heartbeat parameters))) e (answer_to held parameters)
    (quietly e core tag (heartbeat parameters) (still e) (still_controlled e core is))
    (answer_where (fits e (answer_to held parameters)) e core held tag parameters is change)

heartbeat_at : (e : Endpoint) (core : Core) (tag : ℕ) (parameters : List ParameterContent) → e.core ≡ core → ControlledAt e core tag (plain (heartbeat parameters)) (heartbeat_outcome e core parameters)
heartbeat_at e closed tag parameters is = rests_at e closed tag (heartbeat parameters) is
heartbeat_at e (cookie_wait my) tag parameters is = rests_at e (cookie_wait my) tag (heartbeat parameters) is
heartbeat_at e (cookie_echoed my held cookie) tag parameters is =
    answer_at e (cookie_echoed my held cookie) held tag parameters is refl
heartbeat_at e (open_in phase my held) tag parameters is =
    answer_at e (open_in phase my held) held tag parameters is (answered_open e phase my held parameters)

counted_at : (b : Bool) (e : Endpoint) (core : Core) (tag : ℕ) (chunk : Plain) → e.core ≡ core → ControlledAt e core tag (plain chunk) (cond b (still (endpoint_answered e)) (still e))
counted_at true e core tag chunk is = quietly e core tag chunk (still (endpoint_answered e)) (record { core = is; options = refl; observations = refl; effects = refl; following = refl })
counted_at false e core tag chunk is = quietly e core tag chunk (still e) (record { core = is; options = refl; observations = refl; effects = refl; following = refl })

heartbeat_ack_at : (e : Endpoint) (core : Core) (tag : ℕ) (chunk : Plain) (counter : Option ℕ) → e.core ≡ core → ControlledAt e core tag (plain chunk) (heartbeat_ack_outcome e counter)
heartbeat_ack_at e core tag chunk None is = quietly e core tag chunk (reports e ParseFailed invalid_info_text) (record { core = is; options = refl; observations = refl; effects = refl; following = refl })
heartbeat_ack_at e core tag chunk (Some counter) is = counted_at (counter == e.heartbeat_counter) e core tag chunk is

-- ---- an ERROR

-- Only the user gets an event.
told_of : (e : Endpoint) (core : Core) (tag : ℕ) (chunk : Plain) (text : List ℕ) → e.core ≡ core → ControlledAt e core tag (plain chunk) (reports e PeerReported text)
told_of e core tag chunk text is = quietly e core tag chunk (reports e PeerReported text) (record { core = is; options = refl; observations = refl; effects = refl; following = refl })

-- One that ends the handshake chooses as a violation does, without an ABORT.
echoed_at : (b : Bool) (e : Endpoint) (my : Pair) (held : Held) (cookie : List ℕ) (tag : ℕ) (chunk : Plain) (causes : List Cause) → e.core ≡ cookie_echoed my held cookie
    → ControlledAt e (cookie_echoed my held cookie) tag (plain chunk) (echoed_error_outcome b e causes)
echoed_at true e my held cookie tag chunk causes is =
    (_, (record (no_choices e false) { is_violation = true }, tt, refl), record { core = refl; options = refl; observations = refl; effects = refl; following = refl })
echoed_at false e my held cookie tag chunk causes is = told_of e (cookie_echoed my held cookie) tag chunk (causes_text causes) is

error_at : (e : Endpoint) (core : Core) (tag : ℕ) (chunk : Plain) (causes : List Cause) → e.core ≡ core → ControlledAt e core tag (plain chunk) (error_outcome e core causes)
error_at e closed tag chunk causes is = rests_at e closed tag chunk is
error_at e (cookie_wait my) tag chunk causes is = rests_at e (cookie_wait my) tag chunk is
error_at e (cookie_echoed my held cookie) tag chunk causes is = echoed_at (ends_handshake e causes) e my held cookie tag chunk causes is
error_at e (open_in phase my held) tag chunk causes is = told_of e (open_in phase my held) tag chunk (causes_text causes) is

-- ---- one that breaks the protocol

abbrev violating : Endpoint → Held → Violation → Choices
violating e held violation =
    record (no_choices e (fits e (abort_to held (reasons.Violation violation)))) { is_violation = true; causes = causes_of (reasons.Violation violation) }

aborts_echoed : (e : Endpoint) (my : Pair) (held : Held) (cookie : List ℕ) (tag : ℕ) (chunk : Plain) (violation : Violation)
    → ControlledAt e (cookie_echoed my held cookie) tag (plain chunk) (aborting_outcome e (cookie_echoed my held cookie) (reasons.Violation violation))
aborts_echoed e my held cookie tag chunk violation =
    (_, (violating e held violation, tt, refl), aborts_where (fits e (abort_to held (reasons.Violation violation))) e held (reasons.Violation violation))

aborts_open : (e : Endpoint) (phase : OpenPhase) (my : Pair) (held : Held) (tag : ℕ) (chunk : Plain) (violation : Violation)
    → ControlledAt e (open_in phase my held) tag (plain chunk) (aborting_outcome e (open_in phase my held) (reasons.Violation violation))
aborts_open e phase my held tag chunk violation =
    (_, (violating e held violation, tt, refl), aborts_where (fits e (abort_to held (reasons.Violation violation))) e held (reasons.Violation violation))

-- ---- each

aborts_at : (e : Endpoint) (core : Core) (tag : ℕ) (chunk : Plain) (violation : Violation) → e.core ≡ core → violation_by_core core chunk ≡ Some violation
    → ControlledAt e core tag (plain chunk) (aborting_outcome e core (reasons.Violation violation))
aborts_at e closed tag chunk violation is breaks = absurd (cc)
aborts_at e (cookie_wait my) tag chunk violation is breaks = absurd (cc)
aborts_at e (cookie_echoed my held cookie) tag chunk violation is breaks = aborts_echoed e my held cookie tag chunk violation
aborts_at e (open_in phase my held) tag chunk violation is breaks = aborts_open e phase my held tag chunk violation

abbrev At : Endpoint → ℕ → Plain → Outcome → Type 0
At e tag chunk o = ControlledAt e e.core tag (plain chunk) o

rests : (e : Endpoint) (tag : ℕ) (chunk : Plain) (o : Outcome) → o ≡ still e → At e tag chunk o
rests e tag chunk o turn = subst (At e tag chunk) (sym turn) (rests_at e e.core tag chunk refl)

plain_by : (e : Endpoint) (tag : ℕ) (chunk : Plain) (violation : Option Violation) (o : Outcome) → violation_by_core e.core chunk ≡ violation → PlainTurnUnlessViolating e chunk violation o → At e tag chunk o
plain_by e tag chunk (Some violation) o is turn = subst (At e tag chunk) (sym turn) (aborts_at e e.core tag chunk violation refl is)
plain_by e tag (unknown type flags value) None o is turn = subst (At e tag (unknown type flags value)) (sym turn) (unknown_at e e.core tag type flags value (is_reported type) refl)
plain_by e tag (heartbeat parameters) None o is turn = subst (At e tag (heartbeat parameters)) (sym turn) (heartbeat_at e e.core tag parameters refl)
plain_by e tag (heartbeat_ack parameters) None o is turn =
    subst (At e tag (heartbeat_ack parameters)) (sym turn) (heartbeat_ack_at e e.core tag (heartbeat_ack parameters) (counter_of (first_heartbeat_info parameters)) refl)
plain_by e tag (unworked (data_chunk chunk)) None o is turn = flushed_chunk e e.core tag (unworked (data_chunk chunk)) o (data_at e (data_arrival chunk) o turn)
plain_by e tag (unworked (i_data_chunk chunk)) None o is turn = flushed_chunk e e.core tag (unworked (i_data_chunk chunk)) o (data_at e (i_data_arrival chunk) o turn)
plain_by e tag (unworked (sack_chunk chunk)) None o is turn = stepped_chunk e e.core tag (unworked (sack_chunk chunk)) o (sack_at e e.queues.transfer chunk o turn)
plain_by e tag (unworked (forward_tsn_chunk tsn streams)) None o is turn = flushed_chunk e e.core tag (unworked (forward_tsn_chunk tsn streams)) o (forward_at e e.queues.transfer tsn (named_skips streams) o turn)
plain_by e tag (unworked (i_forward_tsn_chunk tsn streams)) None o is turn = flushed_chunk e e.core tag (unworked (i_forward_tsn_chunk tsn streams)) o (forward_at e e.queues.transfer tsn (skipped_messages streams) o turn)
plain_by e tag (unworked (error_chunk causes)) None o is turn = subst (At e tag (unworked (error_chunk causes))) (sym turn) (error_at e e.core tag (unworked (error_chunk causes)) causes refl)
plain_by e tag (unworked (init_chunk chunk)) None o is turn = rests e tag (unworked (init_chunk chunk)) o turn
plain_by e tag (unworked (init_ack_chunk chunk)) None o is turn = rests e tag (unworked (init_ack_chunk chunk)) o turn
plain_by e tag (unworked (heartbeat_chunk parameters)) None o is turn = rests e tag (unworked (heartbeat_chunk parameters)) o turn
plain_by e tag (unworked (heartbeat_ack_chunk parameters)) None o is turn = rests e tag (unworked (heartbeat_ack_chunk parameters)) o turn
plain_by e tag (unworked (abort_chunk reflected causes)) None o is turn = rests e tag (unworked (abort_chunk reflected causes)) o turn
plain_by e tag (unworked (shutdown_chunk tsn)) None o is turn = rests e tag (unworked (shutdown_chunk tsn)) o turn
plain_by e tag (unworked shutdown_ack_chunk) None o is turn = rests e tag (unworked shutdown_ack_chunk) o turn
plain_by e tag (unworked (cookie_echo_chunk cookie)) None o is turn = rests e tag (unworked (cookie_echo_chunk cookie)) o turn
plain_by e tag (unworked cookie_ack_chunk) None o is turn = rests e tag (unworked cookie_ack_chunk) o turn
plain_by e tag (unworked (shutdown_complete_chunk reflected)) None o is turn = rests e tag (unworked (shutdown_complete_chunk reflected)) o turn
plain_by e tag (unworked (re_config_chunk parameters)) None o is turn = rests e tag (unworked (re_config_chunk parameters)) o turn
plain_by e tag (unworked (unknown_chunk type flags value)) None o is turn = rests e tag (unworked (unknown_chunk type flags value)) o turn

pub plain_controlled : (e : Endpoint) (tag : ℕ) (chunk : Plain) (o : Outcome) → ContentTurn e tag (plain chunk) o → IsControlledChunk e tag (plain chunk) o
plain_controlled e tag chunk o turn =
    content_by e tag (plain chunk) o (λ dropped. rests e tag chunk o dropped) (λ handled. plain_by e tag chunk (violation_by_core e.core chunk) o refl handled) turn
