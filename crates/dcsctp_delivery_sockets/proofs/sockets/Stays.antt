-- The association that a packet begins with is there when the packet is over: what follows the
-- first chunk ends none.
use Rattle.std.proofs.Common.{◌≡◌, ◌==◌, ℕ, Bool, true, false, cond, Option, None, Some, List, [], ◌∷◌, refl, sym, ap, ◌∙◌, subst}
use Rattle.std.specs.Prelude.{◌&&◌}
use Rattle.dcsctp_spec_lemmas.specs.wire.Content.{ParameterContent, data_chunk, i_data_chunk, sack_chunk, error_chunk, forward_tsn_chunk, i_forward_tsn_chunk}
use Rattle.dcsctp_spec_lemmas.specs.types.declared.capabilities.Capabilities.{Capabilities}
use Rattle.dcsctp_spec_lemmas.specs.types.declared.ends.Violation.{Violation}
use Rattle.dcsctp_spec_lemmas.specs.spec.endpoint.Cause.{Cause, has_stale_cookie}
use Rattle.dcsctp_spec_lemmas.specs.spec.association.Controlled.{IsControlled, IsControlledChunk}
use Rattle.dcsctp_spec_lemmas.specs.spec.endpoint.ShutdownOutcomes.{endpoint_in_phase, may_continue_shutdown, step_if_acknowledged, t1_stopped, shut_down_echoed, shut_down_outcome}
use Rattle.dcsctp_spec_lemmas.specs.types.declared.association.Pair.{Pair}
use Rattle.dcsctp_spec_lemmas.specs.types.declared.association.Held.{Held}
use Rattle.dcsctp_spec_lemmas.specs.spec.endpoint.CallTurns.{asked_again, Transition, IsTurn, Turns, AfterChunk, ChunkTurns, after_all}
use Rattle.dcsctp_spec_lemmas.specs.spec.endpoint.Endpoint.{shutdown_ack_sent, shutdown_sent, established, OpenPhase, Endpoint, Core, closed, cookie_wait, cookie_echoed, open_in, shutdown_pending, shutdown_received}
use Rattle.dcsctp_spec_lemmas.specs.spec.endpoint.Following.{Following, next_chunk, packet_end, dropped_rest}
use Rattle.dcsctp_spec_laws.specs.TurnLaws.{ChunksAreControlled}
use Rattle.dcsctp_spec_lemmas.specs.spec.endpoint.Outcome.{Outcome, still, answers_with, to_peer}
use Rattle.dcsctp_spec_lemmas.specs.spec.Packet.{Plain, unknown, heartbeat, heartbeat_ack, unworked, Content, init, init_ack, cookie_echo, cookie_ack, re_config, abort, shutdown, shutdown_ack, shutdown_complete, plain, Emission}
use Rattle.dcsctp_spec_lemmas.specs.spec.Reconfiguration.{ResetParameter}
use Rattle.dcsctp_spec_lemmas.specs.spec.endpoint.Turn.{act_input, chunk_input, packet_ends, ContentTurn}
use Rattle.dcsctp_spec_lemmas.specs.spec.association.Acts.{shut_down, flush_change, plain_change}
use Rattle.dcsctp_spec_lemmas.specs.spec.association.Choices.{Choices}
use Rattle.dcsctp_spec_lemmas.specs.spec.association.Effect.{identity_of_core}
use Rattle.dcsctp_spec_lemmas.specs.spec.association.ResetChanges.{re_config_change}
use Rattle.dcsctp_spec_lemmas.specs.spec.association.ShutdownChanges.{shutdown_step_change}
use Rattle.dcsctp_spec_lemmas.specs.spec.queues.Arrivals.{data_arrival, i_data_arrival, named_skips, skipped_messages}
use Rattle.dcsctp_spec_lemmas.specs.spec.endpoint.HeartbeatOutcomes.{heartbeat_outcome, heartbeat_ack_outcome, endpoint_answered, first_heartbeat_info, counter_of}
use Rattle.dcsctp_spec_lemmas.specs.spec.endpoint.PlainOutcomes.{violation_of_capabilities, violation_by_core, PlainTurnUnlessViolating, is_reported, after_unknown, unknown_bytes, unknown_chunk_outcome, unknown_outcome, ends_handshake, echoed_error_outcome, error_outcome}
use Rattle.dcsctp_spec_laws.proofs.DataLemmas.{chosen, FlushedAt, data_at, forward_at, end_at}
use Rattle.dcsctp_spec_laws.proofs.SackLemmas.{SteppedAt, sack_at}
use Rattle.dcsctp_spec_lemmas.proofs.OneAnswerLemmas.{answered_by}
use Rattle.dcsctp_theorem_sockets.proofs.Bursts.{emits_core}
use Rattle.dcsctp_delivery_sockets.specs.turns.Actions.{IsOpening, NotStale}
use Rattle.dcsctp_delivery_sockets.specs.sockets.Echoes.{MayFollow, AllMayFollow}
use Rattle.dcsctp_delivery_sockets.proofs.sockets.Allowed.{Allowed, AllAllowed}
use Rattle.dcsctp_delivery_sockets.proofs.sockets.Turns.{SameKinds, LinkIs, EndpointIs, MovesLink, link_stays, link_ends, link_begins, TurnIs, turn_is}
use Rattle.dcsctp_spec_lemmas.proofs.EarlyLemmas.{content_by}

-- The peer is known.
abbrev pub IsHeldIn : Core → Type 0
IsHeldIn closed = ⊥
IsHeldIn (cookie_wait my) = ⊥
IsHeldIn (cookie_echoed my held cookie) = Unit {0}
IsHeldIn (open_in phase my held) = Unit {0}

held_some : (core : Core) → IsHeldIn core → identity_of_core core ≡ None → ⊥
held_some closed held none = held
held_some (cookie_wait my) held none = held
held_some (cookie_echoed my of_peer cookie) held none = absurd (cc)
held_some (open_in phase my of_peer) held none = absurd (cc)

none_before : (core after : Core) → (IsHeldIn core → IsHeldIn after) → identity_of_core after ≡ None → identity_of_core core ≡ None
none_before closed after keeps none = refl
none_before (cookie_wait my) after keeps none = refl
none_before (cookie_echoed my held cookie) after keeps none = absurd (held_some after (keeps tt) none)
none_before (open_in phase my held) after keeps none = absurd (held_some after (keeps tt) none)

link_kept : (came : Option Content) (e : Endpoint) (o : Outcome) → (IsOpening came → ⊥) → (IsHeldIn e.core → IsHeldIn o.after.core) → MovesLink came e o → identity_of_core o.after.core ≡ identity_of_core e.core
link_kept came e o unopened keeps (link_stays is) = is
link_kept came e o unopened keeps (link_ends none) = none ∙ sym (none_before e.core o.after.core keeps none)
link_kept came e o unopened keeps (link_begins opened) = absurd (unopened opened.opening)

-- ---- flushes, and a step of a shutdown

flush_held : (core : Core) (choices : Choices) → IsHeldIn core → IsHeldIn (flush_change core choices).core
flush_held closed choices held = held
flush_held (cookie_wait my) choices held = held
flush_held (cookie_echoed my of_peer cookie) choices held = tt
flush_held (open_in phase my of_peer) choices held = tt

step_held : (core : Core) (tsn : ℕ) (is_acknowledged : Bool) → IsHeldIn core → IsHeldIn (shutdown_step_change core tsn is_acknowledged).core
step_held closed tsn is_acknowledged held = held
step_held (cookie_wait my) tsn is_acknowledged held = held
step_held (cookie_echoed my of_peer cookie) tsn is_acknowledged held = tt
step_held (open_in shutdown_pending my of_peer) tsn true held = tt
step_held (open_in shutdown_received my of_peer) tsn true held = tt
step_held (open_in phase my of_peer) tsn is_acknowledged held = tt

stepped_held : (core : Core) (choices : Choices) → IsHeldIn core → IsHeldIn (plain_change core false choices).core
stepped_held core choices held =
    flush_held (shutdown_step_change core choices.tsn choices.is_acknowledged).core choices (step_held core choices.tsn choices.is_acknowledged held)

flushed_at : (e : Endpoint) (o : Outcome) → FlushedAt e e.core o → IsHeldIn e.core → IsHeldIn o.after.core
flushed_at e o h held = subst IsHeldIn (sym h.2.core) (flush_held e.core (chosen e h.0 h.1) held)

by_plain : (e : Endpoint) (o : Outcome) (choices : Choices) → IsControlled e o (plain_change e.core false choices) → IsHeldIn e.core → IsHeldIn o.after.core
by_plain e o choices h held = subst IsHeldIn (sym h.core) (stepped_held e.core choices held)

stepped_at : (e : Endpoint) (o : Outcome) → SteppedAt e e.core o → IsHeldIn e.core → IsHeldIn o.after.core
stepped_at e o h held = by_plain e o _ h.4 held

-- ---- a shutdown that the user asks for

from_held : (b : Bool) (e : Endpoint) (phase : OpenPhase) (my : Pair) (of_peer : Held) → IsHeldIn (step_if_acknowledged b (endpoint_in_phase e phase my of_peer) phase my of_peer).after.core
from_held false e phase my of_peer = tt
from_held true e established my of_peer = tt
from_held true e shutdown_pending my of_peer = tt
from_held true e shutdown_sent my of_peer = tt
from_held true e shutdown_received my of_peer = tt
from_held true e shutdown_ack_sent my of_peer = tt

echoed_held : (follows : Bool) (e : Endpoint) (my : Pair) (of_peer : Held) → IsHeldIn e.core → IsHeldIn (shut_down_echoed follows e my of_peer).after.core
echoed_held true e my of_peer held = held
echoed_held false e my of_peer held = from_held (may_continue_shutdown (t1_stopped e)) (t1_stopped e) shutdown_pending my of_peer

shut_down_held : (e : Endpoint) (core : Core) → e.core ≡ core → IsHeldIn e.core → IsHeldIn (shut_down_outcome e core).after.core
shut_down_held e closed at held = held
shut_down_held e (cookie_wait my) at held = absurd (subst IsHeldIn at held)
shut_down_held e (cookie_echoed my of_peer cookie) at held = echoed_held e.options.follow_rfc e my of_peer held
shut_down_held e (open_in established my of_peer) at held = from_held (may_continue_shutdown e) e shutdown_pending my of_peer
shut_down_held e (open_in shutdown_pending my of_peer) at held = held
shut_down_held e (open_in shutdown_sent my of_peer) at held = held
shut_down_held e (open_in shutdown_received my of_peer) at held = held
shut_down_held e (open_in shutdown_ack_sent my of_peer) at held = held

-- ---- chunks that leave it alone

-- So it is where the outcome has the same association.
same_core : (e : Endpoint) (o outcome : Outcome) → o ≡ outcome → outcome.after.core ≡ e.core → IsHeldIn e.core → IsHeldIn o.after.core
same_core e o outcome is same held = subst IsHeldIn (sym (ap (λ (x : Outcome). x.after.core) is ∙ same)) held

unknown_core : (e : Endpoint) (core : Core) (type : ℕ) (chunk : List ℕ) (reported : Bool) → (record (cond reported (unknown_chunk_outcome e core type chunk) (still e)) { following = after_unknown type }).after.core ≡ e.core
unknown_core e core type chunk false = refl
unknown_core e closed type chunk true = refl
unknown_core e (cookie_wait my) type chunk true = refl
unknown_core e (cookie_echoed my held cookie) type chunk true = refl
unknown_core e (open_in phase my held) type chunk true = refl

answer_core : (e : Endpoint) (emission : Emission) → (answers_with e emission).after.core ≡ e.core
answer_core e emission = answered_by (λ (o : Outcome). o.after.core ≡ e.core) e emission refl (emits_core e [] emission)

heartbeat_core : (e : Endpoint) (core : Core) (parameters : List ParameterContent) → (heartbeat_outcome e core parameters).after.core ≡ e.core
heartbeat_core e closed parameters = refl
heartbeat_core e (cookie_wait my) parameters = refl
heartbeat_core e (cookie_echoed my held cookie) parameters = answer_core e (to_peer held (plain (heartbeat_ack parameters)))
heartbeat_core e (open_in phase my held) parameters = answer_core e (to_peer held (plain (heartbeat_ack parameters)))

counted_core : (b : Bool) (e : Endpoint) → (cond b (still (endpoint_answered e)) (still e)).after.core ≡ e.core
counted_core true e = refl
counted_core false e = refl

ack_core : (e : Endpoint) (counter : Option ℕ) → (heartbeat_ack_outcome e counter).after.core ≡ e.core
ack_core e None = refl
ack_core e (Some counter) = counted_core (counter == e.heartbeat_counter) e

told_core : (b : Bool) (e : Endpoint) (causes : List Cause) → b ≡ false → (echoed_error_outcome b e causes).after.core ≡ e.core
told_core true e causes is = absurd (cc)
told_core false e causes is = refl

error_core : (e : Endpoint) (core : Core) (causes : List Cause) → has_stale_cookie causes ≡ false → (error_outcome e core causes).after.core ≡ e.core
error_core e closed causes fresh = refl
error_core e (cookie_wait my) causes fresh = refl
error_core e (cookie_echoed my held cookie) causes fresh = told_core (ends_handshake e causes) e causes (ap (λ (b : Bool). b && e.options.follow_rfc) fresh)
error_core e (open_in phase my held) causes fresh = refl

-- ---- a chunk that breaks nothing

plain_held : (e : Endpoint) (chunk : Plain) (o : Outcome) → NotStale (plain chunk) → PlainTurnUnlessViolating e chunk None o → IsHeldIn e.core → IsHeldIn o.after.core
plain_held e (unknown type flags value) o fresh turn = same_core e o (unknown_outcome e e.core type flags value) turn (unknown_core e e.core type (unknown_bytes type flags value) (is_reported type))
plain_held e (heartbeat parameters) o fresh turn = same_core e o (heartbeat_outcome e e.core parameters) turn (heartbeat_core e e.core parameters)
plain_held e (heartbeat_ack parameters) o fresh turn = same_core e o (heartbeat_ack_outcome e (counter_of (first_heartbeat_info parameters))) turn (ack_core e (counter_of (first_heartbeat_info parameters)))
plain_held e (unworked (data_chunk chunk)) o fresh turn = flushed_at e o (data_at e (data_arrival chunk) o turn)
plain_held e (unworked (i_data_chunk chunk)) o fresh turn = flushed_at e o (data_at e (i_data_arrival chunk) o turn)
plain_held e (unworked (sack_chunk chunk)) o fresh turn = stepped_at e o (sack_at e e.queues.transfer chunk o turn)
plain_held e (unworked (forward_tsn_chunk tsn streams)) o fresh turn = flushed_at e o (forward_at e e.queues.transfer tsn (named_skips streams) o turn)
plain_held e (unworked (i_forward_tsn_chunk tsn streams)) o fresh turn = flushed_at e o (forward_at e e.queues.transfer tsn (skipped_messages streams) o turn)
plain_held e (unworked (error_chunk causes)) o fresh turn = same_core e o (error_outcome e e.core causes) turn (error_core e e.core causes fresh)
plain_held e (unworked chunk) o fresh turn = same_core e o (still e) turn refl

reset_held : (follows : Bool) (core : Core) (parameters : List ResetParameter) (choices : Choices) → IsHeldIn core → IsHeldIn (re_config_change follows core parameters choices).core
reset_held follows closed parameters choices held = held
reset_held follows (cookie_wait my) parameters choices held = held
reset_held true (cookie_echoed my of_peer cookie) parameters choices held = tt
reset_held false (cookie_echoed my of_peer cookie) parameters choices held = tt
reset_held follows (open_in phase my of_peer) parameters choices held = tt

module _ (kinds : Capabilities) where
  -- What may go under the one capabilities may go under others of the same kinds.
  same_violation : (own : Capabilities) (chunk : Plain) → SameKinds own kinds → violation_of_capabilities kinds chunk ≡ None → violation_of_capabilities own chunk ≡ None
  same_violation own (unworked (data_chunk chunk)) same may = cc
  same_violation own (unworked (i_data_chunk chunk)) same may = cc
  same_violation own (unworked (forward_tsn_chunk tsn streams)) same may = cc
  same_violation own (unworked (i_forward_tsn_chunk tsn streams)) same may = cc
  same_violation own chunk same may = refl

  breaks_nothing : (core : Core) (chunk : Plain) → LinkIs kinds (identity_of_core core) → violation_of_capabilities kinds chunk ≡ None → violation_by_core core chunk ≡ None
  breaks_nothing closed chunk linked may = refl
  breaks_nothing (cookie_wait my) chunk linked may = refl
  breaks_nothing (cookie_echoed my held cookie) chunk linked may = same_violation held.capabilities chunk linked may
  breaks_nothing (open_in phase my held) chunk linked may = same_violation held.capabilities chunk linked may

  module _ (law : ChunksAreControlled) where
    follows_held : (e : Endpoint) (tag : ℕ) (content : Content) (o : Outcome) → MayFollow content → Allowed kinds content → EndpointIs kinds e → ContentTurn e tag content o → IsHeldIn e.core → IsHeldIn o.after.core
    follows_held e tag (plain chunk) o may allowed h turn held =
        content_by e tag (plain chunk) o (λ dropped. same_core e o (still e) dropped refl held)
        (λ handled. plain_held e chunk o allowed.1 (subst (λ (v : Option Violation). PlainTurnUnlessViolating e chunk v o) (breaks_nothing e.core chunk h.linked allowed.0) handled) held) turn
    follows_held e tag (re_config parameters) o may allowed h turn held =
        let controlled : IsControlledChunk e tag (re_config parameters) o = law e tag (re_config parameters) o turn tt in
        subst IsHeldIn (sym (controlled.2.core ∙ ap (λ c. c.core) controlled.1.2)) (reset_held e.options.follow_rfc e.core parameters controlled.1.0 held)
    follows_held e tag (init introduction) o may allowed h turn held = absurd may
    follows_held e tag (init_ack introduction cookie) o may allowed h turn held = absurd may
    follows_held e tag (cookie_echo bytes) o may allowed h turn held = absurd may
    follows_held e tag cookie_ack o may allowed h turn held = absurd may
    follows_held e tag (abort reflected causes) o may allowed h turn held = absurd may
    follows_held e tag (shutdown tsn) o may allowed h turn held = absurd may
    follows_held e tag shutdown_ack o may allowed h turn held = absurd may
    follows_held e tag (shutdown_complete reflected) o may allowed h turn held = absurd may

    follows_calm : (content : Content) → MayFollow content → IsOpening (Some content) → ⊥
    follows_calm (init_ack introduction cookie) may opening = may
    follows_calm (cookie_echo bytes) may opening = may
    follows_calm content may opening = opening

    -- what a turn after the first chunk leaves
    record Left (e : Endpoint) (t : Transition) : Type 0 where
      linked : identity_of_core t.outcome.after.core ≡ identity_of_core e.core
      is : EndpointIs kinds t.outcome.after

    follows_left : (e : Endpoint) (tag : ℕ) (content : Content) (t : Transition) → MayFollow content → Allowed kinds content → EndpointIs kinds e → IsTurn e (chunk_input tag content) t → Left e t
    follows_left e tag content t may allowed h turn =
        let so : TurnIs kinds e (Some content) t.outcome = turn_is kinds e (chunk_input tag content) t.outcome h tt (λ opened. absurd (follows_calm content may opened.opening)) turn.comes in
        record { linked = link_kept (Some content) e t.outcome (follows_calm content may) (follows_held e tag content t.outcome may allowed h turn.comes) so.moves; is = so.after }

    end_left : (e : Endpoint) (t : Transition) → EndpointIs kinds e → IsTurn e packet_ends t → Left e t
    end_left e t h turn =
        let so : TurnIs kinds e None t.outcome = turn_is kinds e packet_ends t.outcome h tt (λ opened. absurd opened.opening) turn.comes in
        record { linked = link_kept None e t.outcome (λ opening. opening) (flushed_at e t.outcome (end_at e e.queues.transfer t.outcome turn.comes)) so.moves; is = so.after }

    asked_left : (e : Endpoint) (t : Transition) → EndpointIs kinds e → IsTurn e (act_input shut_down) t → identity_of_core t.outcome.after.core ≡ identity_of_core e.core
    asked_left e t h turn =
        let so : TurnIs kinds e None t.outcome = turn_is kinds e (act_input shut_down) t.outcome h tt (λ opened. absurd opened.opening) turn.comes in
        link_kept None e t.outcome (λ opening. opening)
        (λ held. subst (λ (x : Outcome). IsHeldIn x.after.core) (sym turn.comes) (shut_down_held e e.core refl held)) so.moves

    -- what comes after the chunks of a packet
    end_link : (asks : Bool) (e : Endpoint) (turns : List Transition) → EndpointIs kinds e → Turns e (packet_ends ∷ asked_again asks) turns → identity_of_core (after_all e turns).core ≡ identity_of_core e.core
    end_link asks e [] h taken = absurd taken
    end_link false e (t ∷ []) h taken = (end_left e t h taken.0).linked
    end_link false e (t ∷ u ∷ turns) h taken = absurd taken.1
    end_link true e (t ∷ []) h taken = absurd taken.1
    end_link true e (t ∷ u ∷ []) h taken =
        let left : Left e t = end_left e t h taken.0 in
        asked_left t.outcome.after u left.is taken.1.0 ∙ left.linked
    end_link true e (t ∷ u ∷ v ∷ turns) h taken = absurd taken.1.1

    pub after_link : (asks : Bool) (following : Following) (e : Endpoint) (turns : List Transition) (Others : Type 0) → EndpointIs kinds e → (Others → identity_of_core (after_all e turns).core ≡ identity_of_core e.core)
        → AfterChunk following Others (Turns e (packet_ends ∷ asked_again asks) turns) (turns ≡ []) → identity_of_core (after_all e turns).core ≡ identity_of_core e.core
    after_link asks next_chunk e turns Others h others rest = others rest
    after_link asks packet_end e turns Others h others rest = end_link asks e turns h rest
    after_link asks dropped_rest e turns Others h others rest = ap (λ (ts : List Transition). identity_of_core (after_all e ts).core) rest

    -- The chunks after the first, and what comes after them.
    pub rest_link : (asks : Bool) (e : Endpoint) (tag : ℕ) (contents : List Content) (turns : List Transition) → AllMayFollow contents → AllAllowed kinds contents → EndpointIs kinds e
        → ChunkTurns e tag contents (packet_ends ∷ asked_again asks) turns → identity_of_core (after_all e turns).core ≡ identity_of_core e.core
    rest_link asks e tag [] turns may allowed h taken = end_link asks e turns h taken
    rest_link asks e tag (content ∷ contents) [] may allowed h taken = absurd taken
    rest_link asks e tag (content ∷ contents) (t ∷ turns) may allowed h taken =
        let left : Left e t = follows_left e tag content t may.0 allowed.0 h taken.0 in
        after_link asks t.outcome.following t.outcome.after turns (ChunkTurns t.outcome.after tag contents (packet_ends ∷ asked_again asks) turns) left.is
        (λ others. rest_link asks t.outcome.after tag contents turns may.1 allowed.1 left.is others) taken.1 ∙ left.linked
