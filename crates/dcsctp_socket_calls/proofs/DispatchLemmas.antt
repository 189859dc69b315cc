-- Turns of chunks that break the protocol, of those of a shutdown, heartbeats, an ERROR and of those that aren't known.
use Rattle.std.proofs.Common.{◌≡◌, ◌==◌, ℕ, Bool, true, false, cond, Option, None, Some, Result, Ok, Err, OnErr, List, [], ◌∷◌, refl, sym, ap, subst, ◌∙◌}
use Rattle.std.specs.Prelude.{if◌then◌else◌}
use Rattle.std.proofs.lemmas.List.{append-nil}
use Rattle.rand_core.specs.Stream.{Stream}
use Rattle.dcsctp_core.specs.wire.declared.chunk.Chunk.{Chunk}
use Rattle.dcsctp_core.specs.wire.declared.chunk.Chunk.TheVariants as kinds
use Rattle.dcsctp_core.specs.wire.Content.{chunk_content, error_chunk}
use Rattle.dcsctp_core.specs.types.declared.ends.Violation.{Violation}
use Rattle.dcsctp_core.specs.types.declared.ends.AbortReason.TheVariants as reasons
use Rattle.dcsctp_core.specs.spec.endpoint.Cause.{Cause}
use Rattle.dcsctp_core.specs.spec.endpoint.Event.{Event}
use Rattle.dcsctp_core.specs.spec.Packet.{Plain, Content, content_of_chunk, init, init_ack, cookie_echo, cookie_ack, re_config, abort, shutdown, shutdown_ack, shutdown_complete, plain, unknown, heartbeat, heartbeat_ack, unworked, Emission}
use Rattle.dcsctp_core.specs.wire.Content.{ParameterContent}
use Rattle.dcsctp_core.specs.spec.endpoint.HeartbeatOutcomes.{heartbeat_outcome, heartbeat_ack_outcome, endpoint_answered}
use Rattle.dcsctp_core_heartbeat.specs.Heartbeats.{heartbeat_turn, heartbeat_ack_turn}
use Rattle.dcsctp_core.specs.spec.endpoint.Endpoint.{Endpoint, Core, closed, cookie_wait, cookie_echoed, open_in, OpenPhase, established, shutdown_pending, shutdown_sent, shutdown_received, shutdown_ack_sent}
use Rattle.dcsctp_core.specs.spec.endpoint.Outcome.{Outcome, still, quiet, sends, fits, answers_with, to_peer}
use Rattle.dcsctp_core.specs.spec.endpoint.Following.{next_chunk, packet_end, dropped_rest}
use Rattle.dcsctp_core.specs.spec.endpoint.Turn.{ContentTurn, comes_early, HandlesContent, HandlesUnlessEarly}
use Rattle.dcsctp_core.specs.spec.endpoint.CallTurns.{Transition, ChunkTurns}
use Rattle.dcsctp_core.specs.types.declared.association.Pair.{Pair}
use Rattle.dcsctp_core.specs.types.declared.association.Held.{Held}
use Rattle.dcsctp_core.specs.spec.endpoint.EndOutcomes.{aborting_outcome, reflected_outcome}
use Rattle.dcsctp_core.specs.spec.endpoint.ShutdownOutcomes.{shutdown_ack_outcome}
use Rattle.dcsctp_core.specs.spec.endpoint.PlainOutcomes.{violation_by_core, PlainTurnUnlessViolating, PlainTurn}
use Rattle.dcsctp_core.specs.declared.context.Context.{Context}
use Rattle.dcsctp_core.specs.declared.following.Following.TheVariants.{NextChunk, PacketEnd, DroppedRest}
use Rattle.dcsctp_core.specs.declared.following.Following.{Following}
use Rattle.dcsctp_core.specs.View.{View, core_of, endpoint_of, view_of, Moves, MovesAll, CutsTurn}
use Rattle.dcsctp_core.specs.Handling.{TakesPossibleTurn, CutsSomeTurn, IsHandledTurn, HandlesTurn}
use Rattle.dcsctp_core.proofs.Moving.{moves_one, moves_still}
use Rattle.dcsctp_core.proofs.spec_lemmas.OneAnswerLemmas.{answered_by}
use Rattle.dcsctp_spec_laws.proofs.TurnLemmas.{and_further}
use Rattle.dcsctp_core_ends.specs.Ends.{violation_of_content, aborting_turn, error_turn}
use Rattle.dcsctp_core_ends.specs.Shutdown.{is_open_core, reflected_turn}
use Rattle.dcsctp_socket_calls.specs.Parts.{ChunkMoves, CutsChunk, AckMoves, AckEnds, HandlesAck}
use Rattle.dcsctp_socket_calls.specs.Unknown.{unknown_turn}
use Rattle.dcsctp_socket_calls.proofs.AckLoop.{no_ack}
use Rattle.dcsctp_socket_calls.proofs.ChunkLoop.{worked_as}

-- One that doesn't come before the COOKIE ACK is handled.
pub late_at : (e : Endpoint) (tag : ℕ) (content : Content) (o : Outcome) → comes_early e content ≡ false → HandlesContent e tag content o → ContentTurn e tag content o
late_at e tag content o late turn = subst (λ (early : Bool). HandlesUnlessEarly early e tag content o) (sym late) turn

-- One that does is dropped.
pub early_worked : {R : Type 0} (stream : R → Stream) (old : View R) (tag : ℕ) (content : Content) → comes_early old.endpoint content ≡ true → ChunkMoves stream tag content old NextChunk old
early_worked stream old tag content early =
    record {
      outcome = still old.endpoint;
      turn = subst (λ (is_early : Bool). HandlesUnlessEarly is_early old.endpoint tag content (still old.endpoint)) (sym early) refl;
      following = refl;
      moves = moves_still stream old;
    }

-- A chunk that breaks nothing has the turn of its kind.
plain_as : (e : Endpoint) (chunk : Plain) (o : Outcome) → violation_by_core e.core chunk ≡ None → PlainTurnUnlessViolating e chunk None o → PlainTurn e chunk o
plain_as e chunk o none turn = subst (λ (v : Option Violation). PlainTurnUnlessViolating e chunk v o) (sym none) turn

pub plain_at : (e : Endpoint) (tag : ℕ) (chunk : Plain) (o : Outcome) → comes_early e (plain chunk) ≡ false → violation_by_core e.core chunk ≡ None → PlainTurnUnlessViolating e chunk None o
    → ContentTurn e tag (plain chunk) o
plain_at e tag chunk o late none turn = late_at e tag (plain chunk) o late (plain_as e chunk o none turn)

-- ---- a violation

aborting_drops : (e : Endpoint) (core : Core) (chunk : Plain) (violation : Violation) → violation_by_core core chunk ≡ Some violation
    → (aborting_outcome e core (reasons.Violation violation)).following ≡ dropped_rest
aborting_drops e closed chunk violation is = absurd (cc)
aborting_drops e (cookie_wait my) chunk violation is = absurd (cc)
aborting_drops e (cookie_echoed my held cookie) chunk violation is = refl
aborting_drops e (open_in phase my held) chunk violation is = refl

-- Only a chunk that speaks of no association breaks the protocol.
violates : (e : Endpoint) (tag : ℕ) (content : Content) (violation : Violation) → comes_early e content ≡ false → violation_of_content e.core content ≡ Some violation
    → ContentTurn e tag content (aborting_outcome e e.core (reasons.Violation violation)) × ((aborting_outcome e e.core (reasons.Violation violation)).following ≡ dropped_rest)
violates e tag (init theirs) violation late is = absurd (cc)
violates e tag (init_ack theirs cookie) violation late is = absurd (cc)
violates e tag (cookie_echo cookie) violation late is = absurd (cc)
violates e tag cookie_ack violation late is = absurd (cc)
violates e tag (re_config parameters) violation late is = absurd (cc)
violates e tag (abort reflected causes) violation late is = absurd (cc)
violates e tag (shutdown tsn) violation late is = absurd (cc)
violates e tag shutdown_ack violation late is = absurd (cc)
violates e tag (shutdown_complete reflected) violation late is = absurd (cc)
violates e tag (plain chunk) violation late is = (
  late_at e tag (plain chunk) _ late (subst (λ (v : Option Violation). PlainTurnUnlessViolating e chunk v (aborting_outcome e e.core (reasons.Violation violation))) (sym is) refl),
  aborting_drops e e.core chunk violation is,
)

-- what is known of a chunk in memory, once its kind is
pub late_for : (e : Endpoint) (x y : Chunk) → x ≡ y → comes_early e (content_of_chunk (chunk_content x)) ≡ false → comes_early e (content_of_chunk (chunk_content y)) ≡ false
late_for e x y is late = subst (λ (c : Chunk). comes_early e (content_of_chunk (chunk_content c)) ≡ false) is late

pub none_for : (core : Core) (x y : Chunk) → x ≡ y → violation_of_content core (content_of_chunk (chunk_content x)) ≡ None → violation_of_content core (content_of_chunk (chunk_content y)) ≡ None
none_for core x y is none = subst (λ (c : Chunk). violation_of_content core (content_of_chunk (chunk_content c)) ≡ None) is none

pub violation_worked : {R : Type 0} (stream : R → Stream) (old new : View R) (tag : ℕ) (content : Content) (violation : Violation) → comes_early old.endpoint content ≡ false → violation_of_content old.endpoint.core content ≡ Some violation
    → Moves stream old (aborting_turn (reasons.Violation violation) old) new → ChunkMoves stream tag content old DroppedRest new
violation_worked stream old new tag content violation late is moves =
    let turn = violates old.endpoint tag content violation late is in
    record { outcome = aborting_turn (reasons.Violation violation) old; turn = turn.0; following = turn.1; moves = moves }

pub violation_cut : {R : Type 0} (old : View R) (tag : ℕ) (content : Content) (violation : Violation) (events : List (Event (List ℕ))) → comes_early old.endpoint content ≡ false → violation_of_content old.endpoint.core content ≡ Some violation
    → CutsTurn old (aborting_turn (reasons.Violation violation) old) events → CutsChunk tag content old events
violation_cut old tag content violation events late is cut =
    record { outcome = aborting_turn (reasons.Violation violation) old; turn = (violates old.endpoint tag content violation late is).0; cut = cut }

-- ---- the chunks of a shutdown

-- No association that is set up awaits a SHUTDOWN ACK.
reflects : (e : Endpoint) (core : Core) (tag : ℕ) → is_open_core core ≡ false → reflected_outcome e tag ≡ shutdown_ack_outcome e core tag
reflects e closed tag shut = refl
reflects e (cookie_wait my) tag shut = refl
reflects e (cookie_echoed my held cookie) tag shut = refl
reflects e (open_in phase my held) tag shut = absurd (cc)

pub moves_none : {R : Type 0} (stream : R → Stream) (view : View R) → MovesAll stream view [] view
moves_none stream view = record { endpoint = refl; events = sym (append-nil view.events); words = sym (append-nil view.words); pairs = sym (append-nil view.pairs); drawn = refl }

-- as a packet's one
ack_goes_on : {R : Type 0} (stream : R → Stream) (old new : View R) (tag : ℕ) → is_open_core old.endpoint.core ≡ false
    → IsHandledTurn stream old (reflected_turn tag old) NextChunk new → AckMoves stream tag shutdown_ack old new
ack_goes_on stream old new tag shut h =
    let turn : Transition = worked_as tag shutdown_ack (reflected_turn tag old) in
    record {
      turns = turn ∷ [];
      goes_on = (h.following, tt);
      are = and_further old.endpoint tag shutdown_ack [] [] turn [] h.following (record { is = refl; comes = reflects old.endpoint old.endpoint.core tag shut }) tt;
      moves = moves_one stream old new turn h.moves;
      core = ap (λ (e : Endpoint). e.core) h.moves.endpoint;
    }

ack_ends : {R : Type 0} (stream : R → Stream) (old new : View R) (tag : ℕ) → is_open_core old.endpoint.core ≡ false
    → IsHandledTurn stream old (reflected_turn tag old) PacketEnd new → AckEnds stream tag shutdown_ack old new
ack_ends stream old new tag shut h =
    let turn : Transition = worked_as tag shutdown_ack (reflected_turn tag old) in
    record {
      is = refl;
      turn = turn;
      comes = record { is = refl; comes = reflects old.endpoint old.endpoint.core tag shut };
      ends = h.following;
      moves = moves_one stream old new turn h.moves;
    }

never_drops : (b : Bool) → (if b then packet_end else next_chunk) ≡ dropped_rest → ⊥
never_drops true is = cc
never_drops false is = cc

ack_by : {R E : Type 0} (stream : R → Stream) (old new : Context R) (tag : ℕ) (result : Result Following E) → is_open_core (core_of old.state) ≡ false
    → HandlesTurn stream (reflected_turn tag) old result new → OnErr result (view_of new ≡ view_of old) → HandlesAck stream tag shutdown_ack old result new
ack_by stream old new tag (Ok NextChunk) shut h same = ack_goes_on stream (view_of old) (view_of new) tag shut h
ack_by stream old new tag (Ok PacketEnd) shut h same = ack_ends stream (view_of old) (view_of new) tag shut h
ack_by stream old new tag (Ok DroppedRest) shut h same = absurd (never_drops old.options.follow_rfc h.following)
ack_by stream old new tag (Err error) shut h same = same

pub ack_done : {R E : Type 0} (stream : R → Stream) (old new : Context R) (tag : ℕ) (chunk : Chunk) (result : Result Following E) → is_open_core (core_of old.state) ≡ false → chunk ≡ kinds.ShutdownAck
    → HandlesTurn stream (reflected_turn tag) old result new → OnErr result (view_of new ≡ view_of old) → HandlesAck stream tag (content_of_chunk (chunk_content chunk)) old result new
ack_done stream old new tag chunk result shut is h same =
    subst (λ (c : Chunk). HandlesAck stream tag (content_of_chunk (chunk_content c)) old result new) (sym is) (ack_by stream old new tag result shut h same)

pub not_ack : {R : Type 0} (stream : R → Stream) (view : View R) (tag : ℕ) (chunk : Chunk) → (chunk ≡ kinds.ShutdownAck → ⊥) → AckMoves stream tag (content_of_chunk (chunk_content chunk)) view view
not_ack stream view tag chunk other =
    record {
      turns = [];
      goes_on = tt;
      are = subst (λ (contents : List Content). ChunkTurns view.endpoint tag contents [] []) (sym (no_ack chunk other)) tt;
      moves = moves_none stream view;
      core = refl;
    }

-- ---- one that isn't known

pub unknown_is : {R : Type 0} (context : Context R) (tag type flags : ℕ) (value : List ℕ) → violation_by_core (core_of context.state) (unknown type flags value) ≡ None
    → ContentTurn (endpoint_of context) tag (plain (unknown type flags value)) (unknown_turn type flags value (view_of context))
unknown_is context tag type flags value none = plain_as (endpoint_of context) (unknown type flags value) (unknown_turn type flags value (view_of context)) none refl

-- ---- heartbeats

-- What a handler says without naming what follows: the next chunk does.
pub tries_worked : {R : Type 0} (stream : R → Stream) (old new : Context R) (tag : ℕ) (content : Content) (outcome : Outcome) → ContentTurn (endpoint_of old) tag content outcome
    → outcome.following ≡ next_chunk → Moves stream (view_of old) outcome (view_of new) → ChunkMoves stream tag content (view_of old) NextChunk (view_of new)
tries_worked stream old new tag content outcome turn follows moves = record { outcome = outcome; turn = turn; following = follows; moves = moves }

pub tries_cut : {R : Type 0} (old : Context R) (new : View R) (tag : ℕ) (content : Content) (outcome : Outcome) → ContentTurn (endpoint_of old) tag content outcome → new ≡ view_of old
    → CutsChunk tag content (view_of old) new.events
tries_cut {R = R} old new tag content outcome turn same =
    record {
      outcome = outcome;
      turn = turn;
      cut = record { count = 0; added = ap (λ (v : View R). v.events) same ∙ sym (append-nil (view_of old).events) };
    }

sent_follows : (b : Bool) (e : Endpoint) (emission : Emission) → (cond b (sends e [] [] emission) (quiet e [] [])).following ≡ next_chunk
sent_follows true e emission = refl
sent_follows false e emission = refl

answer_follows : (e : Endpoint) (emission : Emission) → (answers_with e emission).following ≡ next_chunk
answer_follows e emission = answered_by (λ (o : Outcome). o.following ≡ next_chunk) e emission refl (sent_follows (fits e emission) e emission)

pub heartbeat_follows : (e : Endpoint) (core : Core) (parameters : List ParameterContent) → (heartbeat_outcome e core parameters).following ≡ next_chunk
heartbeat_follows e closed parameters = refl
heartbeat_follows e (cookie_wait my) parameters = refl
heartbeat_follows e (cookie_echoed my held cookie) parameters = answer_follows e (to_peer held (plain (heartbeat_ack parameters)))
heartbeat_follows e (open_in phase my held) parameters = answer_follows e (to_peer held (plain (heartbeat_ack parameters)))

counted_follows : (b : Bool) (e : Endpoint) → (cond b (still (endpoint_answered e)) (still e)).following ≡ next_chunk
counted_follows true e = refl
counted_follows false e = refl

pub heartbeat_ack_follows : (e : Endpoint) (counter : Option ℕ) → (heartbeat_ack_outcome e counter).following ≡ next_chunk
heartbeat_ack_follows e None = refl
heartbeat_ack_follows e (Some counter) = counted_follows (counter == e.heartbeat_counter) e

pub heartbeat_is : {R : Type 0} (context : Context R) (tag : ℕ) (parameters : List ParameterContent) → violation_by_core (core_of context.state) (heartbeat parameters) ≡ None
    → ContentTurn (endpoint_of context) tag (plain (heartbeat parameters)) (heartbeat_turn parameters (view_of context))
heartbeat_is context tag parameters none = plain_as (endpoint_of context) (heartbeat parameters) (heartbeat_turn parameters (view_of context)) none refl

pub heartbeat_ack_is : {R : Type 0} (context : Context R) (tag : ℕ) (parameters : List ParameterContent) → violation_by_core (core_of context.state) (heartbeat_ack parameters) ≡ None
    → ContentTurn (endpoint_of context) tag (plain (heartbeat_ack parameters)) (heartbeat_ack_turn parameters (view_of context))
heartbeat_ack_is context tag parameters none = plain_as (endpoint_of context) (heartbeat_ack parameters) (heartbeat_ack_turn parameters (view_of context)) none refl

-- ---- an ERROR

pub error_is : {R : Type 0} (context : Context R) (tag : ℕ) (causes : List Cause) → violation_by_core (core_of context.state) (unworked (error_chunk causes)) ≡ None
    → ContentTurn (endpoint_of context) tag (plain (unworked (error_chunk causes))) (error_turn causes (view_of context))
error_is context tag causes none = plain_as (endpoint_of context) (unworked (error_chunk causes)) (error_turn causes (view_of context)) none refl

-- ---- turns that may turn out in more than one way

-- What a handler says without naming what follows: the next chunk does.
pub takes_worked : {R : Type 0} (stream : R → Stream) (old new : View R) (tag : ℕ) (content : Content) (Took : View R → Outcome → Type 0)
    → ((o : Outcome) → Took old o → ContentTurn old.endpoint tag content o) → ((o : Outcome) → Took old o → o.following ≡ next_chunk) → TakesPossibleTurn stream Took old new
    → ChunkMoves stream tag content old NextChunk new
takes_worked stream old new tag content Took is follows took =
    record { outcome = took.outcome; turn = is took.outcome took.turn; following = follows took.outcome took.turn; moves = took.moves }

pub takes_cut : {R : Type 0} (old : View R) (tag : ℕ) (content : Content) (Took : View R → Outcome → Type 0) (events : List (Event (List ℕ)))
    → ((o : Outcome) → Took old o → ContentTurn old.endpoint tag content o) → CutsSomeTurn Took old events → CutsChunk tag content old events
takes_cut old tag content Took events is cut = record { outcome = cut.outcome; turn = is cut.outcome cut.turn; cut = cut.cut }
