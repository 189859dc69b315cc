-- A packet of some chunks that its reader takes: it is counted, its chunks have their turns, and it ends.
use Rattle.std.proofs.Common.{◌≡◌, ◌≢◌, ℕ, Bool, true, false, None, List, [], ◌∷◌, ◌⊎◌, map, drop, refl, sym, subst, ap, ◌∙◌}
use Rattle.std.specs.List.{AllByRecursion}
use Rattle.dcsctp_spec_lemmas.specs.wire.Content.{ChunkContent, data_chunk, init_chunk, init_ack_chunk, sack_chunk, heartbeat_chunk, heartbeat_ack_chunk, abort_chunk, shutdown_chunk, shutdown_ack_chunk, error_chunk, cookie_echo_chunk, cookie_ack_chunk, shutdown_complete_chunk, i_data_chunk, re_config_chunk, forward_tsn_chunk, i_forward_tsn_chunk, unknown_chunk}
use Rattle.dcsctp_spec_lemmas.specs.wire.Format.{IsPacket, is_cookie_echo}
use Rattle.dcsctp_spec_lemmas.specs.wire.ReadsBack.{HasMinima}
use Rattle.dcsctp_spec_lemmas.specs.types.declared.association.Held.{Held}
use Rattle.dcsctp_spec_lemmas.specs.types.declared.association.Pair.{Pair}
use Rattle.dcsctp_spec_lemmas.specs.types.declared.options.Options.{Options}
use Rattle.dcsctp_spec_lemmas.specs.types.Settings.{FitsOptions, ports_of, wire_options}
use Rattle.dcsctp_spec_lemmas.specs.spec.Packet.{Plain, unknown, heartbeat, heartbeat_ack, unworked, Content, init, init_ack, cookie_echo, cookie_ack, re_config, abort, shutdown, shutdown_ack, shutdown_complete, plain, Packet, Emission, chunk_out, packet_of_content, emission_bytes}
use Rattle.dcsctp_spec_lemmas.specs.spec.endpoint.Endpoint.{Endpoint, Core, open_in, established}
use Rattle.dcsctp_spec_lemmas.specs.spec.endpoint.Outcome.{Outcome, still}
use Rattle.dcsctp_spec_lemmas.specs.spec.endpoint.Following.{Following}
use Rattle.dcsctp_spec_lemmas.specs.spec.endpoint.Turn.{arrival, packet_begins, packet_ends, has_data_chunk, BeginTurn, arrival_outcome}
use Rattle.dcsctp_spec_lemmas.specs.spec.endpoint.MessageOutcomes.{awaits_opening}
use Rattle.dcsctp_spec_lemmas.specs.spec.endpoint.CallTurns.{asked_again, Transition, transition, Turns, AfterChunk, ChunkTurns, WholeTurns, AdmittedTurns, HandleInput, unreadable, readable, after_all, events_of}
use Rattle.dcsctp_spec_lemmas.specs.spec.Admission.{Admission, all_chunks, admits, first_abort, first_shutdown_complete, has_shutdown_ack, is_echo_in_front}
use Rattle.dcsctp_spec_runs.specs.Fitting.{Sendable, SendablePacket}
use Rattle.dcsctp_theorem_sockets.proofs.Deliver.{built, fields_fit, reads_as_sent}
use Rattle.dcsctp_theorem_sockets.proofs.HandshakeReads.{Wire, counted_at, turned_as}
use Rattle.dcsctp_theorem_progress.proofs.Carried.{IsAllowed, AreCarried}
use Rattle.dcsctp_theorem_progress.proofs.Flows.{HasPeer, is_open, peer_stays, Flows, AreCarriedFor, TellsCarried, tells_both}
use Rattle.dcsctp_theorem_progress.proofs.Constant.{KeepsTrying, same_trying, trying_then}
use Rattle.dcsctp_theorem_progress.proofs.Flushes.{Stays}
use Rattle.dcsctp_theorem_progress.proofs.Opened.{carried_stays, end_stays}

-- ---- along the turns

-- The association stays, OnConnected isn't told, and what is sent is taken by the peer.
pub record StayAlong (held : Held) (e : Endpoint) (turns : List Transition) : Type 0 where
  pub core : (after_all e turns).core ≡ e.core
  pub options : (after_all e turns).options ≡ e.options
  pub asked : (after_all e turns).shutdown_asked ≡ e.shutdown_asked
  pub flows : Flows held (after_all e turns)
  pub tells : TellsCarried held (events_of turns)
  pub trying : KeepsTrying e (after_all e turns)

pub stays_then : (held : Held) (e : Endpoint) (t : Transition) (turns : List Transition) → Stays held e t.outcome → StayAlong held t.outcome.after turns → StayAlong held e (t ∷ turns)
stays_then held e t turns first rest =
    record {
      core = rest.core ∙ first.core;
      options = rest.options ∙ first.options;
      asked = rest.asked ∙ first.asked;
      flows = rest.flows;
      tells = tells_both held t.outcome.events (events_of turns) first.tells rest.tells;
      trying = trying_then e t.outcome.after (after_all t.outcome.after turns) first.trying rest.trying;
    }

pub ended : (held : Held) (e : Endpoint) (turns : List Transition) → Flows held e → Turns e (packet_ends ∷ []) turns → StayAlong held e turns
ended held e [] f turns = absurd turns
ended held e (t ∷ []) f turns =
    let last : Stays held e t.outcome = end_stays held e f t.outcome turns.0.comes in
    stays_then held e t [] last (record { core = refl; options = refl; asked = refl; flows = last.flows; tells = record { told = λ n. refl; sent = tt }; trying = same_trying _ _ refl refl refl })
ended held e (t ∷ u ∷ ts) f turns = absurd turns.1

pub walked_on : (held : Held) (my : Pair) (e : Endpoint) (tag : ℕ) (contents : List Content) (turns : List Transition) → HasPeer my held e.core → Flows held e → AreCarriedFor held contents
    → ChunkTurns e tag contents (packet_ends ∷ []) turns → StayAlong held e turns
walked_on held my e tag [] turns opened f each h = ended held e turns f h
walked_on held my e tag (content ∷ contents) [] opened f each h = absurd h
walked_on held my e tag (content ∷ contents) (t ∷ ts) opened f each h =
    let first : Stays held e t.outcome = carried_stays held my e tag f content t.outcome opened each.0 h.0.comes in
    let rest : ChunkTurns t.outcome.after tag contents (packet_ends ∷ []) ts =
    subst (λ (next : Following). AfterChunk next (ChunkTurns t.outcome.after tag contents (packet_ends ∷ []) ts) (Turns t.outcome.after (packet_ends ∷ []) ts) (ts ≡ [])) first.following h.1 in
    stays_then held e t ts first (walked_on held my t.outcome.after tag contents ts (peer_stays my held e.core t.outcome.after.core first.core opened) first.flows each.1 rest)

pub walked : (held : Held) (my : Pair) (e : Endpoint) (tag : ℕ) (contents : List Content) (turns : List Transition) → e.core ≡ open_in established my held → Flows held e → AreCarriedFor held contents
    → ChunkTurns e tag contents (packet_ends ∷ []) turns → StayAlong held e turns
walked held my e tag contents turns opened f each h = walked_on held my e tag contents turns (is_open opened) f each h

-- ---- chunks that any reader takes

-- They have no minima, and none is a COOKIE ECHO, an ABORT or of a shutdown.
pub record AreOrdinary (contents : List Content) : Type 0 where
  pub minima : AllByRecursion HasMinima (map chunk_out contents)
  pub no_echo : AllByRecursion (λ (chunk : ChunkContent). is_cookie_echo chunk ≡ false) (map chunk_out contents)
  pub no_abort : first_abort contents ≡ None
  pub no_complete : first_shutdown_complete contents ≡ None
  pub no_ack : has_shutdown_ack contents ≡ false

ordinary_then : (chunk : Plain) (contents : List Content) → HasMinima (chunk_out (plain chunk)) → is_cookie_echo (chunk_out (plain chunk)) ≡ false → AreOrdinary contents → AreOrdinary (plain chunk ∷ contents)
ordinary_then chunk contents minima echo h = record { minima = (minima, h.minima); no_echo = (echo, h.no_echo); no_abort = h.no_abort; no_complete = h.no_complete; no_ack = h.no_ack }

ordinary_plain : (m n : Bool) (chunk : Plain) (contents : List Content) → IsAllowed m n chunk → AreOrdinary contents → AreOrdinary (plain chunk ∷ contents)
ordinary_plain m n (unworked (data_chunk chunk)) contents may h = ordinary_then (unworked (data_chunk chunk)) contents tt refl h
ordinary_plain m n (unworked (i_data_chunk chunk)) contents may h = ordinary_then (unworked (i_data_chunk chunk)) contents tt refl h
ordinary_plain m n (unworked (sack_chunk chunk)) contents may h = ordinary_then (unworked (sack_chunk chunk)) contents tt refl h
ordinary_plain m n (unworked (error_chunk causes)) contents may h = ordinary_then (unworked (error_chunk causes)) contents tt refl h
ordinary_plain m n (unworked (forward_tsn_chunk tsn streams)) contents may h = ordinary_then (unworked (forward_tsn_chunk tsn streams)) contents tt refl h
ordinary_plain m n (unworked (i_forward_tsn_chunk tsn streams)) contents may h = ordinary_then (unworked (i_forward_tsn_chunk tsn streams)) contents tt refl h
ordinary_plain m n (unworked (init_chunk c)) contents may h = absurd may
ordinary_plain m n (unworked (init_ack_chunk c)) contents may h = absurd may
ordinary_plain m n (unworked (heartbeat_chunk c)) contents may h = absurd may
ordinary_plain m n (unworked (heartbeat_ack_chunk c)) contents may h = absurd may
ordinary_plain m n (unworked (abort_chunk t c)) contents may h = absurd may
ordinary_plain m n (unworked (shutdown_chunk c)) contents may h = absurd may
ordinary_plain m n (unworked shutdown_ack_chunk) contents may h = absurd may
ordinary_plain m n (unworked (cookie_echo_chunk c)) contents may h = absurd may
ordinary_plain m n (unworked cookie_ack_chunk) contents may h = absurd may
ordinary_plain m n (unworked (shutdown_complete_chunk c)) contents may h = absurd may
ordinary_plain m n (unworked (re_config_chunk c)) contents may h = absurd may
ordinary_plain m n (unworked (unknown_chunk t g v)) contents may h = absurd may
ordinary_plain m n (unknown t g v) contents may h = absurd may
ordinary_plain m n (heartbeat c) contents may h = ordinary_then (heartbeat c) contents tt refl h
ordinary_plain m n (heartbeat_ack c) contents may h = ordinary_then (heartbeat_ack c) contents tt refl h

pub are_ordinary : (m n : Bool) (contents : List Content) → AreCarried m n contents → AreOrdinary contents
are_ordinary m n [] each = record { minima = tt; no_echo = tt; no_abort = refl; no_complete = refl; no_ack = refl }
are_ordinary m n (plain chunk ∷ contents) each = ordinary_plain m n chunk contents each.0.allowed (are_ordinary m n contents each.1)
are_ordinary m n (init c ∷ contents) each = absurd each.0.allowed
are_ordinary m n (init_ack c k ∷ contents) each = absurd each.0.allowed
are_ordinary m n (cookie_echo c ∷ contents) each = absurd each.0.allowed
are_ordinary m n (cookie_ack ∷ contents) each = absurd each.0.allowed
are_ordinary m n (re_config c ∷ contents) each = absurd each.0.allowed
are_ordinary m n (abort t c ∷ contents) each = absurd each.0.allowed
are_ordinary m n (shutdown t ∷ contents) each = absurd each.0.allowed
are_ordinary m n (shutdown_ack ∷ contents) each = absurd each.0.allowed
are_ordinary m n (shutdown_complete t ∷ contents) each = absurd each.0.allowed

pub carried_sendable : (m n : Bool) (contents : List Content) → AreCarried m n contents → AllByRecursion Sendable contents
carried_sendable m n [] each = tt
carried_sendable m n (content ∷ contents) each = (each.0.sendable, carried_sendable m n contents each.1)

pub no_front : (m n : Bool) (contents : List Content) → AreCarried m n contents → is_echo_in_front contents ≡ false
no_front m n [] each = refl
no_front m n (plain chunk ∷ contents) each = refl
no_front m n (init c ∷ contents) each = refl
no_front m n (init_ack c k ∷ contents) each = refl
no_front m n (cookie_echo c ∷ contents) each = absurd each.0.allowed
no_front m n (cookie_ack ∷ contents) each = refl
no_front m n (re_config c ∷ contents) each = refl
no_front m n (abort t c ∷ contents) each = refl
no_front m n (shutdown t ∷ contents) each = refl
no_front m n (shutdown_ack ∷ contents) each = refl
no_front m n (shutdown_complete t ∷ contents) each = refl

pub tail_no_echo : (chunks : List ChunkContent) → AllByRecursion (λ (chunk : ChunkContent). is_cookie_echo chunk ≡ false) chunks
    → AllByRecursion (λ (chunk : ChunkContent). is_cookie_echo chunk ≡ false) (drop 1 chunks)
tail_no_echo [] each = tt
tail_no_echo (chunk ∷ chunks) each = each.1

-- ---- a packet is read

-- Its reader takes it, as one socket sends it to the other.
pub record IsTakenWhole (mine theirs : Options) (emission : Emission) : Type 0 where
  pub fits : FitsOptions theirs
  pub sendable : SendablePacket emission.packet
  pub minima : AllByRecursion HasMinima (map chunk_out emission.packet.contents)
  pub echo_in_front : AllByRecursion (λ (chunk : ChunkContent). is_cookie_echo chunk ≡ false) (drop 1 (map chunk_out emission.packet.contents))
  pub to_this_port : mine.local_port ≡ theirs.remote_port
  pub checked : (emission.with_checksum ≡ true) ⊎ (mine.zero_checksum_alternate_error_detection_method.0 ≢ 0)

is_read : Wire → (mine theirs : Options) (emission : Emission) → IsTakenWhole mine theirs emission
    → IsPacket (wire_options mine) (built (ports_of theirs) emission.packet) (emission_bytes (ports_of theirs) emission)
is_read law mine theirs emission h =
    law.back (wire_options mine) emission.with_checksum (built (ports_of theirs) emission.packet)
    (record { fields = fields_fit theirs emission.packet h.fits h.sendable; minima = h.minima; echo_in_front = h.echo_in_front })
    (record { to_this_port = h.to_this_port; checked = h.checked })

-- It is counted, nothing happens before its chunks, and it ends.
pub record WholeTaken (e : Endpoint) (packet : Packet) (turns : List Transition) : Type 0 where
  pub rest : List Transition
  pub parts : turns ≡ transition arrival (arrival_outcome e) ∷ transition (packet_begins packet.contents) (still (counted_at e)) ∷ rest
  pub chunks : ChunkTurns (counted_at e) packet.tag packet.contents (packet_ends ∷ []) rest

whole_turns : (e : Endpoint) (packet : Packet) (turns : List Transition) → awaits_opening e e.core ≡ false
    → ((o : Outcome) → BeginTurn (counted_at e) e.core (has_data_chunk e.options.follow_rfc packet.contents) o → o ≡ still (counted_at e))
    → WholeTurns (counted_at e) packet turns → WholeTaken e packet (transition arrival (arrival_outcome e) ∷ turns)
whole_turns e packet [] none rests turns = absurd turns
whole_turns e packet (begun ∷ ts) none rests turns =
    let first : begun ≡ transition (packet_begins packet.contents) (still (counted_at e)) = turned_as begun (packet_begins packet.contents) (still (counted_at e)) turns.0.is (rests begun.outcome turns.0.comes) in
    let asked : ChunkTurns (counted_at e) packet.tag packet.contents (packet_ends ∷ asked_again (awaits_opening (counted_at e) e.core)) ts =
    subst (λ (t : Transition). ChunkTurns t.outcome.after packet.tag packet.contents (packet_ends ∷ asked_again (awaits_opening t.outcome.after t.outcome.after.core)) ts) first turns.1 in
    record {
      rest = ts;
      parts = ap (λ (t : Transition). transition arrival (arrival_outcome e) ∷ t ∷ ts) first;
      chunks = subst (λ (asks : Bool). ChunkTurns (counted_at e) packet.tag packet.contents (packet_ends ∷ asked_again asks) ts) (counted_none e e.core none) asked;
    }
  where
    counted_none : (e : Endpoint) (core : Core) → awaits_opening e core ≡ false → awaits_opening (counted_at e) core ≡ false
    counted_none e core none = none

pub whole_taken : Wire → (e : Endpoint) (theirs : Options) (emission : Emission) (turns : List Transition) → IsTakenWhole e.options theirs emission → admits e.core emission.packet ≡ all_chunks
    → awaits_opening e e.core ≡ false
    → ((o : Outcome) → BeginTurn (counted_at e) e.core (has_data_chunk e.options.follow_rfc emission.packet.contents) o → o ≡ still (counted_at e))
    → HandleInput e (emission_bytes (ports_of theirs) emission) turns → WholeTaken e emission.packet turns
whole_taken law e theirs emission turns h admitted none rests (unreadable ts unread reads) = absurd (unread _ (is_read law e.options theirs emission h))
whole_taken law e theirs emission turns h admitted none rests (readable packet counted ts is_packet counting reads) =
    let is : packet_of_content packet ≡ emission.packet = reads_as_sent law.as_itself e.options theirs emission packet h.fits h.sendable is_packet in
    let counts : counted ≡ transition arrival (arrival_outcome e) = turned_as counted arrival (arrival_outcome e) counting.is counting.comes in
    let here : AdmittedTurns counted.outcome.after emission.packet (admits e.core emission.packet) ts = subst (λ (p : Packet). AdmittedTurns counted.outcome.after p (admits e.core p) ts) is reads in
    let whole : WholeTurns counted.outcome.after emission.packet ts = subst (λ (a : Admission). AdmittedTurns counted.outcome.after emission.packet a ts) admitted here in
    let at : WholeTurns (counted_at e) emission.packet ts = subst (λ (t : Transition). WholeTurns t.outcome.after emission.packet ts) counts whole in
    subst (λ (t : Transition). WholeTaken e emission.packet (t ∷ ts)) (sym counts) (whole_turns e emission.packet ts none rests at)
