-- Every turn of the association: what the user and the timers bring, and each chunk.
use Rattle.std.specs.Prelude.{◌≡◌, ℕ, Bool, true, false, Option, None, Some, List, [], ◌∷◌, ◌++◌}
use Rattle.dcsctp_types.specs.declared.association.Pair.{Pair}
use Rattle.dcsctp_types.specs.declared.association.Held.{Held}
use Rattle.dcsctp_types.specs.declared.options.Options.{Options}
use Rattle.dcsctp_types.specs.declared.ends.AbortReason.{AbortReason}
use Rattle.dcsctp_spec.specs.endpoint.Cause.{causes_of}
use Rattle.dcsctp_spec.specs.Reconfiguration.{RequestedReset, renewed_reset}
use Rattle.dcsctp_spec.specs.Packet.{Content, init, init_ack, cookie_echo, cookie_ack, re_config, abort, shutdown, shutdown_ack, shutdown_complete, plain}
use Rattle.dcsctp_spec.specs.endpoint.Endpoint.{Core, closed, cookie_wait, cookie_echoed, open_in, OpenPhase, established}
use Rattle.dcsctp_spec.specs.endpoint.Following.{Following, next_chunk}
use Rattle.dcsctp_spec.specs.association.Effect.{Effect, begins, gives_up, Change, no_change, ending_change, emission_effects, emitted_alone}
use Rattle.dcsctp_spec.specs.association.Choices.{Choices}
use Rattle.dcsctp_spec.specs.association.FlushChanges.{FlushResult, further_packets, flush, held_asking, reset_request}
use Rattle.dcsctp_spec.specs.association.HandshakeChanges.{IsCookieOf, answering_pair, connect_change, answered_init_change, init_ack_change, cookie_ack_change, t1_again_change, t1_gives_up_change}
use Rattle.dcsctp_spec.specs.association.CookieEchoChanges.{cookie_echo_change}
use Rattle.dcsctp_spec.specs.association.ResetChanges.{re_config_change}
use Rattle.dcsctp_spec.specs.association.ShutdownChanges.{shutdown_step_change, shutdown_call_change, abort_call_change, shutdown_again_change, abort_change, shutdown_change, shutdown_ack_change, shutdown_complete_change}

-- ---- what comes from the user and the timers

pub data Act : Type 0 where
  connect : Act
  -- T1 expired, with restarts left or without
  t1_expires : Bool → Act
  -- the user's shutdown
  shut_down : Act
  -- a step of it. Here at any time; a socket steps only after what may have acknowledged the last data.
  step_of_shutdown : Act
  -- T2 expired, or data came while a SHUTDOWN waits for its answer. Here at any time, any number of times.
  shutdown_repeats : Act
  -- The own end aborts for this reason. Here at any time; a socket does so on the user's close, and later on too many errors.
  abort_with : AbortReason → Act
  -- The association is handed over to another socket. Here wherever it is Established; a socket requires more (nothing in flight,
  -- no reset under way).
  hands_over : Act
  -- a flush, and before it packets that don't concern the association: those of timers and of the packet's end. Here of any
  -- number of packets; a socket sends one at most while its COOKIE ECHO isn't answered.
  flushes : Act
  -- The outstanding request is sent again. Here at any time, with any last TSN and streams; a socket does it when its timer
  -- expires, with those that it had.
  request_again : RequestedReset → Act
  -- The outstanding request is sent again under the next number, which takes its place. Here at any time, with any last TSN and
  -- streams; a socket does it where its timer expires, the peer has answered that it is in progress, and the RFCs' rules apply.
  request_renewed : RequestedReset → Act

-- packets that don't concern the association, and then a flush
abbrev pub sent_then_flushed : Held → Choices → FlushResult
sent_then_flushed held choices =
    let after : FlushResult = flush held.peer.tag held [] choices.filling in
    record { held = after.held; effects = further_packets held.peer.tag choices.plain ++ after.effects }

abbrev pub flush_change : Core → Choices → Change
flush_change (cookie_echoed my held cookie) choices =
    let after : FlushResult = sent_then_flushed held choices in
    record { core = cookie_echoed my after.held cookie; effects = after.effects; following = next_chunk }
flush_change (open_in phase my held) choices =
    let after : FlushResult = sent_then_flushed held choices in
    record { core = open_in phase my after.held; effects = after.effects; following = next_chunk }
flush_change core choices = no_change core

-- An association that is open and not shutting down can be handed over: it is closed here, and nothing is sent to the peer.
abbrev pub hand_over_change_by_phase : OpenPhase → Pair → Held → Change
hand_over_change_by_phase established my held = ending_change []
hand_over_change_by_phase phase my held = no_change (open_in phase my held)

abbrev pub hand_over_change : Core → Change
hand_over_change (open_in phase my held) = hand_over_change_by_phase phase my held
hand_over_change core = no_change core

-- under its number (RFC 6525, section 5.1.1)
abbrev pub request_sent : Held → Option ℕ → RequestedReset → Bool → List Effect
request_sent held None reset fits = []
request_sent held (Some number) reset fits = emitted_alone fits held.peer.tag (reset_request number reset)

abbrev pub request_again_change : Core → RequestedReset → Bool → Change
request_again_change (cookie_echoed my held cookie) reset fits =
    record { core = cookie_echoed my held cookie; effects = request_sent held held.own_outstanding reset fits; following = next_chunk }
request_again_change (open_in phase my held) reset fits =
    record { core = open_in phase my held; effects = request_sent held held.own_outstanding reset fits; following = next_chunk }
request_again_change core reset fits = no_change core

-- Its number is given up, and the next one is begun.
abbrev pub renewed_if_fitting : Held → Option ℕ → RequestedReset → Bool → FlushResult
renewed_if_fitting held None reset fits = record { held = held; effects = [] }
renewed_if_fitting held (Some number) reset false = record { held = held; effects = [] }
renewed_if_fitting held (Some number) reset true =
    record {
      held = held_asking held;
      effects = gives_up number ∷ begins held.own_next ∷ emission_effects held.peer.tag (reset_request held.own_next (renewed_reset reset) ∷ []);
    }

abbrev pub request_renewed_change : Core → RequestedReset → Bool → Change
request_renewed_change (cookie_echoed my held cookie) reset fits =
    let after : FlushResult = renewed_if_fitting held held.own_outstanding reset fits in
    record { core = cookie_echoed my after.held cookie; effects = after.effects; following = next_chunk }
request_renewed_change (open_in phase my held) reset fits =
    let after : FlushResult = renewed_if_fitting held held.own_outstanding reset fits in
    record { core = open_in phase my after.held; effects = after.effects; following = next_chunk }
request_renewed_change core reset fits = no_change core

abbrev pub act_change : Options → Core → Act → Choices → Change
act_change options core connect choices = connect_change options core choices
act_change options core (t1_expires true) choices = t1_again_change options core choices
act_change options core (t1_expires false) choices = t1_gives_up_change core
act_change options core shut_down choices = shutdown_call_change options core choices.tsn choices.is_acknowledged
act_change options core step_of_shutdown choices = shutdown_step_change core choices.tsn choices.is_acknowledged
act_change options core shutdown_repeats choices = shutdown_again_change core choices.tsn
act_change options core (abort_with reason) choices = abort_call_change core (causes_of reason) choices.fits
act_change options core hands_over choices = hand_over_change core
act_change options core flushes choices = flush_change core choices
act_change options core (request_again reset) choices = request_again_change core reset choices.fits
act_change options core (request_renewed reset) choices = request_renewed_change core reset choices.fits

-- ---- chunks

-- one change after another
abbrev pub then_changes : Change → Change → Following → Change
then_changes first second following = record { core = second.core; effects = first.effects ++ second.effects; following = following }

-- A violation counts if the peer is known.
abbrev pub violation_change : Core → Choices → Change
violation_change closed choices = no_change closed
violation_change (cookie_wait my) choices = no_change (cookie_wait my)
violation_change core choices = abort_call_change core choices.causes choices.fits

-- A chunk that doesn't concern the association. If it breaks the negotiated protocol, the association is aborted; so it is,
-- without an ABORT, where the peer says that our cookie was too old. Else the chunk may acknowledge the last data that a shutdown waits for, be answered, and let data be sent.
abbrev pub plain_change : Core → Bool → Choices → Change
plain_change core true choices = violation_change core choices
plain_change core false choices =
    let stepped : Change = shutdown_step_change core choices.tsn choices.is_acknowledged in
    then_changes stepped (flush_change stepped.core choices) choices.following

-- A SHUTDOWN may acknowledge what is in flight, and let data be sent.
abbrev pub shutdown_chunk_change : Core → Choices → Change
shutdown_chunk_change core choices =
    let stepped : Change = shutdown_change core choices.tsn choices.is_acknowledged in
    then_changes stepped (flush_change stepped.core choices) next_chunk

-- a chunk of a packet with this header tag
abbrev pub chunk_change : Options → Core → ℕ → Content → Choices → Change
chunk_change options core header (init theirs) choices = answered_init_change choices.may_answer options core theirs choices
chunk_change options core header (init_ack theirs cookie) choices = init_ack_change options core theirs cookie choices
chunk_change options core header (cookie_echo cookie) choices = cookie_echo_change options core header cookie choices
chunk_change options core header cookie_ack choices = cookie_ack_change core choices
chunk_change options core header (re_config parameters) choices = re_config_change options.follow_rfc core parameters choices
chunk_change options core header (abort reflected causes) choices = abort_change options core
chunk_change options core header (shutdown cumulative_tsn) choices = shutdown_chunk_change core choices
chunk_change options core header shutdown_ack choices = shutdown_ack_change core header choices.following
chunk_change options core header (shutdown_complete reflected) choices = shutdown_complete_change core
chunk_change options core header (plain chunk) choices = plain_change core choices.is_violation choices

-- The choices are such that a cookie that is made reads back. If an INIT is answered without one, a cookie exists that would.
abbrev pub MakesCookie : Core → Content → Choices → Type 0
MakesCookie core (init theirs) choices = IsCookieOf theirs (answering_pair core choices.drawn) choices.cookie
MakesCookie core content choices = Unit {0}

-- one chunk
abbrev pub ChunkChange : Options → Core → ℕ → Content → Change → Type 0
ChunkChange options core header content change =
    (choices : Choices) × MakesCookie core content choices × (change ≡ chunk_change options core header content choices)
