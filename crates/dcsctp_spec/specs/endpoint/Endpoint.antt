-- What a socket is between two turns (RFC 9260, sections 4 and 5).
use Rattle.std.specs.Prelude.{◌==◌, ℕ, ◌+◌, ◌*◌, ◌/◌, ◌%◌, ◌^◌, min, Bool, true, false, not, ◌&&◌, if◌then◌else◌, Option, None, Some, List, []}
use Rattle.std.specs.Duration.{as_nanos, max_nanos}
use Rattle.dcsctp_spec.specs.endpoint.Timers.{TimerSettings, RunningTimer, started_timer, longest_wait}
use Rattle.dcsctp_spec.specs.queues.Transfer.{EndpointQueues, empty_queues}
use Rattle.dcsctp_spec.specs.Reconfiguration.{NumberedReset}
use Rattle.dcsctp_types.specs.declared.association.Pair.{Pair}
use Rattle.dcsctp_types.specs.declared.association.Held.{Held}
use Rattle.dcsctp_types.specs.declared.association.Association.{Association}
use Rattle.dcsctp_types.specs.declared.association.Phase.{Phase}
use Rattle.dcsctp_types.specs.declared.association.Phase.TheVariants as phases
use Rattle.dcsctp_types.specs.declared.kinds.BackoffAlgorithm.TheVariants.{Fixed, Exponential}
use Rattle.dcsctp_types.specs.declared.kinds.SctpImplementation.{SctpImplementation}
use Rattle.dcsctp_types.specs.declared.kinds.SctpImplementation.TheVariants.{Unknown}
use Rattle.dcsctp_types.specs.declared.options.Options.{Options}
use Rattle.dcsctp_types.specs.queues.Messages.{MessageContent}

-- the phases in which an association is open: COOKIE ECHO or COOKIE ACK has come
pub data OpenPhase : Type 0 where
  established : OpenPhase
  shutdown_pending : OpenPhase
  shutdown_sent : OpenPhase
  shutdown_received : OpenPhase
  shutdown_ack_sent : OpenPhase

-- The association, and nothing else of the endpoint.
pub data Core : Type 0 where
  closed : Core
  cookie_wait : Pair → Core
  -- with the bytes of the cookie that is echoed
  cookie_echoed : Pair → Held → List ℕ → Core
  open_in : OpenPhase → Pair → Held → Core

abbrev pub phase_of : OpenPhase → Phase
phase_of established = phases.Established
phase_of shutdown_pending = phases.ShutdownPending
phase_of shutdown_sent = phases.ShutdownSent
phase_of shutdown_received = phases.ShutdownReceived
phase_of shutdown_ack_sent = phases.ShutdownAckSent

-- what a socket shows of it
abbrev pub association_of : Core → Option Association
association_of closed = None
association_of (cookie_wait my) = Some (record { phase = phases.CookieWait; my = my; held = None })
association_of (cookie_echoed my held cookie) = Some (record { phase = phases.CookieEchoed; my = my; held = Some held })
association_of (open_in phase my held) = Some (record { phase = phase_of phase; my = my; held = Some held })

-- its own verification tag, 0 if there is none
abbrev pub own_tag : Core → ℕ
own_tag closed = 0
own_tag (cookie_wait my) = my.tag
own_tag (cookie_echoed my held cookie) = my.tag
own_tag (open_in phase my held) = my.tag

-- Is a COOKIE ACK awaited?
abbrev pub is_cookie_echoed : Core → Bool
is_cookie_echoed closed = false
is_cookie_echoed (cookie_wait my) = false
is_cookie_echoed (cookie_echoed my held cookie) = true
is_cookie_echoed (open_in phase my held) = false

-- what is known of a peer
abbrev pub held_by_core : Core → Option Held
held_by_core closed = None
held_by_core (cookie_wait my) = None
held_by_core (cookie_echoed my held cookie) = Some held
held_by_core (open_in phase my held) = Some held

-- A timer that belongs to a phase doesn't run outside it.
pub record Timers : Type 0 where
  pub t1 : Option RunningTimer
  pub t2 : Option RunningTimer
  pub reconfiguration : Option RunningTimer
  pub heartbeat_interval : Option RunningTimer
  pub heartbeat_timeout : Option RunningTimer

abbrev pub stopped_timers : Timers
stopped_timers = record { t1 = None; t2 = None; reconfiguration = None; heartbeat_interval = None; heartbeat_timeout = None }

-- T1-init and T1-cookie: each wait is twice the last one. The options say how often a packet is sent again (RFC 9260, section 5.1).
-- By the RFC no wait is longer than a retransmission's (RFC 9260, section 6.3.3, E2).
abbrev pub t1_settings : Options → ℕ → TimerSettings
t1_settings options duration =
    record { duration = duration; terms = record { backoff = Exponential; max_restarts = options.max_init_retransmits; max_backoff = longest_wait options } }

-- the heartbeat interval: it restarts without a limit (RFC 9260, section 8.3)
abbrev pub heartbeat_settings : Options → TimerSettings
heartbeat_settings options =
    record { duration = as_nanos options.heartbeat_interval; terms = record { backoff = Fixed; max_restarts = None; max_backoff = None } }

-- how much later than half a retransmission timeout a HEARTBEAT is sent: up to one timeout, as the low bits of the association's
-- own tag choose
abbrev pub heartbeat_jitter : Options → ℕ → ℕ
heartbeat_jitter options tag = as_nanos options.rto_initial / 2 ^ 16 * (tag % 2 ^ 16)

-- How long the heartbeat interval of an association with this own tag runs. By the RFC the retransmission timeout is added to it,
-- 50 % more or less, so that associations that begin together don't beat together (RFC 9260, section 8.3).
abbrev pub heartbeat_wait : Options → ℕ → ℕ
heartbeat_wait options tag =
    if options.follow_rfc
    then min (as_nanos options.heartbeat_interval + (as_nanos options.rto_initial / 2 + heartbeat_jitter options tag)) max_nanos
    else as_nanos options.heartbeat_interval

-- its own request to reset streams that is under way (RFC 6525, section 4.1)
pub record OutstandingRequest : Type 0 where
  pub last_tsn : ℕ
  pub streams : List ℕ
  -- Does it say that it is new?
  pub is_new : Bool
  -- It was answered 'in progress', and waits to be sent again.
  pub waits_for_retry : Bool

-- Counts over the socket's life; each stops at the greatest number of its type.
pub record Counts : Type 0 where
  pub packets_received : ℕ
  pub packets_sent : ℕ
  pub messages_queued : ℕ

pub record Endpoint : Type 0 where
  -- nanoseconds since the socket was made
  pub moment : ℕ
  pub options : Options
  pub core : Core
  -- the association's tie tag (RFC 9260, section 5.2.2), 0 if the peer isn't known
  pub tie : ℕ
  pub outstanding : Option OutstandingRequest
  -- The peer's request that was performed last, if it was in progress before: the peer may send it again under the next number. None
  -- without an association.
  pub renewable : Option NumberedReset
  -- the own tag of the last association that had a peer and has ended; None: of none
  pub last_tag : Option ℕ
  -- What a cookie bears as its tie tag where there is no association. By the RFC it is a secret: the first pair that the closed
  -- socket drew, 0 until then.
  pub secret : ℕ
  -- RFC 9260, section 8.1
  pub error_count : ℕ
  pub heartbeat_counter : ℕ
  -- when the last HEARTBEAT was sent, until it is answered or its association ends
  pub heartbeat_sent : Option ℕ
  -- Was a HEARTBEAT, an INIT or a RE-CONFIG of the present packet answered?
  pub has_answered : Bool
  -- Was a shutdown asked for while the COOKIE ACK of this association was awaited? Only by the RFC.
  pub shutdown_asked : Bool
  pub timers : Timers
  -- No FORWARD-TSN is sent before.
  pub no_forward_tsn_before : ℕ
  pub counts : Counts
  pub peer_implementation : SctpImplementation
  pub queues : EndpointQueues
  -- the messages that were ready when the last association ended, and aren't taken yet
  pub left : List MessageContent

-- May a HEARTBEAT, an INIT or a RE-CONFIG be answered? With the option one of a packet may, since a packet that brings many is
-- an attacker's amplifier.
abbrev pub may_answer : Endpoint → Bool
may_answer e = not (e.options.follow_rfc && e.has_answered)

-- The errors that count as an association begins: by the RFC none (RFC 9260, section 8.1).
abbrev pub errors_begun : Endpoint → ℕ
errors_begun e = if e.options.follow_rfc then 0 else e.error_count

-- The heartbeat interval of an association with this own tag starts again. One of zero switches heartbeats off.
abbrev pub heartbeats_begun : Endpoint → ℕ → Timers → Timers
heartbeats_begun e tag timers =
    if as_nanos e.options.heartbeat_interval == 0 then timers
    else record timers {
      heartbeat_interval = started_timer e.moment (record (heartbeat_settings e.options) { duration = heartbeat_wait e.options tag });
    }

-- a pair as one number
abbrev pub number_of_pair : Pair → ℕ
number_of_pair pair = pair.tag * 2 ^ 32 + pair.first_tsn

-- the secret once this pair was drawn
abbrev pub secret_with : Endpoint → Pair → ℕ
secret_with e pair = if e.options.follow_rfc && e.secret == 0 then number_of_pair pair else e.secret

abbrev pub with_secret : Endpoint → Pair → Endpoint
with_secret e pair = record e { secret = secret_with e pair }

-- a socket that was just made
abbrev pub fresh_endpoint : Options → Endpoint
fresh_endpoint options =
    record {
      moment = 0;
      options = options;
      core = closed;
      tie = 0;
      outstanding = None;
      renewable = None;
      last_tag = None;
      secret = 0;
      error_count = 0;
      heartbeat_counter = 0;
      heartbeat_sent = None;
      has_answered = false;
      shutdown_asked = false;
      timers = stopped_timers;
      no_forward_tsn_before = 0;
      counts = record { packets_received = 0; packets_sent = 0; messages_queued = 0 };
      peer_implementation = Unknown;
      queues = empty_queues options;
      left = [];
    }
