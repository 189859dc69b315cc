-- Outside examples of what a socket does with connect, INIT ACK and COOKIE ACK, worked out by hand and
-- computed by the definitions: a wrong rule in specs/ would not check here.
use Rattle.std.proofs.Common.{◌≡◌, ℕ, Bool, true, false, Option, None, Some, List, [], ◌∷◌, refl}
use Rattle.std.specs.Prelude.{ℤ, pos, negsuc, codes}
use Rattle.dcsctp_types.specs.wire.declared.reconfiguration.ReconfigurationResponseResult.TheVariants.{SuccessNothingToDo}
use Rattle.dcsctp_types.specs.wire.Spelling.{parameter_bytes, parameters_len, init_fields, parameter_chunk_bytes, other_bytes}
use Rattle.dcsctp_types.specs.declared.association.Pair.{Pair}
use Rattle.dcsctp_types.specs.declared.association.Held.{Held}
use Rattle.dcsctp_types.specs.declared.kinds.BackoffAlgorithm.TheVariants.{Fixed, Exponential}
use Rattle.dcsctp_types.specs.declared.kinds.ErrorKind.TheVariants.{ProtocolViolation}
use Rattle.dcsctp_types.specs.declared.kinds.SctpImplementation.TheVariants.{Unknown, DcsctpRs, DcsctpCc, UsrSctp}
use Rattle.dcsctp_types.specs.declared.options.Options.{Options}
use Rattle.dcsctp_types.specs.declared.word.Word.TheVariants.{U32, U64}
use Rattle.dcsctp_spec.specs.endpoint.Event.{Event, sent, connected, aborted}
use Rattle.dcsctp_spec.specs.endpoint.Cause.{missing_mandatory_parameter}
use Rattle.dcsctp_spec.specs.Packet.{Introduction, Content, init, cookie_echo, abort, Emission}
use Rattle.dcsctp_types.specs.declared.tracking.AckState.TheVariants.{Idle}
use Rattle.dcsctp_types.specs.declared.sending.UnderWay.{UnderWay}
use Rattle.dcsctp_types.specs.declared.sending.Pause.{Pause}
use Rattle.dcsctp_types.specs.declared.sending.Pause.TheVariants.{Open, Pausing}
use Rattle.dcsctp_types.specs.queues.SendStreams.{Waiting, Stream}
use Rattle.dcsctp_spec.specs.queues.SendQueue.{SendQueueState}
use Rattle.dcsctp_spec.specs.queues.Transfer.{Transfer}
use Rattle.dcsctp_spec.specs.endpoint.Endpoint.{Endpoint, Core, closed, cookie_wait, cookie_echoed, open_in, established, stopped_timers}
use Rattle.dcsctp_spec.specs.endpoint.Timers.{RunningTimer}
use Rattle.dcsctp_spec.specs.endpoint.Following.{next_chunk, dropped_rest}
use Rattle.dcsctp_spec.specs.association.Effect.{AssociationIdentity, draws, holds, connects, ends}
use Rattle.dcsctp_spec.specs.endpoint.EndOutcomes.{closed_after}
use Rattle.dcsctp_spec.specs.endpoint.HandshakeOutcomes.{connect_outcome, implementation_of, init_ack_outcome, cookie_ack_outcome}

-- ---- two sockets

-- the options that count here, with an MTU and a `max_burst`; the others are left open
abbrev pub configured : Options → ℕ → ℤ → Options
configured options mtu max_burst =
    record options {
      mtu = mtu;
      announced_maximum_incoming_streams = 10;
      announced_maximum_outgoing_streams = 20;
      max_receiver_window_buffer_size = 5242880;
      max_send_buffer_size = 2000000;
      follow_rfc = false;
      rto_initial = record { secs = 0; nanos = 500_000_000 };
      rto_min = record { secs = 0; nanos = 400_000_000 };
      rto_max = record { secs = 60; nanos = 0 };
      rtt_max = record { secs = 50; nanos = 0 };
      min_rtt_variance = record { secs = 0; nanos = 220_000_000 };
      max_timer_backoff_duration = Some (record { secs = 3; nanos = 0 });
      delayed_ack_max_timeout = record { secs = 0; nanos = 200_000_000 };
      t1_init_timeout = record { secs = 1; nanos = 0 };
      t1_cookie_timeout = record { secs = 2; nanos = 0 };
      cookie_lifetime = record { secs = 60; nanos = 0 };
      heartbeat_interval = record { secs = 30; nanos = 0 };
      max_init_retransmits = Some 8;
      cwnd_mtus_initial = 10;
      cwnd_mtus_min = 4;
      max_burst = max_burst;
      enable_partial_reliability = true;
      enable_message_interleaving = true;
      zero_checksum_alternate_error_detection_method = record { 0 = 1 };
    }

-- 2 of the 5 bytes of a message on stream 3 went out
abbrev waiting : Waiting
waiting =
    record { message_id = 6; ppid = 53; is_unordered = false; payload = 1 ∷ 2 ∷ 3 ∷ 4 ∷ 5 ∷ []; max_retransmissions = None; expires_at = None; lifecycle = None }

abbrev waits_on : ℕ → ℕ → ℕ → Option UnderWay → Stream
waits_on next_ssn next_mid bytes under_way =
    record { id = 3; priority = 5; threshold = 7; amount = bytes; next_ssn = next_ssn; next_mid = next_mid; next_unordered_mid = 0; last_turn = 0; turn_bytes = 0; pause = Open; under_way = under_way; messages = waiting ∷ [] }

abbrev under_way_as : ℕ → Option UnderWay
under_way_as ssn = Some (record { stream_id = record { 0 = 3 }; ssn = ssn; mid = 0; next_fsn = 1; sent = 2 })

abbrev nothing_on : Pause → Stream
nothing_on pause = record { id = 4; priority = 256; threshold = 0; amount = 0; next_ssn = 0; next_mid = 0; next_unordered_mid = 0; last_turn = 0; turn_bytes = 0; pause = pause; under_way = None; messages = [] }

abbrev pub queue : SendQueueState
queue =
    record {
      streams = waits_on 8 0 3 (under_way_as 7) ∷ nothing_on Pausing ∷ [];
      held = Some (record { 0 = 3 });
      total_amount = 3;
      total_threshold = 0;
      default_priority = 256;
      default_threshold = 0;
      is_interleaved = false;
      next_message_id = 7;
      takes_turns = false;
      turns_taken = 0;
      turn_size = 1156;
      window = 0;
      reserved = 0;
    }

-- and it continues under the next number, as messages are interleaved
abbrev pub queue_renumbered : SendQueueState
queue_renumbered =
    record queue {
      streams = waits_on 8 1 3 (under_way_as 8) ∷ nothing_on Pausing ∷ [];
      is_interleaved = true;
      window = 1500;
    }

-- and with the message before its first byte again
abbrev pub queue_at_start : SendQueueState
queue_at_start =
    record queue { streams = waits_on 0 0 5 None ∷ nothing_on Open ∷ []; held = None; total_amount = 5; is_interleaved = true; window = 1500 }

-- 5 seconds after it was made
abbrev pub socket : Endpoint → ℕ → ℤ → Core → ℕ → Endpoint
socket e mtu max_burst core packets_sent =
    record e {
      moment = 5_000_000_000;
      options = configured e.options mtu max_burst;
      core = core;
      tie = 77;
      last_tag = None;
      secret = 0;
      counts = record { packets_received = 3; packets_sent = packets_sent; messages_queued = 5 };
      queues = record { queue = queue; transfer = None };
    }

-- with the RFC's rules, and with 5 as the secret
abbrev pub by_rfc : Endpoint → Endpoint
by_rfc e = record e { options = record e.options { follow_rfc = true }; secret = 5 }

-- T1, just started: it is doubled each time, and restarts eight times
abbrev t1_due : ℕ → ℕ → Option RunningTimer
t1_due deadline duration = Some (record { deadline = deadline; wait = duration; expiries = 0; terms = record { backoff = Exponential; max_restarts = Some 8; max_backoff = None } })

-- the heartbeat interval, just started
abbrev pub heartbeats_due : ℕ → ℕ → Option RunningTimer
heartbeats_due deadline duration = Some (record { deadline = deadline; wait = duration; expiries = 0; terms = record { backoff = Fixed; max_restarts = None; max_backoff = None } })

abbrev pub mine : Pair
mine = record { tag = 7; first_tsn = 100 }

abbrev theirs : Introduction
theirs =
    record {
      pair = record { tag = 9; first_tsn = 200 };
      offer = record { partial_reliability = false; message_interleaving = true; reconfig = true; zero_checksum_method = 1; inbound_streams = 30; outbound_streams = 40 };
      window = 1500;
    }

-- what the two agree on
abbrev pub held : Held
held =
    record {
      peer = record { tag = 9; first_tsn = 200 };
      capabilities = record {
        partial_reliability = false;
        message_interleaving = true;
        reconfig = true;
        zero_checksum_method = record { 0 = 1 };
        negotiated_maximum_incoming_streams = 10;
        negotiated_maximum_outgoing_streams = 20;
      };
      own_next = 100;
      own_outstanding = None;
      peer_last = 199;
      peer_result = SuccessNothingToDo;
    }

-- before any data; the congestion window is ten packets of this MTU, and the least threshold four
abbrev pub transfer_begun : ℕ → ℕ → ℕ → Option Transfer
transfer_begun mtu cwnd least =
    Some (record {
      retransmission = record {
        outstanding = record { first_tsn = 100; is_interleaved = true; items = [] };
        congestion = record { cwnd = cwnd; ssthresh = 1500; partial_bytes_acked = 0; recovery_exit = None; mtu = mtu; least_ssthresh = least };
        timer = record {
          running = None;
          settings = record { duration = 500_000_000; terms = record { backoff = Exponential; max_restarts = None; max_backoff = Some 3_000_000_000 } };
        };
        peer_window = 1500;
        partial_reliability = false;
        fast_retransmit_due = false;
        reset_begun = false;
        follows_rfc = false;
        has_measured = false;
        packets_retransmitted = 0;
        bytes_retransmitted = 0;
      };
      timeout = record {
        rto = 500_000_000;
        srtt = 500_000_000;
        variance = None;
        bounds = record { rtt_max = 50_000_000_000; rto_min = 400_000_000; rto_max = 60_000_000_000; min_rtt_variance = 220_000_000 };
        longest_wait = None;
      };
      tracker = record {
        cumulative = 199;
        ranges = [];
        duplicates = [];
        has_seen_data = false;
        acknowledgement = Idle;
        delay = record { running = None; settings = record { duration = 200_000_000; terms = record { backoff = Fixed; max_restarts = Some 0; max_backoff = None } } };
        longest_delay = 200_000_000;
        follows_rfc = false;
      };
      reassembly = record { incoming = record { messages_received = 0; ready = []; streams = []; unordered = []; last_tsn_number = 4294967296 }; max_size = 5242880; overhead = 0; deferral = None };
    })

-- the association that the two hold
abbrev pub link : AssociationIdentity
link = record { my = mine; peer = held.peer; capabilities = held.capabilities }

abbrev pub packet_of : Bool → ℕ → List Content → Event Emission
packet_of with_checksum tag contents = sent (record { with_checksum = with_checksum; packet = record { tag = tag; contents = contents } })

-- ---- connect

-- T1 is due a second later.
abbrev connecting : Endpoint → ℕ → ℕ → Endpoint
connecting e mtu packets_sent = record (socket e mtu (pos 4) (cookie_wait mine) packets_sent) { timers = record e.timers { t1 = t1_due 6_000_000_000 1_000_000_000 } }

-- The first TSN is 100 from the first word, the tag 7 from the second.
connect_sends_init : (e : Endpoint) → connect_outcome (socket e 52 (pos 4) closed 4) closed 100 6
    ≡ record {
      words = U32 100 ∷ U32 6 ∷ [];
      effects = draws mine ∷ [];
      after = connecting e 52 5;
      events = packet_of true 0 (init (record {
        pair = mine;
        offer = record { partial_reliability = true; message_interleaving = true; reconfig = true; zero_checksum_method = 1; inbound_streams = 10; outbound_streams = 20 };
        window = 5242880;
      }) ∷ []) ∷ [];
      following = next_chunk;
    }
unfolding parameter_chunk_bytes init_fields parameters_len parameter_bytes
connect_sends_init e = refl

-- It has 52 bytes: 12, 20, 4, 8 and 8. Where it doesn't fit, T1 runs all the same.
init_that_does_not_fit : (e : Endpoint) → connect_outcome (socket e 51 (pos 4) closed 4) closed 100 6
    ≡ record { words = U32 100 ∷ U32 6 ∷ []; effects = draws mine ∷ []; after = connecting e 51 4; events = []; following = next_chunk }
unfolding parameter_chunk_bytes init_fields parameters_len parameter_bytes
init_that_does_not_fit e = refl

connect_in_established : (e : Endpoint) → connect_outcome e (open_in established mine held) 100 6 ≡ record { words = []; effects = []; after = e; events = []; following = next_chunk }
connect_in_established e = refl

-- ---- INIT ACK

-- of 16 bytes
abbrev foreign_cookie : List ℕ
foreign_cookie = codes "dcSCTP00abcdefgh"

-- The tie tag is the word that was drawn, and T1 is due two seconds later.
abbrev echoing : Endpoint → ℕ → ℤ → ℕ → ℕ → ℕ → Endpoint
echoing e mtu max_burst cwnd least packets_sent =
    record (socket e mtu max_burst (cookie_echoed mine held foreign_cookie) packets_sent) {
      tie = 55;
      outstanding = None;
      timers = record e.timers { t1 = t1_due 7_000_000_000 2_000_000_000; reconfiguration = None };
      peer_implementation = DcsctpCc;
      queues = record { queue = queue_at_start; transfer = transfer_begun mtu cwnd least };
      left = [];
    }

-- COOKIE ECHO has a checksum, whatever was agreed.
init_ack_is_echoed : (e : Endpoint) → init_ack_outcome (socket e 1191 (pos 1) (cookie_wait mine) 4) theirs (Some foreign_cookie) (cookie_wait mine) 55
    ≡ record { words = U64 55 ∷ []; effects = holds link ∷ []; after = echoing e 1191 (pos 1) 11910 4764 5; events = packet_of true 9 (cookie_echo foreign_cookie ∷ []) ∷ []; following = next_chunk }
unfolding other_bytes
init_ack_is_echoed e = refl

-- No flush sends a packet.
echo_under_burst_0 : (e : Endpoint) → init_ack_outcome (socket e 1191 (pos 0) (cookie_wait mine) 4) theirs (Some foreign_cookie) (cookie_wait mine) 55
    ≡ record { words = U64 55 ∷ []; effects = holds link ∷ []; after = echoing e 1191 (pos 0) 11910 4764 4; events = []; following = next_chunk }
unfolding other_bytes
echo_under_burst_0 e = refl

echo_under_negative_burst : (e : Endpoint) → init_ack_outcome (socket e 1191 (negsuc 0) (cookie_wait mine) 4) theirs (Some foreign_cookie) (cookie_wait mine) 55
    ≡ record { words = U64 55 ∷ []; effects = holds link ∷ []; after = echoing e 1191 (negsuc 0) 11910 4764 4; events = []; following = next_chunk }
unfolding other_bytes
echo_under_negative_burst e = refl

-- The packet has 32 bytes.
echo_that_does_not_fit : (e : Endpoint) → init_ack_outcome (socket e 31 (pos 4) (cookie_wait mine) 4) theirs (Some foreign_cookie) (cookie_wait mine) 55
    ≡ record { words = U64 55 ∷ []; effects = holds link ∷ []; after = echoing e 31 (pos 4) 310 124 4; events = []; following = next_chunk }
unfolding other_bytes
echo_that_does_not_fit e = refl

-- An ABORT says that the State Cookie, parameter 7, is missing; then the association ends.
init_ack_without_cookie : (e : Endpoint) → init_ack_outcome (socket e 1191 (pos 0) (cookie_wait mine) 4) theirs None (cookie_wait mine) 55
    ≡ record {
      words = [];
      effects = ends ∷ [];
      after = record (socket e 1191 (pos 0) closed 5) { tie = 0; outstanding = None; renewable = None; heartbeat_sent = None; shutdown_asked = false; timers = stopped_timers };
      events = packet_of true 9 (abort false (missing_mandatory_parameter (7 ∷ []) ∷ []) ∷ []) ∷ aborted ProtocolViolation (codes "InitAck chunk doesn't contain a cookie") ∷ [];
      following = dropped_rest;
    }
unfolding parameter_bytes parameters_len parameter_chunk_bytes
init_ack_without_cookie e = refl

end_leaves_queue : (e : Endpoint) → (closed_after e).queues ≡ record { queue = e.queues.queue; transfer = None }
end_leaves_queue e = refl

init_ack_in_cookie_echoed : (e : Endpoint) → init_ack_outcome e theirs None (cookie_echoed mine held []) 55 ≡ record { words = []; effects = []; after = e; events = []; following = next_chunk }
init_ack_in_cookie_echoed e = refl

-- More than the eight bytes of the name are wanted.
implementation_of_cc : implementation_of (codes "dcSCTP00a") ≡ DcsctpCc
implementation_of_cc = refl

implementation_of_rs : implementation_of (codes "dcSCTPr0a") ≡ DcsctpRs
implementation_of_rs = refl

implementation_of_usrsctp : implementation_of (codes "KAME-BSD 1.1") ≡ UsrSctp
implementation_of_usrsctp = refl

implementation_of_8_bytes : implementation_of (codes "dcSCTP00") ≡ Unknown
implementation_of_8_bytes = refl

implementation_of_others : implementation_of (codes "dcSCTP01a") ≡ Unknown
implementation_of_others = refl

-- ---- COOKIE ACK

-- The heartbeat interval is over 30 seconds later.
cookie_ack_connects : (e : Endpoint) → cookie_ack_outcome (socket e 1191 (pos 4) (cookie_echoed mine held foreign_cookie) 4) (cookie_echoed mine held foreign_cookie)
    ≡ record {
      words = [];
      effects = connects link ∷ [];
      after = record (socket e 1191 (pos 4) (open_in established mine held) 4) { timers = record e.timers { t1 = None; heartbeat_interval = heartbeats_due 35_000_000_000 30_000_000_000 } };
      events = connected ∷ [];
      following = next_chunk;
    }
cookie_ack_connects e = refl

cookie_ack_without_heartbeats : (e : Endpoint)
    → (cookie_ack_outcome (record e { options = record e.options { heartbeat_interval = record { secs = 0; nanos = 0 } } }) (cookie_echoed mine held foreign_cookie)).after.timers
    ≡ record e.timers { t1 = None }
cookie_ack_without_heartbeats e = refl

cookie_ack_in_cookie_wait : (e : Endpoint) → cookie_ack_outcome e (cookie_wait mine) ≡ record { words = []; effects = []; after = e; events = []; following = next_chunk }
cookie_ack_in_cookie_wait e = refl
