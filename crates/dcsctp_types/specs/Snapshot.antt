-- What a snapshot says, by which a socket is handed over to another process, and which snapshots are valid.
use Rattle.std.specs.Prelude.{ℕ, ◌==◌, ◌+◌, ◌-◌, ◌%◌, ◌^◌, ◌&&◌, ◌||◌, not, nat_lt, Bool, true, false, List, [], ◌∷◌, length, map}
use Rattle.std.specs.List.{list_any, list_all}
use Rattle.dcsctp_types.specs.declared.options.Options.{Options}
use Rattle.dcsctp_types.specs.declared.snapshot.HandoverSocketState.{HandoverSocketState}
use Rattle.dcsctp_types.specs.declared.snapshot.HandoverSocketState.TheVariants.{Closed, Connected}
use Rattle.dcsctp_types.specs.declared.snapshot.HandoverCapabilities.{HandoverCapabilities}
use Rattle.dcsctp_types.specs.declared.snapshot.HandoverOutgoingStream.{HandoverOutgoingStream}
use Rattle.dcsctp_types.specs.declared.snapshot.HandoverTransmission.{HandoverTransmission}
use Rattle.dcsctp_types.specs.declared.snapshot.HandoverOrderedStream.{HandoverOrderedStream}
use Rattle.dcsctp_types.specs.declared.snapshot.HandoverUnorderedStream.{HandoverUnorderedStream}
use Rattle.dcsctp_types.specs.declared.snapshot.HandoverReceive.{HandoverReceive}
use Rattle.dcsctp_types.specs.declared.snapshot.SocketHandoverState.{SocketHandoverState}
use Rattle.dcsctp_types.specs.SnapshotItems.{QueuedPart, OutstandingPart, queued_part, outstanding_part}

-- ---- sending

pub record SendPart : Type 0 where
  pub next_tsn : ℕ
  pub next_reset_req_sn : ℕ
  pub cwnd : ℕ
  pub rwnd : ℕ
  pub ssthresh : ℕ
  pub partial_bytes_acked : ℕ
  pub last_cumulative_tsn_ack : ℕ
  pub next_outgoing_message_id : ℕ
  pub streams : List HandoverOutgoingStream
  pub queued_messages : List QueuedPart
  pub outstanding_data : List OutstandingPart

abbrev pub send_part : HandoverTransmission → SendPart
send_part tx =
    record {
      next_tsn = tx.next_tsn;
      next_reset_req_sn = tx.next_reset_req_sn;
      cwnd = tx.cwnd;
      rwnd = tx.rwnd;
      ssthresh = tx.ssthresh;
      partial_bytes_acked = tx.partial_bytes_acked;
      last_cumulative_tsn_ack = tx.last_cumulative_tsn_ack;
      next_outgoing_message_id = tx.next_outgoing_message_id;
      streams = tx.streams.items;
      queued_messages = map queued_part tx.queued_messages.items;
      outstanding_data = map outstanding_part tx.outstanding_data.items;
    }

abbrev pub empty_send_part : SendPart
empty_send_part =
    record {
      next_tsn = 0;
      next_reset_req_sn = 0;
      cwnd = 0;
      rwnd = 0;
      ssthresh = 0;
      partial_bytes_acked = 0;
      last_cumulative_tsn_ack = 0;
      next_outgoing_message_id = 0;
      streams = [];
      queued_messages = [];
      outstanding_data = [];
    }

-- ---- receiving

pub record ReceivePart : Type 0 where
  pub seen_packet : Bool
  pub last_cumulative_acked_tsn : ℕ
  pub last_assembled_tsn : ℕ
  pub last_completed_deferred_reset_req_sn : ℕ
  pub last_completed_reset_req_sn : ℕ
  pub ordered_streams : List HandoverOrderedStream
  pub unordered_streams : List HandoverUnorderedStream

abbrev pub received_part : HandoverReceive → ReceivePart
received_part rx =
    record {
      seen_packet = rx.seen_packet;
      last_cumulative_acked_tsn = rx.last_cumulative_acked_tsn;
      last_assembled_tsn = rx.last_assembled_tsn;
      last_completed_deferred_reset_req_sn = rx.last_completed_deferred_reset_req_sn;
      last_completed_reset_req_sn = rx.last_completed_reset_req_sn;
      ordered_streams = rx.ordered_streams.items;
      unordered_streams = rx.unordered_streams.items;
    }

abbrev pub empty_received_part : ReceivePart
empty_received_part =
    record {
      seen_packet = false;
      last_cumulative_acked_tsn = 0;
      last_assembled_tsn = 0;
      last_completed_deferred_reset_req_sn = 0;
      last_completed_reset_req_sn = 0;
      ordered_streams = [];
      unordered_streams = [];
    }

-- ---- the whole

pub record Snapshot : Type 0 where
  pub socket_state : HandoverSocketState
  pub my_verification_tag : ℕ
  pub my_initial_tsn : ℕ
  pub peer_verification_tag : ℕ
  pub peer_initial_tsn : ℕ
  pub tie_tag : ℕ
  pub capabilities : HandoverCapabilities
  pub tx : SendPart
  pub rx : ReceivePart

abbrev pub snapshot : SocketHandoverState → Snapshot
snapshot state =
    record {
      socket_state = state.socket_state;
      my_verification_tag = state.my_verification_tag;
      my_initial_tsn = state.my_initial_tsn;
      peer_verification_tag = state.peer_verification_tag;
      peer_initial_tsn = state.peer_initial_tsn;
      tie_tag = state.tie_tag;
      capabilities = state.capabilities;
      tx = send_part state.tx;
      rx = received_part state.rx;
    }

abbrev pub no_handover_capabilities : HandoverCapabilities
no_handover_capabilities =
    record {
      partial_reliability = false;
      message_interleaving = false;
      reconfig = false;
      zero_checksum = false;
      negotiated_maximum_incoming_streams = 0;
      negotiated_maximum_outgoing_streams = 0;
    }

-- the snapshot of a closed socket
abbrev pub empty_snapshot : Snapshot
empty_snapshot =
    record {
      socket_state = Closed;
      my_verification_tag = 0;
      my_initial_tsn = 0;
      peer_verification_tag = 0;
      peer_initial_tsn = 0;
      tie_tag = 0;
      capabilities = no_handover_capabilities;
      tx = empty_send_part;
      rx = empty_received_part;
    }

-- ---- which are valid

-- Both verification tags are other than 0.
abbrev pub has_verification_tags : Snapshot → Bool
has_verification_tags state = not (state.my_verification_tag == 0) && not (state.peer_verification_tag == 0)

-- Zero checksum is set only if the options have a method for it.
abbrev pub allows_zero_checksum : Options → HandoverCapabilities → Bool
allows_zero_checksum options capabilities = not capabilities.zero_checksum || not (options.zero_checksum_alternate_error_detection_method.0 == 0)

-- Does a number occur twice in the list?
abbrev pub names_twice : List ℕ → Bool
names_twice [] = false
names_twice (id ∷ ids) = list_any (λ other. other == id) ids || names_twice ids

-- No stream that messages are sent by is listed twice.
abbrev pub sends_by_each_once : SendPart → Bool
sends_by_each_once tx = not (names_twice (map (λ (stream : HandoverOutgoingStream). stream.id) tx.streams))

-- No stream that ordered messages are received by is listed twice.
abbrev pub receives_ordered_by_each_once : ReceivePart → Bool
receives_ordered_by_each_once rx = not (names_twice (map (λ (stream : HandoverOrderedStream). stream.id) rx.ordered_streams))

-- No stream that unordered messages are received by is listed twice.
abbrev pub receives_unordered_by_each_once : ReceivePart → Bool
receives_unordered_by_each_once rx = not (names_twice (map (λ (stream : HandoverUnorderedStream). stream.id) rx.unordered_streams))

-- The message has bytes.
abbrev pub has_bytes : QueuedPart → Bool
has_bytes message = not (length message.payload == 0)

-- Fewer of them were sent than it has.
abbrev pub has_unsent_bytes : QueuedPart → Bool
has_unsent_bytes message = nat_lt message.remaining_offset (length message.payload)

-- The data has bytes, or it is abandoned.
abbrev pub has_bytes_or_is_abandoned : OutstandingPart → Bool
has_bytes_or_is_abandoned sent = sent.is_abandoned || not (length sent.payload == 0)

-- How many TSNs are between two, modulo 2^32: none between a TSN and the next one.
abbrev pub tsns_between : ℕ → ℕ → ℕ
tsns_between last next = (next + (2 ^ 32 - 1 - last)) % 2 ^ 32

-- There are as many outstanding data as TSNs that were used and aren't acknowledged.
abbrev pub outstanding_count_fits : SendPart → Bool
outstanding_count_fits tx = length tx.outstanding_data == tsns_between tx.last_cumulative_tsn_ack tx.next_tsn

-- The message has bytes that weren't sent.
abbrev pub is_valid_queued : QueuedPart → Bool
is_valid_queued message = has_bytes message && has_unsent_bytes message

-- The part about sending can be restored.
abbrev pub is_valid_send_part : SendPart → Bool
is_valid_send_part tx =
    sends_by_each_once tx
    && list_all is_valid_queued tx.queued_messages
    && list_all has_bytes_or_is_abandoned tx.outstanding_data
    && outstanding_count_fits tx

-- The part about receiving can be restored.
abbrev pub is_valid_received_part : ReceivePart → Bool
is_valid_received_part rx = receives_ordered_by_each_once rx && receives_unordered_by_each_once rx

-- A connected one, with these options.
abbrev pub is_valid_connected : Options → Snapshot → Bool
is_valid_connected options state =
    has_verification_tags state
    && allows_zero_checksum options state.capabilities
    && is_valid_send_part state.tx
    && is_valid_received_part state.rx

abbrev pub is_valid_by_state : HandoverSocketState → Options → Snapshot → Bool
is_valid_by_state Closed options state = true
is_valid_by_state Connected options state = is_valid_connected options state

-- A closed one is always valid, and nothing else in it counts.
abbrev pub is_valid_snapshot : Options → Snapshot → Bool
is_valid_snapshot options state = is_valid_by_state state.socket_state options state
