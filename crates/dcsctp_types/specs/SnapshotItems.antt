-- What a snapshot says of each message that waits, and of each TSN that is outstanding.
use Rattle.std.specs.Prelude.{ℕ, ℤ, pos, Bool, false, Option, None, List, []}
use Rattle.dcsctp_types.specs.declared.snapshot.HandoverStreamMessage.{HandoverStreamMessage}
use Rattle.dcsctp_types.specs.declared.snapshot.HandoverOutstandingData.{HandoverOutstandingData}

-- ---- a message that waits, or of which a part was sent

pub record QueuedPart : Type 0 where
  pub stream_id : ℕ
  pub ppid : ℕ
  pub payload : List ℕ
  pub unordered : Bool
  pub expires_in_ms : Option ℤ
  pub max_retransmissions : ℕ
  pub lifecycle_id : ℕ
  pub message_id : ℕ
  -- how many bytes were sent
  pub remaining_offset : ℕ
  pub mid : Option ℕ
  pub ssn : Option ℕ
  pub fsn : ℕ

abbrev pub queued_part : HandoverStreamMessage → QueuedPart
queued_part message =
    record {
      stream_id = message.stream_id;
      ppid = message.ppid;
      payload = message.payload.items;
      unordered = message.unordered;
      expires_in_ms = message.expires_in_ms;
      max_retransmissions = message.max_retransmissions;
      lifecycle_id = message.lifecycle_id;
      message_id = message.message_id;
      remaining_offset = message.remaining_offset;
      mid = message.mid;
      ssn = message.ssn;
      fsn = message.fsn;
    }

abbrev pub empty_queued_part : QueuedPart
empty_queued_part =
    record {
      stream_id = 0;
      ppid = 0;
      payload = [];
      unordered = false;
      expires_in_ms = None;
      max_retransmissions = 0;
      lifecycle_id = 0;
      message_id = 0;
      remaining_offset = 0;
      mid = None;
      ssn = None;
      fsn = 0;
    }

-- ---- what was sent under one TSN

pub record OutstandingPart : Type 0 where
  pub stream_id : ℕ
  pub ssn : ℕ
  pub mid : ℕ
  pub fsn : ℕ
  pub ppid : ℕ
  pub payload : List ℕ
  pub is_beginning : Bool
  pub is_end : Bool
  pub is_unordered : Bool
  pub message_id : ℕ
  pub lifecycle_id : ℕ
  pub expires_in_ms : Option ℤ
  pub max_retransmissions : ℕ
  pub retransmission_count : ℕ
  pub time_since_sent_ms : ℤ
  pub acked : Bool
  pub is_abandoned : Bool
  pub is_nacked : Bool
  pub is_to_be_retransmitted : Bool

abbrev pub outstanding_part : HandoverOutstandingData → OutstandingPart
outstanding_part sent =
    record {
      stream_id = sent.stream_id;
      ssn = sent.ssn;
      mid = sent.mid;
      fsn = sent.fsn;
      ppid = sent.ppid;
      payload = sent.payload.items;
      is_beginning = sent.is_beginning;
      is_end = sent.is_end;
      is_unordered = sent.is_unordered;
      message_id = sent.message_id;
      lifecycle_id = sent.lifecycle_id;
      expires_in_ms = sent.expires_in_ms;
      max_retransmissions = sent.max_retransmissions;
      retransmission_count = sent.retransmission_count;
      time_since_sent_ms = sent.time_since_sent_ms;
      acked = sent.acked;
      is_abandoned = sent.is_abandoned;
      is_nacked = sent.is_nacked;
      is_to_be_retransmitted = sent.is_to_be_retransmitted;
    }

abbrev pub empty_outstanding_part : OutstandingPart
empty_outstanding_part =
    record {
      stream_id = 0;
      ssn = 0;
      mid = 0;
      fsn = 0;
      ppid = 0;
      payload = [];
      is_beginning = false;
      is_end = false;
      is_unordered = false;
      message_id = 0;
      lifecycle_id = 0;
      expires_in_ms = None;
      max_retransmissions = 0;
      retransmission_count = 0;
      time_since_sent_ms = pos 0;
      acked = false;
      is_abandoned = false;
      is_nacked = false;
      is_to_be_retransmitted = false;
    }
