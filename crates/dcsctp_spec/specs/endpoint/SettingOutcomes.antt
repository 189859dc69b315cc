-- What the user sets on a socket, and no packet reports to the peer.
use Rattle.std.specs.Prelude.{ℕ}
use Rattle.dcsctp_spec.specs.queues.SendQueue.{SendQueueState, stream_changed, used_streams, with_threshold, with_priority}
use Rattle.dcsctp_spec.specs.endpoint.Endpoint.{Endpoint}
use Rattle.dcsctp_spec.specs.endpoint.Outcome.{Outcome, still}
use Rattle.dcsctp_types.specs.Setting.{Setting, stream_priority, stream_low_threshold, longest_message}

-- the queue once this is set
abbrev pub set_in_queue : Setting → SendQueueState → SendQueueState
set_in_queue (stream_priority id priority) queue = record queue { streams = stream_changed id (with_priority priority) (used_streams queue id) }
set_in_queue (stream_low_threshold id bytes) queue = record queue { streams = stream_changed id (with_threshold bytes) (used_streams queue id) }
set_in_queue (longest_message bytes) queue = queue

-- the longest message once this is set
abbrev pub longest_after : Setting → ℕ → ℕ
longest_after (stream_priority id priority) before = before
longest_after (stream_low_threshold id bytes) before = before
longest_after (longest_message bytes) before = bytes

-- Nothing else changes, and there are no events.
abbrev pub endpoint_with : Setting → Endpoint → Endpoint
endpoint_with setting e =
    record e {
      options = record e.options { max_message_size = longest_after setting e.options.max_message_size };
      queues = record e.queues { queue = set_in_queue setting e.queues.queue };
    }

abbrev pub setting_outcome : Endpoint → Setting → Outcome
setting_outcome e setting = still (endpoint_with setting e)
