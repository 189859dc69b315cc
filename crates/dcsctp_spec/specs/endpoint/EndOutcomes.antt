-- How an association ends, whatever ends it.
use Rattle.std.specs.Prelude.{ℕ, true, false, Option, None, Some, List, [], ◌∷◌, ◌++◌, if◌then◌else◌}
use Rattle.dcsctp_types.specs.wire.Texts.{causes_text}
use Rattle.dcsctp_types.specs.declared.association.Held.{Held}
use Rattle.dcsctp_types.specs.declared.options.Options.{Options}
use Rattle.dcsctp_types.specs.declared.ends.AbortReason.{AbortReason}
use Rattle.dcsctp_types.specs.declared.ends.AbortReason.TheVariants as reasons
use Rattle.dcsctp_types.specs.declared.kinds.ErrorKind.TheVariants.{PeerReported, ProtocolViolation, TooManyRetries}
use Rattle.dcsctp_types.specs.queues.Messages.{MessageContent}
use Rattle.dcsctp_spec.specs.endpoint.Cause.{Cause, reason_text, causes_of}
use Rattle.dcsctp_spec.specs.endpoint.Event.{Event, aborted}
use Rattle.dcsctp_spec.specs.endpoint.Event as events
use Rattle.dcsctp_spec.specs.Packet.{Emission, abort, shutdown_complete}
use Rattle.dcsctp_spec.specs.endpoint.Endpoint.{Endpoint, Core, closed, cookie_echoed, open_in, stopped_timers}
use Rattle.dcsctp_spec.specs.association.Effect.{ends}
use Rattle.dcsctp_spec.specs.association.ShutdownChanges.{is_ended_by_abort}
use Rattle.dcsctp_spec.specs.queues.Transfer.{Transfer}
use Rattle.dcsctp_spec.specs.endpoint.Outcome.{Outcome, still, quiet, to_peer, sends, emits}
use Rattle.dcsctp_spec.specs.endpoint.Following.{Following, next_chunk, packet_end, dropped_rest}

-- The messages that can be taken once the association has ended: by the RFCs' rules those that are ready, for their data was
-- acknowledged. Without a peer there are no new ones.
abbrev pub left_messages : Options → Option Transfer → List MessageContent → List MessageContent
left_messages options None left = left
left_messages options (Some transfer) left = if options.follow_rfc then transfer.reassembly.incoming.ready else left

-- the own tag of the association that ends now, if it has a peer
abbrev pub ended_tag : Core → Option ℕ → Option ℕ
ended_tag (cookie_echoed my held cookie) last = Some my.tag
ended_tag (open_in phase my held) last = Some my.tag
ended_tag core last = last

-- No association, and no timer. What waits to be sent is kept, and so is the error count.
abbrev pub closed_after : Endpoint → Endpoint
closed_after e =
    record e {
      core = closed;
      last_tag = ended_tag e.core e.last_tag;
      tie = 0;
      outstanding = None;
      renewable = None;
      heartbeat_sent = None;
      shutdown_asked = false;
      timers = stopped_timers;
      queues = record e.queues { transfer = None };
      left = left_messages e.options e.queues.transfer e.left;
    }

-- After this outcome the association ends with this event, and the rest of the packet is dropped.
abbrev pub ended_outcome : Outcome → Event Emission → Outcome
ended_outcome before event =
    record before {
      effects = before.effects ++ ends ∷ [];
      after = closed_after before.after;
      events = before.events ++ event ∷ [];
      following = dropped_rest;
    }

-- The association ends with this event; if there is none, nothing happens.
abbrev pub close_outcome : Endpoint → Core → Event Emission → Outcome
close_outcome e closed event = still e
close_outcome e core event = ended_outcome (quiet e [] []) event

-- An ABORT ends the association with a peer (RFC 9260, section 9.1).
abbrev pub abort_outcome : Endpoint → List Cause → Core → Outcome
abort_outcome e causes core =
    if is_ended_by_abort e.options core then ended_outcome (quiet e [] []) (aborted PeerReported (causes_text causes)) else still e

-- ---- its own abort

-- the event that ends an association which is aborted for this reason
abbrev pub end_of : AbortReason → Event Emission
end_of reasons.CloseCalled = events.closed
end_of (reasons.Violation violation) = aborted ProtocolViolation (reason_text (reasons.Violation violation))
end_of reasons.TooManyErrors = aborted TooManyRetries (reason_text reasons.TooManyErrors)

-- an ABORT to the peer
abbrev pub abort_to : Held → AbortReason → Emission
abort_to held reason = to_peer held (abort false (causes_of reason))

-- An ABORT is sent, if the peer is known and the packet fits (RFC 9260, sections 8.1 and 9.1).
abbrev pub abort_sent : Endpoint → Core → AbortReason → Outcome
abort_sent e (cookie_echoed my held cookie) reason = emits e [] (abort_to held reason)
abort_sent e (open_in phase my held) reason = emits e [] (abort_to held reason)
abort_sent e core reason = quiet e [] []

-- The own end aborts the association; if there is none, nothing happens. Its change is `abort_call_change`.
abbrev pub aborting_outcome : Endpoint → Core → AbortReason → Outcome
aborting_outcome e closed reason = still e
aborting_outcome e core reason = ended_outcome (abort_sent e core reason) (end_of reason)

-- ---- a chunk of a shutdown that is out of place

-- What follows such a chunk. By the RFC one answers a packet, so no other chunk of it is handled.
abbrev pub after_reflected : Options → Following
after_reflected options = if options.follow_rfc then packet_end else next_chunk

-- A SHUTDOWN ACK that isn't awaited is answered by SHUTDOWN COMPLETE with the T bit, under its own tag (RFC 9260, sections
-- 8.4 and 8.5.1, E). Its change is `reflected_change`.
abbrev pub reflected_outcome : Endpoint → ℕ → Outcome
reflected_outcome e header =
    record (sends e [] [] (record { with_checksum = true; packet = record { tag = header; contents = shutdown_complete true ∷ [] } })) {
      following = after_reflected e.options;
    }
