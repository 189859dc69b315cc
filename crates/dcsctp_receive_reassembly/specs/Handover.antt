-- Streams that are restored one after the other.
use Rattle.std.specs.Prelude.{ℕ, ◌==◌, List, [], ◌∷◌, if◌then◌else◌}
use Rattle.dcsctp_api.specs.types.declared.snapshot.HandoverOrderedStream.{HandoverOrderedStream}
use Rattle.dcsctp_api.specs.spec.queues.IncomingStreams.{StreamModel}
use Rattle.dcsctp_api.specs.spec.queues.ReceivedParts.{restored_stream}

-- the stream that the list has under an identifier, or this one if it has none
abbrev pub restored_over : List HandoverOrderedStream → ℕ → StreamModel → StreamModel
restored_over [] id before = before
restored_over (state ∷ states) id before = if state.id == id then restored_stream id (state ∷ []) else restored_over states id before
