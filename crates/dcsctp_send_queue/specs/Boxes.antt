-- Streams in blocks of their own.
use Rattle.std.specs.Prelude.{List, map}
use Rattle.std.specs.declared.boxed.Box.{Box}
use Rattle.std.specs.declared.alloc.Global.{Global}
use Rattle.dcsctp_api.specs.types.queues.SendStreams.{Stream}

-- the streams that these blocks have
abbrev pub in_boxes : List (Box Stream Global) → List Stream
in_boxes boxes = map (λ it. it.value) boxes
