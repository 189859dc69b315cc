-- A queue that is made ready for another association: it is the same if the numbering is set before, or after.
use Rattle.std.proofs.Common.{◌≡◌, ◌∙◌, ℕ, ◌+◌, ◌-◌, ◌^◌, min, Bool, true, false, if◌then◌else◌, Option, None, Some, List, [], ◌∷◌, map, refl, sym, ap, arith}
use Rattle.std.proofs.lemmas.List.Sums.{sum_by-cons}
use Rattle.dcsctp_spec.specs.types.declared.sending.UnderWay.{UnderWay}
use Rattle.dcsctp_spec.specs.types.queues.SendStreams.{Stream, renumbered_stream, amount_raised, stream_counted, progress_size, stream_put_back}
use Rattle.dcsctp_spec.specs.queues.SendQueue.{SendQueueState, is_front_unordered, message_renumbered, renumbered_under_way, is_other, numbered_for, under_way_size, queue_restarted}

-- A stream's numbers don't matter once it begins again, nor how far its message has come.
counted_anew : (sent : ℕ) (i b : Bool) (w : Option UnderWay) (s : Stream)
    → renumbered_stream (record (amount_raised sent (record (stream_counted i b s) { under_way = w })) { under_way = None }) ≡ renumbered_stream (record (amount_raised sent s) { under_way = None })
counted_anew sent false false w s = refl
counted_anew sent false true w s = refl
counted_anew sent true false w s = refl
counted_anew sent true true w s = refl

anew_if : (w : Option UnderWay) (b : Bool) (s : Stream)
    → renumbered_stream (stream_put_back (renumbered_under_way b (record s { under_way = w }))) ≡ renumbered_stream (stream_put_back (record s { under_way = w }))
anew_if None b s = refl
anew_if (Some u) b s =
    counted_anew u.sent b (is_front_unordered s.messages) (Some (message_renumbered u (record s { under_way = Some u }))) (record s { under_way = Some u })

stream_anew : (b : Bool) (s : Stream) → renumbered_stream (stream_put_back (renumbered_under_way b s)) ≡ renumbered_stream (stream_put_back s)
stream_anew b s = anew_if s.under_way b s

size_if : (w : Option UnderWay) (b : Bool) (s : Stream) → progress_size (renumbered_under_way b (record s { under_way = w })).under_way ≡ progress_size w
size_if None b s = refl
size_if (Some u) b s = refl

size_anew : (b : Bool) (s : Stream) → progress_size (renumbered_under_way b s).under_way ≡ progress_size s.under_way
size_anew b s = size_if s.under_way b s

streams_anew : (b : Bool) (streams : List Stream) → map renumbered_stream (map stream_put_back (map (renumbered_under_way b) streams)) ≡ map renumbered_stream (map stream_put_back streams)
streams_anew b [] = refl
streams_anew b (x ∷ xs) = rw (stream_anew b x, streams_anew b xs) refl

-- what a stream adds to what was sent of messages under way
abbrev sent_on : Stream → ℕ
sent_on stream = progress_size stream.under_way

sizes_anew : (b : Bool) (streams : List Stream) → under_way_size (map (renumbered_under_way b) streams) ≡ under_way_size streams
sizes_anew b [] = refl
sizes_anew b (x ∷ xs) =
    let one = size_anew b x in
    let rest = sizes_anew b xs in
    let left = sum_by-cons sent_on (renumbered_under_way b x) (map (renumbered_under_way b) xs) in
    let right = sum_by-cons sent_on x xs in
    omega (arith, one, rest, left, right)

-- With no message under way, no stream is renumbered.
none_renumbered : (b : Bool) (streams : List Stream) → map (renumbered_under_way b) (map renumbered_stream (map stream_put_back streams)) ≡ map renumbered_stream (map stream_put_back streams)
none_renumbered b [] = refl
none_renumbered b (x ∷ xs) = ap (λ (ts : List Stream). renumbered_stream (stream_put_back x) ∷ ts) (none_renumbered b xs)

by_kind : (c b : Bool) (window : ℕ) (queue : SendQueueState)
    → queue_restarted (record queue { is_interleaved = b; window = window; streams = if c then map (renumbered_under_way b) queue.streams else queue.streams })
    ≡ record (queue_restarted queue) { is_interleaved = b; window = window; streams = if c then map (renumbered_under_way b) (queue_restarted queue).streams else (queue_restarted queue).streams }
by_kind false b window queue = refl
by_kind true b window queue =
    ap {A = List Stream} (λ (streams : List Stream). with_streams streams (under_way_size (map (renumbered_under_way b) queue.streams))) (streams_anew b queue.streams)
    ∙ (ap {A = ℕ} (λ (size : ℕ). with_streams (map renumbered_stream (map stream_put_back queue.streams)) size) (sizes_anew b queue.streams)
    ∙ ap {A = List Stream} (λ (streams : List Stream). with_streams streams (under_way_size queue.streams)) (sym (none_renumbered b queue.streams)))
  where
    with_streams : List Stream → ℕ → SendQueueState
    with_streams streams size = record queue { is_interleaved = b; window = window; streams = streams; total_amount = min (queue.total_amount + size) (2 ^ 64 - 1); held = None; reserved = 0 }

pub anew_either : (b : Bool) (window : ℕ) (queue : SendQueueState) → queue_restarted (numbered_for b window queue) ≡ numbered_for b window (queue_restarted queue)
anew_either b window queue = by_kind (is_other queue.is_interleaved b) b window queue
