-- What a packet that is filled carries.
use Rattle.std.proofs.Common.{◌≡◌, ℕ, Bool, ◌+◌, ◌%◌, ◌^◌, List, [], ◌∷◌, ◌++◌, sym, ◌∙◌, ap, arith}
use Rattle.dcsctp_spec.specs.Packet.{Plain, unworked}
use Rattle.dcsctp_spec.specs.queues.Chunks.{IsChunkOfItem, AreChunksOfTsns, chunk_said}
use Rattle.dcsctp_spec.specs.queues.Filling.{Stage, FillsPacket}
use Rattle.dcsctp_spec.specs.queues.Outstanding.{OutstandingState}
use Rattle.dcsctp_spec.specs.queues.SendQueue.{SendQueueState}
use Rattle.dcsctp_delivery_directions.specs.sending.Log.{Message, History, log_extended}
use Rattle.dcsctp_delivery_directions.specs.sending.Numbers.{NumbersMessages, AreOfKind}
use Rattle.dcsctp_delivery_directions.specs.sending.Stages.{Bears, Stands, Stays, IsOfLog, AreOfLog}
use Rattle.dcsctp_delivery_directions.proofs.sending.Filling.{fills_stay}

-- the pieces are sent as what is in flight is
pub kinds_of : {history : History} {queue : SendQueueState} {is_interleaved : Bool} → NumbersMessages history queue → is_interleaved ≡ queue.is_interleaved → AreOfKind is_interleaved history.log
kinds_of numbers same n f at = numbers.kinds n f at ∙ sym same

chunk_of_log : (history : History) (first acknowledged : ℕ) (outstanding : OutstandingState) (tsn : ℕ) (chunk : Plain) → AreOfKind outstanding.is_interleaved history.log → Bears history first acknowledged outstanding → IsChunkOfItem outstanding tsn chunk → IsOfLog history.log first outstanding.is_interleaved chunk
chunk_of_log history first acknowledged outstanding tsn chunk kinds b is =
    let same : tsn ≡ (first + (acknowledged + is.place)) % 2 ^ 32 = is.is ∙ grind (arith, b.tsn) in
    record {
      number = acknowledged + is.place;
      part = is.item.fragment;
      says = b.items is.place is.item is.at;
      is = is.says ∙ ap (λ (t : ℕ). unworked (chunk_said outstanding.is_interleaved t is.item.fragment)) same;
      kind = kinds (acknowledged + is.place);
    }

pub chunks_of_log : (history : History) (first acknowledged : ℕ) (outstanding : OutstandingState) (tsns : List ℕ) (chunks : List Plain) → AreOfKind outstanding.is_interleaved history.log → Bears history first acknowledged outstanding → AreChunksOfTsns outstanding tsns chunks
    → AreOfLog history.log first outstanding.is_interleaved chunks
chunks_of_log history first acknowledged outstanding [] [] kinds b are = tt
chunks_of_log history first acknowledged outstanding [] (c ∷ chunks) kinds b are = absurd are
chunks_of_log history first acknowledged outstanding (t ∷ tsns) [] kinds b are = absurd are
chunks_of_log history first acknowledged outstanding (t ∷ tsns) (c ∷ chunks) kinds b are = (chunk_of_log history first acknowledged outstanding t c kinds b are.0, chunks_of_log history first acknowledged outstanding tsns chunks kinds b are.1)

pub packets_bear : (queued : List Message) (history : History) (first acknowledged now : ℕ) (old new : Stage) (chunks : List Plain) → Stands queued history first acknowledged old → FillsPacket now old new
    → AreChunksOfTsns new.queue.outstanding new.tsns chunks
    → (stays : Stays queued history first acknowledged new) × AreOfLog (stays.more ++ history.log) first new.queue.outstanding.is_interleaved chunks
packets_bear queued history first acknowledged now old new chunks stands fills are =
    let stays = fills_stay queued history first acknowledged now old new stands fills in
    (stays, chunks_of_log (log_extended stays.more history) first acknowledged new.queue.outstanding new.tsns chunks (kinds_of stays.stands.numbers stays.stands.kind) stays.stands.bears are)
