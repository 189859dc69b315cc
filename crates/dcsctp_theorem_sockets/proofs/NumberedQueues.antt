-- A send queue without streams, once messages are interleaved or not.
use Rattle.std.proofs.Common.{◌≡◌, Bool, true, false, if◌then◌else◌, Option, List, [], map, refl, sym, ap, subst, ℕ}
use Rattle.dcsctp_spec_lemmas.specs.types.queues.SendStreams.{Stream}
use Rattle.dcsctp_spec_lemmas.specs.spec.queues.SendQueue.{SendQueueState, renumbered_under_way, is_other, numbered_for}
use Rattle.dcsctp_spec_lemmas.specs.spec.queues.Transfer.{Transfer}
use Rattle.dcsctp_spec_lemmas.specs.spec.endpoint.FlushOutcomes.{AreQueuesIdle}

none_renumbered : (is_new : Bool) (f : Stream → Stream) (streams : List Stream) → streams ≡ [] → (if is_new then map f streams else streams) ≡ streams
none_renumbered true f streams none = rw none refl
none_renumbered false f streams none = refl

-- Nothing is numbered anew.
pub numbered_without_streams : (enabled : Bool) (window : ℕ) (queue : SendQueueState) → queue.streams ≡ [] → numbered_for enabled window queue ≡ record queue { is_interleaved = enabled; window = window }
numbered_without_streams enabled window queue none =
    ap {A = List Stream} (λ (streams : List Stream). record queue { is_interleaved = enabled; window = window; streams = streams })
    (none_renumbered (is_other queue.is_interleaved enabled) (renumbered_under_way enabled) queue.streams none)

-- It is idle if it was.
pub idle_once_numbered : (enabled : Bool) (window : ℕ) (queue : SendQueueState) (transfer : Option Transfer) → queue.streams ≡ []
    → AreQueuesIdle (record queue { is_interleaved = enabled; window = window }) transfer → AreQueuesIdle (numbered_for enabled window queue) transfer
idle_once_numbered enabled window queue transfer none idle = subst (λ (q : SendQueueState). AreQueuesIdle q transfer) (sym (numbered_without_streams enabled window queue none)) idle
