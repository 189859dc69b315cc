-- A send queue that has given none.
use Rattle.std.proofs.Common.{◌≡◌, ℕ, None, List, []}
use Rattle.dcsctp_api.specs.spec.endpoint.Event.{Event}
use Rattle.dcsctp_api.specs.spec.queues.SendQueue.{SendQueueState}
use Rattle.dcsctp_api.specs.spec.queues.Sending.{Drops, none, more, TakesNone}
use Rattle.dcsctp_api.specs.spec.queues.NextItem.{HasNone}

idle_after : (now : ℕ) (old queue : SendQueueState) (events : List (Event (List ℕ))) → Drops now old events queue → old.held ≡ None → queue.held ≡ None
idle_after now old queue [] none idle = idle
idle_after now old queue events (more es before place message drops next front expired) idle = idle_after now old before es drops idle

-- the send queue has given none
pub has_none : (now : ℕ) (old : SendQueueState) (told : List (Event (List ℕ))) (new : SendQueueState) (after : List (Event (List ℕ))) → TakesNone now old told new after → HasNone new
has_none now old told new after takes =
    record { idle = idle_after now old new takes.drops.events takes.drops.drops takes.idle; none_left = takes.none_left }
