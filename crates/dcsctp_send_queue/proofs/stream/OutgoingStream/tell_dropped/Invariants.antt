use Rattle.std.proofs.Common.{◌≡◌, ℕ, List, ◌++◌, drop}
use Rattle.dcsctp_api.specs.spec.endpoint.Event.{Event}
use Rattle.dcsctp_send_queue.specs.Telling.{contents}
use Rattle.dcsctp_api.specs.spec.queues.SendEvents.{expiries}
use Rattle.dcsctp_send_queue.proofs.stream.OutgoingStream.tell_dropped.Given as goal

abbrev pub invariant-loop-place : goal.invariant-loop-place
invariant-loop-place l =
    (told : List (Event (List ℕ))) × (contents l.events ≡ contents l.initial.events ++ told)
    × (expiries (drop l.kept l.self-inside.messages.items) ≡ told ++ expiries (drop l.place l.self-inside.messages.items))
