use Rattle.std.proofs.Common.{◌∙◌, rules, tests, ◌&&◌, ◌||◌, is_some}
use Rattle.std.proofs.lemmas.Iterator.{YieldsList-from_slice}
use Rattle.std.proofs.lemmas.Iterator.Search.{any_from_yields_List}
use Rattle.dcsctp_api.specs.types.queues.SendStreams.{Stream, turn_of}
use Rattle.dcsctp_api.specs.spec.queues.SendQueue.{has_live}
use Rattle.dcsctp_send_queue.proofs.BoxLemmas.{Boxed, any_in_boxes}
use Rattle.dcsctp_send_queue.proofs.streams.Streams.waits_at.Goals as goal

pub returns : goal.returns
returns c =
    let test = λ (stream : Stream). is_some (turn_of stream) && (is_some stream.under_way || has_live c.args.now stream.messages) in
    let boxes = c.boxes.result.now in
    any_in_boxes test boxes _ _ (c.boxes.ensures ∙ c.self.view_is)
    (any_from_yields_List (λ (it : Boxed). test it.value) _ _ _ c.any.ensures.ran (YieldsList-from_slice boxes cc) (λ x b q k. search (rules, tests)))
