use Rattle.std.proofs.Common.{refl, ap, ◌∙◌, List, set}
use Rattle.dcsctp_api.specs.types.queues.SendStreams.{Stream}
use Rattle.dcsctp_send_queue.proofs.BoxLemmas.{boxes-set, lent_at}
use Rattle.dcsctp_send_queue.proofs.stream_list.StreamList.at_mut.Goals as goal

pub returns : goal.returns
returns c = (
  (refl, (λ left. boxes-set _ _ _ ∙ ap (λ (streams : List Stream). set streams c.args.place left) c.self.view_is)),
  record {
    writes_back = tt;
    value = lent_at _ _ _ _ _ c.self.view_is c.requires c.index_mut-boxed.ensures.value c.deref_mut.ensures.value;
  },
)
