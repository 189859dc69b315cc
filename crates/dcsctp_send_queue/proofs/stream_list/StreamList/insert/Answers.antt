use Rattle.dcsctp_send_queue.proofs.BoxLemmas.{put_in}
use Rattle.dcsctp_send_queue.proofs.stream_list.StreamList.insert.Goals as goal

pub returns-clause-ok : goal.returns-clause-ok
returns-clause-ok c = put_in _ _ _ _ _ _ c.self.view_is c.in_ok-insert.ensures.items c.in_ok-boxed.ensures.ok
