use Rattle.dcsctp_delivery_sockets.proofs.sockets.ShownDelivery.{deliver}
use Rattle.dcsctp_delivery_sockets.proofs.shown_laws.users_read_what_was_sent.Goals as goal

pub returns : goal.returns
returns c = deliver c.sockets_deliver.ensures c.shown_tags_suffice.ensures
