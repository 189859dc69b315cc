use Rattle.std.proofs.Common.{map, take}
use Rattle.std.specs.List.{AllByRecursion}
use Rattle.dcsctp_core.specs.types.queues.Messages.{message_content}
use Rattle.dcsctp_delivery_sockets.specs.sockets.Delivery.{FitsMessage}
use Rattle.dcsctp_world.proofs.fits.messages_fit.Given as goal

abbrev pub invariant-loop-message : goal.invariant-loop-message
invariant-loop-message l = AllByRecursion FitsMessage (map message_content (take l.message-index l.messages))
