use Rattle.std.proofs.Common.{◌≡◌, drop}
use Rattle.dcsctp_channel_calls.specs.Handover.{places_beside, no_places}
use Rattle.dcsctp_channels.specs.Layer.{places_of}
use Rattle.dcsctp_channels.proofs.handover.all_placed.Given as goal

-- What is left has its places beside those so far, if all have theirs.
abbrev pub invariant-loop-channel : goal.invariant-loop-channel
invariant-loop-channel l = record { same : places_beside l.moment l.count l.named (drop l.channel-index l.channels) (places_of l.table) ≡ places_beside l.moment l.count l.named l.channels no_places }
