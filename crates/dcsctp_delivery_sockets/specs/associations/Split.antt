-- Each reset of a stream that a receiver has performed was asked for by its peer's user, with interleaving or without (RFC 6525,
-- sections 5.1.2 and 5.2.2).
use Rattle.std.specs.Prelude.{◌≡◌, ◌<◌, ◌+◌, ◌^◌, ℕ, true, List, length}
use Rattle.dcsctp_spec_lemmas.specs.types.declared.options.Options.{Options}
use Rattle.dcsctp_spec_lemmas.specs.spec.endpoint.Endpoint.{Endpoint}
use Rattle.dcsctp_spec_lemmas.specs.spec.Packet.{Emission}
use Rattle.dcsctp_spec_lemmas.specs.spec.association.Effect.{Effect}
use Rattle.dcsctp_delivery_directions.specs.sending.Log.{Message}
use Rattle.dcsctp_delivery_directions.specs.sending.ChunkCounts.{chunks_to}
use Rattle.dcsctp_delivery_directions.specs.epochs.InTurn.{AreSplitInTurn}
use Rattle.dcsctp_delivery_sockets.specs.associations.Ends.{Ends, NumbersFromZero, chunks_before, Between, sending_side, receiving_side}
use Rattle.dcsctp_delivery_sockets.specs.associations.Reads.{Reading, with_key}

-- Where no request of the sender fails, each reset that the receiver has performed separates what was queued before it was asked for
-- from what was queued since, if the numbers of each stream begin at 0.
abbrev pub EndsSplitAsAsked : Type 0
EndsSplitAsAsked =
    (options : Options) (ends : Ends) (e : Endpoint) (queued : List Message) (past : List Effect) (packets : List Emission) (other : Endpoint) (their_past : List Effect) (reading : Reading)
    → Between options ends (sending_side e queued past packets) (receiving_side other their_past reading) → length queued < 2 ^ 64 → ((tag : ℕ) → chunks_before (ends.former tag) packets + chunks_to (ends.latest tag) packets < 2 ^ 30)
    → ends.calls.in_turn ≡ true → (tag : ℕ) → NumbersFromZero e past tag → AreSplitInTurn ends.calls.asks (ends.gets tag).performed queued (with_key tag reading.reads)
