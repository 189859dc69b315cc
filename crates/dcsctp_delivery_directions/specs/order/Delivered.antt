-- What is promised of one direction of an association beside that each message read was queued, and
-- none twice: ordered messages of a stream are read in the order in which they were queued, and
-- without gaps where none is skipped (RFC 9260, section 6.6).
use Rattle.std.specs.Prelude.{ℕ, Bool, false, List}
use Rattle.dcsctp_spec_lemmas.specs.types.queues.Messages.{MessageContent}
use Rattle.dcsctp_spec_lemmas.specs.spec.queues.Incoming.{IncomingModel}
use Rattle.dcsctp_delivery_directions.specs.sending.Log.{Message, History, sent_messages}
use Rattle.dcsctp_delivery_directions.specs.receiving.Ready.{AreDistinct, WereQueued}
use Rattle.dcsctp_delivery_directions.specs.directions.Directions.{AreDelivered}
use Rattle.dcsctp_delivery_directions.specs.order.Queue.{ComeInOrder, LeaveNoGap}
use Rattle.dcsctp_delivery_directions.specs.order.Reading.{CountsFromZero, Watch, uncut, any_asked}
use Rattle.dcsctp_delivery_directions.specs.order.Epochs.{AreSentUnlimited}
use Rattle.dcsctp_delivery_directions.specs.order.Gaps.{SendsInTurn}
use Rattle.dcsctp_delivery_directions.specs.order.Incoming.{IncomingOrdered}

-- Each message that was read was queued, none twice, and the ordered ones of each stream in the order of reading.
pub record AreDeliveredInOrder (queued : List Message) (read : List MessageContent) : Type 0 where
  pub delivered : AreDelivered queued read
  pub in_order : (id : ℕ) → ComeInOrder queued id delivered.places

-- And none of them is left out before another: what was read of a stream's ordered messages is a prefix of what was queued.
pub record AreDeliveredWithoutGaps (queued : List Message) (read : List MessageContent) : Type 0 where
  pub ordered : AreDeliveredInOrder queued read
  pub no_gap : (id : ℕ) → LeaveNoGap queued id ordered.delivered.places

-- Messages are read in order where the numbers of each stream begin at 0.
abbrev pub ReadIsInOrder : Type 0
ReadIsInOrder =
    (watch : ℕ → Watch) (queued : List Message) (history : History) (quiet : ℕ → Bool) (got : List ℕ) (base : ℕ) (places : List ℕ) (incoming : IncomingModel) (read : List MessageContent)
    → WereQueued queued places read → AreDistinct places → ((id : ℕ) → CountsFromZero history id) → IncomingOrdered watch (sent_messages queued history) quiet got base places incoming
    → AreDeliveredInOrder queued read

-- They are read without gaps where besides no message that was sent has limits, nothing is reset, and messages are sent in turn.
abbrev pub ReadIsWithoutGaps : Type 0
ReadIsWithoutGaps =
    (queued : List Message) (history : History) (got : List ℕ) (base : ℕ) (places : List ℕ) (incoming : IncomingModel) (read : List MessageContent)
    → WereQueued queued places read → AreDistinct places → ((id : ℕ) → CountsFromZero history id) → ((id : ℕ) → SendsInTurn queued history id) → ((id : ℕ) → AreSentUnlimited history id 0)
    → IncomingOrdered (uncut false any_asked) (sent_messages queued history) (λ id. false) got base places incoming → AreDeliveredWithoutGaps queued read
