-- What the sockets of a run deliver.
use Rattle.dcsctp_delivery_sockets.specs.sockets.ShownDelivery.{AllowsDelivery, DeliverThroughout}
use Rattle.dcsctp_delivery_sockets.specs.sockets.UserMessages.{messages_of_turns, sendings_of_turns, read_of, IsDelivered}
use Rattle.dcsctp_spec_runs.specs.Sockets.{Both, of_side, of_other, PerformedAct, turns_after, acts_of}
use Rattle.dcsctp_theorem_sockets.specs.Agreement.{AreFresh, recorded_past}
use Rattle.dcsctp_channel_calls.specs.api.types.declared.options.Options.{Options}
use Rattle.dcsctp_channel_calls.specs.api.types.declared.schedule.Side.{Side}
use Rattle.dcsctp_channel_calls.specs.api.types.declared.schedule.Side.TheVariants as sides
use Rattle.dcsctp_channel_calls.specs.api.types.Schedule.{AreHonest}
use Rattle.dcsctp_channel_calls.specs.api.types.queues.Messages.{MessageContent}
use Rattle.dcsctp_channel_calls.specs.api.spec.endpoint.Endpoint.{fresh_endpoint}
use Rattle.dcsctp_channel_calls.specs.api.spec.endpoint.MessageOutcomes.{Sending}
use Rattle.dcsctp_delivery_sockets.specs.sockets.Ordered.{AllowsOrder, IsDeliveredInOrder, read_under, HasOneTag}
use Rattle.std.proofs.Common.{ℕ, List, [], ◌∷◌, length}
use Rattle.dcsctp_delivery_sockets.specs.sockets.Epochs.{HasReset, HaveNoGapBefore}
use Rattle.dcsctp_delivery_sockets.specs.associations.InOrder.{Interleaves}

pub first_delivers : (options : Both Options) (steps : List PerformedAct) → DeliverThroughout options steps → AreHonest (acts_of steps) → AreFresh (turns_after steps) → AllowsDelivery options steps → (side : Side)
    → IsDelivered (messages_of_turns (fresh_endpoint (of_other side options)) (of_other side (turns_after steps))) (read_of (fresh_endpoint (of_side side options)) (of_side side (turns_after steps)))
first_delivers options [] throughout honest fresh allows side = nothing side
  where
    nothing : (side : Side) → IsDelivered (messages_of_turns (fresh_endpoint (of_other side options)) (of_other side (turns_after []))) (read_of (fresh_endpoint (of_side side options)) (of_side side (turns_after [])))
    nothing sides.A = record { places = []; were_sent = tt; once = tt }
    nothing sides.B = record { places = []; were_sent = tt; once = tt }
first_delivers options (worked ∷ earlier) throughout honest fresh allows side = (throughout.0 honest fresh allows side).once

-- in order
pub first_in_order : (options : Both Options) (steps : List PerformedAct) → DeliverThroughout options steps → AreHonest (acts_of steps) → AreFresh (turns_after steps) → AllowsDelivery options steps → (side : Side) (tag : ℕ)
    → AllowsOrder (of_other side options) (of_other side (turns_after steps)) tag
    → IsDeliveredInOrder (sendings_of_turns (fresh_endpoint (of_other side options)) (of_other side (turns_after steps))) (read_under tag (of_side side options) (of_side side (turns_after steps)))
first_in_order options [] throughout honest fresh allows side tag order = nothing side
  where
    nothing : (side : Side) → IsDeliveredInOrder (sendings_of_turns (fresh_endpoint (of_other side options)) (of_other side (turns_after []))) (read_under tag (of_side side options) (of_side side (turns_after [])))
    nothing sides.A = record { places = []; were_sent = tt; once = tt; in_order = λ stream. tt }
    nothing sides.B = record { places = []; were_sent = tt; once = tt; in_order = λ stream. tt }
first_in_order options (worked ∷ earlier) throughout honest fresh allows side tag order = (throughout.0 honest fresh allows side).in_order tag order

-- without gaps
pub record DeliveredWhole (asked : ℕ → ℕ → Type 0) (sent : List Sending) (read : List MessageContent) : Type 0 where
  pub delivered : IsDeliveredInOrder sent read
  pub no_gap : (stream : ℕ) → HaveNoGapBefore (asked stream) sent stream (length sent) delivered.places

pub first_whole : (options : Both Options) (steps : List PerformedAct) → DeliverThroughout options steps → AreHonest (acts_of steps) → AreFresh (turns_after steps) → AllowsDelivery options steps → (side : Side) (tag : ℕ)
    → HasOneTag (recorded_past (of_other side (turns_after steps))) → Interleaves (recorded_past (of_other side (turns_after steps))) tag
    → DeliveredWhole (HasReset (of_other side options) (of_other side (turns_after steps))) (sendings_of_turns (fresh_endpoint (of_other side options)) (of_other side (turns_after steps)))
    (read_under tag (of_side side options) (of_side side (turns_after steps)))
first_whole options [] throughout honest fresh allows side tag one_tag interleaves = nothing side
  where
    nothing : (side : Side) → DeliveredWhole (HasReset (of_other side options) (of_other side (turns_after []))) (sendings_of_turns (fresh_endpoint (of_other side options)) (of_other side (turns_after [])))
        (read_under tag (of_side side options) (of_side side (turns_after [])))
    nothing sides.A = record { delivered = record { places = []; were_sent = tt; once = tt; in_order = λ stream. tt }; no_gap = λ stream earlier later has. absurd has }
    nothing sides.B = record { delivered = record { places = []; were_sent = tt; once = tt; in_order = λ stream. tt }; no_gap = λ stream earlier later has. absurd has }
first_whole options (worked ∷ earlier) throughout honest fresh allows side tag one_tag interleaves =
    let delivers = (throughout.0 honest fresh allows side).in_epochs tag one_tag interleaves in record { delivered = delivers.delivered; no_gap = delivers.no_gap }
