-- The rows of the table as functions of a stream in use.
use Rattle.std.specs.Prelude.{◌≡◌, ℕ, Option, Some, None, List, [], ◌∷◌, ◌++◌, map}
use Rattle.dcsctp_channel_calls.specs.messages.channel_spec.declared.types.StreamUse.{StreamUse}
use Rattle.dcsctp_channel_calls.specs.messages.channel_spec.Slots.{StreamSlot, free, used, name_of_slot, Report, opened, ended, SlotOutcome, SlotInput, hears_ack, hears_bad_message, may_acknowledge, is_closed, all_is_sent, cannot_reset, was_performed, was_refused, peer_resets, association_ends}
use Rattle.dcsctp_channel_calls.specs.declared.channel.HeldStream.{HeldStream}
use Rattle.dcsctp_channel_calls.specs.View.{of_channel, LayerView, went_on, streams_with, names_with}
use Rattle.dcsctp_channels.specs.declared.rows.Notice.{Notice}
use Rattle.dcsctp_channels.specs.declared.rows.Notice.TheVariants.{Opened, Ended}
use Rattle.dcsctp_channels.specs.declared.rows.Row.{Row}
use Rattle.dcsctp_channels.specs.declared.rows.Row.TheVariants.{Ack, BadMessage, Acknowledged, Close, Asked, NotAsked, Performed, Refused, PeerReset, Lost}
use Rattle.dcsctp_channels.specs.declared.rows.Step.{Step}

abbrev pub row_input : Row → SlotInput
row_input Ack = hears_ack
row_input BadMessage = hears_bad_message
row_input Acknowledged = may_acknowledge
row_input Close = is_closed
row_input Asked = all_is_sent
row_input NotAsked = cannot_reset
row_input Performed = was_performed
row_input Refused = was_refused
row_input PeerReset = peer_resets
row_input Lost = association_ends

abbrev pub slot_of_use : Option StreamUse → StreamSlot
slot_of_use None = free
slot_of_use (Some stream) = used stream

abbrev pub notice_reports : Option Notice → List Report
notice_reports None = []
notice_reports (Some (Opened name)) = opened name ∷ []
notice_reports (Some (Ended name why)) = ended name why ∷ []

-- It leaves and reports what a row says.
pub record IsStep (step : Step) (outcome : SlotOutcome) : Type 0 where
  pub after : slot_of_use step.after ≡ outcome.after
  pub reports : notice_reports step.notice ≡ outcome.reports

-- the step is taken on a stream in use
abbrev pub step_taken : ℕ → HeldStream → Step → LayerView → LayerView
step_taken number held step layer =
    record layer {
      streams = streams_with number (Some held) (slot_of_use step.after) (went_on layer.moment held) layer.streams;
      names = names_with number held.stream.name (name_of_slot (slot_of_use step.after)) layer.names;
      notices = layer.notices ++ map of_channel (notice_reports step.notice);
    }
