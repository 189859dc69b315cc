-- What a control message says, apart from where in memory it lies.
use Rattle.dcsctp_channel_spec.specs.Slots.{Opening}
use Rattle.dcsctp_channel_messages.specs.declared.control.Control.{Control as Message}
use Rattle.dcsctp_channel_messages.specs.declared.control.Control.TheVariants.{Open, Ack}
use Rattle.dcsctp_channel_messages.specs.declared.control.OpenMessage.{OpenMessage}
use Rattle.dcsctp_channel_messages.specs.Format.{Control, open_message, acknowledgement}

abbrev pub opening_of_message : OpenMessage → Opening
opening_of_message message = record { label = message.label.now; protocol = message.protocol.now; delivery = message.delivery }

abbrev pub control_content : Message → Control
control_content (Open message) = open_message (opening_of_message message)
control_content Ack = acknowledgement
