-- DATA_CHANNEL_OPEN and DATA_CHANNEL_ACK as bytes (RFC 8832, section 5).
use Rattle.std.specs.Prelude.{◌==◌, ℕ, ◌+◌, ◌%◌, Bool, true, false, not, List, [], ◌∷◌, ◌++◌, length, take, drop, slice_index, Option, Some, None, Result, Ok, Err, nat_lt, if◌then◌else◌}
use Rattle.std.specs.Int.{w16, w32, to_be_bytes}
use Rattle.dcsctp_wire.specs.Fields.{u16_at, u32_at}
use Rattle.dcsctp_channel_spec.specs.declared.types.Delivery.{Delivery}
use Rattle.dcsctp_channel_spec.specs.declared.types.Reliability.{Reliability}
use Rattle.dcsctp_channel_spec.specs.declared.types.Reliability.TheVariants.{Reliable, Retransmissions, Lifetime}
use Rattle.dcsctp_channel_spec.specs.Slots.{Opening}
use Rattle.dcsctp_channel_messages.specs.declared.control.ControlError.{ControlError}
use Rattle.dcsctp_channel_messages.specs.declared.control.ControlError.TheVariants.{Empty, UnknownMessageType, CutOff, UnknownChannelType}

pub data Control : Type 0 where
  open_message : Opening → Control
  acknowledgement : Control

-- ---- message types (RFC 8832, section 8.2.1)

abbrev pub ack_type : ℕ
ack_type = 2

abbrev pub open_type : ℕ
open_type = 3

-- ---- channel types (RFC 8832, sections 5.1 and 8.2.2), of ordered channels and of unordered ones

abbrev pub channel_type : Bool → Reliability → ℕ
channel_type true Reliable = 0x00
channel_type true (Retransmissions limit) = 0x01
channel_type true (Lifetime limit) = 0x02
channel_type false Reliable = 0x80
channel_type false (Retransmissions limit) = 0x81
channel_type false (Lifetime limit) = 0x82

-- the reliability parameter
abbrev pub reliability_parameter : Reliability → ℕ
reliability_parameter Reliable = 0
reliability_parameter (Retransmissions limit) = limit
reliability_parameter (Lifetime limit) = limit

-- by the channel type without its highest bit; the parameter of a reliable channel is ignored
abbrev pub reliability_of : ℕ → ℕ → Option Reliability
reliability_of kind parameter =
    if kind == 0 then Some Reliable
    else (if kind == 1 then Some (Retransmissions parameter)
    else (if kind == 2 then Some (Lifetime parameter)
    else None))

-- ---- written

unfoldable pub open_bytes : Opening → List ℕ
open_bytes opening =
    open_type ∷ channel_type opening.delivery.ordered opening.delivery.reliability ∷ []
    ++ to_be_bytes w16 opening.delivery.priority
    ++ to_be_bytes w32 (reliability_parameter opening.delivery.reliability)
    ++ to_be_bytes w16 (length opening.label)
    ++ to_be_bytes w16 (length opening.protocol)
    ++ opening.label
    ++ opening.protocol

abbrev pub ack_bytes : List ℕ
ack_bytes = ack_type ∷ []

-- ---- read

abbrev pub delivery_with : List ℕ → Option Reliability → Option Delivery
delivery_with bytes None = None
delivery_with bytes (Some reliability) =
    Some (record { ordered = nat_lt (slice_index bytes 1) 0x80; reliability = reliability; priority = u16_at 2 bytes })

abbrev pub delivery_of_bytes : List ℕ → Option Delivery
delivery_of_bytes bytes = delivery_with bytes (reliability_of (slice_index bytes 1 % 0x80) (u32_at 4 bytes))

abbrev pub label_length : List ℕ → ℕ
label_length bytes = u16_at 8 bytes

abbrev pub protocol_length : List ℕ → ℕ
protocol_length bytes = u16_at 10 bytes

-- label and protocol, of the lengths that were announced; what follows is ignored
abbrev pub opening_with : List ℕ → Delivery → Opening
opening_with bytes delivery =
    record {
      label = take (label_length bytes) (drop 12 bytes);
      protocol = take (protocol_length bytes) (drop (12 + label_length bytes) bytes);
      delivery = delivery;
    }

abbrev pub open_with : List ℕ → Option Delivery → Result Control ControlError
open_with bytes None = Err (UnknownChannelType (slice_index bytes 1))
open_with bytes (Some delivery) =
    if nat_lt (length bytes) (12 + label_length bytes + protocol_length bytes) then Err CutOff
    else Ok (open_message (opening_with bytes delivery))

-- an OPEN with all its fixed fields
unfoldable pub open_of_bytes : List ℕ → Result Control ControlError
open_of_bytes bytes = open_with bytes (delivery_of_bytes bytes)

-- what bytes are; an ACK may have any length
unfoldable pub control_of_bytes : List ℕ → Result Control ControlError
control_of_bytes [] = Err Empty
control_of_bytes (kind ∷ rest) =
    if kind == ack_type then Ok acknowledgement
    else (if not (kind == open_type) then Err (UnknownMessageType kind)
    else (if nat_lt (length (kind ∷ rest)) 12 then Err CutOff
    else open_of_bytes (kind ∷ rest)))
