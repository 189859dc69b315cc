-- Control messages by hand from RFC 8832, sections 5.1 and 5.2.
use Rattle.std.proofs.Common.{◌≡◌, true, false, [], ◌∷◌, Result, Ok, Err, refl}
use Rattle.dcsctp_channel_spec.specs.declared.types.Reliability.TheVariants.{Reliable, Retransmissions, Lifetime}
use Rattle.dcsctp_channel_spec.specs.Slots.{Opening}
use Rattle.dcsctp_channel_messages.specs.declared.control.ControlError.{ControlError}
use Rattle.dcsctp_channel_messages.specs.declared.control.ControlError.TheVariants.{Empty, UnknownMessageType, CutOff, UnknownChannelType}
use Rattle.dcsctp_channel_messages.specs.Format.{Control, open_message, acknowledgement, open_of_bytes, open_bytes, control_of_bytes}

abbrev done : Control → Result Control ControlError
done control = Ok control

abbrev fault : ControlError → Result Control ControlError
fault error = Err error

-- a reliable, ordered channel "ab" of priority 256
abbrev plain : Opening
plain = record { label = 97 ∷ 98 ∷ []; protocol = []; delivery = record { ordered = true; reliability = Reliable; priority = 256 } }

plain_is : open_bytes plain ≡ 3 ∷ 0x00 ∷ 1 ∷ 0 ∷ 0 ∷ 0 ∷ 0 ∷ 0 ∷ 0 ∷ 2 ∷ 0 ∷ 0 ∷ 97 ∷ 98 ∷ []
unfolding open_bytes
plain_is = refl

-- an unordered one "a" with the protocol "p", of priority 512, whose messages live for 3,000 ms
abbrev timed : Opening
timed = record { label = 97 ∷ []; protocol = 112 ∷ []; delivery = record { ordered = false; reliability = Lifetime 3000; priority = 512 } }

timed_is : open_bytes timed ≡ 3 ∷ 0x82 ∷ 2 ∷ 0 ∷ 0 ∷ 0 ∷ 11 ∷ 184 ∷ 0 ∷ 1 ∷ 0 ∷ 1 ∷ 97 ∷ 112 ∷ []
unfolding open_bytes
timed_is = refl

-- a message is sent again three times; nothing has a name
abbrev limited : Opening
limited = record { label = []; protocol = []; delivery = record { ordered = false; reliability = Retransmissions 3; priority = 128 } }

-- read, with a byte behind the protocol
limited_is_read : control_of_bytes (3 ∷ 0x81 ∷ 0 ∷ 128 ∷ 0 ∷ 0 ∷ 0 ∷ 3 ∷ 0 ∷ 0 ∷ 0 ∷ 0 ∷ 9 ∷ []) ≡ done (open_message limited)
unfolding control_of_bytes open_of_bytes
limited_is_read = refl

-- a reliable channel ignores the parameter
parameter_is_ignored : control_of_bytes (3 ∷ 0x00 ∷ 1 ∷ 0 ∷ 1 ∷ 2 ∷ 3 ∷ 4 ∷ 0 ∷ 2 ∷ 0 ∷ 0 ∷ 97 ∷ 98 ∷ []) ≡ done (open_message plain)
unfolding control_of_bytes open_of_bytes
parameter_is_ignored = refl

-- an ACK of four bytes
long_ack_is_read : control_of_bytes (2 ∷ 0 ∷ 0 ∷ 0 ∷ []) ≡ done acknowledgement
unfolding control_of_bytes
long_ack_is_read = refl

-- ---- refused

nothing_is_refused : control_of_bytes [] ≡ fault Empty
unfolding control_of_bytes
nothing_is_refused = refl

-- message type 1 is reserved
other_types_are_refused : control_of_bytes (1 ∷ 0 ∷ []) ≡ fault (UnknownMessageType 1)
unfolding control_of_bytes
other_types_are_refused = refl

short_open_is_refused : control_of_bytes (3 ∷ 0 ∷ 1 ∷ 0 ∷ 0 ∷ 0 ∷ 0 ∷ 0 ∷ 0 ∷ 0 ∷ 0 ∷ []) ≡ fault CutOff
unfolding control_of_bytes
short_open_is_refused = refl

label_past_the_end_is_refused : control_of_bytes (3 ∷ 0 ∷ 1 ∷ 0 ∷ 0 ∷ 0 ∷ 0 ∷ 0 ∷ 0 ∷ 2 ∷ 0 ∷ 0 ∷ 97 ∷ []) ≡ fault CutOff
unfolding control_of_bytes open_of_bytes
label_past_the_end_is_refused = refl

-- 0x7f is reserved
other_channels_are_refused : control_of_bytes (3 ∷ 0x7f ∷ 1 ∷ 0 ∷ 0 ∷ 0 ∷ 0 ∷ 0 ∷ 0 ∷ 0 ∷ 0 ∷ 0 ∷ []) ≡ fault (UnknownChannelType 0x7f)
unfolding control_of_bytes open_of_bytes
other_channels_are_refused = refl
