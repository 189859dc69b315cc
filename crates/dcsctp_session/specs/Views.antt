-- What a session shows: its socket, and what was taken from it last.
use Rattle.std.specs.Prelude.{string_bytes, ℕ, List, Option, Some, None}
use Rattle.std.specs.Global.{Vec}
use Rattle.rand_core.specs.Stream.{Stream}
use Rattle.rand_core.specs.Steps.{stream_of, steps_u32}
use Rattle.rand_chacha.specs.ChaCha.{ChaCha, next_word}
use Rattle.dcsctp_core.specs.types.Ids.{stream_numbers}
use Rattle.dcsctp_core.specs.types.declared.message.Message.{Message}
use Rattle.dcsctp_core.specs.api.declared.events.SocketEvent.{SocketEvent}
use Rattle.dcsctp_core.specs.api.declared.events.SocketEvent.TheVariants as events
use Rattle.dcsctp_core.specs.api.Calls.{UserView}
use Rattle.dcsctp_socket.specs.SocketView.{user_view_of}
use Rattle.dcsctp_session.specs.declared.session.Session.{Session}
use Rattle.dcsctp_session.specs.declared.session.Taken.{Taken}

-- all random words that ChaCha20 still gives
abbrev pub words_ahead : ChaCha → Stream
words_ahead generator = stream_of (steps_u32 (next_word 10)) generator

-- what the socket of a session is to its user
abbrev pub view : Session → UserView
view session = user_view_of words_ahead session.socket

abbrev pub nothing_taken : Taken
nothing_taken = record { event = None; message = None; snapshot = None }

-- the packet or the text of an event
abbrev pub bytes_of_event : SocketEvent → Option (List ℕ)
bytes_of_event (events.SendPacket packet) = Some packet.items
bytes_of_event (events.OnAborted kind text) = Some (string_bytes text)
bytes_of_event (events.OnError kind text) = Some (string_bytes text)
bytes_of_event event = None

abbrev pub bytes_of_polled : Option SocketEvent → Option (List ℕ)
bytes_of_polled None = None
bytes_of_polled (Some event) = bytes_of_event event

-- the packet of an event, as it lies in memory
abbrev pub packet_of_event : SocketEvent → Option (Vec ℕ)
packet_of_event (events.SendPacket packet) = Some packet
packet_of_event event = None

abbrev pub packet_in_event : Option SocketEvent → Option (Vec ℕ)
packet_in_event None = None
packet_in_event (Some event) = packet_of_event event

-- the streams of an event
abbrev pub streams_of : SocketEvent → Option (List ℕ)
streams_of (events.OnStreamsResetFailed ids) = Some (stream_numbers ids.items)
streams_of (events.OnStreamsResetPerformed ids) = Some (stream_numbers ids.items)
streams_of (events.OnIncomingStreamReset ids) = Some (stream_numbers ids.items)
streams_of event = None

abbrev pub streams_in_event : Option SocketEvent → Option (List ℕ)
streams_in_event None = None
streams_in_event (Some event) = streams_of event

-- the payload of a message
abbrev pub payload_of_taken : Option Message → Option (List ℕ)
payload_of_taken None = None
payload_of_taken (Some message) = Some message.payload.items

-- the same, as it lies in memory
abbrev pub message_of_taken : Option Message → Option (Vec ℕ)
message_of_taken None = None
message_of_taken (Some message) = Some message.payload
