-- What the parts of a world show.
use Rattle.std.specs.Prelude.{ℕ, Bool, List, map, Vec}
use Rattle.std.specs.declared.alloc.Global.{Global}
use Rattle.dcsctp_spec_runs.specs.Sockets.{Both}
use Rattle.dcsctp_core.specs.api.declared.events.SocketEvent.{SocketEvent}
use Rattle.dcsctp_core.specs.api.Events.{event_content}
use Rattle.dcsctp_core.specs.types.Schedule.{act_content}
use Rattle.dcsctp_core.specs.types.declared.schedule.Act.{Act}
use Rattle.dcsctp_core.specs.types.queues.Messages.{message_content}
use Rattle.dcsctp_world.specs.declared.watched_socket.WatchedSocket.{WatchedSocket}
use Rattle.dcsctp_world.specs.Growth.{KeptOutput}
use Rattle.dcsctp_world.specs.Shown.{ShownSide, WorldView}

-- the bytes of packets
abbrev pub bytes_of_packets : List (Vec ℕ Global) → List (List ℕ)
bytes_of_packets packets = map (λ (packet : Vec ℕ Global). packet.items) packets

-- events and packets that are kept
abbrev pub kept_output : List SocketEvent → List (Vec ℕ Global) → KeptOutput
kept_output events packets = record { events = map event_content events; packets = bytes_of_packets packets }

abbrev pub shown_side : {R : Type 0} → WatchedSocket R → ShownSide R
shown_side watched =
    record {
      socket = watched.socket;
      options = watched.options;
      events = map event_content watched.events.items;
      packets = bytes_of_packets watched.packets.items;
      words = watched.words.items;
      pairs = watched.pairs.items;
      sent = map message_content watched.sent.items;
      read = map message_content watched.read.items;
      associations = watched.associations.items;
    }

abbrev pub both : {R : Type 0} → WatchedSocket R → WatchedSocket R → Both (ShownSide R)
both a b = record { a = shown_side a; b = shown_side b }

abbrev pub world_of : {R : Type 0} → WatchedSocket R → WatchedSocket R → List Act → Bool → WorldView R
world_of a b acts failed = record { sides = both a b; acts = map act_content acts; failed = failed }
