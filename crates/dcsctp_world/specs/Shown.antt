-- What a world shows of its two sockets.
use Rattle.std.specs.Prelude.{ℕ, Bool, false, Option, None, List, [], ◌∷◌}
use Rattle.dcsctp_core.specs.types.declared.association.Pair.{Pair}
use Rattle.dcsctp_core.specs.types.declared.association.Association.{Association}
use Rattle.dcsctp_core.specs.types.declared.options.Options.{Options}
use Rattle.dcsctp_core.specs.types.declared.word.Word.{Word}
use Rattle.dcsctp_core.specs.spec.endpoint.Event.{Event}
use Rattle.dcsctp_spec_runs.specs.Sockets.{Both}
use Rattle.dcsctp_core.specs.types.queues.Messages.{MessageContent}
use Rattle.dcsctp_socket.specs.SocketView.{SocketView, fresh_socket}
use Rattle.dcsctp_core.specs.types.Schedule.{ActContent}

-- A socket, and all that it ever showed, oldest first: its events, the packets among them, the words that it drew, and the pairs
-- that it made of them; the messages that its user sent and read. Also its association at the start and after each act of either
-- side.
pub record ShownSide (R : Type 0) : Type 0 where
  pub socket : SocketView R
  -- those that the socket was made with
  pub options : Options
  pub events : List (Event (List ℕ))
  pub packets : List (List ℕ)
  pub words : List Word
  pub pairs : List Pair
  -- those that `send` and `send_many` accepted, and those that `get_next_message` gave
  pub sent : List MessageContent
  pub read : List MessageContent
  pub associations : List (Option Association)

-- two of these, what happened to them, oldest first, and whether an allocation failed
pub record WorldView (R : Type 0) : Type 0 where
  pub sides : Both (ShownSide R)
  pub acts : List ActContent
  pub failed : Bool

-- a side with a socket that was just made
abbrev pub fresh_side_shown : {R : Type 0} → Options → R → ShownSide R
fresh_side_shown options generator =
    record { socket = fresh_socket options generator; options = options; events = []; packets = []; words = []; pairs = []; sent = []; read = []; associations = None ∷ [] }

-- a world that was just made
abbrev pub fresh_world : {R : Type 0} → Both Options → Both R → WorldView R
fresh_world options generators =
    record { sides = record { a = fresh_side_shown options.a generators.a; b = fresh_side_shown options.b generators.b }; acts = []; failed = false }

-- the options that its sockets were made with
abbrev pub options_of : {R : Type 0} → WorldView R → Both Options
options_of world = record { a = world.sides.a.options; b = world.sides.b.options }
