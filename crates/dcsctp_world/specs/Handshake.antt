-- What the four packets of a handshake leave in a world.
use Rattle.std.specs.Prelude.{◌≡◌}
use Rattle.dcsctp_core.specs.types.declared.association.Pair.{Pair}
use Rattle.dcsctp_core.specs.types.declared.options.Options.{Options}
use Rattle.dcsctp_core.specs.types.declared.schedule.Side.{Side}
use Rattle.dcsctp_core.specs.spec.endpoint.Endpoint.{open_in, established}
use Rattle.dcsctp_core.specs.types.Offer.{offer_of, negotiated_capabilities}
use Rattle.dcsctp_core.specs.spec.association.HandshakeChanges.{new_held}
use Rattle.dcsctp_spec_runs.specs.Sockets.{Both}
use Rattle.dcsctp_theorem_sockets.specs.Handshake.{handshake_acts, AreFitting, connections_of_events}
use Rattle.dcsctp_world.specs.Shown.{ShownSide, WorldView}

-- The side is Established with this pair and peer, and has reported OnConnected once.
pub record ShowsConnected {R : Type 0} (mine theirs : Options) (side : ShownSide R) (my peer : Pair) : Type 0 where
  pub core : side.socket.view.endpoint.core ≡ open_in established my (new_held my peer (negotiated_capabilities (offer_of mine) (offer_of theirs)))
  pub once : connections_of_events side.events ≡ 1

-- Both are so, and crossed.
pub record BothConnected {R : Type 0} (options : Both Options) (world : WorldView R) : Type 0 where
  pub a_pair : Pair
  pub b_pair : Pair
  pub a : ShowsConnected options.a options.b world.sides.a a_pair b_pair
  pub b : ShowsConnected options.b options.a world.sides.b b_pair a_pair

-- If the acts are connect at one side and the four packets of the handshake in turn, sockets that fit each other are connected
-- (RFC 9260, section 5.1).
abbrev pub ShownHandshakeConnects : {R : Type 0} → Both Options → WorldView R → Type 0
ShownHandshakeConnects options world = (side : Side) → world.acts ≡ handshake_acts side → AreFitting options → BothConnected options world
