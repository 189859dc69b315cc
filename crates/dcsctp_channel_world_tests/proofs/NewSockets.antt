-- A socket that was just made is one with which a world of channels begins.
use Rattle.std.proofs.Common.{◌≡◌, Result, Ok, Err, IfOk, refl, sym, subst}
use Rattle.rand_core.specs.Stream.{Stream}
use Rattle.dcsctp_theorem_sockets.specs.Agreement.{IsUsable}
use Rattle.dcsctp_channel_calls.specs.api.declared.errors.SocketFault.{SocketFault}
use Rattle.dcsctp_channel_calls.specs.api.types.declared.options.Options.{Options}
use Rattle.dcsctp_socket.specs.SocketView.{SocketView, fresh_socket, user_view_of}
use Rattle.dcsctp_channel_world.specs.Promises.{IsNewSocket}

pub new_if_ok : {R : Type 0} (stream : R → Stream) (options : Options) (generator : R) (result : Result (SocketView R) SocketFault) → IsUsable options
    → IfOk result (λ socket. socket ≡ fresh_socket options generator) → IfOk result (λ socket. IsNewSocket (user_view_of stream socket))
new_if_ok {R = R} stream options generator (Ok socket) usable is =
    subst (λ (s : SocketView R). IsNewSocket (user_view_of stream s)) (sym is) (record { options = options; usable = usable; endpoint = refl; events = refl })
new_if_ok stream options generator (Err fault) usable is = tt
