-- What a socket is: its view in the machine, and whether an allocation failed.
use Rattle.std.specs.Prelude.{◌≡◌, Bool, true, false, Result, Ok, Err, []}
use Rattle.rand_core.specs.Stream.{Stream}
use Rattle.dcsctp_core.specs.types.declared.options.Options.{Options}
use Rattle.dcsctp_core.specs.spec.endpoint.Endpoint.{fresh_endpoint}
use Rattle.dcsctp_core.specs.api.declared.errors.SocketFault.{SocketFault}
use Rattle.dcsctp_core.specs.api.declared.errors.SocketFault.TheVariants.{OutOfMemory}
use Rattle.dcsctp_core.specs.api.Calls.{UserView}
use Rattle.dcsctp_core.specs.View.{View}

pub record SocketView (R : Type 0) : Type 0 where
  pub view : View R
  pub failed : Bool

-- With what its generator gives next in place of the generator: all that the calls say of it.
abbrev pub user_view_of : {R : Type 0} → (R → Stream) → SocketView R → UserView
user_view_of stream socket =
    record {
      endpoint = socket.view.endpoint;
      events = socket.view.events;
      words = socket.view.words;
      pairs = socket.view.pairs;
      generator = stream socket.view.generator;
      failed = socket.failed;
    }

-- a socket that was just made
abbrev pub fresh_socket : {R : Type 0} → Options → R → SocketView R
fresh_socket options generator =
    record { view = record { endpoint = fresh_endpoint options; events = []; words = []; pairs = []; generator = generator }; failed = false }

-- The answer to a call, and whether the socket has failed after it.
abbrev pub SettlesCall : {A E : Type 0} → Bool → Result A E → Result A SocketFault → Bool → Type 0
SettlesCall failed (Ok value) answer fails = (answer ≡ Ok value) × (fails ≡ failed)
SettlesCall failed (Err error) answer fails = (answer ≡ Err OutOfMemory) × (fails ≡ true)
