-- Of what one socket has outstanding the other has received a part, in every run that allows delivery: acknowledgements are true, and
-- nothing is received that wasn't sent (RFC 9260, sections 6.2 and 6.2.1).
use Rattle.std.specs.Prelude.{◌≡◌, Some, List}
use Rattle.dcsctp_spec_lemmas.specs.types.declared.association.Held.{Held}
use Rattle.dcsctp_spec_lemmas.specs.types.declared.association.Pair.{Pair}
use Rattle.dcsctp_spec_lemmas.specs.types.declared.options.Options.{Options}
use Rattle.dcsctp_spec_lemmas.specs.types.declared.schedule.Side.{Side}
use Rattle.dcsctp_spec_lemmas.specs.types.Schedule.{AreHonest}
use Rattle.dcsctp_spec_lemmas.specs.spec.endpoint.Endpoint.{Endpoint, open_in, established}
use Rattle.dcsctp_spec_lemmas.specs.spec.queues.Transfer.{Transfer}
use Rattle.dcsctp_spec_runs.specs.Sockets.{PerformedAct, Both, of_side, of_other, acts_of, turns_after, endpoint_after, SocketRun}
use Rattle.dcsctp_theorem_sockets.specs.Agreement.{AreUsable, AreFresh}
use Rattle.dcsctp_theorem_transfer.specs.Recovering.{HasReceivedPart}
use Rattle.dcsctp_delivery_sockets.specs.sockets.Delivery.{AreInMemory}
use Rattle.dcsctp_delivery_sockets.specs.sockets.ShownDelivery.{AllowsDelivery}

-- An honest run of two sockets in which no tag was drawn twice, and which allows delivery.
pub record RunAllowsDelivery (options : Both Options) (run : List PerformedAct) : Type 0 where
  pub usable : AreUsable options
  pub in_memory : AreInMemory (acts_of run)
  pub is_run : SocketRun options run
  pub honest : AreHonest (acts_of run)
  pub fresh : AreFresh (turns_after run)
  pub allows : AllowsDelivery options run

-- Both are Established, and crossed: each one's peer is the other.
pub record AreEstablished (e other : Endpoint) : Type 0 where
  pub my : Pair
  pub held : Held
  pub phase : e.core ≡ open_in established my held
  pub their_my : Pair
  pub their_held : Held
  pub their_phase : other.core ≡ open_in established their_my their_held
  pub crossed : held.peer ≡ their_my
  pub crossed_back : their_held.peer ≡ my

-- The other has received a part of what the one has outstanding.
abbrev pub ReceivesPart : Endpoint → Endpoint → Type 0
ReceivesPart e other =
    (transfer received : Transfer) → e.queues.transfer ≡ Some transfer → other.queues.transfer ≡ Some received → HasReceivedPart transfer.retransmission.outstanding received.tracker

-- So it is each way, where they are connected at the end of such a run.
abbrev pub SocketsReceivePart : Type 0
SocketsReceivePart =
    (options : Both Options) (run : List PerformedAct) → RunAllowsDelivery options run → (side : Side)
    → let e : Endpoint = endpoint_after (of_side side options) (of_side side (turns_after run)) in
    let other : Endpoint = endpoint_after (of_other side options) (of_other side (turns_after run)) in AreEstablished e other → ReceivesPart e other
