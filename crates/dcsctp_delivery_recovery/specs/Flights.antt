-- What is outstanding can be sent again and compared, in every honest run (RFC 9260, sections 1.6 and 6.3.3).
use Rattle.std.specs.Prelude.{◌≡◌, ◌<◌, ◌^◌, true, false, List, Option, None, Some, length}
use Rattle.std.specs.List.{AllByRecursion}
use Rattle.dcsctp_spec_lemmas.specs.types.declared.options.Options.{Options}
use Rattle.dcsctp_spec_lemmas.specs.types.declared.schedule.Side.{Side}
use Rattle.dcsctp_spec_lemmas.specs.types.Schedule.{AreHonest}
use Rattle.dcsctp_spec_lemmas.specs.types.queues.Progress.{is_unacknowledged}
use Rattle.dcsctp_spec_lemmas.specs.spec.Soundness.{HasBytes}
use Rattle.dcsctp_spec_lemmas.specs.spec.queues.Items.{Item}
use Rattle.dcsctp_spec_lemmas.specs.spec.queues.Outstanding.{OutstandingState}
use Rattle.dcsctp_spec_lemmas.specs.spec.queues.Transfer.{Transfer}
use Rattle.dcsctp_spec_runs.specs.Sockets.{PerformedAct, Both, of_side, acts_of, turns_after, endpoint_after, SocketRun}
use Rattle.dcsctp_theorem_sockets.specs.Agreement.{AreUsable}
use Rattle.dcsctp_delivery_sockets.specs.sockets.Delivery.{AreInMemory}

-- Its fragment has bytes, or it was abandoned: the end of an abandoned message has none (RFC 3758, section 3.5). What a SACK has
-- acknowledged doesn't wait for an acknowledgement again.
pub record IsSoundItem (item : Item) : Type 0 where
  pub bytes : HasBytes item
  pub acknowledged : item.progress.was_acknowledged ≡ true → is_unacknowledged item.progress.state ≡ false

-- Each item is so, and their TSNs can be compared: fewer than 2^31 are outstanding.
pub record IsSoundFlight (outstanding : OutstandingState) : Type 0 where
  pub items : AllByRecursion IsSoundItem outstanding.items
  pub few : length outstanding.items < 2 ^ 31

abbrev pub HasSoundFlight : Option Transfer → Type 0
HasSoundFlight None = Unit {0}
HasSoundFlight (Some transfer) = IsSoundFlight transfer.retransmission.outstanding

-- So it is at each socket of an honest run, whatever is lost.
abbrev pub SocketsKeepFlightsSound : Type 0
SocketsKeepFlightsSound =
    (options : Both Options) (run : List PerformedAct) → AreUsable options → AreInMemory (acts_of run) → SocketRun options run → AreHonest (acts_of run) → (side : Side)
    → HasSoundFlight (endpoint_after (of_side side options) (of_side side (turns_after run))).queues.transfer
