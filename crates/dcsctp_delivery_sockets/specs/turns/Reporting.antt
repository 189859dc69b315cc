-- What a turn's packets report (specs/Reports): no TSN that wasn't received. Each SACK and each SHUTDOWN
-- says the cumulative TSN that the association's tracker has when it is made.
use Rattle.std.specs.Prelude.{◌≡◌, ◌≤◌, ◌%◌, ◌^◌, ℕ, None, Some}
use Rattle.dcsctp_spec_lemmas.specs.spec.association.Effect.{identity_of, identity_of_core}
use Rattle.dcsctp_spec_lemmas.specs.spec.endpoint.Endpoint.{Endpoint}
use Rattle.dcsctp_spec_lemmas.specs.spec.endpoint.Event.{packets_of_events}
use Rattle.dcsctp_spec_lemmas.specs.spec.endpoint.Outcome.{Outcome}
use Rattle.dcsctp_spec_lemmas.specs.spec.endpoint.Turn.{Input, Turn}
use Rattle.dcsctp_spec_lemmas.specs.spec.queues.Transfer.{Transfer}
use Rattle.dcsctp_delivery_sockets.specs.turns.Actions.{AreReports, BeginsAssociation, begun_transfer, content_of_input, IsCall, IsOpening, peer_tag}
use Rattle.dcsctp_delivery_sockets.specs.turns.Asking.{own_of, SomeFit}
use Rattle.dcsctp_delivery_sockets.specs.turns.Runs.{OpensSmall}

-- It is the cumulative TSN of a tracker at one of the numbers from this one on up to that one.
pub record IsReachedBetween (start end tsn : ℕ) : Type 0 where
  pub number : ℕ
  pub from : start ≤ number
  pub to : number ≤ end
  pub is : tsn ≡ number % 2 ^ 32

-- What the packets of a turn report, and to which tag.
pub data TurnReports (e : Endpoint) (input : Input) (o : Outcome) : Type 0 where
  -- The association continues: a TSN that its tracker reaches in this turn, or had reached before it, to its peer.
  reports_on : (old left : Transfer) → identity_of_core o.after.core ≡ identity_of_core e.core → e.queues.transfer ≡ Some old → o.after.queues.transfer ≡ Some left → old.tracker.cumulative ≤ left.tracker.cumulative
      → AreReports (peer_tag e.core) (IsReachedBetween old.tracker.cumulative left.tracker.cumulative) (packets_of_events o.events) → TurnReports e input o
  -- One begins: a TSN that its tracker reaches in this turn, or the one before the peer's first.
  reports_anew : (begun : BeginsAssociation e o) (left : Transfer) → IsOpening (content_of_input input) → identity_of_core o.after.core ≡ Some (identity_of begun.my begun.held) → o.after.queues.transfer ≡ Some left → (begun_transfer e o begun).tracker.cumulative ≤ left.tracker.cumulative
      → AreReports begun.held.peer.tag (IsReachedBetween (begun_transfer e o begun).tracker.cumulative left.tracker.cumulative) (packets_of_events o.events) → TurnReports e input o
  -- One ends: nothing.
  reports_nothing : identity_of_core o.after.core ≡ None → AreReports (peer_tag e.core) (λ tsn. ⊥) (packets_of_events o.events) → TurnReports e input o
  -- Nothing can be received: it is no matter what, to the peer, or to the tag 0 where there is none.
  reports_nowhere : e.queues.transfer ≡ None → identity_of_core o.after.core ≡ identity_of_core e.core → AreReports (peer_tag e.core) (λ tsn. Unit {0}) (packets_of_events o.events) → TurnReports e input o

-- This holds for each turn.
abbrev pub TurnsReport : Type 0
TurnsReport = (e : Endpoint) (input : Input) (o : Outcome) → SomeFit (own_of e) → OpensSmall e input o → IsCall input → Turn e input o → TurnReports e input o
