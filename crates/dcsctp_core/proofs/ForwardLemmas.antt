-- What abandons messages, as the view shows it.
use Rattle.std.proofs.Common.{◌≡◌, ◌<◌, ℕ, Option, None, Some, List, sym, ap, subst, ◌∙◌, Bool, arith, false, nat_le, refl, true}
use Rattle.dcsctp_transfer.specs.wire_build.Building.{Building}
use Rattle.dcsctp_transfer.specs.spec.endpoint.Event.{Event}
use Rattle.dcsctp_transfer.specs.spec.queues.Transfer.{Transfer}
use Rattle.dcsctp_transfer.specs.spec.queues.SendQueue.{SendQueueState}
use Rattle.dcsctp_transfer.specs.spec.endpoint.Endpoint.{Endpoint}
use Rattle.dcsctp_transfer.specs.Forwarding.{MakesForwardTsn}
use Rattle.dcsctp_core.specs.declared.context.Context.{Context}
use Rattle.dcsctp_core.specs.declared.state.State.{State}
use Rattle.dcsctp_core.specs.View.{View, transfer_of, endpoint_of, view_of}
use Rattle.dcsctp_core.specs.Flushing.{ForwardsInQueues, ForwardsNow, ForwardsInTime}
use Rattle.dcsctp_transfer.specs.spec.endpoint.FlushOutcomes.{forward_moment}
use Rattle.dcsctp_core.proofs.FirstLemmas.{endpoint_with}
use Rattle.std.proofs.lemmas.Bool.Decides.{nat_tests}
use Rattle.dcsctp_transfer.specs.Filling.{packet_stage}

-- the endpoint with this queue, once the next FORWARD-TSN was put off
abbrev put_off : {R : Type 0} → Context R → SendQueueState → Option ℕ → Endpoint → Endpoint
put_off old queue next e = record e { no_forward_tsn_before = forward_moment next old.no_forward_tsn_before; queues = record e.queues { queue = queue } }

abbrev forwarded : {R : Type 0} → Context R → State → SendQueueState → List (Event (List ℕ)) → Option ℕ → View R
forwarded old state queue events next = record (view_of old) { endpoint = put_off old queue next (endpoint_of (record old { state = state })); events = events }

pub forwards_below : {R : Type 0} (old : Context R) (new : View R) (found : Option Transfer) (state : State) (queue : SendQueueState) (events : List (Event (List ℕ))) (next : Option ℕ) (packet filled : Building)
    → transfer_of old.state ≡ found → nat_le old.no_forward_tsn_before old.moment ≡ true → new ≡ forwarded old state queue events next
    → ForwardsInQueues old.moment found (packet_stage old.send_queue (view_of old).events packet) old.state state (packet_stage queue events filled) next → ForwardsInTime found (view_of old) packet new filled
forwards_below old new None state queue events next packet filled holds in_time is h = (
  is
      ∙ ap (λ (s : State). forwarded old s queue events next) h.0
      ∙ ap (λ (q : SendQueueState). forwarded old old.state q events next) h.1
      ∙ ap (λ (es : List (Event (List ℕ))). forwarded old old.state old.send_queue es next) h.2
      ∙ ap (λ (n : Option ℕ). forwarded old old.state old.send_queue (view_of old).events n) h.4,
  h.3,
)
forwards_below {R = R} old new (Some transfer) state queue events next packet filled holds in_time is h =
    let after : Transfer = h.0 in
    let told : events ≡ new.events = sym (ap (λ (v : View R). v.events) is) in
    subst (λ (b : Bool). ForwardsNow b transfer (view_of old) packet new filled) (sym in_time) (
      next,
      after,
      queue,
      subst (λ (es : List (Event (List ℕ))). MakesForwardTsn old.moment transfer (packet_stage old.send_queue (view_of old).events packet) after (packet_stage queue es filled) next) told h.2,
      is
          ∙ ap (λ (s : State). forwarded old s queue events next) h.1
          ∙ ap (λ (e : Endpoint). record (view_of old) { endpoint = put_off old queue next e; events = events }) (endpoint_with old transfer after holds)
          ∙ ap (λ (es : List (Event (List ℕ))). record (view_of old) {
            endpoint = record (endpoint_of old) { no_forward_tsn_before = forward_moment next old.no_forward_tsn_before; queues = record { queue = queue; transfer = Some after } };
            events = es;
          }) told,
    )

-- before its time
pub forwards_early : {R : Type 0} (old : Context R) (found : Option Transfer) (packet : Building) → old.moment < old.no_forward_tsn_before → ForwardsInTime found (view_of old) packet (view_of old) packet
forwards_early old None packet early = (refl, refl)
forwards_early old (Some transfer) packet early =
    let late : nat_le old.no_forward_tsn_before old.moment ≡ false = grind (arith, nat_tests) in
    subst (λ (b : Bool). ForwardsNow b transfer (view_of old) packet (view_of old) packet) (sym late) (refl, refl)
