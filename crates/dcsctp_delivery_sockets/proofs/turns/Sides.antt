-- The actions of a socket, as steps of its two directions.
use Rattle.dcsctp_delivery_directions.specs.directions.Directions as directions
use Rattle.std.proofs.Common.{◌≡◌, ℕ, ◌+◌, Option, None, Some, List, refl, sym, ◌∙◌, ap, subst}
use Rattle.dcsctp_spec_lemmas.specs.wire.Content.{data_chunk, init_chunk, init_ack_chunk, sack_chunk, heartbeat_chunk, heartbeat_ack_chunk, abort_chunk, shutdown_chunk, shutdown_ack_chunk, error_chunk, cookie_echo_chunk, cookie_ack_chunk, shutdown_complete_chunk, i_data_chunk, re_config_chunk, forward_tsn_chunk, i_forward_tsn_chunk, unknown_chunk}
use Rattle.dcsctp_spec_lemmas.specs.types.declared.options.Options.{Options}
use Rattle.dcsctp_spec_lemmas.specs.spec.Packet.{Content, init, init_ack, cookie_echo, cookie_ack, re_config, abort, shutdown, shutdown_ack, shutdown_complete, unworked, plain, unknown, heartbeat, heartbeat_ack}
use Rattle.dcsctp_spec_lemmas.specs.types.queues.Messages.{MessageContent}
use Rattle.dcsctp_spec_lemmas.specs.spec.queues.Outstanding.{acknowledged_count}
use Rattle.dcsctp_spec_lemmas.specs.spec.queues.Reassembly.{ReassemblyState}
use Rattle.dcsctp_spec_lemmas.specs.spec.queues.Transfer.{Transfer, EndpointQueues}
use Rattle.dcsctp_spec_lemmas.specs.spec.endpoint.FlushOutcomes.{first_ask, packets_allowed}
use Rattle.dcsctp_spec_lemmas.specs.spec.endpoint.TransferMoves.{timed_transfer, lost_all}
use Rattle.dcsctp_spec_lemmas.specs.spec.queues.Retransmission.{RetransmissionState}
use Rattle.dcsctp_delivery_directions.proofs.directions.Standing.{timed_outstanding, timed_begun}
use Rattle.dcsctp_delivery_sockets.specs.turns.Actions.{Ledger, MayAcknowledge, Action, queues, sets, flushes, resends, resends_nothing, speaks, asks_again, acknowledges, loses, receives, receives_interleaved, forwards, forwards_interleaved, tracks, times, takes, Actions, nothing, further}
use Rattle.dcsctp_delivery_sockets.specs.turns.Sides.{DirectionSteps, stays, moves, sending, SendingSteps, WasInSentPacket, WasSent, receiving, ReceivingSteps, ReceivedSoFar}
use Rattle.dcsctp_delivery_directions.specs.directions.Directions.{Direction, Beginning, HasReached, DirectionStep, DirectionRun, SameFlight, goes_on}
use Rattle.dcsctp_spec_lemmas.specs.spec.queues.Arrivals.{data_arrival, i_data_arrival, named_skips, skipped_messages}
use Rattle.dcsctp_delivery_sockets.specs.turns.PeerRequests.{SameWaits}
use Rattle.dcsctp_delivery_sockets.proofs.turns.Waiting.{same_waits, waits_by, waits_then, receives_wait, moves_wait}
use Rattle.dcsctp_delivery_sockets.specs.turns.Reports.{ComesReported}
use Rattle.dcsctp_delivery_sockets.proofs.turns.Idle.{actions_none}
use Rattle.dcsctp_delivery_sockets.proofs.turns.Received.{data_where, forward_where, Alike, alike, alike_then, timed_alike, flush_left}

pub steps_go_on : (options : Options) (first size : ℕ) (old new : Direction) → DirectionRun options first size old → DirectionSteps old new → DirectionRun options first size new
steps_go_on options first size old _ run stays = run
steps_go_on options first size old _ run (moves between new first_steps step) = goes_on between new (steps_go_on options first size old between run first_steps) step

pub all_steps : (old between new : Direction) → DirectionSteps old between → DirectionSteps between new → DirectionSteps old new
all_steps old between _ first stays = first
all_steps old between _ first (moves middle new second step) = moves middle new (all_steps old between middle first second) step

pub one_step : (old new : Direction) → DirectionStep old new → DirectionSteps old new
one_step old new step = moves old new stays step

-- What is received leaves what is in flight.
flight_same : (old new : Transfer) → new.retransmission ≡ old.retransmission → SameFlight old.retransmission new.retransmission
flight_same old new same =
    record { outstanding = ap (λ (r : RetransmissionState). r.outstanding) same; reset_begun = ap (λ (r : RetransmissionState). r.reset_begun) same }

-- ---- the direction on which it sends

-- What acknowledges this TSN reports it.
reported : (came : Option Content) (tsn : ℕ) (so : ℕ → Type 0) → MayAcknowledge came tsn → ComesReported so came → so tsn
reported None tsn so may says = absurd may
reported (Some (plain (unworked (data_chunk c)))) tsn so may says = absurd may
reported (Some (plain (unworked (init_chunk c)))) tsn so may says = absurd may
reported (Some (plain (unworked (init_ack_chunk c)))) tsn so may says = absurd may
reported (Some (plain (unworked (sack_chunk c)))) tsn so may says = subst so may says
reported (Some (plain (unworked (heartbeat_chunk c)))) tsn so may says = absurd may
reported (Some (plain (unworked (heartbeat_ack_chunk c)))) tsn so may says = absurd may
reported (Some (plain (unworked (abort_chunk t c)))) tsn so may says = absurd may
reported (Some (plain (unworked (shutdown_chunk c)))) tsn so may says = absurd may
reported (Some (plain (unworked shutdown_ack_chunk))) tsn so may says = absurd may
reported (Some (plain (unworked (error_chunk c)))) tsn so may says = absurd may
reported (Some (plain (unworked (cookie_echo_chunk c)))) tsn so may says = absurd may
reported (Some (plain (unworked cookie_ack_chunk))) tsn so may says = absurd may
reported (Some (plain (unworked (shutdown_complete_chunk t)))) tsn so may says = absurd may
reported (Some (plain (unworked (i_data_chunk c)))) tsn so may says = absurd may
reported (Some (plain (unworked (re_config_chunk c)))) tsn so may says = absurd may
reported (Some (plain (unworked (forward_tsn_chunk t s)))) tsn so may says = absurd may
reported (Some (plain (unworked (i_forward_tsn_chunk t s)))) tsn so may says = absurd may
reported (Some (plain (unworked (unknown_chunk t f v)))) tsn so may says = absurd may
reported (Some (plain (unknown t f v))) tsn so may says = absurd may
reported (Some (plain (heartbeat c))) tsn so may says = absurd may
reported (Some (plain (heartbeat_ack c))) tsn so may says = absurd may
reported (Some (init c)) tsn so may says = absurd may
reported (Some (init_ack c k)) tsn so may says = absurd may
reported (Some (cookie_echo c)) tsn so may says = absurd may
reported (Some cookie_ack) tsn so may says = absurd may
reported (Some (re_config c)) tsn so may says = absurd may
reported (Some (abort t c)) tsn so may says = absurd may
reported (Some (shutdown c)) tsn so may says = subst so may says
reported (Some shutdown_ack) tsn so may says = absurd may
reported (Some (shutdown_complete t)) tsn so may says = absurd may

module _ (came : Option Content) (to first_tsn : ℕ) (received : ReceivedSoFar) (beginning : Beginning) where
  by : (old new : Ledger) (acknowledged later : ℕ) → DirectionStep (sending old acknowledged first_tsn received beginning) (sending new later first_tsn received beginning) → SendingSteps old new acknowledged first_tsn received beginning
  by old new acknowledged later step = record { later = later; steps = one_step (sending old acknowledged first_tsn received beginning) (sending new later first_tsn received beginning) step }

  action_sends : (old new : Ledger) (acknowledged : ℕ) → ((transfer : Transfer) → old.queues.transfer ≡ Some transfer → ComesReported (HasReached first_tsn received.tracker) came) → Action came to old new → SendingSteps old new acknowledged first_tsn received beginning
  action_sends old _ acknowledged told (queues now message fits some) = by old _ acknowledged acknowledged (directions.queues now message fits some)
  action_sends old _ acknowledged told (sets setting small) = by old _ acknowledged acknowledged (directions.sets setting small)
  action_sends old _ acknowledged told (flushes e draft answers same at tag no_data no_end stale says allowed) = by old _ acknowledged acknowledged (directions.flushes e draft answers same no_data allowed)
  action_sends old _ acknowledged told (resends now room transfer left tsns chunks emission tag known sends are contents) =
      by old _ acknowledged acknowledged (directions.resends now room transfer left tsns chunks emission known sends are contents)
  action_sends old _ acknowledged told (resends_nothing now room transfer left tsns known sends) = by old _ acknowledged acknowledged (directions.resends_nothing now room transfer left tsns known sends)
  action_sends old _ acknowledged told (speaks emission no_data stale says) = by old _ acknowledged acknowledged (directions.speaks emission no_data)
  action_sends old _ acknowledged told (asks_again emission begun tag was contents) = by old _ acknowledged acknowledged (directions.asks_again emission begun was contents)
  action_sends old _ acknowledged told (acknowledges now sack transfer new may known valid does) =
      by old _ acknowledged (acknowledged + acknowledged_count transfer.retransmission.outstanding sack.cumulative_tsn_ack) (directions.acknowledges now sack transfer new known valid (reported came sack.cumulative_tsn_ack (HasReached first_tsn received.tracker) may (told transfer known)) does)
  action_sends old _ acknowledged told (loses now transfer known) = by old _ acknowledged acknowledged (directions.loses now transfer known)
  action_sends old _ acknowledged told (receives chunk transfer new is some known does) = by old _ acknowledged acknowledged (directions.turns_aside transfer new known (flight_same transfer new (data_where _ _ transfer new does)))
  action_sends old _ acknowledged told (receives_interleaved chunk transfer new is some known does) = by old _ acknowledged acknowledged (directions.turns_aside transfer new known (flight_same transfer new (data_where _ _ transfer new does)))
  action_sends old _ acknowledged told (forwards tsn streams transfer new is known does) = by old _ acknowledged acknowledged (directions.turns_aside transfer new known (flight_same transfer new (forward_where _ tsn _ transfer new does)))
  action_sends old _ acknowledged told (forwards_interleaved tsn streams transfer new is known does) = by old _ acknowledged acknowledged (directions.turns_aside transfer new known (flight_same transfer new (forward_where _ tsn _ transfer new does)))
  action_sends old _ acknowledged told (tracks transfer tracked known cumulative ranges) = by old _ acknowledged acknowledged (directions.turns_aside transfer _ known (record { outstanding = refl; reset_begun = refl }))
  action_sends old _ acknowledged told (times round_trip transfer known) =
      by old _ acknowledged acknowledged
      (directions.turns_aside transfer _ known (record { outstanding = timed_outstanding round_trip transfer; reset_begun = timed_begun round_trip transfer }))
  action_sends old _ acknowledged told (takes transfer message messages known ready) = by old _ acknowledged acknowledged (directions.turns_aside transfer _ known (record { outstanding = refl; reset_begun = refl }))

  -- Where there is no association none begins by actions.
  told_on : (old between : Ledger) → ((transfer : Transfer) → old.queues.transfer ≡ Some transfer → ComesReported (HasReached first_tsn received.tracker) came) → Actions came to old between
      → (transfer : Transfer) → between.queues.transfer ≡ Some transfer → ComesReported (HasReached first_tsn received.tracker) came
  told_on old between told first transfer there = go old.queues.transfer refl
    where
      go : (found : Option Transfer) → old.queues.transfer ≡ found → ComesReported (HasReached first_tsn received.tracker) came
      go None none = (let gone = actions_none came to old between first none in let clash : ◌≡◌ {A = Option Transfer} None (Some transfer) = sym gone ∙ there in absurd (cc))
      go (Some other) known = told other known

  all_send : (old new : Ledger) (acknowledged : ℕ) → ((transfer : Transfer) → old.queues.transfer ≡ Some transfer → ComesReported (HasReached first_tsn received.tracker) came) → Actions came to old new → SendingSteps old new acknowledged first_tsn received beginning
  all_send old _ acknowledged told nothing = record { later = acknowledged; steps = stays }
  all_send old _ acknowledged told (further between new first last) =
      let before = all_send old between acknowledged told first in
      let after = action_sends between new before.later (told_on old between told first) last in
      record {
        later = after.later;
        steps = all_steps (sending old acknowledged first_tsn received beginning) (sending between before.later first_tsn received beginning) (sending new after.later first_tsn received beginning) before.steps after.steps;
      }

pub actions_send : (came : Option Content) (to : ℕ) (old new : Ledger) (acknowledged first_tsn : ℕ) (received : ReceivedSoFar) (beginning : Beginning)
    → ((transfer : Transfer) → old.queues.transfer ≡ Some transfer → ComesReported (HasReached first_tsn received.tracker) came) → Actions came to old new → SendingSteps old new acknowledged first_tsn received beginning
actions_send came to old new acknowledged first_tsn received beginning told actions = all_send came to first_tsn received beginning old new acknowledged told actions

-- ---- the direction on which it receives

module _ (came : Option Content) (to : ℕ) (direction : Direction) (was : WasSent direction.sent came) where
  -- where the same was received
  alike_receives : (old new : Ledger) (transfer left : Transfer) → new.queues.transfer ≡ Some left → new.read ≡ old.read → Alike transfer left → ReceivingSteps direction transfer old new
  alike_receives old new transfer left is same like =
      record {
        left = left;
        is = is;
        waits = waits_by transfer.reassembly.deferral left.reassembly.deferral (ap (λ (r : ReassemblyState). r.deferral) like.reassembly);
        steps = subst (λ (l : List MessageContent). DirectionSteps (receiving direction transfer old.read) (receiving direction left l)) (sym same)
            (subst (λ (r : ReassemblyState). DirectionSteps (receiving direction transfer old.read) (record direction { tracker = left.tracker; reassembly = r; read = old.read })) (sym like.reassembly)
            (one_step (receiving direction transfer old.read) (record direction { tracker = left.tracker; reassembly = transfer.reassembly; read = old.read }) (directions.tracks left.tracker like.cumulative like.ranges)));
      }

  by_step : (old new : Ledger) (transfer left : Transfer) → new.queues.transfer ≡ Some left → DirectionStep (receiving direction transfer old.read) (receiving direction left new.read)
      → SameWaits transfer.reassembly.deferral left.reassembly.deferral → ReceivingSteps direction transfer old new
  by_step old new transfer left is step waits = record { left = left; is = is; waits = waits; steps = one_step (receiving direction transfer old.read) (receiving direction left new.read) step }

  same_transfer : (found : Option Transfer) (one other : Transfer) → found ≡ Some one → found ≡ Some other → one ≡ other
  same_transfer found one other first second = cc

  action_receives : (old new : Ledger) (transfer : Transfer) → old.queues.transfer ≡ Some transfer → Action came to old new → ReceivingSteps direction transfer old new
  action_receives old _ transfer is (queues now message fits some) = alike_receives old _ transfer transfer is refl (alike transfer)
  action_receives old _ transfer is (sets setting small) = alike_receives old _ transfer transfer is refl (alike transfer)
  action_receives old _ transfer is (speaks emission no_data stale says) = alike_receives old _ transfer transfer is refl (alike transfer)
  action_receives old _ transfer is (asks_again emission begun tag has contents) = alike_receives old _ transfer transfer is refl (alike transfer)
  action_receives old _ transfer is (flushes e draft answers same at tag no_data no_end stale says allowed) =
      let left = flush_left first_ask (packets_allowed e.options.max_burst e.core) e draft answers transfer (ap (λ (b : EndpointQueues). b.transfer) same ∙ is) allowed in
      alike_receives old _ transfer left.left left.is refl left.same
  action_receives old _ transfer is (resends now room found left tsns chunks emission tag known sends are contents) =
      alike_receives old _ transfer _ refl refl (like (same_transfer old.queues.transfer found transfer known is))
    where
      like : found ≡ transfer → Alike transfer (record found { retransmission = left })
      like same = subst (λ (t : Transfer). Alike t (record found { retransmission = left })) same (record { cumulative = refl; ranges = refl; reassembly = refl })
  action_receives old _ transfer is (resends_nothing now room found left tsns known sends) =
      alike_receives old _ transfer _ refl refl (like (same_transfer old.queues.transfer found transfer known is))
    where
      like : found ≡ transfer → Alike transfer (record found { retransmission = left })
      like same = subst (λ (t : Transfer). Alike t (record found { retransmission = left })) same (record { cumulative = refl; ranges = refl; reassembly = refl })
  action_receives old _ transfer is (acknowledges now sack found new may known valid does) =
      alike_receives old _ transfer new refl refl (like (same_transfer old.queues.transfer found transfer known is))
    where
      like : found ≡ transfer → Alike transfer new
      like same =
          subst (λ (t : Transfer). Alike t new) same
          (subst (λ (t : Transfer). Alike found t) (sym does.is)
          (alike_then found (record found { retransmission = does.left }) (timed_transfer does.round_trip (record found { retransmission = does.left }))
          (record { cumulative = refl; ranges = refl; reassembly = refl }) (timed_alike does.round_trip (record found { retransmission = does.left }))))
  action_receives old _ transfer is (loses now found known) =
      alike_receives old _ transfer _ refl refl (like (same_transfer old.queues.transfer found transfer known is))
    where
      like : found ≡ transfer → Alike transfer (lost_all now found)
      like same = subst (λ (t : Transfer). Alike t (lost_all now found)) same (record { cumulative = refl; ranges = refl; reassembly = refl })
  action_receives old _ transfer is (receives chunk found new came_is some known does) =
      let same : found ≡ transfer = same_transfer old.queues.transfer found transfer known is in
      let sent : WasInSentPacket direction.sent (data_chunk chunk) = subst (λ (c : Option Content). WasSent direction.sent c) came_is was in
      by_step old _ transfer new refl
      (directions.receives sent.emission chunk found new sent.was sent.holds some (ap (λ (t : Transfer). t.tracker) same) (ap (λ (t : Transfer). t.reassembly) same) does)
      (subst (λ (t : Transfer). SameWaits t.reassembly.deferral new.reassembly.deferral) same (receives_wait (data_arrival chunk) found new does))
  action_receives old _ transfer is (receives_interleaved chunk found new came_is some known does) =
      let same : found ≡ transfer = same_transfer old.queues.transfer found transfer known is in
      let sent : WasInSentPacket direction.sent (i_data_chunk chunk) = subst (λ (c : Option Content). WasSent direction.sent c) came_is was in
      by_step old _ transfer new refl
      (directions.receives_interleaved sent.emission chunk found new sent.was sent.holds some (ap (λ (t : Transfer). t.tracker) same) (ap (λ (t : Transfer). t.reassembly) same) does)
      (subst (λ (t : Transfer). SameWaits t.reassembly.deferral new.reassembly.deferral) same (receives_wait (i_data_arrival chunk) found new does))
  action_receives old _ transfer is (forwards tsn streams found new came_is known does) =
      let same : found ≡ transfer = same_transfer old.queues.transfer found transfer known is in
      let sent : WasInSentPacket direction.sent (forward_tsn_chunk tsn streams) = subst (λ (c : Option Content). WasSent direction.sent c) came_is was in
      by_step old _ transfer new refl
      (directions.forwards sent.emission tsn streams found new sent.was sent.holds (ap (λ (t : Transfer). t.tracker) same) (ap (λ (t : Transfer). t.reassembly) same) does)
      (subst (λ (t : Transfer). SameWaits t.reassembly.deferral new.reassembly.deferral) same (moves_wait tsn (named_skips streams) found new does))
  action_receives old _ transfer is (forwards_interleaved tsn streams found new came_is known does) =
      let same : found ≡ transfer = same_transfer old.queues.transfer found transfer known is in
      let sent : WasInSentPacket direction.sent (i_forward_tsn_chunk tsn streams) = subst (λ (c : Option Content). WasSent direction.sent c) came_is was in
      by_step old _ transfer new refl
      (directions.forwards_interleaved sent.emission tsn streams found new sent.was sent.holds (ap (λ (t : Transfer). t.tracker) same) (ap (λ (t : Transfer). t.reassembly) same) does)
      (subst (λ (t : Transfer). SameWaits t.reassembly.deferral new.reassembly.deferral) same (moves_wait tsn (skipped_messages streams) found new does))
  action_receives old _ transfer is (tracks found tracked known cumulative ranges) =
      alike_receives old _ transfer _ refl refl (like (same_transfer old.queues.transfer found transfer known is))
    where
      like : found ≡ transfer → Alike transfer (record found { tracker = tracked })
      like same = subst (λ (t : Transfer). Alike t (record found { tracker = tracked })) same (record { cumulative = cumulative; ranges = ranges; reassembly = refl })
  action_receives old _ transfer is (times round_trip found known) =
      alike_receives old _ transfer _ refl refl (like (same_transfer old.queues.transfer found transfer known is))
    where
      like : found ≡ transfer → Alike transfer (timed_transfer round_trip found)
      like same = subst (λ (t : Transfer). Alike t (timed_transfer round_trip found)) same (timed_alike round_trip found)
  action_receives old new transfer is (takes found message messages known ready) =
      subst (λ (t : Transfer). ReceivingSteps direction t old new) (same_transfer old.queues.transfer found transfer known is)
      (by_step old new found _ refl (directions.takes message messages ready) (same_waits found.reassembly.deferral))

  all_receive : (old new : Ledger) (transfer : Transfer) → old.queues.transfer ≡ Some transfer → Actions came to old new → ReceivingSteps direction transfer old new
  all_receive old _ transfer is nothing = record { left = transfer; is = is; steps = stays; waits = same_waits transfer.reassembly.deferral }
  all_receive old _ transfer is (further between new first last) =
      let before = all_receive old between transfer is first in
      let after = action_receives between new before.left before.is last in
      record {
        left = after.left;
        is = after.is;
        steps = all_steps (receiving direction transfer old.read) (receiving direction before.left between.read) (receiving direction after.left new.read) before.steps after.steps;
        waits = waits_then transfer.reassembly.deferral before.left.reassembly.deferral after.left.reassembly.deferral before.waits after.waits;
      }

pub actions_receive : (came : Option Content) (to : ℕ) (old new : Ledger) (direction : Direction) (transfer : Transfer) → WasSent direction.sent came → old.queues.transfer ≡ Some transfer → Actions came to old new
    → ReceivingSteps direction transfer old new
actions_receive came to old new direction transfer was is actions = all_receive came to direction was old new transfer is actions
