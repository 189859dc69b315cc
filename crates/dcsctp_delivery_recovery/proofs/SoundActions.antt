-- What is outstanding stays sound in each action of a turn.
use Rattle.std.proofs.Common.{◌≡◌, ℕ, Bool, true, false, Option, None, Some, List, [], length, map, refl, sym, subst}
use Rattle.dcsctp_spec_lemmas.specs.types.declared.progress.Change.TheVariants.{Mark}
use Rattle.dcsctp_spec_lemmas.specs.spec.Packet.{Content, Emission}
use Rattle.dcsctp_spec_lemmas.specs.spec.association.Choices.{plain_contents}
use Rattle.dcsctp_spec_lemmas.specs.spec.endpoint.BegunResets.{BegunReset, streams_within, retransmission_begun}
use Rattle.dcsctp_spec_lemmas.specs.spec.endpoint.Endpoint.{Endpoint}
use Rattle.dcsctp_spec_lemmas.specs.spec.endpoint.FlushOutcomes.{Ask, first_ask, later_ask, Answer, answer_contents, filled_draft, filling_event, asked_outcome, next_draft, flush_of, packets_allowed, room_of_draft, stage_of, Gives, GivesUnlessIdle, IsAnswerOfQueues, IsFlushAnswer, AreFlushAnswers, at_limit, at_empty, after_packet, FlushAnswers}
use Rattle.dcsctp_spec_lemmas.specs.spec.endpoint.TransferMoves.{lost_all}
use Rattle.dcsctp_spec_lemmas.specs.spec.queues.Filling.{Stage}
use Rattle.dcsctp_spec_lemmas.specs.spec.queues.Retransmission.{RetransmissionState}
use Rattle.dcsctp_spec_lemmas.specs.spec.queues.Transfer.{Transfer, EndpointQueues, is_idle}
use Rattle.dcsctp_delivery_directions.proofs.sending.Packets.{out_below}
use Rattle.dcsctp_delivery_sockets.specs.turns.Actions.{Ledger, Action, queues, sets, flushes, resends, resends_nothing, speaks, asks_again, acknowledges, loses, receives, receives_interleaved, forwards, forwards_interleaved, tracks, times, takes, Actions, nothing, further}
use Rattle.dcsctp_delivery_sockets.proofs.turns.Received.{data_where, forward_where}
use Rattle.dcsctp_delivery_recovery.specs.Flights.{IsSoundFlight, HasSoundFlight}
use Rattle.dcsctp_delivery_recovery.proofs.WaitingStreams.{AllWaitWell}
use Rattle.dcsctp_delivery_recovery.proofs.WaitingQueues.{queueing_well, setting_well, requesting_well}
use Rattle.dcsctp_delivery_recovery.proofs.SoundItems.{changed_flight, QueueFliesSound, TransferFliesSound, timed_flight, sack_flight}
use Rattle.dcsctp_delivery_recovery.proofs.SoundStages.{SoundStage, given_up_sound, allowed_sound, at_once_sound}

-- What waits and what is outstanding.
pub record AreQueuesSound (sender_queues : EndpointQueues) : Type 0 where
  pub waits : AllWaitWell sender_queues.queue.streams
  pub flight : HasSoundFlight sender_queues.transfer

-- ---- one packet of a flush

begun_same : (begun : Option BegunReset) (state : RetransmissionState) → (retransmission_begun begun state).outstanding ≡ state.outstanding
begun_same None state = refl
begun_same (Some begun) state = refl

gave_sound : (ask : Ask) (e : Endpoint) (draft : Emission) (t : Transfer) (answer : Answer) → (gave : Gives ask e draft t answer) → AllWaitWell e.queues.queue.streams → TransferFliesSound t → SoundStage gave.sent
gave_sound ask e draft t answer gave waits flight =
    let begins : Stage = stage_of e.queues.queue t.retransmission [] 0 in
    let given : SoundStage gave.gave_up = given_up_sound _ e.moment t _ begins gave.gave_up _ gave.gives_up (record { waits = waits; flight = flight }) in
    let count : ℕ = streams_within (room_of_draft e (filled_draft draft (plain_contents answer.acknowledgements))) in
    allowed_sound _ e.moment _ gave.sent gave.fills
    (record {
      waits = requesting_well count answer.begun gave.gave_up.waiting given.waits;
      flight = subst IsSoundFlight (sym (begun_same answer.begun gave.gave_up.queue)) given.flight;
    })

answered_sound : (ask : Ask) (e : Endpoint) (draft : Emission) (answer : Answer) (found : Option Transfer) → e.queues.transfer ≡ found → IsAnswerOfQueues ask e draft answer found → AreQueuesSound e.queues → AreQueuesSound answer.after.queues
answered_sound ask e draft answer None at is h = subst (λ (a : Answer). AreQueuesSound a.after.queues) (sym is) h
answered_sound ask e draft answer (Some t) at is h = go (is_idle e.queues.queue t) is
  where
    go : (b : Bool) → GivesUnlessIdle b ask e draft t answer → AreQueuesSound answer.after.queues
    go true same = subst (λ (a : Answer). AreQueuesSound a.after.queues) (sym same) h
    go false gave =
        let sent : SoundStage gave.sent = gave_sound ask e draft t answer gave h.waits (subst HasSoundFlight at h.flight) in
        subst AreQueuesSound (sym gave.below) (record { waits = sent.waits; flight = sent.flight })

asked_sound : (ask : Ask) (e : Endpoint) (draft : Emission) (answer : Answer) → IsFlushAnswer ask e draft answer → AreQueuesSound e.queues → AreQueuesSound (asked_outcome e draft answer).after.queues
asked_sound ask e draft answer is h =
    subst AreQueuesSound (sym (out_below answer.after (map filling_event answer.told) draft.with_checksum draft.packet.tag (filled_draft draft (answer_contents answer)).packet.contents))
    (answered_sound ask e draft answer e.queues.transfer refl is.by_transfer h)

answers_sound : (ask : Ask) (count : ℕ) (e : Endpoint) (draft : Emission) (answers : List Answer) → AreFlushAnswers ask count e draft answers → AreQueuesSound e.queues → AreQueuesSound (flush_of e draft answers).after.queues
answers_sound _ _ _ _ _ (at_limit ask e draft) h = h
answers_sound _ _ _ _ _ (at_empty ask more e draft answer is empty) h = asked_sound ask e draft answer is h
answers_sound _ _ _ _ _ (after_packet ask more e draft answer answers is some rest) h =
    answers_sound later_ask more (asked_outcome e draft answer).after (next_draft e.core draft) answers rest (asked_sound ask e draft answer is h)

flush_sound : (e : Endpoint) (draft : Emission) (answers : List Answer) → FlushAnswers e draft answers → AreQueuesSound e.queues → AreQueuesSound (flush_of e draft answers).after.queues
flush_sound e draft answers allowed h = answers_sound first_ask (packets_allowed e.options.max_burst e.core) e draft answers allowed h

-- ---- an action

pub known_flight : (sender_queues : EndpointQueues) (transfer : Transfer) → sender_queues.transfer ≡ Some transfer → AreQueuesSound sender_queues → TransferFliesSound transfer
known_flight sender_queues transfer known h = subst HasSoundFlight known h.flight

-- What is outstanding is the same.
same_flight : (old new : Transfer) → new.retransmission ≡ old.retransmission → TransferFliesSound old → TransferFliesSound new
same_flight old new same h = subst QueueFliesSound (sym same) h

pub lost_flight : (now : ℕ) (transfer : Transfer) → TransferFliesSound transfer → TransferFliesSound (lost_all now transfer)
lost_flight now transfer h = changed_flight Mark 0 (length transfer.retransmission.outstanding.items) transfer.retransmission.outstanding _ tt refl h

action_sound : (came : Option Content) (to : ℕ) (old new : Ledger) → Action came to old new → AreQueuesSound old.queues → AreQueuesSound new.queues
action_sound came to old _ (queues now sending fits some) h = record { waits = queueing_well now sending old.queues.queue some h.waits; flight = h.flight }
action_sound came to old _ (sets setting fits) h = record { waits = setting_well setting old.queues.queue h.waits; flight = h.flight }
action_sound came to old _ (flushes e draft answers same peer tag none_there no_end fresh reports allowed) h = flush_sound e draft answers allowed (subst AreQueuesSound (sym same) h)
action_sound came to old _ (resends now room transfer left tsns chunks emission tag known sends are contents) h =
    record { waits = h.waits; flight = at_once_sound now room old.queues.queue transfer.retransmission left tsns sends h.waits (known_flight old.queues transfer known h) }
action_sound came to old _ (resends_nothing now room transfer left tsns known sends) h =
    record { waits = h.waits; flight = at_once_sound now room old.queues.queue transfer.retransmission left tsns sends h.waits (known_flight old.queues transfer known h) }
action_sound came to old _ (speaks emission none_there fresh reports) h = h
action_sound came to old _ (asks_again emission begun tag was contents) h = h
action_sound came to old _ (acknowledges now sack transfer new may known valid does) h = record { waits = h.waits; flight = sack_flight now sack transfer new (known_flight old.queues transfer known h) does }
action_sound came to old _ (loses now transfer known) h = record { waits = h.waits; flight = lost_flight now transfer (known_flight old.queues transfer known h) }
action_sound came to old _ (receives chunk transfer new is some known does) h = record { waits = h.waits; flight = same_flight transfer new (data_where _ _ transfer new does) (known_flight old.queues transfer known h) }
action_sound came to old _ (receives_interleaved chunk transfer new is some known does) h = record { waits = h.waits; flight = same_flight transfer new (data_where _ _ transfer new does) (known_flight old.queues transfer known h) }
action_sound came to old _ (forwards tsn streams transfer new is known does) h = record { waits = h.waits; flight = same_flight transfer new (forward_where _ tsn _ transfer new does) (known_flight old.queues transfer known h) }
action_sound came to old _ (forwards_interleaved tsn streams transfer new is known does) h = record { waits = h.waits; flight = same_flight transfer new (forward_where _ tsn _ transfer new does) (known_flight old.queues transfer known h) }
action_sound came to old _ (tracks transfer tracker known cumulative ranges) h = record { waits = h.waits; flight = known_flight old.queues transfer known h }
action_sound came to old _ (times round_trip transfer known) h = record { waits = h.waits; flight = timed_flight round_trip transfer (known_flight old.queues transfer known h) }
action_sound came to old _ (takes transfer message messages known ready) h = record { waits = h.waits; flight = known_flight old.queues transfer known h }

pub actions_sound : (came : Option Content) (to : ℕ) (old new : Ledger) → Actions came to old new → AreQueuesSound old.queues → AreQueuesSound new.queues
actions_sound came to old _ nothing h = h
actions_sound came to old new (further between _ actions action) h = action_sound came to between new action (actions_sound came to old between actions h)
