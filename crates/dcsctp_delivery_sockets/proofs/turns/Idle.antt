-- A socket without an association: nothing is received, and nothing is read in one.
use Rattle.std.proofs.Common.{◌≡◌, ◌∙◌, ℕ, Option, None, Some, List, refl, ap}
use Rattle.dcsctp_spec_lemmas.specs.spec.endpoint.Endpoint.{Endpoint}
use Rattle.dcsctp_spec_lemmas.specs.spec.Packet.{Content, init, init_ack, cookie_echo, cookie_ack, re_config, abort, shutdown, shutdown_ack, shutdown_complete, plain, Emission}
use Rattle.dcsctp_spec_lemmas.specs.spec.endpoint.Turn.{Input, arrival, refusal, packet_begins, chunk_input, packet_ends, act_input, user_sets, user_sends, user_resets, user_takes, timer_expires, time_passes, restores}
use Rattle.dcsctp_spec_lemmas.specs.spec.queues.Transfer.{Transfer, EndpointQueues}
use Rattle.dcsctp_delivery_sockets.specs.turns.Actions.{Ledger, IsOpening, read_if_connected, Action, queues, sets, flushes, resends, resends_nothing, speaks, asks_again, acknowledges, loses, receives, receives_interleaved, forwards, forwards_interleaved, tracks, times, takes, Actions, nothing, further, read_after}
use Rattle.dcsctp_delivery_sockets.specs.turns.Reports.{ComesReported}
use Rattle.dcsctp_delivery_sockets.specs.turns.Sides.{WasSent}
use Rattle.dcsctp_spec_lemmas.specs.types.queues.Messages.{MessageContent}
use Rattle.dcsctp_spec_lemmas.specs.spec.endpoint.FlushOutcomes.{Answer, answer_contents, filled_draft, asked_outcome, next_draft, Ask, first_ask, later_ask, IsFlushAnswer, IsAnswerOfQueues, AreFlushAnswers, at_limit, at_empty, after_packet, flush_of, packets_allowed}
use Rattle.dcsctp_delivery_directions.proofs.sending.Packets.{out_below}

-- A flush without an association leaves none.
answered_none : (ask : Ask) (e : Endpoint) (draft : Emission) (found : Option Transfer) (answer : Answer) → e.queues.transfer ≡ None → found ≡ None → IsAnswerOfQueues ask e draft answer found → answer.after.queues.transfer ≡ None
answered_none ask e draft None answer none is does = ap (λ (a : Answer). a.after.queues.transfer) does ∙ none
answered_none ask e draft (Some transfer) answer none is does = absurd (cc)

asked_none : (ask : Ask) (e : Endpoint) (draft : Emission) (answer : Answer) → e.queues.transfer ≡ None → IsFlushAnswer ask e draft answer → (asked_outcome e draft answer).after.queues.transfer ≡ None
asked_none ask e draft answer none does =
    ap (λ (b : EndpointQueues). b.transfer) (out_below answer.after _ draft.with_checksum draft.packet.tag (filled_draft draft (answer_contents answer)).packet.contents)
    ∙ answered_none ask e draft e.queues.transfer answer none none does.by_transfer

flush_none : (ask : Ask) (n : ℕ) (e : Endpoint) (draft : Emission) (answers : List Answer) → e.queues.transfer ≡ None → AreFlushAnswers ask n e draft answers → (flush_of e draft answers).after.queues.transfer ≡ None
flush_none _ _ _ _ _ none (at_limit ask e draft) = none
flush_none _ _ _ _ _ none (at_empty ask more e draft answer does empty) = asked_none ask e draft answer none does
flush_none _ _ _ _ _ none (after_packet ask more e draft answer answers does some rest) =
    flush_none later_ask more (asked_outcome e draft answer).after (next_draft e.core draft) answers (asked_none ask e draft answer none does) rest

-- Nothing is received where there is no association.
action_none : (came : Option Content) (to : ℕ) (old new : Ledger) → Action came to old new → old.queues.transfer ≡ None → new.queues.transfer ≡ None
action_none came to old _ (queues now sending fit some) none = none
action_none came to old _ (sets setting small) none = none
action_none came to old _ (flushes e draft answers same at tag no_data no_end stale says allowed) none = flush_none first_ask (packets_allowed e.options.max_burst e.core) e draft answers (ap (λ (b : EndpointQueues). b.transfer) same ∙ none) allowed
action_none came to old _ (resends now room transfer left tsns chunks emission tag known does are contents) none = absurd (cc)
action_none came to old _ (resends_nothing now room transfer left tsns known does) none = absurd (cc)
action_none came to old _ (speaks emission no_data stale says) none = none
action_none came to old _ (asks_again emission begun tag was contents) none = none
action_none came to old _ (acknowledges now sack transfer new may known valid does) none = absurd (cc)
action_none came to old _ (loses now transfer known) none = absurd (cc)
action_none came to old _ (receives chunk transfer new is some known does) none = absurd (cc)
action_none came to old _ (receives_interleaved chunk transfer new is some known does) none = absurd (cc)
action_none came to old _ (forwards tsn streams transfer new is known does) none = absurd (cc)
action_none came to old _ (forwards_interleaved tsn streams transfer new is known does) none = absurd (cc)
action_none came to old _ (tracks transfer tracked known cumulative ranges) none = absurd (cc)
action_none came to old _ (times round_trip transfer known) none = absurd (cc)
action_none came to old _ (takes transfer message messages known ready) none = absurd (cc)

pub actions_none : (came : Option Content) (to : ℕ) (old new : Ledger) → Actions came to old new → old.queues.transfer ≡ None → new.queues.transfer ≡ None
actions_none came to old _ nothing none = none
actions_none came to old _ (further between new first last) none = action_none came to between new last (actions_none came to old between first none)

pub read_none : (e : Endpoint) (input : Input) (read : List MessageContent) → e.queues.transfer ≡ None → read_after e input read ≡ read
read_none e user_takes read none = ap (λ (t : Option Transfer). read_if_connected t read) none
read_none e arrival read none = refl
read_none e (refusal text) read none = refl
read_none e (packet_begins contents) read none = refl
read_none e (chunk_input tag content) read none = refl
read_none e packet_ends read none = refl
read_none e (act_input act) read none = refl
read_none e (user_sets setting) read none = refl
read_none e (user_sends messages) read none = refl
read_none e (user_resets ids) read none = refl
read_none e (timer_expires timer) read none = refl
read_none e (time_passes moment) read none = refl
read_none e (restores state) read none = refl

-- What is handled where an association begins is neither data nor a FORWARD-TSN.
pub opening_sent : (sent : List Emission) (came : Option Content) → IsOpening came → WasSent sent came
opening_sent sent (Some (init_ack theirs cookie)) opening = tt
opening_sent sent (Some (cookie_echo cookie)) opening = tt
opening_sent sent None opening = absurd opening
opening_sent sent (Some (init introduction)) opening = absurd opening
opening_sent sent (Some cookie_ack) opening = absurd opening
opening_sent sent (Some (re_config parameters)) opening = absurd opening
opening_sent sent (Some (abort reflected causes)) opening = absurd opening
opening_sent sent (Some (shutdown tsn)) opening = absurd opening
opening_sent sent (Some shutdown_ack) opening = absurd opening
opening_sent sent (Some (shutdown_complete reflected)) opening = absurd opening
opening_sent sent (Some (plain chunk)) opening = absurd opening

-- It reports nothing.
pub opening_reports : (so : ℕ → Type 0) (came : Option Content) → IsOpening came → ComesReported so came
opening_reports so (Some (init_ack theirs cookie)) opening = tt
opening_reports so (Some (cookie_echo cookie)) opening = tt
opening_reports so None opening = absurd opening
opening_reports so (Some (init introduction)) opening = absurd opening
opening_reports so (Some cookie_ack) opening = absurd opening
opening_reports so (Some (re_config parameters)) opening = absurd opening
opening_reports so (Some (abort reflected causes)) opening = absurd opening
opening_reports so (Some (shutdown tsn)) opening = absurd opening
opening_reports so (Some shutdown_ack) opening = absurd opening
opening_reports so (Some (shutdown_complete reflected)) opening = absurd opening
opening_reports so (Some (plain chunk)) opening = absurd opening
