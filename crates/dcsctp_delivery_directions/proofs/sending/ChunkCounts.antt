-- How many TSNs a flush assigns, by the chunks of data that it sends.
use Rattle.std.proofs.Common.{◌≡◌, ℕ, Bool, true, false, ◌≤◌, ◌+◌, ◌*◌, ◌-◌, List, [], ◌∷◌, ◌++◌, length, map, refl, sym, ◌∙◌, ap, arith, subst, inl, inr}
use Rattle.std.specs.Prelude.{Option, None, Some}
use Rattle.std.proofs.lemmas.List.{append-nil, length-append}
use Rattle.dcsctp_spec.specs.wire.Content.{ChunkContent, data_chunk, init_chunk, init_ack_chunk, sack_chunk, heartbeat_chunk, heartbeat_ack_chunk, abort_chunk, shutdown_chunk, shutdown_ack_chunk, error_chunk, cookie_echo_chunk, cookie_ack_chunk, shutdown_complete_chunk, i_data_chunk, re_config_chunk, forward_tsn_chunk, i_forward_tsn_chunk, unknown_chunk}
use Rattle.dcsctp_spec.specs.endpoint.Endpoint.{Endpoint}
use Rattle.dcsctp_spec.specs.endpoint.Event.{Event, sent, packets_of_events}
use Rattle.dcsctp_spec.specs.Packet.{Plain, unworked, unknown, heartbeat, heartbeat_ack, plain, Content, init, init_ack, cookie_echo, cookie_ack, re_config, abort, shutdown, shutdown_ack, shutdown_complete, Emission}
use Rattle.dcsctp_spec.specs.association.Choices.{plain_contents}
use Rattle.dcsctp_spec.specs.types.declared.progress.Change.TheVariants.{SendAgain, Abandon}
use Rattle.dcsctp_spec.specs.queues.Abandoning.{GivesUpFirst}
use Rattle.dcsctp_spec.specs.queues.AtOnce.{empty_stage, SendsAtOnce}
use Rattle.dcsctp_spec.specs.queues.Chunks.{AreChunksOfTsns, chunk_said}
use Rattle.dcsctp_spec.specs.queues.Filling.{Stage, payload_room, ClosesMessage, GivesUpItem, SendsMarked, SendsNew, FindsNone, StepAgain, StepNew, StageSteps, none, more, resent_packet_counted, FillsPacket}
use Rattle.dcsctp_spec.specs.queues.ItemMessages.{EndsDropped}
use Rattle.dcsctp_spec.specs.queues.Items.{Item}
use Rattle.dcsctp_spec.specs.queues.Outstanding.{OutstandingState, header, next_tsn, tsn_at}
use Rattle.dcsctp_spec.specs.queues.Retransmission.{RetransmissionState}
use Rattle.dcsctp_spec.specs.queues.SendQueue.{SendQueueState}
use Rattle.dcsctp_spec.specs.queues.Sending.{DiscardsNamed}
use Rattle.dcsctp_spec.specs.queues.Transfer.{Transfer, EndpointQueues, may_give, is_idle}
use Rattle.dcsctp_spec.specs.endpoint.BegunResets.{BegunReset, streams_within, request_contents, queue_requesting, retransmission_begun}
use Rattle.dcsctp_spec.specs.endpoint.FlushOutcomes.{filling_event, Answer, answer_contents, filled_draft, asked_outcome, next_draft, flush_of, Ask, first_ask, later_ask, room_of_draft, GivesUpThenForwards, may_forward, FillsIfAllowed, Gives, GivesUnlessIdle, IsAnswerOfQueues, IsFlushAnswer, stage_of, nothing_waits, AreFlushAnswers, at_limit, at_empty, after_packet, FlushAnswers, goes_out, FillingEvent, amount_is_low, total_amount_is_low, message_is_sent, message_may_have_expired, message_has_expired, message_ends, forward_made}
use Rattle.dcsctp_delivery_directions.specs.sending.ChunkCounts.{counts, chunks_among, chunks_among_packets, going, tsns_of, tsns_if_connected, tsns_of_queues}
use Rattle.dcsctp_delivery_directions.specs.sending.Flushes.{NoPlain, NoContent, NoData}
use Rattle.dcsctp_delivery_directions.proofs.sending.Filling.{counted_outstanding}
use Rattle.dcsctp_delivery_directions.proofs.sending.Packets.{out_below}
use Rattle.dcsctp_delivery_directions.proofs.sending.Handing.{requesting_alike}
use Rattle.dcsctp_delivery_directions.proofs.sending.UnderWayCounts.{alike_going, drops_going, discards_going, takes_going}
use Rattle.dcsctp_delivery_directions.proofs.sending.Stages.{changed_length}

-- ---- one step

-- no more TSNs are taken, and none is added to the packet
record Fewer (old new : Stage) : Type 0 where
  less : tsns_of new.waiting new.queue.outstanding.items ≤ tsns_of old.waiting old.queue.outstanding.items
  tsns : new.tsns ≡ old.tsns

fewer_same : (stage : Stage) → Fewer stage stage
fewer_same stage = record { less = omega arith; tsns = refl }

-- at most two for each TSN in the packet
abbrev Few : Stage → Stage → Type 0
Few old new = tsns_of new.waiting new.queue.outstanding.items + 2 * length old.tsns ≤ tsns_of old.waiting old.queue.outstanding.items + 2 * length new.tsns

fewer_few : (old new : Stage) → Fewer old new → Few old new
fewer_few old new h = let less = h.less in let same : length new.tsns ≡ length old.tsns = ap (λ (l : List ℕ). length l) h.tsns in omega (arith, less, same)

marked_few : (now : ℕ) (old new : Stage) → SendsMarked now old new → Few old new
marked_few now old new sends =
    subst (λ (s : Stage). Few old s) (sym sends.is)
    (let size = changed_length (SendAgain (next_tsn old.queue.outstanding)) sends.place (sends.place + 1) old.queue.outstanding.items in
    let long = length-append old.tsns (tsn_at old.queue.outstanding sends.place ∷ []) in
    omega (arith, size, long))

dropped_few : (now : ℕ) (begins : Bool) (last : Item) (old new : OutstandingState) (waiting left : SendQueueState) (stream id : ℕ) (told telling : List (Event (List ℕ))) (b : Bool) → DiscardsNamed waiting stream id told b left telling
    → EndsDropped now begins last old new b → tsns_of left new.items ≤ tsns_of waiting old.items
dropped_few now begins last old new waiting left stream id told telling true discards adds =
    let size : length new.items ≡ length old.items + 1 = ap (λ (o : OutstandingState). length o.items) adds.grows ∙ length-append old.items (adds.item ∷ []) in
    let less = discards_going waiting left stream id told telling discards in
    omega (arith, size, less)
dropped_few now begins last old new waiting left stream id told telling false discards same =
    let size : length new.items ≡ length old.items = ap (λ (o : OutstandingState). length o.items) same in
    let way : going left.streams ≡ going waiting.streams = ap (λ (q : SendQueueState). going q.streams) discards.1 in
    omega (arith, size, way)

closes_few : (now : ℕ) (last : Item) (old new : Stage) (b : Bool) → ClosesMessage now last old new b → Fewer old new
closes_few now last old new true is = subst (λ (s : Stage). Fewer old s) (sym is) (record { less = omega arith; tsns = refl })
closes_few now last old new false (inl (few, drops)) =
    subst (λ (s : Stage). Fewer old s) (sym drops.is)
    (record { less = dropped_few now _ last old.queue.outstanding drops.outstanding old.waiting new.waiting _ _ old.told new.told drops.drops.is_dropped drops.drops.drops drops.drops.ends; tsns = refl })
closes_few now last old new false (inr (many, is)) = subst (λ (s : Stage). Fewer old s) (sym is) (fewer_same old)

gives_up_few : (now place : ℕ) (old new : Stage) → GivesUpItem now place old new → Fewer old new
gives_up_few now place old new gives =
    let first = closes_few now gives.last old gives.closed gives.last.fragment.is_end gives.closes in
    let less = first.less in
    let size = changed_length Abandon gives.start (gives.last_place + 1) gives.closed.queue.outstanding.items in
    subst (λ (s : Stage). Fewer old s) (sym gives.is) (record { less = omega (arith, less, size); tsns = first.tsns })

again_few : (now : ℕ) (old new : Stage) → StepAgain now old new → Few old new
again_few now old new (inl step) = marked_few now old new step.1
again_few now old new (inr step) = fewer_few old new (gives_up_few now step.place old new step.gives_up)

new_few : (now : ℕ) (old new : Stage) → SendsNew now old new → Few old new
new_few now old new sends =
    subst (λ (s : Stage). Few old s) (sym sends.is)
    (let size = length-append old.queue.outstanding.items (sends.item ∷ []) in
    let long = length-append old.tsns (next_tsn old.queue.outstanding ∷ []) in
    let way = takes_going now (payload_room (header old.queue.outstanding) old.room) old.waiting new.waiting old.told new.told sends.item.fragment sends.takes in
    omega (arith, size, long, way))

finds_few : (now : ℕ) (old new : Stage) → FindsNone now old new → Few old new
finds_few now old new finds =
    subst (λ (s : Stage). Few old s) (sym finds.is)
    (let way = drops_going now old.waiting finds.takes.drops.events new.waiting finds.takes.drops.drops in
    omega (arith, way))

anew_few : (now : ℕ) (old new : Stage) → StepNew now old new → Few old new
anew_few now old new (may, inl sends) = new_few now old new sends
anew_few now old new (may, inr finds) = finds_few now old new finds

-- ---- steps

steps_few : (Step : Stage → Stage → Type 0) → ((old new : Stage) → Step old new → Few old new) → (old new : Stage) → StageSteps Step old new → Few old new
steps_few Step each old new none = omega arith
steps_few Step each old new (more between _ steps step) = (let first = steps_few Step each old between steps in let last = each between new step in omega (arith, first, last))

fewer_steps : (now : ℕ) (old new : Stage) → StageSteps (GivesUpFirst now) old new → Fewer old new
fewer_steps now old new none = fewer_same old
fewer_steps now old new (more between _ steps step) =
    let first = fewer_steps now old between steps in
    let last = gives_up_few now step.place between new step.gives_up in
    let less = first.less in
    let less' = last.less in
    record { less = omega (arith, less, less'); tsns = last.tsns ∙ first.tsns }

fills_few : (now : ℕ) (old new : Stage) → FillsPacket now old new → Few old new
fills_few now old new fills =
    let again = steps_few (StepAgain now) (again_few now) old fills.fills.resent fills.fills.again in
    let anew = steps_few (StepNew now) (anew_few now) (resent_packet_counted old.room fills.fills.resent) fills.sent fills.fills.anew in
    let same : length (resent_packet_counted old.room fills.fills.resent).queue.outstanding.items ≡ length fills.fills.resent.queue.outstanding.items =
    ap (λ (o : OutstandingState). length o.items) (counted_outstanding (old.room - fills.fills.resent.room) fills.fills.resent.queue) in
    subst (λ (s : Stage). Few old s) (sym fills.is) (omega (arith, again, anew, same))

-- ---- the chunks of a packet

among_both : (contents others : List Content) → chunks_among (contents ++ others) ≡ chunks_among contents + chunks_among others
among_both [] others = omega arith
among_both (c ∷ contents) others = (let rest = among_both contents others in omega (arith, rest))

said_counts : (is_interleaved : Bool) (tsn : ℕ) (part : _) → counts (plain (unworked (chunk_said is_interleaved tsn part))) ≡ 1
said_counts true tsn part = refl
said_counts false tsn part = refl

pub chunks_counted : (outstanding : OutstandingState) (tsns : List ℕ) (chunks : List Plain) → AreChunksOfTsns outstanding tsns chunks → chunks_among (plain_contents chunks) ≡ length tsns
chunks_counted outstanding [] [] are = refl
chunks_counted outstanding [] (c ∷ chunks) are = absurd are
chunks_counted outstanding (t ∷ tsns) [] are = absurd are
chunks_counted outstanding (t ∷ tsns) (c ∷ chunks) are =
    let one : counts (plain c) ≡ 1 = ap (λ (x : Plain). counts (plain x)) are.0.says ∙ said_counts outstanding.is_interleaved t are.0.item.fragment in
    let rest = chunks_counted outstanding tsns chunks are.1 in
    omega (arith, one, rest)

-- ---- an answer

given_up_few : (now room : ℕ) (b : Bool) (transfer : Transfer) (old new : Stage) (next : Option ℕ) (chunks : List Plain) → GivesUpThenForwards b now transfer room old new (forward_made next chunks) → Fewer old new
given_up_few now room false transfer old new next chunks gives = subst (λ (s : Stage). Fewer old s) (sym gives.0) (fewer_same old)
given_up_few now room true transfer old new next chunks gives = fewer_steps now old new gives.0.steps

filled_few : (now : ℕ) (b : Bool) (old new : Stage) → FillsIfAllowed b now old new → Few old new
filled_few now true old new fills = fills_few now old new fills
filled_few now false old new (inl is) = subst (λ (s : Stage). Few old s) (sym is) (omega arith)
filled_few now false old new (inr fills) = fills_few now old new fills

requesting_way : (count : ℕ) (begun : Option BegunReset) (queue : SendQueueState) → going (queue_requesting count begun queue).streams ≡ going queue.streams
requesting_way count begun queue = alike_going queue.streams (queue_requesting count begun queue).streams (requesting_alike count begun queue)

begun_items : (begun : Option BegunReset) (state : RetransmissionState) → (retransmission_begun begun state).outstanding.items ≡ state.outstanding.items
begun_items None state = refl
begun_items (Some begun) state = refl

abbrev AnswerIsFew : Endpoint → Answer → Type 0
AnswerIsFew e answer = tsns_of_queues answer.after.queues ≤ tsns_of_queues e.queues + 2 * chunks_among (answer_contents answer)

gives_few : (ask : Ask) (e : Endpoint) (draft : Emission) (transfer : Transfer) (answer : Answer) → e.queues.transfer ≡ Some transfer → Gives ask e draft transfer answer → AnswerIsFew e answer
gives_few ask e draft transfer answer known gives =
    let gave = (given_up_few e.moment _ (may_forward ask e transfer.retransmission) transfer (stage_of e.queues.queue transfer.retransmission [] 0) gives.gave_up gives.next gives.forwards gives.gives_up).less in
    let room : ℕ = streams_within (room_of_draft e (filled_draft draft (plain_contents answer.acknowledgements))) in
    let way = requesting_way room answer.begun gives.gave_up.waiting in
    let size : length (retransmission_begun answer.begun gives.gave_up.queue).outstanding.items ≡ length gives.gave_up.queue.outstanding.items =
    ap (λ (l : List Item). length l) (begun_items answer.begun gives.gave_up.queue) in
    let full = filled_few e.moment (may_give (queue_requesting room answer.begun gives.gave_up.waiting) (retransmission_begun answer.begun gives.gave_up.queue)) _ gives.sent gives.fills in
    let sent_chunks = chunks_counted gives.sent.queue.outstanding gives.sent.tsns answer.data_chunks gives.chunks in
    let parts = among_both (plain_contents answer.acknowledgements) (request_contents answer.begun ++ plain_contents answer.data_chunks) in
    let parts' = among_both (request_contents answer.begun) (plain_contents answer.data_chunks) in
    let before : tsns_of_queues e.queues ≡ tsns_of e.queues.queue transfer.retransmission.outstanding.items = ap (λ (t : Option Transfer). tsns_if_connected e.queues.queue t) known in
    subst (λ (b : EndpointQueues). tsns_of_queues b ≤ tsns_of_queues e.queues + 2 * chunks_among (answer_contents answer)) (sym gives.below)
    (omega (arith, gave, way, size, full, sent_chunks, parts, parts', before))

nothing_few : (e : Endpoint) (answer : Answer) → answer ≡ nothing_waits e → AnswerIsFew e answer
nothing_few e answer is = subst (AnswerIsFew e) (sym is) (omega arith)

where_few : (ask : Ask) (b : Bool) (e : Endpoint) (draft : Emission) (transfer : Transfer) (answer : Answer) → e.queues.transfer ≡ Some transfer → GivesUnlessIdle b ask e draft transfer answer → AnswerIsFew e answer
where_few ask true e draft transfer answer known is = nothing_few e answer is
where_few ask false e draft transfer answer known gives = gives_few ask e draft transfer answer known gives

answered_few : (ask : Ask) (e : Endpoint) (draft : Emission) (transfer : Option Transfer) (answer : Answer) → e.queues.transfer ≡ transfer → IsAnswerOfQueues ask e draft answer transfer → AnswerIsFew e answer
answered_few ask e draft None answer known is = nothing_few e answer is
answered_few ask e draft (Some transfer) answer known gives = where_few ask (is_idle e.queues.queue transfer) e draft transfer answer known gives

-- ---- a flush

told_packets : (told : List FillingEvent) (others : List (Event Emission)) → packets_of_events (map filling_event told ++ others) ≡ packets_of_events others
told_packets [] others = refl
told_packets (amount_is_low stream ∷ told) others = told_packets told others
told_packets (total_amount_is_low ∷ told) others = told_packets told others
told_packets (message_is_sent id ∷ told) others = told_packets told others
told_packets (message_may_have_expired id ∷ told) others = told_packets told others
told_packets (message_has_expired id ∷ told) others = told_packets told others
told_packets (message_ends id ∷ told) others = told_packets told others

out_counts : (e : Endpoint) (told : List FillingEvent) (with_checksum : Bool) (tag : ℕ) (contents : List Content) → chunks_among_packets (packets_of_events (goes_out e (map filling_event told) with_checksum tag contents).events) ≡ chunks_among contents
out_counts e told with_checksum tag [] = ap chunks_among_packets (ap packets_of_events (sym (append-nil (map filling_event told))) ∙ told_packets told [])
out_counts e told with_checksum tag (c ∷ contents) =
    let emission : Emission = record { with_checksum = with_checksum; packet = record { tag = tag; contents = c ∷ contents } } in
    ap chunks_among_packets (told_packets told (sent emission ∷ [])) ∙ omega arith

chunks_both : (events others : List (Event Emission)) → chunks_among_packets (packets_of_events (events ++ others)) ≡ chunks_among_packets (packets_of_events events) + chunks_among_packets (packets_of_events others)
chunks_both [] others = omega arith
chunks_both (sent emission ∷ events) others = (let rest = chunks_both events others in omega (arith, rest))
chunks_both (event ∷ events) others = chunks_both events others

asked_few : (ask : Ask) (e : Endpoint) (draft : Emission) (answer : Answer) → IsFlushAnswer ask e draft answer
    → tsns_of_queues (asked_outcome e draft answer).after.queues ≤ tsns_of_queues e.queues + 2 * chunks_among_packets (packets_of_events (asked_outcome e draft answer).events)
asked_few ask e draft answer answered =
    let contents : List Content = (filled_draft draft (answer_contents answer)).packet.contents in
    let few = answered_few ask e draft e.queues.transfer answer refl answered.by_transfer in
    let left : tsns_of_queues (asked_outcome e draft answer).after.queues ≡ tsns_of_queues answer.after.queues = ap tsns_of_queues (out_below answer.after (map filling_event answer.told) draft.with_checksum draft.packet.tag contents) in
    let counted : chunks_among_packets (packets_of_events (asked_outcome e draft answer).events) ≡ chunks_among contents = out_counts answer.after answer.told draft.with_checksum draft.packet.tag contents in
    let parts = among_both draft.packet.contents (answer_contents answer) in
    omega (arith, few, left, counted, parts)

answers_few : (ask : Ask) (n : ℕ) (e : Endpoint) (draft : Emission) (answers : List Answer) → AreFlushAnswers ask n e draft answers
    → tsns_of_queues (flush_of e draft answers).after.queues ≤ tsns_of_queues e.queues + 2 * chunks_among_packets (packets_of_events (flush_of e draft answers).events)
answers_few _ _ _ _ _ (at_limit ask e draft) = omega arith
answers_few _ _ _ _ _ (at_empty ask others e draft answer is empty) =
    let one = asked_few ask e draft answer is in
    let both = chunks_both (asked_outcome e draft answer).events [] in
    omega (arith, one, both)
answers_few _ _ _ _ _ (after_packet ask others e draft answer answers is some rest) =
    let one = asked_few ask e draft answer is in
    let later = answers_few later_ask others (asked_outcome e draft answer).after (next_draft e.core draft) answers rest in
    let both = chunks_both (asked_outcome e draft answer).events (flush_of (asked_outcome e draft answer).after (next_draft e.core draft) answers).events in
    omega (arith, one, later, both)

pub flushes_assign_few : (e : Endpoint) (draft : Emission) (answers : List Answer) → FlushAnswers e draft answers
    → tsns_of_queues (flush_of e draft answers).after.queues ≤ tsns_of_queues e.queues + 2 * chunks_among_packets (packets_of_events (flush_of e draft answers).events)
flushes_assign_few e draft answers allowed = answers_few first_ask _ e draft answers allowed

-- ---- a fast retransmission

marked_same : (now : ℕ) (old new : Stage) → SendsMarked now old new → length new.queue.outstanding.items ≡ length old.queue.outstanding.items
marked_same now old new sends =
    ap (λ (s : Stage). length s.queue.outstanding.items) sends.is ∙ changed_length (SendAgain (next_tsn old.queue.outstanding)) sends.place (sends.place + 1) old.queue.outstanding.items

marked_steps : (now : ℕ) (old new : Stage) → StageSteps (SendsMarked now) old new → length new.queue.outstanding.items ≡ length old.queue.outstanding.items
marked_steps now old new none = refl
marked_steps now old new (more between _ steps step) = marked_same now between new step ∙ marked_steps now old between steps

pub at_once_same : (now bytes : ℕ) (waiting : SendQueueState) (old new : RetransmissionState) (tsns : List ℕ) → SendsAtOnce now bytes waiting old new tsns → length new.outstanding.items ≡ length old.outstanding.items
at_once_same now bytes waiting old new tsns sends =
    ap (λ (r : RetransmissionState). length r.outstanding.items) sends.is ∙ ap (λ (o : OutstandingState). length o.items) (counted_outstanding (bytes - sends.room) sends.resent)
    ∙ marked_steps now (empty_stage (record old { fast_retransmit_due = false }) waiting bytes) (record (empty_stage sends.resent waiting sends.room) { tsns = tsns }) sends.steps

-- ---- packets without data

unworked_counts : (chunk : ChunkContent) → NoPlain (unworked chunk) → counts (plain (unworked chunk)) ≡ 0
unworked_counts (data_chunk chunk) empty = absurd empty
unworked_counts (i_data_chunk chunk) empty = absurd empty
unworked_counts (forward_tsn_chunk tsn streams) empty = absurd empty
unworked_counts (i_forward_tsn_chunk tsn streams) empty = absurd empty
unworked_counts (init_chunk a) nothing = refl
unworked_counts (init_ack_chunk a) nothing = refl
unworked_counts (sack_chunk a) nothing = refl
unworked_counts (heartbeat_chunk a) nothing = refl
unworked_counts (heartbeat_ack_chunk a) nothing = refl
unworked_counts (abort_chunk a b) nothing = refl
unworked_counts (shutdown_chunk a) nothing = refl
unworked_counts shutdown_ack_chunk nothing = refl
unworked_counts (error_chunk a) nothing = refl
unworked_counts (cookie_echo_chunk a) nothing = refl
unworked_counts cookie_ack_chunk nothing = refl
unworked_counts (shutdown_complete_chunk a) nothing = refl
unworked_counts (re_config_chunk a) nothing = refl
unworked_counts (unknown_chunk a b c) nothing = refl

content_counts : (content : Content) → NoContent content → counts content ≡ 0
content_counts (plain (unworked chunk)) nothing = unworked_counts chunk nothing
content_counts (plain (unknown type flags value)) nothing = refl
content_counts (plain (heartbeat parameters)) nothing = refl
content_counts (plain (heartbeat_ack parameters)) nothing = refl
content_counts (init a) nothing = refl
content_counts (init_ack a b) nothing = refl
content_counts (cookie_echo a) nothing = refl
content_counts cookie_ack nothing = refl
content_counts (re_config a) nothing = refl
content_counts (abort a b) nothing = refl
content_counts (shutdown a) nothing = refl
content_counts shutdown_ack nothing = refl
content_counts (shutdown_complete a) nothing = refl

pub no_data_counts : (contents : List Content) → NoData contents → chunks_among contents ≡ 0
no_data_counts [] nothing = refl
no_data_counts (content ∷ contents) free = (let one = content_counts content free.0 in let rest = no_data_counts contents free.1 in omega (arith, one, rest))
