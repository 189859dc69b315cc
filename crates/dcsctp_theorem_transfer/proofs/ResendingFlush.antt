-- A flush of a socket that has nothing else to say begins with the first item that waits to be sent again.
use Rattle.std.proofs.Common.{◌≡◌, ◌≤◌, ◌<◌, ◌-◌, ◌==◌, ℕ, zero, suc, nat_lt, Bool, true, false, not, ◌&&◌, ◌||◌, Option, None, Some, List, [], ◌∷◌, ◌++◌, map, take, length, refl, sym, ap, ◌∙◌, subst, slice_get, arith}
use Rattle.std.proofs.lemmas.Bool.Decides.{nat_tests}
use Rattle.std.specs.List.{AllByRecursion}
use Rattle.dcsctp_spec_lemmas.specs.types.Settings.{packet_size_limit}
use Rattle.dcsctp_spec_lemmas.specs.types.declared.association.Held.{Held}
use Rattle.dcsctp_spec_lemmas.specs.types.declared.tracking.AckState.{AckState}
use Rattle.dcsctp_spec_lemmas.specs.types.declared.tracking.AckState.TheVariants.{Idle, BecomingDelayed, Delayed, Immediate}
use Rattle.dcsctp_spec_lemmas.specs.types.queues.Progress.{is_marked}
use Rattle.dcsctp_spec_lemmas.specs.spec.Packet.{Content, Plain, plain, unworked, Emission}
use Rattle.dcsctp_spec_lemmas.specs.spec.association.Choices.{plain_contents}
use Rattle.dcsctp_spec_lemmas.specs.spec.endpoint.BegunResets.{BegunReset, stream_field, begun_if_ready, begun_if_connected, request_contents, queue_requesting, retransmission_begun, streams_within}
use Rattle.dcsctp_spec_lemmas.specs.spec.endpoint.DataOutcomes.{AnswersTo, FlushTurn, flush_to_peer}
use Rattle.dcsctp_spec_lemmas.specs.spec.endpoint.Endpoint.{Endpoint, Core, closed, cookie_wait, cookie_echoed, open_in, held_by_core}
use Rattle.dcsctp_spec_lemmas.specs.spec.endpoint.Event.{Event, packets_of_events}
use Rattle.dcsctp_spec_lemmas.specs.spec.endpoint.FlushOutcomes.{Ask, first_ask, Answer, answer_contents, filled_draft, filling_event, goes_out, asked_outcome, draft_to, next_draft, flush_of, packets_allowed, allows_packet, room_of_draft, wants_sack, Acknowledges, GivesUpThenForwards, forward_made, ForwardsIfAbandoned, FillsIfAllowed, stage_of, may_be_asked, Gives, GivesUnlessIdle, IsAnswerOfQueues, IsFlushAnswer, AreFlushAnswers, at_limit, at_empty, after_packet}
use Rattle.dcsctp_spec_lemmas.specs.spec.endpoint.Outcome.{Outcome}
use Rattle.dcsctp_spec_lemmas.specs.spec.queues.Abandoning.{GivesUpFirst}
use Rattle.dcsctp_spec_lemmas.specs.spec.queues.Chunks.{AreChunksOfTsns, chunk_said}
use Rattle.dcsctp_spec_lemmas.specs.spec.queues.Filling.{Stage, StageSteps, none, more, FillsPacket}
use Rattle.dcsctp_spec_lemmas.specs.spec.queues.Items.{Item, item_size, marked_items, is_first_abandoned}
use Rattle.dcsctp_spec_lemmas.specs.spec.queues.NextItem.{IsNextMarked, is_abandonment_due, is_used_up, is_over}
use Rattle.dcsctp_spec_lemmas.specs.spec.queues.Outstanding.{OutstandingState, header, tsn_at}
use Rattle.dcsctp_spec_lemmas.specs.spec.queues.OwnResets.{ready_streams}
use Rattle.dcsctp_spec_lemmas.specs.spec.queues.Retransmission.{RetransmissionState, outstanding_count, can_send}
use Rattle.dcsctp_spec_lemmas.specs.spec.queues.SendQueue.{SendQueueState, has_queued_data}
use Rattle.dcsctp_spec_lemmas.specs.spec.queues.Sending.{Fragment}
use Rattle.dcsctp_spec_lemmas.specs.spec.queues.Tracker.{TrackerState, is_sack_due, owes_acknowledgement, is_acknowledgement_due}
use Rattle.dcsctp_spec_lemmas.specs.spec.queues.Transfer.{Transfer, EndpointQueues, is_idle, may_give}
use Rattle.dcsctp_theorem_transfer.specs.Deadlines.{IsOpen}
use Rattle.dcsctp_theorem_transfer.specs.Resending.{IsLasting, BeginWithTsn}
use Rattle.dcsctp_theorem_transfer.proofs.PacketEnds.{BeginsWith, out_first, allowed_some}
use Rattle.dcsctp_theorem_transfer.proofs.Resending.{some_marked, AddsFirst, resends_first}
use Rattle.dcsctp_theorem_transfer.proofs.Settling.{right_of, left_of}

-- ---- messages without a limit

not_due : (negotiated marked : Bool) (item : Item) (now : ℕ) → IsLasting item
    → (negotiated && marked && (is_used_up item.fragment.max_retransmissions item.progress.times_sent_again || is_over item.fragment.expires_at now)) ≡ false
not_due negotiated marked item now lasting =
    let used : is_used_up item.fragment.max_retransmissions item.progress.times_sent_again ≡ false = ap (λ (limit : Option ℕ). is_used_up limit item.progress.times_sent_again) lasting.unlimited in
    let over : is_over item.fragment.expires_at now ≡ false = ap (λ (moment : Option ℕ). is_over moment now) lasting.lifelong in
    rw (used, over) (go negotiated marked)
  where
    go : (a b : Bool) → (a && b && (false || false)) ≡ false
    go true true = refl
    go true false = refl
    go false true = refl
    go false false = refl

pub lasting_stays : (now : ℕ) (negotiated : Bool) (item : Item) → IsLasting item → is_abandonment_due now negotiated item ≡ false
lasting_stays now negotiated item lasting = not_due negotiated (is_marked item.progress.state) item now lasting

pub lasting_one : (items : List Item) (place : ℕ) (item : Item) → AllByRecursion IsLasting items → slice_get items place ≡ Some item → IsLasting item
lasting_one [] place item all at = absurd (cc)
lasting_one (x ∷ items) zero item all at = subst IsLasting (let same : x ≡ item = cc in same) all.0
lasting_one (x ∷ items) (suc place) item all at = lasting_one items place item all.1 at

first_lasts : (items : List Item) → AllByRecursion IsLasting items → is_first_abandoned items ≡ false
first_lasts [] all = refl
first_lasts (item ∷ items) all = all.0.stays

-- None is abandoned.
no_steps : (now : ℕ) (old new : Stage) → AllByRecursion IsLasting old.queue.outstanding.items → StageSteps (GivesUpFirst now) old new → new ≡ old
no_steps now old _ all none = refl
no_steps now old new all (more between _ steps last) =
    let same : between ≡ old = no_steps now old between all steps in
    let lasting : IsLasting last.is_due.item = lasting_one between.queue.outstanding.items last.place last.is_due.item (subst (λ (s : Stage). AllByRecursion IsLasting s.queue.outstanding.items) (sym same) all) last.is_due.at in
    absurd (let stays = lasting_stays now between.queue.partial_reliability last.is_due.item lasting in let both : true ≡ false = sym last.is_due.due ∙ stays in cc)

pub record NothingGivenUp (old new : Stage) (chunks : List Plain) : Type 0 where
  pub same : new ≡ old
  pub chunks_none : chunks ≡ []

forwards_none : (b : Bool) (now : ℕ) (t : Transfer) (room : ℕ) (state : RetransmissionState) (next : Option ℕ) (chunks : List Plain) → b ≡ false → ForwardsIfAbandoned b now t room state next chunks → chunks ≡ []
forwards_none false now t room state next chunks is does = does.1
forwards_none true now t room state next chunks is does = absurd (cc)

pub nothing_given_up : (b : Bool) (now : ℕ) (t : Transfer) (room : ℕ) (old new : Stage) (next : Option ℕ) (chunks : List Plain) → AllByRecursion IsLasting old.queue.outstanding.items
    → GivesUpThenForwards b now t room old new (forward_made next chunks) → NothingGivenUp old new chunks
nothing_given_up false now t room old new next chunks all does = record { same = does.0; chunks_none = does.2 }
nothing_given_up true now t room old new next chunks all does =
    let same : new ≡ old = no_steps now old new all does.0.steps in
    record {
      same = same;
      chunks_none = forwards_none (is_first_abandoned new.queue.outstanding.items) now t room new.queue next chunks
          (ap (λ (s : Stage). is_first_abandoned s.queue.outstanding.items) same ∙ first_lasts old.queue.outstanding.items all) does.1;
    }

-- ---- nothing else goes

wants_none : (state : AckState) (others : Bool) → is_sack_due state true ≡ false → (is_sack_due state false || (is_sack_due state true && others)) ≡ false
wants_none Idle others is = refl
wants_none BecomingDelayed others is = absurd (cc)
wants_none Delayed others is = absurd (cc)
wants_none Immediate others is = absurd (cc)

no_sacks : (b : Bool) (room : ℕ) (t : Transfer) (after : TrackerState) (chunks : List Plain) → b ≡ false → Acknowledges b room t after chunks → chunks ≡ []
no_sacks false room t after chunks is does = does.1
no_sacks true room t after chunks is does = absurd (cc)

none_begins : (follows : Bool) (outstanding : Option ℕ) (number last_tsn : ℕ) → begun_if_ready follows outstanding number last_tsn [] ≡ None
none_begins follows None number last_tsn = refl
none_begins follows (Some other) number last_tsn = refl

take_none : (n : ℕ) → take {A = ℕ} n [] ≡ []
take_none zero = refl
take_none (suc n) = refl

pub no_request : (follows : Bool) (peer : Option Held) (room last_tsn : ℕ) (queue : SendQueueState) → ready_streams queue ≡ [] → begun_if_connected follows peer room last_tsn queue ≡ None
no_request follows None room last_tsn queue ready = refl
no_request follows (Some held) room last_tsn queue ready =
    ap (λ (ids : List ℕ). begun_if_ready follows held.own_outstanding held.own_next last_tsn (map stream_field (take (streams_within room) ids))) ready
    ∙ ap (λ (ids : List ℕ). begun_if_ready follows held.own_outstanding held.own_next last_tsn (map stream_field ids)) (take_none (streams_within room))
    ∙ none_begins follows held.own_outstanding held.own_next last_tsn

-- ---- the packet

-- What a flush is asked for, with nothing but data to say.
pub record Asks (e : Endpoint) (t : Transfer) (place : ℕ) : Type 0 where
  pub settled : owes_acknowledgement t.tracker ≡ false
  pub resets : ready_streams e.queues.queue ≡ []
  pub lasting : AllByRecursion IsLasting t.retransmission.outstanding.items
  pub next : IsNextMarked place t.retransmission.outstanding.items
  pub may : can_send t.retransmission ≡ true
  pub fits : item_size (header t.retransmission.outstanding) next.marked.item ≤ packet_size_limit e.options - 12

-- The answer's chunks begin with the data of this TSN.
pub record DataFirst (tsn : ℕ) (contents : List Content) : Type 0 where
  pub is_interleaved : Bool
  pub fragment : Fragment
  pub more : List Content
  pub is : contents ≡ plain (unworked (chunk_said is_interleaved tsn fragment)) ∷ more

chunks_first : (outstanding : OutstandingState) (tsn : ℕ) (later : List ℕ) (chunks : List Plain) → AreChunksOfTsns outstanding (tsn ∷ later) chunks → DataFirst tsn (plain_contents chunks)
chunks_first outstanding tsn later [] are = absurd are
chunks_first outstanding tsn later (chunk ∷ chunks) are =
    record {
      is_interleaved = outstanding.is_interleaved;
      fragment = are.0.item.fragment;
      more = plain_contents chunks;
      is = ap (λ (c : Plain). plain c ∷ plain_contents chunks) are.0.says;
    }

-- without a SACK and without a request
contents_alone : (answer : Answer) → answer.acknowledgements ≡ [] → answer.begun ≡ None → answer_contents answer ≡ plain_contents answer.data_chunks
contents_alone answer none_said none_begun =
    ap (λ (l : List Plain). plain_contents l ++ (request_contents answer.begun ++ plain_contents answer.data_chunks)) none_said
    ∙ ap (λ (b : Option BegunReset). request_contents b ++ plain_contents answer.data_chunks) none_begun

pub gives_if : (b : Bool) (queue : SendQueueState) (state : RetransmissionState) → nat_lt 0 (marked_items state.outstanding.items) ≡ b → b ≡ true → may_give queue state ≡ true
gives_if b queue state is some = let first : nat_lt 0 (marked_items state.outstanding.items) ≡ true = is ∙ some in ap (λ (x : Bool). x || (has_queued_data queue && can_send state)) first

pub above_zero : (n : ℕ) → (n ≡ 0 → ⊥) → nat_lt 0 n ≡ true
above_zero zero some = absurd (some refl)
above_zero (suc n) some = grind (arith, nat_tests)

-- once it is known what the stage is
pub fills_first : (b : Bool) (now : ℕ) (old sent : Stage) (state : RetransmissionState) (place : ℕ) → b ≡ true → old.queue ≡ state → old.tsns ≡ []
    → (next : IsNextMarked place state.outstanding.items) → is_abandonment_due now state.partial_reliability next.marked.item ≡ false → can_send state ≡ true
    → item_size (header state.outstanding) next.marked.item ≤ old.room → FillsIfAllowed b now old sent → (later : List ℕ) × (sent.tsns ≡ tsn_at state.outstanding place ∷ later)
fills_first false now old sent state place allowed is none_yet next stays may fits does = absurd (cc)
fills_first true now old sent state place allowed is none_yet next stays may fits does =
    let went : AddsFirst (tsn_at state.outstanding place) (record old { queue = state }) sent =
    resends_first now (record old { queue = state }) place next stays fits may sent (subst (λ (q : RetransmissionState). FillsPacket now (record old { queue = q }) sent) is does) in
    (went.later, went.is ∙ ap (λ (l : List ℕ). l ++ (tsn_at state.outstanding place ∷ went.later)) none_yet)

pub empty_room : (e : Endpoint) (held : Held) → room_of_draft e (filled_draft (draft_to held) []) ≡ packet_size_limit e.options - 12
empty_room e held = omega arith

-- The answer is data alone, from this TSN on, which is outstanding then.
pub record SentAlone (tsn : ℕ) (answer : Answer) : Type 0 where
  pub left : Transfer
  pub has : answer.after.queues.transfer ≡ Some left
  pub later : List ℕ
  pub are : AreChunksOfTsns left.retransmission.outstanding (tsn ∷ later) answer.data_chunks
  pub alone : answer_contents answer ≡ plain_contents answer.data_chunks

pub sent_first : (tsn : ℕ) (answer : Answer) → SentAlone tsn answer → DataFirst tsn (answer_contents answer)
sent_first tsn answer sent =
    let first : DataFirst tsn (plain_contents answer.data_chunks) = chunks_first sent.left.retransmission.outstanding tsn sent.later answer.data_chunks sent.are in
    record { is_interleaved = first.is_interleaved; fragment = first.fragment; more = first.more; is = sent.alone ∙ first.is }

gave_alone : (e : Endpoint) (held : Held) (t : Transfer) (place : ℕ) (answer : Answer) → Asks e t place → Gives first_ask e (draft_to held) t answer
    → SentAlone (tsn_at t.retransmission.outstanding place) answer
gave_alone e held t place answer asks gave =
    let sacks : gave.sacks ≡ [] =
    no_sacks (wants_sack first_ask e.queues.queue t) (room_of_draft e (draft_to held)) t gave.tracker gave.sacks
    (wants_none t.tracker.acknowledgement (has_queued_data e.queues.queue || can_send t.retransmission) asks.settled) gave.acknowledges in
    let given : NothingGivenUp (stage_of e.queues.queue t.retransmission [] 0) gave.gave_up gave.forwards =
    nothing_given_up _ e.moment t _ (stage_of e.queues.queue t.retransmission [] 0) gave.gave_up gave.next gave.forwards asks.lasting gave.gives_up in
    let acknowledgements : answer.acknowledgements ≡ [] = gave.parts ∙ ap (λ (l : List Plain). l ++ gave.forwards) sacks ∙ given.chunks_none in
    let waiting : ready_streams gave.gave_up.waiting ≡ [] = ap (λ (s : Stage). ready_streams s.waiting) given.same ∙ asks.resets in
    let begun : answer.begun ≡ None =
    gave.begins ∙ no_request e.options.follow_rfc (may_be_asked e.core e.options.follow_rfc) _ _ gave.gave_up.waiting waiting in
    let room : room_of_draft e (filled_draft (draft_to held) (plain_contents answer.acknowledgements ++ request_contents answer.begun)) ≡ packet_size_limit e.options - 12 =
    ap (λ (l : List Plain). room_of_draft e (filled_draft (draft_to held) (plain_contents l ++ request_contents answer.begun))) acknowledgements
    ∙ ap (λ (b : Option BegunReset). room_of_draft e (filled_draft (draft_to held) (request_contents b))) begun ∙ empty_room e held in
    let queue : retransmission_begun answer.begun gave.gave_up.queue ≡ t.retransmission =
    ap (λ (b : Option BegunReset). retransmission_begun b gave.gave_up.queue) begun ∙ ap (λ (s : Stage). s.queue) given.same in
    let left : SendQueueState = queue_requesting (streams_within (room_of_draft e (filled_draft (draft_to held) (plain_contents answer.acknowledgements)))) answer.begun gave.gave_up.waiting in
    let some : nat_lt 0 (marked_items t.retransmission.outstanding.items) ≡ true = above_zero (marked_items t.retransmission.outstanding.items) (some_marked place t.retransmission.outstanding.items asks.next.marked) in
    let gives : may_give left (retransmission_begun answer.begun gave.gave_up.queue) ≡ true =
    gives_if true left (retransmission_begun answer.begun gave.gave_up.queue) (ap (λ (q : RetransmissionState). nat_lt 0 (marked_items q.outstanding.items)) queue ∙ some) refl in
    let went = fills_first (may_give left (retransmission_begun answer.begun gave.gave_up.queue)) e.moment
    (stage_of left (retransmission_begun answer.begun gave.gave_up.queue) gave.gave_up.told
    (room_of_draft e (filled_draft (draft_to held) (plain_contents answer.acknowledgements ++ request_contents answer.begun))))
    gave.sent t.retransmission place gives queue refl asks.next
    (lasting_stays e.moment t.retransmission.partial_reliability asks.next.marked.item (lasting_one t.retransmission.outstanding.items place asks.next.marked.item asks.lasting asks.next.marked.at)) asks.may
    (subst (λ (n : ℕ). item_size (header t.retransmission.outstanding) asks.next.marked.item ≤ n) (sym room) asks.fits) gave.fills in
    record {
      left = record t { retransmission = gave.sent.queue; tracker = gave.tracker };
      has = ap (λ (q : EndpointQueues). q.transfer) gave.below;
      later = went.0;
      are = subst (λ (l : List ℕ). AreChunksOfTsns gave.sent.queue.outstanding l answer.data_chunks) went.1 gave.chunks;
      alone = contents_alone answer acknowledgements begun;
    }

pub not_idle : (queue : SendQueueState) (t : Transfer) (place : ℕ) → IsNextMarked place t.retransmission.outstanding.items → is_idle queue t ≡ true → ⊥
not_idle queue t place next idle =
    let none_there : (outstanding_count t.retransmission == 0) ≡ true = right_of _ (outstanding_count t.retransmission == 0) (left_of _ (not (owes_acknowledgement t.tracker)) (left_of _ (not (is_acknowledgement_due t.tracker)) idle)) in
    let within : place < length t.retransmission.outstanding.items = next.marked.within in
    grind (arith, nat_tests, none_there, within)

pub answer_alone : (e : Endpoint) (held : Held) (t : Transfer) (place : ℕ) (answer : Answer) (found : Option Transfer) → found ≡ Some t → Asks e t place → IsAnswerOfQueues first_ask e (draft_to held) answer found
    → SentAlone (tsn_at t.retransmission.outstanding place) answer
answer_alone e held t place answer None has asks is = absurd (cc)
answer_alone e held t place answer (Some other) has asks is =
    go (is_idle e.queues.queue t) refl (subst (λ (x : Transfer). GivesUnlessIdle (is_idle e.queues.queue x) first_ask e (draft_to held) x answer) (let same : other ≡ t = cc in same) is)
  where
    go : (b : Bool) → is_idle e.queues.queue t ≡ b → GivesUnlessIdle b first_ask e (draft_to held) t answer → SentAlone (tsn_at t.retransmission.outstanding place) answer
    go true idle same = absurd (not_idle e.queues.queue t place asks.next idle)
    go false idle gave = gave_alone e held t place answer asks gave

answer_first : (e : Endpoint) (held : Held) (t : Transfer) (place : ℕ) (answer : Answer) (found : Option Transfer) → found ≡ Some t → Asks e t place → IsAnswerOfQueues first_ask e (draft_to held) answer found
    → DataFirst (tsn_at t.retransmission.outstanding place) (answer_contents answer)
answer_first e held t place answer found has asks is = sent_first (tsn_at t.retransmission.outstanding place) answer (answer_alone e held t place answer found has asks is)

asked_with : (e : Endpoint) (held : Held) (answer : Answer) (tsn : ℕ) (rest : List (Event Emission)) → DataFirst tsn (answer_contents answer)
    → BeginWithTsn tsn (packets_of_events ((asked_outcome e (draft_to held) answer).events ++ rest))
asked_with e held answer tsn rest first =
    let content : Content = plain (unworked (chunk_said first.is_interleaved tsn first.fragment)) in
    let begins : BeginsWith content (packets_of_events ((asked_outcome e (draft_to held) answer).events ++ rest)) =
    subst (λ (cs : List Content). BeginsWith content (packets_of_events ((goes_out answer.after (map filling_event answer.told) (draft_to held).with_checksum held.peer.tag cs).events ++ rest))) (sym first.is)
    (out_first answer.after answer.told (draft_to held).with_checksum held.peer.tag content first.more rest) in
    record { first = begins.first; others = begins.others; are = begins.are; is_interleaved = first.is_interleaved; fragment = first.fragment; more = begins.more; contents = begins.contents }

flush_with : (ask : Ask) (n count : ℕ) (e : Endpoint) (draft : Emission) (answers : List Answer) (held : Held) (t : Transfer) (place : ℕ) → ask ≡ first_ask → n ≡ suc count → draft ≡ draft_to held
    → e.queues.transfer ≡ Some t → Asks e t place → AreFlushAnswers ask n e draft answers
    → BeginWithTsn (tsn_at t.retransmission.outstanding place) (packets_of_events (flush_of e draft answers).events)
flush_with _ _ count _ _ _ held t place first some is has asks (at_limit ask e draft) = absurd (omega (arith, some))
flush_with _ _ count _ _ _ held t place first some is has asks (at_empty ask before e draft answer given empty) =
    let answered : IsFlushAnswer first_ask e (draft_to held) answer = subst (λ (d : Emission). IsFlushAnswer first_ask e d answer) is (subst (λ (a : Ask). IsFlushAnswer a e draft answer) first given) in
    subst (λ (d : Emission). BeginWithTsn (tsn_at t.retransmission.outstanding place) (packets_of_events (flush_of e d (answer ∷ [])).events)) (sym is)
    (asked_with e held answer (tsn_at t.retransmission.outstanding place) [] (answer_first e held t place answer e.queues.transfer has asks answered.by_transfer))
flush_with _ _ count _ _ _ held t place first some is has asks (after_packet ask before e draft answer answers given sends rest) =
    let answered : IsFlushAnswer first_ask e (draft_to held) answer = subst (λ (d : Emission). IsFlushAnswer first_ask e d answer) is (subst (λ (a : Ask). IsFlushAnswer a e draft answer) first given) in
    subst (λ (d : Emission). BeginWithTsn (tsn_at t.retransmission.outstanding place) (packets_of_events (flush_of e d (answer ∷ answers)).events)) (sym is)
    (asked_with e held answer (tsn_at t.retransmission.outstanding place) (flush_of (asked_outcome e (draft_to held) answer).after (next_draft e.core (draft_to held)) answers).events
    (answer_first e held t place answer e.queues.transfer has asks answered.by_transfer))

by_peer : (e : Endpoint) (peer : Option Held) (answers : List Answer) (t : Transfer) (place : ℕ) → held_by_core e.core ≡ peer → IsOpen e.core → allows_packet e.options.max_burst ≡ true → e.queues.transfer ≡ Some t
    → Asks e t place → AnswersTo e peer answers → BeginWithTsn (tsn_at t.retransmission.outstanding place) (packets_of_events (flush_to_peer e peer answers).events)
by_peer e None answers t place known is allows has asks allowed = absurd (no_peer e.core known is)
  where
    no_peer : (core : Core) → held_by_core core ≡ None → IsOpen core → ⊥
    no_peer closed nobody is = is
    no_peer (cookie_wait my) nobody is = is
    no_peer (cookie_echoed my held cookie) nobody is = is
    no_peer (open_in phase my held) nobody is = absurd (cc)
by_peer e (Some held) answers t place known is allows has asks allowed =
    let some = allowed_some e.options.max_burst e.core allows in
    flush_with first_ask (packets_allowed e.options.max_burst e.core) some.0 e (draft_to held) answers held t place refl some.1 refl has asks allowed

pub flush_sends : (e : Endpoint) (o : Outcome) (t : Transfer) (place : ℕ) → FlushTurn e o → IsOpen e.core → allows_packet e.options.max_burst ≡ true → e.queues.transfer ≡ Some t → Asks e t place
    → BeginWithTsn (tsn_at t.retransmission.outstanding place) (packets_of_events o.events)
flush_sends e o t place turn is allows has asks =
    subst (λ (x : Outcome). BeginWithTsn (tsn_at t.retransmission.outstanding place) (packets_of_events x.events)) (sym turn.2) (by_peer e (held_by_core e.core) turn.0 t place refl is allows has asks turn.1)
