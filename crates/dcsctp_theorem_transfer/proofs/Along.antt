-- A flush after the expiry of T3 whose first packet may begin with a SACK: data goes behind the SACK, or into the packet after it.
use Rattle.std.proofs.Common.{◌≡◌, ◌≤◌, ◌<◌, ◌-◌, ◌⊎◌, ℕ, nat_le, nat_lt, Bool, true, false, if◌then◌else◌, Option, None, Some, List, [], ◌∷◌, ◌++◌, length, inl, inr, append-nil, refl, sym, ap, ◌∙◌, subst, arith}
use Rattle.std.proofs.lemmas.Bool.Decides.{nat_tests}
use Rattle.std.specs.List.{AllByRecursion}
use Rattle.dcsctp_spec_lemmas.specs.types.Settings.{packet_size_limit}
use Rattle.dcsctp_spec_lemmas.specs.types.declared.association.Held.{Held}
use Rattle.dcsctp_spec_lemmas.specs.wire.Content.{SackContent, sack_chunk}
use Rattle.dcsctp_spec_lemmas.specs.wire.Spelling.{chunk_bytes}
use Rattle.dcsctp_spec_lemmas.specs.spec.Packet.{Content, Plain, plain_out, unworked}
use Rattle.dcsctp_spec_lemmas.specs.spec.association.Choices.{plain_contents}
use Rattle.dcsctp_spec_lemmas.specs.spec.endpoint.BegunResets.{BegunReset, request_contents, queue_requesting, retransmission_begun, streams_within}
use Rattle.dcsctp_spec_lemmas.specs.spec.endpoint.Endpoint.{Endpoint}
use Rattle.dcsctp_spec_lemmas.specs.spec.endpoint.FlushOutcomes.{Ask, first_ask, later_ask, Answer, answer_contents, filled_draft, draft_to, room_of_draft, begun_by_ask, own_sack, Acknowledges, FillsIfAllowed, stage_of, may_be_asked, Gives}
use Rattle.dcsctp_spec_lemmas.specs.spec.queues.Chunks.{AreChunksOfTsns}
use Rattle.dcsctp_spec_lemmas.specs.spec.queues.Filling.{Stage, StepAgain, StepNew, resent_packet_counted, FillsPacket}
use Rattle.dcsctp_spec_lemmas.specs.spec.queues.Items.{Item, item_size, marked_items}
use Rattle.dcsctp_spec_lemmas.specs.spec.queues.NextItem.{IsNextMarked, is_abandonment_due}
use Rattle.dcsctp_spec_lemmas.specs.spec.queues.Outstanding.{OutstandingState, header, tsn_at}
use Rattle.dcsctp_spec_lemmas.specs.spec.queues.OwnResets.{ready_streams}
use Rattle.dcsctp_spec_lemmas.specs.spec.queues.Retransmission.{RetransmissionState, can_send}
use Rattle.dcsctp_spec_lemmas.specs.spec.queues.SendQueue.{SendQueueState}
use Rattle.dcsctp_spec_lemmas.specs.spec.queues.Tracker.{TrackerState}
use Rattle.dcsctp_spec_lemmas.specs.spec.queues.Transfer.{Transfer, EndpointQueues, may_give}
use Rattle.dcsctp_theorem_transfer.specs.Resending.{IsLasting}
use Rattle.dcsctp_theorem_transfer.proofs.Resending.{one_place, same_item, some_marked, FirstStep, no_step, one_step, first_step, Alike, counted_alike}
use Rattle.dcsctp_theorem_transfer.proofs.ResendingFlush.{lasting_stays, lasting_one, NothingGivenUp, nothing_given_up, no_request, gives_if, above_zero, fills_first}

-- ---- where the first item that waits doesn't fit

-- Nothing goes.
record GoesNot (old new : Stage) : Type 0 where
  tsns : new.tsns ≡ old.tsns
  outstanding : new.queue.outstanding ≡ old.queue.outstanding
  sends : can_send new.queue ≡ can_send old.queue

waits_first : (now : ℕ) (old new : Stage) (place : ℕ) (next : IsNextMarked place old.queue.outstanding.items) → is_abandonment_due now old.queue.partial_reliability next.marked.item ≡ false
    → old.room < item_size (header old.queue.outstanding) next.marked.item → FillsPacket now old new → GoesNot old new
waits_first now old new place next stays longer does = by_again (first_step (StepAgain now) old does.fills.resent does.fills.again)
  where
    alike : Alike does.fills.resent.queue (resent_packet_counted old.room does.fills.resent).queue
    alike = counted_alike (old.room - does.fills.resent.room) does.fills.resent.queue

    by_anew : does.fills.resent ≡ old → FirstStep (StepNew now) (resent_packet_counted old.room does.fills.resent) does.sent → GoesNot old new
    by_anew same (one_step mid step rest) =
        absurd (some_marked place old.queue.outstanding.items next.marked
        (subst (λ (s : Stage). marked_items s.queue.outstanding.items ≡ 0) same (subst (λ (o : OutstandingState). marked_items o.items ≡ 0) alike.outstanding step.0.none_marked)))
    by_anew same (no_step still) =
        record {
          tsns = ap (λ (s : Stage). s.tsns) does.is ∙ ap (λ (s : Stage). s.tsns) still ∙ ap (λ (s : Stage). s.tsns) same;
          outstanding = ap (λ (s : Stage). s.queue.outstanding) does.is ∙ ap (λ (s : Stage). s.queue.outstanding) still ∙ alike.outstanding ∙ ap (λ (s : Stage). s.queue.outstanding) same;
          sends = ap (λ (s : Stage). can_send s.queue) does.is ∙ ap (λ (s : Stage). can_send s.queue) still ∙ alike.sends ∙ ap (λ (s : Stage). can_send s.queue) same;
        }

    by_again : FirstStep (StepAgain now) old does.fills.resent → GoesNot old new
    by_again (no_step same) = by_anew same (first_step (StepNew now) (resent_packet_counted old.room does.fills.resent) does.sent does.fills.anew)
    by_again (one_step mid (inl sends) rest) =
        let item : sends.1.next.marked.item ≡ next.marked.item =
        same_item sends.1.place place old.queue.outstanding.items sends.1.next.marked.item next.marked.item (one_place sends.1.place place old.queue.outstanding.items sends.1.next next) sends.1.next.marked.at next.marked.at in
        let size : item_size (header old.queue.outstanding) sends.1.next.marked.item ≡ item_size (header old.queue.outstanding) next.marked.item = ap (item_size (header old.queue.outstanding)) item in
        let fits = sends.1.fits in
        absurd (omega (arith, size, fits, longer))
    by_again (one_step mid (inr up) rest) =
        let item : up.next.marked.item ≡ next.marked.item =
        same_item up.place place old.queue.outstanding.items up.next.marked.item next.marked.item (one_place up.place place old.queue.outstanding.items up.next next) up.next.marked.at next.marked.at in
        let due : is_abandonment_due now old.queue.partial_reliability next.marked.item ≡ true =
        subst (λ (x : Item). is_abandonment_due now old.queue.partial_reliability x ≡ true) item up.due in
        absurd (let both : true ≡ false = sym due ∙ stays in cc)

-- once it is known what the stage is
waits_by : (b : Bool) (now : ℕ) (old sent : Stage) (state : RetransmissionState) (place : ℕ) → b ≡ true → old.queue ≡ state → (next : IsNextMarked place state.outstanding.items)
    → is_abandonment_due now state.partial_reliability next.marked.item ≡ false → old.room < item_size (header state.outstanding) next.marked.item → FillsIfAllowed b now old sent
    → GoesNot (record old { queue = state }) sent
waits_by false now old sent state place allowed is next stays longer does = absurd (cc)
waits_by true now old sent state place allowed is next stays longer does =
    waits_first now (record old { queue = state }) sent place next stays longer (subst (λ (q : RetransmissionState). FillsPacket now (record old { queue = q }) sent) is does)

-- ---- an answer

-- At most a SACK.
pub data AreSacks : List Plain → Type 0 where
  no_sack : AreSacks []
  one_sack : (sack : SackContent) → AreSacks (unworked (sack_chunk sack) ∷ [])

sacks_where : (b : Bool) (room : ℕ) (t : Transfer) → AreSacks (if b then own_sack room t ∷ [] else [])
sacks_where true room t = one_sack _
sacks_where false room t = no_sack

pub gave_sacks : (b : Bool) (room : ℕ) (t : Transfer) (after : TrackerState) (chunks : List Plain) → Acknowledges b room t after chunks → AreSacks chunks
gave_sacks false room t after chunks does = subst AreSacks (sym does.1) no_sack
gave_sacks true room t after chunks does = subst AreSacks (sym does.1) (sacks_where (nat_le (length (chunk_bytes (plain_out (own_sack room t)))) room) room t)

-- No stream waits to be reset, where that would go along.
abbrev pub IsQuiet : Ask → SendQueueState → Type 0
IsQuiet first_ask queue = ready_streams queue ≡ []
IsQuiet later_ask queue = Unit {0}

begun_none : (ask : Ask) (follows : Bool) (peer : Option Held) (room last_tsn : ℕ) (queue : SendQueueState) → IsQuiet ask queue → begun_by_ask ask follows peer room last_tsn queue ≡ None
begun_none first_ask follows peer room last_tsn queue quiet = no_request follows peer room last_tsn queue quiet
begun_none later_ask follows peer room last_tsn queue quiet = refl

-- What a flush is asked for, with nothing but data and a SACK to say.
pub record AsksAlong (ask : Ask) (e : Endpoint) (t : Transfer) (place : ℕ) : Type 0 where
  pub quiet : IsQuiet ask e.queues.queue
  pub lasting : AllByRecursion IsLasting t.retransmission.outstanding.items
  pub next : IsNextMarked place t.retransmission.outstanding.items
  pub may : can_send t.retransmission ≡ true
  pub fits : item_size (header t.retransmission.outstanding) next.marked.item ≤ packet_size_limit e.options - 12

-- The answer has these chunks of acknowledgement, and then data alone, from this TSN on.
pub record SentAlong (tsn : ℕ) (sacks : List Plain) (answer : Answer) : Type 0 where
  pub left : Transfer
  pub has : answer.after.queues.transfer ≡ Some left
  pub later : List ℕ
  pub are : AreChunksOfTsns left.retransmission.outstanding (tsn ∷ later) answer.data_chunks
  pub contents : answer_contents answer ≡ plain_contents sacks ++ plain_contents answer.data_chunks

-- It has no data, and the same is outstanding and waits.
pub record SentNone (t : Transfer) (sacks : List Plain) (answer : Answer) : Type 0 where
  pub left : Transfer
  pub has : answer.after.queues.transfer ≡ Some left
  pub outstanding : left.retransmission.outstanding ≡ t.retransmission.outstanding
  pub sends : can_send left.retransmission ≡ can_send t.retransmission
  pub contents : answer_contents answer ≡ plain_contents sacks

-- room behind those
abbrev pub room_behind : Endpoint → Held → List Plain → ℕ
room_behind e held sacks = room_of_draft e (filled_draft (draft_to held) (plain_contents sacks))

no_chunks : (outstanding : OutstandingState) (tsns : List ℕ) (chunks : List Plain) → tsns ≡ [] → AreChunksOfTsns outstanding tsns chunks → chunks ≡ []
no_chunks outstanding [] [] is are = refl
no_chunks outstanding [] (chunk ∷ chunks) is are = absurd are
no_chunks outstanding (tsn ∷ tsns) chunks is are = absurd (cc)

pub gave_along : (ask : Ask) (e : Endpoint) (held : Held) (t : Transfer) (place : ℕ) (answer : Answer) → AsksAlong ask e t place → (gave : Gives ask e (draft_to held) t answer)
    → SentAlong (tsn_at t.retransmission.outstanding place) gave.sacks answer ⊎ (SentNone t gave.sacks answer × (room_behind e held gave.sacks < packet_size_limit e.options - 12))
gave_along ask e held t place answer asks gave =
    by_room (nat_le (item_size (header t.retransmission.outstanding) asks.next.marked.item) (room_behind e held gave.sacks)) refl
  where
    given : NothingGivenUp (stage_of e.queues.queue t.retransmission [] 0) gave.gave_up gave.forwards
    given = nothing_given_up _ e.moment t _ (stage_of e.queues.queue t.retransmission [] 0) gave.gave_up gave.next gave.forwards asks.lasting gave.gives_up

    begun : answer.begun ≡ None
    begun =
        gave.begins
        ∙ begun_none ask e.options.follow_rfc (may_be_asked e.core e.options.follow_rfc) _ _ gave.gave_up.waiting (subst (IsQuiet ask) (sym (ap (λ (s : Stage). s.waiting) given.same)) asks.quiet)

    acknowledgements : answer.acknowledgements ≡ gave.sacks
    acknowledgements = gave.parts ∙ ap (λ (l : List Plain). gave.sacks ++ l) given.chunks_none ∙ append-nil gave.sacks

    stage_room : ℕ
    stage_room = room_of_draft e (filled_draft (draft_to held) (plain_contents answer.acknowledgements ++ request_contents answer.begun))

    room : stage_room ≡ room_behind e held gave.sacks
    room =
        ap (λ (l : List Plain). room_of_draft e (filled_draft (draft_to held) (plain_contents l ++ request_contents answer.begun))) acknowledgements
        ∙ ap (λ (b : Option BegunReset). room_of_draft e (filled_draft (draft_to held) (plain_contents gave.sacks ++ request_contents b))) begun
        ∙ ap (λ (l : List Content). room_of_draft e (filled_draft (draft_to held) l)) (append-nil (plain_contents gave.sacks))

    queue : retransmission_begun answer.begun gave.gave_up.queue ≡ t.retransmission
    queue = ap (λ (b : Option BegunReset). retransmission_begun b gave.gave_up.queue) begun ∙ ap (λ (s : Stage). s.queue) given.same

    left : SendQueueState
    left = queue_requesting (streams_within (room_of_draft e (filled_draft (draft_to held) (plain_contents answer.acknowledgements)))) answer.begun gave.gave_up.waiting

    gives : may_give left (retransmission_begun answer.begun gave.gave_up.queue) ≡ true
    gives =
        gives_if true left (retransmission_begun answer.begun gave.gave_up.queue)
        (ap (λ (q : RetransmissionState). nat_lt 0 (marked_items q.outstanding.items)) queue
        ∙ above_zero (marked_items t.retransmission.outstanding.items) (some_marked place t.retransmission.outstanding.items asks.next.marked)) refl

    stays : is_abandonment_due e.moment t.retransmission.partial_reliability asks.next.marked.item ≡ false
    stays =
        lasting_stays e.moment t.retransmission.partial_reliability asks.next.marked.item (lasting_one t.retransmission.outstanding.items place asks.next.marked.item asks.lasting asks.next.marked.at)

    contents : answer_contents answer ≡ plain_contents gave.sacks ++ plain_contents answer.data_chunks
    contents =
        ap (λ (l : List Plain). plain_contents l ++ (request_contents answer.begun ++ plain_contents answer.data_chunks)) acknowledgements
        ∙ ap (λ (b : Option BegunReset). plain_contents gave.sacks ++ (request_contents b ++ plain_contents answer.data_chunks)) begun

    before : Stage
    before = stage_of left (retransmission_begun answer.begun gave.gave_up.queue) gave.gave_up.told stage_room

    by_room : (fits : Bool) → nat_le (item_size (header t.retransmission.outstanding) asks.next.marked.item) (room_behind e held gave.sacks) ≡ fits
        → SentAlong (tsn_at t.retransmission.outstanding place) gave.sacks answer ⊎ (SentNone t gave.sacks answer × (room_behind e held gave.sacks < packet_size_limit e.options - 12))
    by_room true is =
        let fits : item_size (header t.retransmission.outstanding) asks.next.marked.item ≤ stage_room = (let same = room in grind (arith, nat_tests, is, same)) in
        let went = fills_first (may_give left (retransmission_begun answer.begun gave.gave_up.queue)) e.moment before gave.sent t.retransmission place gives queue refl asks.next stays asks.may fits gave.fills in
        inl (record {
          left = record t { retransmission = gave.sent.queue; tracker = gave.tracker };
          has = ap (λ (q : EndpointQueues). q.transfer) gave.below;
          later = went.0;
          are = subst (λ (l : List ℕ). AreChunksOfTsns gave.sent.queue.outstanding l answer.data_chunks) went.1 gave.chunks;
          contents = contents;
        })
    by_room false is =
        let longer : stage_room < item_size (header t.retransmission.outstanding) asks.next.marked.item = (let same = room in grind (arith, nat_tests, is, same)) in
        let goes : GoesNot (record before { queue = t.retransmission }) gave.sent =
        waits_by (may_give left (retransmission_begun answer.begun gave.gave_up.queue)) e.moment before gave.sent t.retransmission place gives queue asks.next stays longer gave.fills in
        let none_sent : answer.data_chunks ≡ [] = no_chunks gave.sent.queue.outstanding gave.sent.tsns answer.data_chunks goes.tsns gave.chunks in
        let fits = asks.fits in
        let same = room in
        inr (
          record {
            left = record t { retransmission = gave.sent.queue; tracker = gave.tracker };
            has = ap (λ (q : EndpointQueues). q.transfer) gave.below;
            outstanding = goes.outstanding;
            sends = goes.sends;
            contents = contents ∙ ap (λ (l : List Plain). plain_contents gave.sacks ++ plain_contents l) none_sent ∙ append-nil (plain_contents gave.sacks);
          },
          omega (arith, longer, fits, same),
        )
