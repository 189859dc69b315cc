-- A flush leaves numbers that fit their fields, and sends what is read as itself, whatever its answers.
use Rattle.std.proofs.Common.{◌≡◌, ℕ, ◌<◌, ◌^◌, Bool, true, false, Option, None, Some, List, [], ◌∷◌, ◌++◌, map, length, refl, sym, subst, arith}
use Rattle.std.specs.Prelude.{nat_le, if◌then◌else◌}
use Rattle.std.specs.List.{AllByRecursion}
use Rattle.dcsctp_spec_lemmas.specs.wire.Content.{data_chunk, i_data_chunk, forward_tsn_chunk, i_forward_tsn_chunk}
use Rattle.dcsctp_spec_lemmas.specs.wire.Spelling.{chunk_bytes}
use Rattle.dcsctp_spec_lemmas.specs.types.declared.association.Held.{Held}
use Rattle.dcsctp_spec_lemmas.specs.types.declared.word.Word.{Word}
use Rattle.dcsctp_spec_lemmas.specs.types.Settings.{IsValid, FitsOptions}
use Rattle.dcsctp_spec_lemmas.specs.spec.endpoint.Event.{Event, sent}
use Rattle.dcsctp_spec_lemmas.specs.spec.Packet.{Plain, unworked, plain, plain_out, Content, Emission, content_of_chunk}
use Rattle.dcsctp_spec_lemmas.specs.spec.queues.Transfer.{Transfer, advertised_window, is_idle}
use Rattle.dcsctp_spec_lemmas.specs.spec.queues.Tracker.{TrackerState}
use Rattle.dcsctp_spec_runs.proofs.TrackerLemmas.{sack_fits}
use Rattle.dcsctp_spec_lemmas.specs.spec.endpoint.Endpoint.{Endpoint, Core, closed, cookie_wait, cookie_echoed, open_in}
use Rattle.dcsctp_spec_lemmas.specs.spec.endpoint.Outcome.{Outcome, still, answering, behind}
use Rattle.dcsctp_spec_runs.specs.Deadlines.{T1Runs}
use Rattle.dcsctp_spec_lemmas.specs.spec.association.Choices.{plain_contents}
use Rattle.dcsctp_spec_lemmas.specs.spec.endpoint.FlushOutcomes.{may_be_asked, may_forward, own_sack, FillingEvent, amount_is_low, total_amount_is_low, message_is_sent, message_may_have_expired, message_has_expired, message_ends, filling_event, Answer, answer_contents, filled_draft, goes_out, asked_outcome, draft_to, next_draft, flush_of, Ask, first_ask, later_ask, where_fits, wants_sack, room_of_draft, Acknowledges, FitsPlain, nothing_waits, Gives, GivesUnlessIdle, IsAnswerOfQueues, IsFlushAnswer, AreFlushAnswers, at_limit, at_empty, after_packet, packets_allowed, FlushAnswers, flush_answered}
use Rattle.dcsctp_spec_runs.specs.Fitting.{AllSent, FitsHeld, FitsCore, FitsEndpoint, IsSendable, Sendable, SendablePacket, TurnFits}
use Rattle.dcsctp_spec_runs.proofs.KindLemmas.{IsData, IsForward, chunks_are_data, forwards_are_forwards}
use Rattle.dcsctp_spec_lemmas.proofs.FlushKeeps.{Keeps, asked_keeps, begun_by, flush_keeps}
use Rattle.dcsctp_theorem_sockets.proofs.Sent.{all_sent_append}
use Rattle.dcsctp_spec_lemmas.specs.spec.endpoint.BegunResets.{BegunReset, last_assigned_tsn, request_contents}
use Rattle.dcsctp_theorem_sockets.proofs.BegunSends.{asked_fits, begun_fits, begun_runs, begun_sends}

-- ---- what stays

-- where the options and T1 stay, and the association but for a request, all fits that did
pub kept_fits : (begun : Option BegunReset) (e : Endpoint) (o : Outcome) → Keeps begun e o → FitsEndpoint e → FitsEndpoint o.after
kept_fits begun e o keeps h =
    record {
      valid = subst IsValid (sym keeps.options) h.valid;
      options = subst FitsOptions (sym keeps.options) h.options;
      core = subst FitsCore (sym keeps.core) (begun_fits begun e h.core);
      t1 = subst (T1Runs o.after.core) (sym keeps.t1) (subst (λ (core : Core). T1Runs core e.timers.t1) (sym keeps.core) (begun_runs begun e h.t1));
    }

pub still_fits : (e : Endpoint) → FitsEndpoint e → TurnFits (still e)
still_fits e h = record { after = h; sends = tt }

pub answering_fits : (o : Outcome) → TurnFits o → TurnFits (answering o)
answering_fits o h = record { after = record { valid = h.after.valid; options = h.after.options; core = h.after.core; t1 = h.after.t1 }; sends = h.sends }

-- ---- the chunks of an answer

pub both_sendable : (first second : List Content) → AllByRecursion Sendable first → AllByRecursion Sendable second → AllByRecursion Sendable (first ++ second)
both_sendable [] second none each = each
both_sendable (content ∷ first) second some each = (some.0, both_sendable first second some.1 each)

data_reads : (interleaving : Bool) (chunk : Plain) → IsData interleaving chunk → content_of_chunk (plain_out chunk) ≡ plain chunk
data_reads false (unworked (data_chunk chunk)) is = refl
data_reads true (unworked (i_data_chunk chunk)) is = refl
data_reads interleaving chunk is = absurd is

forward_reads : (interleaving : Bool) (chunk : Plain) → IsForward interleaving chunk → content_of_chunk (plain_out chunk) ≡ plain chunk
forward_reads false (unworked (forward_tsn_chunk tsn streams)) is = refl
forward_reads true (unworked (i_forward_tsn_chunk tsn streams)) is = refl
forward_reads interleaving chunk is = absurd is

-- chunks of a kind that is read as itself
kind_sendable : (Kind : Plain → Type 0) → ((chunk : Plain) → Kind chunk → content_of_chunk (plain_out chunk) ≡ plain chunk) → (chunks : List Plain)
    → AllByRecursion Kind chunks → AllByRecursion FitsPlain chunks → AllByRecursion Sendable (plain_contents chunks)
kind_sendable Kind reads [] kind fit = tt
kind_sendable Kind reads (chunk ∷ chunks) kind fit =
    (record { fits = fit.0; reads = reads chunk kind.0; said = tt }, kind_sendable Kind reads chunks kind.1 fit.1)

pub data_sendable : (interleaving : Bool) (chunks : List Plain) → AllByRecursion (IsData interleaving) chunks → AllByRecursion FitsPlain chunks
    → AllByRecursion Sendable (plain_contents chunks)
data_sendable interleaving chunks kind fit = kind_sendable (IsData interleaving) (data_reads interleaving) chunks kind fit

forwards_sendable : (interleaving : Bool) (chunks : List Plain) → AllByRecursion (IsForward interleaving) chunks → AllByRecursion FitsPlain chunks
    → AllByRecursion Sendable (plain_contents chunks)
forwards_sendable interleaving chunks kind fit = kind_sendable (IsForward interleaving) (forward_reads interleaving) chunks kind fit

-- one chunk, where it is taken
one_sendable : (taken : Bool) (chunk : Plain) → Sendable (plain chunk) → AllByRecursion Sendable (plain_contents (if taken then chunk ∷ [] else []))
one_sendable true chunk good = (good, tt)
one_sendable false chunk good = tt

pub where_fits_sendable : (room : ℕ) (chunk : Plain) → Sendable (plain chunk) → AllByRecursion Sendable (plain_contents (where_fits room chunk))
where_fits_sendable room chunk good = one_sendable (nat_le (length (chunk_bytes (plain_out chunk))) room) chunk good

pub own_sack_sendable : (room : ℕ) (transfer : Transfer) → Sendable (plain (own_sack room transfer))
own_sack_sendable room transfer = record { fits = sack_fits room transfer.tracker (advertised_window transfer); reads = refl; said = tt }

sacks_sendable : (wants : Bool) (room : ℕ) (transfer : Transfer) (after : TrackerState) (chunks : List Plain) → Acknowledges wants room transfer after chunks
    → AllByRecursion Sendable (plain_contents chunks)
sacks_sendable false room transfer after chunks h = subst (λ (cs : List Plain). AllByRecursion Sendable (plain_contents cs)) (sym h.1) tt
sacks_sendable true room transfer after chunks h =
    subst (λ (cs : List Plain). AllByRecursion Sendable (plain_contents cs)) (sym h.1)
    (where_fits_sendable room (own_sack room transfer) (own_sack_sendable room transfer))

-- chunks, and others after them
plain_sendable : (first second : List Plain) → AllByRecursion Sendable (plain_contents first) → AllByRecursion Sendable (plain_contents second)
    → AllByRecursion Sendable (plain_contents (first ++ second))
plain_sendable [] second none each = each
plain_sendable (chunk ∷ first) second some each = (some.0, plain_sendable first second some.1 each)

abbrev AnswerSends : Answer → Type 0
AnswerSends answer = AllByRecursion Sendable (answer_contents answer)

given_sends : (ask : Ask) (e : Endpoint) (draft : Emission) (transfer : Transfer) (answer : Answer) → FitsEndpoint e → Gives ask e draft transfer answer → AnswerSends answer
given_sends ask e draft transfer answer own h =
    let sacks : AllByRecursion Sendable (plain_contents h.sacks) =
    sacks_sendable (wants_sack ask e.queues.queue transfer) (room_of_draft e draft) transfer h.tracker h.sacks h.acknowledges in
    let forwards : AllByRecursion Sendable (plain_contents h.forwards) =
    forwards_sendable h.gave_up.queue.outstanding.is_interleaved h.forwards
    (forwards_are_forwards (may_forward ask e transfer.retransmission) e.moment transfer _ _ h.gave_up h.next h.forwards h.gives_up) h.forwards_fit in
    let room : ℕ = room_of_draft e (filled_draft draft (plain_contents answer.acknowledgements)) in
    let small : room < 2 ^ 16 = omega (arith, own.valid.greatest_size) in
    let request : AllByRecursion Sendable (request_contents answer.begun) =
    subst (λ (b : Option BegunReset). AllByRecursion Sendable (request_contents b)) (sym h.begins)
    (begun_sends ask e.options.follow_rfc (may_be_asked e.core e.options.follow_rfc) room (last_assigned_tsn h.gave_up.queue) h.gave_up.waiting
    (asked_fits e.core e.options.follow_rfc own.core) (omega arith) small) in
    both_sendable (plain_contents answer.acknowledgements) (request_contents answer.begun ++ plain_contents answer.data_chunks)
    (subst (λ (cs : List Plain). AllByRecursion Sendable (plain_contents cs)) (sym h.parts) (plain_sendable h.sacks h.forwards sacks forwards))
    (both_sendable (request_contents answer.begun) (plain_contents answer.data_chunks) request
    (data_sendable h.sent.queue.outstanding.is_interleaved answer.data_chunks (chunks_are_data h.sent.queue.outstanding h.sent.tsns answer.data_chunks h.chunks) h.data_fit))

nothing_sends : (e : Endpoint) (answer : Answer) → answer ≡ nothing_waits e → AnswerSends answer
nothing_sends e answer is = subst AnswerSends (sym is) tt

where_sends : (idle : Bool) (ask : Ask) (e : Endpoint) (draft : Emission) (transfer : Transfer) (answer : Answer) → FitsEndpoint e → GivesUnlessIdle idle ask e draft transfer answer → AnswerSends answer
where_sends true ask e draft transfer answer own h = nothing_sends e answer h
where_sends false ask e draft transfer answer own h = given_sends ask e draft transfer answer own h

below_sends : (ask : Ask) (e : Endpoint) (draft : Emission) (answer : Answer) (transfer : Option Transfer) → FitsEndpoint e → IsAnswerOfQueues ask e draft answer transfer → AnswerSends answer
below_sends ask e draft answer None own h = nothing_sends e answer h
below_sends ask e draft answer (Some transfer) own h = where_sends (is_idle e.queues.queue transfer) ask e draft transfer answer own h

-- ---- its packets

pub told_sends : (told : List FillingEvent) → AllSent IsSendable (map filling_event told)
told_sends [] = tt
told_sends (amount_is_low stream ∷ told) = (tt, told_sends told)
told_sends (total_amount_is_low ∷ told) = (tt, told_sends told)
told_sends (message_is_sent id ∷ told) = (tt, told_sends told)
told_sends (message_may_have_expired id ∷ told) = (tt, told_sends told)
told_sends (message_has_expired id ∷ told) = (tt, told_sends told)
told_sends (message_ends id ∷ told) = (tt, told_sends told)

pub goes_out_sends : (e : Endpoint) (told : List (Event Emission)) (with_checksum : Bool) (tag : ℕ) (contents : List Content) → AllSent IsSendable told → tag < 2 ^ 32
    → AllByRecursion Sendable contents → AllSent IsSendable (goes_out e told with_checksum tag contents).events
goes_out_sends e told with_checksum tag [] before tag_fits each = before
goes_out_sends e told with_checksum tag (content ∷ contents) before tag_fits each =
    all_sent_append IsSendable told (sent (record { with_checksum = with_checksum; packet = record { tag = tag; contents = content ∷ contents } }) ∷ []) before
    (record { tag = tag_fits; contents = each }, tt)

asked_sends : (ask : Ask) (e : Endpoint) (draft : Emission) (answer : Answer) → FitsEndpoint e → IsFlushAnswer ask e draft answer → IsSendable draft → AllSent IsSendable (asked_outcome e draft answer).events
asked_sends ask e draft answer own h good =
    goes_out_sends answer.after (map filling_event answer.told) draft.with_checksum draft.packet.tag (filled_draft draft (answer_contents answer)).packet.contents (told_sends answer.told) good.tag
    (both_sendable draft.packet.contents (answer_contents answer) good.contents (below_sends ask e draft answer e.queues.transfer own h.by_transfer))

pub draft_sendable : (held : Held) → FitsHeld held → IsSendable (draft_to held)
draft_sendable held fits = record { tag = fits.peer.tag; contents = tt }

next_sendable : (core : Core) (draft : Emission) → FitsCore core → IsSendable draft → IsSendable (next_draft core draft)
next_sendable closed draft own good = record { tag = good.tag; contents = tt }
next_sendable (cookie_wait my) draft own good = record { tag = good.tag; contents = tt }
next_sendable (cookie_echoed my held cookie) draft own good = draft_sendable held own.1
next_sendable (open_in phase my held) draft own good = draft_sendable held own.1

flush_sends : (ask : Ask) (n : ℕ) (e : Endpoint) (draft : Emission) (answers : List Answer) → AreFlushAnswers ask n e draft answers → FitsEndpoint e → IsSendable draft
    → AllSent IsSendable (flush_of e draft answers).events
flush_sends _ _ _ _ _ (at_limit ask e draft) h good = tt
flush_sends _ _ _ _ _ (at_empty ask more e draft answer is empty) h good = all_sent_append IsSendable (asked_outcome e draft answer).events [] (asked_sends ask e draft answer h is good) tt
flush_sends _ _ _ _ _ (after_packet ask more e draft answer answers is some rest) h good =
    let after : Endpoint = (asked_outcome e draft answer).after in
    let next : Emission = next_draft e.core draft in
    all_sent_append IsSendable (asked_outcome e draft answer).events (flush_of after next answers).events (asked_sends ask e draft answer h is good)
    (flush_sends later_ask more after next answers rest (kept_fits answer.begun e (asked_outcome e draft answer) (asked_keeps ask e draft answer is) h) (next_sendable e.core draft h.core good))

-- ---- the flush

pub flush_fits : (e : Endpoint) (draft : Emission) (answers : List Answer) → FlushAnswers e draft answers → FitsEndpoint e → IsSendable draft → TurnFits (flush_of e draft answers)
flush_fits e draft answers allowed h good =
    let n : ℕ = packets_allowed e.options.max_burst e.core in
    record {
      after = kept_fits (begun_by answers) e (flush_of e draft answers) (flush_keeps first_ask n e draft answers allowed) h;
      sends = flush_sends first_ask n e draft answers allowed h good;
    }

pub behind_fits : (words : List Word) (events : List (Event Emission)) (o : Outcome) → AllSent IsSendable events → TurnFits o → TurnFits (behind words events o)
behind_fits words events o before h = record { after = h.after; sends = all_sent_append IsSendable events o.events before h.sends }

-- a flush after these words and events, with these chunks in its first packet
pub flushed_fits : (e : Endpoint) (words : List Word) (events : List (Event Emission)) (with_checksum : Bool) (tag : ℕ) (contents : List Content) (answers : List Answer)
    → FlushAnswers e (record { with_checksum = with_checksum; packet = record { tag = tag; contents = contents } }) answers → FitsEndpoint e → AllSent IsSendable events
    → SendablePacket (record { tag = tag; contents = contents }) → TurnFits (flush_answered answers e words events with_checksum tag contents)
flushed_fits e words events with_checksum tag contents answers allowed h before good =
    let draft : Emission = record { with_checksum = with_checksum; packet = record { tag = tag; contents = contents } } in
    behind_fits words events (flush_of e draft answers) before (flush_fits e draft answers allowed h good)
