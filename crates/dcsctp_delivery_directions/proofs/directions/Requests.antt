-- Each request to reset streams that was sent is one that was begun.
use Rattle.std.proofs.Common.{◌≡◌, ℕ, List, [], ◌∷◌, ◌++◌, map, refl, sym, ◌∙◌, ap, subst, inl, inr}
use Rattle.std.specs.Prelude.{Bool, Option, None, Some}
use Rattle.std.proofs.lemmas.List.{append-nil}
use Rattle.dcsctp_spec.specs.types.declared.options.Options.{Options}
use Rattle.dcsctp_spec.specs.endpoint.Endpoint.{Endpoint, Core, closed as closed_core, cookie_wait, cookie_echoed, open_in}
use Rattle.dcsctp_spec.specs.endpoint.Event.{Event, sent, packets_of_events}
use Rattle.dcsctp_spec.specs.Packet.{Plain, plain, Content, init, init_ack, cookie_echo, cookie_ack, re_config, abort, shutdown, shutdown_ack, shutdown_complete, Emission}
use Rattle.dcsctp_spec.specs.Reconfiguration.{ResetParameter, renewed_reset}
use Rattle.dcsctp_spec.specs.association.Choices.{plain_contents}
use Rattle.dcsctp_spec.specs.endpoint.BegunResets.{BegunReset, request_contents}
use Rattle.dcsctp_spec.specs.endpoint.FlushOutcomes.{FillingEvent, amount_is_low, total_amount_is_low, message_is_sent, message_may_have_expired, message_has_expired, message_ends, filling_event, Answer, answer_contents, filled_draft, goes_out, asked_outcome, next_draft, flush_of, Ask, first_ask, later_ask, AreFlushAnswers, at_limit, at_empty, after_packet, packets_allowed}
use Rattle.dcsctp_delivery_directions.specs.sending.Places.{HasEntry}
use Rattle.dcsctp_delivery_directions.specs.sending.Flushes.{NoContent, NoData, begun_reset_of}
use Rattle.dcsctp_delivery_directions.proofs.sending.PausedFlushes.{later_begun}
use Rattle.dcsctp_delivery_directions.specs.directions.Directions.{Asking, asking_with, Direction, DirectionStep, queues, sets, prepares, commits, rolls_back, resends, resends_nothing, speaks, asks_again, renews, turns_aside, tracks, defers, flushes, acknowledges, loses, receives, forwards, receives_interleaved, forwards_interleaved, performs, performs_earlier, resets, takes, DirectionRun, begins, goes_on, starts}
use Rattle.dcsctp_delivery_directions.specs.directions.Requests.{IsOfBegun}

-- ---- the packets among events

pub packets_apart : (events others : List (Event Emission)) → packets_of_events (events ++ others) ≡ packets_of_events events ++ packets_of_events others
packets_apart [] others = refl
packets_apart (sent emission ∷ events) others = ap (λ (l : List Emission). emission ∷ l) (packets_apart events others)
packets_apart (event ∷ events) others = packets_apart events others

-- The events in `told` are no packets.
pub told_then : (told : List FillingEvent) (others : List (Event Emission)) → packets_of_events (map filling_event told ++ others) ≡ packets_of_events others
told_then [] others = refl
told_then (amount_is_low stream ∷ told) others = told_then told others
told_then (total_amount_is_low ∷ told) others = told_then told others
told_then (message_is_sent id ∷ told) others = told_then told others
told_then (message_may_have_expired id ∷ told) others = told_then told others
told_then (message_has_expired id ∷ told) others = told_then told others
told_then (message_ends id ∷ told) others = told_then told others

pub told_alone : (told : List FillingEvent) → packets_of_events (map filling_event told) ≡ []
told_alone told = ap packets_of_events (sym (append-nil (map filling_event told))) ∙ told_then told []

-- ---- what packets hold

-- Each of these chunks is so,
abbrev pub AreOfBegun : List BegunReset → List Content → Type 0
AreOfBegun requests [] = Unit {0}
AreOfBegun requests (content ∷ contents) = IsOfBegun requests content × AreOfBegun requests contents

-- and each in these packets.
abbrev pub SentOfBegun : List BegunReset → List Emission → Type 0
SentOfBegun requests [] = Unit {0}
SentOfBegun requests (emission ∷ emissions) = AreOfBegun requests emission.packet.contents × SentOfBegun requests emissions

-- The request that was begun, if one was, is one of these.
abbrev IsAmong : Option BegunReset → List BegunReset → Type 0
IsAmong None requests = Unit {0}
IsAmong (Some begun) requests = HasEntry begun requests

module _ (requests : List BegunReset) where
  of_both : (contents others : List Content) → AreOfBegun requests contents → AreOfBegun requests others → AreOfBegun requests (contents ++ others)
  of_both [] others are are' = are'
  of_both (c ∷ contents) others are are' = (are.0, of_both contents others are.1 are')

  sent_both : (emissions others : List Emission) → SentOfBegun requests emissions → SentOfBegun requests others → SentOfBegun requests (emissions ++ others)
  sent_both [] others are are' = are'
  sent_both (p ∷ emissions) others are are' = (are.0, sent_both emissions others are.1 are')

  free_content : (content : Content) → NoContent content → IsOfBegun requests content
  free_content (plain chunk) free = tt
  free_content (init a) free = tt
  free_content (init_ack a b) free = tt
  free_content (cookie_echo a) free = tt
  free_content cookie_ack free = tt
  free_content (re_config a) free = inl free
  free_content (abort a b) free = tt
  free_content (shutdown a) free = tt
  free_content shutdown_ack free = tt
  free_content (shutdown_complete a) free = tt

  of_none : (contents : List Content) → NoData contents → AreOfBegun requests contents
  of_none [] free = tt
  of_none (c ∷ contents) free = (free_content c free.0, of_none contents free.1)

  of_plain : (chunks : List Plain) → AreOfBegun requests (plain_contents chunks)
  of_plain [] = tt
  of_plain (c ∷ chunks) = (tt, of_plain chunks)

  of_request : (begun : Option BegunReset) → IsAmong begun requests → AreOfBegun requests (request_contents begun)
  of_request None among = tt
  of_request (Some begun) among = (inr (begun, among, refl), tt)

  -- ---- a flush

  of_answer : (answer : Answer) → IsAmong answer.begun requests → AreOfBegun requests (answer_contents answer)
  of_answer answer among =
      of_both (plain_contents answer.acknowledgements) (request_contents answer.begun ++ plain_contents answer.data_chunks) (of_plain answer.acknowledgements)
      (of_both (request_contents answer.begun) (plain_contents answer.data_chunks) (of_request answer.begun among) (of_plain answer.data_chunks))

  out_of_begun : (e : Endpoint) (told : List FillingEvent) (with_checksum : Bool) (tag : ℕ) (contents : List Content) → AreOfBegun requests contents
      → SentOfBegun requests (packets_of_events (goes_out e (map filling_event told) with_checksum tag contents).events)
  out_of_begun e told with_checksum tag [] are = subst (SentOfBegun requests) (sym (told_alone told)) tt
  out_of_begun e told with_checksum tag (c ∷ contents) are =
      subst (SentOfBegun requests) (sym (told_then told (sent (record { with_checksum = with_checksum; packet = record { tag = tag; contents = c ∷ contents } }) ∷ []))) (are, tt)

  asked_of_begun : (e : Endpoint) (draft : Emission) (answer : Answer) → IsAmong answer.begun requests → AreOfBegun requests draft.packet.contents → SentOfBegun requests (packets_of_events (asked_outcome e draft answer).events)
  asked_of_begun e draft answer among are =
      out_of_begun answer.after answer.told draft.with_checksum draft.packet.tag (filled_draft draft (answer_contents answer)).packet.contents
      (of_both draft.packet.contents (answer_contents answer) are (of_answer answer among))

  next_of_begun : (core : Core) (draft : Emission) → AreOfBegun requests (next_draft core draft).packet.contents
  next_of_begun closed_core draft = tt
  next_of_begun (cookie_wait my) draft = tt
  next_of_begun (cookie_echoed my held cookie) draft = tt
  next_of_begun (open_in phase my held) draft = tt

  flush_of_begun : (ask : Ask) (n : ℕ) (e : Endpoint) (draft : Emission) (answers : List Answer) → AreFlushAnswers ask n e draft answers → IsAmong (begun_reset_of answers) requests → AreOfBegun requests draft.packet.contents
      → SentOfBegun requests (packets_of_events (flush_of e draft answers).events)
  flush_of_begun _ _ _ _ _ (at_limit ask e draft) among are = tt
  flush_of_begun _ _ _ _ _ (at_empty ask more e draft answer is empty) among are =
      subst (SentOfBegun requests) (sym (packets_apart (asked_outcome e draft answer).events []))
      (sent_both (packets_of_events (asked_outcome e draft answer).events) [] (asked_of_begun e draft answer among are) tt)
  flush_of_begun _ _ _ _ _ (after_packet ask more e draft answer answers is some rest) among are =
      let between : Endpoint = (asked_outcome e draft answer).after in
      let next : Emission = next_draft e.core draft in
      let later : IsAmong (begun_reset_of answers) requests = subst (λ (b : Option BegunReset). IsAmong b requests) (sym (later_begun more between next answers rest)) tt in
      subst (SentOfBegun requests) (sym (packets_apart (asked_outcome e draft answer).events (flush_of between next answers).events))
      (sent_both (packets_of_events (asked_outcome e draft answer).events) (packets_of_events (flush_of between next answers).events) (asked_of_begun e draft answer among are)
      (flush_of_begun later_ask more between next answers rest later (next_of_begun e.core draft)))

-- ---- once more were begun

content_later : (begun : BegunReset) (requests : List BegunReset) (content : Content) → IsOfBegun requests content → IsOfBegun (begun ∷ requests) content
content_later begun requests (plain chunk) is = tt
content_later begun requests (init a) is = tt
content_later begun requests (init_ack a b) is = tt
content_later begun requests (cookie_echo a) is = tt
content_later begun requests cookie_ack is = tt
content_later begun requests (re_config a) (inl free) = inl free
content_later begun requests (re_config a) (inr of) = inr (of.0, inr of.1, of.2)
content_later begun requests (abort a b) is = tt
content_later begun requests (shutdown a) is = tt
content_later begun requests shutdown_ack is = tt
content_later begun requests (shutdown_complete a) is = tt

contents_later : (begun : BegunReset) (requests : List BegunReset) (contents : List Content) → AreOfBegun requests contents → AreOfBegun (begun ∷ requests) contents
contents_later begun requests [] are = tt
contents_later begun requests (c ∷ contents) are = (content_later begun requests c are.0, contents_later begun requests contents are.1)

packets_later : (begun : BegunReset) (requests : List BegunReset) (emissions : List Emission) → SentOfBegun requests emissions → SentOfBegun (begun ∷ requests) emissions
packets_later begun requests [] are = tt
packets_later begun requests (p ∷ emissions) are = (contents_later begun requests p.packet.contents are.0, packets_later begun requests emissions are.1)

asked_later : (begun : Option BegunReset) (asking : Asking) (emissions : List Emission) → SentOfBegun asking.requests emissions → SentOfBegun (asking_with begun asking).requests emissions
asked_later None asking emissions are = are
asked_later (Some begun) asking emissions are = packets_later begun asking.requests emissions are

asked_among : (begun : Option BegunReset) (asking : Asking) → IsAmong begun (asking_with begun asking).requests
asked_among None asking = tt
asked_among (Some begun) asking = inl refl

-- ---- a run

abbrev OfBegun : Direction → Type 0
OfBegun direction = SentOfBegun direction.asking.requests direction.sent

one_more : (requests : List BegunReset) (emissions : List Emission) (emission : Emission) → SentOfBegun requests emissions → AreOfBegun requests emission.packet.contents → SentOfBegun requests (emissions ++ emission ∷ [])
one_more requests emissions emission are one = sent_both requests emissions (emission ∷ []) are (one, tt)

stepped : (old new : Direction) → OfBegun old → DirectionStep old new → OfBegun new
stepped old _ h (queues now sending fits some) = h
stepped old _ h (sets setting fits) = h
stepped old _ h (prepares ids fit kept) = h
stepped old _ h (commits go_on) = h
stepped old _ h (rolls_back unmixed) = h
stepped old _ h (flushes e draft answers same no_data allowed) =
    let asking : Asking = asking_with (begun_reset_of answers) old.asking in
    sent_both asking.requests old.sent (packets_of_events (flush_of e draft answers).events) (asked_later (begun_reset_of answers) old.asking old.sent h)
    (flush_of_begun asking.requests first_ask (packets_allowed e.options.max_burst e.core) e draft answers allowed (asked_among (begun_reset_of answers) old.asking) (of_none asking.requests draft.packet.contents no_data))
stepped old _ h (resends now room transfer left tsns chunks emission known sends are contents) =
    one_more old.asking.requests old.sent emission h (subst (AreOfBegun old.asking.requests) (sym contents) (of_plain old.asking.requests chunks))
stepped old _ h (resends_nothing now room transfer left tsns known sends) = h
stepped old _ h (speaks emission no_data) = one_more old.asking.requests old.sent emission h (of_none old.asking.requests emission.packet.contents no_data)
stepped old _ h (asks_again emission begun was contents) =
    one_more old.asking.requests old.sent emission h (subst (AreOfBegun old.asking.requests) (sym contents) (inr (begun, was, refl), tt))
stepped old _ h (renews emission newest earlier number asks out contents) =
    let begun : BegunReset = record { number = number; reset = renewed_reset newest.reset } in
    let requests : List BegunReset = begun ∷ old.asking.requests in
    one_more requests old.sent emission (packets_later begun old.asking.requests old.sent h) (subst (AreOfBegun requests) (sym contents) (inr (begun, inl refl, refl), tt))
stepped old _ h (turns_aside transfer new known same) = h
stepped old _ h (acknowledges now sack transfer new known valid reached does) = h
stepped old _ h (loses now transfer known) = h
stepped old _ h (receives emission chunk theirs new was holds some same same' does) = h
stepped old _ h (forwards emission tsn streams theirs new was holds same same' does) = h
stepped old _ h (receives_interleaved emission chunk theirs new was holds some same same' does) = h
stepped old _ h (forwards_interleaved emission tsn streams theirs new was holds same same' does) = h
stepped old _ h (tracks new cumulative ranges) = h
stepped old _ h (defers last_tsn streams some) = h
stepped old _ h (performs newest earlier new asks unknown reached own leaves) = h
stepped old _ h (resets streams new unmixed some leaves) = h
stepped old _ h (performs_earlier newest earlier new asks unknown reached own leaves) = h
stepped old _ h (takes message messages is) = h

pub all_of_begun : (options : Options) (first size : ℕ) (direction : Direction) → DirectionRun options first size direction → SentOfBegun direction.asking.requests direction.sent
all_of_begun options first size _ (begins direction b) = subst (SentOfBegun direction.asking.requests) (sym b.sent) tt
all_of_begun options first size _ (goes_on old direction run step) = stepped old direction (all_of_begun options first size old run) step
all_of_begun options first size _ (starts old queued below beginning run awaited fit waits none numbered) = all_of_begun options first size old run

-- ---- one of them

among_contents : (requests : List BegunReset) (content : Content) (contents : List Content) → AreOfBegun requests contents → HasEntry content contents → IsOfBegun requests content
among_contents requests content [] are has = absurd has
among_contents requests content (c ∷ contents) are (inl is) = subst (IsOfBegun requests) (sym is) are.0
among_contents requests content (c ∷ contents) are (inr has) = among_contents requests content contents are.1 has

among_packets : (requests : List BegunReset) (emission : Emission) (emissions : List Emission) → SentOfBegun requests emissions → HasEntry emission emissions → AreOfBegun requests emission.packet.contents
among_packets requests emission [] are has = absurd has
among_packets requests emission (p ∷ emissions) are (inl is) = subst (λ (q : Emission). AreOfBegun requests q.packet.contents) (sym is) are.0
among_packets requests emission (p ∷ emissions) are (inr has) = among_packets requests emission emissions are.1 has

pub requests_were_begun : (options : Options) (first size : ℕ) (direction : Direction) → DirectionRun options first size direction
    → (emission : Emission) (parameters : List ResetParameter) → HasEntry emission direction.sent → HasEntry (re_config parameters) emission.packet.contents
    → IsOfBegun direction.asking.requests (re_config parameters)
requests_were_begun options first size direction run emission parameters was has =
    among_contents direction.asking.requests (re_config parameters) emission.packet.contents
    (among_packets direction.asking.requests emission direction.sent (all_of_begun options first size direction run) was) has
