-- No fewer requests to reset streams were sent than were begun.
use Rattle.std.proofs.Common.{◌≡◌, ℕ, ◌≤◌, ◌+◌, List, [], ◌∷◌, ◌++◌, length, map, refl, sym, ◌∙◌, ap, arith, subst, inl, inr}
use Rattle.std.specs.Prelude.{Bool, Option, None, Some}
use Rattle.dcsctp_spec.specs.types.declared.options.Options.{Options}
use Rattle.dcsctp_spec.specs.endpoint.Endpoint.{Endpoint}
use Rattle.dcsctp_spec.specs.endpoint.Event.{Event, sent, packets_of_events}
use Rattle.dcsctp_spec.specs.Packet.{plain, Content, init, init_ack, cookie_echo, cookie_ack, re_config, abort, shutdown, shutdown_ack, shutdown_complete, Emission}
use Rattle.dcsctp_spec.specs.Reconfiguration.{ResetParameter, outgoing_reset_request, incoming_reset_request, reconfiguration_response, other_reset_parameter}
use Rattle.dcsctp_spec.specs.association.Choices.{plain_contents}
use Rattle.dcsctp_spec.specs.endpoint.BegunResets.{BegunReset, request_contents}
use Rattle.dcsctp_spec.specs.endpoint.FlushOutcomes.{FillingEvent, filling_event, Answer, answer_contents, filled_draft, goes_out, asked_outcome, next_draft, flush_of}
use Rattle.dcsctp_delivery_directions.specs.sending.Flushes.{NoRequests, NoContent, NoData, begun_reset_of}
use Rattle.dcsctp_delivery_directions.specs.directions.Directions.{Asking, nothing_asked, asking_with, all_ended, Direction, DirectionStep, queues, sets, prepares, commits, rolls_back, resends, resends_nothing, speaks, asks_again, renews, turns_aside, tracks, defers, flushes, acknowledges, loses, receives, forwards, receives_interleaved, forwards_interleaved, performs, performs_earlier, resets, takes, DirectionRun, begins, goes_on, starts}
use Rattle.dcsctp_delivery_directions.specs.directions.Requests.{IsOfBegun, one_if_asked, is_request, requests_among, requests_among_packets, requests_to}
use Rattle.dcsctp_delivery_directions.proofs.directions.Requests.{packets_apart, told_then, told_alone, AreOfBegun, SentOfBegun, all_of_begun}

-- ---- lists

pub requests_among_more : (contents more : List Content) → requests_among (contents ++ more) ≡ requests_among contents + requests_among more
requests_among_more [] more = omega arith
requests_among_more (c ∷ contents) more = (let rest = requests_among_more contents more in omega (arith, rest))

pub requests_more : (packets more : List Emission) → requests_among_packets (packets ++ more) ≡ requests_among_packets packets + requests_among_packets more
requests_more [] more = omega arith
requests_more (p ∷ packets) more = (let rest = requests_more packets more in omega (arith, rest))

pub requests_more_to : (tag : ℕ) (packets more : List Emission) → requests_to tag (packets ++ more) ≡ requests_to tag packets + requests_to tag more
requests_more_to tag [] more = omega arith
requests_more_to tag (p ∷ packets) more = (let rest = requests_more_to tag packets more in omega (arith, rest))

-- ---- chunks without a request

none_asked : (parameters : List ResetParameter) → NoRequests parameters → one_if_asked parameters ≡ 0
none_asked [] nothing = refl
none_asked (outgoing_reset_request number answered reset ∷ parameters) nothing = absurd nothing
none_asked (incoming_reset_request number streams ∷ parameters) nothing = absurd nothing
none_asked (reconfiguration_response number result ∷ parameters) nothing = none_asked parameters nothing
none_asked (other_reset_parameter parameter ∷ parameters) nothing = none_asked parameters nothing

no_request : (content : Content) → NoContent content → is_request content ≡ 0
no_request (plain chunk) nothing = refl
no_request (init a) nothing = refl
no_request (init_ack a b) nothing = refl
no_request (cookie_echo a) nothing = refl
no_request cookie_ack nothing = refl
no_request (re_config a) nothing = none_asked a nothing
no_request (abort a b) nothing = refl
no_request (shutdown a) nothing = refl
no_request shutdown_ack nothing = refl
no_request (shutdown_complete a) nothing = refl

pub no_data_requests : (contents : List Content) → NoData contents → requests_among contents ≡ 0
no_data_requests [] nothing = refl
no_data_requests (content ∷ contents) free = (let one = no_request content free.0 in let rest = no_data_requests contents free.1 in omega (arith, one, rest))

-- ---- a flush

-- how many it begins
abbrev begun_count : Option BegunReset → ℕ
begun_count None = 0
begun_count (Some begun) = 1

request_counts : (begun : Option BegunReset) → requests_among (request_contents begun) ≡ begun_count begun
request_counts None = refl
request_counts (Some begun) = refl

asking_counts : (begun : Option BegunReset) (asking : Asking) → length (asking_with begun asking).requests ≡ begun_count begun + length asking.requests
asking_counts None asking = omega arith
asking_counts (Some begun) asking = omega arith

out_counts : (e : Endpoint) (told : List FillingEvent) (with_checksum : Bool) (tag : ℕ) (contents : List Content) → requests_among_packets (packets_of_events (goes_out e (map filling_event told) with_checksum tag contents).events) ≡ requests_among contents
out_counts e told with_checksum tag [] = ap requests_among_packets (told_alone told)
out_counts e told with_checksum tag (c ∷ contents) =
    let emission : Emission = record { with_checksum = with_checksum; packet = record { tag = tag; contents = c ∷ contents } } in
    ap requests_among_packets (told_then told (sent emission ∷ [])) ∙ omega arith

asked_counts : (e : Endpoint) (draft : Emission) (answer : Answer) → begun_count answer.begun ≤ requests_among_packets (packets_of_events (asked_outcome e draft answer).events)
asked_counts e draft answer =
    let counted : requests_among_packets (packets_of_events (asked_outcome e draft answer).events) ≡ requests_among (filled_draft draft (answer_contents answer)).packet.contents =
    out_counts answer.after answer.told draft.with_checksum draft.packet.tag (filled_draft draft (answer_contents answer)).packet.contents in
    let parts = requests_among_more draft.packet.contents (answer_contents answer) in
    let parts' = requests_among_more (plain_contents answer.acknowledgements) (request_contents answer.begun ++ plain_contents answer.data_chunks) in
    let parts'' = requests_among_more (request_contents answer.begun) (plain_contents answer.data_chunks) in
    let one = request_counts answer.begun in
    omega (arith, counted, parts, parts', parts'', one)

flush_counts : (e : Endpoint) (draft : Emission) (answers : List Answer) → begun_count (begun_reset_of answers) ≤ requests_among_packets (packets_of_events (flush_of e draft answers).events)
flush_counts e draft [] = omega arith
flush_counts e draft (answer ∷ answers) =
    let one = asked_counts e draft answer in
    let others : List (Event Emission) = (flush_of (asked_outcome e draft answer).after (next_draft e.core draft) answers).events in
    let apart : requests_among_packets (packets_of_events (flush_of e draft (answer ∷ answers)).events) ≡ requests_among_packets (packets_of_events (asked_outcome e draft answer).events ++ packets_of_events others) =
    ap requests_among_packets (packets_apart (asked_outcome e draft answer).events others) in
    let both = requests_more (packets_of_events (asked_outcome e draft answer).events) (packets_of_events others) in
    omega (arith, one, apart, both)

-- ---- a run

abbrev AreSent : Direction → Type 0
AreSent direction = length direction.asking.requests ≤ requests_among_packets direction.sent

one_more : (old : Direction) (emission : Emission) → AreSent old → length old.asking.requests ≤ requests_among_packets (old.sent ++ emission ∷ [])
one_more old emission h = (let more = requests_more old.sent (emission ∷ []) in omega (arith, more, h))

stepped : (old new : Direction) → AreSent old → DirectionStep old new → AreSent new
stepped old _ h (queues now sending fits some) = h
stepped old _ h (sets setting fits) = h
stepped old _ h (prepares ids fit kept) = h
stepped old _ h (commits go_on) = h
stepped old _ h (rolls_back unmixed) = h
stepped old _ h (flushes e draft answers same no_data allowed) =
    let more = requests_more old.sent (packets_of_events (flush_of e draft answers).events) in
    let begun = flush_counts e draft answers in
    let asks = asking_counts (begun_reset_of answers) old.asking in
    omega (arith, more, begun, asks, h)
stepped old _ h (resends now room transfer left tsns chunks emission known sends are contents) = one_more old emission h
stepped old _ h (resends_nothing now room transfer left tsns known sends) = h
stepped old _ h (speaks emission no_data) = one_more old emission h
stepped old _ h (asks_again emission begun was contents) = one_more old emission h
stepped old _ h (renews emission newest earlier number asks out contents) =
    let more = requests_more old.sent (emission ∷ []) in
    let one : requests_among emission.packet.contents ≡ 1 = ap requests_among contents in
    omega (arith, more, one, h)
stepped old _ h (turns_aside transfer new known same) = h
stepped old _ h (acknowledges now sack transfer new known valid reached does) = h
stepped old _ h (loses now transfer known) = h
stepped old _ h (receives emission chunk theirs new was holds some same same' does) = h
stepped old _ h (forwards emission tsn streams theirs new was holds same same' does) = h
stepped old _ h (receives_interleaved emission chunk theirs new was holds some same same' does) = h
stepped old _ h (forwards_interleaved emission tsn streams theirs new was holds same same' does) = h
stepped old _ h (tracks new cumulative ranges) = h
stepped old _ h (defers last_tsn streams some) = h
stepped old _ h (performs newest earlier new asks unknown reached own leaves) = h
stepped old _ h (resets streams new unmixed some leaves) = h
stepped old _ h (performs_earlier newest earlier new asks unknown reached own leaves) = h
stepped old _ h (takes message messages is) = h

pub requests_are_sent : (options : Options) (first size : ℕ) (direction : Direction) → DirectionRun options first size direction → length direction.asking.requests ≤ requests_among_packets direction.sent
requests_are_sent options first size _ (begins direction b) =
    (let asked_outcome : length direction.asking.requests ≡ 0 = ap (λ (a : Asking). length a.requests) b.asking in omega (arith, asked_outcome))
requests_are_sent options first size _ (goes_on old direction run step) = stepped old direction (requests_are_sent options first size old run) step
requests_are_sent options first size _ (starts old queued below beginning run awaited fit waits none numbered) = requests_are_sent options first size old run

-- ---- none was begun

none_begun : (content : Content) → IsOfBegun [] content → is_request content ≡ 0
none_begun (re_config parameters) (inl nothing) = none_asked parameters nothing
none_begun (re_config parameters) (inr (begun, has, same)) = absurd has
none_begun (plain chunk) is = refl
none_begun (init a) is = refl
none_begun (init_ack a b) is = refl
none_begun (cookie_echo a) is = refl
none_begun cookie_ack is = refl
none_begun (abort a b) is = refl
none_begun (shutdown a) is = refl
none_begun shutdown_ack is = refl
none_begun (shutdown_complete a) is = refl

none_among : (contents : List Content) → AreOfBegun [] contents → requests_among contents ≡ 0
none_among [] are = refl
none_among (content ∷ contents) are = (let one = none_begun content are.0 in let rest = none_among contents are.1 in omega (arith, one, rest))

none_in : (packets : List Emission) → SentOfBegun [] packets → requests_among_packets packets ≡ 0
none_in [] are = refl
none_in (packet ∷ packets) are = (let one = none_among packet.packet.contents are.0 in let rest = none_in packets are.1 in omega (arith, one, rest))

-- Where no request was begun none was sent.
pub unasked_sends_none : (options : Options) (first size : ℕ) (direction : Direction) → DirectionRun options first size direction → direction.asking.requests ≡ [] → requests_among_packets direction.sent ≡ 0
unasked_sends_none options first size direction run none =
    none_in direction.sent (subst (λ (l : List BegunReset). SentOfBegun l direction.sent) none (all_of_begun options first size direction run))

-- ---- where no request was begun

with_unasked : (begun : Option BegunReset) (asking : Asking) → (asking.requests ≡ [] → asking ≡ nothing_asked) → (asking_with begun asking).requests ≡ [] → asking_with begun asking ≡ nothing_asked
with_unasked None asking before none = before none
with_unasked (Some begun) asking before none = absurd (cc)

step_unasked : (old new : Direction) → (old.asking.requests ≡ [] → old.asking ≡ nothing_asked) → DirectionStep old new → new.asking.requests ≡ [] → new.asking ≡ nothing_asked
step_unasked old _ before (queues now sending fit some) none = before none
step_unasked old _ before (sets setting fit) none = before none
step_unasked old _ before (prepares ids small dropped) none = before none
step_unasked old _ before (commits so) none = ap all_ended (before none)
step_unasked old _ before (rolls_back kind) none = ap all_ended (before none)
step_unasked old _ before (flushes e draft answers same no_data allowed) none = with_unasked (begun_reset_of answers) old.asking before none
step_unasked old _ before (resends now room transfer left tsns chunks emission there does are contents) none = before none
step_unasked old _ before (resends_nothing now room transfer left tsns there does) none = before none
step_unasked old _ before (speaks emission no_data) none = before none
step_unasked old _ before (asks_again emission begun was contents) none = before none
step_unasked old _ before (renews emission newest earlier number is out contents) none = absurd (cc)
step_unasked old _ before (turns_aside transfer new there same) none = before none
step_unasked old _ before (acknowledges now sack transfer new there valid reached does) none = before none
step_unasked old _ before (loses now transfer there) none = before none
step_unasked old _ before (receives emission chunk theirs new was holds some tracker reassembly does) none = before none
step_unasked old _ before (forwards emission tsn streams theirs new was holds tracker reassembly does) none = before none
step_unasked old _ before (receives_interleaved emission chunk theirs new was holds some tracker reassembly does) none = before none
step_unasked old _ before (forwards_interleaved emission tsn streams theirs new was holds tracker reassembly does) none = before none
step_unasked old _ before (tracks new cumulative ranges) none = before none
step_unasked old _ before (defers last_tsn streams some) none = before none
step_unasked old _ before (performs newest earlier new is once reached own ends) none = (let clash : ◌≡◌ {A = List BegunReset} [] (newest ∷ earlier) = sym none ∙ is in absurd (cc))
step_unasked old _ before (performs_earlier newest earlier new is once reached own ends) none = before none
step_unasked old _ before (resets streams new kind some ends) none = before none
step_unasked old _ before (takes message messages ready) none = before none

pub nothing_was_asked : (options : Options) (first size : ℕ) (direction : Direction) → DirectionRun options first size direction → direction.asking.requests ≡ [] → direction.asking ≡ nothing_asked
nothing_was_asked options first size direction (begins _ start) none = start.asking
nothing_was_asked options first size _ (goes_on old new run step) none = step_unasked old new (nothing_was_asked options first size old run) step none
nothing_was_asked options first size _ (starts old queued below beginning run waits fit shown flight begins_so) none = waits.asking
