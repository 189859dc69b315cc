-- What a flush leaves as it was, whatever its answers, and that its packets are those of a flush of the association.
use Rattle.std.proofs.Common.{◌≡◌, ◌==◌, ℕ, Bool, true, false, Option, None, Some, List, [], ◌∷◌, ◌++◌, map, refl, sym, subst, ap, ◌∙◌, append_assoc, ◌⊎◌, inl, inr}
use Rattle.std.specs.Prelude.{if◌then◌else◌, take}
use Rattle.std.specs.Duration.{as_nanos}
use Rattle.std.proofs.lemmas.List.{append-nil, map-append}
use Rattle.dcsctp_spec.specs.queues.OwnResets.{ready_streams}
use Rattle.dcsctp_spec.specs.types.declared.association.Pair.{Pair}
use Rattle.dcsctp_spec.specs.types.declared.association.Held.{Held}
use Rattle.dcsctp_spec.specs.types.declared.word.Word.{Word}
use Rattle.dcsctp_spec.specs.types.Settings.{SameOptions}
use Rattle.dcsctp_spec.specs.endpoint.Event.{Event, sent, connected, closed, connection_restarted, aborted, error, buffered_amount_low, total_buffered_amount_low, streams_reset_failed, streams_reset_performed, incoming_stream_reset, lifecycle_message_fully_sent, lifecycle_message_maybe_expired, lifecycle_message_expired, lifecycle_message_delivered, lifecycle_end}
use Rattle.dcsctp_spec.specs.Packet.{Plain, plain, Content, Packet, Emission}
use Rattle.dcsctp_spec.specs.Reconfiguration.{RequestedReset}
use Rattle.dcsctp_spec.specs.queues.SendQueue.{SendQueueState}
use Rattle.dcsctp_spec.specs.queues.Transfer.{Transfer, is_idle}
use Rattle.dcsctp_spec.specs.endpoint.Endpoint.{Endpoint, Core, cookie_wait, cookie_echoed, open_in, OpenPhase, held_by_core, Timers, closed as closed_core}
use Rattle.dcsctp_spec.specs.endpoint.Timers.{RunningTimer}
use Rattle.dcsctp_spec.specs.endpoint.Following.{next_chunk}
use Rattle.dcsctp_spec.specs.endpoint.Outcome.{Outcome, still, behind, then_outcome, with_effects_first}
use Rattle.dcsctp_spec.specs.association.Effect.{Effect, begins, emission_effects, effects_without_packets}
use Rattle.dcsctp_spec.specs.association.Choices.{Filling, plain_contents}
use Rattle.dcsctp_spec.specs.association.FlushChanges.{further_packets, held_asking, reset_request, reset_to_begin, FlushResult, flushed_with, flush}
use Rattle.dcsctp_spec.specs.association.Controlled.{Observation, packet_sent, has_connected, has_ended, own_reset_performed, own_reset_failed, peer_reset_performed, observations_of_events, observations_of_effects, IsControlled}
use Rattle.dcsctp_spec.specs.endpoint.BegunResets.{BegunReset, streams_within, last_assigned_tsn, begun_if_ready, begun_if_connected, request_contents, begun_effects, held_begun, core_asking, after_begun, stream_field}
use Rattle.dcsctp_spec.specs.endpoint.FlushOutcomes.{may_be_asked, FillingEvent, amount_is_low, total_amount_is_low, message_is_sent, message_may_have_expired, message_has_expired, message_ends, filling_event, Answer, answer_contents, filled_draft, goes_out, asked_outcome, next_draft, flush_of, Ask, first_ask, later_ask, room_of_draft, GivesUnlessIdle, IsAnswerOfQueues, IsFlushAnswer, timers_with, AreFlushAnswers, at_limit, at_empty, after_packet, FlushAnswers, packets_allowed}

-- ---- what stays

-- A reset may be begun. The options and T1 stay, what else there is of the association, and what else is none of a flush.
pub record Keeps (begun : Option BegunReset) (e : Endpoint) (o : Outcome) : Type 0 where
  pub core : o.after.core ≡ (after_begun begun e).core
  pub options : o.after.options ≡ e.options
  pub t1 : o.after.timers.t1 ≡ e.timers.t1
  pub effects : o.effects ≡ begun_effects begun
  pub words : o.words ≡ []
  pub following : o.following ≡ next_chunk

begun_keep : (b : Bool) (timers : Timers) (interval : Option RunningTimer) → (if b then timers else record timers { heartbeat_interval = interval }).t1 ≡ timers.t1
begun_keep true timers interval = refl
begun_keep false timers interval = refl

timers_keep : (e : Endpoint) (chunks : List Plain) → (timers_with e chunks).t1 ≡ e.timers.t1
timers_keep e [] = refl
timers_keep e (chunk ∷ chunks) = begun_keep (as_nanos e.options.heartbeat_interval == 0) e.timers _

pub goes_out_keeps : (e : Endpoint) (told : List (Event Emission)) (with_checksum : Bool) (tag : ℕ) (contents : List Content) → Keeps None e (goes_out e told with_checksum tag contents)
goes_out_keeps e told with_checksum tag [] = record { core = refl; options = refl; t1 = refl; effects = refl; words = refl; following = refl }
goes_out_keeps e told with_checksum tag (content ∷ contents) = record { core = refl; options = refl; t1 = refl; effects = refl; words = refl; following = refl }

-- what a reset that is begun leaves
begun_options : (begun : Option BegunReset) (e : Endpoint) → (after_begun begun e).options ≡ e.options
begun_options None e = refl
begun_options (Some begun) e = refl

begun_t1 : (begun : Option BegunReset) (e : Endpoint) → (after_begun begun e).timers.t1 ≡ e.timers.t1
begun_t1 None e = refl
begun_t1 (Some begun) e = refl

pub asked_keeps : (ask : Ask) (e : Endpoint) (draft : Emission) (answer : Answer) → IsFlushAnswer ask e draft answer → Keeps answer.begun e (asked_outcome e draft answer)
asked_keeps ask e draft answer h =
    let out : Keeps None answer.after (goes_out answer.after (map filling_event answer.told) draft.with_checksum draft.packet.tag (filled_draft draft (answer_contents answer)).packet.contents) =
    goes_out_keeps answer.after (map filling_event answer.told) draft.with_checksum draft.packet.tag (filled_draft draft (answer_contents answer)).packet.contents in
    record {
      core = out.core ∙ ap (λ (x : Endpoint). x.core) h.kept;
      options = out.options ∙ ap (λ (x : Endpoint). x.options) h.kept ∙ begun_options answer.begun e;
      t1 = out.t1 ∙ ap (λ (x : Endpoint). x.timers.t1) h.kept ∙ timers_keep (after_begun answer.begun e) answer.data_chunks ∙ begun_t1 answer.begun e;
      effects = ap (λ (es : List Effect). begun_effects answer.begun ++ es) out.effects ∙ append-nil (begun_effects answer.begun);
      words = out.words;
      following = out.following;
    }

pub keeps_then : (begun : Option BegunReset) (e : Endpoint) (o p : Outcome) → Keeps begun e o → Keeps None o.after p → Keeps begun e (then_outcome o p)
keeps_then begun e o p first second =
    record {
      core = second.core ∙ first.core;
      options = second.options ∙ first.options;
      t1 = second.t1 ∙ first.t1;
      effects = ap (λ (es : List Effect). es ++ p.effects) first.effects ∙ ap (λ (es : List Effect). begun_effects begun ++ es) second.effects ∙ append-nil (begun_effects begun);
      words = ap (λ (ws : List Word). ws ++ p.words) first.words ∙ second.words;
      following = second.following;
    }

still_keeps : (e : Endpoint) → Keeps None e (still e)
still_keeps e = record { core = refl; options = refl; t1 = refl; effects = refl; words = refl; following = refl }

-- what a flush begins
abbrev pub begun_by : List Answer → Option BegunReset
begun_by [] = None
begun_by (answer ∷ answers) = answer.begun

-- A later ask begins nothing.
later_where : (b : Bool) (e : Endpoint) (draft : Emission) (transfer : Transfer) (answer : Answer) → GivesUnlessIdle b later_ask e draft transfer answer → answer.begun ≡ None
later_where true e draft transfer answer h = ap (λ (a : Answer). a.begun) h
later_where false e draft transfer answer h = h.begins

later_below : (e : Endpoint) (draft : Emission) (transfer : Option Transfer) (answer : Answer) → IsAnswerOfQueues later_ask e draft answer transfer → answer.begun ≡ None
later_below e draft None answer h = ap (λ (a : Answer). a.begun) h
later_below e draft (Some transfer) answer h = later_where (is_idle e.queues.queue transfer) e draft transfer answer h

pub later_begins : (e : Endpoint) (draft : Emission) (answer : Answer) → IsFlushAnswer later_ask e draft answer → answer.begun ≡ None
later_begins e draft answer h = later_below e draft e.queues.transfer answer h.by_transfer

later_all : (n : ℕ) (e : Endpoint) (draft : Emission) (answers : List Answer) → AreFlushAnswers later_ask n e draft answers → begun_by answers ≡ None
later_all _ _ _ _ (at_limit _ e draft) = refl
later_all _ _ _ _ (at_empty _ more e draft answer is empty) = later_begins e draft answer is
later_all _ _ _ _ (after_packet _ more e draft answer answers is some rest) = later_begins e draft answer is

pub flush_keeps : (ask : Ask) (n : ℕ) (e : Endpoint) (draft : Emission) (answers : List Answer) → AreFlushAnswers ask n e draft answers → Keeps (begun_by answers) e (flush_of e draft answers)
flush_keeps _ _ _ _ _ (at_limit ask e draft) = still_keeps e
flush_keeps _ _ _ _ _ (at_empty ask more e draft answer is empty) =
    keeps_then answer.begun e (asked_outcome e draft answer) (still (asked_outcome e draft answer).after) (asked_keeps ask e draft answer is) (still_keeps (asked_outcome e draft answer).after)
flush_keeps _ _ _ _ _ (after_packet ask more e draft answer answers is some rest) =
    let after : Endpoint = (asked_outcome e draft answer).after in
    keeps_then answer.begun e (asked_outcome e draft answer) (flush_of after (next_draft e.core draft) answers) (asked_keeps ask e draft answer is)
    (subst (λ (b : Option BegunReset). Keeps b after (flush_of after (next_draft e.core draft) answers)) (later_all more after (next_draft e.core draft) answers rest)
    (flush_keeps later_ask more after (next_draft e.core draft) answers rest))

-- ---- its signs

pub signs_append : (xs ys : List (Event Emission)) → observations_of_events (xs ++ ys) ≡ observations_of_events xs ++ observations_of_events ys
signs_append [] ys = refl
signs_append (sent emission ∷ xs) ys = ap (λ (ss : List Observation). packet_sent emission.packet ∷ ss) (signs_append xs ys)
signs_append (connected ∷ xs) ys = ap (λ (ss : List Observation). has_connected ∷ ss) (signs_append xs ys)
signs_append (closed ∷ xs) ys = ap (λ (ss : List Observation). has_ended ∷ ss) (signs_append xs ys)
signs_append (connection_restarted ∷ xs) ys = signs_append xs ys
signs_append (aborted kind text ∷ xs) ys = ap (λ (ss : List Observation). has_ended ∷ ss) (signs_append xs ys)
signs_append (error kind text ∷ xs) ys = signs_append xs ys
signs_append (buffered_amount_low stream ∷ xs) ys = signs_append xs ys
signs_append (total_buffered_amount_low ∷ xs) ys = signs_append xs ys
signs_append (streams_reset_failed streams ∷ xs) ys = ap (λ (ss : List Observation). own_reset_failed ∷ ss) (signs_append xs ys)
signs_append (streams_reset_performed streams ∷ xs) ys = ap (λ (ss : List Observation). own_reset_performed ∷ ss) (signs_append xs ys)
signs_append (incoming_stream_reset streams ∷ xs) ys = ap (λ (ss : List Observation). peer_reset_performed ∷ ss) (signs_append xs ys)
signs_append (lifecycle_message_fully_sent id ∷ xs) ys = signs_append xs ys
signs_append (lifecycle_message_maybe_expired id ∷ xs) ys = signs_append xs ys
signs_append (lifecycle_message_expired id ∷ xs) ys = signs_append xs ys
signs_append (lifecycle_message_delivered id ∷ xs) ys = signs_append xs ys
signs_append (lifecycle_end id ∷ xs) ys = signs_append xs ys

-- No event of a flush but its packets is a sign.
pub told_signs : (told : List FillingEvent) → observations_of_events (map filling_event told) ≡ []
told_signs [] = refl
told_signs (amount_is_low stream ∷ told) = told_signs told
told_signs (total_amount_is_low ∷ told) = told_signs told
told_signs (message_is_sent id ∷ told) = told_signs told
told_signs (message_may_have_expired id ∷ told) = told_signs told
told_signs (message_has_expired id ∷ told) = told_signs told
told_signs (message_ends id ∷ told) = told_signs told

pub goes_out_signs : (e : Endpoint) (told : List FillingEvent) (with_checksum : Bool) (tag : ℕ) (contents : List Content)
    → observations_of_events (goes_out e (map filling_event told) with_checksum tag contents).events ≡ observations_of_effects (emission_effects tag contents)
goes_out_signs e told with_checksum tag [] = told_signs told
goes_out_signs e told with_checksum tag (content ∷ contents) =
    let packet : Packet = record { tag = tag; contents = content ∷ contents } in
    signs_append (map filling_event told) (sent (record { with_checksum = with_checksum; packet = packet }) ∷ [])
    ∙ ap (λ (ss : List Observation). ss ++ packet_sent packet ∷ []) (told_signs told)

pub emitted_then : (tag : ℕ) (contents : List Content) (rest : List Effect) → observations_of_effects (emission_effects tag contents ++ rest) ≡ observations_of_effects (emission_effects tag contents) ++ observations_of_effects rest
emitted_then tag [] rest = refl
emitted_then tag (content ∷ contents) rest = refl

-- A packet of a later ask holds what it was filled with.
abbrev pub all_chunks : Answer → List Plain
all_chunks answer = answer.acknowledgements ++ answer.data_chunks

contents_are : (answer : Answer) → answer.begun ≡ None → answer_contents answer ≡ plain_contents (all_chunks answer)
contents_are answer none =
    ap (λ (b : Option BegunReset). plain_contents answer.acknowledgements ++ (request_contents b ++ plain_contents answer.data_chunks)) none
    ∙ sym (map-append plain answer.acknowledgements answer.data_chunks)

-- the peer's tag is this, where one is held
abbrev pub IsPeerTag : Core → ℕ → Type 0
IsPeerTag closed_core tag = Unit {0}
IsPeerTag (cookie_wait my) tag = Unit {0}
IsPeerTag (cookie_echoed my held cookie) tag = held.peer.tag ≡ tag
IsPeerTag (open_in phase my held) tag = held.peer.tag ≡ tag

next_tag : (core : Core) (draft : Emission) → IsPeerTag core draft.packet.tag → (next_draft core draft).packet.tag ≡ draft.packet.tag
next_tag closed_core draft is = refl
next_tag (cookie_wait my) draft is = refl
next_tag (cookie_echoed my held cookie) draft is = is
next_tag (open_in phase my held) draft is = is

pub next_is_empty : (core : Core) (draft : Emission) → (next_draft core draft).packet.contents ≡ []
next_is_empty closed_core draft = refl
next_is_empty (cookie_wait my) draft = refl
next_is_empty (cookie_echoed my held cookie) draft = refl
next_is_empty (open_in phase my held) draft = refl

-- the tag stays that of the peer
asking_tag : (core : Core) (tag : ℕ) → IsPeerTag core tag → IsPeerTag (core_asking core) tag
asking_tag closed_core tag is = is
asking_tag (cookie_wait my) tag is = is
asking_tag (cookie_echoed my held cookie) tag is = is
asking_tag (open_in phase my held) tag is = is

begun_tag : (begun : Option BegunReset) (e : Endpoint) (tag : ℕ) → IsPeerTag e.core tag → IsPeerTag (after_begun begun e).core tag
begun_tag None e tag is = is
begun_tag (Some begun) e tag is = asking_tag e.core tag is

tag_stays : (ask : Ask) (e : Endpoint) (draft : Emission) (answer : Answer) → IsFlushAnswer ask e draft answer → IsPeerTag e.core draft.packet.tag
    → IsPeerTag (asked_outcome e draft answer).after.core (next_draft e.core draft).packet.tag
tag_stays ask e draft answer h is =
    let tag : ℕ = (next_draft e.core draft).packet.tag in
    subst (λ (c : Core). IsPeerTag c tag) (sym (asked_keeps ask e draft answer h).core)
    (begun_tag answer.begun e tag (subst (λ (t : ℕ). IsPeerTag e.core t) (sym (next_tag e.core draft is)) is))

pub signs_then : (xs ys : List (Event Emission)) (one rest : List Effect) → observations_of_events xs ≡ observations_of_effects one → observations_of_events ys ≡ observations_of_effects rest
    → observations_of_events (xs ++ ys) ≡ observations_of_effects one ++ observations_of_effects rest
signs_then xs ys one rest first second =
    signs_append xs ys ∙ ap (λ (ss : List Observation). ss ++ observations_of_events ys) first ∙ ap (λ (ss : List Observation). observations_of_effects one ++ ss) second

-- the packets of later asks
later_signs : (n : ℕ) (e : Endpoint) (draft : Emission) (answers : List Answer) → draft.packet.contents ≡ [] → IsPeerTag e.core draft.packet.tag → AreFlushAnswers later_ask n e draft answers
    → observations_of_events (flush_of e draft answers).events ≡ observations_of_effects (further_packets draft.packet.tag (map all_chunks answers))
later_signs _ _ _ _ none is (at_limit _ e draft) = refl
later_signs _ _ _ _ none is (at_empty _ more e draft answer h empty) =
    signs_then (asked_outcome e draft answer).events [] (emission_effects draft.packet.tag (plain_contents (all_chunks answer))) []
    (goes_out_signs answer.after answer.told draft.with_checksum draft.packet.tag _ ∙ ap (λ (cs : List Content). observations_of_effects (emission_effects draft.packet.tag (cs ++ answer_contents answer))) none
    ∙ ap (λ (cs : List Content). observations_of_effects (emission_effects draft.packet.tag cs)) (contents_are answer (later_begins e draft answer h))) refl
    ∙ sym (emitted_then draft.packet.tag (plain_contents (all_chunks answer)) [])
later_signs _ _ _ _ none is (after_packet _ more e draft answer answers h some rest) =
    let tag : ℕ = draft.packet.tag in
    let next : Emission = next_draft e.core draft in
    signs_then (asked_outcome e draft answer).events (flush_of (asked_outcome e draft answer).after next answers).events (emission_effects tag (plain_contents (all_chunks answer))) (further_packets tag (map all_chunks answers))
    (goes_out_signs answer.after answer.told draft.with_checksum tag _ ∙ ap (λ (cs : List Content). observations_of_effects (emission_effects tag (cs ++ answer_contents answer))) none
    ∙ ap (λ (cs : List Content). observations_of_effects (emission_effects tag cs)) (contents_are answer (later_begins e draft answer h)))
    (later_signs more (asked_outcome e draft answer).after next answers (next_is_empty e.core draft) (tag_stays later_ask e draft answer h is) rest
    ∙ ap (λ (t : ℕ). observations_of_effects (further_packets t (map all_chunks answers))) (next_tag e.core draft is))
    ∙ sym (emitted_then tag (plain_contents (all_chunks answer)) (further_packets tag (map all_chunks answers)))

-- ---- as a flush of the association

-- what is wanted of a reset that is begun
abbrev pub reset_of : Option BegunReset → Option RequestedReset
reset_of None = None
reset_of (Some begun) = Some begun.reset

-- what its answers chose
abbrev pub filling_of : List Answer → Filling
filling_of [] = record { is_allowed = false; acknowledgements = []; reset = None; data_chunks = []; further = [] }
filling_of (answer ∷ answers) =
    record { is_allowed = true; acknowledgements = answer.acknowledgements; reset = reset_of answer.begun; data_chunks = answer.data_chunks; further = map all_chunks answers }

-- its effects: a request that is begun, and its packets
abbrev pub flush_effects : ℕ → List Content → List Answer → List Effect
flush_effects tag front [] = []
flush_effects tag front (answer ∷ answers) = begun_effects answer.begun ++ (emission_effects tag (front ++ answer_contents answer) ++ further_packets tag (map all_chunks answers))

-- What is begun has the next number, and no other is outstanding.
abbrev pub IsBegun : Option BegunReset → Held → Type 0
IsBegun None held = Unit {0}
IsBegun (Some begun) held = (begun.number ≡ held.own_next) × (held.own_outstanding ≡ None)

no_reset : (outstanding : Option ℕ) → reset_to_begin outstanding None ≡ None
no_reset None = refl
no_reset (Some number) = refl

-- with a request or without
flushed_is : (tag : ℕ) (held : Held) (front : List Content) (begun : Option BegunReset) (acknowledgements data_chunks : List Plain) (further : List (List Plain)) → IsBegun begun held
    → flush tag held front (record { is_allowed = true; acknowledgements = acknowledgements; reset = reset_of begun; data_chunks = data_chunks; further = further })
    ≡ record {
      held = held_begun begun held;
      effects = begun_effects begun ++ (emission_effects tag (front ++ (plain_contents acknowledgements ++ (request_contents begun ++ plain_contents data_chunks))) ++ further_packets tag further);
    }
flushed_is tag held front None acknowledgements data_chunks further is =
    ap (flushed_with tag held front (record { is_allowed = true; acknowledgements = acknowledgements; reset = None; data_chunks = data_chunks; further = further })) (no_reset held.own_outstanding)
flushed_is tag held front (Some begun) acknowledgements data_chunks further is =
    let filling : Filling = record { is_allowed = true; acknowledgements = acknowledgements; reset = Some begun.reset; data_chunks = data_chunks; further = further } in
    ap (λ (outstanding : Option ℕ). flushed_with tag held front filling (reset_to_begin outstanding (Some begun.reset))) is.1
    ∙ ap (λ (number : ℕ). let f : FlushResult = record {
      held = held_asking held;
      effects = begins number ∷ (emission_effects tag (front ++ (plain_contents acknowledgements ++ (reset_request number begun.reset ∷ plain_contents data_chunks))) ++ further_packets tag further);
    } in f) (sym is.0)

pub flush_is : (tag : ℕ) (held : Held) (front : List Content) (answers : List Answer) → IsBegun (begun_by answers) held
    → flush tag held front (filling_of answers) ≡ record { held = held_begun (begun_by answers) held; effects = flush_effects tag front answers }
flush_is tag held front [] is = refl
flush_is tag held front (answer ∷ answers) is = flushed_is tag held front answer.begun answer.acknowledgements answer.data_chunks (map all_chunks answers) is

-- It is begun by that rule.
begun_is : (follows : Bool) (held : Held) (outstanding : Option ℕ) (last_tsn : ℕ) (streams : List ℕ) → held.own_outstanding ≡ outstanding → IsBegun (begun_if_ready follows outstanding held.own_next last_tsn streams) held
begun_is follows held None last_tsn [] is = tt
begun_is follows held None last_tsn (stream ∷ streams) is = (refl, is)
begun_is follows held (Some number) last_tsn [] is = tt
begun_is follows held (Some number) last_tsn (stream ∷ streams) is = tt

-- This peer may be asked, or none.
abbrev AsksAtMost : Held → Option Held → Type 0
AsksAtMost held peer = (peer ≡ None) ⊎ (peer ≡ Some held)

asks_at_most : (core : Core) (follows : Bool) (held : Held) → held_by_core core ≡ Some held → AsksAtMost held (may_be_asked core follows)
asks_at_most closed_core follows held holds = inr holds
asks_at_most (cookie_wait my) follows held holds = inr holds
asks_at_most (cookie_echoed my own cookie) true held holds = inl refl
asks_at_most (cookie_echoed my own cookie) false held holds = inr holds
asks_at_most (open_in phase my own) follows held holds = inr holds

first_in : (follows : Bool) (held : Held) (peer : Option Held) (room last_tsn : ℕ) (queue : SendQueueState) → AsksAtMost held peer → IsBegun (begun_if_connected follows peer room last_tsn queue) held
first_in follows held None room last_tsn queue is = tt
first_in follows held (Some own) room last_tsn queue (inl is) = absurd (cc)
first_in follows held (Some own) room last_tsn queue (inr is) =
    let here : own ≡ held = cc in
    subst (λ (h : Held). IsBegun (begun_if_connected follows (Some own) room last_tsn queue) h) here
    (begun_is follows own own.own_outstanding last_tsn (map stream_field (take (streams_within room) (ready_streams queue))) refl)

first_where : (b : Bool) (e : Endpoint) (held : Held) (draft : Emission) (transfer : Transfer) (answer : Answer) → held_by_core e.core ≡ Some held → GivesUnlessIdle b first_ask e draft transfer answer → IsBegun answer.begun held
first_where true e held draft transfer answer holds h = subst (λ (a : Answer). IsBegun a.begun held) (sym h) tt
first_where false e held draft transfer answer holds h =
    subst (λ (b : Option BegunReset). IsBegun b held) (sym h.begins)
    (first_in e.options.follow_rfc held (may_be_asked e.core e.options.follow_rfc) (room_of_draft e (filled_draft draft (plain_contents answer.acknowledgements))) (last_assigned_tsn h.gave_up.queue) h.gave_up.waiting
    (asks_at_most e.core e.options.follow_rfc held holds))

first_below : (e : Endpoint) (held : Held) (draft : Emission) (transfer : Option Transfer) (answer : Answer) → held_by_core e.core ≡ Some held → IsAnswerOfQueues first_ask e draft answer transfer → IsBegun answer.begun held
first_below e held draft None answer holds h = subst (λ (a : Answer). IsBegun a.begun held) (sym h) tt
first_below e held draft (Some transfer) answer holds h = first_where (is_idle e.queues.queue transfer) e held draft transfer answer holds h

pub first_begins : (n : ℕ) (e : Endpoint) (held : Held) (draft : Emission) (answers : List Answer) → held_by_core e.core ≡ Some held → AreFlushAnswers first_ask n e draft answers → IsBegun (begun_by answers) held
first_begins _ _ held _ _ holds (at_limit _ e draft) = tt
first_begins _ _ held _ _ holds (at_empty _ more e draft answer h empty) = first_below e held draft e.queues.transfer answer holds h.by_transfer
first_begins _ _ held _ _ holds (after_packet _ more e draft answer answers h some rest) = first_below e held draft e.queues.transfer answer holds h.by_transfer

begun_signs : (begun : Option BegunReset) (rest : List Effect) → observations_of_effects (begun_effects begun ++ rest) ≡ observations_of_effects rest
begun_signs None rest = refl
begun_signs (Some begun) rest = refl

pub flush_signs : (n : ℕ) (e : Endpoint) (draft : Emission) (answers : List Answer) → IsPeerTag e.core draft.packet.tag → AreFlushAnswers first_ask n e draft answers
    → observations_of_events (flush_of e draft answers).events ≡ observations_of_effects (flush_effects draft.packet.tag draft.packet.contents answers)
flush_signs _ _ _ _ is (at_limit _ e draft) = refl
flush_signs _ _ _ _ is (at_empty _ more e draft answer h empty) =
    signs_then (asked_outcome e draft answer).events [] (emission_effects draft.packet.tag (draft.packet.contents ++ answer_contents answer)) []
    (goes_out_signs answer.after answer.told draft.with_checksum draft.packet.tag _) refl
    ∙ sym (emitted_then draft.packet.tag (draft.packet.contents ++ answer_contents answer) [])
    ∙ sym (begun_signs answer.begun (emission_effects draft.packet.tag (draft.packet.contents ++ answer_contents answer) ++ []))
flush_signs _ _ _ _ is (after_packet _ more e draft answer answers h some rest) =
    let tag : ℕ = draft.packet.tag in
    let next : Emission = next_draft e.core draft in
    signs_then (asked_outcome e draft answer).events (flush_of (asked_outcome e draft answer).after next answers).events (emission_effects tag (draft.packet.contents ++ answer_contents answer)) (further_packets tag (map all_chunks answers))
    (goes_out_signs answer.after answer.told draft.with_checksum tag _)
    (later_signs more (asked_outcome e draft answer).after next answers (next_is_empty e.core draft) (tag_stays first_ask e draft answer h is) rest
    ∙ ap (λ (t : ℕ). observations_of_effects (further_packets t (map all_chunks answers))) (next_tag e.core draft is))
    ∙ sym (emitted_then tag (draft.packet.contents ++ answer_contents answer) (further_packets tag (map all_chunks answers)))
    ∙ sym (begun_signs answer.begun (emission_effects tag (draft.packet.contents ++ answer_contents answer) ++ further_packets tag (map all_chunks answers)))

-- Of a flush only a request that is begun is recorded.
pub emitted_notes : (tag : ℕ) (contents : List Content) (rest : List Effect) → effects_without_packets (emission_effects tag contents ++ rest) ≡ effects_without_packets rest
emitted_notes tag [] rest = refl
emitted_notes tag (content ∷ contents) rest = refl

pub further_notes : (tag : ℕ) (packets : List (List Plain)) → effects_without_packets (further_packets tag packets) ≡ []
further_notes tag [] = refl
further_notes tag (chunks ∷ packets) = emitted_notes tag (plain_contents chunks) (further_packets tag packets) ∙ further_notes tag packets

begun_notes : (begun : Option BegunReset) (rest : List Effect) → effects_without_packets rest ≡ [] → effects_without_packets (begun_effects begun ++ rest) ≡ begun_effects begun
begun_notes None rest none = none
begun_notes (Some begun) rest none = ap (λ (es : List Effect). begins begun.number ∷ es) none

pub flush_notes : (tag : ℕ) (front : List Content) (answers : List Answer) → effects_without_packets (flush_effects tag front answers) ≡ begun_effects (begun_by answers)
flush_notes tag front [] = refl
flush_notes tag front (answer ∷ answers) =
    begun_notes answer.begun (emission_effects tag (front ++ answer_contents answer) ++ further_packets tag (map all_chunks answers))
    (emitted_notes tag (front ++ answer_contents answer) (further_packets tag (map all_chunks answers)) ∙ further_notes tag (map all_chunks answers))

-- How an association is rebuilt from what is known of its peer: a request that is begun changes that alone.
pub record Rebuilds (rebuilt : Held → Core) (held : Held) : Type 0 where
  pub holds : held_by_core (rebuilt held) ≡ Some held
  pub asks : core_asking (rebuilt held) ≡ rebuilt (held_asking held)

pub rebuilds_open : (phase : OpenPhase) (my : Pair) (held : Held) → Rebuilds (λ h. open_in phase my h) held
rebuilds_open phase my held = record { holds = refl; asks = refl }

pub rebuilds_echoed : (my : Pair) (cookie : List ℕ) (held : Held) → Rebuilds (λ h. cookie_echoed my h cookie) held
rebuilds_echoed my cookie held = record { holds = refl; asks = refl }

begun_core : (begun : Option BegunReset) (base : Endpoint) (rebuilt : Held → Core) (held : Held) → Rebuilds rebuilt held → base.core ≡ rebuilt held → (after_begun begun base).core ≡ rebuilt (held_begun begun held)
begun_core None base rebuilt held builds is = is
begun_core (Some begun) base rebuilt held builds is = ap core_asking is ∙ builds.asks

-- the turn by what a flush makes of the peer
abbrev pub FlushesTo : Endpoint → Outcome → (Held → Core) → List Effect → FlushResult → Type 0
FlushesTo e o rebuilt before after = IsControlled e o (record { core = rebuilt after.held; effects = before ++ after.effects; following = next_chunk })

-- A flush after these words and events, which record these effects, is one of the association after them.
pub flush_controlled : (e base : Endpoint) (words : List Word) (events : List (Event Emission)) (draft : Emission) (answers : List Answer) (rebuilt : Held → Core) (held : Held) (before effects : List Effect)
    → Rebuilds rebuilt held → base.core ≡ rebuilt held → SameOptions e.options base.options → IsPeerTag base.core draft.packet.tag → FlushAnswers base draft answers
    → observations_of_events events ≡ observations_of_effects before
    → observations_of_effects (before ++ flush_effects draft.packet.tag draft.packet.contents answers) ≡ observations_of_effects before ++ observations_of_effects (flush_effects draft.packet.tag draft.packet.contents answers)
    → effects_without_packets (before ++ flush_effects draft.packet.tag draft.packet.contents answers) ≡ effects ++ effects_without_packets (flush_effects draft.packet.tag draft.packet.contents answers)
    → FlushesTo e (with_effects_first effects (behind words events (flush_of base draft answers))) rebuilt before (flush draft.packet.tag held draft.packet.contents (filling_of answers))
flush_controlled e base words events draft answers rebuilt held before effects builds is same peer h told observations notes =
    let n : ℕ = packets_allowed base.options.max_burst base.core in
    let tag : ℕ = draft.packet.tag in
    let keeps : Keeps (begun_by answers) base (flush_of base draft answers) = flush_keeps first_ask n base draft answers h in
    let more : List Effect = flush_effects tag draft.packet.contents answers in
    subst (FlushesTo e (with_effects_first effects (behind words events (flush_of base draft answers))) rebuilt before)
    (sym (flush_is tag held draft.packet.contents answers (first_begins n base held draft answers (ap held_by_core is ∙ builds.holds) h)))
    (record {
      core = keeps.core ∙ begun_core (begun_by answers) base rebuilt held builds is;
      options = subst (SameOptions e.options) (sym keeps.options) same;
      observations = signs_then events (flush_of base draft answers).events before more told (flush_signs n base draft answers peer h) ∙ sym observations;
      effects = ap (λ (es : List Effect). effects ++ es) (keeps.effects ∙ sym (flush_notes tag draft.packet.contents answers)) ∙ sym notes;
      following = keeps.following;
    })

-- packets of chunks before it
pub further_then : (tag : ℕ) (packets : List (List Plain)) (rest : List Effect)
    → observations_of_effects (further_packets tag packets ++ rest) ≡ observations_of_effects (further_packets tag packets) ++ observations_of_effects rest
further_then tag [] rest = refl
further_then tag (chunks ∷ packets) rest =
    let one : List Effect = emission_effects tag (plain_contents chunks) in
    ap observations_of_effects (append_assoc one (further_packets tag packets) rest)
    ∙ emitted_then tag (plain_contents chunks) (further_packets tag packets ++ rest)
    ∙ ap (λ (ss : List Observation). observations_of_effects one ++ ss) (further_then tag packets rest)
    ∙ sym (append_assoc (observations_of_effects one) (observations_of_effects (further_packets tag packets)) (observations_of_effects rest))
    ∙ ap (λ (ss : List Observation). ss ++ observations_of_effects rest) (sym (emitted_then tag (plain_contents chunks) (further_packets tag packets)))

pub further_notes_then : (tag : ℕ) (packets : List (List Plain)) (rest : List Effect) → effects_without_packets (further_packets tag packets ++ rest) ≡ effects_without_packets rest
further_notes_then tag [] rest = refl
further_notes_then tag (chunks ∷ packets) rest =
    ap effects_without_packets (append_assoc (emission_effects tag (plain_contents chunks)) (further_packets tag packets) rest)
    ∙ emitted_notes tag (plain_contents chunks) (further_packets tag packets ++ rest) ∙ further_notes_then tag packets rest
