-- Where data goes.
use Rattle.std.proofs.Common.{◌≡◌, ℕ, Bool, false, Option, None, Some, List, [], ◌∷◌, ◌++◌, map, refl, sym, ◌∙◌, ap, subst, inl, inr}
use Rattle.std.proofs.lemmas.List.{append-nil}
use Rattle.dcsctp_spec_lemmas.specs.spec.Admission.{all_chunks, admits, first_abort, first_shutdown_complete, is_echo_in_front, is_single_init}
use Rattle.dcsctp_spec_lemmas.specs.spec.endpoint.Endpoint.{Endpoint, Core, closed, cookie_wait, cookie_echoed, open_in, own_tag}
use Rattle.dcsctp_spec_lemmas.specs.spec.endpoint.Event.{Event, sent, packets_of_events}
use Rattle.dcsctp_spec_lemmas.specs.spec.Packet.{Content, init, init_ack, cookie_echo, cookie_ack, re_config, abort, shutdown, shutdown_ack, shutdown_complete, plain, Plain, Packet, Emission}
use Rattle.dcsctp_spec_lemmas.specs.spec.association.Choices.{plain_contents}
use Rattle.dcsctp_spec_lemmas.specs.spec.endpoint.BegunResets.{BegunReset, request_contents}
use Rattle.dcsctp_spec_lemmas.specs.spec.endpoint.FlushOutcomes.{FillingEvent, filling_event, Answer, answer_contents, filled_draft, goes_out, asked_outcome, next_draft, flush_of, Ask, first_ask, later_ask, AreFlushAnswers, at_limit, at_empty, after_packet, packets_allowed}
use Rattle.dcsctp_theorem_sockets.proofs.Bursts.{packets_of_events-append, told_none}
use Rattle.dcsctp_delivery_sockets.specs.turns.Actions.{Ledger, NoEnd, Action, queues, sets, flushes, resends, resends_nothing, speaks, asks_again, acknowledges, loses, receives, receives_interleaved, forwards, forwards_interleaved, tracks, times, takes, Actions, nothing, further}
use Rattle.dcsctp_delivery_sockets.specs.turns.Addressed.{AreAddressed}
use Rattle.dcsctp_delivery_sockets.specs.turns.Tags.{AllTo, IsPeerTag}
use Rattle.dcsctp_delivery_sockets.proofs.turns.Tags.{flushes_to, tags_own}

-- ---- chunks

no_end_append : (contents others : List Content) → NoEnd contents → NoEnd others → NoEnd (contents ++ others)
no_end_append [] others free free' = free'
no_end_append (init introduction ∷ contents) others free free' = absurd free
no_end_append (init_ack introduction cookie ∷ contents) others free free' = no_end_append contents others free free'
no_end_append (cookie_echo cookie ∷ contents) others free free' = no_end_append contents others free free'
no_end_append (cookie_ack ∷ contents) others free free' = no_end_append contents others free free'
no_end_append (re_config parameters ∷ contents) others free free' = no_end_append contents others free free'
no_end_append (abort reflected causes ∷ contents) others free free' = absurd free
no_end_append (shutdown tsn ∷ contents) others free free' = no_end_append contents others free free'
no_end_append (shutdown_ack ∷ contents) others free free' = no_end_append contents others free free'
no_end_append (shutdown_complete reflected ∷ contents) others free free' = absurd free
no_end_append (plain chunk ∷ contents) others free free' = no_end_append contents others free free'

pub plain_no_end : (chunks : List Plain) → NoEnd (plain_contents chunks)
plain_no_end [] = tt
plain_no_end (chunk ∷ chunks) = plain_no_end chunks

request_no_end : (begun : Option BegunReset) → NoEnd (request_contents begun)
request_no_end None = tt
request_no_end (Some begun) = tt

answer_no_end : (answer : Answer) → NoEnd (answer_contents answer)
answer_no_end answer =
    no_end_append (plain_contents answer.acknowledgements) (request_contents answer.begun ++ plain_contents answer.data_chunks) (plain_no_end answer.acknowledgements)
    (no_end_append (request_contents answer.begun) (plain_contents answer.data_chunks) (request_no_end answer.begun) (plain_no_end answer.data_chunks))

-- ---- packets

abbrev pub NoneEnds : List Emission → Type 0
NoneEnds [] = Unit {0}
NoneEnds (emission ∷ emissions) = NoEnd emission.packet.contents × NoneEnds emissions

both_none : (one other : List Emission) → NoneEnds one → NoneEnds other → NoneEnds (one ++ other)
both_none [] other free free' = free'
both_none (emission ∷ one) other free free' = (free.0, both_none one other free.1 free')

out_none : (e : Endpoint) (told : List FillingEvent) (with_checksum : Bool) (tag : ℕ) (contents : List Content) → NoEnd contents
    → NoneEnds (packets_of_events (goes_out e (map filling_event told) with_checksum tag contents).events)
out_none e told with_checksum tag [] free =
    subst NoneEnds (sym (ap (λ (l : List (Event Emission)). packets_of_events l) (sym (append-nil (map filling_event told))) ∙ told_none told [])) tt
out_none e told with_checksum tag (content ∷ contents) free =
    subst NoneEnds (sym (told_none told (sent (record { with_checksum = with_checksum; packet = record { tag = tag; contents = content ∷ contents } }) ∷ []))) (free, tt)

asked_none : (e : Endpoint) (draft : Emission) (answer : Answer) → NoEnd draft.packet.contents → NoneEnds (packets_of_events (asked_outcome e draft answer).events)
asked_none e draft answer free =
    out_none answer.after answer.told draft.with_checksum draft.packet.tag (filled_draft draft (answer_contents answer)).packet.contents
    (no_end_append draft.packet.contents (answer_contents answer) free (answer_no_end answer))

next_none : (core : Core) (draft : Emission) → NoEnd (next_draft core draft).packet.contents
next_none closed draft = tt
next_none (cookie_wait my) draft = tt
next_none (cookie_echoed my held cookie) draft = tt
next_none (open_in phase my held) draft = tt

events_none : (events others : List (Event Emission)) → NoneEnds (packets_of_events events) → NoneEnds (packets_of_events others) → NoneEnds (packets_of_events (events ++ others))
events_none events others free free' = subst NoneEnds (sym (packets_of_events-append events others)) (both_none (packets_of_events events) (packets_of_events others) free free')

pub flush_none : (ask : Ask) (n : ℕ) (e : Endpoint) (draft : Emission) (answers : List Answer) → NoEnd draft.packet.contents → AreFlushAnswers ask n e draft answers → NoneEnds (packets_of_events (flush_of e draft answers).events)
flush_none _ _ _ _ _ free (at_limit ask e draft) = tt
flush_none _ _ _ _ _ free (at_empty ask more e draft answer is empty) = events_none (asked_outcome e draft answer).events [] (asked_none e draft answer free) tt
flush_none _ _ _ _ _ free (after_packet ask more e draft answer answers is some rest) =
    events_none (asked_outcome e draft answer).events (flush_of (asked_outcome e draft answer).after (next_draft e.core draft) answers).events (asked_none e draft answer free)
    (flush_none later_ask more (asked_outcome e draft answer).after (next_draft e.core draft) answers (next_none e.core draft) rest)

-- ---- what is sent

both_addressed : (to : ℕ) (one other : List Emission) → AreAddressed to one → AreAddressed to other → AreAddressed to (one ++ other)
both_addressed to [] other addressed addressed' = addressed'
both_addressed to (emission ∷ one) other addressed addressed' = (addressed.0, both_addressed to one other addressed.1 addressed')

flushed_addressed : (to : ℕ) (emissions : List Emission) → AllTo to emissions → NoneEnds emissions → AreAddressed to emissions
flushed_addressed to [] there free = tt
flushed_addressed to (emission ∷ emissions) there free = (inr (there.0, free.0), flushed_addressed to emissions there.1 free.1)

action_addressed : (came : Option Content) (to : ℕ) (old new : Ledger) → AreAddressed to old.sent → Action came to old new → AreAddressed to new.sent
action_addressed came to old _ addressed (queues now sending fits some) = addressed
action_addressed came to old _ addressed (sets setting small) = addressed
action_addressed came to old _ addressed (flushes e draft answers same at tag no_data no_end stale says allowed) =
    both_addressed to old.sent (packets_of_events (flush_of e draft answers).events) addressed
    (flushed_addressed to (packets_of_events (flush_of e draft answers).events)
    (subst (λ (t : ℕ). AllTo t (packets_of_events (flush_of e draft answers).events)) tag (flushes_to e draft answers (subst (λ (t : ℕ). IsPeerTag e.core t) (sym tag) at) allowed))
    (flush_none first_ask (packets_allowed e.options.max_burst e.core) e draft answers no_end allowed))
action_addressed came to old _ addressed (resends now room transfer left tsns chunks emission tag known sends are contents) =
    both_addressed to old.sent (emission ∷ []) addressed (inr (tag, subst NoEnd (sym contents) (plain_no_end chunks)), tt)
action_addressed came to old _ addressed (resends_nothing now room transfer left tsns known sends) = addressed
action_addressed came to old _ addressed (speaks emission no_data stale says) = both_addressed to old.sent (emission ∷ []) addressed (inl no_data, tt)
action_addressed came to old _ addressed (asks_again emission begun tag known contents) =
    both_addressed to old.sent (emission ∷ []) addressed (inr (tag, subst NoEnd (sym contents) tt), tt)
action_addressed came to old _ addressed (acknowledges now sack transfer new may known valid does) = addressed
action_addressed came to old _ addressed (loses now transfer known) = addressed
action_addressed came to old _ addressed (receives chunk transfer new is some known does) = addressed
action_addressed came to old _ addressed (receives_interleaved chunk transfer new is some known does) = addressed
action_addressed came to old _ addressed (forwards tsn streams transfer new is known does) = addressed
action_addressed came to old _ addressed (forwards_interleaved tsn streams transfer new is known does) = addressed
action_addressed came to old _ addressed (tracks transfer tracked known cumulative ranges) = addressed
action_addressed came to old _ addressed (times round_trip transfer known) = addressed
action_addressed came to old _ addressed (takes transfer message messages known ready) = addressed

pub data_goes_to_peer : (came : Option Content) (to : ℕ) (old new : Ledger) → AreAddressed to old.sent → Actions came to old new → AreAddressed to new.sent
data_goes_to_peer came to old _ addressed nothing = addressed
data_goes_to_peer came to old _ addressed (further between new first last) = action_addressed came to between new (data_goes_to_peer came to old between addressed first) last

-- ---- how it is let in

no_abort : (contents : List Content) → NoEnd contents → first_abort contents ≡ None
no_abort [] free = refl
no_abort (init introduction ∷ contents) free = absurd free
no_abort (init_ack introduction cookie ∷ contents) free = no_abort contents free
no_abort (cookie_echo cookie ∷ contents) free = no_abort contents free
no_abort (cookie_ack ∷ contents) free = no_abort contents free
no_abort (re_config parameters ∷ contents) free = no_abort contents free
no_abort (abort reflected causes ∷ contents) free = absurd free
no_abort (shutdown tsn ∷ contents) free = no_abort contents free
no_abort (shutdown_ack ∷ contents) free = no_abort contents free
no_abort (shutdown_complete reflected ∷ contents) free = absurd free
no_abort (plain chunk ∷ contents) free = no_abort contents free

no_complete : (contents : List Content) → NoEnd contents → first_shutdown_complete contents ≡ None
no_complete [] free = refl
no_complete (init introduction ∷ contents) free = absurd free
no_complete (init_ack introduction cookie ∷ contents) free = no_complete contents free
no_complete (cookie_echo cookie ∷ contents) free = no_complete contents free
no_complete (cookie_ack ∷ contents) free = no_complete contents free
no_complete (re_config parameters ∷ contents) free = no_complete contents free
no_complete (abort reflected causes ∷ contents) free = absurd free
no_complete (shutdown tsn ∷ contents) free = no_complete contents free
no_complete (shutdown_ack ∷ contents) free = no_complete contents free
no_complete (shutdown_complete reflected ∷ contents) free = absurd free
no_complete (plain chunk ∷ contents) free = no_complete contents free

no_init : (contents : List Content) → NoEnd contents → is_single_init contents ≡ false
no_init [] free = refl
no_init (content ∷ next ∷ contents) free = refl
no_init (init introduction ∷ []) free = absurd free
no_init (init_ack introduction cookie ∷ []) free = refl
no_init (cookie_echo cookie ∷ []) free = refl
no_init (cookie_ack ∷ []) free = refl
no_init (re_config parameters ∷ []) free = refl
no_init (abort reflected causes ∷ []) free = refl
no_init (shutdown tsn ∷ []) free = refl
no_init (shutdown_ack ∷ []) free = refl
no_init (shutdown_complete reflected ∷ []) free = refl
no_init (plain chunk ∷ []) free = refl

pub addressed_tags_are_own : (core : Core) (packet : Packet) → NoEnd packet.contents → is_echo_in_front packet.contents ≡ false → admits core packet ≡ all_chunks → packet.tag ≡ own_tag core
addressed_tags_are_own core packet free front admitted =
    tags_own core packet (no_abort packet.contents free) (no_complete packet.contents free) front (no_init packet.contents free) admitted
