-- Each turn of a socket is a list of actions.
use Rattle.dcsctp_delivery_sockets.specs.turns.Actions as actions
use Rattle.std.proofs.Common.{◌≡◌, ◌<◌, ◌^◌, ◌∙◌, ap, ℕ, Option, List, true, false, None, Some, refl, sym, subst}
use Rattle.dcsctp_spec_lemmas.specs.spec.Cookie.{cookie_of_bytes}
use Rattle.dcsctp_spec_lemmas.specs.spec.Packet.{Content, init, init_ack, cookie_echo, cookie_ack, re_config, abort, shutdown, shutdown_ack, shutdown_complete, plain}
use Rattle.dcsctp_spec_lemmas.specs.spec.endpoint.Endpoint.{held_by_core, Endpoint, Core, closed, cookie_wait, cookie_echoed, open_in}
use Rattle.dcsctp_spec_lemmas.specs.spec.endpoint.Outcome.{Outcome}
use Rattle.dcsctp_spec_lemmas.specs.spec.endpoint.Turn.{Input, arrival, refusal, packet_begins, chunk_input, packet_ends, act_input, user_sets, user_sends, user_resets, user_takes, timer_expires, time_passes, restores, has_data_chunk, ContentTurn, ActTurn, Turn}
use Rattle.dcsctp_spec_lemmas.specs.spec.association.Acts.{Act, connect, t1_expires, shut_down, step_of_shutdown, shutdown_repeats, abort_with, hands_over, flushes, request_again, request_renewed}
use Rattle.dcsctp_spec_lemmas.specs.spec.endpoint.TimerOutcomes.{endpoint_with_t1_continued}
use Rattle.std.specs.List.{AllByRecursion}
use Rattle.dcsctp_spec_lemmas.specs.spec.endpoint.Event.{packets_of_events}
use Rattle.dcsctp_spec_lemmas.specs.spec.endpoint.PreparedResets.{ResetRefusal, refusal_of_peer, reset_refusal, PreparesUnlessRefused}
use Rattle.dcsctp_spec_lemmas.specs.spec.association.Effect.{identity_of_core}
use Rattle.dcsctp_delivery_sockets.specs.turns.Runs.{accepted_streams, accepted_resets}
use Rattle.dcsctp_delivery_sockets.specs.turns.Actions.{MakesAlso, IsCalm, inside, Becomes, resets_streams, streams_user_resets, goes_on, pauses, prepared_inside, content_of_input, queued_after, read_after, IsCall, peer_tag}
use Rattle.dcsctp_delivery_sockets.specs.turns.Tags.{IsPeerTag}
use Rattle.dcsctp_delivery_sockets.proofs.turns.Actions.{Goes, rests, action_of}
use Rattle.dcsctp_delivery_sockets.proofs.turns.Handshake.{again_link, init_goes, connect_goes, init_ack_goes, cookie_ack_goes, echo_goes, hand_over_goes, abort_goes, aborting_goes, again_goes, gives_up_goes}
use Rattle.dcsctp_delivery_sockets.proofs.turns.Shutdown.{step_link, step_makes, shut_down_goes, shutdown_ack_goes, shutdown_complete_goes, t2_again_goes, begin_goes}
use Rattle.dcsctp_delivery_sockets.proofs.turns.Data.{turn_link, flush_makes, end_goes}
use Rattle.dcsctp_delivery_sockets.proofs.turns.HeardShutdown.{heard_goes}
use Rattle.dcsctp_delivery_sockets.proofs.turns.Messages.{take_goes, send_goes, own_resets_go, resets_prepare}
use Rattle.dcsctp_delivery_sockets.proofs.turns.Resets.{reset_goes, idle_goes}
use Rattle.dcsctp_delivery_sockets.proofs.turns.Others.{plain_goes, timer_goes}
use Rattle.dcsctp_spec_lemmas.proofs.EarlyLemmas.{content_by}

pub own_peer : (core : Core) → IsPeerTag core (peer_tag core)
own_peer closed = tt
own_peer (cookie_wait my) = tt
own_peer (cookie_echoed my held cookie) = refl
own_peer (open_in phase my held) = refl

-- no chunk is handled
pub none_calm : IsCalm None
none_calm = λ parameters is. absurd (cc)

content_goes : (e : Endpoint) (tag : ℕ) (content : Content) (o : Outcome) → ContentTurn e tag content o → Goes (Some content) (peer_tag e.core) e o
content_goes e tag (init theirs) o turn = subst (Goes _ (peer_tag e.core) e) (sym turn.2) (init_goes _ (λ parameters is. absurd (cc)) (peer_tag e.core) e theirs turn.0 turn.1)
content_goes e tag (init_ack theirs cookie) o turn = subst (Goes _ (peer_tag e.core) e) (sym turn.3) (init_ack_goes (Some (init_ack theirs cookie)) (λ parameters is. absurd (cc)) (peer_tag e.core) tt e theirs cookie e.core turn.0 turn.1 turn.2)
content_goes e tag (cookie_echo bytes) o turn = subst (Goes _ (peer_tag e.core) e) (sym turn.3) (echo_goes (Some (cookie_echo bytes)) (λ parameters is. absurd (cc)) (peer_tag e.core) tt e e.core tag (cookie_of_bytes bytes) turn.0 turn.1 refl (own_peer e.core) (own_peer e.core) turn.2)
content_goes e tag cookie_ack o turn = subst (Goes _ (peer_tag e.core) e) (sym turn.2) (cookie_ack_goes _ (λ parameters is. absurd (cc)) (peer_tag e.core) e e.core turn.0 refl (own_peer e.core) turn.1)
content_goes e tag (re_config parameters) o turn =
    content_by e tag (re_config parameters) o (λ dropped. subst (Goes _ (peer_tag e.core) e) (sym dropped) (idle_goes (peer_tag e.core) e parameters))
    (λ handled. reset_goes (peer_tag e.core) e e.core parameters o refl (own_peer e.core) (own_peer e.core) handled) turn
content_goes e tag (abort reflected causes) o turn = subst (Goes _ (peer_tag e.core) e) (sym turn) (abort_goes _ (λ parameters is. absurd (cc)) (peer_tag e.core) e causes e.core)
content_goes e tag (shutdown tsn) o turn = heard_goes (Some (shutdown tsn)) (λ parameters is. absurd (cc)) tsn refl (peer_tag e.core) e e.core o refl (own_peer e.core) turn
content_goes e tag shutdown_ack o turn = subst (Goes _ (peer_tag e.core) e) (sym turn) (shutdown_ack_goes _ (λ parameters is. absurd (cc)) (peer_tag e.core) e e.core tag)
content_goes e tag (shutdown_complete reflected) o turn = subst (Goes _ (peer_tag e.core) e) (sym turn) (shutdown_complete_goes _ (λ parameters is. absurd (cc)) (peer_tag e.core) e e.core)
content_goes e tag (plain chunk) o turn =
    content_by e tag (plain chunk) o
    (λ dropped. subst (Goes _ (peer_tag e.core) e) (sym dropped) (goes_on (λ parameters is. absurd (cc)) refl (rests (Some (plain chunk)) (peer_tag e.core) (inside e))))
    (λ handled. plain_goes (peer_tag e.core) e chunk o (own_peer e.core) handled) turn

act_goes : (e : Endpoint) (act : Act) (o : Outcome) → IsCall (act_input act) → ActTurn e act o → Goes None (peer_tag e.core) e o
act_goes e connect o may turn = subst (Goes None (peer_tag e.core) e) (sym turn.2) (connect_goes None none_calm (peer_tag e.core) e e.core turn.0 turn.1 refl)
act_goes e (t1_expires true) o may turn = subst (Goes None (peer_tag e.core) e) (sym turn.2) (goes_on none_calm (again_link None none_calm (peer_tag e.core) (endpoint_with_t1_continued e) e.core turn.0 turn.1) (again_goes None none_calm (peer_tag e.core) (endpoint_with_t1_continued e) e.core turn.0 (own_peer e.core) (own_peer e.core) turn.1))
act_goes e (t1_expires false) o may turn = subst (Goes None (peer_tag e.core) e) (sym turn) (gives_up_goes None none_calm (peer_tag e.core) e e.core)
act_goes e shut_down o may turn = subst (Goes None (peer_tag e.core) e) (sym turn) (shut_down_goes None none_calm (peer_tag e.core) e e.core refl (own_peer e.core))
act_goes e step_of_shutdown o may turn = subst (Goes None (peer_tag e.core) e) (sym turn) (goes_on none_calm (step_link e e.core refl) (step_makes None none_calm (peer_tag e.core) e e.core refl (own_peer e.core)))
act_goes e shutdown_repeats o may turn = subst (Goes None (peer_tag e.core) e) (sym turn) (t2_again_goes None none_calm (peer_tag e.core) e (own_peer e.core))
act_goes e (abort_with reason) o may turn = subst (Goes None (peer_tag e.core) e) (sym turn) (aborting_goes None none_calm (peer_tag e.core) e e.core reason)
act_goes e hands_over o may turn = subst (Goes None (peer_tag e.core) e) (sym turn) (hand_over_goes None none_calm (peer_tag e.core) e e.core)
act_goes e flushes o may turn = goes_on none_calm (turn_link e o turn) (flush_makes None none_calm (peer_tag e.core) e o (own_peer e.core) turn)
act_goes e (request_again reset) o may turn = absurd may
act_goes e (request_renewed reset) o may turn = absurd may

-- A call that resets streams and isn't refused: these are prepared first, and the association continues.
pub record Prepares (e : Endpoint) (input : Input) (o : Outcome) (ids : List ℕ) : Type 0 where
  pub resets : streams_user_resets input ≡ Some ids
  pub accepted : reset_refusal e ≡ None
  pub small : AllByRecursion (λ id. id < 2 ^ 16) ids
  pub linked : identity_of_core o.after.core ≡ identity_of_core e.core
  pub makes : MakesAlso (content_of_input input) (peer_tag e.core) (queued_after e input) (read_after e input) (prepared_inside ids (inside e)) (packets_of_events o.events) (inside o.after)

prepares_where : (found : Option ResetRefusal) (e : Endpoint) (named ids : List ℕ) (o : Outcome) → reset_refusal e ≡ found → AllByRecursion (λ id. id < 2 ^ 16) named → PreparesUnlessRefused found e named o → accepted_streams found named ≡ Some ids → Prepares e (user_resets named) o ids
prepares_where None e named ids o is may turn same =
    let one : named ≡ ids = cc in
    subst (Prepares e (user_resets named) o) one (let made = resets_prepare None none_calm (peer_tag e.core) e named o (own_peer e.core) turn in record { resets = refl; accepted = is; small = may; linked = made.0; makes = made.1 })
prepares_where (Some why) e named ids o is may turn same = absurd (cc)

-- So it is of each call that isn't refused.
pub accepted_is : (e : Endpoint) (input : Input) (ids : List ℕ) → streams_user_resets input ≡ Some ids → reset_refusal e ≡ None → accepted_resets e input ≡ Some ids
accepted_is e arrival ids is accepted = absurd (cc)
accepted_is e (refusal text) ids is accepted = absurd (cc)
accepted_is e (packet_begins contents) ids is accepted = absurd (cc)
accepted_is e (chunk_input tag content) ids is accepted = absurd (cc)
accepted_is e packet_ends ids is accepted = absurd (cc)
accepted_is e (act_input act) ids is accepted = absurd (cc)
accepted_is e (user_sets setting) ids is accepted = absurd (cc)
accepted_is e (user_sends messages) ids is accepted = absurd (cc)
accepted_is e (user_resets named) ids is accepted = ap (λ (found : Option ResetRefusal). accepted_streams found named) accepted ∙ is
accepted_is e user_takes ids is accepted = absurd (cc)
accepted_is e (timer_expires timer) ids is accepted = absurd (cc)
accepted_is e (time_passes moment) ids is accepted = absurd (cc)
accepted_is e (restores state) ids is accepted = absurd (cc)

-- There is a peer then.
pub accepted_linked : (e : Endpoint) (input : Input) (ids : List ℕ) → accepted_resets e input ≡ Some ids → identity_of_core e.core ≡ None → ⊥
accepted_linked e arrival ids is none = cc
accepted_linked e (refusal text) ids is none = cc
accepted_linked e (packet_begins contents) ids is none = cc
accepted_linked e (chunk_input tag content) ids is none = cc
accepted_linked e packet_ends ids is none = cc
accepted_linked e (act_input act) ids is none = cc
accepted_linked e (user_sets setting) ids is none = cc
accepted_linked e (user_sends messages) ids is none = cc
accepted_linked e (user_resets named) ids is none = by_core e.core none is
  where
    by_core : (core : Core) → identity_of_core core ≡ None → accepted_streams (refusal_of_peer (held_by_core core)) named ≡ Some ids → ⊥
    by_core closed unlinked accepted = cc
    by_core (cookie_wait my) unlinked accepted = cc
    by_core (cookie_echoed my held cookie) unlinked accepted = cc
    by_core (open_in phase my held) unlinked accepted = cc
accepted_linked e user_takes ids is none = cc
accepted_linked e (timer_expires timer) ids is none = cc
accepted_linked e (time_passes moment) ids is none = cc
accepted_linked e (restores state) ids is none = cc

pub accepted_prepares : (e : Endpoint) (input : Input) (o : Outcome) (ids : List ℕ) → IsCall input → Turn e input o → accepted_resets e input ≡ Some ids → Prepares e input o ids
accepted_prepares e arrival o ids may turn is = absurd (cc)
accepted_prepares e (refusal text) o ids may turn is = absurd (cc)
accepted_prepares e (packet_begins contents) o ids may turn is = absurd (cc)
accepted_prepares e (chunk_input tag content) o ids may turn is = absurd (cc)
accepted_prepares e packet_ends o ids may turn is = absurd (cc)
accepted_prepares e (act_input act) o ids may turn is = absurd (cc)
accepted_prepares e (user_sets setting) o ids may turn is = absurd (cc)
accepted_prepares e (user_sends messages) o ids may turn is = absurd (cc)
accepted_prepares e (user_resets named) o ids may turn is = prepares_where (reset_refusal e) e named ids o refl may turn is
accepted_prepares e user_takes o ids may turn is = absurd (cc)
accepted_prepares e (timer_expires timer) o ids may turn is = absurd (cc)
accepted_prepares e (time_passes moment) o ids may turn is = absurd (cc)
accepted_prepares e (restores state) o ids may turn is = absurd (cc)

pub turns_are_actions : (e : Endpoint) (input : Input) (o : Outcome) → IsCall input → Turn e input o → Becomes (streams_user_resets input) (content_of_input input) (peer_tag e.core) (queued_after e input) (read_after e input) e o
turns_are_actions e arrival o may turn = subst (Goes None (peer_tag e.core) e) (sym turn) (goes_on none_calm refl (rests None (peer_tag e.core) (inside e)))
turns_are_actions e (refusal text) o may turn = subst (Goes None (peer_tag e.core) e) (sym turn) (goes_on none_calm refl (rests None (peer_tag e.core) (inside e)))
turns_are_actions e (packet_begins contents) o may turn = begin_goes None none_calm (peer_tag e.core) e e.core (has_data_chunk e.options.follow_rfc contents) o (own_peer e.core) turn
turns_are_actions e (chunk_input tag content) o may turn = content_goes e tag content o turn
turns_are_actions e packet_ends o may turn = end_goes None none_calm (peer_tag e.core) e e.queues.transfer o (own_peer e.core) refl turn
turns_are_actions e (act_input act) o may turn = act_goes e act o may turn
turns_are_actions e (user_sets setting) o may turn = subst (Goes None (peer_tag e.core) e) (sym turn) (goes_on none_calm refl (action_of None (peer_tag e.core) (inside e) _ (λ queued sent read asking. actions.sets setting may)))
turns_are_actions e (user_sends messages) o may turn = send_goes None none_calm (peer_tag e.core) e messages o (own_peer e.core) may turn
turns_are_actions e (user_resets ids) o may turn = own_resets_go None none_calm (peer_tag e.core) e ids o may (own_peer e.core) turn
turns_are_actions e user_takes o may turn = take_goes None none_calm (peer_tag e.core) e e.queues.transfer o refl turn
turns_are_actions e (timer_expires timer) o may turn = timer_goes None none_calm (peer_tag e.core) e timer o (own_peer e.core) turn
turns_are_actions e (time_passes moment) o may turn = subst (Goes None (peer_tag e.core) e) (sym turn) (goes_on none_calm refl (rests None (peer_tag e.core) (inside e)))
turns_are_actions e (restores state) o may turn = absurd may
