-- What the user and the timers bring keeps what is true.
use Rattle.std.proofs.Common.{◌≡◌, ℕ, Bool, true, false, Option, None, Some, List, [], ◌∷◌, refl, sym, ◌∙◌}
use Rattle.dcsctp_spec_lemmas.specs.types.declared.association.Pair.{Pair}
use Rattle.dcsctp_spec_lemmas.specs.types.declared.association.Held.{Held}
use Rattle.dcsctp_spec_lemmas.specs.types.declared.options.Options.{Options}
use Rattle.dcsctp_spec_lemmas.specs.types.Offer.{Offer, offer_of}
use Rattle.dcsctp_spec_lemmas.specs.spec.Reconfiguration.{RequestedReset, renewed_reset}
use Rattle.dcsctp_spec_lemmas.specs.spec.endpoint.Endpoint.{Core, closed, cookie_wait, cookie_echoed, open_in, OpenPhase, established, shutdown_pending, shutdown_sent, shutdown_received, shutdown_ack_sent}
use Rattle.dcsctp_spec_lemmas.specs.spec.endpoint.Following.{next_chunk}
use Rattle.dcsctp_spec_lemmas.specs.spec.association.Effect.{Effect, begins, gives_up}
use Rattle.dcsctp_spec_lemmas.specs.spec.association.Choices.{Choices}
use Rattle.dcsctp_spec_lemmas.specs.spec.association.FlushChanges.{further_packets, flush, reset_request}
use Rattle.dcsctp_spec_lemmas.specs.spec.endpoint.Cause.{causes_of}
use Rattle.dcsctp_spec_lemmas.specs.spec.association.Acts.{Act, connect, t1_expires, shut_down, step_of_shutdown, shutdown_repeats, abort_with, flushes, request_again, request_renewed, hands_over, sent_then_flushed, hand_over_change_by_phase, hand_over_change, flush_change, request_sent, request_again_change, renewed_if_fitting, request_renewed_change, act_change}
use Rattle.dcsctp_spec_runs.specs.Past.{HasFreshTags}
use Rattle.dcsctp_spec_runs.specs.World.{after_effects}
use Rattle.dcsctp_theorem_association.proofs.Facts.{TrueEffects, TruePast, PeerFacts, TrueCore}
use Rattle.dcsctp_theorem_association.proofs.Growth.{same, after_within, effects-append, peer_grows}
use Rattle.dcsctp_theorem_association.proofs.Echoes.{AllEchoFree, free_append, free_is_only, one_echo_after}
use Rattle.dcsctp_theorem_association.proofs.Flushes.{further_true, further_free, alone_true, alone_free, flush_true, flush_free, flush_peer, flush_pair}
use Rattle.dcsctp_theorem_association.proofs.Turns.{Kept, stays_kept, unchanged_kept, ended_kept, open_kept}
use Rattle.dcsctp_theorem_association.proofs.HandshakeKept.{connect_kept, t1_again_kept, t1_gives_up_kept}
use Rattle.dcsctp_theorem_association.proofs.ShutdownKept.{step_kept, call_kept, aborts_kept, again_kept}

-- packets that don't concern an association, and a flush
sent_true : (my_offer their_offer : Offer) (mine theirs : List Effect) (held : Held) (choices : Choices) → TrueEffects my_offer their_offer mine theirs (sent_then_flushed held choices).effects
sent_true my_offer their_offer mine theirs held choices =
    effects-append my_offer their_offer mine theirs (further_packets held.peer.tag choices.plain) (flush held.peer.tag held [] choices.filling).effects
    (further_true my_offer their_offer mine theirs held.peer.tag choices.plain) (flush_true my_offer their_offer mine theirs held.peer.tag held [] choices.filling tt)

sent_free : (held : Held) (choices : Choices) → AllEchoFree (sent_then_flushed held choices).effects
sent_free held choices =
    free_append (further_packets held.peer.tag choices.plain) (flush held.peer.tag held [] choices.filling).effects
    (further_free held.peer.tag choices.plain) (flush_free held.peer.tag held [] choices.filling tt)

pub flush_kept : (my_offer their_offer : Offer) (mine theirs : List Effect) (core : Core) (choices : Choices)
    → TrueCore my_offer their_offer mine theirs core → Kept my_offer their_offer mine theirs (flush_change core choices)
flush_kept my_offer their_offer mine theirs closed choices h = unchanged_kept my_offer their_offer mine theirs closed h
flush_kept my_offer their_offer mine theirs (cookie_wait my) choices h = unchanged_kept my_offer their_offer mine theirs (cookie_wait my) h
flush_kept my_offer their_offer mine theirs (cookie_echoed my held bytes) choices h =
    let effects : List Effect = (sent_then_flushed held choices).effects in
    record {
      effects = sent_true my_offer their_offer mine theirs held choices;
      core = (
        peer_grows my_offer their_offer mine theirs (after_effects effects mine) theirs my (flush held.peer.tag held [] choices.filling).held (after_within effects mine) (same theirs)
            (flush_peer my_offer their_offer mine theirs my held.peer.tag held [] choices.filling h.0),
        one_echo_after my.tag bytes effects mine (free_is_only bytes effects (sent_free held choices)) h.1,
        record { cookie = h.2.cookie; reads = h.2.reads; maker = h.2.maker ∙ sym (flush_pair held.peer.tag held [] choices.filling); addressee = h.2.addressee; offer = h.2.offer },
      );
    }
flush_kept my_offer their_offer mine theirs (open_in phase my held) choices h =
    open_kept my_offer their_offer mine theirs phase my (flush held.peer.tag held [] choices.filling).held (sent_then_flushed held choices).effects next_chunk
    (flush_peer my_offer their_offer mine theirs my held.peer.tag held [] choices.filling h) (sent_true my_offer their_offer mine theirs held choices)

hand_over_in_kept : (my_offer their_offer : Offer) (mine theirs : List Effect) (phase : OpenPhase) (my : Pair) (held : Held)
    → PeerFacts my_offer their_offer mine theirs my held → Kept my_offer their_offer mine theirs (hand_over_change_by_phase phase my held)
hand_over_in_kept my_offer their_offer mine theirs established my held h = ended_kept my_offer their_offer mine theirs [] tt
hand_over_in_kept my_offer their_offer mine theirs shutdown_pending my held h = unchanged_kept my_offer their_offer mine theirs (open_in shutdown_pending my held) h
hand_over_in_kept my_offer their_offer mine theirs shutdown_sent my held h = unchanged_kept my_offer their_offer mine theirs (open_in shutdown_sent my held) h
hand_over_in_kept my_offer their_offer mine theirs shutdown_received my held h = unchanged_kept my_offer their_offer mine theirs (open_in shutdown_received my held) h
hand_over_in_kept my_offer their_offer mine theirs shutdown_ack_sent my held h = unchanged_kept my_offer their_offer mine theirs (open_in shutdown_ack_sent my held) h

hand_over_kept : (my_offer their_offer : Offer) (mine theirs : List Effect) (core : Core)
    → TrueCore my_offer their_offer mine theirs core → Kept my_offer their_offer mine theirs (hand_over_change core)
hand_over_kept my_offer their_offer mine theirs closed h = unchanged_kept my_offer their_offer mine theirs closed h
hand_over_kept my_offer their_offer mine theirs (cookie_wait my) h = unchanged_kept my_offer their_offer mine theirs (cookie_wait my) h
hand_over_kept my_offer their_offer mine theirs (cookie_echoed my held bytes) h = unchanged_kept my_offer their_offer mine theirs (cookie_echoed my held bytes) h
hand_over_kept my_offer their_offer mine theirs (open_in phase my held) h = hand_over_in_kept my_offer their_offer mine theirs phase my held h

request_true : (my_offer their_offer : Offer) (mine theirs : List Effect) (held : Held) (outstanding : Option ℕ) (reset : RequestedReset) (fits : Bool)
    → TrueEffects my_offer their_offer mine theirs (request_sent held outstanding reset fits)
request_true my_offer their_offer mine theirs held None reset fits = tt
request_true my_offer their_offer mine theirs held (Some number) reset fits = alone_true my_offer their_offer mine theirs fits held.peer.tag (reset_request number reset) (tt, tt)

request_free : (held : Held) (outstanding : Option ℕ) (reset : RequestedReset) (fits : Bool) → AllEchoFree (request_sent held outstanding reset fits)
request_free held None reset fits = tt
request_free held (Some number) reset fits = alone_free fits held.peer.tag (reset_request number reset) tt

request_kept : (my_offer their_offer : Offer) (mine theirs : List Effect) (core : Core) (reset : RequestedReset) (fits : Bool)
    → TrueCore my_offer their_offer mine theirs core → Kept my_offer their_offer mine theirs (request_again_change core reset fits)
request_kept my_offer their_offer mine theirs closed reset fits h = unchanged_kept my_offer their_offer mine theirs closed h
request_kept my_offer their_offer mine theirs (cookie_wait my) reset fits h = unchanged_kept my_offer their_offer mine theirs (cookie_wait my) h
request_kept my_offer their_offer mine theirs (cookie_echoed my held bytes) reset fits h =
    stays_kept my_offer their_offer mine theirs (cookie_echoed my held bytes) (request_sent held held.own_outstanding reset fits) next_chunk h
    (request_true my_offer their_offer mine theirs held held.own_outstanding reset fits) (request_free held held.own_outstanding reset fits)
request_kept my_offer their_offer mine theirs (open_in phase my held) reset fits h =
    stays_kept my_offer their_offer mine theirs (open_in phase my held) (request_sent held held.own_outstanding reset fits) next_chunk h
    (request_true my_offer their_offer mine theirs held held.own_outstanding reset fits) (request_free held held.own_outstanding reset fits)

-- A request that is sent again under the next number changes only our own numbers.
renewed_true : (my_offer their_offer : Offer) (mine theirs : List Effect) (held : Held) (outstanding : Option ℕ) (reset : RequestedReset) (fits : Bool)
    → TrueEffects my_offer their_offer mine theirs (renewed_if_fitting held outstanding reset fits).effects
renewed_true my_offer their_offer mine theirs held None reset fits = tt
renewed_true my_offer their_offer mine theirs held (Some number) reset false = tt
renewed_true my_offer their_offer mine theirs held (Some number) reset true =
    (tt, (tt, alone_true my_offer their_offer (begins held.own_next ∷ gives_up number ∷ mine) theirs true held.peer.tag (reset_request held.own_next (renewed_reset reset)) (tt, tt)))

renewed_free : (held : Held) (outstanding : Option ℕ) (reset : RequestedReset) (fits : Bool) → AllEchoFree (renewed_if_fitting held outstanding reset fits).effects
renewed_free held None reset fits = tt
renewed_free held (Some number) reset false = tt
renewed_free held (Some number) reset true = (tt, (tt, (tt, tt)))

renewed_peer : (my_offer their_offer : Offer) (mine theirs : List Effect) (my : Pair) (held : Held) (outstanding : Option ℕ) (reset : RequestedReset) (fits : Bool)
    → PeerFacts my_offer their_offer mine theirs my held → PeerFacts my_offer their_offer mine theirs my (renewed_if_fitting held outstanding reset fits).held
renewed_peer my_offer their_offer mine theirs my held None reset fits h = h
renewed_peer my_offer their_offer mine theirs my held (Some number) reset false h = h
renewed_peer my_offer their_offer mine theirs my held (Some number) reset true h =
    record { my_drawn = h.my_drawn; peer_drawn = h.peer_drawn; capabilities = h.capabilities; shown = h.shown; nothing = h.nothing; performed = h.performed }

renewed_pair : (held : Held) (outstanding : Option ℕ) (reset : RequestedReset) (fits : Bool) → (renewed_if_fitting held outstanding reset fits).held.peer ≡ held.peer
renewed_pair held None reset fits = refl
renewed_pair held (Some number) reset false = refl
renewed_pair held (Some number) reset true = refl

renewed_kept : (my_offer their_offer : Offer) (mine theirs : List Effect) (core : Core) (reset : RequestedReset) (fits : Bool)
    → TrueCore my_offer their_offer mine theirs core → Kept my_offer their_offer mine theirs (request_renewed_change core reset fits)
renewed_kept my_offer their_offer mine theirs closed reset fits h = unchanged_kept my_offer their_offer mine theirs closed h
renewed_kept my_offer their_offer mine theirs (cookie_wait my) reset fits h = unchanged_kept my_offer their_offer mine theirs (cookie_wait my) h
renewed_kept my_offer their_offer mine theirs (cookie_echoed my held bytes) reset fits h =
    let number : Option ℕ = held.own_outstanding in
    let effects : List Effect = (renewed_if_fitting held number reset fits).effects in
    record {
      effects = renewed_true my_offer their_offer mine theirs held number reset fits;
      core = (
        peer_grows my_offer their_offer mine theirs (after_effects effects mine) theirs my (renewed_if_fitting held number reset fits).held (after_within effects mine) (same theirs)
            (renewed_peer my_offer their_offer mine theirs my held number reset fits h.0),
        one_echo_after my.tag bytes effects mine (free_is_only bytes effects (renewed_free held number reset fits)) h.1,
        record { cookie = h.2.cookie; reads = h.2.reads; maker = h.2.maker ∙ sym (renewed_pair held number reset fits); addressee = h.2.addressee; offer = h.2.offer },
      );
    }
renewed_kept my_offer their_offer mine theirs (open_in phase my held) reset fits h =
    let number : Option ℕ = held.own_outstanding in
    open_kept my_offer their_offer mine theirs phase my (renewed_if_fitting held number reset fits).held (renewed_if_fitting held number reset fits).effects next_chunk
    (renewed_peer my_offer their_offer mine theirs my held number reset fits h) (renewed_true my_offer their_offer mine theirs held number reset fits)

pub act_kept : (options : Options) (their_offer : Offer) (mine theirs : List Effect) (core : Core) (act : Act) (choices : Choices)
    → TruePast (offer_of options) their_offer mine theirs → TrueCore (offer_of options) their_offer mine theirs core
    → HasFreshTags (after_effects (act_change options core act choices).effects mine)
    → Kept (offer_of options) their_offer mine theirs (act_change options core act choices)
act_kept options their_offer mine theirs core connect choices past h fresh = connect_kept options their_offer mine theirs core choices past h fresh
act_kept options their_offer mine theirs core (t1_expires true) choices past h fresh = t1_again_kept options their_offer mine theirs core choices h
act_kept options their_offer mine theirs core (t1_expires false) choices past h fresh = t1_gives_up_kept (offer_of options) their_offer mine theirs core h
act_kept options their_offer mine theirs core shut_down choices past h fresh = call_kept options (offer_of options) their_offer mine theirs core choices.tsn choices.is_acknowledged h
act_kept options their_offer mine theirs core step_of_shutdown choices past h fresh = step_kept (offer_of options) their_offer mine theirs core choices.tsn choices.is_acknowledged h
act_kept options their_offer mine theirs core shutdown_repeats choices past h fresh = again_kept (offer_of options) their_offer mine theirs core choices.tsn h
act_kept options their_offer mine theirs core (abort_with reason) choices past h fresh = aborts_kept (offer_of options) their_offer mine theirs core (causes_of reason) choices.fits h
act_kept options their_offer mine theirs core flushes choices past h fresh = flush_kept (offer_of options) their_offer mine theirs core choices h
act_kept options their_offer mine theirs core (request_again reset) choices past h fresh = request_kept (offer_of options) their_offer mine theirs core reset choices.fits h
act_kept options their_offer mine theirs core (request_renewed reset) choices past h fresh = renewed_kept (offer_of options) their_offer mine theirs core reset choices.fits h
act_kept options their_offer mine theirs core hands_over choices past h fresh = hand_over_kept (offer_of options) their_offer mine theirs core h
