-- Shutdown and the ends of an association keep what is true.
use Rattle.std.proofs.Common.{ℕ, Bool, true, false, List, [], ◌∷◌}
use Rattle.dcsctp_spec_lemmas.specs.types.declared.association.Pair.{Pair}
use Rattle.dcsctp_spec_lemmas.specs.types.declared.association.Held.{Held}
use Rattle.dcsctp_spec_lemmas.specs.types.Offer.{Offer}
use Rattle.dcsctp_spec_lemmas.specs.spec.endpoint.Cause.{Cause}
use Rattle.dcsctp_spec_lemmas.specs.spec.Packet.{Content, abort, shutdown, shutdown_ack, shutdown_complete}
use Rattle.dcsctp_spec_lemmas.specs.spec.endpoint.Endpoint.{Core, closed, cookie_wait, cookie_echoed, open_in, OpenPhase, established, shutdown_pending, shutdown_sent, shutdown_received, shutdown_ack_sent}
use Rattle.dcsctp_spec_lemmas.specs.spec.endpoint.Following.{Following, next_chunk}
use Rattle.dcsctp_spec_lemmas.specs.types.declared.options.Options.{Options}
use Rattle.dcsctp_spec_lemmas.specs.spec.association.Effect.{Effect, emission_effects}
use Rattle.dcsctp_spec_lemmas.specs.spec.association.ShutdownChanges.{shutdown_call_change_echoed, sending_change, shutdown_step_change_by_phase, shutdown_step_change, shutdown_call_change_by_phase, shutdown_call_change, abort_call_change, shutdown_again_change_by_phase, shutdown_again_change, abort_change, shutdown_change_by_phase, shutdown_change, reflected_change, shutdown_ack_change_by_phase, shutdown_ack_change, shutdown_complete_change_by_phase, shutdown_complete_change}
use Rattle.dcsctp_spec_lemmas.proofs.AbortLemmas.{by_abort}
use Rattle.dcsctp_theorem_association.proofs.Facts.{TrueContents, PeerFacts, TrueCore}
use Rattle.dcsctp_theorem_association.proofs.Flushes.{alone_true, emitted_true}
use Rattle.dcsctp_theorem_association.proofs.Turns.{Kept, stays_kept, unchanged_kept, ended_kept, open_kept}

-- ---- where an association is open

in_kept : (my_offer their_offer : Offer) (mine theirs : List Effect) (phase : OpenPhase) (my : Pair) (held : Held) (contents : List Content)
    → PeerFacts my_offer their_offer mine theirs my held → TrueContents my_offer their_offer mine theirs held.peer.tag contents
    → Kept my_offer their_offer mine theirs (sending_change phase my held contents)
in_kept my_offer their_offer mine theirs phase my held contents h is =
    open_kept my_offer their_offer mine theirs phase my held (emission_effects held.peer.tag contents) next_chunk h (emitted_true my_offer their_offer mine theirs held.peer.tag contents is)

step_in_kept : (my_offer their_offer : Offer) (mine theirs : List Effect) (phase : OpenPhase) (my : Pair) (held : Held) (tsn : ℕ) (is_acknowledged : Bool)
    → PeerFacts my_offer their_offer mine theirs my held → Kept my_offer their_offer mine theirs (shutdown_step_change_by_phase phase my held tsn is_acknowledged)
step_in_kept my_offer their_offer mine theirs established my held tsn is_acknowledged h = in_kept my_offer their_offer mine theirs established my held [] h tt
step_in_kept my_offer their_offer mine theirs shutdown_pending my held tsn false h = in_kept my_offer their_offer mine theirs shutdown_pending my held [] h tt
step_in_kept my_offer their_offer mine theirs shutdown_pending my held tsn true h = in_kept my_offer their_offer mine theirs shutdown_sent my held (shutdown tsn ∷ []) h (tt, tt)
step_in_kept my_offer their_offer mine theirs shutdown_sent my held tsn is_acknowledged h = in_kept my_offer their_offer mine theirs shutdown_sent my held [] h tt
step_in_kept my_offer their_offer mine theirs shutdown_received my held tsn false h = in_kept my_offer their_offer mine theirs shutdown_received my held [] h tt
step_in_kept my_offer their_offer mine theirs shutdown_received my held tsn true h = in_kept my_offer their_offer mine theirs shutdown_ack_sent my held (shutdown_ack ∷ []) h (tt, tt)
step_in_kept my_offer their_offer mine theirs shutdown_ack_sent my held tsn is_acknowledged h = in_kept my_offer their_offer mine theirs shutdown_ack_sent my held [] h tt

call_in_kept : (my_offer their_offer : Offer) (mine theirs : List Effect) (phase : OpenPhase) (my : Pair) (held : Held) (tsn : ℕ) (is_acknowledged : Bool)
    → PeerFacts my_offer their_offer mine theirs my held → Kept my_offer their_offer mine theirs (shutdown_call_change_by_phase phase my held tsn is_acknowledged)
call_in_kept my_offer their_offer mine theirs established my held tsn is_acknowledged h = step_in_kept my_offer their_offer mine theirs shutdown_pending my held tsn is_acknowledged h
call_in_kept my_offer their_offer mine theirs shutdown_pending my held tsn is_acknowledged h = unchanged_kept my_offer their_offer mine theirs (open_in shutdown_pending my held) h
call_in_kept my_offer their_offer mine theirs shutdown_sent my held tsn is_acknowledged h = unchanged_kept my_offer their_offer mine theirs (open_in shutdown_sent my held) h
call_in_kept my_offer their_offer mine theirs shutdown_received my held tsn is_acknowledged h = unchanged_kept my_offer their_offer mine theirs (open_in shutdown_received my held) h
call_in_kept my_offer their_offer mine theirs shutdown_ack_sent my held tsn is_acknowledged h = unchanged_kept my_offer their_offer mine theirs (open_in shutdown_ack_sent my held) h

again_in_kept : (my_offer their_offer : Offer) (mine theirs : List Effect) (phase : OpenPhase) (my : Pair) (held : Held) (tsn : ℕ)
    → PeerFacts my_offer their_offer mine theirs my held → Kept my_offer their_offer mine theirs (shutdown_again_change_by_phase phase my held tsn)
again_in_kept my_offer their_offer mine theirs established my held tsn h = unchanged_kept my_offer their_offer mine theirs (open_in established my held) h
again_in_kept my_offer their_offer mine theirs shutdown_pending my held tsn h = unchanged_kept my_offer their_offer mine theirs (open_in shutdown_pending my held) h
again_in_kept my_offer their_offer mine theirs shutdown_sent my held tsn h = in_kept my_offer their_offer mine theirs shutdown_sent my held (shutdown tsn ∷ []) h (tt, tt)
again_in_kept my_offer their_offer mine theirs shutdown_received my held tsn h = unchanged_kept my_offer their_offer mine theirs (open_in shutdown_received my held) h
again_in_kept my_offer their_offer mine theirs shutdown_ack_sent my held tsn h = in_kept my_offer their_offer mine theirs shutdown_ack_sent my held (shutdown_ack ∷ []) h (tt, tt)

change_in_kept : (my_offer their_offer : Offer) (mine theirs : List Effect) (phase : OpenPhase) (my : Pair) (held : Held) (tsn : ℕ) (is_acknowledged : Bool)
    → PeerFacts my_offer their_offer mine theirs my held → Kept my_offer their_offer mine theirs (shutdown_change_by_phase phase my held tsn is_acknowledged)
change_in_kept my_offer their_offer mine theirs established my held tsn is_acknowledged h = step_in_kept my_offer their_offer mine theirs shutdown_received my held tsn is_acknowledged h
change_in_kept my_offer their_offer mine theirs shutdown_pending my held tsn is_acknowledged h = step_in_kept my_offer their_offer mine theirs shutdown_received my held tsn is_acknowledged h
change_in_kept my_offer their_offer mine theirs shutdown_sent my held tsn is_acknowledged h = in_kept my_offer their_offer mine theirs shutdown_ack_sent my held (shutdown_ack ∷ []) h (tt, tt)
change_in_kept my_offer their_offer mine theirs shutdown_received my held tsn is_acknowledged h = step_in_kept my_offer their_offer mine theirs shutdown_received my held tsn is_acknowledged h
change_in_kept my_offer their_offer mine theirs shutdown_ack_sent my held tsn is_acknowledged h = in_kept my_offer their_offer mine theirs shutdown_ack_sent my held (shutdown_ack ∷ []) h (tt, tt)

reflects_kept : (my_offer their_offer : Offer) (mine theirs : List Effect) (core : Core) (header : ℕ) (following : Following) → TrueCore my_offer their_offer mine theirs core
    → Kept my_offer their_offer mine theirs (reflected_change core header following)
reflects_kept my_offer their_offer mine theirs core header following h = stays_kept my_offer their_offer mine theirs core (emission_effects header (shutdown_complete true ∷ [])) following h ((tt, tt), tt) (tt, tt)

ack_in_kept : (my_offer their_offer : Offer) (mine theirs : List Effect) (phase : OpenPhase) (my : Pair) (held : Held) (header : ℕ) (following : Following)
    → PeerFacts my_offer their_offer mine theirs my held → Kept my_offer their_offer mine theirs (shutdown_ack_change_by_phase phase my held header following)
ack_in_kept my_offer their_offer mine theirs established my held header following h = reflects_kept my_offer their_offer mine theirs (open_in established my held) header following h
ack_in_kept my_offer their_offer mine theirs shutdown_pending my held header following h = reflects_kept my_offer their_offer mine theirs (open_in shutdown_pending my held) header following h
ack_in_kept my_offer their_offer mine theirs shutdown_sent my held header following h = ended_kept my_offer their_offer mine theirs (emission_effects held.peer.tag (shutdown_complete false ∷ [])) ((tt, tt), tt)
ack_in_kept my_offer their_offer mine theirs shutdown_received my held header following h = reflects_kept my_offer their_offer mine theirs (open_in shutdown_received my held) header following h
ack_in_kept my_offer their_offer mine theirs shutdown_ack_sent my held header following h = ended_kept my_offer their_offer mine theirs (emission_effects held.peer.tag (shutdown_complete false ∷ [])) ((tt, tt), tt)

complete_in_kept : (my_offer their_offer : Offer) (mine theirs : List Effect) (phase : OpenPhase) (my : Pair) (held : Held)
    → PeerFacts my_offer their_offer mine theirs my held → Kept my_offer their_offer mine theirs (shutdown_complete_change_by_phase phase my held)
complete_in_kept my_offer their_offer mine theirs established my held h = unchanged_kept my_offer their_offer mine theirs (open_in established my held) h
complete_in_kept my_offer their_offer mine theirs shutdown_pending my held h = unchanged_kept my_offer their_offer mine theirs (open_in shutdown_pending my held) h
complete_in_kept my_offer their_offer mine theirs shutdown_sent my held h = unchanged_kept my_offer their_offer mine theirs (open_in shutdown_sent my held) h
complete_in_kept my_offer their_offer mine theirs shutdown_received my held h = unchanged_kept my_offer their_offer mine theirs (open_in shutdown_received my held) h
complete_in_kept my_offer their_offer mine theirs shutdown_ack_sent my held h = ended_kept my_offer their_offer mine theirs [] tt

-- ---- in every phase

pub step_kept : (my_offer their_offer : Offer) (mine theirs : List Effect) (core : Core) (tsn : ℕ) (is_acknowledged : Bool)
    → TrueCore my_offer their_offer mine theirs core → Kept my_offer their_offer mine theirs (shutdown_step_change core tsn is_acknowledged)
step_kept my_offer their_offer mine theirs closed tsn is_acknowledged h = unchanged_kept my_offer their_offer mine theirs closed h
step_kept my_offer their_offer mine theirs (cookie_wait my) tsn is_acknowledged h = unchanged_kept my_offer their_offer mine theirs (cookie_wait my) h
step_kept my_offer their_offer mine theirs (cookie_echoed my held bytes) tsn is_acknowledged h = unchanged_kept my_offer their_offer mine theirs (cookie_echoed my held bytes) h
step_kept my_offer their_offer mine theirs (open_in phase my held) tsn is_acknowledged h = step_in_kept my_offer their_offer mine theirs phase my held tsn is_acknowledged h

echoed_kept : (follows : Bool) (my_offer their_offer : Offer) (mine theirs : List Effect) (my : Pair) (held : Held) (bytes : List ℕ) (tsn : ℕ) (is_acknowledged : Bool)
    → TrueCore my_offer their_offer mine theirs (cookie_echoed my held bytes)
    → Kept my_offer their_offer mine theirs (shutdown_call_change_echoed follows my held bytes tsn is_acknowledged)
echoed_kept true my_offer their_offer mine theirs my held bytes tsn is_acknowledged h = unchanged_kept my_offer their_offer mine theirs (cookie_echoed my held bytes) h
echoed_kept false my_offer their_offer mine theirs my held bytes tsn is_acknowledged h = step_in_kept my_offer their_offer mine theirs shutdown_pending my held tsn is_acknowledged h.0

pub call_kept : (options : Options) (my_offer their_offer : Offer) (mine theirs : List Effect) (core : Core) (tsn : ℕ) (is_acknowledged : Bool)
    → TrueCore my_offer their_offer mine theirs core → Kept my_offer their_offer mine theirs (shutdown_call_change options core tsn is_acknowledged)
call_kept options my_offer their_offer mine theirs closed tsn is_acknowledged h = unchanged_kept my_offer their_offer mine theirs closed h
call_kept options my_offer their_offer mine theirs (cookie_wait my) tsn is_acknowledged h = ended_kept my_offer their_offer mine theirs [] tt
call_kept options my_offer their_offer mine theirs (cookie_echoed my held bytes) tsn is_acknowledged h = echoed_kept options.follow_rfc my_offer their_offer mine theirs my held bytes tsn is_acknowledged h
call_kept options my_offer their_offer mine theirs (open_in phase my held) tsn is_acknowledged h = call_in_kept my_offer their_offer mine theirs phase my held tsn is_acknowledged h

pub aborts_kept : (my_offer their_offer : Offer) (mine theirs : List Effect) (core : Core) (causes : List Cause) (fits : Bool)
    → TrueCore my_offer their_offer mine theirs core → Kept my_offer their_offer mine theirs (abort_call_change core causes fits)
aborts_kept my_offer their_offer mine theirs closed causes fits h = unchanged_kept my_offer their_offer mine theirs closed h
aborts_kept my_offer their_offer mine theirs (cookie_wait my) causes fits h = ended_kept my_offer their_offer mine theirs [] tt
aborts_kept my_offer their_offer mine theirs (cookie_echoed my held bytes) causes fits h =
    ended_kept my_offer their_offer mine theirs _ (alone_true my_offer their_offer mine theirs fits held.peer.tag (abort false causes) tt)
aborts_kept my_offer their_offer mine theirs (open_in phase my held) causes fits h =
    ended_kept my_offer their_offer mine theirs _ (alone_true my_offer their_offer mine theirs fits held.peer.tag (abort false causes) tt)

pub again_kept : (my_offer their_offer : Offer) (mine theirs : List Effect) (core : Core) (tsn : ℕ)
    → TrueCore my_offer their_offer mine theirs core → Kept my_offer their_offer mine theirs (shutdown_again_change core tsn)
again_kept my_offer their_offer mine theirs closed tsn h = unchanged_kept my_offer their_offer mine theirs closed h
again_kept my_offer their_offer mine theirs (cookie_wait my) tsn h = unchanged_kept my_offer their_offer mine theirs (cookie_wait my) h
again_kept my_offer their_offer mine theirs (cookie_echoed my held bytes) tsn h = unchanged_kept my_offer their_offer mine theirs (cookie_echoed my held bytes) h
again_kept my_offer their_offer mine theirs (open_in phase my held) tsn h = again_in_kept my_offer their_offer mine theirs phase my held tsn h

pub abort_kept : (my_offer their_offer : Offer) (mine theirs : List Effect) (options : Options) (core : Core)
    → TrueCore my_offer their_offer mine theirs core → Kept my_offer their_offer mine theirs (abort_change options core)
abort_kept my_offer their_offer mine theirs options core h =
    by_abort (Kept my_offer their_offer mine theirs) options core (ended_kept my_offer their_offer mine theirs [] tt)
    (unchanged_kept my_offer their_offer mine theirs core h)

pub shutdown_kept : (my_offer their_offer : Offer) (mine theirs : List Effect) (core : Core) (tsn : ℕ) (is_acknowledged : Bool)
    → TrueCore my_offer their_offer mine theirs core → Kept my_offer their_offer mine theirs (shutdown_change core tsn is_acknowledged)
shutdown_kept my_offer their_offer mine theirs closed tsn is_acknowledged h = unchanged_kept my_offer their_offer mine theirs closed h
shutdown_kept my_offer their_offer mine theirs (cookie_wait my) tsn is_acknowledged h = unchanged_kept my_offer their_offer mine theirs (cookie_wait my) h
shutdown_kept my_offer their_offer mine theirs (cookie_echoed my held bytes) tsn is_acknowledged h = unchanged_kept my_offer their_offer mine theirs (cookie_echoed my held bytes) h
shutdown_kept my_offer their_offer mine theirs (open_in phase my held) tsn is_acknowledged h = change_in_kept my_offer their_offer mine theirs phase my held tsn is_acknowledged h

pub ack_kept : (my_offer their_offer : Offer) (mine theirs : List Effect) (core : Core) (header : ℕ) (following : Following)
    → TrueCore my_offer their_offer mine theirs core → Kept my_offer their_offer mine theirs (shutdown_ack_change core header following)
ack_kept my_offer their_offer mine theirs closed header following h = reflects_kept my_offer their_offer mine theirs closed header following h
ack_kept my_offer their_offer mine theirs (cookie_wait my) header following h = reflects_kept my_offer their_offer mine theirs (cookie_wait my) header following h
ack_kept my_offer their_offer mine theirs (cookie_echoed my held bytes) header following h = reflects_kept my_offer their_offer mine theirs (cookie_echoed my held bytes) header following h
ack_kept my_offer their_offer mine theirs (open_in phase my held) header following h = ack_in_kept my_offer their_offer mine theirs phase my held header following h

pub complete_kept : (my_offer their_offer : Offer) (mine theirs : List Effect) (core : Core)
    → TrueCore my_offer their_offer mine theirs core → Kept my_offer their_offer mine theirs (shutdown_complete_change core)
complete_kept my_offer their_offer mine theirs closed h = unchanged_kept my_offer their_offer mine theirs closed h
complete_kept my_offer their_offer mine theirs (cookie_wait my) h = unchanged_kept my_offer their_offer mine theirs (cookie_wait my) h
complete_kept my_offer their_offer mine theirs (cookie_echoed my held bytes) h = unchanged_kept my_offer their_offer mine theirs (cookie_echoed my held bytes) h
complete_kept my_offer their_offer mine theirs (open_in phase my held) h = complete_in_kept my_offer their_offer mine theirs phase my held h
