-- This end aborts the association: an ABORT is sent if there is a peer, and the association ends.
use Rattle.std.proofs.Common.{◌≡◌, ℕ, Bool, true, false, cond, List, [], ◌∷◌, refl, sym, ap, ◌∙◌}
use Rattle.std.proofs.lemmas.List.{append-nil}
use Rattle.rand_core.specs.Stream.{Stream}
use Rattle.dcsctp_core.specs.types.declared.association.Held.{Held}
use Rattle.dcsctp_core.specs.types.declared.ends.AbortReason.{AbortReason}
use Rattle.dcsctp_core.specs.types.declared.word.Word.{Word}
use Rattle.dcsctp_core.specs.types.Settings.{ports_of}
use Rattle.dcsctp_core.specs.spec.association.Effect.{ends}
use Rattle.dcsctp_core.specs.spec.endpoint.Event.{Event}
use Rattle.dcsctp_core.specs.wire.Content.{abort_chunk}
use Rattle.dcsctp_core.specs.spec.Packet.{Emission, abort}
use Rattle.dcsctp_core.specs.spec.endpoint.Cause.{causes_of}
use Rattle.dcsctp_core.specs.spec.endpoint.Endpoint.{Endpoint, Core, closed, cookie_wait, cookie_echoed, open_in, held_by_core}
use Rattle.dcsctp_core.specs.spec.endpoint.Outcome.{Outcome, fits, quiet, sends, emits}
use Rattle.dcsctp_core.specs.spec.endpoint.Following.{dropped_rest}
use Rattle.dcsctp_core.specs.spec.endpoint.EndOutcomes.{closed_after, ended_outcome, close_outcome, end_of, abort_to, abort_sent, aborting_outcome}
use Rattle.dcsctp_core.specs.api.Calls.{is_closed}
use Rattle.dcsctp_core.specs.View.{View, Moves, CutsTurn}
use Rattle.dcsctp_core.specs.Handling.{emitted_to, sent_to_peer}
use Rattle.dcsctp_core.proofs.Composing.{behind, moves_behind, moves_as, cut_after}
use Rattle.dcsctp_core.proofs.EndLemmas.{close_where_open, ends_after_packet}
use Rattle.dcsctp_core.proofs.SentLemmas.{told_moves}

sent_is : (e : Endpoint) (core : Core) (reason : AbortReason) → abort_sent e core reason ≡ sent_to_peer e (held_by_core core) (abort false (causes_of reason))
sent_is e closed reason = refl
sent_is e (cookie_wait my) reason = refl
sent_is e (cookie_echoed my held cookie) reason = refl
sent_is e (open_in phase my held) reason = refl

-- An ABORT was sent to the peer, if it is known.
pub abort_moves : {R : Type 0} (stream : R → Stream) (a b : View R) (reason : AbortReason)
    → b ≡ emitted_to (held_by_core a.endpoint.core) (abort_chunk false (causes_of reason)) a → Moves stream a (abort_sent a.endpoint a.endpoint.core reason) b
abort_moves stream a b reason here =
    moves_as stream a b _ _ (sent_is a.endpoint a.endpoint.core reason)
    (told_moves stream a b (abort false (causes_of reason)) (held_by_core a.endpoint.core) here)

same_core : (b : Bool) (e : Endpoint) (words : List Word) (emission : Emission) → (cond b (sends e words [] emission) (quiet e words [])).after.core ≡ e.core
same_core true e words emission = refl
same_core false e words emission = refl

-- to a peer
aborts_to : {R : Type 0} (stream : R → Stream) (a b c : View R) (emission : Emission) (event : Event Emission) → is_closed a.endpoint.core ≡ false
    → Moves stream a (emits a.endpoint [] emission) b → Moves stream b (close_outcome b.endpoint b.endpoint.core event) c
    → Moves stream a (ended_outcome (emits a.endpoint [] emission) event) c
aborts_to stream a b c emission event runs first second =
    ends_after_packet stream a b c emission event
    (ap (λ (e : Endpoint). is_closed e.core) first.endpoint ∙ ap is_closed (same_core (fits a.endpoint emission) a.endpoint [] emission) ∙ runs) first second

-- without one
aborts_alone : {R : Type 0} (stream : R → Stream) (a b c : View R) (event : Event Emission) → is_closed a.endpoint.core ≡ false
    → Moves stream a (quiet a.endpoint [] []) b → Moves stream b (close_outcome b.endpoint b.endpoint.core event) c
    → Moves stream a (ended_outcome (quiet a.endpoint [] []) event) c
aborts_alone stream a b c event runs first second =
    let same : is_closed b.endpoint.core ≡ false = ap (λ (e : Endpoint). is_closed e.core) first.endpoint ∙ runs in
    let ended : Moves stream b (ended_outcome (quiet b.endpoint [] []) event) c = moves_as stream b c _ _ (sym (close_where_open b.endpoint b.endpoint.core event same)) second in
    let m : Moves stream a (behind [] [] (ended_outcome (quiet b.endpoint [] []) event)) c =
    moves_behind stream a b c [] [] (ended_outcome (quiet b.endpoint [] []) event)
    (record { ports = ap (λ (e : Endpoint). ports_of e.options) first.endpoint; events = first.events })
    (record { words = first.words; pairs = first.pairs ∙ append-nil a.pairs; drawn = first.drawn }) ended in
    moves_as stream a c _ _
    (ap (λ (e : Endpoint). let out : Outcome = record { words = []; effects = ends ∷ []; after = closed_after e; events = event ∷ []; following = dropped_rest } in out) (sym first.endpoint))
    m

aborts_in : {R : Type 0} (stream : R → Stream) (a b c : View R) (reason : AbortReason) (core : Core) → is_closed core ≡ false → is_closed a.endpoint.core ≡ false
    → Moves stream a (abort_sent a.endpoint core reason) b → Moves stream b (close_outcome b.endpoint b.endpoint.core (end_of reason)) c
    → Moves stream a (aborting_outcome a.endpoint core reason) c
aborts_in stream a b c reason closed is runs first second = absurd (cc)
aborts_in stream a b c reason (cookie_wait my) is runs first second = aborts_alone stream a b c (end_of reason) runs first second
aborts_in stream a b c reason (cookie_echoed my held cookie) is runs first second = aborts_to stream a b c (abort_to held reason) (end_of reason) runs first second
aborts_in stream a b c reason (open_in phase my held) is runs first second = aborts_to stream a b c (abort_to held reason) (end_of reason) runs first second

pub aborts : {R : Type 0} (stream : R → Stream) (a b c : View R) (reason : AbortReason) → is_closed a.endpoint.core ≡ false
    → Moves stream a (abort_sent a.endpoint a.endpoint.core reason) b → Moves stream b (close_outcome b.endpoint b.endpoint.core (end_of reason)) c
    → Moves stream a (aborting_outcome a.endpoint a.endpoint.core reason) c
aborts stream a b c reason runs first second = aborts_in stream a b c reason a.endpoint.core runs runs first second

-- ---- in part

cut_in : {R : Type 0} (stream : R → Stream) (a b : View R) (reason : AbortReason) (core : Core) (events : List (Event (List ℕ))) → is_closed core ≡ false
    → Moves stream a (abort_sent a.endpoint core reason) b → events ≡ b.events → CutsTurn a (aborting_outcome a.endpoint core reason) events
cut_in stream a b reason closed events is first same = absurd (cc)
cut_in stream a b reason (cookie_wait my) events is first same =
    cut_after a (aborting_outcome a.endpoint (cookie_wait my) reason) events (abort_sent a.endpoint (cookie_wait my) reason).events (end_of reason ∷ []) refl (same ∙ first.events)
cut_in stream a b reason (cookie_echoed my held cookie) events is first same =
    cut_after a (aborting_outcome a.endpoint (cookie_echoed my held cookie) reason) events (abort_sent a.endpoint (cookie_echoed my held cookie) reason).events (end_of reason ∷ []) refl
    (same ∙ first.events)
cut_in stream a b reason (open_in phase my held) events is first same =
    cut_after a (aborting_outcome a.endpoint (open_in phase my held) reason) events (abort_sent a.endpoint (open_in phase my held) reason).events (end_of reason ∷ []) refl
    (same ∙ first.events)

pub aborts_in_part : {R : Type 0} (stream : R → Stream) (a b c : View R) (reason : AbortReason) → is_closed a.endpoint.core ≡ false
    → Moves stream a (abort_sent a.endpoint a.endpoint.core reason) b → c ≡ b → CutsTurn a (aborting_outcome a.endpoint a.endpoint.core reason) c.events
aborts_in_part {R = R} stream a b c reason runs first same = cut_in stream a b reason a.endpoint.core c.events runs first (ap (λ (v : View R). v.events) same)
