-- SHUTDOWN COMPLETE is sent, and the association ends.
use Rattle.std.proofs.Common.{◌≡◌, true, false, Option, Some, [], ◌∷◌, refl, sym, ap, subst, ◌∙◌}
use Rattle.std.proofs.lemmas.List.{append-nil}
use Rattle.rand_core.specs.Stream.{Stream}
use Rattle.dcsctp_core.specs.types.declared.association.Held.{Held}
use Rattle.dcsctp_core.specs.spec.association.Effect.{ends}
use Rattle.dcsctp_core.specs.types.Settings.{ports_of}
use Rattle.dcsctp_core.specs.spec.endpoint.Event.{Event, sent}
use Rattle.dcsctp_core.specs.spec.endpoint.Event as events
use Rattle.dcsctp_core.specs.spec.Packet.{Emission, shutdown_complete}
use Rattle.dcsctp_core.specs.spec.endpoint.Endpoint.{Endpoint, Core, closed, cookie_wait, cookie_echoed, open_in, held_by_core}
use Rattle.dcsctp_core.specs.spec.endpoint.Outcome.{Outcome, quiet, sends, to_peer}
use Rattle.dcsctp_core.specs.spec.endpoint.Following.{dropped_rest}
use Rattle.dcsctp_core.specs.spec.endpoint.EndOutcomes.{closed_after, ended_outcome, close_outcome}
use Rattle.dcsctp_core.specs.spec.endpoint.ShutdownOutcomes.{completed_outcome}
use Rattle.dcsctp_core.specs.api.Calls.{is_closed}
use Rattle.dcsctp_core.specs.declared.following.Following.TheVariants.{DroppedRest}
use Rattle.dcsctp_core.specs.Handling.{IsHandledTurn}
use Rattle.dcsctp_core.specs.View.{View, Moves, CutsTurn}
use Rattle.dcsctp_core.proofs.Composing.{behind, moves_behind, moves_as, cut_after}
use Rattle.dcsctp_core.proofs.EndLemmas.{close_where_open}
use Rattle.dcsctp_core_ends.specs.Shutdown.{to_held, is_open_core, sends_complete, complete_sent_turn, completed_turn}

runs_with_peer : (core : Core) (held : Held) → held_by_core core ≡ Some held → is_closed core ≡ false
runs_with_peer closed held is = absurd (cc)
runs_with_peer (cookie_wait my) held is = absurd (cc)
runs_with_peer (cookie_echoed my own cookie) held is = refl
runs_with_peer (open_in phase my own) held is = refl

ends_after_sent : {R : Type 0} (stream : R → Stream) (a b c : View R) (emission : Emission) (event : Event Emission) → is_closed a.endpoint.core ≡ false
    → Moves stream a (sends a.endpoint [] [] emission) b → Moves stream b (close_outcome b.endpoint b.endpoint.core event) c
    → Moves stream a (ended_outcome (sends a.endpoint [] [] emission) event) c
ends_after_sent stream a b c emission event runs first second =
    let same : is_closed b.endpoint.core ≡ false = ap (λ (e : Endpoint). is_closed e.core) first.endpoint ∙ runs in
    let ended : Moves stream b (ended_outcome (quiet b.endpoint [] []) event) c = moves_as stream b c _ _ (sym (close_where_open b.endpoint b.endpoint.core event same)) second in
    let m : Moves stream a (behind [] (sent emission ∷ []) (ended_outcome (quiet b.endpoint [] []) event)) c =
    moves_behind stream a b c [] (sent emission ∷ []) (ended_outcome (quiet b.endpoint [] []) event)
    (record { ports = ap (λ (e : Endpoint). ports_of e.options) first.endpoint; events = first.events })
    (record { words = first.words; pairs = first.pairs ∙ append-nil a.pairs; drawn = first.drawn }) ended in
    moves_as stream a c _ _
    (ap (λ (e : Endpoint). let out : Outcome = record { words = []; effects = ends ∷ []; after = closed_after e; events = sent emission ∷ event ∷ []; following = dropped_rest } in out) (sym first.endpoint))
    m

-- ---- to the peer of the association

abbrev pub complete_to : Held → Emission
complete_to held = to_peer held (shutdown_complete false)

held_where_open : (core : Core) → is_open_core core ≡ true → (held : Held) × (held_by_core core ≡ Some held)
held_where_open closed opens = absurd (cc)
held_where_open (cookie_wait my) opens = absurd (cc)
held_where_open (cookie_echoed my own cookie) opens = absurd (cc)
held_where_open (open_in phase my own) opens = (own, refl)

completes_to : {R : Type 0} (stream : R → Stream) (a b c : View R) (held : Held) → held_by_core a.endpoint.core ≡ Some held
    → Moves stream a (sends a.endpoint [] [] (complete_to held)) b → Moves stream b (close_outcome b.endpoint b.endpoint.core events.closed) c
    → IsHandledTurn stream a (completed_turn a) DroppedRest c
completes_to stream a b c held is first second =
    let m : Moves stream a (completed_outcome a.endpoint held) c = ends_after_sent stream a b c (complete_to held) events.closed (runs_with_peer a.endpoint.core held is) first second in
    subst (λ (peer : Option Held). IsHandledTurn stream a (to_held completed_outcome a.endpoint peer) DroppedRest c) (sym is) (record { moves = m; following = refl })

pub completes : {R : Type 0} (stream : R → Stream) (a b c : View R) → is_open_core a.endpoint.core ≡ true
    → Moves stream a (complete_sent_turn a) b → Moves stream b (close_outcome b.endpoint b.endpoint.core events.closed) c
    → IsHandledTurn stream a (completed_turn a) DroppedRest c
completes stream a b c opens first second =
    let peer = held_where_open a.endpoint.core opens in
    completes_to stream a b c peer.0 peer.1 (subst (λ (p : Option Held). Moves stream a (to_held sends_complete a.endpoint p) b) peer.1 first) second

pub completes_in_part : {R : Type 0} (stream : R → Stream) (a b c : View R) → is_open_core a.endpoint.core ≡ true → Moves stream a (complete_sent_turn a) b → c ≡ b
    → CutsTurn a (completed_turn a) c.events
completes_in_part {R = R} stream a b c opens first same =
    let peer = held_where_open a.endpoint.core opens in
    let m : Moves stream a (sends_complete a.endpoint peer.0) b = subst (λ (p : Option Held). Moves stream a (to_held sends_complete a.endpoint p) b) peer.1 first in
    subst (λ (p : Option Held). CutsTurn a (to_held completed_outcome a.endpoint p) c.events) (sym peer.1)
    (cut_after a (completed_outcome a.endpoint peer.0) c.events (sent (complete_to peer.0) ∷ []) (events.closed ∷ []) refl (ap (λ (v : View R). v.events) same ∙ m.events))
