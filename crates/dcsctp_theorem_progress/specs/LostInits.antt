-- A lost INIT is made good: T1 expires, and the packets that follow come in turn (RFC 9260, section 5.1).
use Rattle.std.specs.Prelude.{◌≡◌, ◌<◌, ◌^◌, ◌==◌, ◌&&◌, ℕ, suc, true, false, nat_le, None, List, ◌∷◌, ◌++◌}
use Rattle.std.specs.List.{AllByRecursion}
use Rattle.dcsctp_spec_lemmas.specs.types.declared.association.Pair.{Pair}
use Rattle.dcsctp_spec_lemmas.specs.types.declared.options.Options.{Options}
use Rattle.dcsctp_spec_lemmas.specs.types.declared.schedule.Side.TheVariants as sides
use Rattle.dcsctp_spec_lemmas.specs.types.Schedule.{advance_call, call_step, delivery_step, step_act}
use Rattle.dcsctp_spec_lemmas.specs.types.Offer.{offer_of, negotiated_capabilities}
use Rattle.dcsctp_spec_lemmas.specs.spec.CookieFits.{FitsPair}
use Rattle.dcsctp_spec_lemmas.specs.spec.queues.Transfer.{empty_queues}
use Rattle.dcsctp_spec_lemmas.specs.spec.endpoint.Endpoint.{Endpoint, closed, cookie_wait, open_in, established}
use Rattle.dcsctp_spec_lemmas.specs.spec.endpoint.CallTurns.{Transition, after_all, events_of, pairs_of}
use Rattle.dcsctp_spec_lemmas.specs.spec.endpoint.CookieEchoOutcomes.{is_tag_over}
use Rattle.dcsctp_spec_lemmas.specs.spec.endpoint.TimeTurns.{deadline_of, has_come, has_restart}
use Rattle.dcsctp_spec_lemmas.specs.spec.association.HandshakeChanges.{new_held}
use Rattle.dcsctp_delivery_directions.specs.sending.Losing.{AreOpen}
use Rattle.dcsctp_spec_runs.specs.Sockets.{PerformedAct, Both, endpoint_after, turns_after, SocketRun}
use Rattle.dcsctp_theorem_sockets.specs.Agreement.{AreUsable}
use Rattle.dcsctp_theorem_sockets.specs.Handshake.{AreFitting, connections_of_events}
use Rattle.dcsctp_theorem_progress.specs.Rounds.{counts_shown}

-- ---- premises

-- At this moment T1 has come, and may restart.
pub record DueT1 (e : Endpoint) (moment : ℕ) : Type 0 where
  pub present : nat_le e.moment moment ≡ true
  pub come : has_come moment (deadline_of e.timers.t1) ≡ true
  pub again : has_restart e.timers.t1 ≡ true

-- It awaits an INIT ACK, T1 is due at this moment and may restart, and no shutdown was asked for.
pub record AwaitsInitAck (e : Endpoint) (p : Pair) (moment : ℕ) : Type 0 where
  pub core : e.core ≡ cookie_wait p
  pub t1 : DueT1 e moment
  pub asks : (e.options.follow_rfc && e.shutdown_asked) ≡ false
  pub pair : FitsPair p

-- It is closed, so nothing is in flight; no stream is to be reset; and its secret fits a cookie. Messages may be queued.
pub record Rests (e : Endpoint) : Type 0 where
  pub core : e.core ≡ closed
  pub unheld : e.queues.transfer ≡ None
  pub unpaused : AreOpen e.queues.queue.streams
  pub secret : e.secret < 2 ^ 64

-- No pair that these turns draw has the tag of the last association, which none begins under again by the RFC (RFC 9260, section
-- 5.3.1).
abbrev pub DrawsOtherTags : Endpoint → List Transition → Type 0
DrawsOtherTags e turns = AllByRecursion (λ pair. is_tag_over e closed pair.tag ≡ false) (pairs_of turns)

-- It awaits an INIT ACK too, with a secret that fits a cookie. Nothing is in flight, and no stream is to be reset.
pub record AwaitsToo (e : Endpoint) (q : Pair) : Type 0 where
  pub core : e.core ≡ cookie_wait q
  pub unheld : e.queues.transfer ≡ None
  pub unpaused : AreOpen e.queues.queue.streams
  pub pair : FitsPair q
  pub secret : e.secret < 2 ^ 64
  pub has_secret : (e.options.follow_rfc && e.secret == 0) ≡ false
  pub anew : is_tag_over e closed q.tag ≡ false

-- No message was queued at either side.
pub record NothingWaits (e f : Endpoint) : Type 0 where
  pub here : e.queues ≡ empty_queues e.options
  pub there : f.queues ≡ empty_queues f.options

-- The options are those that it was made with: no setting was changed.
pub record KeepsOptions (options : Options) (e : Endpoint) : Type 0 where
  pub same : e.options ≡ options

-- ---- what holds then

-- Both are Established and crossed, with what both offers have in common.
pub record AreLinked (e f : Endpoint) (a b : Options) (p q : Pair) : Type 0 where
  pub here : e.core ≡ open_in established p (new_held p q (negotiated_capabilities (offer_of a) (offer_of b)))
  pub there : f.core ≡ open_in established q (new_held q p (negotiated_capabilities (offer_of b) (offer_of a)))

-- After these turns of each both are linked, and each told OnConnected once.
pub record Connect (e f : Endpoint) (p : Pair) (here there : List Transition) : Type 0 where
  pub q : Pair
  pub linked : AreLinked (after_all e here) (after_all f there) e.options f.options p q
  pub once_here : connections_of_events (events_of here) ≡ 1
  pub once_there : connections_of_events (events_of there) ≡ 1

-- ---- proved: a lost INIT is made good

-- After the run A's clock goes to this moment, and then the four packets are delivered in turn.
abbrev pub made_good : ℕ → Both ℕ → List Transition → List Transition → List Transition → List Transition → List Transition → List PerformedAct → List PerformedAct
made_good moment shown o1 o2 o3 o4 o5 earlier =
    record { act = step_act (delivery_step sides.A (suc (suc shown.b))); turns = o5 }
    ∷ record { act = step_act (delivery_step sides.B (suc (suc shown.a))); turns = o4 }
    ∷ record { act = step_act (delivery_step sides.A (suc shown.b)); turns = o3 }
    ∷ record { act = step_act (delivery_step sides.B (suc shown.a)); turns = o2 }
    ∷ record { act = step_act (call_step sides.A (advance_call moment)); turns = o1 }
    ∷ earlier

-- Whatever came before: any acts, any packets lost.
abbrev pub LostInitsAreMadeGood : Type 0
LostInitsAreMadeGood =
    (options : Both Options) (earlier : List PerformedAct) (p : Pair) (moment : ℕ) (o1 o2 o3 o4 o5 : List Transition) →
    AreUsable options → AreFitting options →
    let turns = turns_after earlier in
    let e = endpoint_after options.a turns.a in
    let f = endpoint_after options.b turns.b in
    KeepsOptions options.a e → KeepsOptions options.b f → NothingWaits e f → AwaitsInitAck e p moment → Rests f → DrawsOtherTags f o2
    → SocketRun options (made_good moment (counts_shown options turns) o1 o2 o3 o4 o5 earlier)
    → Connect e f p (o1 ++ (o3 ++ o5)) (o2 ++ o4)

-- It is so too where the other connects, and its INIT was lost.
abbrev pub LostInitsOfBothAreMadeGood : Type 0
LostInitsOfBothAreMadeGood =
    (options : Both Options) (earlier : List PerformedAct) (p q : Pair) (moment : ℕ) (o1 o2 o3 o4 o5 : List Transition) →
    AreUsable options → AreFitting options →
    let turns = turns_after earlier in
    let e = endpoint_after options.a turns.a in
    let f = endpoint_after options.b turns.b in
    KeepsOptions options.a e → KeepsOptions options.b f → NothingWaits e f → AwaitsInitAck e p moment → AwaitsToo f q
    → SocketRun options (made_good moment (counts_shown options turns) o1 o2 o3 o4 o5 earlier)
    → Connect e f p (o1 ++ (o3 ++ o5)) (o2 ++ o4)
