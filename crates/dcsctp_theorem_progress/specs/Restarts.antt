-- An association with a peer that began again gives way, once its COOKIE ECHO comes (RFC 9260, sections 5.2.2 and 5.2.4, A).
use Rattle.std.specs.Duration.{as_nanos}
use Rattle.std.specs.Prelude.{◌≡◌, ◌≢◌, ◌<◌, ◌^◌, ℕ, suc, false, max, None, Some, List}
use Rattle.dcsctp_spec_lemmas.specs.types.declared.association.Held.{Held}
use Rattle.dcsctp_spec_lemmas.specs.types.declared.association.Pair.{Pair}
use Rattle.dcsctp_spec_lemmas.specs.types.declared.options.Options.{Options}
use Rattle.dcsctp_spec_lemmas.specs.types.declared.schedule.Side.{Side}
use Rattle.dcsctp_spec_lemmas.specs.spec.Cookie.{Cookie, is_stale}
use Rattle.dcsctp_spec_lemmas.specs.spec.queues.Tracker.{owes_acknowledgement, is_acknowledgement_due, delayed_acknowledgement}
use Rattle.dcsctp_spec_lemmas.specs.spec.queues.Transfer.{Transfer}
use Rattle.dcsctp_spec_lemmas.specs.spec.endpoint.CallTurns.{Transition, events_of}
use Rattle.dcsctp_spec_lemmas.specs.spec.endpoint.CookieEchoOutcomes.{queues_begun}
use Rattle.dcsctp_spec_lemmas.specs.spec.endpoint.Endpoint.{Endpoint, open_in, established}
use Rattle.dcsctp_spec_lemmas.specs.spec.endpoint.FlushOutcomes.{AreQueuesIdle}
use Rattle.dcsctp_spec_lemmas.specs.spec.endpoint.TimeTurns.{next_moment}
use Rattle.dcsctp_delivery_directions.specs.sending.Losing.{AreOpen}
use Rattle.dcsctp_spec_runs.specs.Sockets.{PerformedAct, Both, of_side, of_other, turns_after, endpoint_after, SocketRun}
use Rattle.dcsctp_theorem_sockets.specs.Agreement.{AreUsable}
use Rattle.dcsctp_theorem_sockets.specs.Handshake.{AreFitting, connections_of_events}
use Rattle.dcsctp_theorem_progress.specs.Rounds.{this_endpoint, other_endpoint, counts_shown, LostRounds, QuietRound}
use Rattle.dcsctp_theorem_progress.specs.LostInits.{KeepsOptions, AreLinked}
use Rattle.dcsctp_theorem_progress.specs.Retries.{RetriesT1, RetriesInit}
use Rattle.dcsctp_theorem_progress.specs.Cookies.{HasEchoed}
use Rattle.dcsctp_theorem_progress.specs.Heartbeats.{SurvivesRounds}
use Rattle.dcsctp_theorem_progress.specs.DataEchoes.{EchoesWithData}

-- ---- from the COOKIE ECHO on

-- It is Established, and by another tag of the peer's. The cookie bears the tie tag of that association, and isn't stale at this
-- moment, or later by its own clock. Whatever is queued or in flight, is to be reset, or is to be acknowledged.
pub record HasTied (e : Endpoint) (cookie : Cookie) (moment : ℕ) : Type 0 where
  pub mine : Pair
  pub held : Held
  pub core : e.core ≡ open_in established mine held
  pub peer : cookie.addressee.tag ≢ held.peer.tag
  pub tie : cookie.tie ≡ e.tie
  pub young : is_stale (as_nanos e.options.cookie_lifetime) (max e.moment moment) cookie ≡ false

-- So it is, and the cookie's own tag is another one, too. Nothing waits once the association has begun again.
pub record HasOlder (e : Endpoint) (cookie : Cookie) (moment : ℕ) : Type 0 where
  pub tied : HasTied e cookie moment
  pub own : cookie.maker.tag ≢ tied.mine.tag
  pub anew : AreQueuesIdle (queues_begun e cookie).queue (queues_begun e cookie).transfer

-- Both are Established and crossed, and each has told OnConnected once since.
pub record HaveConnectedAgain (options : Both Options) (before after : Both (List Transition)) : Type 0 where
  pub p : Pair
  pub q : Pair
  pub linked : AreLinked (endpoint_after options.a after.a) (endpoint_after options.b after.b) options.a options.b p q
  pub told_a : connections_of_events (events_of after.a) ≡ suc (connections_of_events (events_of before.a))
  pub told_b : connections_of_events (events_of after.b) ≡ suc (connections_of_events (events_of before.b))

-- This side awaits a COOKIE ACK, and the other has an older association. The quiet round in which T1 comes first connects them,
-- whatever came before. It ends this run.
abbrev pub OlderGivesWay : Both Options → List PerformedAct → Type 0
OlderGivesWay options run =
    (side : Side) (settled : Both ℕ) (earlier : List PerformedAct) (cookie : Cookie) (bytes : List ℕ) →
    let e = this_endpoint options side earlier in
    let f = other_endpoint options side earlier in
    KeepsOptions (of_side side options) e → KeepsOptions (of_other side options) f
    → HasEchoed e f cookie bytes → RetriesT1 e 1 → HasOlder f cookie (next_moment e) → next_moment e < next_moment f
    → QuietRound options (counts_shown options (turns_after earlier)) earlier settled run → HaveConnectedAgain options (turns_after earlier) (turns_after run)

-- So it is where data is sent behind the COOKIE ECHO, whatever the other has queued, and whatever its own tag was.
abbrev pub OlderGivesWayToData : Both Options → List PerformedAct → Type 0
OlderGivesWayToData options run =
    (side : Side) (settled : Both ℕ) (earlier : List PerformedAct) (cookie : Cookie) (bytes : List ℕ) →
    let e = this_endpoint options side earlier in
    let f = other_endpoint options side earlier in
    KeepsOptions (of_side side options) e → KeepsOptions (of_other side options) f
    → EchoesWithData e f cookie bytes → RetriesT1 e 1 → HasTied f cookie (next_moment e) → next_moment e < next_moment f
    → QuietRound options (counts_shown options (turns_after earlier)) earlier settled run → HaveConnectedAgain options (turns_after earlier) (turns_after run)

abbrev pub OlderAssociationsGiveWay : Type 0
OlderAssociationsGiveWay = (options : Both Options) (run : List PerformedAct) → AreUsable options → AreFitting options → SocketRun options run → OlderGivesWay options run

abbrev pub OlderAssociationsGiveWayToData : Type 0
OlderAssociationsGiveWayToData = (options : Both Options) (run : List PerformedAct) → AreUsable options → AreFitting options → SocketRun options run → OlderGivesWayToData options run

-- ---- from the INIT on

-- It is Established, and by another tag of the peer's than this pair's. Its tie tag fits a cookie, as a word does. Messages may be
-- queued or in flight, no stream is to be reset, and nothing that was received is still to be acknowledged.
pub record HoldsOlder (e : Endpoint) (p : Pair) : Type 0 where
  pub mine : Pair
  pub held : Held
  pub core : e.core ≡ open_in established mine held
  pub peer : p.tag ≢ held.peer.tag
  pub tie : e.tie < 2 ^ 64
  pub transfer : Transfer
  pub known : e.queues.transfer ≡ Some transfer
  pub unpaused : AreOpen e.queues.queue.streams
  pub owes : owes_acknowledgement transfer.tracker ≡ false
  pub due : is_acknowledgement_due transfer.tracker ≡ false
  pub delay : delayed_acknowledgement transfer.tracker ≡ None

-- This side awaits an INIT ACK, maybe with messages queued, and the other has an older association, maybe with data in flight. After
-- any number of rounds whose packets are all lost, the quiet round in which T1 comes first connects them, whatever came before, and
-- whatever tag the other draws in it. It ends this run.
abbrev pub OlderGivesWayToInit : Both Options → List PerformedAct → Type 0
OlderGivesWayToInit options run =
    (side : Side) (lost : ℕ) (settled : Both ℕ) (earlier between : List PerformedAct) (p : Pair) →
    let e = this_endpoint options side earlier in
    let f = other_endpoint options side earlier in
    KeepsOptions (of_side side options) e → KeepsOptions (of_other side options) f
    → RetriesInit e p (suc lost) → HoldsOlder f p → SurvivesRounds f lost → LostRounds options lost earlier between
    → next_moment (this_endpoint options side between) < next_moment (other_endpoint options side between)
    → QuietRound options (counts_shown options (turns_after between)) between settled run → HaveConnectedAgain options (turns_after earlier) (turns_after run)

abbrev pub OlderAssociationsGiveWayToInits : Type 0
OlderAssociationsGiveWayToInits = (options : Both Options) (run : List PerformedAct) → AreUsable options → AreFitting options → SocketRun options run → OlderGivesWayToInit options run
