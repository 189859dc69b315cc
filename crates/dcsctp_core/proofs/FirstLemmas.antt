-- How the first packet of a flush is filled: what acknowledges goes before data.
use Rattle.std.proofs.Common.{◌≡◌, ◌||◌, ℕ, Bool, true, false, Option, None, Some, List, [], ◌∷◌, ◌++◌, map, append_assoc, refl, sym, ap, subst, ◌∙◌, ◌&&◌}
use Rattle.std.specs.List.{AllByRecursion, flat_map}
use Rattle.std.proofs.lemmas.List.{append-nil, map-append}
use Rattle.dcsctp_transfer.specs.wire_build.Building.{Building, bytes_remaining}
use Rattle.dcsctp_transfer.specs.spec.endpoint.Event.{Event}
use Rattle.dcsctp_transfer.specs.spec.Packet.{Plain, plain, Content, chunk_out, Emission, plain_out}
use Rattle.dcsctp_transfer.specs.spec.queues.Tracker.{TrackerState, tracker_after_sack}
use Rattle.dcsctp_transfer.specs.spec.queues.SendQueue.{SendQueueState, has_queued_data}
use Rattle.dcsctp_transfer.specs.spec.queues.Transfer.{Transfer, may_give}
use Rattle.dcsctp_transfer.specs.spec.queues.Retransmission.{RetransmissionState}
use Rattle.dcsctp_transfer.specs.spec.endpoint.Endpoint.{Endpoint, Core, OutstandingRequest}
use Rattle.dcsctp_transfer.specs.spec.endpoint.Timers.{RunningTimer, TimerSettings, started_timer}
use Rattle.dcsctp_transfer.specs.spec.association.Choices.{plain_contents}
use Rattle.dcsctp_transfer.specs.spec.endpoint.BegunResets.{BegunReset, streams_within, last_assigned_tsn, begun_if_connected, request_contents, reconfiguration_settings, transfer_reset_begun, core_asking, after_begun, queue_requesting, retransmission_begun}
use Rattle.dcsctp_transfer.specs.spec.endpoint.FlushOutcomes.{may_be_asked, own_sack, filled_draft, first_ask, room_of_draft, where_fits, wants_sack, FitsPlain, FillsIfAllowed, ForwardsIfAbandoned, GivesUpThenForwards, forward_moment, FillingEvent, begun_by_ask, may_abandon, may_forward, stage_of, filling_event_content, forward_made}
use Rattle.dcsctp_transfer.specs.wire.Content.{ChunkContent}
use Rattle.dcsctp_transfer.specs.wire.Spelling.{chunk_bytes}
use Rattle.dcsctp_transfer.specs.Filling.{is_sack_wanted, FillsRequestedSack, has_chunks}
use Rattle.dcsctp_core.specs.declared.context.Context.{Context}
use Rattle.dcsctp_core.specs.declared.state.State.{State}
use Rattle.dcsctp_core.specs.declared.state.State.TheVariants.{Closed, CookieWait, CookieEchoed, Open}
use Rattle.dcsctp_core.specs.View.{View, core_of, tie_of, t1_of, t2_of, outstanding_of, reconfiguration_of, transfer_of, endpoint_of, view_of}
use Rattle.dcsctp_core.specs.Flushing.{packet_for, state_with, AcknowledgesInQueues, ForwardsInTime, FillsResetRequest, FillsPacketData, timers_if_filled, FillsAskedPacket, can_queues_send, ForwardsNow, is_in_time}
use Rattle.dcsctp_core.proofs.FillLemmas.{fills_by, fills_nothing, sack_packet, endpoint_given, room_is_left, same_draft, stays_behind, told_after, view_filled}
use Rattle.dcsctp_core.proofs.SentLemmas.{body_append}
use Rattle.dcsctp_transfer.proofs.spec_lemmas.FilledAnswers.{GivesUntilFull}
use Rattle.dcsctp_transfer.specs.spec.queues.Filling.{Stage}
use Rattle.dcsctp_transfer.specs.spec.queues.Items.{is_first_abandoned}
use Rattle.dcsctp_transfer.proofs.spec_lemmas.ToldLemmas.{behind_events}
use Rattle.dcsctp_transfer.specs.spec.endpoint.FlushOutcomes as asks

-- ---- a state with something else below its association

core_stays : (state : State) (transfer : Transfer) → core_of (state_with state transfer) ≡ core_of state
core_stays Closed transfer = refl
core_stays (CookieWait wait) transfer = refl
core_stays (CookieEchoed echoed) transfer = refl
core_stays (Open opened) transfer = refl

tie_stays : (state : State) (transfer : Transfer) → tie_of (state_with state transfer) ≡ tie_of state
tie_stays Closed transfer = refl
tie_stays (CookieWait wait) transfer = refl
tie_stays (CookieEchoed echoed) transfer = refl
tie_stays (Open opened) transfer = refl

t1_stays : (state : State) (transfer : Transfer) → t1_of (state_with state transfer) ≡ t1_of state
t1_stays Closed transfer = refl
t1_stays (CookieWait wait) transfer = refl
t1_stays (CookieEchoed echoed) transfer = refl
t1_stays (Open opened) transfer = refl

t2_stays : (state : State) (transfer : Transfer) → t2_of (state_with state transfer) ≡ t2_of state
t2_stays Closed transfer = refl
t2_stays (CookieWait wait) transfer = refl
t2_stays (CookieEchoed echoed) transfer = refl
t2_stays (Open opened) transfer = refl

outstanding_stays : (state : State) (transfer : Transfer) → outstanding_of (state_with state transfer) ≡ outstanding_of state
outstanding_stays Closed transfer = refl
outstanding_stays (CookieWait wait) transfer = refl
outstanding_stays (CookieEchoed echoed) transfer = refl
outstanding_stays (Open opened) transfer = refl

reconfiguration_stays : (state : State) (transfer : Transfer) → reconfiguration_of (state_with state transfer) ≡ reconfiguration_of state
reconfiguration_stays Closed transfer = refl
reconfiguration_stays (CookieWait wait) transfer = refl
reconfiguration_stays (CookieEchoed echoed) transfer = refl
reconfiguration_stays (Open opened) transfer = refl

pub transfer_is : (state : State) (old transfer : Transfer) → transfer_of state ≡ Some old → transfer_of (state_with state transfer) ≡ Some transfer
transfer_is Closed old transfer holds = absurd (cc)
transfer_is (CookieWait wait) old transfer holds = absurd (cc)
transfer_is (CookieEchoed echoed) old transfer holds = refl
transfer_is (Open opened) old transfer holds = refl

-- the endpoint of a context whose state is given in parts
abbrev with_parts : {R : Type 0} → Context R → Core → ℕ → Option RunningTimer → Option RunningTimer → Option OutstandingRequest → Option RunningTimer → Option Transfer → Endpoint
with_parts context core tie t1 t2 outstanding reconfiguration transfer =
    record (endpoint_of context) {
      core = core;
      tie = tie;
      outstanding = outstanding;
      timers = record (endpoint_of context).timers { t1 = t1; t2 = t2; reconfiguration = reconfiguration };
      queues = record (endpoint_of context).queues { transfer = transfer };
    }

pub endpoint_with : {R : Type 0} (context : Context R) (old transfer : Transfer) → transfer_of context.state ≡ Some old
    → endpoint_of (record context { state = state_with context.state transfer }) ≡ record (endpoint_of context) { queues = record (endpoint_of context).queues { transfer = Some transfer } }
endpoint_with context old transfer holds =
    let s : State = context.state in
    let t : State = state_with s transfer in
    ap (λ (core : Core). with_parts context core (tie_of t) (t1_of t) (t2_of t) (outstanding_of t) (reconfiguration_of t) (transfer_of t)) (core_stays s transfer)
    ∙ ap (λ (tie : ℕ). with_parts context (core_of s) tie (t1_of t) (t2_of t) (outstanding_of t) (reconfiguration_of t) (transfer_of t)) (tie_stays s transfer)
    ∙ ap (λ (t1 : Option RunningTimer). with_parts context (core_of s) (tie_of s) t1 (t2_of t) (outstanding_of t) (reconfiguration_of t) (transfer_of t)) (t1_stays s transfer)
    ∙ ap (λ (t2 : Option RunningTimer). with_parts context (core_of s) (tie_of s) (t1_of s) t2 (outstanding_of t) (reconfiguration_of t) (transfer_of t)) (t2_stays s transfer)
    ∙ ap (λ (own : Option OutstandingRequest). with_parts context (core_of s) (tie_of s) (t1_of s) (t2_of s) own (reconfiguration_of t) (transfer_of t)) (outstanding_stays s transfer)
    ∙ ap (λ (timer : Option RunningTimer). with_parts context (core_of s) (tie_of s) (t1_of s) (t2_of s) (outstanding_of s) timer (transfer_of t)) (reconfiguration_stays s transfer)
    ∙ ap (λ (below : Option Transfer). with_parts context (core_of s) (tie_of s) (t1_of s) (t2_of s) (outstanding_of s) (reconfiguration_of s) below) (transfer_is s old transfer holds)

-- ---- what acknowledges, and then data

-- what the transfer layer says of the SACK is what the ask says
record Acked (e : Endpoint) (draft : Emission) (b : Bool) (transfer mid : Transfer) (packet : Building) : Type 0 where
  sacks : List Plain
  tracker : TrackerState
  acknowledges : asks.Acknowledges b (room_of_draft e draft) transfer tracker sacks
  mid_is : mid ≡ record transfer { tracker = tracker }
  is : packet ≡ packet_for e.options (filled_draft draft (plain_contents sacks))

acked : (e : Endpoint) (draft : Emission) (b : Bool) (transfer mid : Transfer) (before packet : Building) → before ≡ packet_for e.options draft → FillsRequestedSack b transfer before mid packet
    → Acked e draft b transfer mid packet
acked e draft false transfer mid before packet is h =
    record { sacks = []; tracker = transfer.tracker; acknowledges = (refl, refl); mid_is = h.0; is = h.1 ∙ is ∙ ap (packet_for e.options) (sym (same_draft draft)) }
acked e draft true transfer mid before packet is h =
    record {
      sacks = where_fits (room_of_draft e draft) (own_sack (room_of_draft e draft) transfer);
      tracker = tracker_after_sack transfer.tracker;
      acknowledges = (refl, refl);
      mid_is = h.0;
      is = h.1 ∙ sack_packet e draft before transfer is;
    }

-- the view once what came in is acknowledged
abbrev acknowledged_view : {R : Type 0} → View R → Transfer → View R
acknowledged_view old transfer = record old { endpoint = record old.endpoint { queues = record old.endpoint.queues { transfer = Some transfer } } }

-- the chunks of two lists, one after the other
filled_twice : (draft : Emission) (front back : List Plain) → filled_draft (filled_draft draft (plain_contents front)) (plain_contents back) ≡ filled_draft draft (plain_contents (front ++ back))
filled_twice draft front back =
    ap (λ (contents : List Content). record draft { packet = record draft.packet { contents = contents } })
    (append_assoc draft.packet.contents (plain_contents front) (plain_contents back) ∙ ap (λ (contents : List Content). draft.packet.contents ++ contents) (sym (map-append plain front back)))

-- contents one after the other
filled_behind : (draft : Emission) (front back : List Content) → filled_draft (filled_draft draft front) back ≡ filled_draft draft (front ++ back)
filled_behind draft front back =
    ap (λ (contents : List Content). record draft { packet = record draft.packet { contents = contents } }) (append_assoc draft.packet.contents front back)

-- the packet with these contents after what it holds
contents_behind : (e : Endpoint) (draft : Emission) (contents : List Content) (packet filled_packet : Building) → packet ≡ packet_for e.options draft
    → filled_packet ≡ record packet { body = packet.body ++ flat_map chunk_bytes (map chunk_out contents) } → filled_packet ≡ packet_for e.options (filled_draft draft contents)
contents_behind e draft contents packet filled_packet is adds =
    adds
    ∙ ap (λ (b : Building). record b { body = b.body ++ flat_map chunk_bytes (map chunk_out contents) }) is
    ∙ ap (λ (bytes : List ℕ). record (packet_for e.options draft) { body = bytes }) (sym (body_append draft.packet.contents contents))

plain_chunks : (chunks : List Plain) → map plain_out chunks ≡ map chunk_out (plain_contents chunks)
plain_chunks [] = refl
plain_chunks (chunk ∷ chunks) = ap (λ (rest : List ChunkContent). plain_out chunk ∷ rest) (plain_chunks chunks)

-- ---- what abandons messages

-- the view once they are abandoned
abbrev pub forwarded_view : {R : Type 0} → View R → Option ℕ → Stage → Transfer → View R
forwarded_view old next gave_up mid =
    record old {
      endpoint = record old.endpoint {
        no_forward_tsn_before = forward_moment next old.endpoint.no_forward_tsn_before;
        queues = record { queue = gave_up.waiting; transfer = Some (record mid { retransmission = gave_up.queue }) };
      };
      events = old.events ++ gave_up.told;
    }

-- what the transfer layer says of a FORWARD-TSN is what the ask says
record GivenUp {R : Type 0} (old : View R) (draft : Emission) (mid : Transfer) (given : View R) (packet : Building) : Type 0 where
  gave_up : Stage
  next : Option ℕ
  forwards : List Plain
  gives_up : GivesUpThenForwards (may_forward first_ask old.endpoint mid.retransmission) old.endpoint.moment mid (room_of_draft old.endpoint draft)
      (stage_of old.endpoint.queues.queue mid.retransmission [] 0) gave_up (forward_made next forwards)
  fit : AllByRecursion FitsPlain forwards
  told : List FillingEvent
  are_told : map filling_event_content told ≡ gave_up.told
  is : packet ≡ packet_for old.endpoint.options (filled_draft draft (plain_contents forwards))
  view : given ≡ forwarded_view old next gave_up mid

given_up : {R : Type 0} (old : View R) (draft : Emission) (mid : Transfer) (given : View R) (before packet : Building) (b : Bool) → is_in_time old.endpoint ≡ b → old.endpoint.queues.transfer ≡ Some mid
    → before ≡ packet_for old.endpoint.options draft → ForwardsNow b mid old before given packet → GivenUp old draft mid given packet
given_up {R = R} old draft mid given before packet false early holds is h =
    let e : Endpoint = old.endpoint in
    let start : Stage = stage_of e.queues.queue mid.retransmission [] 0 in
    record {
      gave_up = start;
      next = None;
      forwards = [];
      gives_up = subst (λ (b : Bool). GivesUpThenForwards (b && may_abandon mid.retransmission) e.moment mid (room_of_draft e draft) start start (forward_made None [])) (sym early) (refl, refl, refl);
      fit = tt;
      told = [];
      are_told = refl;
      is = h.1 ∙ is ∙ ap (packet_for e.options) (sym (same_draft draft));
      view = h.0
          ∙ ap (λ (t : Option Transfer). record old { endpoint = record e { queues = record e.queues { transfer = t } } }) holds
          ∙ ap (λ (es : List (Event (List ℕ))). record old { endpoint = record e { queues = record { queue = e.queues.queue; transfer = Some mid } }; events = es }) (sym (append-nil old.events));
    }
given_up {R = R} old draft mid given before packet true in_time holds is h =
    let e : Endpoint = old.endpoint in
    let forwards = h.3 in
    let start : Stage = stage_of e.queues.queue mid.retransmission [] 0 in
    record {
      gave_up = forwards.gave_up;
      next = h.0;
      forwards = forwards.chunks;
      gives_up = subst (λ (b : Bool). GivesUpThenForwards (b && may_abandon mid.retransmission) e.moment mid (room_of_draft e draft) start forwards.gave_up (forward_made h.0 forwards.chunks)) (sym in_time)
          (subst (λ (room : ℕ). GivesUpThenForwards (may_abandon mid.retransmission) e.moment mid room start forwards.gave_up (forward_made h.0 forwards.chunks)) (room_is_left e draft before is) forwards.gives_up);
      fit = forwards.fits;
      told = forwards.told;
      are_told = forwards.are_told;
      is = contents_behind e draft (plain_contents forwards.chunks) before packet is
          (forwards.adds ∙ ap (λ (chunks : List ChunkContent). record before { body = before.body ++ flat_map chunk_bytes chunks }) (plain_chunks forwards.chunks));
      view = h.4
          ∙ ap (λ (q : SendQueueState). view_with q h.1 given.events) forwards.queue
          ∙ ap (λ (t : Transfer). view_with forwards.gave_up.waiting t given.events) forwards.is
          ∙ ap (view_with forwards.gave_up.waiting (record mid { retransmission = forwards.gave_up.queue })) forwards.tells;
    }
  where
    view_with : SendQueueState → Transfer → List (Event (List ℕ)) → View R
    view_with queue transfer events =
        record old {
          endpoint = record old.endpoint { no_forward_tsn_before = forward_moment h.0 old.endpoint.no_forward_tsn_before; queues = record { queue = queue; transfer = Some transfer } };
          events = events;
        }

-- ---- and a reset that is begun

-- the view once the reset was begun after that
abbrev pub begun_in_view : {R : Type 0} → View R → Option ℕ → Stage → Transfer → Option BegunReset → SendQueueState → View R
begun_in_view old next gave_up mid begun handed =
    record (forwarded_view old next gave_up mid) {
      endpoint = record (after_begun begun (forwarded_view old next gave_up mid).endpoint) {
        queues = record { queue = handed; transfer = Some (transfer_reset_begun begun (record mid { retransmission = gave_up.queue })) };
      };
    }

-- What acknowledges counts for nothing there.
forwards_before : (b : Bool) (now : ℕ) (transfer : Transfer) (tracker : TrackerState) (room : ℕ) (state : RetransmissionState) (next : Option ℕ) (chunks : List Plain)
    → ForwardsIfAbandoned b now (record transfer { tracker = tracker }) room state next chunks → ForwardsIfAbandoned b now transfer room state next chunks
forwards_before false now transfer tracker room state next chunks h = h
forwards_before true now transfer tracker room state next chunks h = h

gives_up_before : (b : Bool) (now : ℕ) (transfer : Transfer) (tracker : TrackerState) (room : ℕ) (old new : Stage) (next : Option ℕ) (chunks : List Plain)
    → GivesUpThenForwards b now (record transfer { tracker = tracker }) room old new (forward_made next chunks) → GivesUpThenForwards b now transfer room old new (forward_made next chunks)
gives_up_before false now transfer tracker room old new next chunks h = h
gives_up_before true now transfer tracker room old new next chunks h =
    (h.0, forwards_before (is_first_abandoned new.queue.outstanding.items) now transfer tracker room new.queue next chunks h.1)

-- What a packet holds before a reset is begun, as the ask says it.
pub record Forwarded {R : Type 0} (old : View R) (draft : Emission) (transfer : Transfer) (given : View R) (packet : Building) : Type 0 where
  pub sacks : List Plain
  pub tracker : TrackerState
  pub acknowledges : asks.Acknowledges (wants_sack first_ask old.endpoint.queues.queue transfer) (room_of_draft old.endpoint draft) transfer tracker sacks
  pub gave_up : Stage
  pub next : Option ℕ
  pub forwards : List Plain
  pub gives_up : GivesUpThenForwards (may_forward first_ask old.endpoint transfer.retransmission) old.endpoint.moment transfer (room_of_draft old.endpoint (filled_draft draft (plain_contents sacks)))
      (stage_of old.endpoint.queues.queue transfer.retransmission [] 0) gave_up (forward_made next forwards)
  pub fit : AllByRecursion FitsPlain forwards
  pub told : List FillingEvent
  pub are_told : map filling_event_content told ≡ gave_up.told
  pub is : packet ≡ packet_for old.endpoint.options (filled_draft draft (plain_contents (sacks ++ forwards)))
  pub view : given ≡ forwarded_view old next gave_up (record transfer { tracker = tracker })

pub forwarded : {R : Type 0} (old : View R) (draft : Emission) (transfer mid : Transfer) (given : View R) (before acked_packet given_packet : Building) → before ≡ packet_for old.endpoint.options draft
    → FillsRequestedSack (wants_sack first_ask old.endpoint.queues.queue transfer) transfer before mid acked_packet
    → ForwardsInTime (Some mid) (acknowledged_view old mid) acked_packet given given_packet → Forwarded old draft transfer given given_packet
forwarded {R = R} old draft transfer mid given before acked_packet given_packet built ack forward =
    let e : Endpoint = old.endpoint in
    let a = acked e draft (wants_sack first_ask e.queues.queue transfer) transfer mid before acked_packet built ack in
    let now : Transfer = record transfer { tracker = a.tracker } in
    let up : GivenUp (acknowledged_view old now) (filled_draft draft (plain_contents a.sacks)) now given given_packet =
    given_up (acknowledged_view old now) (filled_draft draft (plain_contents a.sacks)) now given acked_packet given_packet (is_in_time e) refl refl a.is
    (subst (λ (t : Transfer). ForwardsInTime (Some t) (acknowledged_view old t) acked_packet given given_packet) a.mid_is forward) in
    record {
      sacks = a.sacks;
      tracker = a.tracker;
      acknowledges = a.acknowledges;
      gave_up = up.gave_up;
      next = up.next;
      forwards = up.forwards;
      gives_up = gives_up_before (may_forward first_ask e transfer.retransmission) e.moment transfer a.tracker (room_of_draft e (filled_draft draft (plain_contents a.sacks)))
          (stage_of e.queues.queue transfer.retransmission [] 0) up.gave_up up.next up.forwards up.gives_up;
      fit = up.fit;
      told = up.told;
      are_told = up.are_told;
      is = up.is ∙ ap (packet_for e.options) (filled_twice draft a.sacks up.forwards);
      view = up.view;
    }

-- the draft after that
abbrev pub behind_forwards : {R : Type 0} {old : View R} {draft : Emission} {transfer : Transfer} {given : View R} {packet : Building} → Forwarded old draft transfer given packet → Emission
behind_forwards {draft = draft} f = filled_draft draft (plain_contents (f.sacks ++ f.forwards))

-- What a packet holds before data goes in, as the ask says it.
pub record BeforeData {R : Type 0} (old : View R) (draft : Emission) (transfer : Transfer) (here : View R) (packet : Building) : Type 0 where
  pub given : View R
  pub given_packet : Building
  pub up : Forwarded old draft transfer given given_packet
  pub begun : Option BegunReset
  pub begins : begun ≡ begun_by_ask first_ask old.endpoint.options.follow_rfc (may_be_asked old.endpoint.core old.endpoint.options.follow_rfc) (room_of_draft old.endpoint (behind_forwards up)) (last_assigned_tsn up.gave_up.queue) up.gave_up.waiting
  pub is : packet ≡ packet_for old.endpoint.options (filled_draft draft (plain_contents (up.sacks ++ up.forwards) ++ request_contents begun))
  pub view : here
      ≡ begun_in_view old up.next up.gave_up (record transfer { tracker = up.tracker }) begun
      (queue_requesting (streams_within (room_of_draft old.endpoint (behind_forwards up))) begun up.gave_up.waiting)

pub before_data : {R : Type 0} (old : View R) (draft : Emission) (transfer : Transfer) (given here : View R) (given_packet packet : Building) → Forwarded old draft transfer given given_packet
    → FillsResetRequest given.endpoint.queues.transfer given given_packet here packet → BeforeData old draft transfer here packet
before_data {R = R} old draft transfer given here given_packet packet up begin =
    let e : Endpoint = old.endpoint in
    let now : Transfer = record transfer { tracker = up.tracker } in
    let begins : FillsResetRequest (Some (record now { retransmission = up.gave_up.queue })) (forwarded_view old up.next up.gave_up now) given_packet here packet =
    subst (λ (v : View R). FillsResetRequest v.endpoint.queues.transfer v given_packet here packet) up.view begin in
    let room : bytes_remaining given_packet ≡ room_of_draft e (behind_forwards up) = room_is_left e (behind_forwards up) given_packet up.is in
    record {
      given = given;
      given_packet = given_packet;
      up = up;
      begun = begins.0;
      begins = begins.2 ∙ ap (λ (n : ℕ). begun_if_connected e.options.follow_rfc (may_be_asked e.core e.options.follow_rfc) n (last_assigned_tsn up.gave_up.queue) up.gave_up.waiting) room;
      is = contents_behind e (behind_forwards up) (request_contents begins.0) given_packet packet up.is begins.4
          ∙ ap (packet_for e.options) (filled_behind draft (plain_contents (up.sacks ++ up.forwards)) (request_contents begins.0));
      view = begins.5
          ∙ ap (begun_in_view old up.next up.gave_up now begins.0) (begins.3 ∙ ap (λ (n : ℕ). queue_requesting (streams_within n) begins.0 up.gave_up.waiting) room);
    }

-- what waits once the reset is begun, and what is in flight
abbrev pub handed_of : {R : Type 0} {old : View R} {draft : Emission} {transfer : Transfer} {here : View R} {packet : Building} → BeforeData old draft transfer here packet → SendQueueState
handed_of {old = old} d = queue_requesting (streams_within (room_of_draft old.endpoint (behind_forwards d.up))) d.begun d.up.gave_up.waiting

abbrev pub state_of : {R : Type 0} {old : View R} {draft : Emission} {transfer : Transfer} {here : View R} {packet : Building} → BeforeData old draft transfer here packet → RetransmissionState
state_of d = retransmission_begun d.begun d.up.gave_up.queue

abbrev pub room_of : {R : Type 0} {old : View R} {draft : Emission} {transfer : Transfer} {here : View R} {packet : Building} → BeforeData old draft transfer here packet → ℕ
room_of {old = old} {draft = draft} d = room_of_draft old.endpoint (filled_draft draft (plain_contents (d.up.sacks ++ d.up.forwards) ++ request_contents d.begun))

abbrev pub until_of : {R : Type 0} (old : View R) (draft : Emission) (transfer : Transfer) (here : View R) (packet : Building) (d : BeforeData old draft transfer here packet) (sent : Stage)
    → FillsIfAllowed (may_give (handed_of d) (state_of d)) old.endpoint.moment (stage_of (handed_of d) (state_of d) [] (room_of d)) sent → GivesUntilFull first_ask old.endpoint draft transfer
until_of old draft transfer here packet d sent fills =
    record {
      sacks = d.up.sacks;
      forwards = d.up.forwards;
      tracker = d.up.tracker;
      acknowledges = d.up.acknowledges;
      gave_up = d.up.gave_up;
      next = d.up.next;
      gives_up = d.up.gives_up;
      begun = d.begun;
      begins = d.begins;
      sent = behind_events d.up.gave_up.told sent;
      fills = told_after d.up.gave_up.told (may_give (handed_of d) (state_of d)) old.endpoint.moment (handed_of d) (state_of d) (room_of d) sent fills;
    }

pub moment_begun : (begun : Option BegunReset) (e : Endpoint) → (after_begun begun e).moment ≡ e.moment
moment_begun None e = refl
moment_begun (Some begun) e = refl

-- what fills it with data, after that
pub fills_behind : {R : Type 0} (old : View R) (draft : Emission) (transfer : Transfer) (here : View R) (packet : Building) (d : BeforeData old draft transfer here packet) (sent : Stage)
    → FillsIfAllowed (may_give (handed_of d) (state_of d)) (after_begun d.begun (forwarded_view old d.up.next d.up.gave_up (record transfer { tracker = d.up.tracker })).endpoint).moment
    (stage_of (handed_of d) (state_of d) [] (bytes_remaining packet)) sent
    → FillsIfAllowed (may_give (handed_of d) (state_of d)) old.endpoint.moment (stage_of (handed_of d) (state_of d) [] (room_of d)) sent
fills_behind old draft transfer here packet d sent fills =
    subst (λ (n : ℕ). FillsIfAllowed (may_give (handed_of d) (state_of d)) old.endpoint.moment (stage_of (handed_of d) (state_of d) [] n) sent) (room_is_left old.endpoint _ packet d.is)
    (subst (λ (now : ℕ). FillsIfAllowed (may_give (handed_of d) (state_of d)) now (stage_of (handed_of d) (state_of d) [] (bytes_remaining packet)) sent) (moment_begun d.begun _) fills)

-- Abandoning messages leaves the retransmission timeout as it is, so a reset that is begun after it starts the same timer.
begun_behind : (begun : Option BegunReset) (e : Endpoint) (any : Bool) (later : ℕ) (waits handed left : SendQueueState) (given after : Transfer) → reconfiguration_settings (Some given) ≡ reconfiguration_settings e.queues.transfer
    → let f : Endpoint = record (after_begun begun (record e { no_forward_tsn_before = later; queues = record { queue = waits; transfer = Some given } })) { queues = record { queue = handed; transfer = Some (transfer_reset_begun begun given) } } in
    record f { timers = timers_if_filled any f; queues = record { queue = left; transfer = Some after } } ≡ endpoint_given e begun any later left after
begun_behind None e true later waits handed left given after same = refl
begun_behind None e false later waits handed left given after same = refl
begun_behind (Some begun) e true later waits handed left given after same =
    ap (λ (settings : TimerSettings). let f : Endpoint = record e {
      core = core_asking e.core;
      outstanding = Some (record { last_tsn = begun.reset.last_tsn; streams = begun.reset.streams; is_new = begun.reset.is_new; waits_for_retry = false });
      timers = record e.timers { reconfiguration = started_timer e.moment settings };
    } in
    let g : Endpoint = record f { timers = timers_if_filled true f; no_forward_tsn_before = later; queues = record { queue = left; transfer = Some after } } in g) same
begun_behind (Some begun) e false later waits handed left given after same =
    ap (λ (settings : TimerSettings). let f : Endpoint = record e {
      core = core_asking e.core;
      outstanding = Some (record { last_tsn = begun.reset.last_tsn; streams = begun.reset.streams; is_new = begun.reset.is_new; waits_for_retry = false });
      timers = record e.timers { reconfiguration = started_timer e.moment settings };
      no_forward_tsn_before = later;
      queues = record { queue = left; transfer = Some after };
    } in f) same

-- ---- with data

first_by : {R : Type 0} (old : View R) (draft : Emission) (transfer : Transfer) (here new : View R) (packet filled_packet : Building) → old.endpoint.queues.transfer ≡ Some transfer
    → (d : BeforeData old draft transfer here packet) → FillsPacketData here.endpoint.queues.transfer here packet new filled_packet → FillsAskedPacket first_ask old draft new filled_packet
first_by {R = R} old draft transfer here new packet filled_packet holds d data_in =
    let e : Endpoint = old.endpoint in
    let begun_view : View R = begun_in_view old d.up.next d.up.gave_up (record transfer { tracker = d.up.tracker }) d.begun (handed_of d) in
    let there : FillsPacketData (Some (transfer_reset_begun d.begun (record transfer { tracker = d.up.tracker; retransmission = d.up.gave_up.queue }))) begun_view packet new filled_packet =
    subst (λ (v : View R). FillsPacketData v.endpoint.queues.transfer v packet new filled_packet) d.view data_in in
    let filling = there.3 in
    let room : bytes_remaining packet ≡ room_of d = room_is_left e _ packet d.is in
    fills_by first_ask old draft transfer new filled_packet
    (record {
      until = until_of old draft transfer here packet d filling.sent (fills_behind old draft transfer here packet d filling.sent filling.fills);
      still = λ no_data no_items. stays_behind d.up.gave_up.told (handed_of d) (state_of d) (room_of d) filling.sent
          (filling.idle no_data no_items ∙ ap (stage_of (handed_of d) (state_of d) []) room);
      chunks = filling.chunks;
      are = filling.are;
      fits = filling.fits;
      forwards_fit = d.up.fit;
      told = d.up.told ++ filling.told;
      are_told = map-append filling_event_content d.up.told filling.told
          ∙ (ap (λ (es : List (Event (List ℕ))). es ++ map filling_event_content filling.told) d.up.are_told ∙ ap (λ (es : List (Event (List ℕ))). d.up.gave_up.told ++ es) filling.are_told);
      holds = holds;
      adds = filling.adds ∙ ap (λ (b : Building). record b { body = b.body ++ flat_map chunk_bytes filling.chunks }) d.is;
      is = view_filled begun_view (transfer_reset_begun d.begun (record transfer { tracker = d.up.tracker; retransmission = d.up.gave_up.queue })) there.1 there.2 packet filled_packet there.0 new filling there.4
          ∙ ap (λ (x : Endpoint). record old { endpoint = x; events = old.events ++ d.up.gave_up.told ++ filling.sent.told })
          (begun_behind d.begun e (has_chunks filling.chunks) (forward_moment d.up.next e.no_forward_tsn_before) d.up.gave_up.waiting (handed_of d) filling.sent.waiting (record transfer { tracker = d.up.tracker; retransmission = d.up.gave_up.queue })
          (record transfer { retransmission = filling.sent.queue; tracker = d.up.tracker }) (sym (ap reconfiguration_settings holds)))
          ∙ ap (λ (es : List (Event (List ℕ))). record old { endpoint = endpoint_given e d.begun (has_chunks filling.chunks) (forward_moment d.up.next e.no_forward_tsn_before) filling.sent.waiting (record transfer { retransmission = filling.sent.queue; tracker = d.up.tracker }); events = es })
          (append_assoc old.events d.up.gave_up.told filling.sent.told);
    })

along_is : (found : Option Transfer) (queue : SendQueueState) (transfer : Transfer) (along : Bool) → found ≡ Some transfer → along ≡ (has_queued_data queue || can_queues_send found)
    → is_sack_wanted along transfer ≡ wants_sack first_ask queue transfer
along_is found queue transfer along holds is = ap (λ (b : Bool). is_sack_wanted b transfer) (is ∙ ap (λ (f : Option Transfer). has_queued_data queue || can_queues_send f) holds)

-- ---- as the context shows it

-- no peer is known, so nothing has changed
pub same_view : {R : Type 0} (old : Context R) (along : Bool) (state : State) (given here : View R) (packet acked_packet given_packet request_packet : Building) → transfer_of old.state ≡ None
    → AcknowledgesInQueues None along old.state packet state acked_packet → ForwardsInTime (transfer_of state) (view_of (record old { state = state })) acked_packet given given_packet
    → FillsResetRequest given.endpoint.queues.transfer given given_packet here request_packet → (here ≡ view_of old) × (request_packet ≡ packet)
same_view {R = R} old along state given here packet acked_packet given_packet request_packet holds ack forward begin =
    let up : ForwardsInTime None (view_of old) acked_packet given given_packet =
    subst (λ (f : Option Transfer). ForwardsInTime f (view_of old) acked_packet given given_packet) holds
    (subst (λ (s : State). ForwardsInTime (transfer_of s) (view_of (record old { state = s })) acked_packet given given_packet) ack.0 forward) in
    let at : FillsResetRequest None (view_of old) given_packet here request_packet =
    subst (λ (f : Option Transfer). FillsResetRequest f (view_of old) given_packet here request_packet) holds
    (subst (λ (v : View R). FillsResetRequest v.endpoint.queues.transfer v given_packet here request_packet) up.0 begin) in
    (at.0, at.1 ∙ up.1 ∙ ack.1)

pub forwarded_where : {R : Type 0} (old : Context R) (transfer : Transfer) (along : Bool) (state : State) (draft : Emission) (given : View R) (before acked_packet given_packet : Building)
    → transfer_of old.state ≡ Some transfer → along ≡ (has_queued_data old.send_queue || can_queues_send (Some transfer)) → before ≡ packet_for old.options draft
    → AcknowledgesInQueues (Some transfer) along old.state before state acked_packet
    → ForwardsInTime (transfer_of state) (view_of (record old { state = state })) acked_packet given given_packet → Forwarded (view_of old) draft transfer given given_packet
forwarded_where {R = R} old transfer along state draft given before acked_packet given_packet holds is built ack forward =
    let mid : Transfer = ack.0 in
    let at_state : ForwardsInTime (transfer_of (state_with old.state mid)) (view_of (record old { state = state_with old.state mid })) acked_packet given given_packet =
    subst (λ (s : State). ForwardsInTime (transfer_of s) (view_of (record old { state = s })) acked_packet given given_packet) ack.1 forward in
    let found : ForwardsInTime (Some mid) (view_of (record old { state = state_with old.state mid })) acked_packet given given_packet =
    subst (λ (f : Option Transfer). ForwardsInTime f (view_of (record old { state = state_with old.state mid })) acked_packet given given_packet) (transfer_is old.state transfer mid holds) at_state in
    let view : view_of (record old { state = state_with old.state mid }) ≡ acknowledged_view (view_of old) mid =
    ap (λ (e : Endpoint). record (view_of old) { endpoint = e }) (endpoint_with old transfer mid holds) in
    forwarded (view_of old) draft transfer mid given before acked_packet given_packet built
    (subst (λ (b : Bool). FillsRequestedSack b transfer before mid acked_packet) (along_is (Some transfer) old.send_queue transfer along refl is) ack.2)
    (subst (λ (v : View R). ForwardsInTime (Some mid) v acked_packet given given_packet) view found)

first_where : {R : Type 0} (old : Context R) (found : Option Transfer) (along : Bool) (state : State) (draft : Emission) (given here new : View R) (before acked_packet given_packet request_packet filled_packet : Building)
    → transfer_of old.state ≡ found → along ≡ (has_queued_data old.send_queue || can_queues_send found) → before ≡ packet_for old.options draft
    → AcknowledgesInQueues found along old.state before state acked_packet
    → ForwardsInTime (transfer_of state) (view_of (record old { state = state })) acked_packet given given_packet
    → FillsResetRequest given.endpoint.queues.transfer given given_packet here request_packet
    → FillsPacketData here.endpoint.queues.transfer here request_packet new filled_packet
    → FillsAskedPacket first_ask (view_of old) draft new filled_packet
first_where {R = R} old None along state draft given here new before acked_packet given_packet request_packet filled_packet holds is built ack forward begin data_in =
    let same = same_view old along state given here before acked_packet given_packet request_packet holds ack forward begin in
    let at : FillsPacketData None (view_of old) request_packet new filled_packet =
    subst (λ (f : Option Transfer). FillsPacketData f (view_of old) request_packet new filled_packet) holds
    (subst (λ (v : View R). FillsPacketData v.endpoint.queues.transfer v request_packet new filled_packet) same.0 data_in) in
    fills_nothing first_ask (view_of old) draft new filled_packet holds at.0 (at.1 ∙ same.1 ∙ built)
first_where old (Some transfer) along state draft given here new before acked_packet given_packet request_packet filled_packet holds is built ack forward begin data_in =
    first_by (view_of old) draft transfer here new request_packet filled_packet holds
    (before_data (view_of old) draft transfer given here given_packet request_packet
    (forwarded_where old transfer along state draft given before acked_packet given_packet holds is built ack forward) begin) data_in

pub fills_first : {R : Type 0} (old : Context R) (along : Bool) (state : State) (draft : Emission) (given here new : View R) (before acked_packet given_packet request_packet filled_packet : Building)
    → along ≡ (has_queued_data old.send_queue || can_queues_send (transfer_of old.state)) → before ≡ packet_for old.options draft
    → AcknowledgesInQueues (transfer_of old.state) along old.state before state acked_packet
    → ForwardsInTime (transfer_of state) (view_of (record old { state = state })) acked_packet given given_packet
    → FillsResetRequest given.endpoint.queues.transfer given given_packet here request_packet
    → FillsPacketData here.endpoint.queues.transfer here request_packet new filled_packet
    → FillsAskedPacket first_ask (view_of old) draft new filled_packet
fills_first old along state draft given here new before acked_packet given_packet request_packet filled_packet is built ack forward begin data_in =
    first_where old (transfer_of old.state) along state draft given here new before acked_packet given_packet request_packet filled_packet refl is built ack forward begin data_in
