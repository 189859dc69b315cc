-- A packet of a HEARTBEAT or of a SACK leaves a receiver as it was.
use Rattle.std.specs.Prelude.{if◌then◌else◌}
use Rattle.std.proofs.Common.{◌≡◌, ◌≤◌, ◌<◌, ◌+◌, ℕ, Bool, true, false, Option, None, Some, List, [], ◌∷◌, length, refl, sym, ap, ◌∙◌, subst}
use Rattle.dcsctp_spec_lemmas.specs.wire.Content.{ParameterContent}
use Rattle.dcsctp_spec_lemmas.specs.types.declared.association.Held.{Held}
use Rattle.dcsctp_spec_lemmas.specs.types.declared.association.Pair.{Pair}
use Rattle.dcsctp_spec_lemmas.specs.types.declared.capabilities.Capabilities.{Capabilities}
use Rattle.dcsctp_spec_lemmas.specs.types.declared.ends.Violation.{Violation}
use Rattle.dcsctp_spec_lemmas.specs.types.declared.options.Options.{Options}
use Rattle.dcsctp_spec_lemmas.specs.types.declared.tracking.AckState.{AckState}
use Rattle.dcsctp_spec_lemmas.specs.types.declared.tracking.AckState.TheVariants.{Idle, BecomingDelayed, Delayed, Immediate}
use Rattle.dcsctp_spec_lemmas.specs.types.declared.tracking.TsnRange.{TsnRange}
use Rattle.dcsctp_spec_lemmas.specs.spec.Packet.{Content, plain, heartbeat, heartbeat_ack, Packet, Emission}
use Rattle.dcsctp_spec_lemmas.specs.spec.endpoint.CallTurns.{Transition, Turns, AfterChunk, ChunkTurns, WholeTurns, packet_tail, asked_again, after_all}
use Rattle.dcsctp_spec_lemmas.specs.spec.endpoint.DataOutcomes.{endpoint_with_tracker, AnswersPacketIfDue, AcknowledgesPacket, acknowledging}
use Rattle.dcsctp_spec_lemmas.specs.spec.endpoint.Endpoint.{Endpoint, Core, closed, cookie_wait, cookie_echoed, open_in, established, held_by_core, may_answer}
use Rattle.dcsctp_spec_lemmas.specs.spec.endpoint.Following.{Following}
use Rattle.dcsctp_spec_lemmas.specs.spec.endpoint.FlushOutcomes.{first_ask, own_sack, room_of_draft, draft_to, packets_allowed}
use Rattle.dcsctp_spec_lemmas.specs.spec.endpoint.HeartbeatOutcomes.{heartbeat_outcome}
use Rattle.dcsctp_spec_lemmas.specs.spec.endpoint.MessageOutcomes.{awaits_opening}
use Rattle.dcsctp_spec_lemmas.specs.spec.endpoint.Outcome.{Outcome, quiet, sends, fits, to_peer, answering, answered_if_allowed}
use Rattle.dcsctp_spec_lemmas.specs.spec.endpoint.PlainOutcomes.{PlainTurnUnlessViolating, violation_by_core}
use Rattle.dcsctp_spec_lemmas.specs.spec.endpoint.Turn.{Input, packet_ends, BeginTurn, ContentTurn, has_data_chunk}
use Rattle.dcsctp_spec_lemmas.specs.spec.queues.Outstanding.{OutstandingState}
use Rattle.dcsctp_spec_lemmas.specs.spec.queues.Ranges.{is_received}
use Rattle.dcsctp_spec_lemmas.specs.spec.queues.Tracker.{TrackerState, after_packet_end, delayed_from, is_acknowledgement_due, tracker_after_sack}
use Rattle.dcsctp_spec_lemmas.specs.spec.queues.Transfer.{Transfer}
use Rattle.dcsctp_theorem_transfer.specs.Deadlines.{IsOpen}
use Rattle.dcsctp_theorem_transfer.specs.InOrder.{BringsNoData, a_heartbeat, a_sack, StillAwaits, SuchPacketsPass}
use Rattle.dcsctp_theorem_transfer.specs.Recovering.{AwaitsData, HasReceivedPart}
use Rattle.dcsctp_theorem_transfer.proofs.RecoveringBehind.{still_awaits}
use Rattle.dcsctp_theorem_transfer.proofs.Taking.{plain_turn}
use Rattle.dcsctp_theorem_transfer.proofs.Unmoved.{SameReceived, same_itself, same_then, StaysReceiver, IsUnmoved, flush_receives, chunk_unmoved, by_numbers}

-- ---- a HEARTBEAT

heartbeat_allowed : (core : Core) (parameters : List ParameterContent) → violation_by_core core (heartbeat parameters) ≡ None
heartbeat_allowed closed parameters = refl
heartbeat_allowed (cookie_wait my) parameters = refl
heartbeat_allowed (cookie_echoed my held cookie) parameters = refl
heartbeat_allowed (open_in phase my held) parameters = refl

-- Its answer leaves what was received.
answered_unmoved : (e : Endpoint) (my : Pair) (held : Held) (t : Transfer) (emission : Emission) → e.core ≡ open_in established my held → e.queues.transfer ≡ Some t
    → (allowed : Bool) → IsUnmoved t e.options held.capabilities (answered_if_allowed allowed e emission)
answered_unmoved e my held t emission phase has false =
    record { stays = record { my = my; held = held; phase = phase; kinds_are = refl; options_are = refl; left = t; has = has; same = same_itself t }; following = refl }
answered_unmoved e my held t emission phase has true = go (fits e emission)
  where
    go : (fitting : Bool) → IsUnmoved t e.options held.capabilities (answering (if fitting then sends e [] [] emission else quiet e [] []))
    go true =
        record { stays = record { my = my; held = held; phase = phase; kinds_are = refl; options_are = refl; left = t; has = has; same = same_itself t }; following = refl }
    go false =
        record { stays = record { my = my; held = held; phase = phase; kinds_are = refl; options_are = refl; left = t; has = has; same = same_itself t }; following = refl }

heartbeat_unmoved : (e : Endpoint) (my : Pair) (held : Held) (t : Transfer) (tag : ℕ) (parameters : List ParameterContent) (o : Outcome) → e.core ≡ open_in established my held → e.queues.transfer ≡ Some t
    → ContentTurn e tag (plain (heartbeat parameters)) o → IsUnmoved t e.options held.capabilities o
heartbeat_unmoved e my held t tag parameters o phase has turn =
    let is : o ≡ heartbeat_outcome e e.core parameters =
    subst (λ (violation : Option Violation). PlainTurnUnlessViolating e (heartbeat parameters) violation o) (heartbeat_allowed e.core parameters)
    (plain_turn e tag (heartbeat parameters) o (subst IsOpen (sym phase) tt) turn) in
    subst (IsUnmoved t e.options held.capabilities) (sym (is ∙ ap (λ (core : Core). heartbeat_outcome e core parameters) phase))
    (answered_unmoved e my held t (to_peer held (plain (heartbeat_ack parameters))) phase has (may_answer e))

-- ---- the end of its packet

pub record SameNumbers (old new : TrackerState) : Type 0 where
  pub cumulative : new.cumulative ≡ old.cumulative
  pub ranges : new.ranges ≡ old.ranges
  pub follows : new.follows_rfc ≡ old.follows_rfc

end_numbers : (moment : ℕ) (tracker : TrackerState) (state : AckState) → SameNumbers tracker (delayed_from moment tracker state)
end_numbers moment tracker Idle = record { cumulative = refl; ranges = refl; follows = refl }
end_numbers moment tracker BecomingDelayed = record { cumulative = refl; ranges = refl; follows = refl }
end_numbers moment tracker Delayed = record { cumulative = refl; ranges = refl; follows = refl }
end_numbers moment tracker Immediate = record { cumulative = refl; ranges = refl; follows = refl }

pub with_numbers : (base : Transfer) (options : Options) (kinds : Capabilities) (f : Endpoint) (t : Transfer) (tracker : TrackerState) → (h : StaysReceiver base options kinds f) → h.left ≡ t → SameNumbers t.tracker tracker
    → StaysReceiver base options kinds (endpoint_with_tracker f t tracker)
with_numbers base options kinds f t tracker h same numbers =
    record {
      my = h.my;
      held = h.held;
      phase = h.phase;
      kinds_are = h.kinds_are;
      options_are = h.options_are;
      left = record t { tracker = tracker };
      has = refl;
      same = same_then base t (record t { tracker = tracker }) (subst (SameReceived base) same h.same)
          (record { cumulative = numbers.cumulative; ranges = numbers.ranges; follows = numbers.follows; reassembly = refl });
    }

ended_at : (base : Transfer) (options : Options) (kinds : Capabilities) (f : Endpoint) (found : Option Transfer) (o : Outcome) → (h : StaysReceiver base options kinds f) → found ≡ Some h.left → AcknowledgesPacket f found o
    → StaysReceiver base options kinds o.after
ended_at base options kinds f None o h has turn = absurd (cc)
ended_at base options kinds f (Some t) o h has turn = go (is_acknowledgement_due tracker) (held_by_core f.core) turn
  where
    tracker : TrackerState
    tracker = after_packet_end f.moment t.tracker

    same : h.left ≡ t
    same = cc

    numbers : SameNumbers t.tracker (after_packet_end f.moment t.tracker)
    numbers = end_numbers f.moment t.tracker t.tracker.acknowledgement

    rests : StaysReceiver base options kinds (endpoint_with_tracker f t (after_packet_end f.moment t.tracker))
    rests = with_numbers base options kinds f t (after_packet_end f.moment t.tracker) h same numbers

    go : (due : Bool) (peer : Option Held) → AnswersPacketIfDue due f peer t (after_packet_end f.moment t.tracker) o → StaysReceiver base options kinds o.after
    go false peer is = subst (λ (x : Outcome). StaysReceiver base options kinds x.after) (sym is) rests
    go true None is = subst (λ (x : Outcome). StaysReceiver base options kinds x.after) (sym is) rests
    go true (Some held) is =
        let acknowledged : TrackerState = tracker_after_sack (after_packet_end f.moment t.tracker) in
        let sack = own_sack (room_of_draft f (draft_to held)) (record t { tracker = after_packet_end f.moment t.tracker }) in
        subst (λ (x : Outcome). StaysReceiver base options kinds x.after) (sym is.is)
        (flush_receives first_ask (packets_allowed f.options.max_burst f.core) (endpoint_with_tracker f t acknowledged) (acknowledging f held sack) is.answers base options kinds
        (with_numbers base options kinds f t acknowledged h same (record { cumulative = numbers.cumulative; ranges = numbers.ranges; follows = numbers.follows })) is.allowed)

-- ---- the packet

brings_one : (base : Transfer) (options : Options) (kinds : Capabilities) (f : Endpoint) (ts : List Transition) → StaysReceiver base options kinds f → Turns f (packet_ends ∷ []) ts → StaysReceiver base options kinds (after_all f ts)
brings_one base options kinds f [] h turns = absurd turns
brings_one base options kinds f (t ∷ u ∷ ts) h turns = absurd turns.1
brings_one base options kinds f (t ∷ []) h turns = ended_at base options kinds f f.queues.transfer t.outcome h h.has turns.0.comes

chunk_passes : (e : Endpoint) (my : Pair) (held : Held) (t : Transfer) (tag : ℕ) (contents : List Content) (ts : List Transition) → BringsNoData contents → e.core ≡ open_in established my held → e.queues.transfer ≡ Some t
    → ChunkTurns e tag contents (packet_ends ∷ []) ts → StaysReceiver t e.options held.capabilities (after_all e ts)
chunk_passes e my held t tag contents [] brings phase has does = absurd (no_turns contents brings does)
  where
    no_turns : (contents : List Content) → BringsNoData contents → ChunkTurns e tag contents (packet_ends ∷ []) [] → ⊥
    no_turns _ (a_heartbeat parameters) none = none
    no_turns _ (a_sack sack) none = none
chunk_passes e my held t tag contents (turn ∷ ts) brings phase has does = by_chunk contents brings does
  where
    then_ends : IsUnmoved t e.options held.capabilities turn.outcome
        → AfterChunk turn.outcome.following (Turns turn.outcome.after (packet_ends ∷ []) ts) (Turns turn.outcome.after (packet_ends ∷ []) ts) (ts ≡ [])
        → StaysReceiver t e.options held.capabilities (after_all turn.outcome.after ts)
    then_ends unmoved rest =
        brings_one t e.options held.capabilities turn.outcome.after ts unmoved.stays
        (subst (λ (f : Following). AfterChunk f (Turns turn.outcome.after (packet_ends ∷ []) ts) (Turns turn.outcome.after (packet_ends ∷ []) ts) (ts ≡ [])) unmoved.following rest)

    by_chunk : (contents : List Content) → BringsNoData contents → ChunkTurns e tag contents (packet_ends ∷ []) (turn ∷ ts) → StaysReceiver t e.options held.capabilities (after_all turn.outcome.after ts)
    by_chunk _ (a_heartbeat parameters) is = then_ends (heartbeat_unmoved e my held t tag parameters turn.outcome phase has is.0.comes) is.1
    by_chunk _ (a_sack sack) is = then_ends (chunk_unmoved e held my t tag sack turn.outcome phase has is.0.comes) is.1

packet_passes : (kind : Bool) (e : Endpoint) (t : Transfer) (packet : Packet) (ts : List Transition) → (awaits : AwaitsData e t kind) → BringsNoData packet.contents → WholeTurns e packet ts
    → StaysReceiver t e.options awaits.held.capabilities (after_all e ts)
packet_passes kind e t packet [] awaits brings whole = absurd whole
packet_passes kind e t packet (begun ∷ ts) awaits brings whole =
    let after : begun.outcome.after ≡ e =
    ap (λ (o : Outcome). o.after) (subst (λ (c : Core). BeginTurn e c (has_data_chunk e.options.follow_rfc packet.contents) begun.outcome) awaits.phase whole.0.comes) in
    let tail : packet_tail e ≡ packet_ends ∷ [] = ap (λ (c : Core). packet_ends ∷ asked_again (awaits_opening e c)) awaits.phase in
    let here : ChunkTurns e packet.tag packet.contents (packet_tail e) ts = subst (λ (x : Endpoint). ChunkTurns x packet.tag packet.contents (packet_tail x) ts) after whole.1 in
    subst (λ (x : Endpoint). StaysReceiver t e.options awaits.held.capabilities (after_all x ts)) (sym after)
    (chunk_passes e awaits.my awaits.held t packet.tag packet.contents ts brings awaits.phase awaits.has
    (subst (λ (ends : List Input). ChunkTurns e packet.tag packet.contents ends ts) tail here))

part_stays : (outstanding : OutstandingState) (old new : Transfer) → SameReceived old new → HasReceivedPart outstanding old.tracker → HasReceivedPart outstanding new.tracker
part_stays outstanding old new same part =
    record {
      number = part.number;
      is = part.is;
      before = subst (λ (c : ℕ). part.number ≤ c + 1) (sym same.cumulative) part.before;
      sent = by_numbers (λ (c : ℕ) (ranges : List TsnRange). (number : ℕ) → is_received c number ranges ≡ true → number < part.number + length outstanding.items) old new same part.sent;
      few = part.few;
      left = part.left;
    }

pub still_receives : (kind : Bool) (e : Endpoint) (received : Transfer) (turns : List Transition) → (awaits : AwaitsData e received kind)
    → StaysReceiver received e.options awaits.held.capabilities (after_all e turns) → StillAwaits received kind (after_all e turns)
still_receives kind e received turns awaits stays =
    record {
      left = stays.left;
      awaits = still_awaits kind e (after_all e turns) received awaits stays;
      part = λ outstanding part. part_stays outstanding received stays.left stays.same part;
    }

pub such_packets_pass : SuchPacketsPass
such_packets_pass e received kind packet turns awaits brings whole = still_receives kind e received turns awaits (packet_passes kind e received packet turns awaits brings whole)
