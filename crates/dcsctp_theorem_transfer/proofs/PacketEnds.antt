-- At the end of a packet a SACK that is due goes out, in front of the first packet.
use Rattle.std.proofs.Common.{◌≡◌, ◌≤◌, ◌+◌, ◌-◌, ◌%◌, ◌^◌, ℕ, zero, suc, min, max, nat_le, ℤ, pos, negsuc, Bool, true, false, if◌then◌else◌, Option, None, Some, List, [], ◌∷◌, ◌++◌, map, length, length-append, append_assoc, refl, sym, ap, ◌∙◌, subst, arith}
use Rattle.std.proofs.lemmas.Bool.Decides.{nat_tests}
use Rattle.dcsctp_spec_lemmas.specs.wire.Content.{SackContent, sack_chunk}
use Rattle.dcsctp_spec_lemmas.specs.wire.Spelling.{chunk_bytes, sack_fields}
use Rattle.dcsctp_spec_lemmas.proofs.wire_lemmas.Lengths.{length-chunk_bytes, length-sack_fields}
use Rattle.dcsctp_spec_lemmas.specs.types.Settings.{packet_size_limit, IsValid}
use Rattle.dcsctp_spec_lemmas.specs.types.declared.association.Held.{Held}
use Rattle.dcsctp_spec_lemmas.specs.types.declared.options.Options.{Options}
use Rattle.dcsctp_spec_lemmas.specs.types.declared.tracking.AckState.{AckState}
use Rattle.dcsctp_spec_lemmas.specs.types.declared.tracking.AckState.TheVariants.{Idle, BecomingDelayed, Delayed, Immediate}
use Rattle.dcsctp_spec_lemmas.specs.spec.Packet.{Content, plain, plain_out, Emission}
use Rattle.dcsctp_spec_lemmas.specs.spec.association.Choices.{plain_contents}
use Rattle.dcsctp_spec_lemmas.specs.spec.endpoint.CallTurns.{Transition, IsTurn, AlongTurns, after_all}
use Rattle.dcsctp_spec_lemmas.specs.spec.endpoint.DataOutcomes.{endpoint_with_tracker, acknowledging, AnswersPacketIfDue, AcknowledgesPacket}
use Rattle.dcsctp_spec_lemmas.specs.spec.endpoint.Endpoint.{Endpoint, Core, closed, cookie_wait, cookie_echoed, open_in, held_by_core, fresh_endpoint}
use Rattle.dcsctp_spec_lemmas.specs.spec.endpoint.Event.{Event, sent, packets_of_events}
use Rattle.dcsctp_spec_lemmas.specs.spec.endpoint.FlushOutcomes.{FillingEvent, amount_is_low, total_amount_is_low, message_is_sent, message_may_have_expired, message_has_expired, message_ends, filling_event, Answer, answer_contents, goes_out, asked_outcome, draft_to, next_draft, flush_of, packets_allowed, allows_packet, Ask, first_ask, room_of_draft, own_sack, AreFlushAnswers, at_limit, at_empty, after_packet}
use Rattle.dcsctp_spec_lemmas.specs.spec.endpoint.Outcome.{Outcome}
use Rattle.dcsctp_spec_lemmas.specs.spec.endpoint.Turn.{Input, arrival, refusal, packet_begins, chunk_input, packet_ends, act_input, user_sets, user_sends, user_resets, user_takes, timer_expires, time_passes, restores}
use Rattle.dcsctp_spec_lemmas.specs.spec.queues.Tracker.{TrackerState, delayed_from, is_sack_due, is_acknowledgement_due, after_packet_end, tracker_after_sack, sack_of}
use Rattle.dcsctp_spec_lemmas.specs.spec.queues.Transfer.{Transfer, advertised_window}
use Rattle.dcsctp_spec_laws.specs.SackLaws.{SacksFit, sack_size}
use Rattle.dcsctp_spec_runs.specs.Deadlines.{IsRunning}
use Rattle.dcsctp_spec_runs.specs.Sockets.{of_side, turns_after, endpoint_after}
use Rattle.dcsctp_spec_runs.proofs.RunsAlong.{run_along_where}
use Rattle.dcsctp_spec_lemmas.specs.spec.endpoint.Timers.{RunningTimer}
use Rattle.dcsctp_theorem_transfer.specs.Delaying.{DelaysByTimer, OwesByTimer, BeginWithSack, SaysWhatIsDue, SendSacks, AcknowledgesAtEnd, TurnAcknowledges, SocketsAcknowledge}
use Rattle.dcsctp_theorem_transfer.proofs.Delayed.{IsSettled, DelayingLayer, SettledLayer, delaying_kept, settled_kept}
use Rattle.dcsctp_theorem_transfer.proofs.Following.{FollowingLayer, following_kept}
use Rattle.dcsctp_theorem_transfer.proofs.Layers.{HasPeer, LayerIs, EndpointIs, LeavesIt}
use Rattle.dcsctp_theorem_transfer.proofs.Turns.{MayBe, all_may_come, packet_end_is, turn_is}

-- ---- the first packet of a flush

-- What is reported while a packet is filled is no packet.
pub told_none : (told : List FillingEvent) (rest : List (Event Emission)) → packets_of_events (map filling_event told ++ rest) ≡ packets_of_events rest
told_none [] rest = refl
told_none (amount_is_low stream ∷ told) rest = told_none told rest
told_none (total_amount_is_low ∷ told) rest = told_none told rest
told_none (message_is_sent id ∷ told) rest = told_none told rest
told_none (message_may_have_expired id ∷ told) rest = told_none told rest
told_none (message_has_expired id ∷ told) rest = told_none told rest
told_none (message_ends id ∷ told) rest = told_none told rest

-- The first packet begins with this chunk.
pub record BeginsWith (content : Content) (packets : List Emission) : Type 0 where
  pub first : Emission
  pub others : List Emission
  pub are : packets ≡ first ∷ others
  pub more : List Content
  pub contents : first.packet.contents ≡ content ∷ more

pub out_first : (e : Endpoint) (told : List FillingEvent) (with_checksum : Bool) (tag : ℕ) (content : Content) (more : List Content) (rest : List (Event Emission))
    → BeginsWith content (packets_of_events ((goes_out e (map filling_event told) with_checksum tag (content ∷ more)).events ++ rest))
out_first e told with_checksum tag content more rest =
    let emission : Emission = record { with_checksum = with_checksum; packet = record { tag = tag; contents = content ∷ more } } in
    record {
      first = emission;
      others = packets_of_events rest;
      are = ap packets_of_events (append_assoc (map filling_event told) (sent emission ∷ []) rest) ∙ told_none told (sent emission ∷ rest);
      more = more;
      contents = refl;
    }

asked_first : (e : Endpoint) (draft : Emission) (answer : Answer) (content : Content) (more : List Content) (rest : List (Event Emission)) → draft.packet.contents ≡ content ∷ more
    → BeginsWith content (packets_of_events ((asked_outcome e draft answer).events ++ rest))
asked_first e draft answer content more rest is =
    subst (λ (cs : List Content). BeginsWith content (packets_of_events ((goes_out answer.after (map filling_event answer.told) draft.with_checksum draft.packet.tag (cs ++ answer_contents answer)).events ++ rest)))
    (sym is) (out_first answer.after answer.told draft.with_checksum draft.packet.tag content (more ++ answer_contents answer) rest)

flush_first : (ask : Ask) (n count : ℕ) (e : Endpoint) (draft : Emission) (answers : List Answer) (content : Content) (more : List Content) → n ≡ suc count → draft.packet.contents ≡ content ∷ more
    → AreFlushAnswers ask n e draft answers → BeginsWith content (packets_of_events (flush_of e draft answers).events)
flush_first _ _ count _ _ _ content more some is (at_limit ask e draft) = absurd (omega (arith, some))
flush_first _ _ count _ _ _ content more some is (at_empty ask _ e draft answer h empty) = asked_first e draft answer content more [] is
flush_first _ _ count _ _ _ content more some is (after_packet ask _ e draft answer answers h sends rest) =
    asked_first e draft answer content more (flush_of (asked_outcome e draft answer).after (next_draft e.core draft) answers).events is

pub allowed_some : (burst : ℤ) (core : Core) → allows_packet burst ≡ true → (count : ℕ) × (packets_allowed burst core ≡ suc count)
allowed_some (pos zero) core allows = absurd (cc)
allowed_some (pos (suc more)) closed allows = (more, refl)
allowed_some (pos (suc more)) (cookie_wait my) allows = (more, refl)
allowed_some (pos (suc more)) (cookie_echoed my held cookie) allows = (0, refl)
allowed_some (pos (suc more)) (open_in phase my held) allows = (more, refl)
allowed_some (negsuc below) core allows = absurd (cc)

-- ---- the SACK

-- It fits an empty packet.
pub fits_empty : SacksFit → (e : Endpoint) (held : Held) (t : Transfer) → IsValid e.options → t.tracker.follows_rfc ≡ true
    → nat_le (length (chunk_bytes (plain_out (own_sack (room_of_draft e (draft_to held)) t)))) (room_of_draft e (draft_to held)) ≡ true
fits_empty law e held t valid follows =
    let room : ℕ = room_of_draft e (draft_to held) in
    let sack : SackContent = sack_of room t.tracker (advertised_window t) in
    let size : 16 + sack_size sack ≤ max 16 (min room 65535 - 20) = law room t.tracker (advertised_window t) follows in
    let long : length (chunk_bytes (sack_chunk sack)) ≤ 16 + sack_size sack + 3 =
    omega (arith, length-chunk_bytes (sack_chunk sack), length-sack_fields sack, length-append (sack_fields sack) (sack.gap_ack_blocks ++ sack.duplicate_tsns), length-append sack.gap_ack_blocks sack.duplicate_tsns) in
    let least : 32 ≤ packet_size_limit e.options = valid.least_size in
    let most : length (chunk_bytes (sack_chunk sack)) ≤ room = omega (arith, size, long, least) in
    grind (arith, nat_tests, most)

front_is : SacksFit → (e : Endpoint) (held : Held) (t : Transfer) → IsValid e.options → t.tracker.follows_rfc ≡ true
    → (acknowledging e held (own_sack (room_of_draft e (draft_to held)) t)).packet.contents ≡ plain (own_sack (room_of_draft e (draft_to held)) t) ∷ []
front_is law e held t valid follows =
    ap (λ (b : Bool). plain_contents (if b then own_sack (room_of_draft e (draft_to held)) t ∷ [] else [])) (fits_empty law e held t valid follows)

delayed_same : (now : ℕ) (tracker : TrackerState) (state : AckState)
    → ((delayed_from now tracker state).cumulative ≡ tracker.cumulative) × ((delayed_from now tracker state).follows_rfc ≡ tracker.follows_rfc)
delayed_same now tracker Idle = (refl, refl)
delayed_same now tracker BecomingDelayed = (refl, refl)
delayed_same now tracker Delayed = (refl, refl)
delayed_same now tracker Immediate = (refl, refl)

pub due_says : SacksFit → (b : Bool) (e : Endpoint) (peer : Option Held) (t : Transfer) (o : Outcome) → held_by_core e.core ≡ peer → HasPeer e.core → t.tracker.follows_rfc ≡ e.options.follow_rfc
    → AnswersPacketIfDue b e peer t (after_packet_end e.moment t.tracker) o → SendSacks e.options → b ≡ true → BeginWithSack t.tracker (packets_of_events o.events)
due_says law false e peer t o known has follows turn may due = absurd (cc)
due_says law true e None t o known has follows turn may due = absurd (no_peer e.core known has)
  where
    no_peer : (core : Core) → held_by_core core ≡ None → HasPeer core → ⊥
    no_peer closed none has = has
    no_peer (cookie_wait my) none has = has
    no_peer (cookie_echoed my held cookie) none has = absurd (cc)
    no_peer (open_in phase my held) none has = absurd (cc)
due_says law true e (Some held) t o known has follows turn may due =
    let tracker : TrackerState = after_packet_end e.moment t.tracker in
    let same = delayed_same e.moment t.tracker t.tracker.acknowledgement in
    let now : Transfer = record t { tracker = tracker } in
    let base : Endpoint = endpoint_with_tracker e t (tracker_after_sack tracker) in
    let room : ℕ = room_of_draft e (draft_to held) in
    let some = allowed_some e.options.max_burst e.core may.allowed in
    let out : BeginsWith (plain (own_sack room now)) (packets_of_events (flush_of base (acknowledging e held (own_sack room now)) turn.answers).events) =
    flush_first first_ask (packets_allowed e.options.max_burst e.core) some.0 base (acknowledging e held (own_sack room now)) turn.answers (plain (own_sack room now)) [] some.1
    (front_is law e held now may.valid (same.1 ∙ follows ∙ may.follows)) turn.allowed in
    subst (λ (x : Outcome). BeginWithSack t.tracker (packets_of_events x.events)) (sym turn.is)
    (record {
      first = out.first;
      others = out.others;
      are = out.are;
      sack = sack_of room tracker (advertised_window now);
      more = out.more;
      contents = out.contents;
      acknowledges = ap (λ (n : ℕ). n % 2 ^ 32) same.0;
    })

-- ---- each turn

settled_runs : (state : AckState) (timer : Option RunningTimer) → IsSettled state timer → is_sack_due state true ≡ true → IsRunning timer
settled_runs Idle timer h owes = absurd (cc)
settled_runs BecomingDelayed timer h owes = absurd h
settled_runs Delayed timer h owes = h
settled_runs Immediate timer h owes = absurd h

pub owes_by : (core : Core) (options : Options) (t : Option Transfer) → LayerIs SettledLayer core options t → OwesByTimer t
owes_by core options None h = tt
owes_by core options (Some t) h = settled_runs t.tracker.acknowledgement t.tracker.delay.running h.1

end_says : SacksFit → (e : Endpoint) (found : Option Transfer) (o : Outcome) → AcknowledgesPacket e found o → LayerIs DelayingLayer e.core e.options found → LayerIs FollowingLayer e.core e.options found
    → SendSacks e.options → SaysWhatIsDue e.moment found (packets_of_events o.events)
end_says law e None o turn h follows may = tt
end_says law e (Some t) o turn h follows may =
    λ due. due_says law (is_acknowledgement_due (after_packet_end e.moment t.tracker)) e (held_by_core e.core) t o refl h.0 follows.1 turn may due

packet_end : SacksFit → (e : Endpoint) (t : Transition) → IsTurn e packet_ends t → EndpointIs DelayingLayer e → EndpointIs FollowingLayer e → AcknowledgesAtEnd e packet_ends t.outcome
packet_end law e t turn h follows = (
  owes_by t.outcome.after.core t.outcome.after.options t.outcome.after.queues.transfer (packet_end_is ⊥ ⊥ (Unit {0}) DelayingLayer SettledLayer settled_kept e t turn h),
  end_says law e e.queues.transfer t.outcome turn.comes h follows,
)

input_ends : SacksFit → (e : Endpoint) (input : Input) (t : Transition) → IsTurn e input t → EndpointIs DelayingLayer e → EndpointIs FollowingLayer e → AcknowledgesAtEnd e input t.outcome
input_ends law e arrival t turn h follows = tt
input_ends law e (refusal text) t turn h follows = tt
input_ends law e (packet_begins contents) t turn h follows = tt
input_ends law e (chunk_input tag content) t turn h follows = tt
input_ends law e packet_ends t turn h follows = packet_end law e t turn h follows
input_ends law e (act_input act) t turn h follows = tt
input_ends law e (user_sets setting) t turn h follows = tt
input_ends law e (user_sends messages) t turn h follows = tt
input_ends law e (user_resets ids) t turn h follows = tt
input_ends law e user_takes t turn h follows = tt
input_ends law e (timer_expires timer) t turn h follows = tt
input_ends law e (time_passes moment) t turn h follows = tt
input_ends law e (restores state) t turn h follows = tt

-- What the turn leaves, and what it does at the end of a packet.
record Goes (e : Endpoint) (t : Transition) : Type 0 where
  delays : LeavesIt DelayingLayer t.outcome
  follows : LeavesIt FollowingLayer t.outcome
  ends : TurnAcknowledges e t

abbrev GoesOn : Endpoint → Transition → Type 0
GoesOn e t = EndpointIs DelayingLayer e → EndpointIs FollowingLayer e → Goes e t

turn_goes : SacksFit → (e : Endpoint) (input : Input) (t : Transition) → MayBe (Unit {0}) (Unit {0}) (Unit {0}) input → IsTurn e input t → GoesOn e t
turn_goes law e input t may turn h follows =
    record {
      delays = turn_is (Unit {0}) (Unit {0}) (Unit {0}) DelayingLayer DelayingLayer delaying_kept e input t may turn h;
      follows = turn_is (Unit {0}) (Unit {0}) (Unit {0}) FollowingLayer FollowingLayer following_kept e input t may turn follows;
      ends = subst (λ (i : Input). AcknowledgesAtEnd e i t.outcome) (sym turn.is) (input_ends law e input t turn h follows);
    }

-- ---- a run

delays_by : (core : Core) (options : Options) (t : Option Transfer) → LayerIs DelayingLayer core options t → DelaysByTimer t
delays_by core options None h = tt
delays_by core options (Some t) h = h.1

-- At the end of some turns the timer runs, and each was as it must be.
all_go : (e : Endpoint) (ts : List Transition) → AlongTurns GoesOn e ts → EndpointIs DelayingLayer e → EndpointIs FollowingLayer e
    → EndpointIs DelayingLayer (after_all e ts) × AlongTurns TurnAcknowledges e ts
all_go e [] along h follows = (h, tt)
all_go e (t ∷ ts) along h follows =
    let one : Goes e t = along.0 h follows in
    let rest = all_go t.outcome.after ts along.1 one.delays one.follows in
    (rest.0, (one.ends, rest.1))

pub sockets_acknowledge : SacksFit → SocketsAcknowledge
sockets_acknowledge law options run is side =
    let turns : List Transition = of_side side (turns_after run) in
    let own : Options = of_side side options in
    let all = all_go (fresh_endpoint own) turns (run_along_where GoesOn (MayBe (Unit {0}) (Unit {0}) (Unit {0})) (all_may_come (Unit {0})) (λ state. tt) (turn_goes law) options run is side) tt tt in
    let e : Endpoint = endpoint_after own turns in
    record { delays = delays_by e.core e.options e.queues.transfer all.0; ends = all.1 }
