-- What has just come is acknowledged: at the end of its packet, or by the flush after the delay.
use Rattle.std.proofs.Common.{◌≡◌, ◌⊎◌, ◌&&◌, ◌||◌, not, ℕ, suc, nat_le, length, Bool, true, false, if◌then◌else◌, Option, None, Some, List, [], ◌∷◌, ◌++◌, map, inl, inr, refl, sym, ap, ◌∙◌, subst, arith}
use Rattle.dcsctp_spec_lemmas.specs.wire.Content.{SackContent, sack_chunk}
use Rattle.dcsctp_spec_lemmas.specs.types.declared.association.Held.{Held}
use Rattle.dcsctp_spec_lemmas.specs.types.declared.association.Pair.{Pair}
use Rattle.dcsctp_spec_lemmas.specs.types.declared.tracking.AckState.{AckState}
use Rattle.dcsctp_spec_lemmas.specs.types.declared.tracking.AckState.TheVariants.{Idle, BecomingDelayed, Delayed, Immediate}
use Rattle.dcsctp_spec_lemmas.specs.wire.Spelling.{chunk_bytes}
use Rattle.dcsctp_spec_lemmas.specs.spec.Packet.{Content, Plain, plain, plain_out, unworked, Emission}
use Rattle.dcsctp_spec_lemmas.specs.spec.association.Choices.{plain_contents}
use Rattle.dcsctp_spec_lemmas.specs.spec.endpoint.BegunResets.{request_contents}
use Rattle.dcsctp_spec_lemmas.specs.spec.endpoint.CallTurns.{Transition, Turns, after_all}
use Rattle.dcsctp_spec_lemmas.specs.spec.endpoint.DataOutcomes.{AnswersTo, FlushTurn, flush_to_peer, endpoint_with_tracker, AnswersPacketIfDue, AcknowledgesPacket}
use Rattle.dcsctp_spec_lemmas.specs.spec.endpoint.Endpoint.{Endpoint, open_in, established, held_by_core}
use Rattle.dcsctp_spec_lemmas.specs.spec.endpoint.Event.{Event, packets_of_events}
use Rattle.dcsctp_spec_lemmas.specs.spec.endpoint.FlushOutcomes.{Ask, first_ask, Answer, answer_contents, filling_event, goes_out, asked_outcome, draft_to, next_draft, flush_of, packets_allowed, room_of_draft, wants_sack, own_sack, Acknowledges, Gives, GivesUnlessIdle, IsAnswerOfQueues, IsFlushAnswer, AreFlushAnswers, at_limit, at_empty, after_packet}
use Rattle.dcsctp_spec_lemmas.specs.spec.endpoint.Outcome.{Outcome, still}
use Rattle.dcsctp_spec_lemmas.specs.spec.endpoint.Turn.{packet_ends, with_clock}
use Rattle.dcsctp_spec_lemmas.specs.spec.queues.Retransmission.{can_send}
use Rattle.dcsctp_spec_lemmas.specs.spec.queues.SendQueue.{SendQueueState, has_queued_data}
use Rattle.dcsctp_spec_lemmas.specs.spec.queues.Tracker.{TrackerState, is_sack_due, owes_acknowledgement, is_acknowledgement_due, delay_over, delayed_from, after_packet_end, sack_of, cumulative_tsn}
use Rattle.dcsctp_spec_lemmas.specs.spec.queues.Transfer.{Transfer, advertised_window, is_idle}
use Rattle.dcsctp_spec_laws.specs.SackLaws.{SacksFit}
use Rattle.dcsctp_theorem_transfer.specs.Delaying.{BeginWithSack, SendSacks}
use Rattle.dcsctp_theorem_transfer.specs.Recovering.{BeginWithThisSack, SaysSack, DelaysSack}
use Rattle.dcsctp_theorem_transfer.proofs.Observing.{HasJustCome}
use Rattle.dcsctp_theorem_transfer.proofs.Layers.{HasPeer}
use Rattle.dcsctp_theorem_transfer.proofs.PacketEnds.{BeginsWith, out_first, allowed_some, due_says, fits_empty}
use Rattle.dcsctp_theorem_transfer.proofs.Settling.{right_of}

-- An Established socket that may send a packet has this layer of its association.
pub record MayAnswer (e : Endpoint) (t : Transfer) : Type 0 where
  pub my : Pair
  pub held : Held
  pub phase : e.core ≡ open_in established my held
  pub has : e.queues.transfer ≡ Some t
  pub sends : SendSacks e.options
  pub follows : t.tracker.follows_rfc ≡ true

-- ---- a flush where a SACK is due

-- The list begins with this chunk.
record FirstIs (content : Content) (contents : List Content) : Type 0 where
  more : List Content
  is : contents ≡ content ∷ more

due_in : (queue : SendQueueState) (t : Transfer) → is_idle queue t ≡ true → is_acknowledgement_due t.tracker ≡ true → ⊥
due_in queue t idle due =
    let none_due : not (is_acknowledgement_due t.tracker) ≡ true = right_of _ (not (is_acknowledgement_due t.tracker)) idle in
    let both : not true ≡ true = ap not (sym due) ∙ none_due in absurd (cc)

sacks_by : (b : Bool) (room : ℕ) (t : Transfer) (after : TrackerState) (chunks : List Plain) → b ≡ true → nat_le (length (chunk_bytes (plain_out (own_sack room t)))) room ≡ true
    → Acknowledges b room t after chunks → chunks ≡ own_sack room t ∷ []
sacks_by false room t after chunks wants fits does = absurd (cc)
sacks_by true room t after chunks wants fits does = does.1 ∙ ap (λ (b : Bool). if b then own_sack room t ∷ [] else []) fits

gave_sack : SacksFit → (e : Endpoint) (t : Transfer) (answer : Answer) (may : MayAnswer e t) → is_acknowledgement_due t.tracker ≡ true → Gives first_ask e (draft_to may.held) t answer
    → FirstIs (plain (own_sack (room_of_draft e (draft_to may.held)) t)) (answer_contents answer)
gave_sack law e t answer may due gave =
    let room : ℕ = room_of_draft e (draft_to may.held) in
    let wants : wants_sack first_ask e.queues.queue t ≡ true =
    ap (λ (b : Bool). b || (owes_acknowledgement t.tracker && (has_queued_data e.queues.queue || can_send t.retransmission))) due in
    let sacks : gave.sacks ≡ own_sack room t ∷ [] =
    sacks_by (wants_sack first_ask e.queues.queue t) room t gave.tracker gave.sacks wants (fits_empty law e may.held t may.sends.valid may.follows) gave.acknowledges in
    record {
      more = plain_contents gave.forwards ++ (request_contents answer.begun ++ plain_contents answer.data_chunks);
      is = ap (λ (l : List Plain). plain_contents l ++ (request_contents answer.begun ++ plain_contents answer.data_chunks)) (gave.parts ∙ ap (λ (l : List Plain). l ++ gave.forwards) sacks);
    }

answered_sack : SacksFit → (e : Endpoint) (t : Transfer) (answer : Answer) (may : MayAnswer e t) (found : Option Transfer) → found ≡ Some t → is_acknowledgement_due t.tracker ≡ true
    → IsAnswerOfQueues first_ask e (draft_to may.held) answer found → FirstIs (plain (own_sack (room_of_draft e (draft_to may.held)) t)) (answer_contents answer)
answered_sack law e t answer may None has due is = absurd (cc)
answered_sack law e t answer may (Some other) has due is =
    go (is_idle e.queues.queue t) refl (subst (λ (x : Transfer). GivesUnlessIdle (is_idle e.queues.queue x) first_ask e (draft_to may.held) x answer) (let same : other ≡ t = cc in same) is)
  where
    go : (b : Bool) → is_idle e.queues.queue t ≡ b → GivesUnlessIdle b first_ask e (draft_to may.held) t answer
        → FirstIs (plain (own_sack (room_of_draft e (draft_to may.held)) t)) (answer_contents answer)
    go true idle same = absurd (due_in e.queues.queue t idle due)
    go false idle gave = gave_sack law e t answer may due gave

sack_out : (e : Endpoint) (held : Held) (answer : Answer) (content : Content) (rest : List (Event Emission)) → FirstIs content (answer_contents answer)
    → BeginsWith content (packets_of_events ((asked_outcome e (draft_to held) answer).events ++ rest))
sack_out e held answer content rest first =
    subst (λ (cs : List Content). BeginsWith content (packets_of_events ((goes_out answer.after (map filling_event answer.told) (draft_to held).with_checksum held.peer.tag cs).events ++ rest))) (sym first.is)
    (out_first answer.after answer.told (draft_to held).with_checksum held.peer.tag content first.more rest)

-- the SACK that the socket says
abbrev pub said_sack : Endpoint → Held → Transfer → SackContent
said_sack e held t = sack_of (room_of_draft e (draft_to held)) t.tracker (advertised_window t)

this_sack : (sack : SackContent) (packets : List Emission) → BeginsWith (plain (unworked (sack_chunk sack))) packets → BeginWithThisSack sack packets
this_sack sack packets begins = record { first = begins.first; others = begins.others; are = begins.are; more = begins.more; contents = begins.contents }

flush_with_sack : SacksFit → (ask : Ask) (n count : ℕ) (e : Endpoint) (draft : Emission) (answers : List Answer) (t : Transfer) (may : MayAnswer e t) → ask ≡ first_ask → n ≡ suc count
    → draft ≡ draft_to may.held → is_acknowledgement_due t.tracker ≡ true → AreFlushAnswers ask n e draft answers
    → BeginWithThisSack (said_sack e may.held t) (packets_of_events (flush_of e draft answers).events)
flush_with_sack law _ _ count _ _ _ t may first some is due (at_limit ask e draft) = absurd (omega (arith, some))
flush_with_sack law _ _ count _ _ _ t may first some is due (at_empty ask before e draft answer given empty) =
    let answered : IsFlushAnswer first_ask e (draft_to may.held) answer =
    subst (λ (d : Emission). IsFlushAnswer first_ask e d answer) is (subst (λ (a : Ask). IsFlushAnswer a e draft answer) first given) in
    subst (λ (d : Emission). BeginWithThisSack (said_sack e may.held t) (packets_of_events (flush_of e d (answer ∷ [])).events)) (sym is)
    (this_sack (said_sack e may.held t) _
    (sack_out e may.held answer (plain (own_sack (room_of_draft e (draft_to may.held)) t)) [] (answered_sack law e t answer may e.queues.transfer may.has due answered.by_transfer)))
flush_with_sack law _ _ count _ _ _ t may first some is due (after_packet ask before e draft answer answers given sends rest) =
    let answered : IsFlushAnswer first_ask e (draft_to may.held) answer =
    subst (λ (d : Emission). IsFlushAnswer first_ask e d answer) is (subst (λ (a : Ask). IsFlushAnswer a e draft answer) first given) in
    subst (λ (d : Emission). BeginWithThisSack (said_sack e may.held t) (packets_of_events (flush_of e d (answer ∷ answers)).events)) (sym is)
    (this_sack (said_sack e may.held t) _
    (sack_out e may.held answer (plain (own_sack (room_of_draft e (draft_to may.held)) t)) (flush_of (asked_outcome e (draft_to may.held) answer).after (next_draft e.core (draft_to may.held)) answers).events
    (answered_sack law e t answer may e.queues.transfer may.has due answered.by_transfer)))

pub flush_says : SacksFit → (e : Endpoint) (t : Transfer) (o : Outcome) (may : MayAnswer e t) → is_acknowledgement_due t.tracker ≡ true → FlushTurn e o
    → BeginWithThisSack (said_sack e may.held t) (packets_of_events o.events)
flush_says law e t o may due turn =
    let known : held_by_core e.core ≡ Some may.held = ap held_by_core may.phase in
    let some = allowed_some e.options.max_burst e.core may.sends.allowed in
    let is : o ≡ flush_of e (draft_to may.held) turn.0 = turn.2 ∙ ap (λ (peer : Option Held). flush_to_peer e peer turn.0) known in
    let answers : AnswersTo e (Some may.held) turn.0 = subst (λ (peer : Option Held). AnswersTo e peer turn.0) known turn.1 in
    subst (λ (x : Outcome). BeginWithThisSack (said_sack e may.held t) (packets_of_events x.events)) (sym is)
    (flush_with_sack law first_ask (packets_allowed e.options.max_burst e.core) some.0 e (draft_to may.held) turn.0 t may refl some.1 refl due answers)

-- ---- the end of a packet

-- It is answered by a SACK that acknowledges all up to the tracker's cumulative TSN.
pub record IsAnswered (e : Endpoint) (t : Transfer) (turns : List Transition) : Type 0 where
  pub sack : SackContent
  pub acknowledges : sack.cumulative_tsn_ack ≡ cumulative_tsn t.tracker
  pub says : SaysSack sack turns ⊎ DelaysSack (after_all e turns) sack

has_peer : (e : Endpoint) (t : Transfer) → MayAnswer e t → HasPeer e.core
has_peer e t may = subst HasPeer (sym may.phase) tt

-- A SACK is due.
at_once : SacksFit → (e : Endpoint) (t : Transfer) (turn : Transition) → MayAnswer e t → is_acknowledgement_due (after_packet_end e.moment t.tracker) ≡ true
    → AnswersPacketIfDue (is_acknowledgement_due (after_packet_end e.moment t.tracker)) e (held_by_core e.core) t (after_packet_end e.moment t.tracker) turn.outcome → IsAnswered e t (turn ∷ [])
at_once law e t turn may due does =
    let begins : BeginWithSack t.tracker (packets_of_events turn.outcome.events) =
    due_says law (is_acknowledgement_due (after_packet_end e.moment t.tracker)) e (held_by_core e.core) t turn.outcome refl (has_peer e t may) (may.follows ∙ sym may.sends.follows) does may.sends due in
    record {
      sack = begins.sack;
      acknowledges = begins.acknowledges;
      says = inl (inl (record { first = begins.first; others = begins.others; are = begins.are; more = begins.more; contents = begins.contents }));
    }

-- It is delayed: the tracker then, and once the delay is over.
abbrev pub delayed_tracker : Endpoint → Transfer → TrackerState
delayed_tracker e t = delayed_from e.moment t.tracker BecomingDelayed

abbrev pub delayed_transfer : Endpoint → Transfer → Transfer
delayed_transfer e t = record t { tracker = delayed_tracker e t }

abbrev pub due_transfer : Endpoint → Transfer → Transfer
due_transfer e t = record t { tracker = delay_over (delayed_tracker e t) }

later : SacksFit → (e : Endpoint) (t : Transfer) (may : MayAnswer e t) → DelaysSack (endpoint_with_tracker e t (delayed_tracker e t)) (said_sack e may.held (due_transfer e t))
later law e t may =
    record {
      runs = λ owes. tt;
      comes = λ moment over flushed expires flush.
          let due : Endpoint = endpoint_with_tracker (with_clock moment (endpoint_with_tracker e t (delayed_tracker e t))) (delayed_transfer e t) (delay_over (delayed_tracker e t)) in
          let after : over.outcome.after ≡ due = ap (λ (o : Outcome). o.after) expires.comes in
          let turn : FlushTurn due flushed.outcome = subst (λ (x : Endpoint). FlushTurn x flushed.outcome) after flush.comes in
          flush_says law due (due_transfer e t) flushed.outcome
          (record { my = may.my; held = may.held; phase = may.phase; has = refl; sends = may.sends; follows = may.follows }) refl turn;
    }

ended_by : SacksFit → (state : AckState) (e : Endpoint) (t : Transfer) (turn : Transition) → t.tracker.acknowledgement ≡ state → MayAnswer e t → HasJustCome state
    → AnswersPacketIfDue (is_acknowledgement_due (after_packet_end e.moment t.tracker)) e (held_by_core e.core) t (after_packet_end e.moment t.tracker) turn.outcome → IsAnswered e t (turn ∷ [])
ended_by law Idle e t turn is may comes does = absurd comes
ended_by law Delayed e t turn is may comes does = absurd comes
ended_by law Immediate e t turn is may comes does =
    let same : after_packet_end e.moment t.tracker ≡ t.tracker = ap (delayed_from e.moment t.tracker) is in
    at_once law e t turn may (ap is_acknowledgement_due same ∙ ap (λ (state : AckState). is_sack_due state false) is) does
ended_by law BecomingDelayed e t turn is may comes does =
    let same : after_packet_end e.moment t.tracker ≡ delayed_tracker e t = ap (delayed_from e.moment t.tracker) is in
    let still_there : turn.outcome ≡ still (endpoint_with_tracker e t (delayed_tracker e t)) =
    subst (λ (x : TrackerState). AnswersPacketIfDue (is_acknowledgement_due x) e (held_by_core e.core) t x turn.outcome) same does in
    record {
      sack = said_sack e may.held (due_transfer e t);
      acknowledges = refl;
      says = inr (subst (λ (o : Outcome). DelaysSack o.after (said_sack e may.held (due_transfer e t))) (sym still_there) (later law e t may));
    }

found_ends : SacksFit → (e : Endpoint) (found : Option Transfer) (t : Transfer) (turn : Transition) → found ≡ Some t → MayAnswer e t → HasJustCome t.tracker.acknowledgement → AcknowledgesPacket e found turn.outcome
    → IsAnswered e t (turn ∷ [])
found_ends law e None t turn has may comes does = absurd (cc)
found_ends law e (Some other) t turn has may comes does =
    ended_by law t.tracker.acknowledgement e t turn refl may comes (subst (λ (x : Transfer). AcknowledgesPacket e (Some x) turn.outcome) (let same : other ≡ t = cc in same) does)

pub end_answers : SacksFit → (e : Endpoint) (t : Transfer) (turns : List Transition) → MayAnswer e t → HasJustCome t.tracker.acknowledgement → Turns e (packet_ends ∷ []) turns → IsAnswered e t turns
end_answers law e t [] may comes does = absurd does
end_answers law e t (turn ∷ []) may comes does = found_ends law e e.queues.transfer t turn may.has may comes does.0.comes
end_answers law e t (turn ∷ (other ∷ turns)) may comes does = absurd does.1
