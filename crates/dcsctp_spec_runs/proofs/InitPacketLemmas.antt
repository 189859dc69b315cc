-- A packet of one INIT leaves the association as it is, whatever becomes of it.
use Rattle.std.proofs.Common.{◌≡◌, ◌&&◌, ℕ, Bool, true, false, Option, None, Some, List, [], ◌∷◌, refl, sym, subst, ap, ◌∙◌}
use Rattle.dcsctp_spec_lemmas.specs.types.declared.association.Held.{Held}
use Rattle.dcsctp_spec_lemmas.specs.types.declared.tracking.AckState.{AckState}
use Rattle.dcsctp_spec_lemmas.specs.types.declared.tracking.AckState.TheVariants.{Idle, BecomingDelayed, Delayed, Immediate}
use Rattle.dcsctp_spec_lemmas.specs.spec.Packet.{Introduction, Content, init, packet_of_content}
use Rattle.dcsctp_spec_lemmas.specs.spec.Admission.{Admission, all_chunks, shutdown_acks_alone, refused, admits, is_single_init}
use Rattle.dcsctp_spec_lemmas.specs.spec.queues.Tracker.{TrackerState, is_sack_due, delayed_from, after_packet_end, is_acknowledgement_due, tracker_after_sack}
use Rattle.dcsctp_spec_lemmas.specs.spec.queues.Transfer.{Transfer}
use Rattle.dcsctp_spec_lemmas.specs.spec.endpoint.Endpoint.{Endpoint, Core, closed, cookie_wait, cookie_echoed, open_in, is_cookie_echoed, shutdown_sent, held_by_core}
use Rattle.dcsctp_spec_lemmas.specs.spec.endpoint.Following.{next_chunk}
use Rattle.dcsctp_spec_lemmas.specs.spec.endpoint.Outcome.{Outcome, still}
use Rattle.dcsctp_spec_lemmas.specs.types.declared.options.Options.{Options}
use Rattle.dcsctp_spec_lemmas.specs.spec.endpoint.MessageOutcomes.{awaits_opening}
use Rattle.dcsctp_spec_lemmas.specs.spec.endpoint.ShutdownOutcomes.{shut_down_echoed, shut_down_outcome}
use Rattle.dcsctp_spec_laws.proofs.DataLemmas.{flushed_act, end_at}
use Rattle.dcsctp_spec_lemmas.specs.spec.endpoint.Turn.{arrival, refusal, packet_ends, BeginTurn, unreadable_text}
use Rattle.dcsctp_spec_lemmas.specs.spec.endpoint.CallTurns.{asked_again, Transition, IsTurn, Turns, ChunkTurns, WholeTurns, AdmittedTurns, unreadable, readable, after_all}
use Rattle.dcsctp_spec_lemmas.specs.spec.endpoint.BegunResets.{BegunReset, core_asking, after_begun}
use Rattle.dcsctp_spec_lemmas.specs.spec.endpoint.FlushOutcomes.{own_sack, first_ask, packets_allowed, room_of_draft, draft_to}
use Rattle.dcsctp_spec_lemmas.specs.spec.endpoint.DataOutcomes.{endpoint_with_tracker, acknowledging, AnswersPacketIfDue, AcknowledgesPacket}
use Rattle.dcsctp_spec_runs.specs.Laws.{CountsSentOnly, is_earlier_acknowledgement_due, StaysAs, unchanged_core, asking_core, InitPacketLeavesAssociation}
use Rattle.dcsctp_spec_lemmas.proofs.FlushKeeps.{begun_by, flush_keeps}
use Rattle.dcsctp_spec_lemmas.proofs.OneAnswerLemmas.{init_by}
use Rattle.dcsctp_spec_runs.proofs.LawLemmas.{init_brings_one_packet}
use Rattle.dcsctp_spec_laws.proofs.TurnLemmas.{init_goes_on, further}

-- ---- the end of a packet

-- It makes no acknowledgement due.
due_where : (moment : ℕ) (tracker : TrackerState) (state : AckState) → tracker.acknowledgement ≡ state
    → is_sack_due (delayed_from moment tracker state).acknowledgement false ≡ is_sack_due tracker.acknowledgement false
due_where moment tracker Idle is = refl
due_where moment tracker BecomingDelayed is = sym (ap (λ (s : AckState). is_sack_due s false) is)
due_where moment tracker Delayed is = refl
due_where moment tracker Immediate is = refl

begun_stays : (begun : Option BegunReset) (e : Endpoint) (is_sack_due : Bool) (new : Core) → is_sack_due ≡ true → new ≡ (after_begun begun e).core → StaysAs is_sack_due e.core new
begun_stays None e is_sack_due new due is = unchanged_core is
begun_stays (Some begun) e is_sack_due new due is = asking_core due is

end_where_stays : (b : Bool) (e : Endpoint) (peer : Option Held) (transfer : Transfer) (tracker : TrackerState) (o : Outcome) → AnswersPacketIfDue b e peer transfer tracker o → StaysAs b e.core o.after.core
end_where_stays true e (Some held) transfer tracker o turn =
    let base : Endpoint = endpoint_with_tracker e transfer (tracker_after_sack tracker) in
    let draft = acknowledging e held (own_sack (room_of_draft e (draft_to held)) (record transfer { tracker = tracker })) in
    let kept = flush_keeps first_ask (packets_allowed base.options.max_burst base.core) base draft turn.answers turn.allowed in
    begun_stays (begun_by turn.answers) base true o.after.core refl (ap (λ (x : Outcome). x.after.core) turn.is ∙ kept.core)
end_where_stays true e None transfer tracker o turn = unchanged_core (ap (λ (x : Outcome). x.after.core) turn)
end_where_stays false e peer transfer tracker o turn = unchanged_core (ap (λ (x : Outcome). x.after.core) turn)

end_stays : (e : Endpoint) (transfer : Option Transfer) (o : Outcome) → AcknowledgesPacket e transfer o → StaysAs (is_earlier_acknowledgement_due transfer) e.core o.after.core
end_stays e None o turn = unchanged_core (ap (λ (x : Outcome). x.after.core) turn)
end_stays e (Some transfer) o turn =
    let tracker : TrackerState = after_packet_end e.moment transfer.tracker in
    subst (λ (b : Bool). StaysAs b e.core o.after.core) (due_where e.moment transfer.tracker transfer.tracker.acknowledgement refl)
    (end_where_stays (is_acknowledgement_due tracker) e (held_by_core e.core) transfer tracker o turn)

-- ---- its turns

-- all that is left of it
abbrev Stays : Endpoint → List Transition → Type 0
Stays e ts = StaysAs (is_earlier_acknowledgement_due e.queues.transfer) e.core (after_all e ts).core

-- from here on as from there
same_stays : (e f : Endpoint) (ts : List Transition) → f.core ≡ e.core → is_earlier_acknowledgement_due f.queues.transfer ≡ is_earlier_acknowledgement_due e.queues.transfer → Stays f ts
    → StaysAs (is_earlier_acknowledgement_due e.queues.transfer) e.core (after_all f ts).core
same_stays e f ts core due h =
    subst (λ (c : Core). StaysAs (is_earlier_acknowledgement_due e.queues.transfer) c (after_all f ts).core) core
    (subst (λ (b : Bool). StaysAs b f.core (after_all f ts).core) due h)

none_stays : (e : Endpoint) (ts : List Transition) → Turns e [] ts → Stays e ts
none_stays e [] turns = unchanged_core refl
none_stays e (t ∷ ts) turns = absurd turns

refused_stays : (e : Endpoint) (text : List ℕ) (ts : List Transition) → Turns e (refusal text ∷ []) ts → Stays e ts
refused_stays e text [] turns = absurd turns
refused_stays e text (t ∷ []) turns = unchanged_core (ap (λ (x : Outcome). x.after.core) turns.0.comes)
refused_stays e text (t ∷ u ∷ ts) turns = absurd turns.1

-- ---- a shutdown that waits for the association to open

-- The COOKIE ACK is awaited, and the RFC's rules are followed.
abbrev AwaitsAck : Endpoint → Core → Type 0
AwaitsAck e core = (is_cookie_echoed core ≡ true) × (e.options.follow_rfc ≡ true)

first_of : (a b : Bool) → (a && b) ≡ true → a ≡ true
first_of true b is = refl
first_of false b is = absurd (cc)

awaits_ack : (e : Endpoint) (core : Core) → awaits_opening e core ≡ true → AwaitsAck e core
awaits_ack e closed is = absurd (cc)
awaits_ack e (cookie_wait my) is = absurd (cc)
awaits_ack e (cookie_echoed my held cookie) is = (refl, first_of e.options.follow_rfc e.shutdown_asked is)
awaits_ack e (open_in phase my held) is = absurd (cc)

asking_awaits : (core : Core) → is_cookie_echoed core ≡ true → is_cookie_echoed (core_asking core) ≡ true
asking_awaits closed is = is
asking_awaits (cookie_wait my) is = is
asking_awaits (cookie_echoed my held cookie) is = refl
asking_awaits (open_in phase my held) is = is

stays_awaiting : (is_due : Bool) (old new : Core) → StaysAs is_due old new → is_cookie_echoed old ≡ true → is_cookie_echoed new ≡ true
stays_awaiting is_due old new (unchanged_core same) is = ap is_cookie_echoed same ∙ is
stays_awaiting is_due old new (asking_core due same) is = ap is_cookie_echoed same ∙ asking_awaits old is

-- Asked for again, it still waits.
again_rests : (e : Endpoint) (core : Core) → AwaitsAck e core → (shut_down_outcome e core).after.core ≡ e.core
again_rests e closed is = absurd (cc)
again_rests e (cookie_wait my) is = absurd (cc)
again_rests e (cookie_echoed my held cookie) is = ap (λ (follows : Bool). (shut_down_echoed follows e my held).after.core) is.1
again_rests e (open_in phase my held) is = absurd (cc)

tail_stays : (asks : Bool) (e : Endpoint) (ts : List Transition) → (asks ≡ true → AwaitsAck e e.core) → Turns e (packet_ends ∷ asked_again asks) ts → Stays e ts
tail_stays asks e [] awaits turns = absurd turns
tail_stays false e (t ∷ []) awaits turns = end_stays e e.queues.transfer t.outcome turns.0.comes
tail_stays false e (t ∷ u ∷ ts) awaits turns = absurd turns.1
tail_stays true e (t ∷ []) awaits turns = absurd turns.1
tail_stays true e (t ∷ u ∷ v ∷ ts) awaits turns = absurd turns.1.1
tail_stays true e (t ∷ u ∷ []) awaits turns =
    let ended = end_stays e e.queues.transfer t.outcome turns.0.comes in
    let kept = (flushed_act e t.outcome (end_at e e.queues.transfer t.outcome turns.0.comes)).1.options in
    let awaited : AwaitsAck t.outcome.after t.outcome.after.core = (
      stays_awaiting (is_earlier_acknowledgement_due e.queues.transfer) e.core t.outcome.after.core ended (awaits refl).0,
      ap (λ (x : Options). x.follow_rfc) kept ∙ (awaits refl).1,
    ) in
    let same : u.outcome.after.core ≡ t.outcome.after.core =
    ap (λ (x : Outcome). x.after.core) turns.1.0.comes ∙ again_rests t.outcome.after t.outcome.after.core awaited in
    subst (StaysAs (is_earlier_acknowledgement_due e.queues.transfer) e.core) (sym same) ended

-- Before an INIT nothing is sent.
begin_rests : (e : Endpoint) (core : Core) (o : Outcome) → BeginTurn e core false o → o ≡ still e
begin_rests e (open_in shutdown_sent my held) o turn = turn
begin_rests e core o turn = turn

chunk_stays : (asks : Bool) (e : Endpoint) (tag : ℕ) (theirs : Introduction) (ts : List Transition) → (asks ≡ true → AwaitsAck e e.core)
    → ChunkTurns e tag (init theirs ∷ []) (packet_ends ∷ asked_again asks) ts → Stays e ts
chunk_stays asks e tag theirs [] awaits turns = absurd turns
chunk_stays asks e tag theirs (t ∷ ts) awaits turns =
    let turn = turns.0.comes in
    let goes_on : t.outcome.following ≡ next_chunk =
    ap (λ (x : Outcome). x.following) turn.2
    ∙ init_by (λ (x : Outcome). x.following ≡ next_chunk) e theirs turn.0 turn.1 refl (init_goes_on e theirs e.core turn.0 turn.1) in
    let counts : CountsSentOnly e t.outcome.after = (init_brings_one_packet e theirs t.outcome turn).0 in
    same_stays e t.outcome.after ts (ap (λ (x : Endpoint). x.core) counts.2) (ap (λ (x : Endpoint). is_earlier_acknowledgement_due x.queues.transfer) counts.2)
    (tail_stays asks t.outcome.after ts (λ is. subst (λ (x : Endpoint). AwaitsAck x x.core) (sym counts.2) (awaits is))
    (further e tag (init theirs) [] (packet_ends ∷ asked_again asks) t ts goes_on turns))

whole_stays : (e : Endpoint) (tag : ℕ) (theirs : Introduction) (ts : List Transition) → WholeTurns e (record { tag = tag; contents = init theirs ∷ [] }) ts → Stays e ts
whole_stays e tag theirs [] turns = absurd turns
whole_stays e tag theirs (t ∷ ts) turns =
    let rests : t.outcome ≡ still e = begin_rests e e.core t.outcome turns.0.comes in
    same_stays e t.outcome.after ts (ap (λ (x : Outcome). x.after.core) rests) (ap (λ (x : Outcome). is_earlier_acknowledgement_due x.after.queues.transfer) rests)
    (chunk_stays (awaits_opening t.outcome.after t.outcome.after.core) t.outcome.after tag theirs ts (awaits_ack t.outcome.after t.outcome.after.core) turns.1)

admitted_stays : (e : Endpoint) (tag : ℕ) (theirs : Introduction) (admission : Admission) (ts : List Transition)
    → AdmittedTurns e (record { tag = tag; contents = init theirs ∷ [] }) admission ts → Stays e ts
admitted_stays e tag theirs all_chunks ts turns = whole_stays e tag theirs ts turns
admitted_stays e tag theirs shutdown_acks_alone ts turns = none_stays e ts turns
admitted_stays e tag theirs (refused text) ts turns = refused_stays e text ts turns

single_stays : (e : Endpoint) (tag : ℕ) (contents : List Content) (admission : Admission) (ts : List Transition) → is_single_init contents ≡ true
    → AdmittedTurns e (record { tag = tag; contents = contents }) admission ts → Stays e ts
single_stays e tag [] admission ts single turns = absurd (cc)
single_stays e tag (init theirs ∷ []) admission ts single turns = admitted_stays e tag theirs admission ts turns
single_stays e tag (content ∷ []) admission ts single turns = absurd (cc)
single_stays e tag (content ∷ next ∷ contents) admission ts single turns = absurd (cc)

-- It is counted first.
counted_stays : (e : Endpoint) (t : Transition) (ts : List Transition) → IsTurn e arrival t → Stays t.outcome.after ts → Stays e (t ∷ ts)
counted_stays e t ts turn h =
    same_stays e t.outcome.after ts (ap (λ (x : Outcome). x.after.core) turn.comes) (ap (λ (x : Outcome). is_earlier_acknowledgement_due x.after.queues.transfer) turn.comes) h

unreadable_stays : (e : Endpoint) (ts : List Transition) → Turns e (arrival ∷ refusal unreadable_text ∷ []) ts → Stays e ts
unreadable_stays e [] turns = absurd turns
unreadable_stays e (t ∷ ts) turns = counted_stays e t ts turns.0 (refused_stays t.outcome.after unreadable_text ts turns.1)

pub init_packet_leaves_association : InitPacketLeavesAssociation
init_packet_leaves_association e bytes _ (unreadable ts none turns) are = unreadable_stays e ts turns
init_packet_leaves_association e bytes _ (readable packet counted ts found counts turns) are =
    counted_stays e counted ts counts
    (single_stays counted.outcome.after packet.verification_tag (packet_of_content packet).contents (admits e.core (packet_of_content packet)) ts (are packet found) turns)
