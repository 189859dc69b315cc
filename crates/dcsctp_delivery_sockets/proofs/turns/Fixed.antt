-- Events that are no packets, and what a tracker keeps.
use Rattle.std.proofs.Common.{◌≡◌, ℕ, Bool, true, false, Option, None, Some, List, [], ◌∷◌, ◌++◌, map, refl, sym, ◌∙◌, ap, append-nil}
use Rattle.std.specs.Prelude.{if◌then◌else◌}
use Rattle.dcsctp_spec_lemmas.specs.wire.Content.{SackContent, sack_chunk}
use Rattle.dcsctp_spec_lemmas.specs.types.declared.association.Held.{Held}
use Rattle.dcsctp_spec_lemmas.specs.types.declared.tracking.AckState.{AckState}
use Rattle.dcsctp_spec_lemmas.specs.types.declared.tracking.AckState.TheVariants.{Idle, BecomingDelayed, Delayed, Immediate}
use Rattle.dcsctp_spec_lemmas.specs.spec.endpoint.Event.{Event, packets_of_events}
use Rattle.dcsctp_spec_lemmas.specs.spec.Packet.{Content, unworked, Emission}
use Rattle.dcsctp_spec_lemmas.specs.spec.endpoint.Endpoint.{Endpoint, Core, closed, cookie_wait, cookie_echoed, open_in, held_by_core}
use Rattle.dcsctp_spec_lemmas.specs.spec.endpoint.Outcome.{Outcome}
use Rattle.dcsctp_spec_lemmas.specs.spec.association.Choices.{plain_contents}
use Rattle.dcsctp_spec_lemmas.specs.spec.queues.Acknowledging.{ends_delivery, lifecycle_events_of, delivered_events}
use Rattle.dcsctp_spec_lemmas.specs.spec.queues.Items.{Item}
use Rattle.dcsctp_spec_lemmas.specs.spec.queues.OwnResets.{prepare_all_events}
use Rattle.dcsctp_spec_lemmas.specs.spec.queues.SendQueue.{SendQueueState}
use Rattle.dcsctp_spec_lemmas.specs.spec.queues.Tracker.{TrackerState, delayed_from}
use Rattle.dcsctp_spec_lemmas.specs.spec.queues.Transfer.{Transfer}
use Rattle.dcsctp_spec_lemmas.specs.spec.endpoint.DataOutcomes.{with_transfer, FastRetransmits}
use Rattle.dcsctp_spec_lemmas.specs.spec.endpoint.FlushOutcomes.{goes_out, draft_to, filling_event}
use Rattle.dcsctp_spec_lemmas.specs.spec.endpoint.MessageOutcomes.{MessageRefusal, refusal_events, sending_refusal, Sending, queue_unless_refused, queue_one, queue_all}
use Rattle.dcsctp_spec_lemmas.proofs.SendEventLemmas.{told_prepared}
use Rattle.dcsctp_theorem_sockets.proofs.Bursts.{packets_of_events-append, told_none}
use Rattle.dcsctp_delivery_sockets.specs.turns.Actions.{NoEnd, NoneStale}
use Rattle.dcsctp_delivery_sockets.specs.turns.Asking.{own_of}
use Rattle.dcsctp_delivery_sockets.specs.turns.Reports.{AllReportSo}
use Rattle.dcsctp_delivery_sockets.specs.turns.Tags.{IsPeerTag}
use Rattle.dcsctp_delivery_directions.specs.sending.Flushes.{NoData}

-- ---- events that are no packets

told_by_none : (name : Option ℕ) (over : Bool) → packets_of_events {P = Emission} (lifecycle_events_of name over) ≡ []
told_by_none None over = refl
told_by_none (Some id) true = refl
told_by_none (Some id) false = refl

pub delivered_none : (items : List Item) → packets_of_events {P = Emission} (delivered_events items) ≡ []
delivered_none [] = refl
delivered_none (item ∷ items) =
    packets_of_events-append (lifecycle_events_of item.fragment.lifecycle (ends_delivery item)) (delivered_events items)
    ∙ ap (λ (l : List Emission). l ++ packets_of_events (delivered_events items)) (told_by_none item.fragment.lifecycle (ends_delivery item)) ∙ delivered_none items

pub prepared_none : (ids : List ℕ) (queue : SendQueueState) → packets_of_events {P = Emission} (prepare_all_events ids queue) ≡ []
prepared_none ids queue =
    let told = told_prepared ids queue in
    ap (λ (l : List (Event Emission)). packets_of_events l) told.is ∙ ap (λ (l : List (Event Emission)). packets_of_events l) (sym (append-nil (map filling_event told.told))) ∙ told_none told.told []

pub refusal_none : (why : MessageRefusal) (name : Option ℕ) → packets_of_events (refusal_events why name) ≡ []
refusal_none why None = refl
refusal_none why (Some id) = refl

-- a SACK in front, if it fits
pub sack_no_data : (b : Bool) (sack : SackContent) → NoData (plain_contents (if b then unworked (sack_chunk sack) ∷ [] else []))
sack_no_data true sack = (tt, tt)
sack_no_data false sack = tt

-- a tracker that has received the same
pub record Alike (new old : TrackerState) : Type 0 where
  pub cumulative : new.cumulative ≡ old.cumulative
  pub ranges : new.ranges ≡ old.ranges

pub delayed_alike : (moment : ℕ) (tracker : TrackerState) (state : AckState) → Alike (delayed_from moment tracker state) tracker
delayed_alike moment tracker Idle = record { cumulative = refl; ranges = refl }
delayed_alike moment tracker BecomingDelayed = record { cumulative = refl; ranges = refl }
delayed_alike moment tracker Delayed = record { cumulative = refl; ranges = refl }
delayed_alike moment tracker Immediate = record { cumulative = refl; ranges = refl }

-- the peer, where one is held
pub held_tag : (core : Core) (held : Held) (to : ℕ) → held_by_core core ≡ Some held → IsPeerTag core to → held.peer.tag ≡ to
held_tag closed held to holds is = absurd (cc)
held_tag (cookie_wait my) held to holds is = absurd (cc)
held_tag (cookie_echoed my own cookie) held to holds is = (let same : own ≡ held = cc in ap (λ (h : Held). h.peer.tag) (sym same) ∙ is)
held_tag (open_in phase my own) held to holds is = (let same : own ≡ held = cc in ap (λ (h : Held). h.peer.tag) (sym same) ∙ is)

out_core : (e : Endpoint) (with_checksum : Bool) (tag : ℕ) (contents : List Content) → (goes_out e [] with_checksum tag contents).after.core ≡ e.core
out_core e with_checksum tag [] = refl
out_core e with_checksum tag (content ∷ contents) = refl

pub fast_core : (b : Bool) (e : Endpoint) (held : Held) (transfer : Transfer) (o : Outcome) → FastRetransmits b e held transfer o → o.after.core ≡ e.core
fast_core false e held transfer o turn = ap (λ (x : Outcome). x.after.core) turn
fast_core true e held transfer o turn =
    ap (λ (x : Outcome). x.after.core) turn.is
    ∙ out_core (with_transfer e (record transfer { retransmission = turn.left })) (draft_to held).with_checksum (draft_to held).packet.tag (plain_contents turn.chunks)

queue_one_core : (e : Endpoint) (sending : Sending) (refusal : Option MessageRefusal) → (queue_unless_refused e sending refusal).after.core ≡ e.core
queue_one_core e sending None = refl
queue_one_core e sending (Some refusal) = refl

pub queue_all_core : (e : Endpoint) (sendings : List Sending) → (queue_all e sendings).after.core ≡ e.core
queue_all_core e [] = refl
queue_all_core e (sending ∷ sendings) = queue_all_core (queue_one e sending).after sendings ∙ queue_one_core e sending (sending_refusal e sending)

-- What is kept of our requests stays.
queue_one_own : (e : Endpoint) (sending : Sending) (refusal : Option MessageRefusal) → own_of (queue_unless_refused e sending refusal).after ≡ own_of e
queue_one_own e sending None = refl
queue_one_own e sending (Some refusal) = refl

pub queue_all_own : (e : Endpoint) (sendings : List Sending) → own_of (queue_all e sendings).after ≡ own_of e
queue_all_own e [] = refl
queue_all_own e (sending ∷ sendings) = queue_all_own (queue_one e sending).after sendings ∙ queue_one_own e sending (sending_refusal e sending)

-- It reports what was received.
pub sack_reports : (b : Bool) (so : ℕ → Type 0) (sack : SackContent) → so sack.cumulative_tsn_ack → AllReportSo so (plain_contents (if b then unworked (sack_chunk sack) ∷ [] else []))
sack_reports true so sack is = (is, tt)
sack_reports false so sack is = tt

pub sack_no_end : (b : Bool) (sack : SackContent) → NoEnd (plain_contents (if b then unworked (sack_chunk sack) ∷ [] else []))
sack_no_end true sack = tt
sack_no_end false sack = tt

pub sack_not_stale : (b : Bool) (sack : SackContent) → NoneStale (plain_contents (if b then unworked (sack_chunk sack) ∷ [] else []))
sack_not_stale true sack = (tt, tt)
sack_not_stale false sack = tt
