-- The events while a packet is filled.
use Rattle.std.proofs.Common.{◌≡◌, ◌∙◌, ◌⊎◌, inl, inr, ℕ, ◌-◌, Bool, true, false, if◌then◌else◌, Option, None, Some, List, [], ◌∷◌, ◌++◌, map, length, append_assoc, refl, ap, sym}
use Rattle.std.proofs.lemmas.List.{append-nil, map-append}
use Rattle.dcsctp_spec.specs.endpoint.Event.{Event}
use Rattle.dcsctp_spec.specs.types.declared.sending.UnderWay.{UnderWay}
use Rattle.dcsctp_spec.specs.queues.Abandoning.{GivesUpFirst, GivesUpAll}
use Rattle.dcsctp_spec.specs.queues.Filling.{Stage, maybe_expired, ClosesMessage, GivesUpItem, SendsNew, FindsNone, StepAgain, StepNew, StageSteps, none, more, resent_packet_counted, FillsPacket}
use Rattle.dcsctp_spec.specs.queues.Items.{Item}
use Rattle.dcsctp_spec.specs.queues.SendEvents.{expiry_events, sent_events, falls_low, low_events}
use Rattle.dcsctp_spec.specs.queues.SendQueue.{SendQueueState}
use Rattle.dcsctp_spec.specs.types.queues.SendStreams.{Waiting, Stream, stream_at}
use Rattle.dcsctp_spec.specs.queues.Sending.{Drops, none as none_dropped, more as more_dropped, DropsAll, drop_events, part_events, last_events, is_last, produced_events, DiscardsNamed}
use Rattle.dcsctp_spec.specs.endpoint.FlushOutcomes.{FillingEvent, amount_is_low, total_amount_is_low, message_is_sent, message_may_have_expired, message_has_expired, message_ends, filling_event_content, FillsIfAllowed}

abbrev Events : Type 0
Events = List (Event (List ℕ))

-- ---- events that a flush may report

pub record AreTold (events : Events) : Type 0 where
  pub told : List FillingEvent
  pub is : events ≡ map filling_event_content told

told_none : AreTold []
told_none = record { told = []; is = refl }

told_same : (a b : Events) → a ≡ b → AreTold b → AreTold a
told_same a b same told = record { told = told.told; is = same ∙ told.is }

told_both : (a b : Events) → AreTold a → AreTold b → AreTold (a ++ b)
told_both a b first later =
    record {
      told = first.told ++ later.told;
      is = ap (λ (x : Events). x ++ b) first.is
          ∙ (ap (λ (x : Events). map filling_event_content first.told ++ x) later.is ∙ sym (map-append filling_event_content first.told later.told));
    }

told_if : (b : Bool) (told : FillingEvent) → AreTold (if b then filling_event_content told ∷ [] else [])
told_if true told = record { told = told ∷ []; is = refl }
told_if false told = told_none

told_low : (stream : Stream) (total_threshold total by : ℕ) → AreTold (low_events stream total_threshold total by)
told_low stream total_threshold total by =
    told_both _ _ (told_if (falls_low stream.threshold stream.amount by) (amount_is_low stream.id)) (told_if (falls_low total_threshold total by) total_amount_is_low)

expiry_by : (message : Waiting) (name : Option ℕ) → message.lifecycle ≡ name → AreTold (expiry_events message)
expiry_by message None is = rw is told_none
expiry_by message (Some id) is = rw is (record { told = message_has_expired id ∷ message_ends id ∷ []; is = refl })

told_expiry : (message : Waiting) → AreTold (expiry_events message)
told_expiry message = expiry_by message message.lifecycle refl

sent_by : (message : Waiting) (name : Option ℕ) → message.lifecycle ≡ name → AreTold (sent_events message)
sent_by message None is = rw is told_none
sent_by message (Some id) is = rw is (record { told = message_is_sent id ∷ []; is = refl })

told_sent : (message : Waiting) → AreTold (sent_events message)
told_sent message = sent_by message message.lifecycle refl

told_maybe : (name : Option ℕ) → AreTold (maybe_expired name)
told_maybe None = told_none
told_maybe (Some id) = record { told = message_may_have_expired id ∷ message_ends id ∷ []; is = refl }

told_drop : (place sent : ℕ) (message : Waiting) (queue : SendQueueState) → AreTold (drop_events place sent message queue)
told_drop place sent message queue =
    told_both _ _ (told_low (stream_at queue.streams place) queue.total_threshold queue.total_amount (length message.payload - sent)) (told_expiry message)

told_part : (place size : ℕ) (queue : SendQueueState) → AreTold (part_events place size queue)
told_part place size queue = told_low (stream_at queue.streams place) queue.total_threshold queue.total_amount size

told_produced : (place max : ℕ) (message : Waiting) (under_way : UnderWay) (queue : SendQueueState) → AreTold (produced_events place max message under_way queue)
told_produced place max message under_way queue = by_end (is_last max message under_way)
  where
    by_end : (b : Bool) → AreTold (if b then last_events place message under_way queue else part_events place max queue)
    by_end true = told_both _ _ (told_part place (length message.payload - under_way.sent) queue) (told_sent message)
    by_end false = told_part place max queue

told_drops : (now : ℕ) (old new : SendQueueState) (events : Events) → Drops now old events new → AreTold events
told_drops now old new events none_dropped = told_none
told_drops now old new events (more_dropped before queue place message drops next front expired) =
    told_both _ _ (told_drops now old queue before drops) (told_drop place 0 message queue)

-- ---- the events that are added

-- Some of those events were added, and nothing else.
pub record TellsMore (before after : Events) : Type 0 where
  pub told : List FillingEvent
  pub is : after ≡ before ++ map filling_event_content told

pub tells_same : (before after : Events) → after ≡ before → TellsMore before after
tells_same before after same = record { told = []; is = same ∙ sym (append-nil before) }

tells_these : (before events after : Events) → AreTold events → after ≡ before ++ events → TellsMore before after
tells_these before events after told is = record { told = told.told; is = is ∙ ap (λ (x : Events). before ++ x) told.is }

pub tells_then : (a b c : Events) → TellsMore a b → TellsMore b c → TellsMore a c
tells_then a b c first later =
    record {
      told = first.told ++ later.told;
      is = later.is
          ∙ (ap (λ (x : Events). x ++ map filling_event_content later.told) first.is
          ∙ (append_assoc a (map filling_event_content first.told) (map filling_event_content later.told) ∙ ap (λ (x : Events). a ++ x) (sym (map-append filling_event_content first.told later.told))));
    }

-- ---- steps

tells_dropped : (now : ℕ) (old new : SendQueueState) (before after : Events) → DropsAll now old before new after → TellsMore before after
tells_dropped now old new before after drops = tells_these before drops.events after (told_drops now old new drops.events drops.drops) drops.told

tells_discarded : (old new : SendQueueState) (stream id : ℕ) (before after : Events) (is_dropped : Bool) → DiscardsNamed old stream id before is_dropped new after → TellsMore before after
tells_discarded old new stream id before after true does =
    tells_these before _ after (told_drop does.named.place does.named.under_way.sent does.named.message old) does.events
tells_discarded old new stream id before after false does = tells_same before after does.2

tells_closed : (now : ℕ) (last : Item) (old new : Stage) (is_end : Bool) → ClosesMessage now last old new is_end → TellsMore old.told new.told
tells_closed now last old new true closes =
    tells_these old.told _ new.told (told_maybe last.fragment.lifecycle) (ap (λ (s : Stage). s.told) closes)
tells_closed now last old new false (inl drops) =
    tells_discarded old.waiting new.waiting last.fragment.stream last.fragment.message_id old.told new.told drops.1.drops.is_dropped drops.1.drops.drops
tells_closed now last old new false (inr same) = tells_same old.told new.told (ap (λ (s : Stage). s.told) same.1)

pub tells_given_up : (now place : ℕ) (old new : Stage) → GivesUpItem now place old new → TellsMore old.told new.told
tells_given_up now place old new gives_up =
    tells_then old.told gives_up.closed.told new.told (tells_closed now gives_up.last old gives_up.closed gives_up.last.fragment.is_end gives_up.closes)
    (tells_same gives_up.closed.told new.told (ap (λ (s : Stage). s.told) gives_up.is))

tells_again : (now : ℕ) (old new : Stage) → StepAgain now old new → TellsMore old.told new.told
tells_again now old new (inl sends) = tells_same old.told new.told (ap (λ (s : Stage). s.told) sends.1.is)
tells_again now old new (inr gives_up) = tells_given_up now gives_up.place old new gives_up.gives_up

tells_anew_by : (now : ℕ) (old new : Stage) → SendsNew now old new ⊎ FindsNone now old new → TellsMore old.told new.told
tells_anew_by now old new (inl sends) =
    let takes = sends.takes in
    tells_then old.told takes.told new.told (tells_dropped now old.waiting takes.queue old.told takes.told takes.drops)
    (tells_these takes.told _ new.told (told_produced takes.place _ takes.message takes.under_way takes.queue) takes.events)
tells_anew_by now old new (inr finds) = tells_dropped now old.waiting new.waiting old.told new.told finds.takes.drops

tells_anew : (now : ℕ) (old new : Stage) → StepNew now old new → TellsMore old.told new.told
tells_anew now old new step = tells_anew_by now old new step.1

pub tells_steps : (Step : Stage → Stage → Type 0) → ((a b : Stage) → Step a b → TellsMore a.told b.told) → (old new : Stage) → StageSteps Step old new → TellsMore old.told new.told
tells_steps Step each old new none = tells_same old.told old.told refl
tells_steps Step each old new (more between new' steps step) =
    tells_then old.told between.told new'.told (tells_steps Step each old between steps) (each between new' step)

-- ---- all of it

tells_first : (now : ℕ) (old new : Stage) → GivesUpFirst now old new → TellsMore old.told new.told
tells_first now old new step = tells_given_up now step.place old new step.gives_up

pub tells_abandoned : (now : ℕ) (old new : Stage) → GivesUpAll now old new → TellsMore old.told new.told
tells_abandoned now old new h = tells_steps (GivesUpFirst now) (tells_first now) old new h.steps

pub tells_filled : (now : ℕ) (old new : Stage) → FillsPacket now old new → TellsMore old.told new.told
tells_filled now old new h =
    let fills = h.fills in
    tells_then old.told h.sent.told new.told
    (tells_then old.told fills.resent.told h.sent.told (tells_steps (StepAgain now) (tells_again now) old fills.resent fills.again)
    (tells_steps (StepNew now) (tells_anew now) (resent_packet_counted old.room fills.resent) h.sent fills.anew))
    (tells_same h.sent.told new.told (ap (λ (s : Stage). s.told) h.is))

pub tells_where : (b : Bool) (now : ℕ) (old new : Stage) → FillsIfAllowed b now old new → TellsMore old.told new.told
tells_where true now old new h = tells_filled now old new h
tells_where false now old new (inl same) = tells_same old.told new.told (ap (λ (s : Stage). s.told) same)
tells_where false now old new (inr h) = tells_filled now old new h
