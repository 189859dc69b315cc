-- What leaves the send queue doesn't depend on earlier events: they can be put in front, or removed.
use Rattle.std.proofs.Common.{◌≡◌, ◌∙◌, ℕ, Bool, true, false, List, ◌++◌, append_assoc, refl, ap, sym}
use Rattle.dcsctp_spec.specs.endpoint.Event.{Event}
use Rattle.dcsctp_spec.specs.queues.SendQueue.{SendQueueState}
use Rattle.dcsctp_spec.specs.queues.Sending.{Fragment, DropsAll, drop_events, produced_events, TakesFragment, TakesNone, DiscardsNamed}

abbrev Events : Type 0
Events = List (Event (List ℕ))

-- With events in front, one more list comes after them all.
behind_more : (front before events after : Events) → after ≡ before ++ events → front ++ after ≡ (front ++ before) ++ events
behind_more front before events after is = ap (λ (es : Events). front ++ es) is ∙ sym (append_assoc front before events)

-- ---- events in front

behind_dropped : (front : Events) (now : ℕ) (old new : SendQueueState) (before after : Events) → DropsAll now old before new after → DropsAll now old (front ++ before) new (front ++ after)
behind_dropped front now old new before after drops =
    record { events = drops.events; drops = drops.drops; told = behind_more front before drops.events after drops.told }

pub behind_taken : (front : Events) (now max : ℕ) (old new : SendQueueState) (part : Fragment) (before after : Events) → TakesFragment now max old before part new after
    → TakesFragment now max old (front ++ before) part new (front ++ after)
behind_taken front now max old new part before after takes =
    record {
      queue = takes.queue;
      told = front ++ takes.told;
      drops = behind_dropped front now old takes.queue before takes.told takes.drops;
      place = takes.place;
      message = takes.message;
      under_way = takes.under_way;
      front = takes.front;
      chosen = takes.chosen;
      come = takes.come;
      is = takes.is;
      left = takes.left;
      events = behind_more front takes.told _ after takes.events;
    }

pub behind_none : (front : Events) (now : ℕ) (old new : SendQueueState) (before after : Events) → TakesNone now old before new after → TakesNone now old (front ++ before) new (front ++ after)
behind_none front now old new before after takes =
    record { idle = takes.idle; drops = behind_dropped front now old new before after takes.drops; none_left = takes.none_left }

pub behind_discarded : (front : Events) (old new : SendQueueState) (stream id : ℕ) (before after : Events) (is_dropped : Bool) → DiscardsNamed old stream id before is_dropped new after
    → DiscardsNamed old stream id (front ++ before) is_dropped new (front ++ after)
behind_discarded front old new stream id before after true does =
    record { named = does.named; left = does.left; events = behind_more front before _ after does.events }
behind_discarded front old new stream id before after false does = (does.0, does.1, ap (λ (es : Events). front ++ es) does.2)

-- ---- events taken away

-- the events after these
pub record Behind (front : Events) (Holds : Events → Type 0) (after : Events) : Type 0 where
  pub told : Events
  pub holds : Holds told
  pub is : after ≡ front ++ told

before_dropped : (front : Events) (now : ℕ) (old new : SendQueueState) (before after : Events) → DropsAll now old (front ++ before) new after → Behind front (DropsAll now old before new) after
before_dropped front now old new before after drops =
    record {
      told = before ++ drops.events;
      holds = record { events = drops.events; drops = drops.drops; told = refl };
      is = drops.told ∙ append_assoc front before drops.events;
    }

pub before_taken : (front : Events) (now max : ℕ) (old new : SendQueueState) (part : Fragment) (before after : Events) → TakesFragment now max old (front ++ before) part new after
    → Behind front (TakesFragment now max old before part new) after
before_taken front now max old new part before after takes =
    let dropped = before_dropped front now old takes.queue before takes.told takes.drops in
    let events : Events = produced_events takes.place max takes.message takes.under_way takes.queue in
    record {
      told = dropped.told ++ events;
      holds = record {
        queue = takes.queue;
        told = dropped.told;
        drops = dropped.holds;
        place = takes.place;
        message = takes.message;
        under_way = takes.under_way;
        front = takes.front;
        chosen = takes.chosen;
        come = takes.come;
        is = takes.is;
        left = takes.left;
        events = refl;
      };
      is = takes.events ∙ (ap (λ (es : Events). es ++ events) dropped.is ∙ append_assoc front dropped.told events);
    }

pub before_none : (front : Events) (now : ℕ) (old new : SendQueueState) (before after : Events) → TakesNone now old (front ++ before) new after → Behind front (TakesNone now old before new) after
before_none front now old new before after takes =
    let dropped = before_dropped front now old new before after takes.drops in
    record { told = dropped.told; holds = record { idle = takes.idle; drops = dropped.holds; none_left = takes.none_left }; is = dropped.is }

pub before_discarded : (front : Events) (old new : SendQueueState) (stream id : ℕ) (before after : Events) (is_dropped : Bool) → DiscardsNamed old stream id (front ++ before) is_dropped new after
    → Behind front (DiscardsNamed old stream id before is_dropped new) after
before_discarded front old new stream id before after true does =
    let events : Events = drop_events does.named.place does.named.under_way.sent does.named.message old in
    record { told = before ++ events; holds = record { named = does.named; left = does.left; events = refl }; is = does.events ∙ append_assoc front before events }
before_discarded front old new stream id before after false does = record { told = before; holds = (does.0, does.1, refl); is = does.2 }
