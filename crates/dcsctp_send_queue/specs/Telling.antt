-- The events that a queue adds for the user.
use Rattle.std.specs.Prelude.{◌≡◌, ℕ, List, ◌++◌, map}
use Rattle.dcsctp_api.specs.spec.endpoint.Event.{Event}
use Rattle.dcsctp_api.specs.declared.events.SocketEvent.{SocketEvent}
use Rattle.dcsctp_api.specs.Events.{event_content}

-- the contents of events
abbrev pub contents : List SocketEvent → List (Event (List ℕ))
contents events = map event_content events

-- If an allocation fails, the first of the events are added.
pub record AddsFront (before whole after : List (Event (List ℕ))) : Type 0 where
  pub front : List (Event (List ℕ))
  pub rest : List (Event (List ℕ))
  pub parts : whole ≡ front ++ rest
  pub told : after ≡ before ++ front
