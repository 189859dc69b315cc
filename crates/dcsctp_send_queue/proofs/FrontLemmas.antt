-- Lemmas on the first part of a list of events.
use Rattle.std.proofs.Common.{◌≡◌, ◌∙◌, ℕ, List, ◌++◌, append_assoc, sym, ap}
use Rattle.dcsctp_api.specs.spec.endpoint.Event.{Event}
use Rattle.dcsctp_send_queue.specs.Telling.{AddsFront}

-- more was to follow
pub front_left : (before whole more after : List (Event (List ℕ))) → AddsFront before whole after → AddsFront before (whole ++ more) after
front_left before whole more after tells =
    record {
      front = tells.front;
      rest = tells.rest ++ more;
      parts = ap (λ (es : List (Event (List ℕ))). es ++ more) tells.parts ∙ append_assoc tells.front tells.rest more;
      told = tells.told;
    }

-- some events came before
pub front_right : (before first between whole after : List (Event (List ℕ))) → between ≡ before ++ first → AddsFront between whole after → AddsFront before (first ++ whole) after
front_right before first between whole after is tells =
    record {
      front = first ++ tells.front;
      rest = tells.rest;
      parts = ap (λ (es : List (Event (List ℕ))). first ++ es) tells.parts ∙ sym (append_assoc first tells.front tells.rest);
      told = tells.told ∙ (ap (λ (es : List (Event (List ℕ))). es ++ tells.front) is ∙ append_assoc before first tells.front);
    }

pub front_from : (before other whole after : List (Event (List ℕ))) → before ≡ other → AddsFront before whole after → AddsFront other whole after
front_from before other whole after is tells =
    record { front = tells.front; rest = tells.rest; parts = tells.parts; told = tells.told ∙ ap (λ (es : List (Event (List ℕ))). es ++ tells.front) is }
