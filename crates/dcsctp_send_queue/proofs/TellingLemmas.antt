-- Lemmas on the first part of a list of events.
use Rattle.std.proofs.Common.{◌≡◌, ◌∙◌, ℕ, List, ◌++◌, append_assoc, sym, ap}
use Rattle.dcsctp_api.specs.spec.endpoint.Event.{Event}
use Rattle.dcsctp_send_queue.specs.Telling.{AddsFront}

abbrev Events : Type 0
Events = List (Event (List ℕ))

-- Some events came before, and more were to follow.
pub front_within : (before told events whole part later after : Events) → events ≡ before ++ told → whole ≡ told ++ (part ++ later) → AddsFront events part after → AddsFront before whole after
front_within before told events whole part later after is parts tells =
    record {
      front = told ++ tells.front;
      rest = tells.rest ++ later;
      parts = parts
          ∙ (ap (λ (es : Events). told ++ es) (ap (λ (es : Events). es ++ later) tells.parts ∙ append_assoc tells.front tells.rest later)
          ∙ sym (append_assoc told tells.front (tells.rest ++ later)));
      told = tells.told ∙ (ap (λ (es : Events). es ++ tells.front) is ∙ append_assoc before told tells.front);
    }
