-- The events of a message that is refused: its end first.
use Rattle.std.proofs.Common.{◌≡◌, Option, None, Some, [], ◌∷◌, ◌++◌, refl, ap, ◌∙◌}
use Rattle.std.specs.Option.{option_map}
use Rattle.rand_core.specs.Stream.{Stream}
use Rattle.dcsctp_core.specs.types.declared.ids.LifecycleId.{LifecycleId}
use Rattle.dcsctp_core.specs.types.Ids.{lifecycle_number}
use Rattle.dcsctp_core.specs.spec.endpoint.Event.{error}
use Rattle.dcsctp_core.specs.spec.endpoint.MessageOutcomes.{MessageRefusal, refusal_kind, message_refusal_text, refusal_events}
use Rattle.dcsctp_core.specs.View.{View, Moves, CutsTurn}
use Rattle.dcsctp_core.proofs.Composing.{cut_after}
use Rattle.dcsctp_core_messages.specs.Sending.{end_events, end_turn, message_refusal_turn}

events_in_parts : (refusal : MessageRefusal) (id : Option LifecycleId)
    → refusal_events refusal (option_map lifecycle_number id) ≡ end_events id ++ error (refusal_kind refusal) (message_refusal_text refusal) ∷ []
events_in_parts refusal None = refl
events_in_parts refusal (Some id) = refl

-- its end was reported, and then an allocation failed
pub told_in_part : {R : Type 0} (stream : R → Stream) (refusal : MessageRefusal) (id : Option LifecycleId) (old mid new : View R) → Moves stream old (end_turn id old) mid → new ≡ mid
    → CutsTurn old (message_refusal_turn refusal id old) new.events
told_in_part {R = R} stream refusal id old mid new m same =
    cut_after old (message_refusal_turn refusal id old) new.events (end_events id) (error (refusal_kind refusal) (message_refusal_text refusal) ∷ []) (events_in_parts refusal id)
    (ap (λ (v : View R). v.events) same ∙ m.events)
