-- What becomes of the messages that an association leaves when it ends: they stay until they are taken or the next one begins.
use Rattle.std.specs.Prelude.{◌≡◌, ◌⊎◌, Option, None, Some, List, [], ◌∷◌}
use Rattle.dcsctp_spec_lemmas.specs.spec.endpoint.Endpoint.{Endpoint}
use Rattle.dcsctp_spec_lemmas.specs.spec.endpoint.EndOutcomes.{left_messages}
use Rattle.dcsctp_spec_lemmas.specs.spec.endpoint.Outcome.{Outcome}
use Rattle.dcsctp_spec_lemmas.specs.spec.association.Acts.{request_again, request_renewed}
use Rattle.dcsctp_spec_lemmas.specs.spec.endpoint.Turn.{Input, act_input, user_takes, Turn}
use Rattle.dcsctp_spec_lemmas.specs.types.queues.Messages.{MessageContent}
use Rattle.dcsctp_spec_lemmas.specs.spec.queues.Transfer.{Transfer}

-- all but the first
abbrev pub without_first_message : List MessageContent → List MessageContent
without_first_message [] = []
without_first_message (message ∷ messages) = messages

-- those that are left once this came, where there is no association
abbrev pub left_once : Input → List MessageContent → List MessageContent
left_once user_takes messages = without_first_message messages
left_once input messages = messages

-- What is left after a turn, by what there is before and after it.
abbrev pub LeavesMessages : Endpoint → Input → Option Transfer → Option Transfer → List MessageContent → Type 0
-- No association: the user's call takes one of them, and nothing else does.
LeavesMessages e input None None left = left ≡ left_once input e.left
-- One begins.
LeavesMessages e input None (Some new) left = left ≡ []
-- It ends: what it leaves is what was ready before the turn.
LeavesMessages e input (Some old) None left = left ≡ left_messages e.options (Some old) e.left
-- It continues, or another one takes its place.
LeavesMessages e input (Some old) (Some new) left = (left ≡ e.left) ⊎ (left ≡ [])

-- what a socket is handed: a request to reset streams is sent again by its timer alone
abbrev pub IsOwnInput : Input → Type 0
IsOwnInput (act_input (request_again reset)) = ⊥
IsOwnInput (act_input (request_renewed reset)) = ⊥
IsOwnInput input = Unit {0}

-- So it is of each turn.
abbrev pub MessagesLeftStay : Type 0
MessagesLeftStay = (e : Endpoint) (input : Input) (o : Outcome) → IsOwnInput input → Turn e input o → LeavesMessages e input e.queues.transfer o.after.queues.transfer o.after.left
