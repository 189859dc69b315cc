-- What is put in where a socket is handed over, and where it is restored.
use Rattle.std.specs.Prelude.{ℕ, zero, suc, List, [], ◌∷◌}
use Rattle.dcsctp_types.specs.declared.snapshot.HandoverSocketState.{HandoverSocketState}
use Rattle.dcsctp_types.specs.declared.snapshot.HandoverSocketState.TheVariants as states
use Rattle.dcsctp_spec.specs.endpoint.Endpoint.{Core, closed}
use Rattle.dcsctp_types.specs.Snapshot.{Snapshot}
use Rattle.dcsctp_spec.specs.endpoint.Turn.{Input, restores, act_input}
use Rattle.dcsctp_spec.specs.association.Acts.{hands_over, flushes}

-- A socket that isn't ready isn't handed over, and nothing happens.
abbrev pub inputs_of_handover : ℕ → List Input
inputs_of_handover zero = act_input hands_over ∷ []
inputs_of_handover (suc reasons) = []

-- A connected socket's snapshot restores its association, and what waits is sent. That of a closed one changes nothing.
abbrev pub inputs_of_snapshot : HandoverSocketState → Snapshot → List Input
inputs_of_snapshot states.Closed state = []
inputs_of_snapshot states.Connected state = restores state ∷ act_input flushes ∷ []

-- Only a closed socket is restored.
abbrev pub inputs_of_restore : Core → Snapshot → List Input
inputs_of_restore closed state = inputs_of_snapshot state.socket_state state
inputs_of_restore core state = []
