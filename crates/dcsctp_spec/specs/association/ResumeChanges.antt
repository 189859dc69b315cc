-- An association that is restored from a snapshot. No handshake makes it, so two sides needn't agree on it.
use Rattle.std.specs.Prelude.{ℕ, None, [], ◌∷◌}
use Rattle.dcsctp_types.specs.wire.declared.reconfiguration.ReconfigurationResponseResult.TheVariants.{SuccessNothingToDo}
use Rattle.dcsctp_types.specs.declared.association.Pair.{Pair}
use Rattle.dcsctp_types.specs.declared.association.Held.{Held}
use Rattle.dcsctp_types.specs.declared.capabilities.Capabilities.{Capabilities}
use Rattle.dcsctp_spec.specs.endpoint.Endpoint.{open_in, established}
use Rattle.dcsctp_spec.specs.endpoint.Following.{next_chunk}
use Rattle.dcsctp_spec.specs.association.Effect.{connects, resumes, Change, identity_of}

-- What it has: no own request is outstanding, and the kept answer to the peer's last one is 'nothing to do'.
abbrev pub resumed_held : Pair → Capabilities → ℕ → ℕ → Held
resumed_held peer capabilities own last =
    record { peer = peer; capabilities = capabilities; own_next = own; own_outstanding = None; peer_last = last; peer_result = SuccessNothingToDo }

-- A closed side continues with it: it is established, and OnConnected is reported.
abbrev pub resume_change : Pair → Held → Change
resume_change my held =
    record {
      core = open_in established my held;
      effects = resumes (identity_of my held) held.own_next held.peer_last ∷ connects (identity_of my held) ∷ [];
      following = next_chunk;
    }
