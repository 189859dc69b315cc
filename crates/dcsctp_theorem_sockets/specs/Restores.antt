-- What a snapshot brings back of an association, and what the flush after a restore leaves.
use Rattle.std.specs.Prelude.{◌≡◌}
use Rattle.dcsctp_spec_lemmas.specs.types.declared.association.Held.{Held}
use Rattle.dcsctp_spec_lemmas.specs.types.declared.association.Pair.{Pair}
use Rattle.dcsctp_spec_lemmas.specs.spec.endpoint.Endpoint.{Endpoint, closed, open_in, established}
use Rattle.dcsctp_spec_lemmas.specs.spec.endpoint.Outcome.{Outcome}
use Rattle.dcsctp_spec_lemmas.specs.types.Snapshot.{Snapshot}
use Rattle.dcsctp_spec_lemmas.specs.spec.SocketSnapshot.{snapshot_of}
use Rattle.dcsctp_spec_lemmas.specs.spec.Soundness.{IsSound}
use Rattle.dcsctp_spec_lemmas.specs.spec.association.ResumeChanges.{resumed_held}
use Rattle.dcsctp_spec_lemmas.specs.spec.endpoint.DataOutcomes.{FlushTurn}
use Rattle.dcsctp_spec_lemmas.specs.spec.endpoint.RestoreOutcomes.{RestoreTurn, own_pair, held_restored}

-- The snapshot of an established socket has both pairs, what both ends support, the numbers of requests to reset streams, and the
-- tie tag. With the socket's options all of them come back.
abbrev pub SnapshotsBringBack : Type 0
SnapshotsBringBack =
    (e : Endpoint) (my : Pair) (held : Held) → e.core ≡ open_in established my held → IsSound e
    → (own_pair (snapshot_of e) ≡ my)
    × (held_restored e.options (snapshot_of e) ≡ resumed_held held.peer held.capabilities held.own_next held.peer_last)
    × ((snapshot_of e).tie_tag ≡ e.tie)

-- The flush after a closed socket is restored leaves its association as it is. It begins no request to reset streams, so the next
-- number is that of the snapshot (RFC 6525, section 4.1).
abbrev pub RestoredSocketsBeginNothing : Type 0
RestoredSocketsBeginNothing =
    (e : Endpoint) (state : Snapshot) (restored flushed : Outcome)
    → e.core ≡ closed → RestoreTurn e e.core state restored → FlushTurn restored.after flushed → flushed.after.core ≡ restored.after.core
