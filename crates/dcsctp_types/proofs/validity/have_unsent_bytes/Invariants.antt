use Rattle.std.proofs.Common.{◌≡◌, map, drop}
use Rattle.std.specs.List.{list_all}
use Rattle.dcsctp_types.specs.SnapshotItems.{queued_part}
use Rattle.dcsctp_types.specs.Snapshot.{is_valid_queued}
use Rattle.dcsctp_types.proofs.validity.have_unsent_bytes.Given as goal

-- what is left says what all say
abbrev pub invariant-loop-message : goal.invariant-loop-message
invariant-loop-message l =
    list_all is_valid_queued (map queued_part (drop l.message-index l.messages)) ≡ list_all is_valid_queued (map queued_part l.messages)
