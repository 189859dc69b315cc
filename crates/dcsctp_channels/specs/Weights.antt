-- Of how many streams a reset or an ACK is put off.
use Rattle.std.specs.Prelude.{ℕ, ◌||◌, List, if◌then◌else◌}
use Rattle.std.specs.List.{sum_by}
use Rattle.std.specs.Map.{values_of}
use Rattle.dcsctp_channel_calls.specs.declared.channel.HeldStream.{HeldStream}
use Rattle.dcsctp_channel_calls.specs.Arrivals.{owes_now}
use Rattle.dcsctp_channel_calls.specs.Late.{may_reset}

abbrev pub late_weight : HeldStream → ℕ
late_weight held = if may_reset held.stream || owes_now held.stream then 1 else 0

abbrev pub late_count : List (ℕ × HeldStream) → ℕ
late_count entries = sum_by late_weight (values_of entries)
