-- What is true of the fields of named streams at all times.
use Rattle.dcsctp_api.specs.types.Ids.{stream_numbers}
use Rattle.dcsctp_receive_reassembly.specs.declared.named.NamedStreams.TheInside.{Inside}
use Rattle.dcsctp_receive_reassembly.specs.NamedStreams.{IsSortedFrom}

-- the sorted numbers are those that were given
abbrev pub IsSearchable : Inside → Type 0
IsSearchable named = IsSortedFrom (stream_numbers named.given.items) named.sorted.items
