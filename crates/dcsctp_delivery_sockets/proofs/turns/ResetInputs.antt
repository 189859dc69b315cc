-- A call that resets these streams resets each of them, and no other.
use Rattle.std.proofs.Common.{◌≡◌, ℕ, Some, List, ap}
use Rattle.dcsctp_spec_lemmas.specs.spec.endpoint.Turn.{Input, arrival, refusal, packet_begins, chunk_input, packet_ends, act_input, user_sets, user_sends, user_resets, user_takes, timer_expires, time_passes, restores}
use Rattle.dcsctp_spec_lemmas.specs.spec.queues.Incoming.{is_named}
use Rattle.dcsctp_delivery_sockets.specs.turns.Actions.{streams_user_resets, resets_stream}

same_list : {one two : List ℕ} → Some one ≡ Some two → one ≡ two
same_list is = cc

pub named_by : (input : Input) (ids : List ℕ) (id : ℕ) → streams_user_resets input ≡ Some ids → resets_stream id input ≡ is_named ids id
named_by arrival ids id is = absurd (cc)
named_by (refusal x0) ids id is = absurd (cc)
named_by (packet_begins x0) ids id is = absurd (cc)
named_by (chunk_input x0 x1) ids id is = absurd (cc)
named_by packet_ends ids id is = absurd (cc)
named_by (act_input x0) ids id is = absurd (cc)
named_by (user_sets x0) ids id is = absurd (cc)
named_by (user_sends x0) ids id is = absurd (cc)
named_by (user_resets x0) ids id is = ap (λ (l : List ℕ). is_named l id) (same_list is)
named_by user_takes ids id is = absurd (cc)
named_by (timer_expires x0) ids id is = absurd (cc)
named_by (time_passes x0) ids id is = absurd (cc)
named_by (restores x0) ids id is = absurd (cc)
