-- Outside examples of what a restore does, and that a snapshot brings the association back.
use Rattle.std.proofs.Common.{◌≡◌, ◌-◌, ◌^◌, true, false, None, Some, [], ◌∷◌, refl}
use Rattle.dcsctp_spec_lemmas.specs.wire.declared.reconfiguration.ReconfigurationResponseResult.TheVariants.{SuccessNothingToDo}
use Rattle.dcsctp_spec_lemmas.specs.types.declared.association.Held.{Held}
use Rattle.dcsctp_spec_lemmas.specs.types.declared.association.Pair.{Pair}
use Rattle.dcsctp_spec_lemmas.specs.types.declared.options.Options.{Options}
use Rattle.dcsctp_spec_lemmas.specs.types.declared.snapshot.HandoverSocketState.TheVariants as states
use Rattle.dcsctp_spec_lemmas.specs.spec.endpoint.Event as events
use Rattle.dcsctp_spec_lemmas.specs.spec.endpoint.Endpoint.{Endpoint, fresh_endpoint, closed, cookie_wait, open_in, established}
use Rattle.dcsctp_spec_lemmas.specs.types.Snapshot.{Snapshot, empty_snapshot, no_handover_capabilities}
use Rattle.dcsctp_spec_lemmas.specs.spec.HandoverInputs.{inputs_of_restore}
use Rattle.dcsctp_spec_lemmas.specs.spec.endpoint.Turn.{act_input, restores}
use Rattle.dcsctp_spec_lemmas.specs.spec.association.Acts.{flushes}
use Rattle.dcsctp_spec_lemmas.specs.spec.association.Effect.{AssociationIdentity, holds, connects, ends, resumes}
use Rattle.dcsctp_spec_lemmas.specs.types.Offer.{no_capabilities as no_offer}
use Rattle.dcsctp_spec_runs.specs.Past.{number_to_begin, number_to_accept, InPlace}
use Rattle.dcsctp_spec_lemmas.specs.spec.queues.Transfer.{Transfer}
use Rattle.dcsctp_spec_lemmas.specs.spec.endpoint.RestoreOutcomes.{capabilities_restored, restored_outcome}
use Rattle.dcsctp_spec_lemmas.specs.spec.endpoint.Timers.{running_deadline}

-- a snapshot of a connected socket, of which nothing was sent or received
abbrev state : Snapshot
state =
    record empty_snapshot {
      socket_state = states.Connected;
      my_verification_tag = 7;
      my_initial_tsn = 100;
      peer_verification_tag = 9;
      peer_initial_tsn = 200;
      tie_tag = 11;
      tx = record empty_snapshot.tx { next_tsn = 100; next_reset_req_sn = 102; rwnd = 5000; last_cumulative_tsn_ack = 99 };
      rx = record empty_snapshot.rx { last_cumulative_acked_tsn = 199; last_completed_reset_req_sn = 202 };
    }

-- what comes of it
abbrev restored : Options → Transfer → Endpoint
restored options transfer = (restored_outcome (fresh_endpoint options) state transfer).after

own : Pair
own = record { tag = 7; first_tsn = 100 }

-- Its numbers of requests continue, none is outstanding, and the kept answer is 'nothing to do'.
it_is_established : (options : Options) (transfer : Transfer) → (restored options transfer).core
    ≡ open_in established own (record {
      peer = record { tag = 9; first_tsn = 200 };
      capabilities = capabilities_restored options no_handover_capabilities;
      own_next = 102;
      own_outstanding = None;
      peer_last = 202;
      peer_result = SuccessNothingToDo;
    })
unfolding own
it_is_established options transfer = refl

tie_tag_comes_back : (options : Options) (transfer : Transfer) → (restored options transfer).tie ≡ 11
tie_tag_comes_back options transfer = refl

-- One OnConnected; what is sent comes after it.
it_tells_connected : (options : Options) (transfer : Transfer) → (restored_outcome (fresh_endpoint options) state transfer).events ≡ events.connected ∷ []
it_tells_connected options transfer = refl

-- No heartbeat interval runs,
no_heartbeat : (options : Options) (transfer : Transfer) → (restored (record options { follow_rfc = false }) transfer).timers.heartbeat_interval ≡ None
no_heartbeat options transfer = refl

-- but by the RFC's rules one of 30.250053403 s: half of 500 ms is added, and 7 steps of 7,629 ns.
abbrev by_rfc : Options → Options
by_rfc options =
    record options {
      follow_rfc = true;
      heartbeat_interval = record { secs = 30; nanos = 0 };
      rto_initial = record { secs = 0; nanos = 500_000_000 };
    }

heartbeats_by_rfc : (options : Options) (transfer : Transfer)
    → running_deadline (restored (by_rfc options) transfer).timers.heartbeat_interval ≡ Some 30_250_053_403
heartbeats_by_rfc options transfer = refl

-- ---- zero checksum goes by the method of the options

method_of_options : (options : Options) → (capabilities_restored options (record no_handover_capabilities { zero_checksum = true })).zero_checksum_method ≡ options.zero_checksum_alternate_error_detection_method
method_of_options options = refl

no_method : (options : Options) → (capabilities_restored options no_handover_capabilities).zero_checksum_method.0 ≡ 0
no_method options = refl

-- ---- the call

closed_socket_is_restored : inputs_of_restore closed state ≡ restores state ∷ act_input flushes ∷ []
closed_socket_is_restored = refl

from_a_closed_one_nothing_comes : inputs_of_restore closed empty_snapshot ≡ []
from_a_closed_one_nothing_comes = refl

one_that_connects_stays : inputs_of_restore (cookie_wait own) state ≡ []
one_that_connects_stays = refl

open_one_stays : (held : Held) → inputs_of_restore (open_in established own held) state ≡ []
open_one_stays held = refl

-- ---- numbers continue from the snapshot

link : AssociationIdentity
link =
    record { my = own; peer = record { tag = 9; first_tsn = 200 }; capabilities = no_offer }

own_requests_go_on : number_to_begin (resumes link 102 202 ∷ ends ∷ []) ≡ Some 102
own_requests_go_on = refl

requests_of_the_peer_go_on : number_to_accept (resumes link 102 202 ∷ ends ∷ []) ≡ Some 203
requests_of_the_peer_go_on = refl

they_wrap : number_to_accept (resumes link 102 (2 ^ 32 - 1) ∷ []) ≡ Some 0
they_wrap = refl

-- It may have connected once.
it_connects : InPlace (connects link) (resumes link 102 202 ∷ [])
it_connects = refl

not_twice : InPlace (connects link) (connects link ∷ resumes link 102 202 ∷ []) → ⊥
not_twice same = cc

-- It doesn't take the place of another.
only_where_none_is : InPlace (resumes link 102 202) (connects link ∷ holds link ∷ []) → ⊥
only_where_none_is same = cc

behind_an_end : InPlace (resumes link 102 202) (ends ∷ connects link ∷ holds link ∷ [])
behind_an_end = refl
