-- A socket's own snapshot has its association: both pairs, what both ends support, the numbers of
-- requests, and the tie tag.
use Rattle.std.proofs.Common.{◌≡◌, ◌⊎◌, inl, inr, ◌==◌, not, cond, ℕ, Bool, true, false, Option, None, Some, refl, sym, ap, ◌∙◌, subst, arith}
use Rattle.std.proofs.lemmas.Bool.Decides.{nat_tests}
use Rattle.dcsctp_spec_lemmas.specs.types.declared.association.Held.{Held}
use Rattle.dcsctp_spec_lemmas.specs.types.declared.association.Pair.{Pair}
use Rattle.dcsctp_spec_lemmas.specs.types.declared.capabilities.Capabilities.{Capabilities}
use Rattle.dcsctp_spec_lemmas.specs.types.declared.kinds.ZeroChecksumAlternateErrorDetectionMethod.{ZeroChecksumAlternateErrorDetectionMethod}
use Rattle.dcsctp_spec_lemmas.specs.types.declared.options.Options.{Options}
use Rattle.dcsctp_spec_lemmas.specs.spec.endpoint.Endpoint.{Endpoint, open_in, established}
use Rattle.dcsctp_spec_lemmas.specs.types.Snapshot.{SendPart, ReceivePart, Snapshot, empty_received_part}
use Rattle.dcsctp_spec_lemmas.specs.spec.SocketSnapshot.{capabilities_given, with_flight, with_received, connected_snapshot, snapshot_by_core}
use Rattle.dcsctp_spec_lemmas.specs.spec.Soundness.{UsesOwnMethod, IsSoundCore}
use Rattle.dcsctp_spec_lemmas.specs.spec.association.ResumeChanges.{resumed_held}
use Rattle.dcsctp_spec_lemmas.specs.spec.queues.Transfer.{Transfer}
use Rattle.dcsctp_spec_lemmas.specs.spec.endpoint.RestoreOutcomes.{capabilities_restored, own_pair, held_restored}
use Rattle.dcsctp_theorem_sockets.specs.Restores.{SnapshotsBringBack}

flight_keeps : (e : Endpoint) (found : Option Transfer) (tx : SendPart) → (with_flight e found tx).next_reset_req_sn ≡ tx.next_reset_req_sn
flight_keeps e None tx = refl
flight_keeps e (Some transfer) tx = refl

received_keeps : (found : Option Transfer) (rx : ReceivePart) → (with_received found rx).last_completed_reset_req_sn ≡ rx.last_completed_reset_req_sn
received_keeps None rx = refl
received_keeps (Some transfer) rx = refl

-- The method is that of the options, or none: so it comes back by them.
method_by : (is_none : Bool) (method own : ZeroChecksumAlternateErrorDetectionMethod) → (method.0 == 0) ≡ is_none → (method.0 ≡ 0) ⊎ (method ≡ own)
    → cond (not is_none) own (record { 0 = 0 }) ≡ method
method_by true method own test either = let none : method.0 ≡ 0 = grind (arith, nat_tests) in ap (λ (n : ℕ). let m : ZeroChecksumAlternateErrorDetectionMethod = record { 0 = n } in m) (sym none)
method_by false method own test (inl none) = absurd (cc (test, none))
method_by false method own test (inr is) = sym is

capabilities_again : (options : Options) (capabilities : Capabilities) → UsesOwnMethod options capabilities → capabilities_restored options (capabilities_given capabilities) ≡ capabilities
capabilities_again options capabilities either =
    ap (λ (m : ZeroChecksumAlternateErrorDetectionMethod). record capabilities { zero_checksum_method = m })
    (method_by (capabilities.zero_checksum_method.0 == 0) capabilities.zero_checksum_method options.zero_checksum_alternate_error_detection_method refl either)

-- what is known of the peer comes back
abbrev pub held_again : Held → Held
held_again held = resumed_held held.peer held.capabilities held.own_next held.peer_last

pub held_is : (options : Options) (e : Endpoint) (my : Pair) (held : Held) → UsesOwnMethod options held.capabilities → held_restored options (connected_snapshot e my held) ≡ held_again held
held_is options e my held method =
    ap (λ (n : ℕ). record (held_restored options (connected_snapshot e my held)) { own_next = n }) (flight_keeps e e.queues.transfer _)
    ∙ ap (λ (n : ℕ). record (resumed_held held.peer (capabilities_restored options (capabilities_given held.capabilities)) held.own_next held.peer_last) { peer_last = n })
    (received_keeps e.queues.transfer (record empty_received_part { last_completed_reset_req_sn = held.peer_last }))
    ∙ ap (λ (c : Capabilities). record (held_again held) { capabilities = c }) (capabilities_again options held.capabilities method)

pub snapshots_bring_back : SnapshotsBringBack
snapshots_bring_back e my held core sound =
    let here : IsSoundCore e.options (open_in established my held) = subst (IsSoundCore e.options) core sound in
    let own = ap (snapshot_by_core e) core in (
      ap own_pair own,
      ap (held_restored e.options) own ∙ held_is e.options e my held here.1.method,
      ap (λ (state : Snapshot). state.tie_tag) own,
    )
