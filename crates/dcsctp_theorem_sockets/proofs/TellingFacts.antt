-- What a turn may report of what it recorded, written by hand: a wrong rule in specs/Telling would
-- not check here.
use Rattle.std.proofs.Common.{◌≡◌, None, Some, List, [], ◌∷◌, inl, refl}
use Rattle.dcsctp_spec_lemmas.specs.types.declared.association.Pair.{Pair}
use Rattle.dcsctp_spec_lemmas.specs.types.declared.association.Held.{Held}
use Rattle.dcsctp_spec_lemmas.specs.spec.endpoint.Event.{Event, sent, connected, connection_restarted, streams_reset_performed, incoming_stream_reset}
use Rattle.dcsctp_spec_lemmas.specs.spec.Packet.{Emission}
use Rattle.dcsctp_spec_lemmas.specs.spec.endpoint.Endpoint.{Endpoint, open_in, established}
use Rattle.dcsctp_spec_lemmas.specs.spec.endpoint.Endpoint as machine
use Rattle.dcsctp_spec_lemmas.specs.spec.endpoint.Outcome.{still}
use Rattle.dcsctp_spec_lemmas.specs.spec.endpoint.Turn.{arrival}
use Rattle.dcsctp_spec_lemmas.specs.spec.association.Effect.{AssociationIdentity, Effect, draws, holds, connects, ends, begins, completes, fails, accepts, performs, resumes, identity_of}
use Rattle.dcsctp_spec_lemmas.specs.spec.association.Controlled.{has_connected, own_reset_performed, own_reset_failed, peer_reset_performed}
use Rattle.dcsctp_spec_lemmas.specs.spec.endpoint.CallTurns.{Transition, transition}
use Rattle.dcsctp_spec_runs.specs.Past.{Each}
use Rattle.dcsctp_theorem_sockets.specs.Telling.{ReportsRecorded, HasRecordedAssociation, RecordsOnlyNew, IsNewRecord}

-- a turn that recorded these effects and reported these events
abbrev telling : Endpoint → List Effect → List (Event Emission) → Transition
telling e effects events = transition arrival (record (still e) { effects = effects; events = events })

-- ---- events

-- A restart connects the new association. Its packet and OnConnectionRestarted count for nothing.
restart_told : (e : Endpoint) (link : AssociationIdentity) (emission : Emission)
    → ReportsRecorded (telling e (holds link ∷ connects link ∷ []) (connection_restarted ∷ connected ∷ sent emission ∷ []))
restart_told e link emission = refl

-- The peer's request is performed, and then ours; our next one begins.
resets_told : (e : Endpoint) (mine theirs : Pair)
    → ReportsRecorded (telling e (accepts 5 ∷ performs theirs 5 ∷ completes mine 1 ∷ begins 2 ∷ []) (incoming_stream_reset (4 ∷ []) ∷ streams_reset_performed (3 ∷ []) ∷ []))
resets_told e mine theirs = refl

-- A pair that is drawn is not reported.
draw_untold : (e : Endpoint) (pair : Pair) → ReportsRecorded (telling e (draws pair ∷ []) [])
draw_untold e pair = refl

-- A connection that is reported without a record is refused,
unnoted : (e : Endpoint) → ReportsRecorded (telling e [] (connected ∷ [])) → ⊥
unnoted e tells = let same : has_connected ∷ [] ≡ [] = tells in absurd (cc)

-- and so are one that isn't reported, and one that is reported twice.
untold : (e : Endpoint) (link : AssociationIdentity) → ReportsRecorded (telling e (connects link ∷ []) (connection_restarted ∷ [])) → ⊥
untold e link tells = let same : [] ≡ has_connected ∷ [] = tells in absurd (cc)

told_twice : (e : Endpoint) (link : AssociationIdentity) → ReportsRecorded (telling e (connects link ∷ []) (connected ∷ connected ∷ [])) → ⊥
told_twice e link tells = let same : has_connected ∷ has_connected ∷ [] ≡ has_connected ∷ [] = tells in absurd (cc)

-- So are a failed request that is reported as performed, and events in another order.
failed_as_performed : (e : Endpoint) → ReportsRecorded (telling e (fails 1 ∷ []) (streams_reset_performed [] ∷ [])) → ⊥
failed_as_performed e tells = let same : own_reset_performed ∷ [] ≡ own_reset_failed ∷ [] = tells in absurd (cc)

in_another_order : (e : Endpoint) (mine theirs : Pair)
    → ReportsRecorded (telling e (performs theirs 5 ∷ completes mine 1 ∷ []) (streams_reset_performed [] ∷ incoming_stream_reset [] ∷ [])) → ⊥
in_another_order e mine theirs tells = let same : own_reset_performed ∷ peer_reset_performed ∷ [] ≡ peer_reset_performed ∷ own_reset_performed ∷ [] = tells in absurd (cc)

-- ---- the association

-- After an end there is none,
ended_holds_none : (e : Endpoint) (link : AssociationIdentity) → HasRecordedAssociation (telling e (holds link ∷ connects link ∷ []) [] ∷ telling e (ends ∷ []) [] ∷ []) (record e { core = machine.closed })
ended_holds_none e link = refl

-- but not before.
lost_unnoted : (e : Endpoint) (link : AssociationIdentity) → HasRecordedAssociation (telling e (holds link ∷ connects link ∷ []) [] ∷ []) (record e { core = machine.closed }) → ⊥
lost_unnoted e link h = let same : Some link ≡ None = h in absurd (cc)

-- One that is there isn't recorded again.
noted_again : (e : Endpoint) (my : Pair) (held : Held) → RecordsOnlyNew (record e { core = open_in established my held }) (telling e (holds (identity_of my held) ∷ []) []) → ⊥
noted_again e my held h = h (identity_of my held) (inl refl) refl

-- That is so in one turn too, after a restore as after a handshake,
noted_twice : (link : AssociationIdentity) → Each IsNewRecord (connects link ∷ holds link ∷ connects link ∷ holds link ∷ []) → ⊥
noted_twice link each = each.1.0 refl

restored_and_noted : (link : AssociationIdentity) → Each IsNewRecord (holds link ∷ connects link ∷ resumes link 1 5 ∷ []) → ⊥
restored_and_noted link each = each.0 refl

-- but not after an end.
noted_after_an_end : (link : AssociationIdentity) → Each IsNewRecord (holds link ∷ ends ∷ connects link ∷ holds link ∷ [])
noted_after_an_end link = (λ same. absurd (cc), (tt, (tt, (λ same. absurd (cc), tt))))
