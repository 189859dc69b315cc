-- What a restore brings back of an association.
use Rattle.std.specs.Prelude.{◌≡◌, Ok}
use Rattle.dcsctp_core.specs.types.declared.association.Held.{Held}
use Rattle.dcsctp_core.specs.types.declared.association.Pair.{Pair}
use Rattle.dcsctp_core.specs.types.declared.options.Options.{Options}
use Rattle.dcsctp_core.specs.types.declared.snapshot.HandoverSocketState.TheVariants.{Connected}
use Rattle.dcsctp_core.specs.spec.endpoint.Endpoint.{Endpoint, open_in, established}
use Rattle.dcsctp_core.specs.types.Schedule.{OutsideContent, input_outside, handover_outside, restore_outside, ActContent, step_act, outside_act}
use Rattle.dcsctp_core.specs.types.Snapshot.{Snapshot}
use Rattle.dcsctp_core.specs.spec.association.ResumeChanges.{resumed_held}
use Rattle.dcsctp_core.specs.spec.endpoint.RestoreOutcomes.{own_pair, held_restored}
use Rattle.dcsctp_world.specs.declared.act.Reply.{Reply}
use Rattle.dcsctp_world.specs.declared.act.Reply.TheVariants.{Restored}

-- Both pairs, the tie tag, what both ends support, and the numbers of requests are those of the snapshot. The flush after
-- it begins no request of our own.
pub record ContinuesFromSnapshot (options : Options) (state : Snapshot) (new : Endpoint) : Type 0 where
  pub core : new.core ≡ open_in established (own_pair state) (held_restored options state)
  pub tie : new.tie ≡ state.tie_tag

-- A socket that was established continues as it was: with both pairs, the tie tag, what both ends support, and the numbers of
-- requests. No request of our own is outstanding, and the kept answer is 'nothing to do'.
pub record ResumesEstablished (old : Endpoint) (my : Pair) (held : Held) (new : Endpoint) : Type 0 where
  pub core : new.core ≡ open_in established my (resumed_held held.peer held.capabilities held.own_next held.peer_last)
  pub tie : new.tie ≡ old.tie

-- What an act from outside that restores a socket brings back.
abbrev pub BringsBackAssociation : OutsideContent → Reply → Endpoint → Endpoint → Type 0
BringsBackAssociation (input_outside side bytes) reply old new = Unit {0}
BringsBackAssociation (handover_outside side) reply old new =
    reply ≡ Restored (Ok tt) → (my : Pair) (held : Held) → old.core ≡ open_in established my held → ResumesEstablished old my held new
BringsBackAssociation (restore_outside side state) reply old new = reply ≡ Restored (Ok tt) → state.socket_state ≡ Connected → ContinuesFromSnapshot old.options state new

-- What an act brings back of an association: a step restores no socket.
abbrev pub BringsBack : ActContent → Reply → Endpoint → Endpoint → Type 0
BringsBack (step_act step) reply old new = Unit {0}
BringsBack (outside_act outside) reply old new = BringsBackAssociation outside reply old new
