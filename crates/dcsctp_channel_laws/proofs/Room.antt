-- An OPEN is accepted only where there is room.
use Rattle.std.proofs.Common.{◌≡◌, ◌<◌, ◌⊎◌, ◌+◌, true, false, not, ◌&&◌, Bool, Option, Some, None, is_some, nat_lt, length, refl, inl, inr}
use Rattle.std.proofs.lemmas.Bool.{ltb-true}
use Rattle.dcsctp_channel_calls.specs.declared.channel.HeldStream.{HeldStream}
use Rattle.dcsctp_channel_calls.specs.View.{LayerView, held_stream_numbered, slot_of}
use Rattle.dcsctp_channel_calls.specs.Arrivals.{has_place, is_peers}
use Rattle.dcsctp_channel_laws.specs.Names.{OpensHaveRoom}

first_holds : (x y z : Bool) → (x && y && z) ≡ true → x ≡ true
first_holds true y z all = refl
first_holds false y z all = absurd cc

place_has_room : (layer : LayerView) (held : Option HeldStream) → has_place (slot_of held) layer ≡ true → (length layer.streams < layer.limits.channels) ⊎ (is_some held ≡ true)
place_has_room layer None place = inl (ltb-true (length layer.streams) layer.limits.channels place)
place_has_room layer (Some held) place = inr refl

pub opens_room : OpensHaveRoom
opens_room layer number opening accepted =
    place_has_room layer (held_stream_numbered layer number)
    (first_holds (has_place (slot_of (held_stream_numbered layer number)) layer) (not (nat_lt layer.limits.text (length opening.label + length opening.protocol))) (is_peers layer.role number) accepted)
