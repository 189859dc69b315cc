-- What holds of an endpoint whatever it is handed, so that each of its snapshots is valid.
use Rattle.std.specs.Prelude.{◌≡◌, ◌≤◌, ◌<◌, ◌^◌, ◌⊎◌, Option, None, Some, length}
use Rattle.std.specs.List.{AllByRecursion}
use Rattle.dcsctp_types.specs.declared.association.Held.{Held}
use Rattle.dcsctp_types.specs.declared.capabilities.Capabilities.{Capabilities}
use Rattle.dcsctp_types.specs.declared.options.Options.{Options}
use Rattle.dcsctp_types.specs.declared.progress.ItemState.TheVariants.{Abandoned}
use Rattle.dcsctp_spec.specs.endpoint.Endpoint.{Endpoint, Core, closed, cookie_wait, cookie_echoed, open_in, held_by_core}
use Rattle.dcsctp_spec.specs.queues.Incoming.{AreInOrder}
use Rattle.dcsctp_spec.specs.queues.Items.{Item}
use Rattle.dcsctp_spec.specs.queues.SendQueue.{IsWellFormed}
use Rattle.dcsctp_spec.specs.queues.Transfer.{Transfer}

-- ---- the association

-- Packets go with a checksum, or without one by the method of the options (RFC 9653, section 5.1).
abbrev pub UsesOwnMethod : Options → Capabilities → Type 0
UsesOwnMethod options capabilities =
    (capabilities.zero_checksum_method.0 ≡ 0) ⊎ (capabilities.zero_checksum_method ≡ options.zero_checksum_alternate_error_detection_method)

-- the peer's tag isn't 0
pub record IsSoundHeld (options : Options) (held : Held) : Type 0 where
  pub tag_is_not_zero : 1 ≤ held.peer.tag
  pub method : UsesOwnMethod options held.capabilities

-- No verification tag is 0.
abbrev pub IsSoundCore : Options → Core → Type 0
IsSoundCore options closed = Unit {0}
IsSoundCore options (cookie_wait my) = 1 ≤ my.tag
IsSoundCore options (cookie_echoed my held cookie) = (1 ≤ my.tag) × IsSoundHeld options held
IsSoundCore options (open_in phase my held) = (1 ≤ my.tag) × IsSoundHeld options held

abbrev pub IsSound : Endpoint → Type 0
IsSound e = IsSoundCore e.options e.core

-- ---- what is in flight, and what was received

-- It has bytes. The end of an abandoned message may have none (RFC 3758, section 3.5).
abbrev pub HasBytes : Item → Type 0
HasBytes item = (0 < length item.fragment.payload) ⊎ (item.progress.state ≡ Abandoned)

pub record IsSoundTransfer (transfer : Transfer) : Type 0 where
  pub items : AllByRecursion HasBytes transfer.retransmission.outstanding.items
  -- TSNs can be compared (RFC 9260, section 1.6).
  pub few : length transfer.retransmission.outstanding.items < 2 ^ 31
  -- Each stream occurs once.
  pub streams : AreInOrder transfer.reassembly.incoming.streams

-- Once the peer is known there is such a layer of the association.
abbrev pub IsSoundIfKnown : Option Held → Option Transfer → Type 0
IsSoundIfKnown None transfer = Unit {0}
IsSoundIfKnown (Some held) None = ⊥
IsSoundIfKnown (Some held) (Some transfer) = IsSoundTransfer transfer

-- what lies below the association
pub record AreQueuesSound (e : Endpoint) : Type 0 where
  pub queue : IsWellFormed e.queues.queue
  pub transfer : IsSoundIfKnown (held_by_core e.core) e.queues.transfer
