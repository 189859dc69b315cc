-- What is in flight while the COOKIE ACK is awaited, by the RFC: nothing of it was acknowledged. Where
-- both ends began at the same time it goes to the other peer (RFC 9260, section 5.2.4, action B).
use Rattle.std.specs.Prelude.{◌≡◌, ℕ, Bool, false, Option, None, Some, List, Ok}
use Rattle.std.specs.List.{AllByRecursion}
use Rattle.dcsctp_spec_lemmas.specs.types.declared.capabilities.Capabilities.{Capabilities}
use Rattle.dcsctp_spec_lemmas.specs.spec.Cookie.{Cookie, cookie_of_bytes}
use Rattle.dcsctp_spec_lemmas.specs.spec.Packet.{cookie_echo}
use Rattle.dcsctp_spec_lemmas.specs.spec.endpoint.Turn.{Input, chunk_input}
use Rattle.dcsctp_spec_lemmas.specs.spec.queues.Items.{Item}
use Rattle.dcsctp_spec_lemmas.specs.spec.queues.Outstanding.{OutstandingState}
use Rattle.dcsctp_spec_lemmas.specs.spec.queues.Retransmission.{RetransmissionState}
use Rattle.dcsctp_spec_lemmas.specs.spec.queues.Transfer.{Transfer}

-- None of these items was acknowledged.
abbrev pub NoneAcknowledged : List Item → Type 0
NoneAcknowledged items = AllByRecursion (λ item. item.progress.was_acknowledged ≡ false) items

-- What is in flight begins with this TSN, is I-DATA or not, and none of it was acknowledged.
abbrev pub AreFirst : ℕ → Bool → OutstandingState → Type 0
AreFirst first is_interleaved outstanding = (outstanding.first_tsn ≡ first) × (outstanding.is_interleaved ≡ is_interleaved) × NoneAcknowledged outstanding.items

-- And messages may be abandoned, or not, as these capabilities say.
abbrev pub IsUntouched : ℕ → Capabilities → RetransmissionState → Type 0
IsUntouched first kinds state = AreFirst first kinds.message_interleaving state.outstanding × (state.partial_reliability ≡ kinds.partial_reliability)

-- There is an association, and this holds of what is in flight.
abbrev pub IsTransferUntouched : ℕ → Capabilities → Option Transfer → Type 0
IsTransferUntouched first kinds None = ⊥
IsTransferUntouched first kinds (Some transfer) = IsUntouched first kinds transfer.retransmission

-- The cookie reads back, and this is the tag that its maker had drawn.
pub record IsOfMaker (tag : ℕ) (bytes : List ℕ) : Type 0 where
  pub cookie : Cookie
  pub reads : cookie_of_bytes bytes ≡ Ok cookie
  pub under : tag ≡ cookie.maker.tag

-- A COOKIE ECHO that is handled went to its cookie's maker.
abbrev pub EchoesMaker : Input → Type 0
EchoesMaker (chunk_input tag (cookie_echo bytes)) = IsOfMaker tag bytes
EchoesMaker input = Unit {0}
