-- What goes into a packet, and what stays of the items that were accepted before (RFC 9260, section 6.1).
use Rattle.std.specs.Prelude.{◌≡◌, ℕ, ◌+◌, ◌%◌, ◌^◌, ◌≤◌, Some, List, [], ◌∷◌, ◌++◌, slice_get}
use Rattle.dcsctp_api.specs.spec.queues.Sending.{Fragment}
use Rattle.dcsctp_api.specs.spec.queues.Items.{Item, item_size}
use Rattle.dcsctp_send_retransmission.specs.declared.packet.Packet.{Packet}
use Rattle.dcsctp_api.specs.spec.queues.Outstanding.{OutstandingState, header}
use Rattle.dcsctp_api.specs.spec.queues.Retransmission.{RetransmissionState, timer_with}

-- the item at this place carries the fragment
pub record HasFragment (place : ℕ) (fragment : Fragment) (items : List Item) : Type 0 where
  pub item : Item
  pub at : slice_get items place ≡ Some item
  pub is : item.fragment ≡ fragment

-- each item stays at its place, with its fragment
abbrev pub KeepsFragments : List Item → List Item → Type 0
KeepsFragments old new = (k : ℕ) (item : Item) → slice_get old k ≡ Some item → HasFragment k item.fragment new

-- No fragment is lost, and neither the cumulative TSN nor the windows nor the timer change.
pub record KeepsAllFragments (old new : RetransmissionState) : Type 0 where
  pub first_tsn : new.outstanding.first_tsn ≡ old.outstanding.first_tsn
  pub is_interleaved : new.outstanding.is_interleaved ≡ old.outstanding.is_interleaved
  pub fragments : KeepsFragments old.outstanding.items new.outstanding.items
  pub congestion : new.congestion ≡ old.congestion
  pub timer : new.timer ≡ old.timer
  pub peer_window : new.peer_window ≡ old.peer_window
  pub partial_reliability : new.partial_reliability ≡ old.partial_reliability

-- These TSNs are those of items, and their chunks take up that many bytes.
pub data PacksItems (first header : ℕ) (items : List Item) : List ℕ → ℕ → Type 0 where
  none : PacksItems first header items [] 0
  more : (tsns : List ℕ) (used place : ℕ) (item : Item) (tsn size : ℕ) → PacksItems first header items tsns used → slice_get items place ≡ Some item → tsn ≡ (first + place) % 2 ^ 32 → size ≡ item_size header item → PacksItems first header items (tsns ++ tsn ∷ []) (used + size)

-- the same for what is outstanding
abbrev pub PacksOutstanding : OutstandingState → List ℕ → ℕ → Type 0
PacksOutstanding outstanding tsns used = PacksItems outstanding.first_tsn (header outstanding) outstanding.items tsns used

-- A packet that had that many bytes of room holds chunks of the queue.
pub record IsFilledPacket (bytes : ℕ) (queue : RetransmissionState) (packet : Packet) : Type 0 where
  pub used : ℕ
  pub packed : PacksOutstanding queue.outstanding packet.tsns.items used
  pub sum : used + packet.room ≡ bytes

-- what a packet was filled with stays, and more may come
abbrev pub ContinuesFilling : RetransmissionState → Packet → RetransmissionState → Packet → Type 0
ContinuesFilling old before new after = (bytes : ℕ) → IsFilledPacket bytes old before → IsFilledPacket bytes new after

-- Nothing is lost, and the packet continues to be filled.
pub record ContinuesPacket (old : RetransmissionState) (before : Packet) (new : RetransmissionState) (after : Packet) : Type 0 where
  pub keeps : KeepsAllFragments old new
  pub filling : ContinuesFilling old before new after

-- the TSNs of outstanding items, whose chunks fit into that many bytes
pub record HandsOut (bytes : ℕ) (outstanding : OutstandingState) (tsns : List ℕ) : Type 0 where
  pub used : ℕ
  pub fits : used ≤ bytes
  pub packed : PacksOutstanding outstanding tsns used

-- Nothing is lost, and the timer runs while something is outstanding.
pub record SendsItems (now : ℕ) (old new : RetransmissionState) : Type 0 where
  pub sent : RetransmissionState
  pub keeps : KeepsAllFragments old sent
  pub is : new ≡ record sent { timer = timer_with now sent.outstanding.items sent.timer }
