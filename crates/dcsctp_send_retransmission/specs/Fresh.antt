-- Chunks that are sent for the first time: their TSNs follow each other (RFC 9260, section 6.1).
use Rattle.std.specs.Prelude.{◌≡◌, ℕ, zero, suc, ◌+◌, ◌%◌, ◌^◌, ◌≤◌, List, [], ◌∷◌, ◌++◌, length}
use Rattle.dcsctp_api.specs.spec.queues.Items.{Item, marked_items}
use Rattle.dcsctp_api.specs.spec.queues.Outstanding.{OutstandingState}
use Rattle.dcsctp_api.specs.spec.queues.Filling.{IsSentFirstNow}

-- the TSNs of that many places from this one on
abbrev pub tsns_from : ℕ → ℕ → ℕ → List ℕ
tsns_from first place zero = []
tsns_from first place (suc count) = ((first + place) % 2 ^ 32) ∷ tsns_from first (suc place) count

-- each of them does
abbrev pub AllFresh : ℕ → List Item → Type 0
AllFresh now [] = Unit {0}
AllFresh now (item ∷ items) = IsSentFirstNow now item × AllFresh now items

-- Such items come after the others, and their TSNs after those in a packet.
pub record SendsFresh (now : ℕ) (old new : OutstandingState) (before after : List ℕ) : Type 0 where
  pub fresh : List Item
  pub each : AllFresh now fresh
  pub grows : new ≡ record old { items = old.items ++ fresh }
  pub tsns : after ≡ before ++ tsns_from old.first_tsn (length old.items) (length fresh)

-- The last TSNs of a packet are those of new items, without a gap up to the last one. Before them are at most as many as waited
-- to be sent again.
pub record EndsFresh (now : ℕ) (old new : OutstandingState) (tsns : List ℕ) : Type 0 where
  pub kept : OutstandingState
  pub again : List ℕ
  pub few : length again + marked_items new.items ≤ marked_items old.items
  pub sends : SendsFresh now kept new again tsns
