-- The round trip that a SACK measures (RFC 9260, section 6.3.1, rule C5): that of an item which was sent once.
use Rattle.std.specs.Prelude.{◌≡◌, ℕ, ◌-◌, ◌==◌, ◌&&◌, not, Option, None, Some, List, slice_get, if◌then◌else◌}
use Rattle.dcsctp_types.specs.wire.declared.chunk.sack.GapAckBlock.{GapAckBlock}
use Rattle.dcsctp_spec.specs.queues.Items.{Item}
use Rattle.dcsctp_types.specs.queues.Progress.{is_marked}
use Rattle.dcsctp_spec.specs.queues.Reports.{IsNewlyAcknowledged, IsLastPlace}

-- The round trip of an item that is acknowledged now: none if it was sent again, or was to be.
abbrev pub round_trip_of : ℕ → Item → Option ℕ
round_trip_of now item =
    if (item.progress.times_sent_again == 0) && not (is_marked item.progress.state) then Some (now - item.sent_at) else None

-- that of an item, if there is one
abbrev pub round_trip_of_any : ℕ → Option Item → Option ℕ
round_trip_of_any now None = None
round_trip_of_any now (Some item) = round_trip_of now item

-- that of the item at a place
abbrev pub round_trip_of_place : ℕ → List Item → Option ℕ → Option ℕ
round_trip_of_place now items None = None
round_trip_of_place now items (Some place) = round_trip_of_any now (slice_get items place)

-- A SACK measures the round trip of the newest item that it acknowledges and none before did.
pub record MeasuresRoundTrip (now count : ℕ) (blocks : List GapAckBlock) (items : List Item) (round_trip : Option ℕ) : Type 0 where
  pub newest : Option ℕ
  pub is_newest : IsLastPlace (IsNewlyAcknowledged count blocks) items newest
  pub is : round_trip ≡ round_trip_of_place now items newest
