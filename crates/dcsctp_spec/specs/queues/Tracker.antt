-- Which TSNs were received, and when that is acknowledged (RFC 9260, sections 6.2 and 6.7; RFC 3758, section 3.6). Moments and
-- durations are nanoseconds. TSNs are numbered without wrap: the number of a TSN modulo 2^32 is the TSN.
use Rattle.std.specs.Prelude.{ℕ, ◌+◌, ◌-◌, ◌/◌, ◌%◌, ◌^◌, ◌==◌, min, nat_le, nat_lt, Bool, true, false, not, ◌&&◌, ◌||◌, if◌then◌else◌, Option, None, Some, List, [], ◌∷◌, ◌++◌, length, take}
use Rattle.std.specs.List.{flat_map}
use Rattle.std.specs.Int.{w16, w32, to_be_bytes}
use Rattle.std.specs.Duration.{as_nanos}
use Rattle.dcsctp_types.specs.wire.Content.{SackContent}
use Rattle.dcsctp_types.specs.declared.options.Options.{Options}
use Rattle.dcsctp_types.specs.declared.kinds.BackoffAlgorithm.TheVariants.{Fixed}
use Rattle.dcsctp_types.specs.declared.tracking.TsnRange.{TsnRange}
use Rattle.dcsctp_types.specs.declared.tracking.AckState.{AckState}
use Rattle.dcsctp_types.specs.declared.tracking.AckState.TheVariants.{Idle, BecomingDelayed, Delayed, Immediate}
use Rattle.dcsctp_spec.specs.queues.Ranges.{is_received, ranges_with_number, forwarded_ranges}
use Rattle.dcsctp_spec.specs.endpoint.Timers.{TimerModel, started_timer, running_deadline, is_expired_timer}

-- ---- the whole value

pub record TrackerState : Type 0 where
  -- the number of the last TSN before the first that is missing
  pub cumulative : ℕ
  -- the numbers that were received beyond it
  pub ranges : List TsnRange
  -- the TSNs that came again since the last SACK, at most `most_duplicates`
  pub duplicates : List ℕ
  pub has_seen_data : Bool
  pub acknowledgement : AckState
  -- runs while an acknowledgement is delayed
  pub delay : TimerModel
  pub longest_delay : ℕ
  -- Is the RFC followed where the port doesn't (`Options::follow_rfc`)?
  pub follows_rfc : Bool

-- the highest number that was received
abbrev pub highest : ℕ → List TsnRange → ℕ
highest cumulative [] = cumulative
highest cumulative (range ∷ ranges) = highest range.last ranges

-- Was the TSN of this number received?
abbrev pub has_received : TrackerState → ℕ → Bool
has_received tracker number = is_received tracker.cumulative number tracker.ranges

-- ---- numbers of TSNs

-- how far ahead of the cumulative number a TSN is, modulo 2^32
abbrev pub tsn_distance : ℕ → ℕ → ℕ
tsn_distance cumulative tsn = (tsn + (2 ^ 32 - cumulative % 2 ^ 32)) % 2 ^ 32

-- The number of a TSN by serial number arithmetic (RFC 9260, section 1.6): the nearest to the cumulative one. One half of the
-- TSNs is after it, the other before.
abbrev pub nearest_number : ℕ → ℕ → ℕ
nearest_number cumulative tsn =
    if nat_lt (tsn_distance cumulative tsn) (2 ^ 31) then cumulative + tsn_distance cumulative tsn else cumulative - (2 ^ 32 - tsn_distance cumulative tsn)

-- Are there numbers left? No association uses that many TSNs.
abbrev pub has_numbers_left : ℕ → Bool
has_numbers_left cumulative = nat_lt cumulative (2 ^ 64 - 2 ^ 32)

-- How far beyond the cumulative TSN one is accepted: a gap ack block can't name a TSN that is farther (RFC 9260, section 3.3.4).
abbrev pub greatest_distance : ℕ
greatest_distance = 65535

-- Is the TSN at most that far ahead?
abbrev pub is_valid_tsn : ℕ → ℕ → Bool
is_valid_tsn cumulative tsn = has_numbers_left cumulative && nat_le (nearest_number cumulative tsn) (cumulative + greatest_distance)

-- ---- when it is acknowledged

-- the shorter of half the retransmission timeout and the longest delay
abbrev pub acknowledgement_delay : ℕ → ℕ → ℕ
acknowledgement_delay rto longest = min (rto / 2) longest

-- what an arrival leads to: is it urgent, and what waits already?
abbrev pub after_arrival : AckState → Bool → AckState
after_arrival Idle true = Immediate
after_arrival BecomingDelayed true = Immediate
after_arrival Delayed true = Immediate
after_arrival Immediate true = Immediate
after_arrival Idle false = BecomingDelayed
after_arrival BecomingDelayed false = BecomingDelayed
after_arrival Delayed false = Immediate
after_arrival Immediate false = Immediate

-- Is a SACK due, or may it go along with other chunks?
abbrev pub is_sack_due : AckState → Bool → Bool
is_sack_due Idle along = false
is_sack_due BecomingDelayed along = along
is_sack_due Delayed along = along
is_sack_due Immediate along = true

-- what a socket's user and the rest of a socket see of it
abbrev pub cumulative_tsn : TrackerState → ℕ
cumulative_tsn tracker = tracker.cumulative % 2 ^ 32

-- when a delayed acknowledgement is due, if one is
abbrev pub delayed_acknowledgement : TrackerState → Option ℕ
delayed_acknowledgement tracker = running_deadline tracker.delay.running

-- Is a SACK due at once?
abbrev pub is_acknowledgement_due : TrackerState → Bool
is_acknowledgement_due tracker = is_sack_due tracker.acknowledgement false

-- Was data received that isn't acknowledged yet? Then a SACK may go along with other chunks (RFC 9260, section 6.1).
abbrev pub owes_acknowledgement : TrackerState → Bool
owes_acknowledgement tracker = is_sack_due tracker.acknowledgement true

abbrev pub stopped_timer : TimerModel → TimerModel
stopped_timer timer = record timer { running = None }

abbrev pub has_ranges : List TsnRange → Bool
has_ranges [] = false
has_ranges (range ∷ ranges) = true

-- ---- calls

-- nothing was received yet
abbrev pub new_tracker : Options → ℕ → TrackerState
new_tracker options peer_first_tsn =
    record {
      cumulative = (peer_first_tsn + (2 ^ 32 - 1)) % 2 ^ 32;
      ranges = [];
      duplicates = [];
      has_seen_data = false;
      acknowledgement = Idle;
      delay = record {
        running = None;
        settings = record {
          duration = acknowledgement_delay (as_nanos options.rto_initial) (as_nanos options.delayed_ack_max_timeout);
          terms = record { backoff = Fixed; max_restarts = Some 0; max_backoff = None };
        };
      };
      longest_delay = as_nanos options.delayed_ack_max_timeout;
      follows_rfc = options.follow_rfc;
    }

-- the most duplicate TSNs that a SACK lists
abbrev pub most_duplicates : ℕ
most_duplicates = 20

-- a SACK without gap ack blocks and duplicates (RFC 9260, section 3.3.4)
abbrev pub sack_header_size : ℕ
sack_header_size = 16

-- what a SACK leaves free for a FORWARD-TSN behind it
abbrev pub forward_tsn_room : ℕ
forward_tsn_room = 20

-- how many gap ack blocks and duplicates, four bytes each, fit into a SACK of that many bytes
abbrev pub blocks_that_fit : ℕ → ℕ
blocks_that_fit room = (min room 65535 - (sack_header_size + forward_tsn_room)) / 4

-- the most gap ack blocks that a SACK lists: by the RFC as many as fit (RFC 9260, section 6.2)
abbrev pub most_blocks : Bool → ℕ → ℕ
most_blocks false room = 20
most_blocks true room = blocks_that_fit room

-- the duplicates with a TSN that isn't new, if there is room
abbrev pub with_duplicate : ℕ → Bool → List ℕ → List ℕ
with_duplicate tsn true duplicates = duplicates
with_duplicate tsn false duplicates = if nat_lt (length duplicates) most_duplicates then duplicates ++ tsn ∷ [] else duplicates

-- is the TSN new?
abbrev pub is_new_tsn : ℕ → TrackerState → Bool
is_new_tsn tsn tracker = not (has_received tracker (nearest_number tracker.cumulative tsn))

-- Does data that comes while these ranges are there come into a gap? By the RFC that counts (RFC 5681, section 4.2).
abbrev pub comes_into_gap : Bool → List TsnRange → Bool
comes_into_gap follows_rfc ranges = follows_rfc && has_ranges ranges

-- Is data to be acknowledged at once? Yes if it is the association's first, has the I flag, came before, or leaves a gap; also if
-- it closes one, by the RFC.
abbrev pub is_urgent : Bool → Bool → TrackerState → List TsnRange → Bool
is_urgent is_new immediate tracker ranges =
    not is_new || immediate || not tracker.has_seen_data || has_ranges ranges || comes_into_gap tracker.follows_rfc tracker.ranges

-- data with this TSN and I flag was received
abbrev pub tracker_after_data : ℕ → Bool → TrackerState → TrackerState
tracker_after_data tsn immediate tracker =
    let left = ranges_with_number (nearest_number tracker.cumulative tsn) tracker.cumulative tracker.ranges in
    let is_new = is_new_tsn tsn tracker in
    record tracker {
      cumulative = left.cumulative;
      ranges = left.ranges;
      duplicates = with_duplicate tsn is_new tracker.duplicates;
      has_seen_data = true;
      acknowledgement = after_arrival tracker.acknowledgement (is_urgent is_new immediate tracker left.ranges);
      delay = stopped_timer tracker.delay;
    }

-- Was a later TSN received than this one?
abbrev pub is_below_highest : ℕ → TrackerState → Bool
is_below_highest tsn tracker = nat_lt (nearest_number tracker.cumulative tsn) (highest tracker.cumulative tracker.ranges)

-- Is it the first TSN that is missing?
abbrev pub is_first_missing : ℕ → TrackerState → Bool
is_first_missing tsn tracker = nearest_number tracker.cumulative tsn == tracker.cumulative + 1

-- Does a FORWARD TSN with this TSN move the cumulative one?
abbrev pub is_forward : ℕ → ℕ → Bool
is_forward cumulative tsn = has_numbers_left cumulative && nat_lt cumulative (nearest_number cumulative tsn)

-- All up to this TSN count as received.
abbrev pub moved_forward : ℕ → TrackerState → TrackerState
moved_forward tsn tracker =
    let left = forwarded_ranges (nearest_number tracker.cumulative tsn) tracker.cumulative tracker.ranges in
    record tracker {
      cumulative = left.cumulative;
      ranges = left.ranges;
      acknowledgement = after_arrival tracker.acknowledgement false;
      delay = stopped_timer tracker.delay;
    }

-- An acknowledgement is due: its delay is over, and doesn't start again by itself.
abbrev pub delay_over : TrackerState → TrackerState
delay_over tracker = record tracker { acknowledgement = Immediate; delay = stopped_timer tracker.delay }

-- An acknowledgement is due at this moment: it is delayed until then.
abbrev pub hastened_tracker : ℕ → TrackerState → TrackerState
hastened_tracker moment tracker =
    record tracker {
      acknowledgement = Delayed;
      delay = record tracker.delay { running = started_timer moment (record tracker.delay.settings { duration = 0 }) };
    }

-- A FORWARD TSN was received. If it doesn't move the cumulative TSN, an acknowledgement is due at once.
abbrev pub after_forward : ℕ → TrackerState → TrackerState
after_forward tsn tracker = if is_forward tracker.cumulative tsn then moved_forward tsn tracker else delay_over tracker

-- a packet was fully handled
abbrev pub delayed_from : ℕ → TrackerState → AckState → TrackerState
delayed_from moment tracker Idle = tracker
delayed_from moment tracker BecomingDelayed =
    record tracker { acknowledgement = Delayed; delay = record tracker.delay { running = started_timer moment tracker.delay.settings } }
delayed_from moment tracker Delayed = tracker
delayed_from moment tracker Immediate = tracker

abbrev pub after_packet_end : ℕ → TrackerState → TrackerState
after_packet_end moment tracker = delayed_from moment tracker tracker.acknowledgement

-- All that was received is acknowledged.
abbrev pub all_acknowledged : TrackerState → TrackerState
all_acknowledged tracker = record tracker { acknowledgement = Idle; delay = stopped_timer tracker.delay }

-- asked for an acknowledgement, which may go along with other chunks
abbrev pub acknowledgement_asked : Bool → TrackerState → TrackerState
acknowledgement_asked along tracker = if is_sack_due tracker.acknowledgement along then all_acknowledged tracker else tracker

-- a moment has come
abbrev pub after_moment : ℕ → TrackerState → TrackerState
after_moment moment tracker = if is_expired_timer moment tracker.delay.running then delay_over tracker else tracker

-- the tracker with the delay that goes with this retransmission timeout, from its next start on
abbrev pub with_timeout : ℕ → TrackerState → TrackerState
with_timeout rto tracker =
    record tracker { delay = record tracker.delay { settings = record tracker.delay.settings { duration = acknowledgement_delay rto tracker.longest_delay } } }

-- ---- the SACK

-- a gap ack block: how far beyond the cumulative number a range begins and ends (RFC 9260, section 3.3.4)
abbrev pub block_bytes : ℕ → TsnRange → List ℕ
block_bytes cumulative range = to_be_bytes w16 (range.first - cumulative) ++ to_be_bytes w16 (range.last - cumulative)

-- How many TSNs that came again it lists: by the RFC those that fit after the blocks.
abbrev pub duplicates_left : TrackerState → ℕ → ℕ
duplicates_left tracker room =
    if tracker.follows_rfc then min most_duplicates (blocks_that_fit room - length tracker.ranges) else most_duplicates

-- What a SACK of at most that many bytes says: the first gap ack blocks, up to the most that it lists, and the TSNs that came again.
-- A law in dcsctp_spec_laws says which TSNs the blocks cover (`sacks_cover_received`).
abbrev pub sack_of : ℕ → TrackerState → ℕ → SackContent
sack_of room tracker window =
    record {
      cumulative_tsn_ack = cumulative_tsn tracker;
      a_rwnd = window % 2 ^ 32;
      gap_ack_blocks = flat_map (block_bytes tracker.cumulative) (take (most_blocks tracker.follows_rfc room) tracker.ranges);
      duplicate_tsns = flat_map (to_be_bytes w32) (take (duplicates_left tracker room) tracker.duplicates);
    }

-- A SACK was made: all is acknowledged, and what came again is forgotten.
abbrev pub tracker_after_sack : TrackerState → TrackerState
tracker_after_sack tracker = record (all_acknowledged tracker) { duplicates = [] }
