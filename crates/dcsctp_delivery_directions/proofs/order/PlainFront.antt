-- Without interleaving nothing is left out of what is read of a stream that isn't reset, and none of
-- whose messages has limits.
use Rattle.std.proofs.Common.{◌≤◌, ◌≡◌, ℕ, Bool, true, false, ◌<◌, ◌-◌, ◌^◌, List, [], ◌∷◌, ◌++◌, length, arith, refl, subst}
use Rattle.dcsctp_spec_lemmas.specs.types.declared.options.Options.{Options}
use Rattle.dcsctp_spec_lemmas.specs.types.queues.Messages.{MessageContent}
use Rattle.dcsctp_spec_lemmas.specs.spec.queues.Incoming.{stream_on}
use Rattle.dcsctp_spec_lemmas.specs.spec.queues.Reassembly.{ReassemblyState}
use Rattle.dcsctp_spec_lemmas.specs.spec.queues.SendQueue.{SendQueueState}
use Rattle.dcsctp_spec_lemmas.specs.spec.queues.Tracker.{TrackerState}
use Rattle.dcsctp_delivery_directions.specs.sending.Log.{Message, History, IsLogOfPieces}
use Rattle.dcsctp_delivery_directions.specs.sending.Losing.{AreUnlimited, AreUnlimitedOn}
use Rattle.dcsctp_delivery_directions.specs.sending.Pieces.{HoldsQueued}
use Rattle.dcsctp_delivery_directions.specs.sending.Turns.{turn_of_tsn}
use Rattle.dcsctp_delivery_directions.specs.directions.Directions.{Direction, KeepsAll, DirectionRun, assigned_count}
use Rattle.dcsctp_delivery_directions.specs.order.Queue.{LeaveNoGap}
use Rattle.dcsctp_delivery_directions.specs.order.Delivered.{AreDeliveredWithoutGaps}
use Rattle.dcsctp_delivery_directions.specs.order.Gaps.{SendsInTurn}
use Rattle.dcsctp_delivery_directions.specs.order.Order.{IsSentAs}
use Rattle.dcsctp_delivery_directions.specs.order.Plain.{with_turns, CountsPlain, CountsThese, IncomingPlain}
use Rattle.dcsctp_delivery_directions.specs.order.Streams.{NoneLostOn, IsKeptReliable, AreDeliveredOnStreams}
use Rattle.dcsctp_delivery_directions.proofs.directions.Directions.{direction_queues}
use Rattle.dcsctp_delivery_directions.proofs.directions.Standing.{Stands}
use Rattle.dcsctp_delivery_directions.proofs.order.PlainSteps.{can_count}
use Rattle.dcsctp_delivery_directions.proofs.order.Delivered.{no_gap_front}
use Rattle.dcsctp_delivery_directions.proofs.order.Gaps.{apart_no_gap}
use Rattle.dcsctp_delivery_directions.proofs.order.PlainDirections.{Arrives, AreUnasked, run_plain, counts_these, arrived_in_order}
use Rattle.dcsctp_delivery_directions.proofs.order.PlainReceived.{ReassemblesPlain, none_handled, some_handled}
use Rattle.dcsctp_delivery_directions.proofs.order.PlainRows.{sent_as, sent_from, one_message, turns_follow}
use Rattle.dcsctp_delivery_directions.proofs.order.Sending.{sent_before}

module _ (queued : List Message) (history : History) (cut : IsLogOfPieces queued history.log) (id : ℕ) (counts : CountsPlain id history) where
  -- The messages of a stream are sent in turn where none is left out.
  plain_in_turn : (queue : SendQueueState) → HoldsQueued queued history.log queue.streams → NoneLostOn id queued history.log queue.streams → SendsInTurn queued (with_turns history) id
  plain_in_turn queue holds lost earlier later mid on sent less =
      let s = sent_from queued history cut id counts later mid sent in
      let before : earlier < s.piece.place = (let is = s.place_is in omega (arith, is, less)) in
      let was = sent_before queued history.log queue cut holds id earlier s.offset (lost earlier on.message on.at on.stream) s.piece on s.is.at s.is.stream before in (
        turn_of_tsn id was.offset history.log - 1,
        subst (λ (k : ℕ). IsSentAs (with_turns history) id k (turn_of_tsn id was.offset history.log - 1)) was.is
            (sent_as queued history cut id counts was.offset was.piece (record { at = was.at; stream = was.stream; ordered = was.ordered })),
        omega arith,
      )

  -- Then what was read has no gap.
  module _ (sends : SendsInTurn queued (with_turns history) id) (whole : Bool) (these : ℕ → Bool) (mine : these id ≡ true)
      (first : ℕ) (read : List MessageContent) (tracker : TrackerState) (reassembly : ReassemblyState) (a : Arrives whole these first history queued read tracker reassembly) where
    no_gap_of : (got : List ℕ) (base : ℕ) → IncomingPlain these queued history got base a.places reassembly.incoming → LeaveNoGap queued id a.places
    no_gap_of got base o =
        let s = o.order id mine in
        no_gap_front queued id a.places o.holds.places s.order.in_order
        (apart_no_gap queued (with_turns history) id (turns_follow queued history cut id counts) (one_message queued history cut id counts)
        (a.places ++ o.holds.places) (o.holds.waits id) (stream_on id reassembly.incoming.streams) sends s.order s.filled)

    by_handled : (got : List ℕ) → ReassemblesPlain these queued history first got a.places reassembly.incoming → LeaveNoGap queued id a.places
    by_handled got (none_handled none last empty) = no_gap_of [] 0 (empty 0)
    by_handled got (some_handled base at o) = no_gap_of got base o

    arrived_no_gap : LeaveNoGap queued id a.places
    arrived_no_gap = by_handled a.received.got a.received.holds

-- Where none of the messages may be abandoned, none on a stream may be.
pub unlimited_on : (id : ℕ) (queued : List Message) → AreUnlimited queued → AreUnlimitedOn id queued
unlimited_on id [] are = tt
unlimited_on id (message ∷ queued) are = (λ on. are.0, unlimited_on id queued are.1)

-- ---- streams that the sender keeps, and on which no message may be abandoned

-- What was read of these: the history, what the receiver has, and that none is left out.
pub record CameOn (these : ℕ → Bool) (first : ℕ) (direction : Direction) : Type 0 where
  pub stands : Stands first direction
  pub counts : CountsThese false these stands.history
  pub arrives : Arrives false these first stands.history direction.queued direction.read direction.tracker direction.reassembly
  pub kept : (id : ℕ) → these id ≡ true → NoneLostOn id direction.queued stands.history.log direction.queues.queue.streams
  pub no_gap : (id : ℕ) → these id ≡ true → LeaveNoGap direction.queued id arrives.places

pub came_on : (these : ℕ → Bool) (options : Options) (first size : ℕ) (direction : Direction) → DirectionRun options first size direction
    → first < 2 ^ 32 → assigned_count direction < 2 ^ 31 → length direction.queued < 2 ^ 64 → size ≤ 2 ^ 63 → direction.queues.queue.is_interleaved ≡ false → direction.beginning.from_zero ≡ true
    → ((id : ℕ) → these id ≡ true → IsKeptReliable direction id) → CameOn these first direction
came_on these options first size direction run small little few window kind from reliable =
    let g = run_plain false these options first size direction small few run kind in
    let s = g.stands in
    let count = s.count in
    let low : length s.history.log < 2 ^ 31 = omega (arith, count, little) in
    let unlimited : (id : ℕ) → these id ≡ true → AreUnlimitedOn id direction.queued = λ id mine. (reliable id mine).unlimited in
    let unasked : AreUnasked these direction = λ begun has id mine. g.unnamed id (reliable id mine).keeps begun has in
    let counts = counts_these first direction s kind (g.zero from) low false these unasked (λ some. unlimited) in
    let can = can_count size direction.queued window (direction_queues options first size direction run small few).1 in
    let a = g.arrives unasked counts can ((λ exact. absurd (cc)), (λ some. unlimited)) in
    let kept : (id : ℕ) → these id ≡ true → NoneLostOn id direction.queued s.history.log direction.queues.queue.streams = λ id mine. g.kept id (reliable id mine).keeps (unlimited id mine) in
    record {
      stands = s;
      counts = counts;
      arrives = a;
      kept = kept;
      no_gap = λ id mine.
          arrived_no_gap direction.queued s.history s.queues.cut id (counts.each id mine)
          (plain_in_turn direction.queued s.history s.queues.cut id (counts.each id mine) direction.queues.queue s.queues.queue_holds (kept id mine))
          false these mine first direction.read direction.tracker direction.reassembly a;
    }

-- So it is of what was read.
abbrev pub read_on : (these : ℕ → Bool) (first : ℕ) (direction : Direction) → CameOn these first direction → AreDeliveredOnStreams these direction.queued direction.read
read_on these first direction c =
    record {
      delivered = record { places = c.arrives.places; were_queued = c.arrives.were; once = c.arrives.once };
      in_order = arrived_in_order false these first c.stands.history direction.queued direction.read direction.tracker direction.reassembly c.arrives;
      no_gap = c.no_gap;
    }

pub plain_streams_deliver_without_gaps : (these : ℕ → Bool) (options : Options) (first size : ℕ) (direction : Direction) → DirectionRun options first size direction
    → first < 2 ^ 32 → assigned_count direction < 2 ^ 31 → length direction.queued < 2 ^ 64 → size ≤ 2 ^ 63 → direction.queues.queue.is_interleaved ≡ false → direction.beginning.from_zero ≡ true
    → ((id : ℕ) → these id ≡ true → IsKeptReliable direction id) → AreDeliveredOnStreams these direction.queued direction.read
plain_streams_deliver_without_gaps these options first size direction run small little few window kind from reliable =
    read_on these first direction (came_on these options first size direction run small little few window kind from reliable)

pub plain_directions_deliver_without_gaps : (options : Options) (first size : ℕ) (direction : Direction) → DirectionRun options first size direction
    → first < 2 ^ 32 → assigned_count direction < 2 ^ 31 → length direction.queued < 2 ^ 64 → size ≤ 2 ^ 63 → direction.queues.queue.is_interleaved ≡ false
    → direction.beginning.from_zero ≡ true → KeepsAll direction.beginning → AreUnlimited direction.queued → AreDeliveredWithoutGaps direction.queued direction.read
plain_directions_deliver_without_gaps options first size direction run small little few window kind from keeps are =
    let d = plain_streams_deliver_without_gaps (λ id. true) options first size direction run small little few window kind from (λ id mine. record { keeps = keeps id; unlimited = unlimited_on id direction.queued are }) in
    record { ordered = record { delivered = d.delivered; in_order = λ id. d.in_order id refl }; no_gap = λ id. d.no_gap id refl }
