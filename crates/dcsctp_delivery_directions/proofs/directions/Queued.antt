-- The steps of a sender's queue: messages, settings, and resets that end.
use Rattle.dcsctp_delivery_directions.specs.directions.Directions.{is_in_turn}
use Rattle.dcsctp_delivery_directions.proofs.directions.InTurn.{turns_of}
use Rattle.std.proofs.lemmas.Bool.Decides.{leb_tells}
use Rattle.std.proofs.Common.{◌≡◌, ℕ, zero, suc, Bool, true, false, ◌<◌, ◌≤◌, ◌+◌, ◌^◌, List, [], ◌∷◌, length, take, refl, sym, ◌∙◌, arith, subst, inl, inr}
use Rattle.std.specs.Prelude.{◌⊎◌}
use Rattle.std.specs.List.{AllByRecursion}
use Rattle.dcsctp_spec.specs.queues.OwnResets.{prepared_all, queue_committed, queue_rolled_back}
use Rattle.dcsctp_spec.specs.queues.SendQueue.{SendQueueState}
use Rattle.dcsctp_spec.specs.endpoint.MessageOutcomes.{Sending, sending_queued}
use Rattle.dcsctp_spec.specs.types.Setting.{Setting}
use Rattle.dcsctp_spec.specs.endpoint.SettingOutcomes.{set_in_queue}
use Rattle.dcsctp_delivery_directions.specs.sending.Places.{HasEntry}
use Rattle.dcsctp_delivery_directions.specs.sending.Log.{Fits, Mark, Resets}
use Rattle.dcsctp_delivery_directions.specs.sending.Numbers.{CountsSsns, CountsByKind, IsOfKind, is_handed_out, stream_named}
use Rattle.dcsctp_delivery_directions.specs.sending.Turns.{begun_on}
use Rattle.dcsctp_delivery_directions.specs.sending.Queueing.{QueueHolds, SettingFits, message_of, floors_raised}
use Rattle.dcsctp_delivery_directions.specs.receiving.Clear.{IsClear, IsOver, Unsent}
use Rattle.dcsctp_delivery_directions.specs.directions.Directions.{Direction, all_ended}
use Rattle.dcsctp_delivery_directions.proofs.sending.Queueing.{queueing_hold}
use Rattle.dcsctp_delivery_directions.proofs.sending.Settings.{setting_kind, setting_hold, committing_hold, rolling_back_hold, ssns_committed}
use Rattle.dcsctp_delivery_directions.proofs.sending.Turns.{none_begun}
use Rattle.dcsctp_delivery_directions.proofs.sending.Prepared.{preparing_kind, preparing_hold}
use Rattle.dcsctp_delivery_directions.proofs.sending.Handed.{queueing_handed, setting_handed, preparing_handed, committed_handed, rolled_back_handed}
use Rattle.dcsctp_delivery_directions.proofs.receiving.Growing.{received_more, were_more}
use Rattle.dcsctp_delivery_directions.proofs.receiving.Raising.{raising_keeps}
use Rattle.dcsctp_delivery_directions.proofs.sending.Extended.{packets_later}
use Rattle.dcsctp_delivery_directions.proofs.sending.Raised.{extends_floors, flight_floors, pends_floors, marks_floors}
use Rattle.dcsctp_delivery_directions.proofs.directions.UnderWays.{KeepWays, queueing_ways, setting_ways, preparing_ways, committed_ways, rolled_back_ways, marks_kept}
use Rattle.dcsctp_delivery_directions.proofs.directions.Cleared.{too_great, Fewer, cleared_fewer, quiet_fewer}
use Rattle.dcsctp_delivery_directions.proofs.directions.Standing.{AreQuiet, IsCleared, Stands, cut_queued}

-- ---- the only reset that has no end

none_out : (out : ℕ) (marks : List Mark) (mark : Mark) → out ≡ 0 → HasEntry mark (take out marks) → ⊥
none_out zero marks mark none has = has
none_out (suc out) marks mark none has = absurd (omega (arith, none))

pub newest_out : (out : ℕ) (marks earlier : List Mark) (mark newest : Mark) → out ≤ 1 → marks ≡ newest ∷ earlier → HasEntry mark (take out marks) → mark ≡ newest
newest_out zero marks earlier mark newest one is has = absurd has
newest_out (suc out) [] earlier mark newest one is has = absurd (cc)
newest_out (suc out) (other ∷ marks) earlier mark newest one is has =
    elim has [
      | inl e ↦ (let same : other ≡ newest = cc in e ∙ same)
      | inr more ↦ absurd (none_out out marks mark (omega (arith, one)) more)
    ]

module _ (first : ℕ) (old : Direction) (s : Stands first old) where
  pub now_queues : QueueHolds old.queued s.history old.queues.queue
  now_queues = record { queue_holds = s.queues.queue_holds; next = s.next; numbers = s.queues.numbers }

  -- the queue is another one
  module _ (queue : SendQueueState) (kind : queue.is_interleaved ≡ old.queues.queue.is_interleaved) (ways : KeepWays old.queues.queue.streams queue.streams) (fewer : Fewer queue.streams old.queues.queue.streams) where
    unfoldable pub stepped_queue : (out : ℕ) → AreQuiet s.history out queue.streams → QueueHolds old.queued s.history queue
        → Stands first (record old { queues = record old.queues { queue = queue }; asking = record old.asking { out = out } })
    stepped_queue out quiet q =
        record {
          history = s.history;
          fit = s.fit;
          next = q.next;
          queues = record {
            queue_holds = q.queue_holds;
            cut = s.queues.cut;
            flight = s.queues.flight;
            pends = s.queues.pends;
            marks = marks_kept s.history first old.queues.queue.streams queue.streams ways s.queues.marks;
            numbers = q.numbers;
            kind = subst (λ (b : Bool). IsOfKind b old.queues.transfer) (sym kind) s.queues.kind;
          };
          packets = s.packets;
          count = s.count;
          asked = s.asked;
          quiet = quiet;
          arrived = λ little. (let a = s.arrived little in
              record {
                places = a.places;
                were = a.were;
                once = a.once;
                received = a.received;
                cleared = λ is performed. cleared_fewer s.history first old.tracker.cumulative old.queues.queue.streams queue.streams old.reassembly fewer (a.cleared (sym kind ∙ is) performed);
              });
        }

    pub stays_quiet : AreQuiet s.history old.asking.out queue.streams
    stays_quiet = quiet_fewer s.history old.asking.out old.queues.queue.streams queue.streams fewer s.quiet

  unfoldable pub stepped_queues : (now : ℕ) (sending : Sending) → Fits (message_of sending) → 0 < length sending.message.payload → length old.queued + 1 < 2 ^ 64
      → Stands first (record old { queued = message_of sending ∷ old.queued; queues = record old.queues { queue = sending_queued now sending old.queues.queue } })
  stepped_queues now sending fits some few =
      let q = queueing_hold old.queued s.history now sending old.queues.queue fits.stream few some s.queues.cut now_queues in
      let fewer : Fewer (sending_queued now sending old.queues.queue).streams old.queues.queue.streams = queueing_handed now sending old.queues.queue in
      record {
        history = s.history;
        fit = (fits, s.fit);
        next = q.next;
        queues = record {
          queue_holds = q.queue_holds;
          cut = cut_queued old.queued (message_of sending) s.history s.queues.cut;
          flight = s.queues.flight;
          pends = s.queues.pends;
          marks = marks_kept s.history first old.queues.queue.streams (sending_queued now sending old.queues.queue).streams (queueing_ways now sending old.queues.queue) s.queues.marks;
          numbers = q.numbers;
          kind = s.queues.kind;
        };
        packets = s.packets;
        count = s.count;
        asked = s.asked;
        quiet = quiet_fewer s.history old.asking.out old.queues.queue.streams (sending_queued now sending old.queues.queue).streams fewer s.quiet;
        arrived = λ little. (let a = s.arrived little in
            record {
              places = a.places;
              were = were_more old.queued (message_of sending ∷ []) a.places old.read a.were;
              once = a.once;
              received = received_more old.queued (message_of sending ∷ []) s.history [] first a.places old.tracker old.reassembly (λ n f at is. absurd (cc)) a.received;
              cleared = λ is performed. cleared_fewer s.history first old.tracker.cumulative old.queues.queue.streams (sending_queued now sending old.queues.queue).streams old.reassembly fewer (a.cleared is performed);
            });
      }

  unfoldable pub stepped_sets : (setting : Setting) → SettingFits setting → Stands first (record old { queues = record old.queues { queue = set_in_queue setting old.queues.queue } })
  stepped_sets setting fits =
      let queue : SendQueueState = set_in_queue setting old.queues.queue in
      let kind = setting_kind setting old.queues.queue in
      let ways = setting_ways setting old.queues.queue in
      let fewer : Fewer queue.streams old.queues.queue.streams = setting_handed setting old.queues.queue in
      stepped_queue queue kind ways fewer old.asking.out (stays_quiet queue kind ways fewer) (setting_hold old.queued s.history setting old.queues.queue fits now_queues)

  unfoldable pub stepped_prepares : (ids : List ℕ) → AllByRecursion (λ id. id < 2 ^ 16) ids
      → Stands first (record old { queues = record old.queues { queue = prepared_all ids old.queues.queue }; prepared = record { ids = ids; count = length old.queued } ∷ old.prepared })
  stepped_prepares ids fit =
      let queue : SendQueueState = prepared_all ids old.queues.queue in
      let kind = preparing_kind ids old.queues.queue in
      let ways = preparing_ways ids old.queues.queue in
      let fewer : Fewer queue.streams old.queues.queue.streams = preparing_handed ids old.queues.queue in
      let t = stepped_queue queue kind ways fewer old.asking.out (stays_quiet queue kind ways fewer) (preparing_hold old.queued s.history ids old.queues.queue fit now_queues) in
      record {
        history = t.history;
        fit = t.fit;
        next = t.next;
        queues = t.queues;
        packets = t.packets;
        count = t.count;
        asked = t.asked;
        quiet = t.quiet;
        arrived = λ little. (let a = t.arrived little in record { places = a.places; were = a.were; once = a.once; received = a.received; cleared = a.cleared });
      }

  -- ---- a reset that ends

  unfoldable pub stepped_rolls_back : Stands first (record old { queues = record old.queues { queue = queue_rolled_back old.queues.queue }; asking = all_ended old.asking })
  stepped_rolls_back =
      stepped_queue (queue_rolled_back old.queues.queue) refl (rolled_back_ways old.queues.queue) (λ id handed. absurd (rolled_back_handed old.queues.queue id handed)) 0 (λ id handed. absurd (rolled_back_handed old.queues.queue id handed))
      (rolling_back_hold old.queued s.history old.queues.queue now_queues)

  -- a stream that is handed out was never used in the association, if no reset of it was begun in that
  unused_so : (id : ℕ) → ((mark : Mark) → HasEntry mark s.history.marks → Resets mark id → ⊥) → is_handed_out (stream_named id old.queues.queue.streams).pause ≡ true → begun_on id s.history.log ≡ 0
  unused_so id none handed =
      elim (s.quiet id handed) [
        | inl unsent ↦ none_begun id s.history.log unsent
        | inr behind ↦ absurd (none behind.mark (among behind.mark old.asking.out s.history.marks behind.has) behind.names)
      ]
    where
      among : (mark : Mark) (out : ℕ) (marks : List Mark) → HasEntry mark (take out marks) → HasEntry mark marks
      among mark zero marks has = absurd has
      among mark (suc out) [] has = absurd has
      among mark (suc out) (m ∷ marks) has = elim has [ inl e ↦ inl e | inr rest ↦ inr (among mark out marks rest) ]

  -- SSNs are counted on
  pub ssns_ended : CountsSsns s.history old.queues.queue.streams old.queues.queue.held → CountsSsns s.history (queue_committed old.queues.queue).streams old.queues.queue.held
  ssns_ended c =
      record {
        turns = λ id start. ssns_committed id s.history.log old.queues.queue.streams (unused_so id start.none) (c.turns id start);
        closes = c.closes;
        rests = c.rests;
      }

  unfoldable pub commits_plain : old.queues.queue.is_interleaved ≡ false → Stands first (record old { queues = record old.queues { queue = queue_committed old.queues.queue }; asking = all_ended old.asking })
  commits_plain is =
      let q = committing_hold old.queued s.history old.queues.queue now_queues in
      let counts : CountsByKind old.queues.queue.is_interleaved s.history (queue_committed old.queues.queue).streams old.queues.queue.held =
      subst (λ (b : Bool). CountsByKind b s.history (queue_committed old.queues.queue).streams old.queues.queue.held) (sym is)
      (ssns_ended (subst (λ (b : Bool). CountsByKind b s.history old.queues.queue.streams old.queues.queue.held) is s.queues.numbers.counts)) in
      stepped_queue (queue_committed old.queues.queue) refl (committed_ways old.queues.queue) (λ id handed. absurd (committed_handed old.queues.queue id handed)) 0 (λ id handed. absurd (committed_handed old.queues.queue id handed))
      (record { queue_holds = q.queue_holds; next = q.next; numbers = record { kinds = q.numbers.kinds; counts = counts; kept = q.numbers.kept; whole = q.numbers.whole; rests = q.numbers.rests } })

  -- the receiver has performed the reset
  pub is_over : old.asking.out ≤ 1 → IsCleared s.history first old.tracker.cumulative old.queues.queue.streams old.reassembly → (id : ℕ) → is_handed_out (stream_named id old.queues.queue.streams).pause ≡ true
      → Unsent s.history.log id ⊎ (IsOver s.history first old.tracker.cumulative id × IsClear id old.reassembly)
  is_over one c id handed =
      elim (s.quiet id handed) [
        | inl none ↦ inl none
        | inr b ↦ elim (leb_tells (2 ^ 16) id) [
          | inl e ↦ inl (too_great old.queued s.history.log id s.fit s.queues.cut e.1)
          | inr e ↦
              (let small : id < 2 ^ 16 = e.1 in
              let same : b.mark ≡ c.mark = newest_out old.asking.out s.history.marks c.earlier b.mark c.mark one c.is b.has in
              let names : Resets c.mark id = subst (λ (m : Mark). Resets m id) same b.names in
              let below : ((n : ℕ) (f : _) → _) = λ n f at on. subst (λ (m : Mark). n < m.bound) same (b.below n f at on) in
              inr (record { mark = c.mark; has = subst (λ (l : List Mark). HasEntry c.mark l) (sym c.is) (inl refl); names = names; below = below; passed = c.passed }, c.clear id small handed names below))
        ]
      ]

  unfoldable pub commits_interleaved : old.queues.queue.is_interleaved ≡ true → old.asking.out ≤ 1 → old.asking.is_performed ≡ true
      → Stands first (record old { queues = record old.queues { queue = queue_committed old.queues.queue }; asking = all_ended old.asking })
  commits_interleaved is one performed =
      let q = committing_hold old.queued s.history old.queues.queue now_queues in
      let floors : ℕ → Bool → ℕ = (floors_raised old.queues.queue.streams s.history).floors in
      record {
        history = floors_raised old.queues.queue.streams s.history;
        fit = s.fit;
        next = q.next;
        queues = record {
          queue_holds = q.queue_holds;
          cut = s.queues.cut;
          flight = flight_floors floors s.history first old.acknowledged old.queues.transfer s.queues.flight;
          pends = pends_floors floors s.history old.queues.transfer s.queues.pends;
          marks = marks_kept (floors_raised old.queues.queue.streams s.history) first old.queues.queue.streams (queue_committed old.queues.queue).streams (committed_ways old.queues.queue) (marks_floors floors s.history first old.queues.queue.streams s.queues.marks);
          numbers = q.numbers;
          kind = s.queues.kind;
        };
        packets = packets_later s.history (floors_raised old.queues.queue.streams s.history) (extends_floors floors s.history) first old.acknowledged old.acknowledged (omega arith) old.sent s.packets;
        count = s.count;
        asked = s.asked;
        quiet = λ id handed. absurd (committed_handed old.queues.queue id handed);
        arrived = λ little. (
            let a = s.arrived little in
            let c = a.cleared is performed in
            record {
              places = a.places;
              were = a.were;
              once = a.once;
              received = raising_keeps old.queued s.history old.queues.queue.streams first a.places old.tracker old.reassembly (is_over one c) a.received;
              cleared = λ is' performed'. record { mark = c.mark; earlier = c.earlier; is = c.is; passed = c.passed; clear = λ id small handed names below. absurd (committed_handed old.queues.queue id handed) };
            }
            );
      }

  unfoldable pub commits_by : (b : Bool) → old.queues.queue.is_interleaved ≡ b → (is_in_turn old ≡ true → (old.asking.out ≤ 1) × (old.asking.is_performed ≡ true))
      → Stands first (record old { queues = record old.queues { queue = queue_committed old.queues.queue }; asking = all_ended old.asking })
  commits_by true is go_on = commits_interleaved is (go_on (turns_of old is)).0 (go_on (turns_of old is)).1
  commits_by false is go_on = commits_plain is

  unfoldable pub stepped_commits : (is_in_turn old ≡ true → (old.asking.out ≤ 1) × (old.asking.is_performed ≡ true))
      → Stands first (record old { queues = record old.queues { queue = queue_committed old.queues.queue }; asking = all_ended old.asking })
  stepped_commits go_on = commits_by old.queues.queue.is_interleaved refl go_on
