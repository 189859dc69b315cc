-- What is queued and in flight stays as it was when a begun reset continues under another number.
use Rattle.std.proofs.Common.{◌≡◌, ℕ, Bool, true, false, ◌<◌, ◌+◌, length, slice_get, sym, subst, inl, inr}
use Rattle.std.specs.Prelude.{Option, None, Some, List}
use Rattle.dcsctp_spec.specs.types.declared.ids.StreamId.{StreamId}
use Rattle.dcsctp_spec.specs.types.declared.sending.UnderWay.{UnderWay}
use Rattle.dcsctp_spec.specs.types.queues.SendStreams.{Stream}
use Rattle.dcsctp_spec.specs.queues.Items.{Item}
use Rattle.dcsctp_spec.specs.queues.Outstanding.{OutstandingState}
use Rattle.dcsctp_spec.specs.queues.SendQueue.{SendQueueState}
use Rattle.dcsctp_spec.specs.queues.Sending.{Fragment}
use Rattle.dcsctp_spec.specs.queues.Transfer.{Transfer, EndpointQueues}
use Rattle.dcsctp_delivery_directions.specs.sending.Places.{HasEntry}
use Rattle.dcsctp_delivery_directions.specs.sending.Log.{Message, Mark, mark_renewed, History, with_renewed, Resets}
use Rattle.dcsctp_delivery_directions.specs.sending.Numbers.{stream_named, LastIs, CountsByKind, NumbersMessages}
use Rattle.dcsctp_delivery_directions.specs.sending.Flushes.{InFlight, PendsIfConnected, QueuesFollowLog}
use Rattle.dcsctp_delivery_directions.specs.sending.Stages.{IsNamedFragment, Bears, IsMark, AreMarks}

module _ (history : History) (number : ℕ) (renewed : Mark) (known : HasEntry renewed history.marks) where
  abbrev now : History
  now = with_renewed number renewed history

  -- What holds of each mark holds of each with that one, if it doesn't depend on the number of the request.
  of_each : (P : Mark → Type 0) → (P renewed → P (mark_renewed number renewed)) → ((mark : Mark) → HasEntry mark history.marks → P mark) → (mark : Mark) → HasEntry mark now.marks → P mark
  of_each P same holds mark has = elim has [ inl e ↦ subst P (sym e) (same (holds renewed known)) | inr old ↦ holds mark old ]

  named_renewed : (own : ℕ) (part : Fragment) → IsNamedFragment history own part → IsNamedFragment now own part
  named_renewed own part n =
      record {
        number = n.number;
        piece = n.piece;
        at = n.at;
        of = n.of;
        whole = of_each (λ mark. Resets mark n.piece.message.stream → n.number < mark.bound → own < mark.bound) (λ is. is) n.whole;
        stream = n.stream;
        unordered = n.unordered;
        mid = n.mid;
        ssn = n.ssn;
        up_to = n.up_to;
        tail = n.tail;
        limits = n.limits;
      }

  bears_renewed : (first acknowledged : ℕ) (outstanding : OutstandingState) → Bears history first acknowledged outstanding → Bears now first acknowledged outstanding
  bears_renewed first acknowledged outstanding b =
      record {
        tsn = b.tsn;
        count = b.count;
        items = b.items;
        named = λ k item at. named_renewed (acknowledged + k) item.fragment (b.named k item at);
        splits = of_each (λ mark. (k : ℕ) (item : Item) → slice_get outstanding.items k ≡ Some item → acknowledged + k ≡ mark.bound → item.begins_after_reset ≡ true) (λ is. is) b.splits;
        abandoned = b.abandoned;
        whole = λ kind none. absurd (cc);
      }

  flight_renewed : (first acknowledged : ℕ) (transfer : Option Transfer) → InFlight history first acknowledged transfer → InFlight now first acknowledged transfer
  flight_renewed first acknowledged None flight = flight
  flight_renewed first acknowledged (Some transfer) flight = bears_renewed first acknowledged transfer.retransmission.outstanding flight

  pends_renewed : (transfer : Option Transfer) → PendsIfConnected history transfer → PendsIfConnected now transfer
  pends_renewed None pends = tt
  pends_renewed (Some transfer) pends = record { next = of_each (λ mark. mark.bound ≡ length history.log → transfer.retransmission.reset_begun ≡ true) (λ is. is) pends.next; none = λ begun none. absurd (cc) }

  marks_renewed : (first : ℕ) (streams : List Stream) → AreMarks history first streams → AreMarks now first streams
  marks_renewed first streams marks = of_each (IsMark now first streams) (λ m. record { within = m.within; last = m.last; fields = m.fields; sides = m.sides; going = m.going })
      (λ mark has. (let m = marks mark has in record { within = m.within; last = m.last; fields = m.fields; sides = m.sides; going = m.going }))

  last_renewed : (streams : List Stream) (counts : ℕ → Bool → ℕ) (id : ℕ) (under_way : Option UnderWay) → LastIs history streams counts id under_way → LastIs now streams counts id under_way
  last_renewed streams counts id None last = tt
  last_renewed streams counts id (Some under_way) l = record { waiting = l.waiting; front = l.front; mid = l.mid; is = l.is; from = l.from; last = l.last; came = l.came }

  counts_renewed : (is_interleaved : Bool) (streams : List Stream) (held : Option StreamId) → CountsByKind is_interleaved history streams held → CountsByKind is_interleaved now streams held
  counts_renewed false streams held c = record { turns = λ id start. c.turns id (record { floor = start.floor; none = λ mark has names. start.none mark (inr has) names }); closes = c.closes; rests = c.rests }
  counts_renewed true streams held c =
      record { counts = c.counts; few = c.few; next = c.next; below = c.below; apart = c.apart; going = λ id. last_renewed streams c.counts id (stream_named id streams).under_way (c.going id); dense = c.dense }

  numbered_renewed : (queue : SendQueueState) → NumbersMessages history queue → NumbersMessages now queue
  numbered_renewed queue n = record { kinds = n.kinds; counts = counts_renewed queue.is_interleaved queue.streams queue.held n.counts; kept = n.kept; whole = n.whole; rests = n.rests }

  pub below_renewed : (queued : List Message) (first acknowledged : ℕ) (below : EndpointQueues) → QueuesFollowLog queued history first acknowledged below → QueuesFollowLog queued now first acknowledged below
  below_renewed queued first acknowledged below b =
      record {
        queue_holds = b.queue_holds;
        cut = b.cut;
        flight = flight_renewed first acknowledged below.transfer b.flight;
        pends = pends_renewed below.transfer b.pends;
        marks = marks_renewed first below.queue.streams b.marks;
        numbers = numbered_renewed below.queue b.numbers;
        kind = b.kind;
      }
