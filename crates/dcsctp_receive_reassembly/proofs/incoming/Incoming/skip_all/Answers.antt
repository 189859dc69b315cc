-- The entry is handled, and then the others.
use Rattle.std.proofs.Common.{◌≡◌, ◌+◌, ◌≤◌, ◌∷◌, List, map, length, drop, get_or, arith, ap, subst, sym, length-append}
use Rattle.std.specs.VecDeque.{deque_len, deque_capacity}
use Rattle.std.proofs.lemmas.List.{drop_more, drop_all, length-map}
use Rattle.dcsctp_api.specs.types.queues.Messages.{MessageContent, message_content}
use Rattle.dcsctp_api.specs.types.declared.arrivals.SkippedTo.{SkippedTo}
use Rattle.dcsctp_api.specs.types.declared.arrivals.SkippedTo.TheVariants.{Ssn}
use Rattle.dcsctp_api.specs.spec.queues.IncomingStreams.{skipped_stream, skip_deliveries}
use Rattle.dcsctp_receive_reassembly.specs.Reassembly.{incoming_of, entry_of}
use Rattle.dcsctp_api.specs.spec.queues.Incoming.{stream_on, SkipsAll}
use Rattle.dcsctp_receive_reassembly.specs.Skipping.{AllMade, room_for}
use Rattle.dcsctp_receive_reassembly.proofs.SkippingLemmas.{AllMade-kept, SkipsAll-step, SkipsAll-none, Balances-both, room_left}
use Rattle.dcsctp_receive_reassembly.proofs.incoming.Incoming.skip_all.Goals as goal

pub skip-requires-clause-made : goal.skip-requires-clause-made
skip-requires-clause-made c =
    (subst (λ (all : List SkippedTo). AllMade all c.loop-entry.self.streams) (drop_more c.args.entries.now c.loop-entry.entry-index (Ssn (record { 0 = 0 }) 0) (omega arith)) c.loop-entry.invariant.made).0

pub skip-requires-clause-room : goal.skip-requires-clause-room
skip-requires-clause-room c =
    let room = subst (λ (all : List SkippedTo). deque_len c.loop-entry.self.ready + room_for all (λ id. stream_on id (map entry_of c.loop-entry.self.streams.entries)) ≤ deque_capacity c.loop-entry.self.ready) (drop_more c.args.entries.now c.loop-entry.entry-index (Ssn (record { 0 = 0 }) 0) (omega arith)) c.loop-entry.invariant.room in
    omega (arith, room)

pub loop-entry-preserved : goal.loop-entry-preserved
loop-entry-preserved c =
    let entry : SkippedTo = get_or c.args.entries.now c.loop-entry.entry-index (Ssn (record { 0 = 0 }) 0) in
    let rest : List SkippedTo = drop (c.loop-entry.entry-index + 1) c.args.entries.now in
    let next : drop c.loop-entry.entry-index c.args.entries.now ≡ get_or c.args.entries.now c.loop-entry.entry-index (Ssn (record { 0 = 0 }) 0) ∷ drop (c.loop-entry.entry-index + 1) c.args.entries.now = drop_more c.args.entries.now c.loop-entry.entry-index (Ssn (record { 0 = 0 }) 0) (omega arith) in
    let room = subst (λ (all : List SkippedTo). deque_len c.loop-entry.self.ready + room_for all (λ id. stream_on id (map entry_of c.loop-entry.self.streams.entries)) ≤ deque_capacity c.loop-entry.self.ready) next c.loop-entry.invariant.room in
    let left = room_left entry rest (incoming_of c.loop-entry.self) (incoming_of c.skip.new.self) (deque_len c.loop-entry.self.ready) (deque_capacity c.loop-entry.self.ready) c.skip.ensures.skips room in
    record {
      skips = λ new skips. c.loop-entry.invariant.skips new (subst (λ (all : List SkippedTo). SkipsAll all (incoming_of c.loop-entry.self) new) (sym next) (SkipsAll-step entry rest (incoming_of c.loop-entry.self) (incoming_of c.skip.new.self) new c.skip.ensures.skips skips));
      made = AllMade-kept rest c.loop-entry.self.streams c.skip.new.self.streams c.skip.ensures.made (subst (λ (all : List SkippedTo). AllMade all c.loop-entry.self.streams) next c.loop-entry.invariant.made).1;
      room = omega (
        arith,
        left,
        c.skip.ensures.room,
        ap (λ (messages : List MessageContent). length messages) c.skip.ensures.skips.ready,
        length-append (map message_content c.loop-entry.self.ready.items) (skip_deliveries entry (stream_on (skipped_stream entry) (map entry_of c.loop-entry.self.streams.entries))),
        length-map c.loop-entry.self.ready.items message_content,
        length-map c.skip.new.self.ready.items message_content,
      );
      used = Balances-both c.args.overhead c.args.self.now c.loop-entry.self c.skip.new.self c.loop-entry.invariant.used c.skip.ensures.used;
    }

pub returns-clause-skips : goal.returns-clause-skips
returns-clause-skips c =
    c.loop-entry.invariant.skips (incoming_of c.loop-entry.self)
    (subst (λ (all : List SkippedTo). SkipsAll all (incoming_of c.loop-entry.self) (incoming_of c.loop-entry.self)) (sym (drop_all c.loop-entry.entry-index c.args.entries.now (omega arith))) (SkipsAll-none (incoming_of c.loop-entry.self)))
