-- The entry is counted, and then the others.
use Rattle.std.proofs.Common.{◌≡◌, ◌==◌, ◌||◌, ◌+◌, ℕ, List, map, length, drop, get_or, arith, ap, ◌∙◌, if◌then◌else◌}
use Rattle.std.proofs.lemmas.List.{drop_more}
use Rattle.dcsctp_api.specs.types.declared.arrivals.SkippedTo.{SkippedTo}
use Rattle.dcsctp_api.specs.types.declared.arrivals.SkippedTo.TheVariants.{Ssn}
use Rattle.dcsctp_api.specs.types.StreamTables.{marks}
use Rattle.dcsctp_api.specs.spec.queues.Incoming.{stream_on}
use Rattle.dcsctp_api.specs.spec.queues.IncomingStreams.{StreamModel, skipped_stream}
use Rattle.dcsctp_receive_reassembly.specs.Reassembly.{entry_of}
use Rattle.dcsctp_receive_reassembly.specs.Skipping.{room_beyond}
use Rattle.dcsctp_receive_reassembly.proofs.SkippingLemmas.{room_beyond-same}
use Rattle.dcsctp_receive_reassembly.proofs.skipping.room_for_all.Goals as goal

pub loop-entry-preserved : goal.loop-entry-preserved
loop-entry-preserved c =
    let streams : ℕ → StreamModel = λ id. stream_on id (map entry_of c.args.streams.now.entries) in
    let entry : SkippedTo = get_or c.args.entries.now c.loop-entry.entry-index (Ssn (record { 0 = 0 }) 0) in
    let rest : List SkippedTo = drop (c.loop-entry.entry-index + 1) c.args.entries.now in
    let next = ap (λ (all : List SkippedTo). room_beyond (marks c.loop-entry.seen) all (λ id. stream_on id (map entry_of c.args.streams.now.entries))) (drop_more c.args.entries.now c.loop-entry.entry-index (Ssn (record { 0 = 0 }) 0) (omega arith)) in
    let named : c.stream_of.result.0 ≡ skipped_stream entry = c.stream_of.ensures in
    let here : c.waiting_once.result ≡ (if marks c.loop-entry.seen (skipped_stream entry) then 0 else length (streams (skipped_stream entry)).waiting) =
    c.waiting_once.ensures.count ∙ ap (λ (id : ℕ). if marks c.loop-entry.seen id then 0 else length (streams id).waiting) named in
    let seen : (other : ℕ) → marks c.waiting_once.new.seen other ≡ ((skipped_stream entry == other) || marks c.loop-entry.seen other) =
    λ other. c.waiting_once.ensures.seen other ∙ ap (λ (id : ℕ). (id == other) || marks c.loop-entry.seen other) named in
    let later = room_beyond-same rest (marks c.waiting_once.new.seen) (λ other. (skipped_stream entry == other) || marks c.loop-entry.seen other) streams seen in
    record {
      room = omega (arith, c.loop-entry.invariant.room, c.loop-entry.invariant.bound, next, here, later, c.saturating_add-room.ensures);
      bound = omega (arith, c.saturating_add-room.ensures);
    }
