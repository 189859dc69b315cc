use Rattle.std.proofs.Common.{◌||◌, ◌+◌, ◌∷◌, map, drop, refl, sym, ◌∙◌, ap}
use Rattle.std.specs.List.{list_any}
use Rattle.std.proofs.lemmas.List.{at_drop_more}
use Rattle.dcsctp_types.specs.StreamTables.{marks}
use Rattle.dcsctp_types.specs.Snapshot.{names_twice}
use Rattle.dcsctp_types.proofs.RepeatLemmas.{none_marked, repeats_kept}
use Rattle.dcsctp_types.proofs.validity.has_repeat.Goals as goal

-- Nothing is marked at first.
pub loop-stream-init : goal.loop-stream-init
loop-stream-init g c = rw (none_marked (marks c.new-seen.result) c.new-seen.ensures (map g.T.Listed.id_of c.args.streams.now)) refl

-- The stream that is marked wasn't.
pub loop-stream-preserved : goal.loop-stream-preserved
loop-stream-preserved g c =
    let id = c.identifier-id.result in
    let left = map g.T.Listed.id_of (drop (c.loop-stream.stream-index + 1) c.args.streams.now) in
    let fresh = ap (marks c.loop-stream.seen) (sym c.from.ensures) ∙ sym c.has.ensures ∙ c.if-has.false in
    let named = c.identifier-id.ensures ∙ ap g.T.Listed.id_of c.stream-item.is in
    repeats_kept (marks c.loop-stream.seen) (marks c.mark.new.self) id c.mark.ensures fresh left
    ∙ ap (λ number. list_any (marks c.loop-stream.seen) (number ∷ left) || names_twice (number ∷ left)) named
    ∙ sym (at_drop_more (λ streams. list_any (marks c.loop-stream.seen) (map g.T.Listed.id_of streams) || names_twice (map g.T.Listed.id_of streams)) c.args.streams.now c.loop-stream.stream-index c.stream-item.result c.loop-stream-test.true)
    ∙ c.loop-stream.invariant
