use Rattle.std.proofs.Common.{◌≡◌, ◌+◌, ◌<◌, ◌∷◌, ℕ, List, drop, length, ap, subst, arith}
use Rattle.std.proofs.Math.ListN.{get_or}
use Rattle.std.proofs.lemmas.List.{at_drop_more, drop_all}
use Rattle.std.proofs.lemmas.Result.{err_from_is_err_and}
use Rattle.dcsctp_core.specs.types.declared.ids.StreamId.{StreamId}
use Rattle.dcsctp_core.specs.types.Ids.{stream_numbers}
use Rattle.dcsctp_core.specs.View.{view_of}
use Rattle.dcsctp_core_messages.proofs.ResettingLemmas.{GoesOn, goes_next, goes_cut, goes_done}
use Rattle.dcsctp_core_messages.proofs.resetting.prepare_streams.Goals as goal

-- the stream at a place, and those after it
left_at : (ids : List StreamId) (place : ℕ) → place < length ids
    → stream_numbers (drop place ids) ≡ (get_or ids place (record { 0 = 0 })).0 ∷ stream_numbers (drop (place + 1) ids)
left_at ids place within = at_drop_more stream_numbers ids place (record { 0 = 0 }) within

pub returns-in_err-prepare_stream : goal.returns-in_err-prepare_stream
returns-in_err-prepare_stream g c =
    let ids : List StreamId = c.args.stream_ids.now in
    let place : ℕ = c.loop-stream_id.stream_id-index in
    rw (err_from_is_err_and c.from_residual.result c.from_residual.ensures.1).1
    (goes_cut g.R.Rng.stream (stream_numbers ids) (view_of c.args.context.now) (get_or ids place (record { 0 = 0 })).0 (stream_numbers (drop (place + 1) ids)) (view_of c.loop-stream_id.context)
    (view_of c.prepare_stream.new.context).events
    (subst (λ (left : List ℕ). GoesOn g.R.Rng.stream (stream_numbers ids) (view_of c.args.context.now) left (view_of c.loop-stream_id.context)) (left_at ids place c.loop-stream_id-test.true)
    c.loop-stream_id.invariant)
    c.in_err-prepare_stream.ensures)

pub loop-stream_id-preserved : goal.loop-stream_id-preserved
loop-stream_id-preserved g c =
    let ids : List StreamId = c.args.stream_ids.now in
    let place : ℕ = c.loop-stream_id.stream_id-index in
    goes_next g.R.Rng.stream (stream_numbers ids) (view_of c.args.context.now) (get_or ids place (record { 0 = 0 })).0 (stream_numbers (drop (place + 1) ids)) (view_of c.loop-stream_id.context)
    (view_of c.prepare_stream.new.context)
    (subst (λ (left : List ℕ). GoesOn g.R.Rng.stream (stream_numbers ids) (view_of c.args.context.now) left (view_of c.loop-stream_id.context)) (left_at ids place c.loop-stream_id-test.true)
    c.loop-stream_id.invariant)
    c.in_ok-prepare_stream.ensures

pub returns : goal.returns
returns g c =
    let ids : List StreamId = c.args.stream_ids.now in
    let place : ℕ = c.loop-stream_id.stream_id-index in
    goes_done g.R.Rng.stream (stream_numbers ids) (view_of c.args.context.now) (stream_numbers (drop place ids)) (view_of c.loop-stream_id.context)
    (ap stream_numbers (drop_all place ids (omega (arith, c.loop-stream_id-test.false)))) c.loop-stream_id.invariant
