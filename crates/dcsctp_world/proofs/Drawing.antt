-- What a side draws is what its generator gives.
use Rattle.std.proofs.Common.{◌≡◌, List, sym, subst}
use Rattle.rand_core.specs.Stream.{Stream}
use Rattle.dcsctp_core.specs.types.declared.schedule.Side.{Side}
use Rattle.dcsctp_core.specs.types.declared.schedule.Side.TheVariants as sides
use Rattle.dcsctp_core.specs.types.declared.word.Word.{Word}
use Rattle.dcsctp_core.specs.types.Schedule.{ActContent}
use Rattle.dcsctp_core.specs.spec.endpoint.CallTurns.{Transition, words_of}
use Rattle.dcsctp_spec_runs.specs.Sockets.{Both, of_side, of_other, side_of_act, TurnsOfAct}
use Rattle.dcsctp_core.specs.api.Calls.{DrawsWords}
use Rattle.dcsctp_core.proofs.Moving.{DrawsWords-append}
use Rattle.dcsctp_world.specs.declared.act.Reply.{Reply}
use Rattle.dcsctp_world.specs.Growth.{Grows}
use Rattle.dcsctp_world.specs.Acts.{with_associations, AppliesAct}
use Rattle.dcsctp_world.specs.Drawing.{DrewFrom, DrawOn}
use Rattle.dcsctp_world.specs.Shown.{ShownSide, WorldView}

-- ---- a side

-- it drew on
draws_on : {R : Type 0} {stream : R → Stream} {answer : Reply} (Turns : List Transition → Type 0) (old new : ShownSide R) → Grows stream Turns answer old new
    → (start : Stream) → DrewFrom stream start old → DrewFrom stream start new
draws_on {stream = stream} Turns old new grows start before =
    subst (λ (words : List Word). DrawsWords start words (stream new.socket.view.generator)) (sym grows.words)
    (DrawsWords-append start (stream old.socket.view.generator) (stream new.socket.view.generator) old.words (words_of grows.turns) before grows.drawn)

same_draws : {R : Type 0} (stream : R → Stream) (old new : ShownSide R) → new ≡ old → (start : Stream) → DrewFrom stream start old → DrewFrom stream start new
same_draws {R = R} stream old new same start before = subst (λ (side : ShownSide R). DrewFrom stream start side) (sym same) before

-- ---- both sides

-- one drew, and the other is as it was
draw_on_at : {R : Type 0} {stream : R → Stream} {answer : Reply} (Turns : List Transition → Type 0) (mover : Side) (old new : Both (ShownSide R))
    → Grows stream Turns answer (of_side mover old) (of_side mover new) → of_other mover new ≡ of_other mover old → DrawOn stream old new
draw_on_at Turns sides.A old new grows stays sides.A = draws_on Turns old.a new.a grows
draw_on_at {stream = stream} Turns sides.A old new grows stays sides.B = same_draws stream old.b new.b stays
draw_on_at {stream = stream} Turns sides.B old new grows stays sides.A = same_draws stream old.a new.a stays
draw_on_at Turns sides.B old new grows stays sides.B = draws_on Turns old.b new.b grows

-- then the associations were recorded
noted_from : {R : Type 0} (stream : R → Stream) (start : Stream) (side : Side) (moved : Both (ShownSide R)) → DrewFrom stream start (of_side side moved) → DrewFrom stream start (of_side side (with_associations moved))
noted_from stream start sides.A moved drew = drew
noted_from stream start sides.B moved drew = drew

noted_draw_on : {R : Type 0} (stream : R → Stream) (old moved new : Both (ShownSide R)) → DrawOn stream old moved → new ≡ with_associations moved → DrawOn stream old new
noted_draw_on {R = R} stream old moved new draws is side start before =
    subst (λ (both : Both (ShownSide R)). DrewFrom stream start (of_side side both)) (sym is) (noted_from stream start side moved (draws side start before))

-- so an act drew
pub applied_draws : {R : Type 0} (stream : R → Stream) (act : ActContent) (reply : Reply) (old new : WorldView R) → AppliesAct stream act reply old new
    → DrawOn stream old.sides new.sides
applied_draws stream act reply old new h =
    let mover : Side = side_of_act act in
    noted_draw_on stream old.sides h.moved new.sides
    (draw_on_at (TurnsOfAct (of_side mover old.sides).socket.view.endpoint (of_other mover old.sides).packets act) mover old.sides h.moved h.moves.grows h.moves.other_stays)
    h.sides

-- ---- several acts

pub draw_on_itself : {R : Type 0} (stream : R → Stream) (both : Both (ShownSide R)) → DrawOn stream both both
draw_on_itself stream both side start before = before

pub draw_on_further : {R : Type 0} (stream : R → Stream) (a b c : Both (ShownSide R)) → DrawOn stream a b → DrawOn stream b c → DrawOn stream a c
draw_on_further stream a b c first second side start before = second side start (first side start before)
