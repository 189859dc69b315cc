-- Both runs read as before, so the longer one is still the one that was counted as such.
use Rattle.std.proofs.Common.{◌≡◌, ◌+◌, length, arith, ap, sym, subst, ◌∙◌}
use Rattle.std.specs.Option.{option_copied}
use Rattle.dcsctp_receive_reassembly.specs.Runs.{HasRoomForRun}
use Rattle.dcsctp_receive_reassembly.proofs.ResultFacts.{ok_then}
use Rattle.dcsctp_receive_reassembly.proofs.RunMapLemmas.{room_in_front, room_in_back}
use Rattle.dcsctp_receive_reassembly.proofs.linking.reserve_between.Goals as goal

pub returns-then-back-front-clause-room : goal.returns-then-back-front-clause-room
returns-then-back-front-clause-room c =
    let counted : c.len-back.result ≡ length c.unwrap-2.result.now.others.items = omega (arith, c.len-back.ensures) in
    ok_then c.reserve.result c.reserve.ensures.room (λ room.
    room_in_front c.args.first c.args.next c.unwrap.result.now c.unwrap-2.result.now c.args.runs.now c.reserve.new.runs c.requires.ordered c.reserve.ensures.ordered c.reserve.ensures.kept
    (sym c.get.ensures.value ∙ ap (λ o. option_copied o) c.unwrap.ensures) (sym c.get-2.ensures.value ∙ ap (λ o. option_copied o) c.unwrap-2.ensures)
    (omega (arith, c.if-back-front.true, c.len-front.ensures, c.len-back.ensures)) (subst (λ count. HasRoomForRun c.args.first (count + 2) c.reserve.new.runs) counted room))

pub returns-else-back-front-clause-room : goal.returns-else-back-front-clause-room
returns-else-back-front-clause-room c =
    let counted : c.len-front.result ≡ length c.unwrap.result.now.others.items = omega (arith, c.len-front.ensures) in
    ok_then c.reserve-else-back-front.result c.reserve-else-back-front.ensures.room (λ room.
    room_in_back c.args.first c.args.next c.unwrap.result.now c.unwrap-2.result.now c.args.runs.now c.reserve-else-back-front.new.runs c.requires.ordered c.reserve-else-back-front.ensures.ordered c.reserve-else-back-front.ensures.kept
    (sym c.get.ensures.value ∙ ap (λ o. option_copied o) c.unwrap.ensures) (sym c.get-2.ensures.value ∙ ap (λ o. option_copied o) c.unwrap-2.ensures)
    (omega (arith, c.if-back-front.false, c.len-front.ensures, c.len-back.ensures)) (subst (λ count. HasRoomForRun c.args.next (count + 2) c.reserve-else-back-front.new.runs) counted room))
