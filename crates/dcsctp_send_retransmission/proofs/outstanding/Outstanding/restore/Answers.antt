use Rattle.std.proofs.Common.{◌≡◌, ◌<◌, ◌-◌, ◌^◌, min, length, refl, sym, subst, arith}
use Rattle.dcsctp_api.specs.spec.Soundness.{HasBytes}
use Rattle.dcsctp_api.specs.types.SnapshotItems.{outstanding_part}
use Rattle.dcsctp_send_retransmission.proofs.BytesLemmas.{holds_at, part_has_bytes}
use Rattle.dcsctp_send_retransmission.proofs.HandoverLemmas.{all_restored}
use Rattle.dcsctp_send_retransmission.proofs.outstanding.Outstanding.restore.Goals as goal

pub push-requires-clause-bytes : goal.push-requires-clause-bytes
push-requires-clause-bytes c =
    let within : c.loop-place.place < length c.args.parts.now = omega (arith, c.min-count.ensures, c.loop-place-test.true) in
    let holds = holds_at c.args.parts.now c.loop-place.place c.index-parts-place.result c.requires within c.index-parts-place.is in
    subst HasBytes (sym c.in_ok-item.ensures) (part_has_bytes c.args.now c.args.was_reset (outstanding_part c.index-parts-place.result) holds)

pub returns : goal.returns
returns c =
    let end : c.loop-place.place ≡ min (2 ^ 31 - 1) (length c.args.parts.now) = omega (arith, c.min-count.ensures, c.loop-place.auto.place-end, c.loop-place-test.false) in
    rw (c.loop-place.invariant, c.empty.ensures, all_restored c.args.now c.args.was_reset c.loop-place.place c.args.parts.now end) refl
