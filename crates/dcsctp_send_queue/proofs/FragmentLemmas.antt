-- How long fragments are.
use Rattle.std.proofs.Common.{◌≡◌, ◌∙◌, ℕ, ◌<◌, length, take, drop, ap, arith}
use Rattle.std.proofs.lemmas.List.{length-take, length-drop}
use Rattle.dcsctp_api.specs.types.declared.sending.UnderWay.{UnderWay}
use Rattle.dcsctp_api.specs.types.queues.SendStreams.{Waiting}
use Rattle.dcsctp_api.specs.spec.queues.Sending.{Fragment, fragment, size_produced}
use Rattle.dcsctp_send_queue.specs.Fragment.{HasSize}

-- one byte at least where some are left, and at most as many as are asked for
pub has_size : (part : Fragment) (message : Waiting) (u : UnderWay) (max : ℕ) → part ≡ fragment u message (size_produced max message u) → u.sent < length message.payload → 0 < max → HasSize max part
has_size part message u max is more some =
    let len : length part.payload ≡ length (take (size_produced max message u) (drop u.sent message.payload)) = ap (λ (f : Fragment). length f.payload) is in
    let size = len ∙ length-take (size_produced max message u) (drop u.sent message.payload) in
    let rest = length-drop u.sent message.payload in
    (omega arith, omega arith)
