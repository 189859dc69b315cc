-- How long the chunks of a packet are together.
use Rattle.std.proofs.Common.{◌≡◌, ◌≤◌, ◌+◌, ℕ, Bool, true, false, cond, nat_le, Option, None, Some, List, [], ◌∷◌, ◌++◌, map, length, refl, arith, length-append, flat_map, ◌*◌, take}
use Rattle.std.proofs.lemmas.List.{length-take, length-replicate, length-map}
use Rattle.std.proofs.lemmas.Bool.Decides.{nat_tests}
use Rattle.dcsctp_spec.specs.wire.Content.{ParameterContent, outgoing_ssn_reset_request}
use Rattle.dcsctp_spec.specs.wire.Spelling.{chunk_bytes, zeros, parameter_value, parameter_len, parameter_bytes, parameter_chunk_bytes}
use Rattle.dcsctp_spec.specs.queues.OwnResets.{ready_streams}
use Rattle.dcsctp_spec.specs.Packet.{Plain, plain_out, Content, chunk_out, Emission}
use Rattle.dcsctp_spec.specs.queues.SendQueue.{SendQueueState}
use Rattle.dcsctp_spec.specs.endpoint.Endpoint.{Endpoint}
use Rattle.dcsctp_spec.specs.endpoint.Outcome.{contents_len}
use Rattle.dcsctp_spec.specs.association.Choices.{plain_contents}
use Rattle.dcsctp_spec.specs.endpoint.FlushOutcomes.{filled_draft, IsWithinMtu, Ask, room_of_draft, where_fits, later_ask, first_ask, begun_by_ask}
use Rattle.std.specs.Int.{w16, w32, to_be_bytes}
use Rattle.dcsctp_spec.specs.wire.Format.{padding_of}
use Rattle.dcsctp_spec.specs.types.declared.association.Held.{Held}
use Rattle.dcsctp_spec.specs.Reconfiguration.{RequestedReset, number_answered}
use Rattle.dcsctp_spec.specs.association.FlushChanges.{reset_request}
use Rattle.dcsctp_spec.specs.endpoint.BegunResets.{streams_within, begun_if_ready, begun_if_connected, request_contents, stream_field}

-- ---- how long a packet is

pub len_append : (xs ys : List Content) → contents_len (xs ++ ys) ≡ contents_len xs + contents_len ys
len_append [] ys = omega arith
len_append (x ∷ xs) ys =
    let rest = len_append xs ys in
    let one = length-append (chunk_bytes (chunk_out x)) (flat_map (λ content. chunk_bytes (chunk_out content)) (xs ++ ys)) in
    let own = length-append (chunk_bytes (chunk_out x)) (flat_map (λ content. chunk_bytes (chunk_out content)) xs) in
    omega (arith, rest, one, own)

fits_len : (b : Bool) (room : ℕ) (chunk : Plain) → nat_le (length (chunk_bytes (plain_out chunk))) room ≡ b → contents_len (plain_contents (cond b (chunk ∷ []) [])) ≤ room
fits_len true room chunk is =
    let one = length-append (chunk_bytes (plain_out chunk)) [] in
    let small : length (chunk_bytes (plain_out chunk)) ≤ room = grind (arith, nat_tests) in
    omega (arith, one, small)
fits_len false room chunk is = omega arith

pub where_fits_len : (room : ℕ) (chunk : Plain) → contents_len (plain_contents (where_fits room chunk)) ≤ room
where_fits_len room chunk = fits_len (nat_le (length (chunk_bytes (plain_out chunk))) room) room chunk refl

pub three_within : (e : Endpoint) (draft : Emission) (one two three : List Content) → IsWithinMtu e draft → contents_len one ≤ room_of_draft e draft → contents_len two ≤ room_of_draft e (filled_draft draft one)
    → contents_len three ≤ room_of_draft e (filled_draft draft (one ++ two)) → IsWithinMtu e (filled_draft draft (one ++ (two ++ three)))
three_within e draft one two three within first second third =
    let all = len_append draft.packet.contents (one ++ (two ++ three)) in
    let last = len_append one (two ++ three) in
    let both = len_append two three in
    let front = len_append draft.packet.contents one in
    let middle = len_append draft.packet.contents (one ++ two) in
    let pair = len_append one two in
    omega (arith, within, first, second, third, all, last, both, front, middle, pair)

-- ---- the request of a reset

pub streams_len : (streams : List ℕ) → length (flat_map (to_be_bytes w16) streams) ≡ 2 * length streams
streams_len [] = refl
streams_len (stream ∷ streams) = let rest = streams_len streams in omega (arith, rest)

pub request_len : (number : ℕ) (reset : RequestedReset) → contents_len (reset_request number reset ∷ []) ≡ 20 + 2 * length reset.streams + padding_of (20 + 2 * length reset.streams)
unfolding parameter_bytes parameter_chunk_bytes
request_len number reset =
    let streams : List ℕ = flat_map (to_be_bytes w16) reset.streams in
    let answered : ℕ = number_answered number reset.is_new in
    let parameter : ParameterContent = outgoing_ssn_reset_request number answered reset.last_tsn streams in
    let value : List ℕ = parameter_value parameter in
    omega (
      arith,
      streams_len reset.streams,
      length-append (to_be_bytes w32 number ++ to_be_bytes w32 answered ++ to_be_bytes w32 reset.last_tsn) streams,
      length-append value (zeros (padding_of (parameter_len parameter))),
      length-replicate {A = ℕ} (padding_of (parameter_len parameter)) 0,
      length-append (parameter_bytes parameter) [],
      length-append (chunk_bytes (chunk_out (reset_request number reset))) [],
    )

-- Where it names as many streams as fit, its chunk fits.
begun_len : (follows : Bool) (outstanding : Option ℕ) (number last_tsn room : ℕ) (streams : List ℕ) → length streams ≤ streams_within room → contents_len (request_contents (begun_if_ready follows outstanding number last_tsn streams)) ≤ room
begun_len follows None number last_tsn room [] few = omega arith
begun_len follows None number last_tsn room (stream ∷ streams) few =
    let all = request_len number (record { last_tsn = last_tsn; streams = stream ∷ streams; is_new = follows }) in
    omega (arith, few, all)
begun_len follows (Some other) number last_tsn room [] few = omega arith
begun_len follows (Some other) number last_tsn room (stream ∷ streams) few = omega arith

begun_in_len : (follows : Bool) (held : Option Held) (room last_tsn : ℕ) (queue : SendQueueState) → contents_len (request_contents (begun_if_connected follows held room last_tsn queue)) ≤ room
begun_in_len follows None room last_tsn queue = omega arith
begun_in_len follows (Some held) room last_tsn queue =
    let streams : List ℕ = take (streams_within room) (ready_streams queue) in
    let few = length-take (streams_within room) (ready_streams queue) in
    let same = length-map streams stream_field in
    begun_len follows held.own_outstanding held.own_next last_tsn room (map stream_field streams) (omega (arith, few, same))

pub begun_at_len : (ask : Ask) (follows : Bool) (held : Option Held) (room last_tsn : ℕ) (queue : SendQueueState) → contents_len (request_contents (begun_by_ask ask follows held room last_tsn queue)) ≤ room
begun_at_len first_ask follows held room last_tsn queue = begun_in_len follows held room last_tsn queue
begun_at_len later_ask follows held room last_tsn queue = omega arith
