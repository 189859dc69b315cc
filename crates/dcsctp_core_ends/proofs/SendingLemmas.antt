-- A chunk of a shutdown is sent to the peer.
use Rattle.std.proofs.Common.{◌≡◌, ◌==◌, ◌+◌, true, Option, None, Some, [], length, sym, subst}
use Rattle.std.specs.Prelude.{nat_le}
use Rattle.rand_core.specs.Stream.{Stream}
use Rattle.dcsctp_core.specs.wire.Spelling.{chunk_bytes}
use Rattle.dcsctp_core.specs.types.declared.association.Held.{Held}
use Rattle.dcsctp_core.specs.types.Settings.{packet_size_limit}
use Rattle.dcsctp_core.specs.spec.Packet.{Content, chunk_out}
use Rattle.dcsctp_core.specs.spec.endpoint.Endpoint.{Endpoint, held_by_core}
use Rattle.dcsctp_core.specs.spec.endpoint.Outcome.{Outcome, still, sends, to_peer}
use Rattle.dcsctp_core.specs.View.{View, Moves}
use Rattle.dcsctp_core.specs.Handling.{emitted_to}
use Rattle.dcsctp_core.proofs.Moving.{moves_still}
use Rattle.dcsctp_core.proofs.Composing.{moves_as}
use Rattle.dcsctp_core.proofs.SentLemmas.{emitted_sends}
use Rattle.dcsctp_core_ends.specs.Shutdown.{to_held}

sent_to : {R : Type 0} (stream : R → Stream) (a b : View R) (out : Endpoint → Held → Outcome) (content : Content) (peer : Option Held)
    → ((held : Held) → out a.endpoint held ≡ sends a.endpoint [] [] (to_peer held content))
    → nat_le (12 + length (chunk_bytes (chunk_out content))) (packet_size_limit a.endpoint.options) ≡ true
    → b ≡ emitted_to peer (chunk_out content) a
    → Moves stream a (to_held out a.endpoint peer) b
sent_to {R = R} stream a b out content None is fits here = subst (λ (v : View R). Moves stream a (still a.endpoint) v) (sym here) (moves_still stream a)
sent_to stream a b out content (Some held) is fits here =
    moves_as stream a b _ _ (is held) (emitted_sends stream a b (held.capabilities.zero_checksum_method.0 == 0) held.peer.tag content fits here)

-- to the peer that the association has
pub sent_to_held : {R : Type 0} (stream : R → Stream) (a b : View R) (out : Endpoint → Held → Outcome) (content : Content)
    → ((held : Held) → out a.endpoint held ≡ sends a.endpoint [] [] (to_peer held content))
    → nat_le (12 + length (chunk_bytes (chunk_out content))) (packet_size_limit a.endpoint.options) ≡ true
    → b ≡ emitted_to (held_by_core a.endpoint.core) (chunk_out content) a
    → Moves stream a (to_held out a.endpoint (held_by_core a.endpoint.core)) b
sent_to_held stream a b out content is fits here = sent_to stream a b out content (held_by_core a.endpoint.core) is fits here
