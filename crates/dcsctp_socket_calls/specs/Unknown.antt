-- What is done with a chunk of a type that isn't known, as turns of a socket's view (RFC 9260, section 3.2).
use Rattle.std.specs.Prelude.{ℕ, List, []}
use Rattle.dcsctp_core.specs.spec.endpoint.Endpoint.{Endpoint, Core, cookie_echoed, open_in}
use Rattle.dcsctp_core.specs.spec.endpoint.Outcome.{Outcome, still, sends}
use Rattle.dcsctp_core.specs.spec.endpoint.PlainOutcomes.{unknown_report, unknown_chunk_outcome, unknown_outcome}
use Rattle.dcsctp_core.specs.View.{View}

-- It is reported to the peer, if there is one.
abbrev pub reported_outcome : Endpoint → Core → List ℕ → Outcome
reported_outcome e (cookie_echoed my held cookie) chunk = sends e [] [] (unknown_report e held chunk)
reported_outcome e (open_in phase my held) chunk = sends e [] [] (unknown_report e held chunk)
reported_outcome e core chunk = still e

abbrev pub reported_turn : {R : Type 0} → List ℕ → View R → Outcome
reported_turn chunk view = reported_outcome view.endpoint view.endpoint.core chunk

-- It is reported to the user, and then to the peer.
abbrev pub unknown_chunk_turn : {R : Type 0} → ℕ → List ℕ → View R → Outcome
unknown_chunk_turn type chunk view = unknown_chunk_outcome view.endpoint view.endpoint.core type chunk

abbrev pub unknown_turn : {R : Type 0} → ℕ → ℕ → List ℕ → View R → Outcome
unknown_turn type flags value view = unknown_outcome view.endpoint view.endpoint.core type flags value
