-- A flush as a part of a turn: after the words and events of its handler.
use Rattle.std.proofs.Common.{◌≡◌, List, [], ◌∷◌, refl}
use Rattle.rand_core.specs.Stream.{Stream}
use Rattle.dcsctp_core.specs.spec.Packet.{Emission}
use Rattle.dcsctp_core.specs.spec.endpoint.Endpoint.{Endpoint}
use Rattle.dcsctp_core.specs.spec.endpoint.Outcome.{Outcome, behind}
use Rattle.dcsctp_core.specs.spec.endpoint.Following.{next_chunk}
use Rattle.dcsctp_core.specs.spec.endpoint.FlushOutcomes.{Answer, asked_outcome, next_draft, flush_of}
use Rattle.dcsctp_core.specs.View.{View, Moves}

-- after nothing
pub moves_flushed : {R : Type 0} (stream : R → Stream) (a b : View R) (o : Outcome) → Moves stream a o b → Moves stream a (behind [] [] o) b
moves_flushed stream a b o m = record { endpoint = m.endpoint; events = m.events; words = m.words; pairs = m.pairs; drawn = m.drawn }

-- The next chunk is handled after it.
pub flush_following : (e : Endpoint) (draft : Emission) (answers : List Answer) → (flush_of e draft answers).following ≡ next_chunk
flush_following e draft [] = refl
flush_following e draft (answer ∷ answers) = flush_following (asked_outcome e draft answer).after (next_draft e.core draft) answers
