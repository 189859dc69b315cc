-- A request of ours to reset streams that ends as performed is the one that had no end (RFC 6525,
-- section 5.2.7).
use Rattle.std.specs.Prelude.{◌≡◌, ℕ, Some, List, map}
use Rattle.dcsctp_spec_lemmas.specs.types.declared.association.Pair.{Pair}
use Rattle.dcsctp_spec_lemmas.specs.spec.endpoint.Endpoint.{Endpoint}
use Rattle.dcsctp_spec_lemmas.specs.spec.endpoint.Outcome.{Outcome}
use Rattle.dcsctp_spec_lemmas.specs.spec.endpoint.Event.{streams_reset_performed}
use Rattle.dcsctp_spec_lemmas.specs.spec.endpoint.BegunResets.{stream_field}
use Rattle.dcsctp_delivery_directions.specs.sending.Places.{HasEntry}
use Rattle.dcsctp_spec_runs.specs.Past.{HasEffect}
use Rattle.dcsctp_spec_lemmas.specs.spec.endpoint.Turn.{Input, Turn}
use Rattle.dcsctp_spec_lemmas.specs.spec.association.Effect.{AssociationIdentity, completes, identity_of_core}
use Rattle.dcsctp_delivery_sockets.specs.turns.Actions.{IsCall}
use Rattle.dcsctp_delivery_sockets.specs.turns.Asking.{Own, own_of}

-- The request of this number has no end yet, in the association whose own pair this is.
pub record EndsOwn (e : Endpoint) (o : Outcome) (my : Pair) (number : ℕ) : Type 0 where
  pub link : AssociationIdentity
  pub linked : identity_of_core e.core ≡ Some link
  pub mine : link.my ≡ my
  pub own : Own
  pub kept : own_of e ≡ Some own
  pub outstanding : own.number ≡ Some number
  -- Its streams are those that the user is told of, each number as a field has it.
  pub told : (streams : List ℕ) → HasEntry (streams_reset_performed streams) o.events → own.again.streams ≡ map stream_field streams

-- So it was before a turn in which a request ends as performed.
abbrev pub CompletesOwn : Type 0
CompletesOwn = (e : Endpoint) (input : Input) (o : Outcome) (my : Pair) (number : ℕ) → IsCall input → Turn e input o → HasEffect (completes my number) o.effects → EndsOwn e o my number
