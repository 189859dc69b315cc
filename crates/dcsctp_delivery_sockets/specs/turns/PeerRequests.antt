-- What a turn of a socket does with the peer's requests to reset streams (RFC 6525, section 5.2.2).
use Rattle.std.specs.Prelude.{◌≡◌, ◌⊎◌, ℕ, Option, None, Some, List, [], ◌∷◌}
use Rattle.dcsctp_spec_lemmas.specs.wire.declared.reconfiguration.ReconfigurationResponseResult.TheVariants.{InProgress}
use Rattle.dcsctp_spec_lemmas.specs.types.declared.association.Held.{Held}
use Rattle.dcsctp_spec_lemmas.specs.types.declared.association.Pair.{Pair}
use Rattle.dcsctp_spec_lemmas.specs.spec.endpoint.Endpoint.{Endpoint, Core, closed, cookie_wait, cookie_echoed, open_in}
use Rattle.dcsctp_spec_lemmas.specs.spec.endpoint.Outcome.{Outcome}
use Rattle.dcsctp_spec_lemmas.specs.spec.Packet.{Content, re_config}
use Rattle.dcsctp_spec_runs.specs.Past.{WasPerformed, number_to_accept, number_to_perform}
use Rattle.dcsctp_spec_lemmas.specs.spec.Reconfiguration.{RequestedReset, outgoing_reset_request, number_answered}
use Rattle.dcsctp_spec_lemmas.specs.spec.endpoint.Turn.{Input, Turn}
use Rattle.dcsctp_spec_runs.specs.World.{after_effects}
use Rattle.dcsctp_spec_lemmas.specs.spec.association.Effect.{AssociationIdentity, Effect, accepts, performs, renews, resumes, identity_of, identity_of_core}
use Rattle.dcsctp_spec_lemmas.specs.spec.association.FlushChanges.{next_number, reset_request}
use Rattle.dcsctp_spec_lemmas.specs.spec.queues.Reassembly.{DeferralModel}
use Rattle.dcsctp_spec_lemmas.specs.spec.queues.Transfer.{Transfer}
use Rattle.dcsctp_delivery_directions.specs.sending.Flushes.{NoRequests}
use Rattle.dcsctp_delivery_sockets.specs.turns.Actions.{content_of_input, BeginsAssociation, IsOpening, IsCalm, IsCall}

-- No request of the peer was accepted or performed, and no association was restored.
abbrev pub NoneAsked : List Effect → Type 0
NoneAsked [] = Unit {0}
NoneAsked (accepts number ∷ effects) = ⊥
NoneAsked (performs peer number ∷ effects) = ⊥
NoneAsked (renews peer number ∷ effects) = ⊥
NoneAsked (resumes link own last ∷ effects) = ⊥
NoneAsked (effect ∷ effects) = NoneAsked effects

-- What waits for a reset waits for it still.
abbrev pub SameWaits : Option DeferralModel → Option DeferralModel → Type 0
SameWaits None new = new ≡ None
SameWaits (Some old) new = (kept : DeferralModel) × (new ≡ Some kept) × (kept.last_tsn ≡ old.last_tsn)

-- It waits for all up to the request's last TSN, or for what another one waited for before.
abbrev pub WaitsFor : RequestedReset → Option DeferralModel → DeferralModel → Type 0
WaitsFor reset old left = (left.last_tsn ≡ reset.last_tsn) ⊎ ((before : DeferralModel) × (old ≡ Some before) × (left.last_tsn ≡ before.last_tsn))

-- The past knows the peer's requests as the association does.
pub record KnowsPeer (past : List Effect) (held : Held) : Type 0 where
  pub accepts : number_to_accept past ≡ Some (next_number held.peer_last)
  pub performs : held.peer_result ≡ InProgress → number_to_perform past ≡ Some held.peer_last

abbrev pub KnowsPeerOfCore : List Effect → Core → Type 0
KnowsPeerOfCore past closed = Unit {0}
KnowsPeerOfCore past (cookie_wait my) = Unit {0}
KnowsPeerOfCore past (cookie_echoed my held cookie) = KnowsPeer past held
KnowsPeerOfCore past (open_in phase my held) = KnowsPeer past held

-- A RE-CONFIG that is handled has no request, or is one own request of the peer, as a flush sends it.
abbrev pub IsPlainRequest : Option Content → Type 0
IsPlainRequest (Some (re_config parameters)) = NoRequests parameters ⊎ ((number : ℕ) × (reset : RequestedReset) × (parameters ≡ outgoing_reset_request number (number_answered number reset.is_new) reset ∷ []))
IsPlainRequest came = Unit {0}

-- The number is the next one, or that of the request in progress.
abbrev pub IsDue : List Effect → ℕ → Type 0
IsDue past number = (number_to_accept past ≡ Some number) ⊎ (number_to_perform past ≡ Some number)

-- What a turn does with the peer's requests in the association of this link, after this past, if this waits for a reset before
-- it and that after it.
pub data PeerTurns (link : AssociationIdentity) (past : List Effect) (e : Endpoint) (input : Input) (o : Outcome) (old new : Option DeferralModel) : Type 0 where
  -- Nothing is asked.
  asks_nothing : NoneAsked o.effects → SameWaits old new → PeerTurns link past e input o old new
  -- A request is performed: the next one, or the one in progress.
  performs_it : (number : ℕ) (reset : RequestedReset) → content_of_input input ≡ Some (reset_request number reset) → IsDue past number
      → ((peer : Pair) (other : ℕ) → WasPerformed peer other o.effects → (peer ≡ link.peer) × (other ≡ number)) → WasPerformed link.peer number o.effects
      → number_to_accept (after_effects o.effects past) ≡ Some (next_number number) → number_to_perform (after_effects o.effects past) ≡ None → new ≡ None → PeerTurns link past e input o old new
  -- It is in progress from here on, or still.
  defers_it : (number : ℕ) (reset : RequestedReset) → content_of_input input ≡ Some (reset_request number reset) → IsDue past number
      → ((peer : Pair) (other : ℕ) → WasPerformed peer other o.effects → ⊥)
      → number_to_accept (after_effects o.effects past) ≡ Some (next_number number) → number_to_perform (after_effects o.effects past) ≡ Some number
      → (left : DeferralModel) → new ≡ Some left → WaitsFor reset old left → PeerTurns link past e input o old new
  -- Another association begins.
  begins_anew : (begun : BeginsAssociation e o) → IsOpening (content_of_input input) → identity_of_core o.after.core ≡ Some (identity_of begun.my begun.held) → NoneAsked o.effects → new ≡ None → PeerTurns link past e input o old new

-- This holds for each turn in an association.
abbrev pub PeersTurn : Type 0
PeersTurn =
    (e : Endpoint) (input : Input) (o : Outcome) (past : List Effect) (link : AssociationIdentity) (transfer left : Transfer) → KnowsPeerOfCore past e.core → IsPlainRequest (content_of_input input) → IsCall input → Turn e input o
    → identity_of_core e.core ≡ Some link → e.queues.transfer ≡ Some transfer → o.after.queues.transfer ≡ Some left
    → PeerTurns link past e input o transfer.reassembly.deferral left.reassembly.deferral

-- No request is accepted or performed where no RE-CONFIG is handled.
abbrev pub CalmAsksNothing : Type 0
CalmAsksNothing = (e : Endpoint) (input : Input) (o : Outcome) → IsCalm (content_of_input input) → IsCall input → Turn e input o → NoneAsked o.effects

-- Nor is one where there is no association. One that begins waits for no reset.
abbrev pub UnlinkedAsksNothing : Type 0
UnlinkedAsksNothing =
    (e : Endpoint) (input : Input) (o : Outcome) → IsCall input → Turn e input o → identity_of_core e.core ≡ None
    → NoneAsked o.effects × ((left : Transfer) → e.queues.transfer ≡ None → o.after.queues.transfer ≡ Some left → left.reassembly.deferral ≡ None)

-- Nor is one where an association ends: a RE-CONFIG ends none.
abbrev pub EndsAskNothing : Type 0
EndsAskNothing =
    (e : Endpoint) (input : Input) (o : Outcome) (transfer : Transfer) → IsCall input → Turn e input o → e.queues.transfer ≡ Some transfer → o.after.queues.transfer ≡ None → NoneAsked o.effects
