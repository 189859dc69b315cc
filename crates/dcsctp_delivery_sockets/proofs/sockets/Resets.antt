-- The resets of streams that a user is told are performed are those of which the other user was told.
use Rattle.dcsctp_spec_lemmas.specs.spec.association.Effect as effects
use Rattle.std.proofs.Common.{◌≡◌, ℕ, true, List, [], ◌∷◌, ◌++◌, map, inl, inr, subst, refl}
use Rattle.std.specs.List.{AllByRecursion}
use Rattle.dcsctp_spec_lemmas.specs.types.declared.association.Pair.{Pair}
use Rattle.dcsctp_spec_lemmas.specs.spec.Packet.{Emission}
use Rattle.dcsctp_spec_lemmas.specs.spec.association.Controlled.{own_reset_performed, peer_reset_performed, observations_of_effects}
use Rattle.dcsctp_spec_lemmas.specs.spec.association.Effect.{Effect, completes}
use Rattle.dcsctp_spec_lemmas.specs.spec.endpoint.BegunResets.{stream_field}
use Rattle.dcsctp_spec_lemmas.specs.spec.endpoint.CallTurns.{Transition, events_of}
use Rattle.dcsctp_spec_lemmas.specs.spec.endpoint.ResetOutcomes.{has_reset}
use Rattle.dcsctp_spec_lemmas.specs.spec.endpoint.Event.{Event, connected, closed, aborted, streams_reset_failed, streams_reset_performed, incoming_stream_reset}
use Rattle.dcsctp_spec_runs.specs.Past.{HasEffect}
use Rattle.dcsctp_theorem_sockets.specs.Telling.{observations_of_ends, ReportsRecorded}
use Rattle.dcsctp_delivery_directions.specs.sending.Places.{HasEntry}
use Rattle.dcsctp_delivery_sockets.proofs.turns.Telling.{entry_either, entry_front}
use Rattle.dcsctp_delivery_sockets.specs.associations.Laws.{TellsPerformed, ResetsWereSeen}

-- ---- one turn

told_observed : (streams : List ℕ) (events : List (Event Emission)) → HasEntry (streams_reset_performed streams) events → HasEntry own_reset_performed (observations_of_ends events)
told_observed streams [] has = absurd has
told_observed streams (streams_reset_performed others ∷ events) has = inl refl
told_observed streams (connected ∷ events) (inl is) = absurd (cc)
told_observed streams (connected ∷ events) (inr has) = inr (told_observed streams events has)
told_observed streams (closed ∷ events) (inl is) = absurd (cc)
told_observed streams (closed ∷ events) (inr has) = inr (told_observed streams events has)
told_observed streams (aborted kind text ∷ events) (inl is) = absurd (cc)
told_observed streams (aborted kind text ∷ events) (inr has) = inr (told_observed streams events has)
told_observed streams (streams_reset_failed others ∷ events) (inl is) = absurd (cc)
told_observed streams (streams_reset_failed others ∷ events) (inr has) = inr (told_observed streams events has)
told_observed streams (incoming_stream_reset others ∷ events) (inl is) = absurd (cc)
told_observed streams (incoming_stream_reset others ∷ events) (inr has) = inr (told_observed streams events has)
told_observed streams (event ∷ events) (inl is) = absurd (cc)
told_observed streams (event ∷ events) (inr has) = told_observed streams events has

-- a request of ours that ends as performed
abbrev Completed : List Effect → Type 0
Completed happened = (my : Pair) × (number : ℕ) × HasEffect (completes my number) happened

completed_later : (effect : Effect) (happened : List Effect) → Completed happened → Completed (effect ∷ happened)
completed_later effect happened found = (found.0, found.1, inr found.2)

observed_completes : (happened : List Effect) → HasEntry own_reset_performed (observations_of_effects happened) → Completed happened
observed_completes [] has = absurd has
observed_completes (effects.completes my number ∷ happened) has = (my, number, inl refl)
observed_completes (effects.sends packet ∷ happened) (inl is) = absurd (cc)
observed_completes (effects.sends packet ∷ happened) (inr has) = completed_later (effects.sends packet) happened (observed_completes happened has)
observed_completes (effects.connects link ∷ happened) (inl is) = absurd (cc)
observed_completes (effects.connects link ∷ happened) (inr has) = completed_later (effects.connects link) happened (observed_completes happened has)
observed_completes (effects.ends ∷ happened) (inl is) = absurd (cc)
observed_completes (effects.ends ∷ happened) (inr has) = completed_later effects.ends happened (observed_completes happened has)
observed_completes (effects.fails number ∷ happened) (inl is) = absurd (cc)
observed_completes (effects.fails number ∷ happened) (inr has) = completed_later (effects.fails number) happened (observed_completes happened has)
observed_completes (effects.performs peer number ∷ happened) (inl is) = absurd (cc)
observed_completes (effects.performs peer number ∷ happened) (inr has) = completed_later (effects.performs peer number) happened (observed_completes happened has)
observed_completes (effect ∷ happened) has = completed_later effect happened (observed_completes happened has)

-- ---- what the peer has reset

peer_observed : (streams : List ℕ) (events : List (Event Emission)) → HasEntry (incoming_stream_reset streams) events → HasEntry peer_reset_performed (observations_of_ends events)
peer_observed streams [] has = absurd has
peer_observed streams (incoming_stream_reset others ∷ events) has = inl refl
peer_observed streams (connected ∷ events) (inl is) = absurd (cc)
peer_observed streams (connected ∷ events) (inr has) = inr (peer_observed streams events has)
peer_observed streams (closed ∷ events) (inl is) = absurd (cc)
peer_observed streams (closed ∷ events) (inr has) = inr (peer_observed streams events has)
peer_observed streams (aborted kind text ∷ events) (inl is) = absurd (cc)
peer_observed streams (aborted kind text ∷ events) (inr has) = inr (peer_observed streams events has)
peer_observed streams (streams_reset_failed others ∷ events) (inl is) = absurd (cc)
peer_observed streams (streams_reset_failed others ∷ events) (inr has) = inr (peer_observed streams events has)
peer_observed streams (streams_reset_performed others ∷ events) (inl is) = absurd (cc)
peer_observed streams (streams_reset_performed others ∷ events) (inr has) = inr (peer_observed streams events has)
peer_observed streams (event ∷ events) (inl is) = absurd (cc)
peer_observed streams (event ∷ events) (inr has) = peer_observed streams events has

observed_performs : (happened : List Effect) → HasEntry peer_reset_performed (observations_of_effects happened) → has_reset happened ≡ true
observed_performs [] has = absurd has
observed_performs (effects.performs peer number ∷ happened) has = refl
observed_performs (effects.renews peer number ∷ happened) has = refl
observed_performs (effects.sends packet ∷ happened) (inl is) = absurd (cc)
observed_performs (effects.sends packet ∷ happened) (inr has) = observed_performs happened has
observed_performs (effects.connects link ∷ happened) (inl is) = absurd (cc)
observed_performs (effects.connects link ∷ happened) (inr has) = observed_performs happened has
observed_performs (effects.ends ∷ happened) (inl is) = absurd (cc)
observed_performs (effects.ends ∷ happened) (inr has) = observed_performs happened has
observed_performs (effects.fails number ∷ happened) (inl is) = absurd (cc)
observed_performs (effects.fails number ∷ happened) (inr has) = observed_performs happened has
observed_performs (effects.completes my number ∷ happened) (inl is) = absurd (cc)
observed_performs (effects.completes my number ∷ happened) (inr has) = observed_performs happened has
observed_performs (effect ∷ happened) has = observed_performs happened has

-- The user is told of a reset of the peer only where one is performed.
pub all_tell : (turns : List Transition) → AllByRecursion ReportsRecorded turns → AllByRecursion (λ turn. TellsPerformed turn.outcome) turns
all_tell [] each = tt
all_tell (turn ∷ turns) each = (
  λ streams told. observed_performs turn.outcome.effects (subst (HasEntry peer_reset_performed) each.0 (peer_observed streams turn.outcome.events told)),
  all_tell turns each.1,
)

-- ---- all turns

-- Each reset that is told in these turns is told in those.
abbrev pub AllSeen : List (Event Emission) → List Transition → Type 0
AllSeen seen turns = AllByRecursion (λ turn. ResetsWereSeen seen turn.outcome) turns

pub seen_both : (seen : List (Event Emission)) (turns more : List Transition) → AllSeen seen turns → AllSeen seen more → AllSeen seen (turns ++ more)
seen_both seen [] more first rest = rest
seen_both seen (turn ∷ turns) more first rest = (first.0, seen_both seen turns more first.1 rest)

pub seen_more : (seen more : List (Event Emission)) (turns : List Transition) → AllSeen seen turns → AllSeen (seen ++ more) turns
seen_more seen more [] each = tt
seen_more seen more (turn ∷ turns) each =
    ((λ my number streams has told. entry_front (incoming_stream_reset (map stream_field streams)) seen more (each.0 my number streams has told)), seen_more seen more turns each.1)

pub resets_shared : (seen : List (Event Emission)) (turns : List Transition) → AllByRecursion ReportsRecorded turns → AllSeen seen turns → (streams : List ℕ) → HasEntry (streams_reset_performed streams) (events_of turns)
    → HasEntry (incoming_stream_reset (map stream_field streams)) seen
resets_shared seen [] tells each streams has = absurd has
resets_shared seen (turn ∷ turns) tells each streams has =
    elim (entry_either (streams_reset_performed streams) turn.outcome.events (events_of turns) has) [
      | inl here ↦
          (let found = observed_completes turn.outcome.effects (subst (HasEntry own_reset_performed) tells.0 (told_observed streams turn.outcome.events here)) in
          each.0 found.0 found.1 streams found.2 here)
      | inr later ↦ resets_shared seen turns tells.1 each.1 streams later
    ]
