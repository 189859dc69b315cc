-- What the user sees of a turn is among its effects.
use Rattle.std.proofs.Common.{◌≡◌, List, [], ◌∷◌, ◌⊎◌, inl, inr, refl, subst}
use Rattle.dcsctp_spec_lemmas.specs.spec.endpoint.Event.{Event, sent, connected, closed, connection_restarted, aborted, error, buffered_amount_low, total_buffered_amount_low, streams_reset_failed, streams_reset_performed, incoming_stream_reset, lifecycle_message_fully_sent, lifecycle_message_maybe_expired, lifecycle_message_expired, lifecycle_message_delivered, lifecycle_end}
use Rattle.dcsctp_spec_lemmas.specs.spec.Packet.{Packet, Emission}
use Rattle.dcsctp_spec_lemmas.specs.spec.association.Effect.{AssociationIdentity, Effect, draws, sends, holds, connects, ends, begins, gives_up, completes, fails, accepts, performs, renews, resumes}
use Rattle.dcsctp_spec_lemmas.specs.spec.association.Controlled.{Observation, packet_sent, has_connected, has_ended, own_reset_performed, own_reset_failed, peer_reset_performed, observations_of_events, observations_of_effects}
use Rattle.dcsctp_spec_runs.specs.Past.{HasEffect}
use Rattle.dcsctp_spec_runs.specs.World.{after_effects}
use Rattle.dcsctp_spec_runs.specs.Fitting.{AllSent}
use Rattle.dcsctp_theorem_association.proofs.Growth.{after_within}
use Rattle.dcsctp_theorem_sockets.specs.Agreement.{HasConnected}
use Rattle.dcsctp_theorem_sockets.proofs.Sent.{all_sent_map}

-- ---- effects and the past before them

-- it is one of these effects, or was in the past before them
pub in_after : (effect : Effect) (effects past : List Effect) → HasEffect effect (after_effects effects past) → HasEffect effect effects ⊎ HasEffect effect past
in_after effect [] past h = inr h
in_after effect (first ∷ effects) past h =
    elim (in_after effect effects (first ∷ past) h) [ inl among ↦ inl (inr among) | inr (inl is) ↦ inl (inl is) | inr (inr before) ↦ inr before ]

pub among_after : (effect : Effect) (effects past : List Effect) → HasEffect effect effects → HasEffect effect (after_effects effects past)
among_after effect [] past among = absurd among
among_after effect (first ∷ effects) past (inl is) = after_within effects (first ∷ past) effect (inl is)
among_after effect (first ∷ effects) past (inr among) = among_after effect effects (first ∷ past) among

-- ---- signs

abbrev IsSign : Observation → List Observation → Type 0
IsSign sign [] = ⊥
IsSign sign (first ∷ observations) = (sign ≡ first) ⊎ IsSign sign observations

abbrev Shown : List Observation → Emission → Type 0
Shown observations emission = IsSign (packet_sent emission.packet) observations

one_more_shown : (first : Observation) (observations : List Observation) (emission : Emission) → Shown observations emission → Shown (first ∷ observations) emission
one_more_shown first observations emission shown = inr shown

-- each packet among events is a sign
sent_is_shown : (events : List (Event Emission)) → AllSent (Shown (observations_of_events events)) events
sent_is_shown [] = tt
sent_is_shown (sent emission ∷ events) = (inl refl, all_sent_map (one_more_shown (packet_sent emission.packet) (observations_of_events events)) events (sent_is_shown events))
sent_is_shown (connected ∷ events) = (tt, all_sent_map (one_more_shown has_connected (observations_of_events events)) events (sent_is_shown events))
sent_is_shown (closed ∷ events) = (tt, all_sent_map (one_more_shown has_ended (observations_of_events events)) events (sent_is_shown events))
sent_is_shown (connection_restarted ∷ events) = (tt, sent_is_shown events)
sent_is_shown (aborted kind text ∷ events) = (tt, all_sent_map (one_more_shown has_ended (observations_of_events events)) events (sent_is_shown events))
sent_is_shown (error kind text ∷ events) = (tt, sent_is_shown events)
sent_is_shown (buffered_amount_low stream ∷ events) = (tt, sent_is_shown events)
sent_is_shown (total_buffered_amount_low ∷ events) = (tt, sent_is_shown events)
sent_is_shown (streams_reset_failed streams ∷ events) = (tt, all_sent_map (one_more_shown own_reset_failed (observations_of_events events)) events (sent_is_shown events))
sent_is_shown (streams_reset_performed streams ∷ events) = (tt, all_sent_map (one_more_shown own_reset_performed (observations_of_events events)) events (sent_is_shown events))
sent_is_shown (incoming_stream_reset streams ∷ events) = (tt, all_sent_map (one_more_shown peer_reset_performed (observations_of_events events)) events (sent_is_shown events))
sent_is_shown (lifecycle_message_fully_sent id ∷ events) = (tt, sent_is_shown events)
sent_is_shown (lifecycle_message_maybe_expired id ∷ events) = (tt, sent_is_shown events)
sent_is_shown (lifecycle_message_expired id ∷ events) = (tt, sent_is_shown events)
sent_is_shown (lifecycle_message_delivered id ∷ events) = (tt, sent_is_shown events)
sent_is_shown (lifecycle_end id ∷ events) = (tt, sent_is_shown events)

-- a packet that is a sign of effects is one of them
shown_is_effect : (packet : Packet) (effects : List Effect) → IsSign (packet_sent packet) (observations_of_effects effects) → HasEffect (sends packet) effects
shown_is_effect packet [] shown = absurd shown
shown_is_effect packet (draws pair ∷ effects) shown = inr (shown_is_effect packet effects shown)
shown_is_effect packet (sends first ∷ effects) (inl is) = inl (cc)
shown_is_effect packet (sends first ∷ effects) (inr shown) = inr (shown_is_effect packet effects shown)
shown_is_effect packet (holds link ∷ effects) shown = inr (shown_is_effect packet effects shown)
shown_is_effect packet (connects link ∷ effects) (inl is) = absurd (cc)
shown_is_effect packet (connects link ∷ effects) (inr shown) = inr (shown_is_effect packet effects shown)
shown_is_effect packet (ends ∷ effects) (inl is) = absurd (cc)
shown_is_effect packet (ends ∷ effects) (inr shown) = inr (shown_is_effect packet effects shown)
shown_is_effect packet (begins number ∷ effects) shown = inr (shown_is_effect packet effects shown)
shown_is_effect packet (gives_up number ∷ effects) shown = inr (shown_is_effect packet effects shown)
shown_is_effect packet (completes my number ∷ effects) (inl is) = absurd (cc)
shown_is_effect packet (completes my number ∷ effects) (inr shown) = inr (shown_is_effect packet effects shown)
shown_is_effect packet (fails number ∷ effects) (inl is) = absurd (cc)
shown_is_effect packet (fails number ∷ effects) (inr shown) = inr (shown_is_effect packet effects shown)
shown_is_effect packet (accepts number ∷ effects) shown = inr (shown_is_effect packet effects shown)
shown_is_effect packet (performs peer number ∷ effects) (inl is) = absurd (cc)
shown_is_effect packet (performs peer number ∷ effects) (inr shown) = inr (shown_is_effect packet effects shown)
shown_is_effect packet (renews peer number ∷ effects) shown = inr (shown_is_effect packet effects shown)
shown_is_effect packet (resumes link own last ∷ effects) shown = inr (shown_is_effect packet effects shown)

abbrev pub WasSent : List Effect → Emission → Type 0
WasSent past emission = HasEffect (sends emission.packet) past

-- Each packet among the events of a turn is among its effects.
pub packets_are_effects : (events : List (Event Emission)) (effects : List Effect) → observations_of_events events ≡ observations_of_effects effects → AllSent (WasSent effects) events
packets_are_effects events effects same =
    all_sent_map (λ emission shown. shown_is_effect emission.packet effects shown) events (subst (λ (observations : List Observation). AllSent (Shown observations) events) same (sent_is_shown events))

-- ---- connections

connected_is_shown : (events : List (Event Emission)) → HasConnected events → IsSign has_connected (observations_of_events events)
connected_is_shown [] h = absurd h
connected_is_shown (sent emission ∷ events) h = inr (connected_is_shown events h)
connected_is_shown (connected ∷ events) h = inl refl
connected_is_shown (closed ∷ events) h = inr (connected_is_shown events h)
connected_is_shown (connection_restarted ∷ events) h = connected_is_shown events h
connected_is_shown (aborted kind text ∷ events) h = inr (connected_is_shown events h)
connected_is_shown (error kind text ∷ events) h = connected_is_shown events h
connected_is_shown (buffered_amount_low stream ∷ events) h = connected_is_shown events h
connected_is_shown (total_buffered_amount_low ∷ events) h = connected_is_shown events h
connected_is_shown (streams_reset_failed streams ∷ events) h = inr (connected_is_shown events h)
connected_is_shown (streams_reset_performed streams ∷ events) h = inr (connected_is_shown events h)
connected_is_shown (incoming_stream_reset streams ∷ events) h = inr (connected_is_shown events h)
connected_is_shown (lifecycle_message_fully_sent id ∷ events) h = connected_is_shown events h
connected_is_shown (lifecycle_message_maybe_expired id ∷ events) h = connected_is_shown events h
connected_is_shown (lifecycle_message_expired id ∷ events) h = connected_is_shown events h
connected_is_shown (lifecycle_message_delivered id ∷ events) h = connected_is_shown events h
connected_is_shown (lifecycle_end id ∷ events) h = connected_is_shown events h

-- one of these effects connects
abbrev pub Connects : List Effect → Type 0
Connects effects = (link : AssociationIdentity) × HasEffect (connects link) effects

behind : (first : Effect) (effects : List Effect) → Connects effects → Connects (first ∷ effects)
behind first effects h = (h.0, inr h.1)

shown_connects : (effects : List Effect) → IsSign has_connected (observations_of_effects effects) → Connects effects
shown_connects [] shown = absurd shown
shown_connects (draws pair ∷ effects) shown = behind (draws pair) effects (shown_connects effects shown)
shown_connects (sends packet ∷ effects) (inl is) = absurd (cc)
shown_connects (sends packet ∷ effects) (inr shown) = behind (sends packet) effects (shown_connects effects shown)
shown_connects (holds link ∷ effects) shown = behind (holds link) effects (shown_connects effects shown)
shown_connects (connects link ∷ effects) shown = (link, inl refl)
shown_connects (ends ∷ effects) (inl is) = absurd (cc)
shown_connects (ends ∷ effects) (inr shown) = behind ends effects (shown_connects effects shown)
shown_connects (begins number ∷ effects) shown = behind (begins number) effects (shown_connects effects shown)
shown_connects (gives_up number ∷ effects) shown = behind (gives_up number) effects (shown_connects effects shown)
shown_connects (completes my number ∷ effects) (inl is) = absurd (cc)
shown_connects (completes my number ∷ effects) (inr shown) = behind (completes my number) effects (shown_connects effects shown)
shown_connects (fails number ∷ effects) (inl is) = absurd (cc)
shown_connects (fails number ∷ effects) (inr shown) = behind (fails number) effects (shown_connects effects shown)
shown_connects (accepts number ∷ effects) shown = behind (accepts number) effects (shown_connects effects shown)
shown_connects (performs peer number ∷ effects) (inl is) = absurd (cc)
shown_connects (performs peer number ∷ effects) (inr shown) = behind (performs peer number) effects (shown_connects effects shown)
shown_connects (renews peer number ∷ effects) shown = behind (renews peer number) effects (shown_connects effects shown)
shown_connects (resumes link own last ∷ effects) shown = behind (resumes link own last) effects (shown_connects effects shown)

pub connected_connects : (events : List (Event Emission)) (effects : List Effect) → observations_of_events events ≡ observations_of_effects effects → HasConnected events → Connects effects
connected_connects events effects same h = shown_connects effects (subst (IsSign has_connected) same (connected_is_shown events h))
