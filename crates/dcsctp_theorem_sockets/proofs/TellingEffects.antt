-- A socket reports what its turns recorded, and its association is the one that they recorded.
use Rattle.std.proofs.Common.{◌≡◌, List, [], ◌∷◌, refl, sym, subst, ap, ◌∙◌}
use Rattle.dcsctp_spec_lemmas.specs.types.declared.association.Pair.{Pair}
use Rattle.dcsctp_spec_lemmas.specs.types.declared.association.Held.{Held}
use Rattle.dcsctp_spec_lemmas.specs.types.declared.options.Options.{Options}
use Rattle.dcsctp_spec_lemmas.specs.spec.endpoint.Event.{Event, sent, connected, closed, connection_restarted, aborted, error, buffered_amount_low, total_buffered_amount_low, streams_reset_failed, streams_reset_performed, incoming_stream_reset, lifecycle_message_fully_sent, lifecycle_message_maybe_expired, lifecycle_message_expired, lifecycle_message_delivered, lifecycle_end}
use Rattle.dcsctp_spec_lemmas.specs.spec.Packet.{Emission}
use Rattle.dcsctp_spec_lemmas.specs.spec.endpoint.Endpoint.{Endpoint, Core, cookie_wait, cookie_echoed, open_in, fresh_endpoint}
use Rattle.dcsctp_spec_lemmas.specs.spec.endpoint.Endpoint as machine
use Rattle.dcsctp_spec_lemmas.specs.spec.association.Effect.{Effect, draws, sends, holds, connects, ends, begins, gives_up, completes, fails, accepts, performs, renews, resumes, effects_without_packets}
use Rattle.dcsctp_spec_lemmas.specs.spec.association.Controlled.{Observation, packet_sent, has_connected, has_ended, own_reset_performed, own_reset_failed, peer_reset_performed, observations_of_events, observations_of_effects}
use Rattle.dcsctp_spec_lemmas.specs.spec.endpoint.CallTurns.{Transition, after_all}
use Rattle.dcsctp_spec_runs.specs.World.{side_after}
use Rattle.dcsctp_spec_runs.specs.Sockets.{of_side, turns_after}
use Rattle.dcsctp_theorem_association.specs.OneSide.{LeavesHeld, LeavesCore, PastIsState}
use Rattle.dcsctp_theorem_sockets.specs.Telling.{observations_of_ends, ReportsRecorded, SocketsReportEffects, SocketsHaveRecorded}
use Rattle.dcsctp_theorem_sockets.proofs.NotedLemmas.{current-noted, number_to_begin-noted, outstanding-noted, number_to_accept-noted}
use Rattle.dcsctp_theorem_sockets.proofs.OneSocket.{all_along}
use Rattle.dcsctp_theorem_sockets.proofs.SocketsAlone.{Moves, it_rests, it_moves, MoveLaws, of_moves, RunsOn, runs_alone}

-- ---- signs without packets

without_packets : List Observation → List Observation
without_packets [] = []
without_packets (packet_sent packet ∷ observations) = without_packets observations
without_packets (has_connected ∷ observations) = has_connected ∷ without_packets observations
without_packets (has_ended ∷ observations) = has_ended ∷ without_packets observations
without_packets (own_reset_performed ∷ observations) = own_reset_performed ∷ without_packets observations
without_packets (own_reset_failed ∷ observations) = own_reset_failed ∷ without_packets observations
without_packets (peer_reset_performed ∷ observations) = peer_reset_performed ∷ without_packets observations

told_without : (events : List (Event Emission)) → observations_of_ends events ≡ without_packets (observations_of_events events)
unfolding without_packets
told_without [] = refl
told_without (sent emission ∷ events) = told_without events
told_without (connected ∷ events) = ap (λ (observations : List Observation). has_connected ∷ observations) (told_without events)
told_without (closed ∷ events) = ap (λ (observations : List Observation). has_ended ∷ observations) (told_without events)
told_without (connection_restarted ∷ events) = told_without events
told_without (aborted kind text ∷ events) = ap (λ (observations : List Observation). has_ended ∷ observations) (told_without events)
told_without (error kind text ∷ events) = told_without events
told_without (buffered_amount_low stream ∷ events) = told_without events
told_without (total_buffered_amount_low ∷ events) = told_without events
told_without (streams_reset_failed streams ∷ events) = ap (λ (observations : List Observation). own_reset_failed ∷ observations) (told_without events)
told_without (streams_reset_performed streams ∷ events) = ap (λ (observations : List Observation). own_reset_performed ∷ observations) (told_without events)
told_without (incoming_stream_reset streams ∷ events) = ap (λ (observations : List Observation). peer_reset_performed ∷ observations) (told_without events)
told_without (lifecycle_message_fully_sent id ∷ events) = told_without events
told_without (lifecycle_message_maybe_expired id ∷ events) = told_without events
told_without (lifecycle_message_expired id ∷ events) = told_without events
told_without (lifecycle_message_delivered id ∷ events) = told_without events
told_without (lifecycle_end id ∷ events) = told_without events

noted_without : (effects : List Effect) → observations_of_effects (effects_without_packets effects) ≡ without_packets (observations_of_effects effects)
unfolding without_packets
noted_without [] = refl
noted_without (draws pair ∷ effects) = noted_without effects
noted_without (sends packet ∷ effects) = noted_without effects
noted_without (holds link ∷ effects) = noted_without effects
noted_without (connects link ∷ effects) = ap (λ (observations : List Observation). has_connected ∷ observations) (noted_without effects)
noted_without (ends ∷ effects) = ap (λ (observations : List Observation). has_ended ∷ observations) (noted_without effects)
noted_without (begins number ∷ effects) = noted_without effects
noted_without (gives_up number ∷ effects) = noted_without effects
noted_without (completes my number ∷ effects) = ap (λ (observations : List Observation). own_reset_performed ∷ observations) (noted_without effects)
noted_without (fails number ∷ effects) = ap (λ (observations : List Observation). own_reset_failed ∷ observations) (noted_without effects)
noted_without (accepts number ∷ effects) = noted_without effects
noted_without (performs peer number ∷ effects) = ap (λ (observations : List Observation). peer_reset_performed ∷ observations) (noted_without effects)
noted_without (renews peer number ∷ effects) = (noted_without effects)
noted_without (resumes link own last ∷ effects) = noted_without effects

-- ---- one turn, and a run

tells_noted : (e : Endpoint) (t : Transition) → Moves e t.outcome → ReportsRecorded t
tells_noted e t (it_rests core options effects told) = told ∙ ap observations_of_effects (sym effects)
tells_noted e t (it_moves change turn is) =
    told_without t.outcome.events ∙ ap without_packets is.observations ∙ sym (noted_without change.effects) ∙ ap observations_of_effects (sym is.effects)

pub effects_are_told : MoveLaws → SocketsReportEffects
effects_are_told law options run are runs side =
    all_along ReportsRecorded (fresh_endpoint (of_side side options)) (of_side side (turns_after run))
    (of_moves law (λ (x : Endpoint). ReportsRecorded) tells_noted options run are runs side)

-- ---- the association

held-noted : (past : List Effect) (my : Pair) (held : Held) → LeavesHeld past my held → LeavesHeld (effects_without_packets past) my held
held-noted past my held h =
    record {
      link = current-noted past ∙ h.link;
      own_next = number_to_begin-noted past ∙ h.own_next;
      own_outstanding = outstanding-noted past ∙ h.own_outstanding;
      peer_next = number_to_accept-noted past ∙ h.peer_next;
    }

leaves-noted : (past : List Effect) (core : Core) → LeavesCore past core → LeavesCore (effects_without_packets past) core
leaves-noted past machine.closed h = current-noted past ∙ h
leaves-noted past (cookie_wait my) h = current-noted past ∙ h
leaves-noted past (cookie_echoed my held cookie) h = held-noted past my held h
leaves-noted past (open_in phase my held) h = held-noted past my held h

pub noted_is_held : MoveLaws → PastIsState → SocketsHaveRecorded
noted_is_held law leaves options run are runs side =
    let own : Options = of_side side options in
    let turns : List Transition = of_side side (turns_after run) in
    let alone : RunsOn own turns (fresh_endpoint own) [] = runs_alone law options run are runs side in
    let past : List Effect = (side_after own alone.steps).past in
    let here : LeavesCore (effects_without_packets past) (side_after own alone.steps).core = leaves-noted past (side_after own alone.steps).core (leaves own alone.steps alone.is_run) in
    subst (λ (es : List Effect). LeavesCore es (after_all (fresh_endpoint own) turns).core) alone.past (subst (LeavesCore (effects_without_packets past)) alone.core here)
