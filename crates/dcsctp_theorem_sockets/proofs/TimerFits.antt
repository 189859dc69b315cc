-- Each turn of T1 leaves numbers that fit their fields, and sends what is read as itself.
use Rattle.std.proofs.Common.{Bool, true, false, Option, None, Some, List, [], sym, subst, arith}
use Rattle.std.specs.Option.{option_map}
use Rattle.dcsctp_spec_lemmas.specs.spec.endpoint.Endpoint.{Endpoint, Core, closed, cookie_wait, cookie_echoed, open_in}
use Rattle.dcsctp_spec_lemmas.specs.spec.endpoint.Timers.{RunningTimer, continued_timer}
use Rattle.dcsctp_spec_lemmas.specs.spec.endpoint.Outcome.{Outcome, fits}
use Rattle.dcsctp_spec_lemmas.specs.spec.endpoint.Turn.{ActTurn}
use Rattle.dcsctp_spec_lemmas.specs.spec.association.Acts.{t1_expires}
use Rattle.dcsctp_spec_lemmas.specs.spec.endpoint.FlushOutcomes.{Answer, flush_answered}
use Rattle.dcsctp_spec_lemmas.specs.spec.endpoint.HandshakeOutcomes.{init_emission, echo_emission}
use Rattle.dcsctp_spec_lemmas.specs.spec.endpoint.TimerOutcomes.{endpoint_with_t1_continued, send_again_with_flush, AgainAnswers, t1_gives_up_outcome}
use Rattle.dcsctp_spec_runs.specs.Laws.{OfferReadsBack}
use Rattle.dcsctp_spec_runs.specs.Deadlines.{T1Runs}
use Rattle.dcsctp_spec_runs.specs.Fitting.{FitsCore, FitsEndpoint, TurnFits}
use Rattle.dcsctp_theorem_sockets.proofs.FlushFits.{still_fits}
use Rattle.dcsctp_theorem_sockets.proofs.Sendable.{init_sendable, echo_sendable}
use Rattle.dcsctp_theorem_sockets.proofs.TurnsFit.{emits_fit, echoed_fits}

pub goes_on_runs : (f : RunningTimer → RunningTimer) (core : Core) (t1 : Option RunningTimer) → T1Runs core t1 → T1Runs core (option_map f t1)
goes_on_runs f closed t1 runs = tt
goes_on_runs f (cookie_wait my) None runs = absurd runs
goes_on_runs f (cookie_wait my) (Some timer) runs = tt
goes_on_runs f (cookie_echoed my held cookie) None runs = absurd runs
goes_on_runs f (cookie_echoed my held cookie) (Some timer) runs = tt
goes_on_runs f (open_in phase my held) t1 runs = tt

-- a packet again that went out before, which T1 doesn't change
again_fits : OfferReadsBack → (e : Endpoint) (core : Core) (answers : List Answer) → AgainAnswers e core answers → FitsEndpoint e → FitsCore core → TurnFits (send_again_with_flush (flush_answered answers) e core)
again_fits law e closed answers allowed h own = still_fits e h
again_fits law e (cookie_wait my) answers allowed h own = emits_fit e [] (init_emission e my) h (record { tag = omega arith; contents = (init_sendable law e.options my h.valid h.options own, tt) })
again_fits law e (cookie_echoed my held cookie) answers allowed h own =
    echoed_fits (fits e (echo_emission held.peer.tag cookie)) e [] held.peer.tag cookie answers allowed h
    (record { tag = own.1.peer.tag; contents = (echo_sendable cookie own.2, tt) })
again_fits law e (open_in phase my held) answers allowed h own = still_fits e h

gives_up_fits : (e : Endpoint) (core : Core) → FitsEndpoint e → TurnFits (t1_gives_up_outcome e core)
gives_up_fits e closed h = still_fits e h
gives_up_fits e (cookie_wait my) h = record { after = record { valid = h.valid; options = h.options; core = tt; t1 = tt }; sends = (tt, tt) }
gives_up_fits e (cookie_echoed my held cookie) h = record { after = record { valid = h.valid; options = h.options; core = tt; t1 = tt }; sends = (tt, tt) }
gives_up_fits e (open_in phase my held) h = still_fits e h

pub t1_fits : OfferReadsBack → (again : Bool) (e : Endpoint) (o : Outcome) → ActTurn e (t1_expires again) o → FitsEndpoint e → TurnFits o
t1_fits law true e o turn h =
    subst TurnFits (sym turn.2)
    (again_fits law (endpoint_with_t1_continued e) e.core turn.0 turn.1 (record { valid = h.valid; options = h.options; core = h.core; t1 = goes_on_runs (continued_timer e.moment) e.core e.timers.t1 h.t1 }) h.core)
t1_fits law false e o turn h = subst TurnFits (sym turn) (gives_up_fits e e.core h)
