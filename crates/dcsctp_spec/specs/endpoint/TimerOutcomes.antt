-- The turns of T1-init and T1-cookie (RFC 9260, section 5.1).
use Rattle.std.specs.Prelude.{◌≡◌, ℕ, codes, List, []}
use Rattle.std.specs.Option.{option_map}
use Rattle.dcsctp_types.specs.declared.kinds.ErrorKind.TheVariants.{TooManyRetries}
use Rattle.dcsctp_spec.specs.endpoint.Event.{aborted}
use Rattle.dcsctp_spec.specs.endpoint.Endpoint.{Endpoint, Core, closed, cookie_wait, cookie_echoed, open_in}
use Rattle.dcsctp_spec.specs.endpoint.Timers.{continued_timer}
use Rattle.dcsctp_spec.specs.endpoint.Outcome.{Outcome, still, quiet, fits, emits}
use Rattle.dcsctp_spec.specs.endpoint.FlushOutcomes.{Answer, FlushKind, flush_answered, flush_outcome}
use Rattle.dcsctp_spec.specs.endpoint.EndOutcomes.{ended_outcome}
use Rattle.dcsctp_spec.specs.endpoint.HandshakeOutcomes.{init_emission, echo_emission, send_echo_with_flush, EchoAnswers}

-- ---- with restarts left

-- T1 continues from the present moment.
abbrev pub endpoint_with_t1_continued : Endpoint → Endpoint
endpoint_with_t1_continued e = record e { timers = record e.timers { t1 = option_map (continued_timer e.moment) e.timers.t1 } }

-- The packet that isn't answered yet is sent again: INIT, or COOKIE ECHO in front of a flush, each if it fits.
abbrev pub send_again_with_flush : FlushKind → Endpoint → Core → Outcome
send_again_with_flush flush e closed = still e
send_again_with_flush flush e (cookie_wait mine) = emits e [] (init_emission e mine)
send_again_with_flush flush e (cookie_echoed mine held cookie) = send_echo_with_flush flush e [] held.peer.tag cookie
send_again_with_flush flush e (open_in phase mine held) = still e

abbrev pub phase_again_outcome : Endpoint → Core → Outcome
phase_again_outcome e core = send_again_with_flush flush_outcome e core

-- T1 continues, and the packet is sent. Its change is `t1_again_change`.
abbrev pub t1_again_with_flush : FlushKind → Endpoint → Core → Outcome
t1_again_with_flush flush e core = send_again_with_flush flush (endpoint_with_t1_continued e) core

abbrev pub t1_again_outcome : Endpoint → Core → Outcome
t1_again_outcome e core = t1_again_with_flush flush_outcome e core

-- The answers that its flush may get, if there is one.
abbrev pub AgainAnswers : Endpoint → Core → List Answer → Type 0
AgainAnswers e (cookie_echoed mine held cookie) answers = EchoAnswers (fits e (echo_emission held.peer.tag cookie)) e held.peer.tag cookie answers
AgainAnswers e core answers = answers ≡ []

abbrev pub T1AgainTurn : Endpoint → Outcome → Type 0
T1AgainTurn e o = (answers : List Answer) × AgainAnswers (endpoint_with_t1_continued e) e.core answers × (o ≡ t1_again_with_flush (flush_answered answers) e e.core)

-- ---- without

abbrev pub no_init_ack_text : List ℕ
no_init_ack_text = codes "No INIT_ACK received"

abbrev pub no_cookie_ack_text : List ℕ
no_cookie_ack_text = codes "No COOKIE_ACK received"

-- The association ends. Its change is `t1_gives_up_change`.
abbrev pub t1_gives_up_outcome : Endpoint → Core → Outcome
t1_gives_up_outcome e closed = still e
t1_gives_up_outcome e (cookie_wait mine) = ended_outcome (quiet e [] []) (aborted TooManyRetries no_init_ack_text)
t1_gives_up_outcome e (cookie_echoed mine held cookie) = ended_outcome (quiet e [] []) (aborted TooManyRetries no_cookie_ack_text)
t1_gives_up_outcome e (open_in phase mine held) = still e
