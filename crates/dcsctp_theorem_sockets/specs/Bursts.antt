-- How many packets one turn of a socket may send (RFC 9260, sections 5.1 and 6.1). In each table
-- `flushed` is how many of them a flush may send; a row without it is of a turn without a flush.
use Rattle.std.specs.Prelude.{ℕ, ℤ, ◌+◌, max, true, false, None, Some, if◌then◌else◌}
use Rattle.dcsctp_spec_lemmas.specs.types.declared.options.Options.{Options}
use Rattle.dcsctp_spec_lemmas.specs.wire.Content.{data_chunk, sack_chunk, i_data_chunk, forward_tsn_chunk, i_forward_tsn_chunk}
use Rattle.dcsctp_spec_lemmas.specs.spec.Packet.{Plain, unknown, heartbeat, heartbeat_ack, unworked, Content, init, init_ack, cookie_echo, cookie_ack, re_config, abort, shutdown, shutdown_ack, shutdown_complete, plain}
use Rattle.dcsctp_spec_lemmas.specs.spec.endpoint.Endpoint.{Core, closed, cookie_wait, cookie_echoed}
use Rattle.dcsctp_spec_lemmas.specs.spec.endpoint.Turn.{Input, arrival, refusal, packet_begins, chunk_input, packet_ends, act_input, user_sets, user_sends, user_resets, user_takes, timer_expires, time_passes, restores}
use Rattle.dcsctp_spec_lemmas.specs.spec.association.Acts.{Act, connect, t1_expires, shut_down, step_of_shutdown, shutdown_repeats, abort_with, hands_over, flushes, request_again, request_renewed}
use Rattle.dcsctp_spec_lemmas.specs.spec.endpoint.FlushOutcomes.{packets_allowed}
use Rattle.dcsctp_spec_lemmas.specs.spec.endpoint.OwnTimers.{OwnTimer, acknowledgement_delay, retransmission, heartbeat_interval, heartbeat_timeout, reconfiguration}

-- ---- a flush

-- As many as `max_burst` allows: none if it is 0 or below, and one while the COOKIE ECHO isn't answered. Without a peer none.
abbrev pub flush_limit : ℤ → Core → ℕ
flush_limit max_burst closed = 0
flush_limit max_burst (cookie_wait my) = 0
flush_limit max_burst core = packets_allowed max_burst core

-- ---- chunks

abbrev pub packets_of_plain : Plain → ℕ → ℕ
-- SHUTDOWN or SHUTDOWN ACK if all is acknowledged now, or a fast retransmission; and a flush
packets_of_plain (unworked (sack_chunk sack)) flushed = 1 + flushed
-- ERROR for data without a payload, or ABORT for a chunk that wasn't negotiated
packets_of_plain (unworked (data_chunk chunk)) flushed = 1
packets_of_plain (unworked (i_data_chunk chunk)) flushed = 1
packets_of_plain (unworked (forward_tsn_chunk tsn streams)) flushed = 1
packets_of_plain (unworked (i_forward_tsn_chunk tsn streams)) flushed = 1
-- ERROR
packets_of_plain (unknown type flags value) flushed = 1
-- HEARTBEAT ACK
packets_of_plain (heartbeat parameters) flushed = 1
packets_of_plain (heartbeat_ack parameters) flushed = 0
packets_of_plain (unworked chunk) flushed = 0

abbrev pub packets_of_chunk : Options → Content → ℕ → ℕ
-- INIT ACK, or SHUTDOWN ACK again
packets_of_chunk options (init theirs) flushed = 1
-- a flush that begins with COOKIE ECHO
packets_of_chunk options (init_ack theirs (Some cookie)) flushed = flushed
-- ABORT, since there is no cookie
packets_of_chunk options (init_ack theirs None) flushed = 1
-- a flush that begins with COOKIE ACK; or SHUTDOWN ACK again with an ERROR, and no flush
packets_of_chunk options (cookie_echo cookie) flushed = max 1 flushed
packets_of_chunk options cookie_ack flushed = flushed
-- the answers, and a flush
packets_of_chunk options (re_config parameters) flushed = 1 + flushed
packets_of_chunk options (abort reflected causes) flushed = 0
-- SHUTDOWN ACK; by the RFC as many as after a SACK (RFC 9260, section 9.2)
packets_of_chunk options (shutdown cumulative_tsn) flushed = if options.follow_rfc then 1 + flushed else 1
-- SHUTDOWN COMPLETE
packets_of_chunk options shutdown_ack flushed = 1
packets_of_chunk options (shutdown_complete reflected) flushed = 0
packets_of_chunk options (plain chunk) flushed = packets_of_plain chunk flushed

-- ---- what the user and the timers bring

-- T1 expires with a restart left: INIT is sent again, or COOKIE ECHO as the first chunk of a flush.
abbrev pub packets_of_t1 : Core → ℕ → ℕ
packets_of_t1 (cookie_wait my) flushed = 1
packets_of_t1 (cookie_echoed my held cookie) flushed = flushed
packets_of_t1 core flushed = 0

abbrev pub packets_of_act : Core → Act → ℕ → ℕ
-- INIT
packets_of_act core connect flushed = 1
packets_of_act core (t1_expires true) flushed = packets_of_t1 core flushed
packets_of_act core (t1_expires false) flushed = 0
-- SHUTDOWN or SHUTDOWN ACK
packets_of_act core shut_down flushed = 1
packets_of_act core step_of_shutdown flushed = 1
packets_of_act core shutdown_repeats flushed = 1
-- ABORT
packets_of_act core (abort_with reason) flushed = 1
packets_of_act core hands_over flushed = 0
packets_of_act core flushes flushed = flushed
-- RE-CONFIG
packets_of_act core (request_again reset) flushed = 1
packets_of_act core (request_renewed reset) flushed = 1

abbrev pub packets_of_timer : OwnTimer → ℕ
packets_of_timer acknowledgement_delay = 0
packets_of_timer retransmission = 0
-- HEARTBEAT
packets_of_timer heartbeat_interval = 1
packets_of_timer heartbeat_timeout = 0
-- RE-CONFIG
packets_of_timer reconfiguration = 1

-- ---- every input

-- with these options, of an association that is this before the turn
abbrev pub packets_of : Options → Core → Input → ℕ → ℕ
packets_of options core arrival flushed = 0
packets_of options core (refusal text) flushed = 0
-- SHUTDOWN again, if data comes while it waits for its answer
packets_of options core (packet_begins contents) flushed = 1
packets_of options core (chunk_input tag content) flushed = packets_of_chunk options content flushed
packets_of options core packet_ends flushed = flushed
packets_of options core (act_input act) flushed = packets_of_act core act flushed
packets_of options core (user_sets setting) flushed = 0
packets_of options core (user_sends messages) flushed = flushed
packets_of options core (user_resets ids) flushed = flushed
packets_of options core user_takes flushed = 0
packets_of options core (timer_expires timer) flushed = packets_of_timer timer
packets_of options core (time_passes moment) flushed = 0
packets_of options core (restores state) flushed = 0
