-- Outside examples of what a socket does with a COOKIE ECHO, worked out by hand and computed by the
-- definitions: a wrong rule in specs/ would not check here.
use Rattle.std.proofs.Common.{◌≡◌, ℕ, true, false, None, List, [], ◌∷◌, refl, Some}
use Rattle.std.specs.Prelude.{pos, codes}
use Rattle.std.specs.Option.{option_map}
use Rattle.dcsctp_types.specs.wire.Content.{cookie_received_while_shutting_down, unknown_cause, error_chunk}
use Rattle.dcsctp_types.specs.wire.Spelling.{parameter_chunk_bytes, parameter_bytes}
use Rattle.dcsctp_types.specs.declared.association.Pair.{Pair}
use Rattle.dcsctp_types.specs.declared.association.Held.{Held}
use Rattle.dcsctp_types.specs.declared.kinds.ErrorKind.TheVariants.{ParseFailed, WrongSequence}
use Rattle.dcsctp_types.specs.declared.word.Word.TheVariants.{U64}
use Rattle.dcsctp_spec.specs.endpoint.Event.{connected, connection_restarted, error}
use Rattle.dcsctp_spec.specs.Cookie.{Cookie, cookie_of_bytes}
use Rattle.dcsctp_spec.specs.Packet.{cookie_ack, shutdown_ack, plain, unworked}
use Rattle.dcsctp_spec.specs.queues.SendQueue.{SendQueueState}
use Rattle.dcsctp_spec.specs.queues.Retransmission.{RetransmissionState}
use Rattle.dcsctp_spec.specs.queues.Transfer.{Transfer}
use Rattle.dcsctp_spec.specs.endpoint.EndOutcomes.{closed_after}
use Rattle.dcsctp_spec.specs.endpoint.Endpoint.{Endpoint, closed, cookie_wait, cookie_echoed, open_in, established, shutdown_received, shutdown_ack_sent, stopped_timers}
use Rattle.dcsctp_spec.specs.endpoint.Following.{next_chunk, dropped_rest}
use Rattle.dcsctp_spec.specs.association.Effect.{holds, connects}
use Rattle.dcsctp_spec.specs.endpoint.CookieEchoOutcomes.{window_by_cookie, cookie_echo_outcome}
use Rattle.dcsctp_spec.proofs.HandshakeTurnFacts.{configured, queue_renumbered, queue_at_start, socket, heartbeats_due, mine, held, transfer_begun, link, packet_of, by_rfc}

-- made by this socket under tag 7 for the INIT of a peer under tag 9, with this tie tag
abbrev own_cookie : ℕ → List ℕ
own_cookie tie =
    0x64 ∷ 0x63 ∷ 0x53 ∷ 0x43 ∷ 0x54 ∷ 0x50 ∷ 0x72 ∷ 0x30 ∷ 0 ∷ 0 ∷ 0 ∷ 9 ∷ 0 ∷ 0 ∷ 0 ∷ 7 ∷ 0 ∷ 0 ∷ 0 ∷ 200 ∷ 0 ∷ 0 ∷ 0 ∷ 100
    ∷ 0 ∷ 0 ∷ 5 ∷ 0xdc ∷ 0 ∷ 0 ∷ 0 ∷ 0 ∷ 0 ∷ 0 ∷ 0 ∷ tie ∷ 0 ∷ 1 ∷ 1 ∷ 0 ∷ 0 ∷ 0 ∷ 0 ∷ 1 ∷ 0 ∷ 40 ∷ 0 ∷ 30 ∷ 0 ∷ 0 ∷ 0 ∷ 1 ∷ 0x2a ∷ 0x05 ∷ 0xf2 ∷ 0 ∷ []

-- with this as the first TSN that isn't acknowledged
abbrev beginning_at : ℕ → Transfer → Transfer
beginning_at first_tsn transfer =
    let retransmission : RetransmissionState = transfer.retransmission in
    record transfer { retransmission = record retransmission { outstanding = record retransmission.outstanding { first_tsn = first_tsn } } }

-- established, with a heartbeat timeout that runs on; what waits to be sent is as given
abbrev made : Endpoint → SendQueueState → ℕ → Endpoint
made e waiting packets_sent =
    record (socket e 1191 (pos 4) (open_in established mine held) packets_sent) {
      tie = 55;
      heartbeat_sent = None;
      outstanding = None;
      renewable = None;
      timers = record stopped_timers { heartbeat_interval = heartbeats_due 35_000_000_000 30_000_000_000; heartbeat_timeout = e.timers.heartbeat_timeout };
      queues = record { queue = waiting; transfer = transfer_begun 1191 11910 4764 };
      left = [];
    }

-- ---- no peer is held

-- The message under way continues, under its next number. COOKIE ACK has no checksum, as both have the method.
echo_where_closed : (e : Endpoint) → cookie_echo_outcome (socket e 1191 (pos 4) closed 4) closed 7 (cookie_of_bytes (own_cookie 0)) 55
    ≡ record { words = U64 55 ∷ []; effects = holds link ∷ connects link ∷ []; after = made e queue_renumbered 5; events = connected ∷ packet_of false 9 (cookie_ack ∷ []) ∷ []; following = next_chunk }
unfolding cookie_of_bytes
echo_where_closed e = refl

-- By the RFC's rules it begins again.
echo_where_closed_by_rfc : (e : Endpoint) → (cookie_echo_outcome (by_rfc (socket e 1191 (pos 4) closed 4)) closed 7 (cookie_of_bytes (own_cookie 5)) 55).after.queues.queue ≡ queue_at_start
unfolding cookie_of_bytes
echo_where_closed_by_rfc e = refl

echo_under_wrong_tag : (e : Endpoint) → cookie_echo_outcome (socket e 1191 (pos 4) closed 4) closed 8 (cookie_of_bytes (own_cookie 0)) 55
    ≡ record { words = []; effects = []; after = socket e 1191 (pos 4) closed 4; events = error ParseFailed (codes "Received CookieEcho with invalid verification tag") ∷ []; following = dropped_rest }
unfolding cookie_of_bytes
echo_under_wrong_tag e = refl

echo_that_is_no_cookie : (e : Endpoint) → cookie_echo_outcome e closed 7 (cookie_of_bytes []) 55
    ≡ record { words = []; effects = []; after = e; events = error ParseFailed (codes "Invalid state cookie size") ∷ []; following = dropped_rest }
unfolding cookie_of_bytes
echo_that_is_no_cookie e = refl

-- The peer's window is no greater than what may wait to be sent.
window_is_limited : (e : Endpoint) (cookie : Cookie) → window_by_cookie (configured e.options 1191 (pos 4)) (record cookie { window = 2000001 }) ≡ 2000000
window_is_limited e cookie = refl

-- ---- a peer is held, and the tie tag is 77

-- other pairs than the cookie's
abbrev older : Pair
older = record { tag = 70; first_tsn = 700 }

abbrev older_held : Held
older_held = record held { peer = record { tag = 90; first_tsn = 900 } }

-- Both tags are other ones, and the tie tag is the association's. The message under way begins again.
echo_of_restart : (e : Endpoint) → cookie_echo_outcome (socket e 1191 (pos 4) (open_in established older older_held) 4) (open_in established older older_held) 7 (cookie_of_bytes (own_cookie 77)) 55
    ≡ record { words = U64 55 ∷ []; effects = holds link ∷ connects link ∷ []; after = made e queue_at_start 5; events = connection_restarted ∷ connected ∷ packet_of false 9 (cookie_ack ∷ []) ∷ []; following = next_chunk }
unfolding cookie_of_bytes
echo_of_restart e = refl

echo_of_unknown_restart : (e : Endpoint) → cookie_echo_outcome (socket e 1191 (pos 4) (open_in established older older_held) 4) (open_in established older older_held) 7 (cookie_of_bytes (own_cookie 76)) 55
    ≡ record { words = []; effects = []; after = socket e 1191 (pos 4) (open_in established older older_held) 4; events = error ParseFailed (codes "Received CookieEcho with invalid verification tag") ∷ []; following = dropped_rest }
unfolding cookie_of_bytes
echo_of_unknown_restart e = refl

-- SHUTDOWN ACK again, and an ERROR.
echo_of_restart_in_shutdown_ack_sent : (e : Endpoint) → cookie_echo_outcome (socket e 1191 (pos 4) (open_in shutdown_ack_sent older older_held) 4) (open_in shutdown_ack_sent older older_held) 7 (cookie_of_bytes (own_cookie 77)) 55
    ≡ record {
      words = [];
      effects = [];
      after = socket e 1191 (pos 4) (open_in shutdown_ack_sent older older_held) 5;
      events = packet_of false 90 (shutdown_ack ∷ plain (unworked (error_chunk (cookie_received_while_shutting_down ∷ []))) ∷ []) ∷ error WrongSequence (codes "Received COOKIE-ECHO while shutting down") ∷ [];
      following = dropped_rest;
    }
unfolding cookie_of_bytes
echo_of_restart_in_shutdown_ack_sent e = refl

-- The own tag with another peer tag: both began at the same time.
echo_of_both : (e : Endpoint) → cookie_echo_outcome (socket e 1191 (pos 4) (cookie_echoed mine older_held []) 4) (cookie_echoed mine older_held []) 7 (cookie_of_bytes (own_cookie 0)) 55
    ≡ record { words = U64 55 ∷ []; effects = holds link ∷ connects link ∷ []; after = made e queue_at_start 5; events = connected ∷ packet_of false 9 (cookie_ack ∷ []) ∷ []; following = next_chunk }
unfolding cookie_of_bytes
echo_of_both e = refl

-- By the RFC's rules what was sent to the one peer goes to the other, if nothing of it was acknowledged: it isn't begun again.
abbrev collides : Endpoint → ℕ → Endpoint
collides e first_tsn =
    record (by_rfc (socket e 1191 (pos 4) (cookie_echoed mine older_held []) 4)) {
      outstanding = None;
      queues = record { queue = queue_renumbered; transfer = option_map (beginning_at first_tsn) (transfer_begun 1191 11910 4764) };
    }

echo_of_both_by_rfc : (e : Endpoint) → (cookie_echo_outcome (collides e 100) (cookie_echoed mine older_held []) 7 (cookie_of_bytes (own_cookie 0)) 55).after.queues.queue ≡ queue_renumbered
unfolding cookie_of_bytes
echo_of_both_by_rfc e = refl

acknowledged_where_both_began : (e : Endpoint) → (cookie_echo_outcome (collides e 101) (cookie_echoed mine older_held []) 7 (cookie_of_bytes (own_cookie 0)) 55).after.queues.queue ≡ queue_at_start
unfolding cookie_of_bytes
acknowledged_where_both_began e = refl

-- Another own tag with the same peer tag, and a tie tag of 0: the cookie is of an attempt that is over.
echo_that_is_late : (e : Endpoint) → cookie_echo_outcome (socket e 1191 (pos 4) (cookie_echoed older held []) 4) (cookie_echoed older held []) 7 (cookie_of_bytes (own_cookie 0)) 55
    ≡ record { words = []; effects = []; after = socket e 1191 (pos 4) (cookie_echoed older held []) 4; events = []; following = dropped_rest }
unfolding cookie_of_bytes
echo_that_is_late e = refl

-- The association that is held is connected, and no word is drawn.
echo_in_cookie_echoed : (e : Endpoint) → cookie_echo_outcome (socket e 1191 (pos 4) (cookie_echoed mine held []) 4) (cookie_echoed mine held []) 7 (cookie_of_bytes (own_cookie 0)) 55
    ≡ record {
      words = [];
      effects = connects link ∷ [];
      after = record (socket e 1191 (pos 4) (open_in established mine held) 5) { timers = record e.timers { t1 = None; heartbeat_interval = heartbeats_due 35_000_000_000 30_000_000_000 } };
      events = connected ∷ packet_of false 9 (cookie_ack ∷ []) ∷ [];
      following = next_chunk;
    }
unfolding cookie_of_bytes
echo_in_cookie_echoed e = refl

-- COOKIE ACK alone, in any phase.
echo_in_shutdown_received : (e : Endpoint) → cookie_echo_outcome (socket e 1191 (pos 4) (open_in shutdown_received mine held) 4) (open_in shutdown_received mine held) 7 (cookie_of_bytes (own_cookie 0)) 55
    ≡ record { words = []; effects = []; after = socket e 1191 (pos 4) (open_in shutdown_received mine held) 5; events = packet_of false 9 (cookie_ack ∷ []) ∷ []; following = next_chunk }
unfolding cookie_of_bytes
echo_in_shutdown_received e = refl

echo_under_burst_0 : (e : Endpoint) → cookie_echo_outcome (socket e 1191 (pos 0) (open_in established mine held) 4) (open_in established mine held) 7 (cookie_of_bytes (own_cookie 0)) 55
    ≡ record { words = []; effects = []; after = socket e 1191 (pos 0) (open_in established mine held) 4; events = []; following = next_chunk }
unfolding cookie_of_bytes
echo_under_burst_0 e = refl

-- ---- the age of a cookie of 5 s, where the lifetime is 60 s

-- One that is 60 s old makes an association,
echo_in_time : (e : Endpoint) → (cookie_echo_outcome (record (socket e 1191 (pos 4) closed 4) { moment = 65_000_000_000 }) closed 7 (cookie_of_bytes (own_cookie 0)) 55).effects ≡ holds link ∷ connects link ∷ []
unfolding cookie_of_bytes
echo_in_time e = refl

-- and one that is a nanosecond older doesn't.
echo_that_is_stale : (e : Endpoint) → let late : Endpoint = record (socket e 1191 (pos 4) closed 4) { moment = 65_000_000_001 } in
    cookie_echo_outcome late closed 7 (cookie_of_bytes (own_cookie 0)) 55
    ≡ record { words = []; effects = []; after = late; events = error ParseFailed (codes "Stale state cookie") ∷ []; following = dropped_rest }
unfolding cookie_of_bytes
echo_that_is_stale e = refl

-- ---- one that this socket didn't make, where there is no association

-- By the RFC's rules it bears another tie tag than the secret,
forged_echo : (e : Endpoint) → cookie_echo_outcome (by_rfc (socket e 1191 (pos 4) closed 4)) closed 7 (cookie_of_bytes (own_cookie 6)) 55
    ≡ record {
      words = [];
      effects = [];
      after = by_rfc (socket e 1191 (pos 4) closed 5);
      events = error ParseFailed (codes "Stale state cookie") ∷ packet_of true 9 (plain (unworked (error_chunk (unknown_cause 3 (0 ∷ 0 ∷ 0 ∷ 0 ∷ []) ∷ []))) ∷ []) ∷ [];
      following = dropped_rest;
    }
unfolding cookie_of_bytes parameter_chunk_bytes parameter_bytes
forged_echo e = refl

-- also while an INIT ACK is awaited,
forged_while_waiting : (e : Endpoint) → (cookie_echo_outcome (by_rfc (socket e 1191 (pos 4) closed 4)) (cookie_wait older) 7 (cookie_of_bytes (own_cookie 0)) 55).effects ≡ []
unfolding cookie_of_bytes parameter_chunk_bytes parameter_bytes
forged_while_waiting e = refl

-- and so is any while no pair was drawn.
forged_at_once : (e : Endpoint) → (cookie_echo_outcome (record (by_rfc (socket e 1191 (pos 4) closed 4)) { secret = 0 }) closed 7 (cookie_of_bytes (own_cookie 0)) 55).effects ≡ []
unfolding cookie_of_bytes parameter_chunk_bytes parameter_bytes
forged_at_once e = refl

-- ---- the last association had this own tag

abbrev after_7 : Endpoint → Endpoint
after_7 e = record (socket e 1191 (pos 4) closed 4) { last_tag = Some 7 }

-- By the RFC's rules a cookie under it makes no other,
echo_of_the_last : (e : Endpoint) → cookie_echo_outcome (by_rfc (after_7 e)) closed 7 (cookie_of_bytes (own_cookie 5)) 55
    ≡ record {
      words = [];
      effects = [];
      after = by_rfc (record (socket e 1191 (pos 4) closed 5) { last_tag = Some 7 });
      events = error ParseFailed (codes "Stale state cookie") ∷ packet_of true 9 (plain (unworked (error_chunk (unknown_cause 3 (0 ∷ 0 ∷ 0 ∷ 0 ∷ []) ∷ []))) ∷ []) ∷ [];
      following = dropped_rest;
    }
unfolding cookie_of_bytes parameter_chunk_bytes parameter_bytes
echo_of_the_last e = refl

-- nor while an INIT ACK is awaited. By the port it does.
echo_of_the_last_while_waiting : (e : Endpoint) → (cookie_echo_outcome (by_rfc (after_7 e)) (cookie_wait older) 7 (cookie_of_bytes (own_cookie 5)) 55).effects ≡ []
unfolding cookie_of_bytes parameter_chunk_bytes parameter_bytes
echo_of_the_last_while_waiting e = refl

echo_of_the_last_by_port : (e : Endpoint) → (cookie_echo_outcome (after_7 e) closed 7 (cookie_of_bytes (own_cookie 0)) 55).effects ≡ holds link ∷ connects link ∷ []
unfolding cookie_of_bytes
echo_of_the_last_by_port e = refl

-- Which tag that is: an attempt that had no peer leaves the one before.
leaves_its_tag : (e : Endpoint) → (closed_after (record e { core = open_in established mine held; last_tag = Some 5 })).last_tag ≡ Some 7
leaves_its_tag e = refl

leaves_the_one_before : (e : Endpoint) → (closed_after (record e { core = cookie_wait mine; last_tag = Some 5 })).last_tag ≡ Some 5
leaves_the_one_before e = refl

-- ---- a restart where the cookie is stale

-- No packet goes out where it is a restart and a SHUTDOWN ACK waits for its answer.
stale_restart_in_shutdown_ack_sent : (e : Endpoint)
    → let late : Endpoint = record (socket e 1191 (pos 4) (open_in shutdown_ack_sent older older_held) 4) { moment = 65_000_000_001 } in
    cookie_echo_outcome late (open_in shutdown_ack_sent older older_held) 7 (cookie_of_bytes (own_cookie 77)) 55
    ≡ record { words = []; effects = []; after = late; events = error ParseFailed (codes "Stale state cookie") ∷ []; following = dropped_rest }
unfolding cookie_of_bytes
stale_restart_in_shutdown_ack_sent e = refl

-- That of the existing association is acknowledged at any age.
old_echo_of_existing : (e : Endpoint) → (cookie_echo_outcome (record (socket e 1191 (pos 4) (open_in shutdown_received mine held) 4) { moment = 3_600_000_000_000 }) (open_in shutdown_received mine held) 7 (cookie_of_bytes (own_cookie 0)) 55).events
    ≡ packet_of false 9 (cookie_ack ∷ []) ∷ []
unfolding cookie_of_bytes
old_echo_of_existing e = refl

-- A clock that is before the cookie's moment gives no age.
echo_of_later_moment : (e : Endpoint) → (cookie_echo_outcome (record (socket e 1191 (pos 4) closed 4) { moment = 0 }) closed 7 (cookie_of_bytes (own_cookie 0)) 55).effects ≡ holds link ∷ connects link ∷ []
unfolding cookie_of_bytes
echo_of_later_moment e = refl
