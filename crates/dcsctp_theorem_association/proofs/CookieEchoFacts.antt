-- Outside examples of the table of RFC 9260, section 5.2.4, and of a cookie's age, computed by the
-- definitions: which case a COOKIE ECHO is, and which change nothing. A wrong rule in specs/ would
-- not check here.
use Rattle.std.proofs.Common.{◌≡◌, ℕ, true, false, [], ◌∷◌, ◌++◌, refl}
use Rattle.std.specs.Prelude.{codes, replicate}
use Rattle.dcsctp_spec_lemmas.specs.wire.Content.{cookie_received_while_shutting_down}
use Rattle.dcsctp_spec_lemmas.specs.types.declared.options.Options.{Options}
use Rattle.dcsctp_spec_lemmas.specs.spec.Cookie.{Cookie, cookie_bytes, cookie_of_bytes, cookie_moment}
use Rattle.dcsctp_spec_lemmas.specs.spec.Packet.{cookie_ack, shutdown_ack, plain, error_of}
use Rattle.dcsctp_spec_lemmas.specs.spec.endpoint.Endpoint.{Core, closed, cookie_wait, cookie_echoed, established, shutdown_sent, shutdown_ack_sent, open_in}
use Rattle.dcsctp_spec_lemmas.specs.spec.endpoint.Following.{next_chunk, dropped_rest}
use Rattle.dcsctp_spec_lemmas.specs.spec.association.Effect.{sends, holds, connects, Change}
use Rattle.dcsctp_spec_lemmas.specs.spec.association.CookieEchoChanges.{Resolution, establish_new, restart, simultaneous_init, discard, maintain_existing, invalid_tag, stale, aged_resolution, resolve, cookie_echo_change}
use Rattle.dcsctp_theorem_association.proofs.Schedules.{link, new, packet, cookie, configured, with_tie}
use Rattle.dcsctp_theorem_association.proofs.ScheduleFacts.{one, two, new_one, new_two}

-- the association of the pair two with the peer one; its tie tag is 12 below
abbrev where_open : Core
where_open = open_in established two (new one 200 99)

abbrev where_echoed : Core
where_echoed = cookie_echoed two (new one 200 99) []

-- ---- the age of a cookie

-- A stale one makes no association.
stale_establish_new : aged_resolution true establish_new ≡ stale
stale_establish_new = refl

stale_restart : aged_resolution true restart ≡ stale
stale_restart = refl

stale_simultaneous_init : aged_resolution true simultaneous_init ≡ stale
stale_simultaneous_init = refl

-- Where none would be made, its age is no matter.
stale_discard : aged_resolution true discard ≡ discard
stale_discard = refl

stale_maintain_existing : aged_resolution true maintain_existing ≡ maintain_existing
stale_maintain_existing = refl

stale_invalid_tag : aged_resolution true invalid_tag ≡ invalid_tag
stale_invalid_tag = refl

fresh_in_each_case : (resolution : Resolution) → aged_resolution false resolution ≡ resolution
fresh_in_each_case resolution = refl

-- The last moment that a cookie can say, and the next two.
last_moment : cookie_moment 18_446_744_073_709_551_615 ≡ 18_446_744_073_709_551_615
last_moment = refl

next_moment : cookie_moment 18_446_744_073_709_551_616 ≡ 18_446_744_073_709_551_615
next_moment = refl

later_moment : cookie_moment 18_446_744_073_709_551_617 ≡ 18_446_744_073_709_551_615
later_moment = refl

-- ---- the rows of the table

-- A: no tag is that of the association, and the tie tag is.
row_a : resolve where_open 12 0 19 (cookie new_two new_one 12) ≡ restart
row_a = refl

-- B: only our own tag matches, with any tie tag
row_b : (tie : ℕ) → resolve where_open 12 0 9 (cookie two new_one tie) ≡ simultaneous_init
row_b tie = refl

-- B where the peer's tag isn't known yet
row_b_without_peer : (tie : ℕ) → resolve (cookie_wait two) 0 0 9 (cookie two one tie) ≡ establish_new
row_b_without_peer tie = refl

-- C: the peer's tag alone, with no tie tag
row_c : resolve where_open 12 0 19 (cookie new_two one 0) ≡ discard
row_c = refl

-- D: both tags, with any tie tag
row_d : (tie : ℕ) → resolve where_open 12 0 9 (cookie two one tie) ≡ maintain_existing
row_d tie = refl

-- What is in no row is dropped.
another_tie_tag : resolve where_open 12 0 19 (cookie new_two new_one 13) ≡ invalid_tag
another_tie_tag = refl

no_tag_and_no_tie_tag : resolve where_open 12 0 19 (cookie new_two new_one 0) ≡ invalid_tag
no_tag_and_no_tie_tag = refl

peer_tag_and_tie_tag : resolve where_open 12 0 19 (cookie new_two one 12) ≡ invalid_tag
peer_tag_and_tie_tag = refl

peer_tag_and_another_tie_tag : resolve where_open 12 0 19 (cookie new_two one 13) ≡ invalid_tag
peer_tag_and_another_tie_tag = refl

-- The rows hold while COOKIE ACK is awaited.
row_a_where_echoed : resolve where_echoed 12 0 19 (cookie new_two new_one 12) ≡ restart
row_a_where_echoed = refl

row_b_where_echoed : (tie : ℕ) → resolve where_echoed 12 0 9 (cookie two new_one tie) ≡ simultaneous_init
row_b_where_echoed tie = refl

row_c_where_echoed : resolve where_echoed 12 0 19 (cookie new_two one 0) ≡ discard
row_c_where_echoed = refl

row_d_where_echoed : (tie : ℕ) → resolve where_echoed 12 0 9 (cookie two one tie) ≡ maintain_existing
row_d_where_echoed tie = refl

another_tie_tag_where_echoed : resolve where_echoed 12 0 19 (cookie new_two new_one 13) ≡ invalid_tag
another_tie_tag_where_echoed = refl

-- Where no peer is held, the header tag is that of the cookie's maker.
own_cookie_where_closed : resolve closed 0 0 9 (cookie two one 0) ≡ establish_new
own_cookie_where_closed = refl

wrong_tag_where_closed : resolve closed 0 0 8 (cookie two one 0) ≡ invalid_tag
wrong_tag_where_closed = refl

wrong_tag_in_cookie_wait : resolve (cookie_wait two) 0 0 8 (cookie two one 0) ≡ invalid_tag
wrong_tag_in_cookie_wait = refl

-- ---- the turns that change nothing: no COOKIE ACK is sent, and the rest of the packet is dropped

-- a COOKIE ECHO under this tag, where the tie tag is 12
abbrev echo : Options → Core → ℕ → Cookie → Change
echo options core header the_cookie = cookie_echo_change (configured options) core header (cookie_bytes the_cookie) (with_tie 12)

abbrev nothing_from : Core → Change
nothing_from core = record { core = core; effects = []; following = dropped_rest }

discarded : (a : Options) → echo a where_open 19 (cookie new_two one 0) ≡ nothing_from where_open
unfolding cookie_bytes cookie_of_bytes
discarded a = refl

discarded_where_echoed : (a : Options) → echo a where_echoed 19 (cookie new_two one 0) ≡ nothing_from where_echoed
unfolding cookie_bytes cookie_of_bytes
discarded_where_echoed a = refl

dropped_for_tag : (a : Options) → echo a where_open 19 (cookie new_two one 12) ≡ nothing_from where_open
unfolding cookie_bytes cookie_of_bytes
dropped_for_tag a = refl

dropped_for_tie_tag : (a : Options) → echo a where_open 19 (cookie new_two new_one 13) ≡ nothing_from where_open
unfolding cookie_bytes cookie_of_bytes
dropped_for_tie_tag a = refl

dropped_where_closed : (a : Options) → echo a closed 8 (cookie two one 0) ≡ nothing_from closed
unfolding cookie_bytes cookie_of_bytes
dropped_where_closed a = refl

dropped_in_cookie_wait : (a : Options) → echo a (cookie_wait two) 8 (cookie two one 0) ≡ nothing_from (cookie_wait two)
unfolding cookie_bytes cookie_of_bytes
dropped_in_cookie_wait a = refl

-- Bytes that are no cookie, in every phase: none, 56 bytes without the magic, and a cookie whose maker has no tag.
no_bytes : (a : Options) (core : Core) → cookie_echo_change (configured a) core 9 [] (with_tie 12) ≡ nothing_from core
unfolding cookie_of_bytes
no_bytes a core = refl

no_magic : (a : Options) (core : Core) → cookie_echo_change (configured a) core 9 (replicate 56 1) (with_tie 12) ≡ nothing_from core
unfolding cookie_of_bytes
no_magic a core = refl

no_maker_tag : (a : Options) (core : Core) → cookie_echo_change (configured a) core 0 (codes "dcSCTPr0" ++ replicate 4 1 ++ replicate 4 0 ++ replicate 40 1) (with_tie 12) ≡ nothing_from core
unfolding cookie_of_bytes
no_maker_tag a core = refl

-- ---- the turns that don't

-- A restart is refused where SHUTDOWN ACK was sent, and only there: SHUTDOWN ACK and ERROR go out.
restart_where_ending : (a : Options) → echo a (open_in shutdown_ack_sent two (new one 200 99)) 19 (cookie new_two new_one 12)
    ≡ record {
      core = open_in shutdown_ack_sent two (new one 200 99);
      effects = sends (record { tag = 7; contents = shutdown_ack ∷ plain (error_of (cookie_received_while_shutting_down ∷ [])) ∷ [] }) ∷ [];
      following = dropped_rest;
    }
unfolding cookie_bytes cookie_of_bytes
restart_where_ending a = refl

restart_where_shutting_down : (a : Options) → echo a (open_in shutdown_sent two (new one 200 99)) 19 (cookie new_two new_one 12)
    ≡ record {
      core = open_in established new_two (new new_one 1000200 299);
      effects = holds (link new_two new_one) ∷ connects (link new_two new_one) ∷ sends (packet 17 cookie_ack) ∷ [];
      following = next_chunk;
    }
unfolding cookie_bytes cookie_of_bytes
restart_where_shutting_down a = refl

-- COOKIE ACK once more, and no phase changes.
echo_where_shutting_down : (a : Options) → echo a (open_in shutdown_sent two (new one 200 99)) 9 (cookie two one 0)
    ≡ record { core = open_in shutdown_sent two (new one 200 99); effects = sends (packet 7 cookie_ack) ∷ []; following = next_chunk }
unfolding cookie_bytes cookie_of_bytes
echo_where_shutting_down a = refl
