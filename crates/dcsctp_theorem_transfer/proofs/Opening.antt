-- Which turns open an association, and which drop the rest of a packet.
use Rattle.std.proofs.Common.{◌≡◌, ℕ, Bool, true, false, Option, None, Some, Result, Ok, Err, List, [], ◌⊎◌, inl, inr, refl}
use Rattle.std.specs.Prelude.{if◌then◌else◌}
use Rattle.dcsctp_spec_lemmas.specs.types.declared.options.Options.{Options}
use Rattle.dcsctp_spec_lemmas.specs.spec.Cookie.{Cookie, cookie_of_bytes}
use Rattle.dcsctp_spec_lemmas.specs.spec.Packet.{Introduction, Content, init, init_ack, cookie_echo, cookie_ack, re_config, abort, shutdown, shutdown_ack, shutdown_complete, plain}
use Rattle.dcsctp_spec_lemmas.specs.spec.Reconfiguration.{ResetParameter}
use Rattle.dcsctp_spec_lemmas.specs.spec.association.Acts.{Act, connect, t1_expires, shut_down, step_of_shutdown, shutdown_repeats, abort_with, hands_over, flushes, request_again, request_renewed, act_change, chunk_change}
use Rattle.dcsctp_spec_lemmas.specs.spec.association.Choices.{Choices, Filling}
use Rattle.dcsctp_spec_lemmas.specs.spec.association.CookieEchoChanges.{Resolution, establish_new, restart, simultaneous_init, discard, maintain_existing, invalid_tag, stale, resolved_change, read_echo_change, aged_resolution, resolve}
use Rattle.dcsctp_spec_lemmas.specs.spec.association.Effect.{Change, ending_change, no_change}
use Rattle.dcsctp_spec_lemmas.specs.spec.association.HandshakeChanges.{echo_change, init_ack_change, held_by_init_ack}
use Rattle.dcsctp_spec_lemmas.specs.spec.association.ResetChanges.{echoed_re_config_change}
use Rattle.dcsctp_spec_lemmas.specs.spec.association.ShutdownChanges.{shutdown_call_change_echoed, is_ended_by_abort}
use Rattle.dcsctp_spec_lemmas.specs.types.declared.association.Held.{Held}
use Rattle.dcsctp_spec_lemmas.specs.types.declared.association.Pair.{Pair}
use Rattle.dcsctp_spec_lemmas.specs.spec.endpoint.Endpoint.{Core, closed, cookie_wait, cookie_echoed, open_in, established, shutdown_pending, shutdown_sent, shutdown_received, shutdown_ack_sent}
use Rattle.dcsctp_spec_lemmas.specs.spec.endpoint.Following.{next_chunk, dropped_rest}
use Rattle.dcsctp_theorem_transfer.specs.Deadlines.{IsOpen}

-- ---- acts

again_echoes : (b : Bool) (my : Pair) (held : Held) (cookie : List ℕ) (filling : Filling) → IsOpen (echo_change my held cookie b filling).core → ⊥
again_echoes true my held cookie filling is = is
again_echoes false my held cookie filling is = is

call_waits : (b : Bool) (my : Pair) (held : Held) (cookie : List ℕ) (tsn : ℕ) (acknowledged : Bool) → b ≡ true → IsOpen (shutdown_call_change_echoed b my held cookie tsn acknowledged).core → ⊥
call_waits true my held cookie tsn acknowledged follows is = is
call_waits false my held cookie tsn acknowledged follows is = absurd (cc)

-- With `follow_rfc` no call and no timer opens an association.
pub act_opens : (options : Options) (core : Core) (act : Act) (choices : Choices) → options.follow_rfc ≡ true → IsOpen (act_change options core act choices).core → IsOpen core
act_opens options (open_in phase my held) act choices follows is = tt
act_opens options closed connect choices follows is = is
act_opens options closed (t1_expires true) choices follows is = is
act_opens options closed (t1_expires false) choices follows is = is
act_opens options closed shut_down choices follows is = is
act_opens options closed step_of_shutdown choices follows is = is
act_opens options closed shutdown_repeats choices follows is = is
act_opens options closed (abort_with reason) choices follows is = is
act_opens options closed hands_over choices follows is = is
act_opens options closed flushes choices follows is = is
act_opens options closed (request_again reset) choices follows is = is
act_opens options closed (request_renewed reset) choices follows is = is
act_opens options (cookie_wait my) connect choices follows is = is
act_opens options (cookie_wait my) (t1_expires true) choices follows is = is
act_opens options (cookie_wait my) (t1_expires false) choices follows is = is
act_opens options (cookie_wait my) shut_down choices follows is = is
act_opens options (cookie_wait my) step_of_shutdown choices follows is = is
act_opens options (cookie_wait my) shutdown_repeats choices follows is = is
act_opens options (cookie_wait my) (abort_with reason) choices follows is = is
act_opens options (cookie_wait my) hands_over choices follows is = is
act_opens options (cookie_wait my) flushes choices follows is = is
act_opens options (cookie_wait my) (request_again reset) choices follows is = is
act_opens options (cookie_wait my) (request_renewed reset) choices follows is = is
act_opens options (cookie_echoed my held cookie) connect choices follows is = is
act_opens options (cookie_echoed my held cookie) (t1_expires true) choices follows is = again_echoes choices.fits my held cookie choices.filling is
act_opens options (cookie_echoed my held cookie) (t1_expires false) choices follows is = is
act_opens options (cookie_echoed my held cookie) shut_down choices follows is = call_waits options.follow_rfc my held cookie choices.tsn choices.is_acknowledged follows is
act_opens options (cookie_echoed my held cookie) step_of_shutdown choices follows is = is
act_opens options (cookie_echoed my held cookie) shutdown_repeats choices follows is = is
act_opens options (cookie_echoed my held cookie) (abort_with reason) choices follows is = is
act_opens options (cookie_echoed my held cookie) hands_over choices follows is = is
act_opens options (cookie_echoed my held cookie) flushes choices follows is = is
act_opens options (cookie_echoed my held cookie) (request_again reset) choices follows is = is
act_opens options (cookie_echoed my held cookie) (request_renewed reset) choices follows is = is

-- ---- chunks

-- The change of such a chunk says what follows.
abbrev pub IsDecided : Content → Type 0
IsDecided (plain chunk) = ⊥
IsDecided (init theirs) = ⊥
IsDecided shutdown_ack = ⊥
IsDecided content = Unit {0}

abbrev pub IsEcho : Content → Type 0
IsEcho (cookie_echo cookie) = Unit {0}
IsEcho content = ⊥

-- The association has ended. Or a COOKIE ECHO left it as it was.
abbrev pub EndsOrRests : Content → Core → Core → Type 0
EndsOrRests content old new = (new ≡ closed) ⊎ (IsEcho content × (new ≡ old))

-- So it is where this change drops the rest of a packet.
abbrev Drops : Content → Core → Change → Type 0
Drops content core change = change.following ≡ dropped_rest → EndsOrRests content core change.core

echo_goes : (b : Bool) (my : Pair) (held : Held) (cookie : List ℕ) (filling : Filling) → (echo_change my held cookie b filling).following ≡ next_chunk
echo_goes true my held cookie filling = refl
echo_goes false my held cookie filling = refl

init_ack_goes : (options : Options) (core : Core) (theirs : Introduction) (cookie : Option (List ℕ)) (choices : Choices) → Drops (init_ack theirs cookie) core (init_ack_change options core theirs cookie choices)
init_ack_goes options (cookie_wait my) theirs None choices is = inl refl
init_ack_goes options (cookie_wait my) theirs (Some cookie) choices is =
    absurd (let goes = echo_goes choices.fits my (held_by_init_ack options my theirs) cookie choices.filling in cc)
init_ack_goes options closed theirs None choices is = absurd (cc)
init_ack_goes options closed theirs (Some cookie) choices is = absurd (cc)
init_ack_goes options (cookie_echoed my held echoed) theirs None choices is = absurd (cc)
init_ack_goes options (cookie_echoed my held echoed) theirs (Some cookie) choices is = absurd (cc)
init_ack_goes options (open_in phase my held) theirs None choices is = absurd (cc)
init_ack_goes options (open_in phase my held) theirs (Some cookie) choices is = absurd (cc)

resolved_goes : (options : Options) (bytes : List ℕ) (core : Core) (cookie : Cookie) (choices : Choices) (resolution : Resolution)
    → Drops (cookie_echo bytes) core (resolved_change options core cookie choices resolution)
resolved_goes options bytes core cookie choices establish_new is = absurd (cc)
resolved_goes options bytes closed cookie choices restart is = absurd (cc)
resolved_goes options bytes (cookie_wait my) cookie choices restart is = absurd (cc)
resolved_goes options bytes (cookie_echoed my held echoed) cookie choices restart is = absurd (cc)
resolved_goes options bytes (open_in established my held) cookie choices restart is = absurd (cc)
resolved_goes options bytes (open_in shutdown_pending my held) cookie choices restart is = absurd (cc)
resolved_goes options bytes (open_in shutdown_sent my held) cookie choices restart is = absurd (cc)
resolved_goes options bytes (open_in shutdown_received my held) cookie choices restart is = absurd (cc)
resolved_goes options bytes (open_in shutdown_ack_sent my held) cookie choices restart is = inr (tt, refl)
resolved_goes options bytes core cookie choices simultaneous_init is = absurd (cc)
resolved_goes options bytes core cookie choices discard is = inr (tt, refl)
resolved_goes options bytes closed cookie choices maintain_existing is = absurd (cc)
resolved_goes options bytes (cookie_wait my) cookie choices maintain_existing is = absurd (cc)
resolved_goes options bytes (cookie_echoed my held echoed) cookie choices maintain_existing is = absurd (cc)
resolved_goes options bytes (open_in phase my held) cookie choices maintain_existing is = absurd (cc)
resolved_goes options bytes core cookie choices invalid_tag is = inr (tt, refl)
resolved_goes options bytes core cookie choices stale is = inr (tt, refl)

cookie_echo_goes : (options : Options) (bytes : List ℕ) (core : Core) (tag : ℕ) (found : Result Cookie (List ℕ)) (choices : Choices)
    → Drops (cookie_echo bytes) core (read_echo_change options core tag found choices)
cookie_echo_goes options bytes core tag (Err text) choices is = inr (tt, refl)
cookie_echo_goes options bytes core tag (Ok cookie) choices is =
    resolved_goes options bytes core cookie choices (aged_resolution choices.is_stale (resolve core choices.tie choices.secret tag cookie)) is

reset_goes : (b : Bool) (my : Pair) (held : Held) (cookie : List ℕ) (parameters : List ResetParameter) (choices : Choices) → (echoed_re_config_change b my held cookie parameters choices).following ≡ next_chunk
reset_goes true my held cookie parameters choices = refl
reset_goes false my held cookie parameters choices = refl

abort_goes : (b : Bool) (content : Content) (core : Core) → let change : Change = if b then ending_change [] else no_change core in Drops content core change
abort_goes true content core is = inl refl
abort_goes false content core is = absurd (cc)

pub chunk_goes : (options : Options) (core : Core) (tag : ℕ) (content : Content) (choices : Choices) → IsDecided content → Drops content core (chunk_change options core tag content choices)
chunk_goes options core tag (init theirs) choices may is = absurd may
chunk_goes options core tag (init_ack theirs cookie) choices may is = init_ack_goes options core theirs cookie choices is
chunk_goes options core tag (cookie_echo bytes) choices may is = cookie_echo_goes options bytes core tag (cookie_of_bytes bytes) choices is
chunk_goes options closed tag cookie_ack choices may is = absurd (cc)
chunk_goes options (cookie_wait my) tag cookie_ack choices may is = absurd (cc)
chunk_goes options (cookie_echoed my held cookie) tag cookie_ack choices may is = absurd (cc)
chunk_goes options (open_in phase my held) tag cookie_ack choices may is = absurd (cc)
chunk_goes options closed tag (re_config parameters) choices may is = absurd (cc)
chunk_goes options (cookie_wait my) tag (re_config parameters) choices may is = absurd (cc)
chunk_goes options (cookie_echoed my held cookie) tag (re_config parameters) choices may is =
    absurd (let goes = reset_goes options.follow_rfc my held cookie parameters choices in cc)
chunk_goes options (open_in phase my held) tag (re_config parameters) choices may is = absurd (cc)
chunk_goes options core tag (abort reflected causes) choices may is = abort_goes (is_ended_by_abort options core) (abort reflected causes) core is
chunk_goes options core tag (shutdown tsn) choices may is = absurd (cc)
chunk_goes options core tag shutdown_ack choices may is = absurd may
chunk_goes options closed tag (shutdown_complete reflected) choices may is = absurd (cc)
chunk_goes options (cookie_wait my) tag (shutdown_complete reflected) choices may is = absurd (cc)
chunk_goes options (cookie_echoed my held cookie) tag (shutdown_complete reflected) choices may is = absurd (cc)
chunk_goes options (open_in established my held) tag (shutdown_complete reflected) choices may is = absurd (cc)
chunk_goes options (open_in shutdown_pending my held) tag (shutdown_complete reflected) choices may is = absurd (cc)
chunk_goes options (open_in shutdown_sent my held) tag (shutdown_complete reflected) choices may is = absurd (cc)
chunk_goes options (open_in shutdown_received my held) tag (shutdown_complete reflected) choices may is = absurd (cc)
chunk_goes options (open_in shutdown_ack_sent my held) tag (shutdown_complete reflected) choices may is = inl refl
chunk_goes options core tag (plain chunk) choices may is = absurd may
