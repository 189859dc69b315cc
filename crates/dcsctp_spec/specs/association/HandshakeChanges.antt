-- What the handshake does to the association: connect, INIT, INIT ACK, COOKIE ACK and T1 (RFC 9260, sections
-- 5.1 and 5.2). COOKIE ECHO has a file of its own.
use Rattle.std.specs.Prelude.{◌≡◌, ℕ, ◌+◌, ◌-◌, ◌%◌, ◌^◌, Bool, true, false, Option, None, Some, List, [], ◌∷◌, Ok}
use Rattle.dcsctp_types.specs.declared.association.Pair.{Pair}
use Rattle.dcsctp_types.specs.declared.association.Held.{Held}
use Rattle.dcsctp_types.specs.declared.capabilities.Capabilities.{Capabilities}
use Rattle.dcsctp_types.specs.declared.options.Options.{Options}
use Rattle.dcsctp_types.specs.wire.declared.reconfiguration.ReconfigurationResponseResult.TheVariants.{SuccessNothingToDo}
use Rattle.dcsctp_types.specs.wire.Numbers.{state_cookie_type}
use Rattle.dcsctp_types.specs.Offer.{offer_of, answering_offer, negotiated_capabilities}
use Rattle.dcsctp_spec.specs.Cookie.{Cookie, cookie_of_bytes}
use Rattle.dcsctp_spec.specs.endpoint.Cause.{missing_mandatory_parameter}
use Rattle.dcsctp_spec.specs.Packet.{Introduction, init, init_ack, cookie_echo, abort, shutdown_ack}
use Rattle.dcsctp_spec.specs.endpoint.Endpoint.{Core, closed, cookie_wait, cookie_echoed, open_in, OpenPhase, established, shutdown_ack_sent}
use Rattle.dcsctp_spec.specs.endpoint.Following.{next_chunk}
use Rattle.dcsctp_spec.specs.association.Effect.{Effect, draws, holds, connects, Change, no_change, ending_change, emission_effects, emitted_alone, identity_of}
use Rattle.dcsctp_spec.specs.association.Choices.{Filling, Choices}
use Rattle.dcsctp_spec.specs.association.FlushChanges.{FlushResult, flush}

-- what a socket says of itself in an INIT
abbrev pub introduction_of : Options → Pair → Introduction
introduction_of options mine = record { pair = mine; offer = offer_of options; window = options.max_receiver_window_buffer_size }

-- and in the INIT ACK that answers this INIT
abbrev pub answering_introduction : Options → Introduction → Pair → Introduction
answering_introduction options theirs mine =
    record { pair = mine; offer = answering_offer theirs.offer (offer_of options); window = options.max_receiver_window_buffer_size }

-- What an association starts with. Its own next number is its own first TSN. The peer's last number is that before its first TSN,
-- as if it had been answered 'nothing to do' (RFC 6525, section 4.1).
abbrev pub new_held : Pair → Pair → Capabilities → Held
new_held my peer capabilities =
    record {
      peer = peer;
      capabilities = capabilities;
      own_next = my.first_tsn;
      own_outstanding = None;
      peer_last = (peer.first_tsn + (2 ^ 32 - 1)) % 2 ^ 32;
      peer_result = SuccessNothingToDo;
    }

-- ---- connect

-- INIT is sent under tag 0.
abbrev pub sends_init : Options → Pair → Bool → List Effect
sends_init options mine fits = emitted_alone fits 0 (init (introduction_of options mine))

abbrev pub connect_change : Options → Core → Choices → Change
connect_change options closed choices =
    record { core = cookie_wait choices.drawn; effects = draws choices.drawn ∷ sends_init options choices.drawn choices.fits; following = next_chunk }
connect_change options core choices = no_change core

-- ---- INIT

-- the pair in the answer: its own while the handshake is under way, else one that is drawn
abbrev pub answering_pair : Core → Pair → Pair
answering_pair closed drawn = drawn
answering_pair (cookie_wait my) drawn = my
answering_pair (cookie_echoed my held cookie) drawn = my
answering_pair (open_in phase my held) drawn = drawn

-- The cookie reads back as what its maker put in.
abbrev pub IsCookieOf : Introduction → Pair → List ℕ → Type 0
IsCookieOf theirs mine bytes =
    (cookie : Cookie) × (cookie_of_bytes bytes ≡ Ok cookie) × (cookie.maker ≡ mine) × (cookie.addressee ≡ theirs.pair) × (cookie.offer ≡ theirs.offer)

-- INIT ACK is sent under the initiate tag of the INIT.
abbrev pub sends_init_ack : Options → Introduction → Pair → Choices → List Effect
sends_init_ack options theirs mine choices =
    emitted_alone choices.fits theirs.pair.tag (init_ack (answering_introduction options theirs mine) (Some choices.cookie))

-- a pair is drawn for the answer
abbrev pub drawn_answer_change : Options → Core → Introduction → Choices → Change
drawn_answer_change options core theirs choices =
    record { core = core; effects = draws choices.drawn ∷ sends_init_ack options theirs choices.drawn choices; following = next_chunk }

abbrev pub init_change_where_open : Options → Core → Introduction → OpenPhase → Held → Choices → Change
init_change_where_open options core theirs shutdown_ack_sent held choices =
    record { core = core; effects = emission_effects held.peer.tag (shutdown_ack ∷ []); following = next_chunk }
init_change_where_open options core theirs phase held choices = drawn_answer_change options core theirs choices

-- The association is unchanged in every phase.
abbrev pub init_change : Options → Core → Introduction → Choices → Change
init_change options closed theirs choices = drawn_answer_change options closed theirs choices
init_change options (cookie_wait my) theirs choices =
    record { core = cookie_wait my; effects = sends_init_ack options theirs my choices; following = next_chunk }
init_change options (cookie_echoed my held cookie) theirs choices =
    record { core = cookie_echoed my held cookie; effects = sends_init_ack options theirs my choices; following = next_chunk }
init_change options (open_in phase my held) theirs choices = init_change_where_open options (open_in phase my held) theirs phase held choices

-- by whether it is answered
abbrev pub answered_init_change : Bool → Options → Core → Introduction → Choices → Change
answered_init_change false options core theirs choices = no_change core
answered_init_change true options core theirs choices = init_change options core theirs choices

-- ---- INIT ACK

-- COOKIE ECHO is sent under the peer's tag; if it doesn't fit, nothing is sent.
abbrev pub echo_change : Pair → Held → List ℕ → Bool → Filling → Change
echo_change my held cookie false filling = record { core = cookie_echoed my held cookie; effects = []; following = next_chunk }
echo_change my held cookie true filling =
    let after : FlushResult = flush held.peer.tag held (cookie_echo cookie ∷ []) filling in
    record { core = cookie_echoed my after.held cookie; effects = after.effects; following = next_chunk }

-- the peer that an INIT ACK shows
abbrev pub held_by_init_ack : Options → Pair → Introduction → Held
held_by_init_ack options my theirs = new_held my theirs.pair (negotiated_capabilities (offer_of options) theirs.offer)

-- INIT ACK counts only in CookieWait. One without a cookie ends the association (RFC 9260, section 3.3.3).
abbrev pub init_ack_change : Options → Core → Introduction → Option (List ℕ) → Choices → Change
init_ack_change options (cookie_wait my) theirs None choices =
    ending_change (emitted_alone choices.fits theirs.pair.tag (abort false (missing_mandatory_parameter (state_cookie_type ∷ []) ∷ [])))
init_ack_change options (cookie_wait my) theirs (Some cookie) choices =
    let held : Held = held_by_init_ack options my theirs in
    let echoed : Change = echo_change my held cookie choices.fits choices.filling in
    record echoed { effects = holds (identity_of my held) ∷ echoed.effects }
init_ack_change options core theirs cookie choices = no_change core

-- ---- COOKIE ACK

-- COOKIE ACK counts only in CookieEchoed (RFC 9260, section 5.2.5).
abbrev pub cookie_ack_change : Core → Choices → Change
cookie_ack_change (cookie_echoed my held cookie) choices =
    let after : FlushResult = flush held.peer.tag held [] choices.filling in
    record { core = open_in established my after.held; effects = connects (identity_of my held) ∷ after.effects; following = next_chunk }
cookie_ack_change core choices = no_change core

-- ---- T1

-- T1 expired with restarts left: INIT or COOKIE ECHO again.
abbrev pub t1_again_change : Options → Core → Choices → Change
t1_again_change options (cookie_wait my) choices = record { core = cookie_wait my; effects = sends_init options my choices.fits; following = next_chunk }
t1_again_change options (cookie_echoed my held cookie) choices = echo_change my held cookie choices.fits choices.filling
t1_again_change options core choices = no_change core

-- T1 expired with no restart left: the association ends.
abbrev pub t1_gives_up_change : Core → Change
t1_gives_up_change (cookie_wait my) = ending_change []
t1_gives_up_change (cookie_echoed my held cookie) = ending_change []
t1_gives_up_change core = no_change core
