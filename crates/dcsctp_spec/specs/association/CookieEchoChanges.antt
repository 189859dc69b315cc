-- What a COOKIE ECHO does to the association (RFC 9260, section 5.2.4): which case it is, and what each does.
use Rattle.std.specs.Prelude.{◌==◌, ◌&&◌, ℕ, Bool, true, false, List, [], ◌∷◌, Result, Ok, Err}
use Rattle.dcsctp_types.specs.declared.association.Pair.{Pair}
use Rattle.dcsctp_types.specs.declared.association.Held.{Held}
use Rattle.dcsctp_types.specs.declared.options.Options.{Options}
use Rattle.dcsctp_types.specs.Offer.{offer_of, negotiated_capabilities}
use Rattle.dcsctp_spec.specs.Cookie.{Cookie, cookie_of_bytes}
use Rattle.dcsctp_spec.specs.endpoint.Cause.{cookie_received_while_shutting_down, stale_cookie}
use Rattle.dcsctp_spec.specs.Packet.{Content, cookie_ack, shutdown_ack, plain, error_of}
use Rattle.dcsctp_spec.specs.endpoint.Endpoint.{Core, closed, cookie_wait, cookie_echoed, open_in, OpenPhase, established, shutdown_ack_sent}
use Rattle.dcsctp_spec.specs.endpoint.Following.{next_chunk, dropped_rest}
use Rattle.dcsctp_spec.specs.association.Effect.{holds, connects, Change, no_change, rest_dropped, emission_effects, emitted_alone, identity_of}
use Rattle.dcsctp_spec.specs.association.Choices.{Choices}
use Rattle.dcsctp_spec.specs.association.FlushChanges.{FlushResult, flush}
use Rattle.dcsctp_spec.specs.association.HandshakeChanges.{new_held}

-- ---- which case

pub data Resolution : Type 0 where
  -- The peer isn't known: the association is made.
  establish_new : Resolution
  -- The peer restarted: both tags differ, and the tie tag is the association's.
  restart : Resolution
  -- Both sides began at the same time.
  simultaneous_init : Resolution
  -- The cookie is of an attempt that is over.
  discard : Resolution
  -- The association is the existing one.
  maintain_existing : Resolution
  invalid_tag : Resolution
  -- It would make an association, and its cookie is stale.
  stale : Resolution

-- The table of RFC 9260, section 5.2.4, if the peer is known, by four answers. Is the header tag its own tag, and is the cookie's
-- peer tag the peer's? Is its tie tag the association's, and is it the one that is borne where there is no association?
abbrev pub case_by_answers : Bool → Bool → Bool → Bool → Resolution
case_by_answers false false true untied = restart
case_by_answers false false false untied = invalid_tag
case_by_answers true false tie untied = simultaneous_init
case_by_answers false true tie true = discard
case_by_answers false true tie false = invalid_tag
case_by_answers true true tie untied = maintain_existing

-- If the peer isn't known, the header carries the tag that the cookie's maker had chosen.
abbrev pub case_without_peer : Bool → Resolution
case_without_peer true = establish_new
case_without_peer false = invalid_tag

abbrev pub case_with_peer : Pair → Held → ℕ → ℕ → ℕ → Cookie → Resolution
case_with_peer my held tie secret header cookie =
    case_by_answers (header == my.tag) (cookie.addressee.tag == held.peer.tag) (cookie.tie == tie) (cookie.tie == secret)

-- by the association, its tie tag and the one that is borne where there is none, the header tag and the cookie
abbrev pub resolve : Core → ℕ → ℕ → ℕ → Cookie → Resolution
resolve closed tie secret header cookie = case_without_peer (header == cookie.maker.tag)
resolve (cookie_wait my) tie secret header cookie = case_without_peer (header == cookie.maker.tag)
resolve (cookie_echoed my held echoed) tie secret header cookie = case_with_peer my held tie secret header cookie
resolve (open_in phase my held) tie secret header cookie = case_with_peer my held tie secret header cookie

-- A stale cookie makes no association; of the existing one its age says nothing.
abbrev pub aged_resolution : Bool → Resolution → Resolution
aged_resolution true establish_new = stale
aged_resolution true restart = stale
aged_resolution true simultaneous_init = stale
aged_resolution is_stale resolution = resolution

-- ---- what each does

-- the peer that a cookie shows
abbrev pub held_by_cookie : Options → Cookie → Held
held_by_cookie options cookie = new_held cookie.maker cookie.addressee (negotiated_capabilities (offer_of options) cookie.offer)

-- A new association: of the pairs in the cookie, with what was offered in the INIT that it answers. COOKIE ACK
-- is the first chunk of a flush.
abbrev pub new_association_change : Options → Cookie → Choices → Change
new_association_change options cookie choices =
    let held : Held = held_by_cookie options cookie in
    let after : FlushResult = flush cookie.addressee.tag held (cookie_ack ∷ []) choices.filling in
    record {
      core = open_in established cookie.maker after.held;
      effects = holds (identity_of cookie.maker held) ∷ connects (identity_of cookie.maker held) ∷ after.effects;
      following = next_chunk;
    }

-- ERROR with the cause Cookie Received While Shutting Down
abbrev pub shutting_down_error : Content
shutting_down_error = plain (error_of (cookie_received_while_shutting_down ∷ []))

-- A restart is refused once SHUTDOWN ACK was sent.
abbrev pub restart_change_where_open : Options → OpenPhase → Pair → Held → Cookie → Choices → Change
restart_change_where_open options shutdown_ack_sent my held cookie choices =
    record { core = open_in shutdown_ack_sent my held; effects = emission_effects held.peer.tag (shutdown_ack ∷ shutting_down_error ∷ []); following = dropped_rest }
restart_change_where_open options phase my held cookie choices = new_association_change options cookie choices

abbrev pub restart_change : Options → Core → Cookie → Choices → Change
restart_change options (open_in phase my held) cookie choices = restart_change_where_open options phase my held cookie choices
restart_change options core cookie choices = new_association_change options cookie choices

-- While its COOKIE ACK is awaited, the association is established; in every phase COOKIE ACK is sent.
abbrev pub maintain_change : Core → Cookie → Choices → Change
maintain_change (cookie_echoed my held echoed) cookie choices =
    let after : FlushResult = flush cookie.addressee.tag held (cookie_ack ∷ []) choices.filling in
    record { core = open_in established my after.held; effects = connects (identity_of my held) ∷ after.effects; following = next_chunk }
maintain_change (open_in phase my held) cookie choices =
    let after : FlushResult = flush cookie.addressee.tag held (cookie_ack ∷ []) choices.filling in
    record { core = open_in phase my after.held; effects = after.effects; following = next_chunk }
maintain_change core cookie choices = no_change core

-- ERROR with the cause Stale Cookie
abbrev pub stale_error : Content
stale_error = plain (error_of (stale_cookie ∷ []))

-- By the RFC's rules the peer gets to know that its cookie is stale.
abbrev pub stale_change : Options → Core → Cookie → Choices → Change
stale_change options core cookie choices =
    record {
      core = core;
      effects = emitted_alone (options.follow_rfc && choices.fits) cookie.addressee.tag stale_error;
      following = dropped_rest;
    }

abbrev pub resolved_change : Options → Core → Cookie → Choices → Resolution → Change
resolved_change options core cookie choices establish_new = new_association_change options cookie choices
resolved_change options core cookie choices restart = restart_change options core cookie choices
resolved_change options core cookie choices simultaneous_init = new_association_change options cookie choices
resolved_change options core cookie choices discard = rest_dropped core
resolved_change options core cookie choices maintain_existing = maintain_change core cookie choices
resolved_change options core cookie choices invalid_tag = rest_dropped core
resolved_change options core cookie choices stale = stale_change options core cookie choices

-- Bytes that are no cookie change nothing.
abbrev pub read_echo_change : Options → Core → ℕ → Result Cookie (List ℕ) → Choices → Change
read_echo_change options core header (Err text) choices = rest_dropped core
read_echo_change options core header (Ok cookie) choices = resolved_change options core cookie choices (aged_resolution choices.is_stale (resolve core choices.tie choices.secret header cookie))

abbrev pub cookie_echo_change : Options → Core → ℕ → List ℕ → Choices → Change
cookie_echo_change options core header bytes choices = read_echo_change options core header (cookie_of_bytes bytes) choices
