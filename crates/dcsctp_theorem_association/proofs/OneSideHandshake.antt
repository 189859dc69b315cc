-- The handshake keeps the past of a side in place.
use Rattle.std.proofs.Common.{◌&&◌, ◌≡◌, ℕ, Bool, true, false, Option, None, Some, Result, Ok, Err, List, [], ◌∷◌, ◌++◌, refl, sym, subst}
use Rattle.dcsctp_spec_lemmas.specs.types.declared.association.Pair.{Pair}
use Rattle.dcsctp_spec_lemmas.specs.types.declared.association.Held.{Held}
use Rattle.dcsctp_spec_lemmas.specs.types.declared.options.Options.{Options}
use Rattle.dcsctp_spec_lemmas.specs.wire.Numbers.{state_cookie_type}
use Rattle.dcsctp_spec_lemmas.specs.spec.Cookie.{Cookie}
use Rattle.dcsctp_spec_lemmas.specs.spec.endpoint.Cause.{missing_mandatory_parameter}
use Rattle.dcsctp_spec_lemmas.specs.spec.Packet.{Introduction, Content, init, cookie_echo, cookie_ack, abort, Packet}
use Rattle.dcsctp_spec_lemmas.specs.spec.endpoint.Endpoint.{Core, closed, cookie_wait, cookie_echoed, open_in, OpenPhase, established, shutdown_ack_sent}
use Rattle.dcsctp_spec_lemmas.specs.spec.association.Effect.{AssociationIdentity, Effect, draws, sends, holds, connects, ends, Change, emission_effects, emitted_alone, identity_of}
use Rattle.dcsctp_spec_lemmas.specs.spec.association.Choices.{Filling, Choices}
use Rattle.dcsctp_spec_lemmas.specs.spec.association.HandshakeChanges.{introduction_of, connect_change, init_change, echo_change, held_by_init_ack, init_ack_change, cookie_ack_change, t1_again_change, t1_gives_up_change}
use Rattle.dcsctp_spec_lemmas.specs.spec.association.CookieEchoChanges.{stale_error, Resolution, establish_new, restart, simultaneous_init, discard, maintain_existing, invalid_tag, stale, aged_resolution, resolve, held_by_cookie, new_association_change, restart_change, maintain_change, resolved_change, read_echo_change}
use Rattle.dcsctp_spec_runs.specs.Past.{Each, InPlace, current}
use Rattle.dcsctp_spec_runs.specs.World.{after_effects}
use Rattle.dcsctp_theorem_association.proofs.OneSideLemmas.{Stands, stands-sends, stands-draws, stands-connects, stands-new, flush_leads}

-- No association is held, as the past has it, and each effect so far is in place.
pub record Unheld (past : List Effect) : Type 0 where
  pub none : current past ≡ None
  pub in_place : Each InPlace past

-- The past is in place and has what is held.
abbrev pub Good : Core → List Effect → Type 0
Good closed past = Unheld past
Good (cookie_wait my) past = Unheld past
Good (cookie_echoed my held cookie) past = Stands (identity_of my held) (Some (identity_of my held)) held past
Good (open_in phase my held) past = (waiting : Option AssociationIdentity) × Stands (identity_of my held) waiting held past

-- A change keeps that.
abbrev pub Keeps : Core → Change → Type 0
Keeps core change = (past : List Effect) → Good core past → Good change.core (after_effects change.effects past)

pub good_in_place : (core : Core) (past : List Effect) → Good core past → Each InPlace past
good_in_place closed past good = good.in_place
good_in_place (cookie_wait my) past good = good.in_place
good_in_place (cookie_echoed my held cookie) past good = good.in_place
good_in_place (open_in phase my held) past good = (good.1).in_place

-- ---- packets and drawn pairs

pub good-sends : (core : Core) (packet : Packet) (past : List Effect) → Good core past → Good core (sends packet ∷ past)
good-sends closed packet past good = record { none = good.none; in_place = (tt, good.in_place) }
good-sends (cookie_wait my) packet past good = record { none = good.none; in_place = (tt, good.in_place) }
good-sends (cookie_echoed my held cookie) packet past good = stands-sends packet good
good-sends (open_in phase my held) packet past good = (good.0, stands-sends packet good.1)

good-draws : (core : Core) (pair : Pair) (past : List Effect) → Good core past → Good core (draws pair ∷ past)
good-draws closed pair past good = record { none = good.none; in_place = (tt, good.in_place) }
good-draws (cookie_wait my) pair past good = record { none = good.none; in_place = (tt, good.in_place) }
good-draws (cookie_echoed my held cookie) pair past good = stands-draws pair good
good-draws (open_in phase my held) pair past good = (good.0, stands-draws pair good.1)

pub good-emitted : (core : Core) (tag : ℕ) (contents : List Content) (past : List Effect) → Good core past → Good core (after_effects (emission_effects tag contents) past)
good-emitted core tag [] past good = good
good-emitted core tag (content ∷ contents) past good = good-sends core _ past good

pub good-emitted_alone : (core : Core) (fits : Bool) (tag : ℕ) (content : Content) (past : List Effect) → Good core past → Good core (after_effects (emitted_alone fits tag content) past)
good-emitted_alone core true tag content past good = good-sends core _ past good
good-emitted_alone core false tag content past good = good

-- the end of an association
pub good-ends : (core : Core) (past : List Effect) → Good core past → Unheld (ends ∷ past)
good-ends core past good = record { none = refl; in_place = (tt, good_in_place core past good) }

-- and after one packet or none
pub good-ended_alone : (core : Core) (fits : Bool) (tag : ℕ) (content : Content) (past : List Effect) → Good core past → Good closed (after_effects (emitted_alone fits tag content ++ ends ∷ []) past)
good-ended_alone core true tag content past good = good-ends core (sends _ ∷ past) (good-sends core _ past good)
good-ended_alone core false tag content past good = good-ends core past good

-- ---- what is held changes

same_link : {link : AssociationIdentity} {waiting : Option AssociationIdentity} {held : Held} {past : List Effect} → Stands link waiting held past → link ≡ identity_of link.my held
same_link {link = link} s = λ i. record { my = link.my; peer = sym s.same_peer i; capabilities = sym s.same_capabilities i }

pub stands_open : {link : AssociationIdentity} {waiting : Option AssociationIdentity} {held : Held} {past : List Effect} (phase : OpenPhase) → Stands link waiting held past → Good (open_in phase link.my held) past
stands_open {waiting = waiting} {held = held} {past = past} phase s = (waiting, subst (λ (l : AssociationIdentity). Stands l waiting held past) (same_link s) s)

pub stands_echoed : {link : AssociationIdentity} {held : Held} {past : List Effect} (cookie : List ℕ) → Stands link (Some link) held past → Good (cookie_echoed link.my held cookie) past
stands_echoed {held = held} {past = past} cookie s = subst (λ (l : AssociationIdentity). Stands l (Some l) held past) (same_link s) s

-- ---- the handshake

pub connect_keeps : (options : Options) (core : Core) (choices : Choices) → Keeps core (connect_change options core choices)
connect_keeps options closed choices past good =
    good-emitted_alone (cookie_wait choices.drawn) choices.fits 0 (init (introduction_of options choices.drawn)) (draws choices.drawn ∷ past) (good-draws closed choices.drawn past good)
connect_keeps options core choices past good = good

pub init_keeps : (options : Options) (core : Core) (theirs : Introduction) (choices : Choices) → Keeps core (init_change options core theirs choices)
init_keeps options (cookie_wait my) theirs choices past good = good-emitted_alone (cookie_wait my) choices.fits _ _ past good
init_keeps options (cookie_echoed my held cookie) theirs choices past good = good-emitted_alone (cookie_echoed my held cookie) choices.fits _ _ past good
init_keeps options (open_in shutdown_ack_sent my held) theirs choices past good = good-sends (open_in shutdown_ack_sent my held) _ past good
init_keeps options core theirs choices past good = good-emitted_alone core choices.fits _ _ _ (good-draws core choices.drawn past good)

echoes_keeps : (my : Pair) (held : Held) (cookie : List ℕ) (fits : Bool) (filling : Filling) → Keeps (cookie_echoed my held cookie) (echo_change my held cookie fits filling)
echoes_keeps my held cookie false filling past good = good
echoes_keeps my held cookie true filling past good =
    stands_echoed cookie (flush_leads (identity_of my held) (Some (identity_of my held)) held.peer.tag held (cookie_echo cookie ∷ []) filling past good)

pub init_ack_keeps : (options : Options) (core : Core) (theirs : Introduction) (cookie : Option (List ℕ)) (choices : Choices) → Keeps core (init_ack_change options core theirs cookie choices)
init_ack_keeps options (cookie_wait my) theirs None choices past good =
    good-ended_alone (cookie_wait my) choices.fits theirs.pair.tag (abort false (missing_mandatory_parameter (state_cookie_type ∷ []) ∷ [])) past good
init_ack_keeps options (cookie_wait my) theirs (Some cookie) choices past good =
    let held : Held = held_by_init_ack options my theirs in
    echoes_keeps my held cookie choices.fits choices.filling (holds (identity_of my held) ∷ past) (stands-new my theirs.pair held.capabilities past good.in_place)
init_ack_keeps options core theirs cookie choices past good = good

pub cookie_ack_keeps : (core : Core) (choices : Choices) → Keeps core (cookie_ack_change core choices)
cookie_ack_keeps (cookie_echoed my held cookie) choices past good =
    stands_open established (flush_leads (identity_of my held) None held.peer.tag held [] choices.filling (connects (identity_of my held) ∷ past) (stands-connects good))
cookie_ack_keeps core choices past good = good

pub t1_again_keeps : (options : Options) (core : Core) (choices : Choices) → Keeps core (t1_again_change options core choices)
t1_again_keeps options (cookie_wait my) choices past good = good-emitted_alone (cookie_wait my) choices.fits 0 (init (introduction_of options my)) past good
t1_again_keeps options (cookie_echoed my held cookie) choices past good = echoes_keeps my held cookie choices.fits choices.filling past good
t1_again_keeps options core choices past good = good

pub t1_gives_up_keeps : (core : Core) → Keeps core (t1_gives_up_change core)
t1_gives_up_keeps (cookie_wait my) past good = good-ends (cookie_wait my) past good
t1_gives_up_keeps (cookie_echoed my held cookie) past good = good-ends (cookie_echoed my held cookie) past good
t1_gives_up_keeps core past good = good

-- ---- COOKIE ECHO

new_keeps : (options : Options) (cookie : Cookie) (choices : Choices) (past : List Effect) → Each InPlace past
    → Good (new_association_change options cookie choices).core (after_effects (new_association_change options cookie choices).effects past)
new_keeps options cookie choices past in_place =
    let held : Held = held_by_cookie options cookie in
    let link : AssociationIdentity = identity_of cookie.maker held in
    stands_open established (flush_leads link None cookie.addressee.tag held (cookie_ack ∷ []) choices.filling (connects link ∷ holds link ∷ past)
    (stands-connects (stands-new cookie.maker cookie.addressee held.capabilities past in_place)))

restarts_keeps : (options : Options) (core : Core) (cookie : Cookie) (choices : Choices) → Keeps core (restart_change options core cookie choices)
restarts_keeps options (open_in shutdown_ack_sent my held) cookie choices past good = good-sends (open_in shutdown_ack_sent my held) _ past good
restarts_keeps options core cookie choices past good = new_keeps options cookie choices past (good_in_place core past good)

maintains_keeps : (core : Core) (cookie : Cookie) (choices : Choices) → Keeps core (maintain_change core cookie choices)
maintains_keeps (cookie_echoed my held echoed) cookie choices past good =
    stands_open established (flush_leads (identity_of my held) None cookie.addressee.tag held (cookie_ack ∷ []) choices.filling (connects (identity_of my held) ∷ past) (stands-connects good))
maintains_keeps (open_in phase my held) cookie choices past good =
    stands_open phase (flush_leads (identity_of my held) good.0 cookie.addressee.tag held (cookie_ack ∷ []) choices.filling past good.1)
maintains_keeps core cookie choices past good = good

resolved_keeps : (options : Options) (core : Core) (cookie : Cookie) (choices : Choices) (resolution : Resolution) → Keeps core (resolved_change options core cookie choices resolution)
resolved_keeps options core cookie choices establish_new past good = new_keeps options cookie choices past (good_in_place core past good)
resolved_keeps options core cookie choices restart past good = restarts_keeps options core cookie choices past good
resolved_keeps options core cookie choices simultaneous_init past good = new_keeps options cookie choices past (good_in_place core past good)
resolved_keeps options core cookie choices discard past good = good
resolved_keeps options core cookie choices maintain_existing past good = maintains_keeps core cookie choices past good
resolved_keeps options core cookie choices invalid_tag past good = good
resolved_keeps options core cookie choices stale past good = good-emitted_alone core (options.follow_rfc && choices.fits) cookie.addressee.tag stale_error past good

pub echo_keeps : (options : Options) (core : Core) (header : ℕ) (read : Result Cookie (List ℕ)) (choices : Choices) → Keeps core (read_echo_change options core header read choices)
echo_keeps options core header (Err text) choices past good = good
echo_keeps options core header (Ok cookie) choices past good = resolved_keeps options core cookie choices (aged_resolution choices.is_stale (resolve core choices.tie choices.secret header cookie)) past good
