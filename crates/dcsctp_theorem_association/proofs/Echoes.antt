-- What becomes of the facts on an association as effects are added to the pasts: those on its
-- echoes last as long as no other cookie is echoed.
use Rattle.std.proofs.Common.{◌≡◌, ℕ, List, [], ◌∷◌, ◌++◌, inl, inr, sym, subst}
use Rattle.dcsctp_spec_lemmas.specs.types.Offer.{Offer}
use Rattle.dcsctp_spec_lemmas.specs.spec.Packet.{Content, init, init_ack, cookie_echo, cookie_ack, re_config, abort, shutdown, shutdown_ack, shutdown_complete, plain}
use Rattle.dcsctp_spec_lemmas.specs.spec.endpoint.Endpoint.{Core, closed, cookie_wait, cookie_echoed, open_in}
use Rattle.dcsctp_spec_lemmas.specs.spec.association.Effect.{Effect, draws, sends, holds, connects, ends, begins, gives_up, completes, fails, accepts, performs, renews, resumes}
use Rattle.dcsctp_spec_runs.specs.World.{after_effects}
use Rattle.dcsctp_theorem_association.proofs.Facts.{NoEcho, OneEcho, AllBehind, TrueCore}
use Rattle.dcsctp_theorem_association.proofs.Growth.{Within, same, after_within, peer_grows}

-- ---- packets without a COOKIE ECHO, or with one cookie alone

abbrev pub NoEchoFront : List Content → Type 0
NoEchoFront [] = Unit {0}
NoEchoFront (cookie_echo bytes ∷ contents) = ⊥
NoEchoFront (content ∷ contents) = Unit {0}

abbrev pub EchoFree : Effect → Type 0
EchoFree (sends packet) = NoEchoFront packet.contents
EchoFree effect = Unit {0}

abbrev pub AllEchoFree : List Effect → Type 0
AllEchoFree [] = Unit {0}
AllEchoFree (effect ∷ effects) = EchoFree effect × AllEchoFree effects

abbrev pub OneEchoFront : List ℕ → List Content → Type 0
OneEchoFront echoed [] = Unit {0}
OneEchoFront echoed (cookie_echo bytes ∷ contents) = bytes ≡ echoed
OneEchoFront echoed (content ∷ contents) = Unit {0}

abbrev pub EchoesOnly : List ℕ → Effect → Type 0
EchoesOnly echoed (sends packet) = OneEchoFront echoed packet.contents
EchoesOnly echoed effect = Unit {0}

abbrev pub AllEchoOnly : List ℕ → List Effect → Type 0
AllEchoOnly echoed [] = Unit {0}
AllEchoOnly echoed (effect ∷ effects) = EchoesOnly echoed effect × AllEchoOnly echoed effects

pub free_append : (xs ys : List Effect) → AllEchoFree xs → AllEchoFree ys → AllEchoFree (xs ++ ys)
free_append [] ys h k = k
free_append (x ∷ xs) ys h k = (h.0, free_append xs ys h.1 k)

pub only_append : (echoed : List ℕ) (xs ys : List Effect) → AllEchoOnly echoed xs → AllEchoOnly echoed ys → AllEchoOnly echoed (xs ++ ys)
only_append echoed [] ys h k = k
only_append echoed (x ∷ xs) ys h k = (h.0, only_append echoed xs ys h.1 k)

front_only : (echoed : List ℕ) (contents : List Content) → NoEchoFront contents → OneEchoFront echoed contents
front_only echoed [] h = tt
front_only echoed (init introduction ∷ contents) h = tt
front_only echoed (init_ack introduction cookie ∷ contents) h = tt
front_only echoed (cookie_echo bytes ∷ contents) h = absurd h
front_only echoed (cookie_ack ∷ contents) h = tt
front_only echoed (re_config parameters ∷ contents) h = tt
front_only echoed (abort reflected causes ∷ contents) h = tt
front_only echoed (shutdown tsn ∷ contents) h = tt
front_only echoed (shutdown_ack ∷ contents) h = tt
front_only echoed (shutdown_complete reflected ∷ contents) h = tt
front_only echoed (plain chunk ∷ contents) h = tt

effect_only : (echoed : List ℕ) (effect : Effect) → EchoFree effect → EchoesOnly echoed effect
effect_only echoed (draws pair) h = tt
effect_only echoed (sends packet) h = front_only echoed packet.contents h
effect_only echoed (holds link) h = tt
effect_only echoed (connects link) h = tt
effect_only echoed ends h = tt
effect_only echoed (begins number) h = tt
effect_only echoed (gives_up number) h = tt
effect_only echoed (completes my number) h = tt
effect_only echoed (fails number) h = tt
effect_only echoed (accepts number) h = tt
effect_only echoed (performs peer number) h = tt
effect_only echoed (renews peer number) h = tt
effect_only echoed (resumes link own last) h = tt

pub free_is_only : (echoed : List ℕ) (effects : List Effect) → AllEchoFree effects → AllEchoOnly echoed effects
free_is_only echoed [] h = tt
free_is_only echoed (effect ∷ effects) h = (effect_only echoed effect h.0, free_is_only echoed effects h.1)

-- No COOKIE ECHO comes after the first chunk.
pub behind_is_free : (contents : List Content) → AllBehind contents → NoEchoFront contents
behind_is_free [] h = tt
behind_is_free (init introduction ∷ contents) h = tt
behind_is_free (init_ack introduction cookie ∷ contents) h = tt
behind_is_free (cookie_echo bytes ∷ contents) h = h.0
behind_is_free (cookie_ack ∷ contents) h = tt
behind_is_free (re_config parameters ∷ contents) h = tt
behind_is_free (abort reflected causes ∷ contents) h = tt
behind_is_free (shutdown tsn ∷ contents) h = tt
behind_is_free (shutdown_ack ∷ contents) h = tt
behind_is_free (shutdown_complete reflected ∷ contents) h = tt
behind_is_free (plain chunk ∷ contents) h = tt

-- ---- echoes so far

no_echo_more : (tag : ℕ) (effect : Effect) (past : List Effect) → EchoFree effect → NoEcho tag past → NoEcho tag (effect ∷ past)
no_echo_more tag effect past free h header bytes behind cookie (inl e) reads = absurd (subst EchoFree (sym e) free)
no_echo_more tag effect past free h header bytes behind cookie (inr k) reads = h header bytes behind cookie k reads

pub no_echo_after : (tag : ℕ) (effects past : List Effect) → AllEchoFree effects → NoEcho tag past → NoEcho tag (after_effects effects past)
no_echo_after tag [] past free h = h
no_echo_after tag (effect ∷ effects) past free h = no_echo_after tag effects (effect ∷ past) free.1 (no_echo_more tag effect past free.0 h)

pub one_echo_more : (tag : ℕ) (echoed : List ℕ) (effect : Effect) (past : List Effect) → EchoesOnly echoed effect → OneEcho tag echoed past → OneEcho tag echoed (effect ∷ past)
one_echo_more tag echoed effect past only h header bytes behind cookie (inl e) reads is = subst (EchoesOnly echoed) (sym e) only
one_echo_more tag echoed effect past only h header bytes behind cookie (inr k) reads is = h header bytes behind cookie k reads is

pub one_echo_after : (tag : ℕ) (echoed : List ℕ) (effects past : List Effect) → AllEchoOnly echoed effects → OneEcho tag echoed past → OneEcho tag echoed (after_effects effects past)
one_echo_after tag echoed [] past only h = h
one_echo_after tag echoed (effect ∷ effects) past only h = one_echo_after tag echoed effects (effect ∷ past) only.1 (one_echo_more tag echoed effect past only.0 h)

-- where none was echoed, any cookie may be the one
pub none_is_one : (tag : ℕ) (echoed : List ℕ) (past : List Effect) → NoEcho tag past → OneEcho tag echoed past
none_is_one tag echoed past h header bytes behind cookie k reads is = absurd (h header bytes behind cookie k reads is)

-- ---- the association

-- Effects that echo nothing leave the facts on the association as they are.
pub core_stays : (my_offer their_offer : Offer) (mine theirs : List Effect) (core : Core) (effects : List Effect)
    → AllEchoFree effects → TrueCore my_offer their_offer mine theirs core → TrueCore my_offer their_offer (after_effects effects mine) theirs core
core_stays my_offer their_offer mine theirs closed effects free h = tt
core_stays my_offer their_offer mine theirs (cookie_wait my) effects free h = (after_within effects mine _ h.0, no_echo_after my.tag effects mine free h.1)
core_stays my_offer their_offer mine theirs (cookie_echoed my held bytes) effects free h = (
  peer_grows my_offer their_offer mine theirs (after_effects effects mine) theirs my held (after_within effects mine) (same theirs) h.0,
  one_echo_after my.tag bytes effects mine (free_is_only bytes effects free) h.1,
  h.2,
)
core_stays my_offer their_offer mine theirs (open_in phase my held) effects free h =
    peer_grows my_offer their_offer mine theirs (after_effects effects mine) theirs my held (after_within effects mine) (same theirs) h

-- So does whatever the other side does.
pub core_grows : (my_offer their_offer : Offer) (mine theirs theirs' : List Effect) (core : Core) → Within theirs theirs'
    → TrueCore my_offer their_offer mine theirs core → TrueCore my_offer their_offer mine theirs' core
core_grows my_offer their_offer mine theirs theirs' closed w h = tt
core_grows my_offer their_offer mine theirs theirs' (cookie_wait my) w h = h
core_grows my_offer their_offer mine theirs theirs' (cookie_echoed my held bytes) w h =
    (peer_grows my_offer their_offer mine theirs mine theirs' my held (same mine) w h.0, h.1, h.2)
core_grows my_offer their_offer mine theirs theirs' (open_in phase my held) w h =
    peer_grows my_offer their_offer mine theirs mine theirs' my held (same mine) w h
