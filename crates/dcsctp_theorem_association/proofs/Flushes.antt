-- What a flush, or a packet by itself, adds to the past is true, and leaves the facts on the peer
-- as they are.
use Rattle.std.proofs.Common.{◌≡◌, ℕ, Bool, true, false, Option, None, Some, List, [], ◌∷◌, ◌++◌, refl}
use Rattle.dcsctp_spec_lemmas.specs.types.declared.association.Pair.{Pair}
use Rattle.dcsctp_spec_lemmas.specs.types.declared.association.Held.{Held}
use Rattle.dcsctp_spec_lemmas.specs.types.Offer.{Offer}
use Rattle.dcsctp_spec_lemmas.specs.spec.Reconfiguration.{RequestedReset, ResetParameter, outgoing_reset_request, incoming_reset_request, reconfiguration_response, other_reset_parameter}
use Rattle.dcsctp_spec_lemmas.specs.spec.Packet.{Plain, Content, init, init_ack, cookie_echo, cookie_ack, re_config, abort, shutdown, shutdown_ack, shutdown_complete, plain}
use Rattle.dcsctp_spec_lemmas.specs.spec.association.Effect.{Effect, begins, emission_effects, emitted_alone}
use Rattle.dcsctp_spec_lemmas.specs.spec.association.Choices.{plain_contents, Filling}
use Rattle.dcsctp_spec_lemmas.specs.spec.association.FlushChanges.{reset_request, reset_to_begin, chunks_behind, further_packets, flushed_with, flush_if_allowed, flush}
use Rattle.dcsctp_theorem_association.proofs.Facts.{TrueParameters, Requests, TrueFront, Behind, AllBehind, TrueContents, TrueEffects, PeerFacts}
use Rattle.dcsctp_theorem_association.proofs.Growth.{one_more, effects-append, effects_grow}
use Rattle.dcsctp_theorem_association.proofs.Echoes.{NoEchoFront, AllEchoFree, AllEchoOnly, free_append, free_is_only, behind_is_free}

-- ---- chunks after the first

pub requests_true : (mine theirs : List Effect) (tag : ℕ) (parameters : List ResetParameter) → Requests parameters → TrueParameters mine theirs tag parameters
requests_true mine theirs tag [] h = tt
requests_true mine theirs tag (outgoing_reset_request number answered reset ∷ parameters) h = (tt, requests_true mine theirs tag parameters h)
requests_true mine theirs tag (incoming_reset_request number streams ∷ parameters) h = absurd h
requests_true mine theirs tag (reconfiguration_response number result ∷ parameters) h = absurd h
requests_true mine theirs tag (other_reset_parameter parameter ∷ parameters) h = absurd h

behind_true : (my_offer their_offer : Offer) (mine theirs : List Effect) (tag : ℕ) (content : Content) → Behind content → TrueFront my_offer their_offer mine theirs tag content
behind_true my_offer their_offer mine theirs tag (init introduction) h = absurd h
behind_true my_offer their_offer mine theirs tag (init_ack introduction cookie) h = absurd h
behind_true my_offer their_offer mine theirs tag (cookie_echo bytes) h = absurd h
behind_true my_offer their_offer mine theirs tag cookie_ack h = absurd h
behind_true my_offer their_offer mine theirs tag (re_config parameters) h = requests_true mine theirs tag parameters h
behind_true my_offer their_offer mine theirs tag (abort reflected causes) h = tt
behind_true my_offer their_offer mine theirs tag (shutdown tsn) h = tt
behind_true my_offer their_offer mine theirs tag shutdown_ack h = tt
behind_true my_offer their_offer mine theirs tag (shutdown_complete reflected) h = tt
behind_true my_offer their_offer mine theirs tag (plain chunk) h = tt

pub plain_behind : (chunks : List Plain) → AllBehind (plain_contents chunks)
plain_behind [] = tt
plain_behind (chunk ∷ chunks) = (tt, plain_behind chunks)

behind_append : (xs ys : List Content) → AllBehind xs → AllBehind ys → AllBehind (xs ++ ys)
behind_append [] ys h k = k
behind_append (x ∷ xs) ys h k = (h.0, behind_append xs ys h.1 k)

-- ---- a packet

-- these chunks, followed by such as may come after the first
contents_true : (my_offer their_offer : Offer) (mine theirs : List Effect) (tag : ℕ) (front behind : List Content)
    → TrueContents my_offer their_offer mine theirs tag front → AllBehind behind → TrueContents my_offer their_offer mine theirs tag (front ++ behind)
contents_true my_offer their_offer mine theirs tag [] [] h k = tt
contents_true my_offer their_offer mine theirs tag [] (content ∷ contents) h k = (behind_true my_offer their_offer mine theirs tag content k.0, k.1)
contents_true my_offer their_offer mine theirs tag (content ∷ contents) behind h k = (h.0, behind_append contents behind h.1 k)

no_echo_front : (front behind : List Content) → NoEchoFront front → AllBehind behind → NoEchoFront (front ++ behind)
no_echo_front [] behind h k = behind_is_free behind k
no_echo_front (init introduction ∷ contents) behind h k = tt
no_echo_front (init_ack introduction cookie ∷ contents) behind h k = tt
no_echo_front (cookie_echo bytes ∷ contents) behind h k = h
no_echo_front (cookie_ack ∷ contents) behind h k = tt
no_echo_front (re_config parameters ∷ contents) behind h k = tt
no_echo_front (abort reflected causes ∷ contents) behind h k = tt
no_echo_front (shutdown tsn ∷ contents) behind h k = tt
no_echo_front (shutdown_ack ∷ contents) behind h k = tt
no_echo_front (shutdown_complete reflected ∷ contents) behind h k = tt
no_echo_front (plain chunk ∷ contents) behind h k = tt

pub emitted_true : (my_offer their_offer : Offer) (mine theirs : List Effect) (tag : ℕ) (contents : List Content)
    → TrueContents my_offer their_offer mine theirs tag contents → TrueEffects my_offer their_offer mine theirs (emission_effects tag contents)
emitted_true my_offer their_offer mine theirs tag [] h = tt
emitted_true my_offer their_offer mine theirs tag (content ∷ contents) h = (h, tt)

pub emitted_free : (tag : ℕ) (contents : List Content) → NoEchoFront contents → AllEchoFree (emission_effects tag contents)
emitted_free tag [] h = tt
emitted_free tag (content ∷ contents) h = (h, tt)

pub alone_true : (my_offer their_offer : Offer) (mine theirs : List Effect) (fits : Bool) (tag : ℕ) (content : Content)
    → TrueFront my_offer their_offer mine theirs tag content → TrueEffects my_offer their_offer mine theirs (emitted_alone fits tag content)
alone_true my_offer their_offer mine theirs true tag content h = ((h, tt), tt)
alone_true my_offer their_offer mine theirs false tag content h = tt

pub alone_free : (fits : Bool) (tag : ℕ) (content : Content) → NoEchoFront (content ∷ []) → AllEchoFree (emitted_alone fits tag content)
alone_free true tag content h = (h, tt)
alone_free false tag content h = tt

plain_true : (my_offer their_offer : Offer) (mine theirs : List Effect) (tag : ℕ) (chunks : List Plain) → TrueEffects my_offer their_offer mine theirs (emission_effects tag (plain_contents chunks))
plain_true my_offer their_offer mine theirs tag [] = tt
plain_true my_offer their_offer mine theirs tag (chunk ∷ chunks) = ((tt, plain_behind chunks), tt)

plain_free : (tag : ℕ) (chunks : List Plain) → AllEchoFree (emission_effects tag (plain_contents chunks))
plain_free tag [] = tt
plain_free tag (chunk ∷ chunks) = (tt, tt)

pub further_true : (my_offer their_offer : Offer) (mine theirs : List Effect) (tag : ℕ) (packets : List (List Plain)) → TrueEffects my_offer their_offer mine theirs (further_packets tag packets)
further_true my_offer their_offer mine theirs tag [] = tt
further_true my_offer their_offer mine theirs tag (chunks ∷ packets) =
    effects-append my_offer their_offer mine theirs (emission_effects tag (plain_contents chunks)) (further_packets tag packets)
    (plain_true my_offer their_offer mine theirs tag chunks) (further_true my_offer their_offer mine theirs tag packets)

pub further_free : (tag : ℕ) (packets : List (List Plain)) → AllEchoFree (further_packets tag packets)
further_free tag [] = tt
further_free tag (chunks ∷ packets) = free_append (emission_effects tag (plain_contents chunks)) (further_packets tag packets) (plain_free tag chunks) (further_free tag packets)

-- ---- a flush

chunks_behind_behind : (number : ℕ) (filling : Filling) (reset : Option RequestedReset) → AllBehind (chunks_behind number filling reset)
chunks_behind_behind number filling None = behind_append (plain_contents filling.acknowledgements) (plain_contents filling.data_chunks) (plain_behind filling.acknowledgements) (plain_behind filling.data_chunks)
chunks_behind_behind number filling (Some reset) =
    behind_append (plain_contents filling.acknowledgements) (reset_request number reset ∷ plain_contents filling.data_chunks) (plain_behind filling.acknowledgements) (tt, plain_behind filling.data_chunks)

packets_true : (my_offer their_offer : Offer) (mine theirs : List Effect) (tag : ℕ) (held : Held) (front : List Content) (filling : Filling) (reset : Option RequestedReset)
    → TrueContents my_offer their_offer mine theirs tag front
    → TrueEffects my_offer their_offer mine theirs (emission_effects tag (front ++ chunks_behind held.own_next filling reset) ++ further_packets tag filling.further)
packets_true my_offer their_offer mine theirs tag held front filling reset h =
    effects-append my_offer their_offer mine theirs (emission_effects tag (front ++ chunks_behind held.own_next filling reset)) (further_packets tag filling.further)
    (emitted_true my_offer their_offer mine theirs tag (front ++ chunks_behind held.own_next filling reset) (contents_true my_offer their_offer mine theirs tag front (chunks_behind held.own_next filling reset) h (chunks_behind_behind held.own_next filling reset)))
    (further_true my_offer their_offer mine theirs tag filling.further)

flushed_true : (my_offer their_offer : Offer) (mine theirs : List Effect) (tag : ℕ) (held : Held) (front : List Content) (filling : Filling) (reset : Option RequestedReset)
    → TrueContents my_offer their_offer mine theirs tag front → TrueEffects my_offer their_offer mine theirs (flushed_with tag held front filling reset).effects
flushed_true my_offer their_offer mine theirs tag held front filling None h = packets_true my_offer their_offer mine theirs tag held front filling None h
flushed_true my_offer their_offer mine theirs tag held front filling (Some reset) h = (
  tt,
  effects_grow my_offer their_offer mine theirs (begins held.own_next ∷ mine) (emission_effects tag (front ++ chunks_behind held.own_next filling (Some reset)) ++ further_packets tag filling.further)
      (one_more (begins held.own_next) mine) (packets_true my_offer their_offer mine theirs tag held front filling (Some reset) h),
)

flush_true_where : (my_offer their_offer : Offer) (mine theirs : List Effect) (is_allowed : Bool) (tag : ℕ) (held : Held) (front : List Content) (filling : Filling)
    → TrueContents my_offer their_offer mine theirs tag front → TrueEffects my_offer their_offer mine theirs (flush_if_allowed is_allowed tag held front filling).effects
flush_true_where my_offer their_offer mine theirs false tag held front filling h = tt
flush_true_where my_offer their_offer mine theirs true tag held front filling h =
    flushed_true my_offer their_offer mine theirs tag held front filling (reset_to_begin held.own_outstanding filling.reset) h

pub flush_true : (my_offer their_offer : Offer) (mine theirs : List Effect) (tag : ℕ) (held : Held) (front : List Content) (filling : Filling)
    → TrueContents my_offer their_offer mine theirs tag front → TrueEffects my_offer their_offer mine theirs (flush tag held front filling).effects
flush_true my_offer their_offer mine theirs tag held front filling h = flush_true_where my_offer their_offer mine theirs filling.is_allowed tag held front filling h

flushed_free : (tag : ℕ) (held : Held) (front : List Content) (filling : Filling) (reset : Option RequestedReset) → NoEchoFront front → AllEchoFree (flushed_with tag held front filling reset).effects
flushed_free tag held front filling None h =
    free_append (emission_effects tag (front ++ chunks_behind held.own_next filling None)) (further_packets tag filling.further)
    (emitted_free tag (front ++ chunks_behind held.own_next filling None) (no_echo_front front (chunks_behind held.own_next filling None) h (chunks_behind_behind held.own_next filling None))) (further_free tag filling.further)
flushed_free tag held front filling (Some reset) h = (
  tt,
  free_append (emission_effects tag (front ++ chunks_behind held.own_next filling (Some reset))) (further_packets tag filling.further)
      (emitted_free tag (front ++ chunks_behind held.own_next filling (Some reset)) (no_echo_front front (chunks_behind held.own_next filling (Some reset)) h (chunks_behind_behind held.own_next filling (Some reset)))) (further_free tag filling.further),
)

flush_free_where : (is_allowed : Bool) (tag : ℕ) (held : Held) (front : List Content) (filling : Filling) → NoEchoFront front → AllEchoFree (flush_if_allowed is_allowed tag held front filling).effects
flush_free_where false tag held front filling h = tt
flush_free_where true tag held front filling h = flushed_free tag held front filling (reset_to_begin held.own_outstanding filling.reset) h

pub flush_free : (tag : ℕ) (held : Held) (front : List Content) (filling : Filling) → NoEchoFront front → AllEchoFree (flush tag held front filling).effects
flush_free tag held front filling h = flush_free_where filling.is_allowed tag held front filling h

-- a flush that begins with a COOKIE ECHO echoes that cookie alone
echoed_only : (tag : ℕ) (held : Held) (bytes : List ℕ) (filling : Filling) (reset : Option RequestedReset) → AllEchoOnly bytes (flushed_with tag held (cookie_echo bytes ∷ []) filling reset).effects
echoed_only tag held bytes filling None = (refl, free_is_only bytes (further_packets tag filling.further) (further_free tag filling.further))
echoed_only tag held bytes filling (Some reset) = (tt, (refl, free_is_only bytes (further_packets tag filling.further) (further_free tag filling.further)))

echo_only_where : (is_allowed : Bool) (tag : ℕ) (held : Held) (bytes : List ℕ) (filling : Filling) → AllEchoOnly bytes (flush_if_allowed is_allowed tag held (cookie_echo bytes ∷ []) filling).effects
echo_only_where false tag held bytes filling = tt
echo_only_where true tag held bytes filling = echoed_only tag held bytes filling (reset_to_begin held.own_outstanding filling.reset)

pub echo_only : (tag : ℕ) (held : Held) (bytes : List ℕ) (filling : Filling) → AllEchoOnly bytes (flush tag held (cookie_echo bytes ∷ []) filling).effects
echo_only tag held bytes filling = echo_only_where filling.is_allowed tag held bytes filling

-- A flush changes only our own numbers.
flushed_peer : (my_offer their_offer : Offer) (mine theirs : List Effect) (my : Pair) (tag : ℕ) (held : Held) (front : List Content) (filling : Filling) (reset : Option RequestedReset)
    → PeerFacts my_offer their_offer mine theirs my held → PeerFacts my_offer their_offer mine theirs my (flushed_with tag held front filling reset).held
flushed_peer my_offer their_offer mine theirs my tag held front filling None h = h
flushed_peer my_offer their_offer mine theirs my tag held front filling (Some reset) h =
    record { my_drawn = h.my_drawn; peer_drawn = h.peer_drawn; capabilities = h.capabilities; shown = h.shown; nothing = h.nothing; performed = h.performed }

flush_peer_where : (my_offer their_offer : Offer) (mine theirs : List Effect) (my : Pair) (is_allowed : Bool) (tag : ℕ) (held : Held) (front : List Content) (filling : Filling)
    → PeerFacts my_offer their_offer mine theirs my held → PeerFacts my_offer their_offer mine theirs my (flush_if_allowed is_allowed tag held front filling).held
flush_peer_where my_offer their_offer mine theirs my false tag held front filling h = h
flush_peer_where my_offer their_offer mine theirs my true tag held front filling h =
    flushed_peer my_offer their_offer mine theirs my tag held front filling (reset_to_begin held.own_outstanding filling.reset) h

pub flush_peer : (my_offer their_offer : Offer) (mine theirs : List Effect) (my : Pair) (tag : ℕ) (held : Held) (front : List Content) (filling : Filling)
    → PeerFacts my_offer their_offer mine theirs my held → PeerFacts my_offer their_offer mine theirs my (flush tag held front filling).held
flush_peer my_offer their_offer mine theirs my tag held front filling h = flush_peer_where my_offer their_offer mine theirs my filling.is_allowed tag held front filling h

flushed_pair : (tag : ℕ) (held : Held) (front : List Content) (filling : Filling) (reset : Option RequestedReset) → (flushed_with tag held front filling reset).held.peer ≡ held.peer
flushed_pair tag held front filling None = refl
flushed_pair tag held front filling (Some reset) = refl

flush_pair_where : (is_allowed : Bool) (tag : ℕ) (held : Held) (front : List Content) (filling : Filling) → (flush_if_allowed is_allowed tag held front filling).held.peer ≡ held.peer
flush_pair_where false tag held front filling = refl
flush_pair_where true tag held front filling = flushed_pair tag held front filling (reset_to_begin held.own_outstanding filling.reset)

-- the peer's pair stays
pub flush_pair : (tag : ℕ) (held : Held) (front : List Content) (filling : Filling) → (flush tag held front filling).held.peer ≡ held.peer
flush_pair tag held front filling = flush_pair_where filling.is_allowed tag held front filling
