-- Cookies that events gave away: more events gave no fewer, and each cookie of an INIT ACK among
-- them is one.
use Rattle.std.proofs.Common.{ℕ, Some, List, [], ◌∷◌, ◌++◌, inl, inr, refl, sym, subst, append_assoc}
use Rattle.std.proofs.lemmas.List.{append-nil}
use Rattle.std.specs.List.{AllByRecursion}
use Rattle.dcsctp_spec_lemmas.specs.spec.endpoint.Event.{Event, sent}
use Rattle.dcsctp_spec_lemmas.specs.spec.Packet.{Content, init_ack, cookie_echo, Emission}
use Rattle.dcsctp_spec_lemmas.specs.spec.endpoint.Endpoint.{Core, cookie_echoed}
use Rattle.dcsctp_spec_lemmas.specs.spec.endpoint.CallTurns.{Transition, events_of}
use Rattle.dcsctp_spec_runs.specs.Fitting.{HoldsIfSent, AllSent}
use Rattle.dcsctp_theorem_sockets.proofs.Sent.{all_sent_map}
use Rattle.dcsctp_theorem_sockets.specs.Cookies.{BearCookie, GaveCookie, AllEchoGiven}
use Rattle.dcsctp_theorem_sockets.proofs.CookieRules.{Rules, ContentKeeps, ContentsKeep, CoreKeeps, TakenKeeps}

-- ---- rules on echoed cookies

-- a rule on cookies that are echoed, and none on others
abbrev pub echoing : (List ℕ → Type 0) → Rules
echoing Good = record { echoed = Good; given = λ bytes. Unit {0} }

abbrev pub Implies : (List ℕ → Type 0) → (List ℕ → Type 0) → Type 0
Implies Good Other = (bytes : List ℕ) → Good bytes → Other bytes

module _ (Good Other : List ℕ → Type 0) (f : Implies Good Other) where
  content_map : (content : Content) → ContentKeeps (echoing Good) content → ContentKeeps (echoing Other) content
  content_map (cookie_echo bytes) h = f bytes h
  content_map content h = h

  pub contents_map : (contents : List Content) → ContentsKeep (echoing Good) contents → ContentsKeep (echoing Other) contents
  contents_map [] h = tt
  contents_map (content ∷ contents) h = (content_map content h.0, contents_map contents h.1)

  pub core_map : (core : Core) → CoreKeeps (echoing Good) core → CoreKeeps (echoing Other) core
  core_map (cookie_echoed my held bytes) h = f bytes h
  core_map core h = h

-- ---- cookies of chunks and events

-- The packet has an INIT ACK with this cookie.
abbrev pub Bears : Emission → List ℕ → Type 0
Bears emission bytes = BearCookie emission.packet.contents bytes

borne_first : (Good : List ℕ → Type 0) (content : Content) (contents : List Content) → Implies (BearCookie (content ∷ contents)) Good → TakenKeeps (echoing Good) content
borne_first Good (init_ack theirs (Some cookie)) contents h = h cookie (inl refl)
borne_first Good content contents h = tt

borne_more : (content : Content) (contents : List Content) → Implies (BearCookie contents) (BearCookie (content ∷ contents))
borne_more (init_ack theirs (Some cookie)) contents bytes h = inr h
borne_more content contents bytes h = h

-- If each cookie that chunks carry is good, each INIT ACK among them keeps the rule.
pub borne_keep : (Good : List ℕ → Type 0) (contents : List Content) → Implies (BearCookie contents) Good → AllByRecursion (TakenKeeps (echoing Good)) contents
borne_keep Good [] h = tt
borne_keep Good (content ∷ contents) h =
    (borne_first Good content contents h, borne_keep Good contents (λ bytes borne. h bytes (borne_more content contents bytes borne)))

given_more : (event : Event Emission) (events : List (Event Emission)) → Implies (GaveCookie events) (GaveCookie (event ∷ events))
given_more (sent emission) events bytes h = inr h
given_more event events bytes h = h

given_first : (event : Event Emission) (events : List (Event Emission)) → HoldsIfSent (λ emission. Implies (Bears emission) (GaveCookie (event ∷ events))) event
given_first (sent emission) events = λ bytes borne. inl borne
given_first event events = tt

-- Each cookie that a packet among these events carries was given away by them.
pub all_given : (events : List (Event Emission)) → AllSent (λ emission. Implies (Bears emission) (GaveCookie events)) events
all_given [] = tt
all_given (event ∷ events) =
    (given_first event events, all_sent_map (λ emission h bytes borne. given_more event events bytes (h bytes borne)) events (all_given events))

pub given_front : (events more : List (Event Emission)) → Implies (GaveCookie events) (GaveCookie (events ++ more))
given_front [] more bytes h = absurd h
given_front (sent emission ∷ events) more bytes (inl h) = inl h
given_front (sent emission ∷ events) more bytes (inr h) = inr (given_front events more bytes h)
given_front (event ∷ events) more bytes h = given_front events more bytes h

-- ---- turns

pub all_echo-append : (before : List (Event Emission)) (turns more : List Transition) → AllEchoGiven before turns → AllEchoGiven (before ++ events_of turns) more → AllEchoGiven before (turns ++ more)
all_echo-append before [] more h k = subst (λ (events : List (Event Emission)). AllEchoGiven events more) (append-nil before) k
all_echo-append before (t ∷ turns) more h k = (
  h.0,
  all_echo-append (before ++ t.outcome.events) turns more h.1
      (subst (λ (events : List (Event Emission)). AllEchoGiven events more) (sym (append_assoc before t.outcome.events (events_of turns))) k),
)
