-- The four packets of the handshake, delivered in turn between two fresh sides (RFC 9260, section 5.1).
use Rattle.std.specs.Prelude.{◌≡◌, ℕ, ◌+◌, List, [], ◌∷◌}
use Rattle.dcsctp_spec_lemmas.specs.types.declared.options.Options.{Options}
use Rattle.dcsctp_spec_lemmas.specs.types.declared.association.Pair.{Pair}
use Rattle.dcsctp_spec_lemmas.specs.types.Offer.{offer_of, negotiated_capabilities}
use Rattle.dcsctp_spec_lemmas.specs.spec.Packet.{Content, Packet}
use Rattle.dcsctp_spec_lemmas.specs.spec.endpoint.Endpoint.{Core, closed, open_in, established}
use Rattle.dcsctp_spec_lemmas.specs.spec.association.Effect.{Effect, sends, connects, Change, no_change}
use Rattle.dcsctp_spec_lemmas.specs.spec.association.Choices.{Choices, idle_choices}
use Rattle.dcsctp_spec_lemmas.specs.spec.association.HandshakeChanges.{introduction_of, new_held, IsCookieOf}
use Rattle.dcsctp_spec_lemmas.specs.spec.association.Acts.{connect, act_change, chunk_change}
use Rattle.dcsctp_spec_runs.specs.World.{does, receives, Which, at_a, at_b, WorldStep, World, world_after, WorldRun}

-- what is free in the handshake: each side's pair, the bytes of the cookie, and the tie tags that are drawn
pub record Handshake : Type 0 where
  pub a : Pair
  pub b : Pair
  pub cookie : List ℕ
  pub tie : ℕ

-- each packet fits, and nothing else is to send
abbrev pub choices_for : Handshake → Pair → Choices
choices_for handshake drawn = record (idle_choices drawn) { cookie = handshake.cookie; tie = handshake.tie }

-- The cookie reads back as one that the second side makes for the INIT of the first.
abbrev pub CookieReads : Options → Handshake → Type 0
CookieReads options_a handshake = IsCookieOf (introduction_of options_a handshake.a) handshake.b handshake.cookie

-- the first packet that these effects send
abbrev pub sent_first : List Effect → Packet
sent_first [] = record { tag = 0; contents = [] }
sent_first (sends packet ∷ effects) = packet
sent_first (effect ∷ effects) = sent_first effects

-- its first chunk is handled
abbrev pub change_of_first_chunk : Options → Core → ℕ → List Content → Choices → Change
change_of_first_chunk options core header [] choices = no_change core
change_of_first_chunk options core header (content ∷ contents) choices = chunk_change options core header content choices

abbrev pub change_of_packet : Options → Core → Packet → Choices → Change
change_of_packet options core packet choices = change_of_first_chunk options core packet.tag packet.contents choices

-- connect, and what INIT, INIT ACK, COOKIE ECHO and COOKIE ACK bring in turn
abbrev pub connecting : Options → Options → Handshake → Change
connecting options_a options_b handshake = act_change options_a closed connect (choices_for handshake handshake.a)

abbrev pub init_handled : Options → Options → Handshake → Change
init_handled options_a options_b handshake =
    change_of_packet options_b closed (sent_first (connecting options_a options_b handshake).effects) (choices_for handshake handshake.b)

abbrev pub init_ack_handled : Options → Options → Handshake → Change
init_ack_handled options_a options_b handshake =
    change_of_packet options_a (connecting options_a options_b handshake).core (sent_first (init_handled options_a options_b handshake).effects)
    (choices_for handshake handshake.a)

abbrev pub cookie_echo_handled : Options → Options → Handshake → Change
cookie_echo_handled options_a options_b handshake =
    change_of_packet options_b (init_handled options_a options_b handshake).core (sent_first (init_ack_handled options_a options_b handshake).effects)
    (choices_for handshake handshake.b)

abbrev pub cookie_ack_handled : Options → Options → Handshake → Change
cookie_ack_handled options_a options_b handshake =
    change_of_packet options_a (init_ack_handled options_a options_b handshake).core (sent_first (cookie_echo_handled options_a options_b handshake).effects)
    (choices_for handshake handshake.a)

abbrev pub delivery_in_turn : Which → Change → Change → WorldStep
delivery_in_turn side sent change = record { side = side; move = receives (sent_first sent.effects); changes = change ∷ [] }

-- the steps, newest first
abbrev pub handshake_steps : Options → Options → Handshake → List WorldStep
handshake_steps options_a options_b handshake =
    delivery_in_turn at_a (cookie_echo_handled options_a options_b handshake) (cookie_ack_handled options_a options_b handshake)
    ∷ delivery_in_turn at_b (init_ack_handled options_a options_b handshake) (cookie_echo_handled options_a options_b handshake)
    ∷ delivery_in_turn at_a (init_handled options_a options_b handshake) (init_ack_handled options_a options_b handshake)
    ∷ delivery_in_turn at_b (connecting options_a options_b handshake) (init_handled options_a options_b handshake)
    ∷ record { side = at_a; move = does connect; changes = connecting options_a options_b handshake ∷ [] }
    ∷ []

-- how often a side connected
abbrev pub connections_of_effects : List Effect → ℕ
connections_of_effects [] = 0
connections_of_effects (connects link ∷ earlier) = connections_of_effects earlier + 1
connections_of_effects (effect ∷ earlier) = connections_of_effects earlier

-- Both are Established and crossed, and each has connected once.
pub record AreConnectedOnce (options_a options_b : Options) (handshake : Handshake) (world : World) : Type 0 where
  pub a : world.a.core ≡ open_in established handshake.a (new_held handshake.a handshake.b (negotiated_capabilities (offer_of options_a) (offer_of options_b)))
  pub b : world.b.core ≡ open_in established handshake.b (new_held handshake.b handshake.a (negotiated_capabilities (offer_of options_b) (offer_of options_a)))
  pub a_once : connections_of_effects world.a.past ≡ 1
  pub b_once : connections_of_effects world.b.past ≡ 1

pub record HandshakeRuns (options_a options_b : Options) (handshake : Handshake) : Type 0 where
  pub run : WorldRun options_a options_b (handshake_steps options_a options_b handshake)
  pub connected : AreConnectedOnce options_a options_b handshake (world_after options_a options_b (handshake_steps options_a options_b handshake))

abbrev pub HandshakeConnects : Type 0
HandshakeConnects = (options_a options_b : Options) (handshake : Handshake) → CookieReads options_a handshake → HandshakeRuns options_a options_b handshake
