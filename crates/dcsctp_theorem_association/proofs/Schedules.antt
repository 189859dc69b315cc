-- How a schedule is written down: what each side does and gets, newest first, and the steps that
-- come of it.
use Rattle.std.proofs.Common.{ℕ, true, false, Option, None, Some, List, [], ◌∷◌, refl}
use Rattle.dcsctp_spec_lemmas.specs.wire.declared.reconfiguration.ReconfigurationResponseResult.{ReconfigurationResponseResult}
use Rattle.dcsctp_spec_lemmas.specs.wire.declared.reconfiguration.ReconfigurationResponseResult.TheVariants.{SuccessNothingToDo}
use Rattle.dcsctp_spec_lemmas.specs.types.declared.association.Pair.{Pair}
use Rattle.dcsctp_spec_lemmas.specs.types.declared.association.Held.{Held}
use Rattle.dcsctp_spec_lemmas.specs.types.declared.capabilities.Capabilities.{Capabilities}
use Rattle.dcsctp_spec_lemmas.specs.types.declared.options.Options.{Options}
use Rattle.dcsctp_spec_lemmas.specs.types.Offer.{Offer}
use Rattle.dcsctp_spec_lemmas.specs.spec.Cookie.{Cookie, cookie_bytes}
use Rattle.dcsctp_spec_lemmas.specs.spec.Reconfiguration.{early, due, RequestedReset}
use Rattle.dcsctp_spec_lemmas.specs.spec.Packet.{Introduction, Content, Packet}
use Rattle.dcsctp_spec_lemmas.specs.spec.endpoint.Endpoint.{Core}
use Rattle.dcsctp_spec_lemmas.specs.spec.association.Effect.{AssociationIdentity, Effect, sends}
use Rattle.dcsctp_spec_lemmas.specs.spec.association.Choices.{Choices, nothing_to_send, idle_choices}
use Rattle.dcsctp_spec_lemmas.specs.spec.association.Acts.{Act, act_change, chunk_change, MakesCookie}
use Rattle.dcsctp_spec_runs.specs.Past.{HasEffect}
use Rattle.dcsctp_spec_runs.specs.World.{SideState, MayBeHandled, does, receives, World, Which, at_a, at_b, WorldStep, world_after, WorldRun, worked_whole}

-- ---- values

-- the options that count here, as they are by default; the others are left open
abbrev pub configured : Options → Options
configured options =
    record options {
      announced_maximum_incoming_streams = 65535;
      announced_maximum_outgoing_streams = 65535;
      max_receiver_window_buffer_size = 5242880;
      enable_partial_reliability = true;
      enable_message_interleaving = false;
      zero_checksum_alternate_error_detection_method = record { 0 = 0 };
    }

abbrev pub pair : ℕ → ℕ → Pair
pair tag first_tsn = record { tag = tag; first_tsn = first_tsn }

abbrev pub offer : Offer
offer = record { partial_reliability = true; message_interleaving = false; reconfig = true; zero_checksum_method = 0; inbound_streams = 65535; outbound_streams = 65535 }

abbrev pub capabilities : Capabilities
capabilities =
    record { partial_reliability = true; message_interleaving = false; reconfig = true; zero_checksum_method = record { 0 = 0 }; negotiated_maximum_incoming_streams = 65535; negotiated_maximum_outgoing_streams = 65535 }

abbrev pub introduction : Pair → Introduction
introduction mine = record { pair = mine; offer = offer; window = 5242880 }

abbrev pub link : Pair → Pair → AssociationIdentity
link my peer = record { my = my; peer = peer; capabilities = capabilities }

-- the peer, our next number, our outstanding one, the peer's last number and its result
abbrev pub held : Pair → ℕ → Option ℕ → ℕ → ReconfigurationResponseResult → Held
held peer own_next outstanding last result =
    record { peer = peer; capabilities = capabilities; own_next = own_next; own_outstanding = outstanding; peer_last = last; peer_result = result }

-- before any reset
abbrev pub new : Pair → ℕ → ℕ → Held
new peer own_next last = held peer own_next None last SuccessNothingToDo

abbrev pub packet : ℕ → Content → Packet
packet tag content = record { tag = tag; contents = content ∷ [] }

-- the cookie of this maker for this addressee, with this tie tag
abbrev pub cookie : Pair → Pair → ℕ → Cookie
cookie maker addressee tie = record { maker = maker; addressee = addressee; offer = offer; window = 5242880; tie = tie; moment = 0 }

abbrev pub bytes_of : Pair → Pair → ℕ → List ℕ
bytes_of maker addressee tie = cookie_bytes (cookie maker addressee tie)

-- ---- choices

-- Packets fit, all data is acknowledged, and there is nothing to send.
abbrev pub plain : Choices
plain = record (idle_choices (pair 1 1)) { state = early }

abbrev pub with_drawn : Pair → Choices
with_drawn drawn = record plain { drawn = drawn }

-- an answer to INIT
abbrev pub with_cookie : Pair → List ℕ → Choices
with_cookie drawn bytes = record plain { drawn = drawn; cookie = bytes }

abbrev pub with_tie : ℕ → Choices
with_tie tie = record plain { tie = tie }

abbrev pub with_reset : RequestedReset → Choices
with_reset reset = record plain { filling = record nothing_to_send { reset = Some reset } }

-- All data has come that was sent before a reset was requested.
abbrev pub reached : Choices
reached = record plain { state = due }

-- ---- schedules

pub data Doing : Type 0 where
  -- what the user or a timer brings
  acts : Which → Act → Choices → Doing
  -- a packet of one chunk, under this tag
  gets : Which → ℕ → Content → Choices → Doing

abbrev pub side_of : World → Which → SideState
side_of world at_a = world.a
side_of world at_b = world.b

abbrev pub other_side_of : World → Which → SideState
other_side_of world at_a = world.b
other_side_of world at_b = world.a

abbrev pub step_of : World → Doing → WorldStep
step_of world (acts which act choices) =
    record { side = which; move = does act; changes = act_change (side_of world which).options (side_of world which).core act choices ∷ [] }
step_of world (gets which tag content choices) =
    record { side = which; move = receives (packet tag content); changes = chunk_change (side_of world which).options (side_of world which).core tag content choices ∷ [] }

abbrev pub then_step : Options → Options → Doing → List WorldStep → List WorldStep
then_step options_a options_b doing before = step_of (world_after options_a options_b before) doing ∷ before

abbrev pub steps : Options → Options → List Doing → List WorldStep
steps options_a options_b [] = []
steps options_a options_b (doing ∷ earlier) = then_step options_a options_b doing (steps options_a options_b earlier)

-- A packet that is delivered was sent by the other side and may be handled, and a cookie that is made reads back.
abbrev pub Needs : World → Doing → Type 0
Needs world (acts which act choices) = Unit {0}
Needs world (gets which tag content choices) =
    HasEffect (sends (packet tag content)) (other_side_of world which).past × MayBeHandled (side_of world which).core (packet tag content) × MakesCookie (side_of world which).core content choices

abbrev pub Goes : Options → Options → List Doing → Type 0
Goes options_a options_b [] = Unit {0}
Goes options_a options_b (doing ∷ earlier) = Needs (world_after options_a options_b (steps options_a options_b earlier)) doing × Goes options_a options_b earlier

-- The newest thing that is done, after the earlier ones.
infixr 3 ◌after◌
abbrev pub ◌after◌ : {Newest Earlier : Type 0} → Newest → Earlier → Newest × Earlier
newest after earlier = (newest, earlier)

-- So the steps are a run.
pub is_run : (options_a options_b : Options) (doings : List Doing) → Goes options_a options_b doings → WorldRun options_a options_b (steps options_a options_b doings)
is_run options_a options_b [] h = tt
is_run options_a options_b (acts at_a act choices ∷ earlier) h = ((choices, refl), is_run options_a options_b earlier h.1)
is_run options_a options_b (acts at_b act choices ∷ earlier) h = ((choices, refl), is_run options_a options_b earlier h.1)
is_run options_a options_b (gets at_a tag content choices ∷ earlier) h = ((h.0.0, worked_whole h.0.1 ((choices, h.0.2, refl), tt)), is_run options_a options_b earlier h.1)
is_run options_a options_b (gets at_b tag content choices ∷ earlier) h = ((h.0.0, worked_whole h.0.1 ((choices, h.0.2, refl), tt)), is_run options_a options_b earlier h.1)

-- ---- two sockets with default options

abbrev pub GoesOn : Options → Options → List Doing → Type 0
GoesOn a b doings = Goes (configured a) (configured b) doings

abbrev pub IsRun : Options → Options → List Doing → Type 0
IsRun a b doings = WorldRun (configured a) (configured b) (steps (configured a) (configured b) doings)

abbrev pub end_of : Options → Options → List Doing → World
end_of a b doings = world_after (configured a) (configured b) (steps (configured a) (configured b) doings)

abbrev pub side : Options → Core → List Effect → SideState
side options core past = record { options = configured options; core = core; past = past }
