-- Over an honest run each COOKIE ECHO that a side handles carries a cookie that this side gave away
-- before.
use Rattle.std.proofs.Common.{◌≡◌, ℕ, zero, suc, Option, None, Some, List, [], ◌∷◌, ◌++◌, refl, sym, subst}
use Rattle.std.specs.List.{AllByRecursion, slice_get}
use Rattle.dcsctp_spec_lemmas.specs.wire.Format.{IsPacket}
use Rattle.dcsctp_spec_lemmas.specs.wire.ReadsBack.{BuiltPacketReadsAsItself}
use Rattle.dcsctp_spec_lemmas.specs.types.declared.options.Options.{Options}
use Rattle.dcsctp_spec_lemmas.specs.types.declared.schedule.Side.{Side}
use Rattle.dcsctp_spec_lemmas.specs.types.declared.schedule.Side.TheVariants as sides
use Rattle.dcsctp_spec_lemmas.specs.types.Schedule.{StepContent, call_step, delivery_step, ActContent, step_act, outside_act, IsHonestAct, AreHonest}
use Rattle.dcsctp_spec_lemmas.specs.types.Settings.{FitsOptions, wire_options, ports_of}
use Rattle.dcsctp_spec_lemmas.specs.spec.endpoint.Event.{Event, sent}
use Rattle.dcsctp_spec_lemmas.specs.spec.Packet.{Content, cookie_echo, Packet, Emission, packet_of_content, emission_bytes}
use Rattle.dcsctp_spec_lemmas.specs.spec.Admission.{admits}
use Rattle.dcsctp_spec_lemmas.specs.spec.endpoint.Endpoint.{Endpoint, fresh_endpoint}
use Rattle.dcsctp_spec_lemmas.specs.spec.endpoint.Turn.{Input, arrival, refusal, chunk_input, unreadable_text}
use Rattle.dcsctp_spec_lemmas.specs.spec.endpoint.CallTurns.{Transition, AdmittedTurns, HandleInput, unreadable, readable, AlongTurns, events_of}
use Rattle.dcsctp_spec_laws.specs.TurnLaws.{ChunksAreControlled}
use Rattle.dcsctp_spec_runs.specs.Fitting.{HoldsIfSent, AllSent, IsSendable}
use Rattle.dcsctp_spec_runs.specs.Sockets.{PerformedAct, Both, of_side, of_other, side_of, side_turns_added, turns_after, endpoint_after, packets_shown, DeliveryTurns, StepTurns, SocketRun, side_of_act, NextTurns, acts_of}
use Rattle.dcsctp_spec_runs.proofs.RunsAlong.{act_along}
use Rattle.dcsctp_spec_lemmas.proofs.TurnLists.{after_all-append, events_of-append}
use Rattle.dcsctp_theorem_sockets.specs.Agreement.{AreUsable}
use Rattle.dcsctp_theorem_sockets.proofs.Deliver.{IsSent, sent_at, reads_as_sent}
use Rattle.dcsctp_theorem_sockets.proofs.Moves.{Below}
use Rattle.dcsctp_theorem_sockets.proofs.Sent.{all_sent_append, all_sent_map}
use Rattle.dcsctp_theorem_sockets.proofs.SocketsAgree.{Joined, joined}
use Rattle.dcsctp_theorem_sockets.specs.Cookies.{GaveCookie, EchoesGivenCookie, AllEchoGiven, GivesCookiesThroughout, CookiesWereGiven}
use Rattle.dcsctp_theorem_sockets.proofs.CookieRules.{ContentKeeps, ContentsKeep, CoreKeeps, TakenKeeps}
use Rattle.dcsctp_theorem_sockets.proofs.TurnsKeep.{EmissionKeeps, InputKeeps, TurnKeeps, turn_keeps, TurnsKeep, turns_keep}
use Rattle.dcsctp_theorem_sockets.proofs.ChunksIn.{OfChunk, OfChunks, of_turns, of_call, of_admitted}
use Rattle.dcsctp_theorem_sockets.proofs.GivenLemmas.{echoing, Implies, contents_map, core_map, Bears, borne_keep, all_given, given_front, all_echo-append}

-- ---- one side, beside the other

-- These turns gave the cookie away.
abbrev GivenBy : List Transition → List ℕ → Type 0
GivenBy turns bytes = GaveCookie (events_of turns) bytes

-- Each cookie that the side echoed, and the one that it echoes now, was given away by the other. Each that it handled in a COOKIE
-- ECHO was given away by itself before.
record SideKeeps (mine : Options) (turns others : List Transition) : Type 0 where
  sent : AllSent (EmissionKeeps (echoing (GivenBy others))) (events_of turns)
  core : CoreKeeps (echoing (GivenBy others)) (endpoint_after mine turns).core
  given : AllEchoGiven [] turns

given_more : (turns more : List Transition) → Implies (GivenBy turns) (GivenBy (turns ++ more))
given_more turns more bytes h = subst (λ (events : List (Event Emission)). GaveCookie events bytes) (sym (events_of-append turns more)) (given_front (events_of turns) (events_of more) bytes h)

-- The other does more.
beside : (mine : Options) (turns others more : List Transition) → SideKeeps mine turns others → SideKeeps mine turns (others ++ more)
beside mine turns others more h =
    record {
      sent = all_sent_map (λ emission. contents_map (GivenBy others) (GivenBy (others ++ more)) (given_more others more) emission.packet.contents) (events_of turns) h.sent;
      core = core_map (GivenBy others) (GivenBy (others ++ more)) (given_more others more) (endpoint_after mine turns).core h.core;
      given = h.given;
    }

-- a chunk that comes in: the cookie of an INIT ACK was given away by the other, that of a COOKIE ECHO by this side
abbrev GoodChunk : List Transition → List Transition → Content → Type 0
GoodChunk turns others content = TakenKeeps (echoing (GivenBy others)) content × ContentKeeps (echoing (GivenBy turns)) content

taken_in : (turns others : List Transition) (input : Input) → OfChunk (GoodChunk turns others) input → InputKeeps (echoing (GivenBy others)) input
taken_in turns others (chunk_input tag content) h = h.0
taken_in turns others input h = tt

inputs_keep : (turns others more : List Transition) → OfChunks (GoodChunk turns others) more → AllByRecursion (λ turn. InputKeeps (echoing (GivenBy others)) turn.input) more
inputs_keep turns others [] h = tt
inputs_keep turns others (t ∷ more) h = (taken_in turns others t.input h.0, inputs_keep turns others more h.1)

echo_given : (turns others : List Transition) (events : List (Event Emission)) (input : Input) → Implies (GivenBy turns) (GaveCookie events) → OfChunk (GoodChunk turns others) input → EchoesGivenCookie events input
echo_given turns others events (chunk_input tag (cookie_echo bytes)) f h = f bytes h.1
echo_given turns others events input f h = tt

echoes_given : (turns others : List Transition) (before : List (Event Emission)) (more : List Transition) → Implies (GivenBy turns) (GaveCookie before) → OfChunks (GoodChunk turns others) more
    → AllEchoGiven before more
echoes_given turns others before [] f h = tt
echoes_given turns others before (t ∷ more) f h = (
  echo_given turns others before t.input f h.0,
  echoes_given turns others (before ++ t.outcome.events) more (λ bytes given. given_front before t.outcome.events bytes (f bytes given)) h.1,
)

-- The side does more.
side_more : (mine : Options) (turns others more : List Transition) → SideKeeps mine turns others → OfChunks (GoodChunk turns others) more
    → AlongTurns (TurnKeeps (echoing (GivenBy others))) (endpoint_after mine turns) more → SideKeeps mine (turns ++ more) others
side_more mine turns others more h inputs along =
    let now : TurnsKeep (echoing (GivenBy others)) (endpoint_after mine turns) more =
    turns_keep (echoing (GivenBy others)) (endpoint_after mine turns) more along h.core (inputs_keep turns others more inputs) in
    record {
      sent = subst (AllSent (EmissionKeeps (echoing (GivenBy others)))) (sym (events_of-append turns more))
          (all_sent_append (EmissionKeeps (echoing (GivenBy others))) (events_of turns) (events_of more) h.sent now.sent);
      core = subst (λ (e : Endpoint). CoreKeeps (echoing (GivenBy others)) e.core) (sym (after_all-append (fresh_endpoint mine) turns more)) now.core;
      given = all_echo-append [] turns more h.given (echoes_given turns others (events_of turns) more (λ bytes given. given) inputs);
    }

-- ---- a packet of the other side

-- what is known of a packet that the other sent
record Known (turns others : List Transition) (emission : Emission) : Type 0 where
  sendable : IsSendable emission
  given : Implies (Bears emission) (GivenBy others)
  echoed : EmissionKeeps (echoing (GivenBy turns)) emission

known_one : (turns others : List Transition) (event : Event Emission) → HoldsIfSent IsSendable event → HoldsIfSent (λ emission. Implies (Bears emission) (GivenBy others)) event
    → HoldsIfSent (EmissionKeeps (echoing (GivenBy turns))) event → HoldsIfSent (Known turns others) event
known_one turns others (sent emission) sendable given echoed = record { sendable = sendable; given = given; echoed = echoed }
known_one turns others event sendable given echoed = tt

known_all : (turns others : List Transition) (events : List (Event Emission)) → AllSent IsSendable events → AllSent (λ emission. Implies (Bears emission) (GivenBy others)) events
    → AllSent (EmissionKeeps (echoing (GivenBy turns))) events → AllSent (Known turns others) events
known_all turns others [] sendable given echoed = tt
known_all turns others (event ∷ events) sendable given echoed =
    (known_one turns others event sendable.0 given.0 echoed.0, known_all turns others events sendable.1 given.1 echoed.1)

good_chunks : (turns others : List Transition) (contents : List Content) → AllByRecursion (TakenKeeps (echoing (GivenBy others))) contents → ContentsKeep (echoing (GivenBy turns)) contents
    → AllByRecursion (GoodChunk turns others) contents
good_chunks turns others [] h k = tt
good_chunks turns others (content ∷ contents) h k = ((h.0, k.0), good_chunks turns others contents h.1 k.1)

input_chunks : BuiltPacketReadsAsItself → (mine theirs : Options) (turns others : List Transition) (bytes : List ℕ) (more : List Transition) → FitsOptions theirs
    → IsSent (Known turns others) (emission_bytes (ports_of theirs)) bytes → HandleInput (endpoint_after mine turns) bytes more → OfChunks (GoodChunk turns others) more
input_chunks law mine theirs turns others bytes more fits out (unreadable ts none taken) =
    of_turns (GoodChunk turns others) (endpoint_after mine turns) (arrival ∷ refusal unreadable_text ∷ []) ts (tt, (tt, tt)) taken
input_chunks law mine theirs turns others bytes more fits out (readable packet counted ts is_packet counting admitted) =
    let e : Endpoint = endpoint_after mine turns in
    let emitted : Packet = out.emission.packet in
    let is : packet_of_content packet ≡ emitted =
    reads_as_sent law e.options theirs out.emission packet fits out.good.sendable (subst (λ (bs : List ℕ). IsPacket (wire_options e.options) packet bs) out.is is_packet) in
    let each : AllByRecursion (GoodChunk turns others) emitted.contents =
    good_chunks turns others emitted.contents (borne_keep (GivenBy others) emitted.contents out.good.given) out.good.echoed in (
      subst (OfChunk (GoodChunk turns others)) (sym counting.is) tt,
      of_admitted (GoodChunk turns others) counted.outcome.after emitted (admits e.core emitted) ts each
          (subst (λ (p : Packet). AdmittedTurns counted.outcome.after p (admits e.core p) ts) is admitted),
    )

delivery_chunks : BuiltPacketReadsAsItself → (mine theirs : Options) (turns others : List Transition) (index : ℕ) (found : Option (List ℕ)) (more : List Transition) → FitsOptions theirs
    → AllSent (Known turns others) (events_of others) → slice_get (packets_shown theirs others) index ≡ found → DeliveryTurns (endpoint_after mine turns) found more
    → OfChunks (GoodChunk turns others) more
delivery_chunks law mine theirs turns others index None more fits each is none = subst (OfChunks (GoodChunk turns others)) (sym none) tt
delivery_chunks law mine theirs turns others index (Some bytes) more fits each is taken =
    input_chunks law mine theirs turns others bytes more fits (sent_at (Known turns others) (emission_bytes (ports_of theirs)) (events_of others) index bytes each is) taken

step_chunks : BuiltPacketReadsAsItself → (mine theirs : Options) (turns others : List Transition) (step : StepContent) (more : List Transition) → FitsOptions theirs
    → AllSent (Known turns others) (events_of others) → StepTurns (endpoint_after mine turns) (packets_shown theirs others) step more → OfChunks (GoodChunk turns others) more
step_chunks law mine theirs turns others (call_step which call) more fits each taken = of_call (GoodChunk turns others) (endpoint_after mine turns) call more taken
step_chunks law mine theirs turns others (delivery_step which zero) more fits each none = subst (OfChunks (GoodChunk turns others)) (sym none) tt
step_chunks law mine theirs turns others (delivery_step which (suc index)) more fits each taken =
    delivery_chunks law mine theirs turns others index (slice_get (packets_shown theirs others) index) more fits each refl taken

-- ---- a run

-- the laws below that this rests on
record CookieLaws : Type 0 where
  below : Below
  chunks : ChunksAreControlled

step_keeps : CookieLaws → (mine theirs : Options) (turns others : List Transition) (step : StepContent) (more : List Transition) → FitsOptions theirs → AllSent IsSendable (events_of others)
    → SideKeeps mine turns others → SideKeeps theirs others turns → StepTurns (endpoint_after mine turns) (packets_shown theirs others) step more → SideKeeps mine (turns ++ more) others
step_keeps law mine theirs turns others step more fits sendable h k taken =
    side_more mine turns others more h
    (step_chunks law.below.built mine theirs turns others step more fits (known_all turns others (events_of others) sendable (all_given (events_of others)) k.sent) taken)
    (act_along (TurnKeeps (echoing (GivenBy others))) (turn_keeps (echoing (GivenBy others)) law.chunks law.below.acts (λ e said own tie. tt)) (endpoint_after mine turns)
    (packets_shown theirs others) (step_act step) more taken)

record BothKeep (options : Both Options) (turns : Both (List Transition)) : Type 0 where
  a : SideKeeps options.a turns.a turns.b
  b : SideKeeps options.b turns.b turns.a

stepped : CookieLaws → (options : Both Options) (turns : Both (List Transition)) (step : StepContent) (more : List Transition) (side : Side) → AreUsable options → Joined options turns
    → BothKeep options turns → StepTurns (endpoint_after (of_side side options) (of_side side turns)) (packets_shown (of_other side options) (of_other side turns)) step more
    → BothKeep options (side_turns_added side more turns)
stepped law options turns step more sides.A are j h taken =
    record {
      a = step_keeps law options.a options.b turns.a turns.b step more (are sides.B).fits (all_sent_map (λ emission went. went.sendable) (events_of turns.b) j.b.went) h.a h.b taken;
      b = beside options.b turns.b turns.a more h.b;
    }
stepped law options turns step more sides.B are j h taken =
    record {
      a = beside options.a turns.a turns.b more h.a;
      b = step_keeps law options.b options.a turns.b turns.a step more (are sides.A).fits (all_sent_map (λ emission went. went.sendable) (events_of turns.a) j.a.went) h.b h.a taken;
    }

acted : CookieLaws → (options : Both Options) (turns : Both (List Transition)) (act : ActContent) (more : List Transition) → AreUsable options → IsHonestAct act → Joined options turns
    → BothKeep options turns → NextTurns options turns act more → BothKeep options (side_turns_added (side_of_act act) more turns)
acted law options turns (step_act step) more are honest j h taken = stepped law options turns step more (side_of step) are j h taken
acted law options turns (outside_act outside) more are honest j h taken = absurd honest

both_keep : CookieLaws → (options : Both Options) (run : List PerformedAct) → AreUsable options → SocketRun options run → AreHonest (acts_of run) → BothKeep options (turns_after run)
both_keep law options [] are runs honest = record { a = record { sent = tt; core = tt; given = tt }; b = record { sent = tt; core = tt; given = tt } }
both_keep law options (worked ∷ earlier) are runs honest =
    acted law options (turns_after earlier) worked.act worked.turns are honest.0 (joined law.below options earlier are runs.1 honest.1)
    (both_keep law options earlier are runs.1 honest.1) runs.0

given_at : (options : Both Options) (turns : Both (List Transition)) (side : Side) → BothKeep options turns → AllEchoGiven [] (of_side side turns)
given_at options turns sides.A h = h.a.given
given_at options turns sides.B h = h.b.given

throughout : CookieLaws → (options : Both Options) (run : List PerformedAct) → AreUsable options → SocketRun options run → GivesCookiesThroughout run
throughout law options [] are runs = tt
throughout law options (worked ∷ earlier) are runs = (
  (λ honest side. given_at options (turns_after (worked ∷ earlier)) side (both_keep law options (worked ∷ earlier) are runs honest)),
  throughout law options earlier are runs.1,
)

pub cookies_were_given : Below → ChunksAreControlled → CookiesWereGiven
cookies_were_given below chunks options run are runs = throughout (record { below = below; chunks = chunks }) options run are runs
