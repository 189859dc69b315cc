-- The COOKIE ECHO that a socket sends goes to the tag of its cookie's maker.
use Rattle.std.proofs.Common.{◌≡◌, refl, sym, subst, ℕ, List, [], ◌∷◌}
use Rattle.dcsctp_spec_lemmas.specs.types.declared.options.Options.{Options}
use Rattle.dcsctp_spec_lemmas.specs.types.declared.schedule.Side.{Side}
use Rattle.dcsctp_spec_lemmas.specs.types.declared.schedule.Side.TheVariants as sides
use Rattle.dcsctp_spec_lemmas.specs.types.Offer.{Offer, offer_of}
use Rattle.dcsctp_spec_lemmas.specs.spec.Packet.{Content, init, init_ack, cookie_echo, cookie_ack, re_config, abort, shutdown, shutdown_ack, shutdown_complete, plain, Emission}
use Rattle.dcsctp_spec_lemmas.specs.spec.endpoint.CallTurns.{events_of}
use Rattle.dcsctp_spec_lemmas.specs.spec.association.Effect.{Effect, sends, Change}
use Rattle.dcsctp_spec_runs.specs.Fitting.{AllSent}
use Rattle.dcsctp_spec_runs.specs.Laws.{AnswerKeepsAgreement}
use Rattle.dcsctp_spec_runs.specs.Past.{HasFreshTags}
use Rattle.dcsctp_spec_runs.specs.World.{SideState, after_changes, after_change, Which, at_a, at_b, Move, MoveChanges, WorldStep, World, step_after, world_after, StepChanges, WorldRun}
use Rattle.dcsctp_spec_runs.specs.Sockets.{PerformedAct, Both, of_side, turns_after}
use Rattle.dcsctp_theorem_association.proofs.Agreement.{TrueWorld, FreshWorld}
use Rattle.dcsctp_theorem_association.proofs.Facts.{TrueFront, Behind, AllBehind, TrueContents, TruePast}
use Rattle.dcsctp_theorem_association.proofs.Growth.{true_of}
use Rattle.dcsctp_theorem_association.proofs.MovesKept.{TrueSide, move_true_after, true_beside, fresh_before_changes}
use Rattle.dcsctp_theorem_sockets.specs.Agreement.{AreFresh}
use Rattle.dcsctp_theorem_sockets.proofs.Follow.{Went}
use Rattle.dcsctp_theorem_sockets.proofs.Moves.{Below}
use Rattle.dcsctp_theorem_sockets.proofs.Sent.{all_sent_map}
use Rattle.dcsctp_theorem_sockets.proofs.SocketsAgree.{Joined, joined}
use Rattle.dcsctp_delivery_sockets.specs.sockets.Echoes.{FrontGoes, MayFollow, AllMayFollow, ContentsGo, GoesToMaker, EchoesGoToMakers}

-- ---- what is true over a run of the machine

options_stay : (side : SideState) (changes : List Change) → (after_changes side changes).options ≡ side.options
options_stay side [] = refl
options_stay side (change ∷ changes) = options_stay (after_change side change) changes

fresh_before_step : (world : World) (which : Which) (changes : List Change) → FreshWorld (step_after world which changes) → FreshWorld world
fresh_before_step world at_a changes fresh = record { a = fresh_before_changes world.a changes fresh.a; b = fresh.b }
fresh_before_step world at_b changes fresh = record { a = fresh.a; b = fresh_before_changes world.b changes fresh.b }

true_step : AnswerKeepsAgreement → (one other : SideState) (move : Move) (changes : List Change)
    → TrueSide (offer_of other.options) one other.past → TrueSide (offer_of one.options) other one.past
    → HasFreshTags (after_changes one changes).past → HasFreshTags other.past → MoveChanges one other.past move changes
    → TrueSide (offer_of other.options) (after_changes one changes) other.past × TrueSide (offer_of (after_changes one changes).options) other (after_changes one changes).past
true_step law one other move changes h k fresh their_fresh turns = (
  move_true_after law (offer_of other.options) one other.past move changes h k.past fresh their_fresh turns,
  subst (λ (o : Options). TrueSide (offer_of o) other (after_changes one changes).past) (sym (options_stay one changes)) (true_beside (offer_of one.options) other one changes k),
)

true_after_step : AnswerKeepsAgreement → (world : World) (which : Which) (move : Move) (changes : List Change)
    → TrueWorld world → FreshWorld (step_after world which changes) → StepChanges world which move changes → TrueWorld (step_after world which changes)
true_after_step law world at_a move changes h fresh turns =
    let both : TrueSide (offer_of world.b.options) (after_changes world.a changes) world.b.past × TrueSide (offer_of (after_changes world.a changes).options) world.b (after_changes world.a changes).past =
    true_step law world.a world.b move changes h.a h.b fresh.a fresh.b turns in
    record { a = both.0; b = both.1 }
true_after_step law world at_b move changes h fresh turns =
    let both : TrueSide (offer_of world.a.options) (after_changes world.b changes) world.a.past × TrueSide (offer_of (after_changes world.b changes).options) world.a (after_changes world.b changes).past =
    true_step law world.b world.a move changes h.b h.a fresh.b fresh.a turns in
    record { a = both.1; b = both.0 }

pub true_run : AnswerKeepsAgreement → (options_a options_b : Options) (steps : List WorldStep) → WorldRun options_a options_b steps
    → FreshWorld (world_after options_a options_b steps) → TrueWorld (world_after options_a options_b steps)
true_run law options_a options_b [] run fresh = record { a = record { past = tt; core = tt }; b = record { past = tt; core = tt } }
true_run law options_a options_b (step ∷ earlier) run fresh =
    true_after_step law (world_after options_a options_b earlier) step.side step.move step.changes
    (true_run law options_a options_b earlier run.1 (fresh_before_step (world_after options_a options_b earlier) step.side step.changes fresh)) fresh run.0

-- ---- what that says of packets

module _ (my_offer their_offer : Offer) (mine theirs : List Effect) where
  front_goes : (tag : ℕ) (content : Content) → TrueFront my_offer their_offer mine theirs tag content → FrontGoes tag content
  front_goes tag (init introduction) is = tt
  front_goes tag (init_ack introduction cookie) is = tt
  front_goes tag (cookie_echo bytes) is = record { cookie = is.cookie; reads = is.reads; under = is.under }
  front_goes tag cookie_ack is = tt
  front_goes tag (re_config parameters) is = tt
  front_goes tag (abort reflected causes) is = tt
  front_goes tag (shutdown tsn) is = tt
  front_goes tag shutdown_ack is = tt
  front_goes tag (shutdown_complete reflected) is = tt
  front_goes tag (plain chunk) is = tt

  follows : (content : Content) → Behind content → MayFollow content
  follows (init introduction) is = absurd is
  follows (init_ack introduction cookie) is = absurd is
  follows (cookie_echo bytes) is = absurd is
  follows cookie_ack is = absurd is
  follows (re_config parameters) is = tt
  follows (abort reflected causes) is = absurd is
  follows (shutdown tsn) is = absurd is
  follows shutdown_ack is = absurd is
  follows (shutdown_complete reflected) is = absurd is
  follows (plain chunk) is = tt

  all_follow : (contents : List Content) → AllBehind contents → AllMayFollow contents
  all_follow [] are = tt
  all_follow (content ∷ contents) are = (follows content are.0, all_follow contents are.1)

  contents_go : (tag : ℕ) (contents : List Content) → TrueContents my_offer their_offer mine theirs tag contents → ContentsGo tag contents
  contents_go tag [] is = tt
  contents_go tag (content ∷ contents) is = (front_goes tag content is.0, all_follow contents is.1)

  went_to_maker : TruePast my_offer their_offer mine theirs → (emission : Emission) → Went mine emission → GoesToMaker emission
  went_to_maker past emission went =
      contents_go emission.packet.tag emission.packet.contents (true_of my_offer their_offer mine theirs (sends emission.packet) past went.was_sent)

-- ---- a run of two sockets

-- both sides of the machine that the sockets are followed by, and what is true of them
pub true_world : Below → AnswerKeepsAgreement → (options : Both Options) (run : List PerformedAct) (h : Joined options (turns_after run)) → AreFresh (turns_after run)
    → TrueWorld (world_after options.a options.b h.steps)
true_world law answers options run h tags = true_run answers options.a options.b h.steps h.is_run (record { a = h.a.fresh tags.a; b = h.b.fresh tags.b })

echoes_of : (options : Both Options) (run : List PerformedAct) (h : Joined options (turns_after run)) → TrueWorld (world_after options.a options.b h.steps) → (side : Side)
    → AllSent GoesToMaker (events_of (of_side side (turns_after run)))
echoes_of options run h is sides.A =
    let world : World = world_after options.a options.b h.steps in
    all_sent_map (went_to_maker (offer_of world.a.options) (offer_of world.b.options) world.a.past world.b.past is.a.past) (events_of (turns_after run).a) h.a.went
echoes_of options run h is sides.B =
    let world : World = world_after options.a options.b h.steps in
    all_sent_map (went_to_maker (offer_of world.b.options) (offer_of world.a.options) world.b.past world.a.past is.b.past) (events_of (turns_after run).b) h.b.went

pub echoes_go_to_makers : Below → AnswerKeepsAgreement → EchoesGoToMakers
echoes_go_to_makers law answers options run are runs honest tags side =
    let h : Joined options (turns_after run) = joined law options run are runs honest in
    echoes_of options run h (true_world law answers options run h tags) side
