-- The cookie that a socket echoes is one that the other made for it.
use Rattle.std.proofs.Common.{◌≡◌, ℕ, Option, Some, List, [], ◌∷◌, inl, inr, refl, sym, subst, ap, ◌∙◌}
use Rattle.dcsctp_spec_lemmas.specs.types.declared.association.Held.{Held}
use Rattle.dcsctp_spec_lemmas.specs.types.declared.association.Pair.{Pair}
use Rattle.dcsctp_spec_lemmas.specs.types.declared.capabilities.Capabilities.{Capabilities}
use Rattle.dcsctp_spec_lemmas.specs.spec.Cookie.{Cookie}
use Rattle.dcsctp_spec_lemmas.specs.spec.association.HandshakeChanges.{new_held}
use Rattle.dcsctp_spec_lemmas.specs.types.declared.options.Options.{Options}
use Rattle.dcsctp_spec_lemmas.specs.types.declared.schedule.Side.{Side}
use Rattle.dcsctp_spec_lemmas.specs.types.declared.schedule.Side.TheVariants as sides
use Rattle.dcsctp_spec_lemmas.specs.types.Offer.{offer_of, negotiated_capabilities}
use Rattle.dcsctp_spec_lemmas.specs.spec.queues.Transfer.{Transfer}
use Rattle.dcsctp_spec_lemmas.specs.spec.endpoint.Endpoint.{Endpoint, Core, cookie_echoed}
use Rattle.dcsctp_spec_lemmas.specs.spec.endpoint.CallTurns.{Transition}
use Rattle.dcsctp_spec_lemmas.specs.spec.association.Effect.{Effect, draws, sends, holds, connects, ends, begins, gives_up, completes, fails, accepts, performs, renews, resumes, effects_without_packets, Change}
use Rattle.dcsctp_spec_runs.specs.Fitting.{FitsCore}
use Rattle.dcsctp_spec_runs.specs.Laws.{AnswerKeepsAgreement}
use Rattle.dcsctp_spec_runs.specs.Past.{HasEffect}
use Rattle.dcsctp_spec_runs.specs.Sockets.{PerformedAct, Both, of_side, of_other, turns_after, endpoint_after, SocketRun}
use Rattle.dcsctp_spec_runs.specs.World.{SideState, after_changes, after_change, Which, at_a, at_b, Move, WorldStep, World, step_after, world_after, StepChanges, WorldRun}
use Rattle.dcsctp_theorem_association.proofs.Agreement.{TrueWorld, FreshWorld}
use Rattle.dcsctp_theorem_association.proofs.Facts.{PeerFacts, EchoedCookie, TrueCore}
use Rattle.dcsctp_theorem_association.proofs.MovesKept.{TrueSide, move_true_after, true_beside, fresh_before_changes}
use Rattle.dcsctp_theorem_sockets.specs.Agreement.{AreUsable}
use Rattle.dcsctp_theorem_sockets.proofs.Follow.{Followed}
use Rattle.dcsctp_theorem_sockets.proofs.Moves.{Below}
use Rattle.dcsctp_theorem_sockets.proofs.SocketsAgree.{Joined, joined}
use Rattle.dcsctp_theorem_progress.specs.OthersCookies.{IsOthersCookie, EchoesOthersCookie, EchoOthersCookies, AwaitsCookieAck, AwaitsWithData, AwaitingDataEchoes, KnowCookies}
use Rattle.dcsctp_theorem_progress.specs.Rounds.{this_endpoint, other_endpoint}
use Rattle.dcsctp_theorem_progress.specs.LostInits.{KeepsOptions}
use Rattle.dcsctp_theorem_progress.specs.Cookies.{HasEchoed}
use Rattle.dcsctp_theorem_progress.specs.DataEchoes.{EchoesWithData}
use Rattle.dcsctp_delivery_sockets.specs.sockets.Kinds.{IsSentByCapabilities, FlightsAreAsNegotiated}

-- ---- what is true of both sides over every run of the machine

options_stay : (side : SideState) (changes : List Change) → (after_changes side changes).options ≡ side.options
options_stay side [] = refl
options_stay side (change ∷ changes) = options_stay (after_change side change) changes

fresh_before_step : (world : World) (which : Which) (changes : List Change) → FreshWorld (step_after world which changes) → FreshWorld world
fresh_before_step world at_a changes fresh = record { a = fresh_before_changes world.a changes fresh.a; b = fresh.b }
fresh_before_step world at_b changes fresh = record { a = fresh.a; b = fresh_before_changes world.b changes fresh.b }

true_still : (one other : SideState) (changes : List Change) → TrueSide (offer_of one.options) other one.past
    → TrueSide (offer_of (after_changes one changes).options) other (after_changes one changes).past
true_still one other changes h =
    subst (λ (o : Options). TrueSide (offer_of o) other (after_changes one changes).past) (sym (options_stay one changes)) (true_beside (offer_of one.options) other one changes h)

true_after : AnswerKeepsAgreement → (world : World) (which : Which) (move : Move) (changes : List Change) → TrueWorld world → FreshWorld (step_after world which changes)
    → StepChanges world which move changes → TrueWorld (step_after world which changes)
true_after law world at_a move changes h fresh turns =
    record { a = move_true_after law (offer_of world.b.options) world.a world.b.past move changes h.a h.b.past fresh.a fresh.b turns; b = true_still world.a world.b changes h.b }
true_after law world at_b move changes h fresh turns =
    record { a = true_still world.b world.a changes h.a; b = move_true_after law (offer_of world.a.options) world.b world.a.past move changes h.b h.a.past fresh.b fresh.a turns }

true_run : AnswerKeepsAgreement → (a b : Options) (steps : List WorldStep) → WorldRun a b steps → FreshWorld (world_after a b steps) → TrueWorld (world_after a b steps)
true_run law a b [] run fresh = record { a = record { past = tt; core = tt }; b = record { past = tt; core = tt } }
true_run law a b (step ∷ earlier) run fresh =
    true_after law (world_after a b earlier) step.side step.move step.changes
    (true_run law a b earlier run.1 (fresh_before_step (world_after a b earlier) step.side step.changes fresh)) fresh run.0

-- ---- two sockets

draws_recorded : (pair : Pair) (past : List Effect) → HasEffect (draws pair) past → HasEffect (draws pair) (effects_without_packets past)
draws_recorded pair [] h = absurd h
draws_recorded pair (draws other ∷ past) (inl is) = inl is
draws_recorded pair (draws other ∷ past) (inr h) = inr (draws_recorded pair past h)
draws_recorded pair (sends packet ∷ past) (inl is) = absurd (cc)
draws_recorded pair (sends packet ∷ past) (inr h) = draws_recorded pair past h
draws_recorded pair (holds link ∷ past) (inl is) = absurd (cc)
draws_recorded pair (holds link ∷ past) (inr h) = inr (draws_recorded pair past h)
draws_recorded pair (connects link ∷ past) (inl is) = absurd (cc)
draws_recorded pair (connects link ∷ past) (inr h) = inr (draws_recorded pair past h)
draws_recorded pair (ends ∷ past) (inl is) = absurd (cc)
draws_recorded pair (ends ∷ past) (inr h) = inr (draws_recorded pair past h)
draws_recorded pair (begins number ∷ past) (inl is) = absurd (cc)
draws_recorded pair (begins number ∷ past) (inr h) = inr (draws_recorded pair past h)
draws_recorded pair (gives_up number ∷ past) (inl is) = absurd (cc)
draws_recorded pair (gives_up number ∷ past) (inr h) = inr (draws_recorded pair past h)
draws_recorded pair (completes my number ∷ past) (inl is) = absurd (cc)
draws_recorded pair (completes my number ∷ past) (inr h) = inr (draws_recorded pair past h)
draws_recorded pair (fails number ∷ past) (inl is) = absurd (cc)
draws_recorded pair (fails number ∷ past) (inr h) = inr (draws_recorded pair past h)
draws_recorded pair (accepts number ∷ past) (inl is) = absurd (cc)
draws_recorded pair (accepts number ∷ past) (inr h) = inr (draws_recorded pair past h)
draws_recorded pair (performs peer number ∷ past) (inl is) = absurd (cc)
draws_recorded pair (performs peer number ∷ past) (inr h) = inr (draws_recorded pair past h)
draws_recorded pair (renews peer number ∷ past) (inl is) = absurd (cc)
draws_recorded pair (renews peer number ∷ past) (inr h) = inr (draws_recorded pair past h)
draws_recorded pair (resumes link own last ∷ past) (inl is) = absurd (cc)
draws_recorded pair (resumes link own last ∷ past) (inr h) = inr (draws_recorded pair past h)

found : (mine theirs : Options) (turns others : List Transition) (one other : SideState) → Followed mine turns one → Followed theirs others other → TrueSide (offer_of other.options) one other.past
    → (p : Pair) (held : Held) (bytes : List ℕ) → (endpoint_after mine turns).core ≡ cookie_echoed p held bytes → IsOthersCookie mine theirs others p held bytes
found mine theirs turns others one other f g h p held bytes is =
    let own : TrueCore (offer_of mine) (offer_of theirs) one.past other.past (cookie_echoed p held bytes) =
    subst (λ (o : Options). TrueCore (offer_of mine) (offer_of o) one.past other.past (cookie_echoed p held bytes)) g.side_options
    (subst (λ (o : Options). TrueCore (offer_of o) (offer_of other.options) one.past other.past (cookie_echoed p held bytes)) f.side_options
    (subst (λ (core : Core). TrueCore (offer_of one.options) (offer_of other.options) one.past other.past core) (f.core ∙ is) h.core)) in
    let facts : PeerFacts (offer_of mine) (offer_of theirs) one.past other.past p held = own.0 in
    let echoed : EchoedCookie (offer_of mine) p held bytes = own.2 in
    let fits : FitsCore (cookie_echoed p held bytes) = subst FitsCore is f.fits.core in
    record {
      cookie = echoed.cookie;
      reads = echoed.reads;
      fits = fits.2;
      addressee = echoed.addressee;
      maker = echoed.maker;
      drawn = subst (HasEffect (draws held.peer)) g.past (draws_recorded held.peer other.past facts.peer_drawn);
      offer = echoed.offer;
      capabilities = facts.capabilities;
    }

by_side : (options : Both Options) (turns : Both (List Transition)) (h : Joined options turns) → TrueWorld (world_after options.a options.b h.steps) → (side : Side) → EchoesOthersCookie options side turns
by_side options turns h both sides.A = found options.a options.b turns.a turns.b _ _ h.a h.b both.a
by_side options turns h both sides.B = found options.b options.a turns.b turns.a _ _ h.b h.a both.b

echo_others : Below → AnswerKeepsAgreement → (options : Both Options) (run : List PerformedAct) → AreUsable options → SocketRun options run → EchoOthersCookies options run
echo_others law answers options run are runs honest tags =
    let h : Joined options (turns_after run) = joined law options run are runs honest in
    by_side options (turns_after run) h (true_run answers options.a options.b h.steps h.is_run (record { a = h.a.fresh tags.a; b = h.b.fresh tags.b }))

-- ---- with what else is known of it

-- what both offers have in common, by the options that each still has
common_is : (e f : Endpoint) (mine theirs : Options) → KeepsOptions mine e → KeepsOptions theirs f
    → negotiated_capabilities (offer_of mine) (offer_of theirs) ≡ negotiated_capabilities (offer_of e.options) (offer_of f.options)
common_is e f mine theirs keeps keeps' =
    ap (λ (o : Options). negotiated_capabilities (offer_of o) (offer_of theirs)) (sym keeps.same)
    ∙ ap (λ (o : Options). negotiated_capabilities (offer_of e.options) (offer_of o)) (sym keeps'.same)

echoed_core : (e f : Endpoint) (mine theirs : Options) (others : List Transition) (p : Pair) (held : Held) (bytes : List ℕ) → KeepsOptions mine e → KeepsOptions theirs f → e.core ≡ cookie_echoed p held bytes
    → held ≡ new_held p held.peer held.capabilities → (c : IsOthersCookie mine theirs others p held bytes)
    → e.core ≡ cookie_echoed c.cookie.addressee (new_held c.cookie.addressee c.cookie.maker (negotiated_capabilities (offer_of e.options) (offer_of f.options))) bytes
echoed_core e f mine theirs others p held bytes keeps keeps' core unchanged c =
    let common : Capabilities = negotiated_capabilities (offer_of e.options) (offer_of f.options) in
    core
    ∙ ap (λ (x : Held). cookie_echoed p x bytes) unchanged
    ∙ ap (λ (x : Capabilities). cookie_echoed p (new_held p held.peer x) bytes) (c.capabilities ∙ common_is e f mine theirs keeps keeps')
    ∙ ap (λ (q : Pair). cookie_echoed p (new_held p q common) bytes) (sym c.maker)
    ∙ ap (λ (q : Pair). cookie_echoed q (new_held q c.cookie.maker common) bytes) (sym c.addressee)

has_echoed : (e f : Endpoint) (mine theirs : Options) (others : List Transition) (p : Pair) (held : Held) (bytes : List ℕ) → KeepsOptions mine e → KeepsOptions theirs f → AwaitsCookieAck e p held bytes
    → IsOthersCookie mine theirs others p held bytes → (cookie : Cookie) × HasEchoed e f cookie bytes
has_echoed e f mine theirs others p held bytes keeps keeps' h c = (
  c.cookie,
  record {
    core = echoed_core e f mine theirs others p held bytes keeps keeps' h.core h.unchanged c;
    reads = c.reads;
    fits = c.fits;
    offer = c.offer ∙ ap offer_of (sym keeps.same);
    idle = h.idle;
    owes = h.owes;
    delay = h.delay;
    asks = h.asks;
    errors = h.errors;
  },
)

-- With data behind it, which is sent as was negotiated.
has_echoed_data : (e f : Endpoint) (mine theirs : Options) (others : List Transition) (p : Pair) (held : Held) (bytes : List ℕ) → KeepsOptions mine e → KeepsOptions theirs f → AwaitsWithData e p held bytes
    → IsSentByCapabilities (negotiated_capabilities (offer_of mine) (offer_of theirs)) e.queues.transfer → IsOthersCookie mine theirs others p held bytes → (cookie : Cookie) × EchoesWithData e f cookie bytes
has_echoed_data e f mine theirs others p held bytes keeps keeps' h kind c =
    let is : IsSentByCapabilities (negotiated_capabilities (offer_of e.options) (offer_of f.options)) (Some h.transfer) =
    subst (λ (t : Option Transfer). IsSentByCapabilities (negotiated_capabilities (offer_of e.options) (offer_of f.options)) t) h.known
    (subst (λ (x : Capabilities). IsSentByCapabilities x e.queues.transfer) (common_is e f mine theirs keeps keeps') kind) in (
      c.cookie,
      record {
        core = echoed_core e f mine theirs others p held bytes keeps keeps' h.core h.unchanged c;
        reads = c.reads;
        fits = c.fits;
        offer = c.offer ∙ ap offer_of (sym keeps.same);
        data_flows = record { transfer = h.transfer; known = h.known; interleaves = is.0; abandons = is.1; unpaused = h.unpaused };
        asks = h.asks;
        errors = h.errors;
      },
    )

awaiting_side : (options : Both Options) (run : List PerformedAct) (side : Side) → EchoesOthersCookie options side (turns_after run) → KeepsOptions (of_side side options) (this_endpoint options side run)
    → KeepsOptions (of_other side options) (other_endpoint options side run) → (p : Pair) (held : Held) (bytes : List ℕ) → AwaitsCookieAck (this_endpoint options side run) p held bytes
    → (cookie : Cookie) × HasEchoed (this_endpoint options side run) (other_endpoint options side run) cookie bytes
awaiting_side options run side echoes keeps keeps' p held bytes h =
    has_echoed (this_endpoint options side run) (other_endpoint options side run) (of_side side options) (of_other side options) (of_other side (turns_after run)) p held bytes keeps keeps' h (echoes p held bytes h.core)

awaiting_data_side : FlightsAreAsNegotiated → (options : Both Options) (run : List PerformedAct) → AreUsable options → SocketRun options run → EchoOthersCookies options run → AwaitingDataEchoes options run
awaiting_data_side law options run are runs others honest tags side keeps keeps' p held bytes h =
    has_echoed_data (this_endpoint options side run) (other_endpoint options side run) (of_side side options) (of_other side options) (of_other side (turns_after run)) p held bytes keeps keeps' h
    (law options run are runs honest tags side) (others honest tags side p held bytes h.core)

pub cookies_are_known : Below → AnswerKeepsAgreement → FlightsAreAsNegotiated → (options : Both Options) (run : List PerformedAct) → AreUsable options → SocketRun options run → KnowCookies options run
cookies_are_known law answers flights options run are runs =
    let others : EchoOthersCookies options run = echo_others law answers options run are runs in
    record {
      others = others;
      awaiting = λ honest tags side keeps keeps' p held bytes h. awaiting_side options run side (others honest tags side) keeps keeps' p held bytes h;
      awaiting_data = awaiting_data_side flights options run are runs others;
    }
