-- What is true of the pasts stays true as they grow.
use Rattle.std.proofs.Common.{◌≡◌, ℕ, None, Some, List, [], ◌∷◌, ◌++◌, inl, inr, refl}
use Rattle.dcsctp_spec_lemmas.specs.wire.declared.reconfiguration.ReconfigurationResponseResult.{ReconfigurationResponseResult}
use Rattle.dcsctp_spec_lemmas.specs.wire.declared.reconfiguration.ReconfigurationResponseResult.TheVariants.{SuccessNothingToDo, SuccessPerformed, Denied, ErrorWrongSSN, ErrorRequestAlreadyInProgress, ErrorBadSequenceNumber, InProgress}
use Rattle.dcsctp_spec_lemmas.specs.types.declared.association.Pair.{Pair}
use Rattle.dcsctp_spec_lemmas.specs.types.declared.association.Held.{Held}
use Rattle.dcsctp_spec_lemmas.specs.types.Offer.{Offer}
use Rattle.dcsctp_spec_lemmas.specs.spec.Reconfiguration.{ResetParameter, outgoing_reset_request, incoming_reset_request, reconfiguration_response, other_reset_parameter}
use Rattle.dcsctp_spec_lemmas.specs.spec.Packet.{Content, init, init_ack, cookie_echo, cookie_ack, re_config, abort, shutdown, shutdown_ack, shutdown_complete, plain}
use Rattle.dcsctp_spec_lemmas.specs.spec.association.Effect.{Effect, draws, sends, holds, connects, ends, begins, gives_up, completes, fails, accepts, performs, renews, resumes}
use Rattle.dcsctp_spec_runs.specs.Past.{HasEffect, WasPerformed}
use Rattle.dcsctp_spec_runs.specs.World.{after_effects}
use Rattle.dcsctp_theorem_association.proofs.Facts.{TrueResult, TrueParameter, TrueParameters, TrueFront, TrueContents, TrueEffect, TruePast, TrueEffects, PeerFacts}

-- all of the first is in the second
abbrev pub Within : List Effect → List Effect → Type 0
Within small large = (effect : Effect) → HasEffect effect small → HasEffect effect large

pub same : (past : List Effect) → Within past past
same past effect h = h

pub one_more : (newest : Effect) (past : List Effect) → Within past (newest ∷ past)
one_more newest past effect h = inr h

pub both_more : (newest : Effect) (small large : List Effect) → Within small large → Within (newest ∷ small) (newest ∷ large)
both_more newest small large w effect (inl e) = inl e
both_more newest small large w effect (inr h) = inr (w effect h)

pub after_within : (effects past : List Effect) → Within past (after_effects effects past)
after_within [] past effect h = h
after_within (newest ∷ effects) past effect h = after_within effects (newest ∷ past) effect (inr h)

pub after_effects-append : (xs ys past : List Effect) → after_effects (xs ++ ys) past ≡ after_effects ys (after_effects xs past)
after_effects-append [] ys past = refl
after_effects-append (x ∷ xs) ys past = after_effects-append xs ys (x ∷ past)

pub performed_grows : (past past' : List Effect) (peer : Pair) (number : ℕ) → Within past past' → WasPerformed peer number past → WasPerformed peer number past'
performed_grows past past' peer number w (inl h) = inl (w _ h)
performed_grows past past' peer number w (inr h) = inr (w _ h)

-- ---- what packets say

result_grows : (mine theirs mine' theirs' : List Effect) (tag number : ℕ) (result : ReconfigurationResponseResult) → Within mine mine' → Within theirs theirs'
    → TrueResult mine theirs tag number result → TrueResult mine' theirs' tag number result
result_grows mine theirs mine' theirs' tag number SuccessNothingToDo v w h = record { pair = h.pair; under = h.under; drawn = w _ h.drawn; before = h.before }
result_grows mine theirs mine' theirs' tag number SuccessPerformed v w h = record { pair = h.pair; under = h.under; drawn = w _ h.drawn; performed = performed_grows mine mine' h.pair number v h.performed }
result_grows mine theirs mine' theirs' tag number Denied v w h = tt
result_grows mine theirs mine' theirs' tag number ErrorWrongSSN v w h = tt
result_grows mine theirs mine' theirs' tag number ErrorRequestAlreadyInProgress v w h = tt
result_grows mine theirs mine' theirs' tag number ErrorBadSequenceNumber v w h = tt
result_grows mine theirs mine' theirs' tag number InProgress v w h = tt

parameter_grows : (mine theirs mine' theirs' : List Effect) (tag : ℕ) (parameter : ResetParameter) → Within mine mine' → Within theirs theirs'
    → TrueParameter mine theirs tag parameter → TrueParameter mine' theirs' tag parameter
parameter_grows mine theirs mine' theirs' tag (outgoing_reset_request number answered reset) v w h = tt
parameter_grows mine theirs mine' theirs' tag (incoming_reset_request number streams) v w h = h
parameter_grows mine theirs mine' theirs' tag (reconfiguration_response number result) v w h = result_grows mine theirs mine' theirs' tag number result v w h
parameter_grows mine theirs mine' theirs' tag (other_reset_parameter parameter) v w h = tt

pub parameters_grow : (mine theirs mine' theirs' : List Effect) (tag : ℕ) (parameters : List ResetParameter) → Within mine mine' → Within theirs theirs'
    → TrueParameters mine theirs tag parameters → TrueParameters mine' theirs' tag parameters
parameters_grow mine theirs mine' theirs' tag [] v w h = tt
parameters_grow mine theirs mine' theirs' tag (parameter ∷ parameters) v w h =
    (parameter_grows mine theirs mine' theirs' tag parameter v w h.0, parameters_grow mine theirs mine' theirs' tag parameters v w h.1)

pub front_grows : (my_offer their_offer : Offer) (mine theirs mine' theirs' : List Effect) (tag : ℕ) (content : Content) → Within mine mine' → Within theirs theirs'
    → TrueFront my_offer their_offer mine theirs tag content → TrueFront my_offer their_offer mine' theirs' tag content
front_grows my_offer their_offer mine theirs mine' theirs' tag (init introduction) v w h = (v _ h.0, h.1)
front_grows my_offer their_offer mine theirs mine' theirs' tag (init_ack introduction None) v w h = h
front_grows my_offer their_offer mine theirs mine' theirs' tag (init_ack introduction (Some bytes)) v w h =
    record { cookie = h.cookie; reads = h.reads; under = h.under; pair = h.pair; maker = v _ h.maker; addressee = w _ h.addressee; offer = h.offer; announced = h.announced }
front_grows my_offer their_offer mine theirs mine' theirs' tag (cookie_echo bytes) v w h =
    record { cookie = h.cookie; reads = h.reads; under = h.under; maker = w _ h.maker; addressee = v _ h.addressee; offer = h.offer; held = v _ h.held }
front_grows my_offer their_offer mine theirs mine' theirs' tag cookie_ack v w h =
    record { header = h.header; bytes = h.bytes; behind = h.behind; echoed = w _ h.echoed; cookie = h.cookie; reads = h.reads; under = h.under; held = v _ h.held }
front_grows my_offer their_offer mine theirs mine' theirs' tag (re_config parameters) v w h = parameters_grow mine theirs mine' theirs' tag parameters v w h
front_grows my_offer their_offer mine theirs mine' theirs' tag (abort reflected causes) v w h = tt
front_grows my_offer their_offer mine theirs mine' theirs' tag (shutdown tsn) v w h = tt
front_grows my_offer their_offer mine theirs mine' theirs' tag shutdown_ack v w h = tt
front_grows my_offer their_offer mine theirs mine' theirs' tag (shutdown_complete reflected) v w h = tt
front_grows my_offer their_offer mine theirs mine' theirs' tag (plain chunk) v w h = tt

contents_grow : (my_offer their_offer : Offer) (mine theirs mine' theirs' : List Effect) (tag : ℕ) (contents : List Content) → Within mine mine' → Within theirs theirs'
    → TrueContents my_offer their_offer mine theirs tag contents → TrueContents my_offer their_offer mine' theirs' tag contents
contents_grow my_offer their_offer mine theirs mine' theirs' tag [] v w h = tt
contents_grow my_offer their_offer mine theirs mine' theirs' tag (content ∷ contents) v w h =
    (front_grows my_offer their_offer mine theirs mine' theirs' tag content v w h.0, h.1)

-- ---- what a side did

pub effect_grows : (my_offer their_offer : Offer) (mine theirs mine' theirs' : List Effect) (effect : Effect) → Within mine mine' → Within theirs theirs'
    → TrueEffect my_offer their_offer mine theirs effect → TrueEffect my_offer their_offer mine' theirs' effect
effect_grows my_offer their_offer mine theirs mine' theirs' (draws pair) v w h = tt
effect_grows my_offer their_offer mine theirs mine' theirs' (sends packet) v w h = contents_grow my_offer their_offer mine theirs mine' theirs' packet.tag packet.contents v w h
effect_grows my_offer their_offer mine theirs mine' theirs' (holds link) v w h = tt
effect_grows my_offer their_offer mine theirs mine' theirs' (connects link) v w h = record { capabilities = h.capabilities; held = w _ h.held }
effect_grows my_offer their_offer mine theirs mine' theirs' ends v w h = tt
effect_grows my_offer their_offer mine theirs mine' theirs' (begins number) v w h = tt
effect_grows my_offer their_offer mine theirs mine' theirs' (gives_up number) v w h = tt
effect_grows my_offer their_offer mine theirs mine' theirs' (completes my number) v w (inl h) = inl (performed_grows theirs theirs' my number w h)
effect_grows my_offer their_offer mine theirs mine' theirs' (completes my number) v w (inr h) = inr h
effect_grows my_offer their_offer mine theirs mine' theirs' (fails number) v w h = tt
effect_grows my_offer their_offer mine theirs mine' theirs' (accepts number) v w h = tt
effect_grows my_offer their_offer mine theirs mine' theirs' (performs peer number) v w h = tt
effect_grows my_offer their_offer mine theirs mine' theirs' (renews peer number) v w h = tt
effect_grows my_offer their_offer mine theirs mine' theirs' (resumes link own last) v w h = h

-- the other side did more
pub past_grows : (my_offer their_offer : Offer) (mine theirs theirs' : List Effect) → Within theirs theirs'
    → TruePast my_offer their_offer mine theirs → TruePast my_offer their_offer mine theirs'
past_grows my_offer their_offer [] theirs theirs' w h = tt
past_grows my_offer their_offer (newest ∷ earlier) theirs theirs' w h =
    (effect_grows my_offer their_offer earlier theirs earlier theirs' newest (same earlier) w h.0, past_grows my_offer their_offer earlier theirs theirs' w h.1)

pub effects_grow : (my_offer their_offer : Offer) (mine theirs mine' : List Effect) (effects : List Effect) → Within mine mine'
    → TrueEffects my_offer their_offer mine theirs effects → TrueEffects my_offer their_offer mine' theirs effects
effects_grow my_offer their_offer mine theirs mine' [] v h = tt
effects_grow my_offer their_offer mine theirs mine' (effect ∷ effects) v h = (
  effect_grows my_offer their_offer mine theirs mine' theirs effect v (same theirs) h.0,
  effects_grow my_offer their_offer (effect ∷ mine) theirs (effect ∷ mine') effects (both_more effect mine mine' v) h.1,
)

pub effects-append : (my_offer their_offer : Offer) (mine theirs : List Effect) (xs ys : List Effect)
    → TrueEffects my_offer their_offer mine theirs xs → TrueEffects my_offer their_offer mine theirs ys → TrueEffects my_offer their_offer mine theirs (xs ++ ys)
effects-append my_offer their_offer mine theirs [] ys h k = k
effects-append my_offer their_offer mine theirs (x ∷ xs) ys h k =
    (h.0, effects-append my_offer their_offer (x ∷ mine) theirs xs ys h.1 (effects_grow my_offer their_offer mine theirs (x ∷ mine) ys (one_more x mine) k))

-- effects after others
pub then_true : (my_offer their_offer : Offer) (mine theirs : List Effect) (first rest : List Effect)
    → TrueEffects my_offer their_offer mine theirs first → TrueEffects my_offer their_offer (after_effects first mine) theirs rest → TrueEffects my_offer their_offer mine theirs (first ++ rest)
then_true my_offer their_offer mine theirs [] rest h k = k
then_true my_offer their_offer mine theirs (effect ∷ effects) rest h k = (h.0, then_true my_offer their_offer (effect ∷ mine) theirs effects rest h.1 k)

-- true effects are kept as the past
pub past_after : (my_offer their_offer : Offer) (mine theirs : List Effect) (effects : List Effect)
    → TruePast my_offer their_offer mine theirs → TrueEffects my_offer their_offer mine theirs effects → TruePast my_offer their_offer (after_effects effects mine) theirs
past_after my_offer their_offer mine theirs [] h k = h
past_after my_offer their_offer mine theirs (effect ∷ effects) h k = past_after my_offer their_offer (effect ∷ mine) theirs effects (k.0, h) k.1

-- what is true of an effect of the past
pub true_of : (my_offer their_offer : Offer) (mine theirs : List Effect) (effect : Effect)
    → TruePast my_offer their_offer mine theirs → HasEffect effect mine → TrueEffect my_offer their_offer mine theirs effect
true_of my_offer their_offer [] theirs effect h k = absurd k
true_of my_offer their_offer (newest ∷ earlier) theirs effect h (inl e) =
    rw e (effect_grows my_offer their_offer earlier theirs (newest ∷ earlier) theirs newest (one_more newest earlier) (same theirs) h.0)
true_of my_offer their_offer (newest ∷ earlier) theirs effect h (inr k) =
    effect_grows my_offer their_offer earlier theirs (newest ∷ earlier) theirs effect (one_more newest earlier) (same theirs) (true_of my_offer their_offer earlier theirs effect h.1 k)

-- ---- the association

pub peer_grows : (my_offer their_offer : Offer) (mine theirs mine' theirs' : List Effect) (my : Pair) (held : Held) → Within mine mine' → Within theirs theirs'
    → PeerFacts my_offer their_offer mine theirs my held → PeerFacts my_offer their_offer mine' theirs' my held
peer_grows my_offer their_offer mine theirs mine' theirs' my held v w h =
    record {
      my_drawn = v _ h.my_drawn;
      peer_drawn = w _ h.peer_drawn;
      capabilities = h.capabilities;
      shown = v _ h.shown;
      nothing = h.nothing;
      performed = λ is. performed_grows mine mine' held.peer held.peer_last v (h.performed is);
    }
