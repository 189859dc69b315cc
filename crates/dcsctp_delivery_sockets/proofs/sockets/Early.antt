-- An association that isn't connected: by the RFC what is in flight stays untouched, turn by turn. And a
-- COOKIE ECHO that is handled went to its cookie's maker.
use Rattle.std.proofs.Common.{◌≡◌, ℕ, Bool, true, false, List, [], ◌∷◌, refl, sym, ◌∙◌, ap, subst, inl, inr}
use Rattle.std.specs.Prelude.{Option, None, Some}
use Rattle.std.specs.List.{AllByRecursion}
use Rattle.dcsctp_spec_lemmas.specs.wire.Content.{PacketContent}
use Rattle.dcsctp_spec_lemmas.specs.wire.Format.{IsPacket}
use Rattle.dcsctp_spec_lemmas.specs.types.declared.options.Options.{Options}
use Rattle.dcsctp_spec_lemmas.specs.types.Settings.{wire_options}
use Rattle.dcsctp_spec_lemmas.specs.spec.Admission.{Admission, all_chunks, shutdown_acks_alone, refused, admits, shutdown_acks_of}
use Rattle.dcsctp_spec_lemmas.specs.spec.Packet.{Packet, packet_of_content, Content, init, init_ack, cookie_echo, cookie_ack, re_config, abort, shutdown, shutdown_ack, shutdown_complete, plain, Emission}
use Rattle.dcsctp_spec_lemmas.specs.spec.association.Effect.{AssociationIdentity, Effect, holds, connects, resumes, identity_of, identity_of_core}
use Rattle.dcsctp_spec_lemmas.specs.spec.endpoint.CallTurns.{packet_tail, asked_again, Transition, IsTurn, Turns, AfterChunk, ChunkTurns, AlongTurns, AdmittedTurns, HandleInput, unreadable, readable, after_all, effects_of}
use Rattle.dcsctp_spec_lemmas.specs.spec.endpoint.Endpoint.{Endpoint, Core, closed, cookie_wait, cookie_echoed, open_in, fresh_endpoint, is_cookie_echoed}
use Rattle.dcsctp_spec_lemmas.specs.spec.endpoint.Following.{Following, next_chunk, packet_end, dropped_rest}
use Rattle.dcsctp_spec_lemmas.specs.spec.endpoint.MessageOutcomes.{awaits_opening}
use Rattle.dcsctp_spec_lemmas.specs.spec.endpoint.Outcome.{Outcome}
use Rattle.dcsctp_spec_lemmas.specs.spec.endpoint.Turn.{Input, arrival, refusal, packet_begins, chunk_input, packet_ends, act_input, user_sets, user_sends, user_resets, user_takes, timer_expires, time_passes, restores, unreadable_text}
use Rattle.dcsctp_spec_runs.specs.Past.{HasEffect}
use Rattle.dcsctp_spec_runs.specs.World.{after_effects}
use Rattle.dcsctp_theorem_association.proofs.Growth.{after_effects-append, after_within}
use Rattle.dcsctp_theorem_sockets.proofs.Signs.{among_after}
use Rattle.dcsctp_theorem_sockets.proofs.SocketsAlone.{Moves, it_rests, it_moves}
use Rattle.dcsctp_delivery_sockets.specs.turns.Actions.{IsCall}
use Rattle.dcsctp_delivery_sockets.specs.turns.Asking.{own_of, SomeFit}
use Rattle.dcsctp_delivery_sockets.specs.turns.Untouched.{IsTransferUntouched, EchoesMaker}
use Rattle.dcsctp_delivery_sockets.proofs.turns.Beginnings.{unlinked_fits}
use Rattle.dcsctp_delivery_sockets.proofs.turns.Connecting.{NoneBegun}
use Rattle.dcsctp_delivery_sockets.proofs.turns.Keeping.{Leaves, link_stays, link_ends, link_begins, link_connects, turn_leaves}
use Rattle.dcsctp_delivery_sockets.proofs.associations.AnsweringRests.{after_new}
use Rattle.dcsctp_delivery_sockets.specs.sockets.Acts.{AreTurns}
use Rattle.dcsctp_delivery_sockets.specs.sockets.Echoes.{MayFollow, AllMayFollow, ContentsGo, GoesToMaker}
use Rattle.dcsctp_delivery_sockets.proofs.sockets.Calls.{NoChunk, NoChunks, AreCalls}
use Rattle.dcsctp_delivery_sockets.proofs.sockets.KnownPeers.{IsMove}
use Rattle.dcsctp_delivery_sockets.proofs.sockets.OpenFitting.{OpensFitting, AllOpenFitting, link_fits}
use Rattle.dcsctp_delivery_sockets.proofs.sockets.Opening.{is_open, HasConnected, still_connected}

-- No turn changes `follow_rfc`.
pub same_rules : (e : Endpoint) (o : Outcome) → Moves e o → o.after.options.follow_rfc ≡ e.options.follow_rfc
same_rules e o (it_rests core options effects told) = ap (λ (p : Options). p.follow_rfc) options
same_rules e o (it_moves change turn is) = ap (λ (p : Options). p.follow_rfc) is.options

-- Each association that connected is one that the other side has.
abbrev pub AllFound : List Effect → List Effect → Type 0
AllFound past theirs = (link : AssociationIdentity) → HasEffect (connects link) past → (other : AssociationIdentity) × HasEffect (holds other) theirs × (other.my.tag ≡ link.peer.tag)

-- None was restored.
abbrev pub NoneRestored : List Effect → Type 0
NoneRestored past = (link : AssociationIdentity) (own last : ℕ) → HasEffect (resumes link own last) past → ⊥

-- ---- what is known of the association that is there, if the side follows the RFC

-- The open association has connected.
abbrev pub ConnectedSo : Endpoint → List Effect → Type 0
ConnectedSo e past = e.options.follow_rfc ≡ true → HasConnected e past

-- Of one that hasn't connected what is in flight is untouched, and no request of ours was begun. What is kept of our requests is of
-- some that were begun.
pub record EarlySo (e : Endpoint) (past : List Effect) : Type 0 where
  pub asks : SomeFit (own_of e)
  pub untouched : e.options.follow_rfc ≡ true → (link : AssociationIdentity) → identity_of_core e.core ≡ Some link → (HasEffect (connects link) past → ⊥) → IsTransferUntouched link.my.first_tsn link.capabilities e.queues.transfer
  pub unasked : e.options.follow_rfc ≡ true → (link : AssociationIdentity) → identity_of_core e.core ≡ Some link → (HasEffect (connects link) past → ⊥) → NoneBegun link.my.first_tsn (own_of e)

-- Both.
pub record StandsSo (e : Endpoint) (past : List Effect) : Type 0 where
  pub connected : ConnectedSo e past
  pub early : EarlySo e past

-- A fresh endpoint is closed.
pub fresh_stands : (options : Options) → StandsSo (fresh_endpoint options) []
fresh_stands options =
    record {
      connected = λ follows opens link linked. absurd (cc);
      early = record { asks = unlinked_fits (fresh_endpoint options).core (fresh_endpoint options).outstanding refl; untouched = λ follows link there. absurd (cc); unasked = λ follows link there. absurd (cc) };
    }

-- One that hasn't connected awaits its COOKIE ACK.
pub awaits_ack : (e : Endpoint) (past : List Effect) (link : AssociationIdentity) → ConnectedSo e past → e.options.follow_rfc ≡ true → identity_of_core e.core ≡ Some link → (HasEffect (connects link) past → ⊥) → is_cookie_echoed e.core ≡ true
awaits_ack e past link connected follows there never = go e.core refl
  where
    go : (core : Core) → e.core ≡ core → is_cookie_echoed core ≡ true
    go closed at = (let clash : ◌≡◌ {A = Option AssociationIdentity} None (Some link) = ap identity_of_core (sym at) ∙ there in absurd (cc))
    go (cookie_wait my) at = (let clash : ◌≡◌ {A = Option AssociationIdentity} None (Some link) = ap identity_of_core (sym at) ∙ there in absurd (cc))
    go (cookie_echoed my held cookie) at = refl
    go (open_in phase my held) at = absurd (never (connected follows (ap is_open at) link there))

module _ (e : Endpoint) (past : List Effect) (t : Transition) (before : StandsSo e past) (turn : AreTurns e (t ∷ [])) (may : IsCall t.input) (moves : Moves e t.outcome) (opens : OpensFitting t)
    (none : (link : AssociationIdentity) (own last : ℕ) → HasEffect (resumes link own last) t.outcome.effects → ⊥) where
  abbrev later : List Effect
  later = after_effects t.outcome.effects past

  same_link : (one other : AssociationIdentity) → identity_of_core t.outcome.after.core ≡ Some one → identity_of_core t.outcome.after.core ≡ Some other → one ≡ other
  same_link one other first second = cc

  follows_before : t.outcome.after.options.follow_rfc ≡ true → e.options.follow_rfc ≡ true
  follows_before follows = sym (same_rules e t.outcome moves) ∙ follows

  connected_next : ConnectedSo t.outcome.after later
  connected_next follows = still_connected e past t (follows_before follows) (before.connected (follows_before follows)) may turn.0 moves none

  gone : {A : Type 0} → identity_of_core t.outcome.after.core ≡ None → (link : AssociationIdentity) → identity_of_core t.outcome.after.core ≡ Some link → A
  gone nowhere link there = (let clash : ◌≡◌ {A = Option AssociationIdentity} None (Some link) = sym nowhere ∙ there in absurd (cc))

  connected_here : (one link : AssociationIdentity) → identity_of_core t.outcome.after.core ≡ Some one → identity_of_core t.outcome.after.core ≡ Some link → HasEffect (connects one) t.outcome.effects → HasEffect (connects link) later
  connected_here one link linked there has = after_new (connects link) t.outcome.effects past (subst (λ (l : AssociationIdentity). HasEffect (connects l) t.outcome.effects) (same_link one link linked there) has)

  early_by : Leaves e t.outcome → EarlySo t.outcome.after later
  early_by (link_stays linked fit leads asks) =
      record {
        asks = fit;
        untouched = λ follows link there never.
            let follows' = follows_before follows in
            let was : identity_of_core e.core ≡ Some link = sym linked ∙ there in
            let never' : HasEffect (connects link) past → ⊥ = λ has. never (after_within t.outcome.effects past (connects link) has) in
            leads link.my.first_tsn link.capabilities follows' (awaits_ack e past link before.connected follows' was never') (before.early.untouched follows' link was never');
        unasked = λ follows link there never.
            let follows' = follows_before follows in
            let was : identity_of_core e.core ≡ Some link = sym linked ∙ there in
            let never' : HasEffect (connects link) past → ⊥ = λ has. never (after_within t.outcome.effects past (connects link) has) in
            asks link.my.first_tsn follows' (awaits_ack e past link before.connected follows' was never') (awaits_ack t.outcome.after later link connected_next follows there never) (before.early.unasked follows' link was never');
      }
  early_by (link_ends nowhere fit) = record { asks = fit; untouched = λ follows link there never. gone nowhere link there; unasked = λ follows link there never. gone nowhere link there }
  early_by (link_begins one linked fit left fresh) =
      record {
        asks = fit;
        untouched = λ follows link there never. subst (λ (l : AssociationIdentity). IsTransferUntouched l.my.first_tsn l.capabilities t.outcome.after.queues.transfer) (same_link one link linked there) left;
        unasked = λ follows link there never. elim (fresh (follows_before follows)) [
          | inl unbegun ↦ subst (λ (l : AssociationIdentity). NoneBegun l.my.first_tsn (own_of t.outcome.after)) (same_link one link linked there) unbegun
          | inr has ↦ absurd (never (connected_here one link linked there has))
        ];
      }
  early_by (link_connects one linked fit has) =
      record {
        asks = fit;
        untouched = λ follows link there never. absurd (never (connected_here one link linked there has));
        unasked = λ follows link there never. absurd (never (connected_here one link linked there has));
      }

  pub stands_next : StandsSo t.outcome.after later
  stands_next =
      record {
        connected = connected_next;
        early = early_by (turn_leaves e t.input t.outcome (λ begun opening linked. (link_fits t.outcome.after.core (identity_of begun.my begun.held) (opens opening) linked).my.first_tsn) before.early.asks may turn.0);
      }

pub stands_after : (past : List Effect) (t : Transition) (turns : List Transition) (e : Endpoint) → StandsSo e past → AreTurns e (t ∷ turns) → AreCalls (t ∷ turns) → AlongTurns IsMove e (t ∷ turns) → AllOpenFitting (t ∷ turns)
    → NoneRestored (after_effects (effects_of turns) (after_effects t.outcome.effects past)) → StandsSo t.outcome.after (after_effects t.outcome.effects past)
stands_after past t turns e before taken calls along opens none =
    stands_next e past t before (taken.0, tt) calls.0 along.0 opens.0
    (λ link number last has. none link number last (after_within (effects_of turns) (after_effects t.outcome.effects past) (resumes link number last) (among_after (resumes link number last) t.outcome.effects past has)))

-- So it is after the turns of an act.
pub all_stand : (turns : List Transition) (past : List Effect) (e : Endpoint) → StandsSo e past → AreTurns e turns → AreCalls turns → AlongTurns IsMove e turns → AllOpenFitting turns → NoneRestored (after_effects (effects_of turns) past)
    → StandsSo (after_all e turns) (after_effects (effects_of turns) past)
all_stand [] past e before taken calls along opens none = before
all_stand (t ∷ turns) past e before taken calls along opens none =
    let split = after_effects-append t.outcome.effects (effects_of turns) past in
    let none' : NoneRestored (after_effects (effects_of turns) (after_effects t.outcome.effects past)) = subst NoneRestored split none in
    subst (StandsSo (after_all t.outcome.after turns)) (sym split)
    (all_stand turns (after_effects t.outcome.effects past) t.outcome.after (stands_after past t turns e before taken calls along opens none') taken.1 calls.1 along.1 opens.1 none')

-- ---- a COOKIE ECHO goes to its maker

abbrev pub AllEcho : List Transition → Type 0
AllEcho turns = AllByRecursion (λ turn. EchoesMaker turn.input) turns

no_echo : (input : Input) → NoChunk input → EchoesMaker input
no_echo (chunk_input tag content) none = absurd none
no_echo arrival none = tt
no_echo (refusal text) none = tt
no_echo (packet_begins contents) none = tt
no_echo packet_ends none = tt
no_echo (act_input act) none = tt
no_echo (user_sets setting) none = tt
no_echo (user_sends messages) none = tt
no_echo (user_resets ids) none = tt
no_echo user_takes none = tt
no_echo (timer_expires timer) none = tt
no_echo (time_passes moment) none = tt
no_echo (restores state) none = tt

pub none_echo : (turns : List Transition) → NoChunks turns → AllEcho turns
none_echo [] none = tt
none_echo (turn ∷ turns) none = (no_echo turn.input none.0, none_echo turns none.1)

-- These chunks of a packet with this tag go so.
abbrev Echo : ℕ → List Content → Type 0
Echo tag contents = AllByRecursion (λ content. EchoesMaker (chunk_input tag content)) contents

one_follows : (tag : ℕ) (content : Content) → MayFollow content → EchoesMaker (chunk_input tag content)
one_follows tag (cookie_echo bytes) may = absurd may
one_follows tag (plain chunk) may = tt
one_follows tag (re_config parameters) may = tt
one_follows tag (init c) may = tt
one_follows tag (init_ack c k) may = tt
one_follows tag cookie_ack may = tt
one_follows tag (abort r c) may = tt
one_follows tag (shutdown c) may = tt
one_follows tag shutdown_ack may = tt
one_follows tag (shutdown_complete r) may = tt

all_follow : (tag : ℕ) (contents : List Content) → AllMayFollow contents → Echo tag contents
all_follow tag [] may = tt
all_follow tag (content ∷ contents) may = (one_follows tag content may.0, all_follow tag contents may.1)

all_go : (tag : ℕ) (contents : List Content) → ContentsGo tag contents → Echo tag contents
all_go tag [] go = tt
all_go tag (cookie_echo bytes ∷ contents) go = (go.0, all_follow tag contents go.1)
all_go tag (plain chunk ∷ contents) go = (tt, all_follow tag contents go.1)
all_go tag (re_config parameters ∷ contents) go = (tt, all_follow tag contents go.1)
all_go tag (init c ∷ contents) go = (tt, all_follow tag contents go.1)
all_go tag (init_ack c k ∷ contents) go = (tt, all_follow tag contents go.1)
all_go tag (cookie_ack ∷ contents) go = (tt, all_follow tag contents go.1)
all_go tag (abort r c ∷ contents) go = (tt, all_follow tag contents go.1)
all_go tag (shutdown c ∷ contents) go = (tt, all_follow tag contents go.1)
all_go tag (shutdown_ack ∷ contents) go = (tt, all_follow tag contents go.1)
all_go tag (shutdown_complete r ∷ contents) go = (tt, all_follow tag contents go.1)

acks_echo : (tag : ℕ) (contents : List Content) → Echo tag (shutdown_acks_of contents)
acks_echo tag [] = tt
acks_echo tag (shutdown_ack ∷ contents) = (tt, acks_echo tag contents)
acks_echo tag (init i ∷ contents) = acks_echo tag contents
acks_echo tag (init_ack i c ∷ contents) = acks_echo tag contents
acks_echo tag (cookie_echo c ∷ contents) = acks_echo tag contents
acks_echo tag (cookie_ack ∷ contents) = acks_echo tag contents
acks_echo tag (re_config p ∷ contents) = acks_echo tag contents
acks_echo tag (abort r c ∷ contents) = acks_echo tag contents
acks_echo tag (shutdown t ∷ contents) = acks_echo tag contents
acks_echo tag (shutdown_complete r ∷ contents) = acks_echo tag contents
acks_echo tag (plain c ∷ contents) = acks_echo tag contents

turn_echoes : (e : Endpoint) (input : Input) (turn : Transition) → EchoesMaker input → IsTurn e input turn → EchoesMaker turn.input
turn_echoes e input turn good is = subst EchoesMaker (sym is.is) good

inputs_echo : (e : Endpoint) (inputs : List Input) (turns : List Transition) → AllByRecursion EchoesMaker inputs → Turns e inputs turns → AllEcho turns
inputs_echo e [] [] good taken = tt
inputs_echo e [] (t ∷ turns) good taken = absurd taken
inputs_echo e (input ∷ inputs) [] good taken = absurd taken
inputs_echo e (input ∷ inputs) (t ∷ turns) good taken = (turn_echoes e input t good.0 taken.0, inputs_echo t.outcome.after inputs turns good.1 taken.1)

rest_echo : (following : Following) (e : Endpoint) (tail : List Input) (turns : List Transition) (More : Type 0) → AllByRecursion EchoesMaker tail → (More → AllEcho turns) → AfterChunk following More (Turns e tail turns) (turns ≡ []) → AllEcho turns
rest_echo next_chunk e tail turns More good others taken = others taken
rest_echo packet_end e tail turns More good others taken = inputs_echo e tail turns good taken
rest_echo dropped_rest e tail turns More good others nothing = subst AllEcho (sym nothing) tt

chunks_echo : (tag : ℕ) (contents : List Content) (e : Endpoint) (tail : List Input) (turns : List Transition) → Echo tag contents → AllByRecursion EchoesMaker tail → ChunkTurns e tag contents tail turns → AllEcho turns
chunks_echo tag [] e tail turns are good taken = inputs_echo e tail turns good taken
chunks_echo tag (content ∷ contents) e tail [] are good taken = absurd taken
chunks_echo tag (content ∷ contents) e tail (t ∷ turns) are good taken = (
  turn_echoes e (chunk_input tag content) t are.0 taken.0,
  rest_echo t.outcome.following t.outcome.after tail turns (ChunkTurns t.outcome.after tag contents tail turns) good (λ others. chunks_echo tag contents t.outcome.after tail turns are.1 good others) taken.1,
)

tail_echoes : (asks : Bool) → AllByRecursion EchoesMaker (packet_ends ∷ asked_again asks)
tail_echoes false = (tt, tt)
tail_echoes true = (tt, (tt, tt))

admitted_echo : (e : Endpoint) (packet : Packet) (admission : Admission) (turns : List Transition) → ContentsGo packet.tag packet.contents → AdmittedTurns e packet admission turns → AllEcho turns
admitted_echo e packet all_chunks [] go taken = absurd taken
admitted_echo e packet all_chunks (t ∷ turns) go taken = (
  turn_echoes e (packet_begins packet.contents) t tt taken.0,
  chunks_echo packet.tag packet.contents t.outcome.after (packet_tail t.outcome.after) turns (all_go packet.tag packet.contents go) (tail_echoes (awaits_opening t.outcome.after t.outcome.after.core)) taken.1,
)
admitted_echo e packet shutdown_acks_alone turns go taken = chunks_echo packet.tag (shutdown_acks_of packet.contents) e [] turns (acks_echo packet.tag packet.contents) tt taken
admitted_echo e packet (refused text) turns go taken = inputs_echo e (refusal text ∷ []) turns (tt, tt) taken

-- This holds for the turns of a packet that goes so.
pub packet_echoes : (e : Endpoint) (bytes : List ℕ) (emission : Emission) (turns : List Transition) → GoesToMaker emission → ((packet : PacketContent) → IsPacket (wire_options e.options) packet bytes → packet_of_content packet ≡ emission.packet)
    → HandleInput e bytes turns → AllEcho turns
packet_echoes e bytes emission _ go is (unreadable turns unread taken) = inputs_echo e (arrival ∷ refusal unreadable_text ∷ []) turns (tt, (tt, tt)) taken
packet_echoes e bytes emission _ go is (readable packet counted turns found counting taken) =
    let same : packet_of_content packet ≡ emission.packet = is packet found in (
      turn_echoes e arrival counted tt counting,
      admitted_echo counted.outcome.after emission.packet (admits e.core emission.packet) turns go (subst (λ (p : Packet). AdmittedTurns counted.outcome.after p (admits e.core p) turns) same taken),
    )
