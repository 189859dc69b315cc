-- One act of a side, where the other side sent what was negotiated: at most one association begins,
-- and it stays.
use Rattle.std.proofs.Common.{◌≡◌, ℕ, zero, suc, List, [], ◌∷◌, refl, sym, subst}
use Rattle.std.specs.Prelude.{Option, None, Some}
use Rattle.std.specs.List.{slice_get}
use Rattle.dcsctp_spec_lemmas.specs.wire.Content.{PacketContent}
use Rattle.dcsctp_spec_lemmas.specs.wire.Format.{IsPacket}
use Rattle.dcsctp_spec_lemmas.specs.types.declared.capabilities.Capabilities.{Capabilities}
use Rattle.dcsctp_spec_lemmas.specs.types.declared.options.Options.{Options}
use Rattle.dcsctp_spec_lemmas.specs.spec.endpoint.CallTurns.{Transition, HandleInput, AlongTurns, events_of}
use Rattle.dcsctp_spec_lemmas.specs.spec.endpoint.Endpoint.{Endpoint}
use Rattle.dcsctp_spec_lemmas.specs.spec.endpoint.Event.{Event, sent, packets_of_events}
use Rattle.dcsctp_spec_runs.specs.Fitting.{AllSent, FitsEndpoint, IsSendable}
use Rattle.dcsctp_spec_lemmas.specs.types.Offer.{Offer, offer_of, negotiated_capabilities}
use Rattle.dcsctp_spec_lemmas.specs.spec.Packet.{Content, re_config, plain, packet_of_content, Emission, emission_bytes}
use Rattle.dcsctp_spec_lemmas.specs.types.Schedule.{StepContent, call_step, delivery_step}
use Rattle.dcsctp_spec_lemmas.specs.types.Settings.{SameOptions, FitsOptions, wire_options, ports_of}
use Rattle.dcsctp_spec_runs.specs.Sockets.{endpoint_after, packets_shown, DeliveryTurns, StepTurns}
use Rattle.dcsctp_spec_lemmas.specs.spec.association.Effect.{AssociationIdentity, Effect, sends}
use Rattle.dcsctp_theorem_association.proofs.Facts.{Behind, AllBehind, TrueContents, TruePast}
use Rattle.dcsctp_theorem_association.proofs.Growth.{true_of}
use Rattle.dcsctp_theorem_sockets.proofs.Deliver.{IsSent, sent_at, reads_as_sent}
use Rattle.dcsctp_theorem_sockets.proofs.Follow.{Went}
use Rattle.dcsctp_delivery_sockets.specs.sockets.Echoes.{MayFollow, AllMayFollow}
use Rattle.dcsctp_delivery_sockets.proofs.sockets.Delivery.{DeliveryLaws}
use Rattle.dcsctp_delivery_sockets.proofs.sockets.Known.{IsOwn}
use Rattle.dcsctp_delivery_sockets.proofs.sockets.OpenFitting.{packet_opens}
use Rattle.dcsctp_delivery_sockets.proofs.sockets.Allowed.{IsAllowed, AreAllowed}
use Rattle.dcsctp_delivery_sockets.proofs.sockets.Turns.{SameKinds}
use Rattle.dcsctp_delivery_sockets.proofs.sockets.Begins.{front_kinds}
use Rattle.dcsctp_delivery_sockets.proofs.sockets.Calm.{GoodTurn, Known, ActIs, of_calm}
use Rattle.dcsctp_delivery_sockets.proofs.sockets.ShownActs.{ContentsAre, call_acts, packet_acts}
use Rattle.dcsctp_delivery_sockets.proofs.sockets.Sides.{SideIs}

-- ---- lists of turns

pub along_both : (e : Endpoint) (turns : List Transition) → AlongTurns IsOwn e turns → AlongTurns GoodTurn e turns → AlongTurns Known e turns
along_both e [] own good = tt
along_both e (t ∷ turns) own good = ((own.0, good.0), along_both t.outcome.after turns own.1 good.1)

-- ---- what a side sent

-- It reads back, and is true of what both sides did.
pub record WasTrue (kinds : Capabilities) (mine : Offer) (emission : Emission) : Type 0 where
  pub sendable : IsSendable emission
  pub are : ContentsAre kinds mine emission.packet.contents

record MayCome (kinds : Capabilities) (mine : Offer) (emission : Emission) : Type 0 where
  was_true : WasTrue kinds mine emission
  allowed : IsAllowed kinds emission

may_come : (kinds : Capabilities) (mine : Offer) (events : List (Event Emission)) → AllSent (WasTrue kinds mine) events → AreAllowed kinds (packets_of_events events) → AllSent (MayCome kinds mine) events
may_come kinds mine [] true_of_each allowed = tt
may_come kinds mine (sent emission ∷ events) true_of_each allowed = (record { was_true = true_of_each.0; allowed = allowed.0 }, may_come kinds mine events true_of_each.1 allowed.1)
may_come kinds mine (event ∷ events) true_of_each allowed = (tt, may_come kinds mine events true_of_each.1 allowed)

follows : (content : Content) → Behind content → MayFollow content
follows (plain chunk) behind = tt
follows (re_config parameters) behind = tt
follows content behind = behind

all_follow : (contents : List Content) → AllBehind contents → AllMayFollow contents
all_follow [] behind = tt
all_follow (content ∷ contents) behind = (follows content behind.0, all_follow contents behind.1)

module _ (kinds : Capabilities) (sender mine : Offer) (theirs own : List Effect) (same : SameKinds (negotiated_capabilities mine sender) kinds) where
  contents_are : (tag : ℕ) (contents : List Content) → TrueContents sender mine theirs own tag contents → ContentsAre kinds mine contents
  contents_are tag [] is = tt
  contents_are tag (content ∷ contents) is = (front_kinds kinds sender mine theirs own tag content same is.0, all_follow contents is.1)

  pub was_true : TruePast sender mine theirs own → (emission : Emission) → Went theirs emission → WasTrue kinds mine emission
  was_true past emission went =
      record { sendable = went.sendable; are = contents_are emission.packet.tag emission.packet.contents (true_of sender mine theirs own (sends emission.packet) past went.was_sent) }

-- ---- an act of one side

module _ (law : DeliveryLaws) (kinds : Capabilities) (mine theirs : Options) (turns others more : List Transition) (shown other_shown : List (Option AssociationIdentity)) (fits : FitsEndpoint (endpoint_after mine turns)) (own : SameOptions mine (endpoint_after mine turns).options) (their_fits : FitsOptions theirs)
    (known : AlongTurns Known (endpoint_after mine turns) more) (packets : AllSent (WasTrue kinds (offer_of mine)) (events_of others)) (h : SideIs kinds mine turns shown) (k : SideIs kinds theirs others other_shown) where
  nothing_done : more ≡ [] → ActIs kinds (endpoint_after mine turns) more
  nothing_done none = subst (ActIs kinds (endpoint_after mine turns)) (sym none) (of_calm kinds (endpoint_after mine turns) [] (record { none = tt; is = h.is; says = tt }))

  handled : (bytes : List ℕ) → IsSent (MayCome kinds (offer_of mine)) (emission_bytes (ports_of theirs)) bytes → HandleInput (endpoint_after mine turns) bytes more → ActIs kinds (endpoint_after mine turns) more
  handled bytes out taken =
      let e : Endpoint = endpoint_after mine turns in
      let is : (packet : PacketContent) → IsPacket (wire_options e.options) packet bytes → packet_of_content packet ≡ out.emission.packet =
      λ packet found. reads_as_sent law.below.built e.options theirs out.emission packet their_fits out.good.was_true.sendable (subst (λ (bs : List ℕ). IsPacket (wire_options e.options) packet bs) out.is found) in
      packet_acts law.moves.chunks kinds mine e bytes out.emission.packet more own out.good.was_true.are out.good.allowed is h.is
      (packet_opens law.below.offers e bytes out.emission more fits out.good.was_true.sendable is taken) known taken

  delivered : (index : ℕ) (found : Option (List ℕ)) → slice_get (packets_shown theirs others) index ≡ found → DeliveryTurns (endpoint_after mine turns) found more → ActIs kinds (endpoint_after mine turns) more
  delivered index None is none = nothing_done none
  delivered index (Some bytes) is taken =
      handled bytes (sent_at (MayCome kinds (offer_of mine)) (emission_bytes (ports_of theirs)) (events_of others) index bytes (may_come kinds (offer_of mine) (events_of others) packets k.says) is) taken

  pub step_acts : (step : StepContent) → StepTurns (endpoint_after mine turns) (packets_shown theirs others) step more → ActIs kinds (endpoint_after mine turns) more
  step_acts (call_step which call) taken = call_acts law.moves.chunks kinds (endpoint_after mine turns) call more taken known h.is
  step_acts (delivery_step which zero) none = nothing_done none
  step_acts (delivery_step which (suc index)) taken = delivered index (slice_get (packets_shown theirs others) index) refl taken
