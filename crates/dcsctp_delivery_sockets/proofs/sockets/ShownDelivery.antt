-- What is read was sent, where what is shown allows it.
use Rattle.std.proofs.Common.{List, [], ◌∷◌, inl, inr}
use Rattle.dcsctp_spec_lemmas.specs.types.declared.options.Options.{Options}
use Rattle.dcsctp_spec_lemmas.specs.types.declared.schedule.Side.{Side}
use Rattle.dcsctp_spec_lemmas.specs.types.declared.schedule.Side.TheVariants as sides
use Rattle.dcsctp_spec_lemmas.specs.spec.endpoint.CallTurns.{Transition}
use Rattle.dcsctp_spec_runs.specs.Sockets.{PerformedAct, Both, of_side, turns_after, SocketRun, acts_of}
use Rattle.dcsctp_theorem_sockets.specs.Agreement.{AreUsable}
use Rattle.dcsctp_delivery_sockets.specs.sockets.Delivery.{AreInMemory, SocketsDeliver, TagsServeOnce, TagsServeOnceBut, SendsLittleTogether, TurnsAllowDelivery}
use Rattle.dcsctp_delivery_sockets.proofs.sockets.Replaced.{tags_wider, together_wider}
use Rattle.dcsctp_delivery_sockets.specs.sockets.Shown.{ShownTagsServeOnce, OneTakesThePlace, ShownTagsSuffice}
use Rattle.dcsctp_delivery_sockets.specs.sockets.ShownDelivery.{AllowsDelivery, DeliverThroughout}

-- Where each tag serves one association none takes the place of another.
none_takes : (options : Both Options) (turns : Both (List Transition)) → TagsServeOnce turns → TagsServeOnceBut options turns × ((side : Side) → SendsLittleTogether (of_side side turns))
none_takes options turns once = (tags_wider options turns once, both)
  where
    both : (side : Side) → SendsLittleTogether (of_side side turns)
    both sides.A = together_wider turns.a once.a
    both sides.B = together_wider turns.b once.b

-- What is shown allows what the turns have.
pub allowed : (options : Both Options) (run : List PerformedAct) → (ShownTagsServeOnce options run → TagsServeOnce (turns_after run)) × (OneTakesThePlace options run → TagsServeOnceBut options (turns_after run) × ((side : Side) → SendsLittleTogether (of_side side (turns_after run)))) → AllowsDelivery options run → TurnsAllowDelivery options (turns_after run)
allowed options run suffice allows =
    let one : TagsServeOnceBut options (turns_after run) × ((side : Side) → SendsLittleTogether (of_side side (turns_after run))) =
    elim allows.tags [ inl once ↦ none_takes options (turns_after run) (suffice.0 once) | inr shown ↦ suffice.1 shown ] in
    record { tags = one.0; little = allows.little; together = one.1; refused = allows.refused }

pub deliver : SocketsDeliver → ShownTagsSuffice → (options : Both Options) (run : List PerformedAct) → AreUsable options → AreInMemory (acts_of run) → SocketRun options run → DeliverThroughout options run
deliver law tags options [] are in_memory runs = tt
deliver law tags options (worked ∷ earlier) are in_memory runs = (
  (λ honest fresh allows. law options (worked ∷ earlier) are in_memory runs honest fresh
      (allowed options (worked ∷ earlier) (tags options (worked ∷ earlier) are runs honest fresh) allows)),
  deliver law tags options earlier are in_memory.1 runs.1,
)
