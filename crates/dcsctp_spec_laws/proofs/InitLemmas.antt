-- An INIT leaves the association as it is.
use Rattle.std.proofs.Common.{◌≡◌, ℕ, List, refl, rules, ap, ◌∙◌, arith}
use Rattle.dcsctp_spec_lemmas.specs.types.declared.word.Word.{Word}
use Rattle.dcsctp_spec_lemmas.specs.spec.Packet.{Introduction, Emission}
use Rattle.dcsctp_spec_lemmas.specs.spec.endpoint.Endpoint.{Endpoint, Core, closed, cookie_wait, cookie_echoed, open_in, established, shutdown_pending, shutdown_sent, shutdown_received, shutdown_ack_sent}
use Rattle.dcsctp_spec_lemmas.specs.spec.endpoint.Outcome.{Outcome, emits}
use Rattle.dcsctp_spec_lemmas.specs.spec.endpoint.HandshakeOutcomes.{init_outcome}
use Rattle.dcsctp_spec_lemmas.proofs.OneAnswerLemmas.{init_by}
use Rattle.dcsctp_spec_laws.specs.TurnLaws.{InitLeavesAssociation}

emits_keeps_core : (e : Endpoint) (words : List Word) (emission : Emission) → (emits e words emission).after.core ≡ e.core
emits_keeps_core e words emission = grind arith

init_keeps_core : (e : Endpoint) (theirs : Introduction) (core : Core) (word next : ℕ) → (init_outcome e theirs core word next).after.core ≡ e.core
init_keeps_core e theirs closed word next = search (rules, emits_keeps_core)
init_keeps_core e theirs (cookie_wait mine) word next = search (rules, emits_keeps_core)
init_keeps_core e theirs (cookie_echoed mine held cookie) word next = search (rules, emits_keeps_core)
init_keeps_core e theirs (open_in established mine held) word next = search (rules, emits_keeps_core)
init_keeps_core e theirs (open_in shutdown_pending mine held) word next = search (rules, emits_keeps_core)
init_keeps_core e theirs (open_in shutdown_sent mine held) word next = search (rules, emits_keeps_core)
init_keeps_core e theirs (open_in shutdown_received mine held) word next = search (rules, emits_keeps_core)
init_keeps_core e theirs (open_in shutdown_ack_sent mine held) word next = search (rules, emits_keeps_core)

pub init_leaves_association : InitLeavesAssociation
init_leaves_association e theirs o turn =
    ap (λ (x : Outcome). x.after.core) turn.2
    ∙ init_by (λ (x : Outcome). x.after.core ≡ e.core) e theirs turn.0 turn.1 refl (init_keeps_core e theirs e.core turn.0 turn.1)
