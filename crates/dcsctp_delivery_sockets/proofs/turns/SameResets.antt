-- Two requests that want the same, but for whether they say that they are new.
use Rattle.std.proofs.Common.{◌≡◌, Option, None, Some, ◌∙◌, ap}
use Rattle.dcsctp_spec_lemmas.specs.spec.Reconfiguration.{RequestedReset, renewed_reset}
use Rattle.dcsctp_spec_lemmas.specs.spec.queues.Reassembly.{DeferralModel}
use Rattle.dcsctp_delivery_directions.specs.receiving.Clear.{IsOwn}

pub own_same : (one other : RequestedReset) (waits : Option DeferralModel) → renewed_reset one ≡ renewed_reset other → IsOwn one waits → IsOwn other waits
own_same one other None same own = tt
own_same one other (Some deferral) same own = own ∙ ap (λ (r : RequestedReset). r.last_tsn) same
