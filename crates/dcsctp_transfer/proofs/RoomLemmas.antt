-- TSNs of outstanding items determine how much of a packet they take up, so only one amount of room can be left.
use Rattle.std.proofs.Common.{◌≡◌, ◌∙◌, ℕ, ◌<◌, Some, List, [], ◌∷◌, length, ap, sym, subst, arith}
use Rattle.std.specs.List.{slice_get}
use Rattle.dcsctp_send_retransmission.specs.spec.queues.Filling.{Stage, FillsStage}
use Rattle.dcsctp_send_retransmission.specs.spec.queues.Items.{item_size}
use Rattle.dcsctp_send_retransmission.specs.spec.queues.NextItem.{Halts}
use Rattle.dcsctp_send_retransmission.specs.spec.queues.Outstanding.{OutstandingState, header}
use Rattle.dcsctp_send_retransmission.specs.spec.queues.Retransmission.{RetransmissionState}
use Rattle.dcsctp_send_retransmission.specs.spec.queues.SendQueue.{SendQueueState}
use Rattle.dcsctp_send_retransmission.proofs.spec_lemmas.PackedLemmas.{IsTsnOf, AreTsnsOf, IsPacked}
use Rattle.dcsctp_send_retransmission.proofs.spec_lemmas.PackingLemmas.{packed_none, packed_filled}
use Rattle.dcsctp_send_retransmission.specs.Outstanding.{FindsPlaces}
use Rattle.dcsctp_send_retransmission.specs.Halting.{FillsUp}
use Rattle.dcsctp_transfer.specs.Adding.{HasChunk, HaveChunks, none, more}
use Rattle.dcsctp_transfer.proofs.AddingLemmas.{found_at, have_packed}

-- one TSN has one size
one_size : (outstanding : OutstandingState) (tsn a b : ℕ) → FindsPlaces outstanding → HasChunk outstanding tsn a → IsTsnOf outstanding tsn b → a ≡ b
one_size outstanding tsn a b places has of =
    let here : HasChunk outstanding tsn b = record { place = of.place; item = of.item; at = of.at; is = of.is; size_is = of.size_is } in
    let place : has.place ≡ of.place = sym (found_at outstanding tsn a places has) ∙ found_at outstanding tsn b places here in
    let both : Some has.item ≡ Some of.item = sym has.at ∙ (ap (slice_get outstanding.items) place ∙ of.at) in
    let same : has.item ≡ of.item = cc in
    has.size_is ∙ (ap (item_size (header outstanding)) same ∙ sym of.size_is)

one_sum : (outstanding : OutstandingState) (tsns : List ℕ) (a b : ℕ) → (0 < length tsns → FindsPlaces outstanding) → HaveChunks outstanding tsns a → AreTsnsOf outstanding tsns b → a ≡ b
one_sum outstanding [] a b places none are = sym are
one_sum outstanding (tsn ∷ tsns) a b places (more tsn' size tsns' sizes has have) (rest, first, others) =
    let found = places (omega arith) in
    let here = one_size outstanding tsn size first.size found has first.of in
    let behind = one_sum outstanding tsns sizes rest (λ some. found) have others in
    omega (arith, here, behind, first.sum)

-- What is left of the packet says why nothing more goes in.
pub halts_there : (now bytes : ℕ) (old new : Stage) (after : RetransmissionState) (waiting : SendQueueState) → old.room ≡ bytes → old.tsns ≡ [] → FillsStage now old new → new.queue.outstanding ≡ after.outstanding
    → (0 < length new.tsns → FindsPlaces after.outstanding) → FillsUp now bytes after waiting new.tsns → Halts now new.room after waiting
halts_there now bytes old new after waiting room empty fills same places up =
    let packed : IsPacked bytes new = packed_filled now bytes old new fills (subst (λ (n : ℕ). IsPacked n old) room (packed_none old empty)) in
    let are = subst (λ (o : OutstandingState). AreTsnsOf o new.tsns packed.used) same packed.tsns in
    let used = one_sum after.outstanding new.tsns up.used packed.used places (have_packed after.outstanding new.tsns up.used up.packed) are in
    let left : up.room ≡ new.room = omega (arith, used, up.sum, packed.sum) in
    subst (λ (n : ℕ). Halts now n after waiting) left up.halts
