-- The last item of a stream among those that are skipped names the highest number of its messages that are passed.
use Rattle.std.proofs.Common.{◌≡◌, ℕ, true, ◌<◌, ◌≤◌, ◌+◌, ◌-◌, List, length, sym, ◌∙◌, ap, arith, subst, inl, inr}
use Rattle.std.specs.Prelude.{Some, slice_get}
use Rattle.std.proofs.lemmas.Bool.Decides.{leb_tells}
use Rattle.dcsctp_spec.specs.queues.Items.{Item}
use Rattle.dcsctp_spec.specs.queues.Outstanding.{OutstandingState}
use Rattle.dcsctp_delivery_directions.specs.sending.Places.{at_place}
use Rattle.dcsctp_delivery_directions.specs.sending.Log.{Message, Piece, Slot, History, IsLogOfPieces}
use Rattle.dcsctp_delivery_directions.specs.sending.Numbers.{AreOfKind}
use Rattle.dcsctp_delivery_directions.specs.sending.Pieces.{CarriesPiece}
use Rattle.dcsctp_delivery_directions.specs.sending.Stages.{SaysSlot, Bears}
use Rattle.dcsctp_delivery_directions.proofs.sending.OneMessage.{one_mid, mids_ascend}
use Rattle.dcsctp_delivery_directions.proofs.sending.Stages.{item_at}

module _ (queued : List Message) (history : History) (first acknowledged : ℕ) (cut : IsLogOfPieces queued history.log) (outstanding : OutstandingState) (b : Bears history first acknowledged outstanding) where
  -- the item of a TSN that carries a piece carries that
  pub carried : (k : ℕ) (item : Item) (f : Piece) → slice_get outstanding.items k ≡ Some item → at_place (acknowledged + k) history.log ≡ Some (Some f) → CarriesPiece item.fragment f
  carried k item f at there =
      let says = b.items k item at in
      let two : Some says.slot ≡ Some (Some f) = sym says.at ∙ there in
      let is : says.slot ≡ Some f = cc in
      subst (λ (s : Slot). SaysSlot item.fragment s) is says.says

  pub highest_of : AreOfKind true history.log → (count place : ℕ) (item : Item) → (at : slice_get outstanding.items place ≡ Some item) → count ≤ length outstanding.items
      → ((k : ℕ) (later : Item) → place < k → k < count → slice_get outstanding.items k ≡ Some later → item.fragment.stream ≡ later.fragment.stream → item.fragment.is_unordered ≡ later.fragment.is_unordered → ⊥)
      → (n : ℕ) (f : Piece) → at_place n history.log ≡ Some (Some f) → n < acknowledged + count → f.message.stream ≡ (b.named place item at).piece.message.stream
      → f.message.is_unordered ≡ (b.named place item at).piece.message.is_unordered → f.mid ≤ (b.named place item at).piece.mid
  highest_of kinds count place item at within last n f there low on kind =
      let named = b.named place item at in
      elim (leb_tells n named.number) [
        | inl e ↦ mids_ascend queued history.log cut n named.number f named.piece kinds e.1 there named.at on kind
        | inr e ↦
            (let past : named.number < n = e.1 in
            elim (leb_tells n (acknowledged + place)) [
              | inl up ↦ (let same = one_mid queued history.log cut n named.number f named.piece there named.at (named.tail n f past up.1 there) in omega (arith, same))
              | inr up ↦ absurd
                  (let beyond : acknowledged + place < n = up.1 in
                  let (later, found) = item_at (n - acknowledged) outstanding.items (omega (arith, low, within, beyond)) in
                  let carries = carried (n - acknowledged) later f found (ap (λ (k : ℕ). at_place k history.log) (omega (arith, beyond)) ∙ there) in
                  last (n - acknowledged) later (omega (arith, beyond)) (omega (arith, low, beyond)) found (named.stream ∙ sym on ∙ sym carries.stream) (named.unordered ∙ sym kind ∙ sym carries.unordered))
            ])
      ]
