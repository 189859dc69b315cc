-- A message without limits that a skip passes waits, since all its parts were handled: so it becomes ready.
use Rattle.std.proofs.Common.{◌≡◌, ℕ, Bool, true, false, ◌<◌, ◌≤◌, ◌+◌, ◌-◌, ◌^◌, List, refl, sym, ◌∙◌, ap, arith, subst, inl, inr}
use Rattle.std.specs.Prelude.{◌⊎◌, Some}
use Rattle.std.proofs.lemmas.Bool.Decides.{leb_tells}
use Rattle.dcsctp_spec_lemmas.specs.spec.queues.IncomingStreams.{StreamModel, is_number_waiting}
use Rattle.dcsctp_delivery_directions.specs.sending.Places.{HasEntry, at_place}
use Rattle.dcsctp_delivery_directions.specs.sending.Log.{Message, Piece, History, IsLogOfPieces, newest_on, IsEndOrClosed}
use Rattle.dcsctp_delivery_directions.specs.sending.Numbers.{IsUnambiguous, IsBegunUnder}
use Rattle.dcsctp_delivery_directions.proofs.sending.Newest.{newest_found}
use Rattle.dcsctp_delivery_directions.proofs.sending.OneMessage.{one_message, one_mid, mids_ascend}
use Rattle.dcsctp_delivery_directions.specs.receiving.Ready.{IsOn}
use Rattle.dcsctp_delivery_directions.specs.receiving.Rows.{AreRows}
use Rattle.dcsctp_delivery_directions.specs.order.Epochs.{IsLimitedFrom}
use Rattle.dcsctp_delivery_directions.specs.order.Parts.{HoldsParts}
use Rattle.dcsctp_delivery_directions.specs.order.Reading.{CountsFromZero, IsSince}
use Rattle.dcsctp_delivery_directions.specs.order.Skips.{AreHandledBefore}
use Rattle.dcsctp_delivery_directions.proofs.order.AllSent.{HasEnd, message_ends}
use Rattle.dcsctp_delivery_directions.proofs.order.WholeParts.{not_all_handled}

module _ (queued : List Message) (history : History) (cut : IsLogOfPieces queued history.log) (told : IsUnambiguous history) (id : ℕ) (counts : CountsFromZero history id) (got : List ℕ) (base : ℕ → ℕ) (stream : StreamModel)
    (rows : AreRows history.log got base (IsOn history id) stream.ordered) (parts : HoldsParts history got id stream) (number : ℕ) (up : stream.next ≤ number) (from : 2 ^ 32 ≤ number) where
  -- a message whose parts were all handled waits
  pub whole_waits : (b : IsBegunUnder history.log id (history.floors id false + number - 2 ^ 32)) → HasEnd history.log b.piece.place → ((n : ℕ) (g : Piece) → at_place n history.log ≡ Some (Some g) → g.place ≡ b.piece.place → HasEntry n got)
      → is_number_waiting number stream.waiting ≡ true
  whole_waits b e all = go (is_number_waiting number stream.waiting) refl
    where
      since : IsSince history id b.offset b.piece
      since =
          let under = b.under in
          record {
            at = b.at;
            stream = b.stream;
            ordered = b.ordered;
            current = subst (λ (k : ℕ). history.floors k b.piece.message.is_unordered ≤ b.piece.mid) (sym b.stream) (subst (λ (u : Bool). history.floors id u ≤ b.piece.mid) (sym b.ordered) (omega (arith, under, from)));
          }

      go : (c : Bool) → is_number_waiting number stream.waiting ≡ c → is_number_waiting number stream.waiting ≡ true
      go true is = is
      go false is = absurd
          (let under = b.under in
          not_all_handled queued history cut told id counts b.offset b.piece since b.start e.offset e.piece e.at e.is e.ends got base stream rows parts number up is (omega (arith, under, from)) all)

  -- Each number that is skipped is of one with limits, or of one that waits.
  module _ (top : ℕ) (piece : Piece) (at : at_place top history.log ≡ Some (Some piece)) (on : piece.message.stream ≡ id) (ordered : piece.message.is_unordered ≡ false) (limited : piece.message.is_limited ≡ true)
      (below : history.floors id false + number ≤ piece.mid + 2 ^ 32) (handled : AreHandledBefore history got id false top) where
    -- a message of a number that isn't higher lies before it, if it has no limits
    lies_before : (n m : ℕ) (g b : Piece) → at_place n history.log ≡ Some (Some g) → at_place m history.log ≡ Some (Some b) → g.place ≡ b.place → b.message.stream ≡ id → b.message.is_unordered ≡ false → b.message.is_limited ≡ false → b.mid ≤ piece.mid → n < top
    lies_before n m g b at' there same on' kind free low =
        let text = one_message queued history.log cut n m g b at' there same in
        let mid = one_mid queued history.log cut n m g b at' there same in
        elim (leb_tells top n) [
          | inr e ↦ e.1
          | inl e ↦ absurd
              (let high = mids_ascend queued history.log cut top n piece g counts.kinds e.1 at at' (on ∙ sym on' ∙ ap (λ (x : Message). x.stream) (sym text)) (ordered ∙ sym kind ∙ ap (λ (x : Message). x.is_unordered) (sym text)) in
              let equal : piece.mid ≡ b.mid = omega (arith, high, mid, low) in
              let place = counts.apart top m piece b at there (on ∙ sym on') (ordered ∙ sym kind) equal in
              let one = one_message queued history.log cut top m piece b at there place in
              let clash : true ≡ false = sym limited ∙ ap (λ (x : Message). x.is_limited) one ∙ free in
              cc)
        ]

    pub skipped_waits : (is_number_waiting number stream.waiting ≡ true) ⊎ IsLimitedFrom true history id number
    skipped_waits =
        let (b, low) = counts.dense top piece at on ordered (history.floors id false + number - 2 ^ 32) (omega (arith, from)) (omega (arith, below, from)) in
        go b b.piece.message.is_limited refl
      where
        go : (b : IsBegunUnder history.log id (history.floors id false + number - 2 ^ 32)) → (c : Bool) → b.piece.message.is_limited ≡ c → (is_number_waiting number stream.waiting ≡ true) ⊎ IsLimitedFrom true history id number
        go b true is =
            let under = b.under in
            inr (record { offset = b.offset; piece = b.piece; at = b.at; stream = b.stream; ordered = b.ordered; limited = is; from = omega (arith, under, from); only = λ known. omega (arith, under, from) })
        go b false free =
            let under = b.under in
            let low : b.piece.mid ≤ piece.mid = omega (arith, under, below, from) in
            let rest : ((f : Piece) → newest_on id history.log ≡ Some f → f.place ≡ b.piece.place → IsEndOrClosed history.log f) = λ f newest its. absurd
            (let found = newest_found id history.log f newest in
            let last = found.last top piece at on in
            let before = lies_before found.number b.offset f b.piece found.at b.at its b.stream b.ordered free low in
            omega (arith, last, before)) in
            inl
            (whole_waits b (message_ends queued history.log cut id b.piece.place rest b.offset b.piece b.at b.stream free refl)
            (λ n g at' its. (
            let text = one_message queued history.log cut n b.offset g b.piece at' b.at its in
            let mid = one_mid queued history.log cut n b.offset g b.piece at' b.at its in
            let stream_is : g.message.stream ≡ id = ap (λ (m : Message). m.stream) text ∙ b.stream in
            let kind_is : g.message.is_unordered ≡ false = ap (λ (m : Message). m.is_unordered) text ∙ b.ordered in
            handled n g at' stream_is kind_is
            (subst (λ (k : ℕ). history.floors k g.message.is_unordered ≤ g.mid) (sym stream_is) (subst (λ (u : Bool). history.floors id u ≤ g.mid) (sym kind_is) (omega (arith, under, mid, from))))
            (ap (λ (m : Message). m.is_limited) text ∙ free) (lies_before n b.offset g b.piece at' b.at its b.stream b.ordered free low)
            )))
