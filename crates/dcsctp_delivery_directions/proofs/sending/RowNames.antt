-- An I-FORWARD-TSN has an entry for each message of which it passes a TSN that isn't acknowledged.
use Rattle.std.proofs.Common.{◌≡◌, ◌≢◌, ◌==◌, ℕ, Bool, true, false, ◌<◌, ◌≤◌, ◌+◌, ◌-◌, List, [], ◌∷◌, length, take, refl, sym, ◌∙◌, ap, arith, inl, inr}
use Rattle.std.specs.Prelude.{◌||◌, not, Option, None, Some, slice_get, if◌then◌else◌}
use Rattle.std.specs.Option.{option_map}
use Rattle.std.proofs.lemmas.Bool.{eqb-true}
use Rattle.std.proofs.lemmas.Bool.Decides.{eqb_tells, leb_tells}
use Rattle.dcsctp_spec.specs.queues.Items.{Item}
use Rattle.dcsctp_spec.specs.queues.Outstanding.{OutstandingState}
use Rattle.dcsctp_spec.specs.queues.Skipping.{is_same_stream, last_on, last_listed, entry_for, skipped_number}
use Rattle.dcsctp_delivery_directions.specs.sending.Places.{at_place}
use Rattle.dcsctp_delivery_directions.specs.sending.Log.{Message, Piece, History, IsLogOfPieces}
use Rattle.dcsctp_delivery_directions.specs.sending.Stages.{Bears}
use Rattle.dcsctp_delivery_directions.specs.sending.Naming.{IsOfPiece, carries, closes, HasEntryFor, NamesPassed}
use Rattle.dcsctp_delivery_directions.proofs.sending.Entries.{both, same_kind, last_there, in_front}
use Rattle.dcsctp_delivery_directions.proofs.sending.Highest.{carried}
use Rattle.dcsctp_delivery_directions.proofs.sending.OneMessage.{one_message}
use Rattle.dcsctp_delivery_directions.proofs.sending.Stages.{item_at}

-- an entry that is found is one of them
has_entry_for : (stream : ℕ) (unordered : Bool) (entries : List ((ℕ × Bool) × ℕ)) (number : ℕ) → entry_for stream unordered entries ≡ Some number → HasEntryFor stream unordered entries
has_entry_for stream unordered [] number is = absurd (cc)
has_entry_for stream unordered (entry ∷ entries) number is = go (is_same_stream stream unordered entry.0.0 entry.0.1) refl is (λ found. has_entry_for stream unordered entries number found)
  where
    go : (b : Bool) → is_same_stream stream unordered entry.0.0 entry.0.1 ≡ b → (if b then Some entry.1 else entry_for stream unordered entries) ≡ Some number → (entry_for stream unordered entries ≡ Some number → HasEntryFor stream unordered entries) → HasEntryFor stream unordered (entry ∷ entries)
    go true same found others =
        let (streams, kinds) = both (stream == entry.0.0) (if unordered then entry.0.1 else not entry.0.1) same in
        record { entry = entry; has = inl refl; stream_is = sym (eqb-true stream entry.0.0 streams); unordered_is = sym (same_kind unordered entry.0.1 kinds) }
    go false same found others = (let rest = others found in record { entry = rest.entry; has = inr rest.has; stream_is = rest.stream_is; unordered_is = rest.unordered_is })

module _ (history : History) (first : ℕ) (queued : List Message) (cut : IsLogOfPieces queued history.log) (acknowledged count : ℕ) (outstanding : OutstandingState) (b : Bears history first acknowledged outstanding) (within : count ≤ length outstanding.items) where
  -- the item of such a TSN is of the message
  item_of : (n k : ℕ) (f : Piece) (item : Item) → IsOfPiece history.log f n → acknowledged + k ≡ n → slice_get outstanding.items k ≡ Some item → (f.message.stream ≡ item.fragment.stream) × (f.message.is_unordered ≡ item.fragment.is_unordered)
  item_of _ k f item (carries n there) here at = (let c = carried queued history first acknowledged cut outstanding b k item f at (ap (λ (j : ℕ). at_place j history.log) here ∙ there) in (sym c.stream, sym c.unordered))
  item_of _ k f item (closes n there end) here at =
      let named = b.named k item at in
      let up = named.up_to in
      let same : f.message ≡ named.piece.message =
      elim (leb_tells named.number n) [
        | inr e ↦ absurd
            (let low : n < named.number = e.1 in
            let two : Some (Some named.piece) ≡ Some None = sym named.at ∙ ap (λ (j : ℕ). at_place j history.log) (omega (arith, low, up, here)) ∙ end in
            cc)
        | inl e ↦ elim (eqb_tells named.number n) [
          | inl is ↦ (let two : Some (Some f) ≡ Some (Some named.piece) = sym there ∙ ap (λ (j : ℕ). at_place j history.log) (sym is.1) ∙ named.at in let one : f ≡ named.piece = cc in ap (λ (x : Piece). x.message) one)
          | inr ne ↦
              (let le : named.number ≤ n = e.1 in
              let differs : named.number ≢ n = ne.1 in
              one_message queued history.log cut n named.number f named.piece there named.at (named.tail n f (omega (arith, le, differs)) (omega (arith, here)) there))
        ]
      ] in
      (ap (λ (m : Message). m.stream) same ∙ sym named.stream, ap (λ (m : Message). m.is_unordered) same ∙ sym named.unordered)

  -- Its stream has one.
  pub row_named : (entries : List ((ℕ × Bool) × ℕ)) → outstanding.is_interleaved ≡ true
      → ((stream : ℕ) (unordered : Bool) → entry_for stream unordered entries ≡ option_map (skipped_number outstanding.is_interleaved) (last_listed outstanding.is_interleaved stream unordered (take count outstanding.items)))
      → NamesPassed history.log acknowledged (acknowledged + count) entries
  row_named entries kind lists n f of low =
      elim (leb_tells acknowledged n) [
        | inr e ↦ inl e.1
        | inl e ↦
            (let from : acknowledged ≤ n = e.1 in
            let (item, at) = item_at (n - acknowledged) outstanding.items (omega (arith, low, from, within)) in
            let its = item_of n (n - acknowledged) f item of (omega (arith, from)) at in
            inr (go (last_on f.message.stream f.message.is_unordered (take count outstanding.items)) refl item (n - acknowledged) (in_front history first count (n - acknowledged) outstanding.items item (omega (arith, low, from)) at) its.0 its.1))
      ]
    where
      listed : (o : Option Item) → last_on f.message.stream f.message.is_unordered (take count outstanding.items) ≡ o → entry_for f.message.stream f.message.is_unordered entries ≡ option_map (skipped_number outstanding.is_interleaved) o
      listed o is =
          lists f.message.stream f.message.is_unordered
          ∙ ap (λ (c : Bool). option_map (skipped_number outstanding.is_interleaved) (if c || not f.message.is_unordered then last_on f.message.stream f.message.is_unordered (take count outstanding.items) else None)) kind
          ∙ ap (λ (x : Option Item). option_map (skipped_number outstanding.is_interleaved) x) is

      go : (o : Option Item) → last_on f.message.stream f.message.is_unordered (take count outstanding.items) ≡ o → (item : Item) (k : ℕ) → slice_get (take count outstanding.items) k ≡ Some item → f.message.stream ≡ item.fragment.stream
          → f.message.is_unordered ≡ item.fragment.is_unordered → HasEntryFor f.message.stream f.message.is_unordered entries
      go None is item k at on same = absurd (last_there history first f.message.stream f.message.is_unordered (take count outstanding.items) k item at on same is)
      go (Some found) is item k at on same = has_entry_for f.message.stream f.message.is_unordered entries (skipped_number outstanding.is_interleaved found) (listed (Some found) is)
