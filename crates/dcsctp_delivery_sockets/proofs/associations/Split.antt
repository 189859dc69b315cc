-- Each reset that the receiver has performed separates what was queued before it was asked for from what was queued since.
use Rattle.std.proofs.Common.{◌≡◌, ℕ, ◌<◌, ◌≤◌, ◌^◌, ◌+◌, List, [], length, true, false, refl, sym, ◌∙◌, arith, subst, inl, inr}
use Rattle.std.specs.Prelude.{Bool, nat_le}
use Rattle.dcsctp_spec_lemmas.specs.types.declared.options.Options.{Options}
use Rattle.dcsctp_spec_lemmas.specs.types.queues.Messages.{MessageContent}
use Rattle.dcsctp_spec_lemmas.specs.spec.endpoint.Endpoint.{Endpoint}
use Rattle.dcsctp_spec_lemmas.specs.spec.Packet.{Emission}
use Rattle.dcsctp_spec_lemmas.specs.spec.association.Effect.{Effect}
use Rattle.dcsctp_delivery_directions.specs.sending.Places.{HasEntry}
use Rattle.dcsctp_delivery_directions.specs.sending.Log.{Message}
use Rattle.dcsctp_delivery_directions.specs.sending.ChunkCounts.{chunks_to}
use Rattle.dcsctp_delivery_directions.proofs.sending.Places.{decide}
use Rattle.dcsctp_delivery_directions.specs.directions.Directions.{PerformedReset, Direction}
use Rattle.dcsctp_delivery_directions.specs.epochs.Asked.{AreCutAsAsked}
use Rattle.dcsctp_delivery_directions.proofs.epochs.CutsAsked.{directions_cut_as_asked}
use Rattle.dcsctp_delivery_sockets.specs.associations.Ends.{direction_of_ends, Ends, NumbersFromZero, chunks_before, Between, sending_side, receiving_side}
use Rattle.dcsctp_delivery_sockets.specs.associations.Reads.{Reading, with_key}
use Rattle.dcsctp_delivery_sockets.proofs.associations.Delivers.{were_unmarked}
use Rattle.dcsctp_delivery_sockets.proofs.associations.Growing.{AllFound}
use Rattle.dcsctp_delivery_directions.specs.epochs.InTurn.{AreSplitInTurn}
use Rattle.dcsctp_delivery_directions.specs.epochs.Asked.{known_fulls}
use Rattle.dcsctp_delivery_directions.proofs.epochs.SplitInTurn.{directions_split_in_turn as split_so}
use Rattle.dcsctp_delivery_sockets.proofs.associations.InOrder.{separate_unmarked, short, little, none_at_zero, none_awaited, nothing_performed}

split_unmarked : (asks : ℕ → ℕ → Bool) (performed : List PerformedReset) (marks queued : List Message) (contents : List MessageContent) → AllFound marks queued → length marks ≤ length queued → AreSplitInTurn asks performed marks contents → AreSplitInTurn asks performed queued contents
split_unmarked asks performed marks queued contents found shorter d =
    record {
      delivered = record { places = d.delivered.places; were_queued = were_unmarked marks queued d.delivered.places contents found d.delivered.were_queued; once = d.delivered.once };
      split = λ id reset has names. (
          let c = d.split id reset has names in
          record {
            place = c.place;
            asked = c.asked;
            before = (let low = c.before in omega (arith, low, shorter));
            separates = separate_unmarked marks queued id reset.index c.place d.delivered.places contents found d.delivered.were_queued c.separates;
          }
          );
    }

-- So it is with interleaving by what each cut says.
split_of_cuts : (whole sized : Bool) (asks fulls : ℕ → ℕ → Bool) (performed : List PerformedReset) (queued : List Message) (contents : List MessageContent) → AreCutAsAsked whole sized asks fulls performed queued contents → AreSplitInTurn asks performed queued contents
split_of_cuts whole sized asks fulls performed queued contents d =
    record { delivered = d.ordered.delivered; split = λ id reset has names. (let c = d.cut id reset has names in record { place = c.place; asked = c.asked; before = c.before; separates = c.separates }) }

module _ (options : Options) (ends : Ends) (e : Endpoint) (queued : List Message) (past : List Effect) (packets : List Emission) (other : Endpoint) (their_past : List Effect) (reading : Reading)
    (h : Between options ends (sending_side e queued past packets) (receiving_side other their_past reading)) (many : length queued < 2 ^ 64) (few : (tag : ℕ) → chunks_before (ends.former tag) packets + chunks_to (ends.latest tag) packets < 2 ^ 30) (turns : ends.calls.in_turn ≡ true) where
  abbrev its_own : ℕ → Direction
  its_own tag = direction_of_ends (ends.sends tag) (ends.gets tag)

  own_split : (tag : ℕ) (kind : Bool) → (ends.sends tag).queues.queue.is_interleaved ≡ kind → (ends.sends tag).beginning.from_zero ≡ true
      → AreSplitInTurn (ends.sends tag).beginning.asks (ends.gets tag).performed (ends.sends tag).queued (ends.gets tag).read
  own_split tag true is from =
      split_of_cuts (ends.sends tag).beginning.has_all (nat_le options.max_receiver_window_buffer_size (2 ^ 63)) (ends.sends tag).beginning.asks (known_fulls options.max_receiver_window_buffer_size (ends.sends tag).beginning) (ends.gets tag).performed (ends.sends tag).queued (ends.gets tag).read
      (directions_cut_as_asked options (ends.firsts tag) options.max_receiver_window_buffer_size (its_own tag) (h.runs tag) (h.small tag)
      (little options ends e queued past packets other their_past reading h many few tag) (short options ends e queued past packets other their_past reading h many few tag) is from)
  own_split tag false is from =
      split_so options (ends.firsts tag) options.max_receiver_window_buffer_size (its_own tag) (h.runs tag) (h.small tag)
      (little options ends e queued past packets other their_past reading h many few tag) (short options ends e queued past packets other their_past reading h many few tag) is from ((h.dropping tag).in_turn ∙ turns)

  pub ends_split_as_asked : (tag : ℕ) → NumbersFromZero e past tag → AreSplitInTurn ends.calls.asks (ends.gets tag).performed queued (with_key tag reading.reads)
  ends_split_as_asked tag anew =
      elim (decide tag 0) [
        | inl nought ↦ unsplit (none_at_zero options ends e queued past packets other their_past reading h many few tag nought) (nothing_performed options ends e queued past packets other their_past reading h many few tag (inl nought))
        | inr some ↦ elim (h.sender.kinds tag some) [
          | inl waits ↦ unsplit (none_awaited options ends e queued past packets other their_past reading h many few tag waits) (nothing_performed options ends e queued past packets other their_past reading h many few tag (inr waits))
          | inr had ↦
              split_unmarked ends.calls.asks (ends.gets tag).performed (ends.sends tag).queued queued (with_key tag reading.reads) (h.sender.marks tag) (h.sender.short tag)
              (subst (AreSplitInTurn ends.calls.asks (ends.gets tag).performed (ends.sends tag).queued) (sym (h.receiver.were_read tag))
              (subst (λ (asks : ℕ → ℕ → Bool). AreSplitInTurn asks (ends.gets tag).performed (ends.sends tag).queued (ends.gets tag).read) (h.dropping tag).asks
              (own_split tag (ends.sends tag).queues.queue.is_interleaved refl (h.numbered tag some anew))))
        ]
      ]
    where
      unsplit : with_key tag reading.reads ≡ [] → (ends.gets tag).performed ≡ [] → AreSplitInTurn ends.calls.asks (ends.gets tag).performed queued (with_key tag reading.reads)
      unsplit none none' =
          subst (AreSplitInTurn ends.calls.asks (ends.gets tag).performed queued) (sym none)
          (record { delivered = record { places = []; were_queued = tt; once = tt }; split = λ id reset has. absurd (subst (HasEntry reset) none' has) })
