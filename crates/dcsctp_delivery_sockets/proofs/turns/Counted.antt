-- Where a RE-CONFIG is handled, no message is received: as many were read or are ready after the actions
-- of the turn as before.
use Rattle.std.proofs.Common.{◌≡◌, ℕ, ◌+◌, Option, Some, List, [], ◌∷◌, ◌++◌, length, length-append, refl, ◌∙◌, ap, arith}
use Rattle.dcsctp_spec_lemmas.specs.spec.Packet.{Content, re_config}
use Rattle.dcsctp_spec_lemmas.specs.spec.Reconfiguration.{ResetParameter}
use Rattle.dcsctp_spec_lemmas.specs.types.queues.Messages.{MessageContent}
use Rattle.dcsctp_spec_lemmas.specs.spec.endpoint.FlushOutcomes.{first_ask, packets_allowed}
use Rattle.dcsctp_spec_lemmas.specs.spec.endpoint.TransferMoves.{timed_transfer, lost_all}
use Rattle.dcsctp_spec_lemmas.specs.spec.queues.Reassembly.{ReassemblyState}
use Rattle.dcsctp_spec_lemmas.specs.spec.queues.Transfer.{Transfer, EndpointQueues}
use Rattle.dcsctp_delivery_sockets.specs.turns.Actions.{Ledger, Action, queues, sets, flushes, resends, resends_nothing, speaks, asks_again, acknowledges, loses, receives, receives_interleaved, forwards, forwards_interleaved, tracks, times, takes, Actions, nothing, further}
use Rattle.dcsctp_delivery_sockets.specs.turns.Runs.{reached_count}
use Rattle.dcsctp_delivery_sockets.proofs.turns.Received.{Alike, alike_then, timed_alike, flush_left}

-- As many were read or are ready at the one as at the other.
record SameCount (old new : Ledger) (transfer : Transfer) : Type 0 where
  left : Transfer
  is : new.queues.transfer ≡ Some left
  same : reached_count new.read left ≡ reached_count old.read transfer

alike_count : (read : List MessageContent) (old new : Transfer) → Alike old new → reached_count read new ≡ reached_count read old
alike_count read old new like = ap (λ (r : ReassemblyState). length read + length r.incoming.ready) like.reassembly

same_transfer : (found : Option Transfer) (one other : Transfer) → found ≡ Some one → found ≡ Some other → one ≡ other
same_transfer found one other first second = cc

module _ (came : Option Content) (to : ℕ) (parameters : List ResetParameter) (asks : came ≡ Some (re_config parameters)) where
  action_counts : (old new : Ledger) (transfer : Transfer) → old.queues.transfer ≡ Some transfer → Action came to old new → SameCount old new transfer
  action_counts old _ transfer is (queues now message fits some) = record { left = transfer; is = is; same = refl }
  action_counts old _ transfer is (sets setting small) = record { left = transfer; is = is; same = refl }
  action_counts old _ transfer is (speaks emission no_data stale says) = record { left = transfer; is = is; same = refl }
  action_counts old _ transfer is (asks_again emission begun tag has contents) = record { left = transfer; is = is; same = refl }
  action_counts old _ transfer is (flushes e draft answers same at tag no_data no_end stale says allowed) =
      let left = flush_left first_ask (packets_allowed e.options.max_burst e.core) e draft answers transfer (ap (λ (b : EndpointQueues). b.transfer) same ∙ is) allowed in
      record { left = left.left; is = left.is; same = alike_count old.read transfer left.left left.same }
  action_counts old _ transfer is (resends now room found left tsns chunks emission tag known sends are contents) =
      record { left = record found { retransmission = left }; is = refl; same = ap (reached_count old.read) (same_transfer old.queues.transfer found transfer known is) }
  action_counts old _ transfer is (resends_nothing now room found left tsns known sends) =
      record { left = record found { retransmission = left }; is = refl; same = ap (reached_count old.read) (same_transfer old.queues.transfer found transfer known is) }
  action_counts old _ transfer is (acknowledges now sack found new may known valid does) =
      let moved : Transfer = record found { retransmission = does.left } in
      record {
        left = new;
        is = refl;
        same =
            ap (reached_count old.read) does.is
            ∙ alike_count old.read found (timed_transfer does.round_trip moved) (alike_then found moved (timed_transfer does.round_trip moved) (record { cumulative = refl; ranges = refl; reassembly = refl }) (timed_alike does.round_trip moved))
            ∙ ap (reached_count old.read) (same_transfer old.queues.transfer found transfer known is);
      }
  action_counts old _ transfer is (loses now found known) = record { left = lost_all now found; is = refl; same = ap (reached_count old.read) (same_transfer old.queues.transfer found transfer known is) }
  action_counts old _ transfer is (receives chunk found new came_is some known does) = absurd (cc)
  action_counts old _ transfer is (receives_interleaved chunk found new came_is some known does) = absurd (cc)
  action_counts old _ transfer is (forwards tsn streams found new came_is known does) = absurd (cc)
  action_counts old _ transfer is (forwards_interleaved tsn streams found new came_is known does) = absurd (cc)
  action_counts old _ transfer is (tracks found tracked known cumulative ranges) =
      record { left = record found { tracker = tracked }; is = refl; same = ap (reached_count old.read) (same_transfer old.queues.transfer found transfer known is) }
  action_counts old _ transfer is (times round_trip found known) =
      record {
        left = timed_transfer round_trip found;
        is = refl;
        same = alike_count old.read found (timed_transfer round_trip found) (timed_alike round_trip found) ∙ ap (reached_count old.read) (same_transfer old.queues.transfer found transfer known is);
      }
  action_counts old _ transfer is (takes found message messages known ready) =
      let before : length found.reassembly.incoming.ready ≡ length (message ∷ messages) = ap (λ (l : List MessageContent). length l) ready in
      let more = length-append old.read (message ∷ []) in
      let moved : length (old.read ++ message ∷ []) + length messages ≡ reached_count old.read found = omega (arith, before, more) in
      record { left = _; is = refl; same = moved ∙ ap (reached_count old.read) (same_transfer old.queues.transfer found transfer known is) }

  all_count : (old new : Ledger) (transfer : Transfer) → old.queues.transfer ≡ Some transfer → Actions came to old new → SameCount old new transfer
  all_count old _ transfer is nothing = record { left = transfer; is = is; same = refl }
  all_count old _ transfer is (further between new first last) =
      let before = all_count old between transfer is first in
      let after = action_counts between new before.left before.is last in
      record { left = after.left; is = after.is; same = after.same ∙ before.same }

  pub counts_same : (old new : Ledger) (transfer left : Transfer) → old.queues.transfer ≡ Some transfer → new.queues.transfer ≡ Some left → Actions came to old new → reached_count new.read left ≡ reached_count old.read transfer
  counts_same old new transfer left there is actions =
      let found = all_count old new transfer there actions in
      ap (reached_count new.read) (same_transfer new.queues.transfer left found.left is found.is) ∙ found.same
