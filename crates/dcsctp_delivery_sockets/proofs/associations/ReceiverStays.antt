-- What a turn of the receiver leaves as it is.
use Rattle.std.proofs.Common.{◌≡◌, ◌≢◌, ℕ, List, sym, ◌∙◌, ap, subst, inl, inr}
use Rattle.std.specs.Prelude.{◌⊎◌}
use Rattle.dcsctp_spec_lemmas.specs.types.declared.options.Options.{Options}
use Rattle.dcsctp_spec_lemmas.specs.spec.Packet.{Emission}
use Rattle.dcsctp_spec_runs.specs.World.{after_effects}
use Rattle.dcsctp_spec_lemmas.specs.spec.association.Effect.{Effect, holds}
use Rattle.dcsctp_spec_lemmas.specs.spec.queues.Transfer.{EndpointQueues}
use Rattle.dcsctp_theorem_association.proofs.Growth.{after_within}
use Rattle.dcsctp_delivery_directions.specs.sending.Places.{table_with}
use Rattle.dcsctp_delivery_directions.specs.sending.Log.{Message}
use Rattle.dcsctp_delivery_directions.proofs.sending.Places.{decide, set_same, set_other}
use Rattle.dcsctp_delivery_directions.specs.directions.Directions.{Asking, nothing_asked}
use Rattle.dcsctp_delivery_sockets.proofs.associations.ReceiverAnswers.{asked_ends}
use Rattle.dcsctp_delivery_sockets.specs.associations.Ends.{ReceivingEnd, new_end, Ends, HadPeer, Awaits, Sender, HadTag}
use Rattle.dcsctp_delivery_sockets.proofs.associations.Senders.{of_more}

-- ---- the rest stays

pub tag_later : (effects past : List Effect) (tag first : ℕ) → HadTag past tag first → HadTag (after_effects effects past) tag first
tag_later effects past tag first had = record { link = had.link; held = after_within effects past (holds had.link) had.held; tag_is = had.tag_is; first_is = had.first_is; some = had.some }

pub begun_later : (options : Options) (ends : Ends) (effects past : List Effect) (tag : ℕ) → (ends.gets tag ≡ new_end options (ends.firsts tag)) ⊎ HadTag past tag (ends.firsts tag)
    → (ends.gets tag ≡ new_end options (ends.firsts tag)) ⊎ HadTag (after_effects effects past) tag (ends.firsts tag)
begun_later options ends effects past tag (inl new) = inl new
begun_later options ends effects past tag (inr had) = inr (tag_later effects past tag (ends.firsts tag) had)

-- The sender's ends are the same.
pub sender_same : (ends : Ends) (gets : ℕ → ReceivingEnd) (key to : ℕ) (below : EndpointQueues) (queued : List Message) (past : List Effect) (packets : List Emission) → Sender ends key to below queued past packets
    → Sender (record ends { gets = gets }) key to below queued past packets
sender_same ends gets key to below queued past packets s =
    record {
      queues_are = s.queues_are;
      long = s.long;
      marks = s.marks;
      short = s.short;
      few = s.few;
      few_requests = s.few_requests;
      last = s.last;
      pairs = s.pairs;
      current = s.current;
      kind = s.kind;
      kinds = s.kinds;
      begun = s.begun;
      all_sent = of_more ends (record ends { gets = gets }) past past packets (λ effect has. has) (λ emission went. record { tag = went.tag; former_is = went.former_is }) (λ t emission both has. inr has) s.all_sent;
      to_is = s.to_is;
      went = s.went;
      replaced = s.replaced;
      known = s.known;
    }

-- More is known of its requests under one tag.
pub sender_asked : (ends : Ends) (tag : ℕ) (asking : Asking) (got : ReceivingEnd) (key to : ℕ) (below : EndpointQueues) (queued : List Message) (past : List Effect) (packets : List Emission) → Sender ends key to below queued past packets
    → ((ends.sends tag).asking ≡ nothing_asked → asking ≡ nothing_asked) → Sender (asked_ends ends tag asking got) key to below queued past packets
sender_asked ends tag asking got key to below queued past packets s still =
    record {
      queues_are = s.queues_are;
      long = s.long;
      marks = s.marks;
      short = s.short;
      few = s.few;
      few_requests = s.few_requests;
      last = s.last;
      pairs = s.pairs;
      current = s.current;
      kind = s.kind;
      kinds = λ t some. elim (s.kinds t some) [ inl waits ↦ inl (still_awaits t waits) | inr had ↦ inr had ];
      begun = λ t some. elim (s.begun t some) [
        | inl waits ↦ inl (still_awaits t waits)
        | inr had ↦ inr had
      ];
      all_sent = of_more ends (asked_ends ends tag asking got) past past packets (λ effect has. has) (λ emission went. record { tag = went.tag; former_is = went.former_is }) (λ t emission both has. inr has) s.all_sent;
      to_is = s.to_is;
      went = s.went;
      replaced = s.replaced;
      known = s.known;
    }
  where
    awaits : (t : ℕ) → (ends.sends t).asking ≡ nothing_asked → table_with tag asking (λ n. (ends.sends n).asking) t ≡ nothing_asked
    awaits t none =
        elim (decide t tag) [
          | inl e ↦ ap (table_with tag asking (λ n. (ends.sends n).asking)) e ∙ set_same tag asking (λ n. (ends.sends n).asking) ∙ still (ap (λ (n : ℕ). (ends.sends n).asking) (sym e) ∙ none)
          | inr ne ↦ set_other tag t asking (λ n. (ends.sends n).asking) ne ∙ none
        ]

    still_awaits : (t : ℕ) → Awaits (ends.sends t) → Awaits ((asked_ends ends tag asking got).sends t)
    still_awaits t waits = record { queued = waits.queued; sent = waits.sent; acknowledged = waits.acknowledged; transfer = waits.transfer; asking = awaits t waits.asking; prepared = waits.prepared; begun = waits.begun }

-- The sender has begun no association under this tag.
pub sender_first : (ends : Ends) (gets : ℕ → ReceivingEnd) (tag first key to : ℕ) (below : EndpointQueues) (queued : List Message) (past : List Effect) (packets : List Emission) → Sender ends key to below queued past packets
    → tag ≢ key → Awaits (ends.sends tag) → Sender (record ends { gets = gets; firsts = table_with tag first ends.firsts }) key to below queued past packets
sender_first ends gets tag first key to below queued past packets s ne waits =
    record {
      queues_are = s.queues_are;
      long = s.long;
      marks = s.marks;
      short = s.short;
      few = s.few;
      few_requests = s.few_requests;
      last = s.last;
      pairs = s.pairs;
      current = λ some. subst (λ (n : ℕ). HadPeer past key n) (sym (set_other tag key first ends.firsts (λ is. ne (sym is)))) (s.current some);
      kind = s.kind;
      kinds = s.kinds;
      begun = λ t some. elim (decide t tag) [
        | inl e ↦ inl (subst (λ (n : ℕ). Awaits (ends.sends n)) (sym e) waits)
        | inr other ↦ before t other (s.begun t some)
      ];
      all_sent = of_more ends (record ends { gets = gets; firsts = table_with tag first ends.firsts }) past past packets (λ effect has. has) (λ emission went. record { tag = went.tag; former_is = went.former_is }) (λ t emission both has. inr has) s.all_sent;
      to_is = s.to_is;
      went = s.went;
      replaced = s.replaced;
      known = s.known;
    }
  where
    before : (t : ℕ) → t ≢ tag → Awaits (ends.sends t) ⊎ HadPeer past t (ends.firsts t) → Awaits (ends.sends t) ⊎ HadPeer past t (table_with tag first ends.firsts t)
    before t other (inl w) = inl w
    before t other (inr had) = inr (subst (λ (n : ℕ). HadPeer past t n) (sym (set_other tag t first ends.firsts other)) had)
