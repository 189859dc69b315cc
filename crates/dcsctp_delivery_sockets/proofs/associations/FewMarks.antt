-- Of messages that are marked no more are ordered ones of a stream than of those that were queued.
use Rattle.std.proofs.Common.{◌≡◌, ◌≢◌, ◌==◌, ℕ, suc, Bool, true, false, ◌<◌, ◌≤◌, Some, List, [], ◌∷◌, length, sym, ◌∙◌, ap, arith, subst, inl, inr}
use Rattle.std.specs.Prelude.{◌&&◌, not, if◌then◌else◌}
use Rattle.dcsctp_spec_lemmas.proofs.MarkedItemLemmas.{le_or_lt}
use Rattle.dcsctp_delivery_directions.specs.sending.Places.{at_place}
use Rattle.dcsctp_delivery_directions.specs.sending.Log.{Message}
use Rattle.dcsctp_delivery_directions.specs.sending.Marking.{IsMarkOf, FindsMarked}
use Rattle.dcsctp_delivery_directions.proofs.sending.Places.{decide, at_new, at_old, at_below, at_stays}
use Rattle.dcsctp_delivery_directions.specs.order.PlainDirections.{ordered_on, FewOnEachStream}
use Rattle.dcsctp_delivery_sockets.proofs.associations.Growing.{AllFound}

-- does it count?
abbrev counts : ℕ → Message → Bool
counts id message = (message.stream == id) && not message.is_unordered

same_counts : (id : ℕ) (mark message : Message) → IsMarkOf mark message → counts id mark ≡ counts id message
same_counts id mark message is = ap (λ (n : ℕ). (n == id) && not mark.is_unordered) is.stream ∙ ap (λ (b : Bool). (message.stream == id) && not b) is.unordered

count_both : (b : Bool) (n k : ℕ) → n ≤ k → (if b then suc n else n) ≤ (if b then suc k else k)
count_both true n k below = omega (arith, below)
count_both false n k below = below

count_more : (b : Bool) (n k : ℕ) → n ≤ k → n ≤ (if b then suc k else k)
count_more true n k below = omega (arith, below)
count_more false n k below = below

less_than : (n k : ℕ) → n ≤ k → n ≢ k → n < k
less_than n k below ne = elim (le_or_lt k n) [ inl above ↦ absurd (ne (omega (arith, below, above))) | inr less ↦ less ]

same_message : {one two : Message} → Some one ≡ Some two → one ≡ two
same_message is = cc

fewer_marks : (id : ℕ) (queued marks : List Message) → length marks ≤ length queued → AllFound marks queued → ordered_on id marks ≤ ordered_on id queued
fewer_marks id queued [] long found = omega arith
fewer_marks id [] (mark ∷ marks) long found = absurd (omega (arith, long))
fewer_marks id (message ∷ queued) (mark ∷ marks) long found =
    elim (decide (length marks) (length queued)) [
      | inl same ↦
          let f = found (length marks) mark (at_new mark marks) in
          let head : message ≡ f.message = same_message (sym (at_new message queued) ∙ subst (λ (k : ℕ). at_place k (message ∷ queued) ≡ Some f.message) same f.at) in
          let alike = same_counts id mark message (subst (IsMarkOf mark) (sym head) f.is) in
          let rest = fewer_marks id queued marks (omega (arith, same)) (λ place m at. older place m (let below = at_below place m marks at in omega (arith, below, same)) (found place m (at_stays place mark m marks at))) in
          subst (λ (b : Bool). (if b then suc (ordered_on id marks) else ordered_on id marks) ≤ (if counts id message then suc (ordered_on id queued) else ordered_on id queued)) (sym alike)
          (count_both (counts id message) (ordered_on id marks) (ordered_on id queued) rest)
      | inr ne ↦
          let less : length marks < length queued = less_than (length marks) (length queued) (omega (arith, long)) ne in
          count_more (counts id message) (ordered_on id (mark ∷ marks)) (ordered_on id queued)
          (fewer_marks id queued (mark ∷ marks) (omega (arith, less))
          (λ place m at. older place m (let below = at_below place m (mark ∷ marks) at in omega (arith, below, less)) (found place m at)))
    ]
  where
    older : (place : ℕ) (m : Message) → place < length queued → FindsMarked m (message ∷ queued) place → FindsMarked m queued place
    older place m below f = record { message = f.message; at = sym (at_old place message queued below) ∙ f.at; is = f.is }

pub few_marks : (queued marks : List Message) → length marks ≤ length queued → AllFound marks queued → FewOnEachStream queued → FewOnEachStream marks
few_marks queued marks long found few id = (let fewer = fewer_marks id queued marks long found in let all = few id in omega (arith, fewer, all))
