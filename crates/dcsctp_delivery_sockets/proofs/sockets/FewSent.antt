-- What was queued has as few ordered messages on each stream as what was sent.
use Rattle.std.proofs.Common.{◌≡◌, ◌==◌, ℕ, zero, suc, Bool, true, false, ◌<◌, ◌≤◌, ◌^◌, Some, List, [], ◌∷◌, ◌++◌, length, refl, sym, ◌∙◌, ap, arith, subst}
use Rattle.std.specs.Prelude.{◌&&◌, not, if◌then◌else◌, slice_get}
use Rattle.dcsctp_spec_lemmas.specs.spec.endpoint.MessageOutcomes.{Sending}
use Rattle.dcsctp_delivery_directions.specs.sending.Log.{Message}
use Rattle.dcsctp_delivery_directions.proofs.sending.Places.{at_new, at_stays, at_below}
use Rattle.dcsctp_delivery_directions.specs.order.PlainDirections.{ordered_on, FewOnEachStream}
use Rattle.dcsctp_delivery_sockets.specs.sockets.Ordered.{ordered_sent}
use Rattle.dcsctp_delivery_sockets.proofs.sockets.UserMessages.{SaysSame}

-- ---- the last one that was sent

record HasLast {A : Type 0} (all : List A) (n : ℕ) : Type 0 where
  before : List A
  last : A
  is : all ≡ before ++ last ∷ []
  size : length before ≡ n

has_last : {A : Type 0} (all : List A) (n : ℕ) → length all ≡ suc n → HasLast all n
has_last [] n size = absurd (omega (arith, size))
has_last (x ∷ []) n size = record { before = []; last = x; is = refl; size = omega (arith, size) }
has_last (x ∷ y ∷ all) zero size = absurd (omega (arith, size))
has_last (x ∷ y ∷ all) (suc n) size =
    let rest = has_last (y ∷ all) n (omega (arith, size)) in
    let one = rest.size in
    record { before = x ∷ rest.before; last = rest.last; is = ap (λ (l : List _). x ∷ l) rest.is; size = omega (arith, one) }

found_before : {A : Type 0} (xs : List A) (x : A) (k : ℕ) (y : A) → k < length xs → slice_get (xs ++ x ∷ []) k ≡ Some y → slice_get xs k ≡ Some y
found_before [] x k y below at = absurd (omega (arith, below))
found_before (z ∷ xs) x zero y below at = at
found_before (z ∷ xs) x (suc k) y below at = found_before xs x k y (omega (arith, below)) at

found_at_end : {A : Type 0} (xs : List A) (x : A) → slice_get (xs ++ x ∷ []) (length xs) ≡ Some x
found_at_end [] x = refl
found_at_end (z ∷ xs) x = found_at_end xs x

-- ---- counts

-- does it count?
abbrev counts : ℕ → Sending → Bool
counts stream sending = (sending.message.stream == stream) && not sending.options.unordered

count_last : (stream : ℕ) (before : List Sending) (last : Sending)
    → ordered_sent stream (before ++ last ∷ []) ≡ (if counts stream last then suc (ordered_sent stream before) else ordered_sent stream before)
count_last stream [] last = refl
count_last stream (sending ∷ before) last = go (counts stream sending) (counts stream last) (count_last stream before last)
  where
    go : (b c : Bool) → ordered_sent stream (before ++ last ∷ []) ≡ (if c then suc (ordered_sent stream before) else ordered_sent stream before)
        → (if b then suc (ordered_sent stream (before ++ last ∷ [])) else ordered_sent stream (before ++ last ∷ []))
        ≡ (if c then suc (if b then suc (ordered_sent stream before) else ordered_sent stream before) else (if b then suc (ordered_sent stream before) else ordered_sent stream before))
    go true true is = ap suc is
    go true false is = ap suc is
    go false true is = is
    go false false is = is

count_both : (b : Bool) (n k : ℕ) → n ≤ k → (if b then suc n else n) ≤ (if b then suc k else k)
count_both true n k below = omega (arith, below)
count_both false n k below = below

same_sending : {one two : Sending} → Some one ≡ Some two → one ≡ two
same_sending is = cc

fewer_queued : (stream : ℕ) (queued : List Message) (sent : List Sending) → SaysSame (λ sending. sending) queued sent → ordered_on stream queued ≤ ordered_sent stream sent
fewer_queued stream [] sent h = omega arith
fewer_queued stream (message ∷ queued) sent h =
    let end = has_last sent (length queued) (let size = h.size in omega (arith, size)) in
    let whole : SaysSame (λ sending. sending) (message ∷ queued) (end.before ++ end.last ∷ []) = subst (SaysSame (λ sending. sending) (message ∷ queued)) end.is h in
    let one = whole.at (length queued) message (at_new message queued) in
    let last : one.sending ≡ end.last =
    same_sending (sym one.at ∙ subst (λ (k : ℕ). slice_get (end.before ++ end.last ∷ []) k ≡ Some end.last) end.size (found_at_end end.before end.last)) in
    let rest : SaysSame (λ sending. sending) queued end.before =
    record {
      size = sym end.size;
      at = λ place m at. (
          let found = whole.at place m (at_stays place message m queued at) in
          record {
            sending = found.sending;
            is = found.is;
            at = found_before end.before end.last place found.sending (let below = at_below place m queued at in let size = end.size in omega (arith, below, size)) found.at;
          }
          );
    } in
    let alike : counts stream end.last ≡ ((message.stream == stream) && not message.is_unordered) =
    ap (λ (s : Sending). counts stream s) (sym last) ∙ ap (λ (m : Message). (m.stream == stream) && not m.is_unordered) one.is in
    subst (λ (n : ℕ). (if (message.stream == stream) && not message.is_unordered then suc (ordered_on stream queued) else ordered_on stream queued) ≤ n)
    (sym (ap (ordered_sent stream) end.is ∙ count_last stream end.before end.last))
    (subst (λ (b : Bool). (if b then suc (ordered_on stream queued) else ordered_on stream queued) ≤ (if counts stream end.last then suc (ordered_sent stream end.before) else ordered_sent stream end.before)) alike
    (count_both (counts stream end.last) (ordered_on stream queued) (ordered_sent stream end.before) (fewer_queued stream queued end.before rest)))

pub few_queued_on : (queued : List Message) (sent : List Sending) → SaysSame (λ sending. sending) queued sent → ((stream : ℕ) → ordered_sent stream sent < 2 ^ 15) → FewOnEachStream queued
few_queued_on queued sent h few stream = (let fewer = fewer_queued stream queued sent h in let all = few stream in omega (arith, fewer, all))
