-- What an end sent on a channel stands behind its OPEN, and no reset of its stream stands between.
use Rattle.std.proofs.Common.{◌≡◌, ◌<◌, ◌≤◌, ℕ, zero, suc, Some, List, [], ◌∷◌, ◌++◌, length, sym, ap, subst, ◌∙◌, inl, inr, arith}
use Rattle.std.specs.Prelude.{slice_get}
use Rattle.dcsctp_channel_calls.specs.api.types.queues.Messages.{MessageContent}
use Rattle.dcsctp_channel_calls.specs.View.{LayerView}
use Rattle.dcsctp_channel_runs.specs.Acts.{OpenedChannel, SaidContent}
use Rattle.dcsctp_channel_runs.proofs.Deeds.{Deed, sends, asks, sendings_in, messages_in}
use Rattle.dcsctp_channel_runs.proofs.MessageKinds.{NoOpen, NoContent, sent_opens, sent_contents}
use Rattle.dcsctp_channel_runs.proofs.Picking.{picked_before}
use Rattle.dcsctp_channel_runs.proofs.Said.{IsAck, IsContent}
use Rattle.dcsctp_channel_runs.proofs.SentBy.{HasItsRules, AreClosing, Sent, none_sent, an_ack, an_open, a_content, an_ask}
use Rattle.dcsctp_channel_runs.proofs.Sendings.{content_at, open_to_come, OpenedBefore}
use Rattle.dcsctp_channel_runs.proofs.Streams.{IsOn, KeepStreams, keep_then, on_not_to_come}

-- Between two layers these streams were reset, which were closing.
pub record ResetBetween (ids : List ℕ) (first later : LayerView) : Type 0 where
  pub at : LayerView
  pub closing : AreClosing ids at
  pub before : KeepStreams [] first at
  pub behind : KeepStreams [] at later

longer : (ids : List ℕ) (old after later : LayerView) → KeepStreams [] old after → ResetBetween ids after later → ResetBetween ids old later
longer ids old after later keeps between = record { at = between.at; closing = between.closing; before = keep_then [] [] old after between.at keeps between.before; behind = between.behind }

module _ (ps : List (ℕ × ℕ)) (now : LayerView) where
  -- what is said after the OPEN
  pub open_then : (old : LayerView) (deeds : List Deed) (opens : List OpenedChannel) (says : List SaidContent) (sent : Sent ps now old deeds opens says) (place later : ℕ) → place < later
      → (m : MessageContent) → slice_get (messages_in deeds) place ≡ Some m → (NoOpen m → ⊥) → (channel : OpenedChannel)
      → slice_get opens (picked_before (messages_in deeds) opens (sent_opens ps now old deeds opens says sent) place) ≡ Some channel
      → (n : MessageContent) → slice_get (messages_in deeds) later ≡ Some n → (NoContent n → ⊥) → (one : SaidContent)
      → slice_get says (picked_before (messages_in deeds) says (sent_contents ps now old deeds opens says sent) later) ≡ Some one → OpenedBefore channel m.stream one.after
  unfolding picked_before sent_opens sent_contents
  open_then _ _ _ _ (none_sent old keeps) place later less m at kind channel opened n there content one said = absurd cc
  open_then _ _ _ _ (an_ask old after ids deeds opens says keeps closing rest) place later less m at kind channel opened n there content one said =
      open_then after deeds opens says rest place later less m at kind channel opened n there content one said
  open_then _ _ _ _ (an_ack old after x deeds opens says keeps is plain rest) zero later less m at kind channel opened n there content one said = let same : x.message ≡ m = cc in absurd (kind (inl (subst IsAck same is)))
  open_then _ _ _ _ (an_ack old after x deeds opens says keeps is plain rest) (suc place) zero less m at kind channel opened n there content one said = absurd (omega arith)
  open_then _ _ _ _ (an_ack old after x deeds opens says keeps is plain rest) (suc place) (suc later) less m at kind channel opened n there content one said =
      open_then after deeds opens says rest place later (omega arith) m at kind channel opened n there content one said
  open_then _ _ _ _ (an_open old after x first deeds opens says keeps is plain come noted behind rules rest) zero zero less m at kind channel opened n there content one said = absurd (omega arith)
  open_then _ _ _ _ (an_open old after x first deeds opens says keeps is plain come noted behind rules rest) zero (suc later) less m at kind channel opened n there content one said =
      let same : first ≡ channel = cc in
      let message : x.message ≡ m = cc in
      let found = content_at ps now after deeds opens says rest later n there content in
      let found_at : slice_get says (picked_before (messages_in deeds) says (sent_contents ps now after deeds opens says rest) later) ≡ Some found.said = found.said_at in
      let both : found.said ≡ one = cc in
      record {
        after = after;
        rules = subst (λ (c : OpenedChannel). HasItsRules after c m.stream) same (subst (λ (c : MessageContent). HasItsRules after first c.stream) message rules);
        keeps = subst (λ (s : SaidContent). KeepStreams [] after s.after) both found.before;
      }
  open_then _ _ _ _ (an_open old after x first deeds opens says keeps is plain come noted behind rules rest) (suc place) zero less m at kind channel opened n there content one said = absurd (omega arith)
  open_then _ _ _ _ (an_open old after x first deeds opens says keeps is plain come noted behind rules rest) (suc place) (suc later) less m at kind channel opened n there content one said =
      open_then after deeds opens says rest place later (omega arith) m at kind channel opened n there content one said
  open_then _ _ _ _ (a_content old x first deeds opens says keeps is noted rules rest) zero later less m at kind channel opened n there content one said =
      let same : x.message ≡ m = cc in absurd (kind (inr (first.message.content, subst (λ (c : MessageContent). IsContent c first.message.content) same is)))
  open_then _ _ _ _ (a_content old x first deeds opens says keeps is noted rules rest) (suc place) zero less m at kind channel opened n there content one said = absurd (omega arith)
  open_then _ _ _ _ (a_content old x first deeds opens says keeps is noted rules rest) (suc place) (suc later) less m at kind channel opened n there content one said =
      open_then first.after deeds opens says rest place later (omega arith) m at kind channel opened n there content one said

  -- nothing is said on the channel before
  pub none_before_open : (old : LayerView) (deeds : List Deed) (opens : List OpenedChannel) (says : List SaidContent) (sent : Sent ps now old deeds opens says) (earlier place : ℕ) → earlier < place
      → (n : MessageContent) → slice_get (messages_in deeds) earlier ≡ Some n → (NoContent n → ⊥) → (one : SaidContent)
      → slice_get says (picked_before (messages_in deeds) says (sent_contents ps now old deeds opens says sent) earlier) ≡ Some one
      → (m : MessageContent) → slice_get (messages_in deeds) place ≡ Some m → (NoOpen m → ⊥) → (channel : OpenedChannel)
      → slice_get opens (picked_before (messages_in deeds) opens (sent_opens ps now old deeds opens says sent) place) ≡ Some channel → one.message.name ≡ channel.name → ⊥
  unfolding picked_before sent_opens sent_contents
  none_before_open _ _ _ _ (none_sent old keeps) earlier place less n there content one said m at kind channel opened same = absurd cc
  none_before_open _ _ _ _ (an_ask old after ids deeds opens says keeps closing rest) earlier place less n there content one said m at kind channel opened same =
      none_before_open after deeds opens says rest earlier place less n there content one said m at kind channel opened same
  none_before_open _ _ _ _ (an_ack old after x deeds opens says keeps is plain rest) earlier zero less n there content one said m at kind channel opened same = absurd (omega arith)
  none_before_open _ _ _ _ (an_ack old after x deeds opens says keeps is plain rest) zero (suc place) less n there content one said m at kind channel opened same =
      let message : x.message ≡ n = cc in absurd (content (ap (λ (c : MessageContent). c.ppid) (sym message) ∙ is.ppid))
  none_before_open _ _ _ _ (an_ack old after x deeds opens says keeps is plain rest) (suc earlier) (suc place) less n there content one said m at kind channel opened same =
      none_before_open after deeds opens says rest earlier place (omega arith) n there content one said m at kind channel opened same
  none_before_open _ _ _ _ (an_open old after x first deeds opens says keeps is plain come noted behind rules rest) earlier zero less n there content one said m at kind channel opened same = absurd (omega arith)
  none_before_open _ _ _ _ (an_open old after x first deeds opens says keeps is plain come noted behind rules rest) zero (suc place) less n there content one said m at kind channel opened same =
      let message : x.message ≡ n = cc in absurd (content (ap (λ (c : MessageContent). c.ppid) (sym message) ∙ is.ppid))
  none_before_open _ _ _ _ (an_open old after x first deeds opens says keeps is plain come noted behind rules rest) (suc earlier) (suc place) less n there content one said m at kind channel opened same =
      none_before_open after deeds opens says rest earlier place (omega arith) n there content one said m at kind channel opened same
  none_before_open _ _ _ _ (a_content old x first deeds opens says keeps is noted rules rest) earlier zero less n there content one said m at kind channel opened same = absurd (omega arith)
  none_before_open _ _ _ _ (a_content old x first deeds opens says keeps is noted rules rest) zero (suc place) less n there content one said m at kind channel opened same =
      let said_is : first ≡ one = cc in
      let named : first.message.name ≡ channel.name = ap (λ (s : SaidContent). s.message.name) said_is ∙ same in
      on_not_to_come first.after channel.name x.message.stream (subst (λ (k : ℕ). IsOn first.after k x.message.stream) named rules.on) (open_to_come ps now first.after deeds opens says rest place m at kind channel opened)
  none_before_open _ _ _ _ (a_content old x first deeds opens says keeps is noted rules rest) (suc earlier) (suc place) less n there content one said m at kind channel opened same =
      none_before_open first.after deeds opens says rest earlier place (omega arith) n there content one said m at kind channel opened same

  -- ---- resets

  reset_later : (old : LayerView) (deeds : List Deed) (opens : List OpenedChannel) (says : List SaidContent) (sent : Sent ps now old deeds opens says) (front : List Deed) (ids : List ℕ) (back : List Deed)
      → deeds ≡ front ++ asks ids ∷ back → (place : ℕ) → length (sendings_in front) ≤ place → (n : MessageContent) → slice_get (messages_in deeds) place ≡ Some n → (NoContent n → ⊥) → (one : SaidContent)
      → slice_get says (picked_before (messages_in deeds) says (sent_contents ps now old deeds opens says sent) place) ≡ Some one → ResetBetween ids old one.after
  unfolding picked_before sent_contents
  reset_later _ _ _ _ (none_sent old keeps) front ids back is place le n there content one said = absurd cc
  reset_later _ _ _ _ (an_ask old after asked deeds opens says keeps closing rest) [] ids back is place le n there content one said =
      let same : asked ≡ ids = cc in
      let found = content_at ps now after deeds opens says rest place n there content in
      let found_at : slice_get says (picked_before (messages_in deeds) says (sent_contents ps now after deeds opens says rest) place) ≡ Some found.said = found.said_at in
      let both : found.said ≡ one = cc in
      record { at = after; closing = subst (λ (l : List ℕ). AreClosing l after) same closing; before = keeps; behind = subst (λ (s : SaidContent). KeepStreams [] after s.after) both found.before }
  reset_later _ _ _ _ (an_ask old after asked deeds opens says keeps closing rest) (sends x ∷ front) ids back is place le n there content one said = absurd cc
  reset_later _ _ _ _ (an_ask old after asked deeds opens says keeps closing rest) (asks k ∷ front) ids back is place le n there content one said =
      let same : deeds ≡ front ++ asks ids ∷ back = cc in longer ids old after one.after keeps (reset_later after deeds opens says rest front ids back same place le n there content one said)
  reset_later _ _ _ _ (an_ack old after x deeds opens says keeps ack plain rest) [] ids back is place le n there content one said = absurd cc
  reset_later _ _ _ _ (an_ack old after x deeds opens says keeps ack plain rest) (asks k ∷ front) ids back is place le n there content one said = absurd cc
  reset_later _ _ _ _ (an_ack old after x deeds opens says keeps ack plain rest) (sends y ∷ front) ids back is zero le n there content one said = absurd (omega arith)
  reset_later _ _ _ _ (an_ack old after x deeds opens says keeps ack plain rest) (sends y ∷ front) ids back is (suc place) le n there content one said =
      let same : deeds ≡ front ++ asks ids ∷ back = cc in longer ids old after one.after keeps (reset_later after deeds opens says rest front ids back same place (omega arith) n there content one said)
  reset_later _ _ _ _ (an_open old after x first deeds opens says keeps opened plain come noted behind rules rest) [] ids back is place le n there content one said = absurd cc
  reset_later _ _ _ _ (an_open old after x first deeds opens says keeps opened plain come noted behind rules rest) (asks k ∷ front) ids back is place le n there content one said = absurd cc
  reset_later _ _ _ _ (an_open old after x first deeds opens says keeps opened plain come noted behind rules rest) (sends y ∷ front) ids back is zero le n there content one said = absurd (omega arith)
  reset_later _ _ _ _ (an_open old after x first deeds opens says keeps opened plain come noted behind rules rest) (sends y ∷ front) ids back is (suc place) le n there content one said =
      let same : deeds ≡ front ++ asks ids ∷ back = cc in longer ids old after one.after keeps (reset_later after deeds opens says rest front ids back same place (omega arith) n there content one said)
  reset_later _ _ _ _ (a_content old x first deeds opens says keeps so noted rules rest) [] ids back is place le n there content one said = absurd cc
  reset_later _ _ _ _ (a_content old x first deeds opens says keeps so noted rules rest) (asks k ∷ front) ids back is place le n there content one said = absurd cc
  reset_later _ _ _ _ (a_content old x first deeds opens says keeps so noted rules rest) (sends y ∷ front) ids back is zero le n there content one said = absurd (omega arith)
  reset_later _ _ _ _ (a_content old x first deeds opens says keeps so noted rules rest) (sends y ∷ front) ids back is (suc place) le n there content one said =
      let same : deeds ≡ front ++ asks ids ∷ back = cc in longer ids old first.after one.after keeps (reset_later first.after deeds opens says rest front ids back same place (omega arith) n there content one said)

  -- A reset between two messages of the user was asked for when its streams were closing.
  pub reset_between : (old : LayerView) (deeds : List Deed) (opens : List OpenedChannel) (says : List SaidContent) (sent : Sent ps now old deeds opens says) (front : List Deed) (ids : List ℕ) (back : List Deed)
      → deeds ≡ front ++ asks ids ∷ back → (earlier later : ℕ) → earlier < length (sendings_in front) → length (sendings_in front) ≤ later
      → (m : MessageContent) → slice_get (messages_in deeds) earlier ≡ Some m → (NoContent m → ⊥) → (first : SaidContent)
      → slice_get says (picked_before (messages_in deeds) says (sent_contents ps now old deeds opens says sent) earlier) ≡ Some first
      → (n : MessageContent) → slice_get (messages_in deeds) later ≡ Some n → (NoContent n → ⊥) → (one : SaidContent)
      → slice_get says (picked_before (messages_in deeds) says (sent_contents ps now old deeds opens says sent) later) ≡ Some one → ResetBetween ids first.after one.after
  unfolding picked_before sent_contents
  reset_between _ _ _ _ (none_sent old keeps) front ids back is earlier later less le m at kind first said_first n there content one said = absurd cc
  reset_between _ _ _ _ (an_ask old after asked deeds opens says keeps closing rest) [] ids back is earlier later less le m at kind first said_first n there content one said = absurd (omega arith)
  reset_between _ _ _ _ (an_ask old after asked deeds opens says keeps closing rest) (sends x ∷ front) ids back is earlier later less le m at kind first said_first n there content one said = absurd cc
  reset_between _ _ _ _ (an_ask old after asked deeds opens says keeps closing rest) (asks k ∷ front) ids back is earlier later less le m at kind first said_first n there content one said =
      let same : deeds ≡ front ++ asks ids ∷ back = cc in reset_between after deeds opens says rest front ids back same earlier later less le m at kind first said_first n there content one said
  reset_between _ _ _ _ (an_ack old after x deeds opens says keeps ack plain rest) [] ids back is earlier later less le m at kind first said_first n there content one said = absurd (omega arith)
  reset_between _ _ _ _ (an_ack old after x deeds opens says keeps ack plain rest) (asks k ∷ front) ids back is earlier later less le m at kind first said_first n there content one said = absurd cc
  reset_between _ _ _ _ (an_ack old after x deeds opens says keeps ack plain rest) (sends y ∷ front) ids back is zero later less le m at kind first said_first n there content one said =
      let message : x.message ≡ m = cc in absurd (kind (ap (λ (c : MessageContent). c.ppid) (sym message) ∙ ack.ppid))
  reset_between _ _ _ _ (an_ack old after x deeds opens says keeps ack plain rest) (sends y ∷ front) ids back is (suc earlier) zero less le m at kind first said_first n there content one said = absurd (omega arith)
  reset_between _ _ _ _ (an_ack old after x deeds opens says keeps ack plain rest) (sends y ∷ front) ids back is (suc earlier) (suc later) less le m at kind first said_first n there content one said =
      let same : deeds ≡ front ++ asks ids ∷ back = cc in reset_between after deeds opens says rest front ids back same earlier later (omega arith) (omega arith) m at kind first said_first n there content one said
  reset_between _ _ _ _ (an_open old after x channel deeds opens says keeps opened plain come noted behind rules rest) [] ids back is earlier later less le m at kind first said_first n there content one said = absurd (omega arith)
  reset_between _ _ _ _ (an_open old after x channel deeds opens says keeps opened plain come noted behind rules rest) (asks k ∷ front) ids back is earlier later less le m at kind first said_first n there content one said = absurd cc
  reset_between _ _ _ _ (an_open old after x channel deeds opens says keeps opened plain come noted behind rules rest) (sends y ∷ front) ids back is zero later less le m at kind first said_first n there content one said =
      let message : x.message ≡ m = cc in absurd (kind (ap (λ (c : MessageContent). c.ppid) (sym message) ∙ opened.ppid))
  reset_between _ _ _ _ (an_open old after x channel deeds opens says keeps opened plain come noted behind rules rest) (sends y ∷ front) ids back is (suc earlier) zero less le m at kind first said_first n there content one said = absurd (omega arith)
  reset_between _ _ _ _ (an_open old after x channel deeds opens says keeps opened plain come noted behind rules rest) (sends y ∷ front) ids back is (suc earlier) (suc later) less le m at kind first said_first n there content one said =
      let same : deeds ≡ front ++ asks ids ∷ back = cc in reset_between after deeds opens says rest front ids back same earlier later (omega arith) (omega arith) m at kind first said_first n there content one said
  reset_between _ _ _ _ (a_content old x before deeds opens says keeps so noted rules rest) [] ids back is earlier later less le m at kind first said_first n there content one said = absurd (omega arith)
  reset_between _ _ _ _ (a_content old x before deeds opens says keeps so noted rules rest) (asks k ∷ front) ids back is earlier later less le m at kind first said_first n there content one said = absurd cc
  reset_between _ _ _ _ (a_content old x before deeds opens says keeps so noted rules rest) (sends y ∷ front) ids back is earlier zero less le m at kind first said_first n there content one said = absurd (omega arith)
  reset_between _ _ _ _ (a_content old x before deeds opens says keeps so noted rules rest) (sends y ∷ front) ids back is zero (suc later) less le m at kind first said_first n there content one said =
      let same : deeds ≡ front ++ asks ids ∷ back = cc in
      let both : before ≡ first = cc in
      subst (λ (s : SaidContent). ResetBetween ids s.after one.after) both (reset_later before.after deeds opens says rest front ids back same later (omega arith) n there content one said)
  reset_between _ _ _ _ (a_content old x before deeds opens says keeps so noted rules rest) (sends y ∷ front) ids back is (suc earlier) (suc later) less le m at kind first said_first n there content one said =
      let same : deeds ≡ front ++ asks ids ∷ back = cc in reset_between before.after deeds opens says rest front ids back same earlier later (omega arith) (omega arith) m at kind first said_first n there content one said
