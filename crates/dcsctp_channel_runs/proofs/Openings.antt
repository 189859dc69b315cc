-- What is said on a channel after its OPEN goes by the rules of the OPEN, and its stream isn't reset between.
use Rattle.std.proofs.Common.{◌≡◌, ◌⊎◌, ◌<◌, ◌≤◌, ℕ, Some, List, false, sym, ap, subst, ◌∙◌, inl, inr}
use Rattle.std.proofs.lemmas.Bool.{true≢false}
use Rattle.std.specs.Prelude.{slice_get}
use Rattle.dcsctp_channel_calls.specs.api.types.queues.Messages.{MessageContent}
use Rattle.dcsctp_channel_calls.specs.api.spec.endpoint.MessageOutcomes.{Sending}
use Rattle.dcsctp_channel_calls.specs.Sending.{plainly}
use Rattle.dcsctp_channel_runs.specs.Acts.{OpenedChannel, SaidContent}
use Rattle.dcsctp_channel_runs.proofs.Deeds.{Deed, sendings_in, messages_in, messages_are_sent}
use Rattle.dcsctp_channel_runs.proofs.Lasting.{closing_on, delivery_on}
use Rattle.dcsctp_channel_runs.proofs.MessageKinds.{NoContent, NoOpen, sent_opens, sent_contents}
use Rattle.dcsctp_channel_runs.proofs.Picking.{picked_before, picked_from}
use Rattle.dcsctp_channel_runs.proofs.Sendings.{OpenedBefore, ContentAt, content_at, control_at, open_at, not_control}
use Rattle.dcsctp_channel_runs.proofs.Sharing.{same_on_stream}
use Rattle.dcsctp_channel_runs.proofs.Spans.{ResetBetween, open_then, reset_between, none_before_open}
use Rattle.dcsctp_channel_runs.proofs.Streams.{IsOn, IsOnOrGone, on_not_gone}
use Rattle.dcsctp_channel_runs.proofs.Asking.{IsAskedAt}
use Rattle.dcsctp_channel_runs.proofs.SentBy.{Sent}
use Rattle.dcsctp_channel_calls.specs.View.{LayerView}
use Rattle.dcsctp_channel_runs.proofs.Placing.{map_at, order}
use Rattle.dcsctp_channel_runs.proofs.Said.{IsContent}

module _ (ps : List (ℕ × ℕ)) (now old : LayerView) (deeds : List Deed) (opens : List OpenedChannel) (says : List SaidContent) (sent : Sent ps now old deeds opens says) where
  abbrev Content : ℕ → Type 0
  Content place = ContentAt ps now old deeds opens says sent place

  -- a message of the user
  pub record IsUsers (place : ℕ) (one : Sending) : Type 0 where
    pub at : slice_get (messages_in deeds) place ≡ Some one.message
    pub kind : NoContent one.message → ⊥
    pub content : Content place
    pub same : one ≡ content.sending

  -- where the user's message of this index was sent
  pub record IsSentThere (index : ℕ) (one : SaidContent) : Type 0 where
    pub place : ℕ
    pub m : MessageContent
    pub at : slice_get (messages_in deeds) place ≡ Some m
    pub kind : NoContent m → ⊥
    pub is : picked_before (messages_in deeds) says (sent_contents ps now old deeds opens says sent) place ≡ index
    pub content : Content place
    pub said_is : content.said ≡ one

  pub sent_there : (index : ℕ) (one : SaidContent) → slice_get says index ≡ Some one → IsSentThere index one
  sent_there index one there_at =
      let picks = sent_contents ps now old deeds opens says sent in
      let first = picked_from (messages_in deeds) says picks index one there_at in
      let kind : NoContent first.m → ⊥ = not_control first.m one.message.content first.of.content in
      let content = content_at ps now old deeds opens says sent first.place first.m first.at kind in
      let here : slice_get says (picked_before (messages_in deeds) says picks first.place) ≡ Some one = subst (λ (k : ℕ). slice_get says k ≡ Some one) (sym first.is) there_at in
      let sent_at : slice_get says (picked_before (messages_in deeds) says picks first.place) ≡ Some content.said = content.said_at in
      record { place = first.place; m = first.m; at = first.at; kind = kind; is = first.is; content = content; said_is = cc }

  -- the message of a sending
  pub sending_at : (place : ℕ) (m : MessageContent) → slice_get (messages_in deeds) place ≡ Some m → (content : Content place) → content.sending.message ≡ m
  sending_at place m there_at content =
      let here : slice_get (messages_in deeds) place ≡ Some content.sending.message =
      subst (λ (l : List MessageContent). slice_get l place ≡ Some content.sending.message) (sym (messages_are_sent deeds)) (map_at (sendings_in deeds) place content.sending content.at) in
      cc

  -- What is sent is of the user, or goes in order and without limits.
  pub plain_or_users : (place : ℕ) (one : Sending) → slice_get (sendings_in deeds) place ≡ Some one → (one.options ≡ plainly) ⊎ IsUsers place one
  plain_or_users place one there_at = by (control_at ps now old deeds opens says sent place one there_at)
    where
      message : slice_get (messages_in deeds) place ≡ Some one.message
      message = subst (λ (l : List MessageContent). slice_get l place ≡ Some one.message) (sym (messages_are_sent deeds)) (map_at (sendings_in deeds) place one there_at)

      by : (one.options ≡ plainly) ⊎ (NoContent one.message → ⊥) → (one.options ≡ plainly) ⊎ IsUsers place one
      by (inl plain) = inl plain
      by (inr kind) =
          let content = content_at ps now old deeds opens says sent place one.message message kind in
          let content_is : slice_get (sendings_in deeds) place ≡ Some content.sending = content.at in
          inr (record { at = message; kind = kind; content = content; same = cc })

  module _ (place : ℕ) (m : MessageContent) (at : slice_get (messages_in deeds) place ≡ Some m) (kind : NoOpen m → ⊥) (channel : OpenedChannel)
      (opened : slice_get opens (picked_before (messages_in deeds) opens (sent_opens ps now old deeds opens says sent) place) ≡ Some channel) (there : ℕ) (is : channel.name ≡ there) (still : IsOn now there m.stream) where
    pub said_by_opening : (later : ℕ) (content : Content later) → content.sending.message.stream ≡ m.stream → content.said.message.name ≡ there → content.rules.delivery ≡ channel.opening.delivery
    said_by_opening later content stream name =
        let first = open_at ps now old deeds opens says sent place m at kind channel opened in
        let still_open : IsOn now channel.name m.stream = subst (λ (n : ℕ). IsOn now n m.stream) (sym is) still in
        let rules : delivery_on now m.stream ≡ Some channel.opening.delivery = (first.keeps.lasts channel.name m.stream first.rules.on still_open).delivery ∙ first.rules.rules in
        let on : IsOn content.said.after there m.stream = subst (λ (k : ℕ). IsOn content.said.after there k) stream (subst (λ (n : ℕ). IsOn content.said.after n content.sending.message.stream) name content.rules.on) in
        let said : delivery_on content.said.after m.stream ≡ Some content.rules.delivery = subst (λ (k : ℕ). delivery_on content.said.after k ≡ Some content.rules.delivery) stream content.rules.rules in
        let both : Some content.rules.delivery ≡ Some channel.opening.delivery = sym said ∙ sym (content.behind.lasts there m.stream on still).delivery ∙ rules in
        cc

    pub said_after_open : (later : ℕ) (n : MessageContent) → slice_get (messages_in deeds) later ≡ Some n → (NoContent n → ⊥) → (content : Content later) → content.sending.message.stream ≡ m.stream → place < later → content.said.message.name ≡ there
    said_after_open later n there_at user content stream less = by (subst (λ (k : ℕ). IsOnOrGone content.said.after k m.stream) is (before.keeps.stays channel.name m.stream before.rules.on))
      where
        before : OpenedBefore channel m.stream content.said.after
        before = open_then ps now old deeds opens says sent place later less m at kind channel opened n there_at user content.said content.said_at

        by : IsOnOrGone content.said.after there m.stream → content.said.message.name ≡ there
        by (inl on) = same_on_stream content.said.after content.before.orderly there content.said.message.name m.stream on (subst (λ (k : ℕ). IsOn content.said.after content.said.message.name k) stream content.rules.on)
        by (inr gone) = absurd (on_not_gone now there m.stream still (content.behind.gone there gone))

    -- What is said on the channel is sent after its OPEN.
    pub sent_after_open : (index : ℕ) (one : SaidContent) → (found : IsSentThere index one) → one.message.name ≡ there → place < found.place
    sent_after_open index one found name = by (order place found.place)
      where
        by : (place < found.place) ⊎ ((place ≡ found.place) ⊎ (found.place < place)) → place < found.place
        by (inl below) = below
        by (inr (inl same)) =
            let here : slice_get (messages_in deeds) found.place ≡ Some m = subst (λ (p : ℕ). slice_get (messages_in deeds) p ≡ Some m) same at in
            let there_at : slice_get (messages_in deeds) found.place ≡ Some found.m = found.at in
            let both : found.m ≡ m = cc in
            let content : IsContent found.content.sending.message found.content.said.message.content = found.content.content in
            absurd (kind (inr (found.content.said.message.content, subst (λ (c : MessageContent). IsContent c found.content.said.message.content) (sending_at found.place found.m found.at found.content ∙ both) content)))
        by (inr (inr above)) =
            absurd (none_before_open ps now old deeds opens says sent found.place place above found.m found.at found.kind found.content.said found.content.said_at m at kind channel opened
            (ap (λ (s : SaidContent). s.message.name) found.said_is ∙ name ∙ sym is))

  -- No reset of the stream was asked for between two messages of the channel.
  pub none_asked_between : (number there count : ℕ) → (ask : IsAskedAt number deeds count) → (earlier later : ℕ) → earlier < count → count ≤ later → (m n : MessageContent) → slice_get (messages_in deeds) earlier ≡ Some m
      → (NoContent m → ⊥) → slice_get (messages_in deeds) later ≡ Some n → (NoContent n → ⊥) → (first : Content earlier) → first.sending.message.stream ≡ number → first.said.message.name ≡ there → (last : Content later)
      → last.sending.message.stream ≡ number → last.said.message.name ≡ there → ⊥
  none_asked_between number there count ask earlier later less le m n at kind there_at last_kind first on name last last_on last_name = by (between.before.stays there number on_first)
    where
      between : ResetBetween ask.ids first.said.after last.said.after
      between = reset_between ps now old deeds opens says sent ask.front ask.ids ask.back ask.is earlier later
          (subst (λ (k : ℕ). earlier < k) (sym ask.count_is) less) (subst (λ (k : ℕ). k ≤ later) (sym ask.count_is) le) m at kind first.said first.said_at n there_at last_kind last.said last.said_at

      on_first : IsOn first.said.after there number
      on_first = subst (λ (k : ℕ). IsOn first.said.after there k) on (subst (λ (s : ℕ). IsOn first.said.after s first.sending.message.stream) name first.rules.on)

      on_last : IsOn last.said.after there number
      on_last = subst (λ (k : ℕ). IsOn last.said.after there k) last_on (subst (λ (s : ℕ). IsOn last.said.after s last.sending.message.stream) last_name last.rules.on)

      is_open : closing_on last.said.after number ≡ false
      is_open = subst (λ (k : ℕ). closing_on last.said.after k ≡ false) last_on last.rules.opened

      by : IsOnOrGone between.at there number → ⊥
      by (inl still_on) = true≢false (sym ((between.behind.lasts there number still_on on_last).closing (between.closing number ask.named)) ∙ is_open)
      by (inr gone) = on_not_gone last.said.after there number on_last (between.behind.gone there gone)
