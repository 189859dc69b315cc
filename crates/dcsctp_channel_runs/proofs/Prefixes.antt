-- Of what was sent on an ordered and reliable channel none is missing before one that was read.
use Rattle.std.proofs.Common.{◌≡◌, ◌⊎◌, ◌<◌, ◌≤◌, ℕ, Some, List, ◌∷◌, ◌++◌, length, map, true, false, refl, sym, ap, subst, ◌∙◌, inl, inr, arith}
use Rattle.std.specs.Prelude.{slice_get}
use Rattle.std.specs.List.{AllByRecursion}
use Rattle.dcsctp_delivery_directions.specs.sending.Places.{HasEntry}
use Rattle.dcsctp_delivery_directions.specs.sending.Queueing.{has_limits}
use Rattle.dcsctp_delivery_sockets.specs.sockets.Epochs.{HaveNoGapBefore}
use Rattle.dcsctp_delivery_sockets.specs.sockets.Ordered.{IsOrderedMessage}
use Rattle.dcsctp_delivery_sockets.specs.sockets.UserMessages.{message_sent}
use Rattle.dcsctp_channel_calls.specs.api.types.declared.message.SendOptions.{SendOptions}
use Rattle.dcsctp_channel_calls.specs.api.types.queues.Messages.{MessageContent}
use Rattle.dcsctp_channel_calls.specs.api.spec.endpoint.MessageOutcomes.{Sending}
use Rattle.dcsctp_channel_calls.specs.messages.channel_spec.Contents.{ChannelContent, ContentsReadBack}
use Rattle.dcsctp_channel_calls.specs.messages.channel_spec.declared.types.Delivery.{Delivery}
use Rattle.dcsctp_channel_calls.specs.messages.channel_spec.declared.types.Reliability.TheVariants.{Reliable}
use Rattle.dcsctp_channel_calls.specs.messages.Laws.{OpensReadBack}
use Rattle.dcsctp_channel_calls.specs.Sending.{plainly}
use Rattle.dcsctp_channel_runs.specs.Acts.{OpenedChannel, SaidContent, contents_on}
use Rattle.dcsctp_channel_runs.specs.Opened.{EachToLater, IsSaidBefore, IsSentOn}
use Rattle.dcsctp_channel_runs.specs.Prefixes.{IsSentInOrder, IsSaidOnChannel, IsPrefixOfSaid, knows_stream}
use Rattle.dcsctp_channel_runs.proofs.Deeds.{sendings_in, messages_in, messages_are_sent}
use Rattle.dcsctp_channel_runs.proofs.InOrder.{IsBeforeOnStream, AreOrderedOn, ordered_on, leads_on_stream}
use Rattle.dcsctp_channel_runs.proofs.Lasting.{delivery_on}
use Rattle.dcsctp_channel_runs.proofs.Matching.{SaysAs, says_back, says_rise, Indexes, indexes_of}
use Rattle.dcsctp_channel_runs.proofs.MessageKinds.{NoContent, SaysContentOn, IsSaidOn, sent_contents, is_content, same_content}
use Rattle.dcsctp_channel_runs.proofs.Openers.{EndSaid, OpenedThere}
use Rattle.dcsctp_channel_runs.proofs.Picking.{Picks, picked_before, place_of_key, key_of_place, keys_stand, item_at, DeliveredSo}
use Rattle.dcsctp_channel_runs.proofs.Said.{Rise}
use Rattle.dcsctp_channel_runs.proofs.Sendings.{ContentAt, content_at}
use Rattle.dcsctp_channel_runs.proofs.Since.{all_at}
use Rattle.dcsctp_channel_runs.proofs.Streams.{IsOn}
use Rattle.dcsctp_channel_calls.specs.api.spec.endpoint.Endpoint.{Endpoint}
use Rattle.dcsctp_channel_runs.proofs.Heard.{IsPassed}
use Rattle.dcsctp_channel_runs.proofs.Asking.{IsAskedAt}
use Rattle.dcsctp_channel_runs.proofs.Placing.{picked_back, all_from, within, split_entry, entry_in_rest, stands_before}
use Rattle.dcsctp_channel_runs.proofs.Openings.{sending_at, said_by_opening, said_after_open, none_asked_between, IsUsers, plain_or_users, IsSentThere, sent_there, sent_after_open}
use Rattle.dcsctp_channel_calls.specs.messages.channel_spec.Slots.{Opening}

module _ (opens_back : OpensReadBack) (back : ContentsReadBack) (all : List OpenedChannel) (theirs ours : EndSaid) (high : ℕ) (rises : Rise all 0 theirs.opens high) (sendings : List Sending)
    (is_sent : sendings_in theirs.deeds ≡ sendings) (delivered : DeliveredSo (IsBeforeOnStream sendings) (messages_in theirs.deeds) ours.read) (channel : OpenedChannel) (there : ℕ)
    (found : OpenedThere opens_back all theirs ours high rises (IsBeforeOnStream sendings) delivered ours.heard channel there) where
  abbrev number : ℕ
  number = found.opener.m.stream

  abbrev messages : List MessageContent
  messages = messages_in theirs.deeds

  abbrev said_picks : Picks (IsSaidOn theirs.pairs) NoContent messages theirs.says
  said_picks = sent_contents theirs.pairs theirs.now theirs.start theirs.deeds theirs.opens theirs.says theirs.sends

  abbrev Content : ℕ → Type 0
  Content place = ContentAt theirs.pairs theirs.now theirs.start theirs.deeds theirs.opens theirs.says theirs.sends place

  same_messages : messages ≡ map message_sent sendings
  same_messages = messages_are_sent theirs.deeds ∙ ap (λ (l : List Sending). map message_sent l) is_sent

  content_here : (place : ℕ) (m : MessageContent) → slice_get messages place ≡ Some m → (NoContent m → ⊥) → Content place
  content_here place m at kind = content_at theirs.pairs theirs.now theirs.start theirs.deeds theirs.opens theirs.says theirs.sends place m at kind

  -- the sending at a place
  sending_is : (place : ℕ) (m : MessageContent) → slice_get messages place ≡ Some m → (content : Content place) → content.sending.message ≡ m
  sending_is place m at content = sending_at theirs.pairs theirs.now theirs.start theirs.deeds theirs.opens theirs.says theirs.sends place m at content

  abbrev Users : ℕ → Sending → Type 0
  Users place one = IsUsers theirs.pairs theirs.now theirs.start theirs.deeds theirs.opens theirs.says theirs.sends place one

  kind_of : (place : ℕ) (one : Sending) → slice_get sendings place ≡ Some one → (one.options ≡ plainly) ⊎ Users place one
  kind_of place one at =
      plain_or_users theirs.pairs theirs.now theirs.start theirs.deeds theirs.opens theirs.says theirs.sends place one (subst (λ (l : List Sending). slice_get l place ≡ Some one) (sym is_sent) at)

  module _ (still : IsOn theirs.now there number) where
    -- a message on the channel goes by the rules of the OPEN
    by_opening : (place : ℕ) (content : Content place) → content.sending.message.stream ≡ number → content.said.message.name ≡ there → content.rules.delivery ≡ channel.opening.delivery
    by_opening place content stream name =
        said_by_opening theirs.pairs theirs.now theirs.start theirs.deeds theirs.opens theirs.says theirs.sends found.place found.opener.m found.opener.at found.opener.kind found.opener.channel found.opener.there there found.opener.is still place
        content stream name
        ∙ ap (λ (o : Opening). o.delivery) found.opening

    -- what was sent on the stream after the OPEN was sent on the channel
    on_it : (place : ℕ) (m : MessageContent) → slice_get messages place ≡ Some m → (NoContent m → ⊥) → (content : Content place) → content.sending.message.stream ≡ number → found.place < place → content.said.message.name ≡ there
    on_it place m at kind content stream less =
        said_after_open theirs.pairs theirs.now theirs.start theirs.deeds theirs.opens theirs.says theirs.sends found.place found.opener.m found.opener.at found.opener.kind found.opener.channel found.opener.there there found.opener.is still place
        m at kind content stream less

    module _ (is_ordered : channel.opening.delivery.ordered ≡ true) (others : AllByRecursion (IsSentInOrder number there) theirs.says) where
      -- what was sent on the stream is ordered
      ordered_at : (place : ℕ) (one : Sending) → slice_get sendings place ≡ Some one → one.message.stream ≡ number → one.options.unordered ≡ false
      ordered_at place one at stream = by (kind_of place one at)
        where
          of_content : (content : Content place) → content.sending.message.stream ≡ number
              → ((content.said.message.name ≡ there) ⊎ ((delivery : Delivery) → delivery_on content.said.after number ≡ Some delivery → delivery.ordered ≡ true)) → content.sending.options.unordered ≡ false
          of_content content on (inl name) = content.rules.sent_as.ordered (ap (λ (d : Delivery). d.ordered) (by_opening place content on name) ∙ is_ordered)
          of_content content on (inr in_order) =
              content.rules.sent_as.ordered (in_order content.rules.delivery (subst (λ (k : ℕ). delivery_on content.said.after k ≡ Some content.rules.delivery) on content.rules.rules))

          by : (one.options ≡ plainly) ⊎ Users place one → one.options.unordered ≡ false
          by (inl plain) = ap (λ (o : SendOptions). o.unordered) plain
          by (inr users) =
              let content = users.content in
              let on : content.sending.message.stream ≡ number = ap (λ (s : Sending). s.message.stream) (sym users.same) ∙ stream in
              ap (λ (s : Sending). s.options.unordered) users.same
              ∙ of_content content on
              (all_at (IsSentInOrder number there) theirs.says (picked_before messages theirs.says said_picks place) content.said others content.said_at (subst (λ (k : ℕ). IsOn content.said.after content.said.message.name k) on content.rules.on))

      pub all_ordered : AreOrderedOn number sendings
      all_ordered = all_from (λ sending. sending.message.stream ≡ number → sending.options.unordered ≡ false) sendings ordered_at

      -- none that was sent since the OPEN may be abandoned
      without_limits : channel.opening.delivery.reliability ≡ Reliable → (place : ℕ) → found.place < place → (on : IsOrderedMessage sendings number place) → has_limits on.sending.options ≡ false
      without_limits is_reliable place behind_open on = by (kind_of place on.sending on.at)
        where
          by : (on.sending.options ≡ plainly) ⊎ Users place on.sending → has_limits on.sending.options ≡ false
          by (inl plain) = ap has_limits plain
          by (inr users) =
              let content = users.content in
              let stream : content.sending.message.stream ≡ number = ap (λ (s : Sending). s.message.stream) (sym users.same) ∙ on.on in
              let name = on_it place on.sending.message users.at users.kind content stream behind_open in
              ap (λ (s : Sending). has_limits s.options) users.same ∙ content.rules.sent_as.reliable (ap (λ (d : Delivery). d.reliability) (by_opening place content stream name) ∙ is_reliable)

      -- ---- what was read

      ordered_there : (place : ℕ) (m : MessageContent) → slice_get messages place ≡ Some m → m.stream ≡ number → IsOrderedMessage sendings number place
      ordered_there place m at stream = ordered_on sendings place number m all_ordered (subst (λ (l : List MessageContent). slice_get l place ≡ Some m) same_messages at) stream

      open_ordered : IsOrderedMessage sendings number found.place
      open_ordered = ordered_there found.place found.opener.m found.opener.at refl

      -- what was read on the channel is of its stream
      on_stream : (m : MessageContent) (content : ChannelContent) → SaysContentOn ours.pairs channel.name m content → m.stream ≡ number
      on_stream m content says = ours.one channel.name m.stream number says.1 found.noted

      behind_open : (place : ℕ) → HasEntry place found.contents.places → found.place < place
      behind_open place has =
          let item = item_at (SaysContentOn ours.pairs channel.name) messages found.contents.places (contents_on channel.name ours.heard) place found.contents.of has in
          found.contents.behind place has number open_ordered (ordered_there place item.0 item.2 (on_stream item.0 item.1 item.3))

      is_from : (m : MessageContent) (place index : ℕ) (one : SaidContent) (content : ChannelContent) → found.place < place → slice_get messages place ≡ Some m → picked_before messages theirs.says said_picks place ≡ index
          → slice_get theirs.says index ≡ Some one → IsSaidOn theirs.pairs m one → SaysContentOn ours.pairs channel.name m content → IsSentOn there one content
      is_from m place index one content less at picked there_at is says =
          let kind = is_content m content says.0 in
          let sent = content_here place m at kind in
          let sent_at : slice_get theirs.says (picked_before messages theirs.says said_picks place) ≡ Some sent.said = sent.said_at in
          let here : slice_get theirs.says (picked_before messages theirs.says said_picks place) ≡ Some one = subst (λ (k : ℕ). slice_get theirs.says k ≡ Some one) (sym picked) there_at in
          let same : sent.said ≡ one = cc in
          let stream : sent.sending.message.stream ≡ number = ap (λ (c : MessageContent). c.stream) (sending_is place m at sent) ∙ on_stream m content says in
          record { content_is = same_content back m one.message.content content is.content says.0; on = ap (λ (s : SaidContent). s.message.name) (sym same) ∙ on_it place m at kind sent stream less }

      abbrev Key : ℕ → ℕ → Type 0
      Key place index =
          SaysAs theirs.pairs (SaysContentOn ours.pairs channel.name) (λ m content says. says.0) (IsSentOn there) messages theirs.says said_picks (λ place. found.place < place) is_from place index

      indexes : Indexes theirs.pairs (SaysContentOn ours.pairs channel.name) (λ m content says. says.0) (IsSentOn there) messages theirs.says said_picks (λ place. found.place < place) is_from found.contents.places (contents_on channel.name ours.heard)
      indexes =
          indexes_of theirs.pairs (SaysContentOn ours.pairs channel.name) (λ m content says. says.0) (IsSentOn there) messages theirs.says said_picks (λ place. found.place < place) is_from found.contents.places (contents_on channel.name ours.heard)
          found.contents.of behind_open

      keys_rise : EachToLater IsSaidBefore indexes.indexes
      keys_rise =
          keys_stand Key (IsBeforeOnStream sendings) IsSaidBefore
          (λ place other index more one two stands.
          leads_on_stream sendings messages number same_messages all_ordered place other index more one.m two.m one.at two.at (on_stream one.m one.content one.says) (on_stream two.m two.content two.says)
          (says_back theirs.pairs (SaysContentOn ours.pairs channel.name) (λ m content says. says.0) (IsSentOn there) messages theirs.says said_picks (λ place. found.place < place) is_from place other index more one two)
          (says_rise theirs.pairs (SaysContentOn ours.pairs channel.name) (λ m content says. says.0) (IsSentOn there) messages theirs.says said_picks (λ place. found.place < place) is_from place other index more one two) stands)
          found.contents.places indexes.indexes indexes.keys found.contents.stand

      module _ (asked : ℕ → Type 0) (asked_at : (count : ℕ) → asked count → IsAskedAt number theirs.deeds count) (no_gap : HaveNoGapBefore asked sendings number (length sendings) delivered.places)
          (knows : (e : Endpoint) → IsPassed ours.from ours.turns e → knows_stream e number ≡ true) (is_reliable : channel.opening.delivery.reliability ≡ Reliable) where
        kept_before : (earlier later : ℕ) (m n : MessageContent) → slice_get messages earlier ≡ Some m → (NoContent m → ⊥) → slice_get messages later ≡ Some n → (NoContent n → ⊥) → (first : Content earlier) → m.stream ≡ number
            → first.said.message.name ≡ there → (last : Content later) → n.stream ≡ number → last.said.message.name ≡ there → found.place < earlier → earlier < later → HasEntry later found.contents.places → HasEntry earlier found.contents.places
        kept_before earlier later m n at kind last_at last_kind first on name last last_on last_name above less has = by (split_entry earlier found.place found.front found.rest (subst (λ (l : List ℕ). HasEntry earlier l) found.is was_read))
          where
            first_ordered : IsOrderedMessage sendings number earlier
            first_ordered = ordered_there earlier m at on

            last_ordered : IsOrderedMessage sendings number later
            last_ordered = ordered_there later n last_at last_on

            last_read : HasEntry later delivered.places
            last_read = subst (λ (l : List ℕ). HasEntry later l) (sym found.is) (entry_in_rest later found.place found.front found.rest (found.contents.among later has))

            was_read : HasEntry earlier delivered.places
            was_read =
                no_gap earlier later last_read last_ordered first_ordered (without_limits is_reliable earlier above first_ordered) less (within sendings later last_ordered.sending last_ordered.at)
                (λ count is below le. none_asked_between theirs.pairs theirs.now theirs.start theirs.deeds theirs.opens theirs.says theirs.sends number there count (asked_at count is) earlier later below le m n at kind last_at last_kind first (ap (λ (c : MessageContent). c.stream) (sending_is earlier m at first) ∙ on) name last
                (ap (λ (c : MessageContent). c.stream) (sending_is later n last_at last) ∙ last_on) last_name)

            stands : EachToLater (IsBeforeOnStream sendings) (found.front ++ found.place ∷ found.rest)
            stands = subst (λ (l : List ℕ). EachToLater (IsBeforeOnStream sendings) l) found.is delivered.stand

            by : HasEntry earlier found.front ⊎ ((earlier ≡ found.place) ⊎ HasEntry earlier found.rest) → HasEntry earlier found.contents.places
            by (inl before) =
                let below : earlier < found.place = stands_before (IsBeforeOnStream sendings) earlier found.place found.front found.rest stands before number first_ordered open_ordered in
                let higher : found.place < earlier = above in absurd (omega arith)
            by (inr (inl same)) = let higher : found.place < earlier = above in absurd (omega arith)
            by (inr (inr there_at)) =
                found.contents.kept knows earlier later has there_at
                (λ stand. let turned : later < earlier = stand number last_ordered first_ordered in let so : earlier < later = less in omega arith)
                (record { m = m; at = at; kind = kind; on = on })

        gap_free : (earlier later : ℕ) → HasEntry later indexes.indexes → IsSaidOnChannel there theirs.says earlier → earlier < later → HasEntry earlier indexes.indexes
        gap_free earlier later has is less = subst (λ (k : ℕ). HasEntry k indexes.indexes) (sym key.2.is ∙ first.is) key.1
          where
            -- the later one
            last : (place : ℕ) × HasEntry place found.contents.places × Key place later
            last = place_of_key Key found.contents.places indexes.indexes later indexes.keys has

            last_content : Content last.0
            last_content = content_here last.0 last.2.m last.2.at last.2.kind

            last_stream : last.2.m.stream ≡ number
            last_stream = on_stream last.2.m last.2.content last.2.says

            last_name : last_content.said.message.name ≡ there
            last_name = on_it last.0 last.2.m last.2.at last.2.kind last_content (ap (λ (c : MessageContent). c.stream) (sending_is last.0 last.2.m last.2.at last_content) ∙ last_stream) (behind_open last.0 last.1)

            -- the earlier one
            first : IsSentThere theirs.pairs theirs.now theirs.start theirs.deeds theirs.opens theirs.says theirs.sends earlier is.one
            first = sent_there theirs.pairs theirs.now theirs.start theirs.deeds theirs.opens theirs.says theirs.sends earlier is.one is.at

            name : first.content.said.message.name ≡ there
            name = ap (λ (s : SaidContent). s.message.name) first.said_is ∙ is.on

            stream : first.m.stream ≡ number
            stream =
                ap (λ (c : MessageContent). c.stream) (sym (sending_is first.place first.m first.at first.content))
                ∙ theirs.one there first.content.sending.message.stream number (subst (λ (n : ℕ). HasEntry {A = ℕ × ℕ} (n, first.content.sending.message.stream) theirs.pairs) name first.content.noted) found.opener.noted

            above_open : found.place < first.place
            above_open =
                sent_after_open theirs.pairs theirs.now theirs.start theirs.deeds theirs.opens theirs.says theirs.sends found.place found.opener.m found.opener.at found.opener.kind found.opener.channel found.opener.there there found.opener.is
                still earlier is.one first is.on

            kept : HasEntry first.place found.contents.places
            kept =
                kept_before first.place last.0 first.m last.2.m first.at first.kind last.2.at last.2.kind first.content stream name last_content last_stream last_name above_open
                (picked_back messages theirs.says said_picks first.place last.0 first.m last.2.m first.at last.2.at last.2.kind (subst (λ (k : ℕ). k < picked_before messages theirs.says said_picks last.0) (sym first.is) (subst (λ (k : ℕ). earlier < k) (sym last.2.is) less))) last.1

            key : (index : ℕ) × HasEntry index indexes.indexes × Key first.place index
            key = key_of_place Key found.contents.places indexes.indexes first.place indexes.keys kept

        pub is_prefix : IsPrefixOfSaid there theirs.says (contents_on channel.name ours.heard)
        is_prefix = record { places = indexes.indexes; were_said = indexes.were; in_order = keys_rise; no_gap = gap_free }
