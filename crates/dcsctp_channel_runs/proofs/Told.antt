-- What one end is told of the other is true.
use Rattle.dcsctp_delivery_directions.specs.sending.Places.{HasEntry}
use Rattle.dcsctp_delivery_sockets.specs.sockets.UserMessages.{sendings_of_turns, read_of, IsDelivered, message_sent}
use Rattle.dcsctp_channel_calls.specs.api.types.declared.options.Options.{Options}
use Rattle.dcsctp_channel_calls.specs.api.types.queues.Messages.{MessageContent}
use Rattle.dcsctp_channel_calls.specs.api.spec.endpoint.CallTurns.{Transition}
use Rattle.dcsctp_channel_calls.specs.api.spec.endpoint.Endpoint.{fresh_endpoint, Endpoint}
use Rattle.dcsctp_channel_calls.specs.messages.channel_spec.Contents.{ChannelContent, ContentsReadBack}
use Rattle.dcsctp_channel_calls.specs.messages.Laws.{OpensReadBack}
use Rattle.std.specs.List.{AllByRecursion}
use Rattle.dcsctp_channel_runs.proofs.Matching.{LeadsOnStream, contents_were_heard, channel_was_heard}
use Rattle.dcsctp_channel_runs.proofs.Openers.{EndSaid, OpenedThere, channels_were_opened}
use Rattle.dcsctp_channel_runs.proofs.Since.{all_at, heard_since}
use Rattle.dcsctp_channel_runs.proofs.Rows.{channels-append, messages-append}
use Rattle.std.specs.Prelude.{slice_get, ◌≢◌}
use Rattle.dcsctp_channel_runs.specs.Opened.{IsSaidApart, IsSaidBefore, WereHeard, HasContent, IsSentOn, IsSentOnOrApart, EndSoFar, heard_on, CarriesContents, IsOneChannel, WereOpened, HearsOther, IsReadInOrder, AreReadInOrder}
use Rattle.dcsctp_channel_runs.specs.Acts.{EndAct, OpenedChannel, contents_named, contents_on, SaidContent, notices_of, channels_reported, messages_reported, channels_of}
use Rattle.dcsctp_channel_calls.specs.api.spec.endpoint.MessageOutcomes.{Sending}
use Rattle.dcsctp_delivery_sockets.specs.sockets.Ordered.{IsDeliveredInOrder}
use Rattle.dcsctp_channel_runs.proofs.Picking.{DeliveredSo, delivered_once}
use Rattle.dcsctp_channel_runs.proofs.InOrder.{IsBeforeOnStream, delivered_in_order, AreOrderedOn, all_ordered_on, leads_on_stream}
use Rattle.dcsctp_channel_runs.proofs.Run.{EndIs}
use Rattle.dcsctp_channel_runs.proofs.InPlace.{IsInPlace}
use Rattle.dcsctp_channel_runs.proofs.Streams.{IsOn}
use Rattle.dcsctp_channel_calls.specs.View.{ChannelsView}
use Rattle.std.proofs.Common.{◌≡◌, ℕ, false, Some, List, ◌++◌, ap, subst, ◌∙◌, map, sym, true}
use Rattle.dcsctp_channel_runs.proofs.Fronts.{opened_front, heard_front, named-append, on-append, prefix_front}
use Rattle.dcsctp_channel_runs.proofs.Sharing.{one_had_it, alone_on_stream, on_or_apart, said_on_it, not_gone}
use Rattle.dcsctp_channel_runs.proofs.Deeds.{messages_in, deeds_of_turns, messages_are_sent, sendings_are}
use Rattle.dcsctp_channel_calls.specs.declared.channel.ChannelState.TheVariants.{Closed}
use Rattle.dcsctp_channel_calls.specs.Queries.{channel_state}
use Rattle.dcsctp_channel_runs.specs.Prefixes.{knows_stream, AlwaysKnowsStream, IsPrefixOfSaid, IsReadWhole, AreReadWhole, IsReadByRules, AreReadByRules}
use Rattle.dcsctp_channel_runs.proofs.Prefixes.{is_prefix, all_ordered}
use Rattle.dcsctp_channel_runs.proofs.Asking.{asked_there}
use Rattle.dcsctp_delivery_sockets.specs.sockets.Epochs.{HasReset}
use Rattle.dcsctp_channel_runs.proofs.Delivering.{DeliveredWhole}

-- ---- one end is told of the other

-- what an end is, by its turns, its acts, and what it sent
pub record EndThen : Type 0 where
  pub options : Options
  pub turns : List Transition
  pub acts : List EndAct
  pub said : List SaidContent
  pub view : ChannelsView
  pub is : EndIs options turns acts said view

abbrev pub sent_at : EndThen → List MessageContent
sent_at e = messages_in (deeds_of_turns (fresh_endpoint e.options) e.turns)

abbrev pub read_at : EndThen → List MessageContent
read_at e = read_of (fresh_endpoint e.options) e.turns

abbrev pub sendings_at : EndThen → List Sending
sendings_at e = sendings_of_turns (fresh_endpoint e.options) e.turns

-- what it sent is what was sent with options, without them
pub sent_plainly : (e : EndThen) → sent_at e ≡ map message_sent (sendings_at e)
sent_plainly e =
    messages_are_sent (deeds_of_turns (fresh_endpoint e.options) e.turns) ∙ ap (λ (l : List Sending). map message_sent l) (sendings_are (fresh_endpoint e.options) e.turns)

abbrev pub far : EndThen → EndSoFar
far e = record { acts = e.acts; said = e.said; layer = e.view.layer }

abbrev pub end_said : EndThen → EndSaid
end_said e =
    record {
      pairs = e.is.pairs;
      deeds = deeds_of_turns (fresh_endpoint e.options) e.turns;
      opens = e.is.opens;
      says = e.said;
      sends = e.is.sent;
      read = read_at e;
      incoming = channels_reported (notices_of e.acts ++ e.view.layer.notices);
      heard = messages_reported (notices_of e.acts ++ e.view.layer.notices);
      from = fresh_endpoint e.options;
      turns = e.turns;
      start = e.is.start;
      now = e.view.layer;
      hears = e.is.heard;
      one = e.is.keeps.one;
    }

-- What is so of places of delivery is so of contents.
module _ (back : ContentsReadBack) (Stand : ℕ → ℕ → Type 0) where
  -- what one end reads of the other's, and how that leads over to contents
  pub record ReadsSo (Places : ℕ → ℕ → Type 0) (ours theirs : EndThen) : Type 0 where
    pub delivered : DeliveredSo Places (sent_at theirs) (read_at ours)
    pub leads : (number : ℕ) → LeadsOnStream (sent_at theirs) number Places Stand

  -- what this end reads on a channel
  module _ (Places : ℕ → ℕ → Type 0) (ours theirs : EndThen) (reads : ReadsSo Places ours theirs) (name there number : ℕ) (on : HasEntry (name, number) ours.is.pairs) (on_there : HasEntry (there, number) theirs.is.pairs) where
    front_heard : (IsFrom : SaidContent → ChannelContent → Type 0)
        → ((index : ℕ) (one : SaidContent) (content : ChannelContent) → slice_get theirs.said index ≡ Some one → one.message.content ≡ content → HasEntry {A = ℕ × ℕ} (one.message.name, number) theirs.is.pairs
        → IsOn one.after one.message.name number → IsFrom one content)
        → WereHeard Stand IsFrom theirs.said (heard_on name ours.acts)
    front_heard IsFrom is_from =
        heard_front Stand IsFrom theirs.said (heard_on name ours.acts) (contents_on name (messages_reported ours.view.layer.notices))
        (subst (λ (l : List ChannelContent). WereHeard Stand IsFrom theirs.said l)
        (ap (contents_on name) (messages-append (notices_of ours.acts) ours.view.layer.notices) ∙ on-append name (messages_reported (notices_of ours.acts)) (messages_reported ours.view.layer.notices))
        (channel_was_heard back (end_said theirs) (end_said ours) name number on IsFrom is_from Places Stand (reads.leads number) reads.delivered))

    carries : CarriesContents Stand (far theirs) there (far ours) name
    carries =
        record {
          known = front_heard (IsSentOnOrApart theirs.view.layer there) (λ index one content at same noted had.
              let place = all_at (IsInPlace theirs.is.pairs theirs.view.layer) theirs.said index one theirs.is.in_place at in
              record {
                content_is = same;
                on = on_or_apart theirs.view.layer theirs.is.keeps.orderly there number one (theirs.is.keeps.after there number on_there) (theirs.is.keeps.after one.message.name number noted)
                    (one_had_it one.after place.orderly there one.message.name number (place.placed there number on_there) had);
              });
          alone = λ none. front_heard (IsSentOn there) (λ index one content at same noted had.
              record {
                content_is = same;
                on = alone_on_stream theirs.view.layer theirs.is.keeps.orderly none there one.message.name number (theirs.is.keeps.after there number on_there) (theirs.is.keeps.after one.message.name number noted);
              });
        }

-- the channels that come in
module _ (opens : OpensReadBack) (ours theirs : EndThen) where
  abbrev IsOpenedThere : (Places : ℕ → ℕ → Type 0) → DeliveredSo Places (sent_at theirs) (read_at ours) → OpenedChannel → ℕ → Type 0
  IsOpenedThere Places delivered channel there =
      OpenedThere opens (channels_of theirs.acts) (end_said theirs) (end_said ours) theirs.is.high theirs.is.rises Places delivered (end_said ours).heard channel there

  incoming_so : (Places : ℕ → ℕ → Type 0) (IsOne : OpenedChannel → ℕ → Type 0) (delivered : DeliveredSo Places (sent_at theirs) (read_at ours))
      → ((channel : OpenedChannel) (there : ℕ) → IsOpenedThere Places delivered channel there → IsOne channel there) → WereOpened IsOne (channels_of theirs.acts) (channels_reported (notices_of ours.acts))
  incoming_so Places IsOne delivered one =
      opened_front IsOne (channels_of theirs.acts) (channels_reported (notices_of ours.acts)) (channels_reported ours.view.layer.notices)
      (subst (λ (l : List OpenedChannel). WereOpened IsOne (channels_of theirs.acts) l) (channels-append (notices_of ours.acts) ours.view.layer.notices)
      (channels_were_opened opens (channels_of theirs.acts) (end_said theirs) (end_said ours) theirs.is.high theirs.is.rises Places delivered IsOne one))

  one_channel : (back : ContentsReadBack) (Stand There Here Places : ℕ → ℕ → Type 0) → ReadsSo back Stand There ours theirs → ReadsSo back Stand Here theirs ours → (delivered : DeliveredSo Places (sent_at theirs) (read_at ours))
      → (channel : OpenedChannel) (there : ℕ) → IsOpenedThere Places delivered channel there → IsOneChannel Stand (far ours) (far theirs) channel.name there
  one_channel back Stand There Here Places reads returns delivered channel there found =
      record {
        from_other = carries back Stand There ours theirs reads channel.name there found.opener.m.stream found.noted found.opener.noted;
        to_other = carries back Stand Here theirs ours returns there channel.name found.opener.m.stream found.opener.noted found.noted;
      }

pub told_truly : OpensReadBack → (back : ContentsReadBack) (ours theirs : EndThen) → IsDelivered (sent_at theirs) (read_at ours) → ReadsSo back IsSaidApart IsSaidApart ours theirs → ReadsSo back IsSaidApart IsSaidApart theirs ours
    → HearsOther (far ours) (far theirs)
told_truly opens back ours theirs delivered reads returns =
    record {
      incoming = incoming_so opens ours theirs IsSaidApart (λ channel there. IsOneChannel IsSaidApart (far ours) (far theirs) channel.name there) reads.delivered
          (one_channel opens ours theirs back IsSaidApart IsSaidApart IsSaidApart IsSaidApart reads returns reads.delivered);
      contents =
          heard_front IsSaidApart HasContent theirs.said (contents_named (messages_reported (notices_of ours.acts))) (contents_named (messages_reported ours.view.layer.notices))
          (subst (λ (l : List ChannelContent). WereHeard IsSaidApart HasContent theirs.said l)
          (ap contents_named (messages-append (notices_of ours.acts) ours.view.layer.notices) ∙ named-append (messages_reported (notices_of ours.acts)) (messages_reported ours.view.layer.notices))
          (contents_were_heard back (end_said theirs) (end_said ours) delivered));
    }

-- what was read on a channel, first what was given and then what waits
heard_in_all : (ours : EndThen) (name : ℕ) → contents_on name (end_said ours).heard ≡ heard_on name ours.acts ++ contents_on name (messages_reported ours.view.layer.notices)
heard_in_all ours name =
    ap (contents_on name) (messages-append (notices_of ours.acts) ours.view.layer.notices) ∙ on-append name (messages_reported (notices_of ours.acts)) (messages_reported ours.view.layer.notices)

module _ (opens : OpensReadBack) (back : ContentsReadBack) (ours theirs : EndThen) (delivered : DeliveredSo (IsBeforeOnStream (sendings_at theirs)) (sent_at theirs) (read_at ours)) (channel : OpenedChannel) (there : ℕ)
    (found : IsOpenedThere opens ours theirs (IsBeforeOnStream (sendings_at theirs)) delivered channel there) (ordered : AreOrderedOn found.opener.m.stream (sendings_at theirs)) where
  -- it was sent on the channel, if that isn't closed where it was opened
  sent_since : channel_state theirs.view.layer there ≢ Closed → WereHeard IsSaidBefore (IsSentOn there) theirs.said (heard_on channel.name ours.acts)
  sent_since lasts =
      heard_front IsSaidBefore (IsSentOn there) theirs.said (heard_on channel.name ours.acts) (contents_on channel.name (messages_reported ours.view.layer.notices))
      (subst (λ (l : List ChannelContent). WereHeard IsSaidBefore (IsSentOn there) theirs.said l) (heard_in_all ours channel.name)
      (heard_since opens back (channels_of theirs.acts) (end_said theirs) (end_said ours) theirs.is.high theirs.is.rises (sendings_at theirs) (sent_plainly theirs) delivered channel there found ordered
      (IsSentOn there) (λ index one content at same on since. record {
        content_is = same;
        on = said_on_it theirs.is.pairs theirs.view.layer there found.opener.m.stream one (all_at (IsInPlace theirs.is.pairs theirs.view.layer) theirs.said index one theirs.is.in_place at) lasts on since;
      })))

pub read_in_order : (opens : OpensReadBack) (back : ContentsReadBack) (ours theirs : EndThen) → (reads : ReadsSo back IsSaidBefore (IsBeforeOnStream (sendings_at theirs)) ours theirs)
    → ReadsSo back IsSaidBefore (IsBeforeOnStream (sendings_at ours)) theirs ours → AllByRecursion (λ sending. sending.options.unordered ≡ false) (sendings_at theirs) → AreReadInOrder (far ours) (far theirs)
read_in_order opens back ours theirs reads returns ordered =
    incoming_so opens ours theirs (IsBeforeOnStream (sendings_at theirs)) (λ channel there. IsReadInOrder (far ours) (far theirs) channel.name there) reads.delivered
    (λ channel there found. record {
      channel = one_channel opens ours theirs back IsSaidBefore (IsBeforeOnStream (sendings_at theirs)) (IsBeforeOnStream (sendings_at ours)) (IsBeforeOnStream (sendings_at theirs)) reads returns reads.delivered channel there found;
      since = sent_since opens back ours theirs reads.delivered channel there found (all_ordered_on found.opener.m.stream (sendings_at theirs) ordered);
    })

-- On an ordered and reliable channel a prefix is read of what is sent on it.
pub read_whole : (opens : OpensReadBack) (back : ContentsReadBack) (ours theirs : EndThen) → DeliveredWhole (HasReset theirs.options theirs.turns) (sendings_at theirs) (read_at ours)
    → AreReadWhole (AlwaysKnowsStream ours.options ours.turns) (far ours) (far theirs)
read_whole opens back ours theirs whole =
    let delivered = delivered_in_order (sendings_at theirs) (sent_at theirs) (read_at ours) (sent_plainly theirs) whole.delivered in
    incoming_so opens ours theirs (IsBeforeOnStream (sendings_at theirs)) (IsReadWhole (AlwaysKnowsStream ours.options ours.turns) (far ours) (far theirs)) delivered
    (λ channel there found. record {
      prefix = λ rules lasts premises.
          let number : ℕ = found.opener.m.stream in
          let still = not_gone theirs.view.layer there number lasts (theirs.is.keeps.after there number found.opener.noted) in
          let both = premises number still in
          prefix_front there theirs.said (heard_on channel.name ours.acts) (contents_on channel.name (messages_reported ours.view.layer.notices))
          (subst (λ (l : List ChannelContent). IsPrefixOfSaid there theirs.said l) (heard_in_all ours channel.name)
          (is_prefix opens back (channels_of theirs.acts) (end_said theirs) (end_said ours) theirs.is.high theirs.is.rises (sendings_at theirs) (sendings_are (fresh_endpoint theirs.options) theirs.turns) delivered channel there found still rules.ordered
          both.1 (HasReset theirs.options theirs.turns number) (asked_there theirs.options theirs.turns number) (whole.no_gap number)
          (λ e passed. subst (λ (f : Endpoint). knows_stream f number ≡ true) (sym passed.at) (both.0 passed.earlier passed.later passed.is)) rules.reliable));
    })

-- On an ordered channel what is sent on it is read in order, whatever other channels do.
pub read_by_rules : (opens : OpensReadBack) (back : ContentsReadBack) (ours theirs : EndThen) → IsDeliveredInOrder (sendings_at theirs) (read_at ours) → AreReadByRules (far ours) (far theirs)
read_by_rules opens back ours theirs in_order =
    let delivered = delivered_in_order (sendings_at theirs) (sent_at theirs) (read_at ours) (sent_plainly theirs) in_order in
    incoming_so opens ours theirs (IsBeforeOnStream (sendings_at theirs)) (IsReadByRules (far ours) (far theirs)) delivered
    (λ channel there found. record {
      in_order = λ rules lasts others.
          let number : ℕ = found.opener.m.stream in
          let still = not_gone theirs.view.layer there number lasts (theirs.is.keeps.after there number found.opener.noted) in
          sent_since opens back ours theirs delivered channel there found
          (all_ordered opens back (channels_of theirs.acts) (end_said theirs) (end_said ours) theirs.is.high theirs.is.rises (sendings_at theirs) (sendings_are (fresh_endpoint theirs.options) theirs.turns) delivered channel there found still rules
          (others number still)) lasts;
    })

-- Each was read once,
pub reads_once : (back : ContentsReadBack) (ours theirs : EndThen) → IsDelivered (sent_at theirs) (read_at ours) → ReadsSo back IsSaidApart IsSaidApart ours theirs
reads_once back ours theirs delivered =
    record { delivered = delivered_once (sent_at theirs) (read_at ours) delivered; leads = λ number place other index more m n at there on on_there apart rise stands same. stands (apart same) }

-- or in order.
pub reads_in_order : (back : ContentsReadBack) (ours theirs : EndThen) → IsDeliveredInOrder (sendings_at theirs) (read_at ours) → AllByRecursion (λ sending. sending.options.unordered ≡ false) (sendings_at theirs)
    → ReadsSo back IsSaidBefore (IsBeforeOnStream (sendings_at theirs)) ours theirs
reads_in_order back ours theirs delivered ordered =
    let same = sent_plainly theirs in
    record {
      delivered = delivered_in_order (sendings_at theirs) (sent_at theirs) (read_at ours) same delivered;
      leads = λ number. leads_on_stream (sendings_at theirs) (sent_at theirs) number same (all_ordered_on number (sendings_at theirs) ordered);
    }
