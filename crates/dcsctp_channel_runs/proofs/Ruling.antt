-- Messages of users go by the rules of their channels.
use Rattle.std.proofs.Common.{◌≡◌, ◌&&◌, ℕ, Bool, true, false, not, Option, Some, None, refl, sym, ap, subst, ◌∙◌}
use Rattle.std.specs.declared.time.Duration.{Duration}
use Rattle.std.specs.Prelude.{◌||◌, is_some}
use Rattle.dcsctp_channel_calls.specs.api.types.declared.message.SendOptions.{SendOptions}
use Rattle.dcsctp_channel_calls.specs.api.spec.endpoint.MessageOutcomes.{sending_of}
use Rattle.dcsctp_channel_calls.specs.messages.channel_spec.Contents.{ChannelContent, content_ppid, payload_of}
use Rattle.dcsctp_channel_calls.specs.messages.channel_spec.declared.types.Reliability.{Reliability}
use Rattle.dcsctp_channel_calls.specs.messages.channel_spec.declared.types.Reliability.TheVariants.{Reliable}
use Rattle.dcsctp_channel_calls.specs.declared.channel.HeldStream.{HeldStream}
use Rattle.dcsctp_channel_calls.specs.Sending.{retransmissions_of, IsLifetimeOf, IsSendingOn, counts_sent, stream_of_name, stream_unless_closing, open_held, open_on, open_stream}
use Rattle.dcsctp_channel_calls.specs.View.{LayerView, entry_numbered, entry_put, held_stream_numbered}
use Rattle.dcsctp_channel_laws.proofs.Maps.{put_here}
use Rattle.dcsctp_channel_runs.proofs.Lasting.{closing_of, delivery_of}
use Rattle.dcsctp_channel_runs.proofs.SentBy.{IsSentAs, IsSentByRules}
use Rattle.dcsctp_channel_runs.proofs.Streams.{IsOn}

never_unordered : (heard : Bool) → (heard && not true) ≡ false
never_unordered true = refl
never_unordered false = refl

no_lifetime : (lifetime : Option Duration) → IsLifetimeOf Reliable lifetime → lifetime ≡ None
no_lifetime None is = refl
no_lifetime (Some lifetime) is = absurd is

-- by the rules of the stream
goes_by_rules : (held : HeldStream) (how : SendOptions) → IsSendingOn held how → IsSentAs how held.delivery
goes_by_rules held how sending =
    record {
      ordered = λ is. sending.unordered ∙ ap (λ (b : Bool). held.stream.heard && not b) is ∙ never_unordered held.stream.heard;
      reliable = λ is.
          let none : how.lifetime ≡ None = no_lifetime how.lifetime (subst (λ (r : Reliability). IsLifetimeOf r how.lifetime) is sending.lifetime) in
          let no_limit : how.max_retransmissions ≡ None = sending.limit ∙ ap retransmissions_of is in
          ap (λ (l : Option Duration). is_some l || is_some how.max_retransmissions) none ∙ ap (λ (l : Option ℕ). is_some l) no_limit;
    }

-- What a channel sends goes by the rules of its stream, which isn't closing.
pub sent_by_rules : (number bytes name : ℕ) (held : HeldStream) (content : ChannelContent) (how : SendOptions) (layer : LayerView) → IsOn layer name number → held_stream_numbered layer number ≡ Some held → held.stream.closing ≡ false
    → IsSendingOn held how
    → IsSentByRules (sending_of how (record { stream = number; ppid = content_ppid content; payload = payload_of content }))
    (record { message = record { name = name; content = content }; after = record layer { streams = entry_put number (counts_sent bytes held) layer.streams } })
sent_by_rules number bytes name held content how layer on is_held is_open sending =
    let now : entry_numbered number (entry_put number (counts_sent bytes held) layer.streams) ≡ Some (counts_sent bytes held) = put_here number (counts_sent bytes held) layer.streams in
    record { on = on; opened = ap closing_of now ∙ is_open; delivery = held.delivery; rules = ap delivery_of now; sent_as = goes_by_rules held how sending }

-- an open channel isn't closing
pub open_unless_closing : (layer : LayerView) (name number : ℕ) (held : HeldStream) → open_stream layer name ≡ Some (number, held) → held.stream.closing ≡ false
open_unless_closing layer name number held is = of_stream (stream_of_name layer name) is
  where
    of_closing : (k : ℕ) (found : HeldStream) (closing : Bool) → found.stream.closing ≡ closing → stream_unless_closing closing k found ≡ Some (number, held) → held.stream.closing ≡ false
    of_closing k found true at is = absurd cc
    of_closing k found false at is = let both : (k, found) ≡ (number, held) = cc in ap (λ (f : ℕ × HeldStream). f.1.stream.closing) (sym both) ∙ at

    of_held : (k : ℕ) (found : Option HeldStream) → open_held k found ≡ Some (number, held) → held.stream.closing ≡ false
    of_held k None is = absurd cc
    of_held k (Some found) is = of_closing k found found.stream.closing refl is

    of_stream : (stream : Option ℕ) → open_on stream layer ≡ Some (number, held) → held.stream.closing ≡ false
    of_stream None is = absurd cc
    of_stream (Some k) is = of_held k (held_stream_numbered layer k) is
