-- What notices tell of the peer.
use Rattle.std.proofs.Common.{ℕ, ◌≡◌, List, [], ◌++◌, sym, ap, ◌∙◌, append_assoc}
use Rattle.std.proofs.lemmas.List.{append-nil}
use Rattle.dcsctp_channel_calls.specs.View.{ChannelNotice, ChannelsView}
use Rattle.dcsctp_channel_calls.specs.api.spec.endpoint.Event.{packets_of_events}
use Rattle.dcsctp_channel_runs.specs.Acts.{OpenedChannel, NamedContent, packets_given, channels_reported, messages_reported}

-- What notices tell of the peer, where these come to be before and after; and that no packet is among them.
pub record Tells (taken : List ChannelNotice) (channels : List OpenedChannel) (contents : List NamedContent) (before after : List ChannelNotice) : Type 0 where
  pub incoming : channels_reported (taken ++ after) ≡ channels_reported before ++ channels
  pub messages : messages_reported (taken ++ after) ≡ messages_reported before ++ contents
  pub plain : packets_given before ≡ [] → packets_given after ≡ []

pub tells_nothing : (notices : List ChannelNotice) → Tells [] [] [] notices notices
tells_nothing notices =
    record { incoming = sym (append-nil (channels_reported notices)); messages = sym (append-nil (messages_reported notices)); plain = λ none. none }

pub tells_then : (taken : List ChannelNotice) (os ps : List OpenedChannel) (cs ds : List NamedContent) (a b c : List ChannelNotice) → Tells [] os cs a b → Tells taken ps ds b c
    → Tells taken (os ++ ps) (cs ++ ds) a c
tells_then taken os ps cs ds a b c first second =
    record {
      incoming = second.incoming ∙ ap (λ (l : List OpenedChannel). l ++ ps) first.incoming ∙ append_assoc (channels_reported a) os ps;
      messages = second.messages ∙ ap (λ (l : List NamedContent). l ++ ds) first.messages ∙ append_assoc (messages_reported a) cs ds;
      plain = λ none. second.plain (first.plain none);
    }

-- what the socket has emitted that no poll has given
abbrev pub packets_left : ChannelsView → List (List ℕ)
packets_left view = view.layer.packets ++ packets_of_events view.below.events
