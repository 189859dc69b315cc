-- What an end does between two moments: acts of its socket, what they emit, what is sent and read, and what its user is told.
use Rattle.std.proofs.Common.{◌≡◌, ℕ, true, List, [], ◌++◌, refl, sym, ap, subst, ◌∙◌, append_assoc}
use Rattle.std.proofs.lemmas.List.{append-nil}
use Rattle.dcsctp_spec_runs.specs.Laws.{SocketsKeepOptions}
use Rattle.dcsctp_spec_runs.specs.Sockets.{PerformedAct}
use Rattle.dcsctp_delivery_sockets.specs.sockets.UserMessages.{read_of}
use Rattle.dcsctp_channel_calls.specs.api.Calls.{UserView}
use Rattle.dcsctp_channel_calls.specs.api.types.declared.schedule.Side.{Side}
use Rattle.dcsctp_channel_calls.specs.api.types.Settings.{Ports, ports_of}
use Rattle.dcsctp_channel_calls.specs.api.types.queues.Messages.{MessageContent}
use Rattle.dcsctp_channel_calls.specs.api.spec.endpoint.CallTurns.{Transition, after_all}
use Rattle.dcsctp_channel_calls.specs.api.spec.endpoint.Endpoint.{Endpoint}
use Rattle.dcsctp_channel_calls.specs.api.spec.endpoint.Event.{packets_of_events}
use Rattle.dcsctp_channel_calls.specs.View.{WaitingChannel, ChannelNotice, LayerView, ChannelsView}
use Rattle.dcsctp_channel_laws.specs.Lives.{IsOrderly}
use Rattle.dcsctp_channel_runs.specs.Acts.{OpenedChannel, NamedContent, SaidContent, packets_given}
use Rattle.dcsctp_channel_runs.proofs.Deeds.{Deed, deeds_of_turns, deeds-append}
use Rattle.dcsctp_channel_runs.proofs.SentBy.{Sent, none_sent, sent_then}
use Rattle.dcsctp_channel_runs.proofs.Heard.{Heard, none_heard, heard_then, IsPassed, passed_before, passed_behind}
use Rattle.dcsctp_channel_runs.proofs.Said.{Wait, Rise, rise_then, same_le, all_both}
use Rattle.dcsctp_channel_runs.proofs.Streams.{Keeping, keep_plain, keeping_then, same_keeps, IsToCome}
use Rattle.dcsctp_channel_runs.proofs.Paths.{IsPath, turns_on, turns_on-append, path_then, packets_by, packets_by-append, read-append, after-append, ports_stay}
use Rattle.dcsctp_channel_runs.proofs.Notices.{Tells, tells_nothing, tells_then, packets_left}
use Rattle.dcsctp_channel_runs.proofs.Coming.{AreToCome, come_before, come_else}

-- nothing is read
pub hears_nothing : {pairs : List (ℕ × ℕ)} (noted : List (ℕ × ℕ)) (Passed : Endpoint → Type 0) (old new : LayerView) → Keeping pairs old new → IsOrderly old → Heard noted Passed new old [] [] []
hears_nothing noted Passed old new keeping orderly = none_heard old (keep_plain (keeping orderly))

module _ (keep : SocketsKeepOptions) (side : Side) (packets : List (List ℕ)) (all : List OpenedChannel) where
  -- Acts of the socket lead from the one view to the other, and emit these packets. The messages that they send are ACKs, OPENs of
  -- channels that waited, and what the user sends.
  pub record Steps (low : ℕ) (says : List SaidContent) (old : ChannelsView) (taken : List ChannelNotice) (new : ChannelsView) : Type 0 where
    pub path : List PerformedAct
    pub turns : List Transition
    pub turns_are : turns_on path ≡ turns
    pub is_path : IsPath side packets old.below.endpoint path
    pub endpoint : new.below.endpoint ≡ after_all old.below.endpoint turns
    pub emits : packets_given taken ++ packets_left new ≡ packets_left old ++ packets_by (ports_of old.below.endpoint.options) turns
    pub pairs : List (ℕ × ℕ)
    pub keeping : Keeping pairs old.layer new.layer
    pub opens : List OpenedChannel
    pub sent : IsOrderly old.layer → Sent pairs new.layer old.layer (deeds_of_turns old.below.endpoint turns) opens says
    pub high : ℕ
    pub rises : Rise all low opens high

  -- Messages that were read before, and those that these acts read, bring what the user is told.
  pub record Moves (pending : List MessageContent) (low : ℕ) (says : List SaidContent) (old : ChannelsView) (taken : List ChannelNotice) (new : ChannelsView) : Type 0 where
    pub steps : Steps low says old taken new
    pub waits : Wait all steps.high new.layer.waiting new.layer.named
    pub channels : List OpenedChannel
    pub contents : List NamedContent
    pub heard : IsOrderly old.layer → Heard steps.pairs (IsPassed old.below.endpoint steps.turns) new.layer old.layer (pending ++ read_of old.below.endpoint steps.turns) channels contents
    pub come : AreToCome old.layer channels
    pub tells : Tells taken channels contents old.layer.notices new.layer.notices

  -- ---- one after another

  pub steps_then : (low : ℕ) (a b : ChannelsView) (taken : List ChannelNotice) (c : ChannelsView) → (first : Steps low [] a [] b) → Steps first.high [] b taken c → Steps low [] a taken c
  steps_then low a b taken c first second =
      let e : Endpoint = a.below.endpoint in
      let ports : Ports = ports_of e.options in
      let same : ports_of b.below.endpoint.options ≡ ports =
      ap (λ (f : Endpoint). ports_of f.options) (first.endpoint ∙ ap (after_all e) (sym first.turns_are)) ∙ ports_stay keep side packets e first.path first.is_path in
      record {
        path = first.path ++ second.path;
        turns = first.turns ++ second.turns;
        turns_are = turns_on-append first.path second.path ∙ ap (λ (l : List Transition). l ++ turns_on second.path) first.turns_are ∙ ap (λ (l : List Transition). first.turns ++ l) second.turns_are;
        is_path = path_then side packets e first.path second.path first.is_path
            (subst (λ (f : Endpoint). IsPath side packets f second.path) (first.endpoint ∙ ap (after_all e) (sym first.turns_are)) second.is_path);
        endpoint = second.endpoint ∙ ap (λ (f : Endpoint). after_all f second.turns) first.endpoint ∙ sym (after-append e first.turns second.turns);
        emits = second.emits ∙ ap (λ (p : Ports). packets_left b ++ packets_by p second.turns) same
            ∙ ap (λ (l : List (List ℕ)). l ++ packets_by ports second.turns) first.emits
            ∙ append_assoc (packets_left a) (packets_by ports first.turns) (packets_by ports second.turns)
            ∙ ap (λ (l : List (List ℕ)). packets_left a ++ l) (sym (packets_by-append ports first.turns second.turns));
        pairs = first.pairs ++ second.pairs;
        keeping = keeping_then first.pairs second.pairs a.layer b.layer c.layer first.keeping second.keeping;
        opens = first.opens ++ second.opens;
        sent = λ orderly.
            subst (λ (l : List Deed). Sent (first.pairs ++ second.pairs) c.layer a.layer l (first.opens ++ second.opens) [])
            (ap (λ (f : Endpoint). deeds_of_turns e first.turns ++ deeds_of_turns f second.turns) first.endpoint ∙ sym (deeds-append e first.turns second.turns))
            (sent_then first.pairs second.pairs a.layer b.layer c.layer (deeds_of_turns e first.turns) (deeds_of_turns b.below.endpoint second.turns) first.opens second.opens [] [] (λ name number has. tt)
            (first.sent orderly) (second.sent (first.keeping orderly).orderly));
        high = second.high;
        rises = rise_then all low first.high second.high first.opens second.opens first.rises second.rises;
      }

  read_then : (low : ℕ) (a b : ChannelsView) (second : List Transition) → (first : Steps low [] a [] b) → read_of a.below.endpoint first.turns ++ read_of b.below.endpoint second ≡ read_of a.below.endpoint (first.turns ++ second)
  read_then low a b second first =
      ap (λ (f : Endpoint). read_of a.below.endpoint first.turns ++ read_of f second) first.endpoint ∙ sym (read-append a.below.endpoint first.turns second)

  pub moves_then : (pending : List MessageContent) (low : ℕ) (a b : ChannelsView) (taken : List ChannelNotice) (c : ChannelsView) → (first : Moves pending low [] a [] b)
      → Moves [] first.steps.high [] b taken c → Moves pending low [] a taken c
  unfolding steps_then
  moves_then pending low a b taken c first second =
      let read : List MessageContent = read_of a.below.endpoint first.steps.turns in
      let more : List MessageContent = read_of b.below.endpoint second.steps.turns in
      record {
        steps = steps_then low a b taken c first.steps second.steps;
        waits = second.waits;
        channels = first.channels ++ second.channels;
        contents = first.contents ++ second.contents;
        heard = λ a_orderly.
            let keeps = first.steps.keeping a_orderly in
            subst (λ (l : List MessageContent). Heard (first.steps.pairs ++ second.steps.pairs) (IsPassed a.below.endpoint (first.steps.turns ++ second.steps.turns)) c.layer a.layer l (first.channels ++ second.channels) (first.contents ++ second.contents))
            (append_assoc pending read more ∙ ap (λ (l : List MessageContent). pending ++ l) (read_then low a b second.steps.turns first.steps))
            (heard_then first.steps.pairs second.steps.pairs (IsPassed a.below.endpoint first.steps.turns) (IsPassed b.below.endpoint second.steps.turns) (IsPassed a.below.endpoint (first.steps.turns ++ second.steps.turns)) a.layer b.layer c.layer
            (pending ++ read) more first.channels second.channels first.contents second.contents
            (passed_before a.below.endpoint first.steps.turns second.steps.turns)
            (λ e. passed_behind a.below.endpoint b.below.endpoint first.steps.turns second.steps.turns e first.steps.endpoint)
            (λ name number has. come_else b.layer name number (keeps.after name number has) second.channels (second.come keeps.orderly)) (first.heard a_orderly) (second.heard keeps.orderly));
        come = λ a_orderly.
            let keeps = first.steps.keeping a_orderly in
            all_both (λ (channel : OpenedChannel). IsToCome a.layer channel.name) first.channels second.channels (first.come a_orderly)
            (come_before first.steps.pairs a.layer b.layer keeps second.channels (second.come keeps.orderly));
        tells = tells_then taken first.channels second.channels first.contents second.contents a.layer.notices b.layer.notices c.layer.notices first.tells second.tells;
      }

  -- These acts read some messages, and what comes then is done with them.
  pub reads_then : (low : ℕ) (a b : ChannelsView) (read : List MessageContent) (c : ChannelsView) → (first : Steps low [] a [] b) → read_of a.below.endpoint first.turns ≡ read → b.layer.notices ≡ a.layer.notices
      → Moves read first.high [] b [] c → Moves [] low [] a [] c
  unfolding steps_then
  reads_then low a b read c first is same second =
      record {
        steps = steps_then low a b [] c first second.steps;
        waits = second.waits;
        channels = second.channels;
        contents = second.contents;
        heard = λ a_orderly.
            let keeps = first.keeping a_orderly in
            subst (λ (l : List MessageContent). Heard (first.pairs ++ second.steps.pairs) (IsPassed a.below.endpoint (first.turns ++ second.steps.turns)) c.layer a.layer l second.channels second.contents)
            (ap (λ (l : List MessageContent). l ++ read_of b.below.endpoint second.steps.turns) (sym is) ∙ read_then low a b second.steps.turns first)
            (heard_then first.pairs second.steps.pairs (IsPassed a.below.endpoint first.turns) (IsPassed b.below.endpoint second.steps.turns) (IsPassed a.below.endpoint (first.turns ++ second.steps.turns)) a.layer b.layer c.layer
            [] (read ++ read_of b.below.endpoint second.steps.turns) [] second.channels [] second.contents
            (passed_before a.below.endpoint first.turns second.steps.turns)
            (λ e. passed_behind a.below.endpoint b.below.endpoint first.turns second.steps.turns e first.endpoint)
            (λ name number has. come_else b.layer name number (keeps.after name number has) second.channels (second.come keeps.orderly)) (none_heard a.layer (keep_plain keeps)) (second.heard keeps.orderly));
        come = λ a_orderly. let keeps = first.keeping a_orderly in come_before first.pairs a.layer b.layer keeps second.channels (second.come keeps.orderly);
        tells = subst (λ (l : List ChannelNotice). Tells [] second.channels second.contents l c.layer.notices) same second.tells;
      }

  -- ---- the socket stays

  pub unmoved : (pending : List MessageContent) (low : ℕ) (old : ChannelsView) (taken : List ChannelNotice) (new : ChannelsView) (channels : List OpenedChannel) (contents : List NamedContent)
      (pairs : List (ℕ × ℕ)) → Keeping pairs old.layer new.layer → AreToCome old.layer channels → new.below.endpoint ≡ old.below.endpoint → packets_given taken ++ packets_left new ≡ packets_left old → Wait all low new.layer.waiting new.layer.named
      → (IsOrderly old.layer → Heard pairs (IsPassed old.below.endpoint []) new.layer old.layer pending channels contents) → Tells taken channels contents old.layer.notices new.layer.notices → Moves pending low [] old taken new
  unmoved pending low old taken new channels contents pairs keeping come endpoint left waits heard tells =
      record {
        steps = record {
          path = [];
          turns = [];
          turns_are = refl;
          is_path = tt;
          endpoint = endpoint;
          emits = left ∙ sym (append-nil (packets_left old));
          pairs = pairs;
          keeping = keeping;
          opens = [];
          sent = λ orderly. none_sent old.layer (keep_plain (keeping orderly));
          high = low;
          rises = same_le low;
        };
        waits = waits;
        channels = channels;
        contents = contents;
        heard = λ orderly. subst (λ (l : List MessageContent). Heard pairs (IsPassed old.below.endpoint []) new.layer old.layer l channels contents) (sym (append-nil pending)) (heard orderly);
        come = come;
        tells = tells;
      }

  -- What a layer keeps where nothing is told of the peer.
  pub record Silently (old new : LayerView) : Type 0 where
    pub packets_stay : new.packets ≡ old.packets
    pub waiting : new.waiting ≡ old.waiting
    pub named : new.named ≡ old.named
    pub keeping : Keeping [] old new
    pub tells : Tells [] [] [] old.notices new.notices

  pub silently_same : (old new : LayerView) → new.packets ≡ old.packets → new.streams ≡ old.streams → new.names ≡ old.names → new.waiting ≡ old.waiting → new.named ≡ old.named → new.notices ≡ old.notices
      → (old.over ≡ true → new.over ≡ true) → Silently old new
  silently_same old new left streams names waiting named same over =
      record {
        packets_stay = left;
        waiting = waiting;
        named = named;
        keeping = same_keeps old new streams names waiting named over;
        tells = subst (λ (l : List ChannelNotice). Tells [] [] [] old.notices l) (sym same) (tells_nothing old.notices);
      }

  pub silently_then : (a b c : LayerView) → Silently a b → Silently b c → Silently a c
  silently_then a b c first second =
      record {
        packets_stay = second.packets_stay ∙ first.packets_stay;
        waiting = second.waiting ∙ first.waiting;
        named = second.named ∙ first.named;
        keeping = keeping_then [] [] a b c first.keeping second.keeping;
        tells = tells_then [] [] [] [] [] a.notices b.notices c.notices first.tells second.tells;
      }

  -- the layer alone changes, and no packet is taken
  pub layer_moves : (low : ℕ) (old new : ChannelsView) → Keeping [] old.layer new.layer → new.below ≡ old.below → new.layer.packets ≡ old.layer.packets → Tells [] [] [] old.layer.notices new.layer.notices
      → Wait all low new.layer.waiting new.layer.named → Moves [] low [] old [] new
  layer_moves low old new keeping below left tells waits =
      unmoved [] low old [] new [] [] [] keeping (λ orderly. tt) (ap (λ (u : UserView). u.endpoint) below)
      (ap (λ (u : UserView). new.layer.packets ++ packets_of_events u.events) below ∙ ap (λ (l : List (List ℕ)). l ++ packets_of_events old.below.events) left)
      waits (hears_nothing [] (IsPassed old.below.endpoint []) old.layer new.layer keeping) tells

  pub silent_moves : (low : ℕ) (old new : ChannelsView) → new.below ≡ old.below → Silently old.layer new.layer → Wait all low old.layer.waiting old.layer.named → Moves [] low [] old [] new
  silent_moves low old new below silently waits =
      layer_moves low old new silently.keeping below silently.packets_stay silently.tells
      (subst (λ (l : List WaitingChannel). Wait all low l new.layer.named) (sym silently.waiting) (subst (λ (n : ℕ). Wait all low old.layer.waiting n) (sym silently.named) waits))

  pub stays : (low : ℕ) (old new : ChannelsView) → new ≡ old → Wait all low old.layer.waiting old.layer.named → Moves [] low [] old [] new
  stays low old new is waits =
      subst (λ (v : ChannelsView). Moves [] low [] old [] v) (sym is) (layer_moves low old old (same_keeps old.layer old.layer refl refl refl refl (λ was. was)) refl refl (tells_nothing old.layer.notices) waits)
