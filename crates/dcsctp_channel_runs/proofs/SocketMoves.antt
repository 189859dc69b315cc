-- One step of the socket, as a move of its end.
use Rattle.std.proofs.Common.{◌≡◌, ℕ, List, [], ◌∷◌, ◌++◌, map, sym, ap, subst, ◌∙◌, append_assoc}
use Rattle.std.proofs.lemmas.List.{append-nil}
use Rattle.dcsctp_spec_runs.specs.Laws.{SocketsKeepOptions}
use Rattle.dcsctp_spec_runs.specs.Sockets.{PerformedAct}
use Rattle.dcsctp_delivery_sockets.specs.sockets.UserMessages.{read_of}
use Rattle.dcsctp_channel_calls.specs.api.Calls.{UserView, user_event}
use Rattle.dcsctp_channel_calls.specs.api.types.declared.schedule.Side.{Side}
use Rattle.dcsctp_channel_calls.specs.api.types.Settings.{Ports, ports_of}
use Rattle.dcsctp_channel_calls.specs.api.types.queues.Messages.{MessageContent}
use Rattle.dcsctp_channel_calls.specs.api.spec.endpoint.CallTurns.{after_all, events_of}
use Rattle.dcsctp_channel_calls.specs.api.spec.endpoint.Event.{Event, packets_of_events}
use Rattle.dcsctp_channel_calls.specs.View.{ChannelsView}
use Rattle.dcsctp_channel_laws.specs.Lives.{IsOrderly}
use Rattle.dcsctp_channel_runs.specs.Acts.{OpenedChannel, SaidContent}
use Rattle.dcsctp_channel_runs.proofs.Deeds.{deeds_of_turns}
use Rattle.dcsctp_channel_runs.proofs.SentBy.{Sent}
use Rattle.dcsctp_channel_runs.proofs.Heard.{Heard, IsPassed}
use Rattle.dcsctp_channel_runs.proofs.Said.{Wait, Rise}
use Rattle.dcsctp_channel_runs.proofs.Streams.{Keeping}
use Rattle.dcsctp_channel_runs.proofs.Paths.{IsStepAt, packets_by}
use Rattle.dcsctp_theorem_sockets.proofs.Bursts.{packets_of_events-append}
use Rattle.dcsctp_channel_runs.proofs.Notices.{Tells}
use Rattle.dcsctp_channel_runs.proofs.Moves.{Steps, Moves, hears_nothing}

module _ (keep : SocketsKeepOptions) (side : Side) (packets : List (List ℕ)) (all : List OpenedChannel) where
  -- ---- one step of the socket

  -- what it makes of the socket below
  pub record StepsSocket (worked : PerformedAct) (old below : UserView) : Type 0 where
    pub step : IsStepAt side packets old.endpoint worked
    pub endpoint : below.endpoint ≡ after_all old.endpoint worked.turns
    pub events : below.events ≡ old.events ++ map (user_event (ports_of old.endpoint.options)) (events_of worked.turns)

  abbrev pub socket_steps : (low high : ℕ) (worked : PerformedAct) (opens : List OpenedChannel) (says : List SaidContent) (pairs : List (ℕ × ℕ)) (old new : ChannelsView)
      → StepsSocket worked old.below new.below → Keeping pairs old.layer new.layer → new.layer.packets ≡ old.layer.packets
      → (IsOrderly old.layer → Sent pairs new.layer old.layer (deeds_of_turns old.below.endpoint worked.turns) opens says) → Rise all low opens high
      → Steps keep side packets all low says old [] new
  socket_steps low high worked opens says pairs old new made keeping left sent rises =
      let ports : Ports = ports_of old.below.endpoint.options in
      let more : List (List ℕ) = packets_by ports worked.turns in
      record {
        path = worked ∷ [];
        turns = worked.turns;
        turns_are = append-nil worked.turns;
        is_path = (made.step, tt);
        endpoint = made.endpoint;
        emits = ap (λ (l : List (List ℕ)). l ++ packets_of_events new.below.events) left
            ∙ ap (λ (l : List (Event (List ℕ))). old.layer.packets ++ packets_of_events l) made.events
            ∙ ap (λ (l : List (List ℕ)). old.layer.packets ++ l) (packets_of_events-append old.below.events (map (user_event ports) (events_of worked.turns)))
            ∙ sym (append_assoc old.layer.packets (packets_of_events old.below.events) more);
        pairs = pairs;
        keeping = keeping;
        opens = opens;
        sent = sent;
        high = high;
        rises = rises;
      }

  -- It reads nothing.
  pub socket_moves : (low high : ℕ) (worked : PerformedAct) (opens : List OpenedChannel) (says : List SaidContent) (pairs : List (ℕ × ℕ)) (old new : ChannelsView)
      → StepsSocket worked old.below new.below → Keeping pairs old.layer new.layer → new.layer.packets ≡ old.layer.packets
      → (IsOrderly old.layer → Sent pairs new.layer old.layer (deeds_of_turns old.below.endpoint worked.turns) opens says) → Rise all low opens high
      → read_of old.below.endpoint worked.turns ≡ [] → Wait all high new.layer.waiting new.layer.named → Tells [] [] [] old.layer.notices new.layer.notices
      → Moves keep side packets all [] low says old [] new
  socket_moves low high worked opens says pairs old new made keeping left sent rises none waits tells =
      record {
        steps = socket_steps low high worked opens says pairs old new made keeping left sent rises;
        waits = waits;
        channels = [];
        contents = [];
        heard = λ orderly. subst (λ (l : List MessageContent). Heard pairs (IsPassed old.below.endpoint worked.turns) new.layer old.layer l [] []) (sym none) (hears_nothing pairs (IsPassed old.below.endpoint worked.turns) old.layer new.layer keeping orderly);
        come = λ orderly. tt;
        tells = tells;
      }
