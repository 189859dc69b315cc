use Rattle.std.proofs.Common.{ℕ, List, [], ◌∷◌, ◌++◌, map, string_bytes, refl, sym, ap, subst, ◌∙◌}
use Rattle.std.proofs.lemmas.List.{append-nil, map-append}
use Rattle.dcsctp_transfer.specs.types.Settings.{ports_of}
use Rattle.dcsctp_transfer.specs.spec.endpoint.Event.{Event}
use Rattle.dcsctp_transfer.specs.spec.endpoint.Endpoint.{stopped_timers}
use Rattle.dcsctp_transfer.specs.spec.endpoint.EndOutcomes.{closed_after}
use Rattle.dcsctp_transfer.specs.spec.endpoint.Timers.{TimerModel}
use Rattle.dcsctp_transfer.specs.api.Events.{event_content}
use Rattle.dcsctp_transfer.specs.api.declared.events.SocketEvent.{SocketEvent}
use Rattle.dcsctp_transfer.specs.types.queues.Messages.{MessageContent}
use Rattle.dcsctp_core.specs.View.{View, Moves, core_of, view_of, endpoint_of}
use Rattle.dcsctp_core.specs.Handling.{end_event, close_turn}
use Rattle.dcsctp_core.proofs.Composing.{moves_as}
use Rattle.dcsctp_core.proofs.EndLemmas.{close_where_open}
use Rattle.dcsctp_core.proofs.context.Context.internal_close.Goals as goal

pub returns : goal.returns
returns g c =
    let old = c.args.self.now in
    let e = endpoint_of old in
    subst (λ (v : View g.row.R.Denot). Moves g.R.Rng.stream (view_of old) (close_turn (end_event c.args.error (string_bytes c.args.message)) (view_of old)) v) (sym c.drop_association.ensures.view)
    (moves_as g.R.Rng.stream (view_of old) _ _ _ (close_where_open e (core_of old.state) (end_event c.args.error (string_bytes c.args.message)) (sym c.is_closed.ensures ∙ c.if-is_closed.false))
    (record {
      endpoint =
          ap (λ (l : List MessageContent). record (closed_after e) { timers = record stopped_timers { heartbeat_interval = c.stop.new.self.running; heartbeat_timeout = c.stop-2.new.self.running }; left = l }) c.drop_association.ensures.left
          ∙ ap (λ (t : TimerModel). record (closed_after e) { timers = record stopped_timers { heartbeat_interval = t.running; heartbeat_timeout = c.stop-2.new.self.running } }) c.stop.ensures
          ∙ ap (λ (t : TimerModel). record (closed_after e) { timers = record stopped_timers { heartbeat_timeout = t.running } }) c.stop-2.ensures;
      events =
          ap (λ (es : List SocketEvent). map event_content es) c.in_ok-add.ensures.ok
          ∙ map-append event_content old.events (c.end_event.result ∷ [])
          ∙ ap (λ (event : Event (List ℕ)). map event_content old.events ++ event ∷ []) (c.end_event.ensures (ports_of old.options));
      words = sym (append-nil old.words.items);
      pairs = sym (append-nil old.pairs.items);
      drawn = refl;
    }))
