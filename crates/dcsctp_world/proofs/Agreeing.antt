-- What a world shows is what a run shows: so it keeps its promises.
use Rattle.std.proofs.Common.{◌≡◌, ℕ, suc, List, [], ◌∷◌, map, reverse, refl, sym, ap, subst, ◌∙◌}
use Rattle.std.specs.List.{AllByRecursion}
use Rattle.std.proofs.lemmas.List.{reverse-reverse}
use Rattle.dcsctp_core.specs.types.declared.association.Pair.{Pair}
use Rattle.dcsctp_core.specs.types.declared.options.Options.{Options}
use Rattle.dcsctp_core.specs.types.declared.schedule.Side.{Side}
use Rattle.dcsctp_core.specs.types.declared.schedule.Side.TheVariants as sides
use Rattle.dcsctp_core.specs.spec.endpoint.Event.{Event, event_map, sent, connected, closed, connection_restarted, aborted, error, buffered_amount_low, total_buffered_amount_low, streams_reset_failed, streams_reset_performed, incoming_stream_reset, lifecycle_message_fully_sent, lifecycle_message_maybe_expired, lifecycle_message_expired, lifecycle_message_delivered, lifecycle_end}
use Rattle.dcsctp_core.specs.spec.Packet.{Emission, emission_bytes}
use Rattle.dcsctp_core.specs.types.Settings.{ports_of}
use Rattle.dcsctp_core.specs.spec.endpoint.Endpoint.{Endpoint}
use Rattle.dcsctp_core.specs.spec.endpoint.CallTurns.{Transition, events_of}
use Rattle.dcsctp_spec_runs.specs.Sockets.{PerformedAct, Both, of_side, turns_after, endpoint_after, acts_of}
use Rattle.dcsctp_theorem_sockets.specs.Deadlines.{RunsT1}
use Rattle.dcsctp_theorem_transfer.specs.Deadlines.{AsksInTime}
use Rattle.dcsctp_theorem_transfer.specs.Delaying.{AcknowledgesInTime}
use Rattle.dcsctp_theorem_transfer.specs.Laws.{TransferLaws}
use Rattle.dcsctp_theorem_transfer.specs.Owing.{OwesInTime}
use Rattle.dcsctp_theorem_transfer.specs.Packing.{FitsPackets}
use Rattle.dcsctp_theorem_transfer.specs.Retransmitting.{RunsT3}
use Rattle.dcsctp_theorem_transfer.specs.Windows.{HoldsPacket}
use Rattle.dcsctp_theorem_sockets.specs.Handshake.{ConnectThroughout, handshake_acts, connections_of_events, IsConnected, AreConnected, FittingSocketsConnect}
use Rattle.dcsctp_theorem_sockets.specs.Laws.{SocketLaws}
use Rattle.dcsctp_theorem_sockets.specs.OneSocket.{IsWithinLimit}
use Rattle.dcsctp_theorem_sockets.specs.Telling.{HasRecordedAssociation}
use Rattle.dcsctp_theorem_sockets.specs.CookieLaws.{CookieLaws}
use Rattle.dcsctp_theorem_progress.specs.Laws.{ProgressLaws}
use Rattle.dcsctp_delivery_sockets.specs.sockets.ShownDelivery.{UsersReadWhatWasSent}
use Rattle.dcsctp_delivery_recovery.specs.Flights.{HasSoundFlight}
use Rattle.dcsctp_delivery_recovery.specs.Laws.{RecoveryLaws}
use Rattle.dcsctp_core.specs.types.Schedule.{ActContent}
use Rattle.dcsctp_world.specs.Shown.{ShownSide, WorldView, options_of}
use Rattle.dcsctp_world.specs.Run.{SideRuns, IsRun, GoesWell}
use Rattle.dcsctp_world.specs.Handshake.{ShowsConnected, BothConnected, ShownHandshakeConnects}
use Rattle.dcsctp_world.specs.Promises.{KeepsPromises, Promises}
use Rattle.dcsctp_world.specs.Recording.{Recording}
use Rattle.dcsctp_world.proofs.Honest.{honest_run}
use Rattle.dcsctp_world.proofs.Recovering.{losses_shown}

-- ---- the handshake

pub connections_shown : (f : Emission → List ℕ) (events : List (Event Emission)) → connections_of_events (map (event_map f) events) ≡ connections_of_events events
connections_shown f [] = refl
connections_shown f (sent packet ∷ events) = connections_shown f events
connections_shown f (connected ∷ events) = ap suc (connections_shown f events)
connections_shown f (closed ∷ events) = connections_shown f events
connections_shown f (connection_restarted ∷ events) = connections_shown f events
connections_shown f (aborted kind text ∷ events) = connections_shown f events
connections_shown f (error kind text ∷ events) = connections_shown f events
connections_shown f (buffered_amount_low stream ∷ events) = connections_shown f events
connections_shown f (total_buffered_amount_low ∷ events) = connections_shown f events
connections_shown f (streams_reset_failed streams ∷ events) = connections_shown f events
connections_shown f (streams_reset_performed streams ∷ events) = connections_shown f events
connections_shown f (incoming_stream_reset streams ∷ events) = connections_shown f events
connections_shown f (lifecycle_message_fully_sent id ∷ events) = connections_shown f events
connections_shown f (lifecycle_message_maybe_expired id ∷ events) = connections_shown f events
connections_shown f (lifecycle_message_expired id ∷ events) = connections_shown f events
connections_shown f (lifecycle_message_delivered id ∷ events) = connections_shown f events
connections_shown f (lifecycle_end id ∷ events) = connections_shown f events

shows_connected : {R : Type 0} (mine theirs : Options) (turns : List Transition) (side : ShownSide R) (my peer : Pair) → SideRuns mine turns side → IsConnected mine theirs turns my peer
    → ShowsConnected mine theirs side my peer
shows_connected mine theirs turns side my peer h is =
    record {
      core = ap (λ (e : Endpoint). e.core) h.endpoint ∙ is.core;
      once = ap (λ (es : List (Event (List ℕ))). connections_of_events es) h.events ∙ connections_shown (emission_bytes (ports_of mine)) (events_of turns) ∙ is.once;
    }

both_connected : {R : Type 0} (options : Both Options) (world : WorldView R) (h : IsRun options world) → AreConnected options (turns_after h.steps) → BothConnected options world
both_connected options world h is =
    record {
      a_pair = is.a_pair;
      b_pair = is.b_pair;
      a = shows_connected options.a options.b (turns_after h.steps).a world.sides.a is.a_pair is.b_pair (h.sides sides.A) is.a;
      b = shows_connected options.b options.a (turns_after h.steps).b world.sides.b is.b_pair is.a_pair (h.sides sides.B) is.b;
    }

-- at the end of the run
at_end : (options : Both Options) (side : Side) (run : List PerformedAct) → acts_of run ≡ reverse (handshake_acts side) → ConnectThroughout options side run → AreConnected options (turns_after run)
at_end options side [] schedule h = absurd (cc)
at_end options side (worked ∷ earlier) schedule h = h.0 schedule

handshake_connects : {R : Type 0} → FittingSocketsConnect → (options : Both Options) (world : WorldView R) → IsRun options world → ShownHandshakeConnects options world
handshake_connects law options world run side acts_are fit =
    let are : acts_of run.steps ≡ reverse (handshake_acts side) =
    sym (reverse-reverse (acts_of run.steps)) ∙ ap (λ (l : List ActContent). reverse l) (sym run.acts ∙ acts_are) in
    both_connected options world run (at_end options side run.steps are (law options side run.steps run.usable fit run.run))

-- ---- what holds of each socket, and of both

keeps_promises : {R : Type 0} → SocketLaws → TransferLaws → (options : Both Options) (world : WorldView R) (run : IsRun options world) (side : Side)
    → KeepsPromises (of_side side options) (of_side side (turns_after run.steps)) (of_side side world.sides)
keeps_promises law transfers options world run side =
    let turns : List Transition = of_side side (turns_after run.steps) in
    let t1 : RunsT1 (endpoint_after (of_side side options) turns) = law.t1 options run.steps run.usable run.run side in
    let t3 : RunsT3 (endpoint_after (of_side side options) turns).queues.transfer = transfers.t3 options run.steps run.run side in
    let acknowledges : AcknowledgesInTime (of_side side options) turns = transfers.acknowledgements options run.steps run.run side in
    record {
      numbers = law.numbers options run.steps run.usable run.run side;
      told = law.told options run.steps run.usable run.run side;
      held = subst (HasRecordedAssociation (of_side side (turns_after run.steps))) (sym (run.sides side).endpoint) (law.held options run.steps run.usable run.run side);
      anew = law.anew options run.steps run.usable run.run side;
      answers = law.answers options run.steps run.run side;
      ends = law.ends options run.steps run.run side;
      t1 = subst RunsT1 (sym (run.sides side).endpoint) t1;
      t3 = subst (λ (e : Endpoint). RunsT3 e.queues.transfer) (sym (run.sides side).endpoint) t3;
      acknowledges = acknowledges;
      owes = subst (OwesInTime (of_side side options)) (sym (run.sides side).endpoint) (transfers.owing options run.steps run.run side);
      asks = subst AsksInTime (sym (run.sides side).endpoint) (transfers.timers (endpoint_after (of_side side options) turns) t1.runs t3 acknowledges.delays);
      sizes = subst (AllByRecursion (IsWithinLimit (of_side side options))) (sym (run.sides side).packets) (law.sizes options run.steps run.run side (run.usable side).valid);
      bursts = law.bursts options run.steps run.run side;
    }

pub world_keeps : {R : Type 0} → SocketLaws → CookieLaws → UsersReadWhatWasSent → TransferLaws → RecoveryLaws → ProgressLaws → (world : WorldView (Recording R)) → GoesWell world → Promises world
world_keeps law cookies delivery transfers recovery progress world well =
    let options : Both Options = options_of world in
    let run : IsRun options world = well.is_run in
    record {
      run = run;
      whole = well.whole;
      honest = honest_run world.acts (acts_of run.steps) run.acts;
      agree = law.agree options run.steps run.usable run.run;
      given = cookies.given options run.steps run.usable run.run;
      ages = cookies.ages options run.steps run.usable run.run;
      delivered = delivery options run.steps run.usable run.in_memory run.run;
      connect = λ fit side. law.connect options side run.steps run.usable fit run.run;
      handshake = handshake_connects law.connect options world run;
      connects = λ those shown fit. progress.throughout those shown.steps shown.usable fit shown.run;
      windows = λ honest side allow.
          subst (λ (e : Endpoint). HoldsPacket (of_side side options) e.queues.transfer) (sym (run.sides side).endpoint)
          (transfers.windows options run.steps run.run honest side (run.usable side).valid allow);
      packing = λ honest side.
          subst (λ (e : Endpoint). FitsPackets (of_side side options) e.queues.transfer) (sym (run.sides side).endpoint)
          (transfers.packing options run.steps run.run honest side (run.usable side).valid);
      flights = λ honest side.
          subst (λ (e : Endpoint). HasSoundFlight e.queues.transfer) (sym (run.sides side).endpoint)
          (recovery.flights options run.steps run.usable run.in_memory run.run honest side);
      losses = λ honest fresh allows follow side.
          losses_shown recovery.losses options world run
          (record { usable = run.usable; in_memory = run.in_memory; is_run = run.run; honest = honest; fresh = fresh; allows = allows }) follow side;
      quiet = law.quiet options run.steps run.run;
      each = keeps_promises law transfers options world run;
    }
