-- A run of two ends with channels is a run of two sockets, and what the ends are told of each other is true.
use Rattle.std.proofs.Common.{◌≡◌, ℕ, List, [], ◌∷◌, ◌++◌, refl, sym, ap, subst, ◌∙◌, append_assoc, arith}
use Rattle.std.proofs.lemmas.List.{append-nil}
use Rattle.dcsctp_delivery_directions.specs.sending.Places.{HasEntry}
use Rattle.dcsctp_delivery_sockets.specs.sockets.Delivery.{AreInMemory}
use Rattle.dcsctp_delivery_sockets.specs.sockets.UserMessages.{read_of}
use Rattle.dcsctp_spec_runs.specs.Laws.{SocketsKeepOptions}
use Rattle.dcsctp_spec_runs.specs.Sockets.{Both, of_side, of_other, PerformedAct, SocketRun, turns_after, packets_shown, acts_of}
use Rattle.dcsctp_channel_calls.specs.api.types.declared.options.Options.{Options}
use Rattle.dcsctp_channel_calls.specs.api.types.declared.schedule.Side.{Side}
use Rattle.dcsctp_channel_calls.specs.api.types.declared.schedule.Side.TheVariants as sides
use Rattle.dcsctp_channel_calls.specs.api.types.Schedule.{AreHonest}
use Rattle.dcsctp_channel_calls.specs.api.types.Settings.{Ports, ports_of}
use Rattle.dcsctp_channel_calls.specs.api.types.queues.Messages.{MessageContent}
use Rattle.dcsctp_channel_calls.specs.api.spec.endpoint.CallTurns.{Transition, after_all}
use Rattle.dcsctp_channel_calls.specs.api.spec.endpoint.Endpoint.{Endpoint, fresh_endpoint}
use Rattle.dcsctp_channel_calls.specs.api.spec.endpoint.Event.{packets_of_events}
use Rattle.dcsctp_channel_calls.specs.View.{WaitingChannel, ChannelNotice, LayerView, ChannelsView}
use Rattle.dcsctp_channel_runs.specs.Acts.{EndAct, MadeAct, with_end, acts_with, acts_of_ends, FitsEndAct, AllInMemory, OpenedChannel, NamedContent, SaidContent, said_contents, said_with, said_at_ends, notices_of, notices_of_act, packets_given, channels_reported, messages_reported, channels_of, channels_of_act}
use Rattle.std.specs.List.{AllByRecursion}
use Rattle.dcsctp_channel_runs.specs.Runs.{MakesAct, views_after, packets_from_other, ChannelsRun, IsNewEnd, AreNewEnds, ShowsTurns}
use Rattle.dcsctp_channel_runs.proofs.Calls.{act_moves}
use Rattle.dcsctp_channel_laws.proofs.First.{begin_apart}
use Rattle.dcsctp_channel_runs.proofs.Streams.{KeepStreams, keep_then, same_keeps}
use Rattle.dcsctp_channel_runs.proofs.Moves.{Moves}
use Rattle.dcsctp_channel_runs.proofs.Notices.{packets_left}
use Rattle.dcsctp_channel_runs.proofs.Coming.{come_else}
use Rattle.dcsctp_channel_runs.proofs.Paths.{turns_on, run_with, runs_on, packets_by, packets_by-append, after-append, read-append}
use Rattle.dcsctp_channel_runs.proofs.Rows.{channels-append, messages-append, packets-append}
use Rattle.dcsctp_channel_runs.proofs.Heard.{Heard, none_heard, heard_then, IsPassed, passed_before, passed_behind}
use Rattle.dcsctp_channel_runs.proofs.Deeds.{Deed, deeds_of_turns, deeds-append}
use Rattle.dcsctp_channel_runs.proofs.SentBy.{Sent, none_sent, sent_then}
use Rattle.dcsctp_channel_runs.proofs.Said.{Wait, Rise, rise_then, rise_with, wait_with, entry_before, entry_behind}
use Rattle.dcsctp_channel_runs.proofs.InPlace.{said_after, after_move, IsInPlace, in_place_later, all-append, said_in_place}

-- ---- lists of acts

pub notices_more : (acts : List EndAct) (act : EndAct) → notices_of (acts ++ act ∷ []) ≡ notices_of acts ++ notices_of_act act
notices_more [] act = append-nil (notices_of_act act)
notices_more (first ∷ acts) act =
    ap (λ (l : List ChannelNotice). notices_of_act first ++ l) (notices_more acts act) ∙ sym (append_assoc (notices_of_act first) (notices_of acts) (notices_of_act act))

pub channels_more : (acts : List EndAct) (act : EndAct) → channels_of (acts ++ act ∷ []) ≡ channels_of acts ++ channels_of_act act
channels_more [] act = append-nil (channels_of_act act)
channels_more (first ∷ acts) act =
    ap (λ (l : List OpenedChannel). channels_of_act first ++ l) (channels_more acts act) ∙ sym (append_assoc (channels_of_act first) (channels_of acts) (channels_of_act act))

-- ---- one end

-- What an end is after these turns of its socket and these acts of its user.
pub record EndIs (options : Options) (turns : List Transition) (acts : List EndAct) (said : List SaidContent) (view : ChannelsView) : Type 0 where
  pub shows : ShowsTurns options turns acts view
  pub start : LayerView
  pub pairs : List (ℕ × ℕ)
  pub keeps : KeepStreams pairs start view.layer
  pub opens : List OpenedChannel
  pub sent : Sent pairs view.layer start (deeds_of_turns (fresh_endpoint options) turns) opens said
  pub in_place : AllByRecursion (IsInPlace pairs view.layer) said
  pub high : ℕ
  pub rises : Rise (channels_of acts) 0 opens high
  pub waits : Wait (channels_of acts) high view.layer.waiting view.layer.named
  pub heard : Heard pairs (IsPassed (fresh_endpoint options) turns) view.layer start (read_of (fresh_endpoint options) turns) (channels_reported (notices_of acts ++ view.layer.notices)) (messages_reported (notices_of acts ++ view.layer.notices))
  pub plain : packets_given view.layer.notices ≡ []

end_begins : (options : Options) (view : ChannelsView) → IsNewEnd options view → EndIs options [] [] [] view
end_begins options view new =
    record {
      shows = record {
        endpoint = new.endpoint;
        packets = ap (λ (l : List (List ℕ)). l ++ packets_of_events view.below.events) new.packets ∙ ap packets_of_events new.events;
      };
      start = view.layer;
      pairs = [];
      keeps = same_keeps view.layer view.layer refl refl refl refl (λ was. was) (begin_apart view.layer new.streams new.names new.waiting);
      opens = [];
      sent = none_sent view.layer (same_keeps view.layer view.layer refl refl refl refl (λ was. was) (begin_apart view.layer new.streams new.names new.waiting));
      in_place = tt;
      high = 0;
      rises = omega arith;
      waits = subst (λ (l : List WaitingChannel). Wait [] 0 l view.layer.named) (sym new.waiting) (omega arith);
      heard = subst (λ (l : List ChannelNotice). Heard [] (IsPassed (fresh_endpoint options) []) view.layer view.layer [] (channels_reported l) (messages_reported l)) (sym new.notices)
          (none_heard view.layer (same_keeps view.layer view.layer refl refl refl refl (λ was. was) (begin_apart view.layer new.streams new.names new.waiting)));
      plain = ap packets_given new.notices;
    }

-- notices that were given, then those that are given now, then those that wait
notices_then : (acts : List EndAct) (act : EndAct) (waiting : List ChannelNotice) → notices_of (acts ++ act ∷ []) ++ waiting ≡ notices_of acts ++ (notices_of_act act ++ waiting)
notices_then acts act waiting = ap (λ (l : List ChannelNotice). l ++ waiting) (notices_more acts act) ∙ append_assoc (notices_of acts) (notices_of_act act) waiting

module _ (keep : SocketsKeepOptions) (side : Side) (packets : List (List ℕ)) (options : Options) (turns : List Transition) (acts : List EndAct) (said_before : List SaidContent) (act : EndAct) (old new : ChannelsView) where
  -- what the user is told of the peer
  told_more : {A : Type 0} (said : List ChannelNotice → List A) → ((xs ys : List ChannelNotice) → said (xs ++ ys) ≡ said xs ++ said ys) → (more : List A)
      → said (notices_of_act act ++ new.layer.notices) ≡ said old.layer.notices ++ more
      → said (notices_of (acts ++ act ∷ []) ++ new.layer.notices) ≡ said (notices_of acts ++ old.layer.notices) ++ more
  told_more {A = A} said append more tells =
      ap said (notices_then acts act new.layer.notices) ∙ append (notices_of acts) (notices_of_act act ++ new.layer.notices)
      ∙ ap (λ (l : List A). said (notices_of acts) ++ l) tells ∙ sym (append_assoc (said (notices_of acts)) (said old.layer.notices) more)
      ∙ ap (λ (l : List A). l ++ more) (sym (append (notices_of acts) old.layer.notices))

  module _ (is : EndIs options turns acts said_before old) (same_ports : ports_of old.below.endpoint.options ≡ ports_of options)
      (moves : Moves keep side packets (channels_of acts ++ channels_of_act act) [] is.high (said_contents act new.layer) old (notices_of_act act) new) where
    end_shows : ShowsTurns options (turns ++ moves.steps.turns) (acts ++ act ∷ []) new
    end_shows =
        let more : List Transition = moves.steps.turns in
        record {
          endpoint = moves.steps.endpoint ∙ ap (λ (e : Endpoint). after_all e more) is.shows.endpoint ∙ sym (after-append (fresh_endpoint options) turns more);
          packets =
              ap (λ (l : List ChannelNotice). packets_given l ++ packets_left new) (notices_more acts act)
              ∙ ap (λ (l : List (List ℕ)). l ++ packets_left new) (packets-append (notices_of acts) (notices_of_act act))
              ∙ append_assoc (packets_given (notices_of acts)) (packets_given (notices_of_act act)) (packets_left new)
              ∙ ap (λ (l : List (List ℕ)). packets_given (notices_of acts) ++ l) moves.steps.emits
              ∙ sym (append_assoc (packets_given (notices_of acts)) (packets_left old) (packets_by (ports_of old.below.endpoint.options) more))
              ∙ ap (λ (l : List (List ℕ)). l ++ packets_by (ports_of old.below.endpoint.options) more) is.shows.packets
              ∙ ap (λ (p : Ports). packets_shown options turns ++ packets_by p more) same_ports
              ∙ sym (packets_by-append (ports_of options) turns more);
        }

    end_next : EndIs options (turns ++ moves.steps.turns) (acts ++ act ∷ []) (said_before ++ said_contents act new.layer) new
    end_next =
        let more : List Transition = moves.steps.turns in
        let e : Endpoint = fresh_endpoint options in
        let pairs : List (ℕ × ℕ) = is.pairs ++ moves.steps.pairs in
        let moving : KeepStreams moves.steps.pairs old.layer new.layer = moves.steps.keeping is.keeps.orderly in
        let kept : KeepStreams pairs is.start new.layer = keep_then is.pairs moves.steps.pairs is.start old.layer new.layer is.keeps moving in
        let all : channels_of (acts ++ act ∷ []) ≡ channels_of acts ++ channels_of_act act = channels_more acts act in
        record {
          shows = end_shows;
          start = is.start;
          pairs = pairs;
          keeps = kept;
          opens = is.opens ++ moves.steps.opens;
          sent = subst (λ (l : List Deed). Sent pairs new.layer is.start l (is.opens ++ moves.steps.opens) (said_before ++ said_contents act new.layer))
              (ap (λ (f : Endpoint). deeds_of_turns e turns ++ deeds_of_turns f more) is.shows.endpoint ∙ sym (deeds-append e turns more))
              (sent_then is.pairs moves.steps.pairs is.start old.layer new.layer (deeds_of_turns e turns) (deeds_of_turns old.below.endpoint more) is.opens moves.steps.opens said_before (said_contents act new.layer)
              (λ name number has. said_after name number new.layer act (after_move moving name number (is.keeps.after name number has))) is.sent (moves.steps.sent is.keeps.orderly));
          in_place = all-append (IsInPlace pairs new.layer) said_before (said_contents act new.layer) (in_place_later is.pairs moves.steps.pairs old.layer new.layer moving said_before is.in_place)
              (said_in_place pairs is.start new.layer kept act);
          high = moves.steps.high;
          rises = subst (λ (l : List OpenedChannel). Rise l 0 (is.opens ++ moves.steps.opens) moves.steps.high) (sym all)
              (rise_then (channels_of acts ++ channels_of_act act) 0 is.high moves.steps.high is.opens moves.steps.opens
              (rise_with (channels_of acts) (channels_of_act act) 0 is.opens is.high is.rises) moves.steps.rises);
          waits = subst (λ (l : List OpenedChannel). Wait l moves.steps.high new.layer.waiting new.layer.named) (sym all) moves.waits;
          heard =
              subst (λ (l : List OpenedChannel). Heard pairs (IsPassed e (turns ++ more)) new.layer is.start (read_of e (turns ++ more)) l (messages_reported (notices_of (acts ++ act ∷ []) ++ new.layer.notices)))
              (sym (told_more channels_reported channels-append moves.channels moves.tells.incoming))
              (subst (λ (l : List NamedContent). Heard pairs (IsPassed e (turns ++ more)) new.layer is.start (read_of e (turns ++ more)) (channels_reported (notices_of acts ++ old.layer.notices) ++ moves.channels) l)
              (sym (told_more messages_reported messages-append moves.contents moves.tells.messages))
              (subst (λ (l : List MessageContent). Heard pairs (IsPassed e (turns ++ more)) new.layer is.start l (channels_reported (notices_of acts ++ old.layer.notices) ++ moves.channels) (messages_reported (notices_of acts ++ old.layer.notices) ++ moves.contents))
              (ap (λ (f : Endpoint). read_of e turns ++ read_of f more) is.shows.endpoint ∙ sym (read-append e turns more))
              (heard_then is.pairs moves.steps.pairs (IsPassed e turns) (IsPassed old.below.endpoint more) (IsPassed e (turns ++ more)) is.start old.layer new.layer (read_of e turns) (read_of old.below.endpoint more) (channels_reported (notices_of acts ++ old.layer.notices)) moves.channels
              (messages_reported (notices_of acts ++ old.layer.notices)) moves.contents
              (passed_before e turns more) (λ f. passed_behind e old.below.endpoint turns more f is.shows.endpoint)
              (λ name number has. come_else old.layer name number (is.keeps.after name number has) moves.channels (moves.come is.keeps.orderly)) is.heard (moves.heard is.keeps.orderly))));
          plain = moves.tells.plain is.plain;
        }

-- ---- both ends

-- What a run of two ends is.
pub record RunIs (options : Both Options) (starts : Both ChannelsView) (run : List MadeAct) : Type 0 where
  pub steps : List PerformedAct
  pub sockets : SocketRun options steps
  pub in_memory : AreInMemory (acts_of steps)
  pub honest : AreHonest (acts_of steps)
  pub ends : (side : Side) → EndIs (of_side side options) (of_side side (turns_after steps)) (of_side side (acts_of_ends run)) (of_side side (said_at_ends run)) (of_side side (views_after starts run))

run_begins : (options : Both Options) (starts : Both ChannelsView) → AreNewEnds options starts → RunIs options starts []
run_begins options starts new = record { steps = []; sockets = tt; in_memory = tt; honest = tt; ends = λ side. begins side }
  where
    begins : (side : Side) → EndIs (of_side side options) (of_side side (turns_after [])) (of_side side (acts_of_ends [])) (of_side side (said_at_ends [])) (of_side side (views_after starts []))
    begins sides.A = end_begins options.a starts.a (new sides.A)
    begins sides.B = end_begins options.b starts.b (new sides.B)

-- of the packets that an end has emitted the first were given by polls
given_were_emitted : (options : Options) (turns : List Transition) (acts : List EndAct) (said : List SaidContent) (view : ChannelsView) → EndIs options turns acts said view → (packet : List ℕ)
    → HasEntry packet (packets_given (notices_of acts)) → HasEntry packet (packets_shown options turns)
given_were_emitted options turns acts said view is packet has =
    subst (λ (l : List (List ℕ)). HasEntry packet l) is.shows.packets (entry_before packet (packets_given (notices_of acts)) (packets_left view) has)

-- what the act of this side is, of which the other side shows these packets
made_moves : (keep : SocketsKeepOptions) (options : Both Options) (starts : Both ChannelsView) (side : Side) (act : EndAct) (after : ChannelsView) (earlier : List MadeAct) → FitsEndAct act
    → (h : RunIs options starts earlier) → MakesAct (packets_from_other side earlier) act (of_side side (views_after starts earlier)) after
    → Moves keep side (packets_shown (of_other side options) (of_other side (turns_after h.steps))) (channels_of (of_side side (acts_of_ends earlier)) ++ channels_of_act act) [] (h.ends side).high
    (said_contents act after.layer) (of_side side (views_after starts earlier)) (notices_of_act act) after
made_moves keep options starts side act after earlier fits h made =
    act_moves keep side (packets_shown (of_other side options) (of_other side (turns_after h.steps))) (channels_of (of_side side (acts_of_ends earlier)) ++ channels_of_act act) (h.ends side).high
    (packets_from_other side earlier) act (of_side side (views_after starts earlier)) after (emitted side) fits (λ channel has. entry_behind channel (channels_of (of_side side (acts_of_ends earlier))) (channels_of_act act) has)
    made (h.ends side).plain
    (wait_with (channels_of (of_side side (acts_of_ends earlier))) (channels_of_act act) (h.ends side).high (of_side side (views_after starts earlier)).layer.waiting (of_side side (views_after starts earlier)).layer.named (h.ends side).waits)
  where
    emitted : (side : Side) → (packet : List ℕ) → HasEntry packet (packets_from_other side earlier) → HasEntry packet (packets_shown (of_other side options) (of_other side (turns_after h.steps)))
    emitted sides.A packet has = given_were_emitted options.b (turns_after h.steps).b (acts_of_ends earlier).b (said_at_ends earlier).b (views_after starts earlier).b (h.ends sides.B) packet has
    emitted sides.B packet has = given_were_emitted options.a (turns_after h.steps).a (acts_of_ends earlier).a (said_at_ends earlier).a (views_after starts earlier).a (h.ends sides.A) packet has

module _ (keep : SocketsKeepOptions) (options : Both Options) (starts : Both ChannelsView) (earlier : List MadeAct) (h : RunIs options starts earlier) where
  ports_there : (side : Side) → ports_of (of_side side (views_after starts earlier)).below.endpoint.options ≡ ports_of (of_side side options)
  ports_there side = ap (λ (e : Endpoint). ports_of e.options) (h.ends side).shows.endpoint ∙ ap ports_of (keep.run options h.steps h.sockets side)

  -- this end, by its turns behind those before
  end_with : (side : Side) (act : EndAct) (after : ChannelsView) (path : List PerformedAct) (more now : List Transition) → turns_on path ≡ more
      → now ≡ of_side side (turns_after h.steps) ++ turns_on path → EndIs (of_side side options) (of_side side (turns_after h.steps) ++ more) (of_side side (acts_of_ends earlier) ++ act ∷ []) (of_side side (said_at_ends earlier) ++ said_contents act after.layer) after
      → EndIs (of_side side options) now (of_side side (acts_of_ends earlier) ++ act ∷ []) (of_side side (said_at_ends earlier) ++ said_contents act after.layer) after
  end_with side act after path more now are is end =
      subst (λ (l : List Transition). EndIs (of_side side options) l (of_side side (acts_of_ends earlier) ++ act ∷ []) (of_side side (said_at_ends earlier) ++ said_contents act after.layer) after)
      (ap (λ (l : List Transition). of_side side (turns_after h.steps) ++ l) (sym are) ∙ sym is) end

  run_next : (made : MadeAct) → FitsEndAct made.act → MakesAct (packets_from_other made.side earlier) made.act (of_side made.side (views_after starts earlier)) made.after → RunIs options starts (made ∷ earlier)
  run_next made fits makes =
      let side : Side = made.side in
      let moves = made_moves keep options starts side made.act made.after earlier fits h makes in
      let emitted : List (List ℕ) = packets_shown (of_other side options) (of_other side (turns_after h.steps)) in
      let on = runs_on options side emitted (of_side side (views_after starts earlier)).below.endpoint moves.steps.path h.steps moves.steps.is_path h.sockets (h.ends side).shows.endpoint refl in
      let mine = end_with side made.act made.after moves.steps.path moves.steps.turns (of_side side (turns_after (run_with moves.steps.path h.steps))) moves.steps.turns_are on.mine
      (end_next keep side emitted (of_side side options) (of_side side (turns_after h.steps)) (of_side side (acts_of_ends earlier)) (of_side side (said_at_ends earlier)) made.act (of_side side (views_after starts earlier)) made.after (h.ends side) (ports_there side) moves) in
      record {
        steps = run_with moves.steps.path h.steps;
        sockets = on.sockets;
        in_memory = on.in_memory h.in_memory;
        honest = on.honest h.honest;
        ends = λ other. both side made.act made.after (turns_after (run_with moves.steps.path h.steps)) mine on.others other;
      }
    where
      both : (side : Side) (act : EndAct) (after : ChannelsView) (now : Both (List Transition)) → EndIs (of_side side options) (of_side side now) (of_side side (acts_of_ends earlier) ++ act ∷ []) (of_side side (said_at_ends earlier) ++ said_contents act after.layer) after
          → of_other side now ≡ of_other side (turns_after h.steps) → (other : Side)
          → EndIs (of_side other options) (of_side other now) (of_side other (acts_with side act (acts_of_ends earlier))) (of_side other (said_with side (said_contents act after.layer) (said_at_ends earlier))) (of_side other (with_end side after (views_after starts earlier)))
      both sides.A act after now mine others sides.A = mine
      both sides.A act after now mine others sides.B = subst (λ (l : List Transition). EndIs options.b l (acts_of_ends earlier).b (said_at_ends earlier).b (views_after starts earlier).b) (sym others) (h.ends sides.B)
      both sides.B act after now mine others sides.A = subst (λ (l : List Transition). EndIs options.a l (acts_of_ends earlier).a (said_at_ends earlier).a (views_after starts earlier).a) (sym others) (h.ends sides.A)
      both sides.B act after now mine others sides.B = mine

pub run_is : SocketsKeepOptions → (options : Both Options) (starts : Both ChannelsView) (run : List MadeAct) → AreNewEnds options starts → AllInMemory run → ChannelsRun starts run → RunIs options starts run
run_is keep options starts [] new fits made = run_begins options starts new
run_is keep options starts (act ∷ earlier) new fits made = run_next keep options starts earlier (run_is keep options starts earlier new fits.1 made.1) act fits.0 made.0
