-- What the two ends of a run are told of each other is true.
use Rattle.dcsctp_delivery_sockets.specs.sockets.ShownDelivery.{AllowsDelivery, DeliverThroughout, UsersReadWhatWasSent}
use Rattle.dcsctp_delivery_sockets.specs.sockets.UserMessages.{messages_of_turns, sendings_of_turns, read_of, IsDelivered}
use Rattle.dcsctp_spec_runs.specs.Laws.{SocketsKeepOptions}
use Rattle.dcsctp_spec_runs.specs.Sockets.{Both, of_side, of_other, turns_after}
use Rattle.dcsctp_theorem_sockets.specs.Agreement.{AreFresh}
use Rattle.dcsctp_channel_calls.specs.api.types.declared.options.Options.{Options}
use Rattle.dcsctp_channel_calls.specs.api.types.declared.schedule.Side.{Side}
use Rattle.dcsctp_channel_calls.specs.api.types.declared.schedule.Side.TheVariants as sides
use Rattle.dcsctp_channel_calls.specs.api.types.queues.Messages.{MessageContent}
use Rattle.dcsctp_channel_calls.specs.api.spec.endpoint.Endpoint.{fresh_endpoint, Endpoint}
use Rattle.dcsctp_channel_calls.specs.messages.channel_spec.Contents.{ContentsReadBack}
use Rattle.dcsctp_channel_calls.specs.messages.Laws.{OpensReadBack}
use Rattle.std.specs.List.{AllByRecursion}
use Rattle.dcsctp_channel_runs.specs.Runs.{KeepsOrder, views_after, ChannelsRunSockets, KeepsWhole, KeepsOrderOfStreams}
use Rattle.dcsctp_channel_runs.specs.Opened.{IsSaidBefore, so_far, HearsOther, AreReadInOrder}
use Rattle.dcsctp_channel_runs.specs.Acts.{MadeAct, acts_of_ends, said_at_ends, notices_of, channels_reported, messages_reported}
use Rattle.dcsctp_delivery_sockets.specs.sockets.Ordered.{IsDeliveredInOrder}
use Rattle.dcsctp_channel_runs.proofs.InOrder.{messages_are, IsBeforeOnStream}
use Rattle.dcsctp_channel_runs.proofs.Run.{RunIs, run_is}
use Rattle.dcsctp_channel_calls.specs.View.{ChannelsView}
use Rattle.std.proofs.Common.{◌≡◌, List, [], ◌∷◌, ◌++◌, subst, ◌∙◌, sym, true}
use Rattle.dcsctp_channel_runs.specs.Prefixes.{knows_stream, AlwaysKnowsStream, AreReadWhole, AreReadByRules}
use Rattle.dcsctp_delivery_sockets.specs.sockets.Epochs.{HasReset}
use Rattle.dcsctp_channel_runs.specs.HandedOn.{HandsOn}
use Rattle.dcsctp_channel_runs.proofs.HandingOn.{hands_on}
use Rattle.dcsctp_channel_runs.proofs.Heard.{IsPassed}
use Rattle.dcsctp_channel_runs.proofs.Delivering.{first_delivers, first_in_order, DeliveredWhole, first_whole}
use Rattle.dcsctp_channel_runs.proofs.Told.{EndThen, sent_at, read_at, sendings_at, sent_plainly, ReadsSo, told_truly, read_in_order, read_whole, read_by_rules, reads_once, reads_in_order}

module _ (options : Both Options) (starts : Both ChannelsView) (run : List MadeAct) (h : RunIs options starts run) where
  end_at : (side : Side) → EndThen
  end_at sides.A = record { options = options.a; turns = (turns_after h.steps).a; acts = (acts_of_ends run).a; said = (said_at_ends run).a; view = (views_after starts run).a; is = h.ends sides.A }
  end_at sides.B = record { options = options.b; turns = (turns_after h.steps).b; acts = (acts_of_ends run).b; said = (said_at_ends run).b; view = (views_after starts run).b; is = h.ends sides.B }

  module _ (opens : OpensReadBack) (back : ContentsReadBack) (delivers : DeliverThroughout options h.steps) (fresh : AreFresh (turns_after h.steps)) (allows : AllowsDelivery options h.steps) where
    once_at : (side : Side) → IsDelivered (messages_of_turns (fresh_endpoint (of_other side options)) (of_other side (turns_after h.steps))) (read_of (fresh_endpoint (of_side side options)) (of_side side (turns_after h.steps)))
    once_at side = first_delivers options h.steps delivers h.honest fresh allows side

    delivered_here : IsDelivered (sent_at (end_at sides.B)) (read_at (end_at sides.A))
    unfolding end_at
    delivered_here = subst (λ (l : List MessageContent). IsDelivered l (read_at (end_at sides.A))) (messages_are (fresh_endpoint options.b) (turns_after h.steps).b ∙ sym (sent_plainly (end_at sides.B))) (once_at sides.A)

    delivered_there : IsDelivered (sent_at (end_at sides.A)) (read_at (end_at sides.B))
    unfolding end_at
    delivered_there = subst (λ (l : List MessageContent). IsDelivered l (read_at (end_at sides.B))) (messages_are (fresh_endpoint options.a) (turns_after h.steps).a ∙ sym (sent_plainly (end_at sides.A))) (once_at sides.B)

    hears_other : (side : Side) → HearsOther (of_side side (so_far run (views_after starts run))) (of_other side (so_far run (views_after starts run)))
    unfolding end_at
    hears_other sides.A =
        told_truly opens back (end_at sides.A) (end_at sides.B) delivered_here (reads_once back (end_at sides.A) (end_at sides.B) delivered_here) (reads_once back (end_at sides.B) (end_at sides.A) delivered_there)
    hears_other sides.B =
        told_truly opens back (end_at sides.B) (end_at sides.A) delivered_there (reads_once back (end_at sides.B) (end_at sides.A) delivered_there) (reads_once back (end_at sides.A) (end_at sides.B) delivered_here)

    module _ (keeps : (side : Side) → KeepsOrder options (turns_after h.steps) side) where
      order_at : (side : Side) → IsDeliveredInOrder (sendings_of_turns (fresh_endpoint (of_other side options)) (of_other side (turns_after h.steps))) (read_of (fresh_endpoint (of_side side options)) (of_side side (turns_after h.steps)))
      order_at side =
          subst (λ (l : List MessageContent). IsDeliveredInOrder (sendings_of_turns (fresh_endpoint (of_other side options)) (of_other side (turns_after h.steps))) l) (keeps side).whole
          (first_in_order options h.steps delivers h.honest fresh allows side (keeps side).tag (keeps side).allows)

      reads_here : ReadsSo back IsSaidBefore (IsBeforeOnStream (sendings_at (end_at sides.B))) (end_at sides.A) (end_at sides.B)
      unfolding end_at
      reads_here = reads_in_order back (end_at sides.A) (end_at sides.B) (order_at sides.A) (keeps sides.A).ordered

      reads_there : ReadsSo back IsSaidBefore (IsBeforeOnStream (sendings_at (end_at sides.A))) (end_at sides.B) (end_at sides.A)
      unfolding end_at
      reads_there = reads_in_order back (end_at sides.B) (end_at sides.A) (order_at sides.B) (keeps sides.B).ordered

      hears_in_order : (side : Side) → AreReadInOrder (of_side side (so_far run (views_after starts run))) (of_other side (so_far run (views_after starts run)))
      unfolding end_at
      hears_in_order sides.A = read_in_order opens back (end_at sides.A) (end_at sides.B) reads_here reads_there (keeps sides.A).ordered
      hears_in_order sides.B = read_in_order opens back (end_at sides.B) (end_at sides.A) reads_there reads_here (keeps sides.B).ordered

-- What an end reads on the stream of an open channel is handed on.
handed_on : (ours : EndThen) → HandsOn (AlwaysKnowsStream ours.options ours.turns) ours.view.layer (read_at ours) (notices_of ours.acts ++ ours.view.layer.notices)
handed_on ours lasts knows =
    hands_on ours.is.pairs (IsPassed (fresh_endpoint ours.options) ours.turns) ours.view.layer lasts ours.is.start (read_at ours) (channels_reported (notices_of ours.acts ++ ours.view.layer.notices))
    (messages_reported (notices_of ours.acts ++ ours.view.layer.notices)) ours.is.heard (all_known (read_at ours) knows)
  where
    all_known : (read : List MessageContent) → AllByRecursion (λ (m : MessageContent). AlwaysKnowsStream ours.options ours.turns m.stream) read
        → AllByRecursion (λ (m : MessageContent). (e : Endpoint) → IsPassed (fresh_endpoint ours.options) ours.turns e → knows_stream e m.stream ≡ true) read
    all_known [] all = tt
    all_known (m ∷ read) all = ((λ e passed. subst (λ (f : Endpoint). knows_stream f m.stream ≡ true) (sym passed.at) (all.0 passed.earlier passed.later passed.is)), all_known read all.1)

handed_on_at : (options : Both Options) (starts : Both ChannelsView) (run : List MadeAct) (h : RunIs options starts run) → (side : Side)
    → HandsOn (AlwaysKnowsStream (of_side side options) (of_side side (turns_after h.steps))) (of_side side (views_after starts run)).layer (read_of (fresh_endpoint (of_side side options)) (of_side side (turns_after h.steps)))
    (notices_of (of_side side (acts_of_ends run)) ++ (of_side side (views_after starts run)).layer.notices)
unfolding end_at
handed_on_at options starts run h sides.A = handed_on (end_at options starts run h sides.A)
handed_on_at options starts run h sides.B = handed_on (end_at options starts run h sides.B)

-- so it is of a run
whole_of_run : (options : Both Options) (starts : Both ChannelsView) (run : List MadeAct) (h : RunIs options starts run) → OpensReadBack → ContentsReadBack → DeliverThroughout options h.steps → AreFresh (turns_after h.steps)
    → AllowsDelivery options h.steps → (side : Side) → KeepsWhole options (turns_after h.steps) side
    → AreReadWhole (AlwaysKnowsStream (of_side side options) (of_side side (turns_after h.steps))) (of_side side (so_far run (views_after starts run))) (of_other side (so_far run (views_after starts run)))
unfolding end_at
whole_of_run options starts run h opens back delivers fresh allows sides.A keeps =
    let whole = first_whole options h.steps delivers h.honest fresh allows sides.A keeps.tag keeps.one_tag keeps.interleaves in
    read_whole opens back (end_at options starts run h sides.A) (end_at options starts run h sides.B)
    (subst (λ (l : List MessageContent). DeliveredWhole (HasReset options.b (turns_after h.steps).b) (sendings_of_turns (fresh_endpoint options.b) (turns_after h.steps).b) l) keeps.whole whole)
whole_of_run options starts run h opens back delivers fresh allows sides.B keeps =
    let whole = first_whole options h.steps delivers h.honest fresh allows sides.B keeps.tag keeps.one_tag keeps.interleaves in
    read_whole opens back (end_at options starts run h sides.B) (end_at options starts run h sides.A)
    (subst (λ (l : List MessageContent). DeliveredWhole (HasReset options.a (turns_after h.steps).a) (sendings_of_turns (fresh_endpoint options.a) (turns_after h.steps).a) l) keeps.whole whole)

-- so it is of a run, too
rules_of_run : (options : Both Options) (starts : Both ChannelsView) (run : List MadeAct) (h : RunIs options starts run) → OpensReadBack → ContentsReadBack → DeliverThroughout options h.steps → AreFresh (turns_after h.steps)
    → AllowsDelivery options h.steps → (side : Side) → KeepsOrderOfStreams options (turns_after h.steps) side
    → AreReadByRules (of_side side (so_far run (views_after starts run))) (of_other side (so_far run (views_after starts run)))
unfolding end_at
rules_of_run options starts run h opens back delivers fresh allows sides.A keeps =
    read_by_rules opens back (end_at options starts run h sides.A) (end_at options starts run h sides.B)
    (subst (λ (l : List MessageContent). IsDeliveredInOrder (sendings_of_turns (fresh_endpoint options.b) (turns_after h.steps).b) l) keeps.whole
    (first_in_order options h.steps delivers h.honest fresh allows sides.A keeps.tag keeps.allows))
rules_of_run options starts run h opens back delivers fresh allows sides.B keeps =
    read_by_rules opens back (end_at options starts run h sides.B) (end_at options starts run h sides.A)
    (subst (λ (l : List MessageContent). IsDeliveredInOrder (sendings_of_turns (fresh_endpoint options.a) (turns_after h.steps).a) l) keeps.whole
    (first_in_order options h.steps delivers h.honest fresh allows sides.B keeps.tag keeps.allows))

pub channels_run : SocketsKeepOptions → UsersReadWhatWasSent → OpensReadBack → ContentsReadBack → ChannelsRunSockets
channels_run keep delivers opens contents options starts run usable new fits made =
    let h = run_is keep options starts run new fits made in
    record {
      steps = h.steps;
      sockets = h.sockets;
      in_memory = h.in_memory;
      honest = h.honest;
      shows = λ side. (h.ends side).shows;
      hears = λ fresh allows side. hears_other options starts run h opens contents (delivers options h.steps usable h.in_memory h.sockets) fresh allows side;
      in_order = λ fresh allows keeps side. hears_in_order options starts run h opens contents (delivers options h.steps usable h.in_memory h.sockets) fresh allows keeps side;
      hands_on = λ side. handed_on_at options starts run h side;
      by_rules = λ fresh allows side keeps. rules_of_run options starts run h opens contents (delivers options h.steps usable h.in_memory h.sockets) fresh allows side keeps;
      whole = λ fresh allows side keeps. whole_of_run options starts run h opens contents (delivers options h.steps usable h.in_memory h.sockets) fresh allows side keeps;
    }
