-- A turn of the receiver in which an association begins.
use Rattle.std.proofs.Common.{false, ◌≡◌, ◌≢◌, ℕ, ◌<◌, ◌+◌, ◌-◌, ◌%◌, ◌^◌, Option, None, Some, List, ◌++◌, [], ◌∷◌, length, refl, sym, ◌∙◌, ap, arith, subst, inl, inr}
use Rattle.std.specs.Prelude.{◌⊎◌}
use Rattle.dcsctp_spec_lemmas.specs.types.declared.association.Pair.{Pair}
use Rattle.dcsctp_spec_lemmas.specs.types.declared.options.Options.{Options}
use Rattle.dcsctp_spec_lemmas.specs.types.Settings.{SameOptions}
use Rattle.dcsctp_spec_lemmas.specs.spec.endpoint.Endpoint.{Endpoint}
use Rattle.dcsctp_spec_lemmas.specs.spec.endpoint.Event.{Event, packets_of_events}
use Rattle.dcsctp_spec_lemmas.specs.spec.endpoint.Outcome.{Outcome}
use Rattle.dcsctp_spec_lemmas.specs.spec.Packet.{Emission}
use Rattle.dcsctp_spec_runs.specs.Past.{HasEffect, WasPerformed}
use Rattle.dcsctp_spec_lemmas.specs.spec.endpoint.Turn.{Input, Turn}
use Rattle.dcsctp_spec_runs.specs.World.{after_effects}
use Rattle.dcsctp_spec_lemmas.specs.spec.association.Effect.{AssociationIdentity, Effect, holds, identity_of, identity_of_core}
use Rattle.dcsctp_spec_lemmas.specs.spec.queues.Reassembly.{new_reassembly}
use Rattle.dcsctp_spec_lemmas.specs.spec.queues.Tracker.{new_tracker}
use Rattle.dcsctp_spec_lemmas.specs.spec.queues.Transfer.{Transfer, EndpointQueues, part_overhead}
use Rattle.dcsctp_theorem_association.proofs.Growth.{after_within}
use Rattle.dcsctp_delivery_directions.specs.sending.Places.{HasEntry, table_with}
use Rattle.dcsctp_delivery_directions.specs.sending.Log.{Message}
use Rattle.dcsctp_delivery_directions.proofs.sending.Places.{decide, set_same, set_other}
use Rattle.dcsctp_delivery_directions.specs.directions.Directions as steps
use Rattle.dcsctp_delivery_directions.specs.directions.Directions.{PerformedReset, HasReached, DirectionRun}
use Rattle.dcsctp_delivery_directions.proofs.directions.Directions.{direction_queues}
use Rattle.dcsctp_delivery_sockets.specs.turns.Actions.{AreReports, begun_transfer, content_of_input, peer_tag, IsCall}
use Rattle.dcsctp_delivery_sockets.specs.turns.ToldResets.{ReportsResets}
use Rattle.dcsctp_delivery_sockets.specs.turns.Reporting.{IsReachedBetween, TurnReports, reports_on, reports_anew, reports_nothing, reports_nowhere}
use Rattle.dcsctp_delivery_sockets.specs.turns.Asking.{own_of, AsksFit}
use Rattle.dcsctp_delivery_sockets.specs.turns.Runs.{OpensAssociation}
use Rattle.dcsctp_delivery_sockets.specs.associations.Ends.{WasReported, SendingEnd, ReceivingEnd, direction_of_ends, new_end, Ends, sender_key, HadPeer, Awaits, Sender, NewTag, HadTag, Receiver, unbegun_end, MetOrAlone, AreHeard, AreSeen, Between, sending_side, receiving_side}
use Rattle.dcsctp_delivery_sockets.specs.associations.Reads.{Tags, tags_of, Reading, tags_or, reached_index, resets_after, with_key}
use Rattle.dcsctp_delivery_sockets.proofs.associations.Growing.{set_all}
use Rattle.dcsctp_delivery_sockets.proofs.associations.Growing.{set_three}
use Rattle.dcsctp_delivery_sockets.proofs.associations.Heard.{same_grown, heard_later, heard_all, heard_there, heard_nothing, passed_reached}
use Rattle.dcsctp_delivery_sockets.proofs.associations.Seen.{seen_turn}
use Rattle.dcsctp_delivery_sockets.proofs.associations.Senders.{alone_later}
use Rattle.dcsctp_delivery_sockets.proofs.associations.WhatIsRead.{all_of_later, of_link_later}
use Rattle.dcsctp_delivery_sockets.proofs.turns.Runs.{senders_begin}
use Rattle.dcsctp_delivery_sockets.proofs.associations.WhatIsLeft.{goes_left}
use Rattle.dcsctp_delivery_sockets.specs.associations.Answered.{AreAnswered}
use Rattle.dcsctp_delivery_sockets.specs.associations.Laws.{TellsPerformed, AreEnds}
use Rattle.dcsctp_delivery_sockets.proofs.associations.WhatIsReset.{still_told, still_reported, reset_stays}
use Rattle.dcsctp_delivery_sockets.proofs.turns.PeersTurns.{calm_asks_nothing}
use Rattle.dcsctp_delivery_sockets.proofs.associations.AnsweringRests.{none_performed}
use Rattle.dcsctp_delivery_sockets.proofs.associations.ReceiverOpens.{opening_calm, opens_answered}
use Rattle.dcsctp_delivery_sockets.proofs.associations.ReceiverStays.{tag_later, sender_same, sender_first}

-- What an association has received that just begins.
begun_end : (options other : Options) (first : ℕ) → SameOptions options other
    → ◌≡◌ {A = ReceivingEnd} (record { first_tsn = first; tracker = new_tracker other first; reassembly = new_reassembly other.max_receiver_window_buffer_size (part_overhead other); read = []; performed = [] }) (new_end options first)
begun_end options other first same =
    ap (λ (o : Options). record { first_tsn = first; tracker = new_tracker o first; reassembly = new_reassembly o.max_receiver_window_buffer_size (part_overhead o); read = []; performed = [] }) same

-- At the sender there is the matching association, or none yet.
data Known (ends : Ends) (key : ℕ) (new : AssociationIdentity) : Type 0 where
  is_crossed : ends.firsts new.peer.tag ≡ new.peer.first_tsn → Known ends key new
  is_awaited : Awaits (ends.sends new.peer.tag) → new.peer.tag ≢ key → Known ends key new

known : (ends : Ends) (key to : ℕ) (below : EndpointQueues) (queued : List Message) (past their_past : List Effect) (packets : List Emission) (new : AssociationIdentity) → Sender ends key to below queued past packets → NewTag their_past past new → Known ends key new
known ends key to below queued past their_past packets new s is =
    elim (decide new.peer.tag key) [
      | inl e ↦ is_crossed (of_had (subst (λ (t : ℕ). HadPeer past t (ends.firsts t)) (sym e) (s.current (λ zero. is.some (e ∙ zero)))))
      | inr ne ↦ elim (s.begun new.peer.tag is.some) [
        | inl waits ↦ is_awaited waits ne
        | inr had ↦ is_crossed (of_had had)
      ]
    ]
  where
    of_had : HadPeer past new.peer.tag (ends.firsts new.peer.tag) → ends.firsts new.peer.tag ≡ new.peer.first_tsn
    of_had had = sym had.first_is ∙ ap (λ (p : Pair). p.first_tsn) (is.match had.link had.held had.tag_is)

module _ (options : Options) (ends : Ends) (e : Endpoint) (queued : List Message) (past : List Effect) (packets : List Emission) (d : Endpoint) (their_past : List Effect) (reading : Reading)
    (h : Between options ends (sending_side e queued past packets) (receiving_side d their_past reading)) (few : length queued < 2 ^ 64) (same : SameOptions options d.options) (input : Input) (o : Outcome) (w : AreAnswered ends e past d their_past) (may : IsCall input) (turn : Turn d input o) (seen : List (Event Emission)) (reported : AreSeen ends d their_past seen) (reports : TurnReports d input o) (tells : ReportsResets d input o) (shows : TellsPerformed o) where
  module _ (opens : OpensAssociation d input o) (is : NewTag their_past past (identity_of opens.begun.my opens.begun.held)) where
    abbrev tag : ℕ
    tag = opens.begun.held.peer.tag

    abbrev first : ℕ
    first = opens.begun.held.peer.first_tsn

    abbrev got : ReceivingEnd
    got = record { first_tsn = first; tracker = opens.left.tracker; reassembly = opens.left.reassembly; read = []; performed = [] }

    new_held : HasEffect (holds (identity_of opens.begun.my opens.begun.held)) (after_effects o.effects their_past)
    new_held =
        subst (λ (l : List Effect). HasEffect (holds (identity_of opens.begun.my opens.begun.held)) (after_effects l their_past)) (sym opens.begun.noted)
        (after_within opens.begun.later (holds (identity_of opens.begun.my opens.begun.held) ∷ their_past) (holds (identity_of opens.begun.my opens.begun.held)) (inl refl))

    had_new : HadTag (after_effects o.effects their_past) tag first
    had_new =
        record {
          link = identity_of opens.begun.my opens.begun.held;
          held = new_held;
          tag_is = refl;
          first_is = refl;
          some = is.some;
        }

    -- The run continues to the end of the turn, whoever sends.
    opened_by : (sends : SendingEnd) → DirectionRun options first options.max_receiver_window_buffer_size (direction_of_ends sends (new_end options first)) → DirectionRun options first options.max_receiver_window_buffer_size (direction_of_ends sends got)
    opened_by sends run =
        opens.runs options first options.max_receiver_window_buffer_size (direction_of_ends sends (new_end options first))
        (subst (λ (g : ReceivingEnd). DirectionRun options first options.max_receiver_window_buffer_size (direction_of_ends sends g)) (sym (begun_end options d.options first same)) run)

    opened : DirectionRun options first options.max_receiver_window_buffer_size (direction_of_ends (ends.sends tag) (new_end options first)) → DirectionRun options first options.max_receiver_window_buffer_size (direction_of_ends (ends.sends tag) got)
    opened = opened_by (ends.sends tag)

    -- It needs no sender yet.
    later_alone : (firsts : ℕ → ℕ) → firsts tag ≡ first → ((t : ℕ) → t ≢ tag → firsts t ≡ ends.firsts t) → (t : ℕ)
        → MetOrAlone options (record ends { sends = ends.sends; gets = table_with tag got ends.gets; firsts = firsts }) past (after_effects o.effects their_past) t
    later_alone firsts here others t =
        elim (decide t tag) [
          | inl e' ↦ subst (MetOrAlone options (record ends { sends = ends.sends; gets = table_with tag got ends.gets; firsts = firsts }) past (after_effects o.effects their_past)) (sym e')
              (inr (subst (λ (n : ℕ). DirectionRun options n options.max_receiver_window_buffer_size (direction_of_ends (unbegun_end options) (table_with tag got ends.gets tag))) (sym here)
              (subst (λ (g : ReceivingEnd). DirectionRun options first options.max_receiver_window_buffer_size (direction_of_ends (unbegun_end options) g)) (sym (set_same tag got ends.gets))
              (opened_by (unbegun_end options) (senders_begin options options first options.max_receiver_window_buffer_size (λ id. false) (λ id count. false) (λ id count. false) false)))))
          | inr ne ↦
              alone_later options ends (record ends { sends = ends.sends; gets = table_with tag got ends.gets; firsts = firsts }) past past their_past (after_effects o.effects their_past) (λ effect has. has) (after_within o.effects their_past) t
              (set_other tag t got ends.gets ne) (others t ne) (h.alone t)
        ]

    -- No request is performed.
    none_here : (my : Pair) (number : ℕ) → WasPerformed my number o.effects → ⊥
    none_here my number has = none_performed o.effects (calm_asks_nothing d input o (opening_calm (content_of_input input) opens.opening) may turn) my number has

    later_receiver : (firsts : ℕ → ℕ) → firsts tag ≡ first → ((t : ℕ) → t ≢ tag → firsts t ≡ ends.firsts t) → ends.gets tag ≡ new_end options (ends.firsts tag)
        → Receiver options (record ends { sends = ends.sends; gets = table_with tag got ends.gets; firsts = firsts }) o.after (after_effects o.effects their_past) (record { reads = reading.reads; last = tags_of (identity_of opens.begun.my opens.begun.held); resets = resets_after d input o reading })
    later_receiver firsts here others fresh =
        record {
          fits = opens.fits;
          current = λ transfer there. (
              let one : opens.left ≡ transfer = same_transfer o.after.queues.transfer opens.left transfer opens.is there in
              record {
                link = identity_of opens.begun.my opens.begun.held;
                linked = opens.linked;
                held = new_held;
                own_some = is.own_some;
                had = subst (λ (n : ℕ). HadTag (after_effects o.effects their_past) tag n) (sym here) had_new;
                tracker = ap (λ (g : ReceivingEnd). g.tracker) (set_same tag got ends.gets) ∙ ap (λ (t : Transfer). t.tracker) one;
                reassembly = ap (λ (g : ReceivingEnd). g.reassembly) (set_same tag got ends.gets) ∙ ap (λ (t : Transfer). t.reassembly) one;
              }
              );
          last = λ link is'. own_tag link is';
          left = goes_left d input o may turn ends.gets (table_with tag got ends.gets) reading.last.peer tag opens.left opens.is h.receiver.left;
          were_read = set_all (λ t g. with_key t reading.reads ≡ g.read) tag got ends.gets (h.receiver.were_read tag ∙ ap (λ (g : ReceivingEnd). g.read) fresh) (λ t ne. h.receiver.were_read t);
          were_reset = λ report has.
              reset_stays ends.gets (table_with tag got ends.gets) their_past (after_effects o.effects their_past) report
              (set_all (λ t g. HasEntry report.reset (ends.gets t).performed → HasEntry report.reset g.performed) tag got ends.gets
              (λ was. absurd (subst (λ (g : ReceivingEnd). HasEntry report.reset g.performed) fresh was)) (λ t ne was. was)) (of_link_later o.effects their_past report.tags)
              (h.receiver.were_reset report (still_reported reading.last (reached_index d input o reading) reading.resets report o shows none_here has));
          were_told = λ plainly. set_all (λ t g. (reset : PerformedReset) → HasEntry reset g.performed → WasReported (resets_after d input o reading) t reset) tag got ends.gets (λ reset has. absurd has)
              (λ t ne reset has. still_told reading.last (reached_index d input o reading) o.events reading.resets t reset (h.receiver.were_told plainly t reset has));
          begun = λ t. elim (decide t tag) [
            | inl e' ↦ inr (subst (λ (n : ℕ). HadTag (after_effects o.effects their_past) n (firsts n)) (sym e') (subst (λ (n : ℕ). HadTag (after_effects o.effects their_past) tag n) (sym here) had_new))
            | inr ne ↦ other t ne (h.receiver.begun t)
          ];
          last_of = inr (identity_of opens.begun.my opens.begun.held, new_held, refl);
          reads_of = all_of_later o.effects their_past reading.reads h.receiver.reads_of;
        }
      where
        same_transfer : (found : Option Transfer) (one two : Transfer) → found ≡ Some one → found ≡ Some two → one ≡ two
        same_transfer found one two a b = cc

        same_link : (found : Option AssociationIdentity) (one two : AssociationIdentity) → found ≡ Some one → found ≡ Some two → one ≡ two
        same_link found one two a b = cc

        own_tag : (link : AssociationIdentity) → identity_of_core o.after.core ≡ Some link → tags_of (identity_of opens.begun.my opens.begun.held) ≡ tags_of link
        own_tag link there = (let same' : identity_of opens.begun.my opens.begun.held ≡ link = same_link (identity_of_core o.after.core) (identity_of opens.begun.my opens.begun.held) link opens.linked there in ap tags_of same')

        other : (t : ℕ) → t ≢ tag → (ends.gets t ≡ new_end options (ends.firsts t)) ⊎ HadTag their_past t (ends.firsts t)
            → (table_with tag got ends.gets t ≡ new_end options (firsts t)) ⊎ HadTag (after_effects o.effects their_past) t (firsts t)
        other t ne (inl new) = inl (set_other tag t got ends.gets ne ∙ new ∙ ap (new_end options) (sym (others t ne)))
        other t ne (inr had) = inr (subst (λ (n : ℕ). HadTag (after_effects o.effects their_past) t n) (sym (others t ne)) (tag_later o.effects their_past t (ends.firsts t) had))

    -- What is reported in the turn was reached in it.
    new_reports : AreHeard (table_with tag got ends.gets) (after_effects o.effects their_past) (packets_of_events o.events)
    new_reports = go reports
      where
        same_link : (found : Option AssociationIdentity) (one two : AssociationIdentity) → found ≡ Some one → found ≡ Some two → one ≡ two
        same_link found one two a b = cc

        same_transfer : (found : Option Transfer) (one two : Transfer) → found ≡ Some one → found ≡ Some two → one ≡ two
        same_transfer found one two a b = cc

        there : HadTag (after_effects o.effects their_past) tag (table_with tag got ends.gets tag).first_tsn
        there = subst (λ (g : ReceivingEnd). HadTag (after_effects o.effects their_past) tag g.first_tsn) (sym (set_same tag got ends.gets)) had_new

        go : TurnReports d input o → AreHeard (table_with tag got ends.gets) (after_effects o.effects their_past) (packets_of_events o.events)
        go (reports_on old left linked was left_is grows says) =
            let c = h.receiver.current old was in
            let one : c.link ≡ identity_of opens.begun.my opens.begun.held = same_link (identity_of_core d.core) c.link (identity_of opens.begun.my opens.begun.held) c.linked (sym linked ∙ opens.linked) in
            absurd (is.other c.link c.held (ap (λ (l : AssociationIdentity). l.peer.tag) one))
        go (reports_anew begun left opening linked left_is grows says) =
            let one : identity_of begun.my begun.held ≡ identity_of opens.begun.my opens.begun.held =
            same_link (identity_of_core o.after.core) (identity_of begun.my begun.held) (identity_of opens.begun.my opens.begun.held) linked opens.linked in
            let peer : begun.held.peer ≡ opens.begun.held.peer = ap (λ (l : AssociationIdentity). l.peer) one in
            let same' : left ≡ opens.left = same_transfer o.after.queues.transfer left opens.left left_is opens.is in
            let to : AreReports tag (IsReachedBetween (begun_transfer d o begun).tracker.cumulative left.tracker.cumulative) (packets_of_events o.events) =
            subst (λ (p : Pair). AreReports p.tag (IsReachedBetween (begun_transfer d o begun).tracker.cumulative left.tracker.cumulative) (packets_of_events o.events)) peer says in
            let start : (begun_transfer d o begun).tracker.cumulative ≡ (first + (2 ^ 32 - 1)) % 2 ^ 32 = ap (λ (p : Pair). (p.first_tsn + (2 ^ 32 - 1)) % 2 ^ 32) peer in
            heard_there (table_with tag got ends.gets) (after_effects o.effects their_past) tag (IsReachedBetween (begun_transfer d o begun).tracker.cumulative left.tracker.cumulative) (packets_of_events o.events) there
            (λ tsn passed. subst (λ (g : ReceivingEnd). HasReached g.first_tsn g.tracker tsn) (sym (set_same tag got ends.gets))
            (subst (λ (t : Transfer). HasReached first t.tracker tsn) same' (passed_reached first (begun_transfer d o begun).tracker.cumulative left.tracker tsn (omega (arith, start)) passed))) to
        go (reports_nothing gone says) = heard_nothing (table_with tag got ends.gets) (after_effects o.effects their_past) _ (packets_of_events o.events) says
        go (reports_nowhere none linked says) =
            (let clash : ◌≡◌ {A = Option AssociationIdentity} None (Some (identity_of opens.begun.my opens.begun.held)) = sym (w.unlinked none) ∙ sym linked ∙ opens.linked in absurd (cc))

    heard_opened : AreHeard (table_with tag got ends.gets) (after_effects o.effects their_past) (packets_of_events (seen ++ o.events))
    heard_opened =
        heard_all (table_with tag got ends.gets) (after_effects o.effects their_past) seen o.events
        (heard_later ends.gets (table_with tag got ends.gets) their_past (after_effects o.effects their_past) (after_within o.effects their_past)
        (λ t had. same_grown (ends.gets t) (table_with tag got ends.gets t) (set_other tag t got ends.gets (λ here. is.other had.link had.held (had.tag_is ∙ here)))) (packets_of_events seen) reported.heard) new_reports

    -- The user is told of no reset.
    seen_opened : (firsts : ℕ → ℕ) → AreSeen (record ends { sends = ends.sends; gets = table_with tag got ends.gets; firsts = firsts }) o.after (after_effects o.effects their_past) (seen ++ o.events)
    seen_opened firsts =
        seen_turn ends (record ends { sends = ends.sends; gets = table_with tag got ends.gets; firsts = firsts }) e past d their_past seen input o w (λ t some begun has. has) heard_opened tells
        (λ my number has. absurd (none_here my number has)) reported

    crossed_opens : ends.firsts tag ≡ first → ends.gets tag ≡ new_end options (ends.firsts tag) → AreEnds ends.calls (seen ++ o.events) options (sending_side e queued past packets) (receiving_side o.after (after_effects o.effects their_past) (record { reads = reading.reads; last = tags_of (identity_of opens.begun.my opens.begun.held); resets = resets_after d input o reading }))
    crossed_opens here fresh =
        let end : ends.gets tag ≡ new_end options first = fresh ∙ ap (new_end options) here in
        let start : DirectionRun options first options.max_receiver_window_buffer_size (direction_of_ends (ends.sends tag) (new_end options first)) =
        subst (λ (n : ℕ). DirectionRun options n options.max_receiver_window_buffer_size (direction_of_ends (ends.sends tag) (new_end options first))) here
        (subst (λ (g : ReceivingEnd). DirectionRun options (ends.firsts tag) options.max_receiver_window_buffer_size (direction_of_ends (ends.sends tag) g)) end (h.runs tag)) in
        record {
          ends = record ends { sends = ends.sends; gets = table_with tag got ends.gets; firsts = ends.firsts };
          is = refl;
          between = record {
            runs = set_all (λ t g. DirectionRun options (ends.firsts t) options.max_receiver_window_buffer_size (direction_of_ends (ends.sends t) g)) tag got ends.gets
                (subst (λ (n : ℕ). DirectionRun options n options.max_receiver_window_buffer_size (direction_of_ends (ends.sends tag) got)) (sym here) (opened start)) (λ t ne. h.runs t);
            small = h.small;
            sender = sender_same ends (table_with tag got ends.gets) (sender_key e.core) (peer_tag e.core) e.queues queued past packets h.sender;
            asks = h.asks;
            numbered = h.numbered;
            kept = h.kept;
            made = h.made;
            unmade = h.unmade;
            dropping = h.dropping;
            rules = h.rules;
            unbegun = h.unbegun;
            receiver = later_receiver ends.firsts here (λ t ne. refl) fresh;
            mine = h.mine;
            idle = h.idle;
            alone = later_alone ends.firsts here (λ t ne. refl);
          };
          answered = opens_answered ends e past d their_past w input o may turn opens is (table_with tag got ends.gets) ends.firsts here (λ t ne. refl) (inl here);
          reported = seen_opened ends.firsts;
        }

    awaited_opens : Awaits (ends.sends tag) → tag ≢ sender_key e.core → ends.gets tag ≡ new_end options (ends.firsts tag) → AreEnds ends.calls (seen ++ o.events) options (sending_side e queued past packets) (receiving_side o.after (after_effects o.effects their_past) (record { reads = reading.reads; last = tags_of (identity_of opens.begun.my opens.begun.held); resets = resets_after d input o reading }))
    awaited_opens waits apart fresh =
        let queues = direction_queues options (ends.firsts tag) options.max_receiver_window_buffer_size (direction_of_ends (ends.sends tag) (ends.gets tag)) (h.runs tag) (h.small tag)
        (let short = h.sender.short tag in omega (arith, few, short)) in
        let start : DirectionRun options first options.max_receiver_window_buffer_size (direction_of_ends (ends.sends tag) (new_end options first)) =
        steps.begins (direction_of_ends (ends.sends tag) (new_end options first))
        (record {
          fit = queues.1;
          queues = queues.0;
          flight = subst (steps.NoneInFlight first (ends.sends tag).queues.queue) (sym waits.transfer) tt;
          acknowledged = waits.acknowledged;
          sent = waits.sent;
          first_is = refl;
          tracker = refl;
          reassembly = refl;
          read = refl;
          performed = refl;
          asking = waits.asking;
          prepared = waits.prepared;
          begun = waits.begun;
        }) in
        record {
          ends = record ends { sends = ends.sends; gets = table_with tag got ends.gets; firsts = table_with tag first ends.firsts };
          is = refl;
          between = record {
            runs = set_three (λ t f s g. DirectionRun options f options.max_receiver_window_buffer_size (direction_of_ends (ends.sends t) g)) tag first (ends.sends tag) got ends.firsts ends.sends ends.gets (opened start) (λ t ne. h.runs t);
            small = set_all (λ t f. f < 2 ^ 32) tag first ends.firsts is.small (λ t ne. h.small t);
            sender = sender_first ends (table_with tag got ends.gets) tag first (sender_key e.core) (peer_tag e.core) e.queues queued past packets h.sender apart waits;
            asks = subst (λ (n : ℕ). AsksFit n (own_of e) (ends.sends (sender_key e.core)).asking) (sym (set_other tag (sender_key e.core) first ends.firsts (λ is'. apart (sym is')))) h.asks;
            numbered = h.numbered;
            kept = h.kept;
            made = h.made;
            unmade = h.unmade;
            dropping = h.dropping;
            rules = h.rules;
            unbegun = h.unbegun;
            receiver = later_receiver (table_with tag first ends.firsts) (set_same tag first ends.firsts) (λ t ne. set_other tag t first ends.firsts ne) fresh;
            mine = h.mine;
            idle = h.idle;
            alone = later_alone (table_with tag first ends.firsts) (set_same tag first ends.firsts) (λ t ne. set_other tag t first ends.firsts ne);
          };
          answered = opens_answered ends e past d their_past w input o may turn opens is (table_with tag got ends.gets) (table_with tag first ends.firsts) (set_same tag first ends.firsts) (λ t ne. set_other tag t first ends.firsts ne)
              (inr (waits.asking, apart));
          reported = seen_opened (table_with tag first ends.firsts);
        }

    opens_last : AreEnds ends.calls (seen ++ o.events) options (sending_side e queued past packets) (receiving_side o.after (after_effects o.effects their_past) (record { reads = reading.reads; last = tags_of (identity_of opens.begun.my opens.begun.held); resets = resets_after d input o reading }))
    opens_last =
        elim (h.receiver.begun tag) [
          | inl fresh ↦ go fresh (known ends (sender_key e.core) (peer_tag e.core) e.queues queued past their_past packets (identity_of opens.begun.my opens.begun.held) h.sender is)
          | inr had ↦ absurd (is.other had.link had.held had.tag_is)
        ]
      where
        go : ends.gets tag ≡ new_end options (ends.firsts tag) → Known ends (sender_key e.core) (identity_of opens.begun.my opens.begun.held) → AreEnds ends.calls (seen ++ o.events) options (sending_side e queued past packets) (receiving_side o.after (after_effects o.effects their_past) (record { reads = reading.reads; last = tags_of (identity_of opens.begun.my opens.begun.held); resets = resets_after d input o reading }))
        go fresh (is_crossed here) = crossed_opens here fresh
        go fresh (is_awaited waits apart) = awaited_opens waits apart fresh

    pub opens_goes : AreEnds ends.calls (seen ++ o.events) options (sending_side e queued past packets) (receiving_side o.after (after_effects o.effects their_past) (record { reads = reading.reads; last = tags_or reading.last (identity_of_core o.after.core); resets = resets_after d input o reading }))
    opens_goes =
        subst (λ (n : Tags). AreEnds ends.calls (seen ++ o.events) options (sending_side e queued past packets) (receiving_side o.after (after_effects o.effects their_past) (record { reads = reading.reads; last = n; resets = resets_after d input o reading }))) (sym (ap (tags_or reading.last) opens.linked)) opens_last
